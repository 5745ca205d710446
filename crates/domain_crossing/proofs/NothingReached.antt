-- What values that name no object reach: nothing. So they may pass, at no cost, and their copies are they themselves.
use Rattle.std.proofs.Common.{◌≡◌, ℕ, List, [], ◌∷◌, append-nil, refl, sym, arith}
use Rattle.std.specs.List.{IsDistinct}
use Rattle.jk_model.specs.declared.identifiers.DomainId.{DomainId}
use Rattle.jk_model.specs.declared.values.Value.{Value}
use Rattle.jk_model.specs.declared.values.Value.TheVariants as Held
use Rattle.jk_model_classes.specs.declared.records.ClassRecord.{ClassRecord}
use Rattle.jk_model_classes.specs.Worlds.{WorldRecord}
use Rattle.jk_model_graphs.specs.Copies.{Corresponds, EachCorresponds}
use Rattle.jk_model_graphs.specs.Reach.{Graph, Reach, ReachCosts, from_object, from_value}
use Rattle.list_lemmas.proofs.ItemsByPlace.{slice_get-nil}
use Rattle.list_lemmas.proofs.ItemsOfLists.{Contains-none, each-of}
use Rattle.object_store.specs.HeapContents.{HeapContent}
use Rattle.graph_copy.specs.declared.answers.CopyAnswer.TheVariants as Answered
use Rattle.graph_copy.specs.CopyAnswers.{Copies, CopyAnswers, graph_in}
use Rattle.domain_crossing.specs.NoObjects.{IsNoObject, NameNoObject}

none_reached : (classes : List ClassRecord) (g : Graph) → NameNoObject g.values → (a : ℕ) → Reach classes g a → ⊥
none_reached classes g none a (from_value b there) = each-of IsNoObject g.values (Held.Obj b) none there
none_reached classes g none a (from_object b c reached leads) = none_reached classes g none b reached

nothing_costs : (classes : List ClassRecord) (g : Graph) → NameNoObject g.values → ReachCosts classes g 0
unfolding IsDistinct
nothing_costs classes g none = (
  [],
  record {
    distinct = tt;
    each = λ a there. absurd (Contains-none a there);
    all = λ a reached. absurd (none_reached classes g none a reached);
  },
  refl,
)

corresponds : (v : Value) → IsNoObject v → Corresponds [] v v
corresponds (Held.Obj a) none = absurd none
corresponds (Held.Int n) none = refl
corresponds (Held.Long n) none = refl
corresponds Held.Null none = refl
corresponds (Held.Cap k) none = refl
corresponds Held.Unset none = refl

each_corresponds : (values : List Value) → NameNoObject values → EachCorresponds [] values values
each_corresponds [] none = tt
each_corresponds (v ∷ values) none = (corresponds v none.0, each_corresponds values none.1)

module _ (c : HeapContent) (w : WorldRecord) (from to : DomainId) (values : List Value) (none : NameNoObject values) where
  pub nothing_refused : CopyAnswers c w from to values Answered.Copied
  nothing_refused = (
    λ a object reached is. absurd (none_reached w.classes (graph_in c from values) none a reached),
    (0, nothing_costs w.classes (graph_in c from values) none, omega arith),
  )

  pub nothing_copied : Copies c c w.classes from to values values
  nothing_copied = record {
    pairs = [];
    is_copy = record {
      made = [];
      grown = sym (append-nil (c.heap to));
      fresh = λ e there. absurd (Contains-none e there);
      differ = λ i j a b at there same. absurd (slice_get-nil i a at);
      one_to_one = record {
        one_copy = λ a b d there other. absurd (Contains-none (a, b) there);
        one_source = λ a b d there other. absurd (Contains-none (a, d) there);
      };
      each_reached = λ a b there. absurd (Contains-none (a, b) there);
      all_reached = λ a reached. absurd (none_reached w.classes (graph_in c from values) none a reached);
      each_made = λ a b there. absurd (Contains-none (a, b) there);
      all_made = λ e there. absurd (Contains-none e there);
      values = each_corresponds values none;
    };
    words = 0;
    costs = nothing_costs w.classes (graph_in c from values) none;
    becomes = record {
      domains = record { pages = refl; took_all = refl; quota = λ d. refl; first_page = λ d. refl };
      becomes = refl;
      others = λ e differ. refl;
      uses = omega arith;
      other_uses = λ e differ. refl;
      mark = λ e a. refl;
    };
  }

-- a value that isn't a name names no object
pub no_object : (v : Value) → ((a : ℕ) → v ≡ Held.Obj a → ⊥) → IsNoObject v
no_object (Held.Obj a) not = absurd (not a refl)
no_object (Held.Int n) not = tt
no_object (Held.Long n) not = tt
no_object Held.Null not = tt
no_object (Held.Cap k) not = tt
no_object Held.Unset not = tt
