-- Classes that are brought into a table one after the other, and all that is reached from a class.
use Rattle.std.proofs.Common.{◌≡◌, ℕ, ◌+◌, ◌<◌, ◌≤◌, ◌⊎◌, inl, inr, Bool, List, [], ◌∷◌, ◌++◌, length, refl, sym, ◌∙◌, ap, arith, append-nil, append_assoc, Some, Result, Ok, Err, get_or}
use Rattle.std.specs.Prelude.{Contains, MatchBool, IfOk, OnErr}
use Rattle.std.proofs.lemmas.Bool.{cases_lt}
use Rattle.std.proofs.lemmas.List.{get_or_default}
use Rattle.std.proofs.lemmas.List.Elements.{Contains-get_or, Contains-append_left, Contains-push, Contains-append_cases}
use Rattle.list_lemmas.proofs.ItemsOfLists.{Contains-none, Contains-at}
use Rattle.jk_model.specs.declared.identifiers.ClassId.{ClassId}
use Rattle.jk_model_classes.specs.declared.records.ClassRecord.{ClassRecord}
use Rattle.jk_model_classes.specs.Classes.{record_of}
use Rattle.jk_model_classes.specs.Worlds.{NamedClass, Gives, IsNamed}
use Rattle.class_lemmas.proofs.NamesOfTables.{means_named}
use Rattle.domain_resolver.specs.Imports.{IsOwnName, IsNew, Brings, Clashes}

-- ---- What is in a list.

pub only_one : {X : Type 0} (y x : X) → Contains (y ∷ []) x → x ≡ y
only_one y x (k, low, at) = let first : k ≡ 0 = omega (arith, low) in let same : get_or (y ∷ []) 0 x ≡ x = rw first at at in sym same

-- ---- Names that stay.

pub named_more : (a b more : List NamedClass) (c : ClassId) → b ≡ a ++ more → IsNamed a c → IsNamed b c
named_more a b more c is (name, has) = (name, rw is (Contains-append_left a more (record { name = name; class = c }) has))

-- ---- One class, and then others.

pub brings_nothing : (classes : List ClassRecord) (cs : List ClassId) (old new : List NamedClass) → new ≡ old → Brings classes cs old new
brings_nothing classes cs old new e = record { more = []; is = e ∙ sym (append-nil old); own = λ x has. absurd (Contains-none x has) }

pub brings_one : (classes : List ClassRecord) (c : ClassId) (of : ClassRecord) (old new : List NamedClass) (given : Bool) → record_of classes c ≡ Some of
    → (IsNamed old c → ⊥) → Gives old of.name c given new → Brings classes (c ∷ []) old new
brings_one classes c of old new given there free (inl (none, told, is)) = record {
  more = record { name = of.name; class = c } ∷ [];
  is = is;
  own =
      λ x has. (
      let same = only_one (record { name = of.name; class = c }) x has in
      rw same (record { listed = Contains-at (c ∷ []) 0 c refl; free = free }, record { of = of; there = there; named = refl }));
}
brings_one classes c of old new given there free (inr (inl (means, told, is))) = brings_nothing classes (c ∷ []) old new is
brings_one classes c of old new given there free (inr (inr (other, means, differs, told, is))) = brings_nothing classes (c ∷ []) old new is

pub one_done : (classes : List ClassRecord) (c : ClassId) (of : ClassRecord) (old new : List NamedClass) (given : Bool) → record_of classes c ≡ Some of
    → (IsNamed old c → ⊥) → Gives old of.name c given new → MatchBool given (IsNamed new c) (Clashes classes (c ∷ []) old new)
one_done classes c of old new given there free (inl (none, told, is)) =
    rw told (of.name, rw is (Contains-push old (record { name = of.name; class = c })))
one_done classes c of old new given there free (inr (inl (means, told, is))) = absurd (free (means_named old of.name c means))
one_done classes c of old new given there free (inr (inr (other, means, differs, told, is))) =
    rw told (record {
      class = c;
      fresh = record { listed = Contains-at (c ∷ []) 0 c refl; free = free };
      taken = record { of = of; there = there; other = other; means = rw is means; differs = differs };
    })

-- what the answer of the table says
pub brings_by : {E : Type 0} (classes : List ClassRecord) (c : ClassId) (of : ClassRecord) (old new : List NamedClass) (r : Result Bool E)
    → record_of classes c ≡ Some of → (IsNamed old c → ⊥) → IfOk r (λ given. Gives old of.name c given new) → OnErr r (new ≡ old)
    → Brings classes (c ∷ []) old new
brings_by classes c of old new (Ok given) there free gives same = brings_one classes c of old new given there free gives
brings_by classes c of old new (Err e) there free gives same = brings_nothing classes (c ∷ []) old new same

pub done_by : {E : Type 0} (classes : List ClassRecord) (c : ClassId) (of : ClassRecord) (old new : List NamedClass) (r : Result Bool E)
    → record_of classes c ≡ Some of → (IsNamed old c → ⊥) → IfOk r (λ given. Gives old of.name c given new)
    → IfOk r (λ done. MatchBool done (IsNamed new c) (Clashes classes (c ∷ []) old new))
done_by classes c of old new (Ok given) there free gives = one_done classes c of old new given there free gives
done_by classes c of old new (Err e) there free gives = tt

pub brings_then : (classes : List ClassRecord) (cs ds : List ClassId) (a b c : List NamedClass) → Brings classes cs a b → Brings classes ds b c
    → ((x : ClassId) → Contains ds x → Contains cs x) → Brings classes cs a c
brings_then classes cs ds a b c h k within = record {
  more = h.more ++ k.more;
  is = k.is ∙ ap (λ xs. xs ++ k.more) h.is ∙ append_assoc a h.more k.more;
  own = λ e has. by_place e (Contains-append_cases h.more k.more e has);
}
  where
    by_place : (e : NamedClass) → Contains h.more e ⊎ Contains k.more e → IsNew cs a e.class × IsOwnName classes e
    by_place e (inl has) = h.own e has
    by_place e (inr has) =
        let o = k.own e has in
        (record { listed = within e.class o.0.listed; free = λ n. o.0.free (named_more a b h.more e.class h.is n) }, o.1)

pub clash_after : (classes : List ClassRecord) (cs ds : List ClassId) (a b c : List NamedClass) → Brings classes cs a b → Clashes classes ds b c
    → ((x : ClassId) → Contains ds x → Contains cs x) → Clashes classes cs a c
clash_after classes cs ds a b c h k within = record {
  class = k.class;
  fresh = record { listed = within k.class k.fresh.listed; free = λ n. k.fresh.free (named_more a b h.more k.class h.is n) };
  taken = k.taken;
}

-- the classes up to a place of a list are named
abbrev pub AreNamedTo : List NamedClass → List ClassId → ℕ → Type 0
AreNamedTo t cs n = (k : ℕ) (d : ClassId) → k < n → k < length cs → IsNamed t (get_or cs k d)

-- an item of a list alone is in the list
pub in_list : (cs : List ClassId) (i : ℕ) (d : ClassId) → i < length cs → (x : ClassId) → Contains (get_or cs i d ∷ []) x → Contains cs x
in_list cs i d low x has = rw (only_one (get_or cs i d) x has) (Contains-get_or cs i d low)

pub named_further : (classes : List ClassRecord) (cs ds : List ClassId) (a b : List NamedClass) (n : ℕ) (e : ClassId) → Brings classes ds a b
    → n < length cs → AreNamedTo a cs n → IsNamed b (get_or cs n e) → AreNamedTo b cs (n + 1)
named_further classes cs ds a b n e h inside old new k d low within = by_order (cases_lt k n)
  where
    by_order : (k < n) ⊎ (n ≤ k) → IsNamed b (get_or cs k d)
    by_order (inl l) = named_more a b h.more (get_or cs k d) h.is (old k d l within)
    by_order (inr l) =
        let here : k ≡ n = omega (arith, low, l) in
        let same : get_or cs k d ≡ get_or cs n e = ap (λ i. get_or cs i d) here ∙ get_or_default cs n d e inside in
        rw same new

pub all_named : (t : List NamedClass) (cs : List ClassId) (n : ℕ) → length cs ≤ n → AreNamedTo t cs n → (c : ClassId) → Contains cs c → IsNamed t c
all_named t cs n end h c (k, low, at) = rw at at (h k c (omega (arith, low, end)) low)
