-- Of the rules that refuse a call through a capability one applies at most, and none where the call enters.
use Rattle.std.proofs.Common.{◌≡◌, ◌+◌, List, Some, None, refl, inl, inr, sym, ap, subst, ◌∙◌, arith}
use Rattle.std.proofs.lemmas.Option.{none-some, same_Some}
use Rattle.jk_model.specs.declared.identifiers.ClassId.{ClassId}
use Rattle.jk_model.specs.declared.identifiers.MemberId.{MemberId}
use Rattle.jk_model.specs.declared.identifiers.ThreadNo.{ThreadNo}
use Rattle.jk_model.specs.declared.steps.Raise.{Raise}
use Rattle.jk_model.specs.declared.steps.Raise.TheVariants as Raised
use Rattle.jk_model.specs.declared.steps.Standing.TheVariants as Stands
use Rattle.jk_model_classes.specs.declared.records.Body.{Body}
use Rattle.jk_model_classes.specs.declared.records.Body.TheVariants as Does
use Rattle.jk_model_classes.specs.declared.records.ClassRecord.{ClassRecord}
use Rattle.jk_model_classes.specs.declared.records.LinkedCode.{LinkedCode}
use Rattle.jk_model_classes.specs.declared.records.MethodRecord.{MethodRecord}
use Rattle.jk_model_classes.specs.Classes.{superclasses}
use Rattle.jk_model_classes.specs.Lookups.{MethodIs, RunsFor, Selects}
use Rattle.jk_model_frames.specs.Frames.{head_chunks}
use Rattle.jk_model_graphs.specs.Copiable.{AllCopiable}
use Rattle.jk_model_graphs.proofs.OneCost.{one_cost}
use Rattle.jk_model_heaps.specs.CalledFrames.{call_head}
use Rattle.jk_model_heaps.specs.SystemClasses.{ABSTRACT_METHOD_ERROR, ILLEGAL_ACCESS_ERROR, INCOMPATIBLE_CLASS_CHANGE_ERROR}
use Rattle.jk_model_heaps.specs.Workings.{Inside}
use Rattle.jk_model_machine_state.specs.Machines.{DomainState, Machine, free_chunks}
use Rattle.jk_model_machine_state.specs.Places.{LiveDomain}
use Rattle.jk_model_crossings.specs.Passages.{IsTooLarge, IsUncopiable, MayPass, Passage}
use Rattle.jk_model_crossings.specs.RemoteCalls.{Enters, HasTarget, IsLive, IsOpen, IsShown, Refuses, RemoteCall, arguments, chunks_needed, few_chunks, few_words, is_dead, no_target, not_copiable, not_public, not_shown}
use Rattle.class_lemmas.proofs.OneMember.{one_on}
use Rattle.class_lemmas.proofs.OneRecord.{one_method}

-- ---- Passages.

uncopiable_or_copiable : (p : Passage) → IsUncopiable p → AllCopiable p.classes p.from p.to p.source → ⊥
uncopiable_or_copiable p (a, met) all = met.1.2 (all a met.1.0 met.0 met.1.1)

too_large_or_not : (p : Passage) → IsTooLarge p → MayPass p → ⊥
too_large_or_not p large may =
    omega (arith, one_cost p.classes p.source large.1.0 may.1.0 large.1.1 may.1.1, large.1.2, may.1.2)

-- ---- Which method is run.

one_selected : (classes : List ClassRecord) (c : ClassId) (m a b : MemberId) → Selects classes c m (Some a) → Selects classes c m (Some b) → a ≡ b
one_selected classes c m a b (None, found, is) second = absurd (none-some a (sym is))
one_selected classes c m a b (Some x, found, inl abstract) second = absurd (none-some a (sym abstract.1))
one_selected classes c m a b (Some x, found, inr first) (None, also, is) = absurd (none-some b (sym is))
one_selected classes c m a b (Some x, found, inr first) (Some y, also, inl abstract) = absurd (none-some b (sym abstract.1))
one_selected classes c m a b (Some x, found, inr first) (Some y, also, inr second) =
    same_Some a x first.1 ∙ one_on (RunsFor classes m) (superclasses classes c) x y found also ∙ sym (same_Some b y second.1)

one_linked : (x y : Body) (a b : LinkedCode) → x ≡ y → x ≡ Does.Linked a → y ≡ Does.Linked b → a ≡ b
one_linked x y a b e is also = let linked : Does.Linked a ≡ Does.Linked b = sym is ∙ e ∙ also in cc

-- ---- Of one call.

module _ (m : Machine) (t : ThreadNo) (c : RemoteCall m t) where
  one_owner : (a b : LiveDomain m c.known.owner) → a.domain ≡ b.domain
  one_owner a b = same_Some a.domain b.domain (sym a.is_domain ∙ b.is_domain)

  one_inside : (a b : LiveDomain m c.known.owner) → a.inside ≡ b.inside
  one_inside a b = same_Some a.inside b.inside (sym a.is_inside ∙ ap (λ (d : DomainState). d.inside) (one_owner a b) ∙ b.is_inside)

  abbrev passage_to : DomainState → Inside → Passage
  passage_to d inside = record {
    classes = m.classes;
    from = c.place.home.domain.table;
    to = d.table;
    source = record { heap = c.place.home.inside.heap; values = c.given };
    target = inside.heap;
    quota = d.quotas.heap;
  }

  one_passage : (a b : IsLive c) → arguments a ≡ arguments b
  one_passage a b =
      ap (λ (d : DomainState). passage_to d a.owner.inside) (one_owner a.owner b.owner)
      ∙ ap (λ (inside : Inside). passage_to b.owner.domain inside) (one_inside a.owner b.owner)

  one_target : (a b : HasTarget c) → a.target ≡ b.target
  one_target a b = one_selected m.classes c.known.capability.class c.method a.target b.target a.selected b.selected

  one_code : (a b : HasTarget c) → a.code ≡ b.code
  one_code a b =
      let also : MethodIs m.classes a.target b.target_method =
      subst (λ (x : MemberId). MethodIs m.classes x b.target_method) (sym (one_target a b)) b.is_target in
      let same : a.target_method ≡ b.target_method = one_method m.classes a.target a.target_method b.target_method a.is_target also in
      one_linked a.target_method.body b.target_method.body a.code b.code (ap (λ (x : MethodRecord). x.body) same) a.body b.body

  one_need : (a b : HasTarget c) → chunks_needed a ≡ chunks_needed b
  one_need a b =
      ap (λ (x : MemberId). 1 + head_chunks (call_head x a.code)) (one_target a b)
      ∙ ap (λ (code : LinkedCode). 1 + head_chunks (call_head b.target code)) (one_code a b)

  one_free : (a b : LiveDomain m c.known.owner) → free_chunks m a.domain ≡ free_chunks m b.domain
  one_free a b = ap (free_chunks m) (one_owner a b)

  abbrev live_of : IsOpen c → IsLive c
  live_of o = o.has_target.is_shown.live

  not_both : (a b : IsOpen c) → IsUncopiable (arguments (live_of a))
      → AllCopiable (arguments (live_of b)).classes (arguments (live_of b)).from (arguments (live_of b)).to (arguments (live_of b)).source → ⊥
  not_both a b met all = uncopiable_or_copiable (arguments (live_of a)) met
      (subst (λ (p : Passage). AllCopiable p.classes p.from p.to p.source) (one_passage (live_of b) (live_of a)) all)

  -- ---- Each rule against the others.

  where_dead : (IsLive c → ⊥) → (s : Raise) → Refuses c s → Raised.Standing Stands.Revoked ≡ s
  where_dead isnt s (is_dead never) = refl
  where_dead isnt s (not_shown live never) = absurd (isnt live)
  where_dead isnt s (no_target shown never) = absurd (isnt shown.live)
  where_dead isnt s (not_public has never) = absurd (isnt has.is_shown.live)
  where_dead isnt s (not_copiable o met) = absurd (isnt (live_of o))
  where_dead isnt s (few_words o large) = absurd (isnt (live_of o))
  where_dead isnt s (few_chunks o may few) = absurd (isnt (live_of o))

  where_not_shown : IsLive c → (IsShown c → ⊥) → (s : Raise) → Refuses c s → Raised.Fresh INCOMPATIBLE_CLASS_CHANGE_ERROR ≡ s
  where_not_shown live isnt s (is_dead never) = absurd (never live)
  where_not_shown live isnt s (not_shown also never) = refl
  where_not_shown live isnt s (no_target shown never) = absurd (isnt shown)
  where_not_shown live isnt s (not_public has never) = absurd (isnt has.is_shown)
  where_not_shown live isnt s (not_copiable o met) = absurd (isnt o.has_target.is_shown)
  where_not_shown live isnt s (few_words o large) = absurd (isnt o.has_target.is_shown)
  where_not_shown live isnt s (few_chunks o may few) = absurd (isnt o.has_target.is_shown)

  where_no_target : IsShown c → (HasTarget c → ⊥) → (s : Raise) → Refuses c s → Raised.Fresh ABSTRACT_METHOD_ERROR ≡ s
  where_no_target shown isnt s (is_dead never) = absurd (never shown.live)
  where_no_target shown isnt s (not_shown live never) = absurd (never shown)
  where_no_target shown isnt s (no_target also never) = refl
  where_no_target shown isnt s (not_public has never) = absurd (isnt has)
  where_no_target shown isnt s (not_copiable o met) = absurd (isnt o.has_target)
  where_no_target shown isnt s (few_words o large) = absurd (isnt o.has_target)
  where_no_target shown isnt s (few_chunks o may few) = absurd (isnt o.has_target)

  where_not_public : HasTarget c → (IsOpen c → ⊥) → (s : Raise) → Refuses c s → Raised.Fresh ILLEGAL_ACCESS_ERROR ≡ s
  where_not_public has isnt s (is_dead never) = absurd (never has.is_shown.live)
  where_not_public has isnt s (not_shown live never) = absurd (never has.is_shown)
  where_not_public has isnt s (no_target shown never) = absurd (never has)
  where_not_public has isnt s (not_public also never) = refl
  where_not_public has isnt s (not_copiable o met) = absurd (isnt o)
  where_not_public has isnt s (few_words o large) = absurd (isnt o)
  where_not_public has isnt s (few_chunks o may few) = absurd (isnt o)

  where_not_copiable : (o : IsOpen c) → IsUncopiable (arguments (live_of o)) → (s : Raise) → Refuses c s → Raised.Standing Stands.NotCopiable ≡ s
  where_not_copiable o met s (is_dead never) = absurd (never (live_of o))
  where_not_copiable o met s (not_shown live never) = absurd (never o.has_target.is_shown)
  where_not_copiable o met s (no_target shown never) = absurd (never o.has_target)
  where_not_copiable o met s (not_public has never) = absurd (never o)
  where_not_copiable o met s (not_copiable also too) = refl
  where_not_copiable o met s (few_words also large) = absurd (not_both o also met large.0)
  where_not_copiable o met s (few_chunks also may few) = absurd (not_both o also met may.0)

  -- what both of the last rules raise
  where_all_copiable : (o : IsOpen c)
      → AllCopiable (arguments (live_of o)).classes (arguments (live_of o)).from (arguments (live_of o)).to (arguments (live_of o)).source
      → (s : Raise) → Refuses c s → Raised.Standing Stands.Quota ≡ s
  where_all_copiable o all s (is_dead never) = absurd (never (live_of o))
  where_all_copiable o all s (not_shown live never) = absurd (never o.has_target.is_shown)
  where_all_copiable o all s (no_target shown never) = absurd (never o.has_target)
  where_all_copiable o all s (not_public has never) = absurd (never o)
  where_all_copiable o all s (not_copiable also met) = absurd (not_both also o met all)
  where_all_copiable o all s (few_words also large) = refl
  where_all_copiable o all s (few_chunks also may few) = refl

  pub refused_once : (r s : Raise) → Refuses c r → Refuses c s → r ≡ s
  refused_once r s (is_dead isnt) other = where_dead isnt s other
  refused_once r s (not_shown live isnt) other = where_not_shown live isnt s other
  refused_once r s (no_target shown isnt) other = where_no_target shown isnt s other
  refused_once r s (not_public has isnt) other = where_not_public has isnt s other
  refused_once r s (not_copiable o met) other = where_not_copiable o met s other
  refused_once r s (few_words o large) other = where_all_copiable o large.0 s other
  refused_once r s (few_chunks o may few) other = where_all_copiable o may.0 s other

  pub refused_not_entered : (r : Raise) (new : Machine) → Refuses c r → Enters c new → ⊥
  refused_not_entered r new (is_dead isnt) enters = isnt (live_of enters.is_open)
  refused_not_entered r new (not_shown live isnt) enters = isnt enters.is_open.has_target.is_shown
  refused_not_entered r new (no_target shown isnt) enters = isnt enters.is_open.has_target
  refused_not_entered r new (not_public has isnt) enters = isnt enters.is_open
  refused_not_entered r new (not_copiable o met) enters = not_both o enters.is_open met enters.passes.may.0
  refused_not_entered r new (few_words o large) enters =
      too_large_or_not (arguments (live_of o)) large
      (subst (λ (p : Passage). MayPass p) (one_passage (live_of enters.is_open) (live_of o)) enters.passes.may)
  refused_not_entered r new (few_chunks o may few) enters =
      omega (
        arith,
        few,
        enters.chunks,
        one_need o.has_target enters.is_open.has_target,
        one_free (live_of o).owner (live_of enters.is_open).owner,
      )
