-- The classes that are kept of a walk: those of the walk that are so, each where it stood.
use Rattle.std.proofs.Common.{◌≡◌, ℕ, ◌+◌, ◌<◌, List, [], ◌∷◌, ◌++◌, length, get_or, take, Contains, refl, sym, ap, subst, inl, inr, false}
use Rattle.std.specs.List.{AllByRecursion}
use Rattle.std.proofs.lemmas.List.{take_more}
use Rattle.list_lemmas.proofs.ItemsOfLists.{Contains-here, Contains-there, Contains-cases, Contains-none}
use Rattle.jk_model.specs.declared.identifiers.ClassId.{ClassId}
use Rattle.jk_model_classes.specs.Classes.{OBJECT}
use Rattle.stub_maker.specs.Kept.{IsKept}
use Rattle.stub_maker.proofs.EachOnce.{IsOnceEach, has_same_number}

module _ (P : ClassId → Type 0) where
  kept_push : (walk kept : List ClassId) (c : ClassId) → IsKept P walk kept → P c → IsKept P (walk ++ c ∷ []) (kept ++ c ∷ [])
  kept_push [] kept c e h = inl (h, ([], ap (λ front. front ++ c ∷ []) e, refl))
  kept_push (d ∷ walk) kept c (inl (so, (others, e, more))) h =
      inl (so, (others ++ c ∷ [], ap (λ front. front ++ c ∷ []) e, kept_push walk others c more h))
  kept_push (d ∷ walk) kept c (inr (not_so, more)) h = inr (not_so, kept_push walk kept c more h)

  kept_skip : (walk kept : List ClassId) (c : ClassId) → IsKept P walk kept → (P c → ⊥) → IsKept P (walk ++ c ∷ []) kept
  kept_skip [] kept c e never = inr (never, e)
  kept_skip (d ∷ walk) kept c (inl (so, (others, e, more))) never = inl (so, (others, e, kept_skip walk others c more never))
  kept_skip (d ∷ walk) kept c (inr (not_so, more)) never = inr (not_so, kept_skip walk kept c more never)

  -- ---- One class further on the walk.

  pub kept-more : (walk kept : List ClassId) (k : ℕ) → k < length walk → IsKept P (take k walk) kept → P (get_or walk k OBJECT)
      → IsKept P (take (k + 1) walk) (kept ++ get_or walk k OBJECT ∷ [])
  kept-more walk kept k within h so = rw (take_more walk k OBJECT within) (kept_push (take k walk) kept (get_or walk k OBJECT) h so)

  pub kept-past : (walk kept : List ClassId) (k : ℕ) → k < length walk → IsKept P (take k walk) kept → (P (get_or walk k OBJECT) → ⊥)
      → IsKept P (take (k + 1) walk) kept
  kept-past walk kept k within h never = rw (take_more walk k OBJECT within) (kept_skip (take k walk) kept (get_or walk k OBJECT) h never)

  -- ---- What is kept.

  pub kept-from : (walk kept : List ClassId) (c : ClassId) → IsKept P walk kept → Contains kept c → P c × Contains walk c
  kept-from [] kept c e there = absurd (Contains-none c (rw e at there))
  kept-from (d ∷ walk) kept c (inl (so, (others, e, more))) there = elim (Contains-cases c d others (rw e at there)) [
    | inl same ↦ (subst P same so, rw same (Contains-here c walk))
    | inr later ↦ let rest = kept-from walk others c more later in (rest.0, Contains-there c d walk rest.1)
  ]
  kept-from (d ∷ walk) kept c (inr (not_so, more)) there =
      let rest = kept-from walk kept c more there in
      (rest.0, Contains-there c d walk rest.1)

  pub kept-all : (walk kept : List ClassId) (c : ClassId) → IsKept P walk kept → P c → Contains walk c → Contains kept c
  kept-all [] kept c e so there = absurd (Contains-none c there)
  kept-all (d ∷ walk) kept c (inl (here, (others, e, more))) so there = elim (Contains-cases c d walk there) [
    | inl same ↦ rw (e, same) (Contains-here c others)
    | inr later ↦ rw e (Contains-there c d others (kept-all walk others c more so later))
  ]
  kept-all (d ∷ walk) kept c (inr (not_so, more)) so there = elim (Contains-cases c d walk there) [
    | inl same ↦ absurd (not_so (subst P (sym same) so))
    | inr later ↦ kept-all walk kept c more so later
  ]

  kept_each : (Q : ClassId → Type 0) (walk kept : List ClassId) → IsKept P walk kept → AllByRecursion Q walk → AllByRecursion Q kept
  kept_each Q [] kept e all = rw e tt
  kept_each Q (d ∷ walk) kept (inl (so, (others, e, more))) all = rw e (all.0, kept_each Q walk others more all.1)
  kept_each Q (d ∷ walk) kept (inr (not_so, more)) all = kept_each Q walk kept more all.1

  pub kept-once : (walk kept : List ClassId) → IsKept P walk kept → IsOnceEach walk → IsOnceEach kept
  kept-once [] kept e once = rw e tt
  kept-once (d ∷ walk) kept (inl (so, (others, e, more))) once =
      rw e (kept_each (λ x. has_same_number d x ≡ false) walk others more once.0, kept-once walk others more once.1)
  kept-once (d ∷ walk) kept (inr (not_so, more)) once = kept-once walk kept more once.1
