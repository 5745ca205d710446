-- Locals that fit others outside of a range: such ranges widen, one follows from two, and joins change nothing outside of theirs.
use Rattle.std.proofs.Common.{◌≡◌, ℕ, ◌+◌, ap, inl, inr, List, length, set, Some, slice_get, get_or, sym, subst, ◌∙◌, arith}
use Rattle.std.proofs.lemmas.Bool.{cases_eq}
use Rattle.std.proofs.lemmas.Option.{same_Some, slice_get_within, slice_get-get_or}
use Rattle.std.proofs.lemmas.List.{length-set}
use Rattle.jk_model_classes.specs.declared.records.ClassRecord.{ClassRecord}
use Rattle.jk_model_classes.specs.Classes.{AreOrdered}
use Rattle.jk_model_typing.specs.declared.frames.VType.{VType}
use Rattle.jk_model_typing.specs.declared.frames.FrameType.{FrameType}
use Rattle.jk_model_typing.specs.FrameTypes.{Fits, EachFits, FrameFits}
use Rattle.type_frames.specs.FrameJoins.{FitOutside, IsFrameJoin}
use Rattle.type_frames.proofs.OrderOfTypes.{Fits-refl, Fits-trans}
use Rattle.type_frames.proofs.OrderOfFrames.{EachFits-at, EachFits-from_places, EachFits-length}
use Rattle.list_lemmas.proofs.ItemsByPlace.{slice_get-set_same, slice_get-set_cases}
use Rattle.type_verifier.specs.declared.ranges.LocalRange.{LocalRange}
use Rattle.type_verifier.specs.Ranges.{IsWithin}

module _ (classes : List ClassRecord) where
  pub FitOutside-refl : (first end : ℕ) (xs : List VType) → FitOutside classes first end xs xs
  FitOutside-refl first end xs k a b at there away =
      subst (λ (v : VType). Fits classes a v) (same_Some a b (sym at ∙ there)) (Fits-refl classes a)

  pub FitOutside-wider : (q r : LocalRange) (xs ys : List VType) → IsWithin q r → FitOutside classes q.first q.end xs ys
      → FitOutside classes r.first r.end xs ys
  FitOutside-wider q r xs ys within h k a b at there (inl before) = h k a b at there (inl (omega (arith, within.0)))
  FitOutside-wider q r xs ys within h k a b at there (inr past) = h k a b at there (inr (omega (arith, within.1)))

  pub FitOutside-trans : AreOrdered classes → (first end : ℕ) (xs ys zs : List VType) → length ys ≡ length xs
      → FitOutside classes first end xs ys → FitOutside classes first end ys zs → FitOutside classes first end xs zs
  FitOutside-trans ordered first end xs ys zs same one two k a c at there away =
      let within = slice_get_within xs k a at in
      let b = get_or ys k a in
      let mid : slice_get ys k ≡ Some b = slice_get-get_or ys k a (omega arith) in
      Fits-trans classes ordered a b c (one k a b at mid away) (two k b c mid there away)

  -- where the first local of the range fits, the range may begin after it
  pub FitOutside-first : (first end : ℕ) (xs ys : List VType) (x y : VType) → slice_get xs first ≡ Some x → slice_get ys first ≡ Some y
      → Fits classes x y → FitOutside classes first end xs ys → FitOutside classes (first + 1) end xs ys
  FitOutside-first first end xs ys x y at_x at_y fits h k a b at there away = elim (cases_eq k first) [
    | inl e ↦
        let one : x ≡ a = same_Some x a (sym at_x ∙ ap (slice_get xs) (sym e) ∙ at) in
        let other : y ≡ b = same_Some y b (sym at_y ∙ ap (slice_get ys) (sym e) ∙ there) in
        subst (λ (v : VType). Fits classes v b) one (subst (λ (v : VType). Fits classes x v) other fits)
    | inr apart ↦ h k a b at there (elim away [ inl before ↦ inl (omega (arith, apart)) | inr past ↦ inr past ])
  ]

  -- where the last one fits, it may end before it
  pub FitOutside-last : (first last end : ℕ) (xs ys : List VType) (x y : VType) → end ≡ last + 1 → slice_get xs last ≡ Some x
      → slice_get ys last ≡ Some y → Fits classes x y → FitOutside classes first end xs ys → FitOutside classes first last xs ys
  FitOutside-last first last end xs ys x y next at_x at_y fits h k a b at there away = elim (cases_eq k last) [
    | inl e ↦
        let one : x ≡ a = same_Some x a (sym at_x ∙ ap (slice_get xs) (sym e) ∙ at) in
        let other : y ≡ b = same_Some y b (sym at_y ∙ ap (slice_get ys) (sym e) ∙ there) in
        subst (λ (v : VType). Fits classes v b) one (subst (λ (v : VType). Fits classes x v) other fits)
    | inr apart ↦ h k a b at there (elim away [ inl before ↦ inl before | inr past ↦ inr (omega (arith, apart)) ])
  ]

  -- with one local of another list at its place
  with_one : (g f : List VType) (k : ℕ) (b : VType) → slice_get f k ≡ Some b → length f ≡ length g → (xs : List VType)
      → length xs ≡ length g → EachFits classes xs g → ((a : VType) → slice_get xs k ≡ Some a → Fits classes a b)
      → EachFits classes xs (set g k b)
  with_one g f k b there same xs as_many fits here =
      EachFits-from_places classes xs (set g k b) (as_many ∙ sym (length-set g k b))
      (λ j x y at_x at_y. elim (slice_get-set_cases g k j b y at_y) [
        | inl (e, is) ↦ subst (λ (v : VType). Fits classes x v) is (here x (subst (λ (n : ℕ). slice_get xs n ≡ Some x) (sym e) at_x))
        | inr before ↦ EachFits-at classes xs g j x y fits at_x before
      ])

  -- a join changes nothing outside of the range at which it looked
  pub join-outside : (f from g : FrameType) (first end : ℕ) → IsFrameJoin classes f from g
      → FitOutside classes first end from.locals f.locals → FitOutside classes first end g.locals f.locals
  join-outside f from g first end join out k a b at there away =
      let as_many = EachFits-length classes f.locals g.locals join.left.locals in
      let too = EachFits-length classes from.locals g.locals join.right.locals in
      let d : FrameType = record { locals = set g.locals k b; stack = g.stack; fresh = g.fresh } in
      let left : FrameFits classes f d = record {
        locals = with_one g.locals f.locals k b there as_many f.locals as_many join.left.locals
            (λ x at_x. subst (λ (v : VType). Fits classes x v) (same_Some x b (sym at_x ∙ there)) (Fits-refl classes x));
        stack = join.left.stack;
        usable = join.left.usable;
        fresh = join.left.fresh;
      } in
      let right : FrameFits classes from d = record {
        locals = with_one g.locals f.locals k b there as_many from.locals too join.right.locals (λ x at_x. out k x b at_x there away);
        stack = join.right.stack;
        usable = join.right.usable;
        fresh = join.right.fresh;
      } in
      EachFits-at classes g.locals d.locals k a b (join.least d left right).locals at
      (slice_get-set_same g.locals k b (slice_get_within g.locals k a at))
