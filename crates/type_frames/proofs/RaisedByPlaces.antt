-- Where a type was joined into the one at a place of a list, the list fits the new one, which is the least.
use Rattle.std.proofs.Common.{◌≡◌, ◌≢◌, ℕ, ◌+◌, ◌<◌, ◌≤◌, Bool, true, false, ◌||◌, IsTrue, List, length, Option, Some, slice_get, refl, sym, subst, ◌∙◌, inl, inr, arith}
use Rattle.std.proofs.lemmas.Bool.{cases_eq, cases_lt}
use Rattle.std.proofs.lemmas.Option.{same_Some, slice_get_cases, slice_get_within}
use Rattle.jk_model_classes.specs.declared.records.ClassRecord.{ClassRecord}
use Rattle.jk_model_typing.specs.declared.frames.VType.{VType}
use Rattle.jk_model_typing.specs.FrameTypes.{Fits, EachFits, IsJoin}
use Rattle.type_frames.specs.FrameJoins.{FitOutside, IsRaisedAt}
use Rattle.type_frames.specs.Heights.{heights}
use Rattle.type_frames.proofs.OrderOfTypes.{Fits-eq}
use Rattle.type_frames.proofs.OrderOfFrames.{EachFits-length, EachFits-at, EachFits-left_at, EachFits-from_places}

-- a place of a list that is as long has an item too
item_at : (xs ys : List VType) (k : ℕ) (y : VType) → length ys ≡ length xs → slice_get ys k ≡ Some y → (x : VType) × (slice_get xs k ≡ Some x)
item_at xs ys k y same at = elim (slice_get_cases xs k).1 [
  | inl (x, within, is, read) ↦ (x, is)
  | inr (past, none) ↦ let within = slice_get_within ys k y at in absurd (omega arith)
]

one_item : (a b : VType) (o : Option VType) → o ≡ Some a → o ≡ Some b → a ≡ b
one_item a b o left right = same_Some a b (sym left ∙ right)

pub raised-unchanged : (classes : List ClassRecord) (i : ℕ) (from a b : VType) (old : List VType) → slice_get old i ≡ Some a → b ≡ a
    → IsJoin classes a from b → IsRaisedAt classes i from old old
raised-unchanged classes i from a b old at same join = record {
  length = refl;
  here = λ x y at_x at_y.
      let left : a ≡ x = one_item a x (slice_get old i) at at_x in
      let right : b ≡ y = same ∙ one_item a y (slice_get old i) at at_y in
      subst (λ (v : VType). IsJoin classes v from y) left (subst (λ (v : VType). IsJoin classes a from v) right join);
  others = λ k other. refl;
}

module _ (classes : List ClassRecord) (i : ℕ) (from : VType) (old new : List VType) (raised : IsRaisedAt classes i from old new) where
  -- the entry of the old list at another place
  at_other : (k : ℕ) (v : VType) → (k ≡ i → ⊥) → slice_get new k ≡ Some v → slice_get old k ≡ Some v
  at_other k v other at = sym (raised.others k other) ∙ at

  pub raised-left : EachFits classes old new
  raised-left = EachFits-from_places classes old new (sym raised.length) (λ k a b at at_new. elim (cases_eq k i) [
    | inl here ↦
        let at_i : slice_get old i ≡ Some a = subst (λ (n : ℕ). slice_get old n ≡ Some a) here at in
        let new_at_i : slice_get new i ≡ Some b = subst (λ (n : ℕ). slice_get new n ≡ Some b) here at_new in
        (raised.here a b at_i new_at_i).left
    | inr other ↦ Fits-eq classes a b (one_item a b (slice_get old k) at (at_other k b other at_new))
  ])

  pub raised-least : (froms ds : List VType) → slice_get froms i ≡ Some from → EachFits classes old ds → EachFits classes froms ds
      → EachFits classes new ds
  raised-least froms ds from_at old_fits from_fits =
      let same : length new ≡ length ds = raised.length ∙ EachFits-length classes old ds old_fits in
      EachFits-from_places classes new ds same (λ k b d at_new at. elim (cases_eq k i) [
        | inl here ↦
            let at_i : slice_get ds i ≡ Some d = subst (λ (n : ℕ). slice_get ds n ≡ Some d) here at in
            let new_at_i : slice_get new i ≡ Some b = subst (λ (n : ℕ). slice_get new n ≡ Some b) here at_new in
            let first = EachFits-left_at classes old ds i d old_fits at_i in
            (raised.here first.0 b first.1 new_at_i).least d first.2 (EachFits-at classes froms ds i from d from_fits from_at at_i)
        | inr other ↦ EachFits-at classes old ds k b d old_fits (at_other k b other at_new) at
      ])

  pub raised-outside : (end : ℕ) (froms : List VType) → slice_get froms i ≡ Some from → FitOutside classes i end froms old
      → FitOutside classes (i + 1) end froms new
  raised-outside end froms from_at outside k a b at at_new place = elim (cases_eq k i) [
    | inl here ↦
        let at_i : slice_get froms i ≡ Some a = subst (λ (n : ℕ). slice_get froms n ≡ Some a) here at in
        let new_at_i : slice_get new i ≡ Some b = subst (λ (n : ℕ). slice_get new n ≡ Some b) here at_new in
        let before = item_at old new i b raised.length new_at_i in
        let is : from ≡ a = one_item from a (slice_get froms i) from_at at_i in
        subst (λ (v : VType). Fits classes v b) is (raised.here before.0 b before.1 new_at_i).right
    | inr other ↦
        outside k a b at (at_other k b other at_new) (elim place [
          | inl before ↦ inl (let apart : k ≢ i = other in omega arith)
          | inr after ↦ inr after
        ])
  ]

-- where each place is still to be looked at, there is none outside
pub outside-none : (classes : List ClassRecord) (froms into : List VType) → FitOutside classes 0 (length froms) froms into
outside-none classes froms into k a b at at_into (inl never) = absurd (omega (arith, never))
outside-none classes froms into k a b at at_into (inr past) = let within = slice_get_within froms k a at in absurd (omega arith)

-- where no place is left, each entry fits
pub outside-all : (classes : List ClassRecord) (i end : ℕ) (froms into : List VType) → end ≤ i → length into ≡ length froms
    → FitOutside classes i end froms into → EachFits classes froms into
outside-all classes i end froms into passed same outside =
    EachFits-from_places classes froms into (sym same) (λ k a b at at_into. outside k a b at at_into (elim (cases_lt k i) [
      | inl before ↦ inl before
      | inr after ↦ inr (omega arith)
    ]))

-- ---- Whether a list changed in two turns.

pub turns-same : (first second : Bool) (xs ys zs : List VType) → (first ≡ false → ys ≡ xs) → (second ≡ false → zs ≡ ys)
    → (first || second) ≡ false → zs ≡ xs
turns-same true second xs ys zs before turn still = absurd cc
turns-same false second xs ys zs before turn still = turn still ∙ before refl

pub turns-fall : (classes : List ClassRecord) (first second : Bool) (xs ys zs : List VType) → (first ≡ false → ys ≡ xs)
    → (IsTrue first → heights classes ys < heights classes xs) → (second ≡ false → zs ≡ ys)
    → (IsTrue second → heights classes zs < heights classes ys) → IsTrue (first || second) → heights classes zs < heights classes xs
turns-fall classes true true xs ys zs before fell turn falls changed =
    let one = fell refl in
    let two = falls refl in
    omega arith
turns-fall classes true false xs ys zs before fell turn falls changed = rw (turn refl) (fell refl)
turns-fall classes false true xs ys zs before fell turn falls changed = rw (← before refl) (falls refl)
turns-fall classes false false xs ys zs before fell turn falls changed = absurd cc
