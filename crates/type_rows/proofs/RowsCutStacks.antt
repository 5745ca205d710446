-- How a stack is cut into what stays below and what an instruction takes: in one way, where the size of what is taken is
-- known. A stack that fits another is cut where that one is, into parts that fit.
use Rattle.std.proofs.Common.{◌≡◌, ℕ, ◌<◌, List, [], ◌∷◌, ◌++◌, length, refl, ap, arith}
use Rattle.std.specs.List.{AllByRecursion}
use Rattle.std.proofs.lemmas.List.{length-append}
use Rattle.std.proofs.lemmas.List.Sums.{sum_by-cons, sum_by-append}
use Rattle.jk_model_classes.specs.declared.records.ClassRecord.{ClassRecord}
use Rattle.jk_model_typing.specs.declared.frames.VType.{VType}
use Rattle.jk_model_typing.specs.declared.frames.VType.TheVariants.{Unusable, Int, Long, Null, Ref, Fresh, FreshThis}
use Rattle.jk_model_typing.specs.FrameTypes.{Fits, EachFits, slots_of, slots}
use Rattle.type_frames.proofs.OrderOfFrames.{EachFits-append_right}

-- ---- One cut.

-- one list is cut in one way into a front and a part of this size at its end, where more items are larger
module _ {X : Type 0} (size : List X → ℕ) (larger : (x : X) (xs ys : List X) → size ys < size (x ∷ (xs ++ ys))) where
  pub same_cut : (xs ys us vs : List X) → xs ++ ys ≡ us ++ vs → size ys ≡ size vs → (xs ≡ us) × (ys ≡ vs)
  same_cut [] ys [] vs e same = (refl, e)
  same_cut [] ys (u ∷ us) vs e same =
      let more : size vs < size (u ∷ (us ++ vs)) = larger u us vs in
      let as_large : size ys ≡ size (u ∷ (us ++ vs)) = ap size e in
      absurd (omega arith)
  same_cut (x ∷ xs) ys [] vs e same =
      let more : size ys < size (x ∷ (xs ++ ys)) = larger x xs ys in
      let as_large : size (x ∷ (xs ++ ys)) ≡ size vs = ap size e in
      absurd (omega arith)
  same_cut (x ∷ xs) ys (u ∷ us) vs e same =
      let rest : xs ++ ys ≡ us ++ vs = cc in
      let cut = same_cut xs ys us vs rest same in
      let first : x ≡ u = cc in
      ((λ i. first i ∷ cut.0 i), cut.1)

longer : {X : Type 0} (x : X) (xs ys : List X) → length ys < length (x ∷ (xs ++ ys))
longer x xs ys = omega (arith, length-append xs ys)

-- the parts taken are as long
pub same_cut_by_length : {X : Type 0} (xs ys us vs : List X) → xs ++ ys ≡ us ++ vs → length ys ≡ length vs → (xs ≡ us) × (ys ≡ vs)
same_cut_by_length xs ys us vs e same = same_cut length longer xs ys us vs e same

pub slots_of-pos : (v : VType) → 0 < slots_of v
slots_of-pos Long = omega arith
slots_of-pos Unusable = omega arith
slots_of-pos Int = omega arith
slots_of-pos Null = omega arith
slots_of-pos (Ref t) = omega arith
slots_of-pos (Fresh p) = omega arith
slots_of-pos FreshThis = omega arith

more_slots : (x : VType) (xs ys : List VType) → slots ys < slots (x ∷ (xs ++ ys))
more_slots x xs ys = omega (arith, sum_by-cons slots_of x (xs ++ ys), sum_by-append slots_of xs ys, slots_of-pos x)

-- the parts taken have as many slots
pub same_cut_by_slots : (xs ys us vs : List VType) → xs ++ ys ≡ us ++ vs → slots ys ≡ slots vs → (xs ≡ us) × (ys ≡ vs)
same_cut_by_slots xs ys us vs e same = same_cut slots more_slots xs ys us vs e same

-- what holds of each item of a list that is put together from two
pub all_in_parts : {X : Type 0} (P : X → Type 0) (xs ys : List X) → AllByRecursion P (xs ++ ys) → AllByRecursion P xs × AllByRecursion P ys
all_in_parts P [] ys h = (tt, h)
all_in_parts P (x ∷ xs) ys h = let rest = all_in_parts P xs ys h.1 in ((h.0, rest.0), rest.1)

-- ---- Lists that fit.

module _ (classes : List ClassRecord) where
  -- what fits a list that is put together from two
  pub record IsCutLike (stack below taken : List VType) : Type 0 where
    pub under : List VType
    pub over : List VType
    pub joined : stack ≡ under ++ over
    pub under_fits : EachFits classes under below
    pub over_fits : EachFits classes over taken

  pub EachFits-cut : (stack below taken : List VType) → EachFits classes stack (below ++ taken) → IsCutLike stack below taken
  EachFits-cut stack below taken h =
      let parts = EachFits-append_right classes stack below taken h in
      record { under = parts.0; over = parts.1; joined = parts.2; under_fits = parts.3; over_fits = parts.4 }

  -- what fits a list of one entry and more
  pub record IsOnto (stack : List VType) (w : VType) (ws : List VType) : Type 0 where
    pub first : VType
    pub more : List VType
    pub joined : stack ≡ first ∷ more
    pub first_fits : Fits classes first w
    pub more_fits : EachFits classes more ws

  pub EachFits-onto : (stack : List VType) (w : VType) (ws : List VType) → EachFits classes stack (w ∷ ws) → IsOnto stack w ws
  EachFits-onto [] w ws h = absurd h
  EachFits-onto (v ∷ vs) w ws h = record { first = v; more = vs; joined = refl; first_fits = h.0; more_fits = h.1 }

  pub EachFits-none : (stack : List VType) → EachFits classes stack [] → stack ≡ []
  EachFits-none [] h = refl
  EachFits-none (v ∷ vs) h = absurd h
