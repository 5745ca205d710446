-- When a frame became what a shape says.
use Rattle.std.proofs.Common.{◌≡◌, ℕ, ◌+◌, ◌≤◌, ◌↔◌, Bool, true, false, IsTrue, List, [], ◌∷◌, ◌++◌, length, Option, Some, None, Result, Ok, Err, refl, sym, ap, subst, ◌∙◌, append_assoc, ◌<◌, take, arith}
use Rattle.std.specs.Prelude.{IfOk}
use Rattle.std.proofs.lemmas.List.{append-nil}
use Rattle.std.proofs.lemmas.List.Sums.{sum_by-append, sum_by-cons}
use Rattle.std.proofs.Math.Seq.{take-append_seam}
use Rattle.list_lemmas.proofs.EndsOfLists.{one_split}
use Rattle.list_lemmas.proofs.LastItems.{one_last as one_top}
use Rattle.jk_model.proofs.EachItem.{all_append, all_back, all_front}
use Rattle.jk_model_classes.specs.declared.records.LinkedCode.{LinkedCode}
use Rattle.jk_model_typing.specs.declared.frames.VType.{VType}
use Rattle.jk_model_typing.specs.declared.frames.VType.TheVariants.{Unusable, Int, Long, Null, Ref, Fresh, FreshThis}
use Rattle.jk_model_typing.specs.declared.frames.Demand.{Demand}
use Rattle.jk_model_typing.specs.declared.frames.FrameType.{FrameType}
use Rattle.jk_model_typing.specs.FrameTypes.{IsFrameOf, IsUsable, slots, slots_of}
use Rattle.jk_model_typing.specs.Groups.{Shape, Takes, Swaps, LoadsElement, Copies}
use Rattle.jk_model_typing.specs.Rows.{Does, IsReferenceArray, element}
use Rattle.jk_model_typing.specs.Scopes.{CodeScope}
use Rattle.type_rows.specs.Shapes.{given}
use Rattle.type_rows.specs.Steps.{HasNoCopy, HasNoTop, IsCopyAt, IsDone, IsStackOf, IsTaken, IsTopAt}
use Rattle.type_rows.proofs.EntriesTaken.{as_many}

-- ---- Frames and stacks.

pub with_stack : (code : LinkedCode) (f : FrameType) (stack : List VType) → IsFrameOf code f → IsStackOf code stack
    → IsFrameOf code (record f { stack = stack })
with_stack code f stack h room = record { locals = h.locals; stack = room.0; usable = room.1; halves = h.halves }

pub stack_of : (code : LinkedCode) (f : FrameType) → IsFrameOf code f → IsStackOf code f.stack
stack_of code f h = (h.stack, h.usable)

pub front_of : (code : LinkedCode) (front back : List VType) → IsStackOf code (front ++ back) → IsStackOf code front
front_of code front back h =
    (omega (arith, h.0, sum_by-append slots_of front back), all_front IsUsable front back h.1)

pub front_fits : (code : LinkedCode) (stack front back : List VType) → stack ≡ front ++ back → IsStackOf code stack → IsStackOf code front
front_fits code stack front back e h = front_of code front back (subst (λ (xs : List VType). IsStackOf code xs) e h)

-- ---- What a shape says is the only frame.

pub each_place : {E : Type 0} (P : ℕ → Bool → Type 0) (r : Result Bool E) → ((place : ℕ) → IfOk r (P place))
    → IfOk r (λ yes. (place : ℕ) → P place yes)
each_place P (Ok b) h = h
each_place P (Err e) h = tt

module _ (s : CodeScope) (place : ℕ) (shape : Shape) (before : FrameType) where
  pub not_done : (after : FrameType) → ((other : FrameType) → Does s place shape before other → IsFrameOf s.code other → ⊥)
      → IsDone s place shape before false after
  not_done after none = record { holds = λ yes. absurd cc; fails = λ _. none }

  pub done : (after : FrameType) → Does s place shape before after → IsFrameOf s.code after → IsDone s place shape before true after
  done after does is = record { holds = λ _. (does, is); fails = λ no. absurd cc }

  -- the frame is judged by its stack
  pub as_room_says : (yes : Bool) (after : FrameType) → Does s place shape before after
      → ((other : FrameType) → Does s place shape before other → other ≡ after)
      → (IsStackOf s.code after.stack → IsFrameOf s.code after)
      → (IsTrue yes ↔ IsStackOf s.code after.stack) → IsDone s place shape before yes after
  as_room_says true after does only frame room = done after does (frame (room.0 refl))
  as_room_says false after does only frame room =
      not_done after
      (λ other also is.
      let yes : IsTrue false = room.1 (stack_of s.code after (subst (λ (f : FrameType). IsFrameOf s.code f) (only other also) is)) in
      absurd cc)

  pub pushed : {E : Type 0} (r : Result Bool E) (after : FrameType) → Does s place shape before after
      → ((other : FrameType) → Does s place shape before other → other ≡ after)
      → (IsStackOf s.code after.stack → IsFrameOf s.code after)
      → IfOk r (λ yes. IsTrue yes ↔ IsStackOf s.code after.stack) → IfOk r (λ yes. IsDone s place shape before yes after)
  pushed (Ok b) after does only frame room = as_room_says b after does only frame room
  pushed (Err e) after does only frame room = tt

-- ---- Entries that are taken, and one that is pushed.

module _ (s : CodeScope) (place : ℕ) (before : FrameType) (mid : List VType) (ds : List Demand) where
  takes : (gives : List VType) → IsTaken s ds before.stack true mid
      → Does s place (Takes ds gives) before (record before { stack = mid ++ gives })
  takes gives taken = let h = taken.holds refl in (mid, h.0, h.1, h.2, refl)

  takes_only : (gives : List VType) → IsTaken s ds before.stack true mid → (other : FrameType)
      → Does s place (Takes ds gives) before other → other ≡ record before { stack = mid ++ gives }
  takes_only gives taken other (below, entries, stack, meet, is) =
      let h = taken.holds refl in
      let many : length entries ≡ length h.0 = sym (as_many s ds entries meet) ∙ as_many s ds h.0 h.2 in
      let same = one_split below mid entries h.0 (sym stack ∙ h.1) many in
      is ∙ ap (λ (xs : List VType). let f : FrameType = record before { stack = xs ++ gives } in f) same.0

  pub takes_none : (gives : Option VType) → gives ≡ None → IsFrameOf s.code before → IsTaken s ds before.stack true mid
      → IsDone s place (Takes ds (given gives)) before true (record before { stack = mid })
  takes_none gives e is taken =
      let h = taken.holds refl in
      let front : IsStackOf s.code mid = front_fits s.code before.stack mid h.0 h.1 (stack_of s.code before is) in
      let f : List VType → FrameType = λ xs. record before { stack = xs } in
      rw e
      (done s place (Takes ds []) before (f mid)
      (subst (λ (x : FrameType). Does s place (Takes ds []) before x) (ap f (append-nil mid)) (takes [] taken))
      (with_stack s.code before mid is front))

  pub takes_one : {E : Type 0} (r : Result Bool E) (gives : Option VType) (v : VType) (stack : List VType) → gives ≡ Some v
      → IsFrameOf s.code before → IsTaken s ds before.stack true mid
      → IfOk r (λ yes. IsTrue yes ↔ IsStackOf s.code stack) → IfOk r (λ yes. stack ≡ mid ++ v ∷ [])
      → IfOk r (λ yes. IsDone s place (Takes ds (given gives)) before yes (record before { stack = stack }))
  takes_one (Ok b) gives v stack e is taken room push =
      rw (e, push)
      (as_room_says s place (Takes ds (v ∷ [])) before b (record before { stack = mid ++ v ∷ [] }) (takes (v ∷ []) taken)
      (takes_only (v ∷ []) taken) (with_stack s.code before (mid ++ v ∷ []) is)
      (rw push at room))
  takes_one (Err x) gives v stack e is taken room push = tt

-- ---- Copies, drops and exchanges.

slots_cons : (v : VType) (vs : List VType) → slots (v ∷ vs) ≡ slots_of v + slots vs
slots_cons v vs = sum_by-cons slots_of v vs

pub some_slots : (v : VType) → 1 ≤ slots_of v
some_slots Unusable = omega arith
some_slots Int = omega arith
some_slots Long = omega arith
some_slots Null = omega arith
some_slots (Ref t) = omega arith
some_slots (Fresh p) = omega arith
some_slots FreshThis = omega arith

more_slots : (y : VType) (c d : List VType) → slots d < slots (y ∷ (c ++ d))
more_slots y c d = omega (arith, slots_cons y (c ++ d), some_slots y, sum_by-append slots_of c d)

-- a stack is cut in one way into a top with so many slots and the rest
pub one_cut : (a c b d : List VType) → a ++ b ≡ c ++ d → slots b ≡ slots d → (a ≡ c) × (b ≡ d)
one_cut [] [] b d e n = (refl, e)
one_cut [] (y ∷ c) b d e n = let more = more_slots y c d in absurd (omega (arith, n, ap slots e, more))
one_cut (x ∷ a) [] b d e n = let more = more_slots x a b in absurd (omega (arith, n, ap slots e, more))
one_cut (x ∷ a) (y ∷ c) b d e n =
    let rest : a ++ b ≡ c ++ d = cc in
    let more = one_cut a c b d rest n in
    let rest_is = more.0 in
    let head : x ≡ y = cc in
    (cc, more.1)

pub no_copy : (stack : List VType) (skipped copied top : ℕ) → IsTopAt stack copied top → HasNoTop (take top stack) skipped
    → HasNoCopy stack skipped copied
no_copy stack skipped copied top h none below between tops whole skip same =
    let both = one_cut (below ++ between) h.below tops h.top (sym whole ∙ h.stack_is) (same ∙ sym h.slots_are) in
    let cut : take top stack ≡ h.below = rw (h.stack_is, h.place) (take-append_seam h.below h.top) in
    none below between (cut ∙ sym both.0) skip

module _ (s : CodeScope) (place : ℕ) (before : FrameType) where
  pub copied_so : (skipped copied at top : ℕ) (stack : List VType) (b : Bool) → IsFrameOf s.code before
      → IsCopyAt before.stack skipped copied at top
      → ((below between tops : List VType) → before.stack ≡ below ++ between ++ tops → at ≡ length below
      → top ≡ length (below ++ between) → stack ≡ below ++ tops ++ between ++ tops)
      → (IsTrue b ↔ IsStackOf s.code stack)
      → IsDone s place (Copies skipped copied) before b (record before { stack = stack })
  copied_so skipped copied at top stack b is h becomes room =
      let f : List VType → FrameType = λ xs. record before { stack = xs } in
      let result = becomes h.below h.between h.tops h.stack_is h.at_is h.top_is in
      as_room_says s place (Copies skipped copied) before b (f stack)
      (h.below, h.between, h.tops, h.stack_is, h.skipped_are, h.copied_are, ap f result)
      (λ other (below, between, tops, whole, skip, same, after).
      let outer = one_cut (below ++ between) (h.below ++ h.between) tops h.tops (sym whole ∙ h.stack_is) (same ∙ sym h.copied_are) in
      let inner = one_cut below h.below between h.between outer.0 (skip ∙ sym h.skipped_are) in
      after ∙ ap f (rw (inner.0, inner.1, outer.1) (sym result)))
      (with_stack s.code before stack is) room

  two_tops : (mid low below : List VType) (a b x y : VType) → before.stack ≡ mid ++ b ∷ [] → mid ≡ low ++ a ∷ []
      → before.stack ≡ below ++ x ∷ y ∷ [] → (below ≡ low) × (x ≡ a) × (y ≡ b)
  two_tops mid low below a b x y e f g =
      let split : (below ++ x ∷ []) ++ y ∷ [] ≡ mid ++ b ∷ [] = append_assoc below (x ∷ []) (y ∷ []) ∙ sym g ∙ e in
      let first = one_top (below ++ x ∷ []) mid y b split in
      let second = one_top below low x a (first.0 ∙ f) in
      (second.0, second.1, first.1)

  exchanged : (low : List VType) (a b : VType) → IsStackOf s.code (low ++ a ∷ b ∷ []) → IsStackOf s.code (low ++ b ∷ a ∷ [])
  exchanged low a b h =
      let one = slots_cons a (b ∷ []) in
      let two = slots_cons b [] in
      let three = slots_cons b (a ∷ []) in
      let four = slots_cons a [] in
      let five = sum_by-append slots_of low (a ∷ b ∷ []) in
      let six = sum_by-append slots_of low (b ∷ a ∷ []) in
      let back = all_back IsUsable low (a ∷ b ∷ []) h.1 in
      (omega (arith, h.0), all_append IsUsable low (b ∷ a ∷ []) (all_front IsUsable low (a ∷ b ∷ []) h.1) (back.1.0, (back.0, tt)))

  pub swapped : (mid low : List VType) (a b : VType) → IsFrameOf s.code before → before.stack ≡ mid ++ b ∷ [] → mid ≡ low ++ a ∷ []
      → (slots (a ∷ []) ≡ 1) × (slots (b ∷ []) ≡ 1)
      → IsDone s place Swaps before true (record before { stack = low ++ b ∷ a ∷ [] })
  swapped mid low a b is e f single =
      let whole : before.stack ≡ low ++ a ∷ b ∷ [] = e ∙ ap (λ xs. xs ++ b ∷ []) f ∙ append_assoc low (a ∷ []) (b ∷ []) in
      done s place Swaps before (record before { stack = low ++ b ∷ a ∷ [] })
      (low, a, b, whole, single.0, single.1, refl)
      (with_stack s.code before (low ++ b ∷ a ∷ []) is
      (exchanged low a b (subst (λ (xs : List VType). IsStackOf s.code xs) whole (stack_of s.code before is))))

  pub not_swapped : (mid low : List VType) (a b : VType) (after : FrameType) → before.stack ≡ mid ++ b ∷ [] → mid ≡ low ++ a ∷ []
      → ((slots (a ∷ []) ≡ 1) × (slots (b ∷ []) ≡ 1) → ⊥) → IsDone s place Swaps before false after
  not_swapped mid low a b after e f long =
      not_done s place Swaps before after
      (λ other (below, x, y, whole, of_x, of_y, _) is.
      let same = two_tops mid low below a b x y e f whole in
      long (subst (λ (v : VType). slots (v ∷ []) ≡ 1) same.1 of_x, subst (λ (v : VType). slots (v ∷ []) ≡ 1) same.2 of_y))

  -- ---- Elements and locals.

  pub element_loaded : {E : Type 0} (r : Result Bool E) (mid low stack : List VType) (array v : VType) → IsFrameOf s.code before
      → before.stack ≡ mid ++ Int ∷ [] → mid ≡ low ++ array ∷ [] → IsReferenceArray array → v ≡ element array
      → IfOk r (λ yes. IsTrue yes ↔ IsStackOf s.code stack) → IfOk r (λ yes. stack ≡ low ++ v ∷ [])
      → IfOk r (λ yes. IsDone s place LoadsElement before yes (record before { stack = stack }))
  element_loaded (Ok b) mid low stack array v is e f meets same_v room put =
      let push : stack ≡ low ++ element array ∷ [] = put ∙ ap (λ (x : VType). low ++ x ∷ []) same_v in
      let g : List VType → FrameType = λ xs. record before { stack = xs } in
      let whole : before.stack ≡ low ++ array ∷ Int ∷ [] = e ∙ ap (λ xs. xs ++ Int ∷ []) f ∙ append_assoc low (array ∷ []) (Int ∷ []) in
      as_room_says s place LoadsElement before b (g stack)
      (low, array, whole, meets, ap g push)
      (λ other (below, x, also, _, after).
      let same = two_tops mid low below array Int x Int e f also in
      after ∙ ap g (rw (same.0, same.1) (sym push)))
      (with_stack s.code before stack is) room
  element_loaded (Err x) mid low stack array v is e f meets same_v room put = tt

  pub no_element : (mid low : List VType) (array : VType) (after : FrameType) → before.stack ≡ mid ++ Int ∷ [] → mid ≡ low ++ array ∷ []
      → (IsReferenceArray array → ⊥) → IsDone s place LoadsElement before false after
  no_element mid low array after e f other_than =
      not_done s place LoadsElement before after
      (λ other (below, x, also, meets, _) is.
      let same = two_tops mid low below array Int x Int e f also in
      other_than (subst (λ (v : VType). IsReferenceArray v) same.1 meets))

  pub no_index : (after : FrameType) → ((below : List VType) → before.stack ≡ below ++ Int ∷ [] → ⊥) → IsDone s place LoadsElement before false after
  no_index after none =
      not_done s place LoadsElement before after
      (λ other (below, x, whole, _, _) is. none (below ++ x ∷ []) (whole ∙ sym (append_assoc below (x ∷ []) (Int ∷ []))))
