-- Arguments come into the locals of a new frame one after the other.
use Rattle.std.proofs.Common.{◌≡◌, ◌≤◌, ◌+◌, ◌-◌, ℕ, zero, suc, List, [], ◌∷◌, ◌++◌, length, set, replicate, Some, slice_get, refl, sym, ap, subst, ◌∙◌, append_assoc, arith}
use Rattle.std.proofs.lemmas.List.{append-nil, length-append}
use Rattle.jk_model.specs.declared.frames.FrameHead.{FrameHead}
use Rattle.jk_model.specs.declared.values.Value.{Value}
use Rattle.jk_model.specs.declared.values.Value.TheVariants as Held
use Rattle.jk_model_frames.specs.Frames.{FrameState, as_locals, called_frame, locals_of, new_frame}

locals-append : (xs ys : List Value) → locals_of (xs ++ ys) ≡ locals_of xs ++ locals_of ys
locals-append [] ys = refl
locals-append (x ∷ xs) ys = ap (λ (l : List Value). as_locals x ++ l) (locals-append xs ys) ∙ sym (append_assoc (as_locals x) (locals_of xs) (locals_of ys))

locals_then : (xs : List Value) (v : Value) → locals_of (xs ++ v ∷ []) ≡ locals_of xs ++ as_locals v
locals_then xs v = locals-append xs (v ∷ []) ∙ ap (λ (l : List Value). locals_of xs ++ l) (append-nil (as_locals v))

pub locals_length : (xs : List Value) (v : Value) → length (locals_of (xs ++ v ∷ [])) ≡ length (locals_of xs) + length (as_locals v)
locals_length xs v = ap length (locals_then xs v) ∙ length-append (locals_of xs) (as_locals v)

pub locals_fit : (xs : List Value) (v : Value) (ys : List Value) → length (locals_of xs) + length (as_locals v) ≤ length (locals_of (xs ++ v ∷ ys))
locals_fit xs v ys =
    let all : length (locals_of (xs ++ v ∷ ys)) ≡ length (locals_of xs) + length (locals_of (v ∷ ys)) =
    ap length (locals-append xs (v ∷ ys)) ∙ length-append (locals_of xs) (locals_of (v ∷ ys)) in
    omega (arith, all, length-append (as_locals v) (locals_of ys))

pub takes_local : (v : Value) → 1 ≤ length (as_locals v)
takes_local (Held.Long n) = omega arith
takes_local (Held.Int n) = omega arith
takes_local Held.Null = omega arith
takes_local (Held.Obj a) = omega arith
takes_local (Held.Cap c) = omega arith
takes_local Held.Unset = omega arith

set_next : (xs : List Value) (v w : Value) (ys : List Value) → set (xs ++ w ∷ ys) (length xs) v ≡ xs ++ v ∷ ys
set_next [] v w ys = refl
set_next (x ∷ xs) v w ys = ap (λ (l : List Value). x ∷ l) (set_next xs v w ys)

one : (xs : List Value) (v : Value) (m k : ℕ) → m ≡ 1 + k → set (xs ++ replicate m Held.Unset) (length xs) v ≡ xs ++ (v ∷ replicate k Held.Unset)
one xs v m k e =
    let next : 1 + k ≡ suc k = omega arith in
    subst (λ (j : ℕ). set (xs ++ replicate j Held.Unset) (length xs) v ≡ xs ++ (v ∷ replicate k Held.Unset)) (sym (e ∙ next))
    (set_next xs v Held.Unset (replicate k Held.Unset))

-- the value in the next locals, of which there are enough
into_locals : (xs : List Value) (v : Value) (m k : ℕ) → m ≡ length (as_locals v) + k
    → set (xs ++ replicate m Held.Unset) (length xs) v ≡ xs ++ (as_locals v ++ replicate k Held.Unset)
into_locals xs (Held.Long n) m k e =
    subst (λ (j : ℕ). set (xs ++ replicate j Held.Unset) (length xs) (Held.Long n) ≡ xs ++ (Held.Long n ∷ Held.Unset ∷ replicate k Held.Unset))
    (sym (e ∙ two k)) (set_next xs (Held.Long n) Held.Unset (Held.Unset ∷ replicate k Held.Unset))
  where
    two : (k : ℕ) → 2 + k ≡ suc (suc k)
    two k = omega arith
into_locals xs (Held.Int n) m k e = one xs (Held.Int n) m k e
into_locals xs Held.Null m k e = one xs Held.Null m k e
into_locals xs (Held.Obj a) m k e = one xs (Held.Obj a) m k e
into_locals xs (Held.Cap c) m k e = one xs (Held.Cap c) m k e
into_locals xs Held.Unset m k e = one xs Held.Unset m k e

-- one argument more is in the locals
pub one_given : (head : FrameHead) (xs : List Value) (v : Value) → length (locals_of (xs ++ v ∷ [])) ≤ head.max_locals
    → (let f : FrameState = record (called_frame head xs) { locals = set (called_frame head xs).locals (length (locals_of xs)) v } in f)
    ≡ called_frame head (xs ++ v ∷ [])
one_given head xs v room =
    let k = head.max_locals - length (locals_of (xs ++ v ∷ [])) in
    let m : head.max_locals - length (locals_of xs) ≡ length (as_locals v) + k = omega (arith, room, locals_length xs v) in
    let moved = into_locals (locals_of xs) v (head.max_locals - length (locals_of xs)) k m in
    let whole : locals_of xs ++ (as_locals v ++ replicate k Held.Unset) ≡ locals_of (xs ++ v ∷ []) ++ replicate k Held.Unset =
    sym (append_assoc (locals_of xs) (as_locals v) (replicate k Held.Unset))
    ∙ ap (λ (l : List Value). l ++ replicate k Held.Unset) (sym (locals_then xs v)) in
    ap (λ (l : List Value). let f : FrameState = record { head = head; locals = l; stack = [] } in f) (moved ∙ whole)

pub none_given : (head : FrameHead) → new_frame head ≡ called_frame head []
none_given head =
    let all : head.max_locals ≡ head.max_locals - 0 = omega arith in
    ap (λ (n : ℕ). let f : FrameState = record { head = head; locals = replicate n Held.Unset; stack = [] } in f) all

-- ---- Lists.

pub get_next : {A : Type 0} (xs : List A) (v : A) (ys : List A) (n : ℕ) → n ≡ length xs → slice_get (xs ++ v ∷ ys) n ≡ Some v
get_next [] v ys zero e = refl
get_next [] v ys (suc n) e = absurd (omega (arith, e))
get_next (x ∷ xs) v ys zero e = absurd (omega (arith, e))
get_next (x ∷ xs) v ys (suc n) e = get_next xs v ys n (omega (arith, e))

pub set_at : {A : Type 0} (xs : List A) (v w : A) (ys : List A) (n : ℕ) → n ≡ length xs → set (xs ++ w ∷ ys) n v ≡ xs ++ v ∷ ys
set_at [] v w ys zero e = refl
set_at [] v w ys (suc n) e = absurd (omega (arith, e))
set_at (x ∷ xs) v w ys zero e = absurd (omega (arith, e))
set_at (x ∷ xs) v w ys (suc n) e = ap (λ l. x ∷ l) (set_at xs v w ys n (omega (arith, e)))

-- the first of two lists, where the whole is the same
pub same_front : {A : Type 0} (xs ys us vs : List A) → length xs ≡ length us → xs ++ ys ≡ us ++ vs → xs ≡ us
same_front [] ys [] vs e same = refl
same_front [] ys (u ∷ us) vs e same = absurd (omega (arith, e))
same_front (x ∷ xs) ys [] vs e same = absurd (omega (arith, e))
same_front (x ∷ xs) ys (u ∷ us) vs e same =
    let rest : xs ++ ys ≡ us ++ vs = cc in
    let first : x ≡ u = cc in
    ap (λ k. k ∷ xs) first ∙ ap (λ l. u ∷ l) (same_front xs ys us vs (omega (arith, e)) rest)

-- the second of two lists, where the whole is the same
pub same_back : {A : Type 0} (xs ys us vs : List A) → length xs ≡ length us → xs ++ ys ≡ us ++ vs → ys ≡ vs
same_back [] ys [] vs e same = same
same_back [] ys (u ∷ us) vs e same = absurd (omega (arith, e))
same_back (x ∷ xs) ys [] vs e same = absurd (omega (arith, e))
same_back (x ∷ xs) ys (u ∷ us) vs e same =
    let rest : xs ++ ys ≡ us ++ vs = cc in
    same_back xs ys us vs (omega (arith, e)) rest
