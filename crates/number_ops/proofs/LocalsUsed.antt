-- What loads, stores and iinc make of the top frame.
use Rattle.std.proofs.Common.{◌≡◌, ℕ, ℤ, pos, ◌+◌, ◌<◌, ◌≤◌, List, [], ◌∷◌, ◌++◌, length, set, Some, slice_get, IsTrue, sym, ap, subst, ◌∙◌, inl, inr, add-one, arith}
use Rattle.std.specs.Int.{int_wrapping_add, w32}
use Rattle.std.proofs.Math.ListN.{length-set}
use Rattle.std.proofs.lemmas.List.{append-nil}
use Rattle.std.proofs.lemmas.Option.{same_Some, slice_get_within}
use Rattle.jk_model.specs.declared.identifiers.SegmentNo.{SegmentNo}
use Rattle.jk_model.specs.declared.instructions.Instr.{Instr}
use Rattle.jk_model.specs.declared.values.Value.{Value}
use Rattle.jk_model.specs.declared.values.Value.TheVariants.{Int, Long, Unset}
use Rattle.jk_model_frames.specs.Frames.{FrameState}
use Rattle.jk_model_domains.specs.NumberRows.{is_load, is_store_of_top, value_slots, with_value}
use Rattle.number_laws.proofs.FrameParts.{same_index, short_value, with_stack}
use Rattle.frame_store.specs.FrameContents.{FrameContent, HasLocal, SetsTop, TopFrame}
use Rattle.number_ops.specs.TopChanges.{Becomes, HasAtMostLocals, HasInLocal, HasLocals, Turns, Uses}
use Rattle.number_ops.proofs.TopFrames.{joined, same_top, top_after}

pub within : (c : FrameContent) (s : SegmentNo) (n m : ℕ) (v : Value) → HasInLocal c s n v → HasAtMostLocals c s m → n < m
within c s n m v h most =
    let low : n < length h.frame.locals = slice_get_within h.frame.locals n v h.local in
    let high : length h.frame.locals ≤ m = most h.frame h.top in
    omega arith

pub has_local : (c : FrameContent) (s : SegmentNo) (a : ℤ) (n k : ℕ) (v : Value) → HasInLocal c s n v → a ≡ pos n → a ≡ pos k → HasLocal c s k
has_local c s a n k v h en ek =
    let low : n < length h.frame.locals = slice_get_within h.frame.locals n v h.local in
    (h.frame, h.top, subst (λ (x : ℕ). x < length h.frame.locals) (same_index a n k en ek) low)

pub local_is : (c : FrameContent) (s : SegmentNo) (a : ℤ) (n k : ℕ) (v w : Value) → HasInLocal c s n v → a ≡ pos n → a ≡ pos k
    → ((f : FrameState) → TopFrame c s f → slice_get f.locals k ≡ Some w) → v ≡ w
local_is c s a n k v w h en ek at =
    let here : slice_get h.frame.locals k ≡ Some v = subst (λ (x : ℕ). slice_get h.frame.locals x ≡ Some v) (same_index a n k en ek) h.local in
    same_Some v w (sym here ∙ at h.frame h.top)

pub loaded : (c d : FrameContent) (s : SegmentNo) (i : Instr) (k : ℕ) (v : Value) → IsTrue (is_load i.op) → i.a ≡ pos k
    → ((f : FrameState) → TopFrame c s f → slice_get f.locals k ≡ Some v) → Turns c d s [] (v ∷ []) → Uses c d s i
loaded c d s i k v op is at turns =
    let low : turns.replaces.below ≡ turns.before.stack = sym (append-nil turns.replaces.below) ∙ sym turns.replaces.before in
    record {
      before = turns.before;
      after = turns.after;
      becomes = turns.becomes;
      uses = inl (
        k,
        v,
        op,
        is,
        at turns.before turns.becomes.top,
        turns.replaces.after ∙ ap (λ (xs : List Value). with_stack turns.before (xs ++ v ∷ [])) low,
      );
    }

-- ---- Stores.

-- a frame with a local set
abbrev set_in : FrameState → ℕ → Value → FrameState
set_in f k v = record f { locals = set f.locals k v }

-- after an entry was taken, the locals are as before
pub many_after : (c d : FrameContent) (s : SegmentNo) (m : ℕ) (ws : List Value) → HasLocals c s m → Turns c d s ws [] → HasLocals d s m
many_after c d s m ws h turns =
    let same : h.frame ≡ turns.before = same_top c s h.frame turns.before h.top turns.becomes.top in
    let locals : h.frame.locals ≡ turns.after.locals =
    ap (λ (x : FrameState). x.locals) same ∙ sym (ap (λ (x : FrameState). x.locals) turns.replaces.after) in
    record {
      frame = turns.after;
      top = top_after c d s turns.after turns.becomes.sets;
      many = subst (λ (xs : List Value). m ≤ length xs) locals h.many;
    }

pub many_set : (c d : FrameContent) (s : SegmentNo) (m k : ℕ) (v : Value) → HasLocals c s m
    → ((f : FrameState) → TopFrame c s f → SetsTop c d s (set_in f k v)) → HasLocals d s m
many_set c d s m k v h sets = record {
  frame = set_in h.frame k v;
  top = top_after c d s (set_in h.frame k v) (sets h.frame h.top);
  many = subst (λ (x : ℕ). m ≤ x) (sym (length-set h.frame.locals k v)) h.many;
}

pub local_of_many : (c : FrameContent) (s : SegmentNo) (m k : ℕ) → HasLocals c s m → k < m → HasLocal c s k
local_of_many c s m k h low = (h.frame, h.top, omega (arith, low, h.many))

-- the local of the instruction, and the value that was taken
pub many_at : (c : FrameContent) (s : SegmentNo) (n k : ℕ) (v w : Value) → n ≡ k → v ≡ w → HasLocals c s (n + value_slots v)
    → HasLocals c s (k + value_slots w)
many_at c s n k v w place value h =
    subst (λ (x : ℕ). HasLocals c s (x + value_slots w)) place (subst (λ (x : Value). HasLocals c s (n + value_slots x)) value h)

pub within_many : (c : FrameContent) (s : SegmentNo) (n m : ℕ) → HasLocals c s n → HasAtMostLocals c s m → n ≤ m
within_many c s n m h most =
    let high : length h.frame.locals ≤ m = most h.frame h.top in
    omega (arith, h.many, high)

-- the frame on top is the one that has so many locals
has_locals : (c : FrameContent) (s : SegmentNo) (n : ℕ) (f : FrameState) → TopFrame c s f → HasLocals c s n → n ≤ length f.locals
has_locals c s n f top h = subst (λ (x : FrameState). n ≤ length x.locals) (same_top c s h.frame f h.top top) h.many

-- a store after an entry was taken
stored : (c d e : FrameContent) (s : SegmentNo) (i : Instr) (k : ℕ) (w : Value) (now : List Value → List Value) → (turns : Turns c d s (w ∷ []) [])
    → ((f : FrameState) → TopFrame d s f → SetsTop d e s (let g : FrameState = record f { locals = now f.locals } in g))
    → ((ls : List Value) → now ls ≡ with_value ls k w) → IsTrue (is_store_of_top i.op) → i.a ≡ pos k → HasLocals c s (k + value_slots w)
    → Uses c e s i
stored c d e s i k w now turns sets same op is room =
    let top = top_after c d s turns.after turns.becomes.sets in
    let second : Becomes d e s turns.after (let g : FrameState = record turns.after { locals = now turns.after.locals } in g) =
    record { top = top; sets = sets turns.after top } in
    record {
      before = turns.before;
      after = record turns.after { locals = now turns.after.locals };
      becomes = joined c d e s turns.before turns.after turns.after _ turns.becomes second;
      uses = inr (inl (
        k,
        w,
        turns.replaces.below,
        op,
        is,
        turns.replaces.before,
        has_locals c s _ turns.before turns.becomes.top room,
        ap (λ (x : FrameState). let g : FrameState = record x { locals = now x.locals } in g) turns.replaces.after
            ∙ ap (λ (xs : List Value). let g : FrameState = record turns.before { locals = now turns.before.locals; stack = xs } in g)
            (append-nil turns.replaces.below)
            ∙ ap (λ (ls : List Value). let g : FrameState = record turns.before { locals = ls; stack = turns.replaces.below } in g)
            (same turns.before.locals),
      ));
    }

pub stored_short : (c d e : FrameContent) (s : SegmentNo) (i : Instr) (k : ℕ) (w : Value) → Turns c d s (w ∷ []) []
    → ((f : FrameState) → TopFrame d s f → SetsTop d e s (set_in f k w)) → ((n : ℤ) → w ≡ Long n → ⊥)
    → IsTrue (is_store_of_top i.op) → i.a ≡ pos k → HasLocals c s (k + value_slots w) → Uses c e s i
stored_short c d e s i k w turns sets short op is room =
    stored c d e s i k w (λ ls. set ls k w) turns sets (λ ls. sym (short_value ls k w short)) op is room

long_value : (ls : List Value) (k : ℕ) (v : Value) (n : ℤ) → v ≡ Long n → set (set ls k v) (k + 1) Unset ≡ with_value ls k v
long_value ls k v n e =
    let P : Value → Type 0 = λ x. set (set ls k x) (k + 1) Unset ≡ with_value ls k x in
    let there : set (set ls k (Long n)) (k + 1) Unset ≡ with_value ls k (Long n) = ap (λ (x : ℕ). set (set ls k (Long n)) x Unset) (add-one k) in
    subst P (sym e) there

pub stored_long : (c d e f : FrameContent) (s : SegmentNo) (i : Instr) (k : ℕ) (w : Value) (n : ℤ) → Turns c d s (w ∷ []) []
    → ((x : FrameState) → TopFrame d s x → SetsTop d e s (set_in x k w))
    → ((x : FrameState) → TopFrame e s x → SetsTop e f s (set_in x (k + 1) Unset)) → w ≡ Long n
    → IsTrue (is_store_of_top i.op) → i.a ≡ pos k → HasLocals c s (k + value_slots w) → Uses c f s i
stored_long c d e f s i k w n turns first second long op is room =
    stored c d f s i k w (λ ls. set (set ls k w) (k + 1) Unset) turns both (λ ls. long_value ls k w n long) op is room
  where
    both : (x : FrameState) → TopFrame d s x
        → SetsTop d f s (let g : FrameState = record x { locals = set (set x.locals k w) (k + 1) Unset } in g)
    both x top =
        let mid = set_in x k w in
        let next = top_after d e s mid (first x top) in
        (joined d e f s x mid mid (set_in mid (k + 1) Unset) (record { top = top; sets = first x top })
        (record { top = next; sets = second mid next })).sets

pub incremented : (c d : FrameContent) (s : SegmentNo) (i : Instr) (n k : ℕ) (x r : ℤ) → i.op ≡ 0x84 → i.a ≡ pos n → i.a ≡ pos k
    → HasInLocal c s n (Int x) → r ≡ int_wrapping_add w32 x i.b
    → ((f : FrameState) → TopFrame c s f → SetsTop c d s (set_in f k (Int r))) → Uses c d s i
incremented c d s i n k x r op en ek h is sets =
    let here : slice_get h.frame.locals k ≡ Some (Int x) =
    subst (λ (y : ℕ). slice_get h.frame.locals y ≡ Some (Int x)) (same_index i.a n k en ek) h.local in
    record {
      before = h.frame;
      after = set_in h.frame k (Int r);
      becomes = record { top = h.top; sets = sets h.frame h.top };
      uses = inr (inr (k, x, op, ek, here, ap (λ (y : ℤ). set_in h.frame k (Int y)) is));
    }
