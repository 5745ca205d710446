-- Entries that are taken and pushed one after another are taken and pushed together, and what is on top then.
use Rattle.std.proofs.Common.{◌≡◌, ℕ, ◌+◌, ◌≤◌, List, [], ◌∷◌, ◌++◌, length, refl, sym, ap, subst, ◌∙◌, append_assoc, arith}
use Rattle.std.proofs.lemmas.List.{append-nil, length-append}
use Rattle.list_lemmas.proofs.EndsOfLists.{one_split}
use Rattle.jk_model.specs.declared.identifiers.SegmentNo.{SegmentNo}
use Rattle.jk_model.specs.declared.values.Value.{Value}
use Rattle.jk_model_frames.specs.Frames.{FrameState}
use Rattle.frame_store.specs.FrameContents.{FrameContent, TopFrame}
use Rattle.number_ops.specs.TopChanges.{OnTop, OnTopWithRoom, Turns}
use Rattle.number_laws.proofs.FrameParts.{with_stack}
use Rattle.number_ops.proofs.TopFrames.{joined, met_between, same_top, stays, top_after}

-- ---- What is on top.

pub on_top : (c : FrameContent) (s : SegmentNo) (vs ts : List Value) (n : ℕ) → OnTopWithRoom c s (vs ++ ts) n → OnTop c s ts
on_top c s vs ts n h = record {
  frame = h.frame;
  top = h.top;
  on_top = (h.below ++ vs, h.stack ∙ sym (append_assoc h.below vs ts));
}

pub less_on_top : (c : FrameContent) (s : SegmentNo) (vs ts : List Value) → OnTop c s (vs ++ ts) → OnTop c s ts
less_on_top c s vs ts h = record {
  frame = h.frame;
  top = h.top;
  on_top = (h.on_top.0 ++ vs, h.on_top.1 ∙ sym (append_assoc h.on_top.0 vs ts));
}

-- the entries known to be on top are those that were taken
record IsSplit (c d : FrameContent) (s : SegmentNo) (f : FrameState) (below vs ts ws : List Value) : Type 0 where
  after : FrameState
  top : TopFrame d s after
  rest : after ≡ with_stack f (below ++ vs)
  same : ts ≡ ws

split : (c d : FrameContent) (s : SegmentNo) (f : FrameState) (below vs ts ws : List Value) → TopFrame c s f
    → f.stack ≡ below ++ (vs ++ ts) → Turns c d s ws [] → length ts ≡ length ws → IsSplit c d s f below vs ts ws
split c d s f below vs ts ws top stack h n =
    let same : f ≡ h.before = same_top c s f h.before top h.becomes.top in
    let whole : (below ++ vs) ++ ts ≡ h.replaces.below ++ ws =
    append_assoc below vs ts ∙ sym stack ∙ ap (λ (x : FrameState). x.stack) same ∙ h.replaces.before in
    let both = one_split (below ++ vs) h.replaces.below ts ws whole n in
    record {
      after = h.after;
      top = top_after c d s h.after h.becomes.sets;
      rest = h.replaces.after ∙ ap (λ (x : FrameState). with_stack x (h.replaces.below ++ [])) (sym same)
          ∙ ap (with_stack f) (append-nil h.replaces.below ∙ sym both.0);
      same = both.1;
    }

pub taken_is : (c d : FrameContent) (s : SegmentNo) (vs ts ws : List Value) → OnTop c s (vs ++ ts) → Turns c d s ws []
    → length ts ≡ length ws → ts ≡ ws
taken_is c d s vs ts ws h turns n =
    (split c d s h.frame h.on_top.0 vs ts ws h.top h.on_top.1 turns n).same

pub on_top_after : (c d : FrameContent) (s : SegmentNo) (vs ts ws : List Value) → OnTop c s (vs ++ ts) → Turns c d s ws []
    → length ts ≡ length ws → OnTop d s vs
on_top_after c d s vs ts ws h turns n =
    let is = split c d s h.frame h.on_top.0 vs ts ws h.top h.on_top.1 turns n in
    record { frame = is.after; top = is.top; on_top = (h.on_top.0, ap (λ (x : FrameState). x.stack) is.rest) }

pub room_after : (c d : FrameContent) (s : SegmentNo) (vs ts ws : List Value) (n : ℕ) → OnTopWithRoom c s (vs ++ ts) n
    → Turns c d s ws [] → length ts ≡ length ws → OnTopWithRoom d s vs n
room_after c d s vs ts ws n h turns e =
    let is = split c d s h.frame h.below vs ts ws h.top h.stack turns e in
    record {
      frame = is.after;
      top = is.top;
      below = h.below;
      stack = ap (λ (x : FrameState). x.stack) is.rest;
      has_room = subst (λ (k : ℕ). length h.below + n ≤ k) (sym (ap (λ (x : FrameState). x.head.max_stack) is.rest)) h.has_room;
    }

pub taken_with_room_is : (c d : FrameContent) (s : SegmentNo) (vs ts ws : List Value) (n : ℕ) → OnTopWithRoom c s (vs ++ ts) n
    → Turns c d s ws [] → length ts ≡ length ws → ts ≡ ws
taken_with_room_is c d s vs ts ws n h turns e = (split c d s h.frame h.below vs ts ws h.top h.stack turns e).same

-- ---- One after another.

pub pops : (a b c : FrameContent) (s : SegmentNo) (t u : List Value) → Turns a b s t [] → Turns b c s u [] → Turns a c s (u ++ t) []
pops a b c s t u first second =
    let met : first.after ≡ second.before = met_between a b c s first.before first.after second.before second.after first.becomes second.becomes in
    let mid : with_stack first.before (first.replaces.below ++ []) ≡ second.before = sym first.replaces.after ∙ met in
    let low : first.replaces.below ≡ second.replaces.below ++ u =
    sym (append-nil first.replaces.below) ∙ ap (λ (x : FrameState). x.stack) mid ∙ second.replaces.before in
    record {
      before = first.before;
      after = second.after;
      becomes = joined a b c s first.before first.after second.before second.after first.becomes second.becomes;
      replaces = record {
        below = second.replaces.below;
        before = first.replaces.before ∙ ap (λ (x : List Value). x ++ t) low ∙ append_assoc second.replaces.below u t;
        after = second.replaces.after ∙ ap (λ (x : FrameState). with_stack x (second.replaces.below ++ [])) (sym mid);
      };
    }

pub pushes : (a b c : FrameContent) (s : SegmentNo) (t p q : List Value) → Turns a b s t p → Turns b c s [] q → Turns a c s t (p ++ q)
pushes a b c s t p q first second =
    let met : first.after ≡ second.before = met_between a b c s first.before first.after second.before second.after first.becomes second.becomes in
    let mid : with_stack first.before (first.replaces.below ++ p) ≡ second.before = sym first.replaces.after ∙ met in
    let low : first.replaces.below ++ p ≡ second.replaces.below =
    ap (λ (x : FrameState). x.stack) mid ∙ second.replaces.before ∙ append-nil second.replaces.below in
    let whole : second.replaces.below ++ q ≡ first.replaces.below ++ (p ++ q) =
    ap (λ (x : List Value). x ++ q) (sym low) ∙ append_assoc first.replaces.below p q in
    record {
      before = first.before;
      after = second.after;
      becomes = joined a b c s first.before first.after second.before second.after first.becomes second.becomes;
      replaces = record {
        below = first.replaces.below;
        before = first.replaces.before;
        after = second.replaces.after ∙ ap (λ (x : FrameState). with_stack x (second.replaces.below ++ q)) (sym mid)
            ∙ ap (with_stack first.before) whole;
      };
    }

-- ---- Room.

pub room_pushed : (c d : FrameContent) (s : SegmentNo) (q : List Value) (m n : ℕ) → OnTopWithRoom c s [] m → Turns c d s [] q
    → length q + n ≤ m → OnTopWithRoom d s [] n
room_pushed c d s q m n h turns e =
    let same : h.frame ≡ turns.before = same_top c s h.frame turns.before h.top turns.becomes.top in
    let stack : h.below ++ [] ≡ turns.replaces.below ++ [] = sym h.stack ∙ ap (λ (x : FrameState). x.stack) same ∙ turns.replaces.before in
    let low : h.below ≡ turns.replaces.below = sym (append-nil h.below) ∙ stack ∙ append-nil turns.replaces.below in
    let after : turns.after ≡ with_stack h.frame (h.below ++ q) =
    turns.replaces.after ∙ ap (λ (x : FrameState). with_stack x (turns.replaces.below ++ q)) (sym same)
    ∙ ap (λ (x : List Value). with_stack h.frame (x ++ q)) (sym low) in
    let fits : length (h.below ++ q) + n ≤ h.frame.head.max_stack = omega (arith, length-append h.below q, h.has_room, e) in
    record {
      frame = turns.after;
      top = top_after c d s turns.after turns.becomes.sets;
      below = h.below ++ q;
      stack = ap (λ (x : FrameState). x.stack) after ∙ sym (append-nil (h.below ++ q));
      has_room = subst (λ (k : ℕ). length (h.below ++ q) + n ≤ k) (sym (ap (λ (x : FrameState). x.head.max_stack) after)) fits;
    }

pub less_room : (c : FrameContent) (s : SegmentNo) (ts : List Value) (m n : ℕ) → OnTopWithRoom c s ts m → n ≤ m → OnTopWithRoom c s ts n
less_room c s ts m n h e = record {
  frame = h.frame;
  top = h.top;
  below = h.below;
  stack = h.stack;
  has_room = omega (arith, h.has_room, e);
}

-- ---- One or two entries, and what is pushed in their place.

pub second_of_two : (c : FrameContent) (s : SegmentNo) (v w : Value) (n : ℕ) → OnTopWithRoom c s (v ∷ w ∷ []) n → OnTop c s (w ∷ [])
second_of_two c s v w n h = on_top c s (v ∷ []) (w ∷ []) n h

pub first_of_two : (c d : FrameContent) (s : SegmentNo) (v w x : Value) (n : ℕ) → OnTopWithRoom c s (v ∷ w ∷ []) n
    → Turns c d s (x ∷ []) [] → OnTop d s (v ∷ [])
first_of_two c d s v w x n h turns = on_top d s [] (v ∷ []) n (room_after c d s (v ∷ []) (w ∷ []) (x ∷ []) n h turns refl)

pub room_of_one : (c d : FrameContent) (s : SegmentNo) (v x : Value) (n : ℕ) → OnTopWithRoom c s (v ∷ []) n
    → Turns c d s (x ∷ []) [] → OnTopWithRoom d s [] n
room_of_one c d s v x n h turns = room_after c d s [] (v ∷ []) (x ∷ []) n h turns refl

pub room_of_two : (c d e : FrameContent) (s : SegmentNo) (v w x y : Value) (n : ℕ) → OnTopWithRoom c s (v ∷ w ∷ []) n
    → Turns c d s (y ∷ []) [] → Turns d e s (x ∷ []) [] → OnTopWithRoom e s [] n
room_of_two c d e s v w x y n h first second =
    room_of_one d e s v x n (room_after c d s (v ∷ []) (w ∷ []) (y ∷ []) n h first refl) second

pub one_turned : (a b c : FrameContent) (s : SegmentNo) (v p : Value) → Turns a b s (v ∷ []) [] → Turns b c s [] (p ∷ [])
    → Turns a c s (v ∷ []) (p ∷ [])
one_turned a b c s v p first second = pushes a b c s (v ∷ []) [] (p ∷ []) first second

pub two_popped : (a b c : FrameContent) (s : SegmentNo) (v w : Value) → Turns a b s (w ∷ []) [] → Turns b c s (v ∷ []) []
    → Turns a c s (v ∷ w ∷ []) []
two_popped a b c s v w first second = pops a b c s (w ∷ []) (v ∷ []) first second

pub two_turned : (a b c d : FrameContent) (s : SegmentNo) (v w p : Value) → Turns a b s (w ∷ []) [] → Turns b c s (v ∷ []) []
    → Turns c d s [] (p ∷ []) → Turns a d s (v ∷ w ∷ []) (p ∷ [])
two_turned a b c d s v w p first second third =
    pushes a c d s (v ∷ w ∷ []) [] (p ∷ []) (two_popped a b c s v w first second) third

-- nothing is taken, and nothing is pushed
pub nothing_turned : (c : FrameContent) (s : SegmentNo) (f : FrameState) → TopFrame c s f → Turns c c s [] []
nothing_turned c s f top = record {
  before = f;
  after = f;
  becomes = record { top = top; sets = stays c s f top };
  replaces = record {
    below = f.stack;
    before = sym (append-nil f.stack);
    after = ap (with_stack f) (sym (append-nil f.stack));
  };
}
