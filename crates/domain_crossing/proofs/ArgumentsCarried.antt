-- Arguments are taken off the caller's stack, the last one first, and handed over the other way round.
use Rattle.std.proofs.Common.{◌≡◌, ℕ, suc, ◌+◌, ◌-◌, ◌≤◌, List, [], ◌∷◌, ◌++◌, append_assoc, length, length-append, slice_get, Option, Some, None, IsSome, Bor, refl, sym, ap, subst, ◌∙◌, arith}
use Rattle.std.specs.Option.{option_map_or}
use Rattle.std.proofs.lemmas.Option.{same_Some, slice_get_within}
use Rattle.jk_model.specs.declared.frames.FrameHead.{FrameHead}
use Rattle.jk_model.specs.declared.identifiers.DomainId.{DomainId}
use Rattle.jk_model.specs.declared.identifiers.SegmentNo.{SegmentNo}
use Rattle.jk_model.specs.declared.values.Value.{Value}
use Rattle.jk_model.specs.declared.values.Value.TheVariants as Held
use Rattle.jk_model_frames.specs.Frames.{FrameState, head_chunks}
use Rattle.list_lemmas.proofs.ItemsByPlace.{slice_get-front, slice_get-last}
use Rattle.list_lemmas.proofs.LastItems.{last_of, one_last}
use Rattle.frame_store.specs.FrameContents.{Changes, FrameContent, HasEntry, IsAdmitted, SetsTop, StoredSegment, TakesEntry, TopFrame, free_chunks}
use Rattle.frame_store.proofs.ArgumentsInLocals.{locals_length}
use Rattle.domain_crossing.specs.MovedArguments.{Carries, CopiesReach, FitsLocals, HasArrived, IsHanded, StandsToCall}
use Rattle.domain_crossing.proofs.EntriesOnTop.{has_entry}
use Rattle.domain_crossing.proofs.LocalsFilled.{then_changes}
use Rattle.domain_crossing.proofs.SegmentsArrive.{all_on_top, apart_from, caller_on_top, used_stays}
use Rattle.domain_crossing.proofs.TopsTakenOff.{set_so}

-- ---- The last of some values.

pub split_last : {X : Type 0} (xs : List X) (k : ℕ) → length xs ≡ suc k → (front : List X) × (last : X) × (xs ≡ front ++ last ∷ [])
split_last [] k many = absurd (omega (arith, many))
split_last (x ∷ xs) k many = last_of x xs

front_length : {X : Type 0} (xs front : List X) (x : X) (k : ℕ) → xs ≡ front ++ x ∷ [] → length xs ≡ suc k → length front ≡ k
front_length xs front x k are many =
    let both = ap length are in
    omega (arith, both, many, length-append front (x ∷ []))

pub no_values : (vs : List Value) → length vs ≡ 0 → vs ≡ []
no_values [] none = refl
no_values (v ∷ vs) none = absurd (omega (arith, none))

-- ---- What is handed over.

pub last_reached : (copies : Option (Bor (List Value))) (i : ℕ) (a v : Value) → IsHanded copies i a v → CopiesReach copies i
last_reached None i a v is = tt
last_reached (Some copies) i a v is = slice_get_within copies.now i v is

pub one_handed : (copies : Option (Bor (List Value))) (i : ℕ) (a v w : Value) → IsHanded copies i a v → IsHanded copies i a w → v ≡ w
one_handed None i a v w is also = is ∙ sym also
one_handed (Some copies) i a v w is also = same_Some v w (sym is ∙ also)

module _ (given values front before : List Value) (copies : Option (Bor (List Value))) (k : ℕ) (a w : Value) (carries : Carries given copies (suc k) values)
    (are : given ≡ front ++ a ∷ []) (are_values : values ≡ before ++ w ∷ []) where
  many : length front ≡ k
  many = front_length given front a k are carries.many

  as_many : length before ≡ k
  as_many = front_length values before w k are_values carries.as_many

  pub last_handed : IsHanded copies k a w
  last_handed =
      carries.each k a w
      (ap (λ (vs : List Value). slice_get vs k) are ∙ subst (λ (n : ℕ). slice_get (front ++ a ∷ []) n ≡ Some a) many (slice_get-last front a))
      (ap (λ (vs : List Value). slice_get vs k) are_values ∙ subst (λ (n : ℕ). slice_get (before ++ w ∷ []) n ≡ Some w) as_many (slice_get-last before w))

  pub fewer_carried : Carries front copies k before
  fewer_carried = record {
    many = many;
    as_many = as_many;
    each = λ i b v at there.
        carries.each i b v (ap (λ (vs : List Value). slice_get vs i) are ∙ slice_get-front front (a ∷ []) i (slice_get_within front i b at) ∙ at)
        (ap (λ (vs : List Value). slice_get vs i) are_values ∙ slice_get-front before (w ∷ []) i (slice_get_within before i v there) ∙ there);
  }

pub fewer_fit : (head : FrameHead) (target : ℕ) (values before : List Value) (w : Value) → values ≡ before ++ w ∷ []
    → FitsLocals head (Held.Obj target ∷ values) → FitsLocals head (Held.Obj target ∷ before)
fewer_fit head target values before w are fits =
    let all : FitsLocals head ((Held.Obj target ∷ before) ++ w ∷ []) =
    subst (λ (vs : List Value). FitsLocals head (Held.Obj target ∷ vs)) are fits in
    omega (arith, all, locals_length (Held.Obj target ∷ before) w)

-- ---- An entry is taken off the caller's stack.

module _ (c d : FrameContent) (s : SegmentNo) (call : StandsToCall c s) where
  abbrev pub with_stack : List Value → FrameState
  with_stack stack = record call.frame { stack = stack }

  pub caller_changed : (stack : List Value) → SetsTop c d s (with_stack stack)
      → Changes c d s call.stood.domain
      (Some (let g : StoredSegment = record { domain = call.stood.domain; frames = call.callers ++ with_stack stack ∷ [] } in g)) (c.used call.stood.domain)
  caller_changed stack sets = set_so c d s call.stood call.callers call.frame (with_stack stack) call.is_there call.are_frames sets

  pub has_an_entry : HasEntry c s 0
  has_an_entry = has_entry c s (call.receiver ∷ call.given) (all_on_top c s call) 0 (omega arith)

  pub record IsTakenOff (k : ℕ) (v : Value) : Type 0 where
    pub front : List Value
    pub are : call.given ≡ front ++ v ∷ []
    pub sets : SetsTop c d s (with_stack (call.below ++ call.receiver ∷ front))

  pub taken_off : (k : ℕ) (v : Value) → length call.given ≡ suc k → ((f : FrameState) → TopFrame c s f → TakesEntry c d s f v) → IsTakenOff k v
  taken_off k v many takes =
      let split = split_last call.given k many in
      let took = takes call.frame (caller_on_top c s call) in
      let lists : (call.below ++ call.receiver ∷ split.0) ++ split.1 ∷ [] ≡ took.0 ++ v ∷ [] =
      append_assoc call.below (call.receiver ∷ split.0) (split.1 ∷ [])
      ∙ ap (λ (vs : List Value). call.below ++ call.receiver ∷ vs) (sym split.2) ∙ sym call.stack ∙ took.1 in
      let both = one_last (call.below ++ call.receiver ∷ split.0) took.0 split.1 v lists in
      record {
        front = split.0;
        are = split.2 ∙ ap (λ (x : Value). split.0 ++ x ∷ []) both.1;
        sets = subst (λ (stack : List Value). SetsTop c d s (with_stack stack)) (sym both.0) took.2;
      }

  -- the receiver, where no argument is left
  pub receiver_off : (v : Value) → length call.given ≡ 0 → ((f : FrameState) → TopFrame c s f → TakesEntry c d s f v) → SetsTop c d s (with_stack call.below)
  receiver_off v none takes =
      let took = takes call.frame (caller_on_top c s call) in
      let empty = no_values call.given none in
      let lists : call.below ++ call.receiver ∷ [] ≡ took.0 ++ v ∷ [] =
      ap (λ (vs : List Value). call.below ++ call.receiver ∷ vs) (sym empty) ∙ sym call.stack ∙ took.1 in
      let both = one_last call.below took.0 call.receiver v lists in
      subst (λ (stack : List Value). SetsTop c d s (with_stack stack)) (sym both.0) took.2

  -- ---- What is asked for before the segment begins is there still.

  module _ (stack : List Value) (sets : SetsTop c d s (with_stack stack)) (n : SegmentNo) (owner : DomainId) (head : FrameHead) where
    pub admitted_still : IsAdmitted c owner → IsAdmitted d owner
    admitted_still admitted = subst (λ (q : Option ℕ). IsSome q) (sym (sets.2.domains.quota owner)) admitted

    pub new_still : c.segment n ≡ None → d.segment n ≡ None
    new_still new = sets.2.others n (λ same. apart_from c s call n new (sym same)) ∙ new

    pub room_still : 1 + head_chunks head ≤ free_chunks c owner → 1 + head_chunks head ≤ free_chunks d owner
    room_still room =
        subst (λ (free : ℕ). 1 + head_chunks head ≤ free)
        (sym (ap (λ (q : Option ℕ). option_map_or (λ (m : ℕ). m - d.used owner) q 0) (sets.2.domains.quota owner)
        ∙ ap (λ (u : ℕ). option_map_or (λ (m : ℕ). m - u) (c.quota owner) 0) (used_stays c d s (with_stack stack) sets owner))) room

  -- ---- The segment has begun.

  pub just_begun : (new : FrameContent) (n : SegmentNo) (owner : DomainId) (frame : FrameState) → SetsTop c d s (with_stack call.below)
      → Changes d new n owner (Some (let g : StoredSegment = record { domain = owner; frames = frame ∷ [] } in g)) (d.used owner + 1 + head_chunks frame.head)
      → HasArrived call n owner frame new
  just_begun new n owner frame sets begins = record {
    mid = d;
    taken = caller_changed call.below sets;
    begun = subst (λ (u : ℕ). Changes d new n owner (Some (let g : StoredSegment = record { domain = owner; frames = frame ∷ [] } in g))
        (u + 1 + head_chunks frame.head)) (used_stays c d s (with_stack call.below) sets owner) begins;
  }

  module _ (front : List Value) (sets : SetsTop c d s (with_stack (call.below ++ call.receiver ∷ front))) where
    -- the caller with the arguments that are left
    abbrev pub rest : StandsToCall d s
    rest = record {
      stood = record { domain = call.stood.domain; frames = call.callers ++ with_stack (call.below ++ call.receiver ∷ front) ∷ [] };
      is_there = (caller_changed (call.below ++ call.receiver ∷ front) sets).becomes;
      callers = call.callers;
      frame = with_stack (call.below ++ call.receiver ∷ front);
      are_frames = refl;
      below = call.below;
      receiver = call.receiver;
      given = front;
      stack = refl;
    }

    -- one local more is set
    pub one_more_carried : (x new : FrameContent) (n : SegmentNo) (owner : DomainId) (frame more : FrameState) → more.head ≡ frame.head
        → HasArrived rest n owner frame x → SetsTop x new n more → HasArrived call n owner more new
    one_more_carried x new n owner frame more same arrived put =
        let first = caller_changed (call.below ++ call.receiver ∷ front) sets in
        let begun = then_changes arrived.mid x new n owner (Some (record { domain = owner; frames = frame ∷ [] }))
        (Some (record { domain = owner; frames = more ∷ [] })) (d.used owner + 1 + head_chunks frame.head) arrived.begun
        (set_so x new n (record { domain = owner; frames = frame ∷ [] }) [] frame more arrived.begun.becomes refl put) in
        record {
          mid = arrived.mid;
          taken = then_changes c d arrived.mid s call.stood.domain
              (Some (record { domain = call.stood.domain; frames = call.callers ++ with_stack (call.below ++ call.receiver ∷ front) ∷ [] }))
              (Some (record { domain = call.stood.domain; frames = call.callers ++ with_stack call.below ∷ [] })) (c.used call.stood.domain) first
              arrived.taken;
          begun = subst (λ (u : ℕ). Changes arrived.mid new n owner (Some (let g : StoredSegment = record { domain = owner; frames = more ∷ [] } in g)) u)
              (ap (λ (u : ℕ). u + 1 + head_chunks frame.head) (used_stays c d s (with_stack (call.below ++ call.receiver ∷ front)) sets owner)
              ∙ ap (λ (h : FrameHead). c.used owner + 1 + head_chunks h) (sym same)) begun;
        }

-- the top frame of the segment that has begun
pub begun_on_top : (c new : FrameContent) (s n : SegmentNo) (call : StandsToCall c s) (owner : DomainId) (frame : FrameState)
    → HasArrived call n owner frame new → TopFrame new n frame
begun_on_top c new s n call owner frame arrived = record {
  segment = record { domain = owner; frames = frame ∷ [] };
  is_there = arrived.begun.becomes;
  lower = [];
  frames = refl;
}
