-- The top frame is taken off, and the frame below goes on after its call.
use Rattle.std.proofs.Common.{◌≡◌, ◌*◌, ℕ, ◌+◌, ◌-◌, ◌<◌, ◌≤◌, List, [], ◌∷◌, ◌++◌, length, Option, Some, None, refl, sym, ap, subst, append_assoc, arith, ◌∙◌}
use Rattle.std.proofs.lemmas.List.{append-nil}
use Rattle.list_lemmas.proofs.LastItems.{one_last}
use Rattle.jk_model.specs.declared.values.Value.{Value}
use Rattle.jk_model_frames.specs.Frames.{FrameState, head_chunks}
use Rattle.number_table.specs.declared.chains.Chains.{Chains}
use Rattle.frame_store.specs.declared.cursor.Cursor.{Cursor}
use Rattle.frame_store.specs.declared.domain_frames.DomainFrames.{DomainFrames}
use Rattle.number_table.specs.ChainMoves.{count, place}
use Rattle.frame_store.specs.Cursors.{HasValuesAt, IsAimed}
use Rattle.frame_store.specs.FrameContents.{given_back, gone_on}
use Rattle.frame_store.specs.DomainMoves.{depth_of, frames_of, locals_at, lower_of, start_of, top_of, top_number, value_at, Becomes, HasTop, IsFrameNumber, IsSlot, IsTopOf}
use Rattle.frame_store.specs.Builds.{length-build}
use Rattle.frame_store.proofs.CursorPoints.{has_some, some_pushed}
use Rattle.frame_store.proofs.FramesCalled.{lower_kept, top_kept, top_now}
use Rattle.frame_store.proofs.TopIsWritten.{frames_more, is_top_frame}

-- ---- Cursors after writes that leave the chains as they are.

module _ (x y : DomainFrames) (c : Cursor) (parts : y.parts ≡ x.parts) (locals : locals_at y c.frame ≡ locals_at x c.frame) where
  pub values_still : HasValuesAt x c → HasValuesAt y c
  values_still was =
      let start : start_of x c.frame ≡ start_of y c.frame = ap (λ (q : Chains). 20 * place q c.frame 0) (sym parts) in
      record {
        start = was.start ∙ start;
        base = omega (arith, was.base, start, locals);
        room = omega (arith, was.room, locals);
      }

pub number_still : (x y : DomainFrames) (i : ℕ) → y.frames ≡ x.frames → top_number y i ≡ top_number x i
number_still x y i frames = ap (λ (q : Chains). place q i (count q i - 1)) frames

pub aimed_still : (x y : DomainFrames) (c b : Cursor) → y.frames ≡ x.frames → y.parts ≡ x.parts → locals_at y b.frame ≡ locals_at x b.frame
    → IsAimed x c b → IsAimed y c b
aimed_still x y c b frames parts locals aimed =
    record {
      segment = aimed.segment;
      place = aimed.place;
      domain = aimed.domain;
      frame = aimed.frame ∙ sym (number_still x y c.place.slot frames);
      values = values_still x y b parts locals aimed.values;
    }

-- one change after another
pub then_becomes : (x y z : DomainFrames) (i used : ℕ) (fs gs : List FrameState) → Becomes x y i fs used → Becomes y z i gs y.used → Becomes x z i gs used
then_becomes x y z i used fs gs a b =
    let in_y : (j : ℕ) → j < x.chunks → j < y.chunks = λ j lt. omega (arith, a.same_chunks) in
    record {
      same_chunks = b.same_chunks ∙ a.same_chunks;
      same_slots = b.same_slots ∙ a.same_slots;
      becomes = b.becomes;
      others = λ j lt ne. b.others j (in_y j lt) ne ∙ a.others j lt ne;
      uses = b.uses ∙ a.uses;
    }

-- ---- The frames of the segment.

-- a value that is given back has room
pub has_room : (f : FrameState) (o : Option Value) (v : Value) → o ≡ Some v → length f.stack + length (given_back o) ≤ f.head.max_stack
    → length f.stack < f.head.max_stack
has_room f o v e room =
    let P : Option Value → Type 0 = λ (w : Option Value). length f.stack + length (given_back w) ≤ f.head.max_stack in
    let one = subst P e room in
    omega arith

deep_by : (n a b : ℕ) → n ≡ a → a ≡ b + 2 → 0 < n
deep_by n a b e f = omega arith

two_more : (fs : List FrameState) (f g : FrameState) → length (fs ++ f ∷ g ∷ []) ≡ length fs + 2
two_more [] f g = refl
two_more (h ∷ fs) f g = let rest = two_more fs f g in omega arith

module _ (d : DomainFrames) (i : ℕ) (slot : IsSlot d i) (lower : List FrameState) (below top : FrameState)
    (are : frames_of d i ≡ lower ++ below ∷ top ∷ []) where
  pub top_there : HasTop d i
  top_there = (
    slot.0,
    deep_by (depth_of d i) (length (frames_of d i)) (length lower) (sym (length-build (λ k. value_at d (place d.frames i k)) (depth_of d i)))
        (ap (λ (fs : List FrameState). length fs) are ∙ two_more lower below top),
  )

  ends : (lower_of d i ≡ lower ++ below ∷ []) × (top_of d i ≡ top)
  ends =
      one_last (lower_of d i) (lower ++ below ∷ []) (top_of d i) top
      (sym (frames_more d i top_there) ∙ are ∙ sym (append_assoc lower (below ∷ []) (top ∷ [])))

  module _ (e : DomainFrames) (popped : Becomes d e i (lower_of d i) (d.used - head_chunks (top_of d i).head)) where
    pub below_there : HasTop e i
    below_there =
        let Some_there : List FrameState → Type 0 = λ (fs : List FrameState). 0 < length fs in
        has_some d e i _ (lower_of d i) popped slot (subst Some_there (sym ends.0) (some_pushed lower below))

    now : (lower_of e i ≡ lower) × (top_of e i ≡ below)
    now = one_last (lower_of e i) lower (top_of e i) below (sym (frames_more e i below_there) ∙ popped.becomes ∙ ends.0)

    pub used_now : Becomes d e i (lower_of d i) (d.used - head_chunks top.head)
    used_now =
        let P : FrameState → Type 0 = λ (f : FrameState). Becomes d e i (lower_of d i) (d.used - head_chunks f.head) in
        subst P ends.1 popped

    module _ (frame : ℕ) (number : frame ≡ top_number e i) where
      pub frame_there : IsFrameNumber e frame
      frame_there = is_top_frame e i frame below_there number

      pub on_top : IsTopOf e i frame
      on_top = record { has_top = below_there; is = number }

      pub below_is : value_at e frame ≡ below
      below_is = ap (value_at e) number ∙ now.1

      -- the frame below goes on
      abbrev going : FrameState → FrameState
      going f = record f { head = record f.head { at = f.head.at + 1; need = None } }

      module _ (g : DomainFrames) (frames : g.frames ≡ e.frames) (b : Becomes e g i (lower_of e i ++ going (top_of e i) ∷ []) e.used) where
        pub gone_there : HasTop g i
        gone_there = top_kept e g i (going (top_of e i)) e.used below_there frames b

        gone_number : frame ≡ top_number g i
        gone_number = number ∙ sym (number_still e g i frames)

        pub gone_frame : IsFrameNumber g frame
        gone_frame = is_top_frame g i frame gone_there gone_number

        pub gone_top : IsTopOf g i frame
        gone_top = record { has_top = gone_there; is = gone_number }

        top_gone : top_of g i ≡ going below
        top_gone = top_now e g i (going (top_of e i)) e.used below_there frames b ∙ ap going now.1

        pub gone_is : value_at g frame ≡ going below
        gone_is = ap (value_at g) gone_number ∙ top_gone

        gone_frames : frames_of g i ≡ lower ++ going below ∷ []
        gone_frames =
            b.becomes ∙ ap (λ (fs : List FrameState). fs ++ going (top_of e i) ∷ []) now.0 ∙ ap (λ (f : FrameState). lower ++ going f ∷ []) now.1

        -- with nothing given back
        pub none_given : Becomes d g i (lower ++ gone_on None below ∷ []) (d.used - head_chunks top.head)
        none_given =
            let all = then_becomes d e g i _ (lower_of d i) (lower_of e i ++ going (top_of e i) ∷ []) used_now b in
            let same : going below ≡ gone_on None below =
            ap (λ (xs : List Value). let f : FrameState = record (going below) { stack = xs } in f) (sym (append-nil below.stack)) in
            record {
              same_chunks = all.same_chunks;
              same_slots = all.same_slots;
              becomes = gone_frames ∙ ap (λ (f : FrameState). lower ++ f ∷ []) same;
              others = all.others;
              uses = all.uses;
            }

        -- with a value given back
        module _ (h : DomainFrames) (v : Value)
            (p : Becomes g h i (lower_of g i ++ record (top_of g i) { stack = (top_of g i).stack ++ v ∷ [] } ∷ []) g.used) where
          pub one_given : Becomes d h i (lower ++ gone_on (Some v) below ∷ []) (d.used - head_chunks top.head)
          one_given =
              let pushed : FrameState → FrameState = λ (f : FrameState). record f { stack = f.stack ++ v ∷ [] } in
              let all =
              then_becomes d g h i _ (lower_of e i ++ going (top_of e i) ∷ []) (lower_of g i ++ pushed (top_of g i) ∷ [])
              (then_becomes d e g i _ (lower_of d i) (lower_of e i ++ going (top_of e i) ∷ []) used_now b) p in
              let lower_is = lower_kept e g i (going (top_of e i)) e.used below_there frames b ∙ now.0 in
              record {
                same_chunks = all.same_chunks;
                same_slots = all.same_slots;
                becomes =
                    p.becomes ∙ ap (λ (fs : List FrameState). fs ++ pushed (top_of g i) ∷ []) lower_is
                    ∙ ap (λ (f : FrameState). lower ++ pushed f ∷ []) top_gone;
                others = all.others;
                uses = all.uses;
              }
