-- A frame is called: it is put on top, the arguments come into its locals, and then they are off the frame below.
use Rattle.std.proofs.Common.{◌≡◌, ◌*◌, ℕ, ◌+◌, ◌-◌, ◌^◌, ◌<◌, ◌≤◌, List, [], ◌∷◌, ◌++◌, length, replicate, set, Some, slice_get, refl, sym, ap, subst, append_assoc, arith, ◌∙◌}
use Rattle.std.proofs.lemmas.List.{append-nil, length-append, length-replicate}
use Rattle.std.proofs.lemmas.Option.{same_Some}
use Rattle.list_lemmas.proofs.LastItems.{one_last}
use Rattle.jk_model.specs.declared.frames.FrameHead.{FrameHead}
use Rattle.jk_model.specs.declared.values.Value.{Value}
use Rattle.jk_model.specs.declared.values.Value.TheVariants.{Unset}
use Rattle.jk_model_frames.specs.Frames.{FrameState, as_locals, called_frame, locals_of, new_frame}
use Rattle.number_table.specs.declared.chains.Chains.{Chains}
use Rattle.frame_store.specs.declared.domain_frames.DomainFrames.{DomainFrames}
use Rattle.number_table.specs.ChainMoves.{count, place, MovesTop}
use Rattle.frame_store.specs.DomainMoves.{depth_of, frames_of, lower_of, start_of, top_of, top_number, value_at, HasTop, IsTopOf, IsFrameNumber, Becomes, HasGiven, MayGive, GivesTo}
use Rattle.frame_store.specs.Builds.{get-build, length-build}
use Rattle.frame_store.proofs.TopIsWritten.{frames_more, is_frame, top_is_frame}
use Rattle.frame_store.proofs.ArgumentsInLocals.{get_next, locals_fit, locals_length, none_given, one_given, same_back, set_at, takes_local}

-- where the lower frames of two domains are the same, so is each
lower_value : (x y : DomainFrames) (i k : ℕ) → k < depth_of x i - 1 → k < depth_of y i - 1 → lower_of x i ≡ lower_of y i
    → value_at x (place x.frames i k) ≡ value_at y (place y.frames i k)
lower_value x y i k x_lt y_lt same =
    same_Some _ _
    (sym (get-build (λ j. value_at x (place x.frames i j)) (depth_of x i - 1) k x_lt)
    ∙ ap (λ (l : List FrameState). slice_get l k) same
    ∙ get-build (λ j. value_at y (place y.frames i j)) (depth_of y i - 1) k y_lt)

-- what a change of the top frame leaves
module _ (d e : DomainFrames) (i : ℕ) (f : FrameState) (used : ℕ) (top : HasTop d i) (frames : e.frames ≡ d.frames)
    (b : Becomes d e i (lower_of d i ++ f ∷ []) used) where
  pub depth_kept : depth_of e i ≡ depth_of d i
  depth_kept = ap (λ (q : Chains). count q i) frames

  pub top_kept : HasTop e i
  top_kept = (let same = b.same_chunks in let in_d = top.0 in omega arith, let in_d = top.1 in omega (arith, depth_kept))

  both : (lower_of e i ≡ lower_of d i) × (top_of e i ≡ f)
  both = one_last (lower_of e i) (lower_of d i) (top_of e i) f (sym (frames_more e i top_kept) ∙ b.becomes)

  pub lower_kept : lower_of e i ≡ lower_of d i
  lower_kept = both.0

  pub top_now : top_of e i ≡ f
  top_now = both.1

  pub below_kept : (k : ℕ) → k < depth_of d i - 1 → value_at e (place e.frames i k) ≡ value_at d (place d.frames i k)
  below_kept k lt = lower_value e d i k (omega (arith, lt, depth_kept)) lt lower_kept

-- ---- Arguments are copied.

module _ (d : DomainFrames) (caller frame many : ℕ) (may : MayGive d caller frame many) where
  -- So many arguments are in the locals of the new frame.
  pub record HasGivenSome (now : DomainFrames) (k at : ℕ) : Type 0 where
    pub frames : now.frames ≡ d.frames
    pub parts : now.parts ≡ d.parts
    pub done : List Value
    pub rest : List Value
    pub split : may.given ≡ done ++ rest
    pub as_many : length done ≡ k
    pub at_is : at ≡ length (locals_of done)
    pub gives : GivesTo d now may.slot may.head done

  new_on_top : top_of d may.slot ≡ called_frame may.head []
  new_on_top = ap (value_at d) (sym may.is_top) ∙ may.is_new ∙ none_given may.head

  pub none_yet : HasGivenSome d 0 0
  none_yet =
      record {
        frames = refl;
        parts = refl;
        done = [];
        rest = may.given;
        split = refl;
        as_many = refl;
        at_is = refl;
        gives = record {
          same_chunks = refl;
          same_slots = refl;
          becomes =
              frames_more d may.slot may.has_top ∙ ap (λ (f : FrameState). lower_of d may.slot ++ f ∷ []) new_on_top;
          others = λ j lt ne. refl;
          uses = refl;
        };
      }

  heights : length (value_at d caller).stack ≡ length may.below + many
  heights = omega (arith, ap (λ (l : List Value). length l) may.stack, length-append may.below may.given, may.as_many)

  pub enough : many ≤ length (value_at d caller).stack
  enough = omega (arith, heights)

  pub first_entry : (height : ℕ) → height ≡ length (value_at d caller).stack → height - many ≡ length may.below
  first_entry height e = omega (arith, e, heights)

  pub caller_frame : IsFrameNumber d caller
  caller_frame =
      let P : ℕ → Type 0 = λ n. IsFrameNumber d n in
      let deep = may.deep in
      subst P (sym may.is_caller) (is_frame d may.slot (depth_of d may.slot - 2) may.has_top.0 (omega arith))

  pub new_frame_number : IsFrameNumber d frame
  new_frame_number = let P : ℕ → Type 0 = λ n. IsFrameNumber d n in subst P (sym may.is_top) (top_is_frame d may.slot may.has_top)

  module _ (now : DomainFrames) (k at : ℕ) (some : HasGivenSome now k at) where
    abbrev i : ℕ
    i = may.slot

    abbrev partial : FrameState
    partial = called_frame may.head some.done

    has_top : HasTop now i
    has_top = top_kept d now i partial d.used may.has_top some.frames some.gives

    same_depth : depth_of now i ≡ depth_of d i
    same_depth = depth_kept d now i partial d.used may.has_top some.frames some.gives

    caller_place : caller ≡ place now.frames i (depth_of d i - 2)
    caller_place = may.is_caller ∙ ap (λ (q : Chains). place q i (depth_of d i - 2)) (sym some.frames)

    frame_place : frame ≡ top_number now i
    frame_place = may.is_top ∙ ap (λ (q : Chains). place q i (count q i - 1)) (sym some.frames)

    pub caller_is : IsFrameNumber now caller
    caller_is =
        let P : ℕ → Type 0 = λ n. IsFrameNumber now n in
        let deep = may.deep in
        subst P (sym caller_place) (is_frame now i (depth_of d i - 2) has_top.0 (omega (arith, same_depth)))

    pub frame_is : IsFrameNumber now frame
    frame_is = let P : ℕ → Type 0 = λ n. IsFrameNumber now n in subst P (sym frame_place) (top_is_frame now i has_top)

    pub start_is : (g low : ℕ) → low ≡ start_of d g → low ≡ start_of now g
    start_is g low e = e ∙ ap (λ (q : Chains). 20 * place q g 0) (sym some.parts)

    caller_same : value_at now caller ≡ value_at d caller
    caller_same =
        let deep = may.deep in
        ap (value_at now) caller_place
        ∙ below_kept d now i partial d.used may.has_top some.frames some.gives (depth_of d i - 2) (omega arith)
        ∙ ap (value_at d) (sym may.is_caller)

    frame_now : value_at now frame ≡ partial
    frame_now = ap (value_at now) frame_place ∙ top_now d now i partial d.used may.has_top some.frames some.gives

    pub entry_there : (first : ℕ) → first ≡ length may.below → k < many → first + k < length (value_at now caller).stack
    entry_there first e lt = omega (arith, ap (λ (f : FrameState). length f.stack) caller_same, heights)

    -- The next one.
    record HasNext : Type 0 where
      next : Value
      after : List Value
      rest_is : some.rest ≡ next ∷ after

    has_next : k < many → HasNext
    has_next lt = from some.rest refl
      where
        from : (l : List Value) → some.rest ≡ l → HasNext
        from [] e =
            let all = ap (λ (l : List Value). length l) (some.split ∙ ap (λ (l : List Value). some.done ++ l) e ∙ append-nil some.done) in
            absurd (omega (arith, all, may.as_many, some.as_many, lt))
        from (v ∷ l) e = record { next = v; after = l; rest_is = e }

    module _ (lt : k < many) where
      abbrev more : HasNext
      more = has_next lt

      given_split : may.given ≡ some.done ++ more.next ∷ more.after
      given_split = some.split ∙ ap (λ (l : List Value). some.done ++ l) more.rest_is

      fits : at + length (as_locals more.next) ≤ may.head.max_locals
      fits =
          omega
          (arith, some.at_is, locals_fit some.done more.next more.after, ap (λ (l : List Value). length (locals_of l)) given_split, may.room)

      pub local_there : at < length (value_at now frame).locals
      local_there =
          let whole : length partial.locals ≡ may.head.max_locals =
          omega (
            arith,
            length-append (locals_of some.done) (replicate (may.head.max_locals - length (locals_of some.done)) Unset),
            length-replicate (may.head.max_locals - length (locals_of some.done)) Unset,
            fits,
            some.at_is,
          ) in
          omega (arith, ap (λ (f : FrameState). length f.locals) frame_now, whole, fits, takes_local more.next)

      stack_split : (value_at now caller).stack ≡ (may.below ++ some.done) ++ more.next ∷ more.after
      stack_split =
          ap (λ (f : FrameState). f.stack) caller_same ∙ may.stack ∙ ap (λ (l : List Value). may.below ++ l) given_split
          ∙ sym (append_assoc may.below some.done (more.next ∷ more.after))

      module _ (first : ℕ) (first_is : first ≡ length may.below) (v : Value) (read : slice_get (value_at now caller).stack (first + k) ≡ Some v) where
        v_is : more.next ≡ v
        v_is =
            same_Some _ _
            (sym (get_next (may.below ++ some.done) more.next more.after (first + k)
            (omega (arith, length-append may.below some.done, first_is, some.as_many)))
            ∙ sym (ap (λ (l : List Value). slice_get l (first + k)) stack_split) ∙ read)

        pub no_overflow : at + length (as_locals v) < 2 ^ 16
        no_overflow = omega (arith, fits, ap (λ (w : Value). length (as_locals w)) v_is, may.small)

        module _ (new : DomainFrames) (new_frames : new.frames ≡ now.frames) (new_parts : new.parts ≡ now.parts)
            (sets : (j : ℕ) → IsTopOf now j frame → let f = top_of now j in
            Becomes now new j (lower_of now j ++ record f { locals = set f.locals at v } ∷ []) now.used) where
          set_now : Becomes now new i (lower_of now i ++ record (top_of now i) { locals = set (top_of now i).locals at v } ∷ []) now.used
          set_now = sets i (record { has_top = has_top; is = frame_place })

          room_next : length (locals_of (some.done ++ v ∷ [])) ≤ may.head.max_locals
          room_next = omega (arith, locals_length some.done v, fits, some.at_is, ap (λ (w : Value). length (as_locals w)) v_is)

          written : (let f : FrameState = record (top_of now i) { locals = set (top_of now i).locals at v } in f) ≡ called_frame may.head (some.done ++ v ∷ [])
          written =
              ap (λ (f : FrameState). let g : FrameState = record f { locals = set f.locals at v } in g)
              (top_now d now i partial d.used may.has_top some.frames some.gives)
              ∙ ap (λ n. let g : FrameState = record partial { locals = set partial.locals n v } in g) some.at_is
              ∙ one_given may.head some.done v room_next

          pub one_more : (next_at : ℕ) → next_at ≡ at + length (as_locals v) → HasGivenSome new (k + 1) next_at
          one_more next_at e =
              record {
                frames = new_frames ∙ some.frames;
                parts = new_parts ∙ some.parts;
                done = some.done ++ v ∷ [];
                rest = more.after;
                split =
                    given_split ∙ ap (λ (w : Value). some.done ++ w ∷ more.after) v_is ∙ sym (append_assoc some.done (v ∷ []) more.after);
                as_many = omega (arith, length-append some.done (v ∷ []), some.as_many);
                at_is = omega (arith, e, some.at_is, locals_length some.done v);
                gives = record {
                  same_chunks = set_now.same_chunks ∙ some.gives.same_chunks;
                  same_slots = set_now.same_slots ∙ some.gives.same_slots;
                  becomes =
                      set_now.becomes
                      ∙ ap (λ (l : List FrameState). l ++ record (top_of now i) { locals = set (top_of now i).locals at v } ∷ [])
                      (lower_kept d now i partial d.used may.has_top some.frames some.gives)
                      ∙ ap (λ (f : FrameState). lower_of d i ++ f ∷ []) written;
                  others =
                      λ j j_lt ne. set_now.others j (let same = some.gives.same_chunks in omega arith) ne ∙ some.gives.others j j_lt ne;
                  uses = set_now.uses ∙ some.gives.uses;
                };
              }

    pub all_given : k ≡ many → GivesTo d now i may.head may.given
    all_given e =
        let none : some.rest ≡ [] =
        empty some.rest
        (omega (arith, ap (λ (l : List Value). length l) some.split, length-append some.done some.rest, may.as_many, some.as_many, e)) in
        let all : some.done ≡ may.given = sym (some.split ∙ ap (λ (l : List Value). some.done ++ l) none ∙ append-nil some.done) in
        subst (GivesTo d now i may.head) all some.gives
      where
        empty : (l : List Value) → length l ≡ 0 → l ≡ []
        empty [] e = refl
        empty (v ∷ l) e = absurd (omega (arith, e))

-- ---- The frame is on top.

-- what was moved onto a segment is its top frame, also where the chains stay after that
module _ (d e n : DomainFrames) (i frame : ℕ) (moves : MovesTop d.frames e.frames d.chunks i frame) (n_frames : n.frames ≡ e.frames) where
  pub moved_top : frame ≡ top_number n i
  moved_top =
      let at : depth_of e i - 1 ≡ depth_of d i = omega (arith, moves.to_count) in
      sym moves.lands ∙ ap (place e.frames i) (sym at) ∙ ap (λ (q : Chains). place q i (count q i - 1)) (sym n_frames)

  pub moved_number : i < d.chunks → n.chunks ≡ d.chunks → IsFrameNumber n frame
  moved_number within n_chunks =
      let P : ℕ → Type 0 = λ k. IsFrameNumber n k in
      let deep : depth_of n i ≡ depth_of e i = ap (λ (q : Chains). count q i) n_frames in
      let here : HasTop n i = (omega (arith, within, n_chunks), omega (arith, deep, moves.to_count)) in
      subst P (sym moved_top) (top_is_frame n i here)

module _ (d e : DomainFrames) (i frame : ℕ) (head : FrameHead) (many used : ℕ) (top : HasTop d i) (has : HasGiven d i head many)
    (moves : MovesTop d.frames e.frames d.chunks i frame) (b : Becomes d e i (frames_of d i ++ new_frame head ∷ []) used)
    (small : head.max_locals < 2 ^ 16) (caller : ℕ) (caller_is : caller ≡ top_number d i) where
  pub one_deeper : depth_of e i ≡ depth_of d i + 1
  one_deeper = moves.to_count

  pub top_there : HasTop e i
  top_there = (let same = b.same_chunks in let in_d = top.0 in omega arith, omega (arith, one_deeper))

  pub on_top : (lower_of e i ≡ frames_of d i) × (top_of e i ≡ new_frame head)
  on_top = one_last (lower_of e i) (frames_of d i) (top_of e i) (new_frame head) (sym (frames_more e i top_there) ∙ b.becomes)

  pub frame_top : frame ≡ top_number e i
  frame_top = moved_top d e e i frame moves refl

  pub second : depth_of e i - 2 ≡ depth_of d i - 1
  second = omega (arith, one_deeper)

  pub caller_at : place e.frames i (depth_of d i - 1) ≡ caller
  caller_at =
      let some = top.1 in
      moves.others i (depth_of d i - 1) (let within = top.0 in omega (arith, d.ok.segments_are)) (omega arith) (omega (arith, one_deeper))
      ∙ sym caller_is

  pub caller_was : value_at e caller ≡ top_of d i
  caller_was =
      let some = top.1 in
      same_Some _ _
      (ap (λ n. Some (value_at e n)) (sym caller_at)
      ∙ sym (get-build (λ j. value_at e (place e.frames i j)) (depth_of e i - 1) (depth_of d i - 1) (omega (arith, one_deeper)))
      ∙ ap (λ (l : List FrameState). slice_get l (depth_of d i - 1)) on_top.0
      ∙ get-build (λ j. value_at d (place d.frames i j)) (depth_of d i) (depth_of d i - 1) (omega arith))

  -- the frame is still on top where the chains stay
  module _ (n : DomainFrames) (n_frames : n.frames ≡ e.frames) (n_chunks : n.chunks ≡ d.chunks) where
    pub frame_last : frame ≡ top_number n i
    frame_last = moved_top d e n i frame moves n_frames

    pub number_last : IsFrameNumber n frame
    number_last = moved_number d e n i frame moves n_frames top.0 n_chunks

  module _ (below given : List Value) (stack : (top_of d i).stack ≡ below ++ given) (as_many : length given ≡ many) where
    pub same_given : has.1 ≡ given
    same_given =
        let whole = sym has.2 ∙ stack in
        let sizes : length has.0 ≡ length below =
        omega (
          arith,
          ap (λ (l : List Value). length l) whole,
          length-append has.0 has.1,
          length-append below given,
          as_many,
          has.3,
        ) in
        same_back has.0 has.1 below given sizes whole

    abbrev pub may_give : MayGive e caller frame many
    may_give =
        let some = top.1 in
        record {
          slot = i;
          has_top = top_there;
          deep = omega (arith, one_deeper);
          is_top = frame_top;
          is_caller = sym caller_at ∙ ap (place e.frames i) (sym second);
          head = head;
          is_new = ap (value_at e) frame_top ∙ on_top.1;
          below = below;
          given = given;
          stack = ap (λ (f : FrameState). f.stack) caller_was ∙ stack;
          as_many = as_many;
          room = let P : List Value → Type 0 = λ l. length (locals_of l) ≤ head.max_locals in subst P same_given has.4;
          small = small;
        }

    -- the arguments are copied
    module _ (m : DomainFrames) (frames : m.frames ≡ e.frames) (gives : GivesTo e m i head given) where
      copied : frames_of m i ≡ lower_of d i ++ top_of d i ∷ called_frame head given ∷ []
      copied =
          gives.becomes
          ∙ ap (λ (l : List FrameState). l ++ called_frame head given ∷ []) (on_top.0 ∙ frames_more d i top)
          ∙ append_assoc (lower_of d i) (top_of d i ∷ []) (called_frame head given ∷ [])

      caller_in : caller ≡ place m.frames i (depth_of d i - 1)
      caller_in = sym caller_at ∙ ap (λ (q : Chains). place q i (depth_of d i - 1)) (sym frames)

      caller_now : value_at m caller ≡ top_of d i
      caller_now =
          let some = top.1 in
          ap (value_at m) caller_in
          ∙ below_kept e m i (called_frame head given) e.used top_there frames gives (depth_of d i - 1) (omega (arith, one_deeper))
          ∙ ap (value_at e) caller_at ∙ caller_was

      m_top : HasTop m i
      m_top = top_kept e m i (called_frame head given) e.used top_there frames gives

      m_depth : depth_of m i ≡ depth_of e i
      m_depth = depth_kept e m i (called_frame head given) e.used top_there frames gives

      pub caller_number : IsFrameNumber m caller
      caller_number =
          let P : ℕ → Type 0 = λ n. IsFrameNumber m n in
          let some = top.1 in
          subst P (sym caller_in) (is_frame m i (depth_of d i - 1) m_top.0 (omega (arith, m_depth, one_deeper)))

      pub caller_has : many ≤ length (value_at m caller).stack
      caller_has =
          omega (
            arith,
            ap (λ (f : FrameState). length f.stack) caller_now,
            ap (λ (l : List Value). length l) stack,
            length-append below given,
            as_many,
          )

      -- and then they are off the caller
      pub called : (n : DomainFrames) (total : ℕ) → used ≡ total
          → Becomes m n i (set (frames_of m i) (depth_of d i - 1) (record (value_at m caller) { stack = below })) m.used
          → Becomes d n i (lower_of d i ++ record (top_of d i) { stack = below } ∷ called_frame head given ∷ []) total
      called n total total_is s =
          record {
            same_chunks = s.same_chunks ∙ gives.same_chunks ∙ b.same_chunks;
            same_slots = s.same_slots ∙ gives.same_slots ∙ b.same_slots;
            becomes =
                s.becomes
                ∙ ap (λ (l : List FrameState). set l (depth_of d i - 1) (record (value_at m caller) { stack = below })) copied
                ∙ ap (λ (f : FrameState). set (lower_of d i ++ top_of d i ∷ called_frame head given ∷ []) (depth_of d i - 1) (record f { stack = below }))
                caller_now
                ∙ set_at (lower_of d i) (record (top_of d i) { stack = below }) (top_of d i) (called_frame head given ∷ []) (depth_of d i - 1)
                (sym (length-build (λ k. value_at d (place d.frames i k)) (depth_of d i - 1)));
            others =
                λ j lt ne.
                s.others j (let one = gives.same_chunks in let two = b.same_chunks in omega arith) ne
                ∙ gives.others j (let two = b.same_chunks in omega arith) ne
                ∙ b.others j lt ne;
            uses = s.uses ∙ gives.uses ∙ b.uses ∙ total_is;
          }

      pub off_at : (place_is : caller ≡ place m.frames i (depth_of d i - 1)) × (depth_of d i - 1 < depth_of m i) × (i < m.chunks)
          × ((value_at m caller).stack ≡ below ++ given)
      off_at =
          let some = top.1 in (
            caller_in,
            omega (arith, m_depth, one_deeper),
            m_top.0,
            ap (λ (f : FrameState). f.stack) caller_now ∙ stack,
          )
