-- A typing over the kept locals is one of the whole code, and of each typing of the whole code there is one over the kept locals.
use Rattle.std.proofs.Common.{◌≡◌, ℕ, zero, suc, ◌-◌, ◌<◌, ◌≤◌, ◌⊎◌, inl, inr, Bool, true, false, ℤ, pos, IsTrue, List, [], ◌∷◌, ◌++◌, length, map, replicate, flat_map, Contains, Option, Some, None, refl, sym, ap, ◌∙◌, subst, arith, length-append}
use Rattle.std.specs.List.{slice_get}
use Rattle.std.specs.Prelude.{◌&&◌, ◌||◌, if◌then◌else◌, option_map}
use Rattle.std.proofs.lemmas.Bool.{and_parts as both}
use Rattle.std.proofs.lemmas.List.{length-map, length-replicate}
use Rattle.std.proofs.lemmas.Option.{same_Some, slice_get_within}
use Rattle.list_lemmas.proofs.ItemsByPlace.{item_there}
use Rattle.jk_model.specs.declared.instructions.Instr.{Instr}
use Rattle.jk_model_classes.specs.declared.records.Caught.{Caught}
use Rattle.jk_model_classes.specs.declared.records.LinkedCode.{LinkedCode}
use Rattle.jk_model_classes.specs.MemberCode.{is_jump, is_switch}
use Rattle.jk_model_typing.specs.declared.frames.FrameType.{FrameType}
use Rattle.jk_model_typing.specs.declared.frames.VType.{VType}
use Rattle.jk_model_typing.specs.declared.frames.VType.TheVariants.{Unusable, Long, FreshThis}
use Rattle.jk_model_typing.specs.FrameTypes.{FrameFits, IsFrameOf, of_class}
use Rattle.jk_model_typing.specs.Scopes.{CodeScope, is_init, is_static, own_receiver, parameter_values}
use Rattle.jk_model_typing.specs.Typing.{FitsAt, FrameAt, GoesOnAt, GoesWell, IsStart, as_locals, handler_frame, is_store}
use Rattle.touched_locals.specs.Narrowing.{IsNarrowed, IsRenamed, kept_count, names_local, rank, wide_frame, wide_frames, widened, with_code}
use Rattle.touched_locals.specs.TypingsIn.{IsLeastTypingIn, IsTypingIn}
use Rattle.touched_locals.proofs.LocalsNarrowed.{AreFirst, EndsShort, count-most, ends-above, ends-tested, ends-told, ends_short, first-counted, given-halved, is_wide, narrow-back, narrow-many, narrow_locals, wide-above, widened-given}
use Rattle.touched_locals.proofs.LocalsWidened.{fits-narrowed, fits-widened}
use Rattle.touched_locals.proofs.RowsWidened.{frame-narrow, frame-wide, row-narrow, row-wide}
use Rattle.touched_locals.proofs.ShapesRenamed.{by_opcodes}

-- ---- Where control goes.

goes_nowhere : (op : ℕ) → names_local op ≡ true → (is_jump op || is_switch op) ≡ false
goes_nowhere op h = by_opcodes (λ n. (is_jump n || is_switch n) ≡ false) refl refl refl refl refl refl refl op h

same_op : (marks : List Bool) (i j : Instr) → IsRenamed marks i j → j.op ≡ i.op
same_op marks i j (inl (other, same)) = ap (λ (k : Instr). k.op) same
same_op marks i j (inr (names, (n, is, touched, same))) = ap (λ (k : Instr). k.op) same

stores_too : (marks : List Bool) (i j : Instr) → IsRenamed marks i j → IsTrue (is_store i.op) → IsTrue (is_store j.op)
stores_too marks i j renamed h = subst (λ (op : ℕ). IsTrue (is_store op)) (sym (same_op marks i j renamed)) h

stores_as : (marks : List Bool) (i j : Instr) → IsRenamed marks i j → IsTrue (is_store j.op) → IsTrue (is_store i.op)
stores_as marks i j renamed h = subst (λ (op : ℕ). IsTrue (is_store op)) (same_op marks i j renamed) h

-- an instruction that names a local leads where it does whatever that local's number is
goes_alike : (i : Instr) (a : ℤ) (place : ℕ) (next : ℤ) → names_local i.op ≡ true → GoesOnAt place i next → GoesOnAt place (record i { a = a }) next
goes_alike i a place next names (inl on) = inl on
goes_alike i a place next names (inr (inl (branches, to))) =
    let z : false ≡ true = sym (goes_nowhere i.op names) ∙ branches in
    absurd cc
goes_alike i a place next names (inr (inr case)) = inr (inr case)

goes_back : (i : Instr) (a : ℤ) (place : ℕ) (next : ℤ) → names_local i.op ≡ true → GoesOnAt place (record i { a = a }) next → GoesOnAt place i next
goes_back i a place next names (inl on) = inl on
goes_back i a place next names (inr (inl (branches, to))) =
    let z : false ≡ true = sym (goes_nowhere i.op names) ∙ branches in
    absurd cc
goes_back i a place next names (inr (inr case)) = inr (inr case)

goes_too : (marks : List Bool) (i j : Instr) (place : ℕ) (next : ℤ) → IsRenamed marks i j → GoesOnAt place i next → GoesOnAt place j next
goes_too marks i j place next (inl (other, same)) goes = subst (λ (k : Instr). GoesOnAt place k next) (sym same) goes
goes_too marks i j place next (inr (names, (n, is, touched, same))) goes =
    subst (λ (k : Instr). GoesOnAt place k next) (sym same) (goes_alike i (pos (rank marks n)) place next names goes)

goes_as : (marks : List Bool) (i j : Instr) (place : ℕ) (next : ℤ) → IsRenamed marks i j → GoesOnAt place j next → GoesOnAt place i next
goes_as marks i j place next (inl (other, same)) goes = subst (λ (k : Instr). GoesOnAt place k next) same goes
goes_as marks i j place next (inr (names, (n, is, touched, same))) goes =
    goes_back i (pos (rank marks n)) place next names (subst (λ (k : Instr). GoesOnAt place k next) same goes)

-- ---- Frames by places.

wide-at : (marks : List Bool) (frames : List (Option FrameType)) (place : ℕ) (f : FrameType) → FrameAt frames place f
    → FrameAt (wide_frames marks frames) place (wide_frame marks f)
wide-at marks [] place f at = cc
wide-at marks (o ∷ frames) zero f at =
    let is : o ≡ Some f = same_Some o (Some f) at in
    ap (λ (x : Option FrameType). Some (option_map (wide_frame marks) x)) is
wide-at marks (o ∷ frames) (suc place) f at = wide-at marks frames place f at

wide-from : (marks : List Bool) (frames : List (Option FrameType)) (place : ℕ) (g : FrameType) → FrameAt (wide_frames marks frames) place g
    → (f : FrameType) × FrameAt frames place f × (wide_frame marks f ≡ g)
wide-from marks [] place g at = cc
wide-from marks (None ∷ frames) zero g at = cc
wide-from marks (Some f ∷ frames) zero g at =
    (f, refl, same_Some (wide_frame marks f) g (same_Some (Some (wide_frame marks f)) (Some g) at))
wide-from marks (o ∷ frames) (suc place) g at = wide-from marks frames place g at

abbrev narrow_frame : List Bool → FrameType → FrameType
narrow_frame marks g = record g { locals = narrow_locals marks g.locals }

-- whether a frame of the whole code is the widened one of a frame over the kept locals
is_kept : List Bool → FrameType → Bool
is_kept marks g = is_wide marks g.locals && ends_short marks g.locals

-- that frame, where it is one
keep_if : (b : Bool) → List Bool → FrameType → Option FrameType
keep_if true marks g = Some (narrow_frame marks g)
keep_if false marks g = None

pub keep : List Bool → Option FrameType → Option FrameType
keep marks None = None
keep marks (Some g) = keep_if (is_kept marks g) marks g

abbrev narrow_frames : List Bool → List (Option FrameType) → List (Option FrameType)
narrow_frames marks frames = map (keep marks) frames

keep_if-true : (b : Bool) (marks : List Bool) (g : FrameType) → b ≡ true → keep_if b marks g ≡ Some (narrow_frame marks g)
unfolding keep_if
keep_if-true true marks g h = refl
keep_if-true false marks g h = cc

keep_if-from : (b : Bool) (marks : List Bool) (g f : FrameType) → keep_if b marks g ≡ Some f → (b ≡ true) × (narrow_frame marks g ≡ f)
unfolding keep_if
keep_if-from true marks g f h = (refl, same_Some (narrow_frame marks g) f h)
keep_if-from false marks g f h = cc

kept-at : (marks : List Bool) (frames : List (Option FrameType)) (place : ℕ) (g : FrameType) → FrameAt frames place g → is_kept marks g ≡ true
    → FrameAt (narrow_frames marks frames) place (narrow_frame marks g)
unfolding keep
kept-at marks [] place g at h = cc
kept-at marks (None ∷ frames) zero g at h = cc
kept-at marks (Some x ∷ frames) zero g at h =
    let is : x ≡ g = same_Some x g (same_Some (Some x) (Some g) at) in
    ap (λ (y : FrameType). Some (keep_if (is_kept marks y) marks y)) is ∙ ap (λ (o : Option FrameType). Some o) (keep_if-true (is_kept marks g) marks g h)
kept-at marks (o ∷ frames) (suc place) g at h = kept-at marks frames place g at h

kept-from : (marks : List Bool) (frames : List (Option FrameType)) (place : ℕ) (f : FrameType) → FrameAt (narrow_frames marks frames) place f
    → (g : FrameType) × FrameAt frames place g × (is_kept marks g ≡ true) × (narrow_frame marks g ≡ f)
unfolding keep
kept-from marks [] place f at = cc
kept-from marks (None ∷ frames) zero f at = cc
kept-from marks (Some g ∷ frames) zero f at =
    let parts = keep_if-from (is_kept marks g) marks g f (same_Some (keep_if (is_kept marks g) marks g) (Some f) at) in
    (g, refl, parts.0, parts.1)
kept-from marks (o ∷ frames) (suc place) f at = kept-from marks frames place f at

-- ---- A typing over the kept locals.

module _ (s : CodeScope) (marks : List Bool) (code : LinkedCode) (narrowed : IsNarrowed s marks code) where
  abbrev Narrow : CodeScope
  Narrow = with_code s code

  frame_fits-wide : (f g : FrameType) → FrameFits s.classes f g → FrameFits s.classes (wide_frame marks f) (wide_frame marks g)
  frame_fits-wide f g fits = record {
    locals = fits-widened s.classes marks f.locals g.locals fits.locals;
    stack = fits.stack;
    usable = fits.usable;
    fresh = fits.fresh;
  }

  fits-wide : (frames : List (Option FrameType)) (n : ℕ) (x : FrameType) → FitsAt Narrow frames n x
      → FitsAt s (wide_frames marks frames) n (wide_frame marks x)
  fits-wide frames n x (g, at, fits) = (wide_frame marks g, wide-at marks frames n g at, frame_fits-wide x g fits)

  goes_well-wide : (frames : List (Option FrameType)) (place : ℕ) (i j : Instr) (f : FrameType) → IsRenamed marks i j → IsFrameOf code f
      → GoesWell Narrow frames place j f → GoesWell s (wide_frames marks frames) place i (wide_frame marks f)
  goes_well-wide frames place i j f renamed sized well = record {
    after = wide_frame marks well.after;
    row = row-wide s marks code narrowed place i j f well.after renamed sized well.row;
    goes_on = λ next goes.
        let (n, e, fits) = well.goes_on next (goes_too marks i j place next renamed goes) in
        (n, e, fits-wide frames n well.after fits);
    caught = λ h has covers.
        fits-wide frames h.handler (handler_frame Narrow h f.locals f.fresh)
        (well.caught h (subst (λ (hs : List Caught). Contains hs h) (sym narrowed.handlers) has) covers);
    caught_after = λ h has covers store.
        fits-wide frames h.handler (handler_frame Narrow h well.after.locals f.fresh)
        (well.caught_after h (subst (λ (hs : List Caught). Contains hs h) (sym narrowed.handlers) has) covers (stores_too marks i j renamed store));
  }

  start-wide : (f : FrameType) → IsStart Narrow f → IsStart s (wide_frame marks f)
  start-wide f start =
      let given : List VType = own_receiver s ++ flat_map as_locals (parameter_values s s.method) in
      let is : start.given ≡ given = start.given_is in
      let most = count-most marks in
      let room : length start.given ≤ kept_count marks = omega (arith, start.room, narrowed.locals) in
      let first : AreFirst marks (length start.given) =
      subst (λ (vs : List VType). length vs ≤ length marks → AreFirst marks (length vs)) (sym is) (λ within n less. narrowed.given n less (omega (arith, less)))
      (omega arith) in
      record {
        given = start.given;
        given_is = is;
        room = omega (arith, narrowed.marked);
        locals =
            ap (widened marks) start.locals
            ∙ widened-given marks start.given (code.max_locals - length start.given) (s.code.max_locals - length start.given) first
            (omega (arith, narrowed.locals)) (omega (arith, narrowed.marked));
        stack = start.stack;
        fresh = start.fresh;
      }

  pub typing-wide : (frames : List (Option FrameType)) → IsTypingIn Narrow frames → IsTypingIn s (wide_frames marks frames)
  typing-wide frames types = record {
    as_many = length-map frames (option_map (wide_frame marks)) ∙ types.as_many ∙ narrowed.as_many;
    sized = λ place g at.
        let (f, f_at, is) = wide-from marks frames place g at in
        subst (IsFrameOf s.code) is (frame-wide s marks code narrowed f (types.sized place f f_at));
    start = wide_frame marks types.start;
    start_is = start-wide types.start types.start_is;
    first = fits-wide frames 0 types.start types.first;
    each = λ place i g i_at at.
        let (f, f_at, is) = wide-from marks frames place g at in
        let (j, j_at) = item_there code.instrs place (omega (arith, slice_get_within s.code.instrs place i i_at, narrowed.as_many)) in
        subst (GoesWell s (wide_frames marks frames) place i) is
        (goes_well-wide frames place i j f (narrowed.each place i j i_at j_at) (types.sized place f f_at) (types.each place j f j_at f_at));
  }

  -- ---- A typing of the whole code.

  -- a frame of the whole code that is kept is one that was widened
  kept_wide : (g : FrameType) → IsFrameOf s.code g → is_kept marks g ≡ true
      → (wide_frame marks (narrow_frame marks g) ≡ g) × (length (narrow_locals marks g.locals) ≡ kept_count marks) × EndsShort marks g.locals
  unfolding is_kept
  kept_wide g sized h =
      let parts = both (is_wide marks g.locals) (ends_short marks g.locals) h in
      let many : length g.locals ≡ length marks = sized.locals ∙ sym narrowed.marked in (
        ap (λ (ls : List VType). record g { locals = ls }) (narrow-back marks g.locals many parts.0),
        narrow-many marks g.locals many,
        ends-told marks g.locals parts.1,
      )

  is_kept-above : (x g : FrameType) → EndsShort marks (widened marks x.locals) → FrameFits s.classes (wide_frame marks x) g → is_kept marks g ≡ true
  unfolding is_kept
  is_kept-above x g ends fits =
      both_true (is_wide marks g.locals) (ends_short marks g.locals) (wide-above s.classes marks x.locals g.locals fits.locals)
      (ends-tested marks g.locals (ends-above s.classes marks (widened marks x.locals) g.locals fits.locals ends))
    where
      both_true : (a b : Bool) → a ≡ true → b ≡ true → (a && b) ≡ true
      both_true true b h k = k
      both_true false b h k = cc

  module _ (typing : List (Option FrameType)) (types : IsTypingIn s typing) where
    -- what fits a typing's frame there fits the kept one
    fits-narrow : (n : ℕ) (x : FrameType) → length x.locals ≡ kept_count marks → EndsShort marks (widened marks x.locals)
        → FitsAt s typing n (wide_frame marks x) → FitsAt Narrow (narrow_frames marks typing) n x
    fits-narrow n x many ends (g, at, fits) =
        let kept = is_kept-above x g ends fits in
        let (wide, g_many, short) = kept_wide g (types.sized n g at) kept in
        let both_wide : FrameFits s.classes (wide_frame marks x) (wide_frame marks (narrow_frame marks g)) =
        subst (FrameFits s.classes (wide_frame marks x)) (sym wide) fits in (
          narrow_frame marks g,
          kept-at marks typing n g at kept,
          record {
            locals = fits-narrowed s.classes marks x.locals (narrow_locals marks g.locals) many g_many both_wide.locals;
            stack = fits.stack;
            usable = fits.usable;
            fresh = fits.fresh;
          },
        )

    -- a kept frame of the typing
    record Kept (place : ℕ) (f : FrameType) : Type 0 where
      whole : FrameAt typing place (wide_frame marks f)
      many : length f.locals ≡ kept_count marks
      ends : EndsShort marks (widened marks f.locals)

    kept_frame : (place : ℕ) (f : FrameType) → FrameAt (narrow_frames marks typing) place f → Kept place f
    kept_frame place f at =
        let (g, g_at, kept, is) = kept-from marks typing place f at in
        let (wide, g_many, short) = kept_wide g (types.sized place g g_at) kept in
        subst (Kept place) is (record {
          whole = subst (FrameAt typing place) (sym wide) g_at;
          many = g_many;
          ends = subst (EndsShort marks) (ap (λ (x : FrameType). x.locals) (sym wide)) short;
        })

    -- what is left where control goes
    leads-narrow : (n : ℕ) (after x : FrameType) → after ≡ wide_frame marks x → length x.locals ≡ kept_count marks
        → EndsShort marks (widened marks x.locals) → FitsAt s typing n after → FitsAt Narrow (narrow_frames marks typing) n x
    leads-narrow n after x is many ends fits = fits-narrow n x many ends (subst (FitsAt s typing n) is fits)

    goes_well-narrow : (place : ℕ) (i j : Instr) (f : FrameType) → IsRenamed marks i j → Kept place f
        → GoesWell s typing place i (wide_frame marks f) → GoesWell Narrow (narrow_frames marks typing) place j f
    goes_well-narrow place i j f renamed kept well =
        let row = row-narrow s marks code narrowed place i j f well.after renamed kept.many kept.ends well.row in
        record {
          after = row.frame;
          row = row.row;
          goes_on = λ next goes.
              let (n, e, fits) = well.goes_on next (goes_as marks i j place next renamed goes) in
              (n, e, leads-narrow n well.after row.frame row.frame_is row.many row.ends fits);
          caught = λ h has covers.
              fits-narrow h.handler (handler_frame Narrow h f.locals f.fresh) kept.many kept.ends
              (well.caught h (subst (λ (hs : List Caught). Contains hs h) narrowed.handlers has) covers);
          caught_after = λ h has covers store.
              let there = well.caught_after h (subst (λ (hs : List Caught). Contains hs h) narrowed.handlers has) covers (stores_as marks i j renamed store) in
              fits-narrow h.handler (handler_frame Narrow h row.frame.locals f.fresh) row.many row.ends
              (subst (λ (ls : List VType). FitsAt s typing h.handler (handler_frame s h ls f.fresh)) (ap (λ (x : FrameType). x.locals) row.frame_is) there);
        }

    -- a receiver is no long
    receiver-halved : (vs params : List VType) (m n : ℕ) → (vs ≡ []) ⊎ ((v : VType) × (vs ≡ v ∷ []) × (v ≡ Long → ⊥))
        → slice_get ((vs ++ flat_map as_locals params) ++ replicate m Unusable) n ≡ Some Long → suc n < length (vs ++ flat_map as_locals params)
    receiver-halved [] params m n how at = given-halved params m n at
    receiver-halved (v ∷ []) params m zero (inl none) at = cc
    receiver-halved (v ∷ []) params m zero (inr (w, is, short)) at =
        let same : v ≡ w = cc in
        absurd (short (sym same ∙ cc))
    receiver-halved (v ∷ []) params m (suc n) how at = omega (arith, given-halved params m n at)
    receiver-halved (v ∷ u ∷ vs) params m n (inl none) at = cc
    receiver-halved (v ∷ u ∷ vs) params m n (inr (w, is, short)) at = cc

    receiver_is : (static init : Bool) → let vs : List VType = if static then [] else if init then FreshThis ∷ [] else of_class s.classes s.self ∷ [] in
        (vs ≡ []) ⊎ ((v : VType) × (vs ≡ v ∷ []) × (v ≡ Long → ⊥))
    receiver_is true init = inl refl
    receiver_is false true = inr (FreshThis, refl, λ e. cc)
    receiver_is false false = inr (of_class s.classes s.self, refl, λ e. cc)

    record NarrowStart (start : FrameType) : Type 0 where
      frame : FrameType
      frame_is : start ≡ wide_frame marks frame
      begins : IsStart (with_code s code) frame
      many : length frame.locals ≡ kept_count marks
      ends : EndsShort marks (widened marks frame.locals)

    start-narrow : (start : FrameType) → IsStart s start → NarrowStart start
    start-narrow start begins =
        let whole : List VType = own_receiver s ++ flat_map as_locals (parameter_values s s.method) in
        let first : AreFirst marks (length begins.given) =
        subst (λ (vs : List VType). length vs ≤ length marks → AreFirst marks (length vs)) (sym begins.given_is)
        (λ within n less. narrowed.given n less (omega (arith, less))) (omega (arith, begins.room, narrowed.marked)) in
        let counted = first-counted marks (length begins.given) first in
        let locals : List VType = begins.given ++ replicate (code.max_locals - length begins.given) Unusable in
        let same : widened marks locals ≡ start.locals =
        widened-given marks begins.given (code.max_locals - length begins.given) (s.code.max_locals - length begins.given) first
        (omega (arith, narrowed.locals, counted)) (omega (arith, narrowed.marked, begins.room)) ∙ sym begins.locals in
        record {
          frame = record start { locals = locals };
          frame_is = ap (λ (ls : List VType). record start { locals = ls }) (sym same);
          begins = record {
            given = begins.given;
            given_is = begins.given_is;
            room = omega (arith, narrowed.locals, counted);
            locals = refl;
            stack = begins.stack;
            fresh = begins.fresh;
          };
          many = length-append begins.given (replicate (code.max_locals - length begins.given) Unusable)
              ∙ omega (arith, narrowed.locals, counted, length-replicate (code.max_locals - length begins.given) Unusable);
          ends = λ n kept last at.
              let there : slice_get start.locals n ≡ Some Long = ap (λ (ls : List VType). slice_get ls n) (sym same) ∙ at in
              let half : suc n < length begins.given =
              subst (λ (vs : List VType). slice_get (vs ++ replicate (s.code.max_locals - length begins.given) Unusable) n ≡ Some Long → suc n < length vs)
              (sym begins.given_is)
              (receiver-halved (own_receiver s) (parameter_values s s.method) (s.code.max_locals - length begins.given) n
              (receiver_is (is_static s.method) (is_init s.method)))
              (ap (λ (ls : List VType). slice_get ls n) (sym begins.locals) ∙ there) in
              let z : Some true ≡ Some false = sym (first (suc n) half) ∙ last in
              cc;
        }

    pub typing-narrow : IsTypingIn Narrow (narrow_frames marks typing)
    typing-narrow =
        let start = start-narrow types.start types.start_is in
        record {
          as_many = length-map typing (keep marks) ∙ types.as_many ∙ sym narrowed.as_many;
          sized = λ place f at.
              let kept = kept_frame place f at in
              frame-narrow s marks code narrowed f (types.sized place (wide_frame marks f) kept.whole) kept.many kept.ends;
          start = start.frame;
          start_is = start.begins;
          first = fits-narrow 0 start.frame start.many start.ends (subst (FitsAt s typing 0) start.frame_is types.first);
          each = λ place j f j_at at.
              let kept = kept_frame place f at in
              let (i, i_at) = item_there s.code.instrs place (omega (arith, slice_get_within code.instrs place j j_at, narrowed.as_many)) in
              goes_well-narrow place i j f (narrowed.each place i j i_at j_at) kept (types.each place i (wide_frame marks f) i_at kept.whole);
        }

  pub least-wide : (frames : List (Option FrameType)) → IsLeastTypingIn Narrow frames → IsLeastTypingIn s (wide_frames marks frames)
  least-wide frames least = record {
    typing = typing-wide frames least.typing;
    least = λ other types place g at.
        let (f, f_at, is) = wide-from marks frames place g at in
        let (h, h_at, fits) = least.least (narrow_frames marks other) (typing-narrow other types) place f f_at in
        let kept = kept_frame other types place h h_at in (
          wide_frame marks h,
          kept.whole,
          subst (λ (x : FrameType). FrameFits s.classes x (wide_frame marks h)) is (frame_fits-wide f h fits),
        );
  }
