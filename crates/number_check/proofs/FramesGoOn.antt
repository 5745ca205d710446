-- An instruction on numbers may be done at a frame that fits its method's typing, and the frame fits again where it goes on.
use Rattle.std.proofs.Common.{◌≡◌, ◌<◌, ℕ, ℤ, pos, List, length, Some, refl, sym, ap, subst, ◌∙◌, arith}
use Rattle.std.proofs.lemmas.Option.{same_Some, slice_get_within}
use Rattle.list_lemmas.proofs.TestsAndOrders.{same_pos}
use Rattle.jk_model.specs.declared.frames.FrameHead.{FrameHead}
use Rattle.jk_model.specs.declared.identifiers.MemberId.{MemberId}
use Rattle.jk_model.specs.declared.identifiers.SegmentNo.{SegmentNo}
use Rattle.jk_model.specs.declared.instructions.Instr.{Instr}
use Rattle.jk_model.specs.declared.steps.After.{After}
use Rattle.jk_model.specs.declared.steps.After.TheVariants as Next
use Rattle.jk_model_classes.specs.declared.records.ClassRecord.{ClassRecord}
use Rattle.jk_model_classes.specs.Classes.{AreOrdered}
use Rattle.jk_model_typing.specs.declared.frames.FrameType.{FrameType}
use Rattle.jk_model_typing.specs.Scopes.{CodeScope, IsScopeOf}
use Rattle.jk_model_typing.specs.Typing.{FitsAt, GoesOnAt}
use Rattle.typing_lemmas.proofs.OneScope.{one-scope}
use Rattle.jk_model_frames.specs.Frames.{FrameState}
use Rattle.jk_model_domains.specs.NumberRows.{NumberRow}
use Rattle.jk_model_domains.specs.Objects.{NamedObject}
use Rattle.jk_model_domains.specs.ValueTypes.{FrameHolds}
use Rattle.jk_model_heaps.specs.RunningCode.{RunsCode}
use Rattle.frame_store.specs.FrameContents.{FrameContent, SetsTop, TopFrame}
use Rattle.number_laws.specs.FrameLaws.{IsTyped}
use Rattle.number_ops.specs.NumberSteps.{DoesNumbers, IsReady}
use Rattle.number_ops.proofs.HeadAsStored.{DoesInPlace, in_place}
use Rattle.number_laws.proofs.HeadsStay.{number-head}
use Rattle.number_ops.proofs.TopFrames.{same_top, top_after}
use Rattle.number_check.proofs.StandsHere.{Stands, fits-on, stands-here}
use Rattle.number_check.specs.TypedFrames.{FitsHere}
use Rattle.number_check.specs.RunFrames.{HEAP, HasNumbersAt, LeadsOn, RunsCodeOf, RunsIn, gone_to}

-- What the rows of instructions on numbers say of types.
abbrev pub RowsKeepTypes : Type 0
RowsKeepTypes =
    (s : CodeScope) (heap : List NamedObject) (place : ℕ) (i : Instr) (f g : FrameState) (before after : FrameType) (next : ℕ)
    → IsTyped s heap place i f before after → NumberRow s place i f g (Next.Goto next)
    → FrameHolds s heap g after × GoesOnAt place i (pos next)

module _ (c : FrameContent) (classes : List ClassRecord) (s : SegmentNo) (scope : CodeScope) (head : FrameHead) (i : Instr)
    (r : RunsIn c classes s scope) (is_head : (f : FrameState) → TopFrame c s f → head ≡ f.head) (there : HasNumbersAt scope head.at i) where
  abbrev at : HasNumbersAt scope r.frame.head.at i
  at = subst (λ (h : FrameHead). HasNumbersAt scope h.at i) (is_head r.frame r.top) there

  abbrev code : RunsCode classes r.frame
  code = record { method = r.runs.0; is_method = r.runs.1; scope = scope; is_scope = r.runs.2; instr = i; stands = at.stands }

  abbrev here : Stands classes HEAP r.frame code
  here = stands-here classes r.frame code r.fits.0 HEAP r.fits.1

  -- each instruction has a frame type, or none
  as_many : length here.typed.frames ≡ length scope.code.instrs
  as_many =
      let typing = here.typed.verified.typing in
      typing.as_many ∙ ap (λ (x : CodeScope). length x.code.instrs) (one-scope classes code.method typing.scope scope typing.scope_is code.is_scope)

  goes_to : (to : ℤ) → GoesOnAt r.frame.head.at i to → (n : ℕ) × (to ≡ pos n) × (n < length scope.code.instrs)
  goes_to to goes =
      let there = here.typed.goes.goes_on to goes in
      let lt : there.0 < length scope.code.instrs = omega (arith, slice_get_within here.typed.frames there.0 (Some there.2.0) there.2.1, as_many) in
      (there.0, there.1, lt)

  -- where the stored head says
  ready_as_stored : IsReady c classes s r.frame.head i
  ready_as_stored = record {
    frame = r.frame;
    top = r.top;
    ahead = refl;
    method = code.method;
    method_is = code.is_method;
    scope = scope;
    scope_is = code.is_scope;
    room = here.typed.room;
    stands = at.stands;
    of_numbers = at.of_numbers;
    before = here.before;
    after = here.typed.goes.after;
    sized = here.typed.sized;
    row = here.typed.goes.row;
    heap = HEAP;
    holds = here.holds;
    keys = at.keys;
    goes_on = goes_to;
    short = r.short;
  }

  pub is_ready : IsReady c classes s head i
  is_ready = subst (λ (h : FrameHead). IsReady c classes s h i) (sym (is_head r.frame r.top)) ready_as_stored

  typed : IsTyped scope HEAP r.frame.head.at i r.frame here.before here.typed.goes.after
  typed = record { sized = here.typed.sized; row = here.typed.goes.row; holds = here.holds }

  module _ (laws : RowsKeepTypes) (ordered : AreOrdered classes) (new : FrameContent) where
    -- the row, as one of the frame that stands here
    row_here : (after : After) → (done : DoesInPlace c new classes s i after) → NumberRow scope r.frame.head.at i r.frame done.left after
    row_here after done =
        let same : done.before ≡ r.frame = same_top c s done.before r.frame done.top r.top in
        let one : done.method ≡ code.method =
        same_Some done.method code.method (sym done.method_is ∙ ap (λ (x : FrameState). x.head.method) same ∙ code.is_method) in
        let in_scope : done.scope ≡ scope =
        one-scope classes code.method done.scope scope (subst (λ (m : MemberId). IsScopeOf classes m done.scope) one done.scope_is) code.is_scope in
        subst (λ (x : FrameState). NumberRow scope x.head.at i x done.left after) same
        (subst (λ (x : CodeScope). NumberRow x done.before.head.at i done.before done.left after) in_scope done.row)

    goes_on : (g : FrameState) (next : ℕ) → NumberRow scope r.frame.head.at i r.frame g (Next.Goto next)
        → RunsCodeOf classes scope g × FitsHere classes HEAP (gone_to g next)
    goes_on g next row =
        let same_head = number-head scope r.frame.head.at i r.frame g (Next.Goto next) row in
        let kept = laws scope HEAP r.frame.head.at i r.frame g here.before here.typed.goes.after next typed row in
        let to = here.typed.goes.goes_on (pos next) kept.1 in
        let same : to.0 ≡ next = same_pos to.0 next (sym to.1) in
        let fits : FitsAt scope here.typed.frames next here.typed.goes.after =
        subst (λ (n : ℕ). FitsAt scope here.typed.frames n here.typed.goes.after) same to.2 in
        let method : g.head.method ≡ r.frame.head.method = ap (λ (h : FrameHead). h.method) same_head in (
          (code.method, method ∙ code.is_method, code.is_scope),
          fits-on classes HEAP ordered r.frame code here.before here.typed (gone_to g next) here.typed.goes.after method
              (ap (λ (h : FrameHead). h.max_locals) same_head) (ap (λ (h : FrameHead). h.max_stack) same_head) fits
              (record { locals = kept.0.locals; stack = kept.0.stack }),
        )

    leads : (after : After) → DoesInPlace c new classes s i after → LeadsOn new classes s scope after
    leads (Next.Goto next) done =
        let on_it = goes_on done.left next (row_here (Next.Goto next) done) in
        (done.left, top_after c new s done.left done.sets, on_it.0, on_it.1, r.short)
    leads (Next.Raise x) done = (done.left, top_after c new s done.left done.sets)
    leads (Next.Call x) done = (done.left, top_after c new s done.left done.sets)
    leads (Next.Crossing k x) done = (done.left, top_after c new s done.left done.sets)
    leads (Next.Return v) done = (done.left, top_after c new s done.left done.sets)
    leads Next.Terminate done = (done.left, top_after c new s done.left done.sets)

    pub leads_on : (after : After) → DoesNumbers c new classes s head i after → LeadsOn new classes s scope after
    leads_on after does = leads after (in_place c new classes s head i after is_head does)

-- the frame that goes on runs where it was set
pub goes_on_running : (c new : FrameContent) (classes : List ClassRecord) (s : SegmentNo) (scope : CodeScope) (next : ℕ)
    → LeadsOn c classes s scope (Next.Goto next) → ((f : FrameState) → TopFrame c s f → SetsTop c new s (gone_to f next))
    → RunsIn new classes s scope
goes_on_running c new classes s scope next (f, top, runs, fits, short) sets = record {
  frame = gone_to f next;
  top = top_after c new s (gone_to f next) (sets f top);
  runs = runs;
  fits = fits;
  short = short;
}
