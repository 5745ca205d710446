-- Each row of a call keeps what is kept: the frame that is called fits on top of its caller, and what is raised or handed on fits too.
use Rattle.std.proofs.Common.{inl, inr, ◌≡◌, ℕ, ◌≤◌, List, [], ◌∷◌, ◌++◌, refl, sym, ap, subst, ◌∙◌, arith}
use Rattle.std.specs.List.{AllByRecursion}
use Rattle.std.proofs.lemmas.List.{append-nil}
use Rattle.list_lemmas.proofs.EndsOfLists.{tail_is}
use Rattle.list_lemmas.proofs.LastItems.{each-append}
use Rattle.jk_model.specs.declared.identifiers.CapId.{CapId}
use Rattle.jk_model.specs.declared.identifiers.ClassId.{ClassId}
use Rattle.jk_model.specs.declared.identifiers.MemberId.{MemberId}
use Rattle.jk_model.specs.declared.instructions.Instr.{Instr}
use Rattle.jk_model.specs.declared.steps.Raise.TheVariants as Raised
use Rattle.jk_model.specs.declared.steps.Standing.TheVariants as Stands
use Rattle.jk_model.specs.declared.values.Value.{Value}
use Rattle.jk_model.specs.declared.values.Value.TheVariants as Held
use Rattle.jk_model_classes.specs.declared.records.Body.TheVariants as Does
use Rattle.jk_model_classes.specs.declared.records.ClassRecord.{ClassRecord}
use Rattle.jk_model_classes.specs.declared.records.MethodRecord.{MethodRecord}
use Rattle.jk_model_classes.specs.Lookups.{MethodIs}
use Rattle.jk_model_typing.specs.Scopes.{CodeScope}
use Rattle.jk_model_frames.specs.Frames.{FrameState, as_locals, called_frame, head_chunks, locals_of}
use Rattle.jk_model_domains.specs.NumberRows.{Replaces}
use Rattle.jk_model_domains.specs.Objects.{NamedObject}
use Rattle.jk_model_heaps.specs.CalledFrames.{IsCalledFrame, call_head}
use Rattle.jk_model_heaps.specs.Capabilities.{CapRange}
use Rattle.jk_model_heaps.specs.RunningCode.{RunsCode}
use Rattle.jk_model_heaps.specs.Workings.{Calls, Crosses, Inside, Outcome, Raises, Setting, Working}
use Rattle.jk_model_call_rows.specs.CallRows.{CallRow, FollowsTarget, MethodCall, RunsMethod, given_count}
use Rattle.jk_model_call_rows.specs.Targets.{Fails, Runs, Target, Through}
use Rattle.jk_model_sealing.specs.AnsweringFrames.{AwaitsResult}
use Rattle.jk_model_sealing.specs.FittingFrames.{FitsAtCall, IsCall}
use Rattle.jk_model_sealing.specs.SealedInsides.{IsKnownValue, Surroundings}
use Rattle.class_lemmas.proofs.OneRecord.{one_method}
use Rattle.heap_laws.proofs.GrownHeaps.{grown_self}
use Rattle.heap_laws.specs.FittingOutcomes.{AreOfTypes, FitsOutcome, IsCalledWell, StandsAtCrossing}
use Rattle.heap_laws.specs.KeptInsides.{IsKept, KeepsInside}
use Rattle.heap_laws.specs.RunningFrames.{RunsWell}
use Rattle.row_laws.proofs.BegunMethods.{called_fits, given_fits}
use Rattle.row_laws.proofs.CallersFit.{caller_fits}
use Rattle.row_laws.proofs.NamesStayKnown.{replaced-known, taken-known, unset-known}
use Rattle.row_laws.proofs.CallsKnown.{KnownRun, call_given, known_run}
use Rattle.row_laws.proofs.NamedMethods.{interface_found, is_here}
use Rattle.row_laws.proofs.TargetsThatFail.{call_fails, call_goes, error_raised}

-- what is given is known in the locals, too
pub locals_known : (caps : List CapRange) (heap : List NamedObject) (vs : List Value) → AllByRecursion (IsKnownValue caps heap) vs
    → AllByRecursion (IsKnownValue caps heap) (locals_of vs)
locals_known caps heap [] h = tt
locals_known caps heap (v ∷ vs) h =
    each-append (IsKnownValue caps heap) (as_locals v) (locals_of vs) (one_known v h.0) (locals_known caps heap vs h.1)
  where
    one_known : (u : Value) → IsKnownValue caps heap u → AllByRecursion (IsKnownValue caps heap) (as_locals u)
    one_known (Held.Long n) k = (tt, (tt, tt))
    one_known u k = (k, tt)

module _ (around : Surroundings) (x : Setting) (w : Working) (runs : RunsWell around x w) (code : RunsCode around.classes w.frame)
    (call : MethodCall x code.scope code.instr w) where
  abbrev s : CodeScope
  s = code.scope

  abbrev i : Instr
  i = code.instr

  abbrev heap : List NamedObject
  heap = w.inside.heap

  abbrev Keeps : Working → Outcome → Type 0
  Keeps new outcome = IsKept around x w new × FitsOutcome around x s new outcome

  -- ---- Nothing changes but the frame.

  same_inside : KeepsInside around x w.inside w.inside
  same_inside = record { sealed = runs.inside; grown = grown_self heap; tasks = (λ a n is. inl is); pages = (refl, refl) }

  unchanged : IsKept around x w w
  unchanged = record { inside = same_inside; states = (λ c. refl); head = refl; known = runs.known }

  abbrev with_frame : FrameState → Working
  with_frame g = record { inside = w.inside; frame = g }

  frame_kept : (g : FrameState) (taken : List Value) → Replaces w.frame g taken [] → IsKept around x w (with_frame g)
  frame_kept g taken replaces = record {
    inside = same_inside;
    states = (λ c. refl);
    head = ap (λ (f : FrameState). f.head) replaces.after;
    known = replaced-known around.caps heap w.frame g taken [] runs.known replaces tt;
  }

  -- ---- The frame that calls.

  is_call : IsCall i
  is_call = elim call.comes_to [
    | inl (op, target) ↦ inr (inr (inl op))
    | inr (inl (op, at)) ↦ inl op
    | inr (inr (inl (op, at))) ↦ inr (inl op)
    | inr (inr (inr (op, at))) ↦ inr (inr (inr op))
  ]

  caller : (g : FrameState) → Replaces w.frame g call.given [] → FitsAtCall around.classes heap g × AwaitsResult around.classes g call.method.result
  caller g replaces =
      caller_fits around.classes runs.setting.codes heap w.frame g runs.fits.0 runs.fits.1 code runs.no_need is_call call.found call.method call.names
      call.given call.as_many replaces

  given_known : (g : FrameState) → Replaces w.frame g call.given [] → AllByRecursion (IsKnownValue around.caps heap) call.given
  given_known g replaces = taken-known around.caps heap w.frame g call.given [] runs.known replaces

  -- ---- The frame that is called.

  module _ (m : MemberId) (known : KnownRun around heap call.method call.given m) (new : Working) (outcome : Outcome)
      (p : RunsMethod x m call.given w new outcome) where
    same_method : known.method ≡ p.method
    same_method =
        one_method around.classes m known.method p.method known.is_method
        (subst (λ (classes : List ClassRecord). MethodIs classes m p.method) runs.setting.classes p.is_method)

    body : known.method.body ≡ Does.Linked p.code
    body = ap (λ (r : MethodRecord). r.body) same_method ∙ p.body

    abbrev begun : FrameState
    begun = called_frame (call_head m p.code) call.given

    called_well : (g : FrameState) → Replaces w.frame g call.given [] → IsCalledFrame m p.code call.given begun → IsCalledWell around heap g begun
    called_well g replaces frame =
        let left = caller g replaces in
        let locals = locals_known around.caps heap call.given (given_known g replaces) in
        record {
          below = left.0;
          answers = (call.method.result, left.1, (m, known.method, refl, known.is_method, known.result));
          fits =
              called_fits around runs.setting.codes heap m known.method p.code known.is_method body call.given
              (given_fits around runs.setting.codes heap m known.method p.code known.is_method body call.given known.begins) begun frame;
          at_home = (known.class_named, tt, tt);
          known = (each-append (IsKnownValue around.caps heap) (locals_of call.given) _ locals (unset-known around.caps heap _), tt);
          no_need = refl;
          plain = refl;
        }

    calls_keep : (called : FrameState) → head_chunks (call_head m p.code) ≤ x.chunks → IsCalledFrame m p.code call.given called
        → (g : FrameState) → Replaces w.frame g call.given [] → Keeps (with_frame g) (Calls called)
    calls_keep called enough (room, is) g replaces = (
      frame_kept g call.given replaces,
      subst (λ (f : FrameState). IsCalledWell around heap g f × (head_chunks f.head ≤ x.chunks)) (sym is)
          (called_well g replaces (room, refl), enough),
    )

    runs_keep : Keeps new outcome
    runs_keep = elim p.does [
      | inl (called, enough, frame, replaces, inside, is) ↦
          let working : with_frame new.frame ≡ new = ap (λ (n : Inside). let v : Working = record { inside = n; frame = new.frame } in v) (sym inside) in
          subst (Keeps new) (sym is)
          (subst (λ (v : Working). Keeps v (Calls called)) working (calls_keep called enough frame new.frame replaces))
      | inr (few, (same, is)) ↦
          subst (Keeps new) (sym is)
          (subst (λ (v : Working). Keeps v (Raises (Raised.Standing Stands.StackOverflowError))) (sym same) (unchanged, (runs.fits, tt)))
    ]

  -- ---- What is raised, and what is handed on.

  fails_keep : (c : ClassId) → call.target ≡ Fails c → (new : Working) (outcome : Outcome) → new ≡ w → outcome ≡ Raises (Raised.Fresh c) → Keeps new outcome
  fails_keep c e new outcome same is =
      subst (Keeps new) (sym is)
      (subst (λ (v : Working). Keeps v (Raises (Raised.Fresh c))) (sym same)
      (unchanged, (runs.fits, error_raised around.classes runs.setting.codes c (call_fails x s i w call c e))))

  -- without what it was given
  abbrev departed : FrameState
  departed = record w.frame { stack = call.on_top.0 }

  departs : Replaces w.frame departed call.given []
  departs = record {
    below = call.on_top.0;
    before = call.on_top.1;
    after = ap (λ (vs : List Value). let f : FrameState = record w.frame { stack = vs } in f) (sym (append-nil call.on_top.0));
  }

  crossing : (k : CapId) (m : MemberId) → call.target ≡ Through k m → StandsAtCrossing around heap w.frame k m
  crossing k m e =
      let goes = call_goes x s i w call k m e in
      let through = goes.1 in
      let g = call_given around x w runs code call (inr (inr (inr goes.0)))
      (λ f. let both : 0xb9 ≡ 0xb8 = sym goes.0 ∙ f in omega (arith, both)) (λ method. ap (λ (op : ℕ). given_count op method) goes.0) in
      let arguments : g.arguments ≡ through.arguments = tail_is g.receiver (Held.Cap k) g.arguments through.arguments (sym g.given_is ∙ through.given_is) in
      let left = caller departed departs in
      let known = subst (AllByRecursion (IsKnownValue around.caps heap)) through.given_is (given_known departed departs) in
      subst (StandsAtCrossing around heap w.frame k) (sym through.method_is)
      (record {
        method = call.method;
        is_method = is_here around x w runs code g.class call.found g.leads call.method call.names.2;
        of_interface = interface_found around x w runs code g.class call.found g.leads goes.0 through.no_object;
        below = call.on_top.0;
        given = through.arguments;
        stack = call.on_top.1 ∙ ap (λ (vs : List Value). call.on_top.0 ++ vs) through.given_is;
        arguments = subst (AreOfTypes around heap call.method.params) arguments g.of_types;
        given_out = known.0;
        departed = left.0;
        awaits = left.1;
      })

  crosses_keep : (k : CapId) (m : MemberId) → call.target ≡ Through k m → (new : Working) (outcome : Outcome) → new ≡ w → outcome ≡ Crosses k m
      → Keeps new outcome
  crosses_keep k m e new outcome same is =
      subst (Keeps new) (sym is) (subst (λ (v : Working). Keeps v (Crosses k m)) (sym same) (unchanged, (runs.fits, crossing k m e)))

  -- ---- Each row.

  follows_keep : (t : Target) → call.target ≡ t → (new : Working) (outcome : Outcome) → FollowsTarget x t call.given w new outcome
      → Keeps new outcome
  follows_keep (Runs m) e new outcome p = runs_keep m (known_run around x w runs code call m e) new outcome p
  follows_keep (Fails c) e new outcome p = fails_keep c e new outcome p.0 p.1
  follows_keep (Through k m) e new outcome p = crosses_keep k m e new outcome p.0 p.1

pub row_keeps : (around : Surroundings) (x : Setting) (w new : Working) (outcome : Outcome) (runs : RunsWell around x w)
    (code : RunsCode around.classes w.frame) → CallRow x code.scope code.instr w new outcome
    → IsKept around x w new × FitsOutcome around x code.scope new outcome
row_keeps around x w new outcome runs code row =
    follows_keep around x w runs code row.call row.call.target refl new outcome row.follows
