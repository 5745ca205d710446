-- Each branch of a call finds what it asks for, and does what the row of the call says.
use Rattle.std.proofs.Common.{◌≡◌, ◌≢◌, ◌+◌, ◌-◌, ◌≤◌, ◌++◌, ℕ, List, ◌∷◌, length, Some, slice_get, refl, sym, subst, ap, ◌∙◌, inl, inr, arith}
use Rattle.std.proofs.lemmas.Option.{same_Some}
use Rattle.jk_model.specs.declared.identifiers.CapId.{CapId}
use Rattle.jk_model.specs.declared.identifiers.ClassId.{ClassId}
use Rattle.jk_model.specs.declared.identifiers.MemberId.{MemberId}
use Rattle.jk_model.specs.declared.steps.After.{After}
use Rattle.jk_model.specs.declared.steps.After.TheVariants as Next
use Rattle.jk_model.specs.declared.steps.Raise.TheVariants as Raised
use Rattle.jk_model.specs.declared.values.Value.{Value}
use Rattle.jk_model.specs.declared.values.Value.TheVariants as Held
use Rattle.jk_model_classes.specs.declared.records.ClassRecord.{ClassRecord}
use Rattle.jk_model_classes.specs.declared.records.MethodRecord.{MethodRecord}
use Rattle.jk_model_classes.specs.Lookups.{MethodIs}
use Rattle.jk_model_domains.specs.Objects.{NamedObject}
use Rattle.jk_model_frames.specs.Frames.{FrameState}
use Rattle.jk_model_heaps.specs.Workings.{Setting}
use Rattle.jk_model_call_rows.specs.CallRows.{IsOfCalls, MethodCall}
use Rattle.jk_model_call_rows.specs.Targets.{Target, Fails, Runs, Through}
use Rattle.frame_store.specs.FrameContents.{FrameContent, HasEntry, TopFrame}
use Rattle.instance_tests.specs.Tested.{Refers}
use Rattle.step_contents.specs.Conditions.{MayDo, working}
use Rattle.step_contents.specs.Contents.{Contents, Here}
use Rattle.step_contents.specs.PlacesInCode.{PlaceInCode}
use Rattle.step_contents.specs.Settings.{IsSetting}
use Rattle.step_contents.specs.Operands.{LeadsToMethod}
use Rattle.step_contents.proofs.InstructionsBegin.{is_some_setting, some_setting, top_frame}
use Rattle.call_ops.specs.CallSteps.{CallFollows}
use Rattle.call_ops.specs.CodeTargets.{ComesTo}
use Rattle.call_ops.specs.FramesRun.{MayRun, Ran}
use Rattle.call_ops.proofs.CallFound.{IsGiven, call_in, call_to, count_other, count_static, first_given, heap_here, is_given, receiver_there}
use Rattle.call_ops.proofs.CallsFollow.{fails, may_run, ran, through}
use Rattle.call_ops.proofs.TargetsByReceiver.{receiver_refers}

module _ {old : Contents} {here : Here} {at : PlaceInCode} (may : MayDo old here at) (kind : IsOfCalls at.instr)
    (t : List ClassRecord) (same : t ≡ here.world.classes) (named : MemberId) (leads : LeadsToMethod at named)
    (method : MethodRecord) (is_method : MethodIs t named method) (n : ℕ) (count : n ≡ length method.params) where
  abbrev given_in : (x : Setting) → IsSetting old here x → IsGiven may kind t same named leads method is_method
  given_in x is = is_given may kind t same named leads method is_method x (call_in may kind x is)

  -- ---- invokestatic.

  module _ (op : at.instr.op ≡ 0xb8) where
    abbrev static_call : (x : Setting) → IsSetting old here x → MethodCall x at.scope at.instr (working may)
    static_call x is = call_to may kind t same named leads method is_method x is (given_in x is) (Runs named) (inl (op, refl))

    static_count : (x : Setting) (is : IsSetting old here x) → length (given_in x is).given ≡ n
    static_count x is = (given_in x is).as_many ∙ count_static at.instr.op method op ∙ sym count

    pub static_may_run : MayRun t old.frames here.segment named n
    static_may_run =
        let x = some_setting may in
        let is = is_some_setting may in
        may_run may x is t same (static_call x is) named refl n (static_count x is)

    pub static_ran : (x : Setting) (is : IsSetting old here x) (new : FrameContent) (after : After)
        → Ran t old.frames new here.segment named n after → CallFollows x may (record old { frames = new }) after
    static_ran x is new after h = ran may x is t same (static_call x is) named refl new n (static_count x is) after h

  -- ---- The others.

  module _ (other : at.instr.op ≢ 0xb8) where
    -- the receiver and the arguments, and where the receiver stands
    record HasReceiver (given : List Value) : Type 0 where
      receiver : Value
      arguments : List Value
      is : given ≡ receiver ∷ arguments
      as_many : length arguments ≡ n
      low : n + 1 ≤ length may.frame.stack
      stands : slice_get may.frame.stack (length may.frame.stack - 1 - n) ≡ Some receiver

    has_receiver : (x : Setting) (is : IsSetting old here x) → HasReceiver (given_in x is).given
    has_receiver x is =
        let g = given_in x is in
        let parts = first_given g.given (length method.params) (g.as_many ∙ count_other at.instr.op method other) in
        let stack : may.frame.stack ≡ g.below ++ parts.0 ∷ parts.1 = g.on_top ∙ ap (λ (l : List Value). g.below ++ l) parts.2 in
        let there = receiver_there g.below parts.0 parts.1 may.frame.stack n stack (parts.3 ∙ sym count) in
        record {
          receiver = parts.0;
          arguments = parts.1;
          is = parts.2;
          as_many = parts.3 ∙ sym count;
          low = omega (arith, there.0);
          stands = there.1;
        }

    pub has_entry : HasEntry old.frames here.segment n
    has_entry =
        let r = has_receiver (some_setting may) (is_some_setting may) in
        (may.frame, top_frame may, omega (arith, r.low))

    -- what stands there is what code finds
    module _ (receiver : Value)
        (found : (f : FrameState) → TopFrame old.frames here.segment f → slice_get f.stack (length f.stack - 1 - n) ≡ Some receiver) where
      first_is : (x : Setting) (is : IsSetting old here x) → (given_in x is).given ≡ receiver ∷ (has_receiver x is).arguments
      first_is x is =
          let r = has_receiver x is in
          let one : r.receiver ≡ receiver = same_Some r.receiver receiver (sym r.stands ∙ found may.frame (top_frame may)) in
          r.is ∙ ap (λ (v : Value). v ∷ r.arguments) one

      pub refers : receiver ≢ Held.Null → at.instr.op ≢ 0xb7 → Refers old.heaps here.domain receiver
      refers some not_special =
          let x = some_setting may in
          let is = is_some_setting may in
          let call = call_in may kind x is in
          elim call.comes_to [
            | inl static ↦ absurd (other static.0)
            | inr comes ↦
                receiver_refers x.classes old.heaps here.domain call.found call.target at.instr.op at.scope.self call.method receiver
                (has_receiver x is).arguments
                (subst (λ (l : List NamedObject). ComesTo x.classes l at.instr.op at.scope.self call.found call.method
                (receiver ∷ (has_receiver x is).arguments) call.target) (heap_here may kind)
                (subst (λ (l : List Value). ComesTo x.classes may.run.inside.heap at.instr.op at.scope.self call.found call.method l call.target)
                (first_is x is) comes))
                some not_special
          ]

      module _ (target : Target)
          (comes : (arguments : List Value)
          → ComesTo t (old.heaps.heap here.domain) at.instr.op at.scope.self named method (receiver ∷ arguments) target) where
        abbrev call_at : (x : Setting) → IsSetting old here x → MethodCall x at.scope at.instr (working may)
        call_at x is =
            call_to may kind t same named leads method is_method x is (given_in x is) target
            (inr (subst (λ (l : List Value). ComesTo t (old.heaps.heap here.domain) at.instr.op at.scope.self named method l target)
            (sym (first_is x is)) (comes (has_receiver x is).arguments)))

        count_at : (x : Setting) (is : IsSetting old here x) → length (given_in x is).given ≡ n + 1
        count_at x is = omega (arith, (given_in x is).as_many, count_other at.instr.op method other, count)

        module _ (m : MemberId) (runs : target ≡ Runs m) where
          pub may_run_at : MayRun t old.frames here.segment m (n + 1)
          may_run_at =
              let x = some_setting may in
              let is = is_some_setting may in
              may_run may x is t same (call_at x is) m runs (n + 1) (count_at x is)

          pub ran_at : (x : Setting) (is : IsSetting old here x) (new : FrameContent) (after : After)
              → Ran t old.frames new here.segment m (n + 1) after → CallFollows x may (record old { frames = new }) after
          ran_at x is new after h = ran may x is t same (call_at x is) m runs new (n + 1) (count_at x is) after h

        pub fails_at : (c : ClassId) → target ≡ Fails c → (x : Setting) (is : IsSetting old here x)
            → CallFollows x may old (Next.Raise (Raised.Fresh c))
        fails_at c e x is = fails may x is t same (call_at x is) c e

        pub through_at : (k : CapId) (m : MemberId) → target ≡ Through k m → (x : Setting)
            (is : IsSetting old here x) → CallFollows x may old (Next.Crossing k m)
        through_at k m e x is = through may x is t same (call_at x is) k m e
