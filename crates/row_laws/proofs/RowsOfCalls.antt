-- Each call has a row, or is one of a method of the system, where no static method is abstract.
use Rattle.std.proofs.Common.{inl, inr, ◌≡◌, ◌⊎◌, ℕ, ◌<◌, ◌≤◌, IsTrue, List, [], ◌++◌, length, refl, sym, subst}
use Rattle.std.specs.Prelude.{IsFalse}
use Rattle.std.proofs.lemmas.Bool.{cases_lt}
use Rattle.jk_model.specs.Flags.{has, ABSTRACT, STATIC}
use Rattle.jk_model.specs.declared.identifiers.MemberId.{MemberId}
use Rattle.jk_model.specs.declared.instructions.Instr.{Instr}
use Rattle.jk_model.specs.declared.steps.Raise.TheVariants as Raised
use Rattle.jk_model.specs.declared.steps.Standing.TheVariants as Stands
use Rattle.jk_model_classes.specs.declared.records.Body.TheVariants as Does
use Rattle.jk_model_classes.specs.declared.records.ClassRecord.{ClassRecord}
use Rattle.jk_model_classes.specs.declared.records.LinkedCode.{LinkedCode}
use Rattle.jk_model_classes.specs.declared.records.MethodRecord.{MethodRecord}
use Rattle.jk_model_classes.specs.Lookups.{MethodIs}
use Rattle.jk_model_typing.specs.Scopes.{CodeScope}
use Rattle.jk_model_frames.specs.Frames.{FrameState, called_frame, head_chunks, locals_of}
use Rattle.jk_model_heaps.specs.CalledFrames.{call_head}
use Rattle.jk_model_heaps.specs.RunningCode.{RunsCode}
use Rattle.jk_model_heaps.specs.Workings.{Calls, Crosses, Outcome, Raises, Setting, Working}
use Rattle.jk_model_call_rows.specs.CallRows.{CallRow, CallsSystem, FollowsTarget, IsOfCalls, MethodCall}
use Rattle.jk_model_call_rows.specs.Targets.{Fails, Runs, Target, Through}
use Rattle.jk_model_sealing.specs.SealedInsides.{Surroundings}
use Rattle.heap_laws.specs.RunningFrames.{RunsWell}
use Rattle.heap_laws.specs.SoundCodes.{IsRunnable}
use Rattle.row_laws.proofs.BegunMethods.{given_fits, has_room}
use Rattle.row_laws.specs.CallRowLaws.{RunsKnownMethod}
use Rattle.row_laws.proofs.CallsFound.{call_found}
use Rattle.row_laws.proofs.CallsKnown.{KnownRun, known_run}

module _ (around : Surroundings) (x : Setting) (w : Working) (runs : RunsWell around x w) (code : RunsCode around.classes w.frame) where
  abbrev s : CodeScope
  s = code.scope

  abbrev i : Instr
  i = code.instr

  module _ (call : MethodCall x s i w) where
    -- ---- What is run has code, or is the system's.

    module _ (m : MemberId) (known : KnownRun around w.inside.heap call.method call.given m) where
      not_abstract : IsTrue (has known.method.flags STATIC) ⊎ IsFalse (has known.method.flags ABSTRACT) → IsFalse (has known.method.flags ABSTRACT)
      not_abstract (inl static) = runs.setting.codes.static_methods m known.method known.is_method static
      not_abstract (inr concrete) = concrete

      abbrev Body : Type 0
      Body =
          ((linked : LinkedCode) × (known.method.body ≡ Does.Linked linked) × (length (locals_of call.given) ≤ linked.max_locals))
          ⊎ ((n : ℕ) × (known.method.body ≡ Does.System n))

      body_by : IsRunnable known.method.body → Body
      body_by (inl (linked, is)) =
          inl (
            linked,
            is,
            has_room around runs.setting.codes w.inside.heap m known.method linked known.is_method is call.given
                (given_fits around runs.setting.codes w.inside.heap m known.method linked known.is_method is call.given known.begins),
          )
      body_by (inr system) = inr system

      known_method : RunsKnownMethod around w m call.given
      known_method = record {
        method = known.method;
        is_method = known.is_method;
        named = known.class_named;
        begins = known.begins;
        body = body_by (runs.setting.codes.bodies m known.method known.is_method (not_abstract known.concrete));
      }

    pub runs_known : (m : MemberId) → call.target ≡ Runs m → RunsKnownMethod around w m call.given
    runs_known m e = known_method m (known_run around x w runs code call m e)

    -- ---- Rows.

    abbrev There : Type 0
    There = ((new : Working) × (outcome : Outcome) × CallRow x s i w new outcome) ⊎ CallsSystem x s i w

    row : (t : Target) → call.target ≡ t → (new : Working) (outcome : Outcome) → FollowsTarget x t call.given w new outcome → There
    row t e new outcome follows =
        inl (
          new,
          outcome,
          record {
            call = call;
            follows = subst (λ (target : Target). FollowsTarget x target call.given w new outcome) (sym e) follows;
          },
        )

    module _ (m : MemberId) (e : call.target ≡ Runs m) (method : MethodRecord) (is : MethodIs x.classes m method) where
      with_code : (linked : LinkedCode) → method.body ≡ Does.Linked linked → length (locals_of call.given) ≤ linked.max_locals
          → (x.chunks < head_chunks (call_head m linked)) ⊎ (head_chunks (call_head m linked) ≤ x.chunks) → There
      with_code linked body room (inl few) =
          row (Runs m) e w (Raises (Raised.Standing Stands.StackOverflowError))
          (record { method = method; is_method = is; code = linked; body = body; does = inr (few, (refl, refl)) })
      with_code linked body room (inr enough) =
          let left : FrameState = record w.frame { stack = call.on_top.0 ++ [] } in
          let new : Working = record { inside = w.inside; frame = left } in
          let called : FrameState = called_frame (call_head m linked) call.given in
          row (Runs m) e new (Calls called)
          (record {
            method = method;
            is_method = is;
            code = linked;
            body = body;
            does =
                inl (
                  called,
                  enough,
                  (room, refl),
                  record { below = call.on_top.0; before = call.on_top.1; after = refl },
                  refl,
                  refl,
                );
          })

      of_system : (n : ℕ) → method.body ≡ Does.System n → There
      of_system n body =
          inr (record { call = call; member = m; runs = e; method = method; is_method = is; number = n; of_system = body })

      by_body : ((linked : LinkedCode) × (method.body ≡ Does.Linked linked) × (length (locals_of call.given) ≤ linked.max_locals))
          ⊎ ((n : ℕ) × (method.body ≡ Does.System n)) → There
      by_body (inl (linked, body, room)) = with_code linked body room (cases_lt x.chunks (head_chunks (call_head m linked)))
      by_body (inr (n, body)) = of_system n body

    by_target : (t : Target) → call.target ≡ t → There
    by_target (Runs m) e =
        let known = runs_known m e in
        by_body m e known.method
        (subst (λ (classes : List ClassRecord). MethodIs classes m known.method) (sym runs.setting.classes) known.is_method) known.body
    by_target (Fails c) e = row (Fails c) e w (Raises (Raised.Fresh c)) (refl, refl)
    by_target (Through k m) e = row (Through k m) e w (Crosses k m) (refl, refl)

    there : There
    there = by_target call.target refl

  pub row_there : IsOfCalls i → ((new : Working) × (outcome : Outcome) × CallRow x s i w new outcome) ⊎ CallsSystem x s i w
  row_there of_calls = there (call_found around x w runs code of_calls)
