-- What a method that runs makes of the frames is what the row of its call says.
use Rattle.std.proofs.Common.{◌≡◌, ◌+◌, ◌<◌, ◌≤◌, ◌⊎◌, ◌++◌, ℕ, List, [], ◌∷◌, length, Option, refl, sym, subst, ap, ◌∙◌, inl, inr, arith}
use Rattle.std.proofs.lemmas.Bool.{cases_lt}
use Rattle.std.proofs.lemmas.List.{append-nil}
use Rattle.std.proofs.lemmas.List.Sums.{sum_by-append}
use Rattle.std.proofs.lemmas.Option.{same_Some}
use Rattle.jk_model.specs.declared.frames.FrameHead.{FrameHead}
use Rattle.jk_model.specs.declared.identifiers.CapId.{CapId}
use Rattle.jk_model.specs.declared.identifiers.ClassId.{ClassId}
use Rattle.jk_model.specs.declared.identifiers.MemberId.{MemberId}
use Rattle.jk_model.specs.declared.steps.After.{After}
use Rattle.jk_model.specs.declared.steps.After.TheVariants as Next
use Rattle.jk_model.specs.declared.steps.Raise.{Raise}
use Rattle.jk_model.specs.declared.steps.Raise.TheVariants as Raised
use Rattle.jk_model.specs.declared.steps.Standing.TheVariants as Stands
use Rattle.jk_model.specs.declared.values.Value.{Value}
use Rattle.jk_model_classes.specs.declared.records.Body.TheVariants as Does
use Rattle.jk_model_classes.specs.declared.records.ClassRecord.{ClassRecord}
use Rattle.jk_model_classes.specs.declared.records.LinkedCode.{LinkedCode}
use Rattle.jk_model_classes.specs.declared.records.MethodRecord.{MethodRecord}
use Rattle.jk_model_classes.specs.Lookups.{MethodIs}
use Rattle.jk_model_frames.specs.Frames.{FrameState, called_frame, frames_chunks, head_chunks, locals_of}
use Rattle.jk_model_heaps.specs.CalledFrames.{call_head}
use Rattle.jk_model_heaps.specs.Heaps.{heap_words}
use Rattle.jk_model_heaps.specs.Workings.{Inside, Outcome, Setting, Working, Calls, Crosses, Raises}
use Rattle.jk_model_typing.specs.Scopes.{CodeScope, IsScopeOf}
use Rattle.jk_model_call_rows.specs.CallRows.{CallRow, FollowsTarget, MethodCall, RunsMethod}
use Rattle.jk_model_call_rows.specs.Targets.{Target, Fails, Runs, Through}
use Rattle.class_lemmas.proofs.CodeOfMethods.{same_code, system_has_none}
use Rattle.class_lemmas.proofs.OneRecord.{one_method}
use Rattle.typing_lemmas.proofs.OneScope.{scope, scope_of}
use Rattle.frame_store.specs.FrameContents.{FrameContent, IsSame, StoredSegment, free_chunks}
use Rattle.step_contents.specs.Conditions.{MayDo, around, working}
use Rattle.step_contents.specs.Contents.{Contents, Here, InsideBecomes, inside_in}
use Rattle.step_contents.specs.PlacesInCode.{PlaceInCode}
use Rattle.step_contents.specs.Settings.{IsSetting}
use Rattle.step_contents.proofs.InstructionsBegin.{runs_code, runs_well, top_frame}
use Rattle.row_laws.specs.CallRowLaws.{RunsKnownMethod}
use Rattle.row_laws.proofs.RowsOfCalls.{runs_known}
use Rattle.call_ops.specs.CallSteps.{CallFollows, calls, calls_system, crosses, raises}
use Rattle.call_ops.specs.FramesRun.{HasNoCode, LacksChunks, MayRun, PutsFrame, Ran}

-- ---- The code of a method.

-- the method of a scope is the class's
scope_method : (classes : List ClassRecord) (m : MemberId) (s : CodeScope) → IsScopeOf classes m s → MethodIs classes m s.method
scope_method classes m s is = (is.class, is.class_is, is.method)

-- what fits the code of a method fits the code of its scope
fits_code : (classes : List ClassRecord) (m : MemberId) (method : MethodRecord) (n : ℕ) → MethodIs classes m method
    → ((code : LinkedCode) × (method.body ≡ Does.Linked code) × (n ≤ code.max_locals)) ⊎ ((k : ℕ) × (method.body ≡ Does.System k))
    → (s : CodeScope) → IsScopeOf classes m s → n ≤ s.code.max_locals
fits_code classes m method n is_method body s is =
    let same : s.method ≡ method = one_method classes m s.method method (scope_method classes m s is) is_method in
    let linked : method.body ≡ Does.Linked s.code = ap (λ (r : MethodRecord). r.body) (sym same) ∙ is.body in
    elim body [
      | inl (code, does, fits) ↦ subst (λ (c : LinkedCode). n ≤ c.max_locals) (same_code code s.code (sym does ∙ linked)) fits
      | inr (k, does) ↦ absurd (system_has_none k s.code (sym does ∙ linked))
    ]

-- ---- Chunks.

chunks_more : (lower : List FrameState) (f g called : FrameState) → head_chunks g.head ≡ head_chunks f.head
    → frames_chunks (lower ++ g ∷ called ∷ []) ≡ frames_chunks (lower ++ f ∷ []) + head_chunks called.head
chunks_more lower f g called same =
    let cost : FrameState → ℕ = λ (x : FrameState). head_chunks x.head in
    omega (arith, same, sum_by-append cost lower (g ∷ called ∷ []), sum_by-append cost lower (f ∷ []))

module _ {old : Contents} {here : Here} {at : PlaceInCode} (may : MayDo old here at) (x : Setting) (is : IsSetting old here x)
    (t : List ClassRecord) (same : t ≡ here.world.classes) (call : MethodCall x at.scope at.instr (working may)) where
  classes_in : t ≡ x.classes
  classes_in = same ∙ sym is.classes

  -- ---- A method runs.

  module _ (m : MemberId) (target : call.target ≡ Runs m) where
    known : RunsKnownMethod (around may.domain) (working may) m call.given
    known = runs_known (around may.domain) x (working may) (runs_well may x is) (runs_code may) call m target

    is_method_in : MethodIs t m known.method
    is_method_in = subst (λ (l : List ClassRecord). MethodIs l m known.method) (sym same) known.is_method

    fits : (s : CodeScope) → IsScopeOf t m s → length (locals_of call.given) ≤ s.code.max_locals
    fits = fits_code t m known.method (length (locals_of call.given)) is_method_in known.body

    pub may_run : (count : ℕ) → length call.given ≡ count → MayRun t old.frames here.segment m count
    may_run count as_many s is_scope = (may.frame, top_frame may, call.on_top.0, call.given, call.on_top.1, as_many, fits s is_scope)

    -- the row of the call, where it says this of the frame
    row : (w : Working) (outcome : Outcome) → RunsMethod x m call.given (working may) w outcome
        → CallRow x at.scope at.instr (working may) w outcome
    row w outcome h = record {
      call = call;
      follows = subst (λ (k : Target). FollowsTarget x k call.given (working may) w outcome) (sym target) h;
    }

    -- ---- By the answer.

    module _ (new : FrameContent) where
      abbrev pub left : Contents
      left = record old { frames = new }

      -- nothing inside the domain changes with the frames
      inside_becomes : new.first_page here.domain ≡ old.frames.first_page here.domain → InsideBecomes old left here may.run.inside
      inside_becomes page = record {
        is_inside = may.holds.inside ∙ ap (λ (p : Option ℕ). record (inside_in old here) { stack_at = p }) (sym page);
        heaps = record {
          domains = record { pages = refl; took_all = refl; quota = λ d. refl; first_page = λ d. refl };
          becomes = ap (λ (i : Inside). i.heap) (sym may.holds.inside);
          others = λ e other. refl;
          uses = may.domain.used ∙ ap (λ (i : Inside). heap_words here.world.classes i.heap) (sym may.holds.inside);
          other_uses = λ e other. refl;
          mark = λ e a. refl;
        };
        rooms = refl;
      }

      -- the method's frame is on top
      pub goes_on : (count : ℕ) → length call.given ≡ count → PutsFrame t old.frames new here.segment m count
          → CallFollows x may left (Next.Goto 0)
      goes_on count as_many (s, is_scope, room, does) =
          let head : FrameHead = call_head m s.code in
          let called : FrameState = called_frame head call.given in
          let departed : FrameState = record may.frame { stack = call.on_top.0 } in
          let w : Working = record { inside = may.run.inside; frame = departed } in
          let changes = does may.frame (top_frame may) call.on_top.0 call.given call.on_top.1 as_many in
          let holder : here.domain ≡ room.0.domain =
          ap (λ (g : StoredSegment). g.domain) (same_Some (top_frame may).segment room.0 (sym may.holds.frames ∙ room.1)) in
          let free : head_chunks head ≤ x.chunks =
          subst (λ (n : ℕ). head_chunks head ≤ n) (ap (free_chunks old.frames) (sym holder) ∙ sym is.chunks) room.2 in
          calls w called
          (row w (Calls called) (record {
            method = s.method;
            is_method = subst (λ (l : List ClassRecord). MethodIs l m s.method) classes_in (scope_method t m s is_scope);
            code = s.code;
            body = is_scope.body;
            does =
                inl (
                  called,
                  free,
                  (fits s is_scope, refl),
                  record {
                    below = call.on_top.0;
                    before = call.on_top.1;
                    after = ap (λ (l : List Value). record may.frame { stack = l }) (sym (append-nil call.on_top.0));
                  },
                  refl,
                  refl,
                );
          }))
          (record {
            inside = inside_becomes (changes.domains.first_page here.domain);
            frames = record {
              used = old.frames.used here.domain + head_chunks head;
              chunks =
                  let cost = chunks_more may.callers may.frame departed called refl in
                  let before : frames_chunks may.run.frames ≡ frames_chunks (may.callers ++ may.frame ∷ []) = ap frames_chunks may.are_frames in
                  omega (arith, cost, before);
              changes = changes;
            };
          })

      -- its chunks don't fit
      pub lacks_chunks : LacksChunks t old.frames new here.segment m → CallFollows x may left (Next.Raise (Raised.Standing Stands.StackOverflowError))
      lacks_chunks (s, is_scope, no_room, keeps) =
          let head : FrameHead = call_head m s.code in
          let full : x.chunks < head_chunks head = elim (cases_lt x.chunks (head_chunks head)) [
            | inl less ↦ less
            | inr enough ↦
                absurd (no_room ((top_frame may).segment, may.holds.frames, subst (λ (n : ℕ). head_chunks head ≤ n) is.chunks enough))
          ] in
          raises (Raised.Standing Stands.StackOverflowError)
          (row (working may) (Raises (Raised.Standing Stands.StackOverflowError)) (record {
            method = s.method;
            is_method = subst (λ (l : List ClassRecord). MethodIs l m s.method) classes_in (scope_method t m s is_scope);
            code = s.code;
            body = is_scope.body;
            does = inr (full, (refl, refl));
          }))
          keeps

      -- it is one of the system
      pub is_of_system : HasNoCode t old.frames new m → CallFollows x may left (Next.Call m)
      is_of_system (none, keeps) = elim known.body [
        | inl (code, body, room) ↦
            absurd (none (scope t m.class is_method_in.0.links known.method code) (scope_of t m known.method code is_method_in body))
        | inr (n, body) ↦
            calls_system m
            (record {
              call = call;
              member = m;
              runs = target;
              method = known.method;
              is_method = subst (λ (l : List ClassRecord). MethodIs l m known.method) classes_in is_method_in;
              number = n;
              of_system = body;
            })
            refl keeps
      ]

      pub ran : (count : ℕ) → length call.given ≡ count → (after : After) → Ran t old.frames new here.segment m count after
          → CallFollows x may left after
      ran count as_many (Next.Goto n) (first, puts) =
          subst (λ (k : ℕ). CallFollows x may left (Next.Goto k)) (sym first) (goes_on count as_many puts)
      ran count as_many (Next.Raise r) (overflow, lacks) =
          subst (λ (k : Raise). CallFollows x may left (Next.Raise k)) (sym overflow) (lacks_chunks lacks)
      ran count as_many (Next.Call n) (itself, none) =
          subst (λ (k : MemberId). CallFollows x may left (Next.Call k)) (sym itself) (is_of_system none)
      ran count as_many (Next.Crossing k n) h = absurd h
      ran count as_many (Next.Return v) h = absurd h
      ran count as_many Next.Terminate h = absurd h

  -- ---- No method runs.

  nothing_changed : IsSame old.frames old.frames
  nothing_changed = record {
    domains = record { pages = refl; took_all = refl; quota = λ d. refl; first_page = λ d. refl };
    used = λ d. refl;
    segment = λ s. refl;
  }

  pub fails : (c : ClassId) → call.target ≡ Fails c → CallFollows x may old (Next.Raise (Raised.Fresh c))
  fails c target =
      raises (Raised.Fresh c)
      (record {
        call = call;
        follows =
            subst (λ (k : Target). FollowsTarget x k call.given (working may) (working may) (Raises (Raised.Fresh c))) (sym target) (refl, refl);
      })
      nothing_changed

  pub through : (k : CapId) (m : MemberId) → call.target ≡ Through k m → CallFollows x may old (Next.Crossing k m)
  through k m target =
      crosses k m
      (record {
        call = call;
        follows = subst (λ (g : Target). FollowsTarget x g call.given (working may) (working may) (Crosses k m)) (sym target) (refl, refl);
      })
      nothing_changed
