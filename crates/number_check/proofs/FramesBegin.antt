-- A store without segments may have a first domain; a frame that is begun has its head, also when its locals are set; and it fits the
-- typing of its method where its locals fit the type of the first instruction.
use Rattle.std.proofs.Common.{◌≡◌, ℕ, ◌<◌, ◌^◌, inl, List, [], ◌∷◌, length, Option, Some, None, slice_set, refl, sym, ap, subst, ◌∙◌, arith}
use Rattle.std.specs.List.{AllByRecursion}
use Rattle.std.proofs.lemmas.List.{take_all}
use Rattle.jk_model.specs.declared.frames.FrameHead.{FrameHead}
use Rattle.jk_model.specs.declared.identifiers.DomainId.{DomainId}
use Rattle.jk_model.specs.declared.identifiers.MemberId.{MemberId}
use Rattle.jk_model.specs.declared.identifiers.SegmentNo.{SegmentNo}
use Rattle.jk_model.specs.declared.values.Value.{Value}
use Rattle.jk_model_classes.specs.declared.records.ClassRecord.{ClassRecord}
use Rattle.jk_model_typing.specs.declared.frames.FrameType.{FrameType}
use Rattle.jk_model_typing.specs.declared.frames.VType.{VType}
use Rattle.jk_model_typing.specs.Scopes.{CodeScope, IsScopeOf}
use Rattle.jk_model_typing.specs.Typing.{FrameAt, IsLeastTyping}
use Rattle.jk_model_frames.specs.Frames.{FrameState, new_frame}
use Rattle.jk_model_domains.specs.ValueTypes.{EachValueFits}
use Rattle.frame_store.specs.FrameContents.{Begins, FrameContent, HasFewDomains, HasLocal, IsAdmitted, IsContent, MOST_DOMAINS, SetsTop, TopFrame}
use Rattle.number_ops.proofs.TopFrames.{top_after}
use Rattle.number_check.specs.RunFrames.{AreFirst, HEAP, IsBegun, RunsIn}
use Rattle.number_check.proofs.OneTopFrame.{top_sized}

pub few_of_none : (c : FrameContent) → ((d : DomainId) → c.quota d ≡ None) → HasFewDomains c
few_of_none c none = λ ds apart admitted. by ds admitted
  where
    by : (ds : List DomainId) → AllByRecursion (IsAdmitted c) ds → length ds < MOST_DOMAINS
    by [] h = omega arith
    by (d ∷ ds) h = (let no : IsAdmitted c d → ⊥ = rw (none d) (λ x. cc) in absurd (no h.0))

module _ (old new : FrameContent) (s : SegmentNo) (head : FrameHead) where
  pub first_begun : (d : DomainId) → Begins old new d s head → IsBegun new s head
  first_begun d h = record {
    frame = new_frame head;
    top = record {
      segment = record { domain = d; frames = new_frame head ∷ [] };
      is_there = h.becomes;
      lower = [];
      frames = refl;
    };
    head_is = refl;
    stack = refl;
  }

  pub still_begun : (i : ℕ) (v : Value) → IsBegun old s head
      → ((f : FrameState) → TopFrame old s f → SetsTop old new s (record f { locals = slice_set f.locals i v })) → IsBegun new s head
  still_begun i v h sets = record {
    frame = record h.frame { locals = slice_set h.frame.locals i v };
    top = top_after old new s (record h.frame { locals = slice_set h.frame.locals i v }) (sets h.frame h.top);
    head_is = h.head_is;
    stack = h.stack;
  }

module _ (c : FrameContent) (s : SegmentNo) where
  pub local_of_begun : (head : FrameHead) (i : ℕ) → IsContent c → IsBegun c s head → i < head.max_locals → HasLocal c s i
  local_of_begun head i content h lt =
      let sized = top_sized c s h.frame content h.top in
      (h.frame, h.top, omega (arith, lt, sized.locals, ap (λ (x : FrameHead). x.max_locals) h.head_is))

  -- It fits its method's typing.
  module _ (classes : List ClassRecord) (head : FrameHead) (m : MemberId) (scope : CodeScope) (frames : List (Option FrameType)) (locals : List Value)
      (begun : IsBegun c s head) (method : head.method ≡ Some m) (first : head.at ≡ 0) (is_scope : IsScopeOf classes m scope)
      (max_locals : head.max_locals ≡ scope.code.max_locals) (max_stack : head.max_stack ≡ scope.code.max_stack)
      (least : IsLeastTyping classes m frames) (types : AreFirst frames locals)
      (are_locals : (f : FrameState) → TopFrame c s f → locals ≡ f.locals) where
    of_head : {X : Type 0} (part : FrameHead → X) → part begun.frame.head ≡ part head
    of_head part = ap part begun.head_is

    nothing_fits : (vs : List Value) (ts : List VType) → vs ≡ [] → ts ≡ [] → EachValueFits scope HEAP vs ts
    nothing_fits vs ts no_values no_types =
        subst (λ (l : List Value). EachValueFits scope HEAP l ts) (sym no_values)
        (subst (λ (l : List VType). EachValueFits scope HEAP [] l) (sym no_types) tt)

    pub begins_to_run : length scope.code.instrs < 2 ^ 32 → RunsIn c classes s scope
    begins_to_run short = record {
      frame = begun.frame;
      top = begun.top;
      runs = (m, of_head (λ h. h.method) ∙ method, is_scope);
      fits = (
        record {
          method = m;
          is_method = of_head (λ h. h.method) ∙ method;
          scope = scope;
          is_scope = is_scope;
          room = (of_head (λ h. h.max_locals) ∙ max_locals, of_head (λ h. h.max_stack) ∙ max_stack);
          frames = frames;
          is_verified = record {
            typing = least.typing;
            stood = length classes;
            enough = inl refl;
            is_least = subst (λ (l : List ClassRecord). IsLeastTyping l m frames) (sym (take_all (length classes) classes (omega arith))) least;
          };
          type = types.type;
          stands = subst (λ (place : ℕ). FrameAt frames place types.type) (sym (of_head (λ h. h.at) ∙ first)) types.is_type;
        },
        record {
          locals = subst (λ (l : List Value). EachValueFits scope HEAP l types.type.locals) (are_locals begun.frame begun.top) (types.locals_fit scope);
          stack = nothing_fits begun.frame.stack types.type.stack begun.stack types.stack;
        },
      );
      short = short;
    }
