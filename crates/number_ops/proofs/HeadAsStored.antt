-- Where the head that is handed in is the stored one, the stored frame stands at the instruction, and is the one that it is done at.
use Rattle.std.proofs.Common.{◌≡◌, List, Some, sym, subst}
use Rattle.jk_model.specs.declared.frames.FrameHead.{FrameHead}
use Rattle.jk_model.specs.declared.identifiers.MemberId.{MemberId}
use Rattle.jk_model.specs.declared.identifiers.SegmentNo.{SegmentNo}
use Rattle.jk_model.specs.declared.instructions.Instr.{Instr}
use Rattle.jk_model.specs.declared.steps.After.{After}
use Rattle.jk_model_classes.specs.declared.records.ClassRecord.{ClassRecord}
use Rattle.jk_model_typing.specs.Scopes.{CodeScope, IsScopeOf}
use Rattle.jk_model_frames.specs.Frames.{FrameState}
use Rattle.jk_model_domains.specs.NumberRows.{NumberRow}
use Rattle.frame_store.specs.FrameContents.{FrameContent, SetsTop, TopFrame}
use Rattle.number_laws.specs.FrameLaws.{with_head}
use Rattle.number_laws.proofs.HeadsStay.{number-head}
use Rattle.number_ops.specs.NumberSteps.{DoesNumbers}

pub record DoesInPlace (old new : FrameContent) (classes : List ClassRecord) (s : SegmentNo) (i : Instr) (after : After) : Type 0 where
  pub before : FrameState
  pub left : FrameState
  pub method : MemberId
  pub scope : CodeScope
  pub top : TopFrame old s before
  pub method_is : before.head.method ≡ Some method
  pub scope_is : IsScopeOf classes method scope
  pub row : NumberRow scope before.head.at i before left after
  pub sets : SetsTop old new s left

pub in_place : (old new : FrameContent) (classes : List ClassRecord) (s : SegmentNo) (head : FrameHead) (i : Instr) (after : After)
    → ((f : FrameState) → TopFrame old s f → head ≡ f.head) → DoesNumbers old new classes s head i after
    → DoesInPlace old new classes s i after
in_place old new classes s head i after stored (f, g, method, scope, top, ahead, has, is, row, sets) =
    let same : head ≡ f.head = stored f top in
    let here : NumberRow scope f.head.at i f g after = subst (λ (h : FrameHead). NumberRow scope h.at i (with_head f h) g after) same row in
    record {
      before = f;
      left = g;
      method = method;
      scope = scope;
      top = top;
      method_is = subst (λ (h : FrameHead). h.method ≡ Some method) same has;
      scope_is = is;
      row = here;
      sets = subst (λ (h : FrameHead). SetsTop old new s (with_head g h)) (sym (number-head scope f.head.at i f g after here)) sets;
    }
