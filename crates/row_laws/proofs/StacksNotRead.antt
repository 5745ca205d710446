-- What is on the stack of a segment's top frame is nothing to its unwinding: a frame that is left goes with it, and one that catches loses
-- it.
use Rattle.std.proofs.Common.{◌≡◌, ℕ, List, [], ◌∷◌, ◌++◌, refl, sym, ap, subst, ◌∙◌}
use Rattle.std.proofs.lemmas.List.{append_assoc}
use Rattle.jk_model.specs.declared.values.Value.{Value}
use Rattle.jk_model_classes.specs.declared.records.Caught.{Caught}
use Rattle.jk_model_classes.specs.declared.records.ClassRecord.{ClassRecord}
use Rattle.jk_model_frames.specs.Frames.{FrameState}
use Rattle.jk_model_domains.specs.Objects.{NamedObject}
use Rattle.jk_model_heaps.specs.declared.shapes.Unwound.{Unwound}
use Rattle.jk_model_heaps.specs.declared.shapes.Unwound.TheVariants as Ended
use Rattle.jk_model_heaps.specs.RunningCode.{RunsCode}
use Rattle.jk_model_heaps.specs.Workings.{Inside, Run, Setting}
use Rattle.jk_model_unwinding.specs.Unwinding.{Catches, IsCaughtIn, LeavesFrames, Unwinds, at_handler}
use Rattle.list_lemmas.proofs.LastItems.{last_of, one_last}
use Rattle.row_laws.specs.UnwoundFrames.{with_stack}

-- ---- One frame, with another stack.

abbrev stacked : FrameState → List Value → FrameState
stacked f stack = record f { stack = stack }

module _ (x : Setting) (f : FrameState) (stack : List Value) where
  abbrev code_stays : (classes : List ClassRecord) → RunsCode classes f → RunsCode classes (stacked f stack)
  code_stays classes c = record {
    method = c.method;
    is_method = c.is_method;
    scope = c.scope;
    is_scope = c.is_scope;
    instr = c.instr;
    stands = c.stands;
  }

  abbrev code_was : (classes : List ClassRecord) → RunsCode classes (stacked f stack) → RunsCode classes f
  code_was classes c = record {
    method = c.method;
    is_method = c.is_method;
    scope = c.scope;
    is_scope = c.is_scope;
    instr = c.instr;
    stands = c.stands;
  }

  catches_still : (heap : List NamedObject) (a : ℕ) (h : Caught) → Catches x heap f a h → Catches x heap (stacked f stack) a h
  catches_still heap a h c = record {
    no_need = c.no_need;
    code = code_stays x.classes c.code;
    place = c.place;
    listed = c.listed;
    covers = c.covers;
    of_class = c.of_class;
    first = c.first;
  }

  caught_before : (heap : List NamedObject) (a : ℕ) (h : Caught) → Catches x heap (stacked f stack) a h → Catches x heap f a h
  caught_before heap a h c = record {
    no_need = c.no_need;
    code = code_was x.classes c.code;
    place = c.place;
    listed = c.listed;
    covers = c.covers;
    of_class = c.of_class;
    first = c.first;
  }

  -- ---- Frames of which it is the last.

  leaves_last : (upper : List FrameState) (old new : Inside) (a b : ℕ) → LeavesFrames x (upper ++ f ∷ []) old a new b
      → LeavesFrames x (upper ++ stacked f stack ∷ []) old a new b
  leaves_last [] old new a b (mid, met, rest, none, leaves) =
      (mid, met, rest, (λ h caught. none h (caught_before mid.heap met h caught)), leaves)
  leaves_last (g ∷ upper) old new a b (mid, met, rest, none, leaves) =
      (mid, met, leaves_last upper old mid a met rest, none, leaves)

-- ---- A whole segment.

-- the frames of a segment end with the top one
same_last : (lower upper callers : List FrameState) (g catcher f : FrameState) → callers ++ f ∷ [] ≡ lower ++ (catcher ∷ (upper ++ g ∷ []))
    → (callers ≡ lower ++ (catcher ∷ upper)) × (f ≡ g)
same_last lower upper callers g catcher f are =
    one_last callers (lower ++ (catcher ∷ upper)) f g (are ∙ sym (append_assoc lower (catcher ∷ upper) (g ∷ [])))

module _ (x : Setting) (old new : Run) (callers : List FrameState) (f : FrameState) (stack : List Value) (a : ℕ)
    (are : old.frames ≡ callers ++ f ∷ []) where
  abbrev other : Run
  other = record old { frames = with_stack callers f stack }

  -- it is caught by the top frame, or by one below it
  caught_by : (c : IsCaughtIn x old a new) (upper : List FrameState) → c.upper ≡ upper → IsCaughtIn x other a new
  caught_by c [] none =
      let last : (callers ≡ c.lower) × (f ≡ c.catcher) =
      one_last callers c.lower f c.catcher
      (sym are ∙ c.are_frames ∙ ap (λ (u : List FrameState). c.lower ++ c.catcher ∷ u) none) in
      record {
        lower = callers;
        catcher = stacked f stack;
        upper = [];
        are_frames = refl;
        met = c.met;
        leaves = subst (λ (u : List FrameState). LeavesFrames x u old.inside a new.inside c.met) none c.leaves;
        handler = c.handler;
        catches = catches_still x f stack new.inside.heap c.met c.handler
            (subst (λ (g : FrameState). Catches x new.inside.heap g c.met c.handler) (sym last.1) c.catches);
        left = c.left
            ∙ ap (λ (l : List FrameState). l ++ at_handler c.catcher c.handler c.met ∷ []) (sym last.0)
            ∙ ap (λ (g : FrameState). callers ++ at_handler g c.handler c.met ∷ []) (sym last.1);
      }
  caught_by c (u ∷ more) some =
      let last = last_of u more in
      let upper : c.upper ≡ last.0 ++ last.1 ∷ [] = some ∙ last.2 in
      let same = same_last c.lower last.0 callers last.1 c.catcher f
      (sym are ∙ c.are_frames ∙ ap (λ (l : List FrameState). c.lower ++ c.catcher ∷ l) upper) in
      let leaves : LeavesFrames x (last.0 ++ f ∷ []) old.inside a new.inside c.met =
      subst (λ (g : FrameState). LeavesFrames x (last.0 ++ g ∷ []) old.inside a new.inside c.met) (sym same.1)
      (subst (λ (l : List FrameState). LeavesFrames x l old.inside a new.inside c.met) upper c.leaves) in
      record {
        lower = c.lower;
        catcher = c.catcher;
        upper = last.0 ++ stacked f stack ∷ [];
        are_frames = ap (λ (l : List FrameState). l ++ stacked f stack ∷ []) same.0
            ∙ append_assoc c.lower (c.catcher ∷ last.0) (stacked f stack ∷ []);
        met = c.met;
        leaves = leaves_last x f stack last.0 old.inside new.inside a c.met leaves;
        handler = c.handler;
        catches = c.catches;
        left = c.left;
      }

  pub unread : (unwound : Unwound) → Unwinds x old a unwound new → Unwinds x other a unwound new
  unread Ended.Caught c = caught_by c c.upper refl
  unread (Ended.Uncaught b) (leaves, none) = (
    leaves_last x f stack callers old.inside new.inside a b
        (subst (λ (l : List FrameState). LeavesFrames x l old.inside a new.inside b) are leaves),
    none,
  )
