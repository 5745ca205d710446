-- What was done to the stores is what a row says.
use Rattle.std.proofs.Common.{◌≡◌, ℕ, ◌+◌, List, [], ◌∷◌, ◌++◌, Option, Some, refl, sym, ap, subst, ◌∙◌}
use Rattle.std.proofs.lemmas.Option.{same_Some}
use Rattle.list_lemmas.proofs.LastItems.{one_last}
use Rattle.jk_model.specs.declared.frames.FrameHead.{FrameHead}
use Rattle.jk_model.specs.declared.identifiers.DomainId.{DomainId}
use Rattle.jk_model.specs.declared.steps.After.{After}
use Rattle.jk_model.specs.declared.steps.After.TheVariants as Next
use Rattle.jk_model.specs.declared.steps.Raise.{Raise}
use Rattle.jk_model.specs.declared.values.Value.{Value}
use Rattle.jk_model_frames.specs.Frames.{FrameState, frames_chunks, head_chunks}
use Rattle.jk_model_domains.specs.NumberRows.{IsOnTop, Replaces}
use Rattle.jk_model_domains.specs.Objects.{NamedObject}
use Rattle.jk_model_domains.specs.OwnStates.{OwnState}
use Rattle.jk_model_heaps.specs.Heaps.{heap_words}
use Rattle.jk_model_heaps.specs.Workings.{GoesOn, GoesOnWith, Inside, Outcome, Raises, Setting, Working}
use Rattle.jk_model_heap_rows.specs.HeapRows.{HeapRow}
use Rattle.class_init.specs.KeptStates.{KeptState}
use Rattle.frame_store.specs.FrameContents.{Changes, SetsTop, StoredSegment}
use Rattle.object_store.specs.HeapContents.{HeapBecomes, HeapContent, IsSame}
use Rattle.number_laws.proofs.FrameParts.{with_stack}
use Rattle.number_ops.proofs.TopFrames.{stays}
use Rattle.row_laws.proofs.FramesInARow.{chunks_same}
use Rattle.step_contents.specs.AnsweredSteps.{IsAnswered}
use Rattle.step_contents.specs.Conditions.{MayDo, working}
use Rattle.step_contents.specs.Contents.{Becomes, Contents, FramesBecome, Here, InsideBecomes, inside_in, with_frame}
use Rattle.step_contents.specs.PlacesInCode.{PlaceInCode}
use Rattle.step_contents.proofs.InstructionsBegin.{top_frame}

-- ---- The inside.

-- The inside has another heap and another own state.
pub inside_becomes : (old new : Contents) (here : Here) (before : Inside) (heap : List NamedObject) (own : OwnState) → before ≡ inside_in old here
    → HeapBecomes old.heaps new.heaps here.domain heap (heap_words here.world.classes heap)
    → (let kept : KeptState = record old.own { state = own } in new.own ≡ kept)
    → new.frames.first_page here.domain ≡ old.frames.first_page here.domain
    → InsideBecomes old new here (record before { heap = heap; own = own })
inside_becomes old new here before heap own is heaps kept page = record {
  is_inside =
      ap (λ (o : OwnState). let i : Inside = record { own = o; heap = heap; heap_at = before.heap_at; stack_at = before.stack_at } in i)
      (sym (ap (λ (k : KeptState). k.state) kept))
      ∙ ap (λ (h : List NamedObject). let i : Inside = record { own = new.own.state; heap = h; heap_at = before.heap_at; stack_at = before.stack_at } in i)
      (sym heaps.becomes)
      ∙ ap (λ (p : Option ℕ). let i : Inside = record { own = new.own.state; heap = new.heaps.heap here.domain; heap_at = p; stack_at = before.stack_at } in
      i)
      (ap (λ (i : Inside). i.heap_at) is ∙ sym (heaps.domains.first_page here.domain))
      ∙ ap (λ (p : Option ℕ). let i : Inside = record {
        own = new.own.state;
        heap = new.heaps.heap here.domain;
        heap_at = new.heaps.first_page here.domain;
        stack_at = p;
      } in i)
      (ap (λ (i : Inside). i.stack_at) is ∙ sym page);
  heaps = heaps;
  rooms = ap (λ (k : KeptState). k.rooms) kept;
}

-- the heap is as before
pub same_heap : (old new : HeapContent) (d : DomainId) (heap : List NamedObject) (words : ℕ) → IsSame old new → heap ≡ old.heap d → old.used d ≡ words
    → HeapBecomes old new d heap words
same_heap old new d heap words same is used = record {
  domains = same.domains;
  becomes = same.heap d ∙ sym is;
  others = λ e differ. same.heap e;
  uses = same.used d ∙ used;
  other_uses = λ e differ. same.used e;
  mark = same.mark;
}

pub is_same : (c : HeapContent) → IsSame c c
is_same c = record {
  domains = record { pages = refl; took_all = refl; quota = λ d. refl; first_page = λ d. refl };
  used = λ d. refl;
  heap = λ d. refl;
  mark = λ d a. refl;
}

-- ---- The frames.

module _ (c new : Contents) (here : Here) (at : PlaceInCode) (may : MayDo c here at) where
  frames_become : (g : FrameState) → SetsTop c.frames new.frames here.segment g → g.head ≡ may.frame.head
      → FramesBecome c new here may.run.frames (may.callers ++ g ∷ [])
  frames_become g sets same =
      let top = sets.1 in
      let whole : StoredSegment = record { domain = here.domain; frames = may.run.frames } in
      let is : top.segment ≡ whole = same_Some top.segment whole (sym top.is_there ∙ may.holds.frames) in
      let lists : top.lower ++ sets.0 ∷ [] ≡ may.callers ++ may.frame ∷ [] =
      sym top.frames ∙ ap (λ (x : StoredSegment). x.frames) is ∙ may.are_frames in
      let lower : top.lower ≡ may.callers = (one_last top.lower may.callers sets.0 may.frame lists).0 in
      let there : Changes c.frames new.frames here.segment here.domain
      (Some (let x : StoredSegment = record { domain = here.domain; frames = top.lower ++ g ∷ [] } in x)) (c.frames.used here.domain) =
      subst (λ (x : StoredSegment). Changes c.frames new.frames here.segment x.domain
      (Some (let y : StoredSegment = record { domain = x.domain; frames = top.lower ++ g ∷ [] } in y)) (c.frames.used x.domain)) is sets.2 in
      record {
        used = c.frames.used here.domain;
        chunks = ap (λ (n : ℕ). c.frames.used here.domain + n)
            (ap frames_chunks may.are_frames ∙ chunks_same may.callers g may.frame (ap head_chunks (sym same)));
        changes = subst (λ (l : List FrameState). Changes c.frames new.frames here.segment here.domain
            (Some (let x : StoredSegment = record { domain = here.domain; frames = l ++ g ∷ [] } in x)) (c.frames.used here.domain)) lower there;
      }

  module _ (x : Setting) where
    abbrev pub DoneAs : After → Type 0
    DoneAs after =
        (w : Working) × (outcome : Outcome) × HeapRow x at.scope at.instr (working may) w outcome × IsAnswered after outcome
        × Becomes c new here may.run (with_frame may.callers w.frame w.inside)

    pub goes_on : (inside : Inside) (g : FrameState)
        → HeapRow x at.scope at.instr (working may) (let w : Working = record { inside = inside; frame = g } in w) (GoesOn (may.frame.head.at + 1))
        → g.head ≡ may.frame.head → SetsTop c.frames new.frames here.segment g → InsideBecomes c new here inside → DoneAs (Next.Goto (at.head.at + 1))
    goes_on inside g row same sets becomes = (
      record { inside = inside; frame = g },
      GoesOn (may.frame.head.at + 1),
      row,
      ap (λ (h : FrameHead). GoesOn (h.at + 1)) (sym may.head),
      record { inside = becomes; frames = frames_become g sets same },
    )

    pub raises : (r : Raise) → HeapRow x at.scope at.instr (working may) (working may) (Raises r) → SetsTop c.frames new.frames here.segment may.frame
        → InsideBecomes c new here may.run.inside → DoneAs (Next.Raise r)
    raises r row sets becomes =
        (working may, Raises r, row, refl, record { inside = becomes; frames = frames_become may.frame sets refl })

-- ---- Common ends.

module _ (c : Contents) (here : Here) (at : PlaceInCode) (may : MayDo c here at) where
  pub frame_stays : SetsTop c.frames c.frames here.segment may.frame
  frame_stays = stays c.frames here.segment may.frame (top_frame may)

  -- the heap's words are counted
  pub heap_words_used : c.heaps.used here.domain ≡ heap_words here.world.classes may.run.inside.heap
  heap_words_used =
      may.domain.used ∙ ap (λ (i : Inside). heap_words here.world.classes i.heap) (sym may.holds.inside)

  -- the inside is as before, where the store of objects is
  module _ (new : Contents) (same : IsSame c.heaps new.heaps) (own : new.own ≡ c.own)
      (page : new.frames.first_page here.domain ≡ c.frames.first_page here.domain) where
    pub inside_stays : InsideBecomes c new here may.run.inside
    inside_stays =
        let is = may.holds.inside in
        let state : c.own.state ≡ may.run.inside.own = sym (ap (λ (i : Inside). i.own) is) in
        let kept : new.own ≡ (let k : KeptState = record c.own { state = may.run.inside.own } in k) =
        own ∙ ap (λ (o : OwnState). let k : KeptState = record c.own { state = o } in k) state in
        inside_becomes c new here may.run.inside may.run.inside.heap may.run.inside.own is
        (same_heap c.heaps new.heaps here.domain may.run.inside.heap (heap_words here.world.classes may.run.inside.heap) same
        (ap (λ (i : Inside). i.heap) is) heap_words_used) kept page

-- values are taken and others put in their place
pub replaced_with : (f : FrameState) (taken pushed : List Value) → (on_top : IsOnTop f taken)
    → Replaces f (with_stack f (on_top.0 ++ pushed)) taken pushed
replaced_with f taken pushed on_top = record { below = on_top.0; before = on_top.1; after = refl }

pub going : (w : Working) (taken pushed : List Value) (inside : Inside) (on_top : IsOnTop w.frame taken)
    → GoesOnWith w taken pushed inside (record { inside = inside; frame = with_stack w.frame (on_top.0 ++ pushed) }) (GoesOn (w.frame.head.at + 1))
going w taken pushed inside on_top = record { replaced = replaced_with w.frame taken pushed on_top; inside_is = refl; goes_on = refl }
