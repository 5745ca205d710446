-- What changes in turn make of the stores, together.
use Rattle.std.proofs.Common.{◌≡◌, ℕ, List, [], ◌∷◌, ◌++◌, Option, Some, refl, sym, ap, ◌∙◌, arith}
use Rattle.std.proofs.lemmas.Option.{same_Some}
use Rattle.jk_model_frames.specs.Frames.{FrameState, frames_chunks, head_chunks}
use Rattle.jk_model_heaps.specs.Workings.{Inside, Run}
use Rattle.jk_model_running.specs.LocalSteps.{TopFrame}
use Rattle.class_init.specs.KeptStates.{KeptState}
use Rattle.frame_store.specs.FrameContents.{FrameContent, IsSame, SetsTop, StoredSegment, free_chunks}
use Rattle.frame_store.specs.FrameContents.{TopFrame as StoredTop}
use Rattle.object_store.specs.HeapContents.{HeapContent}
use Rattle.step_contents.specs.Contents.{Becomes, Contents, FramesBecome, HasFrames, Here, Holds, InsideBecomes, contents_of, with_frame}
use Rattle.exception_unwind.proofs.FramesChanged.{frames_set, segment_of, then_changes, top_there}
use Rattle.exception_unwind.proofs.InsidesChanged.{inside_then}
use Rattle.segment_steps.proofs.KnownAfterwards.{free_same}

-- ---- Frames.

pub frames_same : (old new : Contents) (here : Here) (frames : List FrameState) → IsSame old.frames new.frames → HasFrames old here frames
    → FramesBecome old new here frames frames
frames_same old new here frames same there = record {
  used = old.frames.used here.domain;
  chunks = refl;
  changes = record {
    domains = same.domains;
    becomes = same.segment here.segment ∙ there;
    others = λ r differ. same.segment r;
    uses = same.used here.domain;
    other_domains = λ e differ. same.used e;
  };
}

pub frames_then : (old mid new : Contents) (here : Here) (a b c : List FrameState) → FramesBecome old mid here a b
    → FramesBecome mid new here b c → FramesBecome old new here a c
frames_then old mid new here a b c g h = record {
  used = h.used;
  chunks = omega (arith, g.chunks, h.chunks, g.changes.uses);
  changes = then_changes old.frames mid.frames new.frames here.segment here.domain (Some (segment_of here.domain b))
      (Some (segment_of here.domain c)) g.used h.used g.changes h.changes;
}

-- frames that cost the same leave as many chunks free
pub free_after : (old new : Contents) (here : Here) (a b : List FrameState) → FramesBecome old new here a b
    → frames_chunks b ≡ frames_chunks a → free_chunks new.frames here.domain ≡ free_chunks old.frames here.domain
free_after old new here a b g same =
    let used : new.frames.used here.domain ≡ old.frames.used here.domain = omega (arith, g.chunks, g.changes.uses, same) in
    free_same old.frames new.frames here.domain g.changes.domains used

-- ---- All of it.

pub becomes_then : (old mid new : Contents) (here : Here) (a b c : Run) → Becomes old mid here a b → Becomes mid new here b c
    → Becomes old new here a c
becomes_then old mid new here a b c g h = record {
  inside = inside_then old mid new here b.inside c.inside g.inside h.inside;
  frames = frames_then old mid new here a.frames b.frames c.frames g.frames h.frames;
}

-- frames that changed are nothing to the inside, but for the page where those of the domain begin
pub inside_kept : (old : Contents) (heaps : HeapContent) (frames new : FrameContent) (own : KeptState) (here : Here) (inside : Inside)
    → new.first_page here.domain ≡ frames.first_page here.domain → InsideBecomes old (contents_of heaps frames own) here inside
    → InsideBecomes old (contents_of heaps new own) here inside
inside_kept old heaps frames new own here inside page h = record {
  is_inside = h.is_inside
      ∙ ap (λ (p : Option ℕ). let i : Inside = record {
        own = own.state;
        heap = heaps.heap here.domain;
        heap_at = heaps.first_page here.domain;
        stack_at = p;
      } in i) (sym page);
  heaps = h.heaps;
  rooms = h.rooms;
}

-- the top frame becomes another one that costs the same
pub top_set : (old : Contents) (heaps : HeapContent) (frames new : FrameContent) (own : KeptState) (here : Here) (before : Run)
    (callers : List FrameState) (f g : FrameState) (inside : Inside)
    → Becomes old (contents_of heaps frames own) here before (with_frame callers f inside) → head_chunks g.head ≡ head_chunks f.head
    → SetsTop frames new here.segment g → Becomes old (contents_of heaps new own) here before (with_frame callers g inside)
top_set old heaps frames new own here before callers f g inside h same sets =
    let changed = frames_set old (contents_of heaps frames own) (contents_of heaps new own) here before.frames callers f h.frames g same sets in
    record {
      inside = inside_kept old heaps frames new own here inside (sets.2.domains.first_page here.domain) h.inside;
      frames = changed;
    }

-- ---- What they hold.

pub holds_after : (old new : Contents) (here : Here) (before after : Run) → Becomes old new here before after → Holds new here after
holds_after old new here before after h = record { inside = h.inside.is_inside; frames = h.frames.changes.becomes }

-- the frames of a run whose segment has this top frame
pub are_frames : (c : Contents) (here : Here) (run : Run) → Holds c here run → (f : FrameState) (top : StoredTop c.frames here.segment f)
    → run.frames ≡ top.lower ++ f ∷ []
are_frames c here run holds f top =
    let same : top.segment ≡ segment_of here.domain run.frames = same_Some top.segment _ (sym top.is_there ∙ holds.frames) in
    sym (ap (λ (g : StoredSegment). g.frames) same) ∙ top.frames

abbrev pub top_of : (c : Contents) (here : Here) (run : Run) → Holds c here run → (f : FrameState) → StoredTop c.frames here.segment f
    → TopFrame run
top_of c here run holds f top = record { callers = top.lower; frame = f; are_frames = are_frames c here run holds f top }

-- the store has the top frame of such a run on top
pub stored_top : (c : Contents) (here : Here) (run : Run) (callers : List FrameState) (f : FrameState) → Holds c here run
    → run.frames ≡ callers ++ f ∷ [] → StoredTop c.frames here.segment f
stored_top c here run callers f holds are =
    top_there c.frames here.segment here.domain callers f
    (holds.frames ∙ ap (λ (frames : List FrameState). Some (segment_of here.domain frames)) are)
