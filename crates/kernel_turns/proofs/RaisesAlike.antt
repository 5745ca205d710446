-- What is raised in a segment depends on the classes, the capabilities and the quota of words of a setting alone.
use Rattle.std.proofs.Common.{◌≡◌, ℕ, List, [], ◌∷◌, subst}
use Rattle.jk_model.specs.declared.identifiers.SegmentNo.{SegmentNo}
use Rattle.jk_model.specs.declared.steps.Raise.{Raise}
use Rattle.jk_model.specs.declared.steps.Raise.TheVariants as Raised
use Rattle.jk_model_classes.specs.declared.records.Caught.{Caught}
use Rattle.jk_model_domains.specs.Objects.{NamedObject}
use Rattle.jk_model_frames.specs.Frames.{FrameState}
use Rattle.jk_model_heaps.specs.declared.shapes.Unwound.{Unwound}
use Rattle.jk_model_heaps.specs.declared.shapes.Unwound.TheVariants as Unwinding
use Rattle.jk_model_heaps.specs.Throwables.{IsRaised}
use Rattle.jk_model_heaps.specs.Workings.{Inside, Run, Setting}
use Rattle.jk_model_unwinding.specs.Unwinding.{Catches, LeavesFrames, Unwinds}
use Rattle.jk_model_running.specs.Raising.{RaisesIn}

module _ (x : Setting) (name : List ℕ) (segment : SegmentNo) (chunks : ℕ) where
  -- the other parts are these
  abbrev y : Setting
  y = record x { name = name; segment = segment; chunks = chunks }

  to : (heap : List NamedObject) (f : FrameState) (a : ℕ) (h : Caught) → Catches x heap f a h → Catches y heap f a h
  to heap f a h c = record {
    no_need = c.no_need;
    code = c.code;
    place = c.place;
    listed = c.listed;
    covers = c.covers;
    of_class = c.of_class;
    first = c.first;
  }

  from : (heap : List NamedObject) (f : FrameState) (a : ℕ) (h : Caught) → Catches y heap f a h → Catches x heap f a h
  from heap f a h c = record {
    no_need = c.no_need;
    code = c.code;
    place = c.place;
    listed = c.listed;
    covers = c.covers;
    of_class = c.of_class;
    first = c.first;
  }

  raised_too : (r : Raise) (old new : Inside) (b : ℕ) → IsRaised x old r new b → IsRaised y old r new b
  raised_too (Raised.Object a) old new b h = h
  raised_too (Raised.Standing s) old new b h = h
  raised_too (Raised.Fresh c) old new b h = h

  leaves_too : (frames : List FrameState) (old : Inside) (a : ℕ) (new : Inside) (b : ℕ) → LeavesFrames x frames old a new b
      → LeavesFrames y frames old a new b
  leaves_too [] old a new b h = h
  leaves_too (f ∷ upper) old a new b (mid, met, rest, not, leaves) =
      (mid, met, leaves_too upper old a mid met rest, λ h c. not h (from mid.heap f met h c), leaves)

  unwinds_too : (u : Unwound) (old : Run) (a : ℕ) (new : Run) → Unwinds x old a u new → Unwinds y old a u new
  unwinds_too Unwinding.Caught old a new h = record {
    lower = h.lower;
    catcher = h.catcher;
    upper = h.upper;
    are_frames = h.are_frames;
    met = h.met;
    leaves = leaves_too h.upper old.inside a new.inside h.met h.leaves;
    handler = h.handler;
    catches = to new.inside.heap h.catcher h.met h.handler h.catches;
    left = h.left;
  }
  unwinds_too (Unwinding.Uncaught b) old a new (leaves, none) = (leaves_too old.frames old.inside a new.inside b leaves, none)

  pub raises_too : (old new : Run) (r : Raise) (u : Unwound) → RaisesIn x old r new u → RaisesIn y old r new u
  raises_too old new r u h = record {
    thrown = h.thrown;
    made = h.made;
    is_raised = raised_too r old.inside h.made h.thrown h.is_raised;
    unwinds = unwinds_too u (record old { inside = h.made }) h.thrown new h.unwinds;
  }

pub raises_alike : (x z : Setting) → x.classes ≡ z.classes → x.caps ≡ z.caps → x.quota ≡ z.quota → (old new : Run) (r : Raise) (u : Unwound)
    → RaisesIn x old r new u → RaisesIn z old r new u
raises_alike x z classes caps quota old new r u h =
    subst (λ (s : Setting). RaisesIn s old r new u)
    (λ i. record z { classes = classes i; caps = caps i; quota = quota i })
    (raises_too x z.name z.segment z.chunks old new r u h)
