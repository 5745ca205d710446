-- The thread begins in the parts, which are a kernel's again.
use Rattle.std.proofs.Common.{◌≡◌, List, [], ◌∷◌, ap, sym, subst, ◌∙◌}
use Rattle.jk_model.specs.declared.identifiers.SegmentNo.{SegmentNo}
use Rattle.jk_model.specs.declared.identifiers.ThreadNo.{ThreadNo}
use Rattle.jk_model.specs.declared.output.Line.TheVariants as Says
use Rattle.jk_model.specs.declared.values.Value.TheVariants as Held
use Rattle.jk_model_classes.specs.declared.records.ClassRecord.{ClassRecord}
use Rattle.jk_model_sharing.specs.SharedStates.{SharedState}
use Rattle.jk_model_machine_state.specs.Machines.{Machine}
use Rattle.jk_model_runs.specs.Starts.{StartWords, Starts}
use Rattle.machine_laws.proofs.StartsStayKnown.{start_stays_sealed}
use Rattle.kernel_parts.specs.SoundKernels.{AreKernelParts, KernelContent, kernel_machine, parts_of}
use Rattle.kernel_openings.specs.FirstFrames.{BeginsSegment, MakesStartWords, MayStart}
use Rattle.kernel_openings.proofs.PartsByPlace.{same_segment}
use Rattle.kernel_openings.proofs.StartedMachines.{next_segment, none_there}
use Rattle.kernel_openings.proofs.StartsOfParts.{chunks_fit, frames_admitted, has_room, heap_admitted, kernel_next, lives_here, live_home, local_fits, may_begin, next, starts_next, words_fit}
use Rattle.kernel_openings.proofs.starting.start.Goals as goal

pub make_words-array-requires-clause-admitted : goal.make_words-array-requires-clause-admitted
make_words-array-requires-clause-admitted g c =
    let k = c.k.inside in
    let here : KernelContent = record {
      world = k.world;
      owns = k.owns.items;
      shared = k.shared;
      heap = g.H.ObjectStore.content k.heap;
      frames = g.F.SegmentFrames.content k.frames;
      main_kind = k.main_kind;
    } in
    let start : StartWords = record { domain = c.args.name.now; class = c.args.class.now; words = c.args.words.now } in
    let d = c.in-Ok.first.domain in
    let head = c.in-Ok.first.head in
    let may : MayStart (kernel_machine here) start d head =
    subst (λ (m : Machine). MayStart m start d head) (sym c.k.view_is) c.in-Ok.ensures.first in
    heap_admitted here c.k.invariant c.is_sound.ensures d (live_home here c.k.invariant c.is_sound.ensures start d head may)

pub make_words-array-requires-clause-room : goal.make_words-array-requires-clause-room
make_words-array-requires-clause-room g c =
    let k = c.k.inside in
    let here : KernelContent = record {
      world = k.world;
      owns = k.owns.items;
      shared = k.shared;
      heap = g.H.ObjectStore.content k.heap;
      frames = g.F.SegmentFrames.content k.frames;
      main_kind = k.main_kind;
    } in
    let start : StartWords = record { domain = c.args.name.now; class = c.args.class.now; words = c.args.words.now } in
    let d = c.in-Ok.first.domain in
    let head = c.in-Ok.first.head in
    let may : MayStart (kernel_machine here) start d head =
    subst (λ (m : Machine). MayStart m start d head) (sym c.k.view_is) c.in-Ok.ensures.first in
    words_fit here c.k.invariant c.is_sound.ensures start d head may

pub begin_thread-begun-requires-clause-live : goal.begin_thread-begun-requires-clause-live
begin_thread-begun-requires-clause-live g c =
    let k = c.k.inside in
    let here : KernelContent = record {
      world = k.world;
      owns = k.owns.items;
      shared = k.shared;
      heap = g.H.ObjectStore.content k.heap;
      frames = g.F.SegmentFrames.content k.frames;
      main_kind = k.main_kind;
    } in
    let start : StartWords = record { domain = c.args.name.now; class = c.args.class.now; words = c.args.words.now } in
    let d = c.in-Ok.first.domain in
    let head = c.in-Ok.first.head in
    let may : MayStart (kernel_machine here) start d head =
    subst (λ (m : Machine). MayStart m start d head) (sym c.k.view_is) c.in-Ok.ensures.first in
    lives_here here c.k.invariant c.is_sound.ensures d (live_home here c.k.invariant c.is_sound.ensures start d head may)

pub begin_thread-begun-requires-clause-room : goal.begin_thread-begun-requires-clause-room
begin_thread-begun-requires-clause-room g c =
    let k = c.k.inside in
    let here : KernelContent = record {
      world = k.world;
      owns = k.owns.items;
      shared = k.shared;
      heap = g.H.ObjectStore.content k.heap;
      frames = g.F.SegmentFrames.content k.frames;
      main_kind = k.main_kind;
    } in
    let start : StartWords = record { domain = c.args.name.now; class = c.args.class.now; words = c.args.words.now } in
    let d = c.in-Ok.first.domain in
    let head = c.in-Ok.first.head in
    let may : MayStart (kernel_machine here) start d head =
    subst (λ (m : Machine). MayStart m start d head) (sym c.k.view_is) c.in-Ok.ensures.first in
    has_room here c.k.invariant c.is_sound.ensures start d head may

pub begin_thread-begun-requires-clause-may : goal.begin_thread-begun-requires-clause-may
begin_thread-begun-requires-clause-may g c =
    let k = c.k.inside in
    let here : KernelContent = record {
      world = k.world;
      owns = k.owns.items;
      shared = k.shared;
      heap = g.H.ObjectStore.content k.heap;
      frames = g.F.SegmentFrames.content k.frames;
      main_kind = k.main_kind;
    } in
    let start : StartWords = record { domain = c.args.name.now; class = c.args.class.now; words = c.args.words.now } in
    let d = c.in-Ok.first.domain in
    let head = c.in-Ok.first.head in
    let may : MayStart (kernel_machine here) start d head =
    subst (λ (m : Machine). MayStart m start d head) (sym c.k.view_is) c.in-Ok.ensures.first in
    may_begin here c.k.invariant c.is_sound.ensures start d head may

pub begin_segment-requires-clause-admitted : goal.begin_segment-requires-clause-admitted
begin_segment-requires-clause-admitted g c =
    let k = c.k.inside in
    let here : KernelContent = record {
      world = k.world;
      owns = k.owns.items;
      shared = k.shared;
      heap = g.H.ObjectStore.content k.heap;
      frames = g.F.SegmentFrames.content k.frames;
      main_kind = k.main_kind;
    } in
    let start : StartWords = record { domain = c.args.name.now; class = c.args.class.now; words = c.args.words.now } in
    let d = c.in-Ok.first.domain in
    let head = c.in-Ok.first.head in
    let may : MayStart (kernel_machine here) start d head =
    subst (λ (m : Machine). MayStart m start d head) (sym c.k.view_is) c.in-Ok.ensures.first in
    frames_admitted here c.k.invariant c.is_sound.ensures d (live_home here c.k.invariant c.is_sound.ensures start d head may)

pub begin_segment-requires-clause-new : goal.begin_segment-requires-clause-new
begin_segment-requires-clause-new g c =
    let k = c.k.inside in
    let here : KernelContent = record {
      world = k.world;
      owns = k.owns.items;
      shared = k.shared;
      heap = g.H.ObjectStore.content k.heap;
      frames = g.F.SegmentFrames.content k.frames;
      main_kind = k.main_kind;
    } in
    let start : StartWords = record { domain = c.args.name.now; class = c.args.class.now; words = c.args.words.now } in
    let d = c.in-Ok.first.domain in
    let head = c.in-Ok.first.head in
    let may : MayStart (kernel_machine here) start d head =
    subst (λ (m : Machine). MayStart m start d head) (sym c.k.view_is) c.in-Ok.ensures.first in
    let number : c.begin_thread-begun.result.segment ≡ next_segment (parts_of here) =
    same_segment (next_segment (parts_of here)) c.begin_thread-begun.result.segment c.begin_thread-begun.ensures.segment in
    ap (g.F.SegmentFrames.content k.frames).segment number ∙ none_there (parts_of here) c.k.invariant.sound.fitting c.is_sound.ensures

pub begin_segment-requires-clause-room : goal.begin_segment-requires-clause-room
begin_segment-requires-clause-room g c =
    let k = c.k.inside in
    let here : KernelContent = record {
      world = k.world;
      owns = k.owns.items;
      shared = k.shared;
      heap = g.H.ObjectStore.content k.heap;
      frames = g.F.SegmentFrames.content k.frames;
      main_kind = k.main_kind;
    } in
    let start : StartWords = record { domain = c.args.name.now; class = c.args.class.now; words = c.args.words.now } in
    let d = c.in-Ok.first.domain in
    let head = c.in-Ok.first.head in
    let may : MayStart (kernel_machine here) start d head =
    subst (λ (m : Machine). MayStart m start d head) (sym c.k.view_is) c.in-Ok.ensures.first in
    chunks_fit here c.k.invariant c.is_sound.ensures start d head may

pub begin_segment-requires-clause-local : goal.begin_segment-requires-clause-local
begin_segment-requires-clause-local g c =
    let k = c.k.inside in
    let here : KernelContent = record {
      world = k.world;
      owns = k.owns.items;
      shared = k.shared;
      heap = g.H.ObjectStore.content k.heap;
      frames = g.F.SegmentFrames.content k.frames;
      main_kind = k.main_kind;
    } in
    let start : StartWords = record { domain = c.args.name.now; class = c.args.class.now; words = c.args.words.now } in
    let d = c.in-Ok.first.domain in
    let head = c.in-Ok.first.head in
    let may : MayStart (kernel_machine here) start d head =
    subst (λ (m : Machine). MayStart m start d head) (sym c.k.view_is) c.in-Ok.ensures.first in
    local_fits here c.k.invariant c.is_sound.ensures start d head may

pub invariant_of-k : goal.invariant_of-k
invariant_of-k g c =
    let k = c.k.inside in
    let here : KernelContent = record {
      world = k.world;
      owns = k.owns.items;
      shared = k.shared;
      heap = g.H.ObjectStore.content k.heap;
      frames = g.F.SegmentFrames.content k.frames;
      main_kind = k.main_kind;
    } in
    let start : StartWords = record { domain = c.args.name.now; class = c.args.class.now; words = c.args.words.now } in
    let d = c.in-Ok.first.domain in
    let head = c.in-Ok.first.head in
    let may : MayStart (kernel_machine here) start d head =
    subst (λ (m : Machine). MayStart m start d head) (sym c.k.view_is) c.in-Ok.ensures.first in
    let number : c.begin_thread-begun.result.segment ≡ next_segment (parts_of here) =
    same_segment (next_segment (parts_of here)) c.begin_thread-begun.result.segment c.begin_thread-begun.ensures.segment in
    let heap = g.H.ObjectStore.content c.make_words-array.new.heap in
    let frames = g.F.SegmentFrames.content c.begin_segment.new.frames in
    let words : MakesStartWords here.heap heap k.world.classes d start.words c.make_words-array.result =
    subst (λ (cs : List ClassRecord). MakesStartWords here.heap heap cs d start.words c.make_words-array.result) c.classes.ensures
    c.make_words-array.ensures in
    let segment : BeginsSegment here.frames frames d (next_segment (parts_of here)) head (Held.Obj c.make_words-array.result) =
    subst (λ (s : SegmentNo). BeginsSegment here.frames frames d s head (Held.Obj c.make_words-array.result)) number c.begin_segment.ensures in
    let holds = g.met.H.ObjectStore.holds c.make_words-array.new.heap in
    let after = next here c.k.invariant c.is_sound.ensures start d head may heap frames c.make_words-array.result holds words segment in
    let starts = starts_next here c.k.invariant c.is_sound.ensures start d head may heap frames c.make_words-array.result holds words segment in
    let sealed = start_stays_sealed (kernel_machine here) start _ (kernel_machine after) c.k.invariant.sound.sealed c.k.invariant.sound.sound starts in
    subst (λ (s : SharedState). AreKernelParts (record here { shared = s; heap = heap; frames = frames })) (sym c.begin_thread-begun.ensures.begun)
    (kernel_next here c.k.invariant c.is_sound.ensures start d head may heap frames c.make_words-array.result holds words segment sealed)

pub returns : goal.returns
returns g c =
    let k = c.k.inside in
    let here : KernelContent = record {
      world = k.world;
      owns = k.owns.items;
      shared = k.shared;
      heap = g.H.ObjectStore.content k.heap;
      frames = g.F.SegmentFrames.content k.frames;
      main_kind = k.main_kind;
    } in
    let start : StartWords = record { domain = c.args.name.now; class = c.args.class.now; words = c.args.words.now } in
    let d = c.in-Ok.first.domain in
    let head = c.in-Ok.first.head in
    let may : MayStart (kernel_machine here) start d head =
    subst (λ (m : Machine). MayStart m start d head) (sym c.k.view_is) c.in-Ok.ensures.first in
    let number : c.begin_thread-begun.result.segment ≡ next_segment (parts_of here) =
    same_segment (next_segment (parts_of here)) c.begin_thread-begun.result.segment c.begin_thread-begun.ensures.segment in
    let heap = g.H.ObjectStore.content c.make_words-array.new.heap in
    let frames = g.F.SegmentFrames.content c.begin_segment.new.frames in
    let words : MakesStartWords here.heap heap k.world.classes d start.words c.make_words-array.result =
    subst (λ (cs : List ClassRecord). MakesStartWords here.heap heap cs d start.words c.make_words-array.result) c.classes.ensures
    c.make_words-array.ensures in
    let segment : BeginsSegment here.frames frames d (next_segment (parts_of here)) head (Held.Obj c.make_words-array.result) =
    subst (λ (s : SegmentNo). BeginsSegment here.frames frames d s head (Held.Obj c.make_words-array.result)) number c.begin_segment.ensures in
    let holds = g.met.H.ObjectStore.holds c.make_words-array.new.heap in
    let after = next here c.k.invariant c.is_sound.ensures start d head may heap frames c.make_words-array.result holds words segment in
    let starts = starts_next here c.k.invariant c.is_sound.ensures start d head may heap frames c.make_words-array.result holds words segment in
    let thread : record { 0 = k.shared.next_thread } ≡ c.begin_thread-begun.result.thread =
    λ i. record { 0 = sym c.begin_thread-begun.ensures.thread i } in
    record {
      event = subst (λ (t : ThreadNo). Starts c.args.k.now start (Says.Started t c.args.name.now ∷ [])
          (kernel_machine (record here { shared = c.begin_thread-begun.new.shared; heap = heap; frames = frames }))) thread
          (subst (λ (s : SharedState). Starts c.args.k.now start (Says.Started (record { 0 = k.shared.next_thread }) c.args.name.now ∷ [])
          (kernel_machine (record here { shared = s; heap = heap; frames = frames }))) (sym c.begin_thread-begun.ensures.begun)
          (subst (λ (m : Machine). Starts m start (Says.Started (record { 0 = k.shared.next_thread }) c.args.name.now ∷ []) (kernel_machine after)) c.k.view_is
          starts));
    }
