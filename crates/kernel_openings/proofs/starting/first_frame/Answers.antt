-- What is found of the domain, the class and its `main` is what the rules ask, in their order.
use Rattle.std.proofs.Common.{◌≡◌, [], ◌∷◌, Some, IsTrue, sym, subst, ◌∙◌, arith}
use Rattle.jk_model.specs.declared.output.Line.TheVariants as Says
use Rattle.jk_model_classes.specs.Worlds.{class_named}
use Rattle.jk_model_sharing.specs.SharedStates.{MayBegin}
use Rattle.jk_model_machine_state.specs.Machines.{Machine}
use Rattle.jk_model_runs.specs.Starts.{StartWords, Starts}
use Rattle.kernel_parts.specs.SoundKernels.{KernelContent, kernel_machine}
use Rattle.kernel_openings.specs.FirstFrames.{BeginsMain, MayStart}
use Rattle.kernel_openings.proofs.NamedDomains.{domain_here}
use Rattle.kernel_openings.proofs.StartsOfParts.{frames_admitted, heap_admitted, lives_here}
use Rattle.kernel_openings.proofs.StartsRefused.{none_refuses, refused_chunks, refused_class, refused_main, refused_name, refused_threads, refused_words}
use Rattle.kernel_openings.proofs.starting.first_frame.Goals as goal

pub returns-in_default-clause-refused : goal.returns-in_default-clause-refused
returns-in_default-clause-refused g c =
    let k = c.k.inside in
    let here : KernelContent = record {
      world = k.world;
      owns = k.owns.items;
      shared = k.shared;
      heap = g.H.ObjectStore.content k.heap;
      frames = g.F.SegmentFrames.content k.frames;
      main_kind = k.main_kind;
    } in
    let start : StartWords = record { domain = c.args.name.now; class = c.args.class.now; words = c.args.words.now } in
    subst (λ (m : Machine). Starts m start (Says.StartRefused c.args.name.now 1 ∷ []) m) c.k.view_is
    (refused_name here c.k.invariant start c.in_default.ensures)

pub returns-in_default-class_named-clause-refused : goal.returns-in_default-class_named-clause-refused
returns-in_default-class_named-clause-refused g c =
    let k = c.k.inside in
    let here : KernelContent = record {
      world = k.world;
      owns = k.owns.items;
      shared = k.shared;
      heap = g.H.ObjectStore.content k.heap;
      frames = g.F.SegmentFrames.content k.frames;
      main_kind = k.main_kind;
    } in
    let start : StartWords = record { domain = c.args.name.now; class = c.args.class.now; words = c.args.words.now } in
    let domain = domain_here here c.k.invariant start.domain c.in-Some.domain c.in-Some.ensures in
    subst (λ (m : Machine). Starts m start (Says.StartRefused c.args.name.now 2 ∷ []) m) c.k.view_is
    (refused_class here c.k.invariant start c.in-Some.domain c.in-Some.ensures c.is_sound.ensures domain
    (sym (c.class_named.ensures c.in-Some.ensures.0 c.in-Some.ensures.1) ∙ c.in_default-class_named.is))

pub returns-in_default-main_of-clause-refused : goal.returns-in_default-main_of-clause-refused
returns-in_default-main_of-clause-refused g c =
    let k = c.k.inside in
    let here : KernelContent = record {
      world = k.world;
      owns = k.owns.items;
      shared = k.shared;
      heap = g.H.ObjectStore.content k.heap;
      frames = g.F.SegmentFrames.content k.frames;
      main_kind = k.main_kind;
    } in
    let start : StartWords = record { domain = c.args.name.now; class = c.args.class.now; words = c.args.words.now } in
    let domain = domain_here here c.k.invariant start.domain c.in-Some.domain c.in-Some.ensures in
    let named : class_named c.in-Some.ensures.0.table c.args.class.now ≡ Some c.in-Some-class_named.class =
    sym (c.class_named.ensures c.in-Some.ensures.0 c.in-Some.ensures.1) ∙ c.in-Some-class_named.is in
    let same : (kernel_machine here).classes ≡ c.classes.result.now = sym c.classes.ensures in
    subst (λ (m : Machine). Starts m start (Says.StartRefused c.args.name.now 3 ∷ []) m) c.k.view_is
    (refused_main here c.k.invariant start c.in-Some.domain c.in-Some.ensures c.is_sound.ensures domain
    c.in-Some-class_named.class named
    (c.in_default-main_of.ensures (kernel_machine here) same))

pub may_begin-requires : goal.may_begin-requires
may_begin-requires g c =
    let k = c.k.inside in
    let here : KernelContent = record {
      world = k.world;
      owns = k.owns.items;
      shared = k.shared;
      heap = g.H.ObjectStore.content k.heap;
      frames = g.F.SegmentFrames.content k.frames;
      main_kind = k.main_kind;
    } in
    let start : StartWords = record { domain = c.args.name.now; class = c.args.class.now; words = c.args.words.now } in
    let domain = domain_here here c.k.invariant start.domain c.in-Some.domain c.in-Some.ensures in
    lives_here here c.k.invariant c.is_sound.ensures c.in-Some.domain domain.live

pub returns-then-not-may_begin-clause-refused : goal.returns-then-not-may_begin-clause-refused
returns-then-not-may_begin-clause-refused g c =
    let k = c.k.inside in
    let here : KernelContent = record {
      world = k.world;
      owns = k.owns.items;
      shared = k.shared;
      heap = g.H.ObjectStore.content k.heap;
      frames = g.F.SegmentFrames.content k.frames;
      main_kind = k.main_kind;
    } in
    let start : StartWords = record { domain = c.args.name.now; class = c.args.class.now; words = c.args.words.now } in
    let domain = domain_here here c.k.invariant start.domain c.in-Some.domain c.in-Some.ensures in
    let named : class_named c.in-Some.ensures.0.table c.args.class.now ≡ Some c.in-Some-class_named.class =
    sym (c.class_named.ensures c.in-Some.ensures.0 c.in-Some.ensures.1) ∙ c.in-Some-class_named.is in
    let same : (kernel_machine here).classes ≡ c.classes.result.now = sym c.classes.ensures in
    let main : BeginsMain (kernel_machine here) c.in-Some-class_named.class c.in-Some-main_of.head =
    c.in-Some-main_of.ensures (kernel_machine here) same in
    subst (λ (m : Machine). Starts m start (Says.StartRefused c.args.name.now 4 ∷ []) m) c.k.view_is
    (refused_threads here c.k.invariant start c.in-Some.domain c.in-Some.ensures c.is_sound.ensures domain
    c.in-Some-class_named.class named c.in-Some-main_of.head main
    (λ may. (let told : IsTrue c.may_begin.result = c.may_begin.ensures.1 may in let never = c.if-not-may_begin.true in absurd cc)))

pub free-requires : goal.free-requires
free-requires g c =
    let k = c.k.inside in
    let here : KernelContent = record {
      world = k.world;
      owns = k.owns.items;
      shared = k.shared;
      heap = g.H.ObjectStore.content k.heap;
      frames = g.F.SegmentFrames.content k.frames;
      main_kind = k.main_kind;
    } in
    let start : StartWords = record { domain = c.args.name.now; class = c.args.class.now; words = c.args.words.now } in
    let domain = domain_here here c.k.invariant start.domain c.in-Some.domain c.in-Some.ensures in
    heap_admitted here c.k.invariant c.is_sound.ensures c.in-Some.domain domain.live

pub returns-then-words_cost-from-clause-refused : goal.returns-then-words_cost-from-clause-refused
returns-then-words_cost-from-clause-refused g c =
    let k = c.k.inside in
    let here : KernelContent = record {
      world = k.world;
      owns = k.owns.items;
      shared = k.shared;
      heap = g.H.ObjectStore.content k.heap;
      frames = g.F.SegmentFrames.content k.frames;
      main_kind = k.main_kind;
    } in
    let start : StartWords = record { domain = c.args.name.now; class = c.args.class.now; words = c.args.words.now } in
    let domain = domain_here here c.k.invariant start.domain c.in-Some.domain c.in-Some.ensures in
    let named : class_named c.in-Some.ensures.0.table c.args.class.now ≡ Some c.in-Some-class_named.class =
    sym (c.class_named.ensures c.in-Some.ensures.0 c.in-Some.ensures.1) ∙ c.in-Some-class_named.is in
    let same : (kernel_machine here).classes ≡ c.classes.result.now = sym c.classes.ensures in
    let main : BeginsMain (kernel_machine here) c.in-Some-class_named.class c.in-Some-main_of.head =
    c.in-Some-main_of.ensures (kernel_machine here) same in
    let may : MayBegin k.shared c.in-Some.domain = c.may_begin.ensures.0 c.if-not-may_begin.false in
    subst (λ (m : Machine). Starts m start (Says.StartRefused c.args.name.now 5 ∷ []) m) c.k.view_is
    (refused_words here c.k.invariant start c.in-Some.domain c.in-Some.ensures c.is_sound.ensures domain
    c.in-Some-class_named.class named c.in-Some-main_of.head main may
    (omega (arith, c.if-words_cost-from.true, c.words_cost.ensures, c.free.ensures, c.from.ensures)))

pub free-requires-2 : goal.free-requires-2
free-requires-2 g c =
    let k = c.k.inside in
    let here : KernelContent = record {
      world = k.world;
      owns = k.owns.items;
      shared = k.shared;
      heap = g.H.ObjectStore.content k.heap;
      frames = g.F.SegmentFrames.content k.frames;
      main_kind = k.main_kind;
    } in
    let start : StartWords = record { domain = c.args.name.now; class = c.args.class.now; words = c.args.words.now } in
    let domain = domain_here here c.k.invariant start.domain c.in-Some.domain c.in-Some.ensures in
    frames_admitted here c.k.invariant c.is_sound.ensures c.in-Some.domain domain.live

pub returns-then-free-chunks_of-clause-refused : goal.returns-then-free-chunks_of-clause-refused
returns-then-free-chunks_of-clause-refused g c =
    let k = c.k.inside in
    let here : KernelContent = record {
      world = k.world;
      owns = k.owns.items;
      shared = k.shared;
      heap = g.H.ObjectStore.content k.heap;
      frames = g.F.SegmentFrames.content k.frames;
      main_kind = k.main_kind;
    } in
    let start : StartWords = record { domain = c.args.name.now; class = c.args.class.now; words = c.args.words.now } in
    let domain = domain_here here c.k.invariant start.domain c.in-Some.domain c.in-Some.ensures in
    let named : class_named c.in-Some.ensures.0.table c.args.class.now ≡ Some c.in-Some-class_named.class =
    sym (c.class_named.ensures c.in-Some.ensures.0 c.in-Some.ensures.1) ∙ c.in-Some-class_named.is in
    let same : (kernel_machine here).classes ≡ c.classes.result.now = sym c.classes.ensures in
    let main : BeginsMain (kernel_machine here) c.in-Some-class_named.class c.in-Some-main_of.head =
    c.in-Some-main_of.ensures (kernel_machine here) same in
    let may : MayBegin k.shared c.in-Some.domain = c.may_begin.ensures.0 c.if-not-may_begin.false in
    subst (λ (m : Machine). Starts m start (Says.StartRefused c.args.name.now 6 ∷ []) m) c.k.view_is
    (refused_chunks here c.k.invariant start c.in-Some.domain c.in-Some.ensures c.is_sound.ensures domain
    c.in-Some-class_named.class named c.in-Some-main_of.head main may
    (omega (arith, c.if-words_cost-from.false, c.words_cost.ensures, c.free.ensures, c.from.ensures))
    (omega (arith, c.if-free-chunks_of.true, c.free-2.ensures, c.chunks_of.ensures)))

pub returns-clause-first : goal.returns-clause-first
returns-clause-first g c =
    let k = c.k.inside in
    let here : KernelContent = record {
      world = k.world;
      owns = k.owns.items;
      shared = k.shared;
      heap = g.H.ObjectStore.content k.heap;
      frames = g.F.SegmentFrames.content k.frames;
      main_kind = k.main_kind;
    } in
    let start : StartWords = record { domain = c.args.name.now; class = c.args.class.now; words = c.args.words.now } in
    let domain = domain_here here c.k.invariant start.domain c.in-Some.domain c.in-Some.ensures in
    let named : class_named c.in-Some.ensures.0.table c.args.class.now ≡ Some c.in-Some-class_named.class =
    sym (c.class_named.ensures c.in-Some.ensures.0 c.in-Some.ensures.1) ∙ c.in-Some-class_named.is in
    let same : (kernel_machine here).classes ≡ c.classes.result.now = sym c.classes.ensures in
    let main : BeginsMain (kernel_machine here) c.in-Some-class_named.class c.in-Some-main_of.head =
    c.in-Some-main_of.ensures (kernel_machine here) same in
    let may : MayBegin k.shared c.in-Some.domain = c.may_begin.ensures.0 c.if-not-may_begin.false in
    subst (λ (m : Machine). MayStart m start c.in-Some.domain c.in-Some-main_of.head) c.k.view_is
    (none_refuses here c.k.invariant start c.in-Some.domain c.in-Some.ensures c.is_sound.ensures domain
    c.in-Some-class_named.class named c.in-Some-main_of.head main may
    (omega (arith, c.if-words_cost-from.false, c.words_cost.ensures, c.free.ensures, c.from.ensures))
    (omega (arith, c.if-free-chunks_of.false, c.free-2.ensures, c.chunks_of.ensures)))
