-- What is loaded and opened is a kernel with the domain; and what is refused leaves the kernel as it was.
use Rattle.std.proofs.Common.{◌≡◌, ◌⊎◌, inl, inr, [], ◌∷◌, length, Result, Ok, Err, sym, ap, subst, ◌∙◌}
use Rattle.jk_model.specs.declared.output.Line.TheVariants as Says
use Rattle.jk_model.specs.declared.output.Place.{Place}
use Rattle.jk_model.specs.declared.output.Rule.{Rule}
use Rattle.jk_model.specs.declared.output.Rule.TheVariants.{L1, L2, L5}
use Rattle.jk_model.specs.declared.output.Place.TheVariants.{Whole}
use Rattle.jk_model_classes.specs.Worlds.{WorldRecord}
use Rattle.jk_model_sharing.specs.SharedStates.{SharedState}
use Rattle.jk_model_folders.specs.FolderRules.{IsFolderFault, IsLive}
use Rattle.jk_model_machine_state.specs.Machines.{Machine, world_of}
use Rattle.folder_loader.specs.declared.answers.LoadAnswer.{LoadAnswer}
use Rattle.folder_loader.specs.declared.answers.LoadAnswer.TheVariants as Loading
use Rattle.kernel_parts.specs.SoundKernels.{AreKernelParts, KernelContent, kernel_machine}
use Rattle.kernel_openings.specs.AddedDomains.{AddsDomain, IsCauseOf, Opening, OpensAccepted}
use Rattle.kernel_openings.specs.declared.answers.AddAnswer.{AddAnswer}
use Rattle.kernel_openings.specs.declared.answers.AddAnswer.TheVariants as Adding
use Rattle.kernel_openings.specs.declared.answers.AddAnswer.TheVariants.{ReadFault}
use Rattle.kernel_openings.specs.LoadedFolders.{IsLoadRefusal}
use Rattle.kernel_openings.specs.OpenedParts.{IsWhyNot, OpenParts}
use Rattle.kernel_openings.proofs.AddedKernels.{cause_so, content_again, kernel_so, may_open_so, opened_accepted, opens_so, parts_with}
use Rattle.kernel_openings.proofs.LoadingKernels.{as_many, may_load, world_is}
use Rattle.kernel_openings.proofs.OneAnswer.{no_other, none_opened}
use Rattle.kernel_openings.proofs.OpeningsAnswered.{cause_of_load, load_calm, load_fault, load_refused, told_by_cause}
use Rattle.kernel_openings.proofs.adding.add_domain.Goals as goal

-- an answer is in one error
same_error : {T E : Type 0} {x y : E} → ◌≡◌ {A = Result T E} (Err x) (Err y) → x ≡ y
same_error e = cc

ok_isnt_err : {T E : Type 0} {x : T} {y : E} → ◌≡◌ {A = Result T E} (Ok x) (Err y) → ⊥
ok_isnt_err e = cc

-- a written rule that the folder breaks has no other answer
load_alone : (e : LoadAnswer) (a : AddAnswer) (rule : Rule) (place : Place) → IsLoadRefusal e a
    → (e ≡ Loading.Refused rule place) ⊎ (e ≡ Loading.ReadFault) ⊎ (e ≡ Loading.OutOfMemory)
    → (a ≡ Adding.Refused rule place) ⊎ (a ≡ Adding.ReadFault) ⊎ (a ≡ Adding.OutOfMemory)
load_alone e a rule place refusal (inl is) = inl (subst (λ (x : LoadAnswer). IsLoadRefusal x a) is refusal)
load_alone e a rule place refusal (inr (inl is)) = inr (inl (subst (λ (x : LoadAnswer). IsLoadRefusal x a) is refusal))
load_alone e a rule place refusal (inr (inr is)) = inr (inr (subst (λ (x : LoadAnswer). IsLoadRefusal x a) is refusal))

-- the name of a live domain is refused by L1
load_live : (e : LoadAnswer) (a : AddAnswer) → IsLoadRefusal e a → e ≡ Loading.Refused L1 Whole → a ≡ Adding.Refused L1 Whole
load_live e a refusal is = subst (λ (x : LoadAnswer). IsLoadRefusal x a) is refusal

pub load-requires : goal.load-requires
load-requires g c =
    let k = c.k.inside in
    let here : KernelContent = record {
      world = k.world;
      owns = k.owns.items;
      shared = k.shared;
      heap = g.H.ObjectStore.content k.heap;
      frames = g.F.SegmentFrames.content k.frames;
      main_kind = k.main_kind;
    } in
    may_load here c.k.invariant

pub open-requires-clause-may : goal.open-requires-clause-may
open-requires-clause-may g c =
    let k = c.k.inside in
    let here : KernelContent = record {
      world = k.world;
      owns = k.owns.items;
      shared = k.shared;
      heap = g.H.ObjectStore.content k.heap;
      frames = g.F.SegmentFrames.content k.frames;
      main_kind = k.main_kind;
    } in
    let loaded = c.in-Ok.ensures.ok in
    may_open_so here c.k.invariant c.accepted_folders_stay_sound.ensures loaded.found loaded.are_files c.args.name.now c.in-Ok.loaded
    c.load.new.world loaded.loads
    c.in-Ok.ensures.typed c.holds.ensures.ordered

pub open-requires-clause-asked : goal.open-requires-clause-asked
open-requires-clause-asked g c = record { words = c.requires.words; chunks = c.requires.chunks; counts = c.requires.counts }

pub invariant_of-k-in-Ok-open : goal.invariant_of-k-in-Ok-open
invariant_of-k-in-Ok-open g c =
    let k = c.k.inside in
    let here : KernelContent = record {
      world = k.world;
      owns = k.owns.items;
      shared = k.shared;
      heap = g.H.ObjectStore.content k.heap;
      frames = g.F.SegmentFrames.content k.frames;
      main_kind = k.main_kind;
    } in
    let loaded = c.in-Ok.ensures.ok in
    let new : OpenParts = record {
      world = c.open.new.world;
      owns = c.open.new.owns.items;
      shared = c.open.new.shared;
      heap = g.H.ObjectStore.content c.open.new.heap;
      frames = g.F.SegmentFrames.content c.open.new.frames;
    } in
    kernel_so here c.k.invariant c.accepted_folders_stay_sound.ensures loaded.found loaded.are_files c.args.name.now c.in-Ok.loaded c.load.new.world
    loaded.loads
    c.in-Ok.ensures.typed c.holds.ensures.ordered (g.met.H.ObjectStore.holds k.heap) (g.met.F.FrameStore.holds k.frames) c.is_sound.ensures c.args.quotas
    (g.R.Files.tree c.args.files.now) c.args.root.now loaded.are_told
    new (g.met.H.ObjectStore.holds c.open.new.heap) c.in-Ok-open.ensures.ok

pub invariant_of-k-in-Err-open : goal.invariant_of-k-in-Err-open
invariant_of-k-in-Err-open g c =
    let k = c.k.inside in
    let here : KernelContent = record {
      world = k.world;
      owns = k.owns.items;
      shared = k.shared;
      heap = g.H.ObjectStore.content k.heap;
      frames = g.F.SegmentFrames.content k.frames;
      main_kind = k.main_kind;
    } in
    let loaded = c.in-Ok.ensures.ok in
    let new : OpenParts = record {
      world = c.open.new.world;
      owns = c.open.new.owns.items;
      shared = c.open.new.shared;
      heap = g.H.ObjectStore.content c.open.new.heap;
      frames = g.F.SegmentFrames.content c.open.new.frames;
    } in
    subst AreKernelParts (sym (content_again here c.k.invariant c.accepted_folders_stay_sound.ensures loaded.found loaded.are_files c.args.name.now
    c.in-Ok.loaded c.load.new.world loaded.loads
    c.in-Ok.ensures.typed c.holds.ensures.ordered new c.cut_classes.new.self
    c.len.result (c.len.ensures.count ∙ ap length c.classes.ensures) c.in-Err-open.ensures.err c.cut_classes.ensures)) c.k.invariant

pub returns-in-Err-clause-number : goal.returns-in-Err-clause-number
returns-in-Err-clause-number g c = tt

pub returns-in-Err-clause-ok : goal.returns-in-Err-clause-ok
returns-in-Err-clause-ok g c = tt

pub returns-in-Err-clause-opened : goal.returns-in-Err-clause-opened
returns-in-Err-clause-opened g c = tt

pub returns-in-Err-clause-cause : goal.returns-in-Err-clause-cause
returns-in-Err-clause-cause g c =
    let k = c.k.inside in
    let here : KernelContent = record {
      world = k.world;
      owns = k.owns.items;
      shared = k.shared;
      heap = g.H.ObjectStore.content k.heap;
      frames = g.F.SegmentFrames.content k.frames;
      main_kind = k.main_kind;
    } in
    let o : Opening = record { tree = g.R.Files.tree c.args.files.now; root = c.args.root.now; name = c.args.name.now; quotas = c.args.quotas } in
    subst (λ (m : Machine). IsCauseOf o m c.not_loaded.result) c.k.view_is
    (cause_of_load o (kernel_machine here) k.world (world_is here c.k.invariant) c.in-Err.e c.not_loaded.result c.not_loaded.ensures
    (λ rule place is. c.load.ensures.refused rule place (c.in-Err.is ∙ ap Err is))
    (λ t rule place told is. c.load.ensures.folder_fault t rule place told (c.in-Err.is ∙ ap Err is)))

pub returns-in-Err-clause-refused : goal.returns-in-Err-clause-refused
returns-in-Err-clause-refused g c =
    let k = c.k.inside in
    let here : KernelContent = record {
      world = k.world;
      owns = k.owns.items;
      shared = k.shared;
      heap = g.H.ObjectStore.content k.heap;
      frames = g.F.SegmentFrames.content k.frames;
      main_kind = k.main_kind;
    } in
    let o : Opening = record { tree = g.R.Files.tree c.args.files.now; root = c.args.root.now; name = c.args.name.now; quotas = c.args.quotas } in
    λ line is. told_by_cause o c.args.k.now c.not_loaded.result line
    (subst (λ (m : Machine). IsCauseOf o m c.not_loaded.result) c.k.view_is
    (cause_of_load o (kernel_machine here) k.world (world_is here c.k.invariant) c.in-Err.e c.not_loaded.result c.not_loaded.ensures
    (λ rule place is. c.load.ensures.refused rule place (c.in-Err.is ∙ ap Err is))
    (λ t rule place told is. c.load.ensures.folder_fault t rule place told (c.in-Err.is ∙ ap Err is)))) is

pub returns-in-Err-clause-only_refused : goal.returns-in-Err-clause-only_refused
returns-in-Err-clause-only_refused g c = λ t rule place told fault.
    let k = c.k.inside in
    let here : KernelContent = record {
      world = k.world;
      owns = k.owns.items;
      shared = k.shared;
      heap = g.H.ObjectStore.content k.heap;
      frames = g.F.SegmentFrames.content k.frames;
      main_kind = k.main_kind;
    } in
    let there : IsFolderFault t c.args.root.now k.world c.args.name.now rule place =
    subst (λ (w : WorldRecord). IsFolderFault t c.args.root.now w c.args.name.now rule place) (world_is here c.k.invariant)
    (subst (λ (m : Machine). IsFolderFault t c.args.root.now (world_of m) c.args.name.now rule place) (sym c.k.view_is) fault) in
    load_alone c.in-Err.e c.not_loaded.result rule place c.not_loaded.ensures (c.in-Err.ensures.only_refused t rule place told there)

pub returns-in-Err-clause-only_lacking : goal.returns-in-Err-clause-only_lacking
returns-in-Err-clause-only_lacking g c =
    let k = c.k.inside in
    let here : KernelContent = record {
      world = k.world;
      owns = k.owns.items;
      shared = k.shared;
      heap = g.H.ObjectStore.content k.heap;
      frames = g.F.SegmentFrames.content k.frames;
      main_kind = k.main_kind;
    } in
    let o : Opening = record { tree = g.R.Files.tree c.args.files.now; root = c.args.root.now; name = c.args.name.now; quotas = c.args.quotas } in
    λ t e told lacking why. no_other c.folders_have_one_verdict.ensures.loaded o c.args.k.now t told e c.not_loaded.result lacking why
    (subst (λ (m : Machine). IsCauseOf o m c.not_loaded.result) c.k.view_is
    (cause_of_load o (kernel_machine here) k.world (world_is here c.k.invariant) c.in-Err.e c.not_loaded.result c.not_loaded.ensures
    (λ rule place is. c.load.ensures.refused rule place (c.in-Err.is ∙ ap Err is))
    (λ t rule place told is. c.load.ensures.folder_fault t rule place told (c.in-Err.is ∙ ap Err is))))

pub returns-in-Err-clause-err : goal.returns-in-Err-clause-err
returns-in-Err-clause-err g c =
    let k = c.k.inside in
    let here : KernelContent = record {
      world = k.world;
      owns = k.owns.items;
      shared = k.shared;
      heap = g.H.ObjectStore.content k.heap;
      frames = g.F.SegmentFrames.content k.frames;
      main_kind = k.main_kind;
    } in
    ap (λ (w : WorldRecord). kernel_machine (record {
      world = w;
      owns = here.owns;
      shared = here.shared;
      heap = here.heap;
      frames = here.frames;
      main_kind = here.main_kind;
    })) c.in-Err.ensures.err ∙ c.k.view_is

pub returns-in-Err-clause-read_fault : goal.returns-in-Err-clause-read_fault
returns-in-Err-clause-read_fault g c = λ e. c.load.ensures.read_fault (c.in-Err.is ∙ ap Err (load_fault c.in-Err.e c.not_loaded.result
    c.not_loaded.ensures (same_error e)))

pub returns-in-Err-clause-something : goal.returns-in-Err-clause-something
returns-in-Err-clause-something g c = λ e. c.load.ensures.something (c.in-Err.is ∙ ap Err (load_fault c.in-Err.e c.not_loaded.result
    c.not_loaded.ensures (same_error e)))

pub returns-in-Err-clause-calm : goal.returns-in-Err-clause-calm
returns-in-Err-clause-calm g c = λ t told other.
    c.load.ensures.calm t told
    (λ fault. load_calm c.in-Err.e c.not_loaded.result c.not_loaded.ensures (λ e. other (ap Err e)) (same_error (sym c.in-Err.is ∙ fault)))

pub returns-in-Err-clause-counts : goal.returns-in-Err-clause-counts
returns-in-Err-clause-counts g c = (ap (λ (m : Machine). m.next_thread) c.k.view_is, ap (λ (m : Machine). m.next_segment) c.k.view_is)

pub returns-in-Err-clause-stays : goal.returns-in-Err-clause-stays
returns-in-Err-clause-stays g c = c.load.ensures.stays

pub returns-in-Err-clause-faults : goal.returns-in-Err-clause-faults
returns-in-Err-clause-faults g c = c.load.ensures.faults

pub returns-in-Err-clause-asks : goal.returns-in-Err-clause-asks
returns-in-Err-clause-asks g c = c.load.ensures.asks

pub returns-in-Err-clause-no_folder : goal.returns-in-Err-clause-no_folder
returns-in-Err-clause-no_folder g c = λ e.
    c.load.ensures.no_folder (c.in-Err.is ∙ ap Err (load_refused c.in-Err.e c.not_loaded.result L2 Whole c.not_loaded.ensures (same_error e)))

pub returns-in-Err-clause-missed : goal.returns-in-Err-clause-missed
returns-in-Err-clause-missed g c = λ e.
    c.load.ensures.missed (c.in-Err.is ∙ ap Err (load_refused c.in-Err.e c.not_loaded.result L2 Whole c.not_loaded.ensures (same_error e)))

pub returns-in-Err-clause-large : goal.returns-in-Err-clause-large
returns-in-Err-clause-large g c = λ e.
    c.load.ensures.large (c.in-Err.is ∙ ap Err (load_refused c.in-Err.e c.not_loaded.result L5 Whole c.not_loaded.ensures (same_error e)))

pub returns-in-Err-clause-live : goal.returns-in-Err-clause-live
returns-in-Err-clause-live g c = λ live.
    let k = c.k.inside in
    let here : KernelContent = record {
      world = k.world;
      owns = k.owns.items;
      shared = k.shared;
      heap = g.H.ObjectStore.content k.heap;
      frames = g.F.SegmentFrames.content k.frames;
      main_kind = k.main_kind;
    } in
    let there : IsLive k.world c.args.name.now =
    subst (λ (w : WorldRecord). IsLive w c.args.name.now) (world_is here c.k.invariant)
    (subst (λ (m : Machine). IsLive (world_of m) c.args.name.now) (sym c.k.view_is) live) in
    ap Err (load_live c.in-Err.e c.not_loaded.result c.not_loaded.ensures (same_error (sym c.in-Err.is ∙ c.load.ensures.live there)))

pub returns-in-Err-clause-live_asks : goal.returns-in-Err-clause-live_asks
returns-in-Err-clause-live_asks g c = λ live.
    let k = c.k.inside in
    let here : KernelContent = record {
      world = k.world;
      owns = k.owns.items;
      shared = k.shared;
      heap = g.H.ObjectStore.content k.heap;
      frames = g.F.SegmentFrames.content k.frames;
      main_kind = k.main_kind;
    } in
    let there : IsLive k.world c.args.name.now =
    subst (λ (w : WorldRecord). IsLive w c.args.name.now) (world_is here c.k.invariant)
    (subst (λ (m : Machine). IsLive (world_of m) c.args.name.now) (sym c.k.view_is) live) in
    c.load.ensures.live_asks there

pub returns-in-Err-clause-taken : goal.returns-in-Err-clause-taken
returns-in-Err-clause-taken g c = c.load.ensures.taken

pub returns-in-Err-clause-once : goal.returns-in-Err-clause-once
returns-in-Err-clause-once g c = c.load.ensures.once

pub returns-in-Ok-open-clause-number : goal.returns-in-Ok-open-clause-number
returns-in-Ok-open-clause-number g c =
    let k = c.k.inside in
    let here : KernelContent = record {
      world = k.world;
      owns = k.owns.items;
      shared = k.shared;
      heap = g.H.ObjectStore.content k.heap;
      frames = g.F.SegmentFrames.content k.frames;
      main_kind = k.main_kind;
    } in
    c.domain_count.ensures.count ∙ sym (as_many here c.k.invariant) ∙ ap (λ (m : Machine). length m.domains) c.k.view_is

pub returns-in-Ok-open-clause-ok : goal.returns-in-Ok-open-clause-ok
returns-in-Ok-open-clause-ok g c =
    let k = c.k.inside in
    let here : KernelContent = record {
      world = k.world;
      owns = k.owns.items;
      shared = k.shared;
      heap = g.H.ObjectStore.content k.heap;
      frames = g.F.SegmentFrames.content k.frames;
      main_kind = k.main_kind;
    } in
    let loaded = c.in-Ok.ensures.ok in
    let new : OpenParts = record {
      world = c.open.new.world;
      owns = c.open.new.owns.items;
      shared = c.open.new.shared;
      heap = g.H.ObjectStore.content c.open.new.heap;
      frames = g.F.SegmentFrames.content c.open.new.frames;
    } in
    let o : Opening = record { tree = g.R.Files.tree c.args.files.now; root = c.args.root.now; name = c.args.name.now; quotas = c.args.quotas } in
    subst (λ (m : Machine). AddsDomain o m (Says.Loaded c.args.name.now ∷ []) (kernel_machine (record {
      world = new.world;
      owns = new.owns;
      shared = new.shared;
      heap = new.heap;
      frames = new.frames;
      main_kind = k.main_kind;
    }))) c.k.view_is
    (opens_so here c.k.invariant c.accepted_folders_stay_sound.ensures loaded.found loaded.are_files c.args.name.now c.in-Ok.loaded c.load.new.world
    loaded.loads
    c.in-Ok.ensures.typed c.holds.ensures.ordered (g.met.H.ObjectStore.holds k.heap) (g.met.F.FrameStore.holds k.frames) c.is_sound.ensures c.args.quotas
    (g.R.Files.tree c.args.files.now) c.args.root.now loaded.are_told
    new (g.met.H.ObjectStore.holds c.open.new.heap) c.in-Ok-open.ensures.ok)

pub returns-in-Ok-open-clause-opened : goal.returns-in-Ok-open-clause-opened
returns-in-Ok-open-clause-opened g c =
    let k = c.k.inside in
    let here : KernelContent = record {
      world = k.world;
      owns = k.owns.items;
      shared = k.shared;
      heap = g.H.ObjectStore.content k.heap;
      frames = g.F.SegmentFrames.content k.frames;
      main_kind = k.main_kind;
    } in
    let loaded = c.in-Ok.ensures.ok in
    let new : OpenParts = record {
      world = c.open.new.world;
      owns = c.open.new.owns.items;
      shared = c.open.new.shared;
      heap = g.H.ObjectStore.content c.open.new.heap;
      frames = g.F.SegmentFrames.content c.open.new.frames;
    } in
    subst (λ (m : Machine). OpensAccepted m c.args.name.now c.args.quotas (kernel_machine (record {
      world = new.world;
      owns = new.owns;
      shared = new.shared;
      heap = new.heap;
      frames = new.frames;
      main_kind = k.main_kind;
    }))) c.k.view_is
    (opened_accepted here c.k.invariant c.accepted_folders_stay_sound.ensures loaded.found loaded.are_files c.args.name.now c.in-Ok.loaded
    c.load.new.world loaded.loads
    c.in-Ok.ensures.typed c.holds.ensures.ordered (g.met.H.ObjectStore.holds k.heap) (g.met.F.FrameStore.holds k.frames) c.is_sound.ensures c.args.quotas
    (g.R.Files.tree c.args.files.now) c.args.root.now loaded.are_told
    new (g.met.H.ObjectStore.holds c.open.new.heap) c.in-Ok-open.ensures.ok)

pub returns-in-Ok-open-clause-cause : goal.returns-in-Ok-open-clause-cause
returns-in-Ok-open-clause-cause g c = tt

pub returns-in-Ok-open-clause-refused : goal.returns-in-Ok-open-clause-refused
returns-in-Ok-open-clause-refused g c = tt

pub returns-in-Ok-open-clause-only_refused : goal.returns-in-Ok-open-clause-only_refused
returns-in-Ok-open-clause-only_refused g c = λ t rule place told fault.
    let k = c.k.inside in
    let here : KernelContent = record {
      world = k.world;
      owns = k.owns.items;
      shared = k.shared;
      heap = g.H.ObjectStore.content k.heap;
      frames = g.F.SegmentFrames.content k.frames;
      main_kind = k.main_kind;
    } in
    let there : IsFolderFault t c.args.root.now k.world c.args.name.now rule place =
    subst (λ (w : WorldRecord). IsFolderFault t c.args.root.now w c.args.name.now rule place) (world_is here c.k.invariant)
    (subst (λ (m : Machine). IsFolderFault t c.args.root.now (world_of m) c.args.name.now rule place) (sym c.k.view_is) fault) in
    absurd (c.in-Ok.ensures.only_refused t rule place told there)

pub returns-in-Ok-open-clause-only_lacking : goal.returns-in-Ok-open-clause-only_lacking
returns-in-Ok-open-clause-only_lacking g c =
    let k = c.k.inside in
    let here : KernelContent = record {
      world = k.world;
      owns = k.owns.items;
      shared = k.shared;
      heap = g.H.ObjectStore.content k.heap;
      frames = g.F.SegmentFrames.content k.frames;
      main_kind = k.main_kind;
    } in
    let loaded = c.in-Ok.ensures.ok in
    let new : OpenParts = record {
      world = c.open.new.world;
      owns = c.open.new.owns.items;
      shared = c.open.new.shared;
      heap = g.H.ObjectStore.content c.open.new.heap;
      frames = g.F.SegmentFrames.content c.open.new.frames;
    } in
    let o : Opening = record { tree = g.R.Files.tree c.args.files.now; root = c.args.root.now; name = c.args.name.now; quotas = c.args.quotas } in
    λ t e told lacking why. none_opened o c.args.k.now _ e lacking why
    (subst (λ (m : Machine). AddsDomain o m (Says.Loaded c.args.name.now ∷ []) (kernel_machine (record {
      world = new.world;
      owns = new.owns;
      shared = new.shared;
      heap = new.heap;
      frames = new.frames;
      main_kind = k.main_kind;
    }))) c.k.view_is
    (opens_so here c.k.invariant c.accepted_folders_stay_sound.ensures loaded.found loaded.are_files c.args.name.now c.in-Ok.loaded c.load.new.world
    loaded.loads
    c.in-Ok.ensures.typed c.holds.ensures.ordered (g.met.H.ObjectStore.holds k.heap) (g.met.F.FrameStore.holds k.frames) c.is_sound.ensures c.args.quotas
    (g.R.Files.tree c.args.files.now) c.args.root.now loaded.are_told
    new (g.met.H.ObjectStore.holds c.open.new.heap) c.in-Ok-open.ensures.ok))

pub returns-in-Ok-open-clause-err : goal.returns-in-Ok-open-clause-err
returns-in-Ok-open-clause-err g c = tt

pub returns-in-Ok-open-clause-read_fault : goal.returns-in-Ok-open-clause-read_fault
returns-in-Ok-open-clause-read_fault g c = λ e. absurd (ok_isnt_err e)

pub returns-in-Ok-open-clause-something : goal.returns-in-Ok-open-clause-something
returns-in-Ok-open-clause-something g c = λ e. absurd (ok_isnt_err e)

pub returns-in-Ok-open-clause-calm : goal.returns-in-Ok-open-clause-calm
returns-in-Ok-open-clause-calm g c = λ t told other. c.load.ensures.calm t told (λ fault. ok_isnt_err (sym c.in-Ok.is ∙ fault))

pub returns-in-Ok-open-clause-counts : goal.returns-in-Ok-open-clause-counts
returns-in-Ok-open-clause-counts g c = (
  ap (λ (s : SharedState). s.next_thread) c.in-Ok-open.ensures.ok.shared_is ∙ ap (λ (m : Machine). m.next_thread) c.k.view_is,
  ap (λ (s : SharedState). s.next_segment) c.in-Ok-open.ensures.ok.shared_is ∙ ap (λ (m : Machine). m.next_segment) c.k.view_is,
)

pub returns-in-Ok-open-clause-stays : goal.returns-in-Ok-open-clause-stays
returns-in-Ok-open-clause-stays g c = c.load.ensures.stays

pub returns-in-Ok-open-clause-faults : goal.returns-in-Ok-open-clause-faults
returns-in-Ok-open-clause-faults g c = c.load.ensures.faults

pub returns-in-Ok-open-clause-asks : goal.returns-in-Ok-open-clause-asks
returns-in-Ok-open-clause-asks g c = c.load.ensures.asks

pub returns-in-Ok-open-clause-no_folder : goal.returns-in-Ok-open-clause-no_folder
returns-in-Ok-open-clause-no_folder g c = λ e. absurd (ok_isnt_err e)

pub returns-in-Ok-open-clause-missed : goal.returns-in-Ok-open-clause-missed
returns-in-Ok-open-clause-missed g c = λ e. absurd (ok_isnt_err e)

pub returns-in-Ok-open-clause-large : goal.returns-in-Ok-open-clause-large
returns-in-Ok-open-clause-large g c = λ e. absurd (ok_isnt_err e)

pub returns-in-Ok-open-clause-live : goal.returns-in-Ok-open-clause-live
returns-in-Ok-open-clause-live g c = λ live.
    let k = c.k.inside in
    let here : KernelContent = record {
      world = k.world;
      owns = k.owns.items;
      shared = k.shared;
      heap = g.H.ObjectStore.content k.heap;
      frames = g.F.SegmentFrames.content k.frames;
      main_kind = k.main_kind;
    } in
    let there : IsLive k.world c.args.name.now =
    subst (λ (w : WorldRecord). IsLive w c.args.name.now) (world_is here c.k.invariant)
    (subst (λ (m : Machine). IsLive (world_of m) c.args.name.now) (sym c.k.view_is) live) in
    absurd (ok_isnt_err (sym c.in-Ok.is ∙ c.load.ensures.live there))

pub returns-in-Ok-open-clause-live_asks : goal.returns-in-Ok-open-clause-live_asks
returns-in-Ok-open-clause-live_asks g c = λ live.
    let k = c.k.inside in
    let here : KernelContent = record {
      world = k.world;
      owns = k.owns.items;
      shared = k.shared;
      heap = g.H.ObjectStore.content k.heap;
      frames = g.F.SegmentFrames.content k.frames;
      main_kind = k.main_kind;
    } in
    let there : IsLive k.world c.args.name.now =
    subst (λ (w : WorldRecord). IsLive w c.args.name.now) (world_is here c.k.invariant)
    (subst (λ (m : Machine). IsLive (world_of m) c.args.name.now) (sym c.k.view_is) live) in
    absurd (ok_isnt_err (sym c.in-Ok.is ∙ c.load.ensures.live there))

pub returns-in-Ok-open-clause-taken : goal.returns-in-Ok-open-clause-taken
returns-in-Ok-open-clause-taken g c = c.load.ensures.taken

pub returns-in-Ok-open-clause-once : goal.returns-in-Ok-open-clause-once
returns-in-Ok-open-clause-once g c = c.load.ensures.once

pub returns-in-Err-open-clause-number : goal.returns-in-Err-open-clause-number
returns-in-Err-open-clause-number g c = tt

pub returns-in-Err-open-clause-ok : goal.returns-in-Err-open-clause-ok
returns-in-Err-open-clause-ok g c = tt

pub returns-in-Err-open-clause-opened : goal.returns-in-Err-open-clause-opened
returns-in-Err-open-clause-opened g c = tt

pub returns-in-Err-open-clause-cause : goal.returns-in-Err-open-clause-cause
returns-in-Err-open-clause-cause g c =
    let k = c.k.inside in
    let here : KernelContent = record {
      world = k.world;
      owns = k.owns.items;
      shared = k.shared;
      heap = g.H.ObjectStore.content k.heap;
      frames = g.F.SegmentFrames.content k.frames;
      main_kind = k.main_kind;
    } in
    let o : Opening = record { tree = g.R.Files.tree c.args.files.now; root = c.args.root.now; name = c.args.name.now; quotas = c.args.quotas } in
    let loaded = c.in-Ok.ensures.ok in
    subst (λ (m : Machine). IsCauseOf o m c.in-Err-open.e) c.k.view_is
    (cause_so here c.k.invariant c.accepted_folders_stay_sound.ensures loaded.found loaded.are_files c.args.name.now c.in-Ok.loaded c.load.new.world
    loaded.loads
    c.in-Ok.ensures.typed c.holds.ensures.ordered (g.met.H.ObjectStore.holds k.heap) (g.met.F.FrameStore.holds k.frames) c.is_sound.ensures c.args.quotas
    (g.R.Files.tree c.args.files.now) c.args.root.now loaded.are_told
    c.in-Err-open.e c.in-Err-open.ensures.cause)

pub returns-in-Err-open-clause-refused : goal.returns-in-Err-open-clause-refused
returns-in-Err-open-clause-refused g c =
    let k = c.k.inside in
    let here : KernelContent = record {
      world = k.world;
      owns = k.owns.items;
      shared = k.shared;
      heap = g.H.ObjectStore.content k.heap;
      frames = g.F.SegmentFrames.content k.frames;
      main_kind = k.main_kind;
    } in
    let o : Opening = record { tree = g.R.Files.tree c.args.files.now; root = c.args.root.now; name = c.args.name.now; quotas = c.args.quotas } in
    let loaded = c.in-Ok.ensures.ok in
    λ line is. told_by_cause o c.args.k.now c.in-Err-open.e line
    (subst (λ (m : Machine). IsCauseOf o m c.in-Err-open.e) c.k.view_is
    (cause_so here c.k.invariant c.accepted_folders_stay_sound.ensures loaded.found loaded.are_files c.args.name.now c.in-Ok.loaded c.load.new.world
    loaded.loads
    c.in-Ok.ensures.typed c.holds.ensures.ordered (g.met.H.ObjectStore.holds k.heap) (g.met.F.FrameStore.holds k.frames) c.is_sound.ensures c.args.quotas
    (g.R.Files.tree c.args.files.now) c.args.root.now loaded.are_told
    c.in-Err-open.e c.in-Err-open.ensures.cause)) is

pub returns-in-Err-open-clause-only_refused : goal.returns-in-Err-open-clause-only_refused
returns-in-Err-open-clause-only_refused g c = λ t rule place told fault.
    let k = c.k.inside in
    let here : KernelContent = record {
      world = k.world;
      owns = k.owns.items;
      shared = k.shared;
      heap = g.H.ObjectStore.content k.heap;
      frames = g.F.SegmentFrames.content k.frames;
      main_kind = k.main_kind;
    } in
    let there : IsFolderFault t c.args.root.now k.world c.args.name.now rule place =
    subst (λ (w : WorldRecord). IsFolderFault t c.args.root.now w c.args.name.now rule place) (world_is here c.k.invariant)
    (subst (λ (m : Machine). IsFolderFault t c.args.root.now (world_of m) c.args.name.now rule place) (sym c.k.view_is) fault) in
    absurd (c.in-Ok.ensures.only_refused t rule place told there)

pub returns-in-Err-open-clause-only_lacking : goal.returns-in-Err-open-clause-only_lacking
returns-in-Err-open-clause-only_lacking g c =
    let k = c.k.inside in
    let here : KernelContent = record {
      world = k.world;
      owns = k.owns.items;
      shared = k.shared;
      heap = g.H.ObjectStore.content k.heap;
      frames = g.F.SegmentFrames.content k.frames;
      main_kind = k.main_kind;
    } in
    let o : Opening = record { tree = g.R.Files.tree c.args.files.now; root = c.args.root.now; name = c.args.name.now; quotas = c.args.quotas } in
    let loaded = c.in-Ok.ensures.ok in
    λ t e told lacking why. no_other c.folders_have_one_verdict.ensures.loaded o c.args.k.now t told e c.in-Err-open.e lacking why
    (subst (λ (m : Machine). IsCauseOf o m c.in-Err-open.e) c.k.view_is
    (cause_so here c.k.invariant c.accepted_folders_stay_sound.ensures loaded.found loaded.are_files c.args.name.now c.in-Ok.loaded c.load.new.world
    loaded.loads
    c.in-Ok.ensures.typed c.holds.ensures.ordered (g.met.H.ObjectStore.holds k.heap) (g.met.F.FrameStore.holds k.frames) c.is_sound.ensures c.args.quotas
    (g.R.Files.tree c.args.files.now) c.args.root.now loaded.are_told
    c.in-Err-open.e c.in-Err-open.ensures.cause))

pub returns-in-Err-open-clause-err : goal.returns-in-Err-open-clause-err
returns-in-Err-open-clause-err g c =
    let k = c.k.inside in
    let here : KernelContent = record {
      world = k.world;
      owns = k.owns.items;
      shared = k.shared;
      heap = g.H.ObjectStore.content k.heap;
      frames = g.F.SegmentFrames.content k.frames;
      main_kind = k.main_kind;
    } in
    let loaded = c.in-Ok.ensures.ok in
    let new : OpenParts = record {
      world = c.open.new.world;
      owns = c.open.new.owns.items;
      shared = c.open.new.shared;
      heap = g.H.ObjectStore.content c.open.new.heap;
      frames = g.F.SegmentFrames.content c.open.new.frames;
    } in
    ap kernel_machine (content_again here c.k.invariant c.accepted_folders_stay_sound.ensures loaded.found loaded.are_files c.args.name.now
    c.in-Ok.loaded c.load.new.world loaded.loads
    c.in-Ok.ensures.typed c.holds.ensures.ordered new c.cut_classes.new.self
    c.len.result (c.len.ensures.count ∙ ap length c.classes.ensures) c.in-Err-open.ensures.err c.cut_classes.ensures) ∙ c.k.view_is

pub returns-in-Err-open-clause-read_fault : goal.returns-in-Err-open-clause-read_fault
returns-in-Err-open-clause-read_fault g c =
    let k = c.k.inside in
    let here : KernelContent = record {
      world = k.world;
      owns = k.owns.items;
      shared = k.shared;
      heap = g.H.ObjectStore.content k.heap;
      frames = g.F.SegmentFrames.content k.frames;
      main_kind = k.main_kind;
    } in
    λ e. absurd (subst (IsWhyNot (parts_with here c.load.new.world) c.args.quotas) (same_error e) c.in-Err-open.ensures.cause)

pub returns-in-Err-open-clause-something : goal.returns-in-Err-open-clause-something
returns-in-Err-open-clause-something g c =
    let k = c.k.inside in
    let here : KernelContent = record {
      world = k.world;
      owns = k.owns.items;
      shared = k.shared;
      heap = g.H.ObjectStore.content k.heap;
      frames = g.F.SegmentFrames.content k.frames;
      main_kind = k.main_kind;
    } in
    λ e. absurd (subst (IsWhyNot (parts_with here c.load.new.world) c.args.quotas) (same_error e) c.in-Err-open.ensures.cause)

pub returns-in-Err-open-clause-calm : goal.returns-in-Err-open-clause-calm
returns-in-Err-open-clause-calm g c = λ t told other. c.load.ensures.calm t told (λ fault. ok_isnt_err (sym c.in-Ok.is ∙ fault))

pub returns-in-Err-open-clause-counts : goal.returns-in-Err-open-clause-counts
returns-in-Err-open-clause-counts g c = (
  ap (λ (s : SharedState). s.next_thread) c.in-Err-open.ensures.err.shared ∙ ap (λ (m : Machine). m.next_thread) c.k.view_is,
  ap (λ (s : SharedState). s.next_segment) c.in-Err-open.ensures.err.shared ∙ ap (λ (m : Machine). m.next_segment) c.k.view_is,
)

pub returns-in-Err-open-clause-stays : goal.returns-in-Err-open-clause-stays
returns-in-Err-open-clause-stays g c = c.load.ensures.stays

pub returns-in-Err-open-clause-faults : goal.returns-in-Err-open-clause-faults
returns-in-Err-open-clause-faults g c = c.load.ensures.faults

pub returns-in-Err-open-clause-asks : goal.returns-in-Err-open-clause-asks
returns-in-Err-open-clause-asks g c = c.load.ensures.asks

pub returns-in-Err-open-clause-no_folder : goal.returns-in-Err-open-clause-no_folder
returns-in-Err-open-clause-no_folder g c = λ e.
    let k = c.k.inside in
    let here : KernelContent = record {
      world = k.world;
      owns = k.owns.items;
      shared = k.shared;
      heap = g.H.ObjectStore.content k.heap;
      frames = g.F.SegmentFrames.content k.frames;
      main_kind = k.main_kind;
    } in
    absurd (subst (IsWhyNot (parts_with here c.load.new.world) c.args.quotas) (same_error e) c.in-Err-open.ensures.cause)

pub returns-in-Err-open-clause-missed : goal.returns-in-Err-open-clause-missed
returns-in-Err-open-clause-missed g c = λ e.
    let k = c.k.inside in
    let here : KernelContent = record {
      world = k.world;
      owns = k.owns.items;
      shared = k.shared;
      heap = g.H.ObjectStore.content k.heap;
      frames = g.F.SegmentFrames.content k.frames;
      main_kind = k.main_kind;
    } in
    absurd (subst (IsWhyNot (parts_with here c.load.new.world) c.args.quotas) (same_error e) c.in-Err-open.ensures.cause)

pub returns-in-Err-open-clause-large : goal.returns-in-Err-open-clause-large
returns-in-Err-open-clause-large g c = λ e.
    let k = c.k.inside in
    let here : KernelContent = record {
      world = k.world;
      owns = k.owns.items;
      shared = k.shared;
      heap = g.H.ObjectStore.content k.heap;
      frames = g.F.SegmentFrames.content k.frames;
      main_kind = k.main_kind;
    } in
    absurd (subst (IsWhyNot (parts_with here c.load.new.world) c.args.quotas) (same_error e) c.in-Err-open.ensures.cause)

pub returns-in-Err-open-clause-live : goal.returns-in-Err-open-clause-live
returns-in-Err-open-clause-live g c = λ live.
    let k = c.k.inside in
    let here : KernelContent = record {
      world = k.world;
      owns = k.owns.items;
      shared = k.shared;
      heap = g.H.ObjectStore.content k.heap;
      frames = g.F.SegmentFrames.content k.frames;
      main_kind = k.main_kind;
    } in
    let there : IsLive k.world c.args.name.now =
    subst (λ (w : WorldRecord). IsLive w c.args.name.now) (world_is here c.k.invariant)
    (subst (λ (m : Machine). IsLive (world_of m) c.args.name.now) (sym c.k.view_is) live) in
    absurd (ok_isnt_err (sym c.in-Ok.is ∙ c.load.ensures.live there))

pub returns-in-Err-open-clause-live_asks : goal.returns-in-Err-open-clause-live_asks
returns-in-Err-open-clause-live_asks g c = λ live.
    let k = c.k.inside in
    let here : KernelContent = record {
      world = k.world;
      owns = k.owns.items;
      shared = k.shared;
      heap = g.H.ObjectStore.content k.heap;
      frames = g.F.SegmentFrames.content k.frames;
      main_kind = k.main_kind;
    } in
    let there : IsLive k.world c.args.name.now =
    subst (λ (w : WorldRecord). IsLive w c.args.name.now) (world_is here c.k.invariant)
    (subst (λ (m : Machine). IsLive (world_of m) c.args.name.now) (sym c.k.view_is) live) in
    absurd (ok_isnt_err (sym c.in-Ok.is ∙ c.load.ensures.live there))

pub returns-in-Err-open-clause-taken : goal.returns-in-Err-open-clause-taken
returns-in-Err-open-clause-taken g c = c.load.ensures.taken

pub returns-in-Err-open-clause-once : goal.returns-in-Err-open-clause-once
returns-in-Err-open-clause-once g c = c.load.ensures.once
