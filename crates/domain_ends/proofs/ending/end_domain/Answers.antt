-- Each part is without the domain, and so the machine is.
use Rattle.std.proofs.Common.{◌≡◌, List, ℕ, IsSome, Option, refl, sym, ap, subst, ◌∙◌}
use Rattle.std.proofs.lemmas.Option.{same_Some, slice_get_within}
use Rattle.jk_model.specs.declared.descriptors.MethodType.{MethodType}
use Rattle.jk_model_classes.specs.Worlds.{DomainRecord}
use Rattle.jk_model_machine_state.specs.Machines.{DomainState}
use Rattle.jk_model_crossings.specs.DomainEnds.{Terminates}
use Rattle.jk_model_sharing.specs.SharedStates.{Drops, SharedState}
use Rattle.machine_parts.specs.EndedParts.{EndsInParts, ended_threads, lines_of_end}
use Rattle.machine_parts.proofs.DomainEnded.{ends_change_machines}
use Rattle.kernel_parts.specs.SoundKernels.{KernelContent, kernel_machine, parts_of}
use Rattle.domain_ends.specs.TidyParts.{content_of}
use Rattle.domain_ends.proofs.KernelsEnded.{ends_in_parts, kernel_ended, lives, own_within, stood_in, tidy_ended}
use Rattle.domain_ends.proofs.ending.end_domain.Goals as goal

pub tell_end-told-requires-clause-named : goal.tell_end-told-requires-clause-named
tell_end-told-requires-clause-named g c =
    let k : KernelContent = content_of c.args.w.now c.args.owns.now.items c.args.shared.now (g.H.ObjectStore.content c.args.heap.now)
    (g.F.SegmentFrames.content c.args.frames.now) c.requires.may.0 in
    let at = stood_in k c.args.d c.requires.may.1.domains c.requires.may.2 in
    (at.1, at.3.is_named)

pub tell_end-told-requires-clause-live : goal.tell_end-told-requires-clause-live
tell_end-told-requires-clause-live g c =
    let k : KernelContent = content_of c.args.w.now c.args.owns.now.items c.args.shared.now (g.H.ObjectStore.content c.args.heap.now)
    (g.F.SegmentFrames.content c.args.frames.now) c.requires.may.0 in
    rw c.list_endings.ensures (lives k c.args.d c.requires.may.1.domains c.requires.may.2)

pub drop_domain-requires-clause-live : goal.drop_domain-requires-clause-live
drop_domain-requires-clause-live g c =
    let k : KernelContent = content_of c.args.w.now c.args.owns.now.items c.args.shared.now (g.H.ObjectStore.content c.args.heap.now)
    (g.F.SegmentFrames.content c.args.frames.now) c.requires.may.0 in
    rw c.list_endings.ensures (lives k c.args.d c.requires.may.1.domains c.requires.may.2)

pub drop_domain-requires-clause-frames : goal.drop_domain-requires-clause-frames
drop_domain-requires-clause-frames g c =
    subst (λ (o : Option ℕ). IsSome o) (sym (c.requires.may.1.live.chunks c.args.d c.requires.may.2)) refl

pub close-requires : goal.close-requires
close-requires g c =
    subst (λ (o : Option ℕ). IsSome o) (sym (c.requires.may.1.live.words c.args.d c.requires.may.2)) refl

pub forget-requires : goal.forget-requires
forget-requires g c =
    let k : KernelContent = content_of c.args.w.now c.args.owns.now.items c.args.shared.now (g.H.ObjectStore.content c.args.heap.now)
    (g.F.SegmentFrames.content c.args.frames.now) c.requires.may.0 in
    own_within k c.args.d c.requires.may.1.domains c.requires.may.2

pub end_domain-requires : goal.end_domain-requires
end_domain-requires g c =
    let k : KernelContent = content_of c.args.w.now c.args.owns.now.items c.args.shared.now (g.H.ObjectStore.content c.args.heap.now)
    (g.F.SegmentFrames.content c.args.frames.now) c.requires.may.0 in
    let at = stood_in k c.args.d c.requires.may.1.domains c.requires.may.2 in
    slice_get_within c.args.w.now.domains c.args.d.0 at.1 at.3.is_named

pub returns-clause-event : goal.returns-clause-event
returns-clause-event g c =
    let k : MethodType → KernelContent =
    λ main. content_of c.args.w.now c.args.owns.now.items c.args.shared.now (g.H.ObjectStore.content c.args.heap.now)
    (g.F.SegmentFrames.content c.args.frames.now) main in
    let new : MethodType → KernelContent =
    λ main. content_of c.end_domain.new.self c.forget.new.owns.items c.drop_domain.new.self (g.H.ObjectStore.content c.close.new.self)
    (g.F.SegmentFrames.content c.drop_domain.new.frames) main in
    let at = stood_in (k c.requires.may.0) c.args.d c.requires.may.1.domains c.requires.may.2 in (
      lines_of_end at.1.name (ended_threads c.args.d c.list_endings.new.self),
      c.tell_end-told.ensures.whole at.1 at.3.is_named,
      c.tell_end-told.ensures.more at.1 at.3.is_named,
      λ main l fit.
          let ends : EndsInParts (parts_of (k main)) (parts_of (new main)) c.args.d =
          ends_in_parts (k main) (new main) c.args.d c.end_domain.ensures c.forget.ensures
          (subst (λ (x : SharedState). Drops x c.args.d c.drop_domain.new.self) c.list_endings.ensures c.drop_domain.ensures.dropped)
          c.close.ensures c.drop_domain.ensures.closed in
          let here = stood_in (k main) c.args.d fit.domains l in
          let name : l.domain.name ≡ at.1.name =
          ap (λ (e : DomainState). e.name) here.4
          ∙ ap (λ (r : DomainRecord). r.name) (same_Some here.1 at.1 (sym here.3.is_named ∙ at.3.is_named)) in
          rw c.list_endings.ensures
          (subst
          (λ (n : List ℕ). Terminates (kernel_machine (k main)) l.domain (lines_of_end n (ended_threads c.args.d c.args.shared.now))
          (kernel_machine (new main)))
          name (ends_change_machines (parts_of (k main)) (parts_of (new main)) c.args.d l fit ends)),
    )

pub returns-clause-tidy : goal.returns-clause-tidy
returns-clause-tidy g c = λ main tidy.
    let k : KernelContent = content_of c.args.w.now c.args.owns.now.items c.args.shared.now (g.H.ObjectStore.content c.args.heap.now)
    (g.F.SegmentFrames.content c.args.frames.now) main in
    let new : KernelContent = content_of c.end_domain.new.self c.forget.new.owns.items c.drop_domain.new.self
    (g.H.ObjectStore.content c.close.new.self) (g.F.SegmentFrames.content c.drop_domain.new.frames) main in
    let ends : EndsInParts (parts_of k) (parts_of new) c.args.d =
    ends_in_parts k new c.args.d c.end_domain.ensures c.forget.ensures
    (subst (λ (x : SharedState). Drops x c.args.d c.drop_domain.new.self) c.list_endings.ensures c.drop_domain.ensures.dropped) c.close.ensures
    c.drop_domain.ensures.closed in
    tidy_ended k new c.args.d c.requires.may.2 c.forget.ensures refl ends tidy

pub returns-clause-parts : goal.returns-clause-parts
returns-clause-parts g c = λ main parts.
    let k : KernelContent = content_of c.args.w.now c.args.owns.now.items c.args.shared.now (g.H.ObjectStore.content c.args.heap.now)
    (g.F.SegmentFrames.content c.args.frames.now) main in
    let new : KernelContent = content_of c.end_domain.new.self c.forget.new.owns.items c.drop_domain.new.self
    (g.H.ObjectStore.content c.close.new.self) (g.F.SegmentFrames.content c.drop_domain.new.frames) main in
    let ends : EndsInParts (parts_of k) (parts_of new) c.args.d =
    ends_in_parts k new c.args.d c.end_domain.ensures c.forget.ensures
    (subst (λ (x : SharedState). Drops x c.args.d c.drop_domain.new.self) c.list_endings.ensures c.drop_domain.ensures.dropped) c.close.ensures
    c.drop_domain.ensures.closed in
    kernel_ended k new c.args.d c.requires.may.2 c.forget.ensures refl ends parts
