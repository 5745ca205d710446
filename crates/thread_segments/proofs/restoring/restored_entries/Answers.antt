-- Each thread and each name is of a domain that is there, and none has more than its quotas.
use Rattle.std.proofs.Common.{◌≡◌, ◌∙◌, ◌+◌, ◌<◌, ◌^◌, List, Some, ap, arith, length, map, slice_get, subst, sym}
use Rattle.std.proofs.lemmas.List.{length-map}
use Rattle.thread_segments.specs.declared.domains.DomainEntry.{DomainEntry}
use Rattle.thread_segments.specs.declared.parts.DomainPart.{DomainPart}
use Rattle.thread_segments.specs.declared.parts.NamePart.{NamePart}
use Rattle.thread_segments.specs.RestoredParts.{AreCountedUp, count_at, entry_told, more_names, more_threads, name_home, thread_home}
use Rattle.thread_segments.proofs.RestoredState.{entries_counted, few_names, few_threads, names_home, threads_home}
use Rattle.thread_stacks.specs.declared.parts.ThreadPart.{ThreadPart}
use Rattle.thread_segments.proofs.restoring.restored_entries.Goals as goal

pub count_threads-requires-clause-there : goal.count_threads-requires-clause-there
count_threads-requires-clause-there c =
    λ i t at.
    let parts = c.args.parts.now in
    let home = threads_home c.requires.0 parts c.requires.1 i t (subst (λ (ts : List ThreadPart). slice_get ts i ≡ Some t) c.as_slice-2.ensures at) in
    omega (
      arith,
      home,
      ap (λ (es : List DomainEntry). length es) c.in_ok-domains.ensures,
      length-map c.as_slice.result.now entry_told,
      ap (λ (ps : List DomainPart). length ps) c.as_slice.ensures,
    )

pub count_threads-requires-clause-few : goal.count_threads-requires-clause-few
count_threads-requires-clause-few c =
    λ i e at.
    let parts = c.args.parts.now in
    let first : c.in_ok-domains.domains.items ≡ map entry_told parts.domains =
    c.in_ok-domains.ensures ∙ ap (λ (ps : List DomainPart). map entry_told ps) c.as_slice.ensures in
    subst (λ (ts : List ThreadPart). e.threads + count_at thread_home ts i < 2 ^ 32) (sym c.as_slice-2.ensures)
    (few_threads c.requires.0 parts c.requires.1 c.in_ok-domains.domains.items first i e at)

pub count_names-requires-clause-there : goal.count_names-requires-clause-there
count_names-requires-clause-there c =
    λ i n at.
    let parts = c.args.parts.now in
    let home = names_home c.requires.0 parts c.requires.1 i n (subst (λ (ns : List NamePart). slice_get ns i ≡ Some n) c.as_slice-3.ensures at) in
    omega (
      arith,
      home,
      c.count_threads.ensures.as_many,
      ap (λ (es : List DomainEntry). length es) c.in_ok-domains.ensures,
      length-map c.as_slice.result.now entry_told,
      ap (λ (ps : List DomainPart). length ps) c.as_slice.ensures,
    )

pub count_names-requires-clause-few : goal.count_names-requires-clause-few
count_names-requires-clause-few c =
    λ i e at.
    let parts = c.args.parts.now in
    let first : c.in_ok-domains.domains.items ≡ map entry_told parts.domains =
    c.in_ok-domains.ensures ∙ ap (λ (ps : List DomainPart). map entry_told ps) c.as_slice.ensures in
    let counted : AreCountedUp thread_home more_threads c.in_ok-domains.domains.items c.count_threads.new.domains.items parts.threads =
    subst (λ (ts : List ThreadPart). AreCountedUp thread_home more_threads c.in_ok-domains.domains.items c.count_threads.new.domains.items ts)
    c.as_slice-2.ensures c.count_threads.ensures in
    subst (λ (ns : List NamePart). e.names + count_at name_home ns i < 2 ^ 32) (sym c.as_slice-3.ensures)
    (few_names c.requires.0 parts c.requires.1 c.in_ok-domains.domains.items c.count_threads.new.domains.items first counted i e at)

pub returns : goal.returns
returns c =
    let parts = c.args.parts.now in
    let first : c.in_ok-domains.domains.items ≡ map entry_told parts.domains =
    c.in_ok-domains.ensures ∙ ap (λ (ps : List DomainPart). map entry_told ps) c.as_slice.ensures in
    entries_counted parts c.in_ok-domains.domains.items c.count_threads.new.domains.items c.count_names.new.domains.items first
    (subst (λ (ts : List ThreadPart). AreCountedUp thread_home more_threads c.in_ok-domains.domains.items c.count_threads.new.domains.items ts)
    c.as_slice-2.ensures c.count_threads.ensures)
    (subst (λ (ns : List NamePart). AreCountedUp name_home more_names c.count_threads.new.domains.items c.count_names.new.domains.items ns)
    c.as_slice-3.ensures c.count_names.ensures)
