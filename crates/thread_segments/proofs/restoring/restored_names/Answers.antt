-- Nothing was bound, and there is room for all.
use Rattle.std.proofs.Common.{◌∙◌, List, Contains, ap, arith, length, subst}
use Rattle.thread_segments.specs.declared.parts.DomainPart.{DomainPart}
use Rattle.thread_segments.specs.declared.parts.NamePart.{NamePart}
use Rattle.thread_segments.specs.NameEntries.{NameList}
use Rattle.thread_segments.specs.RestoredParts.{with_name_room, with_names}
use Rattle.thread_segments.proofs.restoring.restored_names.Goals as goal

pub add_names-requires-clause-within : goal.add_names-requires-clause-within
add_names-requires-clause-within c =
    omega (
      arith,
      ap (λ (n : NameList). length n.names) c.in_ok-reserve_names.ensures,
      ap (λ (n : NameList). length n.names) c.new-names.ensures,
    )

pub add_names-requires-clause-short : goal.add_names-requires-clause-short
add_names-requires-clause-short c =
    λ n there. c.requires n (subst (λ (ns : List NamePart). Contains ns n) c.as_slice-2.ensures there)

pub returns : goal.returns
returns c =
    c.in_ok-add_names.ensures
    ∙ ap (λ (ns : List NamePart). with_names ns c.reserve_names.new.names) c.as_slice-2.ensures
    ∙ ap (λ (n : NameList). with_names c.args.parts.now.names n)
    (c.in_ok-reserve_names.ensures
    ∙ ap (λ (ds : List DomainPart). with_name_room ds c.new-names.result) c.as_slice.ensures
    ∙ ap (λ (n : NameList). with_name_room c.args.parts.now.domains n) c.new-names.ensures)
