-- A jump whose offset doesn't fit 16 bits doesn't reach its label.
use Rattle.std.proofs.Common.{rules, ◌∙◌, ◌≡◌, to_z, of_z, w16, w32}
use Rattle.std.proofs.lemmas.Int.{to_z-of_z}
use mir.Val.{SFits}
use Rattle.jkasm.proofs.JumpsInReach.{reads, out_of_reach, in_reach}
use Rattle.jkasm.proofs.code_writer.append_jump.Goals as goal

pub returns-in_default-clause-fault : goal.returns-in_default-clause-fault
returns-in_default-clause-fault c =
    let offset = c.in_ok-offset.offset in
    let fits : SFits w32 c.in_ok-offset.offset = search rules in
    let same : to_z w32 (of_z w32 offset) ≡ offset = to_z-of_z w32 offset fits in
    λ codes h _ there reach. out_of_reach codes _ c.args.label.now offset
    (reads codes _ c.len.result c.args.label.now c.offset_to.result offset c.len.ensures c.requires (c.offset_to.ensures codes h)
    c.in_ok-offset.ensures.ok_part)
    (rw same at c.in_default.ensures) reach

pub returns-clause-written : goal.returns-clause-written
returns-clause-written c =
    let offset = c.in_ok-offset.offset in
    let fits : SFits w32 c.in_ok-offset.offset = search rules in
    let same : to_z w32 (of_z w32 offset) ≡ offset = to_z-of_z w32 offset fits in
    let short : SFits w16 c.in-Ok.offset = search rules in
    let bytes = rw (c.cast_unsigned.ensures, to_z-of_z w16 c.in-Ok.offset short) at c.in_ok-append_short.ensures in
    λ codes h. in_reach codes c.args.code.now c.append_short.new.code c.args.op c.args.label.now offset c.in-Ok.offset
    (reads codes _ c.len.result c.args.label.now c.offset_to.result offset c.len.ensures c.requires (c.offset_to.ensures codes h)
    c.in_ok-offset.ensures.ok_part)
    (rw same at c.in-Ok.ensures.0) (c.in-Ok.ensures.1 ∙ same) bytes
