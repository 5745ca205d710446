-- The name says a type.
use Rattle.std.proofs.Common.{sym, ◌∙◌}
use Rattle.class_linker.proofs.ClassEntryTypes.{class_entry}
use Rattle.class_linker.proofs.links.class_link.Goals as goal

pub unreachable-requires : goal.unreachable-requires
unreachable-requires c =
    let entry = class_entry c.args.c.now c.args.l.now.names.now c.args.l.now.t.now c.requires.linkable c.args.l.now.pool.now c.args.name c.requires.own
    c.requires.item in
    let found = entry.type c.in-Some.said.now c.in-Some.ensures in
    let none = sym c.entry_type.ensures ∙ c.in-None-entry_type.is in
    let some = found.1 in
    cc

pub unreachable-requires-in-None : goal.unreachable-requires-in-None
unreachable-requires-in-None c =
    let entry = class_entry c.args.c.now c.args.l.now.names.now c.args.l.now.t.now c.requires.linkable c.args.l.now.pool.now c.args.name c.requires.own
    c.requires.item in
    c.in-None.ensures entry.units entry.there

pub returns : goal.returns
returns c =
    let entry = class_entry c.args.c.now c.args.l.now.names.now c.args.l.now.t.now c.requires.linkable c.args.l.now.pool.now c.args.name c.requires.own
    c.requires.item in
    let found = entry.type c.in-Some.said.now c.in-Some.ensures in
    entry.link c.in-Some.said.now c.in-Some-entry_type.t c.in-Some.ensures (sym c.entry_type.ensures ∙ c.in-Some-entry_type.is)
