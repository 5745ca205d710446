-- The three ways in which a file is bad.
use Rattle.std.proofs.Common.{◌↔◌, Bool, IsTrue}
use Rattle.std.proofs.lemmas.Bool.{iff_false}
use Rattle.list_lemmas.proofs.AnswersTold.{ok_map}
use Rattle.jk_model_classes.specs.References.{HasBadInterface}
use Rattle.name_rules.specs.BadHierarchies.{IsBadAt, folder_scope}
use Rattle.name_rules.proofs.BadParts.{bad_parent_tells, interface_tells, ring_tells}
use Rattle.name_rules.proofs.hierarchies.is_bad.Goals as goal

pub returns-then-has_edge : goal.returns-then-has_edge
returns-then-has_edge c =
    ring_tells (folder_scope c.args.x.now) c.args.above.now c.args.i c.args.f.now.file (c.has_edge.ensures.0 c.if-has_edge.true)

pub returns-then-has_bad_parent : goal.returns-then-has_bad_parent
returns-then-has_bad_parent c =
    bad_parent_tells (folder_scope c.args.x.now) c.args.above.now c.args.i c.args.f.now.file (c.has_bad_parent.ensures.0 c.if-has_bad_parent.true)

pub returns : goal.returns
returns c =
    let s = folder_scope c.args.x.now in
    let file = c.args.f.now.file in
    ok_map (λ (r : Bool). IsTrue r ↔ HasBadInterface s file) (λ (r : Bool). IsTrue r ↔ IsBadAt s c.args.above.now c.args.i file) c.has_bad_interface.result
    (interface_tells s c.args.above.now c.args.i file (iff_false c.has_edge.ensures c.if-has_edge.false)
    (iff_false c.has_bad_parent.ensures c.if-has_bad_parent.false))
    c.has_bad_interface.ensures
