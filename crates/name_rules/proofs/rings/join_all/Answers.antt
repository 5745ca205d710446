-- One place more that goes on through the one.
use Rattle.std.proofs.Common.{◌+◌, sym, subst, arith}
use Rattle.std.proofs.lemmas.Bool.{iff_false}
use Rattle.name_rules.specs.Graphs.{Rows}
use Rattle.name_rules.proofs.EdgesOfRows.{ThroughBefore, through_all, through_with, through_without}
use Rattle.name_rules.proofs.rings.join_all.Goals as goal
use Rattle.name_rules.proofs.rings.join_all.Goals.{then-has_edge, else-has_edge}

pub loop-to-preserved : goal.loop-to-preserved
loop-to-preserved c =
    let from = c.args.from in
    let old = c.args.rows.now in
    let mid = c.loop-to.rows in
    let to = c.loop-to.to in
    elim c.if-has_edge.branch [
      | then-has_edge w ↦
          subst (λ (new : Rows). ThroughBefore from (to + 1) old new) (sym w.rows-is)
          (through_with from to old mid w.join.new.rows c.loop-to.invariant (c.has_edge.ensures.0 w.if-has_edge.true) w.join.ensures)
      | else-has_edge w ↦
          subst (λ (new : Rows). ThroughBefore from (to + 1) old new) (sym w.rows-is)
          (through_without from to old mid c.loop-to.invariant (iff_false c.has_edge.ensures w.if-has_edge.false))
    ]

pub returns : goal.returns
returns c = through_all c.args.from c.loop-to.to c.args.rows.now c.loop-to.rows c.requires.square (omega arith) c.loop-to.invariant
