-- One place more to which the other one may go.
use Rattle.std.proofs.Common.{◌+◌, sym, subst, arith}
use Rattle.std.proofs.lemmas.Bool.{iff_false}
use Rattle.name_rules.specs.Graphs.{Rows}
use Rattle.name_rules.proofs.EdgesOfRows.{AlsoBefore, also_all, also_none, also_with, also_without}
use Rattle.name_rules.proofs.rings.join.Goals as goal
use Rattle.name_rules.proofs.rings.join.Goals.{then-has_edge, else-has_edge}

pub loop-j-init : goal.loop-j-init
loop-j-init c = also_none c.args.to c.args.from c.args.rows.now c.requires.square

pub loop-j-preserved : goal.loop-j-preserved
loop-j-preserved c =
    let to = c.args.to in
    let from = c.args.from in
    let old = c.args.rows.now in
    let mid = c.loop-j.rows in
    let j = c.loop-j.j in
    elim c.if-has_edge.branch [
      | then-has_edge w ↦
          subst (λ (new : Rows). AlsoBefore to from (j + 1) old new) (sym w.rows-is)
          (also_with to from j old mid w.mark.new.rows c.loop-j.invariant (c.has_edge.ensures.0 w.if-has_edge.true) w.mark.ensures)
      | else-has_edge w ↦
          subst (λ (new : Rows). AlsoBefore to from (j + 1) old new) (sym w.rows-is)
          (also_without to from j old mid c.loop-j.invariant (iff_false c.has_edge.ensures w.if-has_edge.false))
    ]

pub returns : goal.returns
returns c =
    also_all c.args.to c.args.from c.loop-j.j c.args.rows.now c.loop-j.rows c.requires.square (omega arith) c.loop-j.invariant
