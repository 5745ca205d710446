-- One text more is looked at.
use Rattle.std.proofs.Common.{◌+◌, ◌<◌, ◌∙◌, List, Bool, false, length, refl, ap, arith, Some, subst, sym}
use Rattle.std.proofs.lemmas.Option.{slice_get-get_or}
use Rattle.name_rules.specs.Marks.{IsMarked, Marks}
use Rattle.name_rules.proofs.EdgesMarked.{ListedBefore, listed_all, listed_more, listed_skipped}
use Rattle.name_rules.proofs.MarksInTurn.{unmarked}
use Rattle.name_rules.proofs.edges.mark_interfaces.Goals as goal
use Rattle.name_rules.proofs.edges.mark_interfaces.Goals.{then-is_listed, else-is_listed}

pub loop-n-preserved : goal.loop-n-preserved
loop-n-preserved c =
    let file = c.args.f.now.file in
    let own = c.args.own.now in
    let n = c.loop-n.n in
    let listed = c.args.listed.now in
    let below : n < length file.pool = omega (arith, c.loop-n-test.true, c.requires.listed.as_many) in
    let within : n < length listed = c.loop-n-test.true in
    let Fine : List Bool → Type 0 = λ row. Marks (ListedBefore file own (n + 1)) c.args.row.now row in
    elim c.if-is_listed.branch [
      | then-is_listed w ↦
          let mark : IsMarked listed n = slice_get-get_or listed n false within ∙ ap (λ (b : Bool). Some b) w.if-is_listed.true in
          subst Fine (sym w.row-is)
          (listed_more file own n c.args.row.now c.loop-n.row w.mark_text.new.row ((c.requires.listed.at n below).0 mark) c.loop-n.invariant
          w.mark_text.ensures)
      | else-is_listed w ↦
          subst Fine (sym w.row-is)
          (listed_skipped file own n c.args.row.now c.loop-n.row
          (λ h. unmarked listed listed n refl w.if-is_listed.false ((c.requires.listed.at n below).1 h)) c.loop-n.invariant)
    ]

pub returns : goal.returns
returns c =
    listed_all c.args.f.now.file c.args.own.now c.loop-n.n c.args.row.now c.loop-n.row
    (omega (arith, c.loop-n-test.false, c.requires.listed.as_many)) c.loop-n.invariant
