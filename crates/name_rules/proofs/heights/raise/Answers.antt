-- One place more is raised or stays.
use Rattle.std.proofs.Common.{◌+◌, ℕ, List, Bool, set, sym, subst, arith}
use Rattle.name_rules.proofs.HeightsRise.{RaisedBefore, none_raised, raised_all, raised_here, raised_none, stays_here}
use Rattle.name_rules.proofs.heights.raise.Goals as goal
use Rattle.name_rules.proofs.heights.raise.Goals.{then-goes_high, else-goes_high}

pub loop-i-init : goal.loop-i-init
loop-i-init c = raised_none c.args.rows.now c.args.height c.args.heights.now c.requires.heights

pub loop-i-preserved : goal.loop-i-preserved
loop-i-preserved c =
    let rows = c.args.rows.now in
    let height = c.args.height in
    let i = c.loop-i.i in
    let h = c.loop-i.invariant in
    elim c.if-goes_high.branch [
      | then-goes_high w ↦
          subst (λ (heights : List ℕ). RaisedBefore rows height (i + 1) c.if-goes_high.raised heights) (sym w.heights-is)
          (subst (λ (raised : Bool). RaisedBefore rows height (i + 1) raised (set c.loop-i.heights i (height + 1))) (sym w.raised-is)
          (raised_here rows height i c.loop-i.raised c.loop-i.heights c.requires.square h (omega arith) (c.goes_high.ensures.yes w.if-goes_high.true)))
      | else-goes_high w ↦
          subst (λ (heights : List ℕ). RaisedBefore rows height (i + 1) c.if-goes_high.raised heights) (sym w.heights-is)
          (subst (λ (raised : Bool). RaisedBefore rows height (i + 1) raised c.loop-i.heights) (sym w.raised-is)
          (stays_here rows height i c.loop-i.raised c.loop-i.heights c.requires.square h (omega arith) (c.goes_high.ensures.no w.if-goes_high.false)))
    ]

pub returns-clause-raised : goal.returns-clause-raised
returns-clause-raised c =
    raised_all c.args.rows.now c.args.height c.loop-i.i c.loop-i.raised c.loop-i.heights (omega arith) c.loop-i.invariant

pub returns-clause-none : goal.returns-clause-none
returns-clause-none c =
    none_raised c.args.rows.now c.args.height c.loop-i.i c.loop-i.raised c.loop-i.heights (omega arith) c.loop-i.invariant
