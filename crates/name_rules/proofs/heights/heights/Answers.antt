-- After all rounds, or one that raises nothing, the heights are right.
use Rattle.std.proofs.Common.{◌≡◌, ℕ, List, length, sym, subst, arith}
use Rattle.std.specs.Global.{Vec}
use Rattle.std.proofs.lemmas.List.{with_items_is}
use Rattle.name_rules.specs.Graphs.{AreHeights, AreHeightsBelow}
use Rattle.name_rules.proofs.HeightsRise.{are_heights, heights_begin, heights_end}
use Rattle.name_rules.proofs.heights.heights.Goals as goal
use Rattle.name_rules.proofs.heights.heights.Goals.{else-loop-height-test, then-loop-height-test+then-not-raise}

pub loop-height-init : goal.loop-height-init
loop-height-init c =
    let items = c.in_ok-heights.ensures.items_if_clones_equal (λ y e. e) in
    subst (λ (heights : List ℕ). AreHeightsBelow c.args.rows.now 0 heights) (sym items) (heights_begin c.args.rows.now)

pub returns : goal.returns
returns c =
    let rows = c.args.rows.now in
    elim c.loop-height-test.branch [
      | else-loop-height-test w ↦
          subst (λ (v : Vec ℕ). AreHeights rows v.items) (sym w.heights-is)
          (heights_end rows c.loop-height.height c.loop-height.heights.items c.requires.square c.requires.no_ring w.loop-height-test.false
          c.loop-height.invariant)
      | then-loop-height-test+then-not-raise w ↦
          let v = c.loop-height.heights in
          let now = w.raise.new.heights in
          let long : length now ≡ v.len = omega (arith, w.raise.ensures.raised.as_many, c.loop-height.invariant.as_many, v.ok.0) in
          subst (λ (all : Vec ℕ). AreHeights rows all.items) (sym w.heights-is)
          (subst (λ (all : List ℕ). AreHeights rows all) (sym (with_items_is v now long))
          (are_heights rows now c.requires.square c.requires.no_ring w.raise.ensures.raised.as_many (w.raise.ensures.none w.if-not-raise.true)))
    ]
