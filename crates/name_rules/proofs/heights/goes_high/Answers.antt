-- One place more to which it goes is lower, or it doesn't go there.
use Rattle.std.proofs.Common.{◌≡◌, ℕ, inl, inr, Some, slice_get, get_or, subst, arith}
use Rattle.std.proofs.lemmas.Bool.{cases_lt, iff_false}
use Rattle.std.proofs.lemmas.Option.{get_or_from_slice_get, slice_get_within}
use Rattle.name_rules.specs.Graphs.{HasEdge}
use Rattle.name_rules.proofs.heights.goes_high.Goals as goal
use Rattle.name_rules.proofs.heights.goes_high.Goals.{else-has_edge-via-then-has_edge+else-heights-j, else-has_edge-via-else-has_edge}

pub loop-j-preserved : goal.loop-j-preserved
loop-j-preserved c = λ j n below e at.
    let rows = c.args.rows.now in
    let heights = c.args.heights.now in
    let here = c.loop-j.j in
    elim (cases_lt j here) [
      | inl less ↦ c.loop-j.invariant j n less e at
      | inr least ↦
          let same : j ≡ here = omega arith in
          elim c.else-has_edge.branch [
            | else-has_edge-via-then-has_edge+else-heights-j w ↦
                let own : get_or heights here 0 ≡ n =
                get_or_from_slice_get heights here n 0 (subst (λ (k : ℕ). slice_get heights k ≡ Some n) same at) in
                let low = w.if-heights-j.false in
                omega arith
            | else-has_edge-via-else-has_edge w ↦
                absurd (iff_false c.has_edge.ensures w.if-has_edge.false (subst (λ (k : ℕ). HasEdge rows c.args.i k) same e))
          ]
    ]

pub returns-clause-no : goal.returns-clause-no
returns-clause-no c = λ _ j n e at.
    let within = slice_get_within c.args.heights.now j n at in
    c.loop-j.invariant j n (omega (arith, c.requires.heights)) e at
