-- All entries are 0.
use Rattle.std.proofs.Common.{◌≡◌, List, replicate, sym, ap, subst, ◌∙◌, arith}
use Rattle.jk_model.specs.declared.extents.Extent.{Extent}
use Rattle.extent_map.specs.RunState.{IsOut}
use Rattle.extent_map.specs.Starts.{extents_of}
use Rattle.extent_map.proofs.EntriesAreExtents.{ascending, none_out}
use Rattle.extent_map.proofs.map.ExtentMap.make.Goals as goal

pub invariant_of-result : goal.invariant_of-result
invariant_of-result c =
    let zeros : c.in_ok-starts.starts.items ≡ replicate c.args.pages 0 = c.in_ok-starts.ensures.items_if_clones_equal (λ y h. h) in
    let Out : List Extent → Type 0 = λ xs. IsOut c.in_ok-free.free xs in (
      subst Out (sym (ap (extents_of 0) zeros ∙ none_out c.args.pages 0)) c.in_ok-free.ensures.out,
      ascending 0 c.in_ok-starts.starts.items,
      omega (arith, c.in_ok-starts.ensures.len, c.in_ok-free.ensures.pages),
    )

pub returns-clause-out : goal.returns-clause-out
returns-clause-out c =
    let zeros : c.in_ok-starts.starts.items ≡ replicate c.args.pages 0 = c.in_ok-starts.ensures.items_if_clones_equal (λ y h. h) in
    ap (extents_of 0) zeros ∙ none_out c.args.pages 0
