-- The search goes over the free runs as they were, and the cut leaves those of then.
use Rattle.std.proofs.Common.{◌+◌, ◌-◌, ◌≤◌, List, refl, sym, subst, arith}
use Rattle.jk_model.specs.declared.extents.Extent.{Extent}
use Rattle.jk_model.specs.Extents.{IsFirstFit, HasNoFit}
use Rattle.extent_map.specs.RunState.{RunState, IsOut}
use Rattle.extent_map.specs.Runs.{AreShort}
use Rattle.extent_map.specs.contracts.free_runs.FreeRuns.{the_view}
use Rattle.extent_map.proofs.RunsHavePages.{ends_at}
use Rattle.extent_map.proofs.TakenIsOut.{IsFitting, no_fit, cut_place, cut_out, taken_runs}
use Rattle.extent_map.proofs.free_runs.FreeRuns.take.Goals as goal

pub returns-in_err-at-clause-place : goal.returns-in_err-at-clause-place
returns-in_err-at-clause-place c = λ out is.
    let Out : RunState → Type 0 = λ m. IsOut m out in
    let None : RunState → Type 0 = λ m. HasNoFit m.pages out c.args.pages in
    let Short : List Extent → Type 0 = λ xs. AreShort c.args.pages xs in
    let was : IsOut (the_view c.self.inside) out = subst Out (sym c.self.view_is) is in
    let short : AreShort c.args.pages c.self.inside.free.items = subst Short c.deref.ensures.value c.in_err-at.ensures in
    rw c.from_residual.ensures
    (subst None c.self.view_is (no_fit (the_view c.self.inside) out c.args.pages was c.self.invariant.0 c.requires.at_least_one short))

pub cut-first-requires-clause-fits : goal.cut-first-requires-clause-fits
cut-first-requires-clause-fits c = λ d.
    let Fitting : List Extent → Type 0 = λ xs. IsFitting xs c.args.pages c.in_ok-at.at in
    let found : IsFitting c.self.inside.free.items c.args.pages c.in_ok-at.at = subst Fitting c.deref.ensures.value c.in_ok-at.ensures in
    omega (arith, ends_at (c.self.inside.pages + 1) c.self.inside.free.items c.in_ok-at.at c.self.invariant.0 found.0 d)

pub invariant_of-self : goal.invariant_of-self
invariant_of-self c = (
  taken_runs (c.self.inside.pages + 1) c.args.pages c.in_ok-at.at c.cut-first.result c.self.inside.free.items
      c.cut-first.new.runs.items c.self.invariant.0 c.cut-first.ensures.cut,
  omega (arith, c.self.invariant.1, c.cut-first.ensures.capacity),
)

pub returns-clause-place : goal.returns-clause-place
returns-clause-place c = λ out is.
    let Out : RunState → Type 0 = λ m. IsOut m out in
    let First : RunState → Type 0 = λ m. IsFirstFit m.pages out c.args.pages c.cut-first.result in
    let Fitting : List Extent → Type 0 = λ xs. IsFitting xs c.args.pages c.in_ok-at.at in
    let was : IsOut (the_view c.self.inside) out = subst Out (sym c.self.view_is) is in
    let found : IsFitting c.self.inside.free.items c.args.pages c.in_ok-at.at = subst Fitting c.deref.ensures.value c.in_ok-at.ensures in
    subst First c.self.view_is
    (cut_place (the_view c.self.inside) out c.in_ok-at.at c.args.pages c.cut-first.result c.cut-first.new.runs.items
    was c.self.invariant.0 c.requires.at_least_one found c.cut-first.ensures.cut)

pub returns-clause-out : goal.returns-clause-out
returns-clause-out c = λ out is.
    let Out : RunState → Type 0 = λ m. IsOut m out in
    let Fitting : List Extent → Type 0 = λ xs. IsFitting xs c.args.pages c.in_ok-at.at in
    let Spare : RunState → Type 0 = λ m. 1 ≤ m.spare in
    let was : IsOut (the_view c.self.inside) out = subst Out (sym c.self.view_is) is in
    let found : IsFitting c.self.inside.free.items c.args.pages c.in_ok-at.at = subst Fitting c.deref.ensures.value c.in_ok-at.ensures in
    let spare : 1 ≤ c.self.inside.spare = subst Spare (sym c.self.view_is) c.requires.spare in
    cut_out (the_view c.self.inside)
    (the_view (record { pages = c.self.inside.pages; extents = c.self.inside.extents; free = c.cut-first.new.runs; spare = c.self.inside.spare - 1 }))
    out c.in_ok-at.at c.args.pages c.cut-first.result was c.self.invariant.0 c.requires.at_least_one found
    c.cut-first.ensures.cut refl refl (omega (arith, spare))
