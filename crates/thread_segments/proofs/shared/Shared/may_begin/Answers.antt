-- Whether one more may begin is told by the domain's entry.
use Rattle.std.proofs.Common.{◌∙◌, arith, subst, sym}
use Rattle.std.proofs.lemmas.Option.{get_or_from_slice_get}
use Rattle.jk_model_sharing.specs.SharedStates.{SharedState}
use Rattle.thread_segments.specs.Asked.{IsLiveDomain}
use Rattle.thread_segments.proofs.StatesByPart.{live_at, low_of, may_begin_told}
use Rattle.thread_segments.proofs.shared.Shared.may_begin.Goals as goal

pub index-entry-requires : goal.index-entry-requires
index-entry-requires c =
    let s = c.self.inside in
    let P : SharedState → Type 0 = λ x. IsLiveDomain x c.args.d in
    let a = live_at s.domains.items s.caps s.stubs.stubs s.names s.threads c.self.invariant.counted c.args.d (subst P (sym c.self.view_is) c.requires) in
    omega (arith, low_of s.domains.items s.caps s.stubs.stubs s.names s.threads c.self.invariant.counted c.args.d a, s.domains.ok.0)

pub returns : goal.returns
returns c =
    let s = c.self.inside in
    let P : SharedState → Type 0 = λ x. IsLiveDomain x c.args.d in
    let a = live_at s.domains.items s.caps s.stubs.stubs s.names s.threads c.self.invariant.counted c.args.d (subst P (sym c.self.view_is) c.requires) in
    let read = c.index-entry.ensures ∙ get_or_from_slice_get s.domains.items c.args.d.0 a.entry c.index-entry.result.now a.there in
    rw (← c.self.view_is) (may_begin_told s.domains.items s.caps s.stubs.stubs s.names s.threads c.self.invariant.counted c.args.d a
    c.index-entry.result.now read)
