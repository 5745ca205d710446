-- The domain's entry has its quotas.
use Rattle.std.proofs.Common.{◌∙◌, Some, ap, arith, subst, sym}
use Rattle.std.proofs.lemmas.Option.{get_or_from_slice_get}
use Rattle.jk_model_sharing.specs.SharedStates.{SharedState}
use Rattle.thread_segments.specs.declared.domains.DomainEntry.{DomainEntry}
use Rattle.thread_segments.specs.Asked.{IsAdmitted}
use Rattle.thread_segments.proofs.StatesByPart.{admitted_at, low_of, quotas_are}
use Rattle.thread_segments.proofs.shared.Shared.quotas.Goals as goal

pub index-entry-requires : goal.index-entry-requires
index-entry-requires c =
    let s = c.self.inside in
    let P : SharedState → Type 0 = λ x. IsAdmitted x c.args.d in
    let a = admitted_at s.domains.items s.caps s.stubs.stubs s.names s.threads c.self.invariant.counted c.args.d (subst P (sym c.self.view_is) c.requires) in
    omega (arith, low_of s.domains.items s.caps s.stubs.stubs s.names s.threads c.self.invariant.counted c.args.d a, s.domains.ok.0)

pub returns : goal.returns
returns c =
    let s = c.self.inside in
    let P : SharedState → Type 0 = λ x. IsAdmitted x c.args.d in
    let a = admitted_at s.domains.items s.caps s.stubs.stubs s.names s.threads c.self.invariant.counted c.args.d (subst P (sym c.self.view_is) c.requires) in
    let read = c.index-entry.ensures ∙ get_or_from_slice_get s.domains.items c.args.d.0 a.entry c.index-entry.result.now a.there in
    rw (← c.self.view_is)
    (ap (λ (e : DomainEntry). Some e.quotas) read ∙ quotas_are s.domains.items s.caps s.stubs.stubs s.names s.threads c.self.invariant.counted c.args.d a)
