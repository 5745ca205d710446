-- Each part is made anew, and all of them are the state.
use Rattle.std.proofs.Common.{◌∙◌, subst, sym}
use Rattle.jk_model_sharing.specs.SharedStates.{SharedState}
use Rattle.thread_segments.specs.RestoredStates.{IsStateOf}
use Rattle.thread_segments.proofs.RestoredState.{kept_again, names_short, state_is}
use Rattle.thread_segments.proofs.shared.Shared.from_parts.Goals as goal

pub restored_entries-requires : goal.restored_entries-requires
restored_entries-requires c = (c.requires.state.0, c.requires.state.1.told)

pub restored_caps-requires : goal.restored_caps-requires
restored_caps-requires c = (c.requires.state.0, c.requires.state.1.told)

pub restored_names-requires : goal.restored_names-requires
restored_names-requires c = names_short c.requires.state.0 c.args.parts c.requires.state.1.told

pub restored_threads-requires : goal.restored_threads-requires
restored_threads-requires c = (c.requires.state.0, c.requires.state.1.told)

pub invariant_of-result : goal.invariant_of-result
invariant_of-result c =
    let s = c.requires.state.0 in
    let is = c.requires.state.1 in
    kept_again s c.args.parts is.told c.in_ok-restored_entries.field-0.items c.in_ok-restored_entries.ensures c.in_ok-restored_caps.field-0
    (c.in_ok-restored_caps.ensures s is.told) c.in_ok-restored_stubs.field-0.stubs (c.in_ok-restored_stubs.ensures ∙ sym is.same)
    c.in_ok-restored_names.field-0 c.in_ok-restored_names.ensures
    c.in_ok-restored_threads.field-0 c.in_ok-restored_threads.ensures

pub returns-clause-parts : goal.returns-clause-parts
returns-clause-parts c =
    let s = c.requires.state.0 in
    let is = c.requires.state.1 in
    subst (λ (x : SharedState). IsStateOf x c.args.parts c.args.stubs)
    (sym (state_is s c.args.parts is.told c.in_ok-restored_entries.field-0.items c.in_ok-restored_entries.ensures c.in_ok-restored_caps.field-0
    (c.in_ok-restored_caps.ensures s is.told) c.in_ok-restored_stubs.field-0.stubs (c.in_ok-restored_stubs.ensures ∙ sym is.same)
    c.in_ok-restored_names.field-0 c.in_ok-restored_names.ensures
    c.in_ok-restored_threads.field-0 c.in_ok-restored_threads.ensures)) is

pub returns-clause-same : goal.returns-clause-same
returns-clause-same c =
    λ s is.
    state_is s c.args.parts is.told c.in_ok-restored_entries.field-0.items c.in_ok-restored_entries.ensures c.in_ok-restored_caps.field-0
    (c.in_ok-restored_caps.ensures s is.told) c.in_ok-restored_stubs.field-0.stubs (c.in_ok-restored_stubs.ensures ∙ sym is.same)
    c.in_ok-restored_names.field-0 c.in_ok-restored_names.ensures
    c.in_ok-restored_threads.field-0 c.in_ok-restored_threads.ensures
