-- The own state among those of all is the one that the thread meets.
use Rattle.std.proofs.Common.{◌≡◌, Some, sym, subst, ◌∙◌}
use Rattle.std.proofs.lemmas.Option.{same_Some, slice_get_within}
use Rattle.class_init.specs.KeptStates.{KeptState}
use Rattle.list_lemmas.proofs.ItemsByPlace.{item_read}
use Rattle.segment_steps.specs.Meetings.{Meets}
use Rattle.kernel_turns.proofs.own_states.meet_in.Goals as goal

pub returns : goal.returns
returns g c = λ own is f top.
    let there = item_read c.args.owns.now.items c.args.r.domain.0 c.index.result.now
    (slice_get_within c.args.owns.now.items c.args.r.domain.0 (Some own) is) c.index.ensures in
    let lent : c.index.result.now ≡ Some own = same_Some c.index.result.now (Some own) (sym there ∙ is) in
    let same : own ≡ c.in-Some.own = same_Some own c.in-Some.own (sym lent ∙ c.in-Some.is) in
    subst (λ (o : KeptState). Meets c.args.w.now.classes o.state c.args.r f c.meet.result) (sym same) (c.meet.ensures f top)
