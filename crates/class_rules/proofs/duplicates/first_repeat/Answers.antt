-- A key that is new joins the set, and one that was there makes its member a repeat.
use Rattle.std.proofs.Common.{◌≡◌, ◌∙◌, refl, sym, length, arith, Some, slice_get}
use Rattle.std.specs.BTreeSet.{contains}
use Rattle.std.proofs.lemmas.Option.{slice_get_read}
use Rattle.class_rules.proofs.RepeatsByKeys.{pair_cmp, keys_after_new, keys_after_none, none_after_new, none_after_none, repeat_here, no_repeat, was_there, was_new}
use Rattle.class_rules.proofs.duplicates.first_repeat.Goals as goal

pub loop-i-preserved-in_default : goal.loop-i-preserved-in_default
loop-i-preserved-in_default c =
    let m = c.index-members-i.result in
    let at : slice_get c.args.members.now c.loop-i.i ≡ Some m =
    slice_get_read c.args.members.now (length c.args.members.now) c.loop-i.i m refl (omega arith) c.index-members-i.is in
    let none = sym c.key.ensures ∙ c.in_default.is in
    let keys = keys_after_none c.args.facts.now c.args.members.now c.loop-i.i m (contains pair_cmp c.loop-i.seen) at none c.loop-i.invariant.0 in
    let repeats = none_after_none c.args.facts.now c.args.members.now c.loop-i.i m at none c.loop-i.invariant.1 in
    (keys, repeats)

pub returns-then-not-branch : goal.returns-then-not-branch
returns-then-not-branch c =
    let m = c.index-members-i.result in
    let at : slice_get c.args.members.now c.loop-i.i ≡ Some m =
    slice_get_read c.args.members.now (length c.args.members.now) c.loop-i.i m refl (omega arith) c.index-members-i.is in
    let its = sym c.key.ensures ∙ c.in-Some.is in
    let there = was_there c.in_ok-insert.field-0 _ c.in_ok-insert.ensures.added c.if-not-branch.true in
    repeat_here c.args.facts.now c.args.members.now c.loop-i.i m c.in-Some.key (contains pair_cmp c.loop-i.seen) at its
    c.loop-i.invariant.0 there c.loop-i.invariant.1

pub loop-i-preserved : goal.loop-i-preserved
loop-i-preserved c =
    let m = c.index-members-i.result in
    let at : slice_get c.args.members.now c.loop-i.i ≡ Some m =
    slice_get_read c.args.members.now (length c.args.members.now) c.loop-i.i m refl (omega arith) c.index-members-i.is in
    let its = sym c.key.ensures ∙ c.in-Some.is in
    let has = contains pair_cmp c.loop-i.seen in
    let new = was_new c.in_ok-insert.field-0 _ c.in_ok-insert.ensures.added c.if-not-branch.false in
    let keys = keys_after_new c.args.facts.now c.args.members.now c.loop-i.i m c.in-Some.key has (contains pair_cmp c.insert.new.self) at its
    c.loop-i.invariant.0 c.in_ok-insert.ensures.updates.0 in
    let repeats = none_after_new c.args.facts.now c.args.members.now c.loop-i.i m c.in-Some.key has at its c.loop-i.invariant.0 new c.loop-i.invariant.1 in
    (keys, repeats)

pub returns : goal.returns
returns c = no_repeat c.args.facts.now c.args.members.now c.loop-i.i (omega arith) c.loop-i.invariant.1
