-- The entry of a reference says it, after its class, and its name and descriptor, came to the pool.
use Rattle.std.proofs.Common.{[], ◌∷◌, ◌++◌}
use Rattle.std.proofs.lemmas.Result.{err_from_is_err_and}
use Rattle.jkasm.specs.Constants.{Reference, for_class, for_pair}
use Rattle.jkasm.proofs.ConstantsByEntries.{reference_entry_of, reference_is_good}
use Rattle.jkasm.proofs.LastPut.{says_by_put, takes_after, full_after}
use Rattle.jkasm.proofs.SaysLater.{class_later}
use Rattle.jkasm.proofs.TakesInTurn.{takes_trans, no_room_after, no_room_more}
use Rattle.jkasm.proofs.pool.PoolBuilder.reference.Goals as goal

pub returns-in_err-class-clause-full : goal.returns-in_err-class-clause-full
returns-in_err-class-clause-full c =
    let p = err_from_is_err_and c.from_residual.result c.from_residual.ensures.1 in
    let last = Reference c.args.kind c.args.class.now c.args.name.now c.args.descriptor.now ∷ [] in
    let rest = for_pair c.args.name.now c.args.descriptor.now ++ last in
    rw (p.1, p.2) (λ e. no_room_more c.args.self.now (for_class c.args.class.now) rest (c.in_err-class.ensures.full e))

pub returns-in_err-pair-clause-full : goal.returns-in_err-pair-clause-full
returns-in_err-pair-clause-full c =
    let p = err_from_is_err_and c.from_residual-in_err-pair.result c.from_residual-in_err-pair.ensures.1 in
    let last = Reference c.args.kind c.args.class.now c.args.name.now c.args.descriptor.now ∷ [] in
    rw (p.1, p.2)
    (λ e. no_room_after c.args.self.now c.class.new.self (for_class c.args.class.now) (for_pair c.args.name.now c.args.descriptor.now ++ last)
    (c.in_ok-class.ensures.takes)
    (no_room_more c.class.new.self (for_pair c.args.name.now c.args.descriptor.now) last (c.in_err-pair.ensures.full e)))

pub put-requires-clause-good : goal.put-requires-clause-good
put-requires-clause-good c =
    let class = class_later c.class.new.self c.pair.new.self c.in_ok-class.class c.args.class.now
    c.in_ok-pair.ensures.takes.extends c.in_ok-class.ensures.says in
    rw c.reference.ensures.entry
    (reference_is_good c.pair.new.self c.args.kind c.in_ok-class.class c.in_ok-pair.pair c.args.class.now c.args.name.now
    c.args.descriptor.now class c.in_ok-pair.ensures.says)

pub returns : goal.returns
returns c =
    let class = class_later c.class.new.self c.pair.new.self c.in_ok-class.class c.args.class.now
    c.in_ok-pair.ensures.takes.extends c.in_ok-class.ensures.says in
    let entry = reference_entry_of c.pair.new.self c.reference.result c.args.kind c.in_ok-class.class c.in_ok-pair.pair c.args.class.now
    c.args.name.now c.args.descriptor.now c.reference.ensures.entry c.reference.ensures.one class c.in_ok-pair.ensures.says in
    let class_text = for_class c.args.class.now in
    let pair_text = for_pair c.args.name.now c.args.descriptor.now in
    let parts = takes_trans c.args.self.now c.class.new.self c.pair.new.self class_text pair_text
    c.in_ok-class.ensures.takes c.in_ok-pair.ensures.takes in
    record {
      says = says_by_put _ _ _ _ entry c.put.result c.put.ensures.puts;
      takes = takes_after _ _ _ _ entry c.put.result c.args.self.now (class_text ++ pair_text) parts c.put.ensures.puts;
      full = full_after _ c.put.new.self _ _ entry c.put.result c.args.self.now (class_text ++ pair_text) parts c.put.ensures.full;
    }
