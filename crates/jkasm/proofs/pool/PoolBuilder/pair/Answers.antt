-- The entry of a name and a descriptor says them, after both came to the pool.
use Rattle.std.proofs.Common.{[], ◌∷◌}
use Rattle.std.proofs.lemmas.Result.{err_from_is_err_and}
use Rattle.jk_model.specs.declared.class_file.PoolEntry.TheVariants as entries
use Rattle.jkasm.specs.Constants.{Utf8, NameAndType}
use Rattle.jkasm.proofs.ConstantsByEntries.{pair_entry_of}
use Rattle.jkasm.proofs.LastPut.{says_by_put, takes_after, full_after}
use Rattle.jkasm.proofs.SaysLater.{utf8_later}
use Rattle.jkasm.proofs.TakesInTurn.{takes_trans, no_room_after, no_room_more}
use Rattle.jkasm.proofs.pool.PoolBuilder.pair.Goals as goal

pub returns-in_err-name-clause-full : goal.returns-in_err-name-clause-full
returns-in_err-name-clause-full c =
    let p = err_from_is_err_and c.from_residual.result c.from_residual.ensures.1 in
    let rest = Utf8 c.args.descriptor.now ∷ NameAndType c.args.name.now c.args.descriptor.now ∷ [] in
    rw (p.1, p.2) (λ e. no_room_more c.args.self.now (Utf8 c.args.name.now ∷ []) rest (c.in_err-name.ensures.full e))

pub returns-in_err-descriptor-clause-full : goal.returns-in_err-descriptor-clause-full
returns-in_err-descriptor-clause-full c =
    let p = err_from_is_err_and c.from_residual-in_err-descriptor.result c.from_residual-in_err-descriptor.ensures.1 in
    let rest = NameAndType c.args.name.now c.args.descriptor.now ∷ [] in
    rw (p.1, p.2)
    (λ e. no_room_after c.args.self.now c.utf8-2.new.self (Utf8 c.args.name.now ∷ []) (Utf8 c.args.descriptor.now ∷ rest)
    (c.in_ok-name.ensures.takes)
    (no_room_more c.utf8-2.new.self (Utf8 c.args.descriptor.now ∷ []) rest (c.in_err-descriptor.ensures.full e)))

pub put-requires-clause-good : goal.put-requires-clause-good
put-requires-clause-good c =
    let name = utf8_later c.utf8-2.new.self c.utf8-2-2.new.self c.in_ok-name.name c.args.name.now
    c.in_ok-descriptor.ensures.takes.extends c.in_ok-name.ensures.says in
    ((entries.Utf8 c.args.name.now, name, tt), (entries.Utf8 c.args.descriptor.now, c.in_ok-descriptor.ensures.says, tt))

pub returns : goal.returns
returns c =
    let name = utf8_later c.utf8-2.new.self c.utf8-2-2.new.self c.in_ok-name.name c.args.name.now
    c.in_ok-descriptor.ensures.takes.extends c.in_ok-name.ensures.says in
    let entry = pair_entry_of c.utf8-2-2.new.self c.in_ok-name.name c.in_ok-descriptor.descriptor c.args.name.now c.args.descriptor.now
    name c.in_ok-descriptor.ensures.says in
    let parts = takes_trans c.args.self.now c.utf8-2.new.self c.utf8-2-2.new.self (Utf8 c.args.name.now ∷ []) (Utf8 c.args.descriptor.now ∷ [])
    c.in_ok-name.ensures.takes c.in_ok-descriptor.ensures.takes in
    let texts = Utf8 c.args.name.now ∷ Utf8 c.args.descriptor.now ∷ [] in
    record {
      says = says_by_put _ _ _ _ entry c.put.result c.put.ensures.puts;
      takes = takes_after _ _ _ _ entry c.put.result c.args.self.now texts parts c.put.ensures.puts;
      full = full_after _ c.put.new.self _ _ entry c.put.result c.args.self.now texts parts c.put.ensures.full;
    }
