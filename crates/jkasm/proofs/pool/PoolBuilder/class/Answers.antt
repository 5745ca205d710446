-- The entry of a class says the class, after its name came to the pool.
use Rattle.std.proofs.Common.{[], ◌∷◌}
use Rattle.std.proofs.lemmas.Result.{err_from_is_err_and}
use Rattle.jkasm.specs.Constants.{Utf8, Class}
use Rattle.jkasm.proofs.ConstantsByEntries.{class_entry_of}
use Rattle.jkasm.proofs.LastPut.{says_by_put, takes_after, full_after}
use Rattle.jkasm.proofs.TakesInTurn.{no_room_more}
use Rattle.jkasm.proofs.pool.PoolBuilder.class.Goals as goal

pub returns-in_err-name-clause-full : goal.returns-in_err-name-clause-full
returns-in_err-name-clause-full c =
    let p = err_from_is_err_and c.from_residual.result c.from_residual.ensures.1 in
    rw (p.1, p.2)
    (λ e. no_room_more c.args.self.now (Utf8 c.args.name.now ∷ []) (Class c.args.name.now ∷ []) (c.in_err-name.ensures.full e))

pub returns : goal.returns
returns c =
    let entry = class_entry_of c.utf8-2.new.self c.in_ok-name.name c.args.name.now c.in_ok-name.ensures.says in
    let name = Utf8 c.args.name.now ∷ [] in
    record {
      says = says_by_put _ _ _ _ entry c.put.result c.put.ensures.puts;
      takes = takes_after _ _ _ _ entry c.put.result c.args.self.now name c.in_ok-name.ensures.takes c.put.ensures.puts;
      full = full_after _ c.put.new.self _ _ entry c.put.result c.args.self.now name c.in_ok-name.ensures.takes c.put.ensures.full;
    }
