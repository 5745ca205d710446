-- The entry of a value says it; that of a text comes after the text's bytes.
use Rattle.std.proofs.Common.{◌≡◌, [], ◌∷◌, rules}
use Rattle.std.specs.Int.{w32, w64, cast_unsigned}
use Rattle.std.proofs.lemmas.Result.{err_from_is_err_and}
use Rattle.asm_reader.specs.declared.items.Constant.TheVariants.{Text}
use Rattle.jkasm.specs.Constants.{Utf8, Value}
use Rattle.jkasm.proofs.ConstantsByEntries.{int_entry_of, long_entry_of, text_entry_of}
use Rattle.jkasm.proofs.LastPut.{says_by_put, takes_by_put, takes_after, full_after}
use Rattle.jkasm.proofs.NoRoomInFullPool.{no_room_in_full}
use Rattle.jkasm.proofs.TakesInTurn.{no_room_more}
use Rattle.jkasm.proofs.pool.PoolBuilder.value.Goals as goal

pub returns-in_err-text-in-Text-clause-full : goal.returns-in_err-text-in-Text-clause-full
returns-in_err-text-in-Text-clause-full c =
    let p = err_from_is_err_and c.from_residual.result c.from_residual.ensures.1 in
    let full = rw c.as_slice.ensures at c.in_err-text-in-Text.ensures.full in
    rw (p.1, p.2, c.in-Text.is) (λ e. no_room_more c.args.self.now (Utf8 c.in-Text.text ∷ []) (Value (Text c.in-Text.text) ∷ []) (full e))

pub returns-in-Int-clause-takes : goal.returns-in-Int-clause-takes
returns-in-Int-clause-takes c =
    let same : c.cast_unsigned.result ≡ cast_unsigned w32 c.in-Int.n = search rules in
    let entry = int_entry_of c.args.self.now c.cast_unsigned.result c.in-Int.n same in
    rw c.in-Int.is (takes_by_put _ _ _ _ entry c.put.result c.put.ensures.puts)

pub returns-in-Int-clause-full : goal.returns-in-Int-clause-full
returns-in-Int-clause-full c =
    let same : c.cast_unsigned.result ≡ cast_unsigned w32 c.in-Int.n = search rules in
    let entry = int_entry_of c.args.self.now c.cast_unsigned.result c.in-Int.n same in
    rw c.in-Int.is (λ e. no_room_in_full _ _ _ (c.put.ensures.full e) entry)

pub returns-in-Long-clause-takes : goal.returns-in-Long-clause-takes
returns-in-Long-clause-takes c =
    let same : c.cast_unsigned-in-Long.result ≡ cast_unsigned w64 c.in-Long.n = search rules in
    let entry = long_entry_of c.args.self.now c.cast_unsigned-in-Long.result c.in-Long.n same in
    rw c.in-Long.is (takes_by_put _ _ _ _ entry c.put-in-Long.result c.put-in-Long.ensures.puts)

pub returns-in-Long-clause-full : goal.returns-in-Long-clause-full
returns-in-Long-clause-full c =
    let same : c.cast_unsigned-in-Long.result ≡ cast_unsigned w64 c.in-Long.n = search rules in
    let entry = long_entry_of c.args.self.now c.cast_unsigned-in-Long.result c.in-Long.n same in
    rw c.in-Long.is (λ e. no_room_in_full _ _ _ (c.put-in-Long.ensures.full e) entry)

pub returns-in_ok-text-in-Text-clause-says : goal.returns-in_ok-text-in-Text-clause-says
returns-in_ok-text-in-Text-clause-says c =
    let said = rw c.as_slice.ensures at c.in_ok-text-in-Text.ensures.says in
    let entry = text_entry_of c.utf8-2.new.self c.in_ok-text-in-Text.text c.in-Text.text said in
    rw c.in-Text.is (says_by_put _ _ _ _ entry c.put-in-Text.result c.put-in-Text.ensures.puts)

pub returns-in_ok-text-in-Text-clause-takes : goal.returns-in_ok-text-in-Text-clause-takes
returns-in_ok-text-in-Text-clause-takes c =
    let said = rw c.as_slice.ensures at c.in_ok-text-in-Text.ensures.says in
    let takes = rw c.as_slice.ensures at c.in_ok-text-in-Text.ensures.takes in
    let entry = text_entry_of c.utf8-2.new.self c.in_ok-text-in-Text.text c.in-Text.text said in
    rw c.in-Text.is
    (takes_after _ _ _ _ entry c.put-in-Text.result c.args.self.now (Utf8 c.in-Text.text ∷ []) takes c.put-in-Text.ensures.puts)

pub returns-in_ok-text-in-Text-clause-full : goal.returns-in_ok-text-in-Text-clause-full
returns-in_ok-text-in-Text-clause-full c =
    let said = rw c.as_slice.ensures at c.in_ok-text-in-Text.ensures.says in
    let takes = rw c.as_slice.ensures at c.in_ok-text-in-Text.ensures.takes in
    let entry = text_entry_of c.utf8-2.new.self c.in_ok-text-in-Text.text c.in-Text.text said in
    rw c.in-Text.is
    (full_after _ c.put-in-Text.new.self _ _ entry c.put-in-Text.result c.args.self.now (Utf8 c.in-Text.text ∷ []) takes
    c.put-in-Text.ensures.full)
