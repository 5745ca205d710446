-- The class is written, or the text ends too early.
use Rattle.std.proofs.Common.{◌≡◌, ◌+◌, suc, length, drop, subst, add-one}
use Rattle.jkasm.specs.Constants.{needed_first}
use Rattle.jkasm.specs.GoodLines.{IsFirstFaulty}
use Rattle.jkasm.proofs.TextsAssembled.{ends_badly, assembled}
use Rattle.jkasm.proofs.assembler.assemble_lines.Goals as goal

pub returns-in_default-clause-line : goal.returns-in_default-clause-line
returns-in_default-clause-line c = λ n e.
    let readings = c.args.readings.now in
    let b = c.in_ok-builder.builder in
    let so = c.in_ok-builder.ensures.built in
    let bad = c.in_default.ensures so.so_far (drop (length readings) readings) (needed_first (length readings) readings) so.built so.pool in
    let line : suc (length readings) ≡ n = let same : length readings + 1 ≡ n = cc in rw (← add-one (length readings)) same in
    subst (IsFirstFaulty readings) line (ends_badly readings b so bad)

pub write_class-requires : goal.write_class-requires
write_class-requires c =
    let readings = c.args.readings.now in
    let so = c.in_ok-builder.ensures.built in
    let file = c.in-Some.ensures so.so_far (drop (length readings) readings) (needed_first (length readings) readings) so.built so.pool in
    file.0

pub returns-clause-assembled : goal.returns-clause-assembled
returns-clause-assembled c = λ text read.
    let readings = c.args.readings.now in
    let so = c.in_ok-builder.ensures.built in
    let file = c.in-Some.ensures so.so_far (drop (length readings) readings) (needed_first (length readings) readings) so.built so.pool in
    assembled readings c.in_ok-builder.builder so text c.in_ok-write_class.field-0 c.in-Some.class read file.0 file.1 c.in_ok-write_class.ensures.written
