-- The line is taken, or is the first at fault.
use Rattle.std.proofs.Common.{◌≡◌, suc, ◌+◌, ◌-◌, ◌∙◌, Err, Some, refl, ap, length, take, slice_get, drop, add-one}
use Rattle.std.proofs.lemmas.List.{take_rest}
use Rattle.std.proofs.lemmas.Option.{slice_get_read}
use Rattle.asm_reader.specs.declared.items.LineReading.TheVariants.{Empty, Short}
use Rattle.jkasm.proofs.FaultOfPools.{same_fault}
use Rattle.jkasm.proofs.LinesTaken.{empty_taken, refused_before, taken_before, other_at_fault}
use Rattle.jkasm.proofs.assembler.take_line.Goals as goal

pub returns-in-Empty-clause-taken : goal.returns-in-Empty-clause-taken
returns-in-Empty-clause-taken c =
    let readings = c.args.readings.now in
    let i = c.args.i in
    let read = slice_get_read readings _ i c.index-readings-i.result refl c.requires.place c.index-readings-i.is in
    let at : slice_get readings i ≡ Some Empty = read ∙ ap (λ r. Some r) c.in-Empty.is in
    rw add-one (empty_taken readings i c.args.builder.now at c.requires.so_far)

pub returns-in_err-add-in-Short-clause-fault : goal.returns-in_err-add-in-Short-clause-fault
returns-in_err-add-in-Short-clause-fault c = λ e.
    let readings = c.args.readings.now in
    let i = c.args.i in
    let read = slice_get_read readings _ i c.index-readings-i.result refl c.requires.place c.index-readings-i.is in
    let at : slice_get readings i ≡ Some (Short c.in-Short.item) = read ∙ ap (λ r. Some r) c.in-Short.is in
    let fault = same_fault c.from_residual.result c.in_err-add-in-Short.field-0.0 c.from_residual.ensures.1 e in
    let so = c.requires.so_far in
    let later = take (length readings - (i + 1)) (drop (i + 1) readings) in
    let rest : later ≡ drop (suc i) readings = take_rest readings (i + 1) ∙ ap (λ n. drop n readings) (add-one i) in
    rw add-one
    (refused_before readings i c.in-Short.item at c.args.builder.now so later rest c.requires.place
    (λ built limits. c.in_err-add-in-Short.ensures.fault so.so_far built limits (ap (λ x. Err x) fault)))

pub returns-in_ok-add-in-Short-clause-taken : goal.returns-in_ok-add-in-Short-clause-taken
returns-in_ok-add-in-Short-clause-taken c =
    let readings = c.args.readings.now in
    let i = c.args.i in
    let read = slice_get_read readings _ i c.index-readings-i.result refl c.requires.place c.index-readings-i.is in
    let at : slice_get readings i ≡ Some (Short c.in-Short.item) = read ∙ ap (λ r. Some r) c.in-Short.is in
    let so = c.requires.so_far in
    let later = take (length readings - (i + 1)) (drop (i + 1) readings) in
    let rest : later ≡ drop (suc i) readings = take_rest readings (i + 1) ∙ ap (λ n. drop n readings) (add-one i) in
    rw add-one
    (taken_before readings i c.in-Short.item at c.args.builder.now so later rest c.add.new.self
    (c.in_ok-add-in-Short.ensures.added so.so_far) c.constants_fit.ensures c.requires.sound)

pub returns-in_default-clause-fault : goal.returns-in_default-clause-fault
returns-in_default-clause-fault c = λ e.
    let readings = c.args.readings.now in
    let i = c.args.i in
    let read = slice_get_read readings _ i c.index-readings-i.result refl c.requires.place c.index-readings-i.is in
    rw add-one
    (other_at_fault readings i c.index-readings-i.result read c.in_default.not-Empty c.in_default.not-Short c.requires.so_far.good c.requires.place)
