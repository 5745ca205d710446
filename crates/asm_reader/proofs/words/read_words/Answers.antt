-- Each word goes after those that were read, and none is left where the line ends or has no word in front.
use Rattle.asm_reader.specs.declared.words.Word.TheVariants.{Plain, Quoted}
use Rattle.asm_reader.proofs.OneSplitIntoWords.{passes_more, passes_all, passes_never}
use Rattle.asm_reader.proofs.words.read_words.Goals as goal

pub returns-in-End : goal.returns-in-End
returns-in-End c = passes_all c.args.line.now c.loop-words.words c.loop-words.rest.now c.loop-words.invariant c.in-End.ensures

pub returns-in-Malformed : goal.returns-in-Malformed
returns-in-Malformed c =
    let none = c.in-Malformed.ensures in
    λ all. passes_never c.args.line.now c.loop-words.words c.loop-words.rest.now all c.loop-words.invariant none.0 none.1

pub loop-words-preserved-in-Plain : goal.loop-words-preserved-in-Plain
loop-words-preserved-in-Plain c =
    let word = Plain c.in_ok-from_slice-in-Plain.field-0 in
    let read = c.in_ok-push-in-Plain.ensures in
    rw read.ok (passes_more c.args.line.now c.loop-words.words c.loop-words.rest.now word c.in-Plain.after.now c.loop-words.invariant
    (rw c.in_ok-from_slice-in-Plain.ensures c.in-Plain.ensures))

pub loop-words-preserved : goal.loop-words-preserved
loop-words-preserved c =
    let word = Quoted c.in_ok-from_slice-in-Quoted.field-0 in
    let read = c.in_ok-push-in-Quoted.ensures in
    rw read.ok (passes_more c.args.line.now c.loop-words.words c.loop-words.rest.now word c.in-Quoted.after.now c.loop-words.invariant
    (rw c.in_ok-from_slice-in-Quoted.ensures c.in-Quoted.ensures))
