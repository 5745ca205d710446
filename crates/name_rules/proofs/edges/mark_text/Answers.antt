-- The file that the text means is marked, if the folder has it.
use Rattle.name_rules.proofs.EdgesMarked.{no_text_marks, text_marks}
use Rattle.name_rules.proofs.edges.mark_text.Goals as goal

pub returns-in-Some : goal.returns-in-Some
returns-in-Some c =
    text_marks c.args.f.now.file.pool c.args.own.now c.args.n c.as_slice.result.now c.in-Some.name.now c.args.row.now c.mark_class.new.row
    ((c.requires.texts.each c.args.n c.in-Some.name.now).1 c.in-Some.ensures) c.as_slice.ensures c.mark_class.ensures

pub returns-in_default : goal.returns-in_default
returns-in_default c =
    no_text_marks c.args.f.now.file.pool c.args.own.now c.args.n c.args.row.now
    (λ units text. c.in_default.ensures units ((c.requires.texts.each c.args.n units).0 text))
