-- The text at the index is read, or there is none.
use Rattle.std.proofs.Common.{refl}
use Rattle.class_lemmas.proofs.OneText.{few_units}
use Rattle.class_linker.proofs.TextsAreSaid.{said_read}
use Rattle.class_linker.proofs.said.said_at.Goals as goal

pub said_by-requires : goal.said_by-requires
said_by-requires c =
    let text = c.in-Some.text.now in
    few_units c.args.c.now c.args.i text c.requires.linkable.writable ((c.requires.texts.each c.args.i text).1 c.in-Some.ensures)

pub returns-in-Some : goal.returns-in-Some
returns-in-Some c =
    let text = c.in-Some.text.now in
    said_read c.args.names.now c.args.c.now.pool c.args.i text text c.said_by.result
    ((c.requires.texts.each c.args.i text).1 c.in-Some.ensures) refl c.said_by.ensures

pub returns-in-None : goal.returns-in-None
returns-in-None c =
    record {
      class = λ k (us, at, p). c.in-None.ensures us ((c.requires.texts.each c.args.i us).0 at);
      field = λ k (us, at, p). c.in-None.ensures us ((c.requires.texts.each c.args.i us).0 at);
      method = λ k (us, at, p). c.in-None.ensures us ((c.requires.texts.each c.args.i us).0 at);
    }
