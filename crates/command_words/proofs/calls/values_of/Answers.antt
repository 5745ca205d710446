-- Words of the command are taken, and others are refused for a fault of theirs.
use Rattle.std.proofs.Common.{map, inr, refl, ◌∙◌, codes}
use Rattle.std.specs.Prelude.{string_bytes}
use Rattle.command_words.proofs.TakenWords.{has_fault, no_fault, value_is}
use Rattle.command_words.proofs.calls.values_of.Goals as goal

pub returns-in-Ok : goal.returns-in-Ok
returns-in-Ok c =
    let ws = map string_bytes c.args.words.now in
    let app = c.in_ok-command.ensures in
    let e = c.in-Ok.ensures in (
      no_fault _ ws c.in-Ok.matches app e.kinds,
      c.get_str.ensures ∙ value_is _ ws c.in-Ok.matches (codes "demo") app e.matches,
      c.get_str-in-Ok.ensures ∙ value_is _ ws c.in-Ok.matches (codes "ROOT") app e.matches,
      c.get_str-in-Ok-2.ensures ∙ value_is _ ws c.in-Ok.matches (codes "SCRIPT") app e.matches,
    )

pub returns : goal.returns
returns c =
    inr (
      refl,
      has_fault _ (map string_bytes c.args.words.now) c.in-Err.error c.in_ok-command.ensures c.in-Err.ensures.kinds
          (λ out. c.in_default.not-OutOfMemory (c.kind.ensures ∙ out)),
    )
