-- The entry below the top one is an int.
use Rattle.std.proofs.Common.{sym, ◌∙◌, rules}
use Rattle.std.proofs.lemmas.Int.{to_z-of_z}
use Rattle.std.specs.Int.{w32}
use Rattle.std.specs.Int.RustNames.{FitsSigned}
use Rattle.jk_model.specs.declared.values.Value.TheVariants.{Int}
use Rattle.number_ops.proofs.BothOnTop.{lower_is, lower_there}
use Rattle.number_ops.proofs.Calculations.{one_int}
use Rattle.number_ops.proofs.entries.lower_int.Goals as goal

pub peek-requires : goal.peek-requires
peek-requires g c = lower_there _ _ _ _ c.requires.2

pub unreachable-requires : goal.unreachable-requires
unreachable-requires g c = c.in_default.not-Int c.requires.0 (lower_is _ _ _ _ c.requires.2 c.peek.result c.peek.ensures)

pub returns : goal.returns
returns g c = λ n v on.
    let fits : FitsSigned w32 c.in-Int.n = search rules in
    to_z-of_z w32 c.in-Int.n fits ∙ one_int c.in-Int.n n (sym c.in-Int.is ∙ lower_is _ _ (Int n) v on c.peek.result c.peek.ensures)
