-- It puts, or it makes, or neither.
use Rattle.std.proofs.Common.{inl, inr, false, true, sym, ◌∙◌, ◌≡◌}
use Rattle.link_rules.proofs.access.is_breaking.Goals as goal

pub returns-then-puts_final : goal.returns-then-puts_final
returns-then-puts_final c = λ s same own h.
    (λ t. inl ((c.puts_final.ensures s c.args.c.now same own h).0 t), λ breaks. c.if-puts_final.true)

pub returns-else-puts_final : goal.returns-else-puts_final
returns-else-puts_final c = λ s same own h. (
  λ t. inr ((c.makes_unmakable.ensures s same h).0 t),
  λ breaks. elim breaks [
    | inl puts ↦
        let both : false ≡ true = sym c.if-puts_final.false ∙ (c.puts_final.ensures s c.args.c.now same own h).1 puts in
        absurd cc
    | inr makes ↦ (c.makes_unmakable.ensures s same h).1 makes
  ],
)
