-- The flags of a method count unless it is a class initializer.
use Rattle.std.proofs.Common.{inl, inr, sym, ◌∙◌}
use Rattle.jk_model_classes.specs.Members.{TextAt, INIT, CLINIT}
use Rattle.class_rules.proofs.KnownTexts.{of_entries, refuted}
use Rattle.class_rules.proofs.flags.has_bad_method_flags.Goals as goal

pub returns-then-is_word-2 : goal.returns-then-is_word-2
returns-then-is_word-2 c =
    let clinit = of_entries (λ pool. TextAt pool c.args.method.now.name CLINIT) _ _ c.is_word.result c.of-pool.ensures.entries c.is_word.ensures in
    let init =
    of_entries (λ pool. TextAt pool c.args.method.now.name INIT) _ _ c.is_word-else-is_bad_method.result c.of-pool.ensures.entries
    c.is_word-else-is_bad_method.ensures in (
      λ e. (refuted c.is_word.result clinit c.if-is_word.false, inr (init.0 c.if-is_word-2.true, sym c.is_bad_init.ensures ∙ e)),
      λ (none, bad). elim bad [ inl h ↦ absurd cc | inr h ↦ c.is_bad_init.ensures ∙ h.1 ],
    )

pub returns-else-is_word-2 : goal.returns-else-is_word-2
returns-else-is_word-2 c =
    let init =
    of_entries (λ pool. TextAt pool c.args.method.now.name INIT) _ _ c.is_word-else-is_bad_method.result c.of-pool.ensures.entries
    c.is_word-else-is_bad_method.ensures in (
      λ e. absurd cc,
      λ (none, bad). elim bad [ inl h ↦ absurd cc | inr h ↦ absurd (refuted c.is_word-else-is_bad_method.result init c.if-is_word-2.false h.0) ],
    )
