-- What is known of the units is known of the text.
use Rattle.std.proofs.Common.{List, ℕ, Some, subst, sym}
use Rattle.jk_model.specs.Text.{Spells}
use Rattle.jk_model.specs.declared.class_file.PoolEntry.{PoolEntry}
use Rattle.class_rules.specs.SeenTexts.{IsAdded, IsKept, known_of}
use Rattle.class_rules.proofs.texts.facts_at.Goals as goal

pub returns : goal.returns
returns c =
    let facts = c.in_ok-known_or_judged.field-0 in
    let spelt : Spells c.in-Utf8.bytes c.in_ok-units.units =
    subst (λ (bytes : List ℕ). Spells bytes c.in_ok-units.units) c.as_slice.ensures c.in_ok-units.ensures.spelt in
    let added : IsAdded c.in_ok-units.units c.args.index facts (known_of c.args.seen.now) (known_of c.known_or_judged.new.seen) =
    subst (λ (units : List ℕ). IsAdded units c.args.index facts (known_of c.args.seen.now) (known_of c.known_or_judged.new.seen))
    c.as_slice-2.ensures c.in_ok-known_or_judged.ensures in
    subst (λ (e : PoolEntry). IsKept e c.args.index (Some facts) (known_of c.args.seen.now) (known_of c.known_or_judged.new.seen)) (sym c.in-Utf8.is)
    (c.in_ok-units.units, spelt, added)
