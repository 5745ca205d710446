-- Shapes tell texts from other objects, and lengths tell texts of other lengths.
use Rattle.std.proofs.Common.{◌≡◌, ◌∙◌, ℕ, List, Some, bytes_eq, take, ap, arith}
use Rattle.std.proofs.lemmas.List.{take_all}
use Rattle.system_calls.proofs.TextRows.{equal_by, shown_text, unequal_lengths, unequal_objects}
use Rattle.system_calls.proofs.texts.are_equal.Goals as goal

pub have_same_units-requires-clause-second : goal.have_same_units-requires-clause-second
have_same_units-requires-clause-second g c =
    let found = shown_text c.requires.name.0 c.in-Text.len (c.in-Text.ensures c.requires.name.0 c.requires.name.1) in
    let there = c.requires.name.1 ∙ ap Some found.1 in
    record { text = found.0; live = there; many = omega (arith, found.2) }

pub returns-then-len-text_len : goal.returns-then-len-text_len
returns-then-len-text_len g c = λ units live.
    let found = shown_text c.requires.name.0 c.in-Text.len (c.in-Text.ensures c.requires.name.0 c.requires.name.1) in
    let there = c.requires.name.1 ∙ ap Some found.1 in
    let told = c.text_len.ensures units live in
    let both = c.if-len-text_len.true in
    let whole : take c.in-Text.len units ≡ units = take_all c.in-Text.len units (omega (arith, told, both)) in
    let other : take c.in-Text.len found.0 ≡ found.0 = take_all c.in-Text.len found.0 (omega (arith, found.2)) in
    equal_by ((g.H.ObjectStore.content c.args.heap.now).heap c.args.d) c.args.other units found.0 c.have_same_units.result there
    (c.have_same_units.ensures units found.0 live there ∙ ap (λ (us : List ℕ). bytes_eq us (take c.in-Text.len found.0)) whole
    ∙ ap (bytes_eq units) other)

pub returns-else-len-text_len : goal.returns-else-len-text_len
returns-else-len-text_len g c = λ units live.
    let found = shown_text c.requires.name.0 c.in-Text.len (c.in-Text.ensures c.requires.name.0 c.requires.name.1) in
    let there = c.requires.name.1 ∙ ap Some found.1 in
    unequal_lengths ((g.H.ObjectStore.content c.args.heap.now).heap c.args.d) c.args.other units found.0 c.in-Text.len c.text_len.result there
    found.2 (c.text_len.ensures units live)
    c.if-len-text_len.false

pub returns-in_default : goal.returns-in_default
returns-in_default g c = λ units live.
    unequal_objects ((g.H.ObjectStore.content c.args.heap.now).heap c.args.d) c.args.other units c.requires.name.0 c.requires.name.1
    (λ n is. c.in_default.not-Text n (c.shape.ensures c.requires.name.0 c.requires.name.1 ∙ is))
