-- A quoted text is no word without quotes.
use Rattle.std.proofs.Common.{◌≡◌, ◌<◌, ℕ, List, [], ◌∷◌, zero, suc, length, map, get_or, arith, sym, ◌∙◌}
use Rattle.asm_reader.specs.declared.words.Word.{Word}
use Rattle.asm_reader.specs.declared.words.Word.TheVariants.{Plain, Quoted}
use Rattle.asm_reader.proofs.item_lines.plain_words.Goals as goal

plain_at : (plain : List (List ℕ)) (i : ℕ) (text : List ℕ) (d : Word) → i < length (map Plain plain)
    → get_or (map Plain plain) i d ≡ Quoted text → ⊥
plain_at [] i text d h e = absurd (omega arith)
plain_at (p ∷ ps) zero text d h e = cc
plain_at (p ∷ ps) (suc i) text d h e = plain_at ps i text d (omega arith) e

quoted_among : (words : List Word) (i : ℕ) (word : Word) (text : List ℕ) (plain : List (List ℕ)) → i < length words
    → word ≡ get_or words i word → word ≡ Quoted text → words ≡ map Plain plain → ⊥
quoted_among words i word text plain h at is e =
    let in_plain : i < length (map Plain plain) = rw e at h in
    let here : word ≡ get_or (map Plain plain) i word = rw e at at in
    plain_at plain i text word in_plain (sym here ∙ is)

pub returns-in_default : goal.returns-in_default
returns-in_default c = λ plain e. quoted_among c.args.words.now c.loop-word.word-index c.word-item.result c.in_default.field-0 plain
    c.loop-word-test.true c.word-item.is c.in_default.is e
