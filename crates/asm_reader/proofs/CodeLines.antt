-- Words are no line of code where they are no instruction, and no label with words after it.
use Rattle.std.proofs.Common.{◌≡◌, ◌≢◌, ℕ, List, [], ◌∷◌, ◌++◌, Option, Some, None, inl, inr, sym, subst, ◌∙◌}
use Rattle.asm_reader.specs.declared.items.CodeLine.{CodeLine}
use Rattle.asm_reader.specs.declared.items.Statement.{Statement}
use Rattle.asm_reader.specs.declared.words.Word.{Word}
use Rattle.asm_reader.specs.declared.words.Word.TheVariants.{Plain}
use Rattle.asm_reader.specs.ItemParts.{IsMarked}
use Rattle.asm_reader.specs.Items.{IsAfterLabel, IsCodeLine}
use Rattle.asm_reader.specs.Statements.{IsStatement}
use Rattle.asm_reader.proofs.NoMnemonicIsALabel.{label_is_no_mnemonic}

-- words that begin with a label and a `:` are no instruction
pub marked_is_no_statement : (words : List Word) (label : List ℕ) (rest : List Word) (s : Statement)
    → IsMarked words label rest → IsStatement words s → ⊥
marked_is_no_statement words label rest s m h =
    let same : Plain (label ++ 58 ∷ []) ∷ rest ≡ Plain h.1 ∷ h.2 = sym m.1 ∙ h.3 in
    let name : h.1 ≡ label ++ 58 ∷ [] = cc in
    label_is_no_mnemonic label h.0 (rw name at h.4)

-- after a label
pub nothing_after : (words : List Word) → words ≢ [] → ((s : Statement) → IsStatement words s → ⊥)
    → (s : Option Statement) → IsAfterLabel words s → ⊥
nothing_after words some none None h = some h
nothing_after words some none (Some s) h = none s h

-- neither a label nor an instruction
pub neither_is_code : (words : List Word) → ((label : List ℕ) (rest : List Word) → IsMarked words label rest → ⊥)
    → ((s : Statement) → IsStatement words s → ⊥) → (line : CodeLine) → IsCodeLine words line → ⊥
neither_is_code words no_mark no_statement line (inl h) = no_statement h.0 h.2
neither_is_code words no_mark no_statement line (inr h) = no_mark h.0 h.1 (h.2, h.3)

-- a label, and words after it that say nothing
pub mark_alone_is_no_code : (words : List Word) (label : List ℕ) (rest : List Word) → IsMarked words label rest
    → ((s : Option Statement) → IsAfterLabel rest s → ⊥) → (line : CodeLine) → IsCodeLine words line → ⊥
mark_alone_is_no_code words label rest m none line (inl h) = marked_is_no_statement words label rest h.0 m h.2
mark_alone_is_no_code words label rest m none line (inr h) =
    let same : Plain (h.0 ++ 58 ∷ []) ∷ h.1 ≡ Plain (label ++ 58 ∷ []) ∷ rest = sym h.3 ∙ m.1 in
    let after : h.1 ≡ rest = cc in
    none line.statement (subst (λ (ws : List Word). IsAfterLabel ws line.statement) after h.5)
