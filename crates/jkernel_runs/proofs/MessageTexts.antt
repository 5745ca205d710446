-- The text of a script's fault, which is written in parts, and what is known where no count rose.
use Rattle.std.proofs.Common.{◌≡◌, ℕ, List, [], ◌∷◌, ◌++◌, Option, Result, Ok, Err, ℤ, pos, ap, ◌∙◌, append_assoc}
use Rattle.std.specs.Prelude.{OnOk, OnErr, codes, decimal}
use Rattle.std.specs.Fmt.{signed_decimal}
use Rattle.std.proofs.lemmas.List.{append-nil}
use Rattle.jk_model.specs.declared.script.ScriptFault.{ScriptFault}
use Rattle.jkernel_runs.specs.Messages.{kind_text, fault_text}
use Rattle.jk_model.specs.Outside.{Appends, HasRisen}

-- where a failure has its cause, and no count rose, all went well
pub all_went : {E : Type 0} (r : Result (Unit {0}) E) (old new : Option (List ℕ)) (before after : ℕ) (text : List ℕ) → OnOk r (Appends old new text)
    → OnErr r (HasRisen before after) → (HasRisen before after → ⊥) → Appends old new text
all_went (Ok x) old new before after text ok cause calm = ok
all_went (Err e) old new before after text ok cause calm = absurd (calm cause)

-- parts that are put one after the other
in_order : (a b c d end : List ℕ) → (a ++ (b ++ (c ++ (d ++ [])))) ++ end ≡ (((a ++ b) ++ c) ++ d) ++ end
in_order a b c d end = simp (append_assoc, append-nil)

-- the parts of a script's fault are its message
pub fault_parts : (fault : ScriptFault) (line : ℤ) (text : List ℕ) → line ≡ pos fault.line → text ≡ kind_text fault.kind
    → (codes "jkernel: script line " ++ (signed_decimal line ++ (codes ": " ++ (text ++ [])))) ++ 10 ∷ [] ≡ fault_text fault
fault_parts fault line text number is =
    ap (λ (n : ℤ). (codes "jkernel: script line " ++ (signed_decimal n ++ (codes ": " ++ (text ++ [])))) ++ 10 ∷ []) number
    ∙ in_order (codes "jkernel: script line ") (decimal fault.line) (codes ": ") text (10 ∷ [])
    ∙ ap (λ (t : List ℕ). (((codes "jkernel: script line " ++ decimal fault.line) ++ codes ": ") ++ t) ++ 10 ∷ []) is
