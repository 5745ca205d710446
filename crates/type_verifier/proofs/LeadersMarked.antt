-- The marks that all instructions and catch entries ask for make the leaders of a code.
use Rattle.std.proofs.Common.{◌≡◌, ℕ, suc, ◌<◌, ◌↔◌, Bool, List, length, Contains, Some, ◌∙◌, subst, arith}
use Rattle.std.specs.Prelude.{slice_get}
use Rattle.jk_model.specs.declared.instructions.Instr.{Instr}
use Rattle.jk_model_classes.specs.declared.records.Caught.{Caught}
use Rattle.jk_model_classes.specs.declared.records.LinkedCode.{LinkedCode}
use Rattle.jk_model_typing.specs.Typing.{Covers}
use Rattle.type_verifier.specs.Leaders.{AreLeaders, Leads}
use Rattle.type_verifier.specs.Marks.{IsEntryMarked, IsInstrMarked, IsMarked, KeepsMarks}
use Rattle.type_verifier.proofs.MarksKept.{marked_kept, instr_kept}

-- where an entry neither begins nor ends to cover, it covers what it covered before
same_covered : (h : Caught) (place : ℕ) → (h.start ≡ suc place → ⊥) → (h.end ≡ suc place → ⊥) → Covers h place ↔ Covers h (suc place)
same_covered h place start end = (λ c. (omega (arith, c.0), omega (arith, c.1, end)), λ c. (omega (arith, c.0, start), omega (arith, c.1)))

not_here : (leads : List Bool) (place at : ℕ) → IsMarked leads at → place < length leads → (Leads leads place → ⊥) → at ≡ place → ⊥
not_here leads place at marked within none e =
    let P : ℕ → Type 0 = λ n. IsMarked leads n in none (subst P e marked within)

pub leaders_made : (code : LinkedCode) (a b c d : List Bool) → length a ≡ length code.instrs → KeepsMarks a b → IsMarked b 0
    → KeepsMarks b c → ((place : ℕ) (i : Instr) → slice_get code.instrs place ≡ Some i → IsInstrMarked c place i)
    → KeepsMarks c d → ((h : Caught) → Contains code.handlers h → IsEntryMarked d h) → AreLeaders code d
leaders_made code a b c d long to_b first to_c instrs to_d entries =
    let instrs_in : (place : ℕ) (i : Instr) → slice_get code.instrs place ≡ Some i → IsInstrMarked d place i =
    λ place i at. instr_kept c d place i to_d (instrs place i at) in
    record {
      as_many = to_d.as_many ∙ to_c.as_many ∙ to_b.as_many ∙ long;
      first = marked_kept c d 0 to_d (marked_kept b c 0 to_c first);
      targets = λ place next i at leads within. (instrs_in place i at).targets next leads within;
      handlers = λ h has within. (entries h has).handler within;
      calls = λ place i at calls within. (instrs_in place i at).calls calls within;
      covered = λ place h within none has.
          same_covered h place (not_here d (suc place) h.start (entries h has).start within none)
          (not_here d (suc place) h.end (entries h has).end within none);
    }
