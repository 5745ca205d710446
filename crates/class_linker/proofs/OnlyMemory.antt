-- A code that breaks no rule is decoded unless memory runs out.
use Rattle.std.proofs.Common.{◌≡◌, ℕ, List, refl, subst, inl, inr}
use Rattle.jk_model.specs.declared.class_file.Code.{Code}
use Rattle.jk_model.specs.Instructions.{Fault, HasFault, IsCutAt}
use Rattle.jk_opcodes.specs.declared.errors.CodeError.{CodeError}
use Rattle.jk_opcodes.specs.declared.errors.CodeError.TheVariants as errors
use Rattle.jk_opcodes.specs.Errors.{error_of}
use Rattle.class_linker.specs.KnownCodes.{IsDecodable}

pub code_memory : (code : Code) (bytes : List ℕ) (e : CodeError) → bytes ≡ code.code → IsDecodable code
    → ((f : Fault) (place : ℕ) → e ≡ error_of f place → HasFault bytes f place)
    → ((place : ℕ) → e ≡ errors.CutInstruction place → IsCutAt bytes place) → e ≡ errors.OutOfMemory
code_memory code bytes (errors.IllegalOpcode p) same d fault cut =
    absurd (d.decodes (inl (p, subst (λ (b : List ℕ). HasFault b Fault.IllegalOpcode p) same (fault Fault.IllegalOpcode p refl))))
code_memory code bytes (errors.CutInstruction p) same d fault cut =
    absurd (d.decodes (inr (inr (inr (p, subst (λ (b : List ℕ). IsCutAt b p) same (cut p refl))))))
code_memory code bytes (errors.BadSwitch p) same d fault cut =
    absurd (d.decodes (inr (inl (p, subst (λ (b : List ℕ). HasFault b Fault.BadSwitch p) same (fault Fault.BadSwitch p refl)))))
code_memory code bytes (errors.BadOperand p) same d fault cut =
    absurd (d.decodes (inr (inr (inl (p, subst (λ (b : List ℕ). HasFault b Fault.BadOperand p) same (fault Fault.BadOperand p refl))))))
code_memory code bytes (errors.FloatOpcode p) same d fault cut =
    absurd (d.float (p, subst (λ (b : List ℕ). HasFault b Fault.FloatOpcode p) same (fault Fault.FloatOpcode p refl)))
code_memory code bytes (errors.Subroutine p) same d fault cut =
    absurd (d.subroutine (p, subst (λ (b : List ℕ). HasFault b Fault.Subroutine p) same (fault Fault.Subroutine p refl)))
code_memory code bytes (errors.Monitor p) same d fault cut =
    absurd (d.monitor (p, subst (λ (b : List ℕ). HasFault b Fault.Monitor p) same (fault Fault.Monitor p refl)))
code_memory code bytes errors.OutOfMemory same d fault cut = refl
