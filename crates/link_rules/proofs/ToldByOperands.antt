-- What an instruction finds, puts or makes is told by its opcode and its first operand, and is no jump's.
use Rattle.std.proofs.Common.{◌≡◌, ℕ, inl, inr, IsTrue, refl, subst, sym}
use Rattle.std.specs.Prelude.{◌||◌, ◌==◌, ℤ, not, pos}
use Rattle.std.proofs.lemmas.Bool.{eqb-true, or_cases}
use Rattle.jk_model.specs.declared.class_file.ClassFile.{ClassFile}
use Rattle.jk_model.specs.declared.instructions.Instr.{Instr}
use Rattle.jk_model.specs.Instructions.{plain}
use Rattle.jk_model.specs.declared.opcodes.TheConstants.{INVOKEINTERFACE, INVOKESPECIAL, NEW, INVOKESTATIC}
use Rattle.jk_model_classes.specs.LinkRules.{LinkScope}
use Rattle.jk_model_classes.specs.MemberCode.{is_jump, is_switch}
use Rattle.link_rules.specs.LinkedInstrs.{BreaksAccess, FindsWrong}
use Rattle.link_rules.proofs.MethodsByRecord.{IsTold}

abbrev IsPlain : ℕ → Type 0
IsPlain op = IsTrue (not (is_jump op || is_switch op))

one_of_two : (op a b : ℕ) → IsPlain a → IsPlain b → IsTrue (op == a || op == b) → IsPlain op
one_of_two op a b first second t =
    elim (or_cases (op == a) (op == b) t) [
      | inl e ↦ subst IsPlain (sym (eqb-true op a e)) first
      | inr e ↦ subst IsPlain (sym (eqb-true op b e)) second
    ]

one_of_three : (op a b c : ℕ) → IsPlain a → IsPlain b → IsPlain c → IsTrue (op == a || op == b || op == c) → IsPlain op
one_of_three op a b c first second third t =
    elim (or_cases (op == a || op == b) (op == c) t) [
      | inl e ↦ one_of_two op a b first second e
      | inr e ↦ subst IsPlain (sym (eqb-true op c e)) third
    ]

is_plain : (op a : ℕ) → IsPlain a → op ≡ a → IsPlain op
is_plain op a h e = subst IsPlain (sym e) h

module _ (s : LinkScope) (c : ClassFile) where
  wrong_plain : (x : Instr) → FindsWrong s c x → IsPlain x.op
  wrong_plain x (inl (m, field, uses, inl (static, none))) = one_of_two x.op 0xb2 0xb3 refl refl static
  wrong_plain x (inl (m, field, uses, inr (own, some))) = one_of_two x.op 0xb4 0xb5 refl refl own
  wrong_plain x (inr (m, method, uses, inl (static, none))) = is_plain x.op INVOKESTATIC refl static
  wrong_plain x (inr (m, method, uses, inr (inl (own, some)))) = one_of_three x.op 0xb6 INVOKESPECIAL INVOKEINTERFACE refl refl refl own
  wrong_plain x (inr (m, method, uses, inr (inr (special, abstract)))) = is_plain x.op INVOKESPECIAL refl special

  pub wrong_told : IsTold (FindsWrong s c)
  wrong_told = record {
    alike = λ x y op a h.
        subst (λ (o : ℕ). FindsWrong s c (plain 0 o y.a (pos 0))) op (subst (λ (z : ℤ). FindsWrong s c (plain 0 x.op z (pos 0))) a h);
    plain = wrong_plain;
  }

  access_plain : (x : Instr) → BreaksAccess s c x → IsPlain x.op
  access_plain x (inl (m, field, uses, puts, final, other)) = one_of_two x.op 0xb3 0xb5 refl refl puts
  access_plain x (inr (i, name, class, new, names, stands, own, means, bad)) = is_plain x.op NEW refl new

  pub access_told : IsTold (BreaksAccess s c)
  access_told = record {
    alike = λ x y op a h.
        subst (λ (o : ℕ). BreaksAccess s c (plain 0 o y.a (pos 0))) op (subst (λ (z : ℤ). BreaksAccess s c (plain 0 x.op z (pos 0))) a h);
    plain = access_plain;
  }
