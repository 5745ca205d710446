-- The kind of entry that an opcode needs is the one that the definition asks for.
use Rattle.std.proofs.Common.{◌≡◌, ℕ, ◌≤◌, ◌⊎◌, inl, inr, ◌↔◌, Bool, true, false, IsTrue, cond, List, Option, Some, None, refl, sym, ◌∙◌, subst, arith}
use Rattle.std.specs.Prelude.{◌==◌, ◌||◌, nat_le, not}
use Rattle.std.proofs.lemmas.Bool.{and_parts, or_cases, leb-true, eqb-true, ne_eqb, lt-leb, and_right}
use Rattle.std.proofs.lemmas.Option.{same_Some, none-some}
use Rattle.jk_model.specs.declared.class_file.PoolEntry.{PoolEntry}
use Rattle.jk_model.specs.declared.instructions.Instr.{Instr}
use Rattle.jk_model.specs.declared.opcodes.TheConstants.{LDC_W, LDC2_W, GETSTATIC, PUTFIELD, INVOKEVIRTUAL, INVOKESTATIC, INVOKEINTERFACE, NEW, ANEWARRAY, CHECKCAST, INSTANCEOF, MULTIANEWARRAY}
use Rattle.jk_model_classes.specs.MemberCode.{UsesEntry, is_field_access, is_call, is_of_class, HasBadEntry}
use Rattle.class_rules.specs.declared.codes.operands.EntryKind.{EntryKind}
use Rattle.class_rules.specs.declared.codes.operands.EntryKind.TheVariants as kinds
use Rattle.class_rules.specs.Codes.{IsOfKind, needed_kind}

-- the instruction needs an entry of this kind, and names none
abbrev pub Lacks : List PoolEntry → Instr → EntryKind → Type 0
Lacks pool instr kind = UsesEntry (IsOfKind kind) pool instr → ⊥

first_or_rest : (b : Bool) (x : EntryKind) (rest : Option EntryKind) (y : EntryKind) → cond b (Some x) rest ≡ Some y
    → ((b ≡ true) × (x ≡ y)) ⊎ (rest ≡ Some y)
first_or_rest true x rest y e = inl (refl, same_Some x y e)
first_or_rest false x rest y e = inr e

lacks : (pool : List PoolEntry) (instr : Instr) (x y : EntryKind) → x ≡ y → Lacks pool instr y → Lacks pool instr x
lacks pool instr x y e h = subst (Lacks pool instr) (sym e) h

pub lacks_needed : (pool : List PoolEntry) (instr : Instr) (kind : EntryKind) → needed_kind instr.op ≡ Some kind → Lacks pool instr kind
    → HasBadEntry pool instr
unfolding needed_kind
lacks_needed pool instr kind e h =
    elim (first_or_rest (instr.op == LDC_W) kinds.Constant _ kind e) [
      | inl (t, same) ↦ inl (eqb-true instr.op LDC_W t, lacks pool instr kinds.Constant kind same h)
      | inr e2 ↦ elim (first_or_rest (instr.op == LDC2_W) kinds.Long _ kind e2) [
        | inl (t, same) ↦ inr (inl (eqb-true instr.op LDC2_W t, lacks pool instr kinds.Long kind same h))
        | inr e3 ↦ elim (first_or_rest (is_field_access instr.op) kinds.Field _ kind e3) [
          | inl (t, same) ↦ inr (inr (inl (t, lacks pool instr kinds.Field kind same h)))
          | inr e4 ↦ elim (first_or_rest (is_call instr.op) kinds.Method _ kind e4) [
            | inl (t, same) ↦ inr (inr (inr (inl (t, lacks pool instr kinds.Method kind same h))))
            | inr e5 ↦ elim (first_or_rest (instr.op == INVOKEINTERFACE) kinds.InterfaceMethod _ kind e5) [
              | inl (t, same) ↦ inr (inr (inr (inr (inl (eqb-true instr.op INVOKEINTERFACE t, lacks pool instr kinds.InterfaceMethod kind same h)))))
              | inr e6 ↦ elim (first_or_rest (is_of_class instr.op) kinds.Class None kind e6) [
                | inl (t, same) ↦ inr (inr (inr (inr (inr (t, lacks pool instr kinds.Class kind same h)))))
                | inr none ↦ absurd (none-some kind none)
              ]
            ]
          ]
        ]
      ]
    ]

-- ---- What each opcode needs.

kind_at : (op n : ℕ) (kind : EntryKind) → needed_kind n ≡ Some kind → op ≡ n → needed_kind op ≡ Some kind
kind_at op n kind e same = subst (λ (m : ℕ). needed_kind m ≡ Some kind) (sym same) e

needs_field : (op : ℕ) → IsTrue (is_field_access op) → needed_kind op ≡ Some kinds.Field
unfolding needed_kind
needs_field op t =
    let range = and_parts (nat_le GETSTATIC op) (nat_le op PUTFIELD) t in
    let low : GETSTATIC ≤ op = leb-true GETSTATIC op range.0 in
    let one : (op == LDC_W) ≡ false = ne_eqb op LDC_W (λ e. omega arith) in
    let two : (op == LDC2_W) ≡ false = ne_eqb op LDC2_W (λ e. omega arith) in
    rw (one, two, t) refl

needs_method : (op : ℕ) → IsTrue (is_call op) → needed_kind op ≡ Some kinds.Method
unfolding needed_kind
needs_method op t =
    let range = and_parts (nat_le INVOKEVIRTUAL op) (nat_le op INVOKESTATIC) t in
    let low : INVOKEVIRTUAL ≤ op = leb-true INVOKEVIRTUAL op range.0 in
    let one : (op == LDC_W) ≡ false = ne_eqb op LDC_W (λ e. omega arith) in
    let two : (op == LDC2_W) ≡ false = ne_eqb op LDC2_W (λ e. omega arith) in
    let three : is_field_access op ≡ false = and_right (nat_le GETSTATIC op) (nat_le op PUTFIELD) (lt-leb op PUTFIELD (omega arith)) in
    rw (one, two, three, t) refl

needs_class : (op : ℕ) → IsTrue (is_of_class op) → needed_kind op ≡ Some kinds.Class
unfolding needed_kind
needs_class op t =
    elim (or_cases (op == NEW || op == ANEWARRAY || op == CHECKCAST || op == INSTANCEOF) (op == MULTIANEWARRAY) t) [
      | inr last ↦ kind_at op MULTIANEWARRAY kinds.Class refl (eqb-true op MULTIANEWARRAY last)
      | inl t2 ↦ elim (or_cases (op == NEW || op == ANEWARRAY || op == CHECKCAST) (op == INSTANCEOF) t2) [
        | inr last ↦ kind_at op INSTANCEOF kinds.Class refl (eqb-true op INSTANCEOF last)
        | inl t3 ↦ elim (or_cases (op == NEW || op == ANEWARRAY) (op == CHECKCAST) t3) [
          | inr last ↦ kind_at op CHECKCAST kinds.Class refl (eqb-true op CHECKCAST last)
          | inl t4 ↦ elim (or_cases (op == NEW) (op == ANEWARRAY) t4) [
            | inr last ↦ kind_at op ANEWARRAY kinds.Class refl (eqb-true op ANEWARRAY last)
            | inl first ↦ kind_at op NEW kinds.Class refl (eqb-true op NEW first)
          ]
        ]
      ]
    ]

pub needed_lacks : (pool : List PoolEntry) (instr : Instr) → HasBadEntry pool instr
    → (kind : EntryKind) × (needed_kind instr.op ≡ Some kind) × Lacks pool instr kind
unfolding needed_kind
needed_lacks pool instr (inl (e, h)) = (kinds.Constant, kind_at instr.op LDC_W kinds.Constant refl e, h)
needed_lacks pool instr (inr (inl (e, h))) = (kinds.Long, kind_at instr.op LDC2_W kinds.Long refl e, h)
needed_lacks pool instr (inr (inr (inl (t, h)))) = (kinds.Field, needs_field instr.op t, h)
needed_lacks pool instr (inr (inr (inr (inl (t, h))))) = (kinds.Method, needs_method instr.op t, h)
needed_lacks pool instr (inr (inr (inr (inr (inl (e, h)))))) = (kinds.InterfaceMethod, kind_at instr.op INVOKEINTERFACE kinds.InterfaceMethod refl e, h)
needed_lacks pool instr (inr (inr (inr (inr (inr (t, h)))))) = (kinds.Class, needs_class instr.op t, h)

-- ---- What the test answers.

uses_needed : (pool : List PoolEntry) (instr : Instr) (kind : EntryKind) → Some kind ≡ needed_kind instr.op
    → UsesEntry (IsOfKind kind) pool instr → HasBadEntry pool instr → ⊥
uses_needed pool instr kind e uses bad =
    let (other, f, none) = needed_lacks pool instr bad in
    none (subst (λ (k : EntryKind). UsesEntry (IsOfKind k) pool instr) (same_Some kind other (e ∙ f)) uses)

pub needed_answer : (r : Bool) (pool : List PoolEntry) (instr : Instr) (kind : EntryKind) → Some kind ≡ needed_kind instr.op
    → (IsTrue r ↔ UsesEntry (IsOfKind kind) pool instr) → IsTrue (not r) ↔ HasBadEntry pool instr
needed_answer true pool instr kind e (to, from) = (λ t. absurd cc, λ h. absurd (uses_needed pool instr kind e (to refl) h))
needed_answer false pool instr kind e (to, from) =
    (λ t. lacks_needed pool instr kind (sym e) (λ u. let never : IsTrue false = from u in absurd cc), λ h. refl)

pub none_needed : (pool : List PoolEntry) (instr : Instr) → None ≡ needed_kind instr.op → IsTrue false ↔ HasBadEntry pool instr
none_needed pool instr e = (
  λ t. absurd cc,
  λ h. let (kind, f, none) = needed_lacks pool instr h in absurd (none-some kind (e ∙ f)),
)
