-- What an instruction makes of an array's class is wrong by what is known of the class's name.
use Rattle.std.proofs.Common.{◌≡◌, ℕ, ◌⊎◌, inl, inr, ◌↔◌, Bool, false, IsTrue, ℤ, pos, List, Option, Some, None, sym, ◌∙◌, ap, subst, arith}
use Rattle.std.specs.Prelude.{◌<ℤ◌}
use Rattle.jk_model.specs.declared.class_file.PoolEntry.{PoolEntry}
use Rattle.jk_model.specs.declared.instructions.Instr.{Instr}
use Rattle.jk_model.specs.declared.descriptors.FieldType.{FieldType}
use Rattle.jk_model.specs.declared.opcodes.TheConstants.{NEW, ANEWARRAY, MULTIANEWARRAY}
use Rattle.jk_model_classes.specs.ClassNames.{BeginsArray}
use Rattle.jk_model_classes.specs.Members.{ClassAt}
use Rattle.jk_model_classes.specs.MemberCode.{HasDimensions, MakesBadArray}
use Rattle.class_lemmas.proofs.OneText.{one_class as one_class_at}
use Rattle.descriptors.proofs.NoTextBeginsAnother.{one_field}
use Rattle.class_rules.specs.declared.texts.FieldShape.{FieldShape}
use Rattle.class_rules.specs.declared.texts.TextFacts.{TextFacts}
use Rattle.class_rules.specs.Codes.{HasShapeDimensions, IsWrongArray}
use Rattle.class_rules.specs.KnownPools.{IsNameKnown}
use Rattle.class_rules.specs.Texts.{IsFieldShape, AreFactsOf}

dims_known : (units : List ℕ) (field : Option FieldShape) (n : ℤ) → IsFieldShape units field → HasDimensions units n → HasShapeDimensions field n
dims_known units None n none (t, some, text, enough) = none t text
dims_known units (Some shape) n (u, known, same) (t, some, text, enough) =
    let one : t ≡ u = one_field units t u text known in
    let dims : shape.dims ≡ t.dims = ap (λ (s : FieldShape). s.dims) same ∙ sym (ap (λ (v : FieldType). v.dims) one) in
    (omega arith, λ less. enough (subst (λ (d : ℕ). pos d <ℤ n) dims less))

known_dims : (units : List ℕ) (field : Option FieldShape) (n : ℤ) → IsFieldShape units field → HasShapeDimensions field n → HasDimensions units n
known_dims units None n none h = absurd h
known_dims units (Some shape) n (u, known, same) (some, enough) =
    let dims : shape.dims ≡ u.dims = ap (λ (s : FieldShape). s.dims) same in
    (u, omega arith, known, λ less. enough (subst (λ (d : ℕ). pos d <ℤ n) (sym dims) less))

-- the instruction makes what it may not of a class with these units for a name
abbrev IsWrongFor : Instr → List ℕ → Type 0
IsWrongFor instr units =
    ((instr.op ≡ NEW) × BeginsArray units)
    ⊎ ((instr.op ≡ MULTIANEWARRAY) × (HasDimensions units instr.b → ⊥))
    ⊎ ((instr.op ≡ ANEWARRAY) × HasDimensions units (pos 255))

wrong_by_facts : (pool : List PoolEntry) (units : List ℕ) (facts : TextFacts) (instr : Instr) → AreFactsOf pool units facts → IsWrongFor instr units
    → IsWrongArray instr facts
wrong_by_facts pool units facts instr known (inl (op, begins)) = inl (op, known.begins_array.1 begins)
wrong_by_facts pool units facts instr known (inr (inl (op, none))) = inr (inl (op, λ h. none (known_dims units facts.field instr.b known.field h)))
wrong_by_facts pool units facts instr known (inr (inr (op, h))) = inr (inr (op, dims_known units facts.field (pos 255) known.field h))

facts_are_wrong : (pool : List PoolEntry) (units : List ℕ) (facts : TextFacts) (instr : Instr) → AreFactsOf pool units facts → IsWrongArray instr facts
    → IsWrongFor instr units
facts_are_wrong pool units facts instr known (inl (op, begins)) = inl (op, known.begins_array.0 begins)
facts_are_wrong pool units facts instr known (inr (inl (op, none))) = inr (inl (op, λ h. none (dims_known units facts.field instr.b known.field h)))
facts_are_wrong pool units facts instr known (inr (inr (op, h))) = inr (inr (op, known_dims units facts.field (pos 255) known.field h))

same_pos : (i j : ℕ) → pos i ≡ pos j → i ≡ j
same_pos i j e = cc

class_there : (pool : List PoolEntry) (instr : Instr) (i j : ℕ) (units : List ℕ) → instr.a ≡ pos i → instr.a ≡ pos j → ClassAt pool j units
    → ClassAt pool i units
class_there pool instr i j units e f c = subst (λ (n : ℕ). ClassAt pool n units) (same_pos j i (sym f ∙ e)) c

pub bad_array : (r : Bool) (pool : List PoolEntry) (instr : Instr) (i : ℕ) (facts : TextFacts) → instr.a ≡ pos i → IsNameKnown pool i (Some facts)
    → (IsTrue r ↔ IsWrongArray instr facts) → IsTrue r ↔ MakesBadArray pool instr
bad_array r pool instr i facts e (units, at, known) (to, from) = (
  λ t. (units, (i, e, at), facts_are_wrong pool units facts instr known (to t)),
  λ (others, (j, f, c), wrong).
      let same : others ≡ units = one_class_at pool i others units (class_there pool instr i j others e f c) at in
      from (wrong_by_facts pool units facts instr known (subst (IsWrongFor instr) same wrong)),
)

pub no_class : (pool : List PoolEntry) (instr : Instr) (i : ℕ) → instr.a ≡ pos i → ((units : List ℕ) → ClassAt pool i units → ⊥)
    → IsTrue false ↔ MakesBadArray pool instr
no_class pool instr i e none = (λ t. absurd cc, λ (units, (j, f, c), wrong). absurd (none units (class_there pool instr i j units e f c)))
