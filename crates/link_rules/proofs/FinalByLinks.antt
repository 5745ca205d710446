-- An instruction puts to the field to which the entry that it names leads.
use Rattle.std.proofs.Common.{◌≡◌, ℕ, ◌↔◌, Bool, IsTrue, List, Some, sym, ◌∙◌, subst, pos, arith}
use Rattle.std.specs.Prelude.{slice_get}
use Rattle.std.proofs.lemmas.Option.{slice_get_within}
use Rattle.list_lemmas.proofs.ItemsByPlace.{item_there}
use Rattle.jk_model.specs.declared.class_file.ClassFile.{ClassFile}
use Rattle.jk_model.specs.declared.class_file.PoolEntry.{PoolEntry}
use Rattle.jk_model.specs.declared.identifiers.ClassId.{ClassId}
use Rattle.jk_model.specs.declared.identifiers.MemberId.{MemberId}
use Rattle.jk_model.specs.declared.instructions.Instr.{Instr}
use Rattle.jk_model_classes.specs.declared.records.ClassRecord.{ClassRecord}
use Rattle.jk_model_classes.specs.declared.records.FieldRecord.{FieldRecord}
use Rattle.jk_model_classes.specs.declared.records.Link.{Link}
use Rattle.jk_model_classes.specs.declared.records.Link.TheVariants as To
use Rattle.jk_model_classes.specs.LinkRules.{FindsFieldAt, LinkScope, PutsFinal}
use Rattle.jk_model_classes.specs.Lookups.{FieldIs}
use Rattle.jk_model_classes.specs.Members.{Field, reference}
use Rattle.jk_model_folders.specs.LinkedClasses.{AreLinksFor, IsLinkFor}
use Rattle.link_rules.specs.FinalFields.{LeadsFinal}
use Rattle.link_rules.proofs.WrongByLinks.{field_found, field_linked}

module _ (s : LinkScope) (c : ClassFile) (i : ℕ) (entry : PoolEntry) (at : slice_get c.pool i ≡ Some entry) (instr : Instr) (names : instr.a ≡ pos i) where
  puts_by : (link : Link) → IsLinkFor s c i entry link → LeadsFinal s.classes s.self instr.op link → PutsFinal s c instr
  puts_by (To.Field cls m) h (field, is, puts, marked, other) = (m, field, (i, names, field_found s c i entry cls m h, is), puts, marked, other)
  puts_by _ h final = absurd final

  one_index : (j : ℕ) → instr.a ≡ pos j → j ≡ i
  one_index j other = let both : pos j ≡ pos i = sym other ∙ names in cc

  by_puts : (link : Link) → IsLinkFor s c i entry link → PutsFinal s c instr → LeadsFinal s.classes s.self instr.op link
  by_puts link h (m, field, (j, other, f, is), puts, marked, outside) =
      let here : FindsFieldAt s c i m = subst (λ (w : ℕ). FindsFieldAt s c w m) (one_index j other) f in
      let (cls, e) = field_linked s c i entry link m at h here in
      subst (LeadsFinal s.classes s.self instr.op) (sym e) (field, is, puts, marked, outside)

pub final_by_link : (classes : List ClassRecord) (self : ClassId) (links : List Link) (instr : Instr) (i : ℕ) (link : Link) (final : Bool) → instr.a ≡ pos i
    → slice_get links i ≡ Some link → (IsTrue final ↔ LeadsFinal classes self instr.op link) → (s : LinkScope) (c : ClassFile) → s.classes ≡ classes
    → s.self ≡ self → AreLinksFor s c links → IsTrue final ↔ PutsFinal s c instr
final_by_link classes self links instr i link final names there says s c same own h =
    let entry = item_there c.pool i (omega (arith, slice_get_within links i link there, h.as_many)) in
    let linked = h.each i entry.0 link entry.1 there in
    let says_own : IsTrue final ↔ LeadsFinal s.classes s.self instr.op link =
    subst (λ (w : List ClassRecord). IsTrue final ↔ LeadsFinal w s.self instr.op link) (sym same)
    (subst (λ (w : ClassId). IsTrue final ↔ LeadsFinal classes w instr.op link) (sym own) says) in (
      λ t. puts_by s c i entry.0 entry.1 instr names link linked (says_own.0 t),
      λ p. says_own.1 (by_puts s c i entry.0 entry.1 instr names link linked p),
    )

pub no_final : (links : List Link) (instr : Instr) → ((i : ℕ) (link : Link) → instr.a ≡ pos i → slice_get links i ≡ Some link → ⊥)
    → (s : LinkScope) (c : ClassFile) → AreLinksFor s c links → PutsFinal s c instr → ⊥
no_final links instr none s c h (m, field, (i, names, f, is), puts, marked, outside) =
    let (a, b, at, target, rest) = f.is_there in
    let link = item_there links i (omega (arith, slice_get_within c.pool i (reference Field a b) at, h.as_many)) in
    none i link.0 names link.1

at_field : (classes : List ClassRecord) (self : ClassId) (op : ℕ) (cls : ClassId) (m : MemberId) → ((field : FieldRecord) → FieldIs classes m field → ⊥)
    → LeadsFinal classes self op (To.Field cls m) → ⊥
at_field classes self op cls m none (field, is, puts, marked, outside) = none field is

pub no_field_final : (classes : List ClassRecord) (self : ClassId) (op : ℕ) (link : Link) (cls : ClassId) (m : MemberId) → link ≡ To.Field cls m
    → ((field : FieldRecord) → FieldIs classes m field → ⊥) → LeadsFinal classes self op link → ⊥
no_field_final classes self op link cls m e none h = at_field classes self op cls m none (subst (LeadsFinal classes self op) e h)
