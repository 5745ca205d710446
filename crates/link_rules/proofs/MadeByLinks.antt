-- `new` makes the class to which the link of its entry leads. It names no array in a class file that breaks no rule alone.
use Rattle.std.proofs.Common.{◌≡◌, ◌≢◌, ℕ, ◌≤◌, ◌⊎◌, inl, inr, Bool, ◌↔◌, IsTrue, List, Option, Some, arith, sym, ◌∙◌, ap, subst}
use Rattle.std.specs.Prelude.{pos, slice_get}
use Rattle.std.proofs.lemmas.Option.{same_Some, slice_get_within}
use Rattle.list_lemmas.proofs.ItemsByPlace.{item_there}
use Rattle.jk_model.specs.declared.class_file.ClassFile.{ClassFile}
use Rattle.jk_model.specs.declared.class_file.Code.{Code}
use Rattle.jk_model.specs.declared.class_file.PoolEntry.{PoolEntry}
use Rattle.jk_model.specs.declared.class_file.PoolEntry.TheVariants as Entry
use Rattle.jk_model.specs.declared.descriptors.FieldType.{FieldType}
use Rattle.jk_model.specs.declared.identifiers.ClassId.{ClassId}
use Rattle.jk_model.specs.declared.instructions.Instr.{Instr}
use Rattle.jk_model.specs.declared.output.Rule.TheVariants.{C15}
use Rattle.jk_model.specs.Descriptors.{IsClassName, IsFieldText}
use Rattle.jk_model.specs.Instructions.{Decodes}
use Rattle.jk_model.specs.declared.opcodes.TheConstants.{NEW}
use Rattle.jk_model_classes.specs.declared.records.BaseRef.TheVariants as Base
use Rattle.jk_model_classes.specs.declared.records.ClassRecord.{ClassRecord}
use Rattle.jk_model_classes.specs.declared.records.Link.{Link}
use Rattle.jk_model_classes.specs.declared.records.Link.TheVariants as To
use Rattle.jk_model_classes.specs.declared.records.TypeRef.{TypeRef}
use Rattle.jk_model_classes.specs.Items.{Member}
use Rattle.jk_model_classes.specs.LinkRules.{IsAccessRefused, LinkScope, MakesWhatItMayNot, PutsFinal}
use Rattle.jk_model_classes.specs.MemberCode.{CodeAt, HasCode, HasInstr}
use Rattle.jk_model_classes.specs.Members.{ClassAt, TextAt}
use Rattle.jk_model_classes.specs.OneClassRules.{HasNoFault}
use Rattle.class_lemmas.proofs.ArraysHaveNoNames.{no_array, array_begins}
use Rattle.jk_model_folders.specs.LinkedClasses.{AreLinksFor, IsEntryType, IsLinkFor}
use Rattle.class_lemmas.proofs.OneText.{one_text}
use Rattle.class_texts.specs.PoolTexts.{AreTextsOf}
use Rattle.link_rules.specs.LinkedInstrs.{BreaksAccess, IsClassLink, LeadsUnmakable, MakesUnmakable}

abbrev class_type : ClassId → TypeRef
class_type class = record { dims = 0; base = Base.Class class }

no_array_name : {X : Type 0} (name : List ℕ) (t : FieldType) → IsClassName name → IsFieldText name t → t.dims ≢ 0 → X
no_array_name name t own text some = absurd (no_array name (array_begins name (t, omega arith, text)) own)

-- ---- What stands at the entry that `new` names.

module _ (s : LinkScope) (c : ClassFile) (texts : List (Option (List ℕ))) (spelled : AreTextsOf c.pool texts) (links : List Link)
    (h : AreLinksFor s c links) where
  one_name : (n : ℕ) (units name : List ℕ) → TextAt c.pool n units → slice_get texts n ≡ Some (Some name) → units ≡ name
  one_name n units name at there = one_text c.pool n units name at ((spelled.each n name).1 there)

  -- a link to a class is that of the name's class
  class_meant : (units : List ℕ) (t : TypeRef) (class : ClassId) → IsEntryType s units t → t ≡ class_type class
      → IsClassName units × (s.meaning units ≡ Some class)
  class_meant units t class (inl (own, (other, means, e))) is =
      let both : Base.Class other ≡ Base.Class class = ap (λ (w : TypeRef). w.base) (sym e ∙ is) in
      let same : other ≡ class = cc in
      (own, means ∙ ap (λ (w : ClassId). Some w) same)
  class_meant units t class (inr (type, some, text, resolved)) is =
      let dims : t.dims ≡ 0 = ap (λ (w : TypeRef). w.dims) is in
      absurd (some (sym resolved.0 ∙ dims))

  module _ (i : ℕ) (entry : PoolEntry) (at : slice_get c.pool i ≡ Some entry) (link : Link) (there : slice_get links i ≡ Some link) (instr : Instr)
      (names : instr.a ≡ pos i) (new : instr.op ≡ NEW) where
    class_link : (n : ℕ) (class : ClassId) → IsClassLink link class → IsLinkFor s c i (Entry.Class n) link
        → (units : List ℕ) × TextAt c.pool n units × IsClassName units × (s.meaning units ≡ Some class)
    class_link n class is (units, t, text, type, e) =
        let both : To.Class t ≡ To.Class (class_type class) = sym e ∙ is in
        let same : t ≡ class_type class = cc in
        let said = class_meant units t class type same in
        (units, text, said.0, said.1)

    made_by_link : LeadsUnmakable s.classes texts entry link → MakesUnmakable s c instr
    made_by_link (name, class, (n, e, spelling), is, bad) =
        let here : slice_get c.pool i ≡ Some (Entry.Class n) = at ∙ ap (λ (w : PoolEntry). Some w) e in
        let linked = h.each i (Entry.Class n) link here there in
        let (units, text, own, means) = class_link n class is linked in
        let same : units ≡ name = one_name n units name text spelling in (
          i,
          name,
          class,
          new,
          names,
          (n, here, (spelled.each n name).1 spelling),
          subst IsClassName same own,
          subst (λ (w : List ℕ). s.meaning w ≡ Some class) same means,
          bad,
        )

    one_index : (j : ℕ) → instr.a ≡ pos j → j ≡ i
    one_index j other = let both : pos j ≡ pos i = sym other ∙ names in cc

    -- the link of a class's name
    link_of_class : (n : ℕ) (name : List ℕ) (class : ClassId) → TextAt c.pool n name → IsClassName name → s.meaning name ≡ Some class
        → IsLinkFor s c i (Entry.Class n) link → IsClassLink link class
    link_of_class n name class text own means (units, t, also, inl (is, (other, meant, e)), leads) =
        let same : units ≡ name = one_text c.pool n units name also text in
        let one : other ≡ class = same_Some other class (sym meant ∙ ap s.meaning same ∙ means) in
        leads ∙ ap (λ (w : TypeRef). To.Class w) (e ∙ ap class_type one)
    link_of_class n name class text own means (units, t, also, inr (type, some, array, resolved), leads) =
        let same : units ≡ name = one_text c.pool n units name also text in
        no_array_name name type own (subst (λ (w : List ℕ). IsFieldText w type) same array) some

    linked_made : MakesUnmakable s c instr → LeadsUnmakable s.classes texts entry link
    linked_made (j, name, class, op, other, (n, stands, text), own, means, bad) =
        let here : slice_get c.pool i ≡ Some (Entry.Class n) =
        subst (λ (w : ℕ). slice_get c.pool w ≡ Some (Entry.Class n)) (one_index j other) stands in
        let same : entry ≡ Entry.Class n = same_Some entry (Entry.Class n) (sym at ∙ here) in
        let is = link_of_class n name class text own means (h.each i (Entry.Class n) link here there) in
        (name, class, (n, same, (spelled.each n name).0 text), is, bad)

    pub unmakable_by_link : (classes : List ClassRecord) (made : Bool) → s.classes ≡ classes → (IsTrue made ↔ LeadsUnmakable classes texts entry link)
        → IsTrue made ↔ MakesUnmakable s c instr
    unmakable_by_link classes made same says =
        let own : IsTrue made ↔ LeadsUnmakable s.classes texts entry link =
        subst (λ (w : List ClassRecord). IsTrue made ↔ LeadsUnmakable w texts entry link) (sym same) says in
        (λ t. made_by_link (own.0 t), λ m. own.1 (linked_made m))

-- no such entry, or no such link
pub no_entry : (pool : List PoolEntry) (instr : Instr) → ((i : ℕ) (entry : PoolEntry) → instr.a ≡ pos i → slice_get pool i ≡ Some entry → ⊥)
    → (s : LinkScope) (c : ClassFile) → c.pool ≡ pool → MakesUnmakable s c instr → ⊥
no_entry pool instr none s c same (i, name, class, op, names, (n, here, text), own, means, bad) =
    none i (Entry.Class n) names (subst (λ (w : List PoolEntry). slice_get w i ≡ Some (Entry.Class n)) same here)

pub no_made_link : (links : List Link) (instr : Instr) → ((i : ℕ) (link : Link) → instr.a ≡ pos i → slice_get links i ≡ Some link → ⊥)
    → (s : LinkScope) (c : ClassFile) → AreLinksFor s c links → MakesUnmakable s c instr → ⊥
no_made_link links instr none s c h (i, name, class, op, names, (n, here, text), own, means, bad) =
    let link = item_there links i (omega (arith, slice_get_within c.pool i (Entry.Class n) here, h.as_many)) in
    none i link.0 names link.1

pub other_opcode : (s : LinkScope) (c : ClassFile) (instr : Instr) → instr.op ≢ NEW → MakesUnmakable s c instr → ⊥
other_opcode s c instr other (i, name, class, op, names, stands, own, means, bad) = other op

-- ---- The rule at a member.

module _ (s : LinkScope) (c : ClassFile) (links : List Link) (h : AreLinksFor s c links) (path : List ℕ) (alone : HasNoFault c path) (n : ℕ) where
  -- the name that `new` names is a class's
  named_class : (code : Code) → CodeAt c n code → (instrs : List Instr) → Decodes code.code instrs → (k : ℕ) (x : Instr) → slice_get instrs k ≡ Some x
      → x.op ≡ NEW → (i : ℕ) → x.a ≡ pos i → (name : List ℕ) → ClassAt c.pool i name → IsClassName name
  named_class code at instrs decodes k x there new i names name (m, here, text) =
      let link = item_there links i (omega (arith, slice_get_within c.pool i (Entry.Class m) here, h.as_many)) in
      let (units, t, also, type, leads) = h.each i (Entry.Class m) link.0 here link.1 in
      let same : units ≡ name = one_text c.pool m units name also text in
      elim type [
        | inl own ↦ subst IsClassName same own.0
        | inr array ↦
            let some : 1 ≤ (array.0).dims = omega (arith, array.1) in
            let begins = array_begins name (array.0, some, subst (λ (w : List ℕ). IsFieldText w array.0) same array.2) in
            absurd (alone C15 (Member n) (
              code,
              at,
              inr (inl (
                instrs,
                decodes,
                (
                  k,
                  x,
                  there,
                  inr (inr (inr (inl (name, (i, names, (m, here, text)), inl (new, begins))))),
                ),
              )),
            ))
      ]

  breaks_plainly : HasCode (HasInstr (λ instr. PutsFinal s c instr ⊎ MakesWhatItMayNot s c instr)) c n → HasCode (HasInstr (BreaksAccess s c)) c n
  breaks_plainly (code, at, (instrs, decodes, (k, x, there, inl puts))) = (code, at, (instrs, decodes, (k, x, there, inl puts)))
  breaks_plainly (code, at, (instrs, decodes, (k, x, there, inr (i, name, class, r, new, names, stands, means, is, bad)))) =
      let own = named_class code at instrs decodes k x there new i names name stands in
      (code, at, (instrs, decodes, (k, x, there, inr (i, name, class, new, names, stands, own, means, (r, is, bad)))))

  plainly_breaks : HasCode (HasInstr (BreaksAccess s c)) c n → HasCode (HasInstr (λ instr. PutsFinal s c instr ⊎ MakesWhatItMayNot s c instr)) c n
  plainly_breaks (code, at, (instrs, decodes, (k, x, there, inl puts))) = (code, at, (instrs, decodes, (k, x, there, inl puts)))
  plainly_breaks (code, at, (instrs, decodes, (k, x, there, inr (i, name, class, new, names, stands, own, means, (r, is, bad))))) =
      (code, at, (instrs, decodes, (k, x, there, inr (i, name, class, r, new, names, stands, means, is, bad))))

  pub access_member : IsAccessRefused s c (Member n) ↔ HasCode (HasInstr (BreaksAccess s c)) c n
  access_member = (breaks_plainly, plainly_breaks)
