-- The linked code of a folder's class is as short as the code of its file.
use Rattle.std.proofs.Common.{◌≡◌, ℕ, ◌<◌, ◌^◌, List, [], ◌∷◌, length, inl, inr, sym, subst, ◌∙◌, arith}
use Rattle.std.proofs.lemmas.Option.{same_Some, slice_get_within}
use Rattle.list_lemmas.proofs.ItemsByPlace.{item_there}
use Rattle.jk_model.specs.declared.class_file.ClassFile.{ClassFile}
use Rattle.jk_model.specs.declared.class_file.MemberInfo.{MemberInfo}
use Rattle.jk_model.specs.declared.identifiers.ClassId.{ClassId}
use Rattle.jk_model.specs.declared.identifiers.DomainId.{DomainId}
use Rattle.jk_model.specs.declared.instructions.Instr.{Instr}
use Rattle.jk_model.specs.Instructions.{IsInstr}
use Rattle.jk_model_classes.specs.declared.records.Body.{Body}
use Rattle.jk_model_classes.specs.declared.records.Body.TheVariants as Does
use Rattle.jk_model_classes.specs.declared.records.ClassRecord.{ClassRecord}
use Rattle.jk_model_classes.specs.declared.records.LinkedCode.{LinkedCode}
use Rattle.jk_model_classes.specs.LinkRules.{LinkScope}
use Rattle.model_lemmas.proofs.PlacesOfInstrs.{as_many}
use Rattle.jk_model_folders.specs.ClassOrder.{IsClassOrder}
use Rattle.jk_model_folders.specs.LinkedClasses.{IsBodyFor, IsRecordFor}
use Rattle.placed_rules.specs.Codes.{AreShort, AreShortFrom}
use Rattle.placed_rules.specs.PlacedFaults.{AreRecorded}

-- an instruction has a byte
begins : (at : ℕ) (bytes : List ℕ) (i : Instr) → IsInstr at bytes i → 0 < length bytes
begins at [] i h = absurd h
begins at (op ∷ operands) i h = omega arith

body_short : (s : LinkScope) (c : ClassFile) (info : MemberInfo) (flags : ℕ) (body : Body) (code : LinkedCode) → IsBodyFor s c info flags body
    → body ≡ Does.Linked code → length code.instrs < 2 ^ 16
body_short s c info flags body code (inl absent) is =
    let both : Does.Absent ≡ Does.Linked code = sym absent.1 ∙ is in
    absurd cc
body_short s c info flags body code (inr (concrete, (a, decoded, linked, has, of_code, layout, is_linked, body_is))) is =
    let both : Does.Linked linked ≡ Does.Linked code = sym body_is ∙ is in
    let same : linked ≡ code = cc in
    let short = as_many 0 decoded.code is_linked.decoded is_linked.decodes in
    let as_many : length code.instrs ≡ length is_linked.decoded =
    subst (λ (x : LinkedCode). length x.instrs ≡ length is_linked.decoded) same is_linked.instrs.as_many in
    omega (arith, short, as_many, layout.code.1)

record_short : (s : LinkScope) (home : DomainId) (c : ClassFile) (r : ClassRecord) → IsRecordFor s home c r → AreShort r.methods
record_short s home c r h i method at code is =
    let inside = slice_get_within r.methods i method at in
    let info = item_there c.methods i (omega (arith, inside, h.methods.as_many)) in
    let of_info = h.methods.each i info.0 method info.1 at in
    body_short s c info.0 method.flags method.body code of_info.body is

pub short_from : (classes : List ClassRecord) (first : ClassId) (order : List ℕ) (cs : List ClassFile) → IsClassOrder cs order
    → AreRecorded classes first order cs → AreShortFrom classes first (length order)
short_from classes first order cs ordered recorded k r below known =
    let i = item_there order k below in
    let c = item_there cs i.0 (ordered.places k i.0 i.1) in
    let own = recorded.each k i.0 c.0 i.1 c.1 in
    let same : own.2 ≡ r = same_Some own.2 r (sym own.3 ∙ known) in
    subst (λ (x : ClassRecord). AreShort x.methods) same (record_short own.0 own.1 c.0 own.2 own.4)
