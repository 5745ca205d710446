-- A class file that breaks none of the rules on the file alone gives one record, but for its links, by what names mean.
use Rattle.std.proofs.Common.{◌≡◌, ℕ, ◌<◌, inl, inr, Bool, true, false, List, [], length, Option, Some, slice_get, Ok, refl, sym, ◌∙◌, ap, subst, arith}
use Rattle.std.specs.Prelude.{ℤ, pos, ◌||◌, not, IsTrue}
use Rattle.std.proofs.lemmas.Bool.{cases_eq}
use Rattle.std.proofs.lemmas.Option.{same_Some, slice_get_within}
use Rattle.list_lemmas.proofs.ItemsByPlace.{item_there as item_at}
use Rattle.list_lemmas.proofs.ItemsOfLists.{Contains-at as contained}
use Rattle.jk_model.specs.declared.class_file.Attribute.{Attribute}
use Rattle.jk_model.specs.declared.class_file.ClassFile.{ClassFile}
use Rattle.jk_model.specs.declared.class_file.Code.{Code}
use Rattle.jk_model.specs.declared.class_file.Handler.{Handler}
use Rattle.jk_model.specs.declared.class_file.MemberInfo.{MemberInfo}
use Rattle.jk_model.specs.declared.class_file.PoolEntry.{PoolEntry}
use Rattle.jk_model.specs.declared.class_file.PoolEntry.TheVariants as Entry
use Rattle.jk_model.specs.declared.descriptors.FieldType.{FieldType}
use Rattle.jk_model.specs.declared.descriptors.MethodType.{MethodType}
use Rattle.jk_model.specs.declared.identifiers.ClassId.{ClassId}
use Rattle.jk_model.specs.declared.identifiers.DomainId.{DomainId}
use Rattle.jk_model.specs.declared.instructions.Instr.{Instr}
use Rattle.jk_model.specs.declared.instructions.SwitchCase.{SwitchCase}
use Rattle.jk_model.specs.ClassFile.{CodeLayout}
use Rattle.jk_model.specs.Flags.{has, ABSTRACT}
use Rattle.jk_model.specs.Instructions.{Decodes}
use Rattle.jk_model_classes.specs.declared.records.Body.{Body}
use Rattle.jk_model_classes.specs.declared.records.Caught.{Caught}
use Rattle.jk_model_classes.specs.declared.records.ClassRecord.{ClassRecord}
use Rattle.jk_model_classes.specs.declared.records.FieldRecord.{FieldRecord}
use Rattle.jk_model_classes.specs.declared.records.Link.{Link}
use Rattle.jk_model_classes.specs.declared.records.LinkedCode.{LinkedCode}
use Rattle.jk_model_classes.specs.declared.records.MethodRecord.{MethodRecord}
use Rattle.jk_model_classes.specs.declared.records.TypeRef.{TypeRef}
use Rattle.jk_model_classes.specs.ClassFlags.{MethodFlags}
use Rattle.jk_model_classes.specs.LinkRules.{LinkScope}
use Rattle.jk_model_classes.specs.MemberCode.{is_jump, is_switch}
use Rattle.jk_model_classes.specs.SystemRecords.{AreTypesFor, IsResultFor, IsTypeFor}
use Rattle.jk_model_folders.specs.LinkedClasses.{AreReferences, GoAlong, IsBodyFor, IsCaseFor, IsCaughtFor, IsConstantFrom, IsConstantOfField, IsEndFor, IsFieldFor, IsInstrFor, IsLinkedCode, IsMethodFor, IsPlaceOf, IsRecordFor, NamesClassAt, without_links}
use Rattle.class_lemmas.proofs.OneMember.{one_type}
use Rattle.class_lemmas.proofs.OneRecord.{one_flags}
use Rattle.class_lemmas.proofs.OneText.{one_text, one_class}
use Rattle.class_reader.proofs.OneCodeBody.{only as only_code}
use Rattle.one_verdict.proofs.OneAttribute.{IsJudged, one_code_attribute, one_entry}
use Rattle.one_verdict.proofs.OneDecoding.{one_decoding}
use Rattle.one_verdict.proofs.OneMember.{one_field_type, one_method_type, one_result}
use Rattle.one_verdict.proofs.PlacesOfInstrs.{none_at_the_end, one_place}
use Rattle.one_verdict.proofs.RisingLists.{IsIn, in_list, list_is, rising_same}

-- ---- Lists that go along with one list.

pub along_is : {X Y : Type 0} (R S : X → Y → Type 0) (xs : List X) (ls bs : List Y) → GoAlong R xs ls → GoAlong S xs bs
    → ((i : ℕ) (x : X) (a b : Y) → slice_get xs i ≡ Some x → R x a → S x b → a ≡ b) → ls ≡ bs
along_is R S xs ls bs h k one =
    list_is ls bs (h.as_many ∙ sym k.as_many) (λ i a b at there.
    let within = slice_get_within ls i a at in
    let x = item_at xs i (omega (arith, within, h.as_many)) in
    one i x.0 a b x.1 (h.each i x.0 a x.1 at) (k.each i x.0 b x.1 there))

types_are : (meaning : List ℕ → Option ClassId) (types : List FieldType) (ls bs : List TypeRef) → AreTypesFor meaning types ls → AreTypesFor meaning types bs
    → ls ≡ bs
types_are meaning types ls bs h k =
    list_is ls bs (h.as_many ∙ sym k.as_many) (λ i a b at there.
    let within = slice_get_within ls i a at in
    let x = item_at types i (omega (arith, within, h.as_many)) in
    one_type meaning x.0 a b (h.each i x.0 a x.1 at) (k.each i x.0 b x.1 there))

-- ---- Fields.

one_constant_from : (pool : List PoolEntry) (kind : TypeRef) (entry : PoolEntry) (a b : Link) → IsConstantFrom pool kind entry a
    → IsConstantFrom pool kind entry b → a ≡ b
one_constant_from pool kind (Entry.Integer n) a b h k = h ∙ sym k
one_constant_from pool kind (Entry.Long n) a b h k = h ∙ sym k
one_constant_from pool kind (Entry.Str text) a b (us, at, e) (vs, there, f) =
    let same : us ≡ vs = one_text pool text us vs at there in
    cc
one_constant_from pool kind _ a b h k = absurd h

module _ (c : ClassFile) (judged : IsJudged c) where
  one_constant : (i : ℕ) (info : MemberInfo) (kind : TypeRef) (a b : Link) → slice_get c.fields i ≡ Some info → IsConstantOfField c.pool info kind a
      → IsConstantOfField c.pool info kind b → a ≡ b
  one_constant i info kind a b at (inl (static, (x, has_x, from_x))) (inl (also, (y, has_y, from_y))) =
      let same : x ≡ y = one_entry c judged i info at static x y has_x has_y in
      one_constant_from c.pool kind y a b (subst (λ (e : PoolEntry). IsConstantFrom c.pool kind e a) same from_x) from_y
  one_constant i info kind a b at (inl (static, (x, has_x, from_x))) (inr (none, e)) = absurd (none static x has_x)
  one_constant i info kind a b at (inr (none, e)) (inl (also, (y, has_y, from_y))) = absurd (none also y has_y)
  one_constant i info kind a b at (inr (none, e)) (inr (never, f)) = e ∙ sym f

-- ---- Instructions and catch entries.

module _ (code : List ℕ) (instrs : List Instr) (decodes : Decodes code instrs) where
  one_operand : (leads : Bool) (z a b : ℤ) → (IsTrue leads → (n : ℕ) × IsPlaceOf instrs z n × (a ≡ pos n)) → (IsTrue (not leads) → a ≡ z)
      → (IsTrue leads → (n : ℕ) × IsPlaceOf instrs z n × (b ≡ pos n)) → (IsTrue (not leads) → b ≡ z) → a ≡ b
  one_operand true z a b h keeps k stays =
      let x = h refl in
      let y = k refl in
      x.2 ∙ ap pos (one_place code instrs decodes z x.0 y.0 x.1 y.1) ∙ sym y.2
  one_operand false z a b h keeps k stays = keeps refl ∙ sym (stays refl)

  one_case : (x a b : SwitchCase) → IsCaseFor instrs x a → IsCaseFor instrs x b → a ≡ b
  one_case x a b (key_a, (m, at_m, is_a)) (key_b, (n, at_n, is_b)) =
      let key : a.key ≡ b.key = key_a ∙ sym key_b in
      let target : a.target ≡ b.target = is_a ∙ ap pos (one_place code instrs decodes x.target m n at_m at_n) ∙ sym is_b in
      λ d. record { key = key d; target = target d }

  one_instr : (x a b : Instr) → IsInstrFor instrs x a → IsInstrFor instrs x b → a ≡ b
  one_instr x a b h k =
      let at : a.at ≡ b.at = h.at ∙ sym k.at in
      let op : a.op ≡ b.op = h.op ∙ sym k.op in
      let first : a.a ≡ b.a = one_operand (is_jump x.op || is_switch x.op) x.a a.a b.a h.leads h.names k.leads k.names in
      let second : a.b ≡ b.b = h.b ∙ sym k.b in
      let cases : a.cases ≡ b.cases =
      along_is (IsCaseFor instrs) (IsCaseFor instrs) x.cases a.cases b.cases h.cases k.cases (λ i y u v there g l. one_case y u v g l) in
      λ d. record { at = at d; op = op d; a = first d; b = second d; cases = cases d }

  one_end : (body : Code) → code ≡ body.code → (end m n : ℕ) → IsEndFor body instrs end m → IsEndFor body instrs end n → m ≡ n
  one_end body own end m n (inl h) (inl k) = one_place code instrs decodes (pos end) m n h k
  one_end body own end m n (inl h) (inr (is, e)) = absurd (none_at_the_end code instrs decodes end m (is ∙ ap length (sym own)) h)
  one_end body own end m n (inr (is, e)) (inl k) = absurd (none_at_the_end code instrs decodes end n (is ∙ ap length (sym own)) k)
  one_end body own end m n (inr (is, e)) (inr (also, f)) = e ∙ sym f

module _ (s t : LinkScope) (same : s.meaning ≡ t.meaning) (c : ClassFile) where
  pub one_named : (i : ℕ) (a b : ClassId) → NamesClassAt s c i a → NamesClassAt t c i b → a ≡ b
  one_named i a b (us, at, means) (vs, there, also) =
      let name : us ≡ vs = one_class c.pool i us vs at there in
      same_Some a b (sym means ∙ (λ d. same d (name d)) ∙ also)

  one_caught : (body : Code) (instrs : List Instr) → Decodes body.code instrs → (h : Handler) (a b : Caught) → IsCaughtFor s c body instrs h a
      → IsCaughtFor t c body instrs h b → a ≡ b
  one_caught body instrs decodes h a b k l =
      let start : a.start ≡ b.start = one_place body.code instrs decodes (pos h.start) a.start b.start k.start l.start in
      let end : a.end ≡ b.end = one_end body.code instrs decodes body refl h.end a.end b.end k.end l.end in
      let handler : a.handler ≡ b.handler = one_place body.code instrs decodes (pos h.handler) a.handler b.handler k.handler l.handler in
      let class : a.class ≡ b.class =
      elim (cases_eq h.catch 0) [
        | inl any ↦ k.any any ∙ sym (l.any any)
        | inr some ↦
            let x = k.class some in
            let y = l.class some in
            x.2 ∙ ap (λ (z : ClassId). Some z) (one_named h.catch x.0 y.0 x.1 y.1) ∙ sym y.2
      ] in
      λ d. record { start = start d; end = end d; handler = handler d; class = class d }

  one_linked : (code : Code) (a b : LinkedCode) → IsLinkedCode s c code a → IsLinkedCode t c code b → a ≡ b
  one_linked code a b h k =
      let stack : a.max_stack ≡ b.max_stack = h.stack ∙ sym k.stack in
      let locals : a.max_locals ≡ b.max_locals = h.locals ∙ sym k.locals in
      let decoded : k.decoded ≡ h.decoded = one_decoding code.code k.decoded h.decoded k.decodes h.decodes in
      let read : GoAlong (IsInstrFor h.decoded) h.decoded b.instrs =
      subst (λ (w : List Instr). GoAlong (IsInstrFor w) w b.instrs) decoded k.instrs in
      let handled : GoAlong (IsCaughtFor t c code h.decoded) code.handlers b.handlers =
      subst (λ (w : List Instr). GoAlong (IsCaughtFor t c code w) code.handlers b.handlers) decoded k.handlers in
      let instrs : a.instrs ≡ b.instrs =
      along_is (IsInstrFor h.decoded) (IsInstrFor h.decoded) h.decoded a.instrs b.instrs h.instrs read
      (λ i x u v there g l. one_instr code.code h.decoded h.decodes x u v g l) in
      let handlers : a.handlers ≡ b.handlers =
      along_is (IsCaughtFor s c code h.decoded) (IsCaughtFor t c code h.decoded) code.handlers a.handlers b.handlers h.handlers handled
      (λ i x u v there g l. one_caught code h.decoded h.decodes x u v g l) in
      λ d. record { max_stack = stack d; max_locals = locals d; instrs = instrs d; handlers = handlers d }

  -- ---- Members.

  module _ (judged : IsJudged c) where
    one_field_record : (i : ℕ) (info : MemberInfo) (a b : FieldRecord) → slice_get c.fields i ≡ Some info → IsFieldFor s c info a → IsFieldFor t c info b
        → a ≡ b
    one_field_record i info a b at h k =
        let name : a.name ≡ b.name = one_text c.pool info.name a.name b.name h.name k.name in
        let flags : a.flags ≡ b.flags = h.flags ∙ sym k.flags in
        let type : h.type ≡ k.type = one_field_type c.pool info.descriptor h.type k.type h.text k.text in
        let own : IsTypeFor t.meaning h.type a.kind = subst (λ (m : List ℕ → Option ClassId). IsTypeFor m h.type a.kind) same h.kind in
        let kind : a.kind ≡ b.kind =
        one_type t.meaning k.type a.kind b.kind (subst (λ (w : FieldType). IsTypeFor t.meaning w a.kind) type own) k.kind in
        let constant : a.constant ≡ b.constant =
        one_constant c judged i info b.kind a.constant b.constant at
        (subst (λ (w : TypeRef). IsConstantOfField c.pool info w a.constant) kind h.constant) k.constant in
        λ d. record { name = name d; flags = flags d; kind = kind d; constant = constant d }

    not_both : (x : Bool) → IsTrue x → IsTrue (not x) → ⊥
    not_both true h k = absurd cc
    not_both false h k = absurd cc

    one_body : (i : ℕ) (info : MemberInfo) (flags : ℕ) (a b : Body) → slice_get c.methods i ≡ Some info → MethodFlags c info flags
        → IsBodyFor s c info flags a → IsBodyFor t c info flags b → a ≡ b
    one_body i info flags a b at counted (inl (abstract, e)) (inl (also, f)) = e ∙ sym f
    one_body i info flags a b at counted (inl (abstract, e)) (inr (concrete, more)) = absurd (not_both (has flags ABSTRACT) abstract concrete)
    one_body i info flags a b at counted (inr (concrete, more)) (inl (abstract, e)) = absurd (not_both (has flags ABSTRACT) abstract concrete)
    one_body i info flags a b at counted (inr (concrete, (x, code, linked, in_x, is_x, laid, links, e)))
        (inr (also, (y, other, bound, in_y, is_y, lies, binds, f))) =
        let attribute : x ≡ y = one_code_attribute c judged i info flags at counted concrete x y in_x in_y is_x is_y in
        let here : CodeLayout y.body code = subst (λ (w : Attribute). CodeLayout w.body code) attribute laid in
        let codes : code ≡ other = only_code y.body (Ok code) other here lies in
        let one : linked ≡ bound = one_linked other linked bound (subst (λ (w : Code). IsLinkedCode s c w linked) codes links) binds in
        cc

    one_method_record : (i : ℕ) (info : MemberInfo) (a b : MethodRecord) → slice_get c.methods i ≡ Some info → IsMethodFor s c info a
        → IsMethodFor t c info b → a ≡ b
    one_method_record i info a b at h k =
        let name : a.name ≡ b.name = one_text c.pool info.name a.name b.name h.name k.name in
        let flags : a.flags ≡ b.flags = one_flags c info a.flags b.flags h.flags k.flags in
        let kind : a.kind ≡ b.kind = one_method_type c.pool info.descriptor a.kind b.kind h.kind k.kind in
        let given : AreTypesFor t.meaning b.kind.params a.params =
        subst (λ (w : MethodType). AreTypesFor t.meaning w.params a.params) kind
        (subst (λ (m : List ℕ → Option ClassId). AreTypesFor m a.kind.params a.params) same h.params) in
        let params : a.params ≡ b.params = types_are t.meaning b.kind.params a.params b.params given k.params in
        let answered : IsResultFor t.meaning b.kind.result a.result =
        subst (λ (w : MethodType). IsResultFor t.meaning w.result a.result) kind
        (subst (λ (m : List ℕ → Option ClassId). IsResultFor m a.kind.result a.result) same h.result) in
        let result : a.result ≡ b.result = one_result t.meaning b.kind.result a.result b.result answered k.result in
        let body : a.body ≡ b.body =
        one_body i info b.flags a.body b.body at k.flags (subst (λ (w : ℕ). IsBodyFor s c info w a.body) flags h.body) k.body in
        λ d. record { name = name d; flags = flags d; kind = kind d; params = params d; result = result d; body = body d }

  -- ---- References.

  one_list_of_references : (ls bs : List ClassId) → AreReferences s c ls → AreReferences t c bs → ls ≡ bs
  one_list_of_references ls bs h k =
      rising_same (λ (x y : ClassId). x.0 < y.0) (λ x y less more. omega (arith, less, more)) ls bs h.rising k.rising into back
    where
      into : (z : ClassId) → IsIn z ls → IsIn z bs
      into z there =
          let refers = h.each z (contained ls there.0 z there.1) in
          in_list bs z (k.all refers.0 refers.1 z refers.2 ((λ d. sym same d refers.1) ∙ refers.3))

      back : (z : ClassId) → IsIn z bs → IsIn z ls
      back z there =
          let refers = k.each z (contained bs there.0 z there.1) in
          in_list ls z (h.all refers.0 refers.1 z refers.2 ((λ d. same d refers.1) ∙ refers.3))

  -- ---- The record.

  pub one_record : IsJudged c → (home : DomainId) (a b : ClassRecord) → IsRecordFor s home c a → IsRecordFor t home c b → without_links a ≡ without_links b
  one_record judged home a b h k =
      let name : a.name ≡ b.name = one_class c.pool c.this_class a.name b.name h.name k.name in
      let at_home : a.home ≡ b.home = h.at_home ∙ sym k.at_home in
      let flags : a.flags ≡ b.flags = h.flags ∙ sym k.flags in
      let parent : a.parent ≡ b.parent =
      h.parent.2 ∙ ap (λ (z : ClassId). Some z) (one_named c.super_class h.parent.0 k.parent.0 h.parent.1 k.parent.1) ∙ sym k.parent.2 in
      let interfaces : a.interfaces ≡ b.interfaces =
      along_is (NamesClassAt s c) (NamesClassAt t c) c.interfaces a.interfaces b.interfaces h.interfaces k.interfaces
      (λ i x u v there g l. one_named x u v g l) in
      let fields : a.fields ≡ b.fields =
      along_is (IsFieldFor s c) (IsFieldFor t c) c.fields a.fields b.fields h.fields k.fields
      (λ i x u v there g l. one_field_record judged i x u v there g l) in
      let methods : a.methods ≡ b.methods =
      along_is (IsMethodFor s c) (IsMethodFor t c) c.methods a.methods b.methods h.methods k.methods
      (λ i x u v there g l. one_method_record judged i x u v there g l) in
      let references : a.references ≡ b.references = one_list_of_references a.references b.references h.references k.references in
      λ d. record {
        name = name d;
        home = at_home d;
        flags = flags d;
        parent = parent d;
        interfaces = interfaces d;
        fields = fields d;
        methods = methods d;
        links = [];
        references = references d;
      }
