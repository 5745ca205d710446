-- A method of a class file has an instruction that is so where the method of the record has one.
use Rattle.std.proofs.Common.{◌≡◌, ℕ, ◌+◌, ◌<◌, inl, inr, ◌↔◌, Bool, true, IsTrue, List, ◌++◌, length, Some, None, refl, sym, ap, subst, ◌∙◌, append_assoc, arith}
use Rattle.std.specs.Prelude.{◌&&◌, ◌||◌, not, slice_get}
use Rattle.std.proofs.lemmas.Bool.{and_parts, cases_Bool, cases_order}
use Rattle.std.proofs.lemmas.Option.{same_Some, slice_get_within}
use Rattle.list_lemmas.proofs.EndsOfLists.{cancel}
use Rattle.list_lemmas.proofs.ItemsByPlace.{item_there}
use Rattle.list_lemmas.proofs.ItemsOfLists.{place_of}
use Rattle.jk_model.specs.declared.class_file.Attribute.{Attribute}
use Rattle.jk_model.specs.declared.class_file.ClassFile.{ClassFile}
use Rattle.jk_model.specs.declared.class_file.Code.{Code}
use Rattle.jk_model.specs.declared.class_file.MemberInfo.{MemberInfo}
use Rattle.jk_model.specs.declared.identifiers.DomainId.{DomainId}
use Rattle.jk_model.specs.declared.instructions.Instr.{Instr}
use Rattle.jk_model.specs.declared.output.Rule.TheVariants.{C13, C9}
use Rattle.jk_model.specs.ClassFile.{CodeLayout, attributes_bytes, handlers_bytes, u2, u4}
use Rattle.jk_model.specs.Flags.{ABSTRACT, NATIVE, has}
use Rattle.jk_model.specs.Instructions.{Decodes}
use Rattle.jk_model_classes.specs.declared.records.Body.{Body}
use Rattle.jk_model_classes.specs.declared.records.ClassRecord.{ClassRecord}
use Rattle.jk_model_classes.specs.declared.records.Link.{Link}
use Rattle.jk_model_classes.specs.declared.records.MethodRecord.{MethodRecord}
use Rattle.jk_model_classes.specs.Classes.{record_of}
use Rattle.jk_model_classes.specs.ClassFlags.{MethodFlags}
use Rattle.jk_model_classes.specs.Items.{Entry, HasItem, HasTwoItems, IsBefore, Member, MethodAt, Spot}
use Rattle.jk_model_classes.specs.LinkRules.{LinkScope}
use Rattle.jk_model_classes.specs.MemberAttributes.{IsCodeAttribute}
use Rattle.jk_model_classes.specs.MemberCode.{HasCode, HasInstr, is_jump, is_switch}
use Rattle.jk_model_classes.specs.OneClassRules.{HasNoFault}
use Rattle.jk_model_folders.specs.LinkedClasses.{GoAlong, IsBodyFor, IsInstrFor, IsRecordFor}
use Rattle.class_lemmas.proofs.OneRecord.{one_flags}
use Rattle.byte_fields.specs.OneReading.{one_u4}
use Rattle.link_rules.specs.FinalMethods.{IsFirstPlace}
use Rattle.one_verdict.proofs.OneDecoding.{one_decoding}
use Rattle.link_rules.specs.LinkedInstrs.{BodyHas, HasLinkedInstr}
use Rattle.link_rules.specs.LinkFaults.{IsLeastNumber, IsLinked}

-- ---- A body is of one code.

in_a_row : (a b c d e f : List ℕ) → a ++ b ++ c ++ d ++ e ++ f ≡ a ++ (b ++ (c ++ (d ++ (e ++ f))))
in_a_row a b c d e f = simp append_assoc

one_code : (body : List ℕ) (c d : Code) → CodeLayout body c → CodeLayout body d → c.code ≡ d.code
one_code body c d h k =
    let left = in_a_row (u2 c.max_stack) (u2 c.max_locals) (u4 (length c.code)) c.code (handlers_bytes c.handlers) (attributes_bytes c.attributes) in
    let right = in_a_row (u2 d.max_stack) (u2 d.max_locals) (u4 (length d.code)) d.code (handlers_bytes d.handlers) (attributes_bytes d.attributes) in
    let stack = cancel (u2 c.max_stack) (u2 d.max_stack) _ _ refl (sym left ∙ sym h.sections ∙ k.sections ∙ right) in
    let locals = cancel (u2 c.max_locals) (u2 d.max_locals) _ _ refl stack.1 in
    let long = one_u4 (length c.code) (length d.code) _ _ (omega (arith, h.code.1)) (omega (arith, k.code.1)) locals.1 in
    (cancel c.code d.code _ _ long.0 long.1).0

pub own_record : (s : LinkScope) (c : ClassFile) (links : List Link) (h : IsLinked s c links) (r : ClassRecord) → record_of s.classes s.self ≡ Some r
    → IsRecordFor s h.home c r
own_record s c links h r at = subst (λ (w : ClassRecord). IsRecordFor s h.home c w) (same_Some h.class r (sym h.class_is ∙ at)) h.record_is

-- ---- What an instruction does is told by its opcode and its first operand, and no jump or switch does it.

pub record IsTold (P : Instr → Type 0) : Type 0 where
  pub alike : (x y : Instr) → x.op ≡ y.op → x.a ≡ y.a → P x → P y
  pub plain : (x : Instr) → P x → IsTrue (not (is_jump x.op || is_switch x.op))

module _ (P : Instr → Type 0) (told : IsTold P) where
  alike_item : (code : List ℕ) (us vs : List Instr) → Decodes code us → Decodes code vs → HasItem P us → HasItem P vs
  alike_item code us vs h k (i, u, at, p) =
      (i, u, subst (λ (l : List Instr). slice_get l i ≡ Some u) (one_decoding code us vs h k) at, p)

  decoded_item : (decoded linked : List Instr) → GoAlong (IsInstrFor decoded) decoded linked → HasItem P linked → HasItem P decoded
  decoded_item decoded linked along (k, x, at, p) =
      let d = item_there decoded k (omega (arith, slice_get_within linked k x at, along.as_many)) in
      let is = along.each k d.0 x d.1 at in
      let plain : IsTrue (not (is_jump d.0.op || is_switch d.0.op)) =
      subst (λ (o : ℕ). IsTrue (not (is_jump o || is_switch o))) is.op (told.plain x p) in
      (k, d.0, d.1, told.alike x d.0 is.op (is.names plain) p)

  linked_item : (decoded linked : List Instr) → GoAlong (IsInstrFor decoded) decoded linked → HasItem P decoded → HasItem P linked
  linked_item decoded linked along (k, d, at, p) =
      let x = item_there linked k (omega (arith, slice_get_within decoded k d at, along.as_many)) in
      let is = along.each k d x.0 at x.1 in
      (k, x.0, x.1, told.alike d x.0 (sym is.op) (sym (is.names (told.plain d p))) p)

  -- ---- A method of a class that breaks no rule alone.

  module _ (s : LinkScope) (c : ClassFile) (path : List ℕ) (alone : HasNoFault c path) (n : ℕ) (info : MemberInfo) (at : MethodAt c n info) where
    not_native : (flags : ℕ) → MethodFlags c info flags → IsTrue (not (has flags NATIVE))
    not_native flags counted =
        elim (cases_Bool (has flags NATIVE)) [
          | inl native ↦ absurd (alone C13 (Member n) (info, flags, at, counted, native))
          | inr plain ↦ rw plain refl
        ]

    both_tests : (a b : Bool) → IsTrue a → IsTrue b → IsTrue (a && b)
    both_tests a b x y = rw (x, y) refl

    code_of_body : (flags : ℕ) (body : Body) → MethodFlags c info flags → IsBodyFor s c info flags body → BodyHas P body → HasCode (HasInstr P) c n
    code_of_body flags body counted (inl (abstract, none)) h = absurd (subst (BodyHas P) none h)
    code_of_body flags body counted (inr (concrete, (a, code, linked, there, called, layout, is, e))) h =
        let (j, listed) = place_of info.attributes a there in (
          code,
          record {
            method = info;
            at = at;
            flags = flags;
            counted = counted;
            concrete = both_tests (not (has flags ABSTRACT)) (not (has flags NATIVE)) concrete (not_native flags counted);
            body = (j, a, listed, (called, layout));
          },
          (is.decoded, is.decodes, decoded_item is.decoded linked.instrs is.instrs (subst (BodyHas P) e h)),
        )

    one_attribute : (flags : ℕ) → MethodFlags c info flags → IsTrue (not (has flags ABSTRACT)) → IsTrue (not (has flags NATIVE)) → (i j : ℕ) (a b : Attribute)
        → slice_get info.attributes i ≡ Some a → slice_get info.attributes j ≡ Some b → IsCodeAttribute c.pool a → IsCodeAttribute c.pool b → a ≡ b
    one_attribute flags counted concrete own i j a b there also called is =
        elim (cases_order i j) [
          | inl same ↦ same_Some a b (sym there ∙ ap (slice_get info.attributes) same ∙ also)
          | inr differ ↦ elim differ [
            | inl before ↦ absurd (two (i, j, a, b, before, there, also, called, is))
            | inr after ↦ absurd (two (j, i, b, a, after, also, there, is, called))
          ]
        ]
      where
        two : HasTwoItems (IsCodeAttribute c.pool) info.attributes → ⊥
        two both = alone C9 (Member n) (inr (inr (info, at, inr (inl (flags, counted, inl (concrete, own, inr both))))))

    body_of_code : (code : Code) (flags : ℕ) (body : Body) → MethodFlags c info flags → IsBodyFor s c info flags body
        → IsTrue (not (has flags ABSTRACT)) → IsTrue (not (has flags NATIVE))
        → HasItem (λ (a : Attribute). IsCodeAttribute c.pool a × CodeLayout a.body code) info.attributes → HasInstr P code → BodyHas P body
    body_of_code code flags body counted (inl (abstract, none)) concrete own of h =
        let no : IsTrue (not true) = subst (λ (b : Bool). IsTrue (not b)) abstract concrete in absurd cc
    body_of_code code flags body counted (inr (too, (a, mine, linked, there, called, layout, is, e))) concrete own (i, b, listed, (also, laid))
        (instrs, decodes, item) =
        let (j, placed_a) = place_of info.attributes a there in
        let same : a ≡ b = one_attribute flags counted concrete own j i a b placed_a listed called also in
        let one : code.code ≡ mine.code = one_code b.body code mine laid (subst (λ (w : Attribute). CodeLayout w.body mine) same layout) in
        let decoded : HasItem P is.decoded =
        alike_item mine.code instrs is.decoded (subst (λ (w : List ℕ). Decodes w instrs) one decodes) is.decodes item in
        subst (BodyHas P) (sym e) (linked_item is.decoded linked.instrs is.instrs decoded)

  -- ---- All methods.

  module _ (s : LinkScope) (c : ClassFile) (path : List ℕ) (alone : HasNoFault c path) (home : DomainId) (r : ClassRecord) (is : IsRecordFor s home c r) where
    method_breaks : (i : ℕ) (method : MethodRecord) → slice_get r.methods i ≡ Some method → HasLinkedInstr P method
        → HasCode (HasInstr P) c (length r.fields + i + 1)
    method_breaks i method there h =
        let info = item_there c.methods i (omega (arith, slice_get_within r.methods i method there, is.methods.as_many)) in
        let m = is.methods.each i info.0 method info.1 there in
        let number : length r.fields + i + 1 ≡ length c.fields + i + 1 = omega (arith, is.fields.as_many) in
        code_of_body s c path alone (length r.fields + i + 1) info.0 (i, number, info.1) method.flags method.body m.flags m.body h

    breaking_method : (n : ℕ) → HasCode (HasInstr P) c n
        → (i : ℕ) × (method : MethodRecord) × (n ≡ length r.fields + i + 1) × (slice_get r.methods i ≡ Some method) × HasLinkedInstr P method
    breaking_method n (code, at, h) =
        let (i, number, there) = at.at in
        let method = item_there r.methods i (omega (arith, slice_get_within c.methods i at.method there, is.methods.as_many)) in
        let m = is.methods.each i at.method method.0 there method.1 in
        let flags : at.flags ≡ method.0.flags = one_flags c at.method at.flags method.0.flags at.counted m.flags in
        let tests = and_parts (not (has at.flags ABSTRACT)) (not (has at.flags NATIVE)) at.concrete in
        let body = body_of_code s c path alone n at.method at.at code method.0.flags method.0.body m.flags m.body
        (subst (λ (f : ℕ). IsTrue (not (has f ABSTRACT))) flags tests.0) (subst (λ (f : ℕ). IsTrue (not (has f NATIVE))) flags tests.1) at.body h in
        (i, method.0, omega (arith, is.fields.as_many, number), method.1, body)

    -- ---- The least number, of a rule that such methods break.

    module _ (Broken : Spot → Type 0) (members : (n : ℕ) → Broken (Member n) ↔ HasCode (HasInstr P) c n) where
      none_before : (i : ℕ) → IsFirstPlace (HasLinkedInstr P) r.methods (Some i) → (other : Spot) → IsBefore other (Member (length r.fields + i + 1))
          → Broken other → ⊥
      none_before i first (Member m) low b =
          let (j, method, number, there, h) = breaking_method m ((members m).0 b) in
          first.1 (j, method, omega (arith, number, low), there, h)
      none_before i first (Entry j) low b = low

      pub least_member : (i : ℕ) → IsFirstPlace (HasLinkedInstr P) r.methods (Some i) → IsLeastNumber Broken (Some (length r.fields + i + 1))
      least_member i first =
          let (method, there, h) = first.0 in
          (Member (length r.fields + i + 1), (members (length r.fields + i + 1)).1 (method_breaks i method there h), none_before i first, refl)

      no_member : IsFirstPlace (HasLinkedInstr P) r.methods None → (n : ℕ) → Broken (Member n) → ⊥
      no_member none n b =
          let (j, method, number, there, h) = breaking_method n ((members n).0 b) in
          none (j, method, there, h)

      entries_before : (i : ℕ) → IsFirstPlace (HasLinkedInstr P) r.methods None → ((j : ℕ) → j < i → Broken (Entry j) → ⊥) → (other : Spot)
          → IsBefore other (Entry i) → Broken other → ⊥
      entries_before i none before (Member m) low b = no_member none m b
      entries_before i none before (Entry j) low b = before j low b

      pub least_entry : (i : ℕ) → IsFirstPlace (HasLinkedInstr P) r.methods None → Broken (Entry i) → ((j : ℕ) → j < i → Broken (Entry j) → ⊥)
          → IsLeastNumber Broken (Some i)
      least_entry i none b before = (Entry i, b, entries_before i none before, refl)

      pub nowhere : IsFirstPlace (HasLinkedInstr P) r.methods None → ((i : ℕ) → Broken (Entry i) → ⊥) → IsLeastNumber Broken None
      nowhere none never (Member n) b = no_member none n b
      nowhere none never (Entry i) b = never i b

-- ---- A place found is one of a method.

pub place_within : (P : MethodRecord → Type 0) (methods : List MethodRecord) (i : ℕ) → IsFirstPlace P methods (Some i) → i < length methods
place_within P methods i first = let (method, there, h) = first.0 in slice_get_within methods i method there
