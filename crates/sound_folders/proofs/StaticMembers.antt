-- In a folder that breaks no rule, what invokestatic calls is static, and so is what getstatic reads.
use Rattle.std.proofs.Common.{◌≡◌, ℕ, pos, ◌+◌, ◌⊎◌, inl, inr, IsTrue, List, length, Some, slice_get, Contains, refl, sym, subst, ◌∙◌, arith}
use Rattle.std.specs.Prelude.{◌||◌, not}
use Rattle.std.proofs.lemmas.Bool.{cases_Bool}
use Rattle.std.proofs.lemmas.Option.{slice_get_within}
use Rattle.list_lemmas.proofs.ItemsOfLists.{Contains-at, place_of}
use Rattle.list_lemmas.proofs.ItemsByPlace.{item_there}
use Rattle.list_lemmas.proofs.TestsAndOrders.{both_true}
use Rattle.jk_model.specs.Flags.{ABSTRACT, NATIVE, STATIC, has}
use Rattle.jk_model.specs.declared.class_file.MemberInfo.{MemberInfo}
use Rattle.jk_model.specs.declared.identifiers.ClassId.{ClassId}
use Rattle.jk_model.specs.declared.identifiers.MemberId.{MemberId}
use Rattle.jk_model.specs.declared.instructions.Instr.{Instr}
use Rattle.jk_model.specs.declared.output.Rule.TheVariants.{C20}
use Rattle.jk_model_classes.specs.declared.records.Body.TheVariants as Does
use Rattle.jk_model_classes.specs.declared.records.ClassRecord.{ClassRecord}
use Rattle.jk_model_classes.specs.declared.records.FieldRecord.{FieldRecord}
use Rattle.jk_model_classes.specs.declared.records.Link.TheVariants as To
use Rattle.jk_model_classes.specs.declared.records.LinkedCode.{LinkedCode}
use Rattle.jk_model_classes.specs.declared.records.MethodRecord.{MethodRecord}
use Rattle.jk_model_classes.specs.declared.sharing.Offer.{Offer}
use Rattle.jk_model_classes.specs.declared.sharing.Stub.{Stub}
use Rattle.jk_model_classes.specs.ClassFlags.{MethodFlags}
use Rattle.jk_model_classes.specs.Items.{Member}
use Rattle.jk_model_classes.specs.LinkRules.{FindsWrongField, FindsWrongMethod, LinkScope, is_static_access}
use Rattle.jk_model_classes.specs.Lookups.{FieldIs, MethodIs}
use Rattle.jk_model_classes.specs.MemberCode.{HasCode, HasInstr, is_jump, is_switch}
use Rattle.jk_model_classes.specs.Worlds.{NamedClass, WorldRecord}
use Rattle.class_lemmas.proofs.CodeOfMethods.{same_code, absent_has_none}
use Rattle.jk_model_typing.specs.Scopes.{is_static}
use Rattle.jk_model_folders.specs.declared.files.FolderFiles.{FolderFiles}
use Rattle.jk_model_folders.specs.FolderRules.{link_scope, placed_rules}
use Rattle.jk_model_folders.specs.LinkedClasses.{IsBodyFor}
use Rattle.jk_model_folders.specs.Loads.{Loads}
use Rattle.class_growth.proofs.LinksDontMatter.{field-linked, method-linked}
use Rattle.sound_folders.proofs.ArraysHaveNoNames.{not_native}
use Rattle.sound_folders.proofs.FoundByLinks.{field-found, method-found, only_links}
use Rattle.sound_folders.proofs.NewClasses.{OwnFile, all}

module _ {f : FolderFiles} {w : WorldRecord} {into : List ℕ} {first : ClassId} {table : List NamedClass} {offers : List Offer} {stubs : List Stub}
    {new : WorldRecord} (l : Loads f w into first table offers stubs new) (k : ℕ) (r : ClassRecord)
    (own : OwnFile (length w.classes) l.files l.placed k r) where
  abbrev self : ClassId
  self = record { 0 = length w.classes + k }

  abbrev s : LinkScope
  s = link_scope l.placed self

  -- ---- The instruction of the file, from one of the record.

  module _ (j : ℕ) (method : MethodRecord) (at : slice_get r.methods j ≡ Some method) (code : LinkedCode) (body : method.body ≡ Does.Linked code)
      (i : Instr) (on : Contains code.instrs i) (plain : IsTrue (not (is_jump i.op || is_switch i.op))) where
    abbrev number : ℕ
    number = length own.file.fields + j + 1

    info : (x : MemberInfo) × (slice_get own.file.methods j ≡ Some x)
    info = item_there own.file.methods j (omega (arith, slice_get_within r.methods j method at, own.is_record.methods.as_many))

    own_code : (P : Instr → Type 0) → ((x : Instr) → x.op ≡ i.op → x.a ≡ i.a → P x) → (flags : ℕ) → MethodFlags own.file info.0 flags
        → IsBodyFor s own.file info.0 flags method.body → HasCode (HasInstr P) own.file number
    own_code P so flags counted (inl (abstract, absent)) = absurd (absent_has_none code (sym absent ∙ body))
    own_code P so flags counted (inr (concrete, (a, of, made, there, called, layout, is, is_made))) =
        let same : made ≡ code = same_code made code (sym is_made ∙ body) in
        let place = place_of code.instrs i on in
        let here : slice_get made.instrs place.0 ≡ Some i = subst (λ (x : LinkedCode). slice_get x.instrs place.0 ≡ Some i) (sym same) place.1 in
        let decoded = item_there is.decoded place.0 (omega (arith, slice_get_within made.instrs place.0 i here, is.instrs.as_many)) in
        let instr = is.instrs.each place.0 decoded.0 i decoded.1 here in
        let simple : IsTrue (not (is_jump decoded.0.op || is_switch decoded.0.op)) =
        subst (λ (o : ℕ). IsTrue (not (is_jump o || is_switch o))) instr.op plain in
        let listed = place_of info.0.attributes a there in
        let own_flags : IsTrue (not (has flags NATIVE)) =
        elim (cases_Bool (has flags NATIVE)) [
          | inl native ↦
              absurd (not_native l own.place own.file own.listed (Member number) (info.0, flags, (j, refl, info.1), counted, native))
          | inr other ↦ rw other refl
        ] in (
          of,
          record {
            method = info.0;
            at = (j, refl, info.1);
            flags = flags;
            counted = counted;
            concrete = both_true (not (has flags ABSTRACT)) (not (has flags NATIVE)) concrete own_flags;
            body = (listed.0, a, listed.1, (called, layout));
          },
          (is.decoded, is.decodes, (place.0, decoded.0, decoded.1, so decoded.0 (sym instr.op) (sym (instr.names simple)))),
        )

    no_wrong : ((x : Instr) → x.op ≡ i.op → x.a ≡ i.a → FindsWrongField s own.file x ⊎ FindsWrongMethod s own.file x) → ⊥
    no_wrong so =
        let is = own.is_record.methods.each j info.0 method info.1 at in
        l.none_placed C20 own.place (Member number) (Contains-at placed_rules 0 C20 refl) (
          own.file,
          self,
          own.listed,
          (k, own.ordered, refl),
          own_code (λ (x : Instr). FindsWrongField s own.file x ⊎ FindsWrongMethod s own.file x) so method.flags is.flags is.body,
        )

  -- ---- What it finds.

  module _ (j : ℕ) (method : MethodRecord) (at : slice_get r.methods j ≡ Some method) (code : LinkedCode) (body : method.body ≡ Does.Linked code)
      (i : Instr) (on : Contains code.instrs i) (n : ℕ) (operand : i.a ≡ pos n) (class : ClassId) (m : MemberId) where
    pub calls_static : i.op ≡ 0xb8 → slice_get r.links n ≡ Some (To.Method class m) → (called : MethodRecord) → MethodIs (all l) m called
        → IsTrue (is_static called)
    calls_static op leads called is = elim (cases_Bool (has called.flags STATIC)) [
      | inl static ↦ static
      | inr other ↦
          let found = method-found s own.file r.links own.links n class m leads in
          let plain : IsTrue (not (is_jump i.op || is_switch i.op)) =
          subst (λ (o : ℕ). IsTrue (not (is_jump o || is_switch o))) (sym op) refl in
          let unlinked = method-linked (all l) l.placed.unlinked (sym (only_links l)) m called is in
          let never : IsTrue (not (has called.flags STATIC)) = rw other refl in
          absurd (no_wrong j method at code body i on plain
          (λ x same_op same_a. inr (m, called, (n, same_a ∙ operand, found.0, unlinked), inl (same_op ∙ op, never))))
    ]

    pub reads_static : i.op ≡ 0xb2 → slice_get r.links n ≡ Some (To.Field class m) → (field : FieldRecord) → FieldIs (all l) m field
        → IsTrue (has field.flags STATIC)
    reads_static op leads field is = elim (cases_Bool (has field.flags STATIC)) [
      | inl static ↦ static
      | inr other ↦
          let found = field-found s own.file r.links own.links n class m leads in
          let plain : IsTrue (not (is_jump i.op || is_switch i.op)) =
          subst (λ (o : ℕ). IsTrue (not (is_jump o || is_switch o))) (sym op) refl in
          let unlinked = field-linked (all l) l.placed.unlinked (sym (only_links l)) m field is in
          let never : IsTrue (not (has field.flags STATIC)) = rw other refl in
          absurd (no_wrong j method at code body i on plain
          (λ x same_op same_a. inl (
            m,
            field,
            (n, same_a ∙ operand, found.0, unlinked),
            inl (subst (λ (o : ℕ). IsTrue (is_static_access o)) (sym (same_op ∙ op)) refl, never),
          )))
    ]
