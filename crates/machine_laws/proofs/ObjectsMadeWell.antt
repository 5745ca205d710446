-- What C21 asks of the classes of which a new method's instructions make objects.
use Rattle.std.proofs.Common.{◌≡◌, ℕ, zero, suc, pos, ◌<◌, ◌⊎◌, inl, inr, IsTrue, List, [], ◌∷◌, length, Some, slice_get, Contains, refl, sym, ap, subst, ◌∙◌, arith}
use Rattle.std.proofs.lemmas.Bool.{cases_Bool}
use Rattle.std.proofs.lemmas.Option.{same_Some, none-some, slice_get_within}
use Rattle.std.specs.Prelude.{◌||◌, not}
use Rattle.list_lemmas.proofs.ItemsByPlace.{item_there, slice_get-in_take, slice_get-front}
use Rattle.list_lemmas.proofs.ItemsOfLists.{Contains-at}
use Rattle.jk_model.specs.Flags.{has, ABSTRACT, INTERFACE}
use Rattle.jk_model.specs.SystemTable.{SystemMethod, system_classes}
use Rattle.jk_model.specs.declared.identifiers.ClassId.{ClassId}
use Rattle.jk_model.specs.declared.identifiers.MemberId.{MemberId}
use Rattle.jk_model.specs.declared.instructions.Instr.{Instr}
use Rattle.jk_model.specs.declared.opcodes.TheConstants.{NEW}
use Rattle.jk_model_classes.specs.Classes.{record_of}
use Rattle.jk_model_classes.specs.Items.{HasItem}
use Rattle.jk_model_classes.specs.LinkRules.{HasNoConstructor}
use Rattle.jk_model_classes.specs.MemberCode.{is_jump, is_switch}
use Rattle.jk_model_classes.specs.Members.{ClassAt, INIT}
use Rattle.jk_model_classes.specs.Worlds.{NamedClass, WorldRecord}
use Rattle.jk_model_classes.specs.declared.records.ClassRecord.{ClassRecord}
use Rattle.jk_model_classes.specs.declared.records.LinkedCode.{LinkedCode}
use Rattle.jk_model_classes.specs.declared.records.MethodRecord.{MethodRecord}
use Rattle.jk_model_classes.specs.declared.records.TypeRef.{TypeRef}
use Rattle.jk_model_classes.specs.declared.sharing.Offer.{Offer}
use Rattle.jk_model_classes.specs.declared.sharing.Stub.{Stub}
use Rattle.jk_model_typing.specs.FrameTypes.{array_type}
use Rattle.jk_model_folders.specs.Loads.{Loads, MayLoad}
use Rattle.jk_model_folders.specs.declared.files.FolderFiles.{FolderFiles}
use Rattle.class_growth.proofs.LinksDontMatter.{agree-everywhere}
use Rattle.class_growth.proofs.RecordsAgree.{record-there}
use Rattle.system_facts.specs.ClosedClasses.{IsClosedClass}
use Rattle.heap_laws.specs.NamedWell.{MayBeMade}
use Rattle.sound_folders.proofs.FoundByLinks.{type-found, only_links}
use Rattle.sound_folders.proofs.NewClasses.{all, added, meaning, meant_there, system_few}
use Rattle.machine_laws.proofs.InstructionsOfFiles.{accesses_well, own_scope}
use Rattle.machine_laws.proofs.MeaningsOfNames.{system_named}
use Rattle.machine_laws.proofs.NewMembers.{IsNewMethod}
use Rattle.machine_laws.proofs.TypesOfMethods.{text_or_not}
use Rattle.jk_model_classes.specs.declared.records.BaseRef.TheVariants as Base
use Rattle.jk_model_classes.specs.declared.records.Body.TheVariants as Does
use Rattle.jk_model_classes.specs.declared.records.Link.TheVariants as To

abbrev HasInit : List SystemMethod → Type 0
HasInit methods = HasItem (λ (m : SystemMethod). m.name ≡ INIT) methods

later : (x : SystemMethod) (methods : List SystemMethod) → (x.name ≡ INIT → ⊥) → (HasInit methods → ⊥) → HasInit (x ∷ methods) → ⊥
later x methods differ none (zero, e, at, named) = differ (ap (λ (y : SystemMethod). y.name) (same_Some x e at) ∙ named)
later x methods differ none (suc j, e, at, named) = none (j, e, at, named)

init_or_not : (methods : List SystemMethod) → HasInit methods ⊎ (HasInit methods → ⊥)
init_or_not [] = inr (λ (j, e, at, named). none-some e at)
init_or_not (x ∷ methods) = elim (text_or_not x.name INIT) [
  | inl is ↦ inl (0, x, refl, is)
  | inr differ ↦ elim (init_or_not methods) [
    | inl (j, e, at, named) ↦ inl (suc j, e, at, named)
    | inr none ↦ inr (later x methods differ none)
  ]
]

same_base : (c d : ClassId) → Base.Class c ≡ Base.Class d → d ≡ c
same_base c d e = cc

module _ {f : FolderFiles} {w : WorldRecord} {into : List ℕ} {first : ClassId} {table : List NamedClass} {offers : List Offer} {stubs : List Stub}
    {new : WorldRecord} (l : Loads f w into first table offers stubs new) (may : MayLoad w) (m : MemberId)
    (method : MethodRecord) (n : IsNewMethod l m method) (code : LinkedCode) (body : method.body ≡ Does.Linked code) (i : Instr)
    (on : Contains code.instrs i) (index : ℕ) (operand : i.a ≡ pos index) (c : ClassId)
    (leads : slice_get n.class.links index ≡ Some (To.Class (array_type 0 (Base.Class c)))) (op : i.op ≡ NEW) where
  named : (name : List ℕ) × ClassAt n.of.own.file.pool index name × (meaning l name ≡ Some c)
  named =
      let (units, at, is) = type-found (own_scope l m method n) n.of.own.file n.class.links n.of.own.links index (array_type 0 (Base.Class c)) leads in
      elim is [
        | inl (simple, (class, meant, e)) ↦ (units, at, meant ∙ ap Some (same_base c class (ap (λ (t : TypeRef). t.base) e)))
        | inr (type, dims, text, fits) ↦ absurd (dims (sym fits.0))
      ]

  there : (q : ClassRecord) × (record_of (all l) c ≡ Some q)
  there = item_there (all l) c.0 (meant_there l may named.0 c named.2)

  unlinked_too : (u : ClassRecord) × (record_of l.placed.unlinked c ≡ Some u) × (there.0.flags ≡ u.flags)
  unlinked_too =
      let u = record-there (all l) l.placed.unlinked c (agree-everywhere (all l) l.placed.unlinked (sym (only_links l)) c) there.0 there.1 in
      (u.0, u.1, ap (λ (r : ClassRecord). r.flags) u.2)

  no_fault : IsTrue (has unlinked_too.0.flags INTERFACE) ⊎ IsTrue (has unlinked_too.0.flags ABSTRACT) ⊎ HasNoConstructor named.0 → ⊥
  no_fault bad =
      accesses_well l m method n code body i on (subst (λ (o : ℕ). IsTrue (not (is_jump o || is_switch o))) (sym op) refl)
      (λ x same_op same_a. inr (index, named.0, c, unlinked_too.0, same_op ∙ op, same_a ∙ operand, named.1, named.2, unlinked_too.1, bad))

  constructed : IsClosedClass c → (made : MethodRecord) × Contains there.0.methods made × (made.name ≡ INIT)
  constructed (entry, listed, closed) = elim (init_or_not entry.methods) [
    | inr none ↦
        absurd (no_fault (inr (inr (c.0, entry, listed, (system_named l may named.0 c entry named.2 listed, closed, none)))))
    | inl (j, e, at, init) ↦
        let few = slice_get_within system_classes c.0 entry listed in
        let low : c.0 < length w.classes = omega (arith, few, system_few l may) in
        let old : record_of w.classes c ≡ Some there.0 = sym (slice_get-front w.classes (added l) c.0 low) ∙ there.1 in
        let said = may.system.each c.0 entry there.0 listed (slice_get-in_take w.classes (length system_classes) c.0 there.0 few old) in
        let own = item_there there.0.methods j (omega (arith, slice_get_within entry.methods j e at, said.method_count)) in
        (own.0, Contains-at there.0.methods j own.0 own.1, (said.methods j e own.0 at own.1).name ∙ init)
  ]

  pub may_be_made : MayBeMade (all l) c
  may_be_made =
      record {
        class = there.0;
        is_class = there.1;
        no_interface = elim (cases_Bool (has there.0.flags INTERFACE)) [
          | inr other ↦ other
          | inl flag ↦ absurd (no_fault (inl (subst (λ (x : ℕ). IsTrue (has x INTERFACE)) unlinked_too.2 flag)))
        ];
        concrete = elim (cases_Bool (has there.0.flags ABSTRACT)) [
          | inr other ↦ other
          | inl flag ↦ absurd (no_fault (inr (inl (subst (λ (x : ℕ). IsTrue (has x ABSTRACT)) unlinked_too.2 flag))))
        ];
        constructed = constructed;
      }
