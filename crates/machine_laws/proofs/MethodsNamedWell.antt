-- What C7, C15, C20 and C21 ask of the methods that a new method's instructions name.
use Rattle.std.proofs.Common.{◌≡◌, ◌≢◌, ℕ, pos, ◌+◌, inl, inr, IsTrue, List, length, Some, slice_get, Contains, refl, sym, ap, subst, ◌∙◌}
use Rattle.std.proofs.lemmas.Bool.{cases_Bool, cases_eq, false≢true}
use Rattle.std.proofs.lemmas.Option.{same_Some}
use Rattle.std.proofs.lemmas.Slice.Eq.{bytes_eq-Decides}
use Rattle.std.specs.Prelude.{IsFalse, ◌||◌, not, ◌==◌}
use Rattle.list_lemmas.proofs.ItemsByPlace.{item_there}
use Rattle.list_lemmas.proofs.ItemsOfLists.{Contains-at}
use Rattle.list_lemmas.proofs.TestsAndOrders.{same_pos, not_true}
use Rattle.model_lemmas.proofs.SameNumbers.{same_class}
use Rattle.jk_model.specs.Flags.{has, ABSTRACT, INTERFACE, PRIVATE, PROTECTED, PUBLIC, STATIC}
use Rattle.jk_model.specs.declared.class_file.PoolEntry.{PoolEntry}
use Rattle.jk_model.specs.declared.identifiers.ClassId.{ClassId}
use Rattle.jk_model.specs.declared.identifiers.MemberId.{MemberId}
use Rattle.jk_model.specs.declared.instructions.Instr.{Instr}
use Rattle.jk_model.specs.declared.opcodes.TheConstants.{INVOKEINTERFACE, INVOKESPECIAL, INVOKESTATIC}
use Rattle.jk_model.specs.declared.output.Rule.TheVariants.{C20, C21}
use Rattle.jk_model_classes.specs.ClassNames.{IsReferenceName}
use Rattle.jk_model_classes.specs.Classes.{IsInterface}
use Rattle.jk_model_classes.specs.Items.{Entry}
use Rattle.jk_model_classes.specs.LinkRules.{FindsFieldAt, FindsMethodAt, NamesRightSort, UsesMethod, is_instance_call}
use Rattle.jk_model_classes.specs.Lookups.{MethodIs, AllowsFrom}
use Rattle.jk_model_classes.specs.MemberCode.{UsesEntry, is_jump, is_switch, IsMethodEntry, IsInterfaceMethodEntry, is_call, is_field_access}
use Rattle.jk_model_classes.specs.Members.{CLINIT, INIT, MemberKind, reference, ReferenceAt}
use Rattle.jk_model_classes.specs.Worlds.{NamedClass, WorldRecord}
use Rattle.jk_model_classes.specs.declared.records.ClassRecord.{ClassRecord}
use Rattle.jk_model_classes.specs.declared.records.LinkedCode.{LinkedCode}
use Rattle.jk_model_classes.specs.declared.records.MethodRecord.{MethodRecord}
use Rattle.jk_model_classes.specs.declared.sharing.Offer.{Offer}
use Rattle.jk_model_classes.specs.declared.sharing.Stub.{Stub}
use Rattle.class_lemmas.proofs.OneRecord.{one_method}
use Rattle.class_lemmas.proofs.OneReference.{one_reference}
use Rattle.jk_model_typing.specs.Scopes.{is_static}
use Rattle.jk_model_folders.specs.FolderRules.{placed_rules}
use Rattle.jk_model_folders.specs.Loads.{Loads, MayLoad}
use Rattle.jk_model_folders.specs.declared.files.FolderFiles.{FolderFiles}
use Rattle.class_growth.proofs.LinksDontMatter.{method-linked, is_interface-linked}
use Rattle.heap_laws.specs.NamedWell.{calls_method, calls_object}
use Rattle.sound_folders.proofs.FoundByLinks.{method-found, only_links}
use Rattle.sound_folders.proofs.NewClasses.{all, meaning, meant_there}
use Rattle.machine_laws.proofs.InstructionsOfFiles.{links_well, names_entries_well, own_class, own_scope}
use Rattle.machine_laws.proofs.NewMembers.{IsNewMethod, good_names}
use Rattle.machine_laws.proofs.OpcodesByTest.{call_by, object_call_by}
use Rattle.jk_model_classes.specs.Members as Kind
use Rattle.jk_model_classes.specs.declared.records.Body.TheVariants as Does
use Rattle.jk_model_classes.specs.declared.records.Link.TheVariants as To

abbrev IsSimple : ℕ → Type 0
IsSimple op = IsTrue (not (is_jump op || is_switch op))

abbrev IsOfMember : ℕ → Type 0
IsOfMember op = IsTrue (is_field_access op || is_call op || op == INVOKEINTERFACE)

abbrev IsOther : ℕ → Type 0
IsOther op = (op ≢ INVOKEINTERFACE) → IsTrue (is_call op)

init_differs : CLINIT ≡ INIT → ⊥
init_differs e = false≢true ((bytes_eq-Decides CLINIT INIT).1 e)

never_clinit : (kind : MemberKind) → IsReferenceName kind CLINIT → ⊥
never_clinit Kind.Field h = h.1 refl
never_clinit Kind.Method (inl plain) = plain.1.0.0 refl
never_clinit Kind.Method (inr e) = init_differs e
never_clinit Kind.InterfaceMethod plain = plain.1.0.0 refl

module _ {f : FolderFiles} {w : WorldRecord} {into : List ℕ} {first : ClassId} {table : List NamedClass} {offers : List Offer} {stubs : List Stub}
    {new : WorldRecord} (l : Loads f w into first table offers stubs new) (m : MemberId) (method : MethodRecord)
    (n : IsNewMethod l m method) (code : LinkedCode) (body : method.body ≡ Does.Linked code) (i : Instr) (on : Contains code.instrs i) (index : ℕ)
    (operand : i.a ≡ pos index) (class : ClassId) (target : MemberId) (leads : slice_get n.class.links index ≡ Some (To.Method class target)) where
  found : (h : FindsMethodAt (own_scope l m method n) n.of.own.file index target) × (h.class ≡ class)
  found = method-found (own_scope l m method n) n.of.own.file n.class.links n.of.own.links index class target leads

  -- ---- The reference's entry.

  named_entry : (Kind : PoolEntry → Type 0) (kind : MemberKind) → found.0.kind ≡ kind → ((a b : ℕ) → Kind (reference kind a b) → ⊥) → (x : Instr)
      → x.a ≡ i.a → UsesEntry Kind n.of.own.file.pool x → ⊥
  named_entry Kind kind e never x same_a (j, a, (entry, at, is_kind)) =
      let (c, pair, there, at_class, at_pair) = found.0.is_there in
      let place : j ≡ index = same_pos j index (sym a ∙ same_a ∙ operand) in
      let one : entry ≡ reference kind c pair =
      same_Some entry (reference kind c pair)
      (sym at ∙ ap (slice_get n.of.own.file.pool) place ∙ there ∙ ap (λ (k : MemberKind). Some (reference k c pair)) e) in
      never c pair (subst Kind one is_kind)

  kind_of_interface : i.op ≡ INVOKEINTERFACE → found.0.kind ≡ Kind.InterfaceMethod
  kind_of_interface op = by found.0.kind refl
    where
      bad : (kind : MemberKind) → found.0.kind ≡ kind → ((a b : ℕ) → IsInterfaceMethodEntry (reference kind a b) → ⊥) → ⊥
      bad kind e never =
          names_entries_well l m method n code body i on (subst IsSimple (sym op) refl)
          (λ x same_op same_a. inl (inr (inr (inr (inr (inl (same_op ∙ op, named_entry IsInterfaceMethodEntry kind e never x same_a)))))))

      by : (kind : MemberKind) → found.0.kind ≡ kind → kind ≡ Kind.InterfaceMethod
      by Kind.Field e = absurd (found.0.of_method e)
      by Kind.Method e = absurd (bad Kind.Method e (λ a b h. h))
      by Kind.InterfaceMethod e = refl

  kind_of_class : IsTrue (calls_method i.op) → i.op ≢ INVOKEINTERFACE → found.0.kind ≡ Kind.Method
  kind_of_class test other = by found.0.kind refl
    where
      is_call_here : IsTrue (is_call i.op)
      is_call_here = call_by IsOther i.op (λ o. refl) (λ o. refl) (λ o. refl) (λ o. absurd (o refl)) test other

      bad : (kind : MemberKind) → found.0.kind ≡ kind → ((a b : ℕ) → IsMethodEntry (reference kind a b) → ⊥) → ⊥
      bad kind e never =
          names_entries_well l m method n code body i on (call_by IsSimple i.op refl refl refl refl test)
          (λ x same_op same_a. inl (inr (inr (inr (inl (
            subst (λ (o : ℕ). IsTrue (is_call o)) (sym same_op) is_call_here,
            named_entry IsMethodEntry kind e never x same_a,
          ))))))

      by : (kind : MemberKind) → found.0.kind ≡ kind → kind ≡ Kind.Method
      by Kind.Field e = absurd (found.0.of_method e)
      by Kind.Method e = refl
      by Kind.InterfaceMethod e = absurd (bad Kind.InterfaceMethod e (λ a b h. h))

  -- ---- The class that it names.

  sort_right : (NamesRightSort l.placed.unlinked found.0.kind found.0.class → ⊥) → ⊥
  sort_right wrong =
      l.none_placed C20 n.of.own.place (Entry index) (Contains-at placed_rules 0 C20 refl) (
        n.of.own.file,
        own_class l m method n,
        n.of.own.listed,
        (n.of.k, n.of.own.ordered, refl),
        (
          (found.0.kind, found.0.target, found.0.name, found.0.descriptor, found.0.is_there),
          λ t g. no_field t g,
          λ t g right. same_sort t g right,
        ),
      )
    where
      no_field : (t : MemberId) → FindsFieldAt (own_scope l m method n) n.of.own.file index t → ⊥
      no_field t g =
          let parts = one_reference n.of.own.file.pool index Kind.Field found.0.kind g.target found.0.target g.name found.0.name g.descriptor
          found.0.descriptor g.is_there found.0.is_there in
          found.0.of_method (sym parts.kind)

      same_sort : (t : MemberId) (g : FindsMethodAt (own_scope l m method n) n.of.own.file index t) → NamesRightSort l.placed.unlinked g.kind g.class → ⊥
      same_sort t g right =
          let parts = one_reference n.of.own.file.pool index g.kind found.0.kind g.target found.0.target g.name found.0.name g.descriptor
          found.0.descriptor g.is_there found.0.is_there in
          let class_here : g.class ≡ found.0.class =
          same_Some g.class found.0.class (sym g.class_is ∙ ap (meaning l) parts.target ∙ found.0.class_is) in
          wrong (subst (λ (c : ClassId). NamesRightSort l.placed.unlinked found.0.kind c) class_here
          (subst (λ (k : MemberKind). NamesRightSort l.placed.unlinked k g.class) parts.kind right))

  pub interface_named : MayLoad w → i.op ≡ INVOKEINTERFACE → IsInterface (all l) class
  interface_named may op =
      let q = item_there (all l) found.0.class.0 (meant_there l may found.0.target found.0.class found.0.class_is) in
      elim (cases_Bool (has q.0.flags INTERFACE)) [
        | inl flag ↦ subst (IsInterface (all l)) found.1 (q.0, q.1, flag)
        | inr other ↦ absurd (sort_right (λ right.
            let unlinked : IsInterface l.placed.unlinked found.0.class =
            subst (λ (k : MemberKind). NamesRightSort l.placed.unlinked k found.0.class) (kind_of_interface op) right in
            let (r, is, flag) = is_interface-linked l.placed.unlinked (all l) (only_links l) found.0.class unlinked in
            let same : r ≡ q.0 = same_Some r q.0 (sym is ∙ q.1) in
            false≢true (sym other ∙ subst (λ (x : ClassRecord). IsTrue (has x.flags INTERFACE)) same flag)))
      ]

  pub class_named_there : IsTrue (calls_method i.op) → i.op ≢ INVOKEINTERFACE → IsInterface (all l) class → ⊥
  class_named_there test other interface =
      sort_right (λ right.
      let never : IsInterface l.placed.unlinked found.0.class → ⊥ =
      subst (λ (k : MemberKind). NamesRightSort l.placed.unlinked k found.0.class) (kind_of_class test other) right in
      never (is_interface-linked (all l) l.placed.unlinked (sym (only_links l)) found.0.class (subst (IsInterface (all l)) (sym found.1) interface)))

  -- ---- The method.

  module _ (called : MethodRecord) (is : MethodIs (all l) target called) where
    unlinked_is : MethodIs l.placed.unlinked target called
    unlinked_is = method-linked (all l) l.placed.unlinked (sym (only_links l)) target called is

    uses : (x : Instr) → x.a ≡ i.a → UsesMethod (own_scope l m method n) n.of.own.file x target called
    uses x same_a = (index, same_a ∙ operand, found.0, unlinked_is)

    same_name : found.0.name ≡ called.name
    same_name =
        let (other, other_is, named, typed) = found.0.found.member.suits in
        sym named ∙ ap (λ (x : MethodRecord). x.name) (one_method l.placed.unlinked target other called other_is unlinked_is)

    reference_is : (name : List ℕ) → called.name ≡ name → ReferenceAt n.of.own.file.pool index found.0.kind name found.0.descriptor
    reference_is name e =
        let (c, pair, there, at_class, at_pair) = found.0.is_there in
        subst (λ (x : List ℕ). ReferenceAt n.of.own.file.pool index found.0.kind x found.0.descriptor) (same_name ∙ e) (c, pair, there, at_pair)

    pub static_called : i.op ≡ INVOKESTATIC → IsTrue (is_static called)
    static_called op = elim (cases_Bool (has called.flags STATIC)) [
      | inl static ↦ static
      | inr other ↦
          let never : IsTrue (not (has called.flags STATIC)) = rw other refl in
          absurd (links_well l m method n code body i on (subst IsSimple (sym op) refl)
          (λ x same_op same_a. inr (target, called, uses x same_a, inl (same_op ∙ op, never))))
    ]

    pub object_called : IsTrue (calls_object i.op) → IsFalse (is_static called)
    object_called test = elim (cases_Bool (has called.flags STATIC)) [
      | inr other ↦ other
      | inl static ↦ absurd (links_well l m method n code body i on (object_call_by IsSimple i.op refl refl refl test)
          (λ x same_op same_a. inr (
            target,
            called,
            uses x same_a,
            inr (inl (subst (λ (o : ℕ). IsTrue (is_instance_call o)) (sym same_op) test, static)),
          )))
    ]

    pub concrete_called : i.op ≡ INVOKESPECIAL → IsFalse (has called.flags ABSTRACT)
    concrete_called op = elim (cases_Bool (has called.flags ABSTRACT)) [
      | inr other ↦ other
      | inl abstract ↦ absurd (links_well l m method n code body i on (subst IsSimple (sym op) refl)
          (λ x same_op same_a. inr (target, called, uses x same_a, inr (inr (same_op ∙ op, abstract)))))
    ]

    pub constructor_called : IsTrue (calls_method i.op) → called.name ≡ INIT → i.op ≡ INVOKESPECIAL
    constructor_called test named = elim (cases_eq i.op INVOKESPECIAL) [
      | inl same ↦ same
      | inr other ↦ absurd (names_entries_well l m method n code body i on (call_by IsSimple i.op refl refl refl refl test)
          (λ x same_op same_a. inr (
            subst IsOfMember (sym same_op) (call_by IsOfMember i.op refl refl refl refl test),
            λ e. other (sym same_op ∙ e),
            (index, found.0.kind, found.0.descriptor, same_a ∙ operand, reference_is INIT named),
          )))
    ]

    pub no_initialiser_called : called.name ≢ CLINIT
    no_initialiser_called named =
        good_names l n.of.own.place n.of.own.file n.of.own.listed (Entry index)
        (inr (found.0.kind, CLINIT, found.0.descriptor, reference_is CLINIT named, never_clinit found.0.kind))

    not_allowed : IsTrue (has called.flags PRIVATE) → IsFalse (has called.flags PUBLIC) × IsFalse (has called.flags PROTECTED)
        → (target.class ≡ own_class l m method n → ⊥) → AllowsFrom l.placed.unlinked (own_class l m method n) target.class called.flags → ⊥
    not_allowed private marks differ allows = elim allows [
      | inl public ↦ false≢true (sym marks.0 ∙ public)
      | inr (inl (protected, where_from)) ↦ false≢true (sym marks.1 ∙ protected)
      | inr (inr (inl (unmarked, one))) ↦ false≢true (sym (not_true (has called.flags PRIVATE) unmarked.2) ∙ private)
      | inr (inr (inr (own, same))) ↦ differ (sym same)
    ]

    pub own_private_called : IsTrue (has called.flags PRIVATE) → IsFalse (has called.flags PUBLIC) × IsFalse (has called.flags PROTECTED)
        → target.class ≡ own_class l m method n
    own_private_called private marks = elim (cases_eq target.class.0 (length w.classes + n.of.k)) [
      | inl same ↦ same_class target.class (own_class l m method n) same
      | inr differ ↦ absurd (l.none_placed C21 n.of.own.place (Entry index) (Contains-at placed_rules 1 C21 refl) (
        n.of.own.file,
        own_class l m method n,
        n.of.own.listed,
        (n.of.k, n.of.own.ordered, refl),
        inr (inr (
          target,
          found.0,
          λ (flags, (other, other_is, e), allows).
              let same : flags ≡ called.flags =
              e ∙ ap (λ (x : MethodRecord). x.flags) (one_method l.placed.unlinked target other called other_is unlinked_is) in
              not_allowed private marks (λ here. differ (ap (λ (c : ClassId). c.0) here))
              (subst (AllowsFrom l.placed.unlinked (own_class l m method n) target.class) same allows),
        )),
      ))
    ]
