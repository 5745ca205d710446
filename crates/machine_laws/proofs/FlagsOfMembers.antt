-- What C6 asks of the flags of fields and methods of a folder's class.
use Rattle.std.proofs.Common.{◌≡◌, ◌≢◌, ℕ, ◌+◌, inl, inr, Bool, true, false, ◌&&◌, IsTrue, List, length, refl, sym, subst, ap, ◌∙◌}
use Rattle.std.proofs.lemmas.Bool.{cases_Bool, false≢true}
use Rattle.std.proofs.lemmas.Option.{same_Some}
use Rattle.std.specs.Prelude.{IsFalse, ◌||◌, not}
use Rattle.jk_model.specs.Flags.{has, ABSTRACT, FINAL, INTERFACE, NATIVE, PRIVATE, PROTECTED, PUBLIC, STATIC, STRICT, SYNCHRONIZED}
use Rattle.jk_model.specs.declared.identifiers.ClassId.{ClassId}
use Rattle.jk_model.specs.declared.identifiers.MemberId.{MemberId}
use Rattle.jk_model_classes.specs.ClassFlags.{is_bad_field, is_bad_method, has_two_marks, is_abstract_and_more, is_final_and_volatile}
use Rattle.jk_model_classes.specs.Classes.{IsInterface}
use Rattle.jk_model_classes.specs.Items.{Member}
use Rattle.jk_model_classes.specs.Lookups.{MethodIs}
use Rattle.jk_model_classes.specs.Members.{CLINIT, IsClinit, TextAt}
use Rattle.jk_model_classes.specs.Worlds.{NamedClass, WorldRecord}
use Rattle.jk_model_classes.specs.declared.records.ClassRecord.{ClassRecord}
use Rattle.jk_model_classes.specs.declared.records.FieldRecord.{FieldRecord}
use Rattle.jk_model_classes.specs.declared.records.MethodRecord.{MethodRecord}
use Rattle.jk_model_classes.specs.declared.sharing.Offer.{Offer}
use Rattle.jk_model_classes.specs.declared.sharing.Stub.{Stub}
use Rattle.class_lemmas.proofs.OneText.{one_text}
use Rattle.jk_model_typing.specs.Scopes.{is_static}
use Rattle.jk_model_folders.specs.Loads.{Loads}
use Rattle.jk_model_folders.specs.declared.files.FolderFiles.{FolderFiles}
use Rattle.sound_folders.proofs.NewClasses.{all}
use Rattle.machine_laws.proofs.NewMembers.{IsNewField, IsNewMethod, good_flags}

-- a private method is neither public nor protected
abbrev pub HaveOneMark : List ClassRecord → Type 0
HaveOneMark classes =
    (m : MemberId) (method : MethodRecord) → MethodIs classes m method → IsTrue (has method.flags PRIVATE)
    → IsFalse (has method.flags PUBLIC) × IsFalse (has method.flags PROTECTED)

-- ---- Tests.

bad_constant : (marks fixed over public static final : Bool) → over ≡ true → static ≡ false
    → IsTrue (marks || fixed || (over && not (public && static && final)))
bad_constant true fixed over public static final o s = refl
bad_constant false true over public static final o s = refl
bad_constant false false over true static final o s = rw (o, s) refl
bad_constant false false over false static final o s = rw o refl

bad_abstract : (marks abstract private static final native sync strict other : Bool) → abstract ≡ true → static ≡ true
    → IsTrue (marks || (abstract && (private || static || final || native || sync || strict)) || other)
bad_abstract true abstract private static final native sync strict other a s = refl
bad_abstract false abstract true static final native sync strict other a s = rw a refl
bad_abstract false abstract false static final native sync strict other a s = rw (a, s) refl

bad_interface : (marks more over public abstract : Bool) → over ≡ true → abstract ≡ false
    → IsTrue (marks || more || (over && not (public && abstract)))
bad_interface true more over public abstract o a = refl
bad_interface false true over public abstract o a = refl
bad_interface false false over true abstract o a = rw (o, a) refl
bad_interface false false over false abstract o a = rw o refl

public_too : (public private protected more other : Bool) → private ≡ true → public ≡ true
    → IsTrue ((public && private) || (public && protected) || (private && protected) || more || other)
public_too public private protected more other p q = rw (p, q) refl

protected_too : (public private protected more other : Bool) → private ≡ true → protected ≡ true
    → IsTrue ((public && private) || (public && protected) || (private && protected) || more || other)
protected_too public false protected more other p q = absurd (false≢true p)
protected_too public true false more other p q = absurd (false≢true q)
protected_too true true true more other p q = refl
protected_too false true true more other p q = refl

-- ---- Members.

module _ {f : FolderFiles} {w : WorldRecord} {into : List ℕ} {first : ClassId} {table : List NamedClass} {offers : List Offer} {stubs : List Stub}
    {new : WorldRecord} (l : Loads f w into first table offers stubs new) where
  module _ (m : MemberId) (field : FieldRecord) (n : IsNewField l m field) where
    no_bad_field : IsTrue (is_bad_field n.of.own.file.flags n.info.flags) → ⊥
    no_bad_field bad =
        good_flags l n.of.own.place n.of.own.file n.of.own.listed (Member (m.index + 1)) (inr (inl (n.info, (m.index, refl, n.listed), bad)))

    pub interface_field : IsInterface (all l) m.class → IsTrue (has field.flags STATIC)
    interface_field (r, is, flag) = elim (cases_Bool (has field.flags STATIC)) [
      | inl static ↦ static
      | inr fails ↦
          let same : r ≡ n.class = same_Some r n.class (sym is ∙ n.class_is) in
          let flags : r.flags ≡ n.of.own.file.flags = ap (λ (x : ClassRecord). x.flags) same ∙ n.of.own.is_record.flags in
          let over : has n.of.own.file.flags INTERFACE ≡ true = subst (λ (x : ℕ). IsTrue (has x INTERFACE)) flags flag in
          let never : has n.info.flags STATIC ≡ false = subst (λ (x : ℕ). IsFalse (has x STATIC)) n.is.flags fails in
          absurd (no_bad_field (bad_constant (has_two_marks n.info.flags) (is_final_and_volatile n.info.flags) (has n.of.own.file.flags INTERFACE)
          (has n.info.flags PUBLIC) (has n.info.flags STATIC) (has n.info.flags FINAL) over never))
    ]

  module _ (m : MemberId) (method : MethodRecord) (n : IsNewMethod l m method) where
    no_bad_method : (IsClinit n.of.own.file n.info → ⊥) → IsTrue (is_bad_method n.of.own.file.flags n.info.flags) → ⊥
    no_bad_method other bad =
        good_flags l n.of.own.place n.of.own.file n.of.own.listed (Member (length n.of.own.file.fields + m.index + 1))
        (inr (inr (n.info, (m.index, refl, n.listed), (other, inl bad))))

    no_bad_flags : (IsClinit n.of.own.file n.info → ⊥) → method.flags ≡ n.info.flags → IsTrue (is_bad_method n.of.own.file.flags method.flags) → ⊥
    no_bad_flags other e bad = no_bad_method other (subst (λ (x : ℕ). IsTrue (is_bad_method n.of.own.file.flags x)) e bad)

    pub is_clinit : method.name ≡ CLINIT → IsClinit n.of.own.file n.info
    is_clinit named = subst (λ (x : List ℕ). TextAt n.of.own.file.pool n.info.name x) named n.is.name

    pub clinit_flags : method.name ≡ CLINIT → method.flags ≡ STATIC
    clinit_flags named = elim n.is.flags [
      | inl (is, e) ↦ e
      | inr (other, e) ↦ absurd (other (is_clinit named))
    ]

    not_clinit : method.name ≢ CLINIT → IsClinit n.of.own.file n.info → ⊥
    not_clinit differ is = differ (one_text n.of.own.file.pool n.info.name method.name CLINIT n.is.name is)

    pub static_method : IsTrue (is_static method) → IsFalse (has method.flags ABSTRACT)
    static_method static = elim n.is.flags [
      | inl (is, e) ↦ subst (λ (x : ℕ). IsFalse (has x ABSTRACT)) (sym e) refl
      | inr (other, e) ↦ elim (cases_Bool (has method.flags ABSTRACT)) [
        | inr fails ↦ fails
        | inl abstract ↦ absurd (no_bad_flags other e (bad_abstract (has_two_marks method.flags) (has method.flags ABSTRACT) (has method.flags PRIVATE)
            (has method.flags STATIC) (has method.flags FINAL) (has method.flags NATIVE) (has method.flags SYNCHRONIZED) (has method.flags STRICT)
            (has n.of.own.file.flags INTERFACE && not (has method.flags PUBLIC && has method.flags ABSTRACT)) abstract static))
      ]
    ]

    pub interface_method : IsInterface (all l) m.class → method.name ≢ CLINIT → IsTrue (has method.flags ABSTRACT)
    interface_method (r, is, flag) differ = elim n.is.flags [
      | inl (clinit, e) ↦ absurd (not_clinit differ clinit)
      | inr (other, e) ↦ elim (cases_Bool (has method.flags ABSTRACT)) [
        | inl abstract ↦ abstract
        | inr fails ↦
            let same : r ≡ n.class = same_Some r n.class (sym is ∙ n.class_is) in
            let flags : r.flags ≡ n.of.own.file.flags = ap (λ (x : ClassRecord). x.flags) same ∙ n.of.own.is_record.flags in
            let over : has n.of.own.file.flags INTERFACE ≡ true = subst (λ (x : ℕ). IsTrue (has x INTERFACE)) flags flag in
            absurd (no_bad_flags other e (bad_interface (has_two_marks method.flags) (is_abstract_and_more method.flags)
            (has n.of.own.file.flags INTERFACE) (has method.flags PUBLIC) (has method.flags ABSTRACT) over fails))
      ]
    ]

    pub one_mark : IsTrue (has method.flags PRIVATE) → IsFalse (has method.flags PUBLIC) × IsFalse (has method.flags PROTECTED)
    one_mark private = elim n.is.flags [
      | inl (clinit, e) ↦
          let never : IsTrue (has STATIC PRIVATE) = subst (λ (x : ℕ). IsTrue (has x PRIVATE)) e private in
          absurd (false≢true never)
      | inr (other, e) ↦ (
        elim (cases_Bool (has method.flags PUBLIC)) [
          | inr fails ↦ fails
          | inl holds ↦ absurd (no_bad_flags other e (public_too (has method.flags PUBLIC) (has method.flags PRIVATE) (has method.flags PROTECTED)
              (is_abstract_and_more method.flags) (has n.of.own.file.flags INTERFACE && not (has method.flags PUBLIC && has method.flags ABSTRACT))
              private holds))
        ],
        elim (cases_Bool (has method.flags PROTECTED)) [
          | inr fails ↦ fails
          | inl holds ↦ absurd (no_bad_flags other e (protected_too (has method.flags PUBLIC) (has method.flags PRIVATE) (has method.flags PROTECTED)
              (is_abstract_and_more method.flags) (has n.of.own.file.flags INTERFACE && not (has method.flags PUBLIC && has method.flags ABSTRACT))
              private holds))
        ],
      )
    ]
