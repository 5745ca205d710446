-- The names of the system classes are given one after the other, and then a table has what names mean outside of a folder.
use Rattle.std.proofs.Common.{◌≡◌, ℕ, ◌+◌, ◌<◌, ◌≤◌, ◌⊎◌, inl, inr, Bool, List, [], ◌∷◌, length, take, refl, sym, ◌∙◌, ap, subst, arith, Some, slice_get}
use Rattle.std.specs.Prelude.{Contains}
use Rattle.std.proofs.lemmas.Bool.{cases_eq, cases_lt}
use Rattle.std.proofs.lemmas.List.{length-take}
use Rattle.std.proofs.lemmas.List.Elements.{Contains-append_left, Contains-push, Contains-push_cases}
use Rattle.std.proofs.lemmas.Option.{slice_get_within, same_Some}
use Rattle.list_lemmas.proofs.ItemsByPlace.{item_there, slice_get-take}
use Rattle.list_lemmas.proofs.ItemsOfLists.{Contains-at, stands_at}
use Rattle.jk_model.specs.declared.identifiers.ClassId.{ClassId}
use Rattle.jk_model.specs.SystemTable.{system_classes, number_named}
use Rattle.jk_model_classes.specs.declared.records.ClassRecord.{ClassRecord}
use Rattle.jk_model_classes.specs.declared.sharing.ResolverLine.{ResolverLine}
use Rattle.jk_model_classes.specs.Classes.{HasClass}
use Rattle.jk_model_classes.specs.ResolverRules.{BringsIn}
use Rattle.jk_model_classes.specs.SystemRecords.{AreSystemRecords, system_meaning}
use Rattle.jk_model_classes.specs.Worlds.{Gives, NamedClass, WorldRecord, class_named}
use Rattle.jk_model_folders.specs.declared.files.FolderFiles.{FolderFiles}
use Rattle.jk_model_folders.specs.FolderRules.{AreOuterNames}
use Rattle.system_table.proofs.LawsOfTheTable.{each, has_own_name, own_name}
use Rattle.resolver_rules.specs.Imported.{AreBrought, NamesDiffer}
use Rattle.resolver_rules.specs.SystemNames.{AddsSystemName, AgreesWithSystem, HasSystemNames, IsSystemName}
use Rattle.resolver_rules.proofs.ClassesOfNames.{class_at, entry_named, meaning_number, named_entry, number_meaning, same_class}

-- ---- The name of one system class.

abbrev class_of : ℕ → ClassId
class_of n = record { 0 = n }

-- what the record of a system class is called is the name of that class
record_meaning : (classes : List ClassRecord) (n : ℕ) (r : ClassRecord) → AreSystemRecords (take (length system_classes) classes)
    → n < length system_classes → slice_get classes n ≡ Some r → system_meaning r.name ≡ Some (class_of n)
record_meaning classes n r h low at =
    let entry = item_there system_classes n low in
    let there : slice_get (take (length system_classes) classes) n ≡ Some r = slice_get-take classes (length system_classes) n low ∙ at in
    let named = (h.each n entry.0 r entry.1 there).name in
    let number : number_named r.name ≡ Some n = rw named (own_name n entry.0 (each has_own_name refl n entry.0 entry.1)) in
    number_meaning r.name n number

-- one system class has one name
one_name : (a b : List ℕ) (n : ℕ) → number_named a ≡ Some n → number_named b ≡ Some n → a ≡ b
one_name a b n at_a at_b =
    let x = class_at a n at_a in
    let entry = item_there system_classes n x.0 in
    sym (x.1 entry.0 entry.1) ∙ (class_at b n at_b).1 entry.0 entry.1

same_entry : (name : List ℕ) (n : ℕ) (e : NamedClass) → system_meaning name ≡ Some (class_of n) → IsSystemName n e
    → (let x : NamedClass = record { name = name; class = class_of n } in x) ≡ e
same_entry name n e means s =
    let of : (p q : List ℕ) (a b : ClassId) → p ≡ q → a ≡ b → (let z : NamedClass = record { name = p; class = a } in z) ≡ record { name = q; class = b } =
    λ p q a b x y. cc in
    let class : class_of n ≡ e.class = same_class (class_of n) e.class (sym s.0) in
    let number : number_named e.name ≡ Some n = meaning_number e.name e.class s.1 ∙ ap Some s.0 in
    of name e.name (class_of n) e.class (one_name name e.name n (meaning_number name (class_of n) means) number) class

-- the system classes are there
pub enough_classes : (classes : List ClassRecord) → AreSystemRecords (take (length system_classes) classes) → length system_classes ≤ length classes
enough_classes classes h = omega (arith, h.as_many, length-take (length system_classes) classes)

pub adds_name : (classes : List ClassRecord) (n : ℕ) (r : ClassRecord) (old new : List NamedClass) (given : Bool)
    → AreSystemRecords (take (length system_classes) classes) → n < length system_classes → slice_get classes n ≡ Some r
    → AgreesWithSystem old → Gives old r.name (class_of n) given new → AddsSystemName n old new
adds_name classes n r old new given h low at agrees gives = by_gives (record_meaning classes n r h low at) gives
  where
    x : NamedClass
    x = record { name = r.name; class = class_of n }

    is_system : system_meaning r.name ≡ Some (class_of n) → (e : NamedClass) → x ≡ e → IsSystemName n e
    is_system means e same =
        let it : IsSystemName n x = (refl, means) in
        subst (IsSystemName n) same it

    agrees_here : system_meaning r.name ≡ Some (class_of n) → (e : NamedClass) (s : ClassId) → x ≡ e → system_meaning e.name ≡ Some s → s ≡ e.class
    agrees_here means e s same other =
        let number = is_system means e same in
        same_Some s e.class (sym other ∙ number.1)

    by_gives : system_meaning r.name ≡ Some (class_of n) → Gives old r.name (class_of n) given new → AddsSystemName n old new
    by_gives means (inl (none, told, is)) = record {
      agrees = λ e s has other. elim (Contains-push_cases old x e (rw is at has)) [
        | inl before ↦ agrees e s before other
        | inr same ↦ agrees_here means e s same other
      ];
      has = λ e. (
        λ has. elim (Contains-push_cases old x e (rw is at has)) [
          | inl before ↦ inr before
          | inr same ↦ inl (is_system means e same)
        ],
        λ either. elim either [
          | inl system ↦ subst (Contains new) (same_entry r.name n e means system) (rw is (Contains-push old x))
          | inr before ↦ rw is (Contains-append_left old (x ∷ []) e before)
        ],
      );
    }
    by_gives means (inr (inl (there, told, is))) = record {
      agrees = λ e s has other. agrees e s (rw is at has) other;
      has = λ e. (
        λ has. inr (rw is at has),
        λ either. elim either [
          | inl system ↦ subst (Contains new) (same_entry r.name n e means system) (rw is (named_entry old r.name (class_of n) there))
          | inr before ↦ rw is before
        ],
      );
    }
    by_gives means (inr (inr (other, there, differs, told, is))) =
        let same = agrees (record { name = r.name; class = other }) (class_of n) (named_entry old r.name other there) means in
        absurd (differs (sym same))

-- ---- All of them.

pub no_names : (old : List NamedClass) → AgreesWithSystem old → HasSystemNames 0 old old
no_names old agrees = record {
  agrees = agrees;
  has = λ e. (λ has. inr has, λ either. elim either [ inl system ↦ absurd (omega (arith, system.0)) | inr before ↦ before ]);
}

pub names_further : (n : ℕ) (old cur new : List NamedClass) → HasSystemNames n old cur → AddsSystemName n cur new → HasSystemNames (n + 1) old new
names_further n old cur new h k = record {
  agrees = k.agrees;
  has = λ e. (
    λ has. elim ((k.has e).0 has) [
      | inl this ↦ inl (omega (arith, this.0), this.1)
      | inr there ↦ elim ((h.has e).0 there) [
        | inl system ↦ inl (omega (arith, system.0), system.1)
        | inr before ↦ inr before
      ]
    ],
    λ either. elim either [
      | inl system ↦ by_order e system (cases_lt e.class.0 n)
      | inr before ↦ (k.has e).1 (inr ((h.has e).1 (inr before)))
    ],
  );
}
  where
    by_order : (e : NamedClass) → (e.class.0 < n + 1) × (system_meaning e.name ≡ Some e.class) → (e.class.0 < n) ⊎ (n ≤ e.class.0) → Contains new e
    by_order e system (inl low) = (k.has e).1 (inr ((h.has e).1 (inl (low, system.1))))
    by_order e system (inr high) = (k.has e).1 (inl (omega (arith, high, system.0), system.1))

-- ---- Names outside of a folder.

module _ (f : FolderFiles) (w : WorldRecord) (into : List ℕ) (lines : List ResolverLine) (brought : List NamedClass)
    (h : AreBrought f w into lines (length lines) brought) where
  -- names that lines bring in agree with the system
  pub brought_agrees : AgreesWithSystem brought
  brought_agrees e s has means = by_number (cases_eq s.0 e.class.0)
    where
      by_number : (s.0 ≡ e.class.0) ⊎ (s.0 ≡ e.class.0 → ⊥) → s ≡ e.class
      by_number (inl same) = same_class s e.class same
      by_number (inr differs) = absurd (h.free e has (inr (s, means, λ same. differs (ap (λ (c : ClassId). c.0) same))))

  module _ (names : List NamedClass) (k : HasSystemNames (length system_classes) brought names) where
    pub outer_names : NamesDiffer names → AreOuterNames w into lines names
    outer_names differ name c = (
      λ means. elim ((k.has (record { name = name; class = c })).0 (named_entry names name c means)) [
        | inl system ↦ inl system.1
        | inr has ↦ inr (let b = h.from (record { name = name; class = c }) has in (b.1, Contains-at lines b.0 b.1 b.3, b.4))
      ],
      λ either. elim either [
        | inl system ↦ entry_named names name c differ
            ((k.has (record { name = name; class = c })).1 (inl ((class_at name c.0 (meaning_number name c system)).0, system)))
        | inr line ↦ entry_named names name c differ
            ((k.has (record { name = name; class = c })).1 (inr (by_line name c line)))
      ],
    )
      where
        by_line : (name : List ℕ) (c : ClassId) → (line : ResolverLine) × Contains lines line × BringsIn w into line name c
            → Contains brought (record { name = name; class = c })
        by_line name c (line, has, brings) =
            let s = stands_at lines line has in
            h.all name c (s.0, line, s.1, s.2, brings)

    pub has_classes : AreSystemRecords (take (length system_classes) w.classes) → (name : List ℕ) (c : ClassId) → class_named names name ≡ Some c
        → HasClass w.classes c
    has_classes system name c means = elim ((k.has (record { name = name; class = c })).0 (named_entry names name c means)) [
      | inl s ↦ omega (arith, s.0, system.as_many, length-take (length system_classes) w.classes)
      | inr has ↦ (let r = (h.from (record { name = name; class = c }) has).4.3 in slice_get_within w.classes c.0 r.0 r.1)
    ]
