-- The parts of a class's record are those of the table's class.
use Rattle.std.proofs.Common.{◌≡◌, ℕ, zero, suc, ◌+◌, ◌≤◌, List, [], ◌∷◌, length, map, refl, sym, ap, ◌∙◌, subst, arith, add-zero, Option, Some, None, slice_get}
use Rattle.std.specs.List.{AllByRecursion, AllZip, range_with_len}
use Rattle.std.specs.Option.{option_map}
use Rattle.std.proofs.lemmas.List.{length-map}
use Rattle.std.proofs.lemmas.Slice.Zip.{AllZip-long}
use Rattle.list_lemmas.proofs.ItemByItem.{zip_at}
use Rattle.jk_model.specs.SystemTable as Table
use Rattle.jk_model.specs.SystemTable.{system_classes, number_named, first_method_number}
use Rattle.jk_model.specs.declared.identifiers.ClassId.{ClassId}
use Rattle.jk_model_classes.specs.Classes.{IsBelow, ParentIsBelow, StandsAbove}
use Rattle.jk_model_classes.specs.SystemRecords.{IsSystemField, IsSystemMethodAt, IsSystemRecord}
use Rattle.jk_model_classes.specs.declared.records.FieldRecord.{FieldRecord}
use Rattle.jk_model_classes.specs.declared.records.MethodRecord.{MethodRecord}
use Rattle.jk_model_classes.specs.declared.records.ClassRecord.{ClassRecord}
use Rattle.system_table.specs.declared.entry.SystemClass.{SystemClass}
use Rattle.system_table.specs.declared.entry.SystemField.{SystemField}
use Rattle.system_table.specs.declared.entry.SystemMethod.{SystemMethod}
use Rattle.system_table.specs.Entry.{field_of, method_of, IsEntry}
use Rattle.system_table.proofs.LawsOfTheTable.{parents, interfaces}
use Rattle.system_records.specs.KnownTypes.{IsKnownField, IsKnownMethod}
use Rattle.system_records.specs.Numbers.{numbered}
use Rattle.system_records.proofs.ClassesInFront.{parent_below, interfaces_below}
use Rattle.system_records.proofs.DescriptorsAreKnown.{known_fields, known_methods, few_members}
use Rattle.system_records.proofs.ItemByItem.{zip_map, all_mapped}

abbrev pub FieldIs : SystemField → FieldRecord → Type 0
FieldIs f r = IsSystemField (field_of f) r

abbrev pub MethodIs : SystemMethod → MethodRecord → Type 0
MethodIs m r = IsSystemMethodAt m.number (method_of m) r

-- ---- What the table's class says of the code's entry.

pub entry_fields : (n : ℕ) (c : SystemClass) → IsEntry n c → AllByRecursion (λ (f : SystemField). IsKnownField f.descriptor.now) c.fields.now
entry_fields n c (e, at, shows) =
    let P : Table.SystemField → Type 0 = λ f. IsKnownField f.descriptor in
    all_mapped field_of P c.fields.now (subst (λ fs. AllByRecursion P fs) (sym shows.fields) (known_fields n e at))

pub entry_methods : (n : ℕ) (c : SystemClass) → IsEntry n c → AllByRecursion (λ (m : SystemMethod). IsKnownMethod m.descriptor.now) c.methods.now
entry_methods n c (e, at, shows) =
    let P : Table.SystemMethod → Type 0 = λ m. IsKnownMethod m.descriptor in
    all_mapped method_of P c.methods.now (subst (λ ms. AllByRecursion P ms) (sym shows.methods) (known_methods n e at))

-- ---- Numbers.

parent_back : (parent : Option ℕ) → option_map (λ (c : ClassId). c.0) (option_map numbered parent) ≡ parent
parent_back None = refl
parent_back (Some k) = refl

interfaces_back : (numbers : List ℕ) → map (λ (c : ClassId). Some c.0) (map numbered numbers) ≡ map (λ k. Some k) numbers
interfaces_back [] = refl
interfaces_back (k ∷ numbers) = ap (λ ks. Some k ∷ ks) (interfaces_back numbers)

-- a method's number is that of the first and its place
methods_at : (first : ℕ) (ms : List SystemMethod) (rs : List MethodRecord) → AllZip MethodIs ms rs
    → map (λ (m : SystemMethod). m.number) ms ≡ range_with_len first (length ms)
    → (i : ℕ) (e : Table.SystemMethod) (r : MethodRecord) → slice_get (map method_of ms) i ≡ Some e → slice_get rs i ≡ Some r
    → IsSystemMethodAt (first + i) e r
methods_at first [] rs h numbers i e r at_e at_r = absurd cc
methods_at first (m ∷ ms) [] h numbers i e r at_e at_r = absurd h
methods_at first (m ∷ ms) (s ∷ rs) h numbers zero e r at_e at_r =
    let same_e : method_of m ≡ e = cc in
    let same_r : s ≡ r = cc in
    let head : m.number ≡ first = cc in
    let number : m.number ≡ first + 0 = head ∙ sym (add-zero first) in
    let of_record : IsSystemMethodAt m.number (method_of m) r = subst (λ x. IsSystemMethodAt m.number (method_of m) x) same_r h.0 in
    let of_entry : IsSystemMethodAt m.number e r = subst (λ x. IsSystemMethodAt m.number x r) same_e of_record in
    subst (λ k. IsSystemMethodAt k e r) number of_entry
methods_at first (m ∷ ms) (s ∷ rs) h numbers (suc i) e r at_e at_r =
    let others : map (λ (m : SystemMethod). m.number) ms ≡ range_with_len (first + 1) (length ms) = cc in
    let place : first + 1 + i ≡ first + suc i = omega arith in
    subst (λ k. IsSystemMethodAt k e r) place (methods_at (first + 1) ms rs h.1 others i e r at_e at_r)

-- ---- The record.

-- what is made of each part of an entry
pub record PartsAre (c : SystemClass) (r : ClassRecord) : Type 0 where
  pub name : r.name ≡ c.name.now
  pub home : r.home ≡ None
  pub flags : r.flags ≡ c.flags
  pub parent : r.parent ≡ option_map numbered c.parent
  pub interfaces : r.interfaces ≡ map numbered c.interfaces.now
  pub fields : AllZip FieldIs c.fields.now r.fields
  pub methods : AllZip MethodIs c.methods.now r.methods
  pub links : r.links ≡ []
  pub references : r.references ≡ []

pub class_made : (n : ℕ) (c : SystemClass) (r : ClassRecord) → IsEntry n c → PartsAre c r
    → (e : Table.SystemClass) × (slice_get system_classes n ≡ Some e) × IsSystemRecord n e r
class_made n c r (e, at, shows) parts =
    let fields : AllZip IsSystemField e.fields r.fields =
    subst (λ fs. AllZip IsSystemField fs r.fields) shows.fields (zip_map field_of IsSystemField c.fields.now r.fields parts.fields) in
    let count : length e.methods ≡ length c.methods.now = ap (λ ms. length ms) (sym shows.methods) ∙ length-map c.methods.now method_of in
    let numbers : map (λ (m : SystemMethod). m.number) c.methods.now ≡ range_with_len (first_method_number n) (length c.methods.now) =
    shows.numbers ∙ ap (λ k. range_with_len (first_method_number n) k) count in
    let made : IsSystemRecord n e r = record {
      name = parts.name ∙ shows.name;
      home = parts.home;
      flags = parts.flags ∙ shows.flags;
      parent = ap (λ p. option_map (λ (x : ClassId). x.0) p) parts.parent ∙ parent_back c.parent ∙ shows.parent;
      interfaces = ap (λ xs. map (λ (x : ClassId). Some x.0) xs) parts.interfaces ∙ interfaces_back c.interfaces.now ∙ shows.interfaces;
      field_count = AllZip-long IsSystemField e.fields r.fields fields;
      fields = zip_at IsSystemField e.fields r.fields fields;
      method_count = AllZip-long MethodIs c.methods.now r.methods parts.methods ∙ sym count;
      methods = λ i x m at_x at_m.
          methods_at (first_method_number n) c.methods.now r.methods parts.methods numbers i x m (ap (λ ms. slice_get ms i) shows.methods ∙ at_x) at_m;
      links = parts.links;
      references = parts.references;
    } in
    (e, at, made)

pub class_above : (n : ℕ) (c : SystemClass) (r : ClassRecord) → IsEntry n c → PartsAre c r → StandsAbove n r
class_above n c r (e, at, shows) parts =
    let parent = parent_below number_named n e.parent c.parent shows.parent (parents n e at) in
    let listed = interfaces_below number_named n e.interfaces c.interfaces.now shows.interfaces (interfaces n e at) in (
      subst (λ p. ParentIsBelow n p) (sym parts.parent) parent,
      subst (λ xs. AllByRecursion (IsBelow n) xs) (sym parts.interfaces) listed,
    )

pub class_few : (n : ℕ) (c : SystemClass) (r : ClassRecord) → IsEntry n c → PartsAre c r → (length r.fields ≤ 65535) × (length r.methods ≤ 65535)
class_few n c r (e, at, shows) parts =
    let few = few_members n e at in
    let field_count : length r.fields ≡ length e.fields =
    AllZip-long FieldIs c.fields.now r.fields parts.fields ∙ sym (length-map c.fields.now field_of) ∙ ap (λ fs. length fs) shows.fields in
    let method_count : length r.methods ≡ length e.methods =
    AllZip-long MethodIs c.methods.now r.methods parts.methods ∙ sym (length-map c.methods.now method_of) ∙ ap (λ ms. length ms) shows.methods in
    (omega (arith, field_count, few.0), omega (arith, method_count, few.1))
