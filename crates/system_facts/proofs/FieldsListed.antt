-- The instance fields of a system class are those that the table lists for it and for its parents.
use Rattle.std.proofs.Common.{◌≡◌, ℕ, zero, suc, ◌+◌, ◌<◌, Bool, true, false, not, List, [], ◌∷◌, ◌++◌, length, map, filter, flat_map, Option, Some, None, slice_get, take, refl, sym, ap, subst, ◌∙◌, append-nil, arith, cond}
use Rattle.std.specs.Prelude.{codes, option_map, option_and_then}
use Rattle.std.specs.List.{enumerate_from}
use Rattle.std.specs.Option.{option_map_or}
use Rattle.std.proofs.lemmas.Option.{same_Some}
use Rattle.jk_model.specs.Flags.{has, STATIC}
use Rattle.jk_model.specs.declared.identifiers.ClassId.{ClassId}
use Rattle.jk_model.specs.SystemTable.{SystemClass, SystemField, parent_number, system_classes}
use Rattle.jk_model_classes.specs.declared.records.ClassRecord.{ClassRecord}
use Rattle.jk_model_classes.specs.declared.records.FieldRecord.{FieldRecord}
use Rattle.jk_model_classes.specs.declared.records.TypeRef.{TypeRef}
use Rattle.jk_model_classes.specs.Classes.{record_of, parents_of, AreOrdered, IsSubclass}
use Rattle.jk_model_classes.specs.Layouts.{InstanceField, instance_fields, is_instance_field, own_fields, type_words}
use Rattle.jk_model_classes.specs.Stubs.{IsSystemNamed}
use Rattle.jk_model_classes.specs.SystemRecords.{IsSystemField, IsSystemRecord}
use Rattle.class_table.proofs.HeightsAreEnough.{instance_fields-step}
use Rattle.list_lemmas.proofs.ItemsByPlace.{item_there, slice_get-from_take}
use Rattle.class_table.proofs.LayoutsBegin.{layouts-begin}
use Rattle.class_table.proofs.StandingAbove.{parent-lower}
use Rattle.system_facts.specs.SystemLayouts.{class_at, is_listed_instance, listed_fields, listed_own, listed_within, text_field, words_said}
use Rattle.system_facts.specs.SystemTypes.{HaveSystemClasses}
use Rattle.system_facts.proofs.TypesRead.{field_kind-read}

-- ---- A class's own fields.

abbrev made : ClassId → ℕ × FieldRecord → InstanceField
made c p = record { member = record { class = c; index = p.0 }; words = type_words p.1.kind }

abbrev listed : ClassId → ℕ × SystemField → InstanceField
listed c p = record { member = record { class = c; index = p.0 }; words = words_said p.1 }

words_same : (entry : SystemField) (field : FieldRecord) → IsSystemField entry field → type_words field.kind ≡ words_said entry
words_same entry field is =
    sym (ap (λ (o : Option TypeRef). option_map_or (λ (kind : TypeRef). type_words kind) o 1)
    (field_kind-read entry.descriptor is.type field.kind is.text is.kind))

one_more : (c : ClassId) (b : Bool) (p : ℕ × FieldRecord) (q : ℕ × SystemField) (fs : List (ℕ × FieldRecord)) (es : List (ℕ × SystemField))
    → made c p ≡ listed c q → map (made c) fs ≡ map (listed c) es → map (made c) (cond b (p ∷ fs) fs) ≡ map (listed c) (cond b (q ∷ es) es)
one_more c true p q fs es first others = λ i. first i ∷ others i
one_more c false p q fs es first others = others

own_same : (c : ClassId) (k : ℕ) (fs : List FieldRecord) (es : List SystemField) → length fs ≡ length es
    → ((i : ℕ) (e : SystemField) (f : FieldRecord) → slice_get es i ≡ Some e → slice_get fs i ≡ Some f → IsSystemField e f)
    → map (made c) (filter is_instance_field (enumerate_from k fs)) ≡ map (listed c) (filter is_listed_instance (enumerate_from k es))
own_same c k [] [] many each = refl
own_same c k [] (e ∷ es) many each = absurd (omega (arith, many))
own_same c k (f ∷ fs) [] many each = absurd (omega (arith, many))
own_same c k (f ∷ fs) (e ∷ es) many each =
    let is : IsSystemField e f = each 0 e f refl refl in
    let others = own_same c (k + 1) fs es (omega (arith, many)) (λ i x y at at_too. each (suc i) x y at at_too) in
    let words : made c (k, f) ≡ listed c (k, e) =
    ap (λ (n : ℕ). let field : InstanceField = record { member = record { class = c; index = k }; words = n } in field) (words_same e f is) in
    let tests : not (has f.flags STATIC) ≡ not (has e.flags STATIC) = ap (λ (flags : ℕ). not (has flags STATIC)) is.flags in
    ap
    (λ (b : Bool). map (made c) (cond b ((k, f) ∷ filter is_instance_field (enumerate_from (k + 1) fs))
    (filter is_instance_field (enumerate_from (k + 1) fs)))) tests
    ∙ one_more c (not (has e.flags STATIC)) (k, f) (k, e) (filter is_instance_field (enumerate_from (k + 1) fs))
    (filter is_listed_instance (enumerate_from (k + 1) es)) words others

module _ (classes : List ClassRecord) (ordered : AreOrdered classes) (system : HaveSystemClasses classes) where
  -- the record of a system class, and its entry
  record Known (n : ℕ) : Type 0 where
    class : SystemClass
    listed_at : slice_get system_classes n ≡ Some class
    found : ClassRecord
    is_found : record_of classes (class_at n) ≡ Some found
    said : IsSystemRecord n class found

  known : (n : ℕ) → n < length system_classes → Known n
  known n low =
      let entry = item_there system_classes n low in
      let front = item_there (take (length system_classes) classes) n (rw (system.as_many) low) in
      record {
        class = entry.0;
        listed_at = entry.1;
        found = front.0;
        is_found = slice_get-from_take classes (length system_classes) n front.0 front.1;
        said = system.each n entry.0 front.0 entry.1 front.1;
      }

  own_listed : (n : ℕ) → Known n → own_fields classes (class_at n) ≡ listed_own n
  own_listed n k =
      ap
      (λ (o : Option ClassRecord). option_map_or
      (λ (r : ClassRecord). map (made (class_at n)) (filter is_instance_field (enumerate_from 0 r.fields))) o []) k.is_found
      ∙ own_same (class_at n) 0 k.found.fields k.class.fields k.said.field_count k.said.fields
      ∙ sym (ap
      (λ (o : Option SystemClass). option_map_or
      (λ (class : SystemClass). map (listed (class_at n)) (filter is_listed_instance (enumerate_from 0 class.fields))) o []) k.listed_at)

  -- ---- With its parent's.

  abbrev parent_list : Option ClassId → List ClassId
  parent_list o = option_map_or (λ (p : ClassId). p ∷ []) o []

  parents_known : (n : ℕ) (k : Known n) → parents_of classes (class_at n) ≡ parent_list k.found.parent
  parents_known n k = ap (λ (o : Option ClassRecord). option_map_or (λ (r : ClassRecord). parent_list r.parent) o []) k.is_found

  parent_numbered : (n : ℕ) (k : Known n) → option_and_then parent_number (slice_get system_classes n) ≡ option_map (λ (c : ClassId). c.0) k.found.parent
  parent_numbered n k = ap (λ (o : Option SystemClass). option_and_then parent_number o) k.listed_at ∙ sym k.said.parent

  parent_fields : (h : ℕ) (o : Option ClassId) → ((p : ClassId) → o ≡ Some p → instance_fields classes p ≡ listed_within h p.0)
      → flat_map (instance_fields classes) (parent_list o) ≡ option_map_or (listed_within h) (option_map (λ (c : ClassId). c.0) o) []
  parent_fields h None same = refl
  parent_fields h (Some p) same = append-nil (instance_fields classes p) ∙ same p refl

  fields_within_table : (h n : ℕ) → n < h → n < length system_classes → instance_fields classes (class_at n) ≡ listed_within h n
  fields_within_table zero n below low = absurd (omega (arith, below))
  fields_within_table (suc h) n below low =
      let k = known n low in
      let parents = parents_known n k in
      let up : (p : ClassId) → k.found.parent ≡ Some p → instance_fields classes p ≡ listed_within h p.0 =
      (λ p is.
      let only : parents_of classes (class_at n) ≡ p ∷ [] = parents ∙ ap parent_list is in
      let lower = parent-lower classes ordered (class_at n) p only in
      fields_within_table h p.0 (omega (arith, below, lower)) (omega (arith, low, lower))) in
      instance_fields-step classes ordered (class_at n)
      ∙ ap (λ (ps : List ClassId). flat_map (instance_fields classes) ps ++ own_fields classes (class_at n)) parents
      ∙ ap (λ (fields : List InstanceField). fields ++ own_fields classes (class_at n)) (parent_fields h k.found.parent up)
      ∙ ap (λ (o : Option ℕ). option_map_or (listed_within h) o [] ++ own_fields classes (class_at n)) (sym (parent_numbered n k))
      ∙ ap
      (λ (own : List InstanceField). option_map_or (listed_within h) (option_and_then parent_number (slice_get system_classes n)) [] ++ own)
      (own_listed n k)

  pub fields_listed : (c : ClassId) → c.0 < length system_classes → instance_fields classes c ≡ listed_fields c.0
  fields_listed c low = fields_within_table (c.0 + 1) c.0 (omega arith) low

  pub message_first : (c throwable : ClassId) → IsSystemNamed (codes "java/lang/Throwable") throwable → IsSubclass classes c throwable
      → (rest : List InstanceField) × (instance_fields classes c ≡ text_field throwable.0 ∷ rest)
  message_first c throwable named below =
      let number : throwable.0 ≡ 9 = sym (same_Some 9 throwable.0 named) in
      let message : listed_fields throwable.0 ≡ text_field throwable.0 ∷ [] =
      subst (λ (n : ℕ). listed_fields n ≡ text_field n ∷ []) (sym number) refl in
      let many : 45 ≡ length system_classes = refl in
      let front = layouts-begin classes ordered c throwable below in (
        front.0,
        front.1 ∙ ap (λ (fields : List InstanceField). fields ++ front.0) (fields_listed throwable (omega (arith, number, many)) ∙ message),
      )
