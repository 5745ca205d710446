-- The nine objects of a domain that was just opened take 44 words: a PrintStream, and the standing throwables behind it.
use Rattle.std.proofs.Common.{◌≡◌, ℕ, zero, suc, ◌+◌, ◌*◌, ◌<◌, List, [], ◌∷◌, length, Contains, Some, slice_get, inl, inr, refl, sym, ap, subst, ◌∙◌, arith}
use Rattle.std.specs.List.{AllByRecursion}
use Rattle.std.proofs.lemmas.List.Sums.{sum_by-cons}
use Rattle.std.proofs.lemmas.Option.{same_Some}
use Rattle.list_lemmas.proofs.ItemsByPlace.{slice_get-nil}
use Rattle.list_lemmas.proofs.ItemsOfLists.{each-of}
use Rattle.jk_model.specs.declared.identifiers.ClassId.{ClassId}
use Rattle.jk_model.specs.declared.steps.Standing.{Standing}
use Rattle.jk_model.specs.declared.steps.Standing.TheVariants as Stands
use Rattle.jk_model.specs.SystemTable.{system_classes}
use Rattle.jk_model_classes.specs.declared.records.ClassRecord.{ClassRecord}
use Rattle.jk_model_classes.specs.Classes.{AreOrdered}
use Rattle.jk_model_classes.specs.Layouts.{HEADER_WORDS, InstanceField, cost_of, up_to_32_bits, words_of}
use Rattle.jk_model_domains.specs.Objects.{NamedObject, PRINT_STREAM, object_named, object_words}
use Rattle.jk_model_domains.specs.OwnStates.{OwnState}
use Rattle.jk_model_heaps.specs.Heaps.{heap_words, named}
use Rattle.jk_model_heaps.specs.SystemClasses.{NOT_COPIABLE_EXCEPTION, OUT_OF_MEMORY_ERROR, QUOTA_EXCEPTION, REMOTE_EXCEPTION, REVOKED_EXCEPTION, SECURITY_EXCEPTION, STACK_OVERFLOW_ERROR, THREAD_DEATH}
use Rattle.jk_model_heaps.specs.Throwables.{IsStanding, fresh_throwable, standing_class}
use Rattle.jk_model_openings.specs.OpenedDomains.{IsOpeningName}
use Rattle.heap_laws.specs.NamedObjects.{NamesDiffer}
use Rattle.system_facts.specs.SystemLayouts.{listed_fields}
use Rattle.system_facts.specs.SystemTypes.{HaveSystemClasses}
use Rattle.system_facts.proofs.FieldsListed.{fields_listed}

-- of the standing throwables, in the order of their places
abbrev pub throwables : List ClassId
throwables =
    OUT_OF_MEMORY_ERROR ∷ STACK_OVERFLOW_ERROR ∷ REVOKED_EXCEPTION ∷ QUOTA_EXCEPTION ∷ NOT_COPIABLE_EXCEPTION ∷ REMOTE_EXCEPTION ∷ THREAD_DEATH
    ∷ SECURITY_EXCEPTION ∷ []

-- the names that they get, in the same order: the PrintStream has the name 0
abbrev pub throwable_names : List ℕ
throwable_names = 1 ∷ 2 ∷ 3 ∷ 4 ∷ 5 ∷ 6 ∷ 7 ∷ 8 ∷ []

module _ (classes : List ClassRecord) where
  -- new objects of these classes, under names in order from this one on
  abbrev pub objects_from : ℕ → List ClassId → List NamedObject
  objects_from n [] = []
  objects_from n (c ∷ cs) = named n (fresh_throwable classes c) ∷ objects_from (suc n) cs

  abbrev pub first_objects : List NamedObject
  first_objects = objects_from 0 (PRINT_STREAM ∷ throwables)

  -- ---- Their names are their places.

  name_from : (n : ℕ) (cs : List ClassId) (i : ℕ) (e : NamedObject) → slice_get (objects_from n cs) i ≡ Some e → e.name ≡ n + i
  name_from n [] i e at = absurd (slice_get-nil i e at)
  name_from n (c ∷ cs) zero e at = ap (λ (x : NamedObject). x.name) (sym (same_Some _ e at)) ∙ omega arith
  name_from n (c ∷ cs) (suc i) e at = name_from (suc n) cs i e at ∙ omega arith

  pub first_names_differ : NamesDiffer first_objects
  first_names_differ i j a b first second same =
      let left = name_from 0 (PRINT_STREAM ∷ throwables) i a first in
      let right = name_from 0 (PRINT_STREAM ∷ throwables) j b second in
      omega (arith, left, right, same)

  -- ---- What they cost.

  abbrev Costs : ℕ → ClassId → Type 0
  Costs words c = cost_of classes c ≡ words

  words_from : (words n : ℕ) (cs : List ClassId) → AllByRecursion (Costs words) cs
      → heap_words classes (objects_from n cs) ≡ words * length cs
  words_from words n [] all = omega arith
  words_from words n (c ∷ cs) all =
      let rest = words_from words (suc n) cs all.1 in
      let one = sum_by-cons (λ (e : NamedObject). object_words classes e.object) (named n (fresh_throwable classes c)) (objects_from (suc n) cs) in
      let more : words * suc (length cs) ≡ words + words * length cs = omega arith in
      one ∙ ap (λ (k : ℕ). k + heap_words classes (objects_from (suc n) cs)) all.0 ∙ ap (λ (k : ℕ). words + k) rest ∙ sym more

  module _ (ordered : AreOrdered classes) (system : HaveSystemClasses classes) where
    cost_by : (n words : ℕ) → n < length system_classes → up_to_32_bits (words_of (listed_fields n) + HEADER_WORDS) ≡ words
        → Costs words (record { 0 = n })
    cost_by n words low is =
        ap (λ (fields : List InstanceField). up_to_32_bits (words_of fields + HEADER_WORDS))
        (fields_listed classes ordered system (record { 0 = n }) low) ∙ is

    each_throwable : AllByRecursion (Costs 5) throwables
    each_throwable =
        let many : length system_classes ≡ 45 = refl in (
          cost_by 40 5 (omega (arith, many)) refl,
          (
            cost_by 41 5 (omega (arith, many)) refl,
            (
              cost_by 42 5 (omega (arith, many)) refl,
              (
                cost_by 43 5 (omega (arith, many)) refl,
                (
                  cost_by 44 5 (omega (arith, many)) refl,
                  (
                    cost_by 18 5 (omega (arith, many)) refl,
                    (cost_by 34 5 (omega (arith, many)) refl, (cost_by 27 5 (omega (arith, many)) refl, tt)),
                  ),
                ),
              ),
            ),
          ),
        )

    pub first_words : heap_words classes first_objects ≡ 44
    first_words =
        let many : length system_classes ≡ 45 = refl in
        let stream : cost_of classes PRINT_STREAM ≡ 4 = cost_by 6 4 (omega (arith, many)) refl in
        let others : heap_words classes (objects_from 1 throwables) ≡ 40 = words_from 5 1 throwables each_throwable in
        let all = sum_by-cons (λ (e : NamedObject). object_words classes e.object) (named 0 (fresh_throwable classes PRINT_STREAM))
        (objects_from 1 throwables) in
        all ∙ ap (λ (k : ℕ). k + heap_words classes (objects_from 1 throwables)) stream ∙ ap (λ (k : ℕ). 4 + k) others

  -- ---- Each is the PrintStream or stands.

  module _ (own : OwnState) (out : own.out ≡ 0) (stand : own.standing ≡ throwable_names) where
    stands_as : (n i : ℕ) → slice_get throwable_names i ≡ Some n → slice_get own.standing i ≡ Some n
    stands_as n i at = subst (λ (ns : List ℕ). slice_get ns i ≡ Some n) (sym stand) at

    pub first_standing : (s : Standing)
        → (a : ℕ) × IsStanding own s a × (object_named first_objects a ≡ Some (fresh_throwable classes (standing_class s)))
    first_standing Stands.OutOfMemoryError = (1, stands_as 1 0 refl, refl)
    first_standing Stands.StackOverflowError = (2, stands_as 2 1 refl, refl)
    first_standing Stands.Revoked = (3, stands_as 3 2 refl, refl)
    first_standing Stands.Quota = (4, stands_as 4 3 refl, refl)
    first_standing Stands.NotCopiable = (5, stands_as 5 4 refl, refl)
    first_standing Stands.Remote = (6, stands_as 6 5 refl, refl)
    first_standing Stands.ThreadDeath = (7, stands_as 7 6 refl, refl)
    first_standing Stands.Security = (8, stands_as 8 7 refl, refl)

    abbrev HasName : NamedObject → Type 0
    HasName e = IsOpeningName own e.name

    last_named : AllByRecursion HasName (objects_from 5 (NOT_COPIABLE_EXCEPTION ∷ REMOTE_EXCEPTION ∷ THREAD_DEATH ∷ SECURITY_EXCEPTION ∷ []))
    last_named = (
      inr (Stands.NotCopiable, stands_as 5 4 refl),
      (
        inr (Stands.Remote, stands_as 6 5 refl),
        (inr (Stands.ThreadDeath, stands_as 7 6 refl), (inr (Stands.Security, stands_as 8 7 refl), tt)),
      ),
    )

    all_named : AllByRecursion HasName first_objects
    all_named = (
      inl (sym out),
      (
        inr (Stands.OutOfMemoryError, stands_as 1 0 refl),
        (
          inr (Stands.StackOverflowError, stands_as 2 1 refl),
          (inr (Stands.Revoked, stands_as 3 2 refl), (inr (Stands.Quota, stands_as 4 3 refl), last_named)),
        ),
      ),
    )

    pub first_nothing_else : (e : NamedObject) → Contains first_objects e → IsOpeningName own e.name
    first_nothing_else e has = each-of HasName first_objects e all_named has
