-- The sorted numbers, each once, are those of the classes to which the file refers.
use Rattle.std.proofs.Common.{◌≡◌, ◌<◌, ℕ, List, [], inl, inr, refl, sym, ◌∙◌, ap, arith, subst, eqb, Option, Some, None}
use Rattle.std.specs.Prelude.{Contains, map, option_map, slice_get}
use Rattle.std.specs.List.{dedup}
use Rattle.std.specs.List.Sorted.{IsPermutation, IsSorted, IsStrictlyIncreasing}
use Rattle.std.specs.Ordering.{nat_cmp}
use Rattle.std.proofs.lemmas.List.Kept.{AllPairs-from_increasing, Contains-dedup_nat, Contains-from_dedup}
use Rattle.std.proofs.lemmas.List.Sorted.{Contains-permutation, IsPermutation-sym}
use Rattle.std.proofs.lemmas.Map.Keys.{IsStrictlyIncreasing-dedup}
use Rattle.std.proofs.lemmas.Option.{get_or_from_slice_get, slice_get-map, slice_get_within}
use Rattle.list_lemmas.proofs.ItemsOfLists.{Contains-at, place_of}
use Rattle.jk_model.specs.declared.class_file.ClassFile.{ClassFile}
use Rattle.jk_model.specs.declared.class_file.PoolEntry.TheVariants.{Class}
use Rattle.jk_model.specs.declared.identifiers.ClassId.{ClassId}
use Rattle.jk_model_classes.specs.LinkRules.{LinkScope}
use Rattle.jk_model_classes.specs.References.{RefersAt}
use Rattle.jk_model_classes.specs.Worlds.{NamedClass, class_named}
use Rattle.jk_model_folders.specs.LinkedClasses.{AreReferences}
use Rattle.class_linker.specs.KnownReferences.{Adds, RefersBy}
use Rattle.class_linker.specs.LinkedFiles.{HasNames}

none_there : (n : ℕ) → Contains [] n → ⊥
none_there n (k, within, at) = absurd (omega arith)

-- ---- A reference is by a text, and a text that is named is one of a reference.

by_text : (c : ClassFile) (j : ℕ) (name : List ℕ) → RefersAt c j name → (i : ℕ) × RefersBy c i name
by_text c j name (inl (units, (i, at, text), is)) = (i, (units, text, inl ((j, Class i, at, refl), is)))
by_text c j name (inr (units, descriptor, text, mentions)) = (j, (units, text, inr (descriptor, mentions)))

by_entry : (c : ClassFile) (i : ℕ) (name : List ℕ) → RefersBy c i name → (j : ℕ) × RefersAt c j name
by_entry c i name (units, text, inl ((j, e, at, same), is)) = (j, inl (units, (i, at ∙ ap Some same, text), is))
by_entry c i name (units, text, inr (descriptor, mentions)) = (i, inr (units, descriptor, text, mentions))

-- ---- The classes of numbers.

abbrev number : ClassId → ℕ
number class = class.0

one_class : (o : Option ClassId) (class : ClassId) → option_map number o ≡ Some class.0 → o ≡ Some class
one_class None class e = absurd cc
one_class (Some other) class e = let same : other.0 ≡ class.0 = cc in ap (λ (n : ℕ). Some (let k : ClassId = record { 0 = n } in k)) same

number_at : (list : List ClassId) (i : ℕ) (class : ClassId) → slice_get list i ≡ Some class → slice_get (map number list) i ≡ Some class.0
number_at list i class at = slice_get-map number list i ∙ ap (option_map number) at

has_number : (list : List ClassId) (class : ClassId) → Contains list class → Contains (map number list) class.0
has_number list class there =
    let at = place_of list class there in
    Contains-at (map number list) at.0 class.0 (number_at list at.0 class at.1)

has_class : (list : List ClassId) (class : ClassId) → Contains (map number list) class.0 → Contains list class
has_class list class there =
    let at = place_of (map number list) class.0 there in
    Contains-at list at.0 class (one_class (slice_get list at.0) class (sym (slice_get-map number list at.0) ∙ at.1))

rise : (numbers : List ℕ) → IsStrictlyIncreasing numbers → (j k a b : ℕ) → j < k → slice_get numbers j ≡ Some a → slice_get numbers k ≡ Some b → a < b
rise numbers up j k a b less at_a at_b =
    let below = slice_get_within numbers k b at_b in
    let pair = AllPairs-from_increasing numbers up j k 0 less below in
    omega (arith, pair, get_or_from_slice_get numbers j a 0 at_a, get_or_from_slice_get numbers k b 0 at_b)

-- ---- All of them.

references_are : (c : ClassFile) (names : List NamedClass) (s : LinkScope) (numbers once : List ℕ) (list : List ClassId) → HasNames names s
    → ((n : ℕ) → Contains numbers n → Contains once n) → ((n : ℕ) → Contains once n → Contains numbers n) → IsStrictlyIncreasing once
    → Adds (class_named names) (λ name. (i : ℕ) × RefersBy c i name) [] numbers → map (λ (class : ClassId). class.0) list ≡ once
    → AreReferences s c list
references_are c names s numbers once list same into out up adds is = record { each = each; all = all; rising = rising }
  where
    each : (class : ClassId) → Contains list class → (i : ℕ) × (name : List ℕ) × RefersAt c i name × (s.meaning name ≡ Some class)
    each class there =
        elim (adds.each class.0 (out class.0 (subst (λ (ns : List ℕ). Contains ns class.0) is (has_number list class there)))) [
          | inl old ↦ absurd (none_there class.0 old)
          | inr new ↦
              let entry = by_entry c new.1.0 new.0 new.1.1 in
              (entry.0, new.0, entry.1, same new.0 ∙ new.2)
        ]

    all : (i : ℕ) (name : List ℕ) (class : ClassId) → RefersAt c i name → s.meaning name ≡ Some class → Contains list class
    all i name class refers means =
        let text = by_text c i name refers in
        has_class list class
        (subst (λ (ns : List ℕ). Contains ns class.0) (sym is) (into class.0 (adds.all name class text (sym (same name) ∙ means))))

    rising : (j k : ℕ) (a b : ClassId) → j < k → slice_get list j ≡ Some a → slice_get list k ≡ Some b → a.0 < b.0
    rising j k a b less at_a at_b =
        rise once up j k a.0 b.0 less (subst (λ (ns : List ℕ). slice_get ns j ≡ Some a.0) is (number_at list j a at_a))
        (subst (λ (ns : List ℕ). slice_get ns k ≡ Some b.0) is (number_at list k b at_b))

-- ---- They are sorted, and those that stand there twice are left out.

pub references_sorted : (c : ClassFile) (names : List NamedClass) (numbers sorted once : List ℕ) (list : List ClassId)
    → Adds (class_named names) (λ name. (i : ℕ) × RefersBy c i name) [] numbers → IsPermutation numbers sorted → IsSorted nat_cmp sorted
    → once ≡ dedup eqb sorted → map (λ (class : ClassId). class.0) list ≡ once → (s : LinkScope) → HasNames names s → AreReferences s c list
references_sorted c names numbers sorted once list adds same_numbers up is classes s same =
    references_are c names s numbers once list same into out (subst (λ (ns : List ℕ). IsStrictlyIncreasing ns) (sym is) (IsStrictlyIncreasing-dedup sorted up))
    adds classes
  where
    into : (n : ℕ) → Contains numbers n → Contains once n
    into n there =
        subst (λ (ns : List ℕ). Contains ns n) (sym is) (Contains-dedup_nat sorted n (Contains-permutation numbers sorted n same_numbers there))

    out : (n : ℕ) → Contains once n → Contains numbers n
    out n there =
        Contains-permutation sorted numbers n (IsPermutation-sym numbers sorted same_numbers)
        (Contains-from_dedup eqb sorted n (subst (λ (ns : List ℕ). Contains ns n) is there))
