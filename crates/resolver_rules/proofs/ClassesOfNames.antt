-- What a table says of a name is what its one entry of that name says; and which entries system classes have.
use Rattle.std.proofs.Common.{◌≡◌, ℕ, zero, suc, ◌<◌, Bool, true, false, nat_lt, List, [], ◌∷◌, length, refl, sym, ◌∙◌, ap, arith, Option, Some, None, slice_get, get_or}
use Rattle.std.specs.Prelude.{Contains}
use Rattle.std.specs.List.{position_or_len}
use Rattle.std.specs.Option.{option_map}
use Rattle.std.specs.Str.{bytes_eq}
use Rattle.std.proofs.lemmas.Bool.{ltb-true}
use Rattle.std.proofs.lemmas.List.Sums.{passes_at_first}
use Rattle.std.proofs.lemmas.Option.{cond_some, get_or_from_slice_get, same_Some}
use Rattle.std.proofs.lemmas.Slice.Eq.{bytes_eq-Decides}
use Rattle.list_lemmas.proofs.ItemsOfLists.{stands_at, Contains-there}
use Rattle.jk_model.specs.declared.identifiers.ClassId.{ClassId}
use Rattle.jk_model.specs.SystemTable.{SystemClass, system_classes, number_named}
use Rattle.jk_model_classes.specs.SystemRecords.{system_meaning}
use Rattle.jk_model_classes.specs.Worlds.{NamedClass, class_named}
use Rattle.resolver_rules.specs.Imported.{NamesDiffer}

-- ---- What is in a list.

pub same_class : (a b : ClassId) → a.0 ≡ b.0 → a ≡ b
same_class a b e = let of : (m n : ℕ) → m ≡ n → (let x : ClassId = record { 0 = m } in x) ≡ record { 0 = n } = λ m n q. cc in of a.0 b.0 e

-- ---- Names of a table.

pub named_entry : (t : List NamedClass) (name : List ℕ) (c : ClassId) → class_named t name ≡ Some c → Contains t (record { name = name; class = c })
named_entry [] name c e = absurd cc
named_entry (x ∷ t) name c e = by_test (bytes_eq x.name name) refl (named_entry t name c)
  where
    by_test : (b : Bool) → bytes_eq x.name name ≡ b → (class_named t name ≡ Some c → Contains t (record { name = name; class = c }))
        → Contains (x ∷ t) (record { name = name; class = c })
    by_test true same later =
        let class : Some x.class ≡ Some c = rw same at e in
        let named : x.name ≡ name = (bytes_eq-Decides x.name name).0 same in
        let of : (m n : List ℕ) (a b : ClassId) → m ≡ n → a ≡ b → (let z : NamedClass = record { name = m; class = a } in z) ≡ record { name = n; class = b } =
        λ m n a b p q. cc in
        (0, omega arith, of x.name name x.class c named (same_Some x.class c class))
    by_test false other later = Contains-there (record { name = name; class = c }) x t (later (rw other at e))

-- the two classes of one name
pub same_meaning : (t : List NamedClass) (name : List ℕ) (a b : ClassId) → NamesDiffer t → Contains t (record { name = name; class = a })
    → Contains t (record { name = name; class = b }) → a ≡ b
same_meaning t name a b differ has_a has_b =
    let x : NamedClass = record { name = name; class = a } in
    let y : NamedClass = record { name = name; class = b } in
    let i = stands_at t x has_a in
    let j = stands_at t y has_b in
    let place = differ i.0 j.0 x y i.2 j.2 refl in
    let same : x ≡ y = same_Some x y (sym i.2 ∙ ap (slice_get t) place ∙ j.2) in
    ap (λ (e : NamedClass). e.class) same

some_meaning : (t : List NamedClass) (k : ℕ) (name : List ℕ) (c : ClassId) → slice_get t k ≡ Some (record { name = name; class = c })
    → (found : ClassId) × (class_named t name ≡ Some found)
some_meaning [] k name c at = absurd cc
some_meaning (x ∷ t) zero name c at =
    let x_is : x ≡ record { name = name; class = c } = same_Some x _ at in
    let same : bytes_eq x.name name ≡ true = (bytes_eq-Decides x.name name).1 (ap (λ (e : NamedClass). e.name) x_is) in
    (x.class, rw same refl)
some_meaning (x ∷ t) (suc k) name c at = by_test (bytes_eq x.name name) refl (some_meaning t k name c at)
  where
    by_test : (b : Bool) → bytes_eq x.name name ≡ b → (found : ClassId) × (class_named t name ≡ Some found)
        → (found : ClassId) × (class_named (x ∷ t) name ≡ Some found)
    by_test true same later = (x.class, rw same refl)
    by_test false other later = (later.0, rw other later.1)

pub entry_named : (t : List NamedClass) (name : List ℕ) (c : ClassId) → NamesDiffer t → Contains t (record { name = name; class = c })
    → class_named t name ≡ Some c
entry_named t name c differ has =
    let at = stands_at t _ has in
    let found = some_meaning t at.0 name c at.2 in
    let same = same_meaning t name found.0 c differ (named_entry t name found.0 found.1) has in
    found.1 ∙ ap Some same

-- ---- System classes.

-- the class at the place that a name has
pub class_at : (name : List ℕ) (n : ℕ) → number_named name ≡ Some n → (n < length system_classes)
    × ((e : SystemClass) → slice_get system_classes n ≡ Some e → e.name ≡ name)
class_at name n found =
    let p : SystemClass → Bool = λ c. bytes_eq c.name name in
    let (inside, is) = cond_some (nat_lt (position_or_len p system_classes) (length system_classes)) (position_or_len p system_classes) n found in
    let low : position_or_len p system_classes < length system_classes = ltb-true _ _ inside in (
      rw (← is) low,
      λ e at. (
          let passes = passes_at_first p system_classes e low in
          let here : get_or system_classes (position_or_len p system_classes) e ≡ e = rw is (get_or_from_slice_get system_classes n e e at) in
          (bytes_eq-Decides e.name name).0 (rw here at passes)),
    )

number_of : (o : Option ℕ) (c : ClassId) → option_map (λ (n : ℕ). let x : ClassId = record { 0 = n } in x) o ≡ Some c → o ≡ Some c.0
number_of None c e = absurd cc
number_of (Some n) c e =
    let same : (let x : ClassId = record { 0 = n } in x) ≡ c = same_Some _ c e in
    ap (λ (x : ClassId). Some x.0) same

pub meaning_number : (name : List ℕ) (c : ClassId) → system_meaning name ≡ Some c → number_named name ≡ Some c.0
meaning_number name c e = number_of (number_named name) c e

pub number_meaning : (name : List ℕ) (n : ℕ) → number_named name ≡ Some n → system_meaning name ≡ Some (record { 0 = n })
number_meaning name n e = ap (option_map (λ (n : ℕ). let x : ClassId = record { 0 = n } in x)) e
