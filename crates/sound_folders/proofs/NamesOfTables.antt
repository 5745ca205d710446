-- What a table of names says: a class has a name there where some name means it. Each system class is meant by its own name, and
-- none of these names begins as an array's does.
use Rattle.std.proofs.Common.{◌≡◌, ℕ, zero, suc, ◌+◌, Bool, true, false, not, ◌==◌, ◌&&◌, List, [], ◌∷◌, Option, Some, None, slice_get, Contains, refl, sym, ap, subst, ◌∙◌, arith, true≢false}
use Rattle.std.specs.Prelude.{bytes_eq, find, option_map}
use Rattle.std.proofs.lemmas.Bool.{and_parts, eqb-true}
use Rattle.std.proofs.lemmas.List.Quantifiers.{position-Some}
use Rattle.std.proofs.lemmas.Option.{same_Some, slice_get-get_or}
use Rattle.std.proofs.lemmas.Slice.Eq.{bytes_eq-Decides}
use Rattle.std.proofs.Math.ListN.{get_or}
use Rattle.list_lemmas.proofs.ItemsOfLists.{place_of}
use Rattle.list_lemmas.proofs.FoundItems.{finds, Finds}
use Rattle.jk_model.specs.declared.identifiers.ClassId.{ClassId}
use Rattle.jk_model.specs.SystemTable.{SystemClass, system_classes, number_named}
use Rattle.jk_model_classes.specs.ClassNames.{BeginsArray}
use Rattle.jk_model_classes.specs.SystemRecords.{system_meaning}
use Rattle.jk_model_classes.specs.Worlds.{NamedClass, class_named}

-- ---- Tables.

-- no name is there twice
abbrev pub NamesDiffer : List NamedClass → Type 0
NamesDiffer table =
    (i j : ℕ) (a b : NamedClass) → slice_get table i ≡ Some a → slice_get table j ≡ Some b → a.name ≡ b.name → i ≡ j

abbrev of_name : List ℕ → NamedClass → Bool
of_name name e = bytes_eq e.name name

pub meant-from : (table : List NamedClass) → NamesDiffer table → (name : List ℕ) (c : ClassId) → Contains table (record { name = name; class = c })
    → class_named table name ≡ Some c
meant-from table differ name c on = by (find (of_name name) table) (finds (of_name name) table)
  where
    at : (k : ℕ) × (slice_get table k ≡ Some (record { name = name; class = c }))
    at = place_of table (record { name = name; class = c }) on

    by : (o : Option NamedClass) → Finds (of_name name) table o → option_map (λ (n : NamedClass). n.class) o ≡ Some c
    by (Some n) h =
        let same : n.name ≡ name = (bytes_eq-Decides n.name name).0 h.2 in
        let here : h.0 ≡ at.0 = differ h.0 at.0 n (record { name = name; class = c }) h.1 at.1 same in
        let entry : Some n ≡ Some (record { name = name; class = c }) = sym h.1 ∙ ap (slice_get table) here ∙ at.1 in
        ap (option_map (λ (m : NamedClass). m.class)) entry
    by None h =
        let fails : bytes_eq name name ≡ false = h at.0 (record { name = name; class = c }) at.1 in
        absurd (true≢false (sym ((bytes_eq-Decides name name).1 refl) ∙ fails))

-- ---- The system classes.

abbrev begins : List ℕ → Bool
begins [] = false
begins (u ∷ us) = u == 91

abbrev is_numbered : ℕ → Option ℕ → Bool
is_numbered n None = false
is_numbered n (Some m) = m == n

-- each has the number that its name says, and no name is an array's
abbrev are_right : ℕ → List SystemClass → Bool
are_right n [] = true
are_right n (c ∷ cs) = is_numbered n (number_named c.name) && (not (begins c.name) && are_right (suc n) cs)

all_right : are_right 0 system_classes ≡ true
all_right = refl

some_number : (n : ℕ) (o : Option ℕ) → is_numbered n o ≡ true → o ≡ Some n
some_number n None e = absurd cc
some_number n (Some m) e = ap Some (eqb-true m n e)

no_array_by : (units rest : List ℕ) → not (begins units) ≡ true → units ≡ 91 ∷ rest → ⊥
no_array_by units rest e is = let wrong : not (begins (91 ∷ rest)) ≡ true = subst (λ (w : List ℕ). not (begins w) ≡ true) is e in absurd cc

abbrev IsRight : ℕ → SystemClass → Type 0
IsRight n c = (number_named c.name ≡ Some n) × (not (begins c.name) ≡ true)

right-at : (cs : List SystemClass) (k n : ℕ) (c : SystemClass) → are_right k cs ≡ true → slice_get cs n ≡ Some c → IsRight (k + n) c
right-at [] k n c right e = absurd cc
right-at (d ∷ cs) k zero c right e =
    let parts = and_parts (is_numbered k (number_named d.name)) (not (begins d.name) && are_right (suc k) cs) right in
    let number : k ≡ k + 0 = omega arith in
    let here : IsRight k d = (some_number k (number_named d.name) parts.0, (and_parts (not (begins d.name)) (are_right (suc k) cs) parts.1).0) in
    subst (λ (m : ℕ). IsRight m c) number (subst (λ (x : SystemClass). IsRight k x) (same_Some d c e) here)
right-at (d ∷ cs) k (suc n) c right e =
    let parts = and_parts (is_numbered k (number_named d.name)) (not (begins d.name) && are_right (suc k) cs) right in
    let number : suc k + n ≡ k + suc n = omega arith in
    subst (λ (m : ℕ). IsRight m c) number (right-at cs (suc k) n c (and_parts (not (begins d.name)) (are_right (suc k) cs) parts.1).1 e)

right : (n : ℕ) (c : SystemClass) → slice_get system_classes n ≡ Some c → IsRight n c
right n c e = let number : 0 + n ≡ n = omega arith in subst (λ (m : ℕ). IsRight m c) number (right-at system_classes 0 n c all_right e)

pub system_name : (c : ClassId) (entry : SystemClass) → slice_get system_classes c.0 ≡ Some entry → system_meaning entry.name ≡ Some c
system_name c entry e = ap (option_map (λ (n : ℕ). let x : ClassId = record { 0 = n } in x)) (right c.0 entry e).0

pub system_no_array : (n : ℕ) (entry : SystemClass) → slice_get system_classes n ≡ Some entry → BeginsArray entry.name → ⊥
system_no_array n entry e (rest, is) = no_array_by entry.name rest (right n entry e).1 is

abbrev called : List ℕ → SystemClass → Bool
called name entry = bytes_eq entry.name name

-- the name of a system class is that of its entry
pub system_meant : (name : List ℕ) (c : ClassId) → system_meaning name ≡ Some c
    → (entry : SystemClass) × (slice_get system_classes c.0 ≡ Some entry) × (entry.name ≡ name)
system_meant name c e = by (number_named name) refl e
  where
    at : (n : ℕ) → number_named name ≡ Some n → SystemClass
        → (entry : SystemClass) × (slice_get system_classes n ≡ Some entry) × (entry.name ≡ name)
    at n is default =
        let found = position-Some (called name) system_classes n default is in (
          get_or system_classes n default,
          slice_get-get_or system_classes n default found.0,
          (bytes_eq-Decides (get_or system_classes n default).name name).0 found.1,
        )

    first : SystemClass
    first = record { name = []; parent = None; flags = 0; interfaces = []; closed = false; copiable = false; fields = []; methods = [] }

    by : (o : Option ℕ) → number_named name ≡ o → option_map (λ (n : ℕ). let x : ClassId = record { 0 = n } in x) o ≡ Some c
        → (entry : SystemClass) × (slice_get system_classes c.0 ≡ Some entry) × (entry.name ≡ name)
    by (Some n) is class =
        let number : ClassId = record { 0 = n } in
        let same : n ≡ c.0 = ap (λ (x : ClassId). x.0) (same_Some number c class) in
        subst (λ (m : ℕ). (entry : SystemClass) × (slice_get system_classes m ≡ Some entry) × (entry.name ≡ name)) same (at n is first)
    by None is class = absurd cc
