-- The code's records are of the classes of the table: both are compared whole, each as a row of plain values.
use Rattle.std.proofs.Common.{◌≡◌, ℕ, zero, suc, ◌+◌, ◌<◌, List, [], ◌∷◌, map, length, take, drop, refl, sym, ap, ◌∙◌, arith, zero-add, add-zero, suc-add, Option, Some, Bool, slice_get, slice_index_or, subst}
use Rattle.std.proofs.lemmas.List.Sums.{sum_by-cons}
use Rattle.std.proofs.lemmas.Option.{slice_get-map, slice_get-get_or}
use Rattle.std.specs.List.{range_with_len, sum_by}
use Rattle.std.specs.Option.{option_map}
use Rattle.jk_model.specs.SystemTable as Table
use Rattle.jk_model.specs.SystemTable.{system_classes, parent_number, interface_numbers, first_method_number}
use Rattle.system_table.specs.declared.entry.SystemClass.{SystemClass}
use Rattle.system_table.specs.Entry.{field_of, method_of, Shows, IsEntry, AreEntries}

pub record Row : Type 0 where
  pub name : List ℕ
  pub parent : Option ℕ
  pub flags : ℕ
  pub interfaces : List (Option ℕ)
  pub closed : Bool
  pub copiable : Bool
  pub fields : List Table.SystemField
  pub methods : List Table.SystemMethod
  pub numbers : List ℕ

-- what the code has of a class
abbrev pub shown : SystemClass → Row
shown c = record {
  name = c.name.now;
  parent = c.parent;
  flags = c.flags;
  interfaces = map (λ n. Some n) c.interfaces.now;
  closed = c.closed;
  copiable = c.copiable;
  fields = map field_of c.fields.now;
  methods = map method_of c.methods.now;
  numbers = map (λ m. m.number) c.methods.now;
}

-- what it should have, by the number of the class's first method
abbrev pub row : ℕ → Table.SystemClass → Row
row first e = record {
  name = e.name;
  parent = parent_number e;
  flags = e.flags;
  interfaces = interface_numbers e;
  closed = e.closed;
  copiable = e.copiable;
  fields = e.fields;
  methods = e.methods;
  numbers = range_with_len first (length e.methods);
}

-- the same for classes one after the other
abbrev pub rows : ℕ → List Table.SystemClass → List Row
rows first [] = []
rows first (e ∷ es) = row first e ∷ rows (first + length e.methods) es

pub same_row : (e : Table.SystemClass) (first : ℕ) (c : SystemClass) → shown c ≡ row first e → Shows e first c
same_row e first c h = record {
  name = ap (λ r. r.name) h;
  parent = ap (λ r. r.parent) h;
  flags = ap (λ r. r.flags) h;
  interfaces = ap (λ r. r.interfaces) h;
  closed = ap (λ r. r.closed) h;
  copiable = ap (λ r. r.copiable) h;
  fields = ap (λ r. r.fields) h;
  methods = ap (λ r. r.methods) h;
  numbers = ap (λ r. r.numbers) h;
}

-- ---- From rows to the records.

row_at : (es : List Table.SystemClass) (first n : ℕ) (r : Row) → slice_get (rows first es) n ≡ Some r
    → (e : Table.SystemClass) × (slice_get es n ≡ Some e) × (r ≡ row (first + sum_by (λ c. length c.methods) (take n es)) e)
row_at [] first n r h = absurd cc
row_at (e ∷ es) first zero r h =
    let same : row first e ≡ r = cc in
    (e, refl, sym same ∙ ap (λ k. row k e) (sym (add-zero first)))
row_at (e ∷ es) first (suc n) r h =
    let (found, at, same) = row_at es (first + length e.methods) n r h in
    let more : first + length e.methods + sum_by (λ c. length c.methods) (take n es) ≡ first + sum_by (λ c. length c.methods) (e ∷ take n es) =
    rw (sum_by-cons (λ c. length c.methods) e (take n es)) (omega arith) in
    (found, at, same ∙ ap (λ k. row k found) more)

in_taken : (rs : List Row) (m k : ℕ) (r : Row) → slice_get (take m rs) k ≡ Some r → slice_get rs k ≡ Some r
in_taken [] zero k r h = absurd cc
in_taken [] (suc m) k r h = absurd cc
in_taken (x ∷ rs) zero k r h = absurd cc
in_taken (x ∷ rs) (suc m) zero r h = h
in_taken (x ∷ rs) (suc m) (suc k) r h = in_taken rs m k r h

in_dropped : (rs : List Row) (start k : ℕ) (r : Row) → slice_get (drop start rs) k ≡ Some r → slice_get rs (start + k) ≡ Some r
in_dropped [] zero k r h = absurd cc
in_dropped [] (suc start) k r h = absurd cc
in_dropped (x ∷ rs) zero k r h = rw (zero-add k) h
in_dropped (x ∷ rs) (suc start) k r h = rw (suc-add start k) (in_dropped rs start k r h)

group_at : (cs : List SystemClass) (start m : ℕ) → map shown cs ≡ take m (drop start (rows 0 system_classes))
    → (k : ℕ) (c : SystemClass) → slice_get cs k ≡ Some c → IsEntry (start + k) c
group_at cs start m same k c at =
    let here : slice_get (map shown cs) k ≡ Some (shown c) = slice_get-map shown cs k ∙ ap (λ o. option_map shown o) at in
    let there : slice_get (take m (drop start (rows 0 system_classes))) k ≡ Some (shown c) = ap (λ rs. slice_get rs k) (sym same) ∙ here in
    let (e, is, same_rows) = row_at system_classes 0 (start + k) (shown c) (in_dropped _ start k _ (in_taken _ m k _ there)) in
    (e, is, same_row e (first_method_number (start + k)) c (same_rows ∙ ap (λ n. row n e) (zero-add (first_method_number (start + k)))))

-- the records of a group are of the classes of the table from a place on
pub group : (cs : List SystemClass) (start m : ℕ) → map shown cs ≡ take m (drop start (rows 0 system_classes)) → AreEntries start cs
group cs start m same = record { each = group_at cs start m same }

pub entry_at : (first : ℕ) (cs : List SystemClass) (k n : ℕ) (d : SystemClass) → AreEntries first cs → k < length cs → n ≡ first + k
    → IsEntry n (slice_index_or cs k d)
entry_at first cs k n d h below e =
    let c = slice_index_or cs k d in
    let found : IsEntry (first + k) c = h.each k c (slice_get-get_or cs k d below) in
    subst (λ m. IsEntry m c) (sym e) found
