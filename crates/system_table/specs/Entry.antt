-- What the record of a system class says of the class.
use Rattle.std.specs.Prelude.{◌≡◌, ℕ, ◌+◌, Bool, List, map, length, Some, slice_get, bytes_eq}
use Rattle.std.specs.List.{range_with_len}
use Rattle.jk_model.specs.SystemTable as Table
use Rattle.jk_model.specs.SystemTable.{system_classes, parent_number, interface_numbers, first_method_number}
use Rattle.system_table.specs.declared.entry.SystemClass.{SystemClass}
use Rattle.system_table.specs.declared.entry.SystemField.{SystemField}
use Rattle.system_table.specs.declared.entry.SystemMethod.{SystemMethod}

abbrev pub field_of : SystemField → Table.SystemField
field_of f = record { name = f.name.now; descriptor = f.descriptor.now; flags = f.flags }

abbrev pub method_of : SystemMethod → Table.SystemMethod
method_of m = record { name = m.name.now; descriptor = m.descriptor.now; flags = m.flags }

-- the record is of this class, whose first method has this number
pub record Shows (e : Table.SystemClass) (first : ℕ) (c : SystemClass) : Type 0 where
  pub name : c.name.now ≡ e.name
  pub parent : c.parent ≡ parent_number e
  pub flags : c.flags ≡ e.flags
  pub interfaces : map (λ n. Some n) c.interfaces.now ≡ interface_numbers e
  pub closed : c.closed ≡ e.closed
  pub copiable : c.copiable ≡ e.copiable
  pub fields : map field_of c.fields.now ≡ e.fields
  pub methods : map method_of c.methods.now ≡ e.methods
  pub numbers : map (λ m. m.number) c.methods.now ≡ range_with_len first (length e.methods)

-- the record is of the class at a place of the table
abbrev pub IsEntry : ℕ → SystemClass → Type 0
IsEntry n c = (e : Table.SystemClass) × (slice_get system_classes n ≡ Some e) × Shows e (first_method_number n) c

-- each record is of the class at its place, the first of them at this one
pub record AreEntries (first : ℕ) (cs : List SystemClass) : Type 0 where
  pub each : (k : ℕ) (c : SystemClass) → slice_get cs k ≡ Some c → IsEntry (first + k) c

-- whether the class at a place of the table has this name
abbrev pub HasName : ℕ → List ℕ → Bool → Type 0
HasName n name answer = (e : Table.SystemClass) × (slice_get system_classes n ≡ Some e) × (answer ≡ bytes_eq e.name name)
