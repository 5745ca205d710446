-- The first row of the code's table with a name is the row of the definition.
use Rattle.std.proofs.Common.{◌≡◌, ℕ, Bool, true, false, cond, List, [], ◌∷◌, map, refl, sym, ap, ◌∙◌, Option, Some, None, bytes_eq, Bor}
use Rattle.std.specs.List.{find}
use Rattle.std.specs.Option.{option_map, option_copied}
use Rattle.asm_reader.specs.declared.mnemonics.Mnemonic as code
use Rattle.asm_reader.specs.Mnemonics.{Mnemonic, mnemonics, mnemonic_named}
use Rattle.asm_reader.specs.Rows.{row_of}

choice : {X Y : Type 0} (f : X → Y) (b : Bool) (x : X) (o : Option X) → cond b (Some (f x)) (option_map f o) ≡ option_map f (cond b (Some x) o)
choice f true x o = refl
choice f false x o = refl

-- what is found in a list of images is the image of what is found
pub find_map : {X Y : Type 0} (f : X → Y) (test : Y → Bool) (xs : List X) → find test (map f xs) ≡ option_map f (find (λ x. test (f x)) xs)
find_map f test [] = refl
find_map f test (x ∷ xs) = ap (λ o. cond (test (f x)) (Some (f x)) o) (find_map f test xs) ∙ choice f (test (f x)) x (find (λ y. test (f y)) xs)

copied_row : (r : Option (Bor code.Mnemonic)) → option_map row_of (option_copied r) ≡ option_map row_of (option_map (λ y. y.now) r)
copied_row None = refl
copied_row (Some y) = refl

-- the first row of a name, of a table that is the definition's
pub found_row : (name : List ℕ) (table : List code.Mnemonic) (r : Option (Bor code.Mnemonic)) (copied : Option code.Mnemonic)
    → map row_of table ≡ mnemonics → option_map (λ y. y.now) r ≡ find (λ m. bytes_eq m.name.now name) table → copied ≡ option_copied r
    → option_map row_of copied ≡ mnemonic_named name
found_row name table r copied same found is =
    let test : Mnemonic → Bool = λ m. bytes_eq m.name name in
    ap (λ o. option_map row_of o) is ∙ copied_row r ∙ ap (λ o. option_map row_of o) found
    ∙ sym (find_map row_of test table) ∙ ap (λ ms. find test ms) same
