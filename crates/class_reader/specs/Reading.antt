-- What stands after the constant pool of a class file, and in the body of a Code attribute, read from left to
-- right: a value and the bytes after it, or none where the bytes end early.
use Rattle.std.specs.Prelude.{ℕ, List, Option}
use Rattle.std.specs.Int.{w16, w32}
use Rattle.jk_model.specs.declared.class_file.MemberInfo.{MemberInfo}
use Rattle.jk_model.specs.declared.class_file.Attribute.{Attribute}
use Rattle.jk_model.specs.declared.class_file.Handler.{Handler}
use Rattle.byte_fields.specs.Reading.{then_at, mapped_at, number_at, bytes_at, pair_at, block_at, counted_at}

-- ---- Attributes, members, handlers.

unfoldable pub attribute_at : List ℕ → Option (Attribute × List ℕ)
attribute_at bytes = mapped_at (λ p. record { name = p.0; body = p.1 }) (then_at (number_at w16) (λ _. block_at w32)) bytes

-- a count, and so many attributes
abbrev pub attributes_at : List ℕ → Option (List Attribute × List ℕ)
attributes_at bytes = counted_at attribute_at bytes

unfoldable pub member_at : List ℕ → Option (MemberInfo × List ℕ)
member_at bytes =
    mapped_at (λ p. record { flags = p.0.0; name = p.0.1.0; descriptor = p.0.1.1; attributes = p.1 })
    (then_at (then_at (number_at w16) (λ _. pair_at)) (λ _. attributes_at)) bytes

unfoldable pub handler_at : List ℕ → Option (Handler × List ℕ)
handler_at bytes =
    mapped_at (λ p. record { start = p.0.0; end = p.0.1; handler = p.1.0; catch = p.1.1 }) (then_at pair_at (λ _. pair_at)) bytes

-- ---- After the pool.

-- the flags, this class, and its super class
unfoldable pub header_at : List ℕ → Option ((ℕ × (ℕ × ℕ)) × List ℕ)
header_at bytes = then_at (number_at w16) (λ _. pair_at) bytes

-- interfaces, fields, methods, attributes
abbrev pub Parts : Type 0
Parts = List ℕ × (List MemberInfo × (List MemberInfo × List Attribute))

unfoldable pub parts_at : List ℕ → Option (Parts × List ℕ)
parts_at bytes =
    then_at (counted_at (number_at w16)) (λ _. then_at (counted_at member_at) (λ _. then_at (counted_at member_at) (λ _. attributes_at))) bytes

-- all of these
abbrev pub Sections : Type 0
Sections = (ℕ × (ℕ × ℕ)) × Parts

unfoldable pub sections_at : List ℕ → Option (Sections × List ℕ)
sections_at bytes = then_at header_at (λ _. parts_at) bytes

-- ---- The body of a Code attribute.

-- max_stack, max_locals, and the length of the code
unfoldable pub front_at : List ℕ → Option (((ℕ × ℕ) × ℕ) × List ℕ)
front_at bytes = then_at pair_at (λ _. number_at w32) bytes

-- the code, so long, and the handlers and attributes
unfoldable pub tables_at : ℕ → List ℕ → Option ((List ℕ × (List Handler × List Attribute)) × List ℕ)
tables_at n bytes = then_at (bytes_at n) (λ _. then_at (counted_at handler_at) (λ _. attributes_at)) bytes
