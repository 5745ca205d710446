-- The sections of class files have one reading, and are not read only where the bytes end early: attributes,
-- members, handlers, what stands after the pool, and the tables of a Code attribute.
use Rattle.std.proofs.Common.{ℕ, ◌^◌, List, ◌++◌, length, Option, refl, append_assoc, arith}
use Rattle.std.specs.List.{AllByRecursion}
use Rattle.std.specs.Int.{w16, w32}
use Rattle.jk_model.specs.declared.class_file.MemberInfo.{MemberInfo}
use Rattle.jk_model.specs.declared.class_file.Attribute.{Attribute}
use Rattle.jk_model.specs.declared.class_file.Handler.{Handler}
use Rattle.jk_model.specs.ClassFile.{u2, u4, IsU2, IsU4, attribute_bytes, IsAttribute, attributes_bytes, AreAttributes, member_bytes, IsMember, members_bytes, AreMembers, interfaces_bytes, AreInterfaces, handler_bytes, IsHandler, handlers_bytes}
use Rattle.byte_fields.specs.Reading.{then_at, number_at, bytes_at, pair_at, block_at, counted_at}
use Rattle.byte_fields.specs.Layouts.{IsReader, FailsWithin, pair_bytes, IsPair, AreBytesOf, block_bytes, IsBlock}
use Rattle.byte_fields.specs.OneNumber.{wide32}
use Rattle.byte_fields.specs.OneReading.{next_reader, made_reader, u2_reader, u4_reader, itself, bytes_reader, pair_reader, block_reader, counted_reader}
use Rattle.byte_fields.specs.CutIsBeginning.{next_cut, made_cut, u2_cut, bytes_cut, pair_cut, block_cut, counted_cut}
use Rattle.class_reader.specs.Reading.{attribute_at, attributes_at, member_at, handler_at, header_at, Parts, parts_at, Sections, sections_at, front_at, tables_at}

-- ---- Attributes.

abbrev attribute_parts : Attribute → ℕ × List ℕ
attribute_parts a = (a.name, a.body)

abbrev attribute_of : ℕ × List ℕ → Attribute
attribute_of p = record { name = p.0; body = p.1 }

abbrev attribute_text : ℕ × List ℕ → List ℕ
attribute_text p = u2 p.0 ++ block_bytes w32 p.1

abbrev IsAttributeText : ℕ × List ℕ → Type 0
IsAttributeText p = IsU2 p.0 × IsBlock (2 ^ 32) p.1

pub attribute_reader : IsReader attribute_at attribute_bytes IsAttribute
unfolding attribute_at
attribute_reader =
    let block = block_reader w32 (2 ^ 32) wide32 in
    let both = next_reader (number_at w16) (block_at w32) u2 (block_bytes w32) IsU2 (IsBlock (2 ^ 32)) u2_reader block in
    made_reader attribute_of attribute_parts (then_at (number_at w16) (λ _. block_at w32)) attribute_text IsAttributeText attribute_bytes IsAttribute
    (λ _. refl) (λ _ _. refl) both (λ a h. (h.0, h.1.0, h.1.1)) (λ a h. (h.0, (h.1, h.2))) (λ a. simp append_assoc)

pub attribute_cut : FailsWithin attribute_at attribute_bytes IsAttribute
unfolding attribute_at
attribute_cut =
    let block = block_cut w32 (2 ^ 32) wide32 (omega arith) in
    let both = next_cut (number_at w16) (block_at w32) u2 (block_bytes w32) IsU2 (IsBlock (2 ^ 32)) u2_reader u2_cut block in
    made_cut attribute_of attribute_parts (then_at (number_at w16) (λ _. block_at w32)) attribute_text IsAttributeText attribute_bytes IsAttribute
    (λ _ _. refl) both (λ a h. (h.0, h.1.0, h.1.1)) (λ a. simp append_assoc)

pub attributes_reader : IsReader attributes_at attributes_bytes AreAttributes
attributes_reader = counted_reader attribute_at attribute_bytes IsAttribute attribute_reader

pub attributes_cut : FailsWithin attributes_at attributes_bytes AreAttributes
attributes_cut = counted_cut attribute_at attribute_bytes IsAttribute attribute_reader attribute_cut

-- ---- Three numbers: the flags and names of a member, and the flags and classes of a file.

abbrev pub Triple : Type 0
Triple = ℕ × (ℕ × ℕ)

abbrev pub triple_bytes : Triple → List ℕ
triple_bytes p = u2 p.0 ++ pair_bytes p.1

abbrev pub IsTriple : Triple → Type 0
IsTriple p = IsU2 p.0 × IsPair p.1

pub triple_reader : IsReader (then_at (number_at w16) (λ _. pair_at)) triple_bytes IsTriple
triple_reader = next_reader (number_at w16) pair_at u2 pair_bytes IsU2 IsPair u2_reader pair_reader

pub triple_cut : FailsWithin (then_at (number_at w16) (λ _. pair_at)) triple_bytes IsTriple
triple_cut = next_cut (number_at w16) pair_at u2 pair_bytes IsU2 IsPair u2_reader u2_cut pair_cut

-- ---- Fields and methods.

abbrev MemberParts : Type 0
MemberParts = Triple × List Attribute

abbrev member_parts : MemberInfo → MemberParts
member_parts m = ((m.flags, (m.name, m.descriptor)), m.attributes)

abbrev member_of : MemberParts → MemberInfo
member_of p = record { flags = p.0.0; name = p.0.1.0; descriptor = p.0.1.1; attributes = p.1 }

abbrev member_text : MemberParts → List ℕ
member_text p = triple_bytes p.0 ++ attributes_bytes p.1

abbrev IsMemberText : MemberParts → Type 0
IsMemberText p = IsTriple p.0 × AreAttributes p.1

abbrev triple_at : List ℕ → Option (Triple × List ℕ)
triple_at bytes = then_at (number_at w16) (λ _. pair_at) bytes

pub member_reader : IsReader member_at member_bytes IsMember
unfolding member_at
member_reader =
    let both = next_reader triple_at attributes_at triple_bytes attributes_bytes IsTriple AreAttributes triple_reader attributes_reader in
    made_reader member_of member_parts (then_at triple_at (λ _. attributes_at)) member_text IsMemberText member_bytes IsMember
    (λ _. refl) (λ _ _. refl) both (λ m h. (h.0.0, h.0.1.0, h.0.1.1, h.1)) (λ m h. ((h.0, (h.1, h.2)), h.3)) (λ m. simp append_assoc)

pub member_cut : FailsWithin member_at member_bytes IsMember
unfolding member_at
member_cut =
    let both = next_cut triple_at attributes_at triple_bytes attributes_bytes IsTriple AreAttributes triple_reader triple_cut attributes_cut in
    made_cut member_of member_parts (then_at triple_at (λ _. attributes_at)) member_text IsMemberText member_bytes IsMember
    (λ _ _. refl) both (λ m h. (h.0.0, h.0.1.0, h.0.1.1, h.1)) (λ m. simp append_assoc)

pub members_reader : IsReader (counted_at member_at) members_bytes AreMembers
members_reader = counted_reader member_at member_bytes IsMember member_reader

pub members_cut : FailsWithin (counted_at member_at) members_bytes AreMembers
members_cut = counted_cut member_at member_bytes IsMember member_reader member_cut

-- ---- Exception handlers.

abbrev HandlerParts : Type 0
HandlerParts = (ℕ × ℕ) × (ℕ × ℕ)

abbrev handler_parts : Handler → HandlerParts
handler_parts h = ((h.start, h.end), (h.handler, h.catch))

abbrev handler_of : HandlerParts → Handler
handler_of p = record { start = p.0.0; end = p.0.1; handler = p.1.0; catch = p.1.1 }

abbrev handler_text : HandlerParts → List ℕ
handler_text p = pair_bytes p.0 ++ pair_bytes p.1

abbrev IsHandlerText : HandlerParts → Type 0
IsHandlerText p = IsPair p.0 × IsPair p.1

pub handler_reader : IsReader handler_at handler_bytes IsHandler
unfolding handler_at
handler_reader =
    let both = next_reader pair_at pair_at pair_bytes pair_bytes IsPair IsPair pair_reader pair_reader in
    made_reader handler_of handler_parts (then_at pair_at (λ _. pair_at)) handler_text IsHandlerText handler_bytes IsHandler
    (λ _. refl) (λ _ _. refl) both (λ m h. (h.0.0, h.0.1, h.1.0, h.1.1)) (λ m h. ((h.0, h.1), (h.2, h.3))) (λ m. simp append_assoc)

pub handler_cut : FailsWithin handler_at handler_bytes IsHandler
unfolding handler_at
handler_cut =
    let both = next_cut pair_at pair_at pair_bytes pair_bytes IsPair IsPair pair_reader pair_cut pair_cut in
    made_cut handler_of handler_parts (then_at pair_at (λ _. pair_at)) handler_text IsHandlerText handler_bytes IsHandler
    (λ _ _. refl) both (λ m h. (h.0.0, h.0.1, h.1.0, h.1.1)) (λ m. simp append_assoc)

abbrev pub AreHandlers : List Handler → Type 0
AreHandlers hs = IsU2 (length hs) × AllByRecursion IsHandler hs

pub handlers_reader : IsReader (counted_at handler_at) handlers_bytes AreHandlers
handlers_reader = counted_reader handler_at handler_bytes IsHandler handler_reader

pub handlers_cut : FailsWithin (counted_at handler_at) handlers_bytes AreHandlers
handlers_cut = counted_cut handler_at handler_bytes IsHandler handler_reader handler_cut

-- ---- After the pool.

abbrev methods_bytes : List MemberInfo × List Attribute → List ℕ
methods_bytes p = members_bytes p.0 ++ attributes_bytes p.1

abbrev AreMethods : List MemberInfo × List Attribute → Type 0
AreMethods p = AreMembers p.0 × AreAttributes p.1

abbrev fields_bytes : List MemberInfo × (List MemberInfo × List Attribute) → List ℕ
fields_bytes p = members_bytes p.0 ++ methods_bytes p.1

abbrev AreFields : List MemberInfo × (List MemberInfo × List Attribute) → Type 0
AreFields p = AreMembers p.0 × AreMethods p.1

abbrev pub parts_bytes : Parts → List ℕ
parts_bytes p = interfaces_bytes p.0 ++ fields_bytes p.1

abbrev pub AreParts : Parts → Type 0
AreParts p = AreInterfaces p.0 × AreFields p.1

abbrev pub section_bytes : Sections → List ℕ
section_bytes p = triple_bytes p.0 ++ parts_bytes p.1

abbrev pub AreSections : Sections → Type 0
AreSections p = IsTriple p.0 × AreParts p.1

abbrev methods_at : List ℕ → Option ((List MemberInfo × List Attribute) × List ℕ)
methods_at bytes = then_at (counted_at member_at) (λ _. attributes_at) bytes

abbrev fields_at : List ℕ → Option ((List MemberInfo × (List MemberInfo × List Attribute)) × List ℕ)
fields_at bytes = then_at (counted_at member_at) (λ _. methods_at) bytes

abbrev interfaces_at : List ℕ → Option (List ℕ × List ℕ)
interfaces_at bytes = counted_at (number_at w16) bytes

pub section_reader : IsReader sections_at section_bytes AreSections
unfolding header_at parts_at sections_at
section_reader =
    let interfaces = counted_reader (number_at w16) u2 IsU2 u2_reader in
    let two = next_reader (counted_at member_at) attributes_at members_bytes attributes_bytes AreMembers AreAttributes members_reader attributes_reader in
    let one = next_reader (counted_at member_at) methods_at members_bytes methods_bytes AreMembers AreMethods members_reader two in
    let parts = next_reader interfaces_at fields_at interfaces_bytes fields_bytes AreInterfaces AreFields interfaces one in
    next_reader triple_at parts_at triple_bytes parts_bytes IsTriple AreParts triple_reader parts

pub section_cut : FailsWithin sections_at section_bytes AreSections
unfolding header_at parts_at sections_at
section_cut =
    let interfaces = counted_reader (number_at w16) u2 IsU2 u2_reader in
    let interfaces_end = counted_cut (number_at w16) u2 IsU2 u2_reader u2_cut in
    let two = next_cut (counted_at member_at) attributes_at members_bytes attributes_bytes AreMembers AreAttributes members_reader members_cut attributes_cut in
    let one = next_cut (counted_at member_at) methods_at members_bytes methods_bytes AreMembers AreMethods members_reader members_cut two in
    let parts = next_cut interfaces_at fields_at interfaces_bytes fields_bytes AreInterfaces AreFields interfaces interfaces_end one in
    next_cut triple_at parts_at triple_bytes parts_bytes IsTriple AreParts triple_reader triple_cut parts

-- ---- The body of a Code attribute.

abbrev pub Front : Type 0
Front = (ℕ × ℕ) × ℕ

abbrev pub front_bytes : Front → List ℕ
front_bytes p = pair_bytes p.0 ++ u4 p.1

abbrev pub IsFront : Front → Type 0
IsFront p = IsPair p.0 × IsU4 p.1

pub front_reader : IsReader front_at front_bytes IsFront
unfolding front_at
front_reader = next_reader pair_at (number_at w32) pair_bytes u4 IsPair IsU4 pair_reader u4_reader

abbrev pub Tables : Type 0
Tables = List ℕ × (List Handler × List Attribute)

abbrev handler_table_bytes : List Handler × List Attribute → List ℕ
handler_table_bytes p = handlers_bytes p.0 ++ attributes_bytes p.1

abbrev AreHandlerTables : List Handler × List Attribute → Type 0
AreHandlerTables p = AreHandlers p.0 × AreAttributes p.1

abbrev pub table_bytes : Tables → List ℕ
table_bytes p = p.0 ++ handler_table_bytes p.1

-- with a code of so many bytes
abbrev pub AreTables : ℕ → Tables → Type 0
AreTables n p = AreBytesOf n p.0 × AreHandlerTables p.1

abbrev handler_tables_at : List ℕ → Option ((List Handler × List Attribute) × List ℕ)
handler_tables_at bytes = then_at (counted_at handler_at) (λ _. attributes_at) bytes

pub tables_reader : (n : ℕ) → IsReader (tables_at n) table_bytes (AreTables n)
unfolding tables_at
tables_reader n =
    let one = next_reader (counted_at handler_at) attributes_at handlers_bytes attributes_bytes AreHandlers AreAttributes handlers_reader attributes_reader in
    next_reader (bytes_at n) handler_tables_at itself handler_table_bytes (AreBytesOf n) AreHandlerTables (bytes_reader n) one

pub tables_cut : (n : ℕ) → FailsWithin (tables_at n) table_bytes (AreTables n)
unfolding tables_at
tables_cut n =
    let one = next_cut (counted_at handler_at) attributes_at handlers_bytes attributes_bytes AreHandlers AreAttributes
    handlers_reader handlers_cut attributes_cut in
    next_cut (bytes_at n) handler_tables_at itself handler_table_bytes (AreBytesOf n) AreHandlerTables (bytes_reader n) (bytes_cut n) one
