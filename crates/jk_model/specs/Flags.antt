-- Flags of classes and members (the Java Virtual Machine Specification, 4.1, 4.5, 4.6): the bits of the constants of
-- `AccessFlags`. Records keep bits, so that one without a name is kept too.
use Rattle.std.specs.Prelude.{ℕ, Bool, ◌==◌, bit_and}
use Rattle.jk_model.specs.declared.access.TheConstants.AccessFlags as named

-- the flag is set; bits that have no name are ignored
abbrev pub has : ℕ → ℕ → Bool
has flags flag = bit_and flags flag == flag

abbrev pub PUBLIC : ℕ
PUBLIC = named.PUBLIC.0

abbrev pub PRIVATE : ℕ
PRIVATE = named.PRIVATE.0

abbrev pub PROTECTED : ℕ
PROTECTED = named.PROTECTED.0

abbrev pub STATIC : ℕ
STATIC = named.STATIC.0

abbrev pub FINAL : ℕ
FINAL = named.FINAL.0

-- of a class, where it counts as set
abbrev pub SUPER : ℕ
SUPER = named.SUPER.0

-- of a method, by the same bit
abbrev pub SYNCHRONIZED : ℕ
SYNCHRONIZED = named.SYNCHRONIZED.0

-- of a field
abbrev pub VOLATILE : ℕ
VOLATILE = named.VOLATILE.0

-- of a field
abbrev pub TRANSIENT : ℕ
TRANSIENT = named.TRANSIENT.0

abbrev pub NATIVE : ℕ
NATIVE = named.NATIVE.0

abbrev pub INTERFACE : ℕ
INTERFACE = named.INTERFACE.0

abbrev pub ABSTRACT : ℕ
ABSTRACT = named.ABSTRACT.0

abbrev pub STRICT : ℕ
STRICT = named.STRICT.0
