-- What a block owns, and what a `&` to it lends.
use Rattle.std.specs.Prelude.{ℕ, ◌+◌, ◌*◌, ◌^◌, List, [], ◌∷◌, length, Option, Some, None}
use base.Fraction.{full_share}
use base.Fml.{Lft, Fml, ftrue, ffalse, feq, flt, fsep, froom}
use mir.Syntax.{Ty, ty_int, ty_array, w32}
use mir.Raw.{raw}
use denote.Builtin.{u32}
use denote.Memory.{part_at, shared_of}
use denote.Sharing.{nothing, said, beside}
use denote.RawPtr.{Ptr, block_ptr, null_ptr}
use Rattle.std.specs.declared.alloc.Global.{Global}
use Rattle.std.specs.contracts.impls.GlobalAllocator.TheImpl.{ghosts}

-- One word, `o` bytes into the block `b`. Where it isn't readable, its four bytes are unknown.
abbrev pub word_at : ℕ → ℕ → Option ℕ → Fml
word_at b o (Some word) = part_at u32 full_share word b o
word_at b o None = froom (ty_int w32) b o

-- words side by side
abbrev pub words_at : ℕ → ℕ → List (Option ℕ) → Fml
words_at b o [] = ftrue
words_at b o (c ∷ cs) = fsep (word_at b o c) (words_at b (o + 4) cs)

abbrev pub word_lent : ℕ → ℕ → Option ℕ → Lft → Fml
word_lent b o (Some word) = shared_of u32 word b o
word_lent b o None = nothing

abbrev pub words_lent : ℕ → ℕ → List (Option ℕ) → Lft → Fml
words_lent b o [] = nothing
words_lent b o (c ∷ cs) = beside (word_lent b o c) (words_lent b (o + 4) cs)

-- Any value of `Global` will do: they are all alike, and the right to free a block doesn't tell them apart.
abbrev pub heap : Global
heap = record { memory = record { seal = tt } }

-- the type that the heap gave out `n` words for
abbrev pub shape_of : ℕ → Ty
shape_of n = raw (ty_array (ty_int w32) n)

-- `content` is all of the `n` words, and their bytes can be counted
abbrev pub measured : ℕ → List (Option ℕ) → Fml
measured n content = fsep (feq ℕ (length content) n) (flt (n * 4) (2 ^ 63))

-- the right to free the block of `n` words at a pointer
abbrev pub right : ℕ → Ptr → Fml
right n = ghosts.dealloc_token heap (shape_of n)

abbrev pub block_owned : Ptr → ℕ → List (Option ℕ) → Fml
block_owned (block_ptr b o) n content = fsep (measured n content) (fsep (words_at b o content) (right n (block_ptr b o)))
block_owned null_ptr n content = ffalse

abbrev pub block_lent : Ptr → ℕ → List (Option ℕ) → Lft → Fml
block_lent (block_ptr b o) n content = beside (said (measured n content)) (words_lent b o content)
block_lent null_ptr n content = said ffalse
