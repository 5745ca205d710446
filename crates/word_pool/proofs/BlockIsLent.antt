-- A `&` to a block is a `&` to each of its words that can be read. Assumes `Logic`.
use mathlib.Core.Path.{refl}
use Prim.Native.Nat.{ℕ, ◌+◌}
use Rattle.std.specs.Prelude.{List, [], ◌∷◌, Option, Some, None}
use seplogic.Ra.Ura.{Ura}
use mir.Syntax.{w32}
use base.Fml.{ftrue, ffalse, fsep}
use types.Logic.{Logic}
use denote.Builtin.{u32}
use denote.RawPtr.{Ptr, block_ptr, null_ptr}
use denote.Sharing.{ShrLaws, said}
use denote.SharingLaws.{beside_shr_laws, nothing_shr_laws, said_shr_laws}
use denote.Plain.{uint_row_laws}
use denote.Param.Laws.{Laws, of_field}
use denote.Param.Shared.{copy_shared}
use denote.Struct.Field.{u32-field}
use denote.Struct.Laws.{u32-laws, u32-copy}
use denote.Struct.Lending.{Lends, Lends-both, Lends-first, Lends-nothing, Lends-said, Lends-false}
use Rattle.word_pool.specs.Ownership.{word_at, words_at, word_lent, words_lent, measured, right, block_owned, block_lent}

word_lent_laws : (b o : ℕ) (c : Option ℕ) → ShrLaws (word_lent b o c)
word_lent_laws b o (Some x) = uint_row_laws w32 x b o
word_lent_laws b o None = nothing_shr_laws

words_lent_laws : (b o : ℕ) (cs : List (Option ℕ)) → ShrLaws (words_lent b o cs)
words_lent_laws b o [] = nothing_shr_laws
words_lent_laws b o (c ∷ cs) = beside_shr_laws _ _ (word_lent_laws b o c) (words_lent_laws b (o + 4) cs)

pub block_lent_laws : (p : Ptr) (n : ℕ) (cs : List (Option ℕ)) → ShrLaws (block_lent p n cs)
block_lent_laws (block_ptr b o) n cs = beside_shr_laws _ _ (said_shr_laws (measured n cs) (tt, tt)) (words_lent_laws b o cs)
block_lent_laws null_ptr n cs = said_shr_laws ffalse tt

abbrev u32_laws : Laws u32
u32_laws = of_field u32-field u32-laws refl (copy_shared u32-field u32-copy)

module _ {M : Type 1} {𝓤 : Ura M} (𝓛 : Logic 𝓤) where
  Lends-word : (b o : ℕ) (c : Option ℕ) → Lends 𝓛 (word_at b o c) (word_lent b o c) []
  Lends-word b o (Some x) = λ κ ts. u32_laws.shares 𝓛 x κ ts b o
  Lends-word b o None = Lends-nothing 𝓛 (word_at b o None) []

  Lends-words : (b o : ℕ) (cs : List (Option ℕ)) → Lends 𝓛 (words_at b o cs) (words_lent b o cs) []
  Lends-words b o [] = Lends-nothing 𝓛 ftrue []
  Lends-words b o (c ∷ cs) =
      Lends-both 𝓛 (word_at b o c) (words_at b (o + 4) cs) (word_lent b o c) (words_lent b (o + 4) cs) [] (Lends-word b o c) (Lends-words b (o + 4) cs)

  pub Lends-block : (p : Ptr) (n : ℕ) (cs : List (Option ℕ)) → Lends 𝓛 (block_owned p n cs) (block_lent p n cs) []
  Lends-block (block_ptr b o) n cs =
      Lends-both 𝓛 (measured n cs) (fsep (words_at b o cs) (right n (block_ptr b o))) (said (measured n cs))
      (words_lent b o cs) [] (Lends-said 𝓛 (measured n cs) (tt, tt) [])
      (Lends-first 𝓛 (words_at b o cs) (right n (block_ptr b o)) (words_lent b o cs) [] (Lends-words b o cs))
  Lends-block null_ptr n cs = Lends-false 𝓛 (said ffalse) []
