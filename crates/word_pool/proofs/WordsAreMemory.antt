-- Words are memory, one by one and all at once: new memory is words, and words are memory again. Assumes `Logic`.
--     others      the words but for one
--     vacated, settled, seen      one word leaves a hole of four bytes, a hole is filled with a word, and a `&` to a block is one to a word that can be read
--     fresh, spent      new memory is words that can't be read, and words of any kind are memory again
--     handle, laid_out, begun, ended      the same of a block: the heap as a parameter, how large a block is, and what the heap gives for it
--         and gets back
use mathlib.Core.Path.{◌≡◌, refl, sym, ap, ◌∙◌}
use Prim.Native.Nat.{ℕ, zero, suc, ◌+◌, ◌*◌, ◌^◌, ◌<◌}
use native.Mathlib.Omega.{arith}
use mathlib.Core.List.{List, [], ◌∷◌}
use lib.ListN.{length, length-replicate, replicate}
use seplogic.Ra.Ura.{Ura}
use base.Fraction.{full_share}
use mir.Syntax.{Ty, ty_array, ty_int, w32}
use mir.Val.{vint}
use base.Logic.{ent, sep, emp, fst∗, id⊢, never, never_e}
use base.Fml.{Fml, Lft, ftrue, fsep, fat, froom}
use contract.Monad.{fact, fact_i}
use prog.Capped.{capped_is}
use prog.Memory.{capped}
use prog.RawLaws.{size-raw, align-raw}
use types.Logic.{Logic, sem}
use types.Kit.{‵, raw, ◌⊛◌, ◌$◌, ◌∵◌, !, qed, by, move, keep, drop, use0, use1, use2, split, fsplit, fjoin, feq_i, feq_l, flt_i, flt_l, frame, rewrite, done}
use denote.Builtin.{RefOf, u32}
use denote.Memory.{part_at, shared_of}
use denote.Plain.{uint_out}
use denote.RawPtr.{Ptr, block_ptr, null_ptr}
use denote.Signature.{Slot, plain}
use Rattle.std.specs.Prelude.{Option, Some, None, slice_get, slice_set}
use Rattle.std.specs.Allocator.{HasLayout, owned_block}
use Rattle.std.specs.contracts.alloc.Global.{the_row as Heap}
use Rattle.std.specs.contracts.impls.GlobalAllocator.TheImpl.{ghosts}
use Rattle.std.proofs.RawLayout.{as_raw, as_written}
use Rattle.word_pool.specs.Ownership.{word_at, words_at, word_lent, words_lent, heap, shape_of, right, block_owned}

abbrev pub cell : Ty
cell = ty_int w32

abbrev pub others : ℕ → ℕ → List (Option ℕ) → ℕ → Fml
others b o [] i = ftrue
others b o (c ∷ cs) zero = words_at b (o + 4) cs
others b o (c ∷ cs) (suc i) = fsep (word_at b o c) (others b (o + 4) cs i)

pub within : (cs : List (Option ℕ)) (i x : ℕ) → slice_get cs i ≡ Some (Some x) → i < length cs
within [] i x e = cc
within (c ∷ cs) zero x e = omega arith
within (c ∷ cs) (suc i) x e = let rest = within cs i x e in omega (arith, rest)

here : (o at : ℕ) → 0 * 4 + o ≡ at → o ≡ at
here o at e = omega (arith, e)

module _ {M : Type 1} {𝓤 : Ura M} (𝓛 : Logic 𝓤) (b : ℕ) where
  open 𝓛 use {H}

  hole : (o : ℕ) (c : Option ℕ) → ent 𝓤 (sem 𝓛 (word_at b o c)) (H.room cell b o)
  hole o None = id⊢ 𝓤 (H.room cell b o)
  hole o (Some x) =
      qed 𝓛 (‵ (word_at b o (Some x)) ∷ []) ∵ use1 𝓛 (‵ (fat full_share cell b o (vint w32 x))) (uint_out 𝓛 full_share w32 x b o) $
      by ! (𝓛.laws.at_room cell b o (vint w32 x))

  pub vacated : (o : ℕ) (cs : List (Option ℕ)) (i at : ℕ) → i * 4 + o ≡ at → i < length cs
      → ent 𝓤 (sem 𝓛 (words_at b o cs)) (sep 𝓤 (H.room cell b at) (sem 𝓛 (others b o cs i)))
  vacated o [] i at e lt = absurd (omega (arith, lt))
  vacated o (c ∷ cs) zero at e lt =
      qed 𝓛 (‵ (words_at b o (c ∷ cs)) ∷ []) ∵ fsplit ! $ use1 𝓛 (‵ (froom cell b o)) (hole o c) $
      rewrite ! 0 (λ (k : ℕ). ‵ (froom cell b k)) (here o at e) refl $ done !
  vacated o (c ∷ cs) (suc i) at e lt = qed 𝓛 (‵ (words_at b o (c ∷ cs)) ∷ []) ∵ fsplit ! $ move ! (1 ∷ []) $
      use1 𝓛 (‵ (froom cell b at) ⊛ ‵ (others b (o + 4) cs i)) (vacated (o + 4) cs i at (omega (arith, e)) (omega (arith, lt))) $
      split ! $ frame ! $ move ! (1 ∷ 0 ∷ []) $ fjoin ! $ done !

  pub settled : (o : ℕ) (cs : List (Option ℕ)) (i at x : ℕ) → i * 4 + o ≡ at → i < length cs
      → ent 𝓤 (sep 𝓤 (sem 𝓛 (part_at u32 full_share x b at)) (sem 𝓛 (others b o cs i))) (sem 𝓛 (words_at b o (slice_set cs i (Some x))))
  settled o [] i at x e lt = absurd (omega (arith, lt))
  settled o (c ∷ cs) zero at x e lt =
      qed 𝓛 (‵ (part_at u32 full_share x b at) ∷ ‵ (words_at b (o + 4) cs) ∷ []) ∵ rewrite ! 0
      (λ (k : ℕ). ‵ (part_at u32 full_share x b k)) (sym (here o at e)) refl $ fjoin ! $ done !
  settled o (c ∷ cs) (suc i) at x e lt =
      qed 𝓛 (‵ (part_at u32 full_share x b at) ∷ ‵ (others b o (c ∷ cs) (suc i)) ∷ []) ∵ move ! (1 ∷ []) $ fsplit ! $ move ! (2 ∷ 1 ∷ []) $
      use2 𝓛 (‵ (words_at b (o + 4) (slice_set cs i (Some x)))) (settled (o + 4) cs i at x (omega (arith, e)) (omega (arith, lt))) $
      move ! (1 ∷ 0 ∷ []) $ fjoin ! $ done !

  pub seen : (κ : Lft) (o : ℕ) (cs : List (Option ℕ)) (i at x : ℕ) → i * 4 + o ≡ at → slice_get cs i ≡ Some (Some x)
      → ent 𝓤 (sem 𝓛 (words_lent b o cs κ)) (sem 𝓛 (shared_of u32 x b at κ))
  seen κ o [] i at x e is = cc
  seen κ o (c ∷ cs) zero at x e is = let this : c ≡ Some x = cc in qed 𝓛 (‵ (words_lent b o (c ∷ cs) κ) ∷ []) ∵ fsplit ! $ move ! (1 ∷ []) $ drop ! $
      rewrite ! 0 (λ (y : Option ℕ). ‵ (word_lent b o y κ)) this refl $ rewrite ! 0 (λ (k : ℕ). ‵ (shared_of u32 x b k κ)) (here o at e) refl $ done !
  seen κ o (c ∷ cs) (suc i) at x e is = qed 𝓛 (‵ (words_lent b o (c ∷ cs) κ) ∷ []) ∵ fsplit ! $ drop ! $ by ! (seen κ (o + 4) cs i at x (omega (arith, e)) is)

  pub fresh : (n o : ℕ) → ent 𝓤 (H.room (ty_array cell n) b o) (sem 𝓛 (words_at b o (replicate n None)))
  fresh zero o = qed 𝓛 (‵ (froom (ty_array cell 0) b o) ∷ []) ∵ keep ! [] $ done !
  fresh (suc n) o =
      qed 𝓛 (‵ (froom (ty_array cell (suc n)) b o) ∷ []) ∵ use1 𝓛 (‵ (froom cell b o) ⊛ ‵ (froom (ty_array cell n) b (o + 4)))
      (𝓛.laws.room_uncons cell n b o) $ split ! $ frame ! $ by ! (fresh n (o + 4))

  pub spent : (cs : List (Option ℕ)) (o : ℕ) → ent 𝓤 (sem 𝓛 (words_at b o cs)) (H.room (ty_array cell (length cs)) b o)
  spent [] o = 𝓛.laws.room_nil cell b o
  spent (c ∷ cs) o = qed 𝓛 (‵ (words_at b o (c ∷ cs)) ∷ []) ∵ fsplit ! $ use1 𝓛 (‵ (froom cell b o)) (hole o c) $ move ! (1 ∷ []) $
      use1 𝓛 (‵ (froom (ty_array cell (length cs)) b (o + 4))) (spent cs (o + 4)) $ move ! (1 ∷ []) $ by ! (𝓛.laws.room_cons cell (length cs) b o)

-- a parameter `&Global`
abbrev pub handle : Slot 1
handle = RefOf (0 ∷ []) tt (plain (λ _. Heap)) (λ _. tt)

-- the heap's own way to say how large a block is
pub laid_out : (n : ℕ) → n * 4 < 2 ^ 63 → HasLayout (shape_of n) (n * 4) 4
laid_out n small =
    let size : n * 4 < 2 ^ 64 = omega arith in
    (ap capped (size-raw (ty_array cell n)) ∙ capped_is (n * 4) size, ap capped (align-raw (ty_array cell n)))

module _ {M : Type 1} {𝓤 : Ura M} (𝓛 : Logic 𝓤) (n : ℕ) where
  pub begun : (p : Ptr) → n * 4 < 2 ^ 63 → ent 𝓤 (sem 𝓛 (owned_block (ghosts.dealloc_token heap) (shape_of n) p)) (sem 𝓛 (block_owned p n (replicate n None)))
  begun null_ptr small = fst∗ 𝓤 (never 𝓤) (sem 𝓛 (right n null_ptr))
  begun (block_ptr b o) small =
      qed 𝓛 (‵ (fsep (froom (shape_of n) b o) (right n (block_ptr b o))) ∷ []) ∵ fsplit ! $ as_written ! (ty_array cell n) b o $
      use1 𝓛 (‵ (words_at b o (replicate n None))) (fresh 𝓛 b n o) $ fjoin ! $
      flt_i ! (n * 4) (2 ^ 63) small $ feq_i ! ℕ (length (replicate n None)) n (length-replicate n None) $ fjoin ! $ fjoin ! $ done !

  pub ended : (p : Ptr) (cs : List (Option ℕ))
      → ent 𝓤 (sem 𝓛 (block_owned p n cs)) (sep 𝓤 (fact 𝓤 (n * 4 < 2 ^ 63)) (sem 𝓛 (owned_block (ghosts.dealloc_token heap) (shape_of n) p)))
  ended null_ptr cs = never_e 𝓤 _
  ended (block_ptr b o) cs = qed 𝓛 (‵ (block_owned (block_ptr b o) n cs) ∷ []) ∵ fsplit ! $ fsplit ! $ feq_l ! (λ long. flt_l ! (λ small. fsplit ! $
      use1 𝓛 (‵ (froom (ty_array cell (length cs)) b o)) (spent 𝓛 b cs o) $
      rewrite ! 0 (λ (k : ℕ). ‵ (froom (ty_array cell k) b o)) long refl $ as_raw ! (ty_array cell n) b o $ fjoin ! $
      use0 𝓛 (raw (fact 𝓤 (n * 4 < 2 ^ 63))) (fact_i 𝓤 (n * 4 < 2 ^ 63) (emp 𝓤) small) $ done !))
