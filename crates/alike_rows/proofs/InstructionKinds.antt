-- Kinds of instructions on numbers, by their opcodes: each case of a row is of one kind, and no two cases are of the same but for
-- the quotients and what is raised in their place.
use Rattle.std.proofs.Common.{◌≡◌, ℕ, ◌+◌, ◌==◌, IsTrue, Bool, ℤ, List, [], ◌∷◌, find, refl, ap, ◌∙◌, inl, inr}
use Rattle.std.specs.List.{AllByRecursion}
use Rattle.std.specs.Option.{option_map_or}
use Rattle.list_lemmas.proofs.ItemsOfLists.{each-of}
use Rattle.jk_model.specs.declared.opcodes.TheConstants.{NOP, ACONST_NULL, LCONST_0, SIPUSH, LDC_W, LDC2_W, ILOAD, LLOAD, ALOAD, ISTORE, LSTORE, ASTORE, POP, POP2, DUP, DUP_X1, DUP_X2, DUP2, DUP2_X1, DUP2_X2, SWAP, IADD, LADD, ISUB, LSUB, IMUL, LMUL, IDIV, LDIV, IREM, LREM, INEG, LNEG, ISHL, LSHL, ISHR, LSHR, IUSHR, LUSHR, IAND, LAND, IOR, LOR, IXOR, LXOR, IINC, I2L, L2I, I2B, I2C, I2S, LCMP, IFEQ, IFNE, IFLT, IFGE, IFGT, IFLE, IF_ICMPEQ, IF_ICMPNE, IF_ICMPLT, IF_ICMPGE, IF_ICMPGT, IF_ICMPLE, IF_ACMPEQ, IF_ACMPNE, GOTO, TABLESWITCH, LOOKUPSWITCH, IRETURN, LRETURN, ARETURN, RETURN, IFNULL, IFNONNULL}
use Rattle.jk_model_classes.specs.MemberCode.{is_switch}
use Rattle.jk_model_domains.specs.NumberRows.{HasRow, comparisons, copies, drops, int_divisions, int_operations, is_load, is_return_of_value, is_store_of_top, long_divisions, long_operations, long_shifts}
use Rattle.alike_rows.proofs.RowsOfTables.{three_ways, two_ways}

pub data Kind : Type 0 where
  NoEntry : Kind
  NullEntry : Kind
  IntEntry : Kind
  LongEntry : Kind
  IntLink : Kind
  LongLink : Kind
  Dropping : Kind
  Copying : Kind
  Swapping : Kind
  OfInts : Kind
  IntQuotient : Kind
  OfLongs : Kind
  LongQuotient : Kind
  Shifting : Kind
  Comparing : Kind
  Converting : Kind
  Loading : Kind
  Storing : Kind
  Counting : Kind
  JumpOnInt : Kind
  JumpOnInts : Kind
  JumpIfSame : Kind
  JumpIfDifferent : Kind
  JumpIfNull : Kind
  JumpIfNoNull : Kind
  Jumping : Kind
  Switching : Kind
  ReturnOfValue : Kind
  ReturnOfNone : Kind
  Other : Kind

kinds : List (ℕ × Kind)
kinds =
    (NOP, NoEntry) ∷ (ACONST_NULL, NullEntry) ∷ (SIPUSH, IntEntry) ∷ (LCONST_0, LongEntry) ∷ (LDC_W, IntLink) ∷ (LDC2_W, LongLink)
    ∷ (POP, Dropping) ∷ (POP2, Dropping) ∷ (DUP, Copying) ∷ (DUP_X1, Copying) ∷ (DUP_X2, Copying) ∷ (DUP2, Copying)
    ∷ (DUP2_X1, Copying) ∷ (DUP2_X2, Copying) ∷ (SWAP, Swapping)
    ∷ (IADD, OfInts) ∷ (ISUB, OfInts) ∷ (IMUL, OfInts) ∷ (IAND, OfInts) ∷ (IOR, OfInts) ∷ (IXOR, OfInts) ∷ (ISHL, OfInts)
    ∷ (ISHR, OfInts) ∷ (IUSHR, OfInts) ∷ (IDIV, IntQuotient) ∷ (IREM, IntQuotient)
    ∷ (LADD, OfLongs) ∷ (LSUB, OfLongs) ∷ (LMUL, OfLongs) ∷ (LAND, OfLongs) ∷ (LOR, OfLongs) ∷ (LXOR, OfLongs)
    ∷ (LDIV, LongQuotient) ∷ (LREM, LongQuotient) ∷ (LSHL, Shifting) ∷ (LSHR, Shifting) ∷ (LUSHR, Shifting) ∷ (LCMP, Comparing)
    ∷ (INEG, Converting) ∷ (I2L, Converting) ∷ (I2B, Converting) ∷ (I2C, Converting) ∷ (I2S, Converting) ∷ (LNEG, Converting)
    ∷ (L2I, Converting)
    ∷ (ILOAD, Loading) ∷ (LLOAD, Loading) ∷ (ALOAD, Loading) ∷ (ISTORE, Storing) ∷ (LSTORE, Storing) ∷ (ASTORE, Storing) ∷ (IINC, Counting)
    ∷ (IFEQ, JumpOnInt) ∷ (IFNE, JumpOnInt) ∷ (IFLT, JumpOnInt) ∷ (IFGE, JumpOnInt) ∷ (IFGT, JumpOnInt) ∷ (IFLE, JumpOnInt)
    ∷ (IF_ICMPEQ, JumpOnInts) ∷ (IF_ICMPNE, JumpOnInts) ∷ (IF_ICMPLT, JumpOnInts) ∷ (IF_ICMPGE, JumpOnInts) ∷ (IF_ICMPGT, JumpOnInts)
    ∷ (IF_ICMPLE, JumpOnInts) ∷ (IF_ACMPEQ, JumpIfSame) ∷ (IF_ACMPNE, JumpIfDifferent) ∷ (IFNULL, JumpIfNull)
    ∷ (IFNONNULL, JumpIfNoNull) ∷ (GOTO, Jumping) ∷ (TABLESWITCH, Switching) ∷ (LOOKUPSWITCH, Switching)
    ∷ (IRETURN, ReturnOfValue) ∷ (LRETURN, ReturnOfValue) ∷ (ARETURN, ReturnOfValue) ∷ (RETURN, ReturnOfNone) ∷ []

pub kind_of : ℕ → Kind
kind_of op = option_map_or (λ (r : ℕ × Kind). r.1) (find (λ (r : ℕ × Kind). r.0 == op) kinds) Other

-- ---- Of one opcode.

module _ (op : ℕ) where
  pub of_nop : op ≡ NOP → kind_of op ≡ NoEntry
  unfolding kind_of kinds
  of_nop e = ap kind_of e

  pub of_null : op ≡ ACONST_NULL → kind_of op ≡ NullEntry
  unfolding kind_of kinds
  of_null e = ap kind_of e

  pub of_int : op ≡ SIPUSH → kind_of op ≡ IntEntry
  unfolding kind_of kinds
  of_int e = ap kind_of e

  pub of_long : op ≡ LCONST_0 → kind_of op ≡ LongEntry
  unfolding kind_of kinds
  of_long e = ap kind_of e

  pub of_int_link : op ≡ LDC_W → kind_of op ≡ IntLink
  unfolding kind_of kinds
  of_int_link e = ap kind_of e

  pub of_long_link : op ≡ LDC2_W → kind_of op ≡ LongLink
  unfolding kind_of kinds
  of_long_link e = ap kind_of e

  pub of_swap : op ≡ SWAP → kind_of op ≡ Swapping
  unfolding kind_of kinds
  of_swap e = ap kind_of e

  pub of_lcmp : op ≡ LCMP → kind_of op ≡ Comparing
  unfolding kind_of kinds
  of_lcmp e = ap kind_of e

  pub of_ineg : op ≡ INEG → kind_of op ≡ Converting
  unfolding kind_of kinds
  of_ineg e = ap kind_of e

  pub of_i2l : op ≡ I2L → kind_of op ≡ Converting
  unfolding kind_of kinds
  of_i2l e = ap kind_of e

  pub of_i2b : op ≡ I2B → kind_of op ≡ Converting
  unfolding kind_of kinds
  of_i2b e = ap kind_of e

  pub of_i2c : op ≡ I2C → kind_of op ≡ Converting
  unfolding kind_of kinds
  of_i2c e = ap kind_of e

  pub of_i2s : op ≡ I2S → kind_of op ≡ Converting
  unfolding kind_of kinds
  of_i2s e = ap kind_of e

  pub of_lneg : op ≡ LNEG → kind_of op ≡ Converting
  unfolding kind_of kinds
  of_lneg e = ap kind_of e

  pub of_l2i : op ≡ L2I → kind_of op ≡ Converting
  unfolding kind_of kinds
  of_l2i e = ap kind_of e

  pub of_iinc : op ≡ IINC → kind_of op ≡ Counting
  unfolding kind_of kinds
  of_iinc e = ap kind_of e

  pub of_acmpeq : op ≡ IF_ACMPEQ → kind_of op ≡ JumpIfSame
  unfolding kind_of kinds
  of_acmpeq e = ap kind_of e

  pub of_acmpne : op ≡ IF_ACMPNE → kind_of op ≡ JumpIfDifferent
  unfolding kind_of kinds
  of_acmpne e = ap kind_of e

  pub of_ifnull : op ≡ IFNULL → kind_of op ≡ JumpIfNull
  unfolding kind_of kinds
  of_ifnull e = ap kind_of e

  pub of_ifnonnull : op ≡ IFNONNULL → kind_of op ≡ JumpIfNoNull
  unfolding kind_of kinds
  of_ifnonnull e = ap kind_of e

  pub of_goto : op ≡ GOTO → kind_of op ≡ Jumping
  unfolding kind_of kinds
  of_goto e = ap kind_of e

  pub of_return : op ≡ RETURN → kind_of op ≡ ReturnOfNone
  unfolding kind_of kinds
  of_return e = ap kind_of e

  -- ---- Of one of some opcodes.

  pub of_load : IsTrue (is_load op) → kind_of op ≡ Loading
  unfolding kind_of kinds
  of_load h = elim (three_ways op ILOAD LLOAD ALOAD h) [
    | inl e ↦ ap kind_of e
    | inr (inl e) ↦ ap kind_of e
    | inr (inr e) ↦ ap kind_of e
  ]

  pub of_store : IsTrue (is_store_of_top op) → kind_of op ≡ Storing
  unfolding kind_of kinds
  of_store h = elim (three_ways op ISTORE LSTORE ASTORE h) [
    | inl e ↦ ap kind_of e
    | inr (inl e) ↦ ap kind_of e
    | inr (inr e) ↦ ap kind_of e
  ]

  pub of_value_return : IsTrue (is_return_of_value op) → kind_of op ≡ ReturnOfValue
  unfolding kind_of kinds
  of_value_return h = elim (three_ways op IRETURN LRETURN ARETURN h) [
    | inl e ↦ ap kind_of e
    | inr (inl e) ↦ ap kind_of e
    | inr (inr e) ↦ ap kind_of e
  ]

  pub of_switch : IsTrue (is_switch op) → kind_of op ≡ Switching
  unfolding kind_of kinds
  of_switch h = elim (two_ways op TABLESWITCH LOOKUPSWITCH h) [
    | inl e ↦ ap kind_of e
    | inr e ↦ ap kind_of e
  ]

  -- ---- Of the opcodes of a table.

  module _ {X : Type 0} (rows : List (ℕ × X)) (x : X) (k : Kind) where
    in_table : AllByRecursion (λ (r : ℕ × X). kind_of r.0 ≡ k) rows → HasRow rows op x → kind_of op ≡ k
    in_table all h = each-of (λ (r : ℕ × X). kind_of r.0 ≡ k) rows (op, x) all h

  pub of_drops : (n : ℕ) → HasRow drops op n → kind_of op ≡ Dropping
  unfolding kind_of kinds
  of_drops n h = in_table drops n Dropping (refl, (refl, tt)) h

  pub of_copies : (n : ℕ × ℕ) → HasRow copies op n → kind_of op ≡ Copying
  unfolding kind_of kinds
  of_copies n h = in_table copies n Copying (refl, (refl, (refl, (refl, (refl, (refl, tt)))))) h

  pub of_ints : (f : ℤ → ℤ → ℤ) → HasRow int_operations op f → kind_of op ≡ OfInts
  unfolding kind_of kinds
  of_ints f h = in_table int_operations f OfInts (refl, (refl, (refl, (refl, (refl, (refl, (refl, (refl, (refl, tt))))))))) h

  pub of_int_quotient : (f : ℤ → ℤ → ℤ) → HasRow int_divisions op f → kind_of op ≡ IntQuotient
  unfolding kind_of kinds
  of_int_quotient f h = in_table int_divisions f IntQuotient (refl, (refl, tt)) h

  pub of_longs : (f : ℤ → ℤ → ℤ) → HasRow long_operations op f → kind_of op ≡ OfLongs
  unfolding kind_of kinds
  of_longs f h = in_table long_operations f OfLongs (refl, (refl, (refl, (refl, (refl, (refl, tt)))))) h

  pub of_long_quotient : (f : ℤ → ℤ → ℤ) → HasRow long_divisions op f → kind_of op ≡ LongQuotient
  unfolding kind_of kinds
  of_long_quotient f h = in_table long_divisions f LongQuotient (refl, (refl, tt)) h

  pub of_shift : (f : ℤ → ℤ → ℤ) → HasRow long_shifts op f → kind_of op ≡ Shifting
  unfolding kind_of kinds
  of_shift f h = in_table long_shifts f Shifting (refl, (refl, (refl, tt))) h

  pub of_int_jump : (at : ℕ) (test : ℤ → ℤ → Bool) → HasRow comparisons at test → op ≡ IFEQ + at → kind_of op ≡ JumpOnInt
  unfolding kind_of kinds
  of_int_jump at test h e =
      let P : ℕ × (ℤ → ℤ → Bool) → Type 0 = λ r. kind_of (IFEQ + r.0) ≡ JumpOnInt in
      ap kind_of e ∙ each-of P comparisons (at, test) (refl, (refl, (refl, (refl, (refl, (refl, tt)))))) h

  pub of_ints_jump : (at : ℕ) (test : ℤ → ℤ → Bool) → HasRow comparisons at test → op ≡ IF_ICMPEQ + at → kind_of op ≡ JumpOnInts
  unfolding kind_of kinds
  of_ints_jump at test h e =
      let P : ℕ × (ℤ → ℤ → Bool) → Type 0 = λ r. kind_of (IF_ICMPEQ + r.0) ≡ JumpOnInts in
      ap kind_of e ∙ each-of P comparisons (at, test) (refl, (refl, (refl, (refl, (refl, (refl, tt)))))) h
