-- A code is one list of instructions.
use Rattle.std.proofs.Common.{◌≡◌, ℕ, ◌+◌, List, [], ◌∷◌, ◌++◌, length, refl, sym, ap, subst, ◌∙◌, append_assoc, length-append, arith}
use Rattle.std.specs.Prelude.{pos, ◌+ℤ◌, ◌-ℤ◌, flat_map, map}
use Rattle.std.specs.List.{AllByRecursion}
use Rattle.std.specs.Int.{w8, w32, cast_signed, from_be_bytes}
use Rattle.list_lemmas.proofs.EndsOfLists.{cancel, front_of, front_of_pairs, tail_is, head_is}
use Rattle.list_lemmas.proofs.TestsAndOrders.{same_pos}
use Rattle.jk_model.specs.declared.instructions.Instr.{Instr}
use Rattle.jk_model.specs.ClassFile.{u4, IsU4}
use Rattle.jk_model.specs.Instructions.{AreInstrs, Decodes, Format, IsInstr, IsLookupSwitch, IsPair, IsTableSwitch, Means, WideFormat, WideMeans, case_at, format_of, pair_bytes, plain, short, signed_int, signed_short, switch, table_cases, target, wide_format_of}
use Rattle.model_lemmas.proofs.PlacesOfInstrs.{some_bytes}
use Rattle.byte_fields.specs.OneReading.{one_u4}

-- ---- Lists whose fronts are as long.

-- two instructions that are the same, and what stands after them
record Same (i j : Instr) (r s : List ℕ) : Type 0 where
  pub instr : i ≡ j
  pub after : r ≡ s

-- ---- Operands of a fixed length: which instruction they give.

record IsRead (n : ℕ) (made : List ℕ → Instr) (xs : List ℕ) (i : Instr) : Type 0 where
  pub long : length xs ≡ n
  pub is : i ≡ made xs

both_read : (n : ℕ) (made : List ℕ → Instr) (xs ys r s : List ℕ) (i j : Instr) → IsRead n made xs i → IsRead n made ys j → xs ++ r ≡ ys ++ s
    → Same i j r s
both_read n made xs ys r s i j h k e =
    let parts = cancel xs ys r s (h.long ∙ sym k.long) e in
    record { instr = h.is ∙ ap made parts.0 ∙ sym k.is; after = parts.1 }

abbrev nop : Instr
nop = plain 0 0 (pos 0) (pos 0)

abbrev one_of : (ℕ → Instr) → List ℕ → Instr
one_of f (n ∷ more) = f n
one_of f [] = nop

abbrev two_of : (ℕ → ℕ → Instr) → List ℕ → Instr
two_of f (m ∷ n ∷ more) = f m n
two_of f _ = nop

abbrev three_of : (ℕ → ℕ → ℕ → Instr) → List ℕ → Instr
three_of f (l ∷ m ∷ n ∷ more) = f l m n
three_of f _ = nop

abbrev four_of : (ℕ → ℕ → ℕ → ℕ → Instr) → List ℕ → Instr
four_of f (k ∷ l ∷ m ∷ n ∷ more) = f k l m n
four_of f _ = nop

-- what the operands of each format make, in the instruction of this opcode at this place
abbrev made_by : Format → ℕ → ℕ → List ℕ → Instr
made_by Format.AsIs at op = λ _. plain at op (pos 0) (pos 0)
made_by (Format.Short long first) at op = λ _. plain at long (pos op -ℤ pos first) (pos 0)
made_by Format.ByteConstant at op = one_of (λ n. plain at 0x11 (cast_signed w8 n) (pos 0))
made_by Format.ShortConstant at op = two_of (λ m n. plain at 0x11 (signed_short m n) (pos 0))
made_by Format.LocalIndex at op = one_of (λ n. plain at op (pos n) (pos 0))
made_by Format.BytePoolIndex at op = one_of (λ n. plain at 0x13 (pos n) (pos 0))
made_by Format.PoolIndex at op = two_of (λ m n. plain at op (pos (short m n)) (pos 0))
made_by Format.Increment at op = two_of (λ m n. plain at op (pos m) (cast_signed w8 n))
made_by Format.Jump at op = two_of (λ m n. plain at op (target at (signed_short m n)) (pos 0))
made_by Format.FarJump at op =
    four_of (λ k l m n. plain at 0xa7 (target at (signed_int (from_be_bytes w32 (k ∷ l ∷ m ∷ n ∷ [])))) (pos 0))
made_by Format.InterfaceCall at op = four_of (λ k l m n. plain at op (pos (short k l)) (pos 0))
made_by Format.ArrayOfKind at op = one_of (λ n. plain at op (pos n) (pos 0))
made_by Format.ManyDimensions at op = three_of (λ l m n. plain at op (pos (short l m)) (pos n))
made_by _ at op = λ _. nop

none_read : (at op : ℕ) (xs : List ℕ) (i : Instr) → Means Format.AsIs at op xs i → IsRead 0 (made_by Format.AsIs at op) xs i
none_read at op [] i e = record { long = refl; is = e }
none_read at op (n ∷ more) i h = absurd h

short_read : (long first at op : ℕ) (xs : List ℕ) (i : Instr) → Means (Format.Short long first) at op xs i
    → IsRead 0 (made_by (Format.Short long first) at op) xs i
short_read long first at op [] i e = record { long = refl; is = e }
short_read long first at op (n ∷ more) i h = absurd h

byte_read : (at op : ℕ) (xs : List ℕ) (i : Instr) → Means Format.ByteConstant at op xs i → IsRead 1 (made_by Format.ByteConstant at op) xs i
byte_read at op (n ∷ []) i e = record { long = refl; is = e }
byte_read at op _ i h = absurd h

constant_read : (at op : ℕ) (xs : List ℕ) (i : Instr) → Means Format.ShortConstant at op xs i → IsRead 2 (made_by Format.ShortConstant at op) xs i
constant_read at op (m ∷ n ∷ []) i e = record { long = refl; is = e }
constant_read at op _ i h = absurd h

local_read : (at op : ℕ) (xs : List ℕ) (i : Instr) → Means Format.LocalIndex at op xs i → IsRead 1 (made_by Format.LocalIndex at op) xs i
local_read at op (n ∷ []) i e = record { long = refl; is = e }
local_read at op _ i h = absurd h

byte_index_read : (at op : ℕ) (xs : List ℕ) (i : Instr) → Means Format.BytePoolIndex at op xs i → IsRead 1 (made_by Format.BytePoolIndex at op) xs i
byte_index_read at op (n ∷ []) i e = record { long = refl; is = e }
byte_index_read at op _ i h = absurd h

index_read : (at op : ℕ) (xs : List ℕ) (i : Instr) → Means Format.PoolIndex at op xs i → IsRead 2 (made_by Format.PoolIndex at op) xs i
index_read at op (m ∷ n ∷ []) i e = record { long = refl; is = e }
index_read at op _ i h = absurd h

increment_read : (at op : ℕ) (xs : List ℕ) (i : Instr) → Means Format.Increment at op xs i → IsRead 2 (made_by Format.Increment at op) xs i
increment_read at op (m ∷ n ∷ []) i e = record { long = refl; is = e }
increment_read at op _ i h = absurd h

jump_read : (at op : ℕ) (xs : List ℕ) (i : Instr) → Means Format.Jump at op xs i → IsRead 2 (made_by Format.Jump at op) xs i
jump_read at op (m ∷ n ∷ []) i e = record { long = refl; is = e }
jump_read at op _ i h = absurd h

far_read : (at op : ℕ) (xs : List ℕ) (i : Instr) → Means Format.FarJump at op xs i → IsRead 4 (made_by Format.FarJump at op) xs i
far_read at op (k ∷ l ∷ m ∷ n ∷ []) i e = record { long = refl; is = e }
far_read at op _ i h = absurd h

interface_read : (at op : ℕ) (xs : List ℕ) (i : Instr) → Means Format.InterfaceCall at op xs i → IsRead 4 (made_by Format.InterfaceCall at op) xs i
interface_read at op (k ∷ l ∷ m ∷ n ∷ []) i (some, zeros, e) = record { long = refl; is = e }
interface_read at op _ i h = absurd h

array_read : (at op : ℕ) (xs : List ℕ) (i : Instr) → Means Format.ArrayOfKind at op xs i → IsRead 1 (made_by Format.ArrayOfKind at op) xs i
array_read at op (kind ∷ []) i (is, e) = record { long = refl; is = e }
array_read at op _ i h = absurd h

many_read : (at op : ℕ) (xs : List ℕ) (i : Instr) → Means Format.ManyDimensions at op xs i → IsRead 3 (made_by Format.ManyDimensions at op) xs i
many_read at op (l ∷ m ∷ n ∷ []) i (some, e) = record { long = refl; is = e }
many_read at op _ i h = absurd h

abbrev made_wide : WideFormat → ℕ → ℕ → List ℕ → Instr
made_wide WideFormat.WideLocal at op = two_of (λ m n. plain at op (pos (short m n)) (pos 0))
made_wide WideFormat.WideIncrement at op = four_of (λ k l m n. plain at op (pos (short k l)) (signed_short m n))
made_wide _ at op = λ _. nop

wide_local_read : (at op : ℕ) (xs : List ℕ) (i : Instr) → WideMeans WideFormat.WideLocal at op xs i
    → IsRead 2 (made_wide WideFormat.WideLocal at op) xs i
wide_local_read at op (m ∷ n ∷ []) i e = record { long = refl; is = e }
wide_local_read at op _ i h = absurd h

wide_increment_read : (at op : ℕ) (xs : List ℕ) (i : Instr) → WideMeans WideFormat.WideIncrement at op xs i
    → IsRead 4 (made_wide WideFormat.WideIncrement at op) xs i
wide_increment_read at op (k ∷ l ∷ m ∷ n ∷ []) i e = record { long = refl; is = e }
wide_increment_read at op _ i h = absurd h

-- ---- Switches.

same_offsets : (us vs r s : List ℕ) → length us ≡ length vs → AllByRecursion IsU4 us → AllByRecursion IsU4 vs → flat_map u4 us ++ r ≡ flat_map u4 vs ++ s
    → (us ≡ vs) × (r ≡ s)
same_offsets [] [] r s long h k e = (refl, e)
same_offsets [] (v ∷ vs) r s long h k e = absurd (omega (arith, long))
same_offsets (u ∷ us) [] r s long h k e = absurd (omega (arith, long))
same_offsets (u ∷ us) (v ∷ vs) r s long h k e =
    let left = append_assoc (u4 u) (flat_map u4 us) r in
    let right = append_assoc (u4 v) (flat_map u4 vs) s in
    let one = one_u4 u v (flat_map u4 us ++ r) (flat_map u4 vs ++ s) h.0 k.0 (sym left ∙ e ∙ right) in
    let more = same_offsets us vs r s (omega (arith, long)) h.1 k.1 one.1 in
    let first : u ≡ v = one.0 in
    let others : us ≡ vs = more.0 in
    (cc, more.1)

same_pairs : (us vs : List (ℕ × ℕ)) (r s : List ℕ) → length us ≡ length vs → AllByRecursion IsPair us → AllByRecursion IsPair vs
    → flat_map pair_bytes us ++ r ≡ flat_map pair_bytes vs ++ s → (us ≡ vs) × (r ≡ s)
same_pairs [] [] r s long h k e = (refl, e)
same_pairs [] (v ∷ vs) r s long h k e = absurd (omega (arith, long))
same_pairs (u ∷ us) [] r s long h k e = absurd (omega (arith, long))
same_pairs (u ∷ us) (v ∷ vs) r s long h k e =
    let left : (pair_bytes u ++ flat_map pair_bytes us) ++ r ≡ u4 u.0 ++ (u4 u.1 ++ (flat_map pair_bytes us ++ r)) = simp append_assoc in
    let right : (pair_bytes v ++ flat_map pair_bytes vs) ++ s ≡ u4 v.0 ++ (u4 v.1 ++ (flat_map pair_bytes vs ++ s)) = simp append_assoc in
    let key = one_u4 u.0 v.0 (u4 u.1 ++ (flat_map pair_bytes us ++ r)) (u4 v.1 ++ (flat_map pair_bytes vs ++ s)) h.0.0 k.0.0 (sym left ∙ e ∙ right) in
    let value = one_u4 u.1 v.1 (flat_map pair_bytes us ++ r) (flat_map pair_bytes vs ++ s) h.0.1 k.0.1 key.1 in
    let more = same_pairs us vs r s (omega (arith, long)) h.1 k.1 value.1 in
    let first : u ≡ v = ap (λ (n : ℕ). let p : ℕ × ℕ = (n, u.1) in p) key.0 ∙ ap (λ (n : ℕ). let p : ℕ × ℕ = (v.0, n) in p) value.0 in
    let others : us ≡ vs = more.0 in
    (cc, more.1)

both_tables : (at op : ℕ) (xs ys r s : List ℕ) (i j : Instr) → IsTableSwitch at op xs i → IsTableSwitch at op ys j → xs ++ r ≡ ys ++ s → Same i j r s
both_tables at op xs ys r s i j h k e =
    let left : xs ++ r ≡ h.filling ++ (u4 h.default ++ (u4 h.low ++ (u4 h.high ++ (flat_map u4 h.offsets ++ r)))) =
    ap (λ (w : List ℕ). w ++ r) h.layout ∙ front_of h.filling (u4 h.default) (u4 h.low) (u4 h.high) (flat_map u4 h.offsets) r in
    let right : ys ++ s ≡ k.filling ++ (u4 k.default ++ (u4 k.low ++ (u4 k.high ++ (flat_map u4 k.offsets ++ s)))) =
    ap (λ (w : List ℕ). w ++ s) k.layout ∙ front_of k.filling (u4 k.default) (u4 k.low) (u4 k.high) (flat_map u4 k.offsets) s in
    let filled = cancel h.filling k.filling _ _ (h.filled ∙ sym k.filled) (sym left ∙ e ∙ right) in
    let default = one_u4 h.default k.default _ _ h.numbers.0 k.numbers.0 filled.1 in
    let low = one_u4 h.low k.low _ _ h.numbers.1 k.numbers.1 default.1 in
    let high = one_u4 h.high k.high _ _ h.numbers.2 k.numbers.2 low.1 in
    let span : (signed_int h.high -ℤ signed_int h.low) +ℤ pos 1 ≡ (signed_int k.high -ℤ signed_int k.low) +ℤ pos 1 = rw (low.0, high.0) refl in
    let count : length h.offsets ≡ length k.offsets = same_pos (length h.offsets) (length k.offsets) (h.count ∙ span ∙ sym k.count) in
    let offsets = same_offsets h.offsets k.offsets r s count h.numbers.3 k.numbers.3 high.1 in
    record {
      instr = h.says ∙ ap (λ (n : ℕ). switch at op n (table_cases at (signed_int h.low) h.offsets)) default.0
          ∙ ap (λ (n : ℕ). switch at op k.default (table_cases at (signed_int n) h.offsets)) low.0
          ∙ ap (λ (w : List ℕ). switch at op k.default (table_cases at (signed_int k.low) w)) offsets.0 ∙ sym k.says;
      after = offsets.1;
    }

both_lookups : (at op : ℕ) (xs ys r s : List ℕ) (i j : Instr) → IsLookupSwitch at op xs i → IsLookupSwitch at op ys j → xs ++ r ≡ ys ++ s → Same i j r s
both_lookups at op xs ys r s i j h k e =
    let left : xs ++ r ≡ h.filling ++ (u4 h.default ++ (u4 (length h.pairs) ++ (flat_map pair_bytes h.pairs ++ r))) =
    ap (λ (w : List ℕ). w ++ r) h.layout ∙ front_of_pairs h.filling (u4 h.default) (u4 (length h.pairs)) (flat_map pair_bytes h.pairs) r in
    let right : ys ++ s ≡ k.filling ++ (u4 k.default ++ (u4 (length k.pairs) ++ (flat_map pair_bytes k.pairs ++ s))) =
    ap (λ (w : List ℕ). w ++ s) k.layout ∙ front_of_pairs k.filling (u4 k.default) (u4 (length k.pairs)) (flat_map pair_bytes k.pairs) s in
    let filled = cancel h.filling k.filling _ _ (h.filled ∙ sym k.filled) (sym left ∙ e ∙ right) in
    let default = one_u4 h.default k.default _ _ h.numbers.0 k.numbers.0 filled.1 in
    let count = one_u4 (length h.pairs) (length k.pairs) _ _ h.numbers.1 k.numbers.1 default.1 in
    let pairs = same_pairs h.pairs k.pairs r s count.0 h.numbers.2 k.numbers.2 count.1 in
    record {
      instr = h.says ∙ ap (λ (n : ℕ). switch at op n (map (λ (p : ℕ × ℕ). case_at at (signed_int p.0) p.1) h.pairs)) default.0
          ∙ ap (λ (w : List (ℕ × ℕ)). switch at op k.default (map (λ (p : ℕ × ℕ). case_at at (signed_int p.0) p.1) w)) pairs.0 ∙ sym k.says;
      after = pairs.1;
    }

-- ---- By the format.

both_wide : (format : WideFormat) (at op : ℕ) (xs ys r s : List ℕ) (i j : Instr) → WideMeans format at op xs i → WideMeans format at op ys j → xs ++ r ≡ ys ++ s
    → Same i j r s
both_wide WideFormat.WideLocal at op xs ys r s i j h k e =
    both_read 2 (made_wide WideFormat.WideLocal at op) xs ys r s i j (wide_local_read at op xs i h) (wide_local_read at op ys j k) e
both_wide WideFormat.WideIncrement at op xs ys r s i j h k e =
    both_read 4 (made_wide WideFormat.WideIncrement at op) xs ys r s i j (wide_increment_read at op xs i h) (wide_increment_read at op ys j k) e
both_wide WideFormat.WideFloat at op xs ys r s i j h k e = absurd h
both_wide WideFormat.WideSubroutine at op xs ys r s i j h k e = absurd h
both_wide WideFormat.NotWide at op xs ys r s i j h k e = absurd h

both_widened : (at op : ℕ) (xs ys r s : List ℕ) (i j : Instr) → Means Format.Wide at op xs i → Means Format.Wide at op ys j → xs ++ r ≡ ys ++ s
    → Same i j r s
both_widened at op [] ys r s i j h k e = absurd h
both_widened at op (v ∷ xs) [] r s i j h k e = absurd k
both_widened at op (v ∷ xs) (w ∷ ys) r s i j h k e =
    let same : w ≡ v = sym (head_is v w (xs ++ r) (ys ++ s) e) in
    let own : WideMeans (wide_format_of v) at v ys j = subst (λ (n : ℕ). WideMeans (wide_format_of n) at n ys j) same k in
    both_wide (wide_format_of v) at v xs ys r s i j h own (tail_is v w (xs ++ r) (ys ++ s) e)

both_mean : (format : Format) (at op : ℕ) (xs ys r s : List ℕ) (i j : Instr) → Means format at op xs i → Means format at op ys j → xs ++ r ≡ ys ++ s
    → Same i j r s
both_mean Format.AsIs at op xs ys r s i j h k e =
    both_read 0 (made_by Format.AsIs at op) xs ys r s i j (none_read at op xs i h) (none_read at op ys j k) e
both_mean (Format.Short long first) at op xs ys r s i j h k e =
    both_read 0 (made_by (Format.Short long first) at op) xs ys r s i j (short_read long first at op xs i h) (short_read long first at op ys j k) e
both_mean Format.ByteConstant at op xs ys r s i j h k e =
    both_read 1 (made_by Format.ByteConstant at op) xs ys r s i j (byte_read at op xs i h) (byte_read at op ys j k) e
both_mean Format.ShortConstant at op xs ys r s i j h k e =
    both_read 2 (made_by Format.ShortConstant at op) xs ys r s i j (constant_read at op xs i h) (constant_read at op ys j k) e
both_mean Format.LocalIndex at op xs ys r s i j h k e =
    both_read 1 (made_by Format.LocalIndex at op) xs ys r s i j (local_read at op xs i h) (local_read at op ys j k) e
both_mean Format.BytePoolIndex at op xs ys r s i j h k e =
    both_read 1 (made_by Format.BytePoolIndex at op) xs ys r s i j (byte_index_read at op xs i h) (byte_index_read at op ys j k) e
both_mean Format.PoolIndex at op xs ys r s i j h k e =
    both_read 2 (made_by Format.PoolIndex at op) xs ys r s i j (index_read at op xs i h) (index_read at op ys j k) e
both_mean Format.Increment at op xs ys r s i j h k e =
    both_read 2 (made_by Format.Increment at op) xs ys r s i j (increment_read at op xs i h) (increment_read at op ys j k) e
both_mean Format.Jump at op xs ys r s i j h k e =
    both_read 2 (made_by Format.Jump at op) xs ys r s i j (jump_read at op xs i h) (jump_read at op ys j k) e
both_mean Format.FarJump at op xs ys r s i j h k e =
    both_read 4 (made_by Format.FarJump at op) xs ys r s i j (far_read at op xs i h) (far_read at op ys j k) e
both_mean Format.InterfaceCall at op xs ys r s i j h k e =
    both_read 4 (made_by Format.InterfaceCall at op) xs ys r s i j (interface_read at op xs i h) (interface_read at op ys j k) e
both_mean Format.ArrayOfKind at op xs ys r s i j h k e =
    both_read 1 (made_by Format.ArrayOfKind at op) xs ys r s i j (array_read at op xs i h) (array_read at op ys j k) e
both_mean Format.ManyDimensions at op xs ys r s i j h k e =
    both_read 3 (made_by Format.ManyDimensions at op) xs ys r s i j (many_read at op xs i h) (many_read at op ys j k) e
both_mean Format.TableSwitch at op xs ys r s i j h k e = both_tables at op xs ys r s i j h k e
both_mean Format.LookupSwitch at op xs ys r s i j h k e = both_lookups at op xs ys r s i j h k e
both_mean Format.Wide at op xs ys r s i j h k e = both_widened at op xs ys r s i j h k e
both_mean Format.FloatFormat at op xs ys r s i j h k e = absurd h
both_mean Format.SubroutineFormat at op xs ys r s i j h k e = absurd h
both_mean Format.MonitorFormat at op xs ys r s i j h k e = absurd h
both_mean Format.NoOpcode at op xs ys r s i j h k e = absurd h

both_instrs : (at : ℕ) (xs ys r s : List ℕ) (i j : Instr) → IsInstr at xs i → IsInstr at ys j → xs ++ r ≡ ys ++ s → Same i j r s
both_instrs at [] ys r s i j h k e = absurd h
both_instrs at (v ∷ xs) [] r s i j h k e = absurd k
both_instrs at (v ∷ xs) (w ∷ ys) r s i j h k e =
    let same : w ≡ v = sym (head_is v w (xs ++ r) (ys ++ s) e) in
    let own : Means (format_of v) at v ys j = subst (λ (n : ℕ). Means (format_of n) at n ys j) same k in
    both_mean (format_of v) at v xs ys r s i j h own (tail_is v w (xs ++ r) (ys ++ s) e)

-- ---- One after the other.

one_reading : (at : ℕ) (bytes : List ℕ) (us vs : List Instr) → AreInstrs at bytes us → AreInstrs at bytes vs → us ≡ vs
one_reading at bytes [] [] h k = refl
one_reading at bytes [] (v ∷ vs) h (g, s, one, e, others) = absurd (some_bytes at g s v one (sym e ∙ h))
one_reading at bytes (u ∷ us) [] (f, r, one, e, others) k = absurd (some_bytes at f r u one (sym e ∙ k))
one_reading at bytes (u ∷ us) (v ∷ vs) (f, r, hf, ef, hr) (g, s, hg, eg, hs) =
    let same = both_instrs at f g r s u v hf hg (sym ef ∙ eg) in
    let long : length f ≡ length g =
    omega (arith, ap length (sym ef ∙ eg), ap length same.after, length-append f r, length-append g s) in
    let right : AreInstrs (at + length f) r vs = rw (same.after, long) hs in
    let first : u ≡ v = same.instr in
    let more : us ≡ vs = one_reading (at + length f) r us vs hr right in
    cc

pub one_decoding : (code : List ℕ) (us vs : List Instr) → Decodes code us → Decodes code vs → us ≡ vs
one_decoding code us vs h k = one_reading 0 code us vs h k
