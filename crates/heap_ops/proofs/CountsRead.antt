-- Counts that stand on top of the stack are read one by one.
use Rattle.std.proofs.Common.{◌≡◌, ℕ, zero, suc, ℤ, pos, negsuc, ◌+◌, ◌-◌, ◌<◌, ◌≢◌, below_more, List, [], ◌∷◌, ◌++◌, length, map, set, get_or, Option, Some, None, slice_get, refl, sym, ap, subst, ◌∙◌, arith}
use Rattle.std.specs.Prelude.{option_and_then, option_map}
use Rattle.std.proofs.lemmas.List.{length-map, length-set, map-append}
use Rattle.std.proofs.lemmas.Option.{same_Some}
use Rattle.std.proofs.Common.{get_or-set_other, get_or-set_same}
use Rattle.list_lemmas.proofs.EndsOfLists.{one_split}
use Rattle.jk_model.specs.declared.identifiers.SegmentNo.{SegmentNo}
use Rattle.jk_model.specs.declared.values.Value.{Value}
use Rattle.jk_model.specs.declared.values.Value.TheVariants as Held
use Rattle.jk_model_frames.specs.Frames.{FrameState}
use Rattle.jk_model_heap_rows.specs.NewObjectRows.{count_of, counts_of}
use Rattle.frame_store.specs.FrameContents.{FrameContent}
use Rattle.number_ops.proofs.TopFrames.{same_top}
use Rattle.heap_ops.specs.ArrayCounts.{AreIntsOnTop}
use Rattle.heap_ops.specs.TopEntries.{StandsBelow}
use Rattle.heap_ops.proofs.ValuesOnTop.{same_below, stands_below}

one_int : {m n : ℤ} → Held.Int m ≡ Held.Int n → m ≡ n
one_int e = cc

-- ---- Ints as values.

same_ints : (ks ls : List ℤ) → map Held.Int ks ≡ map Held.Int ls → ks ≡ ls
same_ints [] [] e = refl
same_ints [] (l ∷ ls) e = absurd cc
same_ints (k ∷ ks) [] e = absurd cc
same_ints (k ∷ ks) (l ∷ ls) e = both (first e) (same_ints ks ls (rest e))
  where
    first : {a b : ℤ} {xs ys : List Value} → Held.Int a ∷ xs ≡ Held.Int b ∷ ys → a ≡ b
    first p = cc

    rest : {a b : Value} {xs ys : List Value} → a ∷ xs ≡ b ∷ ys → xs ≡ ys
    rest p = cc

    both : {a b : ℤ} {xs ys : List ℤ} → a ≡ b → xs ≡ ys → a ∷ xs ≡ b ∷ ys
    both p q = cc

-- ints on top are one list
pub ints_are_one : (c : FrameContent) (s : SegmentNo) (ks ls : List ℤ) → AreIntsOnTop c s ks → AreIntsOnTop c s ls → length ks ≡ length ls → ks ≡ ls
ints_are_one c s ks ls h k many =
    let same : h.frame ≡ k.frame = same_top c s h.frame k.frame h.top k.top in
    let lists : h.below ++ map Held.Int ks ≡ k.below ++ map Held.Int ls = sym h.stack ∙ ap (λ (f : FrameState). f.stack) same ∙ k.stack in
    same_ints ks ls (one_split h.below k.below (map Held.Int ks) (map Held.Int ls) lists
    (length-map ks Held.Int ∙ many ∙ sym (length-map ls Held.Int))).1

-- ---- One of them.

record IsCut (ks : List ℤ) (i : ℕ) : Type 0 where
  front : List ℤ
  one : ℤ
  back : List ℤ
  whole : ks ≡ front ++ one ∷ back
  behind : length back ≡ length ks - 1 - i
  there : slice_get ks i ≡ Some one

cut : (ks : List ℤ) (i : ℕ) → i < length ks → IsCut ks i
cut [] i low = absurd (omega arith)
cut (k ∷ ks) zero low = record { front = []; one = k; back = ks; whole = refl; behind = omega arith; there = refl }
cut (k ∷ ks) (suc i) low =
    let rest = cut ks i (omega (arith, low)) in
    record {
      front = k ∷ rest.front;
      one = rest.one;
      back = rest.back;
      whole = ap (λ (xs : List ℤ). k ∷ xs) rest.whole;
      behind = omega (arith, rest.behind);
      there = rest.there;
    }

pub int_here : (c : FrameContent) (s : SegmentNo) (ks : List ℤ) (i : ℕ) → AreIntsOnTop c s ks → i < length ks
    → (k : ℤ) × (slice_get ks i ≡ Some k) × StandsBelow c s (length ks - 1 - i) (Held.Int k)
int_here c s ks i h low =
    let parts = cut ks i low in
    let values : map Held.Int ks ≡ map Held.Int parts.front ++ Held.Int parts.one ∷ map Held.Int parts.back =
    ap (map Held.Int) parts.whole ∙ map-append Held.Int parts.front (parts.one ∷ parts.back) in
    let at = stands_below c s h.frame (map Held.Int parts.front) (Held.Int parts.one) (map Held.Int parts.back) h.top
    (h.below, h.stack ∙ ap (λ (xs : List Value). h.below ++ xs) values) in (
      parts.one,
      parts.there,
      subst (λ (n : ℕ). StandsBelow c s n (Held.Int parts.one)) (length-map parts.back Held.Int ∙ parts.behind) at,
    )

-- ---- All of them.

pub record ReadSoFar (c : FrameContent) (s : SegmentNo) (counts : List ℕ) (done : ℕ) : Type 0 where
  pub ints : List ℤ
  pub on_top : AreIntsOnTop c s ints
  pub as_many : length ints ≡ length counts
  pub read : (j : ℕ) → j < done → slice_get ints j ≡ Some (pos (get_or counts j 0))

pub none_read : (c : FrameContent) (s : SegmentNo) (counts : List ℕ) → (ks : List ℤ) × AreIntsOnTop c s ks × (length ks ≡ length counts)
    → ReadSoFar c s counts 0
none_read c s counts (ks, on_top, many) =
    record { ints = ks; on_top = on_top; as_many = many; read = λ j low. absurd (omega (arith, low)) }

pub next_there : (c : FrameContent) (s : SegmentNo) (counts : List ℕ) (i : ℕ) → ReadSoFar c s counts i → i < length counts
    → (k : ℤ) × StandsBelow c s (length counts - 1 - i) (Held.Int k)
next_there c s counts i so_far low =
    let many = so_far.as_many in
    let one = int_here c s so_far.ints i so_far.on_top (omega (arith, low, many)) in
    (one.0, subst (λ (n : ℕ). StandsBelow c s (n - 1 - i) (Held.Int one.0)) many one.2)

pub next_read : (c : FrameContent) (s : SegmentNo) (counts : List ℕ) (i m : ℕ) → ReadSoFar c s counts i → i < length counts
    → StandsBelow c s (length counts - 1 - i) (Held.Int (pos m)) → ReadSoFar c s (set counts i m) (i + 1)
next_read c s counts i m so_far low at =
    let many = so_far.as_many in
    let one = int_here c s so_far.ints i so_far.on_top (omega (arith, low, many)) in
    let here : StandsBelow c s (length counts - 1 - i) (Held.Int one.0) =
    subst (λ (n : ℕ). StandsBelow c s (n - 1 - i) (Held.Int one.0)) many one.2 in
    let same : one.0 ≡ pos m = one_int (same_below c s (length counts - 1 - i) (Held.Int one.0) (Held.Int (pos m)) here at) in
    record {
      ints = so_far.ints;
      on_top = so_far.on_top;
      as_many = many ∙ sym (length-set counts i m);
      read = below_more (λ (j : ℕ). slice_get so_far.ints j ≡ Some (pos (get_or (set counts i m) j 0))) i
          (λ j h. so_far.read j h ∙ ap (λ (n : ℕ). Some (pos n)) (sym (let ne : j ≢ i = omega (arith, h) in rw get_or-set_other refl)))
          (one.1 ∙ ap Some same ∙ ap (λ (n : ℕ). Some (pos n)) (sym (rw get_or-set_same refl)));
    }

both_counted : (k : ℤ) (n : ℕ) (more : Option (List ℕ)) (rest : List ℕ) → k ≡ pos n → more ≡ Some rest
    → option_and_then (λ (count : ℕ). option_map (λ (counts : List ℕ). count ∷ counts) more) (count_of k) ≡ Some (n ∷ rest)
both_counted k n more rest is all =
    ap (λ (z : ℤ). option_and_then (λ (count : ℕ). option_map (λ (counts : List ℕ). count ∷ counts) more) (count_of z)) is
    ∙ ap (option_map (λ (counts : List ℕ). n ∷ counts)) all

counted : (ks : List ℤ) (ns : List ℕ) → length ks ≡ length ns
    → ((j : ℕ) → j < length ks → slice_get ks j ≡ Some (pos (get_or ns j 0))) → counts_of ks ≡ Some ns
counted [] [] many read = refl
counted [] (n ∷ ns) many read = absurd (omega (arith, many))
counted (k ∷ ks) [] many read = absurd (omega (arith, many))
counted (k ∷ ks) (n ∷ ns) many read =
    both_counted k n (counts_of ks) ns (same_Some k (pos n) (read 0 (omega arith)))
    (counted ks ns (omega (arith, many)) (λ j low. read (suc j) (omega (arith, low))))

pub all_read : (c : FrameContent) (s : SegmentNo) (counts : List ℕ) (done : ℕ) → ReadSoFar c s counts done → done ≡ length counts
    → (ks : List ℤ) → AreIntsOnTop c s ks → length ks ≡ length counts → counts_of ks ≡ Some counts
all_read c s counts done so_far end ks on_top many =
    let same : so_far.ints ≡ ks = ints_are_one c s so_far.ints ks so_far.on_top on_top (so_far.as_many ∙ sym many) in
    ap counts_of (sym same)
    ∙ counted so_far.ints counts so_far.as_many (λ j low. so_far.read j (omega (arith, low, so_far.as_many, end)))

-- ---- One that is below 0.

none_by : (k : ℤ) (more : Option (List ℕ)) → more ≡ None
    → option_and_then (λ (count : ℕ). option_map (λ (counts : List ℕ). count ∷ counts) more) (count_of k) ≡ None
none_by (pos n) more none = ap (option_map (λ (counts : List ℕ). n ∷ counts)) none
none_by (negsuc n) more none = refl

not_counted : (ks : List ℤ) (i : ℕ) (k : ℤ) → slice_get ks i ≡ Some k → count_of k ≡ None → counts_of ks ≡ None
not_counted [] i k at none = absurd cc
not_counted (l ∷ ks) zero k at none =
    ap (option_and_then (λ (count : ℕ). option_map (λ (counts : List ℕ). count ∷ counts) (counts_of ks)))
    (ap count_of (same_Some l k at) ∙ none)
not_counted (l ∷ ks) (suc i) k at none = none_by l (counts_of ks) (not_counted ks i k at none)

pub one_negative : (c : FrameContent) (s : SegmentNo) (counts : List ℕ) (i : ℕ) (n : ℤ) → i < length counts
    → StandsBelow c s (length counts - 1 - i) (Held.Int n) → count_of n ≡ None
    → (ks : List ℤ) → AreIntsOnTop c s ks → length ks ≡ length counts → counts_of ks ≡ None
one_negative c s counts i n low at none ks on_top many =
    let one = int_here c s ks i on_top (omega (arith, low, many)) in
    let here : StandsBelow c s (length counts - 1 - i) (Held.Int one.0) =
    subst (λ (m : ℕ). StandsBelow c s (m - 1 - i) (Held.Int one.0)) many one.2 in
    let same : one.0 ≡ n = one_int (same_below c s (length counts - 1 - i) (Held.Int one.0) (Held.Int n) here at) in
    not_counted ks i one.0 one.1 (ap count_of same ∙ none)
