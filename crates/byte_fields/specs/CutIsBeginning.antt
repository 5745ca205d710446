-- Bytes in which a reader ends early are a proper beginning of the spelling of a value that it reads. The
-- laws go from the readers of parts to the reader of the whole.
use Rattle.std.proofs.Common.{◌≡◌, ℕ, zero, suc, ◌-◌, ◌^◌, ◌<◌, ◌⊎◌, Bool, true, false, cond, ltb, List, [], ◌∷◌, ◌++◌, length, take, drop, Option, Some, None, refl, sym, ap, subst, ◌∙◌, append_assoc, append-nil, arith, inl, inr}
use Rattle.std.specs.List.{flat_map}
use Rattle.std.specs.Int.{Width, w16, w32, w64, byte_len, from_be_bytes, to_be_bytes}
use Rattle.std.proofs.lemmas.Bool.{ltb-true}
use Rattle.std.proofs.lemmas.List.{length-append}
use Rattle.std.proofs.lemmas.Option.{none-some}
use Rattle.jk_model.specs.ClassFile.{u2, u4, u8, IsU2, IsU4, IsU8}
use Rattle.jk_model.proofs.EmptyByLength.{not_nil_front, not_nil_back, not_nil_from_length}
use Rattle.byte_fields.specs.Reading.{◌>>=◌, then_at, mapped_at, many_at, byte_at, number_at, bytes_at, pair_at, block_at, counted_at}
use Rattle.byte_fields.specs.Layouts.{IsBytes, IsReader, Completes, FailsWithin, u1, IsU1, pair_bytes, IsPair, AreBytesOf, block_bytes, IsBlock, AreMany, counted_bytes, AreCounted}
use Rattle.byte_fields.specs.PartsAreBytes.{IsBytes-append, are_bytes, zeros, length-zeros, IsBytes-zeros}
use Rattle.byte_fields.specs.OneNumber.{IsWide, wide16, wide32, wide64}
use Rattle.byte_fields.specs.OneReading.{found_is, u2_reader, number_reader, itself, second, with_length}

-- ---- Steps.

-- a step failed, or the one after it
pub bind_none : {A B : Type 0} (r : Option A) (f : A → Option B) → (r >>= f) ≡ None → (r ≡ None) ⊎ ((x : A) × (r ≡ Some x) × (f x ≡ None))
bind_none (Some x) f e = inr (x, refl, e)
bind_none None f e = inl refl

pub guard_none : {A : Type 0} (b : Bool) (x : A) → cond b None (Some x) ≡ None → b ≡ true
guard_none true x e = refl
guard_none false x e = absurd cc

-- ---- A proper beginning of a spelling isn't read, with or without anything after it.

pub never_both : {A : Type 0} (r : List ℕ → Option (A × List ℕ)) (s : A → List ℕ) (F : A → Type 0) → IsReader r s F
    → (bytes : List ℕ) (x : A × List ℕ) → IsBytes bytes → r bytes ≡ Some x → Completes s F bytes → ⊥
never_both {A = A} r s F p bytes x fits e c =
    let h = p.takes bytes x fits e in
    let again : r (bytes ++ c.more) ≡ Some (x.0, x.1 ++ c.more) =
    ap (λ (v : List ℕ). r (v ++ c.more)) h.0.parts ∙ ap r (append_assoc (s x.0) x.1 c.more) ∙ p.again x.0 (x.1 ++ c.more) h.1 in
    let whole : r (bytes ++ c.more) ≡ Some (c.value, []) = ap r (c.spelled ∙ sym (append-nil (s c.value))) ∙ p.again c.value [] c.fits in
    not_nil_back x.1 c.more c.some (found_is x.0 c.value (x.1 ++ c.more) [] (sym again ∙ whole)).1

-- ---- Readers of wholes.

pub then_cut : {A B : Type 0} (r : List ℕ → Option (A × List ℕ)) (k : A → List ℕ → Option (B × List ℕ))
    (s : A → List ℕ) (t : A → B → List ℕ) (F : A → Type 0) (G : A → B → Type 0)
    → IsReader r s F → FailsWithin r s F → ((a : A) → FailsWithin (k a) (t a) (G a))
    → FailsWithin (then_at r k) (λ p. s p.0 ++ t p.0 p.1) (λ p. F p.0 × G p.0 p.1)
then_cut {A = A} {B = B} r k s t F G p c d = record {
  one = (c.one, (d c.one).one);
  one_fits = (c.one_fits, (d c.one).one_fits);
  cut = λ bytes fits e.
      elim (bind_none (r bytes) (λ x. k x.0 x.1 >>= λ y. Some ((x.0, y.0), y.1)) e) [
        | inl e1 ↦
            let h = c.cut bytes fits e1 in
            let b = (d h.value).one in
            let tail = t h.value b in
            let whole : bytes ++ (h.more ++ tail) ≡ s h.value ++ tail = sym (append_assoc bytes h.more tail) ∙ ap (λ (w : List ℕ). w ++ tail) h.spelled in
            record {
              value = (h.value, b);
              fits = (h.fits, (d h.value).one_fits);
              more = h.more ++ tail;
              some = not_nil_front h.more tail h.some;
              spelled = whole;
            }
        | inr w ↦
            let first = p.takes bytes w.0 fits w.1 in
            elim (bind_none (k w.0.0 w.0.1) (λ y. Some ((w.0.0, y.0), y.1)) w.2) [
              | inl e2 ↦
                  let h = (d w.0.0).cut w.0.1 first.0.rest_fits e2 in
                  let front = s w.0.0 in
                  let whole : bytes ++ h.more ≡ front ++ t w.0.0 h.value =
                  ap (λ (v : List ℕ). v ++ h.more) first.0.parts ∙ append_assoc front w.0.1 h.more ∙ ap (λ (v : List ℕ). front ++ v) h.spelled in
                  record { value = (w.0.0, h.value); fits = (first.1, h.fits); more = h.more; some = h.some; spelled = whole }
              | inr v ↦ absurd (none-some ((w.0.0, v.0.0), v.0.1) (sym v.2))
            ]
      ];
}

-- one field, and then another that doesn't hang on it
pub next_cut : {A B : Type 0} (r : List ℕ → Option (A × List ℕ)) (q : List ℕ → Option (B × List ℕ)) (s : A → List ℕ) (t : B → List ℕ)
    (F : A → Type 0) (G : B → Type 0) → IsReader r s F → FailsWithin r s F → FailsWithin q t G
    → FailsWithin (then_at r (λ _. q)) (λ p. s p.0 ++ t p.1) (λ p. F p.0 × G p.1)
next_cut r q s t F G p c d = then_cut r (λ _. q) s (λ _. t) F (λ _. G) p c (λ _. d)

mapped_cut : {A B : Type 0} (f : A → B) (g : B → A) (r : List ℕ → Option (A × List ℕ)) (s : A → List ℕ) (F : A → Type 0)
    → ((a : A) → F a → g (f a) ≡ a) → FailsWithin r s F → FailsWithin (mapped_at f r) (λ b. s (g b)) (λ b. F (g b))
mapped_cut {A = A} f g r s F gf p = record {
  one = f p.one;
  one_fits = subst F (sym (gf p.one p.one_fits)) p.one_fits;
  cut = λ bytes fits e.
      elim (bind_none (r bytes) (λ x. Some (f x.0, x.1)) e) [
        | inl e1 ↦
            let h = p.cut bytes fits e1 in
            let back = sym (gf h.value h.fits) in
            record { value = f h.value; fits = subst F back h.fits; more = h.more; some = h.some; spelled = h.spelled ∙ ap s back }
        | inr w ↦ absurd (none-some (f w.0.0, w.0.1) (sym w.2))
      ];
}

refitted_cut : {A : Type 0} (r : List ℕ → Option (A × List ℕ)) (s t : A → List ℕ) (F G : A → Type 0) → FailsWithin r s F
    → ((a : A) → F a → G a) → ((a : A) → s a ≡ t a) → FailsWithin r t G
refitted_cut r s t F G p there same = record {
  one = p.one;
  one_fits = there p.one p.one_fits;
  cut = λ bytes fits e.
      let h = p.cut bytes fits e in
      record { value = h.value; fits = there h.value h.fits; more = h.more; some = h.some; spelled = h.spelled ∙ same h.value };
}

-- a value that f makes of what is read, with its own spelling and its own words for which values fit
pub made_cut : {A B : Type 0} (f : A → B) (g : B → A) (r : List ℕ → Option (A × List ℕ)) (s : A → List ℕ) (F : A → Type 0)
    (t : B → List ℕ) (G : B → Type 0) → ((a : A) → F a → g (f a) ≡ a) → FailsWithin r s F
    → ((b : B) → F (g b) → G b) → ((b : B) → s (g b) ≡ t b) → FailsWithin (mapped_at f r) t G
made_cut f g r s F t G gf c there same =
    refitted_cut (mapped_at f r) (λ b. s (g b)) t (λ b. F (g b)) G (mapped_cut f g r s F gf c) there same

-- ---- So many, one after another.

ones : {A : Type 0} (F : A → Type 0) (a : A) → F a → (n : ℕ) → (xs : List A) × AreMany F n xs
ones F a h zero = ([], (refl, tt))
ones F a h (suc n) = let r = ones F a h n in (a ∷ r.0, (ap suc r.1.0, (h, r.1.1)))

many_cuts : {A : Type 0} (r : List ℕ → Option (A × List ℕ)) (s : A → List ℕ) (F : A → Type 0) → IsReader r s F → FailsWithin r s F
    → (n : ℕ) (bytes : List ℕ) → IsBytes bytes → many_at r n bytes ≡ None → Completes (flat_map s) (AreMany F n) bytes
many_cuts {A = A} r s F p c zero bytes fits e =
    let made : List A × List ℕ = ([], bytes) in
    absurd (none-some made (sym e))
many_cuts {A = A} r s F p c (suc n) bytes fits e =
    elim (bind_none (r bytes) (λ first. many_at r n first.1 >>= λ others. Some (first.0 ∷ others.0, others.1)) e) [
      | inl e1 ↦
          let h = c.cut bytes fits e1 in
          let others = ones F c.one c.one_fits n in
          let tail = flat_map s others.0 in
          let whole : bytes ++ (h.more ++ tail) ≡ s h.value ++ tail = sym (append_assoc bytes h.more tail) ∙ ap (λ (w : List ℕ). w ++ tail) h.spelled in
          record {
            value = h.value ∷ others.0;
            fits = (ap suc others.1.0, (h.fits, others.1.1));
            more = h.more ++ tail;
            some = not_nil_front h.more tail h.some;
            spelled = whole;
          }
      | inr w ↦
          let first = p.takes bytes w.0 fits w.1 in
          elim (bind_none (many_at r n w.0.1) (λ others. Some (w.0.0 ∷ others.0, others.1)) w.2) [
            | inl e2 ↦
                let h = many_cuts r s F p c n w.0.1 first.0.rest_fits e2 in
                let front = s w.0.0 in
                let whole : bytes ++ h.more ≡ front ++ flat_map s h.value =
                ap (λ (v : List ℕ). v ++ h.more) first.0.parts ∙ append_assoc front w.0.1 h.more ∙ ap (λ (v : List ℕ). front ++ v) h.spelled in
                record { value = w.0.0 ∷ h.value; fits = (ap suc h.fits.0, (first.1, h.fits.1)); more = h.more; some = h.some; spelled = whole }
            | inr v ↦ absurd (none-some (w.0.0 ∷ v.0.0, v.0.1) (sym v.2))
          ]
    ]

pub many_cut : {A : Type 0} (r : List ℕ → Option (A × List ℕ)) (s : A → List ℕ) (F : A → Type 0) → IsReader r s F → FailsWithin r s F
    → (n : ℕ) → FailsWithin (many_at r n) (flat_map s) (AreMany F n)
many_cut r s F p c n =
    let some = ones F c.one c.one_fits n in
    record { one = some.0; one_fits = some.1; cut = λ bytes fits e. many_cuts r s F p c n bytes fits e }

-- ---- Numbers and bytes.

byte_ends : (bytes : List ℕ) → byte_at bytes ≡ None → Completes u1 IsU1 bytes
byte_ends [] e = record { value = 0; fits = omega arith; more = 0 ∷ []; some = λ e. absurd cc; spelled = refl }
byte_ends (b ∷ bytes) e = let made : ℕ × List ℕ = (b, bytes) in absurd (none-some made (sym e))

pub u1_cut : FailsWithin byte_at u1 IsU1
u1_cut = record { one = 0; one_fits = omega arith; cut = λ bytes fits e. byte_ends bytes e }

pub number_cut : (w : Width) (limit : ℕ) → IsWide w limit → 0 < limit → FailsWithin (number_at w) (to_be_bytes w) (λ n. n < limit)
number_cut w limit wide pos = record {
  one = 0;
  one_fits = pos;
  cut = λ bytes fits e.
      let made : ℕ × List ℕ = (from_be_bytes w (take (byte_len w) bytes), drop (byte_len w) bytes) in
      let g = guard_none (ltb (length bytes) (byte_len w)) made e in
      let short : length bytes < byte_len w = ltb-true _ _ g in
      let lacking = byte_len w - length bytes in
      let more = zeros lacking in
      let many : length more ≡ lacking = length-zeros lacking in
      let full = bytes ++ more in
      let full_fits : IsBytes full = IsBytes-append bytes more fits (IsBytes-zeros lacking) in
      let len : length full ≡ byte_len w = omega (arith, length-append bytes more, many) in
      record {
        value = from_be_bytes w full;
        fits = wide.below full full_fits;
        more = more;
        some = not_nil_from_length more (omega (arith, many));
        spelled = sym (wide.back full len full_fits);
      };
}

pub u2_cut : FailsWithin (number_at w16) u2 IsU2
u2_cut = number_cut w16 (2 ^ 16) wide16 (omega arith)

pub u4_cut : FailsWithin (number_at w32) u4 IsU4
u4_cut = number_cut w32 (2 ^ 32) wide32 (omega arith)

pub u8_cut : FailsWithin (number_at w64) u8 IsU8
u8_cut = number_cut w64 (2 ^ 64) wide64 (omega arith)

zeros_are : (n : ℕ) → AreBytesOf n (zeros n)
zeros_are n = (length-zeros n, are_bytes (zeros n) (IsBytes-zeros n))

pub bytes_cut : (n : ℕ) → FailsWithin (bytes_at n) itself (AreBytesOf n)
bytes_cut n = record {
  one = zeros n;
  one_fits = zeros_are n;
  cut = λ bytes fits e.
      let made : List ℕ × List ℕ = (take n bytes, drop n bytes) in
      let g = guard_none (ltb (length bytes) n) made e in
      let short : length bytes < n = ltb-true _ _ g in
      let lacking = n - length bytes in
      let more = zeros lacking in
      let many : length more ≡ lacking = length-zeros lacking in
      let full = bytes ++ more in
      let full_fits : IsBytes full = IsBytes-append bytes more fits (IsBytes-zeros lacking) in
      let len : length full ≡ n = omega (arith, length-append bytes more, many) in
      record { value = full; fits = (len, are_bytes full full_fits); more = more; some = not_nil_from_length more (omega (arith, many)); spelled = refl };
}

-- ---- Two numbers of two bytes.

pub pair_cut : FailsWithin pair_at pair_bytes IsPair
unfolding pair_at
pair_cut = next_cut (number_at w16) (number_at w16) u2 u2 IsU2 IsU2 u2_reader u2_cut u2_cut

-- ---- After a length, and after a count.

pub block_cut : (w : Width) (limit : ℕ) → IsWide w limit → 0 < limit → FailsWithin (block_at w) (block_bytes w) (IsBlock limit)
unfolding block_at
block_cut w limit wide pos =
    let below : ℕ → Type 0 = λ n. n < limit in
    let number = number_reader w limit wide in
    let both = then_cut (number_at w) bytes_at (to_be_bytes w) (λ _. itself) below AreBytesOf number (number_cut w limit wide pos) bytes_cut in
    let P : ℕ × List ℕ → Type 0 = λ p. below p.0 × AreBytesOf p.0 p.1 in
    let S : ℕ × List ℕ → List ℕ = λ p. to_be_bytes w p.0 ++ p.1 in
    let back = λ (p : ℕ × List ℕ) (h : P p). ap (λ (n : ℕ). let made : ℕ × List ℕ = (n, p.1) in made) h.1.0 in
    made_cut (second {A = ℕ} {B = List ℕ}) with_length (then_at (number_at w) bytes_at) S P (block_bytes w) (IsBlock limit) back both
    (λ t h. (h.0, h.1.1)) (λ t. refl)

pub counted_cut : {A : Type 0} (r : List ℕ → Option (A × List ℕ)) (s : A → List ℕ) (F : A → Type 0) → IsReader r s F → FailsWithin r s F
    → FailsWithin (counted_at r) (counted_bytes s) (AreCounted F)
unfolding counted_at
counted_cut {A = A} r s F p c =
    let both = then_cut (number_at w16) (many_at r) u2 (λ _ xs. flat_map s xs) IsU2 (AreMany F) u2_reader u2_cut (many_cut r s F p c) in
    let P : ℕ × List A → Type 0 = λ p. IsU2 p.0 × AreMany F p.0 p.1 in
    let S : ℕ × List A → List ℕ = λ p. u2 p.0 ++ flat_map s p.1 in
    let back = λ (p : ℕ × List A) (h : P p). ap (λ (n : ℕ). let made : ℕ × List A = (n, p.1) in made) h.1.0 in
    made_cut (second {A = ℕ} {B = List A}) with_length (then_at (number_at w16) (many_at r)) S P (counted_bytes s) (AreCounted F) back both
    (λ t h. (h.0, h.1.1)) (λ t. refl)
