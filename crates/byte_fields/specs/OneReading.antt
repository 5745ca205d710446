-- Bytes have one reading: what a reader takes is spelled so, and what is spelled so is read again with
-- any rest. The laws go from the readers of parts to the reader of the whole.
use Rattle.std.proofs.Common.{◌≡◌, ℕ, zero, suc, ◌^◌, ◌<◌, ◌≤◌, Bool, true, false, cond, ltb, List, [], ◌∷◌, ◌++◌, length, take, drop, Option, Some, None, refl, sym, ap, subst, ◌∙◌, append_assoc, arith}
use Rattle.std.specs.List.{flat_map, AllByRecursion}
use Rattle.std.specs.Int.{Width, w16, w32, w64, byte_len, from_be_bytes, to_be_bytes}
use Rattle.std.proofs.lemmas.Bool.{ltb-false, le-ltb}
use Rattle.std.proofs.lemmas.Option.{same_Some}
use Rattle.std.proofs.lemmas.List.{take_at, drop_at, take-append-drop, length-append, length-take}
use Rattle.jk_model.specs.ClassFile.{u2, u4, u8, IsU2, IsU4, IsU8}
use Rattle.byte_fields.specs.Reading.{◌>>=◌, then_at, mapped_at, many_at, byte_at, number_at, bytes_at, pair_at, block_at, counted_at}
use Rattle.byte_fields.specs.Layouts.{IsBytes, Takes, IsReader, u1, IsU1, pair_bytes, IsPair, AreBytesOf, block_bytes, IsBlock, AreMany, counted_bytes, AreCounted}
use Rattle.byte_fields.specs.PartsAreBytes.{IsBytes-drop, IsBytes-take, are_bytes}
use Rattle.byte_fields.specs.OneNumber.{IsWide, wide16, wide32, wide64}

-- ---- Steps.

-- the value of a step that did not fail
pub bind_some : {A B : Type 0} (r : Option A) (f : A → Option B) (y : B) → (r >>= f) ≡ Some y → (x : A) × (r ≡ Some x) × (f x ≡ Some y)
bind_some (Some x) f y e = (x, refl, e)
bind_some None f y e = absurd cc

-- a test for an end that did not hold
pub guard_some : {A : Type 0} (b : Bool) (x y : A) → cond b None (Some x) ≡ Some y → (b ≡ false) × (x ≡ y)
guard_some true x y e = absurd cc
guard_some false x y e = (refl, cc)

pub Takes-then : (a x b y c : List ℕ) → Takes a x b → Takes b y c → Takes a (x ++ y) c
Takes-then a x b y c p q = record {
  parts = p.parts ∙ ap (λ (t : List ℕ). x ++ t) q.parts ∙ sym (append_assoc x y c);
  rest_fits = q.rest_fits;
}

-- ---- One reading: values that fit, with anything after them, are equal where their bytes are.

abbrev pub found : {A : Type 0} → A → List ℕ → Option (A × List ℕ)
found a rest = Some (a, rest)

pub found_is : {A : Type 0} (a b : A) (x y : List ℕ) → found a x ≡ found b y → (a ≡ b) × (x ≡ y)
found_is {A = A} a b x y e =
    let made : A × List ℕ = (a, x) in
    let given : A × List ℕ = (b, y) in
    let same : made ≡ given = same_Some made given e in
    (ap (λ (p : A × List ℕ). p.0) same, ap (λ (p : A × List ℕ). p.1) same)

pub one_reading : {A : Type 0} (r : List ℕ → Option (A × List ℕ)) (s : A → List ℕ) (F : A → Type 0) → IsReader r s F
    → (a b : A) (x y : List ℕ) → F a → F b → s a ++ x ≡ s b ++ y → (a ≡ b) × (x ≡ y)
one_reading r s F p a b x y fa fb e = found_is a b x y (sym (p.again a x fa) ∙ ap r e ∙ p.again b y fb)

-- ---- Readers of wholes.

pub then_reader : {A B : Type 0} (r : List ℕ → Option (A × List ℕ)) (k : A → List ℕ → Option (B × List ℕ))
    (s : A → List ℕ) (t : A → B → List ℕ) (F : A → Type 0) (G : A → B → Type 0)
    → IsReader r s F → ((a : A) → IsReader (k a) (t a) (G a))
    → IsReader (then_at r k) (λ p. s p.0 ++ t p.0 p.1) (λ p. F p.0 × G p.0 p.1)
then_reader {A = A} {B = B} r k s t F G p q = record {
  takes = λ bytes x fits e.
      let a = bind_some (r bytes) (λ x. k x.0 x.1 >>= λ y. Some ((x.0, y.0), y.1)) x e in
      let b = bind_some (k a.0.0 a.0.1) (λ y. Some ((a.0.0, y.0), y.1)) x a.2 in
      let first = p.takes bytes a.0 fits a.1 in
      let second = (q a.0.0).takes a.0.1 b.0 first.0.rest_fits b.1 in
      let both = Takes-then bytes (s a.0.0) a.0.1 (t a.0.0 b.0.0) b.0.1 first.0 second.0 in
      let made : (A × B) × List ℕ = ((a.0.0, b.0.0), b.0.1) in
      let P : (A × B) × List ℕ → Type 0 = λ y. Takes bytes (s y.0.0 ++ t y.0.0 y.0.1) y.1 × (F y.0.0 × G y.0.0 y.0.1) in
      subst P (same_Some made x b.2) (both, (first.1, second.1));
  again = λ a rest fits.
      ap (then_at r k) (append_assoc (s a.0) (t a.0 a.1) rest)
      ∙ rw (p.again a.0 (t a.0 a.1 ++ rest) fits.0, (q a.0).again a.1 rest fits.1) refl;
}

-- one field, and then another that doesn't hang on it
pub next_reader : {A B : Type 0} (r : List ℕ → Option (A × List ℕ)) (q : List ℕ → Option (B × List ℕ)) (s : A → List ℕ) (t : B → List ℕ)
    (F : A → Type 0) (G : B → Type 0) → IsReader r s F → IsReader q t G → IsReader (then_at r (λ _. q)) (λ p. s p.0 ++ t p.1) (λ p. F p.0 × G p.1)
next_reader r q s t F G p k = then_reader r (λ _. q) s (λ _. t) F (λ _. G) p (λ _. k)

mapped_reader : {A B : Type 0} (f : A → B) (g : B → A) (r : List ℕ → Option (A × List ℕ)) (s : A → List ℕ) (F : A → Type 0)
    → ((b : B) → f (g b) ≡ b) → ((a : A) → F a → g (f a) ≡ a) → IsReader r s F → IsReader (mapped_at f r) (λ b. s (g b)) (λ b. F (g b))
mapped_reader {A = A} {B = B} f g r s F fg gf p = record {
  takes = λ bytes x fits e.
      let a = bind_some (r bytes) (λ x. Some (f x.0, x.1)) x e in
      let h = p.takes bytes a.0 fits a.1 in
      let made : B × List ℕ = (f a.0.0, a.0.1) in
      let back = sym (gf a.0.0 h.1) in
      let P : B × List ℕ → Type 0 = λ y. Takes bytes (s (g y.0)) y.1 × F (g y.0) in
      subst P (same_Some made x a.2) (subst (λ (v : A). Takes bytes (s v) a.0.1 × F v) back h);
  again = λ b rest fits. rw (p.again (g b) rest fits) (ap (λ (v : B). Some (v, rest)) (fg b));
}

-- other words for the same spelling and the same values
refitted : {A : Type 0} (r : List ℕ → Option (A × List ℕ)) (s t : A → List ℕ) (F G : A → Type 0) → IsReader r s F
    → ((a : A) → F a → G a) → ((a : A) → G a → F a) → ((a : A) → s a ≡ t a) → IsReader r t G
refitted r s t F G p there back same = record {
  takes = λ bytes x fits e.
      let h = p.takes bytes x fits e in
      (subst (λ (w : List ℕ). Takes bytes w x.1) (same x.0) h.0, there x.0 h.1);
  again = λ a rest fits. ap (λ (w : List ℕ). r (w ++ rest)) (sym (same a)) ∙ p.again a rest (back a fits);
}

-- a value that f makes of what is read, with its own spelling and its own words for which values fit
pub made_reader : {A B : Type 0} (f : A → B) (g : B → A) (r : List ℕ → Option (A × List ℕ)) (s : A → List ℕ) (F : A → Type 0)
    (t : B → List ℕ) (G : B → Type 0) → ((b : B) → f (g b) ≡ b) → ((a : A) → F a → g (f a) ≡ a) → IsReader r s F
    → ((b : B) → F (g b) → G b) → ((b : B) → G b → F (g b)) → ((b : B) → s (g b) ≡ t b) → IsReader (mapped_at f r) t G
made_reader f g r s F t G fg gf p there back same =
    refitted (mapped_at f r) (λ b. s (g b)) t (λ b. F (g b)) G (mapped_reader f g r s F fg gf p) there back same

-- ---- So many, one after another.

many_take : {A : Type 0} (r : List ℕ → Option (A × List ℕ)) (s : A → List ℕ) (F : A → Type 0) → IsReader r s F
    → (n : ℕ) (bytes : List ℕ) (x : List A × List ℕ) → IsBytes bytes → many_at r n bytes ≡ Some x
    → Takes bytes (flat_map s x.0) x.1 × AreMany F n x.0
many_take {A = A} r s F p zero bytes x fits e =
    let made : List A × List ℕ = ([], bytes) in
    let P : List A × List ℕ → Type 0 = λ y. Takes bytes (flat_map s y.0) y.1 × AreMany F 0 y.0 in
    subst P (same_Some made x e) (record { parts = refl; rest_fits = fits }, (refl, tt))
many_take {A = A} r s F p (suc n) bytes x fits e =
    let a = bind_some (r bytes) (λ first. many_at r n first.1 >>= λ others. Some (first.0 ∷ others.0, others.1)) x e in
    let b = bind_some (many_at r n a.0.1) (λ others. Some (a.0.0 ∷ others.0, others.1)) x a.2 in
    let first = p.takes bytes a.0 fits a.1 in
    let second = many_take r s F p n a.0.1 b.0 first.0.rest_fits b.1 in
    let both = Takes-then bytes (s a.0.0) a.0.1 (flat_map s b.0.0) b.0.1 first.0 second.0 in
    let made : List A × List ℕ = (a.0.0 ∷ b.0.0, b.0.1) in
    let P : List A × List ℕ → Type 0 = λ y. Takes bytes (flat_map s y.0) y.1 × AreMany F (suc n) y.0 in
    subst P (same_Some made x b.2) (both, (ap suc second.1.0, (first.1, second.1.1)))

many_again : {A : Type 0} (r : List ℕ → Option (A × List ℕ)) (s : A → List ℕ) (F : A → Type 0) → IsReader r s F
    → (xs : List A) (rest : List ℕ) → AllByRecursion F xs → many_at r (length xs) (flat_map s xs ++ rest) ≡ Some (xs, rest)
many_again r s F p [] rest fits = refl
many_again r s F p (a ∷ xs) rest fits =
    ap (many_at r (suc (length xs))) (append_assoc (s a) (flat_map s xs) rest)
    ∙ rw (p.again a (flat_map s xs ++ rest) fits.0, many_again r s F p xs rest fits.1) refl

pub many_reader : {A : Type 0} (r : List ℕ → Option (A × List ℕ)) (s : A → List ℕ) (F : A → Type 0) → IsReader r s F
    → (n : ℕ) → IsReader (many_at r n) (flat_map s) (AreMany F n)
many_reader {A = A} r s F p n = record {
  takes = λ bytes x fits e. many_take r s F p n bytes x fits e;
  again = λ xs rest fits. subst (λ (k : ℕ). many_at r k (flat_map s xs ++ rest) ≡ Some (xs, rest)) fits.0 (many_again r s F p xs rest fits.1);
}

-- ---- Numbers and bytes.

pub u1_reader : IsReader byte_at u1 IsU1
u1_reader = record {
  takes = λ bytes x fits e. byte_takes bytes x fits e;
  again = λ a rest fits. refl;
}
  where
    byte_takes : (bytes : List ℕ) (x : ℕ × List ℕ) → IsBytes bytes → byte_at bytes ≡ Some x → Takes bytes (u1 x.0) x.1 × IsU1 x.0
    byte_takes [] x fits e = absurd cc
    byte_takes (b ∷ bytes) x fits e =
        let made : ℕ × List ℕ = (b, bytes) in
        let P : ℕ × List ℕ → Type 0 = λ y. Takes (b ∷ bytes) (u1 y.0) y.1 × IsU1 y.0 in
        subst P (same_Some made x e) (record { parts = refl; rest_fits = λ i. fits (suc i) }, fits 0)

pub number_reader : (w : Width) (limit : ℕ) → IsWide w limit → IsReader (number_at w) (to_be_bytes w) (λ n. n < limit)
number_reader w limit wide = record {
  takes = λ bytes x fits e.
      let front = take (byte_len w) bytes in
      let front_fits = IsBytes-take (byte_len w) bytes fits in
      let made : ℕ × List ℕ = (from_be_bytes w front, drop (byte_len w) bytes) in
      let g = guard_some (ltb (length bytes) (byte_len w)) made x e in
      let long : byte_len w ≤ length bytes = ltb-false _ _ g.0 in
      let len : length front ≡ byte_len w = omega (arith, length-take (byte_len w) bytes) in
      let parts : bytes ≡ to_be_bytes w (from_be_bytes w front) ++ drop (byte_len w) bytes =
      sym (take-append-drop (byte_len w) bytes) ∙ ap (λ (t : List ℕ). t ++ drop (byte_len w) bytes) (sym (wide.back front len front_fits)) in
      let P : ℕ × List ℕ → Type 0 = λ y. Takes bytes (to_be_bytes w y.0) y.1 × (y.0 < limit) in
      subst P g.1 (record { parts = parts; rest_fits = IsBytes-drop (byte_len w) bytes fits }, wide.below front front_fits);
  again = λ n rest lt.
      let len = wide.len n in
      let long : ltb (length (to_be_bytes w n ++ rest)) (byte_len w) ≡ false = le-ltb _ _ (omega (arith, length-append (to_be_bytes w n) rest)) in
      rw (long, take_at (to_be_bytes w n) rest (byte_len w) len, drop_at (to_be_bytes w n) rest (byte_len w) len, wide.again n lt) refl;
}

pub u2_reader : IsReader (number_at w16) u2 IsU2
u2_reader = number_reader w16 (2 ^ 16) wide16

pub u4_reader : IsReader (number_at w32) u4 IsU4
u4_reader = number_reader w32 (2 ^ 32) wide32

pub u8_reader : IsReader (number_at w64) u8 IsU8
u8_reader = number_reader w64 (2 ^ 64) wide64

-- equal bytes begin with equal numbers of one width, and go on equally
pub one_u2 : (m n : ℕ) (x y : List ℕ) → IsU2 m → IsU2 n → u2 m ++ x ≡ u2 n ++ y → (m ≡ n) × (x ≡ y)
one_u2 = one_reading (number_at w16) u2 IsU2 u2_reader

pub one_u4 : (m n : ℕ) (x y : List ℕ) → IsU4 m → IsU4 n → u4 m ++ x ≡ u4 n ++ y → (m ≡ n) × (x ≡ y)
one_u4 = one_reading (number_at w32) u4 IsU4 u4_reader

pub one_u8 : (m n : ℕ) (x y : List ℕ) → IsU8 m → IsU8 n → u8 m ++ x ≡ u8 n ++ y → (m ≡ n) × (x ≡ y)
one_u8 = one_reading (number_at w64) u8 IsU8 u8_reader

abbrev pub itself : List ℕ → List ℕ
itself bytes = bytes

pub bytes_again : (n : ℕ) (front rest : List ℕ) → length front ≡ n → bytes_at n (front ++ rest) ≡ Some (front, rest)
bytes_again n front rest len =
    let long : ltb (length (front ++ rest)) n ≡ false = le-ltb _ _ (omega (arith, length-append front rest)) in
    rw (long, take_at front rest n len, drop_at front rest n len) refl

pub bytes_reader : (n : ℕ) → IsReader (bytes_at n) itself (AreBytesOf n)
bytes_reader n = record {
  takes = λ bytes x fits e.
      let made : List ℕ × List ℕ = (take n bytes, drop n bytes) in
      let g = guard_some (ltb (length bytes) n) made x e in
      let long : n ≤ length bytes = ltb-false _ _ g.0 in
      let len : length (take n bytes) ≡ n = omega (arith, length-take n bytes) in
      let P : List ℕ × List ℕ → Type 0 = λ y. Takes bytes y.0 y.1 × AreBytesOf n y.0 in
      let took : Takes bytes (take n bytes) (drop n bytes) = record { parts = sym (take-append-drop n bytes); rest_fits = IsBytes-drop n bytes fits } in
      subst P g.1 (took, (len, are_bytes (take n bytes) (IsBytes-take n bytes fits)));
  again = λ t rest fits. bytes_again n t rest fits.0;
}

-- ---- Two numbers of two bytes.

pub pair_reader : IsReader pair_at pair_bytes IsPair
unfolding pair_at
pair_reader = next_reader (number_at w16) (number_at w16) u2 u2 IsU2 IsU2 u2_reader u2_reader

-- ---- After a length, and after a count.

abbrev pub second : {A B : Type 0} → A × B → B
second p = p.1

abbrev pub with_length : {A : Type 0} → List A → ℕ × List A
with_length xs = (length xs, xs)

pub block_reader : (w : Width) (limit : ℕ) → IsWide w limit → IsReader (block_at w) (block_bytes w) (IsBlock limit)
unfolding block_at
block_reader w limit wide =
    let below : ℕ → Type 0 = λ n. n < limit in
    let both = then_reader (number_at w) bytes_at (to_be_bytes w) (λ _. itself) below AreBytesOf (number_reader w limit wide) bytes_reader in
    let P : ℕ × List ℕ → Type 0 = λ p. below p.0 × AreBytesOf p.0 p.1 in
    let S : ℕ × List ℕ → List ℕ = λ p. to_be_bytes w p.0 ++ p.1 in
    let back = λ (p : ℕ × List ℕ) (h : P p). ap (λ (n : ℕ). let made : ℕ × List ℕ = (n, p.1) in made) h.1.0 in
    made_reader (second {A = ℕ} {B = List ℕ}) with_length (then_at (number_at w) bytes_at) S P (block_bytes w) (IsBlock limit) (λ t. refl) back both
    (λ t h. (h.0, h.1.1)) (λ t h. (h.0, (refl, h.1))) (λ t. refl)

pub counted_reader : {A : Type 0} (r : List ℕ → Option (A × List ℕ)) (s : A → List ℕ) (F : A → Type 0) → IsReader r s F
    → IsReader (counted_at r) (counted_bytes s) (AreCounted F)
unfolding counted_at
counted_reader {A = A} r s F p =
    let both = then_reader (number_at w16) (many_at r) u2 (λ _ xs. flat_map s xs) IsU2 (AreMany F) u2_reader (many_reader r s F p) in
    let P : ℕ × List A → Type 0 = λ p. IsU2 p.0 × AreMany F p.0 p.1 in
    let S : ℕ × List A → List ℕ = λ p. u2 p.0 ++ flat_map s p.1 in
    let back = λ (p : ℕ × List A) (h : P p). ap (λ (n : ℕ). let made : ℕ × List A = (n, p.1) in made) h.1.0 in
    made_reader (second {A = ℕ} {B = List A}) with_length (then_at (number_at w16) (many_at r)) S P (counted_bytes s) (AreCounted F) (λ t. refl) back both
    (λ t h. (h.0, h.1.1)) (λ t h. (h.0, (refl, h.1))) (λ t. refl)
