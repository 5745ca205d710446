-- Bytes have one reading as the encodings of units, one after the other, since no encoding is the beginning of another.
use Rattle.std.proofs.Common.{◌≡◌, ℕ, List, [], ◌∷◌, ◌++◌, length, refl, sym, ◌∙◌, arith}
use Rattle.jk_model.specs.Text.{IsUnit, Spells}

-- no encoding is the beginning of another
pub record Same (f g : List ℕ) (u v : ℕ) (r s : List ℕ) : Type 0 where
  pub unit : u ≡ v
  pub long : length f ≡ length g
  pub rests : r ≡ s

pub same_encoding : (f g : List ℕ) (u v : ℕ) (r s : List ℕ) → IsUnit f u → IsUnit g v → f ++ r ≡ g ++ s → Same f g u v r s
same_encoding [] g u v r s hf hg e = absurd hf
same_encoding (a ∷ []) [] u v r s hf hg e = absurd hg
same_encoding (a ∷ []) (b ∷ []) u v r s hf hg e =
    let whole : a ∷ r ≡ b ∷ s = e in
    let first : a ≡ b = cc in
    record { unit = omega (arith, hf.2, hg.2, first); long = refl; rests = cc }
same_encoding (a ∷ []) (b ∷ b2 ∷ []) u v r s hf hg e =
    let whole : a ∷ r ≡ b ∷ b2 ∷ s = e in
    let first : a ≡ b = cc in
    absurd (omega (arith, hf.1, hg.0, first))
same_encoding (a ∷ []) (b ∷ b2 ∷ b3 ∷ []) u v r s hf hg e =
    let whole : a ∷ r ≡ b ∷ b2 ∷ b3 ∷ s = e in
    let first : a ≡ b = cc in
    absurd (omega (arith, hf.1, hg.0, first))
same_encoding (a ∷ []) (b ∷ b2 ∷ b3 ∷ b4 ∷ more) u v r s hf hg e = absurd hg
same_encoding (a ∷ a2 ∷ []) [] u v r s hf hg e = absurd hg
same_encoding (a ∷ a2 ∷ []) (b ∷ []) u v r s hf hg e =
    let whole : a ∷ a2 ∷ r ≡ b ∷ s = e in
    let first : a ≡ b = cc in
    absurd (omega (arith, hf.0, hg.1, first))
same_encoding (a ∷ a2 ∷ []) (b ∷ b2 ∷ []) u v r s hf hg e =
    let whole : a ∷ a2 ∷ r ≡ b ∷ b2 ∷ s = e in
    let first : a ≡ b = cc in
    let second : a2 ≡ b2 = cc in
    record { unit = omega (arith, hf.4, hg.4, first, second); long = refl; rests = cc }
same_encoding (a ∷ a2 ∷ []) (b ∷ b2 ∷ b3 ∷ []) u v r s hf hg e =
    let whole : a ∷ a2 ∷ r ≡ b ∷ b2 ∷ b3 ∷ s = e in
    let first : a ≡ b = cc in
    absurd (omega (arith, hf.1, hg.0, first))
same_encoding (a ∷ a2 ∷ []) (b ∷ b2 ∷ b3 ∷ b4 ∷ more) u v r s hf hg e = absurd hg
same_encoding (a ∷ a2 ∷ a3 ∷ []) [] u v r s hf hg e = absurd hg
same_encoding (a ∷ a2 ∷ a3 ∷ []) (b ∷ []) u v r s hf hg e =
    let whole : a ∷ a2 ∷ a3 ∷ r ≡ b ∷ s = e in
    let first : a ≡ b = cc in
    absurd (omega (arith, hf.0, hg.1, first))
same_encoding (a ∷ a2 ∷ a3 ∷ []) (b ∷ b2 ∷ []) u v r s hf hg e =
    let whole : a ∷ a2 ∷ a3 ∷ r ≡ b ∷ b2 ∷ s = e in
    let first : a ≡ b = cc in
    absurd (omega (arith, hf.0, hg.1, first))
same_encoding (a ∷ a2 ∷ a3 ∷ []) (b ∷ b2 ∷ b3 ∷ []) u v r s hf hg e =
    let whole : a ∷ a2 ∷ a3 ∷ r ≡ b ∷ b2 ∷ b3 ∷ s = e in
    let first : a ≡ b = cc in
    let second : a2 ≡ b2 = cc in
    let third : a3 ≡ b3 = cc in
    record { unit = omega (arith, hf.6, hg.6, first, second, third); long = refl; rests = cc }
same_encoding (a ∷ a2 ∷ a3 ∷ []) (b ∷ b2 ∷ b3 ∷ b4 ∷ more) u v r s hf hg e = absurd hg
same_encoding (a ∷ a2 ∷ a3 ∷ a4 ∷ more) g u v r s hf hg e = absurd hf

-- an encoding has a byte
pub encoding_some : (encoding after : List ℕ) (u : ℕ) → IsUnit encoding u → encoding ++ after ≡ [] → ⊥
encoding_some [] after u h e = h
encoding_some (a ∷ encoding) after u h e =
    let whole : a ∷ (encoding ++ after) ≡ [] = e in
    absurd cc

pub one_reading : (bytes us vs : List ℕ) → Spells bytes us → Spells bytes vs → us ≡ vs
one_reading bytes [] [] h k = refl
one_reading bytes [] (v ∷ vs) h (g, s, one, e, others) = absurd (encoding_some g s v one (sym e ∙ h))
one_reading bytes (u ∷ us) [] (f, r, one, e, others) k = absurd (encoding_some f r u one (sym e ∙ k))
one_reading bytes (u ∷ us) (v ∷ vs) (f, r, hf, ef, hr) (g, s, hg, eg, hs) =
    let same = same_encoding f g u v r s hf hg (sym ef ∙ eg) in
    let others : us ≡ vs = one_reading r us vs hr (rw same.rests hs) in
    rw (same.unit, others) refl
