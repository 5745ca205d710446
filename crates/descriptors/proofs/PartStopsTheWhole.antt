-- Where units stop being the text of a part they stop being the whole, and the longest of them that begin a text have one length.
use Rattle.std.proofs.Common.{◌≡◌, ℕ, suc, ◌+◌, ◌-◌, ◌<◌, ◌≤◌, inl, inr, List, [], ◌∷◌, ◌++◌, length, refl, sym, ◌∙◌, ap, arith, length-append, take, append-nil, append_assoc}
use Rattle.std.proofs.lemmas.Bool.{cases_order}
use Rattle.std.proofs.Math.Seq.{take-append_seam, take-append-add}
use Rattle.jk_model.specs.Descriptors.{IsLongestBeginning}
use Rattle.descriptors.specs.Stops.{StartsAs, IsStuck}

-- no text is the beginning of another
abbrev pub IsPrefixFree : (List ℕ → Type 0) → Type 0
IsPrefixFree IsText = (a b r s : List ℕ) → IsText a → IsText b → a ++ r ≡ b ++ s → (a ≡ b) × (r ≡ s)

pub starts_within : (front rest v : List ℕ) → StartsAs rest v → StartsAs (front ++ rest) (front ++ v)
starts_within [] rest v h = h
starts_within (u ∷ front) rest v h = inr (u, front ++ v, front ++ rest, refl, refl)

as_itself : (rest : List ℕ) → StartsAs rest rest
as_itself [] = inl refl
as_itself (u ∷ rest) = inr (u, rest, rest, refl, refl)

pub first_of : (rest v : List ℕ) (u : ℕ) (more : List ℕ) → StartsAs rest v → v ≡ u ∷ more → (after : List ℕ) × (rest ≡ u ∷ after)
first_of rest v u more (inl e) h = absurd cc
first_of rest v u more (inr (w, m, b, ev, er)) h =
    let same : u ≡ w = cc in
    (b, rw same er)

-- ---- A part and what follows it.

abbrev pub IsBoth : (List ℕ → Type 0) → (List ℕ → Type 0) → List ℕ → Type 0
IsBoth A B text = (a : List ℕ) × (b : List ℕ) × A a × B b × (text ≡ a ++ b)

pub stuck_first : (A B : List ℕ → Type 0) (front rest b : List ℕ) → B b → IsStuck A front rest → IsStuck (IsBoth A B) front rest
stuck_first A B front rest b hb ((more, ha), never) = (
  (more ++ b, (front ++ more, b, ha, hb, sym (append_assoc front more b))),
  λ v text after s t e. never v t.0 (t.1 ++ after) s t.2 (e ∙ rw t.4 (append_assoc t.0 t.1 after)),
)

pub stuck_second : (A B : List ℕ → Type 0) → IsPrefixFree A → (a front rest : List ℕ) → A a → IsStuck B front rest → IsStuck (IsBoth A B) (a ++ front) rest
stuck_second A B free a front rest ha ((more, hb), never) = (
  (more, (a, front ++ more, ha, hb, append_assoc a front more)),
  λ v text after s t e.
      let whole : a ++ (front ++ v) ≡ t.0 ++ (t.1 ++ after) = sym (append_assoc a front v) ∙ e ∙ rw t.4 (append_assoc t.0 t.1 after) in
      let same = free a t.0 (front ++ v) (t.1 ++ after) ha t.2 whole in
      never v t.1 after s t.3 same.1,
)

pub free_both : (A B : List ℕ → Type 0) → IsPrefixFree A → IsPrefixFree B → IsPrefixFree (IsBoth A B)
free_both A B free_a free_b x y r s (a, b, ha, hb, ex) (a2, b2, ha2, hb2, ey) e =
    let whole : a ++ (b ++ r) ≡ a2 ++ (b2 ++ s) = sym (append_assoc a b r) ∙ ap (λ t. t ++ r) (sym ex) ∙ e ∙ rw ey (append_assoc a2 b2 s) in
    let first = free_a a a2 (b ++ r) (b2 ++ s) ha ha2 whole in
    let second = free_b b b2 r s hb hb2 first.1 in
    (rw (ex, ey, first.0, second.0) refl, second.1)

-- the same texts by another definition
pub stuck_as : (A B : List ℕ → Type 0) → ((text : List ℕ) → A text → B text) → ((text : List ℕ) → B text → A text) → (front rest : List ℕ)
    → IsStuck A front rest → IsStuck B front rest
stuck_as A B there back front rest ((more, h), never) = ((more, there (front ++ more) h), λ v text after s t e. never v text after s (back text t) e)

-- ---- The whole.

-- the units are no text, and the longest part of them that begins one has this length
abbrev pub EndsAt : (List ℕ → Type 0) → List ℕ → ℕ → Type 0
EndsAt IsText units n = (IsText units → ⊥) × IsLongestBeginning (λ part. (more : List ℕ) × IsText (part ++ more)) units n

-- no text goes on from here with the first unit of the rest
abbrev IsLast : (List ℕ → Type 0) → List ℕ → List ℕ → Type 0
IsLast IsText front rest = (u : ℕ) (after more : List ℕ) → rest ≡ u ∷ after → IsText (front ++ u ∷ more) → ⊥

beyond : (IsText : List ℕ → Type 0) (front rest : List ℕ) → IsLast IsText front rest → (m : ℕ) → length front < m → (more : List ℕ)
    → m ≤ length (front ++ rest) → IsText (take m (front ++ rest) ++ more) → ⊥
beyond IsText front [] last m low more high h = absurd (omega (arith, length-append front []))
beyond IsText front (u ∷ rest) last m low more high h =
    let k : ℕ = m - length front - 1 in
    let split : m ≡ length front + suc k = omega arith in
    let part : take m (front ++ u ∷ rest) ≡ front ++ u ∷ take k rest = ap (λ i. take i (front ++ u ∷ rest)) split ∙ take-append-add front (u ∷ rest) (suc k) in
    let whole : take m (front ++ u ∷ rest) ++ more ≡ front ++ u ∷ (take k rest ++ more) =
    ap (λ t. t ++ more) part ∙ append_assoc front (u ∷ take k rest) more in
    last u rest (take k rest ++ more) refl (rw whole at h)

pub ends_at : (IsText : List ℕ → Type 0) (front rest more : List ℕ) → IsText (front ++ more) → (IsText (front ++ rest) → ⊥) → IsLast IsText front rest
    → EndsAt IsText (front ++ rest) (length front)
ends_at IsText front rest more h never last = (
  never,
  (
    omega (arith, length-append front rest),
    (more, rw (take-append_seam front rest) h),
    λ m low high begins. beyond IsText front rest last m low begins.0 high begins.1,
  ),
)

pub stuck_ends : (IsText : List ℕ → Type 0) (front rest : List ℕ) → IsStuck IsText front rest → EndsAt IsText (front ++ rest) (length front)
stuck_ends IsText front rest ((more, h), never) =
    ends_at IsText front rest more h
    (λ t. never rest (front ++ rest) [] (as_itself rest) t (sym (append-nil (front ++ rest))))
    (λ u after more e t. never (u ∷ more) (front ++ u ∷ more) [] (inr (u, more, after, refl, e)) t (sym (append-nil (front ++ u ∷ more))))

-- units that follow a text
pub trailing_ends : (IsText : List ℕ → Type 0) → IsPrefixFree IsText → (front rest : List ℕ) → IsText front → (rest ≡ [] → ⊥)
    → EndsAt IsText (front ++ rest) (length front)
trailing_ends IsText free front rest h some =
    ends_at IsText front rest [] (rw (append-nil front) h)
    (λ t. some (free front (front ++ rest) rest [] h t (sym (append-nil (front ++ rest)))).1)
    (λ u after more e t.
    let none = (free front (front ++ u ∷ more) (u ∷ more) [] h t (sym (append-nil (front ++ u ∷ more)))).1 in
    let never : u ∷ more ≡ [] = none in
    absurd cc)

-- there is one such length
pub one_end : (IsText : List ℕ → Type 0) (units : List ℕ) (n m : ℕ) → EndsAt IsText units n → EndsAt IsText units m → n ≡ m
one_end IsText units n m (never, (le, begins, last)) (never2, (le2, begins2, last2)) =
    elim (cases_order n m) [
      | inl same ↦ same
      | inr (inl lt) ↦ absurd (last m lt le2 begins2)
      | inr (inr gt) ↦ absurd (last2 n gt le begins)
    ]
