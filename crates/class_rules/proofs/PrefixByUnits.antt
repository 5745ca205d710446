-- A list begins with another where its first items are those of the other.
use Rattle.std.proofs.Common.{◌≡◌, ◌↔◌, ℕ, ◌<◌, ◌≤◌, List, [], ◌∷◌, ◌++◌, length, slice_index, refl, sym, ◌∙◌, ap, arith, drop, take, ◌-◌, suc, Bool, true, false, IsTrue}
use Rattle.std.proofs.lemmas.List.{get_or_append_left, drop_at, take_all, length-drop}
use Rattle.std.proofs.lemmas.Bool.Decides.{Decides-eqb}
use Rattle.std.proofs.lemmas.Slice.Eq.{starts_is}
use Rattle.std.specs.List.{starts_with}
use Rattle.std.specs.Prelude.{nat_eq}
use Rattle.jk_model.specs.Outside.{IsPrefix}

pub prefix_from_items : (text units : List ℕ) → length text ≤ length units
    → ((k : ℕ) → k < length text → k < length units → slice_index units k ≡ slice_index text k) → IsPrefix text units
prefix_from_items [] units long h = (units, refl)
prefix_from_items (t ∷ text) [] long h = absurd (omega arith)
prefix_from_items (t ∷ text) (u ∷ units) long h =
    let first : u ≡ t = h 0 (omega arith) (omega arith) in
    let others = prefix_from_items text units (omega arith) (λ k lt lt2. h (suc k) (omega arith) (omega arith)) in
    let more : units ≡ text ++ others.0 = others.1 in
    (others.0, cc)

pub items_from_prefix : (text units : List ℕ) → IsPrefix text units → (k : ℕ) → k < length text → slice_index units k ≡ slice_index text k
items_from_prefix text units (back, e) k lt = rw e (get_or_append_left text back 0 k lt)

-- units are two texts, one after the other
pub is_both : (units front back : List ℕ) (starts ends : Bool) → starts ≡ starts_with nat_eq units front → starts ≡ true
    → (IsTrue ends ↔ (take (length units - length front) (drop (length front) units) ≡ back)) → IsTrue ends ↔ (units ≡ front ++ back)
is_both units front back starts ends value begins h =
    let whole : units ≡ front ++ drop (length front) units = (starts_is Decides-eqb units front starts value).0 begins in
    let rest : take (length units - length front) (drop (length front) units) ≡ drop (length front) units =
    take_all (length units - length front) (drop (length front) units) (omega (arith, length-drop (length front) units)) in
    (λ t. whole ∙ ap (λ b. front ++ b) (sym rest ∙ h.0 t), λ e. h.1 (rest ∙ (ap (λ u. drop (length front) u) e ∙ drop_at front back (length front) refl)))

pub is_none : (units front back : List ℕ) (starts : Bool) → starts ≡ starts_with nat_eq units front → starts ≡ false
    → IsTrue starts ↔ (units ≡ front ++ back)
is_none units front back starts value fails =
    let never : units ≡ front ++ back → starts ≡ true = λ e. (starts_is Decides-eqb units front starts value).1 back e in
    (λ t. absurd cc, λ e. never e)
