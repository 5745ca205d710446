-- Texts that get one more keep their index.
use Rattle.std.proofs.Common.{◌≡◌, ℕ, ◌+◌, ◌<◌, ◌≤◌, ◌⊎◌, inl, inr, Bool, true, false, List, [], ◌∷◌, ◌++◌, length, refl, sym, ◌∙◌, ap, arith, Option, Some, None, slice_get, length-append, if◌then◌else◌}
use Rattle.std.specs.BTreeMap.{is_at}
use Rattle.std.specs.Map.{lookup}
use Rattle.std.specs.Ordering.{nat_cmp}
use Rattle.std.proofs.lemmas.Bool.{cases_lt}
use Rattle.std.proofs.lemmas.Map.Lookups.{exact_unsigned}
use Rattle.std.proofs.lemmas.Map.Views.{tells_apart}
use Rattle.std.proofs.lemmas.Option.{same_Some}
use Rattle.list_lemmas.proofs.TestsAndOrders.{found_itself}
use Rattle.list_lemmas.proofs.ItemsByPlace.{slice_get-front, slice_get-longer, slice_get-seam, old_or_last}
use Rattle.shared_values.specs.Fingerprints.{fingerprint_of}
use Rattle.class_init.specs.declared.known_texts.TextEntry.{TextEntry}
use Rattle.class_init.specs.Texts.{IsNewest, HasFingerprint, AreChained, LacksText, IsIndex}

keeps_print : (es : List TextEntry) (y : TextEntry) (f k : ℕ) → HasFingerprint es f k → HasFingerprint (es ++ y ∷ []) f k
keeps_print es y f k h = record { entry = h.entry; there = slice_get-longer es (y ∷ []) k h.entry h.there; is = h.is }

had_print : (es : List TextEntry) (y : TextEntry) (f k : ℕ) → k < length es → HasFingerprint (es ++ y ∷ []) f k → HasFingerprint es f k
had_print es y f k low h = record { entry = h.entry; there = sym (slice_get-front es (y ∷ []) k low) ∙ h.there; is = h.is }

last_print : (es : List TextEntry) (y : TextEntry) (f : ℕ) → HasFingerprint (es ++ y ∷ []) f (length es) → fingerprint_of y.text ≡ f
last_print es y f h =
    let entry : h.entry ≡ y = same_Some h.entry y (sym h.there ∙ slice_get-seam es y []) in
    ap (λ (e : TextEntry). fingerprint_of e.text) (sym entry) ∙ h.is

-- the newest before an old place is what it was
newest_kept : (es : List TextEntry) (y : TextEntry) (f end : ℕ) (r : Option ℕ) → end ≤ length es → IsNewest es f end r → IsNewest (es ++ y ∷ []) f end r
newest_kept es y f end None within h = λ k low has. h k low (had_print es y f k (omega arith) has)
newest_kept es y f end (Some p) within h = (h.0, keeps_print es y f p h.1, λ k after low has. h.2 k after low (had_print es y f k (omega arith) has))

-- one more place changes nothing for other fingerprints
newest_past : (es : List TextEntry) (y : TextEntry) (f : ℕ) (r : Option ℕ) → (fingerprint_of y.text ≡ f → ⊥) → IsNewest es f (length es) r
    → IsNewest (es ++ y ∷ []) f (length es + 1) r
newest_past es y f r other h = further r (newest_kept es y f (length es) r (omega arith) h)
  where
    not_last : (k : ℕ) → k < length es + 1 → HasFingerprint (es ++ y ∷ []) f k → k < length es
    not_last k low has = by_order (cases_lt k (length es))
      where
        by_order : (k < length es) ⊎ (length es ≤ k) → k < length es
        by_order (inl l) = l
        by_order (inr l) = absurd (other (last_print es y f (let same : k ≡ length es = omega arith in rw same at has)))

    further : (r : Option ℕ) → IsNewest (es ++ y ∷ []) f (length es) r → IsNewest (es ++ y ∷ []) f (length es + 1) r
    further None g = λ k low has. g k (not_last k low has) has
    further (Some p) g = (omega (arith, g.0), g.1, λ k after low has. g.2 k after (not_last k low has) has)

-- and for its own fingerprint it is the newest
newest_itself : (es : List TextEntry) (y : TextEntry) (f : ℕ) → fingerprint_of y.text ≡ f → IsNewest (es ++ y ∷ []) f (length es + 1) (Some (length es))
newest_itself es y f same = (
  omega arith,
  record { entry = y; there = slice_get-seam es y []; is = same },
  λ k after low has. absurd (omega arith),
)

newest_added : (es : List TextEntry) (y : TextEntry) (f : ℕ) (r : Option ℕ) → IsNewest es f (length es) r
    → (b : Bool) → is_at (nat_cmp (fingerprint_of y.text)) f ≡ b → IsNewest (es ++ y ∷ []) f (length es + 1) (if b then Some (length es) else r)
newest_added es y f r h true e = newest_itself es y f (tells_apart exact_unsigned (fingerprint_of y.text) f e)
newest_added es y f r h false e = newest_past es y f r (λ same. let yes = found_itself (fingerprint_of y.text) f same in cc) h

chained_added : (es : List TextEntry) (y : TextEntry) → AreChained es → IsNewest es (fingerprint_of y.text) (length es) y.before → AreChained (es ++ y ∷ [])
chained_added es y h last place e at = by_place (old_or_last es y place e at)
  where
    by_place : ((place < length es) × (slice_get es place ≡ Some e)) ⊎ ((place ≡ length es) × (e ≡ y))
        → IsNewest (es ++ y ∷ []) (fingerprint_of e.text) place e.before
    by_place (inl (low, there)) = newest_kept es y (fingerprint_of e.text) place e.before (omega arith) (h place e there)
    by_place (inr (end, same)) =
        let kept = newest_kept es y (fingerprint_of y.text) (length es) y.before (omega arith) last in
        rw (end, same) kept

differ_added : (es : List TextEntry) (y : TextEntry)
    → ((i j : ℕ) (a b : TextEntry) → slice_get es i ≡ Some a → slice_get es j ≡ Some b → a.text ≡ b.text → i ≡ j) → LacksText es y.text
    → (i j : ℕ) (a b : TextEntry) → slice_get (es ++ y ∷ []) i ≡ Some a → slice_get (es ++ y ∷ []) j ≡ Some b → a.text ≡ b.text → i ≡ j
differ_added es y h lacks i j a b p q e = by_places (old_or_last es y i a p) (old_or_last es y j b q)
  where
    by_places : ((i < length es) × (slice_get es i ≡ Some a)) ⊎ ((i ≡ length es) × (a ≡ y))
        → ((j < length es) × (slice_get es j ≡ Some b)) ⊎ ((j ≡ length es) × (b ≡ y)) → i ≡ j
    by_places (inl x) (inl z) = h i j a b x.1 z.1 e
    by_places (inl x) (inr z) = absurd (lacks i a x.1 (e ∙ ap (λ (t : TextEntry). t.text) z.1))
    by_places (inr x) (inl z) = absurd (lacks j b z.1 (sym e ∙ ap (λ (t : TextEntry). t.text) x.1))
    by_places (inr x) (inr z) = x.0 ∙ sym z.0

pub index_added : (es : List TextEntry) (newest newest' : List (ℕ × ℕ)) (y : TextEntry) → IsIndex es newest
    → LacksText es y.text → y.before ≡ lookup (is_at (nat_cmp (fingerprint_of y.text))) newest
    → ((f : ℕ) → lookup (is_at (nat_cmp f)) newest'
    ≡ (if is_at (nat_cmp (fingerprint_of y.text)) f then Some (length es) else lookup (is_at (nat_cmp f)) newest))
    → IsIndex (es ++ y ∷ []) newest'
index_added es newest newest' y h lacks before puts = record {
  newest_are =
      λ f.
      let added = newest_added es y f (lookup (is_at (nat_cmp f)) newest) (h.newest_are f) (is_at (nat_cmp (fingerprint_of y.text)) f) refl in
      rw (puts f, length-append es (y ∷ [])) added;
  chained = chained_added es y h.chained (rw before (h.newest_are (fingerprint_of y.text)));
  texts_differ = differ_added es y h.texts_differ lacks;
}
