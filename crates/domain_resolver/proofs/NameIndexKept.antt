-- A table that gets one more name keeps its indexes.
use Rattle.std.proofs.Common.{◌≡◌, ℕ, ◌+◌, ◌<◌, ◌≤◌, ◌⊎◌, inl, inr, Bool, true, false, List, [], ◌∷◌, ◌++◌, length, map, refl, sym, ◌∙◌, ap, arith, Option, Some, None, slice_get, nat_eq, length-append, if◌then◌else◌}
use Rattle.std.specs.Prelude.{IsTrue, ◌↔◌, Contains}
use Rattle.std.specs.List.{list_any}
use Rattle.std.specs.BTreeMap.{is_at}
use Rattle.std.specs.Map.{lookup}
use Rattle.std.specs.Ordering.{nat_cmp}
use Rattle.std.proofs.lemmas.Bool.{cases_lt, eqb-true, eq-eqb}
use Rattle.std.proofs.lemmas.List.{map-append}
use Rattle.std.proofs.lemmas.List.Elements.{Contains-append_left, Contains-push, Contains-push_cases}
use Rattle.std.proofs.lemmas.Map.Lookups.{exact_unsigned}
use Rattle.std.proofs.lemmas.Map.Views.{tells_apart}
use Rattle.std.proofs.lemmas.Option.{same_Some}
use Rattle.list_lemmas.proofs.TestsAndOrders.{found_itself}
use Rattle.list_lemmas.proofs.ItemsByPlace.{slice_get-front, slice_get-longer, slice_get-seam, old_or_last}
use Rattle.jk_model.specs.declared.identifiers.ClassId.{ClassId}
use Rattle.shared_values.specs.Fingerprints.{fingerprint_of}
use Rattle.jk_model_classes.specs.Worlds.{NamedClass, IsNamed}
use Rattle.domain_resolver.proofs.ClassOfANumber.{same_class}
use Rattle.domain_resolver.specs.declared.name_table.NameEntry.{NameEntry}
use Rattle.domain_resolver.specs.NameIndex.{named_class, IsNewest, HasFingerprint, AreChained, LacksName, IsIndex}
use Rattle.domain_resolver.proofs.EntryOfAName.{NamesDiffer}

-- ---- The entries by fingerprints.

keeps_print : (es : List NameEntry) (y : NameEntry) (f k : ℕ) → HasFingerprint es f k → HasFingerprint (es ++ y ∷ []) f k
keeps_print es y f k h = record { entry = h.entry; there = slice_get-longer es (y ∷ []) k h.entry h.there; is = h.is }

had_print : (es : List NameEntry) (y : NameEntry) (f k : ℕ) → k < length es → HasFingerprint (es ++ y ∷ []) f k → HasFingerprint es f k
had_print es y f k low h = record { entry = h.entry; there = sym (slice_get-front es (y ∷ []) k low) ∙ h.there; is = h.is }

last_print : (es : List NameEntry) (y : NameEntry) (f : ℕ) → HasFingerprint (es ++ y ∷ []) f (length es) → fingerprint_of y.name ≡ f
last_print es y f h =
    let entry : h.entry ≡ y = same_Some h.entry y (sym h.there ∙ slice_get-seam es y []) in
    ap (λ (e : NameEntry). fingerprint_of e.name) (sym entry) ∙ h.is

-- the newest before an old place is what it was
newest_kept : (es : List NameEntry) (y : NameEntry) (f end : ℕ) (r : Option ℕ) → end ≤ length es → IsNewest es f end r → IsNewest (es ++ y ∷ []) f end r
newest_kept es y f end None within h = λ k low has. h k low (had_print es y f k (omega arith) has)
newest_kept es y f end (Some p) within h = (h.0, keeps_print es y f p h.1, λ k after low has. h.2 k after low (had_print es y f k (omega arith) has))

-- one more place changes nothing for other fingerprints
newest_past : (es : List NameEntry) (y : NameEntry) (f : ℕ) (r : Option ℕ) → (fingerprint_of y.name ≡ f → ⊥) → IsNewest es f (length es) r
    → IsNewest (es ++ y ∷ []) f (length es + 1) r
newest_past es y f r other h = further r (newest_kept es y f (length es) r (omega arith) h)
  where
    not_last : (k : ℕ) → k < length es + 1 → HasFingerprint (es ++ y ∷ []) f k → k < length es
    not_last k low has = by_order (cases_lt k (length es))
      where
        by_order : (k < length es) ⊎ (length es ≤ k) → k < length es
        by_order (inl l) = l
        by_order (inr l) = absurd (other (last_print es y f (let same : k ≡ length es = omega arith in rw same at has)))

    further : (r : Option ℕ) → IsNewest (es ++ y ∷ []) f (length es) r → IsNewest (es ++ y ∷ []) f (length es + 1) r
    further None g = λ k low has. g k (not_last k low has) has
    further (Some p) g = (omega (arith, g.0), g.1, λ k after low has. g.2 k after (not_last k low has) has)

-- and for its own fingerprint it is the newest
newest_itself : (es : List NameEntry) (y : NameEntry) (f : ℕ) → fingerprint_of y.name ≡ f → IsNewest (es ++ y ∷ []) f (length es + 1) (Some (length es))
newest_itself es y f same = (
  omega arith,
  record { entry = y; there = slice_get-seam es y []; is = same },
  λ k after low has. absurd (omega arith),
)

newest_added : (es : List NameEntry) (y : NameEntry) (f : ℕ) (r : Option ℕ) → IsNewest es f (length es) r
    → (b : Bool) → is_at (nat_cmp (fingerprint_of y.name)) f ≡ b
    → IsNewest (es ++ y ∷ []) f (length es + 1) (if b then Some (length es) else r)
newest_added es y f r h true e = newest_itself es y f (tells_apart exact_unsigned (fingerprint_of y.name) f e)
newest_added es y f r h false e = newest_past es y f r (λ same. let yes = found_itself (fingerprint_of y.name) f same in cc) h

chained_added : (es : List NameEntry) (y : NameEntry) → AreChained es → IsNewest es (fingerprint_of y.name) (length es) y.before → AreChained (es ++ y ∷ [])
chained_added es y h last place e at = by_place (old_or_last es y place e at)
  where
    by_place : ((place < length es) × (slice_get es place ≡ Some e)) ⊎ ((place ≡ length es) × (e ≡ y))
        → IsNewest (es ++ y ∷ []) (fingerprint_of e.name) place e.before
    by_place (inl (low, there)) = newest_kept es y (fingerprint_of e.name) place e.before (omega arith) (h place e there)
    by_place (inr (end, same)) =
        let kept = newest_kept es y (fingerprint_of y.name) (length es) y.before (omega arith) last in
        rw (end, same) kept

-- ---- The classes, and the names.

named_added : (es : List NameEntry) (y : NameEntry) (c : ClassId) → IsNamed (map named_class es) c ⊎ (y.class ≡ c) → IsNamed (map named_class (es ++ y ∷ [])) c
named_added es y c (inl (name, has)) = (name, rw (map-append named_class es (y ∷ [])) (Contains-append_left (map named_class es) (named_class y ∷ []) _ has))
named_added es y c (inr same) = (
  y.name,
  rw (map-append named_class es (y ∷ []), ← same) (Contains-push (map named_class es) (named_class y)),
)

named_before : (es : List NameEntry) (y : NameEntry) (c : ClassId) → IsNamed (map named_class (es ++ y ∷ [])) c → IsNamed (map named_class es) c ⊎ (y.class ≡ c)
named_before es y c (name, has) =
    let there : Contains (map named_class es ++ named_class y ∷ []) (record { name = name; class = c }) = rw map-append at has in
    by_place (Contains-push_cases (map named_class es) (named_class y) (record { name = name; class = c }) there)
  where
    by_place : Contains (map named_class es) (record { name = name; class = c }) ⊎ (named_class y ≡ record { name = name; class = c })
        → IsNamed (map named_class es) c ⊎ (y.class ≡ c)
    by_place (inl old) = inl (name, old)
    by_place (inr new) = inr (ap (λ (e : NamedClass). e.class) new)

classes_added : (es : List NameEntry) (y : NameEntry) (c : ClassId) (old new : Bool)
    → IsTrue old ↔ IsNamed (map named_class es) c → (b : Bool) → nat_eq y.class.0 c.0 ≡ b → new ≡ (if b then true else old)
    → IsTrue new ↔ IsNamed (map named_class (es ++ y ∷ [])) c
classes_added es y c old new h true e g = (
  λ _. named_added es y c (inr (same_class y.class c (eqb-true y.class.0 c.0 e))),
  λ _. rw g refl,
)
classes_added es y c old new h false e g = (
  λ t. named_added es y c (inl (h.0 (rw g at t))),
  λ n. rw g (h.1 (by_place (named_before es y c n))),
)
  where
    by_place : IsNamed (map named_class es) c ⊎ (y.class ≡ c) → IsNamed (map named_class es) c
    by_place (inl old) = old
    by_place (inr same) = let yes = eq-eqb y.class.0 c.0 (ap (λ (d : ClassId). d.0) same) in absurd (let no : true ≡ false = sym yes ∙ e in cc)

differ_added : (es : List NameEntry) (y : NameEntry) → NamesDiffer es → LacksName es y.name → NamesDiffer (es ++ y ∷ [])
differ_added es y differ lacks i j a b p q same = by_places (old_or_last es y i a p) (old_or_last es y j b q)
  where
    by_places : ((i < length es) × (slice_get es i ≡ Some a)) ⊎ ((i ≡ length es) × (a ≡ y))
        → ((j < length es) × (slice_get es j ≡ Some b)) ⊎ ((j ≡ length es) × (b ≡ y)) → i ≡ j
    by_places (inl (low, there)) (inl (low', there')) = differ i j a b there there' same
    by_places (inl (low, there)) (inr (end, last)) = absurd (lacks i a there (same ∙ ap (λ (e : NameEntry). e.name) last))
    by_places (inr (end, last)) (inl (low, there)) = absurd (lacks j b there (sym same ∙ ap (λ (e : NameEntry). e.name) last))
    by_places (inr (end, last)) (inr (end', last')) = end ∙ sym end'

-- one more entry, which leads on to the newest before it with its fingerprint, and whose name is new
pub index_added : (es : List NameEntry) (newest newest' : List (ℕ × ℕ)) (classes classes' : List ℕ) (y : NameEntry) → IsIndex es newest classes
    → LacksName es y.name → y.before ≡ lookup (is_at (nat_cmp (fingerprint_of y.name))) newest
    → ((f : ℕ) → lookup (is_at (nat_cmp f)) newest'
    ≡ (if is_at (nat_cmp (fingerprint_of y.name)) f then Some (length es) else lookup (is_at (nat_cmp f)) newest))
    → ((n : ℕ) → list_any (nat_eq n) classes' ≡ (if nat_eq y.class.0 n then true else list_any (nat_eq n) classes))
    → IsIndex (es ++ y ∷ []) newest' classes'
index_added es newest newest' classes classes' y h lacks before puts adds = record {
  newest_are =
      λ f.
      let added = newest_added es y f (lookup (is_at (nat_cmp f)) newest) (h.newest_are f) (is_at (nat_cmp (fingerprint_of y.name)) f) refl in
      rw (puts f, length-append es (y ∷ [])) added;
  chained = chained_added es y h.chained (rw before (h.newest_are (fingerprint_of y.name)));
  classes_are =
      λ c.
      classes_added es y c (list_any (nat_eq c.0) classes) (list_any (nat_eq c.0) classes') (h.classes_are c) (nat_eq y.class.0 c.0) refl (adds c.0);
  names_differ = differ_added es y h.names_differ lacks;
}
