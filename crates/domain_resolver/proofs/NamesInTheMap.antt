-- What a map from names finds after a name is put into it or taken out.
use Rattle.std.proofs.Common.{◌≡◌, ℕ, Bool, true, false, true≢false, List, [], ◌∷◌, refl, sym, ◌∙◌, ap, Some, None, Ordering, if◌then◌else◌}
use Rattle.std.specs.Str.{bytes_eq}
use Rattle.std.specs.Ordering.{nat_cmp, is_eq}
use Rattle.std.specs.declared.cmp.Ordering.TheVariants.{Less, Equal, Greater}
use Rattle.std.specs.Map.{lookup, remove_entry}
use Rattle.std.specs.BTreeMap.{insert_entry}
use Rattle.std.specs.Cmp.Lexicographic.{slice_cmp}
use Rattle.std.proofs.lemmas.Cmp.{lists_total, nat_cmp_total, tied_itself}
use Rattle.std.proofs.lemmas.Map.Lookups.{exact_bytes}
use Rattle.std.proofs.lemmas.Map.Text.{is_eq-slice_cmp}
use Rattle.std.proofs.lemmas.Slice.Eq.{bytes_eq-Decides}

module _ {K : Type 0} (items : K → List ℕ) where
  -- whether a key has this name
  abbrev at : List ℕ → K → Bool
  at name k = is_eq (slice_cmp nat_cmp name (items k))

  abbrev by_items : K → K → Ordering
  by_items a b = slice_cmp nat_cmp (items a) (items b)

  at_same : (name : List ℕ) (k : K) → at name k ≡ true → name ≡ items k
  at_same name k e = (bytes_eq-Decides name (items k)).0 (sym (is_eq-slice_cmp name (items k)) ∙ e)

  at_itself : (name : List ℕ) (k : K) → name ≡ items k → at name k ≡ true
  at_itself name k e = is_eq-slice_cmp name (items k) ∙ (bytes_eq-Decides name (items k)).1 e

  -- whether names are equal, as the map asks it
  at_is : (name : List ℕ) (k : K) (b : Bool) → bytes_eq (items k) name ≡ b → at name k ≡ b
  at_is name k true e = at_itself name k (sym ((bytes_eq-Decides (items k) name).0 e))
  at_is name k false e = by_test (at name k) refl
    where
      by_test : (b : Bool) → at name k ≡ b → at name k ≡ false
      by_test true t = absurd (true≢false (sym ((bytes_eq-Decides (items k) name).1 (sym (at_same name k t))) ∙ e))
      by_test false t = t

  -- ---- A name is put in.

  put_at : (es : List (K × ℕ)) (k : K) (v : ℕ) (name : List ℕ) (b : Bool) → at name k ≡ b
      → lookup (at name) (insert_entry by_items es k v) ≡ (if b then Some v else lookup (at name) es)
  put_at [] k v name b t = rw t
  put_at (e ∷ es) k v name b t = by_order (by_items k e.0) refl (put_at es k v name b t)
    where
      by_order : (r : Ordering) → by_items k e.0 ≡ r → lookup (at name) (insert_entry by_items es k v) ≡ (if b then Some v else lookup (at name) es)
          → lookup (at name) (insert_entry by_items (e ∷ es) k v) ≡ (if b then Some v else lookup (at name) (e ∷ es))
      by_order Less o later = rw (o, t)
      by_order Equal o later =
          let same : items k ≡ items e.0 = exact_bytes (items k) (items e.0) o in
          let test : at name e.0 ≡ b = ap (λ xs. is_eq (slice_cmp nat_cmp name xs)) (sym same) ∙ t in
          rw (o, test) (by_flag b)
        where
          by_flag : (c : Bool) → (if c then Some v else lookup (at name) es) ≡ (if c then Some v else (if c then Some e.1 else lookup (at name) es))
          by_flag true = refl
          by_flag false = refl
      by_order Greater o later = rw o (by_flag b t later (at name e.0) refl)
        where
          by_flag : (c : Bool) → at name k ≡ c → lookup (at name) (insert_entry by_items es k v) ≡ (if c then Some v else lookup (at name) es)
              → (f : Bool) → at name e.0 ≡ f
              → (if at name e.0 then Some e.1 else lookup (at name) (insert_entry by_items es k v))
              ≡ (if c then Some v else (if at name e.0 then Some e.1 else lookup (at name) es))
          by_flag c s h false f = rw f h
          by_flag false s h true f = rw f refl
          by_flag true s h true f =
              let same : items k ≡ items e.0 = sym (at_same name k s) ∙ at_same name e.0 f in
              let tie : by_items k e.0 ≡ Equal = ap (λ xs. slice_cmp nat_cmp xs (items e.0)) same ∙ tied_itself (lists_total nat_cmp_total) (items e.0) in
              let both : Equal ≡ Greater = sym tie ∙ o in cc

  pub put_finds : (es : List (K × ℕ)) (k : K) (v : ℕ) (name : List ℕ)
      → lookup (at name) (insert_entry by_items es k v) ≡ (if bytes_eq (items k) name then Some v else lookup (at name) es)
  put_finds es k v name = put_at es k v name (bytes_eq (items k) name) (at_is name k (bytes_eq (items k) name) refl)

  -- ---- A name is taken out.

  others_stay : (es : List (K × ℕ)) (name q : List ℕ) → (name ≡ q → ⊥) → lookup (at q) (remove_entry (at name) es) ≡ lookup (at q) es
  others_stay [] name q other = refl
  others_stay (e ∷ es) name q other = by_test (at name e.0) refl (others_stay es name q other)
    where
      by_other : (b : Bool) → at q e.0 ≡ b → at name e.0 ≡ true → lookup (at q) es ≡ (if at q e.0 then Some e.1 else lookup (at q) es)
      by_other true s t = absurd (other (at_same name e.0 t ∙ sym (at_same q e.0 s)))
      by_other false s t = rw s refl

      by_test : (b : Bool) → at name e.0 ≡ b → lookup (at q) (remove_entry (at name) es) ≡ lookup (at q) es
          → lookup (at q) (remove_entry (at name) (e ∷ es)) ≡ lookup (at q) (e ∷ es)
      by_test true t later = rw t (by_other (at q e.0) refl t)
      by_test false t later = rw (t, later)

  pub take_finds : (es : List (K × ℕ)) (name q : List ℕ) → lookup (at name) (remove_entry (at name) es) ≡ None
      → lookup (at q) (remove_entry (at name) es) ≡ (if bytes_eq name q then None else lookup (at q) es)
  take_finds es name q gone = by_test (bytes_eq name q) refl
    where
      by_test : (b : Bool) → bytes_eq name q ≡ b → lookup (at q) (remove_entry (at name) es) ≡ (if b then None else lookup (at q) es)
      by_test true t =
          let same : name ≡ q = (bytes_eq-Decides name q).0 t in
          ap (λ xs. lookup (at xs) (remove_entry (at name) es)) (sym same) ∙ gone
      by_test false t = others_stay es name q (λ same. true≢false (sym ((bytes_eq-Decides name q).1 same) ∙ t))
