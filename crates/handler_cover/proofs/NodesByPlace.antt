-- What stands at the nodes of a tree after a number is noted at one of them.
use Rattle.std.proofs.Common.{◌≡◌, ◌≢◌, ℕ, zero, suc, ◌<◌, ◌⊎◌, inl, inr, List, [], ◌∷◌, ◌++◌, length, map, get_or, refl, sym, ◌∙◌, ap, subst, get_or-set_same, get_or-set_other, length-set}
use Rattle.std.specs.List.{Contains}
use Rattle.std.proofs.Math.ListN.{set}
use Rattle.std.proofs.lemmas.Bool.{cases_eq}
use Rattle.std.proofs.lemmas.List.Elements.{Contains-append_left, Contains-push, Contains-push_cases}
use Rattle.std.proofs.lemmas.List.{get_or-map, length-map, map-set}
use Rattle.std.proofs.lemmas.Option.{unwrap_or-slice_get}
use Rattle.handler_cover.specs.Building.{IsNoted, row}
use Rattle.handler_cover.specs.Covering.{entries_at}

-- the entries at a node are read out of its level
pub at_place : (levels : List (List (List ℕ))) (k n : ℕ) → entries_at levels k n ≡ get_or (get_or levels k []) n []
at_place [] k n = refl
at_place (level ∷ levels) zero n = unwrap_or-slice_get level n []
at_place (level ∷ levels) (suc k) n = at_place levels k n

pub row_at : (levels : List (List (List ℕ))) (k : ℕ) → row levels k ≡ get_or levels k []
row_at levels k = unwrap_or-slice_get levels k []

-- the level with a number more at a node
abbrev pub with_node : List (List ℕ) → ℕ → ℕ → List (List ℕ)
with_node nodes node x = set nodes node (get_or nodes node [] ++ x ∷ [])

-- the tree with a number more at a node
abbrev pub with_number : List (List (List ℕ)) → ℕ → ℕ → ℕ → List (List (List ℕ))
with_number old level node x =
    set old level (with_node (get_or old level []) node x)

-- the node has the number at its end
at_same : (old : List (List (List ℕ))) (level node x : ℕ) → level < length old → node < length (get_or old level [])
    → entries_at (with_number old level node x) level node ≡ entries_at old level node ++ x ∷ []
at_same old level node x low within =
    at_place (with_number old level node x) level node
    ∙ ap (λ r. get_or r node []) (get_or-set_same old level (with_node (get_or old level []) node x) [] low)
    ∙ get_or-set_same (get_or old level []) node (get_or (get_or old level []) node [] ++ x ∷ []) [] within
    ∙ ap (λ es. es ++ x ∷ []) (sym (at_place old level node))

-- other levels, and other nodes of the level, are as before
row_other : (old : List (List (List ℕ))) (level node x k : ℕ) → k ≢ level
    → get_or (with_number old level node x) k [] ≡ get_or old k []
row_other old level node x k other = get_or-set_other old level k _ [] other

at_other_level : (old : List (List (List ℕ))) (level node x k n : ℕ) → k ≢ level
    → entries_at (with_number old level node x) k n ≡ entries_at old k n
at_other_level old level node x k n other =
    at_place (with_number old level node x) k n ∙ ap (λ r. get_or r n []) (row_other old level node x k other) ∙ sym (at_place old k n)

at_other_node : (old : List (List (List ℕ))) (level node x n : ℕ) → level < length old → n ≢ node
    → entries_at (with_number old level node x) level n ≡ entries_at old level n
at_other_node old level node x n low other =
    at_place (with_number old level node x) level n
    ∙ ap (λ r. get_or r n []) (get_or-set_same old level (with_node (get_or old level []) node x) [] low)
    ∙ get_or-set_other (get_or old level []) node n (get_or (get_or old level []) node [] ++ x ∷ []) [] other
    ∙ sym (at_place old level n)

-- each node has what it had, but for the one
at_each : (old : List (List (List ℕ))) (level node x k n : ℕ) → level < length old → node < length (get_or old level [])
    → (entries_at (with_number old level node x) k n ≡ entries_at old k n)
    ⊎ ((k ≡ level) × (n ≡ node) × (entries_at (with_number old level node x) k n ≡ entries_at old k n ++ x ∷ []))
at_each old level node x k n low within = by_level (cases_eq k level)
  where
    by_node : k ≡ level → (n ≡ node) ⊎ (n ≢ node)
        → (entries_at (with_number old level node x) k n ≡ entries_at old k n)
        ⊎ ((k ≡ level) × (n ≡ node) × (entries_at (with_number old level node x) k n ≡ entries_at old k n ++ x ∷ []))
    by_node same (inl here) = inr (same, here, rw same (rw here (at_same old level node x low within)))
    by_node same (inr other) = inl (rw same (at_other_node old level node x n low other))

    by_level : (k ≡ level) ⊎ (k ≢ level)
        → (entries_at (with_number old level node x) k n ≡ entries_at old k n)
        ⊎ ((k ≡ level) × (n ≡ node) × (entries_at (with_number old level node x) k n ≡ entries_at old k n ++ x ∷ []))
    by_level (inl same) = by_node same (cases_eq n node)
    by_level (inr other) = inl (at_other_level old level node x k n other)

-- each level has as many nodes as before
length_rows : (old : List (List (List ℕ))) (level node x k : ℕ) → level < length old
    → length (get_or (with_number old level node x) k []) ≡ length (get_or old k [])
length_rows old level node x k low = by_level (cases_eq k level)
  where
    by_level : (k ≡ level) ⊎ (k ≢ level) → length (get_or (with_number old level node x) k []) ≡ length (get_or old k [])
    by_level (inl same) = rw same
        (ap length (get_or-set_same old level (with_node (get_or old level []) node x) [] low)
        ∙ length-set (get_or old level []) node (get_or (get_or old level []) node [] ++ x ∷ []))
    by_level (inr other) = ap length (row_other old level node x k other)

-- a node's entries stay where one is added
kept_at : (old new : List ℕ) (x y : ℕ) → (P : Type 0) → (new ≡ old) ⊎ (P × (new ≡ old ++ x ∷ [])) → Contains old y → Contains new y
kept_at old new x y P (inl same) has = subst (λ (es : List ℕ). Contains es y) (sym same) has
kept_at old new x y P (inr (_, more)) has = subst (λ (es : List ℕ). Contains es y) (sym more) (Contains-append_left old (x ∷ []) y has)

-- and no other is added
only_at : (old new : List ℕ) (x y : ℕ) → (P : Type 0) → (new ≡ old) ⊎ (P × (new ≡ old ++ x ∷ [])) → Contains new y
    → Contains old y ⊎ (P × (y ≡ x))
only_at old new x y P (inl same) has = inl (subst (λ (es : List ℕ). Contains es y) same has)
only_at old new x y P (inr (p, more)) has = by_cases (Contains-push_cases old x y (subst (λ (es : List ℕ). Contains es y) more has))
  where
    by_cases : Contains old y ⊎ (x ≡ y) → Contains old y ⊎ (P × (y ≡ x))
    by_cases (inl before) = inl before
    by_cases (inr here) = inr (p, sym here)

-- two facts of three as one
paired : {A P Q R : Type 0} → R ⊎ (P × Q × A) → R ⊎ ((P × Q) × A)
paired (inl r) = inl r
paired (inr (p, q, a)) = inr ((p, q), a)

-- so the number is noted there and nowhere else
pub is_noted : (old : List (List (List ℕ))) (level node x : ℕ) → level < length old → node < length (get_or old level [])
    → IsNoted old (with_number old level node x) level node x
is_noted old level node x low within = record {
  count = length-set old level _;
  widths = λ k. ap length (row_at (with_number old level node x) k) ∙ length_rows old level node x k low ∙ sym (ap length (row_at old k));
  kept = λ k n y has. kept_at _ _ x y _ (paired (at_each old level node x k n low within)) has;
  noted = subst (λ (es : List ℕ). Contains es x) (sym (at_same old level node x low within)) (Contains-push (entries_at old level node) x);
  only = λ k n y has. by_cases k n y (only_at _ _ x y _ (paired (at_each old level node x k n low within)) has);
}
  where
    by_cases : (k n y : ℕ) → Contains (entries_at old k n) y ⊎ (((k ≡ level) × (n ≡ node)) × (y ≡ x))
        → Contains (entries_at old k n) y ⊎ ((k ≡ level) × (n ≡ node) × (y ≡ x))
    by_cases k n y (inl before) = inl before
    by_cases k n y (inr (p, here)) = inr (p.0, p.1, here)

-- the tree that is seen of nested vectors, after an element of an element of one is replaced
pub seen_after : {V W : Type 0} (f : V → List ℕ) (g : W → List V) (levels : List W) (w written : W) (v pushed : V) (level node x : ℕ)
    → level < length levels → node < length (g w) → w ≡ get_or levels level w → v ≡ get_or (g w) node v
    → g written ≡ set (g w) node pushed → f pushed ≡ f v ++ x ∷ []
    → map (λ (u : W). map f (g u)) (set levels level written) ≡ with_number (map (λ (u : W). map f (g u)) levels) level node x
seen_after {V} {W} f g levels w written v pushed level node x low within at_level at_node writes pushes =
    map-set h levels level written
    ∙ ap (λ (r : List (List ℕ)). set (map h levels) level r) written_is
  where
    h : W → List (List ℕ)
    h u = map f (g u)

    whole : get_or (map h levels) level [] ≡ map f (g w)
    whole = get_or-map h levels level w [] low ∙ ap h (sym at_level)

    more : f pushed ≡ get_or (map f (g w)) node [] ++ x ∷ []
    more = pushes ∙ ap (λ (es : List ℕ). es ++ x ∷ []) (ap f at_node ∙ sym (get_or-map f (g w) node v [] within))

    written_is : h written ≡ with_node (get_or (map h levels) level []) node x
    written_is =
        ap (map f) writes
        ∙ map-set f (g w) node pushed
        ∙ ap (λ (es : List ℕ). set (map f (g w)) node es) more
        ∙ ap (λ (r : List (List ℕ)). with_node r node x) (sym whole)

-- the same, for the tree that was seen before
pub noted_in : {V W : Type 0} (f : V → List ℕ) (g : W → List V) (levels : List W) (w written : W) (v pushed : V) (level node x : ℕ)
    → (tree : List (List (List ℕ))) → map (λ (u : W). map f (g u)) levels ≡ tree
    → level < length tree → node < length (row tree level) → w ≡ get_or levels level w → v ≡ get_or (g w) node v
    → g written ≡ set (g w) node pushed → f pushed ≡ f v ++ x ∷ []
    → IsNoted tree (map (λ (u : W). map f (g u)) (set levels level written)) level node x
noted_in {V} {W} f g levels w written v pushed level node x tree seen low within at_level at_node writes pushes =
    subst (λ (t : List (List (List ℕ))). IsNoted tree t level node x) (sym after) (is_noted tree level node x low (rw (← row_at tree level) within))
  where
    h : W → List (List ℕ)
    h u = map f (g u)

    low_inside : level < length levels
    low_inside = rw (← length-map levels h) (rw seen low)

    row_is : row tree level ≡ map f (g w)
    row_is =
        row_at tree level
        ∙ ap (λ (t : List (List (List ℕ))). get_or t level []) (sym seen)
        ∙ get_or-map h levels level w [] low_inside
        ∙ ap h (sym at_level)

    within_inside : node < length (g w)
    within_inside = rw (← length-map (g w) f) (rw (← row_is) within)

    after : map h (set levels level written) ≡ with_number tree level node x
    after = seen_after f g levels w written v pushed level node x low_inside within_inside at_level at_node writes pushes
        ∙ ap (λ (t : List (List (List ℕ))). with_number t level node x) seen
