-- Each level has half as many nodes as the level below it, and enough for all places.
use Rattle.std.proofs.Common.{◌≡◌, ℕ, zero, suc, ◌<◌, ◌≤◌, ◌+◌, ◌/◌, ◌%◌, ◌⊎◌, inl, inr, List, [], ◌∷◌, ◌++◌, length, get_or, refl, sym, ◌∙◌, ap, subst, arith, replicate, map, length-append}
use Rattle.std.specs.List.{Contains}
use Rattle.std.proofs.lemmas.Bool.{cases_lt, cases_order}
use Rattle.std.proofs.lemmas.List.{get_or_past, map_push, get_or_append_left, get_or-replicate, length-replicate}
use Rattle.std.proofs.Math.Seq.{get_or-append_seam}
use Rattle.handler_cover.specs.Building.{IsBare, row, width_at}
use Rattle.handler_cover.specs.Covering.{entries_at, node_over}
use Rattle.handler_cover.proofs.NodesByPlace.{at_place, row_at}

-- each level has a node over each place
pub over_within : (level place places : ℕ) → place < places → node_over level place < width_at level places
over_within zero place places low = low
over_within (suc level) place places low = halve (node_over level place) (width_at level places) (over_within level place places low)
  where
    halve : (m w : ℕ) → m < w → m / 2 < w / 2 + w % 2
    halve m w low = omega arith

-- nodes with places of the code alone below them are nodes of the level
pub whole_within : (level places : ℕ) → node_over level places ≤ width_at level places
whole_within zero places = omega arith
whole_within (suc level) places = halve (node_over level places) (width_at level places) (whole_within level places)
  where
    halve : (m w : ℕ) → m ≤ w → m / 2 ≤ w / 2 + w % 2
    halve m w low = omega arith

-- the levels so far, which have no entry
pub record IsBareUpTo (places whole width : ℕ) (levels : List (List (List ℕ))) : Type 0 where
  pub whole_is : whole ≡ node_over (length levels) places
  pub width_is : width ≡ width_at (length levels) places
  pub widths : (level : ℕ) → level < length levels → length (row levels level) ≡ width_at level places
  pub empty : (level node x : ℕ) → Contains (entries_at levels level node) x → ⊥

none_in_nil : (x : ℕ) → Contains [] x → ⊥
none_in_nil x (k, low, _) = absurd (omega arith)

pub bare_none : (places : ℕ) → IsBareUpTo places places places []
bare_none places = record {
  whole_is = refl;
  width_is = refl;
  widths = λ level low. absurd (omega arith);
  empty = λ level node x has. none_in_nil x has;
}

pub bare_done : (places width : ℕ) (levels : List (List (List ℕ))) → IsBareUpTo places 0 width levels → IsBare places levels
bare_done places width levels bare = record {
  has_levels = record { top = sym bare.whole_is; widths = bare.widths };
  empty = bare.empty;
}

length_more : (levels : List (List (List ℕ))) (new : List (List ℕ)) → length (levels ++ new ∷ []) ≡ suc (length levels)
length_more levels new = simp length-append (omega arith)

bare_node : (width node : ℕ) → get_or (replicate width (let nil : List ℕ = [] in nil)) node [] ≡ []
bare_node width node = by_place (cases_lt node width)
  where
    by_place : (node < width) ⊎ (width ≤ node) → get_or (replicate width (let nil : List ℕ = [] in nil)) node [] ≡ []
    by_place (inl low) = get_or-replicate width node [] [] low
    by_place (inr past) = get_or_past (replicate width []) node [] (simp length-replicate past)

-- one level more
pub bare_more : (places whole width : ℕ) (levels : List (List (List ℕ))) → IsBareUpTo places whole width levels
    → IsBareUpTo places (whole / 2) (width / 2 + width % 2) (levels ++ replicate width [] ∷ [])
bare_more places whole width levels bare = record {
  whole_is = rw (length_more levels new) (ap (λ m. m / 2) bare.whole_is);
  width_is = rw (length_more levels new) (ap (λ w. w / 2 + w % 2) bare.width_is);
  widths = λ level low. width_by level (cases_order level (length levels)) (rw (length_more levels new) at low);
  empty = λ level node x has. empty_by level node x (cases_order level (length levels)) has;
}
  where
    new : List (List ℕ)
    new = replicate width []

    width_by : (level : ℕ) → (level ≡ length levels) ⊎ ((level < length levels) ⊎ (length levels < level)) → level < suc (length levels)
        → length (row (levels ++ new ∷ []) level) ≡ width_at level places
    width_by level (inl here) _ = rw here
        (ap length (row_at (levels ++ new ∷ []) (length levels) ∙ get_or-append_seam levels new [] []) ∙ length-replicate width [] ∙ bare.width_is)
    width_by level (inr (inl below)) _ =
        ap length (row_at (levels ++ new ∷ []) level ∙ get_or_append_left levels (new ∷ []) [] level below ∙ sym (row_at levels level))
        ∙ bare.widths level below
    width_by level (inr (inr above)) low = absurd (omega arith)

    empty_by : (level node x : ℕ) → (level ≡ length levels) ⊎ ((level < length levels) ⊎ (length levels < level))
        → Contains (entries_at (levels ++ new ∷ []) level node) x → ⊥
    empty_by level node x (inl here) has = none_in_nil x (subst (λ (es : List ℕ). Contains es x)
        (at_place (levels ++ new ∷ []) level node ∙ ap (λ (r : List (List ℕ)). get_or r node []) (rw here (get_or-append_seam levels new [] []))
        ∙ bare_node width node) has)
    empty_by level node x (inr (inl below)) has = bare.empty level node x (subst (λ (es : List ℕ). Contains es x)
        (at_place (levels ++ new ∷ []) level node ∙ ap (λ (r : List (List ℕ)). get_or r node []) (get_or_append_left levels (new ∷ []) [] level below)
        ∙ sym (at_place levels level node)) has)
    empty_by level node x (inr (inr above)) has = none_in_nil x (subst (λ (es : List ℕ). Contains es x)
        (at_place (levels ++ new ∷ []) level node
        ∙ ap (λ (r : List (List ℕ)). get_or r node []) (get_or_past (levels ++ new ∷ []) level [] (rw (length_more levels new) (omega arith)))) has)

-- the same, for levels in vectors
pub bare_more_in : {W : Type 0} (h : W → List (List ℕ)) (levels pushed : List W) (level : W) (places whole width : ℕ)
    → pushed ≡ levels ++ level ∷ [] → h level ≡ replicate width [] → IsBareUpTo places whole width (map h levels)
    → IsBareUpTo places (whole / 2) (width / 2 + width % 2) (map h pushed)
bare_more_in h levels pushed level places whole width pushes nodes bare =
    subst (λ (t : List (List (List ℕ))). IsBareUpTo places (whole / 2) (width / 2 + width % 2) t)
    (sym (ap (map h) pushes ∙ map_push h levels level ∙ ap (λ (l : List (List ℕ)). map h levels ++ l ∷ []) nodes))
    (bare_more places whole width (map h levels) bare)
