-- The first class of a walk that has such a member is found by asking the classes in turn, each once.
use Rattle.std.proofs.Common.{◌≡◌, ℕ, zero, suc, ◌+◌, ◌<◌, ◌≤◌, Bool, true, false, cond, List, [], ◌∷◌, ◌++◌, length, get_or, Option, Some, None, flat_map, refl, sym, ap, subst, ◌∙◌, ◌⊎◌, inl, inr, arith}
use Rattle.std.specs.Prelude.{slice_get, filter, not, ◌==◌}
use Rattle.std.proofs.lemmas.Bool.Decides.{nat_tests}
use Rattle.std.proofs.lemmas.Option.{same_Some, slice_get-get_or, get_or_from_slice_get}
use Rattle.std.proofs.lemmas.Bool.{cases_eq}
use Rattle.list_lemmas.proofs.ItemsOfLists.{Contains-here, Contains-there, Contains-cases, Contains-none}
use Rattle.jk_model.specs.declared.identifiers.ClassId.{ClassId}
use Rattle.jk_model.specs.declared.identifiers.MemberId.{MemberId}
use Rattle.jk_model_classes.specs.Classes.{OBJECT, firsts}
use Rattle.jk_model_classes.specs.Items.{HasItemBefore}
use Rattle.jk_model_classes.specs.Lookups.{Declares, IsFirstOf, IsFirstFrom, FindsFrom, IsFirstOn, IsNowhereOn, FindsOn}

-- The first such member of this class; none where it has none.
abbrev pub FindsIn : (MemberId → Type 0) → ClassId → MemberId → Type 0
FindsIn Suits c m = (m.class ≡ c) × IsFirstOf Suits m

-- What `FindsOn` says, class by class from the front of the walk.
abbrev pub FindsAlong : (MemberId → Type 0) → List ClassId → Option MemberId → Type 0
FindsAlong Suits [] found = found ≡ None
FindsAlong Suits (c ∷ walk) found =
    ((m : MemberId) × (found ≡ Some m) × FindsIn Suits c m) ⊎ ((Declares Suits c → ⊥) × FindsAlong Suits walk found)

same_number : (c d : ClassId) → c.0 ≡ d.0 → c ≡ d
same_number c d e = ap (λ (n : ℕ). let x : ClassId = record { 0 = n } in x) e

module _ (Suits : MemberId → Type 0) where
  -- ---- The two say the same.

  along_first : (walk : List ClassId) (m : MemberId) → IsFirstOf Suits m → (place : ℕ) → slice_get walk place ≡ Some m.class
      → (HasItemBefore place (Declares Suits) walk → ⊥) → FindsAlong Suits walk (Some m)
  along_first [] m first place visited earlier = absurd cc
  along_first (c ∷ walk) m first zero visited earlier = inl (m, refl, (sym (same_Some c m.class visited), first))
  along_first (c ∷ walk) m first (suc place) visited earlier =
      inr (
        λ has. earlier (0, c, omega arith, refl, has),
        along_first walk m first place visited (λ (i, d, lt, at, has). earlier (suc i, d, omega arith, at, has)),
      )

  pub along-from_on : (walk : List ClassId) (found : Option MemberId) → FindsOn Suits walk found → FindsAlong Suits walk found
  along-from_on [] None h = refl
  along-from_on (c ∷ walk) None h =
      inr (h c (Contains-here c walk), along-from_on walk None (λ d there. h d (Contains-there d c walk there)))
  along-from_on walk (Some m) h = along_first walk m h.member h.place h.visited h.earlier

  first_here : (c : ClassId) (walk : List ClassId) (m : MemberId) → FindsIn Suits c m → IsFirstOn Suits (c ∷ walk) m
  first_here c walk m h =
      record {
        member = h.1;
        place = 0;
        visited = ap Some (sym h.0);
        earlier = λ (i, d, lt, at, has). omega arith;
      }

  none_before : (c : ClassId) (walk : List ClassId) → (Declares Suits c → ⊥) → (place : ℕ)
      → (HasItemBefore place (Declares Suits) walk → ⊥) → HasItemBefore (suc place) (Declares Suits) (c ∷ walk) → ⊥
  none_before c walk none place earlier (zero, d, lt, at, has) = none (subst (Declares Suits) (sym (same_Some c d at)) has)
  none_before c walk none place earlier (suc i, d, lt, at, has) = earlier (i, d, omega arith, at, has)

  first_later : (c : ClassId) (walk : List ClassId) (found : Option MemberId) → (Declares Suits c → ⊥) → FindsOn Suits walk found
      → FindsOn Suits (c ∷ walk) found
  first_later c walk None none h = λ d there. elim (Contains-cases d c walk there) [
    | inl e ↦ λ has. none (subst (Declares Suits) (sym e) has)
    | inr later ↦ h d later
  ]
  first_later c walk (Some m) none h =
      record {
        member = h.member;
        place = suc h.place;
        visited = h.visited;
        earlier = none_before c walk none h.place h.earlier;
      }

  pub on-from_along : (walk : List ClassId) (found : Option MemberId) → FindsAlong Suits walk found → FindsOn Suits walk found
  on-from_along [] found e = subst (FindsOn Suits []) (sym e) (λ c there. absurd (Contains-none c there))
  on-from_along (c ∷ walk) found (inl (m, e, here)) = subst (FindsOn Suits (c ∷ walk)) (sym e) (first_here c walk m here)
  on-from_along (c ∷ walk) found (inr (none, later)) = first_later c walk found none (on-from_along walk found later)

  -- ---- Classes that were asked before need not be asked again.

  along_kept_by : (keeps : ClassId → Bool) (d : ClassId) (walk : List ClassId) (found : Option MemberId) (b : Bool)
      → (b ≡ false → Declares Suits d → ⊥) → (FindsAlong Suits (filter keeps walk) found → FindsAlong Suits walk found)
      → FindsAlong Suits (cond b (d ∷ filter keeps walk) (filter keeps walk)) found → FindsAlong Suits (d ∷ walk) found
  along_kept_by keeps d walk found true none more (inl here) = inl here
  along_kept_by keeps d walk found true none more (inr (not_here, later)) = inr (not_here, more later)
  along_kept_by keeps d walk found false none more later = inr (none refl, more later)

  along_kept : (keeps : ClassId → Bool) (walk : List ClassId) (found : Option MemberId)
      → ((d : ClassId) → keeps d ≡ false → Declares Suits d → ⊥) → FindsAlong Suits (filter keeps walk) found → FindsAlong Suits walk found
  along_kept keeps [] found none h = h
  along_kept keeps (d ∷ walk) found none h = along_kept_by keeps d walk found (keeps d) (none d) (along_kept keeps walk found none) h

  same_from_test : (c d : ClassId) → not (d.0 == c.0) ≡ false → d ≡ c
  same_from_test c d e = same_number d c (grind (arith, nat_tests))

  pub along-firsts : (walk : List ClassId) (found : Option MemberId) → FindsAlong Suits (firsts walk) found → FindsAlong Suits walk found
  along-firsts [] found h = h
  along-firsts (c ∷ walk) found (inl here) = inl here
  along-firsts (c ∷ walk) found (inr (none, later)) =
      inr (
        none,
        along-firsts walk found
            (along_kept (λ d. not (d.0 == c.0)) (firsts walk) found
            (λ d e has. none (subst (Declares Suits) (same_from_test c d e) has)) later),
      )

  -- the first item of a walk with each class once is the first of the walk
  pub on-firsts : (walk : List ClassId) (found : Option MemberId) → FindsOn Suits (firsts walk) found → FindsOn Suits walk found
  on-firsts walk found h = on-from_along walk found (along-firsts walk found (along-from_on (firsts walk) found h))

  -- ---- One walk after another.

  pub along-append_found : (xs ys : List ClassId) (m : MemberId) → FindsAlong Suits xs (Some m) → FindsAlong Suits (xs ++ ys) (Some m)
  along-append_found [] ys m h = absurd cc
  along-append_found (c ∷ xs) ys m (inl here) = inl here
  along-append_found (c ∷ xs) ys m (inr (none, later)) = inr (none, along-append_found xs ys m later)

  pub along-append_none : (xs ys : List ClassId) (found : Option MemberId) → FindsAlong Suits xs None → FindsAlong Suits ys found
      → FindsAlong Suits (xs ++ ys) found
  along-append_none [] ys found none h = h
  along-append_none (c ∷ xs) ys found (inl (m, e, here)) h = absurd cc
  along-append_none (c ∷ xs) ys found (inr (none, later)) h = inr (none, along-append_none xs ys found later h)

  along_rest : (xs ys zs : List ClassId) (found : Option MemberId) → (FindsAlong Suits ys found → FindsAlong Suits zs found)
      → FindsAlong Suits (xs ++ ys) found → FindsAlong Suits (xs ++ zs) found
  along_rest [] ys zs found more h = more h
  along_rest (c ∷ xs) ys zs found more (inl here) = inl here
  along_rest (c ∷ xs) ys zs found more (inr (none, later)) = inr (none, along_rest xs ys zs found more later)

  declares : (c : ClassId) (m : MemberId) → FindsIn Suits c m → Declares Suits c
  declares c m (e, first) = subst (Declares Suits) e (m.index, first.suits)

  -- where none of some classes has such a member, it is found among what stands beside them
  pub along-beside : (beside : ClassId → List ClassId) (xs : List ClassId) (found : Option MemberId) → FindsAlong Suits xs None
      → FindsAlong Suits (flat_map (λ d. d ∷ beside d) xs) found → FindsAlong Suits (flat_map beside xs) found
  along-beside beside [] found none h = h
  along-beside beside (d ∷ xs) found (inl (m, e, here)) h = absurd cc
  along-beside beside (d ∷ xs) found (inr (none, others)) (inl (m, e, here)) = absurd (none (declares d m here))
  along-beside beside (d ∷ xs) found (inr (none, others)) (inr (not_here, later)) =
      along_rest (beside d) (flat_map (λ d. d ∷ beside d) xs) (flat_map beside xs) found (along-beside beside xs found others) later

  -- ---- What a class answers.

  first_of_class : (c : ClassId) (i : ℕ) → IsFirstFrom Suits 0 (record { class = c; index = i }) → FindsIn Suits c (record { class = c; index = i })
  first_of_class c i h = (refl, record { suits = h.suits; first = λ j lt has. h.first j (omega arith) lt has })

  -- the class has such a member, and so it is the first
  pub along-here : (c : ClassId) (walk : List ClassId) (i : ℕ) → FindsFrom Suits c 0 (Some i)
      → FindsAlong Suits (c ∷ walk) (Some (record { class = c; index = i }))
  along-here c walk i h = inl (record { class = c; index = i }, refl, first_of_class c i h)

  pub none-from_class : (c : ClassId) → FindsFrom Suits c 0 None → Declares Suits c → ⊥
  none-from_class c h (i, has) = h i (omega arith) has

  -- the class has none, and so the others decide
  pub along-there : (c : ClassId) (walk : List ClassId) (found : Option MemberId) → FindsFrom Suits c 0 None → FindsAlong Suits walk found
      → FindsAlong Suits (c ∷ walk) found
  along-there c walk found h later = inr (none-from_class c h, later)

  -- ---- A loop over a walk: no class before a place has such a member.

  pub on-at : (walk : List ClassId) (place i : ℕ) → place < length walk → FindsFrom Suits (get_or walk place OBJECT) 0 (Some i)
      → (HasItemBefore place (Declares Suits) walk → ⊥) → FindsOn Suits walk (Some (record { class = get_or walk place OBJECT; index = i }))
  on-at walk place i within h earlier =
      record {
        member = (first_of_class (get_or walk place OBJECT) i h).1;
        place = place;
        visited = slice_get-get_or walk place OBJECT within;
        earlier = earlier;
      }

  pub none-at : (walk : List ClassId) (place : ℕ) → place < length walk → FindsFrom Suits (get_or walk place OBJECT) 0 None
      → (HasItemBefore place (Declares Suits) walk → ⊥) → HasItemBefore (place + 1) (Declares Suits) walk → ⊥
  none-at walk place within h earlier (i, c, lt, at, has) = elim (cases_eq i place) [
    | inl same ↦
        let here : get_or walk place OBJECT ≡ c = get_or_from_slice_get walk place c OBJECT (rw (← same) at) in
        none-from_class (get_or walk place OBJECT) h (subst (Declares Suits) (sym here) has)
    | inr other ↦ earlier (i, c, omega arith, at, has)
  ]

  pub on-nowhere : (walk : List ClassId) (place : ℕ) → length walk ≤ place → (HasItemBefore place (Declares Suits) walk → ⊥)
      → IsNowhereOn Suits walk
  on-nowhere walk place all earlier c (k, within, e) has = earlier (k, c, omega arith, slice_get-get_or walk k c within ∙ ap Some e, has)
