-- A capability that is created as its part says, and revoked where it is: the range of its owner alone has one more.
use Rattle.std.proofs.Common.{◌≡◌, ℕ, suc, ◌+◌, ◌-◌, ◌<◌, inl, inr, Bool, true, false, List, [], ◌∷◌, ◌++◌, length, map, find, Contains, Result, Ok, Err, Some, slice_get, refl, sym, ap, ◌∙◌, arith}
use Rattle.std.specs.Prelude.{◌==◌, if◌then◌else◌, option_and_then, option_map}
use Rattle.std.proofs.lemmas.Bool.{cases_Bool, eq-eqb, eqb-true, ne_eqb}
use Rattle.jk_model.specs.declared.identifiers.CapId.{CapId}
use Rattle.jk_model.specs.declared.identifiers.ClassId.{ClassId}
use Rattle.jk_model.specs.declared.steps.Raise.{Raise}
use Rattle.jk_model_heaps.specs.Capabilities.{CapRange, Capability, IsGivenOut, OwnedCapability, capability_in, capability_numbered, has_number}
use Rattle.jk_model_sharing.specs.CapabilityCalls.{next_number, revoked_at, revoked_capability, with_capability_revoked, with_created}
use Rattle.list_lemmas.proofs.ItemsByPlace.{slice_get-last}
use Rattle.list_lemmas.proofs.ItemsOfLists.{Contains-cases, Contains-here, Contains-none, Contains-there}
use Rattle.thread_segments.specs.declared.parts.CapPart.{CapPart}
use Rattle.thread_segments.specs.ClassedRanges.{CreatesIn, has_room_in, revoked_in, used_up_in}
use Rattle.thread_segments.specs.RestoredParts.{MayMake, capability_told, with_one}
use Rattle.thread_segments.proofs.CapsOfDomains.{one_range}
use Rattle.thread_segments.proofs.RestoredRanges.{has_next}
use Rattle.thread_segments.proofs.SoundCapabilities.{maps_alike}
use Rattle.thread_stacks.proofs.FoundInStacks.{find_hit, find_miss}

-- what is found in a mapped list, where it alone passes
found_mapped : {X Y : Type 0} (f : X → Y) (test : Y → Bool) (xs : List X) (x : X) → Contains xs x → test (f x) ≡ true
    → ((y : X) → Contains xs y → test (f y) ≡ true → f y ≡ f x) → find test (map f xs) ≡ Some (f x)
found_mapped f test [] x there passes only = absurd (Contains-none x there)
found_mapped f test (y ∷ xs) x there passes only = elim (cases_Bool (test (f y))) [
  | inl hit ↦ find_hit test (f y) (map f xs) hit ∙ ap Some (only y (Contains-here y xs) hit)
  | inr miss ↦ elim (Contains-cases x y xs there) [
    | inl here ↦
        let never : false ≡ true = sym miss ∙ ap (λ z. test (f z)) here ∙ passes in
        absurd cc
    | inr later ↦
        find_miss test (f y) (map f xs) miss
        ∙ found_mapped f test xs x later passes (λ z among. only z (Contains-there z y xs among))
  ]
]

revoked_last : (made : List Capability) (c : Capability) → revoked_at (made ++ c ∷ []) (length made) ≡ made ++ revoked_capability c ∷ []
revoked_last [] c = refl
revoked_last (x ∷ made) c =
    let later : (suc (length made) == 0) ≡ false = ne_eqb (suc (length made)) 0 (λ same. omega (arith, same)) in
    let place : suc (length made) - 1 ≡ length made = omega arith in
    rw later (ap (λ (n : ℕ). x ∷ revoked_at (made ++ c ∷ []) n) place ∙ ap (λ (cs : List Capability). x ∷ cs) (revoked_last made c))

-- the answer of a creation that has room
abbrev pub IsNextOf : CapRange → Result CapId Raise → Type 0
IsNextOf r (Ok k) = k ≡ next_number r
IsNextOf r (Err raise) = ⊥

pub created_next : (old : List CapRange) (class : ClassId) (target : ℕ) (r : CapRange) (answer : Result CapId Raise) (new : List CapRange)
    → CreatesIn old class target r answer new → length r.made < r.count
    → IsNextOf r answer × (new ≡ map (one_range (with_created class target) r.owner.0) old)
created_next old class target r answer new (used_up_in full) room = absurd (omega (arith, full, room))
created_next old class target r answer new (has_room_in few) room = (refl, refl)

module _ (caps : List CapRange) (p : CapPart) (m : MayMake caps p) where
  abbrev pub created : CapRange → CapRange
  created r = one_range (with_created p.class p.target) m.range.owner.0 r

  abbrev new_capability : Bool → Capability
  new_capability revoked = record { target = p.target; class = p.class; revoked = revoked }

  abbrev with_last : CapRange → Capability → CapRange
  with_last r c = record r { made = r.made ++ c ∷ [] }

  its : (r : CapRange) → (p.owner.0 == r.owner.0) ≡ true → (r.owner.0 == m.range.owner.0) ≡ true
  its r hit = eq-eqb r.owner.0 m.range.owner.0 (sym (eqb-true p.owner.0 r.owner.0 hit) ∙ sym m.own)

  not_its : (r : CapRange) → (p.owner.0 == r.owner.0) ≡ false → (r.owner.0 == m.range.owner.0) ≡ false
  not_its r miss =
      ne_eqb r.owner.0 m.range.owner.0
      (λ same. let never : false ≡ true = sym miss ∙ eq-eqb p.owner.0 r.owner.0 (sym m.own ∙ sym same) in cc)

  pub only_created : p.revoked ≡ false → map created caps ≡ map (with_one p) caps
  only_created not_revoked = maps_alike created (with_one p) caps (λ r there. alike r)
    where
      alike : (r : CapRange) → created r ≡ with_one p r
      alike r = elim (cases_Bool (p.owner.0 == r.owner.0)) [
        | inl hit ↦ rw (hit, its r hit) (ap (λ (b : Bool). with_last r (new_capability b)) (sym not_revoked))
        | inr miss ↦ rw (miss, not_its r miss) refl
      ]

  -- whether a range has the number of the new one
  has_it : has_number (next_number m.range) m.range ≡ true
  has_it = has_next m.range m.room

  has_created : (r : CapRange) → has_number (next_number m.range) (created r) ≡ has_number (next_number m.range) r
  has_created r = elim (cases_Bool (r.owner.0 == m.range.owner.0)) [
    | inl hit ↦ rw hit refl
    | inr miss ↦ rw miss refl
  ]

  place : (m.range.first + length m.range.made) - m.range.first ≡ length m.range.made
  place = omega arith

  own_created : created m.range ≡ with_last m.range (new_capability false)
  own_created =
      let hit : (m.range.owner.0 == m.range.owner.0) ≡ true = eq-eqb m.range.owner.0 m.range.owner.0 refl in
      rw hit refl

  pub given_now : (caps_now : List CapRange) → caps_now ≡ map created caps → (k : CapId) → k ≡ next_number m.range → IsGivenOut caps_now k
  given_now caps_now becomes k is =
      let n = next_number m.range in
      let c = new_capability false in
      let found : find (has_number n) (map created caps) ≡ Some (created m.range) =
      found_mapped created (has_number n) caps m.range m.there (has_created m.range ∙ has_it)
      (λ r there has. ap created (m.only r there (m.apart r there (sym (has_created r) ∙ has)))) in
      let given : capability_numbered (map created caps) n ≡ Some (let w : OwnedCapability = record { owner = m.range.owner; capability = c } in w) =
      ap (option_and_then (capability_in n)) (found ∙ ap Some own_created)
      ∙ ap (option_map (λ (x : Capability). let w : OwnedCapability = record { owner = m.range.owner; capability = x } in w))
      (ap (slice_get (m.range.made ++ c ∷ [])) place ∙ slice_get-last m.range.made c) in (
        record { owner = m.range.owner; capability = c },
        ap (λ (rs : List CapRange). capability_numbered rs k) becomes ∙ ap (capability_numbered (map created caps)) is ∙ given,
      )

  pub then_revoked : p.revoked ≡ true → (k : CapId) → k ≡ next_number m.range → map (revoked_in k) (map created caps) ≡ map (with_one p) caps
  then_revoked revoked k is =
      ap (λ (n : CapId). map (revoked_in n) (map created caps)) is ∙ twice caps (λ r there. alike r there)
    where
      twice : (rs : List CapRange) → ((r : CapRange) → Contains rs r → revoked_in (next_number m.range) (created r) ≡ with_one p r)
          → map (revoked_in (next_number m.range)) (map created rs) ≡ map (with_one p) rs
      twice [] same = refl
      twice (r ∷ rs) same =
          ap (λ (x : CapRange). x ∷ map (revoked_in (next_number m.range)) (map created rs)) (same r (Contains-here r rs))
          ∙ ap (λ (xs : List CapRange). with_one p r ∷ xs) (twice rs (λ x there. same x (Contains-there x r rs there)))

      alike : (r : CapRange) → Contains caps r → revoked_in (next_number m.range) (created r) ≡ with_one p r
      alike r there = elim (cases_Bool (p.owner.0 == r.owner.0)) [
        | inl hit ↦
            let same : r ≡ m.range = m.only r there (sym (eqb-true p.owner.0 r.owner.0 hit)) in
            ap (λ (x : CapRange). revoked_in (next_number m.range) (created x)) same ∙ own ∙ ap (with_one p) (sym same)
        | inr miss ↦
            let stays : created r ≡ r = rw (not_its r miss) refl in
            let other : has_number (next_number m.range) r ≡ false = not_there r there miss in
            ap (revoked_in (next_number m.range)) stays ∙ rw (other, miss) refl
      ]
        where
          not_there : (r : CapRange) → Contains caps r → (p.owner.0 == r.owner.0) ≡ false → has_number (next_number m.range) r ≡ false
          not_there r there miss = elim (cases_Bool (has_number (next_number m.range) r)) [
            | inl has ↦
                let never : false ≡ true = sym miss ∙ eq-eqb p.owner.0 r.owner.0 (sym (m.apart r there has)) in
                absurd cc
            | inr none ↦ none
          ]

          own : revoked_in (next_number m.range) (created m.range) ≡ with_one p m.range
          own =
              let mine : (p.owner.0 == m.range.owner.0) ≡ true = eq-eqb p.owner.0 m.range.owner.0 (sym m.own) in
              let now : has_number (next_number m.range) (with_last m.range (new_capability false)) ≡ true = has_it in
              let last : revoked_at (m.range.made ++ new_capability false ∷ []) ((m.range.first + length m.range.made) - m.range.first)
              ≡ m.range.made ++ new_capability true ∷ [] =
              ap (revoked_at (m.range.made ++ new_capability false ∷ [])) place ∙ revoked_last m.range.made (new_capability false) in
              let done : with_one p m.range ≡ with_last m.range (capability_told p) = rw mine refl in
              let told : (let c : Capability = new_capability true in c) ≡ capability_told p = ap new_capability (sym revoked) in
              ap (revoked_in (next_number m.range)) own_created
              ∙ in_range (has_number (next_number m.range) (with_last m.range (new_capability false))) now
              ∙ ap (λ (cs : List Capability). let x : CapRange = record m.range { made = cs } in x) last
              ∙ ap (with_last m.range) told
              ∙ sym done
            where
              in_range : (b : Bool) → b ≡ true
                  → (if b then with_capability_revoked (next_number m.range) (with_last m.range (new_capability false))
                  else with_last m.range (new_capability false))
                  ≡ with_capability_revoked (next_number m.range) (with_last m.range (new_capability false))
              in_range true is = refl
              in_range false is = absurd cc
