-- Ranges of capabilities that are made of parts: each domain gets its own, and each capability is the next one of its owner's.
use Rattle.std.proofs.Common.{◌≡◌, ℕ, suc, ◌+◌, ◌<◌, ◌≤◌, inl, inr, Bool, true, List, [], ◌∷◌, ◌++◌, length, map, take, filter, find, flat_map, Contains, None, Some, slice_get, nat_le, nat_lt, refl, sym, ap, subst, ◌∙◌, arith, append-nil}
use Rattle.std.specs.Prelude.{◌==◌}
use Rattle.std.specs.List.{enumerate_from}
use Rattle.std.proofs.lemmas.Bool.{and_from, cases_Bool, le-leb, lt-ltb}
use Rattle.std.proofs.lemmas.List.{length-map, map-append}
use Rattle.std.proofs.lemmas.List.Elements.{filter-append}
use Rattle.std.proofs.lemmas.List.Sums.{sum_by-cons}
use Rattle.std.proofs.lemmas.Option.{same_Some, slice_get_within}
use Rattle.jk_model.specs.Capabilities.{last_number}
use Rattle.jk_model.specs.declared.identifiers.DomainId.{DomainId}
use Rattle.jk_model_heaps.specs.Capabilities.{CapRange, Capability, has_number}
use Rattle.jk_model_sharing.specs.CapabilityCalls.{count_numbers, first_range, next_number}
use Rattle.jk_model_sharing.specs.SharedStates.{SharedDomain, SharedState, caps_of}
use Rattle.list_lemmas.proofs.ItemsByPlace.{comes_from, length_take, mapped_at, slice_get-from_take}
use Rattle.list_lemmas.proofs.ItemsOfLists.{Contains-at, Contains-flat_map_from, place_of}
use Rattle.list_lemmas.proofs.LastItems.{take_next}
use Rattle.thread_segments.specs.declared.parts.CapPart.{CapPart}
use Rattle.thread_segments.specs.declared.parts.DomainPart.{DomainPart}
use Rattle.thread_segments.specs.RestoredParts.{MayMake, capability_told, is_owner, with_made, with_one}
use Rattle.thread_segments.specs.SoundStates.{AreSound}
use Rattle.thread_segments.specs.StateParts.{cap_part, cap_parts, domain_part}
use Rattle.thread_segments.proofs.CapsOfDomains.{AreOwnedFrom, owner_found}
use Rattle.thread_segments.proofs.OwnersByNumber.{one_owner, same_items}
use Rattle.thread_segments.proofs.RestoredCounts.{count_here, count_so_far, sum_more, sum_so_far}
use Rattle.thread_stacks.proofs.Filtered.{filter_hit, filter_miss}
use Rattle.thread_stacks.proofs.FilteredByOwner.{made_of_one}
use Rattle.thread_stacks.proofs.ItemsByKey.{found_none}
use Rattle.thread_stacks.specs.Places.{AreRisingBy}

-- ---- Ranges of which some capabilities are made.

counts_same : (parts : List CapPart) (ranges : List CapRange) → count_numbers (map (with_made parts) ranges) ≡ count_numbers ranges
counts_same parts [] = refl
counts_same parts (r ∷ ranges) =
    sum_by-cons (λ (x : CapRange). x.count) (with_made parts r) (map (with_made parts) ranges)
    ∙ ap (λ (n : ℕ). r.count + n) (counts_same parts ranges)
    ∙ sym (sum_by-cons (λ (x : CapRange). x.count) r ranges)

abbrev with_capabilities : CapRange → List Capability → CapRange
with_capabilities r made = record r { made = made }

one_more_of : (ps : List CapPart) (p : CapPart) (r : CapRange) → with_one p (with_made ps r) ≡ with_made (ps ++ p ∷ []) r
one_more_of ps p r = elim (cases_Bool (p.owner.0 == r.owner.0)) [
  | inl hit ↦
      let own : CapPart → Bool = is_owner r.owner.0 in
      let made : map capability_told (filter own (ps ++ p ∷ [])) ≡ map capability_told (filter own ps) ++ capability_told p ∷ [] =
      ap (map capability_told) (filter-append own ps (p ∷ []) ∙ ap (λ (qs : List CapPart). filter own ps ++ qs) (filter_hit own p [] hit))
      ∙ map-append capability_told (filter own ps) (p ∷ []) in
      rw hit (ap (with_capabilities r) (sym made))
  | inr miss ↦
      let own : CapPart → Bool = is_owner r.owner.0 in
      let made : map capability_told (filter own (ps ++ p ∷ [])) ≡ map capability_told (filter own ps) =
      ap (map capability_told)
      (filter-append own ps (p ∷ []) ∙ ap (λ (qs : List CapPart). filter own ps ++ qs) (filter_miss own p [] miss) ∙ append-nil (filter own ps)) in
      rw miss (ap (with_capabilities r) (sym made))
]

mapped_twice : {X Y Z : Type 0} (g : Y → Z) (f : X → Y) (e : X → Z) → ((x : X) → g (f x) ≡ e x) → (xs : List X) → map g (map f xs) ≡ map e xs
mapped_twice g f e same [] = refl
mapped_twice g f e same (x ∷ xs) = rw (same x, mapped_twice g f e same xs) refl

-- a range with room has the number of its next capability
pub has_next : (r : CapRange) → length r.made < r.count → has_number (next_number r) r ≡ true
has_next r room =
    let n = r.first + length r.made in
    and_from (nat_le r.first n) (nat_lt n (r.first + r.count)) (le-leb r.first n (omega arith)) (lt-ltb n (r.first + r.count) (omega (arith, room)))

module _ (s : SharedState) (h : AreSound s) where
  abbrev caps_in : SharedDomain → CapRange
  caps_in e = e.caps

  -- ranges stand at their owners' numbers
  pub owner_at : (i : ℕ) (r : CapRange) → slice_get (caps_of s) i ≡ Some r → r.owner.0 ≡ i
  owner_at i r at =
      let f = comes_from caps_in s.domains i r at in
      ap (λ (x : CapRange). x.owner.0) (sym f.gives)
      ∙ ap (λ (d : DomainId). d.0) (h.ranges.owner f.from (Contains-at s.domains i f.from f.there))
      ∙ h.numbered i f.from f.there

  -- ---- Each domain gets its range.

  module _ (parts : List DomainPart) (told : parts ≡ map domain_part s.domains) (k : ℕ) (caps : List CapRange)
      (so_far : caps ≡ map (with_made []) (take k (caps_of s))) where
    pub no_range_yet : (n : ℕ) → n ≡ k → find (λ (r : CapRange). r.owner.0 == n) caps ≡ None
    no_range_yet n is =
        ap (find (λ (r : CapRange). r.owner.0 == n)) so_far
        ∙ found_none (λ (r : CapRange). r.owner.0) (map (with_made []) (take k (caps_of s))) n (λ j y at same. other j y at same)
      where
        other : (j : ℕ) (y : CapRange) → slice_get (map (with_made []) (take k (caps_of s))) j ≡ Some y → y.owner.0 ≡ n → ⊥
        other j y at same =
            let f = comes_from (with_made []) (take k (caps_of s)) j y at in
            let owner : f.from.owner.0 ≡ y.owner.0 = ap (λ (x : CapRange). x.owner.0) f.gives in
            omega (
              arith,
              owner,
              owner_at j f.from (slice_get-from_take (caps_of s) k j f.from f.there),
              slice_get_within (take k (caps_of s)) j f.from f.there,
              length_take (caps_of s) k,
              same,
              is,
            )

    -- the domain of a part, and its range
    record DomainAt (p : DomainPart) : Type 0 where
      domain : SharedDomain
      there : slice_get s.domains k ≡ Some domain
      range : slice_get (caps_of s) k ≡ Some domain.caps
      count : p.quotas.caps ≡ domain.caps.count

    domain_at : (p : DomainPart) → slice_get parts k ≡ Some p → DomainAt p
    domain_at p at =
        let f = comes_from domain_part s.domains k p (sym (ap (λ (ps : List DomainPart). slice_get ps k) told) ∙ at) in
        record {
          domain = f.from;
          there = f.there;
          range = mapped_at caps_in s.domains k f.from f.there;
          count =
              ap (λ (x : DomainPart). x.quotas.caps) (sym f.gives)
              ∙ sym (h.ranges.count f.from (Contains-at s.domains k f.from f.there));
        }

    counted : count_numbers caps ≡ count_numbers (take k (caps_of s))
    counted = ap count_numbers so_far ∙ counts_same [] (take k (caps_of s))

    pub numbers_fit : (p : DomainPart) → slice_get parts k ≡ Some p → count_numbers caps + p.quotas.caps ≤ last_number
    numbers_fit p at =
        let d = domain_at p at in
        let counts : CapRange → ℕ = λ r. r.count in
        omega (
          arith,
          counted,
          d.count,
          sum_more counts (caps_of s) k d.domain.caps d.range,
          sum_so_far counts (caps_of s) (suc k),
          h.ranges.few,
        )

    abbrev range_from : DomainId → ℕ → ℕ → CapRange
    range_from owner first count = record { owner = owner; first = first; count = count; made = [] }

    pub next_range : (p : DomainPart) → slice_get parts k ≡ Some p → (owner : DomainId) → owner.0 ≡ k → (more : List CapRange)
        → more ≡ caps ++ first_range caps owner p.quotas.caps ∷ [] → more ≡ map (with_made []) (take (suc k) (caps_of s))
    next_range p at owner is more becomes =
        let d = domain_at p at in
        let r = d.domain.caps in
        let own : owner ≡ r.owner =
        ap (λ (n : ℕ). let b : DomainId = record { 0 = n } in b) (is ∙ sym (owner_at k r d.range)) in
        let first : 1 + count_numbers caps ≡ r.first = omega (arith, counted, h.ranges.chained k d.domain d.there) in
        let range : first_range caps owner p.quotas.caps ≡ with_made [] r =
        ap (λ (o : DomainId). range_from o (1 + count_numbers caps) p.quotas.caps) own
        ∙ ap (λ (n : ℕ). range_from r.owner n p.quotas.caps) first
        ∙ ap (range_from r.owner r.first) d.count in
        becomes
        ∙ ap (λ (rs : List CapRange). rs ++ first_range caps owner p.quotas.caps ∷ []) so_far
        ∙ ap (λ (x : CapRange). map (with_made []) (take k (caps_of s)) ++ x ∷ []) range
        ∙ sym (map-append (with_made []) (take k (caps_of s)) (r ∷ []))
        ∙ ap (map (with_made [])) (sym (take_next (caps_of s) k r d.range))

  -- ---- Capabilities are made one after the other.

  home : (r : CapRange) (p : CapPart) → Contains (cap_parts r) p → p.owner.0 ≡ r.owner.0
  home r p there =
      let at = place_of (cap_parts r) p there in
      let f = comes_from (cap_part r) (enumerate_from 0 r.made) at.0 p at.1 in
      ap (λ (x : CapPart). x.owner.0) (sym f.gives)

  made_back : (r : CapRange) (n : ℕ) (made : List Capability) → map capability_told (map (cap_part r) (enumerate_from n made)) ≡ made
  made_back r n [] = refl
  made_back r n (c ∷ made) = ap (λ (cs : List Capability). c ∷ cs) (made_back r (n + 1) made)

  abbrev range_key : CapRange → ℕ
  range_key r = r.owner.0

  abbrev part_key : CapPart → ℕ
  part_key p = p.owner.0

  rising : AreRisingBy range_key (caps_of s)
  rising i j x y p q low = omega (arith, owner_at i x p, owner_at j y q, low)

  module _ (parts : List CapPart) (told : parts ≡ flat_map cap_parts (caps_of s)) where
    own_parts : (i : ℕ) (r : CapRange) → slice_get (caps_of s) i ≡ Some r → filter (is_owner r.owner.0) parts ≡ cap_parts r
    own_parts i r at =
        ap (filter (is_owner r.owner.0)) told ∙ made_of_one part_key range_key cap_parts home (caps_of s) i r rising at

    whole : (i : ℕ) (r : CapRange) → slice_get (caps_of s) i ≡ Some r → with_made parts r ≡ r
    whole i r at = ap (with_capabilities r) (ap (map capability_told) (own_parts i r at) ∙ made_back r 0 r.made)

    pub all_made : map (with_made parts) (caps_of s) ≡ caps_of s
    all_made = same_items (with_made parts) (caps_of s) (λ r there. let at = place_of (caps_of s) r there in whole at.0 r at.1)

    module _ (k : ℕ) (p : CapPart) (at : slice_get parts k ≡ Some p) where
      abbrev so_far : CapRange → CapRange
      so_far r = with_made (take k parts) r

      pub one_more_made : (caps more : List CapRange) → caps ≡ map (with_made (take k parts)) (caps_of s) → more ≡ map (with_one p) caps
          → more ≡ map (with_made (take (suc k) parts)) (caps_of s)
      one_more_made caps more is becomes =
          becomes
          ∙ ap (map (with_one p)) is
          ∙ mapped_twice (with_one p) (with_made (take k parts)) (with_made (take k parts ++ p ∷ [])) (one_more_of (take k parts) p) (caps_of s)
          ∙ ap (λ (ps : List CapPart). map (with_made ps) (caps_of s)) (sym (take_next parts k p at))

      -- a range, and the domain that has it
      record RangeAt (r : CapRange) : Type 0 where
        place : ℕ
        there : slice_get (caps_of s) place ≡ Some r
        domain : SharedDomain
        among : Contains s.domains domain
        caps : domain.caps ≡ r

      range_at : (i : ℕ) (r : CapRange) → slice_get (caps_of s) i ≡ Some r → RangeAt r
      range_at i r there =
          let f = comes_from caps_in s.domains i r there in
          record { place = i; there = there; domain = f.from; among = Contains-at s.domains i f.from f.there; caps = f.gives }

      -- the range of the capability's owner
      owner : (r : CapRange) × RangeAt r × (p.owner.0 ≡ r.owner.0)
      owner =
          let among : Contains (flat_map cap_parts (caps_of s)) p =
          subst (λ (ps : List CapPart). Contains ps p) told (Contains-at parts k p at) in
          let from = Contains-flat_map_from cap_parts (caps_of s) p among in
          let place = place_of (caps_of s) from.0 from.1 in
          (from.0, range_at place.0 from.0 place.1, home from.0 p from.2)

      has_room : (r : CapRange) → RangeAt r → p.owner.0 ≡ r.owner.0 → length (so_far r).made < r.count
      has_room r a own =
          let all : length (map capability_told (filter (is_owner r.owner.0) parts)) ≡ length r.made =
          ap (λ (x : CapRange). length x.made) (whole a.place r a.there) in
          let few : length r.made ≤ r.count = subst (λ (x : CapRange). length x.made ≤ x.count) a.caps (h.ranges.made a.domain a.among) in
          let one : length (filter (is_owner r.owner.0) (take (suc k) parts)) ≡ length (filter (is_owner r.owner.0) (take k parts)) + 1 =
          count_here part_key parts k p r.owner.0 at own in
          let high : length (filter (is_owner r.owner.0) (take (suc k) parts)) ≤ length (filter (is_owner r.owner.0) parts) =
          count_so_far part_key parts (suc k) r.owner.0 in
          omega (
            arith,
            few,
            all,
            one,
            high,
            length-map (filter (is_owner r.owner.0) parts) capability_told,
            length-map (filter (is_owner r.owner.0) (take k parts)) capability_told,
          )

      -- a range so far, and what it will be
      record Becomes (x : CapRange) : Type 0 where
        range : CapRange
        its : RangeAt range
        is : so_far range ≡ x

      becomes : (x : CapRange) → Contains (map so_far (caps_of s)) x → Becomes x
      becomes x there =
          let place = place_of (map so_far (caps_of s)) x there in
          let f = comes_from so_far (caps_of s) place.0 x place.1 in
          record { range = f.from; its = range_at place.0 f.from f.there; is = f.gives }

      same_range : (x y : CapRange) (a : RangeAt x) (b : RangeAt y) → x.owner.0 ≡ y.owner.0 → x ≡ y
      same_range x y a b same =
          let place : a.place ≡ b.place = omega (arith, owner_at a.place x a.there, owner_at b.place y b.there, same) in
          same_Some x y (sym a.there ∙ ap (slice_get (caps_of s)) place ∙ b.there)

      may_make_here : MayMake (map so_far (caps_of s)) p
      may_make_here =
          let r = owner.0 in
          let a = owner.1 in
          let own = owner.2 in
          let stands = mapped_at so_far (caps_of s) a.place r a.there in
          let room = has_room r a own in
          record {
            range = so_far r;
            there = Contains-at (map so_far (caps_of s)) a.place (so_far r) stands;
            own = sym own;
            found =
                owner_found 0 a.place p.owner.0 (map so_far (caps_of s)) (so_far r) owned stands
                (omega (arith, own, owner_at a.place r a.there));
            room = room;
            only =
                λ x there same.
                let b = becomes x there in
                let owners : b.range.owner.0 ≡ x.owner.0 = ap (λ (y : CapRange). y.owner.0) b.is in
                sym b.is ∙ ap so_far (same_range b.range r b.its a (owners ∙ same ∙ own));
            apart =
                λ x there has.
                let b = becomes x there in
                let n = next_number (so_far r) in
                let has_b : has_number n b.its.domain.caps ≡ true =
                ap (has_number n) b.its.caps ∙ ap (has_number n) b.is ∙ has in
                let has_r : has_number n a.domain.caps ≡ true = ap (has_number n) a.caps ∙ has_next (so_far r) room in
                let one = one_owner s h n b.its.domain a.domain b.its.among a.among has_b has_r in
                ap (λ (y : CapRange). y.owner.0) (sym b.is ∙ ap so_far (sym b.its.caps ∙ ap caps_in one ∙ a.caps)) ∙ sym own;
          }
        where
          owned : AreOwnedFrom 0 (map so_far (caps_of s))
          owned i x there =
              let f = comes_from so_far (caps_of s) i x there in
              let owner_of : f.from.owner.0 ≡ x.owner.0 = ap (λ (y : CapRange). y.owner.0) f.gives in
              omega (arith, owner_of, owner_at i f.from f.there)

      pub may_make : (caps : List CapRange) → caps ≡ map (with_made (take k parts)) (caps_of s) → MayMake caps p
      may_make caps is = subst (λ (rs : List CapRange). MayMake rs p) (sym is) may_make_here
