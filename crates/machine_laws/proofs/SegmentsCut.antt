-- The segments of a domain are taken out of a thread: those that are left stood there in their order, cost no more, fit where they stand now, and
-- answer each other.
use Rattle.std.proofs.Common.{◌≡◌, ◌≢◌, ℕ, zero, suc, ◌≤◌, ◌==◌, inl, inr, Bool, true, false, cond, List, [], ◌∷◌, sum_by, Contains, Some, slice_get, refl, sym, ap, subst, ◌∙◌, arith, eq-eqb}
use Rattle.std.proofs.lemmas.List.Sums.{sum_by-cons}
use Rattle.std.proofs.lemmas.Option.{same_Some}
use Rattle.jk_model.specs.declared.identifiers.DomainId.{DomainId}
use Rattle.jk_model_sharing.specs.Segments.{as_orphan, changed, is_of, left_above, segments_left, top_is_of, with_revoked, with_top}
use Rattle.jk_model_machine_state.specs.Machines.{Segment, segment_form}
use Rattle.list_lemmas.proofs.ItemsByPlace.{slice_get-nil}
use Rattle.list_lemmas.proofs.ItemsOfLists.{Contains-at, Contains-cases, Contains-here, Contains-none, Contains-there, place_of}

-- the segment as it stood: flags alone may have changed
pub record IsLeft (n : DomainId) (s before : Segment) : Type 0 where
  pub number : s.shared.number ≡ before.shared.number
  pub domain : s.shared.domain ≡ before.shared.domain
  pub frames : s.frames ≡ before.frames
  pub other : before.shared.domain.0 ≢ n.0

pub record WasThere (n : DomainId) (segments : List Segment) (s : Segment) : Type 0 where
  pub before : Segment
  pub there : Contains segments before
  pub is : IsLeft n s before

abbrev orphaned : Bool → Segment → Segment
orphaned gap s = cond gap (changed segment_form as_orphan s) s

differs_by : (b : Bool) (x y : ℕ) → (x == y) ≡ b → b ≡ false → x ≢ y
differs_by b x y e none same = never b none (sym e ∙ eq-eqb x y same)
  where
    never : (b : Bool) → b ≡ false → b ≡ true → ⊥
    never b h k = cc

module _ (n : DomainId) where
  left_is : (gap : Bool) (s : Segment) → is_of segment_form n s ≡ false → IsLeft n (orphaned gap s) s
  left_is true s none =
      record { number = refl; domain = refl; frames = refl; other = differs_by (is_of segment_form n s) s.shared.domain.0 n.0 refl none }
  left_is false s none =
      record { number = refl; domain = refl; frames = refl; other = differs_by (is_of segment_form n s) s.shared.domain.0 n.0 refl none }

  later_was : (s : Segment) (more : List Segment) (u : Segment) → WasThere n more u → WasThere n (s ∷ more) u
  later_was s more u h = record { before = h.before; there = Contains-there h.before s more h.there; is = h.is }

  -- ---- Each was there.

  was_by : (gap b : Bool) (s : Segment) (more : List Segment) (u : Segment) → is_of segment_form n s ≡ b
      → ((g : Bool) → Contains (left_above segment_form n g more) u → WasThere n more u)
      → Contains (cond b (left_above segment_form n true more) (orphaned gap s ∷ left_above segment_form n false more)) u → WasThere n (s ∷ more) u
  was_by gap true s more u e rest on = later_was s more u (rest true on)
  was_by gap false s more u e rest on = elim (Contains-cases u (orphaned gap s) (left_above segment_form n false more) on) [
    | inl same ↦ record {
      before = s;
      there = Contains-here s more;
      is = subst (λ (x : Segment). IsLeft n x s) same (left_is gap s e);
    }
    | inr later ↦ later_was s more u (rest false later)
  ]

  above_was : (gap : Bool) (segments : List Segment) (u : Segment) → Contains (left_above segment_form n gap segments) u → WasThere n segments u
  above_was gap [] u has = absurd (Contains-none u has)
  above_was gap (s ∷ more) u has = was_by gap (is_of segment_form n s) s more u refl (λ g. above_was g more u) has

  -- flags of the top one are set
  top_was : (segments rest : List Segment) → ((u : Segment) → Contains rest u → WasThere n segments u) → (u : Segment)
      → Contains (with_top (changed segment_form (with_revoked true)) rest) u → WasThere n segments u
  top_was segments [] was u has = absurd (Contains-none u has)
  top_was segments (r ∷ []) was u has = elim (Contains-cases u (changed segment_form (with_revoked true) r) [] has) [
    | inl same ↦
        let w = was r (Contains-here r []) in
        record {
          before = w.before;
          there = w.there;
          is = subst (λ (x : Segment). IsLeft n x w.before) same
              (record { number = w.is.number; domain = w.is.domain; frames = w.is.frames; other = w.is.other });
        }
    | inr later ↦ absurd (Contains-none u later)
  ]
  top_was segments (r ∷ a ∷ rest) was u has =
      elim (Contains-cases u r (with_top (changed segment_form (with_revoked true)) (a ∷ rest)) has) [
        | inl same ↦ was u (subst (λ (x : Segment). Contains (r ∷ a ∷ rest) x) same (Contains-here r (a ∷ rest)))
        | inr later ↦ top_was segments (a ∷ rest) (λ x on. was x (Contains-there x r (a ∷ rest) on)) u later
      ]

  -- what is left, by whether the top one is taken out
  left_by : (P : List Segment → Type 0) (segments : List Segment)
      → (top_is_of segment_form n segments ≡ true → P (with_top (changed segment_form (with_revoked true)) (left_above segment_form n false segments)))
      → (top_is_of segment_form n segments ≡ false → P (left_above segment_form n false segments)) → P (segments_left segment_form n segments)
  left_by P segments cut whole = by (top_is_of segment_form n segments) refl
    where
      by : (b : Bool) → top_is_of segment_form n segments ≡ b
          → P (cond b (with_top (changed segment_form (with_revoked true)) (left_above segment_form n false segments))
          (left_above segment_form n false segments))
      by true e = cut e
      by false e = whole e

  pub was_there : (segments : List Segment) (u : Segment) → Contains (segments_left segment_form n segments) u → WasThere n segments u
  was_there segments u =
      left_by (λ left. Contains left u → WasThere n segments u) segments
      (λ e. top_was segments (left_above segment_form n false segments) (above_was false segments) u) (λ e. above_was false segments u)

  -- ---- Numbers still differ.

  abbrev NumbersDiffer : List Segment → Type 0
  NumbersDiffer segments =
      (k l : ℕ) (s u : Segment) → slice_get segments k ≡ Some s → slice_get segments l ≡ Some u → s.shared.number ≡ u.shared.number → k ≡ l

  rest_differ : (s : Segment) (more : List Segment) → NumbersDiffer (s ∷ more) → NumbersDiffer more
  rest_differ s more h k l a b at bt same = let e = h (suc k) (suc l) a b at bt same in omega (arith, e)

  -- one in front, whose number none of the others has
  front_differs : (s : Segment) (rest : List Segment) → ((u : Segment) → Contains rest u → s.shared.number ≡ u.shared.number → ⊥) → NumbersDiffer rest
      → NumbersDiffer (s ∷ rest)
  front_differs s rest apart h zero zero a b at bt same = refl
  front_differs s rest apart h zero (suc l) a b at bt same =
      let first : s ≡ a = same_Some s a at in
      absurd (apart b (Contains-at rest l b bt) (ap (λ (x : Segment). x.shared.number) first ∙ same))
  front_differs s rest apart h (suc k) zero a b at bt same =
      let first : s ≡ b = same_Some s b bt in
      absurd (apart a (Contains-at rest k a at) (ap (λ (x : Segment). x.shared.number) first ∙ sym same))
  front_differs s rest apart h (suc k) (suc l) a b at bt same = ap suc (h k l a b at bt same)

  first_apart : (s : Segment) (more : List Segment) → NumbersDiffer (s ∷ more) → (u : Segment) → WasThere n more u → s.shared.number ≡ u.shared.number → ⊥
  first_apart s more h u was same =
      let at = place_of more was.before was.there in
      let e : 0 ≡ suc at.0 = h 0 (suc at.0) s was.before refl at.1 (same ∙ was.is.number) in
      omega (arith, e)

  differ_by : (gap b : Bool) (s : Segment) (more : List Segment) → is_of segment_form n s ≡ b → NumbersDiffer (s ∷ more)
      → ((g : Bool) → NumbersDiffer (left_above segment_form n g more))
      → NumbersDiffer (cond b (left_above segment_form n true more) (orphaned gap s ∷ left_above segment_form n false more))
  differ_by gap true s more e h rest = rest true
  differ_by gap false s more e h rest =
      front_differs (orphaned gap s) (left_above segment_form n false more)
      (λ u on same. first_apart s more h u (above_was false more u on) (sym (left_is gap s e).number ∙ same)) (rest false)

  above_differ : (gap : Bool) (segments : List Segment) → NumbersDiffer segments → NumbersDiffer (left_above segment_form n gap segments)
  above_differ gap [] h = h
  above_differ gap (s ∷ more) h = differ_by gap (is_of segment_form n s) s more refl h (λ g. above_differ g more (rest_differ s more h))

  top_differ : (rest : List Segment) → NumbersDiffer rest → NumbersDiffer (with_top (changed segment_form (with_revoked true)) rest)
  top_differ [] h = h
  top_differ (r ∷ []) h = front_differs (changed segment_form (with_revoked true) r) [] (λ u on same. Contains-none u on) (λ k l a b at bt same. absurd (slice_get-nil k a at))
  top_differ (r ∷ a ∷ rest) h =
      front_differs r (with_top (changed segment_form (with_revoked true)) (a ∷ rest)) apart (top_differ (a ∷ rest) (rest_differ r (a ∷ rest) h))
    where
      -- one of the others before the flag was set
      unflagged : (xs : List Segment) (u : Segment) → Contains (with_top (changed segment_form (with_revoked true)) xs) u
          → (v : Segment) × Contains xs v × (v.shared.number ≡ u.shared.number)
      unflagged [] u on = absurd (Contains-none u on)
      unflagged (x ∷ []) u on = elim (Contains-cases u (changed segment_form (with_revoked true) x) [] on) [
        | inl same ↦ (x, Contains-here x [], ap (λ (y : Segment). y.shared.number) same)
        | inr later ↦ absurd (Contains-none u later)
      ]
      unflagged (x ∷ y ∷ xs) u on = elim (Contains-cases u x (with_top (changed segment_form (with_revoked true)) (y ∷ xs)) on) [
        | inl same ↦ (x, Contains-here x (y ∷ xs), ap (λ (z : Segment). z.shared.number) same)
        | inr later ↦ let v = unflagged (y ∷ xs) u later in (v.0, Contains-there v.0 x (y ∷ xs) v.1, v.2)
      ]

      apart : (u : Segment) → Contains (with_top (changed segment_form (with_revoked true)) (a ∷ rest)) u → r.shared.number ≡ u.shared.number → ⊥
      apart u on same =
          let v = unflagged (a ∷ rest) u on in
          let at = place_of (a ∷ rest) v.0 v.1 in
          let e : 0 ≡ suc at.0 = h 0 (suc at.0) r v.0 refl at.1 (same ∙ sym v.2) in
          omega (arith, e)

  pub numbers_differ : (segments : List Segment) → NumbersDiffer segments → NumbersDiffer (segments_left segment_form n segments)
  numbers_differ segments h =
      left_by NumbersDiffer segments (λ e. top_differ (left_above segment_form n false segments) (above_differ false segments h))
      (λ e. above_differ false segments h)

  -- ---- Sums.

  -- what is counted of a segment by its number, its domain and its frames
  pub record CountsFrames (f : Segment → ℕ) : Type 0 where
    pub orphan : (s : Segment) → f (changed segment_form as_orphan s) ≡ f s
    pub revoked : (s : Segment) → f (changed segment_form (with_revoked true) s) ≡ f s

  module _ (f : Segment → ℕ) (c : CountsFrames f) where
    orphaned_counts : (gap : Bool) (s : Segment) → f (orphaned gap s) ≡ f s
    orphaned_counts true s = c.orphan s
    orphaned_counts false s = refl

    less_by : (gap b : Bool) (s : Segment) (more : List Segment)
        → ((g : Bool) → sum_by f (left_above segment_form n g more) ≤ sum_by f more)
        → sum_by f (cond b (left_above segment_form n true more) (orphaned gap s ∷ left_above segment_form n false more)) ≤ sum_by f (s ∷ more)
    less_by gap true s more h = let rest = h true in omega (arith, rest, sum_by-cons f s more)
    less_by gap false s more h =
        let rest = h false in
        omega (arith, rest, sum_by-cons f s more, sum_by-cons f (orphaned gap s) (left_above segment_form n false more), orphaned_counts gap s)

    above_less : (gap : Bool) (segments : List Segment) → sum_by f (left_above segment_form n gap segments) ≤ sum_by f segments
    above_less gap [] = omega arith
    above_less gap (s ∷ more) = less_by gap (is_of segment_form n s) s more (λ g. above_less g more)

    top_counts : (rest : List Segment) → sum_by f (with_top (changed segment_form (with_revoked true)) rest) ≡ sum_by f rest
    top_counts [] = refl
    top_counts (r ∷ []) =
        omega (arith, sum_by-cons f r [], sum_by-cons f (changed segment_form (with_revoked true) r) [], c.revoked r)
    top_counts (r ∷ a ∷ rest) =
        let more = top_counts (a ∷ rest) in
        omega (arith, sum_by-cons f r (a ∷ rest), sum_by-cons f r (with_top (changed segment_form (with_revoked true)) (a ∷ rest)), more)

    pub sums_less : (segments : List Segment) → sum_by f (segments_left segment_form n segments) ≤ sum_by f segments
    sums_less segments =
        left_by (λ left. sum_by f left ≤ sum_by f segments) segments
        (λ e. let less = above_less false segments in let same = top_counts (left_above segment_form n false segments) in omega (arith, less, same))
        (λ e. above_less false segments)

    -- nothing is counted of what is taken out
    module _ (none : (s : Segment) → is_of segment_form n s ≡ true → f s ≡ 0) where
      same_by : (gap b : Bool) (s : Segment) (more : List Segment) → is_of segment_form n s ≡ b
          → ((g : Bool) → sum_by f (left_above segment_form n g more) ≡ sum_by f more)
          → sum_by f (cond b (left_above segment_form n true more) (orphaned gap s ∷ left_above segment_form n false more)) ≡ sum_by f (s ∷ more)
      same_by gap true s more e h =
          let rest = h true in
          let gone = none s e in
          omega (arith, rest, sum_by-cons f s more, gone)
      same_by gap false s more e h =
          let rest = h false in
          omega (arith, rest, sum_by-cons f s more, sum_by-cons f (orphaned gap s) (left_above segment_form n false more), orphaned_counts gap s)

      above_same : (gap : Bool) (segments : List Segment) → sum_by f (left_above segment_form n gap segments) ≡ sum_by f segments
      above_same gap [] = refl
      above_same gap (s ∷ more) = same_by gap (is_of segment_form n s) s more refl (λ g. above_same g more)

      pub sums_same : (segments : List Segment) → sum_by f (segments_left segment_form n segments) ≡ sum_by f segments
      sums_same segments =
          left_by (λ left. sum_by f left ≡ sum_by f segments) segments
          (λ e. top_counts (left_above segment_form n false segments) ∙ above_same false segments) (λ e. above_same false segments)
