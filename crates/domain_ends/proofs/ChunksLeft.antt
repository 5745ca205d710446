-- Where the segments of a domain are taken out of all threads, those of every other cost what they did, and of its own none is left.
use Rattle.std.proofs.Common.{◌≡◌, ◌≢◌, ℕ, ◌+◌, ◌==◌, Bool, true, false, cond, filter, List, [], ◌∷◌, map, sum_by, refl, sym, ap, ◌∙◌, arith}
use Rattle.std.proofs.lemmas.Bool.{eqb-false, eqb-true}
use Rattle.std.proofs.lemmas.List.Sums.{sum_by-cons}
use Rattle.jk_model.specs.declared.identifiers.DomainId.{DomainId}
use Rattle.jk_model_frames.specs.Frames.{segment_chunks}
use Rattle.jk_model_sharing.specs.Segments.{as_orphan, changed, left_above, segments_left, top_is_of, with_revoked, with_top}
use Rattle.jk_model_machine_state.specs.Machines.{Segment, Thread, chunks_of, segment_form}
use Rattle.jk_model_crossings.specs.DomainEnds.{has_segments}

abbrev costs : DomainId → List Segment → ℕ
costs e segments = sum_by (chunks_of e) segments

both : (e : DomainId) (s r : Segment) (a b : List Segment) → chunks_of e s ≡ chunks_of e r → costs e a ≡ costs e b → costs e (s ∷ a) ≡ costs e (r ∷ b)
both e s r a b one rest =
    let x = sum_by-cons (chunks_of e) s a in
    let y = sum_by-cons (chunks_of e) r b in
    omega (arith, x, y, one, rest)

-- one more that costs nothing
none : (e : DomainId) (s : Segment) (a b : List Segment) → chunks_of e s ≡ 0 → costs e a ≡ costs e b → costs e a ≡ costs e (s ∷ b)
none e s a b one rest = let y = sum_by-cons (chunks_of e) s b in omega (arith, y, one, rest)

-- what a segment of another domain costs
elsewhere : (b : Bool) (e : DomainId) (s : Segment) → s.shared.domain.0 == e.0 ≡ b → b ≡ false → chunks_of e s ≡ 0
elsewhere b e s is off = ap (λ (x : Bool). cond x (segment_chunks s.frames) 0) (is ∙ off)

orphan_costs : (gap : Bool) (e : DomainId) (s : Segment) → chunks_of e (cond gap (changed segment_form as_orphan s) s) ≡ chunks_of e s
orphan_costs true e s = refl
orphan_costs false e s = refl

differs : (b : Bool) (x y : ℕ) → x == y ≡ b → (x ≡ y → ⊥) → b ≡ false
differs true x y is not = absurd (not (eqb-true x y is))
differs false x y is not = refl

module _ (d e : DomainId) where
  revoked_costs : (segments : List Segment) → costs e (with_top (changed segment_form (with_revoked true)) segments) ≡ costs e segments
  revoked_costs [] = refl
  revoked_costs (s ∷ []) = both e (changed segment_form (with_revoked true) s) s [] [] refl refl
  revoked_costs (s ∷ a ∷ more) = both e s s (with_top (changed segment_form (with_revoked true)) (a ∷ more)) (a ∷ more) refl (revoked_costs (a ∷ more))

  top_by : (b : Bool) (left : List Segment) → costs e (cond b (with_top (changed segment_form (with_revoked true)) left) left) ≡ costs e left
  top_by true left = revoked_costs left
  top_by false left = refl

  -- ---- Another domain's.

  module _ (other : e.0 ≢ d.0) where
    above_by : (t gap : Bool) (s : Segment) (more : List Segment) → s.shared.domain.0 == d.0 ≡ t
        → ((g : Bool) → costs e (left_above segment_form d g more) ≡ costs e more)
        → costs e (cond t (left_above segment_form d true more) (cond gap (changed segment_form as_orphan s) s ∷ left_above segment_form d false more))
        ≡ costs e (s ∷ more)
    above_by true gap s more is rest =
        let apart : s.shared.domain.0 == e.0 ≡ false =
        differs (s.shared.domain.0 == e.0) s.shared.domain.0 e.0 refl (λ same. other (sym same ∙ eqb-true s.shared.domain.0 d.0 is)) in
        none e s (left_above segment_form d true more) more (elsewhere (s.shared.domain.0 == e.0) e s refl apart) (rest true)
    above_by false gap s more is rest =
        both e (cond gap (changed segment_form as_orphan s) s) s (left_above segment_form d false more) more (orphan_costs gap e s) (rest false)

    above_costs : (gap : Bool) (segments : List Segment) → costs e (left_above segment_form d gap segments) ≡ costs e segments
    above_costs gap [] = refl
    above_costs gap (s ∷ more) = above_by (s.shared.domain.0 == d.0) gap s more refl (λ g. above_costs g more)

    pub others_cost : (segments : List Segment) → costs e (segments_left segment_form d segments) ≡ costs e segments
    others_cost segments =
        top_by (top_is_of segment_form d segments) (left_above segment_form d false segments) ∙ above_costs false segments

  -- ---- Its own.

  module _ (same : e.0 ≡ d.0) where
    gone_by : (t gap : Bool) (s : Segment) (more : List Segment) → s.shared.domain.0 == d.0 ≡ t
        → ((g : Bool) → costs e (left_above segment_form d g more) ≡ 0)
        → costs e (cond t (left_above segment_form d true more) (cond gap (changed segment_form as_orphan s) s ∷ left_above segment_form d false more))
        ≡ 0
    gone_by true gap s more is rest = rest true
    gone_by false gap s more is rest =
        let x = sum_by-cons (chunks_of e) (cond gap (changed segment_form as_orphan s) s) (left_above segment_form d false more) in
        let one = orphan_costs gap e s ∙ elsewhere (s.shared.domain.0 == e.0) e s refl
        (differs (s.shared.domain.0 == e.0) s.shared.domain.0 e.0 refl (λ here. eqb-false s.shared.domain.0 d.0 is (here ∙ same))) in
        let tail = rest false in
        omega (arith, x, one, tail)

    above_none : (gap : Bool) (segments : List Segment) → costs e (left_above segment_form d gap segments) ≡ 0
    above_none gap [] = refl
    above_none gap (s ∷ more) = gone_by (s.shared.domain.0 == d.0) gap s more refl (λ g. above_none g more)

    pub none_cost : (segments : List Segment) → costs e (segments_left segment_form d segments) ≡ 0
    none_cost segments = top_by (top_is_of segment_form d segments) (left_above segment_form d false segments) ∙ above_none false segments

-- ---- Of all threads.

abbrev of_threads : DomainId → List Thread → ℕ
of_threads e threads = sum_by (λ (x : Thread). costs e x.segments) threads

abbrev cut : DomainId → Thread → Thread
cut d x = record x { segments = segments_left segment_form d x.segments }

no_segments : (e : DomainId) (x : Thread) (segments : List Segment) → has_segments (record x { segments = segments }) ≡ false → costs e segments ≡ 0
no_segments e x [] off = refl
no_segments e x (s ∷ more) off = absurd cc

live_by : (b : Bool) (e : DomainId) (x : Thread) (threads : List Thread) (n : ℕ) → has_segments x ≡ b → of_threads e threads ≡ n
    → of_threads e (cond b (x ∷ threads) threads) ≡ costs e x.segments + n
live_by true e x threads n is rest = let y = sum_by-cons (λ (t : Thread). costs e t.segments) x threads in omega (arith, y, rest)
live_by false e x threads n is rest = let z = no_segments e x x.segments is in omega (arith, z, rest)

module _ (d e : DomainId) where
  pub others_cost_all : e.0 ≢ d.0 → (threads : List Thread) → of_threads e (filter has_segments (map (cut d) threads)) ≡ of_threads e threads
  others_cost_all other [] = refl
  others_cost_all other (x ∷ threads) =
      let y = sum_by-cons (λ (t : Thread). costs e t.segments) x threads in
      let one = others_cost d e other x.segments in
      let all = live_by (has_segments (cut d x)) e (cut d x) (filter has_segments (map (cut d) threads)) (of_threads e threads) refl
      (others_cost_all other threads) in
      omega (arith, y, one, all)

  pub none_cost_all : e.0 ≡ d.0 → (threads : List Thread) → of_threads e (filter has_segments (map (cut d) threads)) ≡ 0
  none_cost_all same [] = refl
  none_cost_all same (x ∷ threads) =
      let one = none_cost d e same x.segments in
      let all = live_by (has_segments (cut d x)) e (cut d x) (filter has_segments (map (cut d) threads)) 0 refl (none_cost_all same threads) in
      omega (arith, one, all)
