-- Where the segments of a domain are taken out of a thread, each that is left stood there, and each of another domain is left; flags alone change.
use Rattle.std.proofs.Common.{◌≡◌, ◌≢◌, ◌==◌, inl, inr, Bool, true, false, cond, List, [], ◌∷◌, Contains, refl, sym, ap, subst, ◌∙◌}
use Rattle.std.proofs.lemmas.Bool.{eqb-false, eqb-true}
use Rattle.jk_model.specs.declared.identifiers.DomainId.{DomainId}
use Rattle.jk_model_sharing.specs.Segments.{SharedSegment, as_orphan, left_above, segments_left, shared_form, top_is_of, with_revoked, with_top}
use Rattle.list_lemmas.proofs.ItemsOfLists.{Contains-cases, Contains-here, Contains-none, Contains-there}

-- the same number and domain
pub record IsAlike (s r : SharedSegment) : Type 0 where
  pub number : s.number ≡ r.number
  pub domain : s.domain ≡ r.domain

alike_itself : (s : SharedSegment) → IsAlike s s
alike_itself s = record { number = refl; domain = refl }

-- one like it is there
abbrev pub HasAlike : List SharedSegment → SharedSegment → Type 0
HasAlike segments s = (r : SharedSegment) × Contains segments r × IsAlike s r

orphaned : (gap : Bool) (s : SharedSegment) → IsAlike (cond gap (as_orphan s) s) s
orphaned true s = record { number = refl; domain = refl }
orphaned false s = record { number = refl; domain = refl }

later : (a : SharedSegment) (more : List SharedSegment) (s : SharedSegment) → HasAlike more s → HasAlike (a ∷ more) s
later a more s (r, there, alike) = (r, Contains-there r a more there, alike)

alike_after : (segments : List SharedSegment) (s r : SharedSegment) → IsAlike s r → HasAlike segments r → HasAlike segments s
alike_after segments s r a (x, there, b) = (x, there, record { number = a.number ∙ b.number; domain = a.domain ∙ b.domain })

module _ (d : DomainId) where
  -- ---- Each that is left stood there, and is one of another domain.

  abbrev Stood : List SharedSegment → SharedSegment → Type 0
  Stood segments s = (r : SharedSegment) × Contains segments r × IsAlike s r × (r.domain.0 ≢ d.0)

  stood_later : (a : SharedSegment) (more : List SharedSegment) (s : SharedSegment) → Stood more s → Stood (a ∷ more) s
  stood_later a more s (r, there, alike, other) = (r, Contains-there r a more there, alike, other)

  above_by : (t gap : Bool) (a : SharedSegment) (more : List SharedSegment) (s : SharedSegment) → a.domain.0 == d.0 ≡ t
      → ((g : Bool) → Contains (left_above shared_form d g more) s → Stood more s)
      → Contains (cond t (left_above shared_form d true more) (cond gap (as_orphan a) a ∷ left_above shared_form d false more)) s
      → Stood (a ∷ more) s
  above_by true gap a more s is rest there = stood_later a more s (rest true there)
  above_by false gap a more s is rest there =
      elim (Contains-cases s (cond gap (as_orphan a) a) (left_above shared_form d false more) there) [
        | inl same ↦ (a, Contains-here a more, subst (λ (x : SharedSegment). IsAlike x a) same (orphaned gap a), eqb-false a.domain.0 d.0 is)
        | inr after ↦ stood_later a more s (rest false after)
      ]

  above_stood : (gap : Bool) (segments : List SharedSegment) (s : SharedSegment) → Contains (left_above shared_form d gap segments) s → Stood segments s
  above_stood gap [] s there = absurd (Contains-none s there)
  above_stood gap (a ∷ more) s there = above_by (a.domain.0 == d.0) gap a more s refl (λ g. above_stood g more s) there

  -- the top one may have another flag
  flagged_from : (segments : List SharedSegment) (s : SharedSegment) → Contains (with_top (with_revoked true) segments) s → HasAlike segments s
  flagged_from [] s there = absurd (Contains-none s there)
  flagged_from (a ∷ []) s there = elim (Contains-cases s (with_revoked true a) [] there) [
    | inl same ↦ (a, Contains-here a [], subst (λ (x : SharedSegment). IsAlike x a) same (record { number = refl; domain = refl }))
    | inr none ↦ absurd (Contains-none s none)
  ]
  flagged_from (a ∷ b ∷ more) s there = elim (Contains-cases s a (with_top (with_revoked true) (b ∷ more)) there) [
    | inl same ↦ (a, Contains-here a (b ∷ more), subst (λ (x : SharedSegment). IsAlike x a) same (alike_itself a))
    | inr after ↦ later a (b ∷ more) s (flagged_from (b ∷ more) s after)
  ]

  flagged_to : (segments : List SharedSegment) (s : SharedSegment) → Contains segments s → HasAlike (with_top (with_revoked true) segments) s
  flagged_to [] s there = absurd (Contains-none s there)
  flagged_to (a ∷ []) s there = elim (Contains-cases s a [] there) [
    | inl same ↦ (
      with_revoked true a,
      Contains-here (with_revoked true a) [],
      subst (λ (x : SharedSegment). IsAlike x (with_revoked true a)) same (record { number = refl; domain = refl }),
    )
    | inr none ↦ absurd (Contains-none s none)
  ]
  flagged_to (a ∷ b ∷ more) s there = elim (Contains-cases s a (b ∷ more) there) [
    | inl same ↦ (
      a,
      Contains-here a (with_top (with_revoked true) (b ∷ more)),
      subst (λ (x : SharedSegment). IsAlike x a) same (alike_itself a),
    )
    | inr after ↦ later a (with_top (with_revoked true) (b ∷ more)) s (flagged_to (b ∷ more) s after)
  ]

  stood_by : (t : Bool) (segments : List SharedSegment) (s : SharedSegment)
      → Contains (cond t (with_top (with_revoked true) (left_above shared_form d false segments)) (left_above shared_form d false segments)) s
      → Stood segments s
  stood_by true segments s there =
      let from = flagged_from (left_above shared_form d false segments) s there in
      let was = above_stood false segments from.0 from.1 in (
        was.0,
        was.1,
        record { number = from.2.number ∙ was.2.number; domain = from.2.domain ∙ was.2.domain },
        was.3,
      )
  stood_by false segments s there = above_stood false segments s there

  pub all_stood : (segments : List SharedSegment) (s : SharedSegment) → Contains (segments_left shared_form d segments) s
      → (r : SharedSegment) × Contains segments r × IsAlike s r × (r.domain.0 ≢ d.0)
  all_stood segments s there = stood_by (top_is_of shared_form d segments) segments s there

  -- ---- Each of another domain is left.

  kept_by : (t gap : Bool) (a : SharedSegment) (more : List SharedSegment) (s : SharedSegment) → a.domain.0 == d.0 ≡ t → s.domain.0 ≢ d.0
      → ((g : Bool) → Contains more s → HasAlike (left_above shared_form d g more) s) → Contains (a ∷ more) s
      → HasAlike (cond t (left_above shared_form d true more) (cond gap (as_orphan a) a ∷ left_above shared_form d false more)) s
  kept_by true gap a more s is other rest there = elim (Contains-cases s a more there) [
    | inl same ↦ absurd (other (ap (λ (x : SharedSegment). x.domain.0) (sym same) ∙ eqb-true a.domain.0 d.0 is))
    | inr after ↦ rest true after
  ]
  kept_by false gap a more s is other rest there = elim (Contains-cases s a more there) [
    | inl same ↦
        let alike = orphaned gap a in (
          cond gap (as_orphan a) a,
          Contains-here (cond gap (as_orphan a) a) (left_above shared_form d false more),
          subst (λ (x : SharedSegment). IsAlike x (cond gap (as_orphan a) a)) same
              (record { number = sym alike.number; domain = sym alike.domain }),
        )
    | inr after ↦ later (cond gap (as_orphan a) a) (left_above shared_form d false more) s (rest false after)
  ]

  above_kept : (gap : Bool) (segments : List SharedSegment) (s : SharedSegment) → s.domain.0 ≢ d.0 → Contains segments s
      → HasAlike (left_above shared_form d gap segments) s
  above_kept gap [] s other there = absurd (Contains-none s there)
  above_kept gap (a ∷ more) s other there = kept_by (a.domain.0 == d.0) gap a more s refl other (λ g. above_kept g more s other) there

  left_by : (t : Bool) (left : List SharedSegment) (s : SharedSegment) → HasAlike left s → HasAlike (cond t (with_top (with_revoked true) left) left) s
  left_by true left s (r, there, alike) = alike_after (with_top (with_revoked true) left) s r alike (flagged_to left r there)
  left_by false left s has = has

  pub others_stay : (segments : List SharedSegment) (s : SharedSegment) → s.domain.0 ≢ d.0 → Contains segments s
      → HasAlike (segments_left shared_form d segments) s
  others_stay segments s other there =
      left_by (top_is_of shared_form d segments) (left_above shared_form d false segments) s (above_kept false segments s other there)
