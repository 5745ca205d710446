-- Where the running segment has become another one with the same number, segments have different numbers still.
use Rattle.std.proofs.Common.{◌≡◌, ℕ, zero, suc, ◌==◌, Bool, true, false, cond, List, [], ◌∷◌, ◌++◌, slice_get, Some, refl, sym, ap, ◌∙◌}
use Rattle.std.proofs.lemmas.Bool.{eqb-true}
use Rattle.std.proofs.lemmas.Option.{same_Some}
use Rattle.jk_model.specs.declared.identifiers.ThreadNo.{ThreadNo}
use Rattle.jk_model_heaps.specs.Workings.{Inside}
use Rattle.jk_model_machine_state.specs.Machines.{Machine, Segment, Thread}
use Rattle.jk_model_machine_state.specs.Places.{RunningSegment, with_running}
use Rattle.list_lemmas.proofs.ItemsByPlace.{comes_from}
use Rattle.list_lemmas.proofs.ItemsOfLists.{Contains-at}
use Rattle.machine_laws.proofs.RunsAgain.{set_segments, thread_number}
use Rattle.machine_parts.specs.ChangedParts.{AreSegmentsApart}
use Rattle.machine_parts.proofs.RunningChanged.{thread_is}

-- the last item is another one
last_was : (xs : List Segment) (a b : Segment) (k : ℕ) (x : Segment) → a.shared.number ≡ b.shared.number → slice_get (xs ++ a ∷ []) k ≡ Some x
    → (y : Segment) × (slice_get (xs ++ b ∷ []) k ≡ Some y) × (x.shared.number ≡ y.shared.number)
last_was [] a b zero x same at = (b, refl, ap (λ (s : Segment). s.shared.number) (sym (same_Some a x at)) ∙ same)
last_was [] a b (suc k) x same at = absurd cc
last_was (z ∷ xs) a b zero x same at = (z, refl, ap (λ (s : Segment). s.shared.number) (sym (same_Some z x at)))
last_was (z ∷ xs) a b (suc k) x same at = last_was xs a b k x same at

module _ (m : Machine) (t : ThreadNo) (p : RunningSegment m t) (s : Segment) (inside : Inside) (same : s.shared.number ≡ p.segment.shared.number)
    (apart : AreSegmentsApart m) where
  abbrev g : Thread → Thread
  g = set_segments t (p.lower ++ s ∷ [])

  was_by : (b : Bool) (e : Thread) (i k : ℕ) (x : Segment) → e.number.0 == t.0 ≡ b → slice_get m.threads i ≡ Some e
      → slice_get (cond b (record e { segments = p.lower ++ s ∷ [] }) e).segments k ≡ Some x
      → (y : Segment) × (slice_get e.segments k ≡ Some y) × (x.shared.number ≡ y.shared.number)
  was_by false e i k x is there at = (x, at, refl)
  was_by true e i k x is there at =
      let one : e ≡ p.thread = thread_is m t p apart e (Contains-at m.threads i e there) (eqb-true e.number.0 t.0 is) in
      let was = last_was p.lower s p.segment k x same at in
      (was.0, ap (λ (z : Thread). slice_get z.segments k) one ∙ ap (λ (ss : List Segment). slice_get ss k) p.are_segments ∙ was.1, was.2)

  number_is : (e : Thread) → (g e).number ≡ e.number
  number_is e = λ i. record { 0 = thread_number t (p.lower ++ s ∷ []) e i }

  pub running_apart : AreSegmentsApart (with_running p s inside)
  running_apart = record {
    threads = λ i j a b at there number.
        let x = comes_from g m.threads i a at in
        let y = comes_from g m.threads j b there in
        apart.threads i j x.from y.from x.there y.there
        (sym (number_is x.from) ∙ ap (λ (e : Thread). e.number) x.gives ∙ number ∙ sym (ap (λ (e : Thread). e.number) y.gives) ∙ number_is y.from);
    segments = λ i j k l a b u v at there in_it other number.
        let x = comes_from g m.threads i a at in
        let y = comes_from g m.threads j b there in
        let one = was_by (x.from.number.0 == t.0) x.from i k u refl x.there (ap (λ (e : Thread). slice_get e.segments k) x.gives ∙ in_it) in
        let two = was_by (y.from.number.0 == t.0) y.from j l v refl y.there (ap (λ (e : Thread). slice_get e.segments l) y.gives ∙ other) in
        apart.segments i j k l x.from y.from one.0 two.0 x.there y.there one.1 two.1 (sym one.2 ∙ number ∙ two.2);
  }
