-- The live entries are the live threads.
use Rattle.std.proofs.Common.{◌≡◌, ℕ, zero, suc, inl, inr, true, List, [], ◌∷◌, map, Contains, Option, Some, None, slice_get, refl, sym, ap, subst, ◌∙◌}
use Rattle.std.proofs.lemmas.Bool.{cases_Bool}
use Rattle.jk_model_sharing.specs.Segments.{SharedThread, has_segments}
use Rattle.list_lemmas.proofs.ItemsByPlace.{mapped_at}
use Rattle.list_lemmas.proofs.ItemsOfLists.{Contains-at, Contains-cases, Contains-here, Contains-none, Contains-there, place_of}
use Rattle.list_lemmas.proofs.ItemsThatPass.{Contains-filter}
use Rattle.thread_stacks.specs.declared.entries.ThreadEntry.{ThreadEntry}
use Rattle.thread_stacks.specs.declared.slots.Slot.{Slot}
use Rattle.thread_stacks.specs.StackAnswers.{IsLeastAbove, IsLiveNumber}
use Rattle.thread_stacks.specs.Stacks.{IsRunning, NameTops, is_running, thread_of, threads_of}
use Rattle.thread_stacks.proofs.Filtered.{filter_hit, filter_miss}
use Rattle.thread_stacks.proofs.ThreadsAfter.{runs}

-- the entry of a live thread
pub entered : (slots : List Slot) (es : List ThreadEntry) (t : SharedThread) → NameTops slots es → Contains (threads_of slots es) t
    → (e : ThreadEntry) × Contains es e × (is_running e ≡ true) × (thread_of slots e ≡ t)
entered slots [] t tops h = absurd (Contains-none t h)
entered slots (e ∷ es) t tops h =
    let same = runs slots e (tops zero e refl) in
    elim (cases_Bool (has_segments (thread_of slots e))) [
      | inl some ↦
          let among : Contains (thread_of slots e ∷ threads_of slots es) t =
          subst (λ (ts : List SharedThread). Contains ts t) (filter_hit has_segments (thread_of slots e) (map (thread_of slots) es) some) h in
          elim (Contains-cases t (thread_of slots e) (threads_of slots es) among) [
            | inl here ↦ (e, Contains-here e es, sym same ∙ some, here)
            | inr rest ↦
                let r = entered slots es t (λ i x at. tops (suc i) x at) rest in
                (r.0, Contains-there r.0 e es r.1, r.2, r.3)
          ]
      | inr none ↦
          let among : Contains (threads_of slots es) t =
          subst (λ (ts : List SharedThread). Contains ts t) (filter_miss has_segments (thread_of slots e) (map (thread_of slots) es) none) h in
          let r = entered slots es t (λ i x at. tops (suc i) x at) among in
          (r.0, Contains-there r.0 e es r.1, r.2, r.3)
    ]

pub is_among : (slots : List Slot) (es : List ThreadEntry) (i : ℕ) (e : ThreadEntry) → NameTops slots es → slice_get es i ≡ Some e
    → is_running e ≡ true → Contains (threads_of slots es) (thread_of slots e)
is_among slots es i e tops at live =
    Contains-filter has_segments (map (thread_of slots) es) (thread_of slots e)
    (Contains-at (map (thread_of slots) es) i (thread_of slots e) (mapped_at (thread_of slots) es i e at)) (runs slots e (tops i e at) ∙ live)

pub least_running : (slots : List Slot) (es : List ThreadEntry) (above : ℕ) (o : Option ℕ) → NameTops slots es → IsLeastAbove (IsRunning es) above o
    → IsLeastAbove (IsLiveNumber (threads_of slots es)) above o
least_running slots es above None tops h =
    λ t (thread, among, is).
    let e = entered slots es thread tops among in
    h t (e.0, e.1, ap (λ (x : SharedThread). x.number.0) e.3 ∙ is, e.2)
least_running slots es above (Some n) tops ((x, among, is, live), low, least) =
    let at = place_of es x among in (
      (thread_of slots x, is_among slots es at.0 x tops at.1 live, is),
      low,
      λ other (thread, there, other_is) more.
          let e = entered slots es thread tops there in
          least other (e.0, e.1, ap (λ (y : SharedThread). y.number.0) e.3 ∙ other_is, e.2) more,
    )
