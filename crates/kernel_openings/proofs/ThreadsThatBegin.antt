-- The thread that begins is found by its number, and its one segment is on top.
use Rattle.std.proofs.Common.{◌≡◌, ℕ, ◌<◌, ◌==◌, Bool, false, cond, find, List, [], ◌∷◌, ◌++◌, Contains, Option, Some, None, refl, sym, ap, ◌∙◌, arith}
use Rattle.std.specs.Prelude.{option_and_then, option_map}
use Rattle.std.proofs.lemmas.Bool.{eq-eqb, ne_eqb}
use Rattle.list_lemmas.proofs.ItemsOfLists.{Contains-here, Contains-there}
use Rattle.jk_model.specs.declared.identifiers.DomainId.{DomainId}
use Rattle.jk_model.specs.declared.identifiers.ThreadNo.{ThreadNo}
use Rattle.jk_model_sharing.specs.Segments.{SharedThread, top_of}
use Rattle.jk_model_sharing.specs.SharedStates.{MayBegin, SharedState, begun, drawn_segment}
use Rattle.thread_segments.specs.Answers.{Begins, begins, number_of, refused, top_number}
use Rattle.thread_segments.specs.SoundStates.{AreSound}

-- ---- It isn't refused.

pub has_begun : (s new : SharedState) (d : DomainId) (o : Option ThreadNo) → MayBegin s d → Begins s d o new
    → (o ≡ Some (record { 0 = s.next_thread })) × (new ≡ begun d s)
has_begun s new d o may (refused never) = absurd (never may)
has_begun s new d o may (begins also) = (refl, refl)

pub not_refused : (s new : SharedState) (d : DomainId) (o : Option ThreadNo) → MayBegin s d → Begins s d o new → o ≡ None → ⊥
not_refused s new d o may h none = let is = (has_begun s new d o may h).0 in absurd cc

-- ---- It is found.

abbrev new_thread : SharedState → DomainId → SharedThread
new_thread s d = record { number = record { 0 = s.next_thread }; domain = d; segments = drawn_segment s d ∷ [] }

abbrev has_number : ℕ → SharedThread → Bool
has_number n t = t.number.0 == n

found_last : (n : ℕ) (threads : List SharedThread) (t : SharedThread) → ((x : SharedThread) → Contains threads x → x.number.0 < n)
    → t.number.0 ≡ n → find (has_number n) (threads ++ t ∷ []) ≡ Some t
found_last n [] t lower same = ap (λ (b : Bool). cond b (Some t) None) (eq-eqb t.number.0 n same)
found_last n (x ∷ threads) t lower same =
    let other : x.number.0 == n ≡ false =
    ne_eqb x.number.0 n (λ e. let low = lower x (Contains-here x threads) in omega (arith, low, e)) in
    ap (λ (b : Bool). cond b (Some x) (find (has_number n) (threads ++ t ∷ []))) other
    ∙ found_last n threads t (λ y there. lower y (Contains-there y x threads there)) same

pub top_of_begun : (s : SharedState) (d : DomainId) → AreSound s
    → top_number (begun d s) (record { 0 = s.next_thread }) ≡ Some (record { 0 = s.next_segment })
top_of_begun s d sound =
    ap (λ (o : Option SharedThread). option_map number_of (option_and_then (λ (e : SharedThread). top_of e.segments) o))
    (found_last s.next_thread s.threads (new_thread s d) (λ x there. (sound.threads.before x there).1) refl)

-- ---- By what the calls answer.

module _ (s new : SharedState) (d : DomainId) (may : MayBegin s d) (sound : AreSound s) (thread : ThreadNo)
    (begun_so : Begins s d (Some thread) new) where
  is_begun : (o : Option ThreadNo) → o ≡ Some thread → Begins s d o new → (thread ≡ record { 0 = s.next_thread }) × (new ≡ begun d s)
  is_begun o is h =
      let both = has_begun s new d o may h in
      let same : thread ≡ record { 0 = s.next_thread } = (let e : Some thread ≡ Some (record { 0 = s.next_thread }) = sym is ∙ both.0 in cc) in
      (same, both.1)

  pub thread_is : thread ≡ record { 0 = s.next_thread }
  thread_is = (is_begun (Some thread) refl begun_so).0

  pub state_is : new ≡ begun d s
  state_is = (is_begun (Some thread) refl begun_so).1

  pub top_is : top_number new thread ≡ Some (record { 0 = s.next_segment })
  top_is =
      ap (λ (x : SharedState). top_number x thread) state_is
      ∙ ap (λ (t : ThreadNo). top_number (begun d s) t) thread_is
      ∙ top_of_begun s d sound
