-- A domain ends: other domains and their names stay, and each thread loses the domain's segments.
use Rattle.std.proofs.Common.{◌≡◌, ◌≢◌, ◌⊎◌, inl, inr, ℕ, ◌==◌, Bool, true, false, cond, not, List, [], ◌∷◌, ◌++◌, filter, map, Contains, Option, Some, None, slice_get, refl, sym, ap, ◌∙◌, arith, eq-eqb}
use Rattle.std.specs.Option.{option_map, option_map_or}
use Rattle.std.proofs.lemmas.Bool.{cases_eq, cases_lt, eqb-true}
use Rattle.std.proofs.lemmas.Option.{same_Some}
use Rattle.jk_model.specs.declared.identifiers.DomainId.{DomainId}
use Rattle.jk_model.specs.declared.identifiers.ThreadNo.{ThreadNo}
use Rattle.jk_model.specs.declared.output.Line.{Line}
use Rattle.jk_model_heaps.specs.Workings.{Inside}
use Rattle.jk_model_sharing.specs.BoundNames.{BoundName, without_names_of}
use Rattle.jk_model_sharing.specs.Segments.{as_orphan, changed, is_of, left_above, segments_left, top_is_of, top_of, with_revoked, with_top}
use Rattle.jk_model_machine_state.specs.Machines.{DomainState, IsLiveThread, Machine, Segment, Thread, domain_at, paid, segment_form, thread_numbered, with_domain}
use Rattle.jk_model_machine_state.specs.Places.{RunningSegment}
use Rattle.jk_model_crossings.specs.DomainEnds.{Terminates, ended_domain, has_segments, without_segments_of}
use Rattle.jk_model_runs.specs.Confined.{ThreadChanges}
use Rattle.jk_model_runs.specs.Steps.{EndedDomain}
use Rattle.list_lemmas.proofs.ItemsByPlace.{comes_from, mapped_at}
use Rattle.list_lemmas.proofs.ItemsOfLists.{place_of}
use Rattle.machine_laws.specs.KnownMachines.{IsKnownMachine}
use Rattle.machine_laws.proofs.ChangedItems.{parts_stay}
use Rattle.machine_laws.proofs.ElsewhereSame.{other_domains}
use Rattle.machine_laws.proofs.FoundAmongFiltered.{filtered_twice, none_still, stays_found, taken_out}
use Rattle.machine_laws.proofs.InitialisersAfterRuns.{found_still}
use Rattle.machine_laws.proofs.RanInSteps.{ChangesHere, ran, ran_domains, ran_numbered, ran_own, ran_threads, unchanged}
use Rattle.machine_laws.proofs.RunningSegmentsFit.{same_thread_number}
use Rattle.machine_laws.proofs.ThreadsEnded.{thread_found}

-- ---- The top segment of a thread is one of the domain: whatever it is, what is left is the same.

module _ (n : DomainId) where
  -- a segment that stays, where the one below it was taken out or not
  abbrev stays : Bool → Segment → Segment
  stays gap s = cond gap (changed segment_form as_orphan s) s

  cut_top : (gap b : Bool) (a : Segment) → is_of segment_form n a ≡ b → b ≡ true → left_above segment_form n gap (a ∷ []) ≡ []
  cut_top gap true a e h =
      ap (λ (b : Bool). cond b (left_above segment_form n true []) (stays gap a ∷ left_above segment_form n false [])) e
  cut_top gap false a e h = absurd cc

  cut_by : (b gap : Bool) (s a c : Segment) (lower : List Segment)
      → ((g : Bool) → left_above segment_form n g (lower ++ a ∷ []) ≡ left_above segment_form n g (lower ++ c ∷ []))
      → cond b (left_above segment_form n true (lower ++ a ∷ [])) (stays gap s ∷ left_above segment_form n false (lower ++ a ∷ []))
      ≡ cond b (left_above segment_form n true (lower ++ c ∷ [])) (stays gap s ∷ left_above segment_form n false (lower ++ c ∷ []))
  cut_by true gap s a c lower h = h true
  cut_by false gap s a c lower h = λ i. stays gap s ∷ h false i

  cut_same : (a c : Segment) → is_of segment_form n a ≡ true → is_of segment_form n c ≡ true → (lower : List Segment) (gap : Bool)
      → left_above segment_form n gap (lower ++ a ∷ []) ≡ left_above segment_form n gap (lower ++ c ∷ [])
  cut_same a c of_a of_c [] gap = cut_top gap true a of_a refl ∙ sym (cut_top gap true c of_c refl)
  cut_same a c of_a of_c (s ∷ lower) gap = cut_by (is_of segment_form n s) gap s a c lower (cut_same a c of_a of_c lower)

  top_there : (lower : List Segment) (a : Segment) → top_of (lower ++ a ∷ []) ≡ Some a
  top_there [] a = refl
  top_there (s ∷ []) a = refl
  top_there (s ∷ u ∷ lower) a = top_there (u ∷ lower) a

  top_is : (lower : List Segment) (a : Segment) → is_of segment_form n a ≡ true → top_is_of segment_form n (lower ++ a ∷ []) ≡ true
  top_is lower a of_a = ap (λ (o : Option Segment). option_map_or (is_of segment_form n) o false) (top_there lower a) ∙ of_a

  pub left_same : (lower : List Segment) (a c : Segment) → is_of segment_form n a ≡ true → is_of segment_form n c ≡ true
      → segments_left segment_form n (lower ++ a ∷ []) ≡ segments_left segment_form n (lower ++ c ∷ [])
  left_same lower a c of_a of_c = λ i.
      cond ((top_is lower a of_a ∙ sym (top_is lower c of_c)) i)
      (with_top (changed segment_form (with_revoked true)) (cut_same a c of_a of_c lower false i)) (cut_same a c of_a of_c lower false i)

-- ---- Threads of one number.

abbrev AreDistinct : List Thread → Type 0
AreDistinct xs = (i j : ℕ) (a b : Thread) → slice_get xs i ≡ Some a → slice_get xs j ≡ Some b → a.number.0 ≡ b.number.0 → i ≡ j

abbrev numbers_of : List Thread → List ThreadNo
numbers_of xs = map (λ (e : Thread). e.number) xs

distinct_kept : (xs ys : List Thread) → numbers_of ys ≡ numbers_of xs → AreDistinct xs → AreDistinct ys
distinct_kept xs ys same distinct i j a b at bt one =
    let x = was i a at in
    let y = was j b bt in
    distinct i j x.0 y.0 x.1 y.1 (x.2 ∙ one ∙ sym y.2)
  where
    was : (k : ℕ) (e : Thread) → slice_get ys k ≡ Some e → (x : Thread) × (slice_get xs k ≡ Some x) × (x.number.0 ≡ e.number.0)
    was k e there =
        let from =
        comes_from (λ (x : Thread). x.number) xs k e.number
        (ap (λ (ns : List ThreadNo). slice_get ns k) (sym same) ∙ mapped_at (λ (x : Thread). x.number) ys k e there) in
        (from.from, from.there, ap (λ (n : ThreadNo). n.0) from.gives)

distinct_threads : (m : Machine) → IsKnownMachine m → AreDistinct m.threads
distinct_threads m known i j a b at bt same = elim (cases_eq i j) [
  | inl e ↦ e
  | inr differ ↦ elim (cases_lt i j) [
    | inl below ↦ let less = known.0.0.threads.rise i j a b below at bt in absurd (omega (arith, less, same))
    | inr above ↦ let less = known.0.0.threads.rise j i b a (omega (arith, above, differ)) bt at in absurd (omega (arith, less, same))
  ]
]

number_by : (b : Bool) (segments : List Segment) (e : Thread) → (cond b (record e { segments = segments }) e).number ≡ e.number
number_by true segments e = refl
number_by false segments e = refl

has_none : (e : Thread) (segments : List Segment) → e.segments ≡ segments → has_segments e ≡ false → segments ≡ []
has_none e [] is none = refl
has_none e (s ∷ segments) is none =
    let some : has_segments e ≡ true = ap (λ (ss : List Segment). has_segments (record e { segments = ss })) is in absurd cc

-- ---- The end.

module _ (m : Machine) (t : ThreadNo) (p : RunningSegment m t) (known : IsKnownMachine m) (payer : DomainId) (pays : payer ≡ p.segment.shared.domain)
    (z : RunningSegment (paid payer m) t) (s : Segment) (inside : Inside) (of_s : s.shared.domain ≡ p.segment.shared.domain)
    (e : DomainState) (of_e : e.number ≡ p.segment.shared.domain) (lines : List Line) (new : Machine)
    (h : Terminates (ran m t p known payer pays z s inside) e lines new) where
  abbrev d : DomainId
  d = p.segment.shared.domain

  abbrev before : Machine
  before = ran m t p known payer pays z s inside

  abbrev cut : Machine
  cut = without_segments_of e.number (with_domain e.number ended_domain before)

  abbrev flat : Machine
  flat = record cut { names = without_names_of e.number cut.names; threads = filter has_segments cut.threads }

  is_flat : new ≡ flat
  is_flat =
      h.leads ∙ ap (λ (x : Machine). record x { names = without_names_of e.number x.names; threads = filter has_segments x.threads }) h.is_cut

  abbrev loses : Thread → Thread
  loses x = record x { segments = segments_left segment_form e.number x.segments }

  same_domains : (f : DomainId) → f ≢ d → domain_at new f ≡ domain_at m f
  same_domains f differ =
      ap (λ (x : Machine). domain_at x f) is_flat
      ∙ other_domains before (ran_numbered m t p known payer pays z s inside) e.number ended_domain f (λ is. differ (is ∙ of_e))
      ∙ ran_domains m t p known payer pays z s inside f differ

  same_names : without_names_of d new.names ≡ without_names_of d m.names
  same_names =
      ap (λ (x : Machine). without_names_of d x.names) is_flat
      ∙ ap (λ (k : DomainId). without_names_of d (without_names_of k m.names)) of_e
      ∙ filtered_twice (λ (b : BoundName). not (b.binder.0 == d.0)) m.names

  -- ---- Threads.

  abbrev of_number : ThreadNo → Thread → Bool
  of_number u x = x.number.0 == u.0

  searched : (u : ThreadNo) → thread_numbered cut u ≡ option_map loses (thread_numbered before u)
  searched u = found_still loses (λ (x : Thread). x.number.0 == u.0) (λ x. refl) before.threads

  of_own : is_of segment_form e.number s ≡ true
  of_own = eq-eqb s.shared.domain.0 e.number.0 (ap (λ (k : DomainId). k.0) (of_s ∙ sym of_e))

  of_old : is_of segment_form e.number p.segment ≡ true
  of_old = eq-eqb d.0 e.number.0 (ap (λ (k : DomainId). k.0) (sym of_e))

  -- the thread that steps loses what it would have lost before
  own_cut : loses (record p.thread { segments = p.lower ++ s ∷ [] }) ≡ loses p.thread
  own_cut =
      ap (λ (ss : List Segment). record p.thread { segments = ss })
      (left_same e.number p.lower s p.segment of_own of_old ∙ ap (segments_left segment_form e.number) (sym p.are_segments))

  cut_by_case : (u : ThreadNo) (old : Thread) → thread_numbered m u ≡ Some old → (u.0 ≡ t.0) ⊎ (u.0 ≢ t.0) → thread_numbered cut u ≡ Some (loses old)
  cut_by_case u old at (inl is) =
      let same : u ≡ t = same_thread_number u t is in
      let one : p.thread ≡ old = same_Some p.thread old (sym p.is_thread ∙ ap (thread_numbered m) (sym same) ∙ at) in
      ap (thread_numbered cut) same ∙ searched t ∙ ap (option_map loses) (ran_own m t p known payer pays z s inside)
      ∙ ap (λ (x : Thread). Some x) (own_cut ∙ ap loses one)
  cut_by_case u old at (inr differ) =
      searched u
      ∙ ap (option_map loses) (ran_threads m t p known payer pays z s inside u (λ is. differ (ap (λ (k : ThreadNo). k.0) is)) ∙ at)

  numbers_stay : numbers_of cut.threads ≡ numbers_of m.threads
  numbers_stay =
      parts_stay loses (λ (x : Thread). x.number) (λ x. refl) before.threads
      ∙ parts_stay (λ (x : Thread). cond (x.number.0 == t.0) (record x { segments = z.lower ++ s ∷ [] }) x) (λ (x : Thread). x.number)
      (λ x. number_by (x.number.0 == t.0) (z.lower ++ s ∷ []) x) m.threads

  -- a thread of the number is the one that is found
  one_thread : (u : ThreadNo) (x y : Thread) → thread_numbered cut u ≡ Some x → Contains cut.threads y → of_number u y ≡ true → y ≡ x
  one_thread u x y at on is =
      let found = thread_found cut u x at in
      let i = place_of cut.threads y on in
      let j = place_of cut.threads x found.0 in
      let place =
      distinct_kept m.threads cut.threads numbers_stay (distinct_threads m known) i.0 j.0 y x i.1 j.1
      (eqb-true y.number.0 u.0 is ∙ sym found.1) in
      same_Some y x (sym i.1 ∙ ap (slice_get cut.threads) place ∙ j.1)

  pub thread_cut : (u : ThreadNo) (old : Thread) → thread_numbered m u ≡ Some old
      → ThreadChanges (λ old after. after ≡ segments_left segment_form e.number old) old new
  thread_cut u old at = by (has_segments (loses old)) refl
    where
      there : thread_numbered cut u ≡ Some (loses old)
      there = cut_by_case u old at (cases_eq u.0 t.0)

      numbered : thread_numbered new old.number ≡ thread_numbered flat u
      numbered =
          ap (thread_numbered new) (same_thread_number old.number u (thread_found m u old at).1)
          ∙ ap (λ (x : Machine). thread_numbered x u) is_flat

      by : (b : Bool) → has_segments (loses old) ≡ b → ThreadChanges (λ old after. after ≡ segments_left segment_form e.number old) old new
      by true has = inl (loses old, numbered ∙ stays_found (of_number u) has_segments cut.threads (loses old) there has, refl, refl)
      by false none =
          inr (
            numbered ∙ taken_out (of_number u) has_segments cut.threads (loses old) none (λ y on is. one_thread u (loses old) y there on is),
            sym (has_none (loses old) (segments_left segment_form e.number old.segments) refl none),
          )

  lived : (u : ThreadNo) → u ≢ t → IsLiveThread new u → IsLiveThread m u
  lived u differ lives = by (thread_numbered m u) refl
    where
      by : (o : Option Thread) → thread_numbered m u ≡ o → IsLiveThread m u
      by (Some x) is = (x, is)
      by None none =
          let gone : thread_numbered cut u ≡ None =
          searched u ∙ ap (option_map loses) (ran_threads m t p known payer pays z s inside u differ ∙ none) in
          let still : thread_numbered new u ≡ None =
          ap (λ (x : Machine). thread_numbered x u) is_flat ∙ none_still (of_number u) has_segments cut.threads gone in
          let some : thread_numbered new u ≡ Some lives.0 = lives.1 in
          absurd cc

  pub end_changes : ChangesHere (record { machine = m; thread = t; deed = EndedDomain e.number }) d p new
  end_changes = record {
    domains = λ f old after differ at there.
        unchanged (record { machine = m; thread = t; deed = EndedDomain e.number }) old after
        (same_Some after old (sym there ∙ same_domains f differ ∙ at));
    names = same_names;
    threads = λ u old differ at. thread_cut u old at;
    own_thread = thread_cut t p.thread p.is_thread;
    no_more = lived;
    own_end = λ f is. let same : e.number ≡ f = cc in sym same ∙ of_e;
  }
