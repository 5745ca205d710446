-- A start leads from a machine of which all is known to such a machine. What begins is two changes: a thread begins with null for its start words, and its
-- segment runs, whose domain makes them.
use Rattle.std.proofs.Common.{inl, inr, ◌≡◌, ℕ, ◌+◌, ◌==◌, ◌<◌, ◌≤◌, ◌&&◌, Bool, true, false, cond, List, [], ◌∷◌, ◌++◌, length, map, Contains, Option, Some, None, slice_get, refl, sym, ap, subst, ◌∙◌, arith, eq-eqb, ne_eqb}
use Rattle.std.specs.Prelude.{bytes_eq}
use Rattle.std.proofs.lemmas.Bool.{cases_lt}
use Rattle.class_lemmas.proofs.NamesOfTables.{means_named}
use Rattle.jk_model.specs.declared.identifiers.ThreadNo.{ThreadNo}
use Rattle.jk_model.specs.declared.output.Line.{Line}
use Rattle.jk_model.specs.declared.values.Value.{Value}
use Rattle.jk_model.specs.declared.values.Value.TheVariants as Held
use Rattle.jk_model_classes.specs.Worlds.{IsNamed}
use Rattle.jk_model_frames.specs.Frames.{FrameState, called_frame, head_chunks, locals_of}
use Rattle.jk_model_domains.specs.Objects.{NamedObject}
use Rattle.jk_model_heaps.specs.CalledFrames.{call_head}
use Rattle.jk_model_heaps.specs.Workings.{Inside, with_heap}
use Rattle.jk_model_sealing.specs.FittingFrames.{FitsAsTop}
use Rattle.jk_model_sealing.specs.SealedInsides.{IsSealedInside}
use Rattle.jk_model_machine_state.specs.Machines.{DomainState, Machine, Segment, Thread, free_chunks, is_live_domain, started_in, with_inside}
use Rattle.jk_model_machine_state.specs.Places.{RunningSegment}
use Rattle.jk_model_runs.specs.AnsweredCalls.{AreCallsAnswered}
use Rattle.jk_model_runs.specs.Sealed.{IsSealed, TopFits, surroundings}
use Rattle.jk_model_runs.specs.Starts.{HasMain, HasManyThreads, LacksChunks, MakesWords, StartWords, Starts, begins, few_chunks, many_threads, many_words, no_class, no_domain, no_main, with_new_thread}
use Rattle.list_lemmas.proofs.FoundItems.{Finds, finds}
use Rattle.list_lemmas.proofs.EndsOfLists.{head_is}
use Rattle.list_lemmas.proofs.ItemsOfLists.{Contains-at}
use Rattle.machine_laws.specs.KeptWorlds.{lasting}
use Rattle.machine_laws.specs.KnownMachines.{IsKnownMachine}
use Rattle.machine_laws.specs.RunsInMachines.{GivesStill}
use Rattle.machine_laws.specs.SoundMachines.{HasSoundClasses}
use Rattle.machine_laws.proofs.ChangedItems.{parts_stay}
use Rattle.machine_laws.proofs.MainsTakeTexts.{main_frames, needing}
use Rattle.machine_laws.proofs.PushedItems.{found_last, last_changed}
use Rattle.machine_laws.proofs.RunningSegmentsFit.{frames_weaker}
use Rattle.machine_laws.proofs.RunsAnswered.{calls_answered}
use Rattle.machine_laws.proofs.SealedAfterRuns.{sealed_after}
use Rattle.machine_laws.proofs.SegmentsThatRan.{HasRun, after}
use Rattle.machine_laws.proofs.StartWordsMade.{array_held, words_keep}
use Rattle.machine_laws.proofs.ThreadsBegun.{MayBegin, begun, begun_answered, begun_sealed, first, home, new_thread}
use Rattle.machine_laws.proofs.WorldsKept.{sound_classes_stay}

-- ---- What is known of the domain that a start names.

lives_by : (e : DomainState) (inside : Option Inside) → e.inside ≡ inside → is_live_domain e ≡ true → (x : Inside) × (e.inside ≡ Some x)
lives_by e (Some x) is live = (x, is)
lives_by e None is live =
    let dead : is_live_domain e ≡ false = ap (λ (o : Option Inside). is_live_domain (record e { inside = o })) is in absurd cc

module _ (m : Machine) (start : StartWords) (sealed : IsSealed m) (sound : HasSoundClasses m) (h : HasMain m start)
    (few : HasManyThreads m h.in_class.in_domain.domain → ⊥) (room : LacksChunks m h.in_class.in_domain.domain h.main h.code → ⊥)
    (heap : List NamedObject) (words : MakesWords m h.in_class.in_domain.domain h.in_class.in_domain.inside.heap start.words heap)
    (fits : length (locals_of (Held.Obj words.array ∷ [])) ≤ h.code.max_locals) where
  abbrev d : DomainState
  d = h.in_class.in_domain.domain

  abbrev inside : Inside
  inside = h.in_class.in_domain.inside

  stands : (k : ℕ) × (slice_get m.domains k ≡ Some d) × ((is_live_domain d && bytes_eq d.name start.domain) ≡ true)
  stands =
      subst (Finds (λ (e : DomainState). is_live_domain e && bytes_eq e.name start.domain) m.domains) h.in_class.in_domain.found
      (finds (λ (e : DomainState). is_live_domain e && bytes_eq e.name start.domain) m.domains)

  there : Contains m.domains d
  there = Contains-at m.domains stands.0 d stands.1

  at_number : slice_get m.domains d.number.0 ≡ Some d
  at_number = ap (slice_get m.domains) (sealed.domains.numbered stands.0 d stands.1) ∙ stands.1

  class_named : IsNamed d.table h.in_class.class
  class_named = means_named d.table start.class h.in_class.class h.in_class.is_named

  -- ---- The thread, as it begins with this argument.

  abbrev frame_with : Value → FrameState
  frame_with v = needing h.in_class.class (called_frame (call_head h.main h.code) (v ∷ []))

  at_most : (a b : ℕ) → (a < b → ⊥) → b ≤ a
  at_most a b never = elim (cases_lt a b) [ inl less ↦ absurd (never less) | inr most ↦ most ]

  fewer : (a b : ℕ) → (b ≤ a → ⊥) → a < b
  fewer a b never = elim (cases_lt a b) [ inl less ↦ less | inr most ↦ absurd (never most) ]

  abbrev may_begin : MayBegin m
  may_begin = record {
    sealed = sealed;
    domain = d;
    at = at_number;
    inside = inside;
    lives = h.in_class.in_domain.is_inside;
    frame = frame_with Held.Null;
    frames = main_frames m d sound there h.in_class.class h.main h.code h.is_main class_named inside.heap Held.Null (tt, tt) fits;
    initialises = refl;
    threads = fewer (started_in m d.number) d.quotas.threads few;
    chunks = at_most (free_chunks m d) (1 + head_chunks (call_head h.main h.code)) room;
  }

  abbrev mid : Machine
  mid = begun may_begin

  abbrev t : ThreadNo
  t = record { 0 = m.next_thread }

  earlier : (k : ℕ) (e : Thread) → slice_get m.threads k ≡ Some e → (e.number.0 == t.0) ≡ false
  earlier k e at =
      let low = (sealed.threads.before e (Contains-at m.threads k e at)).1 in
      ne_eqb e.number.0 t.0 (λ same. omega (arith, low, same))

  abbrev place : RunningSegment mid t
  place = record {
    thread = new_thread may_begin;
    is_thread = found_last (λ (e : Thread). e.number.0 == t.0) m.threads (new_thread may_begin) earlier (eq-eqb t.0 t.0 refl);
    lower = [];
    segment = first may_begin;
    are_segments = refl;
    home = home may_begin;
  }

  -- ---- And as it has its start words.

  abbrev words_made : Inside
  words_made = with_heap inside heap

  abbrev segment : Segment
  segment = record (first may_begin) { frames = frame_with (Held.Obj words.array) ∷ [] }

  inside_sealed : IsSealedInside (surroundings m d) d.quotas.heap inside
  inside_sealed = sealed.domains.insides d inside there h.in_class.in_domain.is_inside

  abbrev ran : HasRun mid t
  ran = record {
    place = place;
    sealed = begun_sealed may_begin;
    segment = segment;
    inside = words_made;
    number = refl;
    domain = refl;
    keeps = words_keep m d sound there inside inside_sealed start.words heap words (record { 0 = m.next_segment }) (free_chunks mid d);
    frames = frames_weaker (surroundings m d) heap (FitsAsTop m.classes heap) (TopFits m words_made segment) (λ f top. inl top)
        (frame_with (Held.Obj words.array) ∷ [])
        (main_frames m d sound there h.in_class.class h.main h.code h.is_main class_named heap (Held.Obj words.array)
        (array_held m d sound there inside inside_sealed start.words heap words) fits);
    progress = record { own = λ c. refl; others = λ u c differ. refl };
    chunks = omega arith;
  }

  -- ---- That is what the start leads to.

  abbrev pub then : Machine
  then = with_new_thread d.number (frame_with (Held.Obj words.array)) (with_inside d.number words_made m)

  abbrev with_words : Thread → Thread
  with_words e = cond (e.number.0 == t.0) (record e { segments = segment ∷ [] }) e

  changed_by : (b : Bool) (e : Thread) → b ≡ true → cond b (record e { segments = segment ∷ [] }) e ≡ record e { segments = segment ∷ [] }
  changed_by true e is = refl
  changed_by false e is = absurd cc

  kept_by : (b : Bool) (e : Thread) → b ≡ false → cond b (record e { segments = segment ∷ [] }) e ≡ e
  kept_by true e is = absurd cc
  kept_by false e is = refl

  threads_are : map with_words (m.threads ++ new_thread may_begin ∷ []) ≡ m.threads ++ record (new_thread may_begin) { segments = segment ∷ [] } ∷ []
  threads_are =
      last_changed with_words m.threads (new_thread may_begin) (λ k e at. kept_by (e.number.0 == t.0) e (earlier k e at))
      ∙ ap (λ (e : Thread). m.threads ++ e ∷ []) (changed_by (t.0 == t.0) (new_thread may_begin) (eq-eqb t.0 t.0 refl))

  leads : after ran ≡ then
  leads = ap (λ (threads : List Thread). record then { threads = threads }) threads_are

  pub begins_sealed : IsSealed then
  begins_sealed = subst IsSealed leads (sealed_after mid t ran)

  pub begins_answered : AreCallsAnswered m → AreCallsAnswered then
  begins_answered answered =
      subst AreCallsAnswered leads (calls_answered mid t ran refl gives (refl, tt) (begun_answered may_begin answered))
    where
      gives : GivesStill m.classes (frame_with Held.Null ∷ []) (frame_with (Held.Obj words.array) ∷ [])
      gives result (lowest, others, are, (method, record_is, of, is, same)) = (
        frame_with (Held.Obj words.array),
        [],
        refl,
        (method, record_is, ap (λ (f : FrameState). f.head.method) (head_is (frame_with Held.Null) lowest [] others are) ∙ of, is, same),
      )

  pub begins_sound : HasSoundClasses then
  begins_sound =
      let stays =
      sound_classes_stay m (with_inside d.number words_made m)
      (record {
        pools = (refl, refl);
        classes = refl;
        domains = parts_stay (λ (e : DomainState). cond (e.number.0 == d.number.0) (record e { inside = Some words_made }) e) lasting lasts m.domains;
        next_thread = refl;
      }) sound in
      record { linked = stays.linked; codes = stays.codes; tables = stays.tables }
    where
      lasts_by : (b : Bool) (e : DomainState) → lasting (cond b (record e { inside = Some words_made }) e) ≡ lasting e
      lasts_by true e = refl
      lasts_by false e = refl

      lasts : (e : DomainState) → lasting (cond (e.number.0 == d.number.0) (record e { inside = Some words_made }) e) ≡ lasting e
      lasts e = lasts_by (e.number.0 == d.number.0) e

-- ---- All starts.

-- What is so of a machine, and of each to which a start leads where a thread begins, is so of each to which a start leads.
module _ (m : Machine) (start : StartWords) (sealed : IsSealed m) (sound : HasSoundClasses m) (P : Machine → Type 0) (same : P m)
    (begun_so : (h : HasMain m start) (few : HasManyThreads m h.in_class.in_domain.domain → ⊥)
    (room : LacksChunks m h.in_class.in_domain.domain h.main h.code → ⊥) (heap : List NamedObject)
    (words : MakesWords m h.in_class.in_domain.domain h.in_class.in_domain.inside.heap start.words heap)
    (fits : length (locals_of (Held.Obj words.array ∷ [])) ≤ h.code.max_locals) → P (then m start sealed sound h few room heap words fits)) where
  pub each_start : (lines : List Line) (new : Machine) → Starts m start lines new → P new
  each_start lines new (no_domain none) = same
  each_start lines new (no_class h none) = same
  each_start lines new (no_main h none) = same
  each_start lines new (many_threads h many) = same
  each_start lines new (many_words h few lacks) = same
  each_start lines new (few_chunks h few fit lacks) = same
  each_start lines new (begins h few room heap words frame called) =
      subst
      (λ (f : FrameState).
      P (with_new_thread h.in_class.in_domain.domain.number (needing h.in_class.class f)
      (with_inside h.in_class.in_domain.domain.number (with_heap h.in_class.in_domain.inside heap) m))) (sym called.1)
      (begun_so h few room heap words called.0)

pub start_stays_sealed : (m : Machine) (start : StartWords) (lines : List Line) (new : Machine) → IsSealed m → HasSoundClasses m
    → Starts m start lines new → IsSealed new × HasSoundClasses new
start_stays_sealed m start lines new sealed sound =
    each_start m start sealed sound (λ x. IsSealed x × HasSoundClasses x) (sealed, sound)
    (λ h few room heap words fits.
    (begins_sealed m start sealed sound h few room heap words fits, begins_sound m start sealed sound h few room heap words fits)) lines new

pub start_stays_answered : (m : Machine) (start : StartWords) (lines : List Line) (new : Machine) → IsKnownMachine m → Starts m start lines new
    → AreCallsAnswered new
start_stays_answered m start lines new known =
    each_start m start known.0.0 known.1 AreCallsAnswered known.0.1
    (λ h few room heap words fits. begins_answered m start known.0.0 known.1 h few room heap words fits known.0.1) lines new

pub start_stays_known : (m : Machine) (start : StartWords) (lines : List Line) (new : Machine) → IsKnownMachine m → Starts m start lines new
    → IsKnownMachine new
start_stays_known m start lines new known starts =
    let both = start_stays_sealed m start lines new known.0.0 known.1 starts in
    ((both.0, start_stays_answered m start lines new known starts), both.1)
