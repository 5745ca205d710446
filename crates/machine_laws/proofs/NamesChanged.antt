-- The names that are bound in a sealed machine are others: the machine is sealed where they are in order.
use Rattle.std.proofs.Common.{◌≡◌, ℕ, ◌+◌, ◌<◌, ◌≤◌, ◌==◌, ◌⊎◌, inl, inr, Bool, true, false, cond, not, List, [], ◌∷◌, ◌++◌, length, map, filter, Contains, Some, None, slice_get, refl, sym, ap, subst, ◌∙◌, arith}
use Rattle.std.specs.Prelude.{bytes_eq}
use Rattle.std.proofs.lemmas.Bool.{cases_eq, cases_lt, eqb-true}
use Rattle.std.proofs.lemmas.List.Elements.{Contains-append_cases}
use Rattle.std.proofs.lemmas.Option.{same_Some}
use Rattle.std.proofs.lemmas.Slice.Eq.{bytes_eq-Decides}
use Rattle.jk_model.specs.declared.identifiers.DomainId.{DomainId}
use Rattle.jk_model_sharing.specs.BoundNames.{BoundName, bound_as, count_bound_by, longest_name, with_name, without_name}
use Rattle.jk_model_machine_state.specs.Machines.{DomainState, Machine, caps_of}
use Rattle.jk_model_machine_state.specs.Places.{LiveDomain}
use Rattle.jk_model_runs.specs.Sealed.{AreSealedNames, CallerFits, IsSealed, IsSealedSegment, SegmentsFit, TopFits}
use Rattle.jk_model_machine_state.specs.Machines.{Segment}
use Rattle.jk_model_heaps.specs.Workings.{Inside}
use Rattle.jk_model_frames.specs.Frames.{FrameState}
use Rattle.jk_model_heaps.specs.Capabilities.{IsGivenOut}
use Rattle.list_lemmas.proofs.FoundItems.{Finds, finds}
use Rattle.list_lemmas.proofs.ItemsByPlace.{comes_from, slice_get-push_cases}
use Rattle.list_lemmas.proofs.ItemsOfLists.{Contains-at, Contains-cases, Contains-none, place_of}
use Rattle.machine_laws.proofs.ChangedItems.{as_many_pass}
use Rattle.machine_laws.proofs.FilteredItems.{fewer_pass, filtered_from, stand_in_order}

module _ (m : Machine) (sealed : IsSealed m) (names : List BoundName) where
  abbrev pub named : Machine
  named = record m { names = names }

  abbrev pub lives_named : (d : DomainId) → LiveDomain m d → LiveDomain named d
  lives_named d l =
      record { domain = l.domain; is_domain = l.is_domain; numbered = l.numbered; inside = l.inside; is_inside = l.is_inside }

  segment_there : (Top : Inside → FrameState → Type 0) (s : Segment) → IsSealedSegment m Top s → IsSealedSegment named Top s
  segment_there Top s h = record { home = lives_named s.shared.domain h.home; frames = h.frames }

  segments_there : (segments : List Segment) → SegmentsFit m segments → SegmentsFit named segments
  segments_there [] h = h
  segments_there (s ∷ []) h = segment_there (λ inside f. TopFits m inside s f) s h
  segments_there (s ∷ above ∷ more) h = (segment_there (CallerFits m) s h.0, segments_there (above ∷ more) h.1)

  pub named_sealed : AreSealedNames named → IsSealed named
  named_sealed are = record {
    domains = record {
      numbered = sealed.domains.numbered;
      few = sealed.domains.few;
      names_differ = sealed.domains.names_differ;
      insides = sealed.domains.insides;
      chunks = sealed.domains.chunks;
      budgets = sealed.domains.budgets;
      started = sealed.domains.started;
    };
    heap_places = record { placed = sealed.heap_places.placed; apart = sealed.heap_places.apart };
    stack_places = record { placed = sealed.stack_places.placed; apart = sealed.stack_places.apart };
    capabilities = record {
      owner = sealed.capabilities.owner;
      count = sealed.capabilities.count;
      chained = sealed.capabilities.chained;
      within = sealed.capabilities.within;
      few = sealed.capabilities.few;
      remote = sealed.capabilities.remote;
      targets = sealed.capabilities.targets;
    };
    names = are;
    threads = record {
      segments = λ thread on. segments_there thread.segments (sealed.threads.segments thread on);
      rise = sealed.threads.rise;
      before = sealed.threads.before;
      first_numbers = sealed.threads.first_numbers;
      segments_before = sealed.threads.segments_before;
      segments_differ = sealed.threads.segments_differ;
    };
    tasks = record { given_out = sealed.tasks.given_out; own = sealed.tasks.own };
    initialisers = record { one = sealed.initialisers.one; live = sealed.initialisers.live };
  }

-- ---- A name is bound.

-- how many pass at the end of a list
counted_by : {X : Type 0} (p : X → Bool) (xs : List X) (y : X) → length (filter p (xs ++ y ∷ [])) ≡ length (filter p xs) + cond (p y) 1 0
counted_by p [] y = last (p y)
  where
    last : (b : Bool) → length (cond b (y ∷ []) []) ≡ 0 + cond b 1 0
    last true = omega arith
    last false = omega arith
counted_by p (x ∷ xs) y = first (p x) (counted_by p xs y)
  where
    first : (b : Bool) → length (filter p (xs ++ y ∷ [])) ≡ length (filter p xs) + cond (p y) 1 0
        → length (cond b (x ∷ filter p (xs ++ y ∷ [])) (filter p (xs ++ y ∷ []))) ≡ length (cond b (x ∷ filter p xs) (filter p xs)) + cond (p y) 1 0
    first true h = omega (arith, h)
    first false h = h

same_text : (n : BoundName) (text : List ℕ) → bytes_eq n.text text ≡ true → n.text ≡ text
same_text n text h = (bytes_eq-Decides n.text text).0 h

module _ (m : Machine) (sealed : IsSealed m) (asked : BoundName) (given : IsGivenOut (caps_of m) asked.cap) (binder : LiveDomain m asked.binder)
    (short : length asked.text ≤ longest_name) where
  -- ---- A domain's own name is bound anew.

  module _ (bound : BoundName) (is : bound_as m.names asked.text ≡ Some bound) (own : bound.binder ≡ asked.binder) where
    abbrev puts : BoundName → BoundName
    puts n = cond (bytes_eq n.text asked.text) asked n

    found : Finds (λ (n : BoundName). bytes_eq n.text asked.text) m.names (Some bound)
    found = subst (Finds (λ (n : BoundName). bytes_eq n.text asked.text) m.names) is (finds (λ (n : BoundName). bytes_eq n.text asked.text) m.names)

    text_by : (b : Bool) (n : BoundName) → bytes_eq n.text asked.text ≡ b → (cond b asked n).text ≡ n.text
    text_by true n e = sym (same_text n asked.text e)
    text_by false n e = refl

    binder_by : (b : Bool) (n : BoundName) → Contains m.names n → bytes_eq n.text asked.text ≡ b → (cond b asked n).binder ≡ n.binder
    binder_by true n on e =
        let at = place_of m.names n on in
        let place = sealed.names.differ at.0 found.0 n bound at.1 found.1
        (same_text n asked.text e ∙ sym (same_text bound asked.text found.2)) in
        let one : n ≡ bound = same_Some n bound (sym at.1 ∙ ap (slice_get m.names) place ∙ found.1) in
        sym own ∙ ap (λ (x : BoundName). x.binder) (sym one)
    binder_by false n on e = refl

    each : (P : BoundName → Type 0) → P asked → ((n : BoundName) → Contains m.names n → P n) → (n : BoundName) → Contains (map puts m.names) n → P n
    each P new old n on =
        let at = place_of (map puts m.names) n on in
        let from = comes_from puts m.names at.0 n at.1 in
        subst P from.gives (by (bytes_eq from.from.text asked.text) from.from (Contains-at m.names at.0 from.from from.there))
      where
        by : (b : Bool) (x : BoundName) → Contains m.names x → P (cond b asked x)
        by true x there = new
        by false x there = old x there

    pub own_name_sealed : IsSealed (named m sealed (with_name asked m.names))
    own_name_sealed =
        named_sealed m sealed (with_name asked m.names)
        (record {
          given_out = each (λ n. IsGivenOut (caps_of m) n.cap) given sealed.names.given_out;
          binders = λ n on. lives_named m sealed (with_name asked m.names) n.binder (each (λ x. LiveDomain m x.binder) binder sealed.names.binders n on);
          short = each (λ n. length n.text ≤ longest_name) short sealed.names.short;
          differ = λ i j a b at bt same.
              let x = comes_from puts m.names i a at in
              let y = comes_from puts m.names j b bt in
              sealed.names.differ i j x.from y.from x.there y.there
              (sym (text_by (bytes_eq x.from.text asked.text) x.from refl) ∙ ap (λ (n : BoundName). n.text) x.gives ∙ same
              ∙ ap (λ (n : BoundName). n.text) (sym y.gives) ∙ text_by (bytes_eq y.from.text asked.text) y.from refl);
          within = λ d on.
              subst (λ (k : ℕ). k ≤ d.quotas.names)
              (sym (as_many_pass puts (λ (n : BoundName). n.binder.0 == d.number.0) m.names
              (λ n there. ap (λ (k : DomainId). k.0 == d.number.0) (binder_by (bytes_eq n.text asked.text) n there refl)))) (sealed.names.within d on);
        })

  -- ---- A new name.

  module _ (none : bound_as m.names asked.text ≡ None) (few : count_bound_by m.names asked.binder < binder.domain.quotas.names) where
    absent : Finds (λ (n : BoundName). bytes_eq n.text asked.text) m.names None
    absent = subst (Finds (λ (n : BoundName). bytes_eq n.text asked.text) m.names) none (finds (λ (n : BoundName). bytes_eq n.text asked.text) m.names)

    not_there : (k : ℕ) (n : BoundName) → slice_get m.names k ≡ Some n → n.text ≡ asked.text → ⊥
    not_there k n at same =
        let yes : bytes_eq n.text asked.text ≡ true = (bytes_eq-Decides n.text asked.text).1 same in
        let no_one : true ≡ false = sym yes ∙ absent k n at in
        absurd cc

    all_names : (P : BoundName → Type 0) → P asked → ((n : BoundName) → Contains m.names n → P n) → (n : BoundName)
        → Contains (m.names ++ asked ∷ []) n → P n
    all_names P new old n on = elim (Contains-append_cases m.names (asked ∷ []) n on) [
      | inl there ↦ old n there
      | inr last ↦ elim (Contains-cases n asked [] last) [
        | inl same ↦ subst P same new
        | inr never ↦ absurd (Contains-none n never)
      ]
    ]

    differ : (i j : ℕ) (a b : BoundName) → slice_get (m.names ++ asked ∷ []) i ≡ Some a → slice_get (m.names ++ asked ∷ []) j ≡ Some b
        → a.text ≡ b.text → i ≡ j
    differ i j a b at bt same = by (slice_get-push_cases m.names asked a i at) (slice_get-push_cases m.names asked b j bt)
      where
        by : ((i < length m.names) × (slice_get m.names i ≡ Some a)) ⊎ ((i ≡ length m.names) × (asked ≡ a))
            → ((j < length m.names) × (slice_get m.names j ≡ Some b)) ⊎ ((j ≡ length m.names) × (asked ≡ b)) → i ≡ j
        by (inl x) (inl y) = sealed.names.differ i j a b x.1 y.1 same
        by (inl x) (inr y) = absurd (not_there i a x.1 (same ∙ ap (λ (n : BoundName). n.text) (sym y.1)))
        by (inr x) (inl y) = absurd (not_there j b y.1 (sym same ∙ ap (λ (n : BoundName). n.text) (sym x.1)))
        by (inr x) (inr y) = x.0 ∙ sym y.0

    within : (d : DomainState) → Contains m.domains d → count_bound_by (m.names ++ asked ∷ []) d.number ≤ d.quotas.names
    within d on = by (asked.binder.0 == d.number.0) refl
      where
        by : (b : Bool) → (asked.binder.0 == d.number.0) ≡ b → count_bound_by (m.names ++ asked ∷ []) d.number ≤ d.quotas.names
        by true same =
            let at = place_of m.domains d on in
            let number = eqb-true asked.binder.0 d.number.0 same in
            let one : d ≡ binder.domain =
            same_Some d binder.domain
            (sym at.1 ∙ ap (slice_get m.domains) (sym (sealed.domains.numbered at.0 d at.1) ∙ sym number) ∙ binder.is_domain) in
            let count = counted_by (λ (n : BoundName). n.binder.0 == d.number.0) m.names asked in
            let last : ◌≡◌ {A = ℕ} (cond (asked.binder.0 == d.number.0) 1 0) 1 = ap (λ (b : Bool). cond b 1 0) same in
            let room : count_bound_by m.names asked.binder < d.quotas.names =
            subst (λ (x : DomainState). count_bound_by m.names asked.binder < x.quotas.names) (sym one) few in
            let bound : count_bound_by m.names asked.binder ≡ count_bound_by m.names d.number =
            ap (λ (k : ℕ). length (filter (λ (n : BoundName). n.binder.0 == k) m.names)) number in
            omega (arith, count, last, room, bound)
        by false other =
            let count = counted_by (λ (n : BoundName). n.binder.0 == d.number.0) m.names asked in
            let last : ◌≡◌ {A = ℕ} (cond (asked.binder.0 == d.number.0) 1 0) 0 = ap (λ (b : Bool). cond b 1 0) other in
            let before = sealed.names.within d on in
            omega (arith, count, last, before)

    pub new_name_sealed : IsSealed (named m sealed (m.names ++ asked ∷ []))
    new_name_sealed =
        named_sealed m sealed (m.names ++ asked ∷ [])
        (record {
          given_out = all_names (λ n. IsGivenOut (caps_of m) n.cap) given sealed.names.given_out;
          binders = λ n on. lives_named m sealed (m.names ++ asked ∷ []) n.binder (all_names (λ x. LiveDomain m x.binder) binder sealed.names.binders n on);
          short = all_names (λ n. length n.text ≤ longest_name) short sealed.names.short;
          differ = differ;
          within = within;
        })

-- ---- A name is removed.

module _ (m : Machine) (sealed : IsSealed m) (text : List ℕ) where
  abbrev stays : BoundName → Bool
  stays n = not (bytes_eq n.text text)

  was_there : (n : BoundName) → Contains (without_name text m.names) n → Contains m.names n
  was_there n on = filtered_from stays m.names n on

  apart : (i j : ℕ) (a b : BoundName) → i < j → slice_get (without_name text m.names) i ≡ Some a → slice_get (without_name text m.names) j ≡ Some b
      → a.text ≡ b.text → ⊥
  apart i j a b less at there same =
      let o = stand_in_order stays m.names i j a b less at there in
      let both = sealed.names.differ o.first o.second a b o.at o.there same in
      let first_less = o.less in
      omega (arith, first_less, both)

  at_most : (a b c : ℕ) → a ≤ b → b ≤ c → a ≤ c
  at_most a b c less more = omega arith

  pub removed_sealed : IsSealed (named m sealed (without_name text m.names))
  removed_sealed =
      named_sealed m sealed (without_name text m.names)
      (record {
        given_out = λ n on. sealed.names.given_out n (was_there n on);
        binders = λ n on. lives_named m sealed (without_name text m.names) n.binder (sealed.names.binders n (was_there n on));
        short = λ n on. sealed.names.short n (was_there n on);
        differ = λ i j a b at there same. elim (cases_eq i j) [
          | inl one ↦ one
          | inr differ ↦ elim (cases_lt i j) [
            | inl less ↦ absurd (apart i j a b less at there same)
            | inr more ↦ absurd (apart j i b a (omega (arith, more, differ)) there at (sym same))
          ]
        ];
        within = λ d on.
            at_most _ _ _ (fewer_pass stays (λ (n : BoundName). n.binder.0 == d.number.0) m.names) (sealed.names.within d on);
      })
