-- What domains share stays sound where a name is bound or removed.
use Rattle.std.proofs.Common.{◌≡◌, ◌≢◌, ℕ, suc, ◌<◌, ◌≤◌, ◌⊎◌, inl, inr, Bool, true, false, List, [], ◌∷◌, ◌++◌, length, filter, map, Option, Some, None, Contains, slice_get, refl, sym, ap, subst, ◌∙◌, arith, Result}
use Rattle.std.specs.Prelude.{◌==◌, bytes_eq, if◌then◌else◌, not}
use Rattle.std.proofs.lemmas.Bool.{cases_Bool, eqb-true}
use Rattle.std.proofs.lemmas.Option.{same_Some}
use Rattle.std.specs.Cmp.Lexicographic.{other_text, same_text}
use Rattle.jk_model.specs.declared.identifiers.DomainId.{DomainId}
use Rattle.jk_model.specs.declared.steps.Raise.{Raise}
use Rattle.jk_model_heaps.specs.Capabilities.{IsGivenOut}
use Rattle.jk_model_sharing.specs.BoundNames.{Binds, BoundName, Unbinds, bound_as, count_bound_by, longest_name, new_name, not_bound, not_own, of_another, one_too_many, own_name, removed, too_long, with_name}
use Rattle.jk_model_sharing.specs.SharedStates.{SharedDomain, SharedState, caps_of, domain_numbered}
use Rattle.list_lemmas.proofs.FoundItems.{Finds, finds}
use Rattle.list_lemmas.proofs.ItemsByPlace.{comes_from, slice_get-push_cases}
use Rattle.list_lemmas.proofs.ItemsOfLists.{Contains-at, Contains-here, Contains-there, place_of}
use Rattle.thread_segments.specs.Answers.{BindsFor, UnbindsFor}
use Rattle.thread_segments.specs.Asked.{IsLiveDomain}
use Rattle.thread_segments.specs.SoundStates.{AreSound, AreSoundNames}
use Rattle.thread_segments.proofs.OneMore.{last_more, new_or_old, one_passes}
use Rattle.thread_segments.proofs.Remaining.{filtered_remain, no_more_pass, remained, still_differ}
use Rattle.thread_segments.proofs.SoundDomains.{was_mapped}
use Rattle.thread_segments.proofs.SoundGrowth.{of_domain}
use Rattle.thread_stacks.proofs.Filtered.{one_if}

-- ---- Texts.

pub text_same : (a b : List ℕ) → bytes_eq a b ≡ true → a ≡ b
text_same a b h = same_text a b (sym h)

pub text_told : (a b : List ℕ) → a ≡ b → bytes_eq a b ≡ true
text_told a b e = elim (cases_Bool (bytes_eq a b)) [ inl hit ↦ hit | inr miss ↦ absurd (other_text a b (sym miss) e) ]

-- ---- All but the names is as before.

names_changed : (s : SharedState) (names : List BoundName) → AreSound s → AreSoundNames (record s { names = names }) → AreSound (record s { names = names })
names_changed s names h sound = record {
  numbered = h.numbered;
  budgets = h.budgets;
  next_thread = h.next_thread;
  next_segment = h.next_segment;
  ranges = record {
    owner = h.ranges.owner;
    count = h.ranges.count;
    chained = h.ranges.chained;
    made = h.ranges.made;
    few = h.ranges.few;
    dead = h.ranges.dead;
    have_stubs = h.ranges.have_stubs;
  };
  names = sound;
  threads = record {
    rise = h.threads.rise;
    before = h.threads.before;
    have_segments = h.threads.have_segments;
    started = h.threads.started;
    few = h.threads.few;
  };
  segments = record { before = h.segments.before; homes = h.segments.homes; differ = h.segments.differ; few = h.segments.few };
}

-- ---- The name of a text.

pub found_name : (names : List BoundName) (text : List ℕ) (n : BoundName) → bound_as names text ≡ Some n → Contains names n × (n.text ≡ text)
found_name names text n is =
    let P : Option BoundName → Type 0 = λ o. Finds (λ (m : BoundName). bytes_eq m.text text) names o in
    let f = subst P is (finds (λ (m : BoundName). bytes_eq m.text text) names) in
    (Contains-at names f.0 n f.1, text_same n.text text f.2)

pub no_name : (names : List BoundName) (text : List ℕ) → bound_as names text ≡ None → (n : BoundName) → Contains names n → n.text ≢ text
no_name names text none n there same =
    let P : Option BoundName → Type 0 = λ o. Finds (λ (m : BoundName). bytes_eq m.text text) names o in
    let f = subst P none (finds (λ (m : BoundName). bytes_eq m.text text) names) in
    let at = place_of names n there in
    let never : true ≡ false = sym (text_told n.text text same) ∙ f at.0 n at.1 in cc

module _ (s : SharedState) (h : AreSound s) where
  -- a text is bound once
  pub one_name : (m n : BoundName) → Contains s.names m → Contains s.names n → m.text ≡ n.text → m ≡ n
  one_name m n there_m there_n same =
      let i = place_of s.names m there_m in
      let j = place_of s.names n there_n in
      let place = h.names.differ i.0 j.0 m n i.1 j.1 same in
      same_Some m n (sym i.1 ∙ ap (slice_get s.names) place ∙ j.1)

  -- ---- A name is bound anew.

  module _ (asked bound : BoundName) (short : length asked.text ≤ longest_name) (live : IsLiveDomain s asked.binder)
      (given : IsGivenOut (caps_of s) asked.cap) (is : bound_as s.names asked.text ≡ Some bound) (its : bound.binder ≡ asked.binder) where
    abbrev anew : BoundName → BoundName
    anew n = if bytes_eq n.text asked.text then asked else n

    anew_text : (n : BoundName) → (anew n).text ≡ n.text
    anew_text n = elim (cases_Bool (bytes_eq n.text asked.text)) [
      | inl hit ↦ rw hit (sym (text_same n.text asked.text hit))
      | inr miss ↦ rw miss refl
    ]

    anew_binder : (n : BoundName) → Contains s.names n → (anew n).binder ≡ n.binder
    anew_binder n there = elim (cases_Bool (bytes_eq n.text asked.text)) [
      | inl hit ↦
          let found = found_name s.names asked.text bound is in
          let one = one_name bound n found.0 there (found.1 ∙ sym (text_same n.text asked.text hit)) in
          rw hit (sym its ∙ ap (λ (x : BoundName). x.binder) one)
      | inr miss ↦ rw miss refl
    ]

    -- what holds of each name and of the one that was asked for
    each_anew : (P : BoundName → Type 0) → ((n : BoundName) → Contains s.names n → P n) → P asked → (n : BoundName)
        → Contains (with_name asked s.names) n → P n
    each_anew P old new n there =
        let w = was_mapped anew s.names n there in
        elim (cases_Bool (bytes_eq w.0.text asked.text)) [
          | inl hit ↦ let here : asked ≡ n = rw hit at w.2 in subst P here new
          | inr miss ↦ let here : w.0 ≡ n = rw miss at w.2 in subst P here (old w.0 w.1)
        ]

    count_anew : (d : DomainId) (names : List BoundName) → ((n : BoundName) → Contains names n → (anew n).binder ≡ n.binder)
        → count_bound_by (map anew names) d ≡ count_bound_by names d
    count_anew d [] same = refl
    count_anew d (n ∷ names) same =
        let rest = count_anew d names (λ m there. same m (Contains-there m n names there)) in
        let binder : ((anew n).binder.0 == d.0) ≡ (n.binder.0 == d.0) = ap (λ (x : DomainId). x.0 == d.0) (same n (Contains-here n names)) in
        elim (cases_Bool (n.binder.0 == d.0)) [
          | inl hit ↦ let now : ((anew n).binder.0 == d.0) ≡ true = binder ∙ hit in rw (now, hit) (ap suc rest)
          | inr miss ↦ let now : ((anew n).binder.0 == d.0) ≡ false = binder ∙ miss in rw (now, miss) rest
        ]

    sound_anew : AreSound (record s { names = with_name asked s.names })
    sound_anew =
        names_changed s (with_name asked s.names) h
        (record {
          short = each_anew (λ n. length n.text ≤ longest_name) h.names.short short;
          given_out = each_anew (λ n. IsGivenOut (caps_of s) n.cap) h.names.given_out given;
          binders = each_anew (λ n. IsLiveDomain s n.binder) h.names.binders live;
          differ =
              λ i j m n p q same.
              let a = comes_from anew s.names i m p in
              let b = comes_from anew s.names j n q in
              let text_a : m.text ≡ a.from.text = ap (λ (x : BoundName). x.text) (sym a.gives) ∙ anew_text a.from in
              let text_b : n.text ≡ b.from.text = ap (λ (x : BoundName). x.text) (sym b.gives) ∙ anew_text b.from in
              h.names.differ i j a.from b.from a.there b.there (sym text_a ∙ same ∙ text_b);
          few = λ e there. let was = h.names.few e there in omega (arith, was, count_anew e.number s.names anew_binder);
        })

  -- ---- A new name.

  module _ (asked : BoundName) (e : SharedDomain) (short : length asked.text ≤ longest_name) (live : IsLiveDomain s asked.binder)
      (given : IsGivenOut (caps_of s) asked.cap) (none : bound_as s.names asked.text ≡ None) (is : domain_numbered s asked.binder ≡ Some e)
      (few : count_bound_by s.names asked.binder < e.quotas.names) where
    each_name : (P : BoundName → Type 0) → ((n : BoundName) → Contains s.names n → P n) → P asked → (n : BoundName)
        → Contains (s.names ++ asked ∷ []) n → P n
    each_name P old new n there =
        elim (new_or_old asked s.names (s.names ++ asked ∷ []) n (last_more asked s.names) there) [
          | inl here ↦ subst P here new
          | inr among ↦ old n among
        ]

    differ_new : (i j : ℕ) (m n : BoundName) → slice_get (s.names ++ asked ∷ []) i ≡ Some m → slice_get (s.names ++ asked ∷ []) j ≡ Some n
        → m.text ≡ n.text → i ≡ j
    differ_new i j m n p q same = by_places (slice_get-push_cases s.names asked m i p) (slice_get-push_cases s.names asked n j q)
      where
        by_places : ((i < length s.names) × (slice_get s.names i ≡ Some m)) ⊎ ((i ≡ length s.names) × (asked ≡ m))
            → ((j < length s.names) × (slice_get s.names j ≡ Some n)) ⊎ ((j ≡ length s.names) × (asked ≡ n)) → i ≡ j
        by_places (inl a) (inl b) = h.names.differ i j m n a.1 b.1 same
        by_places (inl a) (inr b) =
            absurd (no_name s.names asked.text none m (Contains-at s.names i m a.1) (same ∙ ap (λ (x : BoundName). x.text) (sym b.1)))
        by_places (inr a) (inl b) =
            absurd (no_name s.names asked.text none n (Contains-at s.names j n b.1) (sym same ∙ ap (λ (x : BoundName). x.text) (sym a.1)))
        by_places (inr a) (inr b) = a.0 ∙ sym b.0

    few_new : (c : SharedDomain) → Contains s.domains c → count_bound_by (s.names ++ asked ∷ []) c.number ≤ c.quotas.names
    few_new c there =
        let was = h.names.few c there in
        let one = one_passes asked (λ (n : BoundName). n.binder.0 == c.number.0) s.names (s.names ++ asked ∷ []) (last_more asked s.names) in
        elim (cases_Bool (asked.binder.0 == c.number.0)) [
          | inl hit ↦
              let number : asked.binder.0 ≡ c.number.0 = eqb-true asked.binder.0 c.number.0 hit in
              let domain : c ≡ e = sym (of_domain s h.numbered asked.binder e c is there (sym number)) in
              let quota = ap (λ (x : SharedDomain). x.quotas.names) domain in
              let same : asked.binder ≡ c.number = ap (λ (k : ℕ). let b : DomainId = record { 0 = k } in b) number in
              let low = subst (λ (d : DomainId). count_bound_by s.names d < e.quotas.names) same few in
              let counts : one_if (asked.binder.0 == c.number.0) ≡ 1 = rw hit refl in
              omega (arith, one, low, quota, counts)
          | inr miss ↦
              let counts : one_if (asked.binder.0 == c.number.0) ≡ 0 = rw miss refl in
              omega (arith, one, was, counts)
        ]

    sound_name : AreSound (record s { names = s.names ++ asked ∷ [] })
    sound_name =
        names_changed s (s.names ++ asked ∷ []) h
        (record {
          short = each_name (λ n. length n.text ≤ longest_name) h.names.short short;
          given_out = each_name (λ n. IsGivenOut (caps_of s) n.cap) h.names.given_out given;
          binders = each_name (λ n. IsLiveDomain s n.binder) h.names.binders live;
          differ = differ_new;
          few = few_new;
        })

  -- ---- A name is removed.

  abbrev Same : BoundName → BoundName → Type 0
  Same m n = m ≡ n

  pub sound_without : (p : BoundName → Bool) → AreSound (record s { names = filter p s.names })
  sound_without p =
      let left = filtered_remain Same (λ n. refl) p s.names in
      let old : (n : BoundName) → Contains (filter p s.names) n → Contains s.names n =
      λ n there. let r = remained Same s.names (filter p s.names) n left there in subst (λ (m : BoundName). Contains s.names m) r.2 r.1 in
      names_changed s (filter p s.names) h
      (record {
        short = λ n there. h.names.short n (old n there);
        given_out = λ n there. h.names.given_out n (old n there);
        binders = λ n there. h.names.binders n (old n there);
        differ = still_differ (λ (n : BoundName). n.text) Same (λ m n same. ap (λ (x : BoundName). x.text) same) s.names (filter p s.names) left h.names.differ;
        few =
            λ e there.
            let was = h.names.few e there in
            let fewer =
            no_more_pass Same (λ (n : BoundName). n.binder.0 == e.number.0) (λ m n same. ap (λ (x : BoundName). x.binder.0 == e.number.0) same) s.names
            (filter p s.names) left in
            omega (arith, was, fewer);
      })

  sound_binding : (asked : BoundName) (e : SharedDomain) (answer : Result (Unit {0}) Raise) (names : List BoundName) → IsLiveDomain s asked.binder
      → IsGivenOut (caps_of s) asked.cap → domain_numbered s asked.binder ≡ Some e → Binds s.names e.quotas.names asked answer names
      → AreSound (record s { names = names })
  sound_binding asked e answer names live given is (too_long long) = h
  sound_binding asked e answer names live given is (of_another bound short found other) = h
  sound_binding asked e answer names live given is (own_name bound short found its) = sound_anew asked bound short live given found its
  sound_binding asked e answer names live given is (one_too_many short none many) = h
  sound_binding asked e answer names live given is (new_name short none few) = sound_name asked e short live given none is few

  pub sound_bound : (asked : BoundName) (answer : Result (Unit {0}) Raise) (new : SharedState) → IsLiveDomain s asked.binder
      → IsGivenOut (caps_of s) asked.cap → BindsFor s asked answer new → AreSound new
  sound_bound asked answer new live given b =
      let P : SharedState → Type 0 = λ x. AreSound x in
      subst P (sym b.becomes) (sound_binding asked b.domain answer b.names live given b.is_domain b.binds)

  sound_unbinding : (d : DomainId) (text : List ℕ) (answer : Result (Unit {0}) Raise) (names : List BoundName) → Unbinds s.names d text answer names
      → AreSound (record s { names = names })
  sound_unbinding d text answer names (not_own bound is other) = h
  sound_unbinding d text answer names (removed bound is its) = sound_without (λ (n : BoundName). not (bytes_eq n.text text))
  sound_unbinding d text answer names (not_bound none) = h

  pub sound_unbound : (d : DomainId) (text : List ℕ) (answer : Result (Unit {0}) Raise) (new : SharedState) → UnbindsFor s d text answer new → AreSound new
  sound_unbound d text answer new u =
      let P : SharedState → Type 0 = λ x. AreSound x in
      subst P (sym u.becomes) (sound_unbinding d text answer u.names u.unbinds)
