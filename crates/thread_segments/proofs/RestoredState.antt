-- What is made of the parts of a state, one kind after the other, is that state.
use Rattle.std.proofs.Common.{◌≡◌, ℕ, zero, suc, ◌+◌, ◌<◌, ◌≤◌, ◌^◌, inl, inr, List, [], ◌∷◌, length, map, sum_by, Contains, Some, slice_get, refl, sym, ap, subst, ◌∙◌, arith}
use Rattle.std.specs.List.{AllByRecursion}
use Rattle.std.proofs.lemmas.Bool.{cases_Bool}
use Rattle.std.proofs.lemmas.List.{length-map}
use Rattle.std.proofs.lemmas.Option.{same_Some, slice_get_within}
use Rattle.jk_model.specs.declared.identifiers.DomainId.{DomainId}
use Rattle.jk_model_classes.specs.declared.sharing.Stub.{Stub}
use Rattle.jk_model_heaps.specs.Capabilities.{CapRange}
use Rattle.jk_model_sharing.specs.BoundNames.{BoundName, count_bound_by, longest_name}
use Rattle.jk_model_sharing.specs.Segments.{SharedSegment, SharedThread, count_started_in}
use Rattle.jk_model_sharing.specs.SharedStates.{SharedDomain, SharedState, caps_of, domain_numbered, ranges_of}
use Rattle.list_lemmas.proofs.ItemsByPlace.{comes_from, item_there, mapped_at}
use Rattle.list_lemmas.proofs.ItemsOfLists.{Contains-at, each-from, place_of}
use Rattle.thread_segments.specs.declared.domains.DomainEntry.{DomainEntry}
use Rattle.thread_segments.specs.declared.parts.DomainPart.{DomainPart}
use Rattle.thread_segments.specs.declared.parts.NamePart.{NamePart}
use Rattle.thread_segments.specs.declared.parts.SharedParts.{SharedParts}
use Rattle.thread_segments.specs.DomainEntries.{AreCounted, AreNamed, HasSegmentRoom, IsKept, chunks_of, domains_with, spare, spare_names, state_of}
use Rattle.thread_segments.specs.NameEntries.{NameList}
use Rattle.thread_segments.specs.RestoredParts.{AreCountedUp, AreEntriesOf, AreThreadsOf, chunks_asked, count_at, entry_told, more_names, more_threads, name_home, name_told, names_asked, thread_home, threads_asked, with_name_room, with_names}
use Rattle.thread_segments.specs.RestoredStates.{IsToldBy}
use Rattle.thread_segments.specs.SoundStates.{AreSound}
use Rattle.thread_segments.specs.StateParts.{domain_part, name_part}
use Rattle.thread_segments.proofs.RestoredCounts.{count_mapped, sums_alike}
use Rattle.thread_segments.proofs.RestoredRanges.{owner_at}
use Rattle.thread_segments.proofs.SoundGrowth.{found_domain, place_is}
use Rattle.thread_stacks.specs.declared.parts.SegmentPart.{SegmentPart}
use Rattle.thread_stacks.specs.declared.parts.ThreadPart.{ThreadPart}
use Rattle.thread_stacks.specs.LiveStacks.{AreLiveParts}
use Rattle.thread_stacks.specs.StackParts.{segment_part, thread_part}
use Rattle.thread_stacks.specs.Stacks.{ThreadList}

-- ---- Parts tell all of what they are parts of.

abbrev segment_from : SegmentPart → SharedSegment
segment_from p = record {
  number = p.number;
  domain = p.domain;
  suspended = p.suspended;
  stop = p.stop;
  revoked = p.revoked;
  orphan = p.orphan;
}

abbrev thread_from : ThreadPart → SharedThread
thread_from p = record { number = p.number; domain = p.domain; segments = map segment_from p.segments }

segments_back : (segments : List SharedSegment) → map segment_from (map segment_part segments) ≡ segments
segments_back [] = refl
segments_back (s ∷ segments) = ap (λ (ss : List SharedSegment). s ∷ ss) (segments_back segments)

threads_back : (threads : List SharedThread) → map thread_from (map thread_part threads) ≡ threads
threads_back [] = refl
threads_back (t ∷ threads) =
    ap (λ (ss : List SharedSegment). (let u : SharedThread = record { number = t.number; domain = t.domain; segments = ss } in u)
    ∷ map thread_from (map thread_part threads)) (segments_back t.segments)
    ∙ ap (λ (ts : List SharedThread). t ∷ ts) (threads_back threads)

names_back : (names : List BoundName) → map name_told (map name_part names) ≡ names
names_back [] = refl
names_back (n ∷ names) = ap (λ (ns : List BoundName). n ∷ ns) (names_back names)

-- lists are one where each item of the one stands in the other
same_by_place : {X : Type 0} (xs ys : List X) → length xs ≡ length ys → ((i : ℕ) (y : X) → slice_get ys i ≡ Some y → slice_get xs i ≡ Some y) → xs ≡ ys
same_by_place [] [] long same = refl
same_by_place [] (y ∷ ys) long same = absurd (omega (arith, long))
same_by_place (x ∷ xs) [] long same = absurd (omega (arith, long))
same_by_place {X = X} (x ∷ xs) (y ∷ ys) long same =
    ap (λ (z : X). z ∷ xs) (same_Some x y (same zero y refl))
    ∙ ap (λ (zs : List X). y ∷ zs) (same_by_place xs ys (omega (arith, long)) (λ i z at. same (suc i) z at))

-- ---- Entries, with what is counted of them.

abbrev entry_with : SharedDomain → ℕ → ℕ → DomainEntry
entry_with e threads names = record { live = e.live; quotas = e.quotas; steps_left = e.steps_left; threads = threads; names = names }

abbrev entry_in : SharedState → SharedDomain → DomainEntry
entry_in s e = entry_with e (count_started_in s.threads e.number) (count_bound_by s.names e.number)

domains_again : (s : SharedState) (n : ℕ) (domains : List SharedDomain)
    → ((i : ℕ) (e : SharedDomain) → slice_get domains i ≡ Some e → e.number.0 ≡ n + i)
    → domains_with n (map (entry_in s) domains) (ranges_of domains) ≡ domains
domains_again s n [] numbered = refl
domains_again s n (e ∷ domains) numbered =
    let number : n ≡ e.number.0 = omega (arith, numbered 0 e refl) in
    ap (λ (k : ℕ). (let x : SharedDomain = record {
      number = record { 0 = k };
      live = e.live;
      quotas = e.quotas;
      steps_left = e.steps_left;
      caps = e.caps;
    } in x) ∷ domains_with (suc n) (map (entry_in s) domains) (ranges_of domains)) number
    ∙ ap (λ (es : List SharedDomain). e ∷ es)
    (domains_again s (suc n) domains (λ i x at. let later = numbered (suc i) x at in omega (arith, later)))

pub entries_counted : (parts : SharedParts) (first mid last : List DomainEntry) → first ≡ map entry_told parts.domains
    → AreCountedUp thread_home more_threads first mid parts.threads → AreCountedUp name_home more_names mid last parts.names
    → AreEntriesOf parts last
entries_counted parts first mid last is threads names = record {
  as_many =
      names.as_many ∙ threads.as_many ∙ ap (λ (es : List DomainEntry). length es) is ∙ length-map parts.domains entry_told;
  each =
      λ i p at.
      names.each i (more_threads (count_at thread_home parts.threads i) (entry_told p))
      (threads.each i (entry_told p)
      (ap (λ (es : List DomainEntry). slice_get es i) is ∙ mapped_at entry_told parts.domains i p at));
}

module _ (s : SharedState) (parts : SharedParts) (h : IsToldBy s parts) where
  abbrev sound : AreSound s
  sound = h.restorable.sound

  domains_long : length parts.domains ≡ length s.domains
  domains_long = ap (λ (ps : List DomainPart). length ps) h.lists.domains ∙ length-map s.domains domain_part

  -- a domain that is there has a place
  low_place : (d : DomainId) (e : SharedDomain) → domain_numbered s d ≡ Some e → d.0 < length parts.domains
  low_place d e is =
      let f = found_domain s d e is in
      let at = place_is s.domains sound.numbered e f.0 in
      omega (arith, slice_get_within s.domains e.number.0 e at, f.1, domains_long)

  domain_from : (i : ℕ) (p : DomainPart) → slice_get parts.domains i ≡ Some p
      → (e : SharedDomain) × (slice_get s.domains i ≡ Some e) × (domain_part e ≡ p)
  domain_from i p at =
      let f = comes_from domain_part s.domains i p (sym (ap (λ (ps : List DomainPart). slice_get ps i) h.lists.domains) ∙ at) in
      (f.from, f.there, f.gives)

  -- ---- Counts.

  started_at : (i : ℕ) → count_at thread_home parts.threads i ≡ count_started_in s.threads (record { 0 = i })
  started_at i = ap (λ (ts : List ThreadPart). count_at thread_home ts i) h.lists.threads ∙ count_mapped thread_home thread_part s.threads i

  bound_at : (i : ℕ) → count_at name_home parts.names i ≡ count_bound_by s.names (record { 0 = i })
  bound_at i = ap (λ (ns : List NamePart). count_at name_home ns i) h.lists.names ∙ count_mapped name_home name_part s.names i

  pub threads_home : (i : ℕ) (t : ThreadPart) → slice_get parts.threads i ≡ Some t → t.domain.0 < length parts.domains
  threads_home i t at =
      let f = comes_from thread_part s.threads i t (sym (ap (λ (ts : List ThreadPart). slice_get ts i) h.lists.threads) ∙ at) in
      let home = sound.threads.started f.from (Contains-at s.threads i f.from f.there) in
      let same : f.from.domain.0 ≡ t.domain.0 = ap (λ (x : ThreadPart). x.domain.0) f.gives in
      omega (arith, low_place f.from.domain home.0 home.1, same)

  pub names_home : (i : ℕ) (n : NamePart) → slice_get parts.names i ≡ Some n → n.binder.0 < length parts.domains
  names_home i n at =
      let f = comes_from name_part s.names i n (sym (ap (λ (ns : List NamePart). slice_get ns i) h.lists.names) ∙ at) in
      let home = sound.names.binders f.from (Contains-at s.names i f.from f.there) in
      let same : f.from.binder.0 ≡ n.binder.0 = ap (λ (x : NamePart). x.binder.0) f.gives in
      omega (arith, low_place f.from.binder home.0 home.1, same)

  pub names_short : (n : NamePart) → Contains parts.names n → length n.text ≤ longest_name
  names_short n there =
      let at = place_of parts.names n there in
      let f = comes_from name_part s.names at.0 n (sym (ap (λ (ns : List NamePart). slice_get ns at.0) h.lists.names) ∙ at.1) in
      let same : length f.from.text ≡ length n.text = ap (λ (x : NamePart). length x.text) f.gives in
      omega (arith, sound.names.short f.from (Contains-at s.names at.0 f.from f.there), same)

  pub few_threads : (es : List DomainEntry) → es ≡ map entry_told parts.domains → (i : ℕ) (e : DomainEntry) → slice_get es i ≡ Some e
      → e.threads + count_at thread_home parts.threads i < 2 ^ 32
  few_threads es is i e at =
      let f = comes_from entry_told parts.domains i e (sym (ap (λ (xs : List DomainEntry). slice_get xs i) is) ∙ at) in
      let d = domain_from i f.from f.there in
      let among = Contains-at s.domains i d.0 d.1 in
      let none : 0 ≡ e.threads = ap (λ (x : DomainEntry). x.threads) f.gives in
      let number : count_started_in s.threads d.0.number ≡ count_started_in s.threads (record { 0 = i }) =
      ap (λ (k : ℕ). count_started_in s.threads (record { 0 = k })) (sound.numbered i d.0 d.1) in
      omega (arith, none, started_at i, number, sound.threads.few d.0 among, h.restorable.threads d.0 among)

  pub few_names : (first es : List DomainEntry) → first ≡ map entry_told parts.domains
      → AreCountedUp thread_home more_threads first es parts.threads → (i : ℕ) (e : DomainEntry) → slice_get es i ≡ Some e
      → e.names + count_at name_home parts.names i < 2 ^ 32
  few_names first es is counted i e at =
      let low : i < length parts.domains =
      omega (
        arith,
        slice_get_within es i e at,
        counted.as_many,
        ap (λ (xs : List DomainEntry). length xs) is,
        length-map parts.domains entry_told,
      ) in
      let p = item_there parts.domains i low in
      let was = counted.each i (entry_told p.0) (ap (λ (xs : List DomainEntry). slice_get xs i) is ∙ mapped_at entry_told parts.domains i p.0 p.1) in
      let d = domain_from i p.0 p.1 in
      let among = Contains-at s.domains i d.0 d.1 in
      let none : 0 ≡ e.names =
      ap (λ (x : DomainEntry). x.names) (same_Some (more_threads (count_at thread_home parts.threads i) (entry_told p.0)) e (sym was ∙ at)) in
      let number : count_bound_by s.names d.0.number ≡ count_bound_by s.names (record { 0 = i }) =
      ap (λ (k : ℕ). count_bound_by s.names (record { 0 = k })) (sound.numbered i d.0 d.1) in
      omega (arith, none, bound_at i, number, sound.names.few d.0 among, h.restorable.names d.0 among)

  -- ---- Threads that may be put together.

  pub live_parts : (domains : ℕ) → domains ≡ length parts.domains → AreLiveParts parts.threads domains parts.next_thread parts.next_segment
  live_parts domains is = record {
    threads = s.threads;
    are_live = record {
      threads = λ i j x y p q low. sound.threads.rise i j x y low p q;
      threads_before = λ t there. let b = sound.threads.before t there in omega (arith, b.1, h.lists.next_thread);
      have_segments = sound.threads.have_segments;
      segments = h.restorable.rise;
      segments_before = λ e there. let b = sound.segments.before e there in omega (arith, b.1, h.lists.next_segment);
      differ = sound.segments.differ;
      owners = λ e there. let home = sound.segments.homes e there in omega (arith, low_place e.domain home.0 home.1, is);
    };
    told = h.lists.threads;
  }

  -- ---- The state.

  entries_are : (es : List DomainEntry) → AreEntriesOf parts es → es ≡ map (entry_in s) s.domains
  entries_are es e =
      same_by_place es (map (entry_in s) s.domains) (e.as_many ∙ domains_long ∙ sym (length-map s.domains (entry_in s))) (λ i x at. by_place i x at)
    where
      by_place : (i : ℕ) (x : DomainEntry) → slice_get (map (entry_in s) s.domains) i ≡ Some x → slice_get es i ≡ Some x
      by_place i x at =
          let f = comes_from (entry_in s) s.domains i x at in
          let d = f.from in
          let there : slice_get parts.domains i ≡ Some (domain_part d) =
          ap (λ (ps : List DomainPart). slice_get ps i) h.lists.domains ∙ mapped_at domain_part s.domains i d f.there in
          let threads : 0 + count_at thread_home parts.threads i ≡ count_started_in s.threads d.number =
          zero_and (count_at thread_home parts.threads i) ∙ started_at i
          ∙ ap (λ (k : ℕ). count_started_in s.threads (record { 0 = k })) (sym (sound.numbered i d f.there)) in
          let names : 0 + count_at name_home parts.names i ≡ count_bound_by s.names d.number =
          zero_and (count_at name_home parts.names i) ∙ bound_at i
          ∙ ap (λ (k : ℕ). count_bound_by s.names (record { 0 = k })) (sym (sound.numbered i d f.there)) in
          e.each i (domain_part d) there
          ∙ ap (λ (n : ℕ). Some (entry_with d n (0 + count_at name_home parts.names i))) threads
          ∙ ap (λ (n : ℕ). Some (entry_with d (count_started_in s.threads d.number) n)) names
          ∙ ap Some f.gives
        where
          zero_and : (n : ℕ) → 0 + n ≡ n
          zero_and n = omega arith

  threads_are : (t : ThreadList) → AreThreadsOf parts t → t.threads ≡ s.threads
  threads_are t a =
      sym (threads_back t.threads)
      ∙ ap (λ (ps : List ThreadPart). map thread_from ps) (sym a.threads ∙ h.lists.threads)
      ∙ threads_back s.threads

  abbrev names_again : NameList
  names_again = with_names parts.names (with_name_room parts.domains (record { names = []; most = 0 }))

  names_are : names_again.names ≡ s.names
  names_are = ap (λ (ns : List NamePart). map name_told ns) h.lists.names ∙ names_back s.names

  module _ (t : ThreadList) (a : AreThreadsOf parts t) where
    threads_long : length parts.threads ≡ length t.threads
    threads_long = ap (λ (ps : List ThreadPart). length ps) a.threads ∙ length-map t.threads thread_part

    abbrev state_with : List SharedDomain → List BoundName → List SharedThread → ℕ → ℕ → SharedState
    state_with domains names threads next_thread next_segment = record {
      domains = domains;
      names = names;
      threads = threads;
      next_thread = next_thread;
      next_segment = next_segment;
      stubs = s.stubs;
    }

    state_again : state_of (map (entry_in s) s.domains) (caps_of s) s.stubs names_again t ≡ s
    state_again =
        ap (λ (ds : List SharedDomain). state_with ds names_again.names t.threads t.next_thread t.next_segment)
        (domains_again s 0 s.domains (λ i e at. let place = sound.numbered i e at in omega (arith, place)))
        ∙ ap (λ (ns : List BoundName). state_with s.domains ns t.threads t.next_thread t.next_segment) names_are
        ∙ ap (λ (ts : List SharedThread). state_with s.domains s.names ts t.next_thread t.next_segment) (threads_are t a)
        ∙ ap (λ (n : ℕ). state_with s.domains s.names s.threads n t.next_segment) (a.next_thread ∙ h.lists.next_thread)
        ∙ ap (λ (n : ℕ). state_with s.domains s.names s.threads s.next_thread n) (a.next_segment ∙ h.lists.next_segment)

    started_in : (i : ℕ) → count_started_in s.threads (record { 0 = i }) ≡ count_started_in t.threads (record { 0 = i })
    started_in i = ap (λ (ts : List SharedThread). count_started_in ts (record { 0 = i })) (sym (threads_are t a))

    counted_again : AreCounted (map (entry_in s) s.domains) (caps_of s) t
    counted_again = record {
      as_many = length-map s.domains (λ (e : SharedDomain). e.caps) ∙ sym (length-map s.domains (entry_in s));
      owners = owner_at s sound;
      started =
          λ i x at.
          let f = comes_from (entry_in s) s.domains i x at in
          ap (λ (y : DomainEntry). y.threads) (sym f.gives)
          ∙ ap (λ (k : ℕ). count_started_in s.threads (record { 0 = k })) (sound.numbered i f.from f.there)
          ∙ started_in i;
      within =
          λ i x at.
          let f = comes_from (entry_in s) s.domains i x at in
          subst (λ (y : DomainEntry). y.threads ≤ y.quotas.threads) f.gives
          (sound.threads.few f.from (Contains-at s.domains i f.from f.there));
      small =
          λ i x at.
          let f = comes_from (entry_in s) s.domains i x at in
          subst (λ (y : DomainEntry). y.quotas.threads ≤ 4096) f.gives
          (h.restorable.threads f.from (Contains-at s.domains i f.from f.there));
      homes =
          subst (λ (ts : List SharedThread). AllByRecursion (λ (u : SharedThread). u.domain.0 < length (map (entry_in s) s.domains)) ts)
          (sym (threads_are t a))
          (each-from (λ (u : SharedThread). u.domain.0 < length (map (entry_in s) s.domains)) s.threads
          (λ u there.
          let home = sound.threads.started u there in
          omega (arith, low_place u.domain home.0 home.1, domains_long, length-map s.domains (entry_in s))));
      room =
          omega (
            arith,
            sums_alike spare threads_asked (entry_in s) domain_part (λ e. spare_asked e) s.domains,
            a.most,
            ap (λ (ps : List DomainPart). sum_by threads_asked ps) h.lists.domains,
            threads_long,
          );
    }
      where
        spare_asked : (e : SharedDomain) → spare (entry_in s e) ≤ threads_asked (domain_part e)
        spare_asked e = elim (cases_Bool e.live) [ inl lives ↦ rw lives (omega arith) | inr ended ↦ rw ended (omega arith) ]

    room_again : HasSegmentRoom (map (entry_in s) s.domains) t
    room_again = record {
      room =
          omega (
            arith,
            sums_alike chunks_of chunks_asked (entry_in s) domain_part (λ e. chunks_few e) s.domains,
            a.most_segments,
            ap (λ (ps : List DomainPart). sum_by chunks_asked ps) h.lists.domains,
          );
      homes = omega (arith, a.domains, domains_long, length-map s.domains (entry_in s));
      few = omega (arith, h.restorable.few, length-map s.domains (entry_in s));
    }
      where
        chunks_few : (e : SharedDomain) → chunks_of (entry_in s e) ≤ chunks_asked (domain_part e)
        chunks_few e = elim (cases_Bool e.live) [ inl lives ↦ rw lives (omega arith) | inr ended ↦ rw ended (omega arith) ]

    named_again : AreNamed (map (entry_in s) s.domains) names_again
    named_again = record {
      bound =
          λ i x at.
          let f = comes_from (entry_in s) s.domains i x at in
          ap (λ (y : DomainEntry). y.names) (sym f.gives)
          ∙ ap (λ (k : ℕ). count_bound_by s.names (record { 0 = k })) (sound.numbered i f.from f.there)
          ∙ ap (λ (ns : List BoundName). count_bound_by ns (record { 0 = i })) (sym names_are);
      within =
          λ i x at.
          let f = comes_from (entry_in s) s.domains i x at in
          subst (λ (y : DomainEntry). y.names ≤ y.quotas.names) f.gives
          (sound.names.few f.from (Contains-at s.domains i f.from f.there));
      small =
          λ i x at.
          let f = comes_from (entry_in s) s.domains i x at in
          subst (λ (y : DomainEntry). y.quotas.names ≤ 4096) f.gives
          (h.restorable.names f.from (Contains-at s.domains i f.from f.there));
      room =
          omega (
            arith,
            sums_alike spare_names names_asked (entry_in s) domain_part (λ e. spare_few e) s.domains,
            ap (λ (ps : List DomainPart). sum_by names_asked ps) h.lists.domains,
            length-map parts.names name_told,
          );
    }
      where
        spare_few : (e : SharedDomain) → spare_names (entry_in s e) ≤ names_asked (domain_part e)
        spare_few e = elim (cases_Bool e.live) [ inl lives ↦ rw lives (omega arith) | inr ended ↦ rw ended (omega arith) ]

  module _ (es : List DomainEntry) (e : AreEntriesOf parts es) (rs : List CapRange) (is : rs ≡ caps_of s) (stubs : List Stub) (known : stubs ≡ s.stubs)
      (n : NameList) (named : n ≡ names_again) (t : ThreadList) (a : AreThreadsOf parts t) where
    pub state_is : state_of es rs stubs n t ≡ s
    state_is =
        ap (λ (xs : List DomainEntry). state_of xs rs stubs n t) (entries_are es e)
        ∙ ap (λ (xs : List CapRange). state_of (map (entry_in s) s.domains) xs stubs n t) is
        ∙ ap (λ (xs : List Stub). state_of (map (entry_in s) s.domains) (caps_of s) xs n t) known
        ∙ ap (λ (x : NameList). state_of (map (entry_in s) s.domains) (caps_of s) s.stubs x t) named
        ∙ state_again t a

    pub kept_again : IsKept es rs stubs n t
    kept_again = record {
      counted =
          subst (λ (xs : List DomainEntry). AreCounted xs rs t) (sym (entries_are es e))
          (subst (λ (xs : List CapRange). AreCounted (map (entry_in s) s.domains) xs t) (sym is) (counted_again t a));
      named =
          subst (λ (xs : List DomainEntry). AreNamed xs n) (sym (entries_are es e))
          (subst (λ (x : NameList). AreNamed (map (entry_in s) s.domains) x) (sym named) (named_again t a));
      segments = subst (λ (xs : List DomainEntry). HasSegmentRoom xs t) (sym (entries_are es e)) (room_again t a);
      sound = subst (λ (x : SharedState). AreSound x) (sym state_is) sound;
    }
