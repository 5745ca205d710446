-- A domain ends: its room is left, and all that is kept of the domains stays right.
use Rattle.std.proofs.Common.{◌≡◌, ◌+◌, ◌-◌, ◌≤◌, true, false, List, length, map, sum_by, Some, slice_get, refl, sym, ap, subst, ◌∙◌, arith}
use Rattle.std.proofs.lemmas.Option.{same_Some}
use Rattle.jk_model.specs.declared.identifiers.DomainId.{DomainId}
use Rattle.jk_model_classes.specs.declared.sharing.Stub.{Stub}
use Rattle.jk_model_heaps.specs.Capabilities.{CapRange}
use Rattle.jk_model_sharing.specs.BoundNames.{without_names_of}
use Rattle.jk_model_sharing.specs.SharedStates.{Drops}
use Rattle.thread_segments.specs.declared.domains.DomainEntry.{DomainEntry}
use Rattle.thread_segments.specs.declared.domains.RoomLeft.{RoomLeft}
use Rattle.thread_segments.specs.Asked.{IsLiveDomain}
use Rattle.thread_segments.specs.ClassedRanges.{all_revoked_in}
use Rattle.thread_segments.specs.DomainEntries.{AreCounted, AreNamed, HasSegmentRoom, IsKept, chunks_of, spare, state_of}
use Rattle.thread_segments.specs.DomainsEnding.{AreRecounted, EndsEntry, after_end, with_most}
use Rattle.thread_segments.specs.NameEntries.{NameList}
use Rattle.thread_segments.specs.SoundStates.{AreSound}
use Rattle.thread_segments.proofs.CountsAreKept.{counts_ranges, part_le, part_set, recounted, recounts_finished, spare_live}
use Rattle.thread_segments.proofs.DomainsEnded.{all_revoked-owner, dropped_is, named_alike, named_ended, names_to_leave, room_alike, was_there}
use Rattle.thread_segments.proofs.SegmentRoom.{chunks_live, room_ended, segments_few}
use Rattle.thread_segments.proofs.SoundEnding.{sound_dropped}
use Rattle.thread_segments.proofs.StatesByPart.{live_at, lives_of}
use Rattle.thread_stacks.specs.StackAnswers.{segments_in}
use Rattle.thread_stacks.specs.Stacks.{ThreadList}

module _ (es now : List DomainEntry) (rs : List CapRange) (stubs : List Stub) (ns : NameList) (t taken : ThreadList) (h : IsKept es rs stubs ns t)
    (d : DomainId) (live : IsLiveDomain (state_of es rs stubs ns t) d) (left : taken ≡ with_most taken.most (after_end d t))
    (r : AreRecounted es now t taken) where
  -- the entry is still there, and live
  pub lives : (e : DomainEntry) → slice_get now d.0 ≡ Some e → e.live ≡ true
  lives e at =
      let a = live_at es rs stubs ns t h.counted d live in
      let w = was_there es now r.alike d.0 e at in
      let same : w.entry ≡ a.entry = same_Some w.entry a.entry (sym w.there ∙ a.there) in
      ap (λ (x : DomainEntry). x.live) (sym w.same) ∙ ap (λ (x : DomainEntry). x.live) same ∙ lives_of es rs stubs ns t h.counted d a live

  counted : AreCounted now rs taken
  counted = r.counts rs h.counted

  pub few_started : (e : DomainEntry) → slice_get now d.0 ≡ Some e → e.threads ≤ e.quotas.threads
  few_started e at = counted.within d.0 e at

  module _ (after : List DomainEntry) (room : RoomLeft) (ends : EndsEntry now after d room) where
    e_lives : ends.entry.live ≡ true
    e_lives = lives ends.entry ends.there

    part : spare ends.entry ≡ room.threads
    part = spare_live ends.entry e_lives ∙ sym ends.threads

    all : chunks_of ends.entry ≡ room.segments
    all = chunks_live ends.entry e_lives ∙ sym ends.segments

    named : AreNamed now ns
    named = named_alike es now r.alike ns h.named

    segments : HasSegmentRoom now taken
    segments =
        room_alike es now r.alike t taken h.segments (ap (λ (x : ThreadList). x.most_segments) left) (ap (λ (x : ThreadList). x.domains) left)

    -- ---- Room that is left.

    pub thread_room : length taken.threads + room.threads ≤ taken.most
    thread_room = omega (arith, counted.room, part_le spare now d.0 ends.entry ends.there, part)

    pub name_room : (names : NameList) → names ≡ record ns { names = without_names_of d ns.names } → length names.names + room.names ≤ names.most
    name_room names is =
        omega (
          arith,
          names_to_leave now ns d ends.entry named ends.there e_lives,
          ends.names,
          ap (λ (x : NameList). length x.names) is,
          ap (λ (x : NameList). x.most) is,
        )

    -- ---- What is kept then.

    counted_after : (last : ThreadList) → last.threads ≡ taken.threads → taken.most ≤ last.most + spare ends.entry
        → AreCounted after (map (all_revoked_in d) rs) last
    counted_after last threads most =
        counts_ranges (all_revoked_in d) (all_revoked-owner d) after rs last
        (subst (λ (xs : List DomainEntry). AreCounted xs rs last) (sym ends.becomes)
        (recounted now rs taken last d.0 ends.entry (record ends.entry { live = false; names = 0 }) counted
        (recounts_finished now rs taken last d.0 ends.entry counted ends.there threads most)))

    module _ (last : ThreadList) (names : NameList)
        (same : (last.threads ≡ taken.threads) × (last.next_thread ≡ taken.next_thread) × (last.next_segment ≡ taken.next_segment))
        (bound : names.names ≡ without_names_of d ns.names) where
      pub drops : Drops (state_of es rs stubs ns t) d (state_of after (map (all_revoked_in d) rs) stubs names last)
      drops =
          subst (λ (xs : List DomainEntry). Drops (state_of es rs stubs ns t) d (state_of xs (map (all_revoked_in d) rs) stubs names last))
          (sym ends.becomes)
          (dropped_is es now rs stubs ns names t last h.counted d ends.entry r.alike ends.there (
            same.0 ∙ ap (λ (x : ThreadList). x.threads) left,
            same.1 ∙ ap (λ (x : ThreadList). x.next_thread) left,
            same.2 ∙ ap (λ (x : ThreadList). x.next_segment) left,
          ) bound)

      sound : AreSound (state_of after (map (all_revoked_in d) rs) stubs names last)
      sound = sound_dropped (state_of es rs stubs ns t) (state_of after (map (all_revoked_in d) rs) stubs names last) d drops h.sound

    -- what is left of the segments is of other domains
    pub segment_room : length (segments_in taken.threads) + room.segments ≤ taken.most_segments
    segment_room =
        let bare : NameList = record ns { names = without_names_of d ns.names } in
        let few =
        segments_few after (map (all_revoked_in d) rs) stubs bare taken (counted_after taken refl (omega arith)) (sound taken bare (refl, refl, refl) refl) in
        let fewer : sum_by chunks_of after + chunks_of ends.entry ≡ sum_by chunks_of now + 0 =
        ap (λ (xs : List DomainEntry). sum_by chunks_of xs + chunks_of ends.entry) ends.becomes
        ∙ part_set chunks_of now d.0 ends.entry (record ends.entry { live = false; names = 0 }) ends.there in
        omega (arith, few, fewer, all, segments.room)

    pub kept : (last : ThreadList) (names : NameList)
        → last ≡ record taken { most = taken.most - room.threads; most_segments = taken.most_segments - room.segments }
        → names ≡ record ns { names = without_names_of d ns.names; most = ns.most - room.names }
        → IsKept after (map (all_revoked_in d) rs) stubs names last
    kept last names is named_so = record {
      counted =
          counted_after last (ap (λ (x : ThreadList). x.threads) is) (omega (arith, ap (λ (x : ThreadList). x.most) is, part, thread_room));
      named =
          subst (λ (xs : List DomainEntry). AreNamed xs names) (sym ends.becomes)
          (named_ended now ns names d ends.entry named ends.there e_lives (ap (λ (x : NameList). x.names) named_so)
          (omega (arith, ap (λ (x : NameList). x.most) named_so, ends.names)));
      segments =
          subst (λ (xs : List DomainEntry). HasSegmentRoom xs last) (sym ends.becomes)
          (room_ended now taken last d.0 ends.entry segments ends.there
          (omega (arith, ap (λ (x : ThreadList). x.most_segments) is, all, segment_room)) (ap (λ (x : ThreadList). x.domains) is));
      sound =
          sound last names (
            ap (λ (x : ThreadList). x.threads) is,
            ap (λ (x : ThreadList). x.next_thread) is,
            ap (λ (x : ThreadList). x.next_segment) is,
          ) (ap (λ (x : NameList). x.names) named_so);
    }
