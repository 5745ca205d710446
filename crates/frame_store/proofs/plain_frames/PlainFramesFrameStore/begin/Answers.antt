-- The segment begins in its domain and in the table, and the cursor is at its frame.
use Rattle.std.proofs.Common.{refl, sym, subst, arith}
use Rattle.list_lemmas.proofs.FoundItems.{on_err}
use Rattle.indexmap.specs.IndexMap.{with_value_at}
use Rattle.number_table.specs.declared.entry_table.Place.{Place}
use Rattle.number_table.specs.NumberPlaces.{Inserts, place_of}
use Rattle.frame_store.specs.declared.cursor.Cursor.{Cursor}
use Rattle.frame_store.specs.Cursors.{IsCursor, at_slot}
use Rattle.frame_store.specs.StoreContents.{IsFound}
use Rattle.frame_store.proofs.CursorIsKept.{aimed_cursor}
use Rattle.frame_store.proofs.CursorPoints.{right_nowhere, set_here}
use Rattle.frame_store.proofs.SegmentBegins.{here, live_lt, no_place, same_content, same_store, some_owed, begun_store, begun_changes}
use Rattle.frame_store.proofs.WrittenAt.{read_pair, within_map, written_at}
use Rattle.frame_store.proofs.plain_frames.PlainFramesFrameStore.begin.Goals as goal

pub pair_mut-x-requires : goal.pair_mut-x-requires
pair_mut-x-requires c = within_map c.args.self.now.domains c.args.d.0 c.index_of-domain.result c.index_of-domain.ensures

pub invariant_of-self : goal.invariant_of-self
invariant_of-self c =
    let st = c.args.self.now in
    let m = st.domains in
    let at = c.index_of-domain.result in
    let stands = c.index_of-domain.ensures in
    let x = c.pair_mut-x.result.1.now in
    let is = read_pair m c.args.d.0 at stands _ x c.pair_mut-x.ensures.value in
    let y = c.begin.new.self in
    let wrote = written_at m c.args.d.0 at stands y c.pair_mut-x.ensures.unique in
    let n = with_value_at m at y in
    let from : Cursor = record st.cursor { segment = c.args.s.0; place = record st.cursor.place { domain = c.args.d.0 }; domain = at } in
    let P : Cursor → Type 0 = λ (b : Cursor). IsCursor n st.places b in
    record {
      ok = same_store _ _ c.args.d.0 x y is wrote c.in_err-begin.ensures.err st.places st.owed st.ok;
      at =
          subst P (sym c.in_err-begin.ensures.cursor)
          (right_nowhere n st.places c.args.s.0 from (no_place m st.places st.owed st.ok c.args.s.0 (place_of st.places c.args.s.0) refl c.requires.new));
    }

pub returns-in_err-begin-clause-err : goal.returns-in_err-begin-clause-err
returns-in_err-begin-clause-err c =
    let st = c.args.self.now in
    let m = st.domains in
    let at = c.index_of-domain.result in
    let stands = c.index_of-domain.ensures in
    let x = c.pair_mut-x.result.1.now in
    let is = read_pair m c.args.d.0 at stands _ x c.pair_mut-x.ensures.value in
    let y = c.begin.new.self in
    let wrote = written_at m c.args.d.0 at stands y c.pair_mut-x.ensures.unique in
    on_err _ _ (same_content _ _ c.args.d.0 x y is wrote c.in_err-begin.ensures.err st.places)

pub insert-requires-clause-new : goal.insert-requires-clause-new
insert-requires-clause-new c =
    let st = c.args.self.now in
    no_place st.domains st.places st.owed st.ok c.args.s.0 (place_of st.places c.args.s.0) refl c.requires.new

pub insert-requires-clause-room : goal.insert-requires-clause-room
insert-requires-clause-room c =
    let st = c.args.self.now in
    let m = st.domains in
    let at = c.index_of-domain.result in
    let stands = c.index_of-domain.ensures in
    let x = c.pair_mut-x.result.1.now in
    let is = read_pair m c.args.d.0 at stands _ x c.pair_mut-x.ensures.value in
    let y = c.begin.new.self in
    let wrote = written_at m c.args.d.0 at stands y c.pair_mut-x.ensures.unique in
    let begins = c.in_ok-begin.ensures.ok in
    omega (
      arith,
      some_owed _ _ c.args.d.0 x y is wrote st.owed st.ok.owes begins.same_chunks begins.takes.live (live_lt x _ c.in_ok-begin.ensures.room),
      st.ok.enough,
    )

pub overflow_sub-self : goal.overflow_sub-self
overflow_sub-self c =
    let st = c.args.self.now in
    let m = st.domains in
    let at = c.index_of-domain.result in
    let stands = c.index_of-domain.ensures in
    let x = c.pair_mut-x.result.1.now in
    let is = read_pair m c.args.d.0 at stands _ x c.pair_mut-x.ensures.value in
    let y = c.begin.new.self in
    let wrote = written_at m c.args.d.0 at stands y c.pair_mut-x.ensures.unique in
    let begins = c.in_ok-begin.ensures.ok in
    omega (
      arith,
      some_owed _ _ c.args.d.0 x y is wrote st.owed st.ok.owes begins.same_chunks begins.takes.live (live_lt x _ c.in_ok-begin.ensures.room),
    )

pub invariant_of-self-2 : goal.invariant_of-self-2
invariant_of-self-2 c =
    let st = c.args.self.now in
    let m = st.domains in
    let at = c.index_of-domain.result in
    let stands = c.index_of-domain.ensures in
    let x = c.pair_mut-x.result.1.now in
    let is = read_pair m c.args.d.0 at stands _ x c.pair_mut-x.ensures.value in
    let y = c.begin.new.self in
    let wrote = written_at m c.args.d.0 at stands y c.pair_mut-x.ensures.unique in
    let n = with_value_at m at y in
    let b = c.begin.new.c in
    let slot = b.place.slot in
    let begun = c.in_ok-begin.ensures in
    let from : Cursor = record st.cursor { segment = c.args.s.0; place = record st.cursor.place { domain = c.args.d.0 }; domain = at } in
    let In : Place → Type 0 = λ (p : Place). Inserts st.places c.insert.new.self c.args.s.0 p in
    let inserts = subst In begun.aims.place c.insert.ensures in
    let found : IsFound n c.insert.new.self c.args.s.0 y slot =
    record { domain = c.args.d.0; at = inserts.is_in; is = here _ _ c.args.d.0 x y is wrote } in
    record {
      ok =
          begun_store _ _ c.args.d.0 x y is wrote st.places c.insert.new.self st.owed c.args.s c.args.head slot st.ok begun.ok
          inserts (live_lt x _ begun.room);
      at =
          aimed_cursor n c.insert.new.self c.args.s.0 (at_slot from slot) b y slot found refl
          (set_here m.entries at c.args.d.0 stands.domain y stands.entry) begun.aims refl;
    }

pub returns-clause-ok : goal.returns-clause-ok
returns-clause-ok c =
    let st = c.args.self.now in
    let m = st.domains in
    let at = c.index_of-domain.result in
    let stands = c.index_of-domain.ensures in
    let x = c.pair_mut-x.result.1.now in
    let is = read_pair m c.args.d.0 at stands _ x c.pair_mut-x.ensures.value in
    let y = c.begin.new.self in
    let wrote = written_at m c.args.d.0 at stands y c.pair_mut-x.ensures.unique in
    let In : Place → Type 0 = λ (p : Place). Inserts st.places c.insert.new.self c.args.s.0 p in
    let inserts = subst In c.in_ok-begin.ensures.aims.place c.insert.ensures in
    begun_changes _ _ c.args.d.0 x y is wrote st.places c.insert.new.self st.owed c.args.s c.args.head c.begin.new.c.place.slot st.ok
    c.in_ok-begin.ensures.ok inserts
