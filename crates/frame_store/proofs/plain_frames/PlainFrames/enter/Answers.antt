-- The table has room, and the domain is the last of the map.
use Rattle.std.proofs.Common.{◌+◌, refl, arith}
use Rattle.frame_store.proofs.CursorIsKept.{same_domains, more_domains}
use Rattle.frame_store.proofs.DomainIsEntered.{entered_store, owes_entered, owes_unchanged, get_unchanged, others_by_updates, le_part}
use Rattle.frame_store.proofs.plain_frames.PlainFrames.enter.Goals as goal

pub overflow_add-more : goal.overflow_add-more
overflow_add-more c = omega (arith, c.args.self.now.ok.few, c.from.ensures)

pub invariant_of-self-in-Break-branch-2 : goal.invariant_of-self-in-Break-branch-2
invariant_of-self-in-Break-branch-2 c =
    let st = c.args.self.now in
    let m = st.domains in
    let n = c.insert.new.self in
    let same = c.in_err-insert.ensures.err in
    record {
      ok =
          entered_store m n st.places c.reserve.new.self st.owed st.ok c.args.d c.requires.new (λ e _. get_unchanged m n same e) c.reserve.ensures.same st.owed
          (owes_unchanged m n st.owed same st.ok.owes) (le_part st.owed _ _ c.in_ok-reserve.ensures.ok) st.ok.few;
      at = same_domains m n st.places c.reserve.new.self st.owed st.ok st.cursor st.at c.reserve.ensures.same same;
    }

pub invariant_of-self-2 : goal.invariant_of-self-2
invariant_of-self-2 c =
    let st = c.args.self.now in
    let m = st.domains in
    let n = c.insert.new.self in
    record {
      ok =
          entered_store m n st.places c.reserve.new.self st.owed st.ok c.args.d c.requires.new
          (others_by_updates m n c.args.d _ c.in_ok-insert.ensures.updates.0) c.reserve.ensures.same (st.owed + c.from.result)
          (owes_entered m n c.args.d c.args.fresh st.owed c.from.result c.requires.new c.in_ok-insert.ensures.entries c.requires.none st.ok.owes c.from.ensures)
          c.in_ok-reserve.ensures.ok (omega (arith, c.in_ok-reserve.ensures.ok, c.reserve.ensures.few));
      at =
          more_domains m n st.places c.reserve.new.self st.owed st.ok st.cursor st.at c.reserve.ensures.same c.args.d c.args.fresh c.requires.new
          (others_by_updates m n c.args.d _ c.in_ok-insert.ensures.updates.0) c.in_ok-insert.ensures.entries;
    }

pub invariant_of-self : goal.invariant_of-self
invariant_of-self c =
    let st = c.args.self.now in
    let m = st.domains in
    record {
      ok =
          entered_store m m st.places c.reserve.new.self st.owed st.ok c.args.d c.requires.new (λ _ _. refl) c.reserve.ensures.same st.owed st.ok.owes
          (omega (arith, st.ok.enough, c.in_err-reserve.ensures.err)) st.ok.few;
      at = same_domains m m st.places c.reserve.new.self st.owed st.ok st.cursor st.at c.reserve.ensures.same refl;
    }
