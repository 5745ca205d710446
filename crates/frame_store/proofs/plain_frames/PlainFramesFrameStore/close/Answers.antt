-- The domain goes, and the table forgets its segments.
use Rattle.std.proofs.Common.{◌≡◌, ◌-◌, ◌∙◌, ℕ, Some, ap, sym, subst}
use Rattle.std.proofs.lemmas.Bool.Decides.{Decides-eqb}
use Rattle.std.proofs.lemmas.Map.Made.{lookup_key_same}
use Rattle.frame_store.specs.StoreContents.{IsStore, StandsAt}
use Rattle.frame_store.proofs.CursorIsKept.{fewer_domains, none_found}
use Rattle.frame_store.proofs.DomainCloses.{closed_store, closes}
use Rattle.frame_store.proofs.plain_frames.PlainFramesFrameStore.close.Goals as goal

pub invariant_of-self : goal.invariant_of-self
invariant_of-self c =
    let st = c.args.self.now in
    let x = c.in-Some.x.now in
    let u = c.forget_all.new.places in
    let n = c.swap_remove.new.self in
    let e = c.swap_remove.ensures in
    let P : ℕ → Type 0 = λ k. IsStore n u (st.owed - k) in
    let moved = c.in-Some-get_full.field-0-2.now in
    let number = c.in-Some-get_full.field-0-1.now in
    let same : st.cursor.place.domain ≡ number =
    lookup_key_same Decides-eqb st.cursor.place.domain n.entries number (sym c.in-Some-get_full.ensures.key) in
    let stands : StandsAt n st.cursor.place.domain c.in-Some-get_full.index =
    record {
      domain = moved;
      entry = c.in-Some-get_full.ensures.entry ∙ ap (λ q. Some (q, moved)) (sym same);
      is = sym c.in-Some-get_full.ensures.value;
    } in
    record {
      ok =
          subst P (sym c.from.ensures)
          (closed_store st.domains n st.places u st.owed c.args.d.0 x st.ok (sym c.in-Some.ensures.value) e.updates.0 e.updates.1 e.entries
          c.forget_all.ensures);
      at =
          fewer_domains st.domains n st.places u st.owed st.ok st.cursor st.at c.args.d.0 x (sym c.in-Some.ensures.value) e.updates.0 e.updates.1 e.entries
          c.forget_all.ensures c.in-Some-get_full.index stands;
    }

pub invariant_of-self-in_default-get_full : goal.invariant_of-self-in_default-get_full
invariant_of-self-in_default-get_full c =
    let st = c.args.self.now in
    let x = c.in-Some.x.now in
    let u = c.forget_all.new.places in
    let n = c.swap_remove.new.self in
    let e = c.swap_remove.ensures in
    let P : ℕ → Type 0 = λ k. IsStore n u (st.owed - k) in
    record {
      ok =
          subst P (sym c.from.ensures)
          (closed_store st.domains n st.places u st.owed c.args.d.0 x st.ok (sym c.in-Some.ensures.value) e.updates.0 e.updates.1 e.entries
          c.forget_all.ensures);
      at =
          none_found st.domains n st.places u st.owed st.ok st.cursor st.at c.args.d.0 x (sym c.in-Some.ensures.value) e.updates.0 e.updates.1 e.entries
          c.forget_all.ensures (sym c.in_default-get_full.ensures.value);
    }

pub returns-in-Some-get_full : goal.returns-in-Some-get_full
returns-in-Some-get_full c =
    let st = c.args.self.now in
    let x = c.in-Some.x.now in
    let e = c.swap_remove.ensures in
    closes st.domains c.swap_remove.new.self st.places c.forget_all.new.places st.owed c.args.d.0 x st.ok (sym c.in-Some.ensures.value)
    e.updates.0 e.updates.1 e.entries c.forget_all.ensures

pub returns-in_default-get_full : goal.returns-in_default-get_full
returns-in_default-get_full c =
    let st = c.args.self.now in
    let x = c.in-Some.x.now in
    let e = c.swap_remove.ensures in
    closes st.domains c.swap_remove.new.self st.places c.forget_all.new.places st.owed c.args.d.0 x st.ok (sym c.in-Some.ensures.value)
    e.updates.0 e.updates.1 e.entries c.forget_all.ensures
