-- The segment is found in its domain.
use Rattle.std.proofs.Common.{◌≡◌, ◌∙◌, Some, ap, slice_get, sym, subst}
use Rattle.frame_store.specs.declared.domain_frames.DomainFrames.{DomainFrames}
use Rattle.number_table.specs.declared.entry_table.Place.{Place}
use Rattle.frame_store.specs.DomainMoves.{HasTop}
use Rattle.frame_store.specs.StoreContents.{IsFound}
use Rattle.frame_store.proofs.CursorIsKept.{aimed_right}
use Rattle.frame_store.proofs.CursorPoints.{is_right, has_depth, has_no_depth}
use Rattle.frame_store.proofs.StoreChanges.{found_slot}
use Rattle.frame_store.proofs.plain_frames.PlainFrames.look_up.Goals as goal

pub depth-requires : goal.depth-requires
depth-requires c =
    let st = c.args.self.now in
    let p = c.place-place.result in
    let stands = c.index_of-domain.ensures in
    let x = c.at-x.result.now in
    let same : x ≡ stands.domain = c.at-x.ensures p.domain stands in
    let found : IsFound st.domains st.places c.args.s.0 x p.slot =
    record { domain = p.domain; at = c.place-place.ensures; is = stands.is ∙ ap (λ (z : DomainFrames). Some z) (sym same) } in
    found_slot _ _ _ c.args.s st.ok x p.slot found

pub aim-requires : goal.aim-requires
aim-requires c =
    let st = c.args.self.now in
    let p = c.place-place.result in
    let stands = c.index_of-domain.ensures in
    let x = c.at-x.result.now in
    let same : x ≡ stands.domain = c.at-x.ensures p.domain stands in
    let found : IsFound st.domains st.places c.args.s.0 x p.slot =
    record { domain = p.domain; at = c.place-place.ensures; is = stands.is ∙ ap (λ (z : DomainFrames). Some z) (sym same) } in
    let top = has_depth x p.slot (found_slot _ _ _ c.args.s st.ok x p.slot found) c.depth.result c.depth.ensures c.if-depth-gt0.true in
    subst (λ (q : Place). HasTop x q.slot) (sym c.cursor_at-found.ensures.place) top

pub returns-then-depth-gt0-clause-right : goal.returns-then-depth-gt0-clause-right
returns-then-depth-gt0-clause-right c =
    let st = c.args.self.now in
    let p = c.place-place.result in
    let stands = c.index_of-domain.ensures in
    let x = c.at-x.result.now in
    let same : x ≡ stands.domain = c.at-x.ensures p.domain stands in
    let found : IsFound st.domains st.places c.args.s.0 x p.slot =
    record { domain = p.domain; at = c.place-place.ensures; is = stands.is ∙ ap (λ (z : DomainFrames). Some z) (sym same) } in
    let entry =
    ap (slice_get st.domains.entries) c.cursor_at-found.ensures.domain ∙ stands.entry ∙ ap (λ (z : DomainFrames). Some (p.domain, z)) (sym same) in
    aimed_right _ _ _ _ _ x p.slot found c.cursor_at-found.ensures.place entry c.aim.ensures

pub returns-else-depth-gt0-clause-right : goal.returns-else-depth-gt0-clause-right
returns-else-depth-gt0-clause-right c =
    let st = c.args.self.now in
    let p = c.place-place.result in
    let stands = c.index_of-domain.ensures in
    let x = c.at-x.result.now in
    let same : x ≡ stands.domain = c.at-x.ensures p.domain stands in
    let found : IsFound st.domains st.places c.args.s.0 x p.slot =
    record { domain = p.domain; at = c.place-place.ensures; is = stands.is ∙ ap (λ (z : DomainFrames). Some z) (sym same) } in
    let entry =
    ap (slice_get st.domains.entries) c.cursor_at-found.ensures.domain ∙ stands.entry ∙ ap (λ (z : DomainFrames). Some (p.domain, z)) (sym same) in
    is_right _ _ _ _ x p.slot found c.cursor_at-found.ensures.place entry
    (λ top. absurd (has_no_depth x p.slot c.depth.result c.depth.ensures c.if-depth-gt0.false top))
    (λ top. absurd (has_no_depth x p.slot c.depth.result c.depth.ensures c.if-depth-gt0.false top))
