-- The next capability of the range is created, and revoked where it is revoked.
use Rattle.std.proofs.Common.{◌∙◌, List, Ok, ap, map, refl}
use Rattle.jk_model_heaps.specs.Capabilities.{CapRange}
use Rattle.thread_segments.specs.ClassedRanges.{revoked_in}
use Rattle.thread_segments.proofs.MadeInRange.{created_next, given_now, only_created, then_revoked}
use Rattle.thread_segments.proofs.restoring.make.Goals as goal

pub create-requires : goal.create-requires
create-requires c = rw c.requires.found refl

pub revoke-requires : goal.revoke-requires
revoke-requires c =
    let p = c.args.part.now in
    let m = c.requires in
    let made = created_next c.args.caps.now p.class p.target m.range (Ok c.in-Ok.k) c.create.new.self (c.in-Ok.ensures m.range m.found) m.room in
    given_now c.args.caps.now p m c.create.new.self made.1 c.in-Ok.k made.0

pub unreachable-requires : goal.unreachable-requires
unreachable-requires c =
    let p = c.args.part.now in
    let m = c.requires in
    (created_next c.args.caps.now p.class p.target m.range _ c.create.new.self (c.in-Err.ensures m.range m.found) m.room).0

pub returns-then-part : goal.returns-then-part
returns-then-part c =
    let p = c.args.part.now in
    let m = c.requires in
    let made = created_next c.args.caps.now p.class p.target m.range (Ok c.in-Ok.k) c.create.new.self (c.in-Ok.ensures m.range m.found) m.room in
    c.revoke.ensures ∙ ap (λ (rs : List CapRange). map (revoked_in c.in-Ok.k) rs) made.1
    ∙ then_revoked c.args.caps.now p m c.if-part.true c.in-Ok.k made.0

pub returns-else-part : goal.returns-else-part
returns-else-part c =
    let p = c.args.part.now in
    let m = c.requires in
    let made = created_next c.args.caps.now p.class p.target m.range (Ok c.in-Ok.k) c.create.new.self (c.in-Ok.ensures m.range m.found) m.room in
    made.1 ∙ only_created c.args.caps.now p m c.if-part.false
