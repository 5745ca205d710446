-- The class at a place breaks one of the rules by what is answered of it.
use Rattle.std.proofs.Common.{refl, sym, arith}
use Rattle.placed_rules.specs.PlacedFaults.{HasLinkFault, class_at, scope_at}
use Rattle.placed_rules.proofs.LinkedPlaces.{answered, class_within, its_class, its_texts, links_within}
use Rattle.placed_rules.proofs.links.LinkedClassesClassRule.least_number.Goals as goal

pub overflow_cast-class : goal.overflow_cast-class
overflow_cast-class c =
    let s = c.args.self.now in
    let r = c.requires.ready in
    let inside = class_within s.classes.now s.order.now s.t.now s.names.now s.first s.links.now r.0 r.2 r.1 c.args.place c.args.file c.requires.there in
    omega (arith, inside, c.len-count.ensures.count, c.len-count.ensures.few)

pub overflow_add-class : goal.overflow_add-class
overflow_add-class c =
    let s = c.args.self.now in
    let r = c.requires.ready in
    let inside = class_within s.classes.now s.order.now s.t.now s.names.now s.first s.links.now r.0 r.2 r.1 c.args.place c.args.file c.requires.there in
    omega (arith, inside, c.len-count.ensures.count, c.len-count.ensures.few)

pub offset_bounds-self-place : goal.offset_bounds-self-place
offset_bounds-self-place c =
    let s = c.args.self.now in
    let r = c.requires.ready in
    let inside = class_within s.classes.now s.order.now s.t.now s.names.now s.first s.links.now r.0 r.2 r.1 c.args.place c.args.file c.requires.there in
    omega (arith, inside, c.len-count.ensures.count, c.len-count.ensures.few)

pub bounds-self-place : goal.bounds-self-place
bounds-self-place c =
    let s = c.args.self.now in
    let r = c.requires.ready in
    links_within s.classes.now s.order.now s.t.now s.names.now s.first s.links.now r.0 r.2 c.args.place c.args.file c.requires.there

pub member_fault-requires-clause-linked : goal.member_fault-requires-clause-linked
member_fault-requires-clause-linked c =
    let s = c.args.self.now in
    let r = c.requires.ready in
    its_class s.classes.now s.order.now s.t.now s.names.now s.first s.links.now r.0 r.2 r.1 c.args.place c.args.file c.requires.there
    c.index-self-file.result c.index-self-place.result

pub member_fault-requires-clause-texts : goal.member_fault-requires-clause-texts
member_fault-requires-clause-texts c =
    let s = c.args.self.now in
    let r = c.requires.ready in
    its_texts s.classes.now s.order.now r.0 r.1 c.args.place c.args.file c.requires.there c.index-self-file.result

pub access_fault-requires-clause-linked : goal.access_fault-requires-clause-linked
access_fault-requires-clause-linked c =
    let s = c.args.self.now in
    let r = c.requires.ready in
    its_class s.classes.now s.order.now s.t.now s.names.now s.first s.links.now r.0 r.2 r.1 c.args.place c.args.file c.requires.there
    c.index-self-file.result c.index-self-place.result

pub access_fault-requires-clause-texts : goal.access_fault-requires-clause-texts
access_fault-requires-clause-texts c =
    let s = c.args.self.now in
    let r = c.requires.ready in
    its_texts s.classes.now s.order.now r.0 r.1 c.args.place c.args.file c.requires.there c.index-self-file.result

pub returns-in-Members : goal.returns-in-Members
returns-in-Members c =
    let s = c.args.self.now in
    let r = c.requires.ready in
    answered s.classes.now s.order.now r.1 (λ k f spot. HasLinkFault s.rule (scope_at s.t.now s.names.now (class_at s.first k)) f spot) c.args.place
    c.args.file c.requires.there c.index-self-file.result c.member_fault.result (rw c.in-Members.is c.member_fault.ensures)

pub returns-in-Access : goal.returns-in-Access
returns-in-Access c =
    let s = c.args.self.now in
    let r = c.requires.ready in
    answered s.classes.now s.order.now r.1 (λ k f spot. HasLinkFault s.rule (scope_at s.t.now s.names.now (class_at s.first k)) f spot) c.args.place
    c.args.file c.requires.there c.index-self-file.result c.access_fault.result (rw c.in-Access.is c.access_fault.ensures)

pub returns-in-Finals : goal.returns-in-Finals
returns-in-Finals c =
    let s = c.args.self.now in
    let r = c.requires.ready in
    answered s.classes.now s.order.now r.1 (λ k f spot. HasLinkFault s.rule (scope_at s.t.now s.names.now (class_at s.first k)) f spot) c.args.place
    c.args.file c.requires.there c.index-self-file.result c.fault.result
    (rw c.in-Finals.is (c.fault.ensures (scope_at s.t.now s.names.now (class_at s.first c.args.place)) (sym r.3) refl))
