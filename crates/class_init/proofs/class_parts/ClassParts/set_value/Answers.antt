-- The part that was found is the class's.
use Rattle.std.proofs.Common.{List, map, refl, ap}
use Rattle.jk_model_domains.specs.OwnStates.{ClassPart, StaticField, with_field}
use Rattle.class_init.specs.Parts.{class_part, IsPartAt}
use Rattle.class_init.proofs.PartChanged.{numbered_set, part_same, part_set}
use Rattle.class_init.proofs.class_parts.ClassParts.set_value.Goals as goal

pub invariant_of-self : goal.invariant_of-self
invariant_of-self c =
    numbered_set c.self.inside.parts.items c.self.inside.numbers.keys c.in-Some.place c.index_mut-part.result.now _ c.self.invariant
    c.index_mut-part.ensures.value refl

pub returns-in-Some : goal.returns-in-Some
returns-in-Some c =
    let ps = c.self.inside.parts.items in
    let p = c.index_mut-part.result.now in
    let at : IsPartAt (map class_part ps) c.args.m.class c.in-Some.place = rw (← c.self.view_is) at c.in-Some.ensures in
    let of : List StaticField → ClassPart = λ statics. record { class = p.class; state = p.state; statics = statics } in
    rw (← c.self.view_is)
    (part_set ps c.self.inside.numbers.keys c.args.m.class c.in-Some.place p _
    (λ (e : ClassPart). record e { statics = with_field c.args.m.index c.args.v e.statics }) c.self.invariant
    at c.index_mut-part.ensures.value (ap of c.set.ensures))

pub returns-in_default : goal.returns-in_default
returns-in_default c =
    part_same c.args.self.now c.args.m.class (λ (e : ClassPart). record e { statics = with_field c.args.m.index c.args.v e.statics }) c.in_default.ensures
