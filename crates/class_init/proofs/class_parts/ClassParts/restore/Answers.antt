-- The part that was found is the class's.
use Rattle.std.proofs.Common.{◌≡◌, ◌∙◌, List, Some, length, map, refl, ap}
use Rattle.jk_model_domains.specs.OwnStates.{ClassPart, StaticField}
use Rattle.class_init.specs.Parts.{class_part, part_in, restored, IsPartAt}
use Rattle.class_init.specs.Statics.{with_values}
use Rattle.class_init.proofs.PartChanged.{found_part, numbered_set, part_same, part_set}
use Rattle.class_init.proofs.class_parts.ClassParts.restore.Goals as goal

pub restore-requires : goal.restore-requires
restore-requires c =
    let ps = c.self.inside.parts.items in
    let p = c.index_mut-own.result.now in
    let at : IsPartAt (map class_part ps) c.args.part.now.class c.in-Some.place = rw (← c.self.view_is) at c.in-Some.ensures in
    let found = found_part ps c.args.part.now.class c.in-Some.place p at c.index_mut-own.ensures.value in
    let there : part_in c.args.self.now c.args.part.now.class ≡ Some (class_part p) = rw (← c.self.view_is) found in
    ap length c.as_slice.ensures ∙ c.requires (class_part p) there

pub invariant_of-self : goal.invariant_of-self
invariant_of-self c =
    numbered_set c.self.inside.parts.items c.self.inside.numbers.keys c.in-Some.place c.index_mut-own.result.now _ c.self.invariant
    c.index_mut-own.ensures.value refl

pub returns-in-Some : goal.returns-in-Some
returns-in-Some c =
    let ps = c.self.inside.parts.items in
    let p = c.index_mut-own.result.now in
    let at : IsPartAt (map class_part ps) c.args.part.now.class c.in-Some.place = rw (← c.self.view_is) at c.in-Some.ensures in
    let of : List StaticField → ClassPart = λ statics. record { class = p.class; state = c.args.part.now.state; statics = statics } in
    rw (← c.self.view_is)
    (part_set ps c.self.inside.numbers.keys c.args.part.now.class c.in-Some.place p _ (restored c.args.part.now) c.self.invariant
    at c.index_mut-own.ensures.value (ap of (c.restore.ensures ∙ ap (with_values p.statics) c.as_slice.ensures)))

pub returns-in_default : goal.returns-in_default
returns-in_default c = part_same c.args.self.now c.args.part.now.class (restored c.args.part.now) c.in_default.ensures
