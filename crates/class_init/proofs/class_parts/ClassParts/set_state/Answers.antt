-- The part that was found is the class's.
use Rattle.std.proofs.Common.{map, refl}
use Rattle.jk_model_domains.specs.OwnStates.{ClassPart}
use Rattle.class_init.specs.Parts.{class_part, IsPartAt}
use Rattle.class_init.proofs.PartChanged.{numbered_set, part_same, part_set}
use Rattle.class_init.proofs.class_parts.ClassParts.set_state.Goals as goal

pub invariant_of-self : goal.invariant_of-self
invariant_of-self c =
    numbered_set c.self.inside.parts.items c.self.inside.numbers.keys c.in-Some.place c.index_mut.result.now _ c.self.invariant c.index_mut.ensures.value refl

pub returns-in-Some : goal.returns-in-Some
returns-in-Some c =
    let ps = c.self.inside.parts.items in
    let at : IsPartAt (map class_part ps) c.args.c c.in-Some.place = rw (← c.self.view_is) at c.in-Some.ensures in
    rw (← c.self.view_is)
    (part_set ps c.self.inside.numbers.keys c.args.c c.in-Some.place c.index_mut.result.now _ (λ (e : ClassPart). record e { state = c.args.s })
    c.self.invariant at c.index_mut.ensures.value refl)

pub returns-in_default : goal.returns-in_default
returns-in_default c = part_same c.args.self.now c.args.c (λ (e : ClassPart). record e { state = c.args.s }) c.in_default.ensures
