-- The number and the part are put after all others.
use Rattle.std.proofs.Common.{◌≡◌, ◌∙◌, ◌++◌, ◌∷◌, [], List, None, map, ap}
use Rattle.std.proofs.lemmas.List.{map-append}
use Rattle.jk_model_domains.specs.OwnStates.{ClassPart, StaticField}
use Rattle.jk_model_domains.specs.declared.states.ClassState.TheVariants as State
use Rattle.class_init.specs.Parts.{class_part, part_in}
use Rattle.class_init.specs.Statics.{statics_from}
use Rattle.class_init.proofs.PartAdded.{numbered_more}
use Rattle.class_init.proofs.class_parts.ClassParts.add.Goals as goal

pub invariant_of-self-2 : goal.invariant_of-self-2
invariant_of-self-2 c =
    let ps = c.self.inside.parts.items in
    let none : part_in (map class_part ps) c.args.c ≡ None = rw c.self.view_is c.requires.free in
    rw (c.push_reserved.ensures.items, c.in_ok-reserve.ensures.items)
    (numbered_more ps c.self.inside.numbers.keys c.insert.new.self.keys _ c.self.invariant none c.in_ok-insert.ensures.keys c.in_ok-insert.ensures.unique)

pub returns-clause-ok : goal.returns-clause-ok
returns-clause-ok c =
    let ps = c.self.inside.parts.items in
    let of : List StaticField → ClassPart = λ statics. record { class = c.args.c; state = State.Untouched; statics = statics } in
    rw (c.push_reserved.ensures.items, c.in_ok-reserve.ensures.items, map-append class_part ps _, ← c.self.view_is)
    (ap (λ (e : ClassPart). map class_part ps ++ e ∷ []) (ap of (c.in_ok-statics.ensures ∙ ap (statics_from 0) c.as_slice.ensures)))
