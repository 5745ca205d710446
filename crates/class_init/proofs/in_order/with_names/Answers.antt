-- One part after the other gets its name.
use Rattle.std.proofs.Common.{◌∙◌, ◌++◌, ◌∷◌, [], List, map, take, ap, refl}
use Rattle.std.proofs.lemmas.List.{map-append, take_all, take_more}
use Rattle.list_lemmas.proofs.ItemsOfLists.{Contains-none}
use Rattle.jk_model_domains.specs.OwnStates.{own_class}
use Rattle.jk_model_domains.specs.declared.states.OwnClass.{OwnClass}
use Rattle.class_init.specs.declared.class_parts.Part.{Part}
use Rattle.class_init.specs.InOrder.{part_of_named}
use Rattle.class_init.specs.Parts.{class_part}
use Rattle.class_init.proofs.ListedInOrder.{named_one_more}
use Rattle.class_init.proofs.in_order.with_names.Goals as goal

pub loop-part-init : goal.loop-part-init
loop-part-init c = record {
  parts = rw c.new-named.ensures.items refl;
  names = rw c.new-named.ensures.items (λ n has. absurd (Contains-none n has));
}

pub loop-part-preserved : goal.loop-part-preserved
loop-part-preserved c =
    let parts = c.args.parts.now in
    let i = c.loop-part.part-index in
    let p = c.part-item.result in
    let x = c.in_ok-named_part.field-0 in
    record {
      parts =
          rw (
            c.in_ok-push.ensures.items,
            map-append part_of_named c.loop-part.named.items (x ∷ []),
            take_more parts i p c.loop-part-test.true,
            ← (c.part-item.is),
            map-append class_part (take i parts) (p ∷ []),
            map-append own_class (map class_part (take i parts)) (class_part p ∷ []),
            ← c.loop-part.invariant.parts,
          )
          (ap (λ (o : OwnClass). map part_of_named c.loop-part.named.items ++ o ∷ []) c.in_ok-named_part.ensures.part);
      names = rw c.in_ok-push.ensures.items (named_one_more c.args.t.now c.loop-part.named.items x c.loop-part.invariant.names c.in_ok-named_part.ensures.name);
    }

pub returns-clause-parts : goal.returns-clause-parts
returns-clause-parts c =
    c.loop-part.invariant.parts
    ∙ ap (λ (ps : List Part). map own_class (map class_part ps)) (take_all c.loop-part.part-index c.args.parts.now c.loop-part-test.false)

pub returns-clause-names : goal.returns-clause-names
returns-clause-names c = c.loop-part.invariant.names
