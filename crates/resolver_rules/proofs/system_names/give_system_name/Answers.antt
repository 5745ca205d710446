-- The record of the system class has its name.
use Rattle.std.proofs.Common.{◌≡◌, ℕ, Some, arith, slice_get, subst}
use Rattle.list_lemmas.proofs.ItemsByPlace.{item_lent}
use Rattle.jk_model_classes.specs.Worlds.{Gives}
use Rattle.resolver_rules.proofs.SystemNamesGiven.{adds_name, enough_classes}
use Rattle.resolver_rules.proofs.system_names.give_system_name.Goals as goal

pub unreachable-requires : goal.unreachable-requires
unreachable-requires c =
    omega (arith, c.in-None.ensures.3, c.from.ensures, c.requires.number, enough_classes c.args.classes.now c.requires.system)

pub returns : goal.returns
returns c =
    let at : slice_get c.args.classes.now c.args.number ≡ Some c.in-Some.record.now =
    subst (λ (n : ℕ). slice_get c.args.classes.now n ≡ Some c.in-Some.record.now) c.from.ensures
    (item_lent c.args.classes.now c.from.result c.in-Some.record c.in-Some.ensures) in
    adds_name c.args.classes.now c.args.number c.in-Some.record.now c.args.names.now c.give.new.self c.in_ok-give-in-Some.field-0 c.requires.system
    c.requires.number at c.requires.agrees
    (subst (λ (n : ℕ). Gives c.args.names.now c.in-Some.record.now.name (record { 0 = n }) c.in_ok-give-in-Some.field-0 c.give.new.self) c.from.ensures
    c.in_ok-give-in-Some.ensures.given)
