-- The name and type finds nothing.
use Rattle.std.proofs.Common.{refl, subst, Option}
use Rattle.jk_model.specs.declared.identifiers.MemberId.{MemberId}
use Rattle.jk_model_classes.specs.declared.records.Link.TheVariants as To
use Rattle.jk_model_classes.specs.Classes.{method_walk}
use Rattle.jk_model_classes.specs.Lookups.{FindsMethod, IsMethodOf}
use Rattle.class_linker.specs.TextsSaid.{IsPairOf, SaysMethod}
use Rattle.class_linker.proofs.MembersAreFound.{missed_link, never_both}
use Rattle.class_linker.proofs.TextsAreSaid.{one_method_said, one_pair}
use Rattle.class_linker.proofs.links.method_link_by.Goals as goal

pub returns-in-None-clause-link : goal.returns-in-None-clause-link
returns-in-None-clause-link c =
    let names = c.args.l.now.names.now in
    let pool = c.args.l.now.pool.now in
    let classes = c.args.l.now.t.now in
    missed_link (IsPairOf (SaysMethod pool) pool c.args.pair) (FindsMethod classes c.args.class) (To.Method c.args.class) c.args.name.now c.args.kind.now
    To.Nothing (one_pair (SaysMethod pool) (one_method_said names pool) pool c.args.pair)
    (λ m. never_both (IsMethodOf classes c.args.name.now c.args.kind.now) (method_walk classes c.args.class) m) c.requires.pair
    (subst (λ (r : Option MemberId). FindsMethod classes c.args.class c.args.name.now c.args.kind.now r) c.in-None.is c.in_ok-m.ensures.found) refl
