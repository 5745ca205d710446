-- The entry is no name and type.
use Rattle.std.proofs.Common.{refl}
use Rattle.jk_model_classes.specs.declared.records.Link.TheVariants as To
use Rattle.jk_model_classes.specs.Lookups.{FindsMethod}
use Rattle.class_linker.specs.TextsSaid.{IsPairOf, SaysMethod}
use Rattle.class_linker.proofs.MembersAreFound.{no_pair_link}
use Rattle.class_linker.proofs.links.method_link_in.Goals as goal

pub returns-in-None-clause-link : goal.returns-in-None-clause-link
returns-in-None-clause-link c =
    no_pair_link (IsPairOf (SaysMethod c.args.l.now.pool.now) c.args.l.now.pool.now c.args.pair) (FindsMethod c.args.l.now.t.now c.args.class)
    (To.Method c.args.class) To.Nothing c.in-None.ensures refl
