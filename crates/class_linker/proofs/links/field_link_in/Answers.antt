-- The entry is no name and type.
use Rattle.std.proofs.Common.{refl}
use Rattle.jk_model_classes.specs.declared.records.Link.TheVariants as To
use Rattle.jk_model_classes.specs.Lookups.{FindsField}
use Rattle.class_linker.specs.TextsSaid.{IsPairOf, SaysField}
use Rattle.class_linker.proofs.MembersAreFound.{no_pair_link}
use Rattle.class_linker.proofs.links.field_link_in.Goals as goal

pub returns-in-None-clause-link : goal.returns-in-None-clause-link
returns-in-None-clause-link c =
    no_pair_link (IsPairOf (SaysField c.args.l.now.names.now c.args.l.now.pool.now) c.args.l.now.pool.now c.args.pair)
    (FindsField c.args.l.now.t.now c.args.class)
    (To.Field c.args.class) To.Nothing c.in-None.ensures refl
