-- The class of the name is closed, or isn't, or isn't there.
use Rattle.std.proofs.Common.{◌≡◌, false, true, sym, ◌∙◌}
use Rattle.link_rules.proofs.ClosedClasses.{closed_says, open_says, unnamed, within_table}
use Rattle.link_rules.proofs.made_classes.has_no_constructor.Goals as goal

pub system_class-class-requires : goal.system_class-class-requires
system_class-class-requires c = within_table c.args.name.now c.class_named.result c.in-Some.n c.class_named.ensures c.in-Some.is

pub returns-then-class : goal.returns-then-class
returns-then-class c =
    closed_says c.args.name.now c.class_named.result c.in-Some.n c.class_named.ensures c.in-Some.is c.names_differ.ensures c.system_class-class.result
    c.system_class-class.ensures c.has_init.result c.if-class.true c.has_init.ensures

pub returns-else-class : goal.returns-else-class
returns-else-class c = (
  λ t. let z : true ≡ false = sym t ∙ c.if-class.false in absurd cc,
  λ h. absurd (open_says c.args.name.now c.class_named.result c.in-Some.n c.class_named.ensures c.in-Some.is c.names_differ.ensures c.system_class-class.result
      c.system_class-class.ensures c.if-class.false h),
)

pub returns-in-None : goal.returns-in-None
returns-in-None c = (λ t. absurd cc, λ h. absurd (unnamed c.args.name.now c.class_named.result c.class_named.ensures c.in-None.is h))
