-- Each kind of instruction needs the class that its operand leads to.
use Rattle.std.proofs.Common.{inl, inr}
use Rattle.step_contents.specs.StandingFrames.{place_of}
use Rattle.step_contents.proofs.NeededClasses.{class_needs, field_needs, method_needs}
use Rattle.step_contents.proofs.operands.needed_by.Goals as goal

pub returns-in-178 : goal.returns-in-178
returns-in-178 c =
    field_needs (place_of c.args.at.now) c.field_class.result (inl c.in-178.is) c.field_class.ensures.none c.field_class.ensures.some

pub returns-in-179 : goal.returns-in-179
returns-in-179 c =
    field_needs (place_of c.args.at.now) c.field_class-in-179.result (inr c.in-179.is)
    c.field_class-in-179.ensures.none c.field_class-in-179.ensures.some

pub returns-in-184 : goal.returns-in-184
returns-in-184 c =
    method_needs (place_of c.args.at.now) c.method_class.result c.in-184.is c.method_class.ensures.none c.method_class.ensures.some

pub returns-in-187 : goal.returns-in-187
returns-in-187 c =
    class_needs (place_of c.args.at.now) c.named_class.result c.in-187.is c.named_class.ensures.none c.named_class.ensures.some
