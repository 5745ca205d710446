-- A frame stands at the instruction of its method's code.
use Rattle.list_lemmas.proofs.ItemsByPlace.{item_lent, none_lent}
use Rattle.std.proofs.Common.{refl}
use Rattle.type_rows.specs.CodeViews.{scope_of}
use Rattle.step_contents.proofs.OnePlace.{no_code, no_instr}
use Rattle.step_contents.proofs.places.stands_at.Goals as goal

pub returns-in_default-of : goal.returns-in_default-of
returns-in_default-of c = no_code c.args.t.now c.args.head.now c.in-Some.m c.in-Some.is c.in_default-of.ensures.none

pub returns-in-Some-get : goal.returns-in-Some-get
returns-in-Some-get c = (
  refl,
  record {
    method = c.in-Some.m;
    is_method = c.in-Some.is;
    is_scope = c.in-Some-of.ensures.some;
    stands = item_lent c.in-Some-of.code.code.now.instrs c.args.head.now.at c.in-Some-get.instr c.in-Some-get.ensures;
  },
)

pub returns-in-None : goal.returns-in-None
returns-in-None c =
    no_instr c.args.t.now c.args.head.now c.in-Some.m (scope_of c.in-Some-of.code) c.in-Some.is c.in-Some-of.ensures.some
    (none_lent c.in-Some-of.code.code.now.instrs c.args.head.now.at c.in-None.ensures)
