-- The parts are those of a state, which another PrintStream leaves one.
use Rattle.std.proofs.Common.{ℕ, List}
use Rattle.jk_model_classes.specs.declared.records.ClassRecord.{ClassRecord}
use Rattle.jk_model_classes.specs.Worlds.{NamedClass}
use Rattle.jk_model_domains.specs.OwnStates.{IsOwnState, OwnState}
use Rattle.loaded_class_check.proofs.class_init_tests.again.Goals as goal

with_out : (classes : List ClassRecord) (table : List NamedClass) (own : OwnState) (out : ℕ) → IsOwnState classes table own
    → IsOwnState classes table (record own { out = out })
with_out classes table own out h = record {
  each = h.each;
  all = h.all;
  classes_differ = h.classes_differ;
  literals_differ = h.literals_differ;
  standing = h.standing;
}

pub from_parts-requires-clause-state : goal.from_parts-requires-clause-state
from_parts-requires-clause-state c = (
  c.set_out.new.self.state,
  rw c.set_out.ensures (with_out c.args.t.now c.args.names.now c.in_ok-own.own.state 11 c.in_ok-own.ensures.state.state),
  c.in_ok-parts.ensures.parts,
)
