-- The lists are those of the state.
use Rattle.std.proofs.Common.{sym, ◌∙◌}
use Rattle.thread_check.proofs.playing.anew.Goals as goal

pub from_parts-requires : goal.from_parts-requires
from_parts-requires c = record {
  state = (
    c.args.shared.now,
    record {
      told = record { restorable = c.is_restorable.ensures; lists = c.in_ok-parts.ensures };
      same = c.requires ∙ sym c.in_ok-stubs.ensures;
    },
  );
}

pub returns : goal.returns
returns c = c.in_ok-from_parts.ensures.parts.same ∙ c.in_ok-stubs.ensures
