-- Two stacks have none that both fit where their heights differ, or an entry of the least one can't be used.
use Rattle.std.proofs.Common.{◌≡◌, length, arith}
use Rattle.std.specs.List.{AllByRecursion}
use Rattle.jk_model_typing.specs.FrameTypes.{IsUsable}
use Rattle.type_frames.proofs.RaisedByPlaces.{outside-none}
use Rattle.type_frames.proofs.UsableStacks.{no_stack-lengths, no_stack-unusable}
use Rattle.type_frames.proofs.frames.raise_stack.Goals as goal

pub returns-then-len-from-clause-none : goal.returns-then-len-from-clause-none
returns-then-len-from-clause-none c =
    let other : length c.args.into.now ≡ length c.args.from.now → ⊥ = omega arith in
    no_stack-lengths c.args.t.now c.args.into.now c.args.from.now other

pub raise_locals-changed-requires-clause-outside : goal.raise_locals-changed-requires-clause-outside
raise_locals-changed-requires-clause-outside c = outside-none c.args.t.now c.args.from.now c.args.into.now

pub returns-else-are_usable-clause-none : goal.returns-else-are_usable-clause-none
returns-else-are_usable-clause-none c =
    let unusable : AllByRecursion IsUsable c.raise_locals-changed.new.into → ⊥ =
    λ usable. let never = c.if-are_usable.ensures.1 (rw c.as_slice.ensures usable) in absurd cc in
    no_stack-unusable c.args.t.now c.args.into.now c.args.from.now c.raise_locals-changed.new.into
    c.raise_locals-changed.ensures.least unusable
