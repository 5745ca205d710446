-- What all lines say is what those read so far said, and then what the rest says; and there are no more lines than bytes.
use Rattle.std.proofs.Common.{◌≡◌, ◌+◌, ◌≤◌, length}
use Rattle.std.specs.Str.Lines.{lines}
use Rattle.jk_model_classes.specs.Resolver.{lines_say, resolver_of}
use Rattle.domain_resolver.specs.Answers.{onto}
use Rattle.domain_resolver.proofs.resolver.read.Given as goal

abbrev pub invariant-loop-line : goal.invariant-loop-line
invariant-loop-line l =
    (resolver_of l.bytes ≡ onto l.lines (lines_say l.number (lines l.rest))) × (l.number + length l.rest ≤ 1 + length l.bytes)

abbrev pub decreases-loop-line : goal.decreases-loop-line
decreases-loop-line l = length l.rest
