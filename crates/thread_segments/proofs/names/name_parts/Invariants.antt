-- The names so far are listed.
use Rattle.std.proofs.Common.{◌≡◌, map, take}
use Rattle.thread_segments.specs.NameEntries.{names_of}
use Rattle.thread_segments.specs.StateParts.{name_part}
use Rattle.thread_segments.proofs.names.name_parts.Given as goal

abbrev pub invariant-loop-entry : goal.invariant-loop-entry
invariant-loop-entry l = l.parts ≡ map name_part (names_of (take l.entry-index l.entries))
