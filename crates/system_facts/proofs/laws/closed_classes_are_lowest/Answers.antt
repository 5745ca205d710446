-- By the lemmas on closed classes.
use Rattle.std.proofs.Common.{refl}
use Rattle.system_facts.proofs.ClosedAreLowest.{closed_is_lowest, closed_named}
use Rattle.system_facts.proofs.laws.closed_classes_are_lowest.Goals as goal

pub returns-clause-lowest : goal.returns-clause-lowest
returns-clause-lowest g = λ classes c closed ordered system parents is below. closed_is_lowest classes ordered system parents c closed is below

pub returns-clause-string : goal.returns-clause-string
returns-clause-string g = λ c named. closed_named 3 refl c named

pub returns-clause-string_buffer : goal.returns-clause-string_buffer
returns-clause-string_buffer g = λ c named. closed_named 4 refl c named

pub returns-clause-string_builder : goal.returns-clause-string_builder
returns-clause-string_builder g = λ c named. closed_named 5 refl c named

pub returns-clause-print_stream : goal.returns-clause-print_stream
returns-clause-print_stream g = λ c named. closed_named 6 refl c named
