-- By the lemmas on entries of the table.
use Rattle.std.proofs.Common.{refl}
use Rattle.system_facts.proofs.SystemEntries.{field_is_read, method_is_read}
use Rattle.system_facts.proofs.laws.types_are_read.Goals as goal

pub returns-clause-fields : goal.returns-clause-fields
returns-clause-fields g = λ classes m class entry field system listed has is. field_is_read classes system m class entry field listed has is

pub returns-clause-methods : goal.returns-clause-methods
returns-clause-methods g = λ classes m class entry method system listed has is. method_is_read classes system m class entry method listed has is

pub returns-clause-example : goal.returns-clause-example
returns-clause-example g = refl
