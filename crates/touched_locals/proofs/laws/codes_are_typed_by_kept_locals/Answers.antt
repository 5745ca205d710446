-- A typing over the kept locals widens to one of the whole code, and back.
use Rattle.touched_locals.proofs.TypingsWidened.{least-wide, typing-narrow, typing-wide}
use Rattle.touched_locals.proofs.laws.codes_are_typed_by_kept_locals.Goals as goal

pub returns-clause-wide : goal.returns-clause-wide
returns-clause-wide c = λ s marks narrow frames narrowed types. typing-wide s marks narrow narrowed frames types

pub returns-clause-least : goal.returns-clause-least
returns-clause-least c = λ s marks narrow frames narrowed least. least-wide s marks narrow narrowed frames least

pub returns-clause-narrow : goal.returns-clause-narrow
returns-clause-narrow c = λ s marks narrow frames narrowed types. (_, typing-narrow s marks narrow narrowed frames types)
