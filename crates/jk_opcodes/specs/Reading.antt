-- Reading an instruction from left to right, with what stops it first. A field is a value and the bytes after it.
use Rattle.std.specs.Prelude.{◌≡◌, ℕ, ℤ, List, Option, Some, None, Result, Ok, Err}
use Rattle.std.specs.Int.{w32}
use Rattle.byte_fields.specs.Reading.{number_at}
use Rattle.jk_model.specs.Instructions.{signed_int}
use Rattle.jk_opcodes.specs.declared.errors.Stop.{Stop}
use Rattle.jk_opcodes.specs.declared.errors.Stop.TheVariants.{CutInstruction}
use Rattle.jk_opcodes.specs.declared.errors.StepError.{StepError}
use Rattle.jk_opcodes.specs.declared.errors.StepError.TheVariants as steps

infixl 10 ◌>>=◌
abbrev pub ◌>>=◌ : {A B : Type 0} → Result A Stop → (A → Result B Stop) → Result B Stop
(Ok x) >>= f = f x
(Err e) >>= f = Err e

-- a field, without which the instruction is cut
abbrev pub needed : {A : Type 0} → Option A → Result A Stop
needed (Some x) = Ok x
needed None = Err CutInstruction

-- What a function returned, seen by view, is what reading gives.
abbrev pub Gives : {X Y : Type 0} → (X → Y) → Result X Stop → Result Y Stop → Type 0
Gives view (Ok x) read = read ≡ Ok (view x)
Gives view (Err stop) read = read ≡ Err stop

-- What a function failed with is what reading gives, unless memory ran out.
abbrev pub FailsInMemory : {Y : Type 0} → StepError → Result Y Stop → Type 0
FailsInMemory steps.Memory read = Unit {0}
FailsInMemory (steps.Stop stop) read = read ≡ Err stop

-- What a function returned, seen by view, is what reading gives, unless memory ran out.
abbrev pub GivesInMemory : {X Y : Type 0} → (X → Y) → Result X StepError → Result Y Stop → Type 0
GivesInMemory view (Ok x) read = read ≡ Ok (view x)
GivesInMemory view (Err e) read = FailsInMemory e read

-- a signed number of four bytes
abbrev pub int_at : List ℕ → Result (ℤ × List ℕ) Stop
int_at bytes = needed (number_at w32 bytes) >>= λ x. Ok (signed_int x.0, x.1)
