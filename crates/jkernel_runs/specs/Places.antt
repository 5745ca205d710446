-- Where a rule is broken, as it is printed.
use Rattle.std.specs.Prelude.{⊤, IsUtf8, Result, Err}
use Rattle.jk_model.specs.declared.identifiers.DomainId.{DomainId}
use Rattle.jk_model.specs.declared.output.Place.{Place}
use Rattle.jk_model.specs.declared.output.Place.TheVariants.{Whole, At}
use Rattle.kernel_openings.specs.declared.answers.AddAnswer.{AddAnswer}
use Rattle.kernel_openings.specs.declared.answers.AddAnswer.TheVariants as Adding

-- the path of the file, where there is one, is UTF-8
abbrev pub IsTextPlace : Place → Type 0
IsTextPlace Whole = ⊤
IsTextPlace (At path number) = IsUtf8 path

-- and so of an answer that names a place
abbrev pub HasTextPlace : Result DomainId AddAnswer → Type 0
HasTextPlace (Err (Adding.Refused rule place)) = IsTextPlace place
HasTextPlace added = ⊤
