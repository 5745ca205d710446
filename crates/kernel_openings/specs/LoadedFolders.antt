-- What is answered of a folder that isn't loaded.
use Rattle.std.specs.Prelude.{◌≡◌}
use Rattle.folder_loader.specs.declared.answers.LoadAnswer.{LoadAnswer}
use Rattle.folder_loader.specs.declared.answers.LoadAnswer.TheVariants as Loading
use Rattle.kernel_openings.specs.declared.answers.AddAnswer.{AddAnswer}
use Rattle.kernel_openings.specs.declared.answers.AddAnswer.TheVariants as Adding

abbrev pub IsLoadRefusal : LoadAnswer → AddAnswer → Type 0
IsLoadRefusal (Loading.Refused rule place) answer = answer ≡ Adding.Refused rule place
IsLoadRefusal Loading.ReadFault answer = answer ≡ Adding.ReadFault
IsLoadRefusal Loading.OutOfMemory answer = answer ≡ Adding.OutOfMemory
