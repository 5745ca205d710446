-- What the program says on its error sink.
use Rattle.std.specs.Prelude.{ℕ, List, ◌∷◌, [], ◌++◌, codes, decimal}
use Rattle.jk_model.specs.declared.script.ScriptFault.{ScriptFault}
use Rattle.jk_model.specs.declared.script.FaultKind.{FaultKind}
use Rattle.jk_model.specs.declared.script.FaultKind.TheVariants.{BadByte, UnknownWord, BadName, BadNumber, TooLong, Extra, Missing}

abbrev pub kind_text : FaultKind → List ℕ
kind_text BadByte = codes "BadByte"
kind_text UnknownWord = codes "UnknownWord"
kind_text BadName = codes "BadName"
kind_text BadNumber = codes "BadNumber"
kind_text TooLong = codes "TooLong"
kind_text Extra = codes "Extra"
kind_text Missing = codes "Missing"

abbrev pub usage_text : List ℕ
usage_text = codes "usage: jkernel [--pool WORDS] ROOT SCRIPT" ++ 10 ∷ []

abbrev pub fault_text : ScriptFault → List ℕ
fault_text fault = codes "jkernel: script line " ++ decimal fault.line ++ codes ": " ++ kind_text fault.kind ++ 10 ∷ []

abbrev pub read_text : List ℕ
read_text = codes "jkernel: cannot read" ++ 10 ∷ []

abbrev pub write_text : List ℕ
write_text = codes "jkernel: cannot write" ++ 10 ∷ []

abbrev pub memory_text : List ℕ
memory_text = codes "jkernel: out of memory" ++ 10 ∷ []
