-- Values of which none names an object. They pass from one domain to another as they are.
use Rattle.std.specs.Prelude.{⊤, List}
use Rattle.std.specs.List.{AllByRecursion}
use Rattle.jk_model.specs.declared.values.Value.{Value}
use Rattle.jk_model.specs.declared.values.Value.TheVariants as Held

abbrev pub IsNoObject : Value → Type 0
IsNoObject (Held.Obj a) = ⊥
IsNoObject v = ⊤

abbrev pub NameNoObject : List Value → Type 0
NameNoObject values = AllByRecursion IsNoObject values
