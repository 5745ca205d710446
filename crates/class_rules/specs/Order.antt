-- How far a class file was judged: the rules before a place in their order hold, or the first fault was found.
use Rattle.std.specs.Prelude.{◌≡◌, ℕ, List, Option, Some, None}
use Rattle.jk_model.specs.declared.class_file.ClassFile.{ClassFile}
use Rattle.jk_model.specs.declared.output.Rule.{Rule}
use Rattle.jk_model_classes.specs.Items.{HasItemBefore, Spot}
use Rattle.jk_model_classes.specs.OneClassRules.{one_class_rules, Breaks, IsFirstFault}
use Rattle.jk_model_classes.specs.declared.sharing.ClassFault.{ClassFault}

-- none of the first so many rules is broken anywhere
abbrev pub HoldBefore : ClassFile → List ℕ → ℕ → Type 0
HoldBefore c path place =
    (rule : Rule) → HasItemBefore place (λ r. r ≡ rule) one_class_rules → (spot : Spot) → Breaks rule c path spot → ⊥

-- what asking the first so many rules answers, of a class file under this path
abbrev pub IsFaultBefore : ClassFile → List ℕ → ℕ → Option ClassFault → Type 0
IsFaultBefore c path place None = HoldBefore c path place
IsFaultBefore c path place (Some fault) = IsFirstFault c path fault.rule fault.number
