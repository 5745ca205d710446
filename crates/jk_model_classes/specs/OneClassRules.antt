-- The rules that a class file is judged by alone, in their order, and the first that it breaks: C6 to C17. A rule
-- is read only where those before it hold.
use Rattle.std.specs.Prelude.{◌≡◌, ℕ, List, [], ◌∷◌, Some, slice_get}
use Rattle.jk_model.specs.declared.class_file.ClassFile.{ClassFile}
use Rattle.jk_model.specs.declared.output.Rule.{Rule}
use Rattle.jk_model.specs.declared.output.Rule.TheVariants.{C6, C7, C8, C9, C10, C11, C12, C13, C14, C15, C16, C17}
use Rattle.jk_model_classes.specs.ClassFlags.{HasBadFlags}
use Rattle.jk_model_classes.specs.ClassNames.{HasBadName, IsDuplicate, HasWrongPath}
use Rattle.jk_model_classes.specs.Items.{HasItemBefore, Spot, spot_number, IsBefore}
use Rattle.jk_model_classes.specs.MemberAttributes.{HasBadAttribute}
use Rattle.jk_model_classes.specs.MemberCode.{UsesFloat, UsesSubroutine, UsesMonitor, IsNative, LoadsClass, HasBadCode}
use Rattle.jk_model_classes.specs.MemberDescriptors.{HasBadDescriptor}

abbrev pub one_class_rules : List Rule
one_class_rules = C6 ∷ C7 ∷ C8 ∷ C9 ∷ C10 ∷ C11 ∷ C12 ∷ C13 ∷ C14 ∷ C15 ∷ C16 ∷ C17 ∷ []

-- the class file, which stands under this path, breaks the rule at this spot
abbrev pub Breaks : Rule → ClassFile → List ℕ → Spot → Type 0
Breaks C6 c path spot = HasBadFlags c spot
Breaks C7 c path spot = HasBadName c spot
Breaks C8 c path spot = HasBadDescriptor c spot
Breaks C9 c path spot = HasBadAttribute c spot
Breaks C10 c path spot = UsesFloat c spot
Breaks C11 c path spot = UsesSubroutine c spot
Breaks C12 c path spot = UsesMonitor c spot
Breaks C13 c path spot = IsNative c spot
Breaks C14 c path spot = LoadsClass c spot
Breaks C15 c path spot = HasBadCode c spot
Breaks C16 c path spot = IsDuplicate c spot
Breaks C17 c path spot = HasWrongPath c path spot
Breaks _ c path spot = ⊥

-- The first rule that the class file breaks, and the number of the least spot where it does.
pub record IsFirstFault (c : ClassFile) (path : List ℕ) (rule : Rule) (number : ℕ) : Type 0 where
  pub place : ℕ
  pub listed : slice_get one_class_rules place ≡ Some rule
  pub earlier : (other : Rule) → HasItemBefore place (λ r. r ≡ other) one_class_rules → (spot : Spot) → Breaks other c path spot → ⊥
  pub spot : Spot
  pub broken : Breaks rule c path spot
  pub least : (other : Spot) → IsBefore other spot → Breaks rule c path other → ⊥
  pub is_number : number ≡ spot_number spot

-- the class file breaks none of these rules
abbrev pub HasNoFault : ClassFile → List ℕ → Type 0
HasNoFault c path = (rule : Rule) (spot : Spot) → Breaks rule c path spot → ⊥
