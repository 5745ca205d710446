-- The rules that ask of codes alone, and what is answered of all methods.
use Rattle.std.specs.Prelude.{◌≡◌, ℕ, ◌⊎◌, Bool, false, List, Option, Some, None, length, slice_get}
use Rattle.jk_model.specs.declared.class_file.ClassFile.{ClassFile}
use Rattle.jk_model.specs.declared.class_file.MemberInfo.{MemberInfo}
use Rattle.jk_model.specs.declared.class_file.Code.{Code}
use Rattle.jk_model.specs.Instructions.{Subroutine, Monitor}
use Rattle.jk_model_classes.specs.Items.{Spot, Member, Entry}
use Rattle.jk_model_classes.specs.MemberCode.{HasInstr, HasCode, Shows, UsesSubroutine, LoadsClass, IsUndecodable, IsBadInstr, HasBadCode}
use Rattle.class_rules.specs.Attributes.{CountFlags}
use Rattle.class_rules.specs.Codes.{UsesFloatIn, LoadsClassBy, HasBadHandler}
use Rattle.class_rules.specs.MethodCodes.{IsCodeOf, TakesMore, IsMethodJudged}
use Rattle.class_rules.specs.declared.code_rules.CodeRule.{CodeRule}
use Rattle.class_rules.specs.declared.code_rules.CodeRule.TheVariants.{Floats, Subroutines, Monitors, ClassConstants, BadCode}
use Rattle.class_rules.specs.declared.codes.CodeJudgment.{CodeJudgment}

-- What is answered of these methods, one after the other.
pub record AreJudged (c : ClassFile) (methods : List MemberInfo) (judged : List (Option CodeJudgment)) : Type 0 where
  pub long : length judged ≡ length methods
  pub at : (i : ℕ) (method : MemberInfo) (found : Option CodeJudgment) → slice_get methods i ≡ Some method → slice_get judged i ≡ Some found
      → IsMethodJudged c method found

abbrev pub AreMethodsJudged : ClassFile → List (Option CodeJudgment) → Type 0
AreMethodsJudged c judged = AreJudged c c.methods judged

abbrev pub breaks : CodeRule → Option CodeJudgment → Bool
breaks Floats (Some j) = j.has_float
breaks Subroutines (Some j) = j.has_subroutine
breaks Monitors (Some j) = j.has_monitor
breaks ClassConstants (Some j) = j.loads_class
breaks BadCode (Some j) = j.is_bad
breaks _ None = false

-- a method's code is so
abbrev pub HasCodeAt : (Code → Type 0) → ClassFile → Spot → Type 0
HasCodeAt P c (Member n) = HasCode P c n
HasCodeAt P c (Entry i) = ⊥

-- the definition of the rule, or the part of it on codes
abbrev pub IsCodeRuleBroken : CodeRule → ClassFile → Spot → Type 0
IsCodeRuleBroken Floats c spot = HasCodeAt (UsesFloatIn c.pool) c spot
IsCodeRuleBroken Monitors c spot = HasCodeAt (Shows Monitor) c spot
IsCodeRuleBroken Subroutines c spot = UsesSubroutine c spot
IsCodeRuleBroken ClassConstants c spot = LoadsClass c spot
IsCodeRuleBroken BadCode c spot = HasBadCode c spot

-- the rule, of the code of one method
abbrev pub BreaksCodeRule : CodeRule → ClassFile → MemberInfo → Code → Type 0
BreaksCodeRule Floats c method code = UsesFloatIn c.pool code
BreaksCodeRule Subroutines c method code = Shows Subroutine code
BreaksCodeRule Monitors c method code = Shows Monitor code
BreaksCodeRule ClassConstants c method code = HasInstr (LoadsClassBy c.pool) code
BreaksCodeRule BadCode c method code =
    IsUndecodable code ⊎ HasInstr (IsBadInstr c.pool code) code ⊎ HasBadHandler c.pool code
    ⊎ ((flags : ℕ) × CountFlags c.pool method flags × TakesMore c.pool flags method code.max_locals)

-- the method has code that breaks the rule
abbrev pub HasWrongMethodCode : CodeRule → ClassFile → MemberInfo → Type 0
HasWrongMethodCode rule c method = (code : Code) × IsCodeOf c method code × BreaksCodeRule rule c method code
