-- C24 and C23 are asked in turn of the classes in their order.
use Rattle.std.proofs.Common.{ℕ, List, [], ◌∷◌, length, Option, Some, None, sym, subst}
use Rattle.std.specs.Prelude.{IfNone, IfOk, IfSome, Result, Ok, Err}
use Rattle.jk_model.specs.declared.class_file.ClassFile.{ClassFile}
use Rattle.jk_model.specs.declared.identifiers.ClassId.{ClassId}
use Rattle.jk_model.specs.declared.output.Rule.{Rule}
use Rattle.jk_model.specs.declared.output.Rule.TheVariants.{C20, C21, C22, C23, C24, C25, C26, C27}
use Rattle.jk_model_classes.specs.declared.records.ClassRecord.{ClassRecord}
use Rattle.jk_model_classes.specs.Worlds.{WorldRecord}
use Rattle.jk_model_folders.specs.ClassOrder.{IsClassOrder}
use Rattle.jk_model_folders.specs.FolderRules.{BreaksPlaced, IsFirstBroken, NoneBroken, PlacedFolder, placed_rules}
use Rattle.jk_model_typing.specs.Typing.{BreaksC23, BreaksC24}
use Rattle.class_files.specs.declared.faults.FileFault.{FileFault}
use Rattle.placed_rules.specs.Codes.{AtMember}
use Rattle.placed_rules.specs.FirstFiles.{IsFirstFault}
use Rattle.placed_rules.specs.PlacedFaults.{IsLinkedAs, class_at, code_rules, link_rules}
use Rattle.placed_rules.proofs.RulesInTurn.{IsRuleAnswer, first_behind, none_broken, unbroken_by}
use Rattle.placed_rules.proofs.RulesOfClasses.{IsReadBy, class_answer, reads_sizes, reads_typings}

module _ (order : List ℕ) (classes : List ClassRecord) (first : ClassId) where
  -- what is answered of a rule on the classes of the table
  abbrev pub Answers : Rule → (List ClassRecord → ClassId → ℕ → Type 0) → Option FileFault → Type 0
  Answers rule Breaks found = IsFirstFault rule (length order) order (λ k. AtMember (Breaks classes (class_at first k))) found

  -- the same of a placed folder
  placed_answer : (rule : Rule) (Breaks : List ClassRecord → ClassId → ℕ → Type 0) (found : Option FileFault) → Answers rule Breaks found
      → (w : WorldRecord) (cs : List ClassFile) (p : PlacedFolder) → IsReadBy w cs p rule (Breaks p.classes) → IsClassOrder cs order
      → IsLinkedAs w p classes order first → IsRuleAnswer (BreaksPlaced w cs p) rule found
  placed_answer rule Breaks found h w cs p reads ordered (linked, places, number) =
      let Told : List ClassRecord → List ℕ → Type 0 = λ t o. IsFirstFault rule (length o) o (λ k. AtMember (Breaks t (class_at first k))) found in
      let of_order : Told classes p.order = subst (λ (o : List ℕ). Told classes o) (sym places) h in
      let of_classes : Told p.classes p.order = subst (λ (t : List ClassRecord). Told t p.order) (sym linked) of_order in
      class_answer w cs p first number (subst (λ (o : List ℕ). IsClassOrder cs o) (sym places) ordered) rule (Breaks p.classes) reads found of_classes

  sizes_answer : (found : Option FileFault) → Answers C24 BreaksC24 found → (w : WorldRecord) (cs : List ClassFile) (p : PlacedFolder)
      → IsClassOrder cs order → IsLinkedAs w p classes order first → IsRuleAnswer (BreaksPlaced w cs p) C24 found
  sizes_answer found h w cs p = placed_answer C24 BreaksC24 found h w cs p (reads_sizes w cs p)

  typings_answer : (found : Option FileFault) → Answers C23 BreaksC23 found → (w : WorldRecord) (cs : List ClassFile) (p : PlacedFolder)
      → IsClassOrder cs order → IsLinkedAs w p classes order first → IsRuleAnswer (BreaksPlaced w cs p) C23 found
  typings_answer found h w cs p = placed_answer C23 BreaksC23 found h w cs p (reads_typings w cs p)

  abbrev pub IsPlacedFirst : FileFault → Type 0
  IsPlacedFirst f =
      (w : WorldRecord) (cs : List ClassFile) (p : PlacedFolder) → IsClassOrder cs order → IsLinkedAs w p classes order first
      → NoneBroken link_rules (BreaksPlaced w cs p) → IsFirstBroken placed_rules (BreaksPlaced w cs p) f.rule f.file f.number

  pub sizes_first : (fault : FileFault) → Answers C24 BreaksC24 (Some fault) → IsPlacedFirst fault
  sizes_first fault h = λ w cs p ordered seen none.
      first_behind (BreaksPlaced w cs p) (C20 ∷ C21 ∷ C22 ∷ []) C24 (C23 ∷ C25 ∷ C26 ∷ C27 ∷ []) fault
      (unbroken_by (BreaksPlaced w cs p) link_rules none) (sizes_answer (Some fault) h w cs p ordered seen)

  pub typings_first : (found : Option FileFault) → Answers C24 BreaksC24 None → Answers C23 BreaksC23 found → IfSome found IsPlacedFirst
  typings_first None small h = tt
  typings_first (Some fault) small h = λ w cs p ordered seen none.
      let links = unbroken_by (BreaksPlaced w cs p) link_rules none in
      first_behind (BreaksPlaced w cs p) (C20 ∷ C21 ∷ C22 ∷ C24 ∷ []) C23 (C25 ∷ C26 ∷ C27 ∷ []) fault
      (links.0, (links.1.0, (links.1.1.0, (sizes_answer None small w cs p ordered seen, tt)))) (typings_answer (Some fault) h w cs p ordered seen)

  pub none_of_codes : (found : Option FileFault) → Answers C24 BreaksC24 None → Answers C23 BreaksC23 found
      → IfNone found ((w : WorldRecord) (cs : List ClassFile) (p : PlacedFolder) → IsClassOrder cs order → IsLinkedAs w p classes order first
      → NoneBroken code_rules (BreaksPlaced w cs p))
  none_of_codes None small h = λ w cs p ordered seen.
      none_broken (BreaksPlaced w cs p) code_rules
      (sizes_answer None small w cs p ordered seen, (typings_answer None h w cs p ordered seen, tt))
  none_of_codes (Some fault) small h = tt

  -- the same where memory may have lacked
  pub told_first : {E : Type 0} (r : Result (Option FileFault) E) → Answers C24 BreaksC24 None → IfOk r (λ found. Answers C23 BreaksC23 found)
      → IfOk r (λ found. IfSome found IsPlacedFirst)
  told_first (Ok found) small h = typings_first found small h
  told_first (Err e) small h = tt

  pub told_none : {E : Type 0} (r : Result (Option FileFault) E) → Answers C24 BreaksC24 None → IfOk r (λ found. Answers C23 BreaksC23 found)
      → IfOk r (λ found. IfNone found ((w : WorldRecord) (cs : List ClassFile) (p : PlacedFolder) → IsClassOrder cs order
      → IsLinkedAs w p classes order first → NoneBroken code_rules (BreaksPlaced w cs p)))
  told_none (Ok found) small h = none_of_codes found small h
  told_none (Err e) small h = tt
