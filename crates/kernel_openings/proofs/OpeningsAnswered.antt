-- What is answered of a folder that isn't opened is what a `domain` event does by it.
use Rattle.std.proofs.Common.{◌≡◌, ◌≢◌, ℕ, List, [], ◌∷◌, Option, Some, None, refl, sym, subst, ◌∙◌}
use Rattle.std.proofs.lemmas.Option.{same_Some}
use Rattle.jk_model.specs.declared.output.Line.{Line}
use Rattle.jk_model.specs.declared.output.Line.TheVariants as Says
use Rattle.jk_model.specs.declared.output.Place.{Place}
use Rattle.jk_model.specs.declared.output.Place.TheVariants.{Whole}
use Rattle.jk_model.specs.declared.output.Rule.{Rule}
use Rattle.jk_model.specs.declared.output.Rule.TheVariants.{L3, L4, L8}
use Rattle.jk_model.specs.Outside.{Tree}
use Rattle.jk_model_classes.specs.Worlds.{WorldRecord}
use Rattle.jk_model_folders.specs.FolderRules.{IsFolderFault}
use Rattle.jk_model_machine_state.specs.Machines.{Machine, world_of}
use Rattle.jk_model_openings.specs.Openings.{no_numbers, no_room, too_many}
use Rattle.folder_loader.specs.declared.answers.LoadAnswer.{LoadAnswer}
use Rattle.folder_loader.specs.declared.answers.LoadAnswer.TheVariants as Loading
use Rattle.folder_loader.specs.LoadAnswers.{IsRefused}
use Rattle.kernel_openings.specs.declared.answers.AddAnswer.{AddAnswer}
use Rattle.kernel_openings.specs.declared.answers.AddAnswer.TheVariants as Adding
use Rattle.kernel_openings.specs.AddedDomains.{AddsDomain, IsCauseOf, Opening, breaks, line_of, opens}
use Rattle.kernel_openings.specs.FolderEvents.{IsRefusedFolder}
use Rattle.kernel_openings.specs.LoadedFolders.{IsLoadRefusal}

-- what a cause prints leads to the machine as it was
pub told_by_cause : (o : Opening) (m : Machine) (e : AddAnswer) (line : Line) → IsCauseOf o m e → line_of o.name e ≡ Some line
    → AddsDomain o m (line ∷ []) m
told_by_cause o m (Adding.Refused rule place) line refused is =
    subst (λ (x : Line). AddsDomain o m (x ∷ []) m) (same_Some (Says.Refused o.name rule place) line is) (breaks rule place refused)
told_by_cause o m Adding.NoRoom line (a, lacks) is =
    subst (λ (x : Line). AddsDomain o m (x ∷ []) m) (same_Some (Says.Refused o.name L3 Whole) line is)
    (opens a (Says.Refused o.name L3 Whole ∷ []) m (no_room a.accepted lacks))
told_by_cause o m Adding.CapNumbers line (a, room, lacks) is =
    subst (λ (x : Line). AddsDomain o m (x ∷ []) m) (same_Some (Says.Refused o.name L4 Whole) line is)
    (opens a (Says.Refused o.name L4 Whole ∷ []) m (no_numbers a.accepted room lacks))
told_by_cause o m Adding.TooManyDomains line (a, room, numbers, many) is =
    subst (λ (x : Line). AddsDomain o m (x ∷ []) m) (same_Some (Says.Refused o.name L8 Whole) line is)
    (opens a (Says.Refused o.name L8 Whole ∷ []) m (too_many a.accepted room numbers many))
told_by_cause o m Adding.ReadFault line cause is = (let no : None ≡ Some line = is in absurd cc)
told_by_cause o m Adding.OutOfMemory line cause is = (let no : None ≡ Some line = is in absurd cc)

-- ---- What is answered of a folder that isn't loaded.

refused_folder : (tree : Option Tree) (root : List ℕ) (w : WorldRecord) (name : List ℕ) (rule : Rule) (place : Place)
    → IsRefused tree root w name rule place → ((t : Tree) → tree ≡ Some t → IsFolderFault t root w name rule place)
    → IsRefusedFolder tree root w name rule place
refused_folder None root w name rule place is fault = is
refused_folder (Some t) root w name rule place is fault = fault t refl

pub cause_of_load : (o : Opening) (m : Machine) (w : WorldRecord) → world_of m ≡ w → (e : LoadAnswer) (answer : AddAnswer) → IsLoadRefusal e answer
    → ((rule : Rule) (place : Place) → e ≡ Loading.Refused rule place → IsRefused o.tree o.root w o.name rule place)
    → ((t : Tree) (rule : Rule) (place : Place) → o.tree ≡ Some t → e ≡ Loading.Refused rule place → IsFolderFault t o.root w o.name rule place)
    → IsCauseOf o m answer
cause_of_load o m w same (Loading.Refused rule place) answer is refused fault =
    subst (IsCauseOf o m) (sym is)
    (subst (λ (x : WorldRecord). IsRefusedFolder o.tree o.root x o.name rule place) (sym same)
    (refused_folder o.tree o.root w o.name rule place (refused rule place refl) (λ t told. fault t rule place told refl)))
cause_of_load o m w same Loading.ReadFault answer is refused fault = subst (IsCauseOf o m) (sym is) tt
cause_of_load o m w same Loading.OutOfMemory answer is refused fault = subst (IsCauseOf o m) (sym is) tt

-- a fault of the files alone is answered as one
pub load_fault : (e : LoadAnswer) (a : AddAnswer) → IsLoadRefusal e a → a ≡ Adding.ReadFault → e ≡ Loading.ReadFault
load_fault (Loading.Refused r p) a is e = (let no : Adding.Refused r p ≡ Adding.ReadFault = sym is ∙ e in absurd cc)
load_fault Loading.ReadFault a is e = refl
load_fault Loading.OutOfMemory a is e = (let no : Adding.OutOfMemory ≡ Adding.ReadFault = sym is ∙ e in absurd cc)

pub load_calm : (e : LoadAnswer) (a : AddAnswer) → IsLoadRefusal e a → a ≢ Adding.ReadFault → e ≢ Loading.ReadFault
load_calm (Loading.Refused r p) a is other e = absurd cc
load_calm Loading.ReadFault a is other e = other is
load_calm Loading.OutOfMemory a is other e = absurd cc

-- and a rule that is answered was the loader's answer
pub load_refused : (e : LoadAnswer) (a : AddAnswer) (rule : Rule) (place : Place) → IsLoadRefusal e a → a ≡ Adding.Refused rule place
    → e ≡ Loading.Refused rule place
load_refused (Loading.Refused r p) a rule place is same = (let both : Adding.Refused r p ≡ Adding.Refused rule place = sym is ∙ same in cc)
load_refused Loading.ReadFault a rule place is same = (let no : Adding.ReadFault ≡ Adding.Refused rule place = sym is ∙ same in absurd cc)
load_refused Loading.OutOfMemory a rule place is same = (let no : Adding.OutOfMemory ≡ Adding.Refused rule place = sym is ∙ same in absurd cc)
