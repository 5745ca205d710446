-- Of a folder of a told tree that breaks no rule no more is answered than the first thing that is lacking, a read fault or want of memory.
use Rattle.std.proofs.Common.{◌≡◌, ◌⊎◌, inl, inr, ℕ, List, [], ◌∷◌, Option, Some, refl, subst}
use Rattle.jk_model.specs.declared.output.Line.{Line}
use Rattle.jk_model.specs.declared.output.Line.TheVariants as Says
use Rattle.jk_model.specs.declared.output.Place.{Place}
use Rattle.jk_model.specs.declared.output.Rule.{Rule}
use Rattle.jk_model.specs.declared.script.Quotas.{Quotas}
use Rattle.jk_model.specs.Outside.{Tree, ◌/-◌}
use Rattle.jk_model_folders.specs.declared.files.FolderFiles.{FolderFiles}
use Rattle.jk_model_folders.specs.FolderTrees.{AreToldFiles}
use Rattle.jk_model_machine_state.specs.Machines.{Machine, caps_of, world_of}
use Rattle.jk_model_openings.specs.Openings.{HasManyDomains, LacksPages, OpensWith}
use Rattle.jk_model_sharing.specs.CapabilityCalls.{LacksNumbers}
use Rattle.one_verdict.specs.Verdicts.{LoadedFoldersHaveNoFault}
use Rattle.kernel_openings.specs.declared.answers.AddAnswer.{AddAnswer}
use Rattle.kernel_openings.specs.declared.answers.AddAnswer.TheVariants as Adding
use Rattle.kernel_openings.specs.AddedDomains.{AddsDomain, HasAccepted, IsCauseOf, IsLacking, Opening}
use Rattle.kernel_openings.specs.FolderEvents.{IsRefusedFolder}

-- the answer, or one that isn't a matter of the machine
abbrev pub NoOther : AddAnswer → AddAnswer → Type 0
NoOther e a = (a ≡ e) ⊎ (a ≡ Adding.ReadFault) ⊎ (a ≡ Adding.OutOfMemory)

-- nothing is lacking
record LacksNothing (m : Machine) (q : Quotas) : Type 0 where
  pages : LacksPages m q → ⊥
  numbers : LacksNumbers (caps_of m) q.caps → ⊥
  few : HasManyDomains m → ⊥

opened_with : (f : FolderFiles) (m : Machine) (name : List ℕ) (q : Quotas) (lines : List Line) (new : Machine) → OpensWith f m name q lines new
    → lines ≡ Says.Loaded name ∷ [] → LacksNothing m q
opened_with f m name q lines new (OpensWith.no_room a lacks) e = absurd cc
opened_with f m name q lines new (OpensWith.no_numbers a room lacks) e = absurd cc
opened_with f m name q lines new (OpensWith.too_many a room numbers many) e = absurd cc
opened_with f m name q lines new (OpensWith.opens a inside room numbers few opened placed) e = record { pages = room; numbers = numbers; few = few }

opened_then : (o : Opening) (m : Machine) (lines : List Line) (new : Machine) → AddsDomain o m lines new → lines ≡ Says.Loaded o.name ∷ []
    → LacksNothing m o.quotas
opened_then o m lines new (AddsDomain.breaks rule place broken) e = absurd cc
opened_then o m lines new (AddsDomain.opens a said last h) e = opened_with a.files m o.name o.quotas said last h e

-- where something is lacking, no domain is opened
pub none_opened : (o : Opening) (m new : Machine) (e : AddAnswer) → IsLacking e → IsCauseOf o m e → AddsDomain o m (Says.Loaded o.name ∷ []) new → ⊥
none_opened o m new (Adding.Refused rule place) lacking why opened = lacking
none_opened o m new Adding.ReadFault lacking why opened = lacking
none_opened o m new Adding.OutOfMemory lacking why opened = lacking
none_opened o m new Adding.NoRoom lacking why opened = (opened_then o m _ new opened refl).pages why.1
none_opened o m new Adding.CapNumbers lacking why opened = (opened_then o m _ new opened refl).numbers why.2
none_opened o m new Adding.TooManyDomains lacking why opened = (opened_then o m _ new opened refl).few why.3

accepted_of : (o : Opening) (m : Machine) (e : AddAnswer) → IsLacking e → IsCauseOf o m e → HasAccepted o m
accepted_of o m (Adding.Refused rule place) lacking why = absurd lacking
accepted_of o m Adding.ReadFault lacking why = absurd lacking
accepted_of o m Adding.OutOfMemory lacking why = absurd lacking
accepted_of o m Adding.NoRoom lacking why = why.0
accepted_of o m Adding.CapNumbers lacking why = why.0
accepted_of o m Adding.TooManyDomains lacking why = why.0

-- what stands first is answered
first_lacking : (o : Opening) (m : Machine) (e a : AddAnswer) → IsLacking e → IsLacking a → IsCauseOf o m e → IsCauseOf o m a → a ≡ e
first_lacking o m (Adding.Refused rule place) a lacking other why cause = absurd lacking
first_lacking o m Adding.ReadFault a lacking other why cause = absurd lacking
first_lacking o m Adding.OutOfMemory a lacking other why cause = absurd lacking
first_lacking o m Adding.NoRoom (Adding.Refused rule place) lacking other why cause = absurd other
first_lacking o m Adding.NoRoom Adding.ReadFault lacking other why cause = absurd other
first_lacking o m Adding.NoRoom Adding.OutOfMemory lacking other why cause = absurd other
first_lacking o m Adding.NoRoom Adding.NoRoom lacking other why cause = refl
first_lacking o m Adding.NoRoom Adding.CapNumbers lacking other why cause = absurd (cause.1 why.1)
first_lacking o m Adding.NoRoom Adding.TooManyDomains lacking other why cause = absurd (cause.1 why.1)
first_lacking o m Adding.CapNumbers (Adding.Refused rule place) lacking other why cause = absurd other
first_lacking o m Adding.CapNumbers Adding.ReadFault lacking other why cause = absurd other
first_lacking o m Adding.CapNumbers Adding.OutOfMemory lacking other why cause = absurd other
first_lacking o m Adding.CapNumbers Adding.NoRoom lacking other why cause = absurd (why.1 cause.1)
first_lacking o m Adding.CapNumbers Adding.CapNumbers lacking other why cause = refl
first_lacking o m Adding.CapNumbers Adding.TooManyDomains lacking other why cause = absurd (cause.2 why.2)
first_lacking o m Adding.TooManyDomains (Adding.Refused rule place) lacking other why cause = absurd other
first_lacking o m Adding.TooManyDomains Adding.ReadFault lacking other why cause = absurd other
first_lacking o m Adding.TooManyDomains Adding.OutOfMemory lacking other why cause = absurd other
first_lacking o m Adding.TooManyDomains Adding.NoRoom lacking other why cause = absurd (why.1 cause.1)
first_lacking o m Adding.TooManyDomains Adding.CapNumbers lacking other why cause = absurd (why.2 cause.2)
first_lacking o m Adding.TooManyDomains Adding.TooManyDomains lacking other why cause = refl

module _ (law : LoadedFoldersHaveNoFault) (o : Opening) (m : Machine) (t : Tree) (told : o.tree ≡ Some t) where
  no_fault : (rule : Rule) (place : Place) → HasAccepted o m → IsRefusedFolder o.tree o.root (world_of m) o.name rule place → ⊥
  no_fault rule place a fault =
      law t o.root (world_of m) o.name a.files (record {
        first = a.accepted.first;
        table = a.accepted.table;
        offers = a.accepted.offers;
        stubs = a.accepted.stubs;
        world = a.accepted.world;
      }) rule place a.are_files (subst (λ (x : Option Tree). AreToldFiles x (o.root /- o.name) a.files) told a.are_told) a.accepted.loads
      (subst (λ (x : Option Tree). IsRefusedFolder x o.root (world_of m) o.name rule place) told fault)

  pub no_other : (e a : AddAnswer) → IsLacking e → IsCauseOf o m e → IsCauseOf o m a → NoOther e a
  no_other e (Adding.Refused rule place) lacking why cause = absurd (no_fault rule place (accepted_of o m e lacking why) cause)
  no_other e Adding.ReadFault lacking why cause = inr (inl refl)
  no_other e Adding.OutOfMemory lacking why cause = inr (inr refl)
  no_other e Adding.NoRoom lacking why cause = inl (first_lacking o m e Adding.NoRoom lacking tt why cause)
  no_other e Adding.CapNumbers lacking why cause = inl (first_lacking o m e Adding.CapNumbers lacking tt why cause)
  no_other e Adding.TooManyDomains lacking why cause = inl (first_lacking o m e Adding.TooManyDomains lacking tt why cause)
