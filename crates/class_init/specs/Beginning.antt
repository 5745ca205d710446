-- The parts and the texts of a domain as they begin, as far as its names have been gone through.
use Rattle.std.specs.Prelude.{◌≡◌, ◌≢◌, ℕ, ◌<◌, ◌⊎◌, ◌↔◌, List, [], ◌∷◌, ◌++◌, Contains, None, Some, replicate, slice_get}
use Rattle.jk_model.specs.declared.identifiers.ClassId.{ClassId}
use Rattle.jk_model_classes.specs.declared.records.ClassRecord.{ClassRecord}
use Rattle.jk_model_classes.specs.Classes.{record_of}
use Rattle.jk_model_classes.specs.Worlds.{NamedClass}
use Rattle.jk_model_domains.specs.OwnStates.{ClassPart, IsTextOf, OwnState}
use Rattle.class_init.specs.KeptStates.{KeptState}
use Rattle.class_init.specs.Parts.{part_in, HasPartOf, first_part}

-- The part of the class, as it begins, is there where it is no system class, and no other is new.
abbrev pub AddsPart : ClassId → ClassRecord → List ClassPart → List ClassPart → Type 0
AddsPart c r old new =
    ((r.home ≡ None) × (new ≡ old))
    ⊎ (HasPartOf old c × (new ≡ old))
    ⊎ ((r.home ≢ None) × (part_in old c ≡ None) × (new ≡ old ++ first_part c r ∷ []))

-- one of the first names means this class
pub record IsNamedBefore (table : List NamedClass) (end : ℕ) (c : ClassId) : Type 0 where
  pub place : ℕ
  pub low : place < end
  pub entry : NamedClass
  pub there : slice_get table place ≡ Some entry
  pub means : entry.class ≡ c

-- a class of one of the first names, and its record
pub record HasRecordBefore (classes : List ClassRecord) (table : List NamedClass) (end : ℕ) (c : ClassId) (r : ClassRecord) : Type 0 where
  pub named : IsNamedBefore table end c
  pub is : record_of classes c ≡ Some r

-- the part is that with which a class of one of the first names begins, which is no system class
pub record IsFirstPart (classes : List ClassRecord) (table : List NamedClass) (end : ℕ) (e : ClassPart) : Type 0 where
  pub of : ClassRecord
  pub has : HasRecordBefore classes table end e.class of
  pub own : of.home ≢ None
  pub begins : e ≡ first_part e.class of

-- a text to which the pool, or a constant of a field, of a class of one of the first names leads
pub record IsTextBefore (classes : List ClassRecord) (table : List NamedClass) (end : ℕ) (text : List ℕ) : Type 0 where
  pub class : ClassId
  pub of : ClassRecord
  pub has : HasRecordBefore classes table end class of
  pub leads : IsTextOf of text

-- the parts and texts of the classes of the first names
pub record IsBegun (classes : List ClassRecord) (table : List NamedClass) (end : ℕ) (parts : List ClassPart) (texts : List (List ℕ)) : Type 0 where
  pub each : (e : ClassPart) → Contains parts e → IsFirstPart classes table end e
  pub all : (c : ClassId) (r : ClassRecord) → HasRecordBefore classes table end c r → r.home ≢ None → HasPartOf parts c
  pub leads : (text : List ℕ) → Contains texts text ↔ IsTextBefore classes table end text

-- the state with these parts, in which no text has an object
abbrev pub new_state : List ClassPart → OwnState
new_state parts = record { classes = parts; literals = []; out = 0; standing = replicate 8 0 }

-- the same with room for objects of these texts
abbrev pub new_kept : List ClassPart → List (List ℕ) → KeptState
new_kept parts texts = record { state = new_state parts; rooms = texts }
