-- A domain's own state, and the stubs that it met, where more classes are put behind.
use Rattle.std.specs.Prelude.{ℕ, ◌↔◌, List, ◌++◌, Option}
use Rattle.jk_model.specs.declared.identifiers.ClassId.{ClassId}
use Rattle.jk_model.specs.declared.identifiers.MemberId.{MemberId}
use Rattle.jk_model_classes.specs.declared.records.ClassRecord.{ClassRecord}
use Rattle.jk_model_classes.specs.declared.sharing.Stub.{Stub}
use Rattle.jk_model_classes.specs.Classes.{HasClass, AreOrdered}
use Rattle.jk_model_classes.specs.Stubs.{IsStub, IsTarget}
use Rattle.jk_model_classes.specs.Worlds.{NamedClass, IsNamed}
use Rattle.jk_model_domains.specs.OwnStates.{IsLiteralOf, OwnState}

-- What is said of the state of a domain whose names mean classes that were there.
abbrev pub StaysInDomain : (List ClassRecord → List NamedClass → OwnState → Type 0) → Type 0
StaysInDomain Says =
    (classes more : List ClassRecord) (table : List NamedClass) (own : OwnState) → ((c : ClassId) → IsNamed table c → HasClass classes c)
    → Says classes table own → Says (classes ++ more) table own

-- the texts to which the classes of a domain lead are the same
abbrev pub LiteralsStay : Type 0
LiteralsStay =
    (classes more : List ClassRecord) (table : List NamedClass) (text : List ℕ) → ((c : ClassId) → IsNamed table c → HasClass classes c)
    → IsLiteralOf classes table text ↔ IsLiteralOf (classes ++ more) table text

abbrev pub StubsStay : Type 0
StubsStay =
    (classes more : List ClassRecord) (c : ClassId) (stub : Stub) → AreOrdered classes → HasClass classes c → IsStub classes c stub
    → IsStub (classes ++ more) c stub

abbrev pub TargetsStay : Type 0
TargetsStay =
    (classes more : List ClassRecord) (c : ClassId) (stub : Stub) (m : MemberId) (target : Option MemberId) → AreOrdered classes
    → HasClass classes c → IsStub classes c stub → IsTarget classes stub m target → IsTarget (classes ++ more) stub m target
