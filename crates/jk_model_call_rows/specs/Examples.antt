-- Worked examples: an interface `I` with a method `m`; classes `A`, `B` below it and `C` below that, of which the first two have a
-- method `m` too, a method `p` that is private in the first alone, and constructors; and classes that implement `I`, one with a private `m`
-- and one without. After these classes of two packages and two domains, and the system classes of which values are. `src/examples.rt` states
-- which methods calls of these run.
use Rattle.std.specs.Prelude.{ℕ, ◌+◌, List, [], ◌∷◌, ◌++◌, codes, replicate, Option, Some, None}
use Rattle.jk_model.specs.Flags.{ABSTRACT, INTERFACE, PRIVATE, PUBLIC}
use Rattle.jk_model.specs.declared.identifiers.ClassId.{ClassId}
use Rattle.jk_model.specs.declared.identifiers.DomainId.{DomainId}
use Rattle.jk_model.specs.declared.identifiers.MemberId.{MemberId}
use Rattle.jk_model_classes.specs.declared.records.Body.{Body}
use Rattle.jk_model_classes.specs.declared.records.Body.TheVariants as Does
use Rattle.jk_model_classes.specs.declared.records.ClassRecord.{ClassRecord}
use Rattle.jk_model_classes.specs.declared.records.MethodRecord.{MethodRecord}
use Rattle.jk_model_classes.specs.Classes.{OBJECT}
use Rattle.jk_model_classes.specs.Members.{INIT}
use Rattle.jk_model_typing.specs.FrameTypes.{STRING}

-- a method without parameters and result
abbrev pub method_with : List ℕ → ℕ → Body → MethodRecord
method_with name flags body = record {
  name = name;
  flags = flags;
  kind = record { params = []; result = None };
  params = [];
  result = None;
  body = body;
}

-- one with code, which no example looks at
abbrev pub method_of_code : List ℕ → ℕ → MethodRecord
method_of_code name flags = method_with name flags (Does.Linked (record { max_stack = 0; max_locals = 1; instrs = []; handlers = [] }))

abbrev pub class_with : List ℕ → ℕ → Option ClassId → List ClassId → List MethodRecord → ClassRecord
class_with name flags parent interfaces methods = record {
  name = name;
  home = None;
  flags = flags;
  parent = parent;
  interfaces = interfaces;
  fields = [];
  methods = methods;
  links = [];
  references = [];
}

abbrev pub I : ClassId
I = record { 0 = 1 }

abbrev pub A : ClassId
A = record { 0 = 2 }

abbrev pub B : ClassId
B = record { 0 = 3 }

abbrev pub C : ClassId
C = record { 0 = 4 }

abbrev pub HIDES : ClassId
HIDES = record { 0 = 5 }

abbrev pub LACKS : ClassId
LACKS = record { 0 = 6 }

abbrev pub private_p : MethodRecord
private_p = method_of_code (codes "p") PRIVATE

abbrev pub public_m : MethodRecord
public_m = method_of_code (codes "m") PUBLIC

abbrev pub public_p : MethodRecord
public_p = method_of_code (codes "p") PUBLIC

abbrev pub constructor : MethodRecord
constructor = method_of_code INIT PUBLIC

abbrev pub classes_of_calls : List ClassRecord
classes_of_calls =
    class_with (codes "java/lang/Object") PUBLIC None [] (method_with (codes "o") PUBLIC (Does.System 0) ∷ [])
    ∷ class_with (codes "I") (PUBLIC + INTERFACE + ABSTRACT) (Some OBJECT) [] (method_with (codes "m") (PUBLIC + ABSTRACT) Does.Absent ∷ [])
    ∷ class_with (codes "A") PUBLIC (Some OBJECT) [] (public_m ∷ private_p ∷ constructor ∷ [])
    ∷ class_with (codes "B") PUBLIC (Some A) [] (public_m ∷ public_p ∷ constructor ∷ [])
    ∷ class_with (codes "C") PUBLIC (Some B) [] []
    ∷ class_with (codes "Hides") PUBLIC (Some OBJECT) (I ∷ []) (method_of_code (codes "m") PRIVATE ∷ [])
    ∷ class_with (codes "Lacks") PUBLIC (Some OBJECT) (I ∷ []) [] ∷ []

abbrev pub member_at : ClassId → ℕ → MemberId
member_at class index = record { class = class; index = index }

-- ---- Packages: `p/A` has a method `m` without a mark, and so have classes below it: `q/B`, `p/C` below that, `p/D` of another domain's
-- folder, and `p/E`, whose own is private.

abbrev class_of : DomainId → List ℕ → ClassId → MethodRecord → ClassRecord
class_of home name parent method = record (class_with name PUBLIC (Some parent) [] (method ∷ [])) { home = Some home }

abbrev here : DomainId
here = record { 0 = 0 }

abbrev elsewhere : DomainId
elsewhere = record { 0 = 1 }

abbrev pub P_A : ClassId
P_A = record { 0 = 1 }

abbrev pub Q_B : ClassId
Q_B = record { 0 = 2 }

abbrev pub P_C : ClassId
P_C = record { 0 = 3 }

abbrev pub P_D : ClassId
P_D = record { 0 = 4 }

abbrev pub P_E : ClassId
P_E = record { 0 = 5 }

abbrev pub unmarked_m : MethodRecord
unmarked_m = method_of_code (codes "m") 0

abbrev pub private_m : MethodRecord
private_m = method_of_code (codes "m") PRIVATE

abbrev pub p_a : ClassRecord
p_a = class_of here (codes "p/A") OBJECT unmarked_m

abbrev pub q_b : ClassRecord
q_b = class_of here (codes "q/B") P_A public_m

abbrev pub p_d : ClassRecord
p_d = class_of elsewhere (codes "p/D") P_A public_m

abbrev pub classes_of_packages : List ClassRecord
classes_of_packages =
    class_with (codes "java/lang/Object") PUBLIC None [] []
    ∷ p_a
    ∷ q_b
    ∷ class_of here (codes "p/C") Q_B unmarked_m
    ∷ p_d
    ∷ class_of here (codes "p/E") P_A private_m ∷ []

-- ---- Classes of values: java/lang/Object, java/lang/String and a class of one's own have a method `equals` each, jk/Capability and jk/Task have
-- none; an interface has one too, and another method that the class of one's own implements. No example looks at the other system classes.

abbrev equals : ClassId → MethodRecord
equals c = method_with (codes "equals") PUBLIC (Does.System c.0)

abbrev system_class : List ℕ → List MethodRecord → ClassRecord
system_class name methods = class_with name PUBLIC (Some OBJECT) [] methods

abbrev other : ClassRecord
other = system_class (codes "Other") []

abbrev pub ASKS : ClassId
ASKS = record { 0 = 15 }

abbrev pub OWN : ClassId
OWN = record { 0 = 16 }

abbrev pub classes_of_values : List ClassRecord
classes_of_values =
    class_with (codes "java/lang/Object") PUBLIC None [] (equals OBJECT ∷ [])
    ∷ replicate 2 other
    ++ system_class (codes "java/lang/String") (equals STRING ∷ [])
    ∷ replicate 7 other
    ++ system_class (codes "jk/Capability") []
    ∷ replicate 2 other
    ++ system_class (codes "jk/Task") []
    ∷ class_with (codes "Asks") (PUBLIC + INTERFACE + ABSTRACT) (Some OBJECT) []
    (method_with (codes "ask") (PUBLIC + ABSTRACT) Does.Absent ∷ method_with (codes "equals") (PUBLIC + ABSTRACT) Does.Absent ∷ [])
    ∷ class_with (codes "Own") PUBLIC (Some OBJECT) (ASKS ∷ []) (method_of_code (codes "equals") PUBLIC ∷ method_of_code (codes "ask") PUBLIC ∷ [])
    ∷ []
