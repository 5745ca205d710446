-- A value that a field, an element or a static field of a type may hold has a copy that one of that type may hold where the copy is: an object's
-- copy is of the object's class or array type.
use Rattle.std.proofs.Common.{◌≡◌, ℕ, ◌+◌, List, Contains, Some, None, refl, sym, ap, subst, ◌∙◌}
use Rattle.jk_model.specs.declared.values.Value.{Value}
use Rattle.jk_model.specs.declared.values.Value.TheVariants as Held
use Rattle.jk_model_classes.specs.declared.records.ClassRecord.{ClassRecord}
use Rattle.jk_model_classes.specs.declared.records.TypeRef.{TypeRef}
use Rattle.jk_model_typing.specs.declared.frames.VType.{VType}
use Rattle.jk_model_typing.specs.declared.frames.VType.TheVariants.{Unusable, Int, Long, Null, Ref, Fresh, FreshThis}
use Rattle.jk_model_typing.specs.FrameTypes.{RefFits, array_type, value_of}
use Rattle.jk_model_domains.specs.Objects.{NamedObject, Object, Array, Plain, Task, Text, CAPABILITY, class_type, object_named, type_of}
use Rattle.jk_model_domains.specs.ValueTypes.{HoldsDeclared}
use Rattle.jk_model_graphs.specs.Copies.{ArePaired, Corresponds, IsCopied, IsCopy}
use Rattle.jk_model_graphs.specs.Reach.{Graph}
use Rattle.jk_model_heaps.specs.Heaps.{named}
use Rattle.jk_model_heaps.proofs.NamesInHeaps.{behind, stands}
use Rattle.std.proofs.lemmas.Option.{same_Some}

-- ---- An object and its copy are of one type.

pub one_type : (classes : List ClassRecord) (pairs : List (ℕ × ℕ)) (object copy : Object) → IsCopied classes pairs object copy
    → type_of object ≡ type_of copy
one_type classes pairs (Plain c values) (Plain d others) same = ap class_type same.0
one_type classes pairs (Array t items) (Array u others) same = ap (λ (k : TypeRef). array_type (k.dims + 1) k.base) same.0
one_type classes pairs (Text units) (Text others) same = refl
one_type classes pairs (Task s) (Task t) same = refl
one_type classes pairs (Plain c values) (Array u others) same = absurd same
one_type classes pairs (Plain c values) (Text others) same = absurd same
one_type classes pairs (Plain c values) (Task t) same = absurd same
one_type classes pairs (Array t items) (Plain d others) same = absurd same
one_type classes pairs (Array t items) (Text others) same = absurd same
one_type classes pairs (Array t items) (Task s) same = absurd same
one_type classes pairs (Text units) (Plain d others) same = absurd same
one_type classes pairs (Text units) (Array u others) same = absurd same
one_type classes pairs (Text units) (Task t) same = absurd same
one_type classes pairs (Task s) (Plain d others) same = absurd same
one_type classes pairs (Task s) (Array u others) same = absurd same
one_type classes pairs (Task s) (Text others) same = absurd same

-- ---- The copy is found in the heap that has it.

pub is_found : (classes : List ClassRecord) (source : Graph) (before : List NamedObject) (copy : Graph) (pairs : List (ℕ × ℕ)) (a b : ℕ)
    → IsCopy classes source before copy pairs → Contains pairs (a, b) → ArePaired classes source.heap copy.heap pairs a b
is_found classes source before copy pairs a b h pair =
    let paired = h.each_made a b pair in
    let lacked : object_named before b ≡ None = h.fresh (named b paired.copy) (stands h.made b paired.copy paired.is_copy) in
    let found : object_named copy.heap b ≡ Some paired.copy =
    ap (λ (heap : List NamedObject). object_named heap b) h.grown ∙ behind before h.made b lacked ∙ paired.is_copy in
    record { object = paired.object; is_object = paired.is_object; copy = paired.copy; is_copy = found; same = paired.same }

-- ---- Values.

-- an object's name in one heap, and one of an object of the same type in another
fits_type : (classes : List ClassRecord) (heap other : List NamedObject) (pairs : List (ℕ × ℕ)) (a b : ℕ) → ArePaired classes heap other pairs a b
    → (t : TypeRef) → ((object : Object) × (object_named heap a ≡ Some object) × RefFits classes (type_of object) t)
    → (object : Object) × (object_named other b ≡ Some object) × RefFits classes (type_of object) t
fits_type classes heap other pairs a b p t (object, is, fits) =
    let first : object ≡ p.object = same_Some object p.object (sym is ∙ p.is_object) in
    let e : type_of object ≡ type_of p.copy = ap type_of first ∙ one_type classes pairs p.object p.copy p.same in
    (p.copy, p.is_copy, subst (λ (k : TypeRef). RefFits classes k t) e fits)

-- as `HoldsDeclared`, of a type of values
abbrev Holds : List ClassRecord → List NamedObject → Value → VType → Type 0
Holds classes heap (Held.Int n) Int = Unit {0}
Holds classes heap (Held.Long n) Long = Unit {0}
Holds classes heap Held.Null (Ref t) = Unit {0}
Holds classes heap (Held.Obj a) (Ref t) = (object : Object) × (object_named heap a ≡ Some object) × RefFits classes (type_of object) t
Holds classes heap (Held.Cap k) (Ref t) = RefFits classes (class_type CAPABILITY) t
Holds classes heap _ _ = ⊥

object_fits : (classes : List ClassRecord) (heap other : List NamedObject) (pairs : List (ℕ × ℕ)) (a b : ℕ) → ArePaired classes heap other pairs a b
    → (t : VType) → Holds classes heap (Held.Obj a) t → Holds classes other (Held.Obj b) t
object_fits classes heap other pairs a b p (Ref t) h = fits_type classes heap other pairs a b p t h
object_fits classes heap other pairs a b p Unusable h = absurd h
object_fits classes heap other pairs a b p Int h = absurd h
object_fits classes heap other pairs a b p Long h = absurd h
object_fits classes heap other pairs a b p Null h = absurd h
object_fits classes heap other pairs a b p (Fresh place) h = absurd h
object_fits classes heap other pairs a b p FreshThis h = absurd h

-- a value that names no object is its own copy
abbrev pub IsNoName : Value → Type 0
IsNoName (Held.Obj a) = ⊥
IsNoName v = Unit {0}

pub its_own : (pairs : List (ℕ × ℕ)) (v w : Value) → IsNoName v → Corresponds pairs v w → v ≡ w
its_own pairs (Held.Int n) (Held.Int m) nameless h = h
its_own pairs (Held.Int n) (Held.Long m) nameless h = h
its_own pairs (Held.Int n) Held.Null nameless h = h
its_own pairs (Held.Int n) (Held.Obj b) nameless h = absurd h
its_own pairs (Held.Int n) (Held.Cap k) nameless h = h
its_own pairs (Held.Int n) Held.Unset nameless h = h
its_own pairs (Held.Long n) (Held.Int m) nameless h = h
its_own pairs (Held.Long n) (Held.Long m) nameless h = h
its_own pairs (Held.Long n) Held.Null nameless h = h
its_own pairs (Held.Long n) (Held.Obj b) nameless h = absurd h
its_own pairs (Held.Long n) (Held.Cap k) nameless h = h
its_own pairs (Held.Long n) Held.Unset nameless h = h
its_own pairs Held.Null (Held.Int m) nameless h = h
its_own pairs Held.Null (Held.Long m) nameless h = h
its_own pairs Held.Null Held.Null nameless h = h
its_own pairs Held.Null (Held.Obj b) nameless h = absurd h
its_own pairs Held.Null (Held.Cap k) nameless h = h
its_own pairs Held.Null Held.Unset nameless h = h
its_own pairs (Held.Cap c) (Held.Int m) nameless h = h
its_own pairs (Held.Cap c) (Held.Long m) nameless h = h
its_own pairs (Held.Cap c) Held.Null nameless h = h
its_own pairs (Held.Cap c) (Held.Obj b) nameless h = absurd h
its_own pairs (Held.Cap c) (Held.Cap k) nameless h = h
its_own pairs (Held.Cap c) Held.Unset nameless h = h
its_own pairs Held.Unset (Held.Int m) nameless h = h
its_own pairs Held.Unset (Held.Long m) nameless h = h
its_own pairs Held.Unset Held.Null nameless h = h
its_own pairs Held.Unset (Held.Obj b) nameless h = absurd h
its_own pairs Held.Unset (Held.Cap k) nameless h = h
its_own pairs Held.Unset Held.Unset nameless h = h
its_own pairs (Held.Obj a) w nameless h = absurd nameless

-- what it may be held in doesn't depend on the heap
stays : (classes : List ClassRecord) (heap other : List NamedObject) (v : Value) (t : VType) → IsNoName v → Holds classes heap v t
    → Holds classes other v t
stays classes heap other (Held.Obj a) t nameless h = absurd nameless
stays classes heap other (Held.Int n) Int nameless h = h
stays classes heap other (Held.Long n) Long nameless h = h
stays classes heap other Held.Null (Ref t) nameless h = h
stays classes heap other (Held.Cap k) (Ref t) nameless h = h
stays classes heap other v t nameless h = h

copied_fits : (classes : List ClassRecord) (source : Graph) (before : List NamedObject) (copy : Graph) (pairs : List (ℕ × ℕ)) (v w : Value)
    (t : VType) → IsCopy classes source before copy pairs → Corresponds pairs v w → Holds classes source.heap v t → Holds classes copy.heap w t
copied_fits classes source before copy pairs (Held.Obj a) (Held.Obj b) t h same holds =
    object_fits classes source.heap copy.heap pairs a b (is_found classes source before copy pairs a b h same) t holds
copied_fits classes source before copy pairs (Held.Obj a) (Held.Int n) t h same holds = absurd same
copied_fits classes source before copy pairs (Held.Obj a) (Held.Long n) t h same holds = absurd same
copied_fits classes source before copy pairs (Held.Obj a) Held.Null t h same holds = absurd same
copied_fits classes source before copy pairs (Held.Obj a) (Held.Cap k) t h same holds = absurd same
copied_fits classes source before copy pairs (Held.Obj a) Held.Unset t h same holds = absurd same
copied_fits classes source before copy pairs (Held.Int n) w t h same holds =
    subst (λ (x : Value). Holds classes copy.heap x t) (its_own pairs (Held.Int n) w tt same)
    (stays classes source.heap copy.heap (Held.Int n) t tt holds)
copied_fits classes source before copy pairs (Held.Long n) w t h same holds =
    subst (λ (x : Value). Holds classes copy.heap x t) (its_own pairs (Held.Long n) w tt same)
    (stays classes source.heap copy.heap (Held.Long n) t tt holds)
copied_fits classes source before copy pairs Held.Null w t h same holds =
    subst (λ (x : Value). Holds classes copy.heap x t) (its_own pairs Held.Null w tt same)
    (stays classes source.heap copy.heap Held.Null t tt holds)
copied_fits classes source before copy pairs (Held.Cap k) w t h same holds =
    subst (λ (x : Value). Holds classes copy.heap x t) (its_own pairs (Held.Cap k) w tt same)
    (stays classes source.heap copy.heap (Held.Cap k) t tt holds)
copied_fits classes source before copy pairs Held.Unset w t h same holds =
    subst (λ (x : Value). Holds classes copy.heap x t) (its_own pairs Held.Unset w tt same)
    (stays classes source.heap copy.heap Held.Unset t tt holds)

pub copied_values_fit : (classes : List ClassRecord) (source : Graph) (before : List NamedObject) (copy : Graph) (pairs : List (ℕ × ℕ)) (v w : Value)
    (t : TypeRef) → IsCopy classes source before copy pairs → Corresponds pairs v w → HoldsDeclared classes source.heap v t
    → HoldsDeclared classes copy.heap w t
copied_values_fit classes source before copy pairs v w t h same holds =
    copied_fits classes source before copy pairs v w (value_of classes t) h same holds
