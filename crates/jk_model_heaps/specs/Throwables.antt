-- Which object is raised. Eight throwables stand in a heap from its opening on and are raised as they stand; every other
-- throwable of the machine is made for it, with a null message, or is the standing OutOfMemoryError where it doesn't fit.
use Rattle.std.specs.Prelude.{◌≡◌, ℕ, ◌⊎◌, List, Some, slice_get}
use Rattle.jk_model.specs.declared.identifiers.ClassId.{ClassId}
use Rattle.jk_model.specs.declared.steps.Raise.{Raise}
use Rattle.jk_model.specs.declared.steps.Raise.TheVariants as Raised
use Rattle.jk_model.specs.declared.steps.Standing.{Standing}
use Rattle.jk_model.specs.declared.steps.Standing.TheVariants as Stands
use Rattle.jk_model_classes.specs.declared.records.ClassRecord.{ClassRecord}
use Rattle.jk_model_domains.specs.Objects.{NamedObject, Object, object_words}
use Rattle.jk_model_domains.specs.OwnStates.{OwnState, standing_place}
use Rattle.jk_model_heaps.specs.declared.shapes.Shape.TheVariants as Of
use Rattle.jk_model_heaps.specs.Heaps.{Lacks, MakesOne, zero_object}
use Rattle.jk_model_heaps.specs.SystemClasses.{NOT_COPIABLE_EXCEPTION, OUT_OF_MEMORY_ERROR, QUOTA_EXCEPTION, REMOTE_EXCEPTION, REVOKED_EXCEPTION, SECURITY_EXCEPTION, STACK_OVERFLOW_ERROR, THREAD_DEATH}
use Rattle.jk_model_heaps.specs.Workings.{Inside, Setting, with_heap}

abbrev pub standing_class : Standing → ClassId
standing_class Stands.OutOfMemoryError = OUT_OF_MEMORY_ERROR
standing_class Stands.StackOverflowError = STACK_OVERFLOW_ERROR
standing_class Stands.Revoked = REVOKED_EXCEPTION
standing_class Stands.Quota = QUOTA_EXCEPTION
standing_class Stands.NotCopiable = NOT_COPIABLE_EXCEPTION
standing_class Stands.Remote = REMOTE_EXCEPTION
standing_class Stands.ThreadDeath = THREAD_DEATH
standing_class Stands.Security = SECURITY_EXCEPTION

-- the name of a standing throwable
abbrev pub IsStanding : OwnState → Standing → ℕ → Type 0
IsStanding own s a = slice_get own.standing (standing_place s) ≡ Some a

-- a new throwable of a class, whose message is null
abbrev pub fresh_throwable : List ClassRecord → ClassId → Object
fresh_throwable classes c = zero_object classes (Of.Plain c)

-- what is raised is the object of this name, which may have been made for it
abbrev pub IsRaised : Setting → Inside → Raise → Inside → ℕ → Type 0
IsRaised x old (Raised.Object a) new b = (new ≡ old) × (b ≡ a)
IsRaised x old (Raised.Standing s) new b = (new ≡ old) × IsStanding old.own s b
IsRaised x old (Raised.Fresh c) new b =
    ((heap : List NamedObject) × MakesOne x.classes x.quota old.heap b (fresh_throwable x.classes c) heap × (new ≡ with_heap old heap))
    ⊎ (Lacks x.classes x.quota old.heap (object_words x.classes (fresh_throwable x.classes c)) × (new ≡ old)
    × IsStanding old.own Stands.OutOfMemoryError b)
