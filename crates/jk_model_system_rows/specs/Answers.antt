-- What a method of a system class leaves: what its domain has inside, and its answer. Most methods change nothing, or make one object.
use Rattle.std.specs.Prelude.{◌≡◌, ℕ, ◌⊎◌, Bool, ℤ, pos, List, Option, Some, None, if◌then◌else◌}
use Rattle.jk_model.specs.declared.identifiers.ClassId.{ClassId}
use Rattle.jk_model.specs.declared.steps.Raise.{Raise}
use Rattle.jk_model.specs.declared.steps.Raise.TheVariants as Raised
use Rattle.jk_model.specs.declared.steps.Standing.TheVariants as Stands
use Rattle.jk_model.specs.declared.values.Value.{Value}
use Rattle.jk_model.specs.declared.values.Value.TheVariants as Held
use Rattle.jk_model_domains.specs.Objects.{NamedObject, Object, object_words}
use Rattle.jk_model_heaps.specs.Heaps.{Lacks, MakesOne}
use Rattle.jk_model_heaps.specs.Workings.{Inside, Request, Setting, with_heap}

pub data Answer : Type 0 where
  -- a value, or nothing where the method has no result
  Gives : Option Value → Answer
  -- nothing, and the domain says a text
  Tells : List ℕ → Answer
  Fails : Raise → Answer
  -- what is answered to this, which touches more than the method's own domain
  Wants : Request → Answer
  -- none: the domain is killed
  Ends : Answer

pub record Answered : Type 0 where
  pub inside : Inside
  pub answer : Answer

abbrev pub with_answer : Inside → Answer → Answered
with_answer inside answer = record { inside = inside; answer = answer }

-- ---- Answers by their kinds.

abbrev pub gives_value : Value → Answer
gives_value v = Gives (Some v)

abbrev pub gives_nothing : Answer
gives_nothing = Gives None

abbrev pub gives_int : ℤ → Answer
gives_int n = gives_value (Held.Int n)

-- 1 or 0
abbrev pub gives_truth : Bool → Answer
gives_truth b = gives_int (if b then pos 1 else pos 0)

-- a new throwable of the class is raised
abbrev pub fails_by : ClassId → Answer
fails_by c = Fails (Raised.Fresh c)

abbrev pub fails_for_memory : Answer
fails_for_memory = Fails (Raised.Standing Stands.OutOfMemoryError)

-- ---- The shapes of most rows.

-- nothing changes
abbrev pub Answers : Inside → Answer → Answered → Type 0
Answers old answer done = done ≡ with_answer old answer

-- One object is made, and what is left follows from its name and the heap that has it. Where it doesn't fit, nothing changes.
abbrev pub MakesAnd : Setting → Inside → Object → (ℕ → List NamedObject → Answered) → Answered → Type 0
MakesAnd x old object leaves done =
    ((a : ℕ) × (heap : List NamedObject) × MakesOne x.classes x.quota old.heap a object heap × (done ≡ leaves a heap))
    ⊎ (Lacks x.classes x.quota old.heap (object_words x.classes object) × Answers old fails_for_memory done)

-- a new object is the answer
abbrev pub AnswersNew : Setting → Inside → Object → Answered → Type 0
AnswersNew x old object done = MakesAnd x old object (λ a heap. with_answer (with_heap old heap) (gives_value (Held.Obj a))) done
