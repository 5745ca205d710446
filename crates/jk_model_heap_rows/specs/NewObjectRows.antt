-- New objects and arrays, and the texts of literals (the Java Virtual Machine Specification, 6, new, newarray, anewarray,
-- multianewarray, ldc). What doesn't fit as a whole isn't made, and the standing OutOfMemoryError is raised; a negative count is met
-- before that. Which names new objects have is free.
use Rattle.std.specs.Prelude.{◌≡◌, ℕ, ◌⊎◌, ℤ, pos, negsuc, List, [], ◌∷◌, ◌++◌, length, map, Option, Some, None, option_and_then, option_map}
use Rattle.jk_model.specs.declared.identifiers.ClassId.{ClassId}
use Rattle.jk_model.specs.declared.instructions.Instr.{Instr}
use Rattle.jk_model.specs.declared.opcodes.TheConstants.{ANEWARRAY, LDC_W, MULTIANEWARRAY, NEW, NEWARRAY}
use Rattle.jk_model.specs.declared.steps.Raise.TheVariants as Raised
use Rattle.jk_model.specs.declared.steps.Standing.TheVariants as Stands
use Rattle.jk_model.specs.declared.values.Value.{Value}
use Rattle.jk_model.specs.declared.values.Value.TheVariants as Held
use Rattle.jk_model_classes.specs.declared.records.BaseRef.{BaseRef}
use Rattle.jk_model_classes.specs.declared.records.Link.TheVariants as To
use Rattle.jk_model_classes.specs.declared.records.TypeRef.{TypeRef}
use Rattle.jk_model_typing.specs.FrameTypes.{array_type}
use Rattle.jk_model_typing.specs.Rows.{IsCodeOf}
use Rattle.jk_model_typing.specs.Scopes.{CodeScope, LeadsToLink, NamesClass}
use Rattle.jk_model_domains.specs.NumberRows.{IsOnTop}
use Rattle.jk_model_domains.specs.Objects.{NamedObject, Text, object_words}
use Rattle.jk_model_domains.specs.OwnStates.{Literal, literal_named}
use Rattle.jk_model_heaps.specs.declared.shapes.Shape.{Shape}
use Rattle.jk_model_heaps.specs.declared.shapes.Shape.TheVariants as Of
use Rattle.jk_model_heaps.specs.Heaps.{Lacks, MakesOne, zero_object}
use Rattle.jk_model_heaps.specs.SystemClasses.{NEGATIVE_ARRAY_SIZE_EXCEPTION}
use Rattle.jk_model_heaps.specs.Workings.{GoesOnWith, Inside, Outcome, RaisesHere, Setting, Working, with_heap, with_own}
use Rattle.jk_model_heap_rows.specs.ArrayTrees.{MakesTree, tree_words}

-- so many words don't fit the domain's heap
abbrev pub LacksWords : Setting → Working → ℕ → Type 0
LacksWords x w words = Lacks x.classes x.quota w.inside.heap words

abbrev pub FailsForWords : Setting → Working → ℕ → Working → Outcome → Type 0
FailsForWords x w words new outcome = LacksWords x w words × RaisesHere w (Raised.Standing Stands.OutOfMemoryError) new outcome

-- the entries are taken, and a new object of the shape, all zeros and nulls, is pushed, where it fits
abbrev pub PushesNew : Setting → Working → List Value → Shape → Working → Outcome → Type 0
PushesNew x w taken shape new outcome =
    ((a : ℕ) × (heap : List NamedObject) × MakesOne x.classes x.quota w.inside.heap a (zero_object x.classes shape) heap
    × GoesOnWith w taken (Held.Obj a ∷ []) (with_heap w.inside heap) new outcome)
    ⊎ FailsForWords x w (object_words x.classes (zero_object x.classes shape)) new outcome

-- ---- The text of a literal: one object for equal texts in all classes of a domain, made where it is first used.

abbrev pub with_literal : Inside → Literal → Inside
with_literal inside l = with_own inside (record inside.own { literals = inside.own.literals ++ l ∷ [] })

pub record LoadsText (x : Setting) (s : CodeScope) (i : Instr) (w new : Working) (outcome : Outcome) : Type 0 where
  pub op : i.op ≡ LDC_W
  pub text : List ℕ
  pub names : LeadsToLink s i (To.Text text)
  pub does :
      ((a : ℕ) × (literal_named w.inside.own text ≡ Some a) × GoesOnWith w [] (Held.Obj a ∷ []) w.inside new outcome)
      ⊎ ((a : ℕ) × (heap : List NamedObject) × (literal_named w.inside.own text ≡ None)
      × MakesOne x.classes x.quota w.inside.heap a (Text text) heap
      × GoesOnWith w [] (Held.Obj a ∷ []) (with_heap (with_literal w.inside (record { text = text; name = a })) heap) new outcome)
      ⊎ ((literal_named w.inside.own text ≡ None) × FailsForWords x w (object_words x.classes (Text text)) new outcome)

-- ---- new. Its class is ready: a step sees to that before.

pub record MakesObject (x : Setting) (s : CodeScope) (i : Instr) (w new : Working) (outcome : Outcome) : Type 0 where
  pub op : i.op ≡ NEW
  pub class : ClassId
  pub names : NamesClass s i class
  pub does : PushesNew x w [] (Of.Plain class) new outcome

-- ---- Arrays.

-- a count of elements; none where it is negative
abbrev pub count_of : ℤ → Option ℕ
count_of (pos n) = Some n
count_of (negsuc n) = None

-- none where any is negative
abbrev pub counts_of : List ℤ → Option (List ℕ)
counts_of [] = Some []
counts_of (n ∷ more) = option_and_then (λ (count : ℕ). option_map (λ (counts : List ℕ). count ∷ counts) (counts_of more)) (count_of n)

-- newarray has a code for the kind of the elements, and anewarray names their type
abbrev pub MakesArrayOf : CodeScope → Instr → TypeRef → Type 0
MakesArrayOf s i element =
    ((i.op ≡ NEWARRAY) × ((code : ℕ) × (base : BaseRef) × (i.a ≡ pos code) × IsCodeOf base code × (element ≡ array_type 0 base)))
    ⊎ ((i.op ≡ ANEWARRAY) × LeadsToLink s i (To.Class element))

pub record MakesArray (x : Setting) (s : CodeScope) (i : Instr) (w new : Working) (outcome : Outcome) : Type 0 where
  pub element : TypeRef
  pub of_elements : MakesArrayOf s i element
  pub count : ℤ
  pub on_top : IsOnTop w.frame (Held.Int count ∷ [])
  pub does :
      ((count_of count ≡ None) × RaisesHere w (Raised.Fresh NEGATIVE_ARRAY_SIZE_EXCEPTION) new outcome)
      ⊎ ((n : ℕ) × (count_of count ≡ Some n) × PushesNew x w (Held.Int count ∷ []) (Of.Array element n) new outcome)

pub record MakesArrays (x : Setting) (s : CodeScope) (i : Instr) (w new : Working) (outcome : Outcome) : Type 0 where
  pub op : i.op ≡ MULTIANEWARRAY
  pub kind : TypeRef
  pub names : LeadsToLink s i (To.Class kind)
  -- as many as the second operand says; the count of the array that is pushed is the lowest of them
  pub counts : List ℤ
  pub as_many : i.b ≡ pos (length counts)
  pub on_top : IsOnTop w.frame (map Held.Int counts)
  pub does :
      ((counts_of counts ≡ None) × RaisesHere w (Raised.Fresh NEGATIVE_ARRAY_SIZE_EXCEPTION) new outcome)
      ⊎ ((sizes : List ℕ) × (counts_of counts ≡ Some sizes) × FailsForWords x w (tree_words kind sizes) new outcome)
      ⊎ ((sizes : List ℕ) × (a : ℕ) × (heap : List NamedObject) × (counts_of counts ≡ Some sizes)
      × (LacksWords x w (tree_words kind sizes) → ⊥) × MakesTree x kind sizes a w.inside.heap heap
      × GoesOnWith w (map Held.Int counts) (Held.Obj a ∷ []) (with_heap w.inside heap) new outcome)
