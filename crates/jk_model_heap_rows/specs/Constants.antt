-- The constant texts of a class's static fields, which are set as the class is initialised (the Java Virtual Machine Specification,
-- 4.7.2 and 2.17.4). A constant is a literal like any other: a text that has an object already keeps it, and equal ones have one.
use Rattle.std.specs.Prelude.{◌≡◌, ℕ, ◌+◌, Bool, true, false, not, List, [], ◌∷◌, ◌++◌, length, filter, map, sum_by, Option, Some, None, bytes_eq, slice_get, option_and_then, if◌then◌else◌}
use Rattle.std.specs.List.{filter_map}
use Rattle.std.specs.Option.{option_map_or}
use Rattle.jk_model.specs.Flags.{has, STATIC}
use Rattle.jk_model.specs.declared.identifiers.ClassId.{ClassId}
use Rattle.jk_model.specs.declared.values.Value.TheVariants as Held
use Rattle.jk_model_classes.specs.declared.records.ClassRecord.{ClassRecord}
use Rattle.jk_model_classes.specs.declared.records.FieldRecord.{FieldRecord}
use Rattle.jk_model_classes.specs.declared.records.Link.{Link}
use Rattle.jk_model_classes.specs.declared.records.Link.TheVariants as To
use Rattle.jk_model_classes.specs.Layouts.{HEADER_WORDS}
use Rattle.jk_model_domains.specs.Objects.{NamedObject, Text}
use Rattle.jk_model_domains.specs.OwnStates.{ClassPart, HasState, Literal, OwnState, StaticField, literal_named, with_part}
use Rattle.jk_model_heaps.specs.Heaps.{Lacks, Makes, named}
use Rattle.jk_model_heaps.specs.Workings.{Inside, Setting}

-- ---- Which texts.

abbrev text_of_link : Link → Option (List ℕ)
text_of_link (To.Text text) = Some text
text_of_link link = None

-- the constant text of a field, if it is static and has one
abbrev static_text : FieldRecord → Option (List ℕ)
static_text f = if has f.flags STATIC then text_of_link f.constant else None

-- each text once, at the place where it comes first
abbrev first_ones : List (List ℕ) → List (List ℕ)
first_ones [] = []
first_ones (text ∷ more) = text ∷ filter (λ (other : List ℕ). not (bytes_eq other text)) (first_ones more)

abbrev is_no_literal : OwnState → List ℕ → Bool
is_no_literal own text = option_map_or (λ (a : ℕ). false) (literal_named own text) true

-- the constant texts of the class's static fields that have no object yet, each once
abbrev pub new_texts : OwnState → ClassRecord → List (List ℕ)
new_texts own r = filter (is_no_literal own) (first_ones (filter_map static_text r.fields))

-- ---- Setting them.

-- the constant text of the field at a place among all fields of the class
abbrev pub constant_text : ClassRecord → ℕ → Option (List ℕ)
constant_text r index = option_and_then (λ (f : FieldRecord). text_of_link f.constant) (slice_get r.fields index)

-- a static field with a constant text holds the text's object; the others are as they were
abbrev pub with_constant : OwnState → ClassRecord → StaticField → StaticField
with_constant own r f =
    option_map_or (λ (a : ℕ). record f { value = Held.Obj a }) (option_and_then (literal_named own) (constant_text r f.index)) f

abbrev pub with_constants : ClassId → ClassRecord → OwnState → OwnState
with_constants c r own = record own { classes = with_part c (λ (e : ClassPart). record e { statics = map (with_constant own r) e.statics }) own.classes }

abbrev pub text_object : Literal → NamedObject
text_object l = named l.name (Text l.text)

-- The texts that have no object yet are made together and become literals, and the class's fields are set.
pub record SetsConstants (x : Setting) (c : ClassId) (r : ClassRecord) (old new : Inside) : Type 0 where
  -- the class has static fields in this domain
  pub is_there : HasState old.own c
  pub more : List Literal
  pub are_new : map (λ (l : Literal). l.text) more ≡ new_texts old.own r
  pub makes : Makes x.classes x.quota old.heap (map text_object more) new.heap
  pub rest : new ≡ record old { heap = new.heap; own = with_constants c r (record old.own { literals = old.own.literals ++ more }) }

-- They don't fit together.
abbrev pub LacksConstants : Setting → ClassRecord → Inside → Type 0
LacksConstants x r old =
    Lacks x.classes x.quota old.heap (sum_by (λ (text : List ℕ). HEADER_WORDS + length text) (new_texts old.own r))
