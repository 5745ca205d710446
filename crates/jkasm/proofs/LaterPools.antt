-- What is said of a pool is said of one that extends it: of code, handlers, attributes, members and a method that is built.
use Rattle.std.proofs.Common.{ℕ, ◌+◌, inl, inr, List, [], ◌∷◌, Option, Some, None}
use Rattle.jk_model.specs.declared.class_file.Attribute.{Attribute}
use Rattle.jk_model.specs.declared.class_file.Handler.{Handler}
use Rattle.jk_model.specs.declared.class_file.MemberInfo.{MemberInfo}
use Rattle.jk_model.specs.declared.class_file.PoolEntry.{PoolEntry}
use Rattle.asm_reader.specs.declared.items.CatchLine.{CatchLine}
use Rattle.asm_reader.specs.declared.items.CodeLine.{CodeLine}
use Rattle.asm_reader.specs.declared.items.Constant.{Constant}
use Rattle.asm_reader.specs.declared.items.FieldLine.{FieldLine}
use Rattle.asm_reader.specs.declared.items.LineReading.{LineReading}
use Rattle.asm_reader.specs.declared.items.MemberKind.TheVariants.{Field, Method, InterfaceMethod}
use Rattle.asm_reader.specs.declared.items.Statement.{Statement}
use Rattle.asm_reader.specs.declared.items.Statement.TheVariants.{Simple, Push, Load, OnLocal, Increment, Jump, OnMember, OnClass, NewArray, NewArrays, Switch}
use Rattle.jkasm.specs.declared.method_builder.MethodBuilder.{MethodBuilder}
use Rattle.jkasm.specs.Assembled.{Agree, IsCaught, IsHandlerOf, IsCodeOf, HasConstantAttribute, IsFieldOf, HasCodeAttribute, HasThrowsAttribute, IsMethodOf}
use Rattle.jkasm.specs.Building.{IsCodeName, IsMethodSoFar, all_codes}
use Rattle.jkasm.specs.CodePlaces.{line_size}
use Rattle.jkasm.specs.Constants.{Value, Reference, ClassAt}
use Rattle.jkasm.specs.Outline.{MethodText}
use Rattle.jkasm.specs.PoolGrowth.{Extends}
use Rattle.jkasm.specs.Written.{IsWritten, IsLineWritten, AreWritten}
use Rattle.jkasm.proofs.ListsAgree.{agree_weaker}
use Rattle.jkasm.proofs.SaysLater.{utf8_later, class_later, says_later}

-- ---- Code.

pub written_later : (old new : List PoolEntry) (codes : List CodeLine) (at : ℕ) (s : Statement) (bytes : List ℕ) → Extends old new
    → IsWritten old codes at s bytes → IsWritten new codes at s bytes
written_later old new codes at (Simple op) bytes grown h = h
written_later old new codes at (Push n) bytes grown h = h
written_later old new codes at (Load constant) bytes grown (i, says, is) = (i, says_later old new i (Value constant) grown says, is)
written_later old new codes at (OnLocal op local) bytes grown h = h
written_later old new codes at (Increment local step) bytes grown h = h
written_later old new codes at (Jump op label) bytes grown h = h
written_later old new codes at (OnMember op InterfaceMethod class name descriptor) bytes grown (i, says, is) =
    (i, says_later old new i (Reference InterfaceMethod class name descriptor) grown says, is)
written_later old new codes at (OnMember op Field class name descriptor) bytes grown (i, says, is) =
    (i, says_later old new i (Reference Field class name descriptor) grown says, is)
written_later old new codes at (OnMember op Method class name descriptor) bytes grown (i, says, is) =
    (i, says_later old new i (Reference Method class name descriptor) grown says, is)
written_later old new codes at (OnClass op class) bytes grown (i, says, is) = (i, class_later old new i class grown says, is)
written_later old new codes at (NewArray kind) bytes grown h = h
written_later old new codes at (NewArrays class dims) bytes grown (i, says, is) = (i, class_later old new i class grown says, is)
written_later old new codes at (Switch default cases) bytes grown h = h

pub line_written_later : (old new : List PoolEntry) (codes : List CodeLine) (at : ℕ) (s : Option Statement) (bytes : List ℕ) → Extends old new
    → IsLineWritten old codes at s bytes → IsLineWritten new codes at s bytes
line_written_later old new codes at None bytes grown h = h
line_written_later old new codes at (Some s) bytes grown h = written_later old new codes at s bytes grown h

pub lines_written_later : (old new : List PoolEntry) (codes : List CodeLine) (at : ℕ) (lines : List CodeLine) (bytes : List ℕ) → Extends old new
    → AreWritten old codes at lines bytes → AreWritten new codes at lines bytes
lines_written_later old new codes at [] bytes grown h = h
lines_written_later old new codes at (line ∷ lines) bytes grown (front, rest, here, parts, others) = (
  front,
  rest,
  line_written_later old new codes at line.statement front grown here,
  parts,
  lines_written_later old new codes (at + line_size at line.statement) lines rest grown others,
)

pub caught_later : (old new : List PoolEntry) (i : ℕ) (class : Option (List ℕ)) → Extends old new → IsCaught old i class → IsCaught new i class
caught_later old new i None grown h = h
caught_later old new i (Some class) grown h = class_later old new i class grown h

pub handler_later : (old new : List PoolEntry) (codes : List CodeLine) (line : CatchLine) (h : Handler) → Extends old new
    → IsHandlerOf old codes line h → IsHandlerOf new codes line h
handler_later old new codes line h grown is =
    record { start = is.start; end = is.end; place = is.place; caught = caught_later old new h.catch line.class grown is.caught }

pub handlers_later : (old new : List PoolEntry) (codes : List CodeLine) (lines : List CatchLine) (handlers : List Handler) → Extends old new
    → Agree (IsHandlerOf old codes) lines handlers → Agree (IsHandlerOf new codes) lines handlers
handlers_later old new codes lines handlers grown h =
    agree_weaker (IsHandlerOf old codes) (IsHandlerOf new codes) lines handlers (λ line handler is. handler_later old new codes line handler grown is) h

pub code_later : (old new : List PoolEntry) (m : MethodText) (body : List ℕ) → Extends old new → IsCodeOf old m body → IsCodeOf new m body
code_later old new m body grown is = record {
  code = is.code;
  layout = is.layout;
  limits = is.limits;
  bytes = lines_written_later old new m.codes 0 m.codes is.code.code grown is.bytes;
  handlers = handlers_later old new m.codes m.catches is.code.handlers grown is.handlers;
  plain = is.plain;
}

-- ---- Attributes.

pub classes_later : (old new : List PoolEntry) (classes : List (List ℕ)) (indices : List ℕ) → Extends old new
    → Agree (λ class i. ClassAt old i class) classes indices → Agree (λ class i. ClassAt new i class) classes indices
classes_later old new classes indices grown h =
    agree_weaker (λ class i. ClassAt old i class) (λ class i. ClassAt new i class) classes indices (λ class i is. class_later old new i class grown is) h

pub constant_later : (old new : List PoolEntry) (constant : Option Constant) (attributes : List Attribute) → Extends old new
    → HasConstantAttribute old constant attributes → HasConstantAttribute new constant attributes
constant_later old new None attributes grown h = h
constant_later old new (Some constant) attributes grown (a, one, (name, (i, says, body))) =
    (a, one, (utf8_later old new a.name _ grown name, (i, says_later old new i (Value constant) grown says, body)))

pub code_attribute_later : (old new : List PoolEntry) (m : MethodText) (attributes : List Attribute) → Extends old new
    → HasCodeAttribute old m attributes → HasCodeAttribute new m attributes
code_attribute_later old new m attributes grown (inl none) = inl none
code_attribute_later old new m attributes grown (inr (some, (a, one, (name, code)))) =
    inr (some, (a, one, (utf8_later old new a.name _ grown name, code_later old new m a.body grown code)))

pub throws_later : (old new : List PoolEntry) (classes : List (List ℕ)) (attributes : List Attribute) → Extends old new
    → HasThrowsAttribute old classes attributes → HasThrowsAttribute new classes attributes
throws_later old new [] attributes grown h = h
throws_later old new (class ∷ classes) attributes grown (a, one, (name, (indices, fit, agree, body))) =
    (a, one, (utf8_later old new a.name _ grown name, (indices, fit, classes_later old new (class ∷ classes) indices grown agree, body)))

-- ---- Members.

pub field_later : (old new : List PoolEntry) (line : FieldLine) (m : MemberInfo) → Extends old new → IsFieldOf old line m → IsFieldOf new line m
field_later old new line m grown is = record {
  flags = is.flags;
  name = utf8_later old new m.name line.name grown is.name;
  descriptor = utf8_later old new m.descriptor line.descriptor grown is.descriptor;
  attributes = constant_later old new line.constant m.attributes grown is.attributes;
}

pub fields_later : (old new : List PoolEntry) (lines : List FieldLine) (members : List MemberInfo) → Extends old new
    → Agree (IsFieldOf old) lines members → Agree (IsFieldOf new) lines members
fields_later old new lines members grown h =
    agree_weaker (IsFieldOf old) (IsFieldOf new) lines members (λ line m is. field_later old new line m grown is) h

pub method_later : (old new : List PoolEntry) (text : MethodText) (m : MemberInfo) → Extends old new → IsMethodOf old text m → IsMethodOf new text m
method_later old new text m grown is = record {
  flags = is.flags;
  name = utf8_later old new m.name text.line.name grown is.name;
  descriptor = utf8_later old new m.descriptor text.line.descriptor grown is.descriptor;
  code = is.code;
  thrown = is.thrown;
  has_code = code_attribute_later old new text is.code grown is.has_code;
  has_thrown = throws_later old new text.line.throws is.thrown grown is.has_thrown;
  attributes = is.attributes;
}

pub methods_later : (old new : List PoolEntry) (texts : List MethodText) (members : List MemberInfo) → Extends old new
    → Agree (IsMethodOf old) texts members → Agree (IsMethodOf new) texts members
methods_later old new texts members grown h =
    agree_weaker (IsMethodOf old) (IsMethodOf new) texts members (λ text m is. method_later old new text m grown is) h

-- ---- A method that has not ended.

pub code_name_later : (old new : List PoolEntry) (i : Option ℕ) → Extends old new → IsCodeName old i → IsCodeName new i
code_name_later old new None grown h = tt
code_name_later old new (Some i) grown h = utf8_later old new i _ grown h

pub so_far_later : (old new : List PoolEntry) (m : MethodText) (later : List LineReading) (b : MethodBuilder) → Extends old new
    → IsMethodSoFar old m later b → IsMethodSoFar new m later b
so_far_later old new m later b grown is = record {
  flags = is.flags;
  limits = is.limits;
  name = utf8_later old new b.name m.line.name grown is.name;
  descriptor = utf8_later old new b.descriptor m.line.descriptor grown is.descriptor;
  thrown = throws_later old new m.line.throws b.thrown grown is.thrown;
  thrown_fits = is.thrown_fits;
  code_name = code_name_later old new b.code_name grown is.code_name;
  named = is.named;
  labels = is.labels;
  seen = is.seen;
  size = is.size;
  short = is.short;
  bytes = is.bytes;
  written = λ fits. lines_written_later old new (all_codes m later) 0 m.codes b.code grown (is.written fits);
  count = is.count;
  handler_places = is.handler_places;
  handlers = λ fits. handlers_later old new (all_codes m later) m.catches b.handlers grown (is.handlers fits);
}
