-- What an item adds to the class that is built, and which items can't be added.
use Rattle.std.proofs.Common.{◌≡◌, ℕ, ◌+◌, ◌≤◌, ◌<◌, ◌⊎◌, ◌&&◌, inl, inr, Bool, true, false, is_some, is_none, List, [], ◌∷◌, ◌++◌, length, Option, Some, None, refl, sym, ap, subst, arith}
use Rattle.std.proofs.lemmas.List.{length_push}
use Rattle.jk_model.specs.declared.class_file.MemberInfo.{MemberInfo}
use Rattle.jk_model.specs.declared.class_file.PoolEntry.{PoolEntry}
use Rattle.jk_model.specs.ClassFile.{IsMember}
use Rattle.jk_model.proofs.EachItem.{all_push}
use Rattle.asm_reader.specs.declared.items.CatchLine.{CatchLine}
use Rattle.asm_reader.specs.declared.items.ClassLine.{ClassLine}
use Rattle.asm_reader.specs.declared.items.CodeLine.{CodeLine}
use Rattle.asm_reader.specs.declared.items.FieldLine.{FieldLine}
use Rattle.asm_reader.specs.declared.items.Item.TheVariants.{Class, Field, Method, Code, Catch, End}
use Rattle.asm_reader.specs.declared.items.LineReading.{LineReading}
use Rattle.asm_reader.specs.declared.items.LineReading.TheVariants.{Empty, Short}
use Rattle.asm_reader.specs.declared.items.MethodLine.{MethodLine}
use Rattle.jkasm.specs.declared.class_builder.ClassBuilder.{ClassBuilder}
use Rattle.jkasm.specs.declared.class_builder.Header.{Header}
use Rattle.jkasm.specs.declared.method_builder.MethodBuilder.{MethodBuilder}
use Rattle.jkasm.specs.Assembled.{IsFieldOf, IsMethodOf}
use Rattle.jkasm.specs.Building.{IsMethodSoFar, IsHeader, IsHeaderOf, IsNamed, IsUnfinished, IsBuilt}
use Rattle.jkasm.specs.ClassSteps.{Adds, CannotBeAdded}
use Rattle.jkasm.specs.Constants.{for_item, for_statement, for_caught}
use Rattle.jkasm.specs.GoodLines.{HasGoodLabels, AllStand, HasCodeOrNothing, IsGoodInUnfinished}
use Rattle.jkasm.specs.Limits.{MAX_COUNT, IsShortMethod, IsShortUnfinished, IsWithinLimits, unfinished_count}
use Rattle.jkasm.specs.Outline.{MethodText, Outline, after_item, items_of, codes_to_end}
use Rattle.jkasm.specs.PoolGrowth.{Extends, Takes}
use Rattle.jkasm.proofs.LaterPools.{fields_later, methods_later, classes_later}
use Rattle.jkasm.proofs.ListsAgree.{agree_push, agree_length}
use Rattle.jkasm.proofs.SaysLater.{class_later}
use Rattle.jkasm.proofs.TakesInTurn.{takes_none}

-- ---- The parts of a class that an item leaves as they are.

header_later : (old new : List PoolEntry) (class : Option ClassLine) (h : Option Header) → Extends old new → IsHeader old class h → IsHeader new class h
header_later old new None h grown is = is
header_later old new (Some line) None grown is = absurd is
header_later old new (Some line) (Some h) grown is = record {
  flags = is.flags;
  name = class_later old new h.this_class line.name grown is.name;
  parent = class_later old new h.super_class line.parent grown is.parent;
  interfaces = classes_later old new line.interfaces h.interfaces grown is.interfaces;
  fits = is.fits;
}

-- an empty line
empty_named : (m : MethodText) (later : List LineReading) (i : Option ℕ) → IsNamed m (Empty ∷ later) i → IsNamed m later i
empty_named m later None is = is
empty_named m later (Some i) is = is

empty_so_far : (pool : List PoolEntry) (m : MethodText) (later : List LineReading) (b : MethodBuilder) → IsMethodSoFar pool m (Empty ∷ later) b
    → IsMethodSoFar pool m later b
empty_so_far pool m later b is = record {
  flags = is.flags;
  limits = is.limits;
  name = is.name;
  descriptor = is.descriptor;
  thrown = is.thrown;
  thrown_fits = is.thrown_fits;
  code_name = is.code_name;
  named = empty_named m later b.code_name is.named;
  labels = is.labels;
  seen = is.seen;
  size = is.size;
  short = is.short;
  bytes = is.bytes;
  written = is.written;
  count = is.count;
  handler_places = is.handler_places;
  handlers = is.handlers;
}

empty_unfinished : (pool : List PoolEntry) (u : Option MethodText) (later : List LineReading) (b : Option MethodBuilder)
    → IsUnfinished pool u (Empty ∷ later) b → IsUnfinished pool u later b
empty_unfinished pool None later b is = is
empty_unfinished pool (Some m) later None is = absurd is
empty_unfinished pool (Some m) later (Some b) is = empty_so_far pool m later b is

pub empty_passed : (o : Outline) (later : List LineReading) (b : ClassBuilder) → IsBuilt o (Empty ∷ later) b → IsBuilt o later b
empty_passed o later b is = record {
  header = is.header;
  order = is.order;
  fields = is.fields;
  fields_fit = is.fields_fit;
  methods = is.methods;
  methods_fit = is.methods_fit;
  unfinished = empty_unfinished b.pool o.unfinished later b.unfinished is.unfinished;
}

-- ---- The line of the class.

no_class : (pool : List PoolEntry) (class : Option ClassLine) (h : Option Header) → IsHeader pool class h → is_some h ≡ false → class ≡ None
no_class pool None h is none = refl
no_class pool (Some line) None is none = absurd is
no_class pool (Some line) (Some h) is none = cc

class_labels : (u : Option MethodText) (line : ClassLine) (codes : List CodeLine) → IsGoodInUnfinished u (Class line) codes
class_labels None line codes = tt
class_labels (Some m) line codes = tt

-- no method is unfinished
outside : (old new : List PoolEntry) (u : Option MethodText) (before later : List LineReading) (b : Option MethodBuilder) → u ≡ None
    → IsUnfinished old u before b → IsUnfinished new u later b
outside old new None before later b none is = is
outside old new (Some m) before later b none is = absurd cc

pub class_added : (o : Outline) (line : ClassLine) (later : List LineReading) (old : ClassBuilder) (pool : List PoolEntry) (h : Header)
    → IsBuilt o (Short (Class line) ∷ later) old → IsWithinLimits o → is_some old.header ≡ false → IsHeaderOf pool line h
    → Takes old.pool pool (for_item (Class line) []) → length line.interfaces ≤ MAX_COUNT
    → Adds o (Class line) later old.pool (record old { pool = pool; header = Some h })
class_added o line later old pool h built limits none is takes short = record {
  next = record o { class = Some line };
  stands = let e = no_class old.pool o.class old.header built.header none in rw e refl;
  labels = class_labels o.unfinished line (codes_to_end (items_of later));
  limits = record { class = short; fields = limits.fields; methods = limits.methods; ended = limits.ended; unfinished = limits.unfinished };
  takes = takes;
  built = record {
    header = is;
    order = λ e. cc;
    fields = fields_later old.pool pool o.fields old.fields takes.extends built.fields;
    fields_fit = built.fields_fit;
    methods = methods_later old.pool pool o.methods old.methods takes.extends built.methods;
    methods_fit = built.methods_fit;
    unfinished = outside old.pool pool o.unfinished (Short (Class line) ∷ later) later old.unfinished
        (built.order (no_class old.pool o.class old.header built.header none)) built.unfinished;
  };
}

-- ---- Members.

-- a class was said, and no method is unfinished
abbrev has_room : ClassBuilder → Bool
has_room b = is_some b.header && is_none b.unfinished

-- the same of an outline
abbrev IsBetweenMembers : Outline → Type 0
IsBetweenMembers o = ((line : ClassLine) × (o.class ≡ Some line)) × (o.unfinished ≡ None)

between : (pool : List PoolEntry) (class : Option ClassLine) (h : Option Header) (u : Option MethodText) (later : List LineReading)
    (b : Option MethodBuilder) → IsHeader pool class h → IsUnfinished pool u later b → (is_some h && is_none b) ≡ true
    → ((line : ClassLine) × (class ≡ Some line)) × (u ≡ None)
between pool None h u later b is un room =
    let e = rw is at room in
    absurd cc
between pool (Some line) None u later b is un room = absurd is
between pool (Some line) (Some h) None later b is un room = ((line, refl), refl)
between pool (Some line) (Some h) (Some m) later None is un room = absurd un
between pool (Some line) (Some h) (Some m) later (Some b) is un room = absurd cc

same_header : (pool : List PoolEntry) (class : Option ClassLine) (h : Option Header) → IsHeader pool class h → is_some h ≡ is_some class
same_header pool None h is = rw is refl
same_header pool (Some line) None is = absurd is
same_header pool (Some line) (Some h) is = refl

same_unfinished : (pool : List PoolEntry) (u : Option MethodText) (later : List LineReading) (b : Option MethodBuilder) → IsUnfinished pool u later b
    → is_none b ≡ is_none u
same_unfinished pool None later b is = rw is refl
same_unfinished pool (Some m) later None is = absurd is
same_unfinished pool (Some m) later (Some b) is = refl

-- where a member may stand there is room for it
field_stood : (class : Option ClassLine) (fields : List FieldLine) (methods : List MethodText) (u : Option MethodText) (line : FieldLine) (next : Outline)
    → after_item (record { class = class; fields = fields; methods = methods; unfinished = u }) (Field line) ≡ Some next
    → ((is_some class && is_none u) ≡ true) × (next.fields ≡ fields ++ line ∷ [])
field_stood None fields methods u line next e = absurd cc
field_stood (Some class) fields methods (Some m) line next e = absurd cc
field_stood (Some class) fields methods None line next e =
    let is : record { class = Some class; fields = fields ++ line ∷ []; methods = methods; unfinished = None } ≡ next = cc in
    (refl, sym (ap (λ (o : Outline). o.fields) is))

method_stood : (class : Option ClassLine) (fields : List FieldLine) (methods : List MethodText) (u : Option MethodText) (line : MethodLine) (next : Outline)
    → after_item (record { class = class; fields = fields; methods = methods; unfinished = u }) (Method line) ≡ Some next
    → ((is_some class && is_none u) ≡ true) × (next.methods ≡ methods)
    × (next.unfinished ≡ Some (record { line = line; codes = []; catches = [] }))
method_stood None fields methods u line next e = absurd cc
method_stood (Some class) fields methods (Some m) line next e = absurd cc
method_stood (Some class) fields methods None line next e =
    let text : MethodText = record { line = line; codes = []; catches = [] } in
    let is : record { class = Some class; fields = fields; methods = methods; unfinished = Some text } ≡ next = cc in
    (refl, sym (ap (λ (o : Outline). o.methods) is), sym (ap (λ (o : Outline). o.unfinished) is))

has_room_of : (o : Outline) (later : List LineReading) (b : ClassBuilder) → IsBuilt o later b → has_room b ≡ (is_some o.class && is_none o.unfinished)
has_room_of o later b built =
    let one = same_header b.pool o.class b.header built.header in
    let two = same_unfinished b.pool o.unfinished later b.unfinished built.unfinished in
    rw (one, two) refl

field_stands : (o : Outline) (line : FieldLine) (later : List LineReading) (b : ClassBuilder) → IsBuilt o (Short (Field line) ∷ later) b
    → has_room b ≡ true → (after_item o (Field line) ≡ Some (record o { fields = o.fields ++ line ∷ [] })) × (o.unfinished ≡ None)
field_stands o line later b built room =
    let w = between b.pool o.class b.header o.unfinished (Short (Field line) ∷ later) b.unfinished built.header built.unfinished room in
    (by_parts o.class o.unfinished w.0 w.1, w.1)
  where
    by_parts : (class : Option ClassLine) (u : Option MethodText) → (l : ClassLine) × (class ≡ Some l) → u ≡ None
        → after_item (record o { class = class; unfinished = u }) (Field line)
        ≡ Some (record o { class = class; unfinished = u; fields = o.fields ++ line ∷ [] })
    by_parts None u (l, is) none = absurd cc
    by_parts (Some k) None said none = refl
    by_parts (Some k) (Some m) said none = absurd cc

method_stands : (o : Outline) (line : MethodLine) (later : List LineReading) (b : ClassBuilder) → IsBuilt o (Short (Method line) ∷ later) b
    → has_room b ≡ true
    → (after_item o (Method line) ≡ Some (record o { unfinished = Some (record { line = line; codes = []; catches = [] }) }))
    × (o.unfinished ≡ None) × (o.class ≡ None → ⊥)
method_stands o line later b built room =
    let w = between b.pool o.class b.header o.unfinished (Short (Method line) ∷ later) b.unfinished built.header built.unfinished room in
    (by_parts o.class o.unfinished w.0 w.1, w.1, λ none. let is = w.0.1 in cc)
  where
    by_parts : (class : Option ClassLine) (u : Option MethodText) → (l : ClassLine) × (class ≡ Some l) → u ≡ None
        → after_item (record o { class = class; unfinished = u }) (Method line)
        ≡ Some (record o { class = class; unfinished = Some (record { line = line; codes = []; catches = [] }) })
    by_parts None u (l, is) none = absurd cc
    by_parts (Some k) None said none = refl
    by_parts (Some k) (Some m) said none = absurd cc

member_labels_field : (u : Option MethodText) (line : FieldLine) (codes : List CodeLine) → u ≡ None → IsGoodInUnfinished u (Field line) codes
member_labels_field None line codes none = tt
member_labels_field (Some m) line codes none = tt

member_labels_method : (u : Option MethodText) (line : MethodLine) (codes : List CodeLine) → u ≡ None → IsGoodInUnfinished u (Method line) codes
member_labels_method None line codes none = tt
member_labels_method (Some m) line codes none = tt

pub field_added : (o : Outline) (line : FieldLine) (later : List LineReading) (old : ClassBuilder) (pool : List PoolEntry) (m : MemberInfo)
    → IsBuilt o (Short (Field line) ∷ later) old → IsWithinLimits o → (is_some old.header && is_none old.unfinished) ≡ true
    → length old.fields < MAX_COUNT → IsFieldOf pool line m → IsMember m → Takes old.pool pool (for_item (Field line) [])
    → Adds o (Field line) later old.pool (record old { pool = pool; fields = old.fields ++ m ∷ [] })
field_added o line later old pool m built limits room few is fits takes =
    let stands = field_stands o line later old built room in
    let count = agree_length (IsFieldOf old.pool) o.fields old.fields built.fields in
    record {
      next = record o { fields = o.fields ++ line ∷ [] };
      stands = stands.0;
      labels = member_labels_field o.unfinished line (codes_to_end (items_of later)) stands.1;
      limits = record {
        class = limits.class;
        fields = omega (arith, length_push o.fields line);
        methods = limits.methods;
        ended = limits.ended;
        unfinished = limits.unfinished;
      };
      takes = takes;
      built = record {
        header = header_later old.pool pool o.class old.header takes.extends built.header;
        order = built.order;
        fields = agree_push (IsFieldOf pool) o.fields old.fields line m
            (fields_later old.pool pool o.fields old.fields takes.extends built.fields) is;
        fields_fit = (omega (arith, length_push old.fields m), all_push IsMember old.fields m built.fields_fit.1 fits);
        methods = methods_later old.pool pool o.methods old.methods takes.extends built.methods;
        methods_fit = built.methods_fit;
        unfinished = outside old.pool pool o.unfinished (Short (Field line) ∷ later) later old.unfinished stands.1 built.unfinished;
      };
    }

pub field_refused : (o : Outline) (line : FieldLine) (later : List LineReading) (old : ClassBuilder) → IsBuilt o (Short (Field line) ∷ later) old
    → ((is_some old.header && is_none old.unfinished) ≡ false) ⊎ (MAX_COUNT ≤ length old.fields) → CannotBeAdded o (Field line) later old.pool
field_refused o line later old built why next stands labels limits =
    let stood = field_stood o.class o.fields o.methods o.unfinished line next stands in
    let room : has_room old ≡ true = rw (has_room_of o (Short (Field line) ∷ later) old built) (stood.0) in
    let count = agree_length (IsFieldOf old.pool) o.fields old.fields built.fields in
    elim why [
      | inl lacks ↦ absurd cc
      | inr many ↦ absurd (omega (arith, length_push o.fields line, ap length stood.1, limits.fields))
    ]

pub method_added : (o : Outline) (line : MethodLine) (later : List LineReading) (old : ClassBuilder) (pool : List PoolEntry) (m : MethodBuilder)
    → IsBuilt o (Short (Method line) ∷ later) old → IsWithinLimits o → (is_some old.header && is_none old.unfinished) ≡ true
    → length old.methods < MAX_COUNT → IsMethodSoFar pool (record { line = line; codes = []; catches = [] }) later m
    → Takes old.pool pool (for_item (Method line) later) → length line.throws ≤ MAX_COUNT
    → Adds o (Method line) later old.pool (record old { pool = pool; unfinished = Some m })
method_added o line later old pool m built limits room few is takes short =
    let stands = method_stands o line later old built room in
    let count = agree_length (IsMethodOf old.pool) o.methods old.methods built.methods in
    let text : MethodText = record { line = line; codes = []; catches = [] } in
    record {
      next = record o { unfinished = Some text };
      stands = stands.0;
      labels = member_labels_method o.unfinished line (codes_to_end (items_of later)) stands.1;
      limits = record {
        class = limits.class;
        fields = limits.fields;
        methods = omega arith;
        ended = limits.ended;
        unfinished = record { throws = short; code = omega arith; catches = omega arith };
      };
      takes = takes;
      built = record {
        header = header_later old.pool pool o.class old.header takes.extends built.header;
        order = λ e. let none = stands.2 e in absurd none;
        fields = fields_later old.pool pool o.fields old.fields takes.extends built.fields;
        fields_fit = built.fields_fit;
        methods = methods_later old.pool pool o.methods old.methods takes.extends built.methods;
        methods_fit = built.methods_fit;
        unfinished = is;
      };
    }

pub method_refused : (o : Outline) (line : MethodLine) (later : List LineReading) (old : ClassBuilder) → IsBuilt o (Short (Method line) ∷ later) old
    → ((is_some old.header && is_none old.unfinished) ≡ false) ⊎ (MAX_COUNT ≤ length old.methods) → CannotBeAdded o (Method line) later old.pool
method_refused o line later old built why next stands labels limits =
    let stood = method_stood o.class o.fields o.methods o.unfinished line next stands in
    let room : has_room old ≡ true = rw (has_room_of o (Short (Method line) ∷ later) old built) (stood.0) in
    let count = agree_length (IsMethodOf old.pool) o.methods old.methods built.methods in
    let text : MethodText = record { line = line; codes = []; catches = [] } in
    let all : length next.methods + unfinished_count (Some text) ≤ MAX_COUNT = rw stood.2 at limits.methods in
    elim why [
      | inl lacks ↦ absurd cc
      | inr many ↦ absurd (omega (arith, ap length stood.1, all))
    ]

-- ---- Lines of a method.

-- the method that is built is one of the outline
abbrev IsOfOutline : List PoolEntry → Option MethodText → List LineReading → MethodBuilder → Type 0
IsOfOutline pool u later b = (m : MethodText) × (u ≡ Some m) × IsMethodSoFar pool m later b

of_outline : (pool : List PoolEntry) (u : Option MethodText) (later : List LineReading) (b : MethodBuilder) → IsUnfinished pool u later (Some b)
    → IsOfOutline pool u later b
of_outline pool None later b is = absurd cc
of_outline pool (Some m) later b is = (m, refl, is)

no_method : (pool : List PoolEntry) (u : Option MethodText) (later : List LineReading) (b : Option MethodBuilder) → IsUnfinished pool u later b → b ≡ None
    → u ≡ None
no_method pool None later b is none = refl
no_method pool (Some m) later None is none = absurd is
no_method pool (Some m) later (Some b) is none = cc

pub method_of : (o : Outline) (later : List LineReading) (b : ClassBuilder) (method : MethodBuilder) → IsBuilt o later b → b.unfinished ≡ Some method
    → (m : MethodText) × (o.unfinished ≡ Some m) × IsMethodSoFar b.pool m later method
method_of o later b method built is = of_outline b.pool o.unfinished later method (rw is at built.unfinished)

-- one line more of the method that has not ended
more_added : (o : Outline) (later : List LineReading) (old : ClassBuilder) (pool : List PoolEntry) (m n : MethodText) (b : MethodBuilder)
    → (before : List LineReading) → IsBuilt o before old → o.unfinished ≡ Some m → Extends old.pool pool → IsMethodSoFar pool n later b
    → IsBuilt (record o { unfinished = Some n }) later (record old { pool = pool; unfinished = Some b })
more_added o later old pool m n b before built of grown is = record {
  header = header_later old.pool pool o.class old.header grown built.header;
  order = λ e. let none = built.order e in cc;
  fields = fields_later old.pool pool o.fields old.fields grown built.fields;
  fields_fit = built.fields_fit;
  methods = methods_later old.pool pool o.methods old.methods grown built.methods;
  methods_fit = built.methods_fit;
  unfinished = is;
}

more_within : (o : Outline) (m n : MethodText) → IsWithinLimits o → o.unfinished ≡ Some m → IsShortMethod n
    → IsWithinLimits (record o { unfinished = Some n })
more_within o m n limits is short = record {
  class = limits.class;
  fields = limits.fields;
  methods = let all : length o.methods + unfinished_count (Some m) ≤ MAX_COUNT = rw is at limits.methods in all;
  ended = limits.ended;
  unfinished = short;
}

short_of : (o : Outline) (m : MethodText) → IsWithinLimits o → o.unfinished ≡ Some m → IsShortMethod m
short_of o m limits is = subst IsShortUnfinished is limits.unfinished

pub code_added : (o : Outline) (line : CodeLine) (later : List LineReading) (old : ClassBuilder) (pool : List PoolEntry) (m : MethodText) (b : MethodBuilder)
    → IsBuilt o (Short (Code line) ∷ later) old → IsWithinLimits o → o.unfinished ≡ Some m
    → IsMethodSoFar pool (record m { codes = m.codes ++ line ∷ [] }) later b → HasGoodLabels m.codes line (codes_to_end (items_of later))
    → Takes old.pool pool (for_statement line.statement)
    → Adds o (Code line) later old.pool (record old { pool = pool; unfinished = Some b })
code_added o line later old pool m b built limits of is good takes =
    let n : MethodText = record m { codes = m.codes ++ line ∷ [] } in
    let short = short_of o m limits of in
    record {
      next = record o { unfinished = Some n };
      stands = rw of refl;
      labels = rw of good;
      limits = more_within o m n limits of
          (record { throws = short.throws; code = omega (arith, is.size, is.short); catches = short.catches });
      takes = takes;
      built = more_added o later old pool m n b (Short (Code line) ∷ later) built of takes.extends is;
    }

pub catch_added : (o : Outline) (line : CatchLine) (later : List LineReading) (old : ClassBuilder) (pool : List PoolEntry) (m : MethodText) (b : MethodBuilder)
    → IsBuilt o (Short (Catch line) ∷ later) old → IsWithinLimits o → o.unfinished ≡ Some m
    → IsMethodSoFar pool (record m { catches = m.catches ++ line ∷ [] }) later b
    → AllStand (m.codes ++ codes_to_end (items_of later)) (line.from ∷ line.to ∷ line.handler ∷ [])
    → length (m.catches ++ line ∷ []) ≤ MAX_COUNT → Takes old.pool pool (for_caught line.class)
    → Adds o (Catch line) later old.pool (record old { pool = pool; unfinished = Some b })
catch_added o line later old pool m b built limits of is good few takes =
    let n : MethodText = record m { catches = m.catches ++ line ∷ [] } in
    let short = short_of o m limits of in
    record {
      next = record o { unfinished = Some n };
      stands = rw of refl;
      labels = rw of good;
      limits = more_within o m n limits of (record { throws = short.throws; code = short.code; catches = few });
      takes = takes;
      built = more_added o later old pool m n b (Short (Catch line) ∷ later) built of takes.extends is;
    }

pub end_added : (o : Outline) (later : List LineReading) (old : ClassBuilder) (m : MethodText) (member : MemberInfo)
    → IsBuilt o (Short End ∷ later) old → IsWithinLimits o → o.unfinished ≡ Some m
    → IsMethodOf old.pool m member → IsMember member → HasCodeOrNothing m
    → Adds o End later old.pool (record old { methods = old.methods ++ member ∷ []; unfinished = None })
end_added o later old m member built limits of is fits good =
    let short = short_of o m limits of in
    let all : length o.methods + unfinished_count (Some m) ≤ MAX_COUNT = rw of at limits.methods in
    let count = agree_length (IsMethodOf old.pool) o.methods old.methods built.methods in
    record {
      next = record o { methods = o.methods ++ m ∷ []; unfinished = None };
      stands = rw of refl;
      labels = rw of good;
      limits = record {
        class = limits.class;
        fields = limits.fields;
        methods = omega (arith, length_push o.methods m);
        ended = all_push IsShortMethod o.methods m limits.ended short;
        unfinished = tt;
      };
      takes = takes_none old.pool;
      built = record {
        header = built.header;
        order = λ e. refl;
        fields = built.fields;
        fields_fit = built.fields_fit;
        methods = agree_push (IsMethodOf old.pool) o.methods old.methods m member built.methods is;
        methods_fit = (omega (arith, length_push old.methods member), all_push IsMember old.methods member built.methods_fit.1 fits);
        unfinished = refl;
      };
    }

-- the method can't end here
pub end_refused : (o : Outline) (later : List LineReading) (old : ClassBuilder) (m : MethodText) → o.unfinished ≡ Some m → (HasCodeOrNothing m → ⊥)
    → CannotBeAdded o End later old.pool
end_refused o later old m of bad next stands labels limits =
    let good : HasCodeOrNothing m = rw of at labels in
    absurd (bad good)

pub short_catches : (o : Outline) (m : MethodText) → IsWithinLimits o → o.unfinished ≡ Some m → length m.catches ≤ MAX_COUNT
short_catches o m limits is = (short_of o m limits is).catches
