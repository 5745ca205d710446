-- A method that is built stays so as a line of code or a handler is taken.
use Rattle.std.proofs.Common.{◌≡◌, ◌≢◌, ℕ, ◌+◌, ◌≤◌, inl, inr, List, [], ◌∷◌, ◌++◌, length, sym, ap, ◌∙◌, subst, arith, append_assoc, length-append, Option, Some, None}
use Rattle.jk_model.specs.declared.class_file.Handler.{Handler}
use Rattle.jk_model.specs.declared.class_file.PoolEntry.{PoolEntry}
use Rattle.jk_model.specs.ClassFile.{AreBytes, IsHandler}
use Rattle.jk_model.proofs.EachItem.{all_push}
use Rattle.asm_reader.specs.declared.items.CatchLine.{CatchLine}
use Rattle.asm_reader.specs.declared.items.CodeLine.{CodeLine}
use Rattle.asm_reader.specs.declared.items.Item.TheVariants as item
use Rattle.asm_reader.specs.declared.items.LineReading.{LineReading}
use Rattle.asm_reader.specs.declared.items.LineReading.TheVariants as reading
use Rattle.jkasm.specs.declared.labels.SeenLabels.{SeenLabels}
use Rattle.jkasm.specs.declared.method_builder.MethodBuilder.{MethodBuilder}
use Rattle.jkasm.specs.Assembled.{Agree, IsCaught, IsHandlerOf}
use Rattle.jkasm.specs.Building.{IsNamed, IsMethodSoFar, all_codes}
use Rattle.jkasm.specs.CodePlaces.{place_after, line_size}
use Rattle.jkasm.specs.Constants.{for_statement}
use Rattle.jkasm.specs.GoodLines.{IsNew, HasGoodLabels, ReachesLabel}
use Rattle.jkasm.specs.HandlerPlaces.{IsPlaced}
use Rattle.jkasm.specs.LabelTables.{IsLabelsOf, AreSeenOf}
use Rattle.jkasm.specs.Limits.{MAX_COUNT}
use Rattle.jkasm.specs.LineWriting.{Writes, CannotBeWritten}
use Rattle.jkasm.specs.Outline.{MethodText, items_of, codes_to_end}
use Rattle.jkasm.specs.PoolGrowth.{Extends, HasNoRoom}
use Rattle.jkasm.specs.Written.{IsLineWritten, AreWritten}
use Rattle.jkasm.proofs.LaterPools.{lines_written_later, handlers_later, throws_later, code_name_later}
use Rattle.jkasm.proofs.ListsAgree.{agree_push}
use Rattle.jkasm.proofs.PlacesInTurn.{place_after-push}
use Rattle.jkasm.proofs.SaysLater.{utf8_later}
use Rattle.jkasm.proofs.WrittenInTurn.{written_push}

-- one more is some
one_more : {X : Type 0} (xs : List X) (x : X) → xs ++ x ∷ [] ≢ []
one_more [] x h = cc
one_more (y ∷ xs) x h = cc

-- a method with one more line of code
abbrev pub with_code : MethodText → CodeLine → MethodText
with_code m line = record m { codes = m.codes ++ line ∷ [] }

-- a method with one more handler
abbrev pub with_catch : MethodText → CatchLine → MethodText
with_catch m line = record m { catches = m.catches ++ line ∷ [] }

-- all codes of a method which a line of code comes next in
abbrev pub codes_on : MethodText → CodeLine → List LineReading → List CodeLine
codes_on m line later = m.codes ++ line ∷ codes_to_end (items_of later)

-- ---- A line of code.

named_with_code : (m : MethodText) (line : CodeLine) (later : List LineReading) (name : Option ℕ)
    → IsNamed m (reading.Short (item.Code line) ∷ later) name → IsNamed (with_code m line) later name
named_with_code m line later None h = absurd (cc (h.2))
named_with_code m line later (Some i) h = inl (one_more m.codes line)

same_codes : (m : MethodText) (line : CodeLine) (later : List LineReading) → codes_on m line later ≡ all_codes (with_code m line) later
same_codes m line later = sym (append_assoc m.codes (line ∷ []) (codes_to_end (items_of later)))

size_with_code : (m : MethodText) (line : CodeLine) (old new bytes : List ℕ) → length old ≡ place_after 0 m.codes → new ≡ old ++ bytes
    → length bytes ≡ line_size (length old) line.statement → length new ≡ place_after 0 (m.codes ++ line ∷ [])
size_with_code m line old new bytes size appended more =
    let here : length bytes ≡ line_size (place_after 0 m.codes) line.statement = rw (← size) more in
    let all : length new ≡ length old + length bytes = ap length appended ∙ length-append old bytes in
    omega (arith, place_after-push 0 m.codes line)

written_with_code : (old new : List PoolEntry) (m : MethodText) (line : CodeLine) (later : List LineReading) (b : MethodBuilder) (code : List ℕ)
    → IsMethodSoFar old m (reading.Short (item.Code line) ∷ later) b
    → Writes (codes_on m line later) old new b.code code line.statement
    → place_after 0 (codes_on m line later) ≤ MAX_COUNT → AreWritten new (codes_on m line later) 0 (m.codes ++ line ∷ []) code
written_with_code old new m line later b code is writes fits =
    let codes = codes_on m line later in
    let front = lines_written_later old new codes 0 m.codes b.code writes.takes.extends (is.written fits) in
    let here : IsLineWritten new codes (place_after 0 m.codes) line.statement writes.bytes =
    subst (λ at. IsLineWritten new codes at line.statement writes.bytes) is.size (writes.written fits) in
    subst (λ bytes. AreWritten new codes 0 (m.codes ++ line ∷ []) bytes) (sym writes.appended)
    (written_push new codes 0 m.codes line b.code writes.bytes front here)

pub so_far_with_code : (old new : List PoolEntry) (m : MethodText) (line : CodeLine) (later : List LineReading) (b : MethodBuilder)
    (seen : SeenLabels) (code : List ℕ) → IsMethodSoFar old m (reading.Short (item.Code line) ∷ later) b
    → Writes (codes_on m line later) old new b.code code line.statement → AreSeenOf (m.codes ++ line ∷ []) seen → AreBytes code
    → IsMethodSoFar new (with_code m line) later (record b { seen = seen; code = code })
so_far_with_code old new m line later b seen code is writes are bytes =
    let grown = writes.takes.extends in
    let same = same_codes m line later in
    let all = all_codes (with_code m line) later in record {
      flags = is.flags;
      limits = is.limits;
      name = utf8_later old new b.name m.line.name grown is.name;
      descriptor = utf8_later old new b.descriptor m.line.descriptor grown is.descriptor;
      thrown = throws_later old new m.line.throws b.thrown grown is.thrown;
      thrown_fits = is.thrown_fits;
      code_name = code_name_later old new b.code_name grown is.code_name;
      named = named_with_code m line later b.code_name is.named;
      labels = subst (λ codes. IsLabelsOf codes b.labels) same is.labels;
      seen = are;
      size = size_with_code m line b.code code writes.bytes is.size writes.appended writes.size;
      short = writes.short;
      bytes = bytes;
      written = λ fits.
          subst (λ codes. AreWritten new codes 0 (m.codes ++ line ∷ []) code) same
          (written_with_code old new m line later b code is writes (subst (λ codes. place_after 0 codes ≤ MAX_COUNT) (sym same) fits));
      count = is.count;
      handler_places = is.handler_places;
      handlers = λ fits.
          handlers_later old new all m.catches b.handlers grown
          (subst (λ codes. place_after 0 codes ≤ MAX_COUNT → Agree (IsHandlerOf old codes) m.catches b.handlers) same is.handlers fits);
    }

pub good_code : (old new : List PoolEntry) (m : MethodText) (line : CodeLine) (later : List LineReading) (b : MethodBuilder) (code : List ℕ)
    → IsMethodSoFar old m (reading.Short (item.Code line) ∷ later) b
    → Writes (codes_on m line later) old new b.code code line.statement → IsNew m.codes line.label
    → HasGoodLabels m.codes line (codes_to_end (items_of later))
good_code old new m line later b code is writes new_label = record {
  stand = writes.stand;
  new = new_label;
  reach = subst (λ at. ReachesLabel (codes_on m line later) at line.statement) is.size writes.reach;
}

-- where a good line of code has room in its method, the pool has none
pub code_fault : (old : List PoolEntry) (m : MethodText) (line : CodeLine) (later : List LineReading) (b : MethodBuilder)
    → IsMethodSoFar old m (reading.Short (item.Code line) ∷ later) b
    → CannotBeWritten (codes_on m line later) old b.code line.statement → HasGoodLabels m.codes line (codes_to_end (items_of later))
    → place_after 0 (m.codes ++ line ∷ []) ≤ MAX_COUNT → HasNoRoom old (for_statement line.statement)
code_fault old m line later b is cannot good fits =
    let reach : ReachesLabel (codes_on m line later) (length b.code) line.statement =
    subst (λ at. ReachesLabel (codes_on m line later) at line.statement) (sym is.size) good.reach in
    let all : place_after 0 m.codes + line_size (place_after 0 m.codes) line.statement ≤ MAX_COUNT = rw (← place_after-push 0 m.codes line) fits in
    let room : length b.code + line_size (length b.code) line.statement ≤ MAX_COUNT =
    subst (λ at. at + line_size at line.statement ≤ MAX_COUNT) (sym is.size) all in
    cannot good.stand reach room

-- ---- A handler.

named_with_catch : (m : MethodText) (line : CatchLine) (later : List LineReading) (name : Option ℕ)
    → IsNamed m (reading.Short (item.Catch line) ∷ later) name → IsNamed (with_catch m line) later name
named_with_catch m line later None h = absurd (cc (h.2))
named_with_catch m line later (Some i) h = inr (inl (one_more m.catches line))

is_handler_of : (pool : List PoolEntry) (codes : List CodeLine) (line : CatchLine) (catch : ℕ) (h : Handler) → IsPlaced codes line catch h
    → IsCaught pool catch line.class → place_after 0 codes ≤ MAX_COUNT → IsHandlerOf pool codes line h
is_handler_of pool codes line catch h placed caught fits = record {
  start = placed.start fits;
  end = placed.end fits;
  place = placed.place fits;
  caught = subst (λ i. IsCaught pool i line.class) (sym placed.caught) caught;
}

pub so_far_with_catch : (old new : List PoolEntry) (m : MethodText) (line : CatchLine) (later : List LineReading) (b : MethodBuilder)
    (catch : ℕ) (h : Handler) → IsMethodSoFar old m (reading.Short (item.Catch line) ∷ later) b → Extends old new
    → IsPlaced (all_codes m later) line catch h → IsCaught new catch line.class
    → IsMethodSoFar new (with_catch m line) later (record b { handlers = b.handlers ++ h ∷ [] })
so_far_with_catch old new m line later b catch h is grown placed caught =
    let codes = all_codes m later in record {
      flags = is.flags;
      limits = is.limits;
      name = utf8_later old new b.name m.line.name grown is.name;
      descriptor = utf8_later old new b.descriptor m.line.descriptor grown is.descriptor;
      thrown = throws_later old new m.line.throws b.thrown grown is.thrown;
      thrown_fits = is.thrown_fits;
      code_name = code_name_later old new b.code_name grown is.code_name;
      named = named_with_catch m line later b.code_name is.named;
      labels = is.labels;
      seen = is.seen;
      size = is.size;
      short = is.short;
      bytes = is.bytes;
      written = λ fits. lines_written_later old new codes 0 m.codes b.code grown (is.written fits);
      count = length-append b.handlers (h ∷ []) ∙ ap (λ n. n + 1) is.count ∙ sym (length-append m.catches (line ∷ []));
      handler_places = all_push IsHandler b.handlers h is.handler_places placed.fits;
      handlers = λ fits.
          agree_push (IsHandlerOf new codes) m.catches b.handlers line h (handlers_later old new codes m.catches b.handlers grown (is.handlers fits))
          (is_handler_of new codes line catch h placed caught fits);
    }
