-- A method begins with nothing built, and its pool takes what its line needs.
use Rattle.std.proofs.Common.{◌≡◌, ℕ, inr, List, [], ◌∷◌, ◌++◌, length, refl, sym, ap, arith, Option, Some, None, is_some}
use Rattle.jk_model.specs.declared.class_file.PoolEntry.{PoolEntry}
use Rattle.jk_model.specs.ClassFile.{AreAttributes}
use Rattle.asm_reader.specs.declared.items.Item.TheVariants as item
use Rattle.asm_reader.specs.declared.items.LineReading.{LineReading}
use Rattle.asm_reader.specs.declared.items.MethodLine.{MethodLine}
use Rattle.jkasm.specs.declared.method_builder.MethodBuilder.{MethodBuilder}
use Rattle.jkasm.specs.Assembled.{HasThrowsAttribute}
use Rattle.jkasm.specs.Building.{IsCodeName, IsNamed, IsMethodSoFar}
use Rattle.jkasm.specs.Constants.{PoolConstant, Utf8, Utf8At, for_code, for_throws, for_item, goes_on}
use Rattle.jkasm.specs.LabelTables.{IsLabelsOf, AreSeenOf}
use Rattle.jkasm.specs.Outline.{MethodText, items_of, codes_to_end}
use Rattle.jkasm.specs.PoolGrowth.{Extends, Takes, HasNoRoom}
use Rattle.jkasm.proofs.LaterPools.{code_name_later}
use Rattle.jkasm.proofs.SaysLater.{utf8_later}
use Rattle.jkasm.proofs.TakesInTurn.{extends_trans, takes_trans, no_room_after, no_room_more}

-- the text of a method with its first line alone
abbrev pub first_line : MethodLine → MethodText
first_line line = record { line = line; codes = []; catches = [] }

named_at_first : (line : MethodLine) (later : List LineReading) (name : Option ℕ) → is_some name ≡ goes_on later
    → IsNamed (first_line line) later name
named_at_first line later None h = (refl, refl, sym h)
named_at_first line later (Some i) h = inr (inr (sym h))

-- What a method begins with, after the pool took its name, its descriptor, the name of Code and what it throws.
pub begun : (a b d e : List PoolEntry) (line : MethodLine) (later : List LineReading) (m : MethodBuilder) (cs ds es : List PoolConstant)
    → Takes a b cs → Takes b d ds → Takes d e es → Utf8At a m.name line.name → Utf8At b m.descriptor line.descriptor
    → IsCodeName d m.code_name → is_some m.code_name ≡ goes_on later → HasThrowsAttribute e line.throws m.thrown → AreAttributes m.thrown
    → IsLabelsOf (codes_to_end (items_of later)) m.labels → AreSeenOf [] m.seen → m.code ≡ [] → m.handlers ≡ []
    → m.flags ≡ line.flags → m.stack ≡ line.stack → m.locals ≡ line.locals → IsMethodSoFar e (first_line line) later m
begun a b d e line later m cs ds es tb td te name descriptor code_name named thrown fit labels seen code handlers flags stack locals =
    let bd : Extends b e = extends_trans b d e td.extends te.extends in
    let ae : Extends a e = extends_trans a b e tb.extends bd in record {
      flags = flags;
      limits = (stack, locals);
      name = utf8_later a e m.name line.name ae name;
      descriptor = utf8_later b e m.descriptor line.descriptor bd descriptor;
      thrown = thrown;
      thrown_fits = fit;
      code_name = code_name_later d e m.code_name te.extends code_name;
      named = named_at_first line later m.code_name named;
      labels = labels;
      seen = seen;
      size = ap length code;
      short = let none = ap length code in omega arith;
      bytes = rw code tt;
      written = λ fits. code;
      count = ap length handlers;
      handler_places = rw handlers tt;
      handlers = λ fits. rw handlers tt;
    }

-- ---- What the pool takes, or has no room for.

pub method_takes : (a b d e f : List PoolEntry) (line : MethodLine) (later : List LineReading) → Takes a b (Utf8 line.name ∷ [])
    → Takes b d (Utf8 line.descriptor ∷ []) → Takes d e (for_code (goes_on later)) → Takes e f (for_throws line.throws)
    → Takes a f (for_item (item.Method line) later)
method_takes a b d e f line later one two three four =
    let last = takes_trans d e f (for_code (goes_on later)) (for_throws line.throws) three four in
    let rest = takes_trans b d f (Utf8 line.descriptor ∷ []) (for_code (goes_on later) ++ for_throws line.throws) two last in
    takes_trans a b f (Utf8 line.name ∷ []) (Utf8 line.descriptor ∷ for_code (goes_on later) ++ for_throws line.throws) one rest

pub no_room_for_name : (a : List PoolEntry) (line : MethodLine) (later : List LineReading) → HasNoRoom a (Utf8 line.name ∷ [])
    → HasNoRoom a (for_item (item.Method line) later)
no_room_for_name a line later none =
    no_room_more a (Utf8 line.name ∷ []) (Utf8 line.descriptor ∷ for_code (goes_on later) ++ for_throws line.throws) none

pub no_room_for_descriptor : (a b : List PoolEntry) (line : MethodLine) (later : List LineReading) → Takes a b (Utf8 line.name ∷ [])
    → HasNoRoom b (Utf8 line.descriptor ∷ []) → HasNoRoom a (for_item (item.Method line) later)
no_room_for_descriptor a b line later one none =
    let rest = for_code (goes_on later) ++ for_throws line.throws in
    no_room_after a b (Utf8 line.name ∷ []) (Utf8 line.descriptor ∷ rest) one (no_room_more b (Utf8 line.descriptor ∷ []) rest none)

no_room_for_rest : (a b d : List PoolEntry) (line : MethodLine) (later : List LineReading) → Takes a b (Utf8 line.name ∷ [])
    → Takes b d (Utf8 line.descriptor ∷ []) → HasNoRoom d (for_code (goes_on later) ++ for_throws line.throws)
    → HasNoRoom a (for_item (item.Method line) later)
no_room_for_rest a b d line later one two none =
    let rest = for_code (goes_on later) ++ for_throws line.throws in
    no_room_after a b (Utf8 line.name ∷ []) (Utf8 line.descriptor ∷ rest) one (no_room_after b d (Utf8 line.descriptor ∷ []) rest two none)

pub no_room_for_code : (a b d : List PoolEntry) (line : MethodLine) (later : List LineReading) → Takes a b (Utf8 line.name ∷ [])
    → Takes b d (Utf8 line.descriptor ∷ []) → HasNoRoom d (for_code (goes_on later)) → HasNoRoom a (for_item (item.Method line) later)
no_room_for_code a b d line later one two none =
    no_room_for_rest a b d line later one two (no_room_more d (for_code (goes_on later)) (for_throws line.throws) none)

pub no_room_for_throws : (a b d e : List PoolEntry) (line : MethodLine) (later : List LineReading) → Takes a b (Utf8 line.name ∷ [])
    → Takes b d (Utf8 line.descriptor ∷ []) → Takes d e (for_code (goes_on later)) → HasNoRoom e (for_throws line.throws)
    → HasNoRoom a (for_item (item.Method line) later)
no_room_for_throws a b d e line later one two three none =
    no_room_for_rest a b d line later one two (no_room_after d e (for_code (goes_on later)) (for_throws line.throws) three none)
