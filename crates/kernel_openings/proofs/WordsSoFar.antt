-- The texts of words are made one after the other: each is put into the next item of the array, and all that are made so far stand behind the
-- heap as it was.
use Rattle.std.proofs.Common.{◌≡◌, ℕ, suc, ◌+◌, ◌-◌, ◌*◌, ◌<◌, ◌≤◌, List, [], ◌∷◌, ◌++◌, length, map, replicate, take, get_or, Option, Some, IsSome, slice_get, slice_set, refl, sym, ap, ◌∙◌, subst, arith}
use Rattle.std.specs.Prelude.{sum_by}
use Rattle.std.specs.List.{AllByRecursion}
use Rattle.std.specs.Option.{option_map_or}
use Rattle.std.proofs.Math.Nat.{sub-zero}
use Rattle.std.proofs.Math.Seq.{take-length}
use Rattle.std.proofs.lemmas.List.{append-nil, append_assoc, length-append, length-map, length-replicate, length-set, length-take-le, map_push, set_at, take_more}
use Rattle.std.proofs.lemmas.List.Sums.{sum_by-append, sum_by-cons, sum_by_more_le}
use Rattle.list_lemmas.proofs.ItemsByPlace.{slice_get-seam}
use Rattle.jk_model.specs.declared.identifiers.DomainId.{DomainId}
use Rattle.jk_model.specs.declared.values.Value.{Value}
use Rattle.jk_model.specs.declared.values.Value.TheVariants as Held
use Rattle.jk_model_classes.specs.declared.records.ClassRecord.{ClassRecord}
use Rattle.jk_model_classes.specs.Layouts.{HEADER_WORDS}
use Rattle.jk_model_typing.specs.FrameTypes.{STRING}
use Rattle.jk_model_domains.specs.Objects.{Array, NamedObject, Object, Text, class_type, object_named, object_words}
use Rattle.jk_model_heaps.specs.Heaps.{heap_words, named, with_object}
use Rattle.jk_model_runs.specs.Starts.{start_words_cost}
use Rattle.object_store.specs.HeapContents.{HeapBecomes, HeapContent, IsAdmitted, IsHeapContent, IsLive, IsWritten, MakesObject, TakesItem, WritesObject, words_left}
use Rattle.object_store.proofs.ObjectsByName.{NamesDiffer}
use Rattle.heap_loops.specs.ObjectsMade.{MakesObjects}
use Rattle.heap_loops.proofs.NamesApart.{back_differs, front_lacks, live_in_middle, put_in_middle}
use Rattle.heap_loops.proofs.HeapsBecome.{both_become, one_word, room_by, told}
use Rattle.kernel_openings.specs.FirstFrames.{MakesStartWords, object_in, value_of}

abbrev words_in : List ClassRecord → NamedObject → ℕ
words_in classes e = object_words classes e.object

abbrev pub text_cost : List ℕ → ℕ
text_cost w = HEADER_WORDS + length w

-- the items of an array of so many, of which these texts are made
abbrev pub items_of : ℕ → List NamedObject → List Value
items_of n texts = map value_of texts ++ replicate (n - length texts) Held.Null

abbrev array_of : ℕ → List NamedObject → Object
array_of n texts = Array (class_type STRING) (items_of n texts)

-- the array with them, and the texts
abbrev pub objects_of : ℕ → ℕ → List NamedObject → List NamedObject
objects_of n a texts = named a (array_of n texts) ∷ texts

-- The texts of so many words are made.
pub record WordsSoFar (old now : HeapContent) (classes : List ClassRecord) (d : DomainId) (words : List (List ℕ)) (a i : ℕ) : Type 0 where
  pub texts : List NamedObject
  pub are_words : map object_in texts ≡ map Text (take i words)
  pub becomes : HeapBecomes old now d (old.heap d ++ objects_of (length words) a texts)
      (old.used d + heap_words classes (objects_of (length words) a texts))

-- ---- The array alone.

no_items : (n a : ℕ) → named a (Array (class_type STRING) (replicate n Held.Null)) ∷ [] ≡ objects_of n a []
no_items n a = ap (λ (k : ℕ). named a (Array (class_type STRING) (replicate k Held.Null)) ∷ []) (sym (sub-zero n))

pub array_made : (old now : HeapContent) (classes : List ClassRecord) (d : DomainId) (words : List (List ℕ)) (a : ℕ)
    → MakesObject old now classes d a (Array (class_type STRING) (replicate (length words) Held.Null)) → WordsSoFar old now classes d words a 0
array_made old now classes d words a made =
    let root : Object = Array (class_type STRING) (replicate (length words) Held.Null) in
    record {
      texts = [];
      are_words = refl;
      becomes =
          told old now d (old.heap d ++ named a root ∷ []) (old.heap d ++ objects_of (length words) a []) (old.used d + object_words classes root)
          (old.used d + heap_words classes (objects_of (length words) a []))
          (ap (λ (l : List NamedObject). old.heap d ++ l) (no_items (length words) a))
          (ap (λ (k : ℕ). old.used d + k) (one_word classes a root ∙ ap (heap_words classes) (no_items (length words) a)))
          made.becomes;
    }

-- ---- One text more.

module _ (n : ℕ) (texts : List NamedObject) (within : length texts < n) where
  abbrev nulls_left : List Value
  nulls_left = replicate (n - (length texts + 1)) Held.Null

  next_is_null : items_of n texts ≡ map value_of texts ++ (Held.Null ∷ nulls_left)
  next_is_null =
      let one : n - length texts ≡ suc (n - (length texts + 1)) = omega arith in
      ap (λ (k : ℕ). map value_of texts ++ replicate k Held.Null) one

  null_stands : slice_get (items_of n texts) (length texts) ≡ Some Held.Null
  null_stands =
      ap (λ (l : List Value). slice_get l (length texts)) next_is_null
      ∙ ap (slice_get (map value_of texts ++ (Held.Null ∷ nulls_left))) (sym (length-map texts value_of))
      ∙ slice_get-seam (map value_of texts) Held.Null nulls_left

  item_put : (text : NamedObject) → slice_set (items_of n texts) (length texts) (value_of text) ≡ items_of n (texts ++ text ∷ [])
  item_put text =
      let put : slice_set (items_of n texts) (length texts) (value_of text) ≡ map value_of texts ++ (value_of text ∷ nulls_left) =
      ap (λ (l : List Value). slice_set l (length texts) (value_of text)) next_is_null
      ∙ set_at (map value_of texts) Held.Null nulls_left (value_of text) (length texts) (length-map texts value_of) in
      let longer : length (texts ++ text ∷ []) ≡ length texts + 1 = omega (arith, length-append texts (text ∷ [])) in
      let after : items_of n (texts ++ text ∷ []) ≡ map value_of texts ++ (value_of text ∷ nulls_left) =
      ap (λ (k : ℕ). map value_of (texts ++ text ∷ []) ++ replicate (n - k) Held.Null) longer
      ∙ ap (λ (l : List Value). l ++ nulls_left) (map_push value_of texts text)
      ∙ append_assoc (map value_of texts) (value_of text ∷ []) nulls_left in
      put ∙ sym after

module _ (old now mid : HeapContent) (classes : List ClassRecord) (d : DomainId) (words : List (List ℕ)) (a i b : ℕ) (within : i < length words)
    (so_far : WordsSoFar old now classes d words a i) (holds : IsHeapContent mid) (word : List ℕ) (is_word : word ≡ get_or words i [])
    (made : MakesObject now mid classes d b (Text word)) where
  abbrev n : ℕ
  n = length words

  abbrev texts : List NamedObject
  texts = so_far.texts

  abbrev text : NamedObject
  text = named b (Text word)

  abbrev root : Object
  root = array_of n texts

  abbrev wider : Object
  wider = array_of n (texts ++ text ∷ [])

  as_many : length texts ≡ i
  as_many =
      let same = ap length so_far.are_words in
      let first = length-map texts object_in in
      let second = length-map (take i words) Text in
      omega (arith, same, first, second, length-take-le i words (omega arith))

  fewer : length texts < n
  fewer = omega (arith, as_many)

  heap_is : mid.heap d ≡ old.heap d ++ (named a root ∷ (texts ++ text ∷ []))
  heap_is =
      made.becomes.becomes
      ∙ ap (λ (h : List NamedObject). h ++ text ∷ []) so_far.becomes.becomes
      ∙ append_assoc (old.heap d) (objects_of n a texts) (text ∷ [])

  differ : NamesDiffer (old.heap d ++ (named a root ∷ (texts ++ text ∷ [])))
  differ = subst NamesDiffer heap_is (holds.differ d)

  live : IsLive mid d a root
  live = ap (λ (h : List NamedObject). object_named h a) heap_is ∙ live_in_middle a root (old.heap d) (texts ++ text ∷ []) differ

  written : IsWritten root i (Held.Obj b) wider
  written = (
    items_of n (texts ++ text ∷ []),
    record {
      before = Held.Null;
      stands = subst (λ (k : ℕ). slice_get (items_of n texts) k ≡ Some Held.Null) as_many (null_stands n texts fewer);
      kind = (tt, tt);
      small = made.small;
      becomes = sym (subst (λ (k : ℕ). slice_set (items_of n texts) k (Held.Obj b) ≡ items_of n (texts ++ text ∷ [])) as_many (item_put n texts fewer text));
    },
    refl,
  )

  pub takes_text : TakesItem mid classes d a i (Held.Obj b)
  takes_text = record { object = root; live = live; laid_out = tt; new = wider; written = written }

  -- ---- What is made so far, with this text.

  as_long : length (items_of n (texts ++ text ∷ [])) ≡ length (items_of n texts)
  as_long = ap length (sym (item_put n texts fewer text)) ∙ length-set (items_of n texts) (length texts) (value_of text)

  wider_words : heap_words classes (objects_of n a texts) + object_words classes (Text word) ≡ heap_words classes (objects_of n a (texts ++ text ∷ []))
  wider_words =
      let first = sum_by-append (words_in classes) (objects_of n a texts) (text ∷ []) in
      let before = sum_by-cons (words_in classes) (named a root) (texts ++ text ∷ []) in
      let after = sum_by-cons (words_in classes) (named a wider) (texts ++ text ∷ []) in
      let one = one_word classes b (Text word) in
      let cost : object_words classes wider ≡ object_words classes root = ap (λ (k : ℕ). HEADER_WORDS + 1 * k) as_long in
      omega (arith, first, before, after, one, cost)

  more_words : map object_in (texts ++ text ∷ []) ≡ map Text (take (i + 1) words)
  more_words =
      map_push object_in texts text
      ∙ ap (λ (l : List Object). l ++ Text word ∷ []) so_far.are_words
      ∙ ap (λ (w : List ℕ). map Text (take i words) ++ Text w ∷ []) is_word
      ∙ sym (map_push Text (take i words) (get_or words i []))
      ∙ ap (map Text) (sym (take_more words i [] within))

  pub text_put : (next : HeapContent)
      → ((object new : Object) → IsLive mid d a object → IsWritten object i (Held.Obj b) new → WritesObject mid next d a new)
      → WordsSoFar old next classes d words a (i + 1)
  text_put next writes =
      let write : WritesObject mid next d a wider = writes root wider live written in
      let whole = both_become now mid next d (now.heap d ++ text ∷ []) (with_object a wider (mid.heap d))
      (now.used d + object_words classes (Text word)) (mid.used d) made.becomes write in
      record {
        texts = texts ++ text ∷ [];
        are_words = more_words;
        becomes =
            told old next d (with_object a wider (mid.heap d)) (old.heap d ++ objects_of n a (texts ++ text ∷ [])) (mid.used d)
            (old.used d + heap_words classes (objects_of n a (texts ++ text ∷ [])))
            (ap (with_object a wider) heap_is ∙ put_in_middle a root wider (old.heap d) (texts ++ text ∷ []) differ)
            (let used = made.becomes.uses in let before = so_far.becomes.uses in omega (arith, used, before, wider_words))
            (both_become old now next d (old.heap d ++ objects_of n a texts) (with_object a wider (mid.heap d))
            (old.used d + heap_words classes (objects_of n a texts)) (mid.used d) so_far.becomes whole);
      }

-- ---- All texts are made.

pub all_made : (old new : HeapContent) (classes : List ClassRecord) (d : DomainId) (words : List (List ℕ)) (a i : ℕ) → i ≡ length words
    → IsHeapContent new → WordsSoFar old new classes d words a i → MakesStartWords old new classes d words a
all_made old new classes d words a i end holds so_far =
    let texts = so_far.texts in
    let are : map object_in texts ≡ map Text words =
    so_far.are_words ∙ ap (λ (k : ℕ). map Text (take k words)) end ∙ ap (map Text) (take-length words) in
    let all : length texts ≡ length words =
    let same = ap length are in
    omega (arith, same, length-map texts object_in, length-map words Text) in
    let none : length words - length texts ≡ 0 = omega (arith, all) in
    let values : items_of (length words) texts ≡ map value_of texts =
    ap (λ (k : ℕ). map value_of texts ++ replicate k Held.Null) none ∙ append-nil (map value_of texts) in
    let whole = objects_of (length words) a texts in
    let differ : NamesDiffer (old.heap d ++ whole) = subst NamesDiffer so_far.becomes.becomes (holds.differ d) in
    record {
      texts = texts;
      are_words = are;
      makes = subst (λ (l : List Value). MakesObjects old new classes d (named a (Array (class_type STRING) l) ∷ texts)) values (record {
        fresh = λ e has. front_lacks (old.heap d) whole e differ has;
        differ = back_differs (old.heap d) whole differ;
        becomes = so_far.becomes;
      });
    }

-- ---- The room that is left.

pub still_admitted : (old now : HeapContent) (classes : List ClassRecord) (d : DomainId) (words : List (List ℕ)) (a i : ℕ)
    → WordsSoFar old now classes d words a i → IsAdmitted old d → IsAdmitted now d
still_admitted old now classes d words a i so_far admitted = subst (λ (o : Option ℕ). IsSome o) (sym (so_far.becomes.domains.quota d)) admitted

-- what texts of these words cost
texts_cost : (classes : List ClassRecord) (texts : List NamedObject) (words : List (List ℕ)) → map object_in texts ≡ map Text words
    → heap_words classes texts ≡ sum_by text_cost words
texts_cost classes [] [] same = refl
texts_cost classes [] (w ∷ words) same = absurd cc
texts_cost classes (e ∷ texts) [] same = absurd cc
texts_cost classes (e ∷ texts) (w ∷ words) same =
    let here : e.object ≡ Text w = cc in
    let later : map object_in texts ≡ map Text words = cc in
    let cost : object_words classes e.object ≡ text_cost w = ap (object_words classes) here in
    let rest = texts_cost classes texts words later in
    omega (arith, sum_by-cons (words_in classes) e texts, sum_by-cons text_cost w words, cost, rest)

words_so_far : (old now : HeapContent) (classes : List ClassRecord) (d : DomainId) (words : List (List ℕ)) (a i : ℕ) → i < length words
    → (so_far : WordsSoFar old now classes d words a i)
    → heap_words classes (objects_of (length words) a so_far.texts) ≡ HEADER_WORDS + length words + sum_by text_cost (take i words)
words_so_far old now classes d words a i within so_far =
    let texts = so_far.texts in
    let same = ap length so_far.are_words in
    let many : length texts ≡ i =
    omega (arith, same, length-map texts object_in, length-map (take i words) Text, length-take-le i words (omega arith)) in
    let long : length (items_of (length words) texts) ≡ length words =
    omega (
      arith,
      many,
      length-append (map value_of texts) (replicate (length words - length texts) Held.Null),
      length-map texts value_of,
      length-replicate (length words - length texts) Held.Null,
    ) in
    let cost : object_words classes (array_of (length words) texts) ≡ HEADER_WORDS + 1 * length words = ap (λ (k : ℕ). HEADER_WORDS + 1 * k) long in
    let first = sum_by-cons (words_in classes) (named a (array_of (length words) texts)) texts in
    omega (arith, first, texts_cost classes texts (take i words) so_far.are_words, cost)

pub room_left : (old now : HeapContent) (classes : List ClassRecord) (d : DomainId) (words : List (List ℕ)) (a i : ℕ) → i < length words
    → WordsSoFar old now classes d words a i → start_words_cost words ≤ words_left old d → (word : List ℕ) → word ≡ get_or words i []
    → 4 + length word ≤ words_left now d
room_left old now classes d words a i within so_far room word is_word =
    let here : ℕ = heap_words classes (objects_of (length words) a so_far.texts) in
    let so_many = words_so_far old now classes d words a i within so_far in
    let more = sum_by_more_le text_cost words i [] within in
    let long : length word ≡ length (get_or words i []) = ap length is_word in
    let fits : here + (4 + length word) ≤ start_words_cost words = omega (arith, so_many, more, long) in
    subst (λ (q : Option ℕ). 4 + length word ≤ option_map_or (λ (k : ℕ). k - now.used d) q 0) (sym (so_far.becomes.domains.quota d))
    (room_by (old.quota d) (now.used d) (old.used d) (start_words_cost words) (4 + length word) here so_far.becomes.uses fits (omega arith) room)

pub array_fits : (words : List (List ℕ)) → HEADER_WORDS + length words ≤ start_words_cost words
array_fits words = omega arith

-- ---- What words cost that are few and short.

pub small_sum : (words : List (List ℕ)) → AllByRecursion (λ (w : List ℕ). length w ≤ 255) words → sum_by text_cost words ≤ 259 * length words
small_sum [] short = omega arith
small_sum (w ∷ words) short =
    let rest = small_sum words short.1 in
    let here = short.0 in
    omega (arith, sum_by-cons text_cost w words, rest, here)
