-- The objects that stand in a heap are made one after the other.
use Rattle.std.proofs.Common.{◌≡◌, ℕ, zero, suc, ◌+◌, ◌-◌, ◌<◌, ◌≤◌, List, [], ◌∷◌, ◌++◌, length, take, drop, get_or, Option, Some, None, IsSome, slice_set, refl, sym, ap, subst, ◌∙◌, arith}
use Rattle.std.specs.Prelude.{sum_by}
use Rattle.std.specs.Option.{option_map_or}
use Rattle.std.proofs.lemmas.List.{append_assoc, length-append, append-nil, length-take-le, nil_from_length, set_at, take_more}
use Rattle.std.proofs.lemmas.List.Sums.{sum_by-append, sum_by-cons, sum_by_more_le}
use Rattle.list_lemmas.proofs.ItemsByPlace.{length_take_whole}
use Rattle.jk_model.specs.declared.identifiers.ClassId.{ClassId}
use Rattle.jk_model.specs.declared.identifiers.DomainId.{DomainId}
use Rattle.jk_model.specs.declared.steps.Standing.{Standing}
use Rattle.jk_model.specs.declared.steps.Standing.TheVariants as Stands
use Rattle.jk_model.specs.SystemTable.{system_classes}
use Rattle.jk_model_classes.specs.declared.records.ClassRecord.{ClassRecord}
use Rattle.jk_model_classes.specs.Classes.{HasClass}
use Rattle.jk_model_classes.specs.Layouts.{cost_of}
use Rattle.jk_model_domains.specs.Objects.{NamedObject, PRINT_STREAM, object_words}
use Rattle.jk_model_domains.specs.OwnStates.{standing_place}
use Rattle.jk_model_heaps.specs.Heaps.{heap_words, named}
use Rattle.jk_model_heaps.specs.Throwables.{fresh_throwable, standing_class}
use Rattle.class_init.specs.KeptStates.{KeptState}
use Rattle.object_store.specs.HeapContents.{HeapBecomes, HeapContent, IsAdmitted, IsHeapContent, MakesObject, words_left}
use Rattle.object_store.proofs.ObjectsByName.{NamesDiffer}
use Rattle.heap_loops.proofs.NamesApart.{back_differs, front_lacks}
use Rattle.heap_loops.proofs.HeapsBecome.{both_become, told}
use Rattle.heap_laws.specs.SoundCodes.{AreSoundCodes}
use Rattle.machine_laws.proofs.FirstObjects.{first_words, objects_from}
use Rattle.kernel_openings.specs.StandingObjects.{MakesStanding, objects_named, opening_classes}

-- ---- The objects of names and classes.

abbrev words_in : List ClassRecord → NamedObject → ℕ
words_in classes e = object_words classes e.object

pub one_more : (classes : List ClassRecord) (names : List ℕ) (cs : List ClassId) (a : ℕ) (c : ClassId) → length names ≡ length cs
    → objects_named classes (names ++ a ∷ []) (cs ++ c ∷ []) ≡ objects_named classes names cs ++ named a (fresh_throwable classes c) ∷ []
one_more classes [] [] a c same = refl
one_more classes [] (x ∷ cs) a c same = absurd (omega (arith, same))
one_more classes (n ∷ names) [] a c same = absurd (omega (arith, same))
one_more classes (n ∷ names) (x ∷ cs) a c same =
    ap (λ (l : List NamedObject). named n (fresh_throwable classes x) ∷ l) (one_more classes names cs a c (omega (arith, same)))

objects_cost : (classes : List ClassRecord) (names : List ℕ) (cs : List ClassId) → length names ≡ length cs
    → heap_words classes (objects_named classes names cs) ≡ sum_by (cost_of classes) cs
objects_cost classes [] [] same = refl
objects_cost classes [] (x ∷ cs) same = absurd (omega (arith, same))
objects_cost classes (n ∷ names) [] same = absurd (omega (arith, same))
objects_cost classes (n ∷ names) (x ∷ cs) same =
    let rest = objects_cost classes names cs (omega (arith, same)) in
    omega (
      arith,
      sum_by-cons (words_in classes) (named n (fresh_throwable classes x)) (objects_named classes names cs),
      sum_by-cons (cost_of classes) x cs,
      rest,
    )

-- those of the law cost the same
from_cost : (classes : List ClassRecord) (n : ℕ) (cs : List ClassId) → heap_words classes (objects_from classes n cs) ≡ sum_by (cost_of classes) cs
from_cost classes n [] = refl
from_cost classes n (c ∷ cs) =
    omega (
      arith,
      sum_by-cons (words_in classes) (named n (fresh_throwable classes c)) (objects_from classes (suc n) cs),
      sum_by-cons (cost_of classes) c cs,
      from_cost classes (suc n) cs,
    )

all_cost : (classes : List ClassRecord) → AreSoundCodes classes → sum_by (cost_of classes) opening_classes ≡ 44
all_cost classes codes = sym (from_cost classes 0 opening_classes) ∙ first_words classes codes.ordered codes.system

-- the PrintStream fits
pub stream_fits : (classes : List ClassRecord) → AreSoundCodes classes → cost_of classes PRINT_STREAM ≤ 44
stream_fits classes codes =
    let all = all_cost classes codes in
    let first = sum_by-cons (cost_of classes) PRINT_STREAM (drop 1 opening_classes) in
    omega (arith, all, first)

-- ---- The throwables in the order of their places.

abbrev in_order : List Standing
in_order =
    Stands.OutOfMemoryError ∷ Stands.StackOverflowError ∷ Stands.Revoked ∷ Stands.Quota ∷ Stands.NotCopiable ∷ Stands.Remote ∷ Stands.ThreadDeath
    ∷ Stands.Security ∷ []

abbrev got : ℕ → Standing
got i = get_or in_order i Stands.OutOfMemoryError

pub got_class : (i : ℕ) → i < 8 → standing_class (got i) ≡ get_or opening_classes (i + 1) PRINT_STREAM
got_class zero low = refl
got_class (suc zero) low = refl
got_class (suc (suc zero)) low = refl
got_class (suc (suc (suc zero))) low = refl
got_class (suc (suc (suc (suc zero)))) low = refl
got_class (suc (suc (suc (suc (suc zero))))) low = refl
got_class (suc (suc (suc (suc (suc (suc zero)))))) low = refl
got_class (suc (suc (suc (suc (suc (suc (suc zero))))))) low = refl
got_class (suc (suc (suc (suc (suc (suc (suc (suc i)))))))) low = absurd (omega (arith, low))

pub got_place : (i : ℕ) → i < 8 → standing_place (got i) ≡ i
got_place zero low = refl
got_place (suc zero) low = refl
got_place (suc (suc zero)) low = refl
got_place (suc (suc (suc zero))) low = refl
got_place (suc (suc (suc (suc zero)))) low = refl
got_place (suc (suc (suc (suc (suc zero))))) low = refl
got_place (suc (suc (suc (suc (suc (suc zero)))))) low = refl
got_place (suc (suc (suc (suc (suc (suc (suc zero))))))) low = refl
got_place (suc (suc (suc (suc (suc (suc (suc (suc i)))))))) low = absurd (omega (arith, low))

low_class : (i : ℕ) → i < 8 → (get_or opening_classes (i + 1) PRINT_STREAM).0 < 45
low_class zero low = omega arith
low_class (suc zero) low = omega arith
low_class (suc (suc zero)) low = omega arith
low_class (suc (suc (suc zero))) low = omega arith
low_class (suc (suc (suc (suc zero)))) low = omega arith
low_class (suc (suc (suc (suc (suc zero))))) low = omega arith
low_class (suc (suc (suc (suc (suc (suc zero)))))) low = omega arith
low_class (suc (suc (suc (suc (suc (suc (suc zero))))))) low = omega arith
low_class (suc (suc (suc (suc (suc (suc (suc (suc i)))))))) low = absurd (omega (arith, low))

-- their classes are there
pub class_there : (classes : List ClassRecord) → AreSoundCodes classes → (i : ℕ) → i < 8
    → HasClass classes (get_or opening_classes (i + 1) PRINT_STREAM)
class_there classes codes i low =
    let all : 45 ≡ length system_classes = refl in
    let many = codes.system.as_many in
    let whole = length_take_whole classes (length system_classes) in
    omega (arith, low_class i low, all, many, whole)

-- ---- So many throwables are made behind the PrintStream, and the domain knows their names.

pub record StandingSoFar (old now : HeapContent) (classes : List ClassRecord) (d : DomainId) (before kept : KeptState) (i : ℕ) : Type 0 where
  pub out : ℕ
  pub names : List ℕ
  -- the places that aren't set yet
  pub rest : List ℕ
  pub many : length names ≡ i
  pub left : length rest + i ≡ 8
  pub known : kept ≡ record before { state = record before.state { out = out; standing = names ++ rest } }
  pub becomes : HeapBecomes old now d (old.heap d ++ objects_named classes (out ∷ names) (take (i + 1) opening_classes))
      (old.used d + heap_words classes (objects_named classes (out ∷ names) (take (i + 1) opening_classes)))

pub stream_made : (old now : HeapContent) (classes : List ClassRecord) (d : DomainId) (before : KeptState) (a : ℕ) → length before.state.standing ≡ 8
    → MakesObject old now classes d a (fresh_throwable classes PRINT_STREAM)
    → StandingSoFar old now classes d before (record before { state = record before.state { out = a } }) 0
stream_made old now classes d before a eight made = record {
  out = a;
  names = [];
  rest = before.state.standing;
  many = refl;
  left = omega (arith, eight);
  known = refl;
  becomes =
      told old now d (old.heap d ++ named a (fresh_throwable classes PRINT_STREAM) ∷ []) (old.heap d ++ named a (fresh_throwable classes PRINT_STREAM) ∷ [])
      (old.used d + object_words classes (fresh_throwable classes PRINT_STREAM))
      (old.used d + heap_words classes (named a (fresh_throwable classes PRINT_STREAM) ∷ [])) refl
      (let sum = sum_by-cons (words_in classes) (named a (fresh_throwable classes PRINT_STREAM)) [] in omega (arith, sum))
      made.becomes;
}

room_by : (q : Option ℕ) (used before part here : ℕ) → used ≡ before + here → here + part ≤ 44 → 44 ≤ option_map_or (λ (k : ℕ). k - before) q 0
    → part ≤ option_map_or (λ (k : ℕ). k - used) q 0
room_by None used before part here is fits room = absurd (omega (arith, room))
room_by (Some q) used before part here is fits room = omega arith

module _ (old now : HeapContent) (classes : List ClassRecord) (d : DomainId) (before kept : KeptState) (i : ℕ) (within : i < 8)
    (so_far : StandingSoFar old now classes d before kept i) where
  abbrev made_so_far : List NamedObject
  made_so_far = objects_named classes (so_far.out ∷ so_far.names) (take (i + 1) opening_classes)

  as_many : length (so_far.out ∷ so_far.names) ≡ length (take (i + 1) opening_classes)
  as_many =
      let many = so_far.many in
      let nine : length opening_classes ≡ 9 = refl in
      let long = length-take-le (i + 1) opening_classes (omega (arith, nine)) in
      omega (arith, many, long)

  pub still_admitted : IsAdmitted old d → IsAdmitted now d
  still_admitted admitted = subst (λ (o : Option ℕ). IsSome o) (sym (so_far.becomes.domains.quota d)) admitted

  -- the class of the next one
  abbrev next_class : ClassId
  next_class = get_or opening_classes (i + 1) PRINT_STREAM

  next_within : i + 1 < length opening_classes
  next_within = let nine : length opening_classes ≡ 9 = refl in omega (arith, nine)

  pub room_left : AreSoundCodes classes → 44 ≤ words_left old d → (c : ClassId) → c ≡ next_class → cost_of classes c ≤ words_left now d
  room_left codes room c is =
      let here = heap_words classes made_so_far in
      let cost = objects_cost classes (so_far.out ∷ so_far.names) (take (i + 1) opening_classes) as_many in
      let all = all_cost classes codes in
      let more = sum_by_more_le (cost_of classes) opening_classes (i + 1) PRINT_STREAM next_within in
      let one = ap (cost_of classes) is in
      let fits : here + cost_of classes c ≤ 44 = omega (arith, cost, all, more, one) in
      subst (λ (q : Option ℕ). cost_of classes c ≤ option_map_or (λ (k : ℕ). k - now.used d) q 0) (sym (so_far.becomes.domains.quota d))
      (room_by (old.quota d) (now.used d) (old.used d) (cost_of classes c) here so_far.becomes.uses fits room)

  module _ (next : HeapContent) (a : ℕ) (c : ClassId) (is : c ≡ next_class) (made : MakesObject now next classes d a (fresh_throwable classes c)) where
    longer : objects_named classes (so_far.out ∷ (so_far.names ++ a ∷ [])) (take (i + 1 + 1) opening_classes)
        ≡ made_so_far ++ named a (fresh_throwable classes c) ∷ []
    longer =
        ap (objects_named classes (so_far.out ∷ (so_far.names ++ a ∷ []))) (take_more opening_classes (i + 1) PRINT_STREAM next_within)
        ∙ one_more classes (so_far.out ∷ so_far.names) (take (i + 1) opening_classes) a next_class as_many
        ∙ ap (λ (x : ClassId). made_so_far ++ named a (fresh_throwable classes x) ∷ []) (sym is)

    set_by : (rest : List ℕ) → length rest + i ≡ 8
        → (left : List ℕ) × (length left + (i + 1) ≡ 8) × (slice_set (so_far.names ++ rest) i a ≡ (so_far.names ++ a ∷ []) ++ left)
    set_by [] left = absurd (omega (arith, left))
    set_by (r ∷ rest) left = (
      rest,
      omega (arith, left),
      set_at so_far.names r rest a i so_far.many ∙ sym (append_assoc so_far.names (a ∷ []) rest),
    )

    pub standing_put : (put : KeptState)
        → put ≡ record kept { state = record kept.state { standing = slice_set kept.state.standing i a } }
        → StandingSoFar old next classes d before put (i + 1)
    standing_put put is_put =
        let set = set_by so_far.rest so_far.left in
        let put_in : KeptState → KeptState = λ k. record k { state = record k.state { standing = slice_set k.state.standing i a } } in
        record {
          out = so_far.out;
          names = so_far.names ++ a ∷ [];
          rest = set.0;
          many = let many = so_far.many in omega (arith, many, length-append so_far.names (a ∷ []));
          left = set.1;
          known =
              is_put
              ∙ ap put_in so_far.known
              ∙ ap (λ (l : List ℕ). let k : KeptState = record before { state = record before.state { out = so_far.out; standing = l } } in k) set.2;
          becomes =
              told old next d (now.heap d ++ named a (fresh_throwable classes c) ∷ [])
              (old.heap d ++ objects_named classes (so_far.out ∷ (so_far.names ++ a ∷ [])) (take (i + 1 + 1) opening_classes))
              (now.used d + object_words classes (fresh_throwable classes c))
              (old.used d + heap_words classes (objects_named classes (so_far.out ∷ (so_far.names ++ a ∷ [])) (take (i + 1 + 1) opening_classes)))
              (ap (λ (h : List NamedObject). h ++ named a (fresh_throwable classes c) ∷ []) so_far.becomes.becomes
              ∙ append_assoc (old.heap d) made_so_far (named a (fresh_throwable classes c) ∷ [])
              ∙ ap (λ (l : List NamedObject). old.heap d ++ l) (sym longer))
              (let used = so_far.becomes.uses in
              let whole = ap (heap_words classes) longer in
              let sum = sum_by-append (words_in classes) made_so_far (named a (fresh_throwable classes c) ∷ []) in
              let one = sum_by-cons (words_in classes) (named a (fresh_throwable classes c)) [] in
              omega (arith, used, whole, sum, one))
              (both_become old now next d (old.heap d ++ made_so_far) (now.heap d ++ named a (fresh_throwable classes c) ∷ [])
              (old.used d + heap_words classes made_so_far) (now.used d + object_words classes (fresh_throwable classes c)) so_far.becomes made.becomes);
        }

pub all_standing : (old now : HeapContent) (classes : List ClassRecord) (d : DomainId) (before kept : KeptState) (i : ℕ) → i ≡ 8 → IsHeapContent now
    → StandingSoFar old now classes d before kept i → MakesStanding old now classes d before kept
all_standing old now classes d before kept i end holds so_far =
    let all : take (i + 1) opening_classes ≡ opening_classes = ap (λ (k : ℕ). take (k + 1) opening_classes) end in
    let names : so_far.names ++ so_far.rest ≡ so_far.names =
    ap (λ (l : List ℕ). so_far.names ++ l) (nil_from_length so_far.rest (let left = so_far.left in omega (arith, left, end))) ∙ append-nil so_far.names in
    let made : List NamedObject = objects_named classes (so_far.out ∷ so_far.names) opening_classes in
    let same : objects_named classes (so_far.out ∷ so_far.names) (take (i + 1) opening_classes) ≡ made =
    ap (objects_named classes (so_far.out ∷ so_far.names)) all in
    let becomes : HeapBecomes old now d (old.heap d ++ made) (old.used d + heap_words classes made) =
    subst (λ (l : List NamedObject). HeapBecomes old now d (old.heap d ++ l) (old.used d + heap_words classes l)) same so_far.becomes in
    let differ : NamesDiffer (old.heap d ++ made) = subst NamesDiffer becomes.becomes (holds.differ d) in
    record {
      out = so_far.out;
      standing = so_far.names;
      makes = record {
        fresh = λ e has. front_lacks (old.heap d) made e differ has;
        differ = back_differs (old.heap d) made differ;
        becomes = becomes;
      };
      known =
          so_far.known
          ∙ ap (λ (l : List ℕ). let k : KeptState = record before { state = record before.state { out = so_far.out; standing = l } } in k) names;
    }
