-- What a change of one heap makes of the content of the store.
use Rattle.std.proofs.Common.{inl, inr, ◌≡◌, ◌≢◌, ℕ, ◌+◌, ◌-◌, ◌≤◌, List, [], ◌∷◌, ◌++◌, Option, Some, None, IsSome, Result, Ok, Err, OnErr, slice_get, refl, sym, ap, subst, ◌∙◌, arith}
use Rattle.std.specs.Option.{option_map, option_map_or}
use Rattle.std.proofs.lemmas.Bool.{cases_eq}
use Rattle.list_lemmas.proofs.ItemsByPlace.{item_there}
use Rattle.jk_model.specs.declared.identifiers.DomainId.{DomainId}
use Rattle.jk_model.specs.declared.values.Value.{Value}
use Rattle.jk_model_classes.specs.declared.records.ClassRecord.{ClassRecord}
use Rattle.jk_model_domains.specs.Objects.{NamedObject, Object, object_named, object_words}
use Rattle.jk_model_heaps.specs.Heaps.{named, with_object}
use Rattle.object_store.specs.HeapContents.{Admits, Closes, HasItem, HeapBecomes, IsAbove, IsLive, IsName, IsNextName, IsSame, KeepsDomains, KeepsOthers, MakesObject, Marks, TakesItem, WritesObject, words_left}
use Rattle.plain_store.specs.declared.domain_heap.DomainHeap.{DomainHeap}
use Rattle.plain_store.specs.declared.domain_heap.Header.{Header}
use Rattle.plain_store.specs.Headers.{object_of}
use Rattle.plain_store.specs.HeapMoves.{Becomes, HasItemAt, IsFresh, IsNamed, IsNextIn, IsObject, MakesIn, MarksIn, TakesItemAt, mark_of, next_place, objects_of}
use Rattle.plain_store.specs.NumberedObjects.{heap_of}
use Rattle.plain_store.specs.StoreContents.{Enters, content_of, heap_at}
use Rattle.plain_store.specs.StoredObjects.{object_there}
use Rattle.plain_store.proofs.ItemsOfObjects.{name_within}

-- ---- Parts of a heap that is there or not.

abbrev words_in : Option DomainHeap → Option ℕ
words_in o = option_map (λ (x : DomainHeap). x.words) o

abbrev used_in : Option DomainHeap → ℕ
used_in o = option_map_or (λ (x : DomainHeap). x.used) o 0

abbrev objects_in : Option DomainHeap → List NamedObject
objects_in o = option_map_or objects_of o []

abbrev mark_in : ℕ → Option DomainHeap → ℕ
mark_in a o = option_map_or (λ (x : DomainHeap). mark_of x a) o 0

abbrev left_in : Option DomainHeap → ℕ
left_in o = option_map_or (λ q. q - used_in o) (words_in o) 0

some_by : (o : Option DomainHeap) → IsSome (words_in o) → IsSome o
some_by None h = absurd cc
some_by (Some x) h = refl

named_by : (o : Option DomainHeap) (a : ℕ) (object : Object) → object_named (objects_in o) a ≡ Some object → IsSome o
named_by None a object h = absurd cc
named_by (Some x) a object h = refl

no_words : (o : Option DomainHeap) → words_in o ≡ None → o ≡ None
no_words None e = refl
no_words (Some x) e = absurd cc

pub err_map : {T E P Q : Type 0} (r : Result T E) → (P → Q) → OnErr r P → OnErr r Q
err_map (Ok x) f h = h
err_map (Err e) f h = f h

-- ---- What is asked of a store is asked of the heap.

module _ (m : List (Option DomainHeap)) (d : DomainId) where
  pub admitted : IsSome ((content_of m).quota d) → IsSome (heap_at m d.0)
  admitted h = some_by (heap_at m d.0) h

  pub not_admitted : (content_of m).quota d ≡ None → heap_at m d.0 ≡ None
  not_admitted e = no_words (heap_at m d.0) e

  pub there_by_name : (a : ℕ) → IsName (content_of m) d a → IsSome (heap_at m d.0)
  there_by_name a has = named_by (heap_at m d.0) a has.0 has.1

  pub there_by_item : (classes : List ClassRecord) (a i : ℕ) → HasItem (content_of m) classes d a i → IsSome (heap_at m d.0)
  there_by_item classes a i has = named_by (heap_at m d.0) a has.object has.live

  pub there_by_taken : (classes : List ClassRecord) (a i : ℕ) (v : Value) → TakesItem (content_of m) classes d a i v → IsSome (heap_at m d.0)
  there_by_taken classes a i v takes = named_by (heap_at m d.0) a takes.object takes.live

  module _ (x : DomainHeap) (is : heap_at m d.0 ≡ Some x) where
    pub live_in : (a : ℕ) (object : Object) → IsLive (content_of m) d a object → IsObject x a object
    live_in a object live = sym (ap (λ (o : Option DomainHeap). object_named (objects_in o) a) is) ∙ live

    pub live_of : (a : ℕ) (object : Object) → IsObject x a object → IsLive (content_of m) d a object
    live_of a object here = ap (λ (o : Option DomainHeap). object_named (objects_in o) a) is ∙ here

    pub name_in : (a : ℕ) → IsName (content_of m) d a → IsNamed x a
    name_in a has = (has.0, live_in a has.0 has.1)

    pub item_in : (classes : List ClassRecord) (a i : ℕ) → HasItem (content_of m) classes d a i → HasItemAt x a i
    item_in classes a i has = record { object = has.object; is = live_in a has.object has.live; value = has.value; stands = has.stands }

    pub taken_in : (classes : List ClassRecord) (a i : ℕ) (v : Value) → TakesItem (content_of m) classes d a i v → TakesItemAt x a i v
    taken_in classes a i v takes =
        record { object = takes.object; is = live_in a takes.object takes.live; new = takes.new; written = takes.written }

    pub left_is : words_left (content_of m) d ≡ x.words - x.used
    left_is = ap left_in is

    pub mark_there : (a : ℕ) → (content_of m).mark d a ≡ mark_of x a
    mark_there a = ap (mark_in a) is

    -- ---- Names in their order.

    above_by : (above : Option ℕ) (a : ℕ) → IsAbove above a → next_place above ≤ a
    above_by None a h = omega arith
    above_by (Some b) a h = omega arith

    next_above : (above : Option ℕ) → IsAbove above (next_place above)
    next_above None = tt
    next_above (Some b) = omega arith

    pub next_is : (above r : Option ℕ) → IsNextIn x above r → IsNextName (content_of m) d above r
    next_is above None none = λ a has high.
        let within = name_within x a has.0 (live_in a has.0 has.1) in
        absurd (omega (arith, within, none, above_by above a high))
    next_is above (Some a) next =
        let header = item_there x.headers.items a next.1 in (
          (object_of x.values.items x.units.items header.0, live_of a _ (object_there x a header.0 header.1)),
          subst (IsAbove above) (sym next.0) (next_above above),
          λ b has high. omega (arith, next.0, above_by above b high),
        )

-- ---- One heap changes.

same_number : (e d : DomainId) → e ≢ d → e.0 ≢ d.0
same_number e d ne same = ne (ap (λ (k : ℕ). let z : DomainId = record { 0 = k } in z) same)

module _ (m n : List (Option DomainHeap)) (d : DomainId) (x y : DomainHeap) (was : heap_at m d.0 ≡ Some x) (enters : Enters m n d.0 y) where
  -- what is the same of both heaps is the same of all
  same_by : {A : Type 0} (F : Option DomainHeap → A) → F (Some y) ≡ F (Some x) → (e : ℕ) → F (heap_at n e) ≡ F (heap_at m e)
  same_by F same e = elim (cases_eq e d.0) [
    | inl here ↦ ap (λ k. F (heap_at n k)) here ∙ ap F enters.is ∙ same ∙ sym (ap F was) ∙ sym (ap (λ k. F (heap_at m k)) here)
    | inr ne ↦ ap F (enters.others e ne)
  ]

  keeps : y.words ≡ x.words → KeepsDomains (content_of m) (content_of n)
  keeps words =
      record {
        pages = refl;
        took_all = refl;
        quota = λ e. same_by words_in (ap (λ (k : ℕ). Some k) words) e.0;
        first_page = λ e. refl;
      }

  becomes : (objects heap : List NamedObject) (used sum : ℕ) → Becomes x y objects used → objects ≡ heap → used ≡ sum
      → HeapBecomes (content_of m) (content_of n) d heap sum
  becomes objects heap used sum b same_heap same_sum =
      record {
        domains = keeps b.words;
        becomes = ap objects_in enters.is ∙ b.becomes ∙ same_heap;
        others = λ e ne. ap objects_in (enters.others e.0 (same_number e d ne));
        uses = ap used_in enters.is ∙ b.uses ∙ same_sum;
        other_uses = λ e ne. ap used_in (enters.others e.0 (same_number e d ne));
        mark = λ e a. same_by (mark_in a) (b.mark a) e.0;
      }

  pub makes : (classes : List ClassRecord) (a : ℕ) (object : Object) → MakesIn x y classes a object
      → MakesObject (content_of m) (content_of n) classes d a object
  makes classes a object made =
      record {
        fresh = ap (λ (o : Option DomainHeap). object_named (objects_in o) a) was ∙ made.fresh;
        small = made.small;
        unmarked = ap (mark_in a) enters.is ∙ made.unmarked;
        becomes =
            becomes (objects_of x ++ named a object ∷ []) ((content_of m).heap d ++ named a object ∷ []) (x.used + object_words classes object)
            ((content_of m).used d + object_words classes object) made.becomes
            (ap (λ (o : Option DomainHeap). objects_in o ++ named a object ∷ []) (sym was))
            (ap (λ (o : Option DomainHeap). used_in o + object_words classes object) (sym was));
      }

  pub writes : (a : ℕ) (object : Object) → Becomes x y (with_object a object (objects_of x)) x.used
      → WritesObject (content_of m) (content_of n) d a object
  writes a object b =
      becomes (with_object a object (objects_of x)) (with_object a object ((content_of m).heap d)) x.used ((content_of m).used d) b
      (ap (λ (o : Option DomainHeap). with_object a object (objects_in o)) (sym was)) (ap used_in (sym was))

  pub marks : (a k : ℕ) → MarksIn x y a k → Marks (content_of m) (content_of n) d a k
  marks a k marked =
      record {
        domains = keeps marked.words;
        used = λ e. same_by used_in marked.used e.0;
        heap = λ e. same_by objects_in marked.objects e.0;
        mark = ap (mark_in a) enters.is ∙ marked.mark;
        other_domains = λ e b ne. ap (mark_in b) (enters.others e.0 (same_number e d ne));
        others = λ b ne. ap (mark_in b) enters.is ∙ marked.others b ne ∙ sym (ap (mark_in b) was);
      }

  -- a heap that is as before
  pub stays : y ≡ x → IsSame (content_of m) (content_of n)
  stays same =
      record {
        domains = keeps (ap (λ (z : DomainHeap). z.words) same);
        used = λ e. same_by used_in (ap (λ (z : DomainHeap). z.used) same) e.0;
        heap = λ e. same_by objects_in (ap objects_of same) e.0;
        mark = λ e a. same_by (mark_in a) (ap (λ (z : DomainHeap). mark_of z a) same) e.0;
      }

-- ---- A heap comes or goes.

module _ (m n : List (Option DomainHeap)) (d : DomainId) where
  others_kept : ((e : ℕ) → e ≢ d.0 → heap_at n e ≡ heap_at m e) → KeepsOthers (content_of m) (content_of n) d
  others_kept others =
      record {
        quota = λ e ne. ap words_in (others e.0 (same_number e d ne));
        first_page = λ e ne. refl;
        used = λ e ne. ap used_in (others e.0 (same_number e d ne));
        heap = λ e ne. ap objects_in (others e.0 (same_number e d ne));
        mark = λ e a ne. ap (mark_in a) (others e.0 (same_number e d ne));
      }

  pub admits : (x : DomainHeap) (words : ℕ) → IsFresh x words → Enters m n d.0 x → Admits (content_of m) (content_of n) d words
  admits x words fresh enters =
      record {
        pages = refl;
        took_all = refl;
        quota = ap words_in enters.is ∙ ap (λ (k : ℕ). Some k) fresh.quota;
        place = inl (refl, refl);
        empty = record {
          unused = ap used_in enters.is ∙ fresh.unused;
          heap = ap objects_in enters.is ∙ ap (heap_of (object_of x.values.items x.units.items)) fresh.none;
          mark =
              λ a. ap (mark_in a) enters.is
              ∙ ap (λ (hs : List Header). option_map_or (λ (h : Header). h.mark) (slice_get hs a) 0) fresh.none;
        };
        others = others_kept enters.others;
      }

  pub closes : heap_at n d.0 ≡ None → ((e : ℕ) → e ≢ d.0 → heap_at n e ≡ heap_at m e) → Closes (content_of m) (content_of n) d
  closes gone others =
      record {
        pages = refl;
        took_all = refl;
        quota = ap words_in gone;
        place = refl;
        empty = record {
          unused = ap used_in gone;
          heap = ap objects_in gone;
          mark = λ a. ap (mark_in a) gone;
        };
        others = others_kept others;
      }

  pub unentered : n ≡ m → IsSame (content_of m) (content_of n)
  unentered same =
      record {
        domains = record { pages = refl; took_all = refl; quota = λ e. ap (λ hs. words_in (heap_at hs e.0)) same; first_page = λ e. refl };
        used = λ e. ap (λ hs. used_in (heap_at hs e.0)) same;
        heap = λ e. ap (λ hs. objects_in (heap_at hs e.0)) same;
        mark = λ e a. ap (λ hs. mark_in a (heap_at hs e.0)) same;
      }
