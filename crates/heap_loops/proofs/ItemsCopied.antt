-- Items of an array are copied one after the other into another array, or into the same one: an item is read that is still as it was, and
-- put beside those that were copied before.
use Rattle.std.proofs.Common.{inl, inr, ◌≡◌, ◌≢◌, ℕ, ◌+◌, ◌-◌, ◌<◌, ◌≤◌, ◌^◌, List, length, drop, get_or, Some, slice_set, refl, sym, ap, ◌∙◌, subst, arith}
use Rattle.std.proofs.Math.Seq.{paste}
use Rattle.std.proofs.lemmas.List.Edits.{paste_none}
use Rattle.std.proofs.lemmas.Option.{same_Some, slice_get-get_or}
use Rattle.list_lemmas.proofs.ItemsRead.{all_read}
use Rattle.list_lemmas.proofs.TestsAndOrders.{same_or_not}
use Rattle.jk_model.specs.declared.identifiers.DomainId.{DomainId}
use Rattle.jk_model.specs.declared.values.Value.{Value}
use Rattle.jk_model.specs.declared.values.Value.TheVariants as Held
use Rattle.jk_model_classes.specs.declared.records.ClassRecord.{ClassRecord}
use Rattle.jk_model_classes.specs.declared.records.TypeRef.{TypeRef}
use Rattle.jk_model_domains.specs.Objects.{Array, Object}
use Rattle.jk_model_domains.specs.OwnStates.{zero_of}
use Rattle.object_store.specs.HeapContents.{AreOfKind, HasItem, HeapContent, IsHeapContent, IsLive, IsSmall, IsWritten, TakesItem, WritesObject, item_of}
use Rattle.object_store.proofs.KindsOfValues.{alike}
use Rattle.object_store.proofs.ObjectsWritten.{is_short, live_after, live_beside, then_written, written_as_it_is}
use Rattle.heap_loops.specs.ItemChanges.{AreOfOneKind, HasItems, MovesItems}
use Rattle.heap_loops.proofs.KindsOfElements.{of_one_kind}
use Rattle.heap_loops.proofs.RangesOfLists.{earlier_is_same, later_is_same, put_after, put_before, range_length}

-- so many items are moved
abbrev pub CopiesRange : HeapContent → HeapContent → DomainId → ℕ → ℕ → ℕ → ℕ → ℕ → Type 0
CopiesRange old now d source from target to count =
    MovesItems old now d (record { source = source; from = from; target = target; to = to; count = count })

same_items : (c : HeapContent) (d : DomainId) (a : ℕ) (t u : TypeRef) (items others : List Value) → IsLive c d a (Array t items)
    → IsLive c d a (Array u others) → items ≡ others
same_items c d a t u items others first second = let same : Some (Array t items) ≡ Some (Array u others) = sym first ∙ second in cc

-- places in an array fit 32 bits
pub ends_early : (c : HeapContent) (d : DomainId) (a n : ℕ) → IsHeapContent c → HasItems c d a n → n < 2 ^ 24
ends_early c d a n holds has =
    let short = is_short c d a (Array has.element has.items) holds has.live in
    let many = has.many in
    omega arith

pub none_copied : (c : HeapContent) (d : DomainId) (source from target to : ℕ) → IsHeapContent c → CopiesRange c c d source from target to 0
none_copied c d source from target to holds = λ t u items others live stands.
    subst (λ (l : List Value). WritesObject c c d target (Array u l)) (paste_none others to (drop from items))
    (written_as_it_is c d target (Array u others) holds stands)

-- ---- The item at one place is put at another.

-- the array of a name has this item at a place
record Reads (c : HeapContent) (d : DomainId) (a place : ℕ) (t : TypeRef) (item : Value) : Type 0 where
  items : List Value
  live : IsLive c d a (Array t items)
  within : place < length items
  is : get_or items place Held.Null ≡ item

module _ (old now : HeapContent) (d : DomainId) (source target p q : ℕ) (holds : IsHeapContent now) (kind : AreOfOneKind old d source target)
    (t u : TypeRef) (items others current : List Value) (live : IsLive old d source (Array t items)) (into : IsLive old d target (Array u others))
    (is_there : p < length items) (has_place : q < length others) (long : length current ≡ length others)
    (unchanged : source ≡ target → get_or current p Held.Null ≡ get_or others p Held.Null)
    (so_far : WritesObject old now d target (Array u current)) where
  abbrev item : Value
  item = get_or items p Held.Null

  abbrev before : Value
  before = get_or current q Held.Null

  stands : IsLive now d target (Array u current)
  stands = live_after old now d target (Array u others) (Array u current) into so_far

  is_long : q < length current
  is_long = omega (arith, long)

  reads_beside : source ≢ target → Reads now d source p t item
  reads_beside differ = record {
    items = items;
    live = live_beside old now d target source (Array u current) (Array t items) differ live so_far;
    within = is_there;
    is = refl;
  }

  reads_itself : source ≡ target → Reads now d source p t item
  reads_itself same =
      let there : IsLive old d source (Array u others) = subst (λ (a : ℕ). IsLive old d a (Array u others)) (sym same) into in
      let both : Some (Array t items) ≡ Some (Array u others) = sym live ∙ there in
      let one : t ≡ u = cc in
      let all : items ≡ others = cc in
      record {
        items = current;
        live =
            subst (λ (e : TypeRef). IsLive now d source (Array e current)) (sym one)
            (subst (λ (a : ℕ). IsLive now d a (Array u current)) (sym same) stands);
        within = omega (arith, long, ap length all);
        is = unchanged same ∙ ap (λ (l : List Value). get_or l p Held.Null) (sym all);
      }

  reads : Reads now d source p t item
  reads = elim (same_or_not source target) [ inl same ↦ reads_itself same | inr differ ↦ reads_beside differ ]

  pub has_item : (classes : List ClassRecord) → HasItem now classes d source p
  has_item classes = record {
    object = Array t reads.items;
    live = reads.live;
    laid_out = tt;
    value = get_or reads.items p Held.Null;
    stands = slice_get-get_or reads.items p Held.Null reads.within;
  }

  module _ (v : Value) (read : (object : Object) → IsLive now d source object → item_of object p ≡ Some v) where
    value_stands : v ≡ get_or reads.items p Held.Null
    value_stands =
        same_Some v (get_or reads.items p Held.Null)
        (sym (read (Array t reads.items) reads.live) ∙ slice_get-get_or reads.items p Held.Null reads.within)

    source_has : AreOfKind (zero_of t) v × IsSmall v
    source_has =
        subst (λ (w : Value). AreOfKind (zero_of t) w × IsSmall w) (sym value_stands)
        (all_read (λ (w : Value). AreOfKind (zero_of t) w × IsSmall w) reads.items p Held.Null (holds.stored d source (Array t reads.items) reads.live)
        reads.within)

    target_has : AreOfKind (zero_of u) before × IsSmall before
    target_has =
        all_read (λ (w : Value). AreOfKind (zero_of u) w × IsSmall w) current q Held.Null (holds.stored d target (Array u current) stands) is_long

    kinds : AreOfKind (zero_of t) (zero_of u)
    kinds = of_one_kind t u (kind t u items others live into)

    written : IsWritten (Array u current) q v (Array u (slice_set current q v))
    written = (
      slice_set current q v,
      record {
        before = before;
        stands = slice_get-get_or current q Held.Null is_long;
        kind = alike (zero_of u) before v target_has.0 (alike (zero_of t) (zero_of u) v kinds source_has.0);
        small = source_has.1;
        becomes = refl;
      },
      refl,
    )

    pub takes_item : (classes : List ClassRecord) → TakesItem now classes d target q v
    takes_item classes = record {
      object = Array u current;
      live = stands;
      laid_out = tt;
      new = Array u (slice_set current q v);
      written = written;
    }

    pub item_put : (next : HeapContent)
        → ((object new : Object) → IsLive now d target object → IsWritten object q v new → WritesObject now next d target new)
        → WritesObject old next d target (Array u (slice_set current q item))
    item_put next writes =
        subst (λ (w : Value). WritesObject old next d target (Array u (slice_set current q w))) (value_stands ∙ reads.is)
        (then_written old now next d target (Array u current) (Array u (slice_set current q v)) so_far
        (writes (Array u current) (Array u (slice_set current q v)) stands written))

-- an array of so many items has them by any other description of it
as_many : (c : HeapContent) (d : DomainId) (a n : ℕ) (t : TypeRef) (items : List Value) → HasItems c d a n → IsLive c d a (Array t items)
    → n ≤ length items
as_many c d a n t items has live = subst (λ (l : List Value). n ≤ length l) (same_items c d a has.element t has.items items has.live live) has.many

-- ---- The first item first.

module _ (old now : HeapContent) (d : DomainId) (source from target to count i : ℕ) (holds : IsHeapContent now)
    (has : HasItems old d source (from + count)) (into : HasItems old d target (to + count)) (kind : AreOfOneKind old d source target)
    (way : source ≡ target → to ≤ from) (within : i < count) (so_far : CopiesRange old now d source from target to i) where
  module _ (t u : TypeRef) (items others : List Value) (live : IsLive old d source (Array t items)) (stands : IsLive old d target (Array u others)) where
    abbrev ahead : List Value
    ahead = paste others to (drop from items) i

    there_ahead : from + i < length items
    there_ahead = let all = as_many old d source (from + count) t items has live in omega arith

    place_ahead : to + i < length others
    place_ahead = let all = as_many old d target (to + count) u others into stands in omega arith

    long_ahead : length ahead ≡ length others
    long_ahead = let there = there_ahead in let place = place_ahead in range_length items others from to i (omega arith) (omega arith)

    unchanged_ahead : source ≡ target → get_or ahead (from + i) Held.Null ≡ get_or others (from + i) Held.Null
    unchanged_ahead same =
        let there = there_ahead in
        let place = place_ahead in
        later_is_same items others from to i Held.Null (way same) (omega arith) (omega arith)

    reads_ahead : (classes : List ClassRecord) → HasItem now classes d source (from + i)
    reads_ahead =
        has_item old now d source target (from + i) (to + i) holds kind t u items others ahead live stands there_ahead place_ahead long_ahead
        unchanged_ahead (so_far t u items others live stands)

    module _ (v : Value) (read : (object : Object) → IsLive now d source object → item_of object (from + i) ≡ Some v) where
      takes_ahead : (classes : List ClassRecord) → TakesItem now classes d target (to + i) v
      takes_ahead =
          takes_item old now d source target (from + i) (to + i) holds kind t u items others ahead live stands there_ahead place_ahead long_ahead
          unchanged_ahead (so_far t u items others live stands) v read

      put_ahead : (next : HeapContent)
          → ((object new : Object) → IsLive now d target object → IsWritten object (to + i) v new → WritesObject now next d target new)
          → WritesObject old next d target (Array u (paste others to (drop from items) (i + 1)))
      put_ahead next writes =
          subst (λ (l : List Value). WritesObject old next d target (Array u l)) (put_after items others from to i Held.Null there_ahead place_ahead)
          (item_put old now d source target (from + i) (to + i) holds kind t u items others ahead live stands there_ahead place_ahead long_ahead
          unchanged_ahead (so_far t u items others live stands) v read next writes)

  pub has_next : (classes : List ClassRecord) → HasItem now classes d source (from + i)
  has_next = reads_ahead has.element into.element has.items into.items has.live into.live

  module _ (v : Value) (read : (object : Object) → IsLive now d source object → item_of object (from + i) ≡ Some v) where
    pub takes_next : (classes : List ClassRecord) → TakesItem now classes d target (to + i) v
    takes_next = takes_ahead has.element into.element has.items into.items has.live into.live v read

    pub next_copied : (next : HeapContent)
        → ((object new : Object) → IsLive now d target object → IsWritten object (to + i) v new → WritesObject now next d target new)
        → CopiesRange old next d source from target to (i + 1)
    next_copied next writes = λ t u items others live stands. put_ahead t u items others live stands v read next writes

-- ---- The last item first: so many are copied, of those after the places that come now.

module _ (old now : HeapContent) (d : DomainId) (source from target to count : ℕ) (holds : IsHeapContent now)
    (has : HasItems old d source (from + 1 + count)) (into : HasItems old d target (to + 1 + count)) (kind : AreOfOneKind old d source target)
    (way : source ≡ target → from ≤ to) (so_far : CopiesRange old now d source (from + 1) target (to + 1) count) where
  module _ (t u : TypeRef) (items others : List Value) (live : IsLive old d source (Array t items)) (stands : IsLive old d target (Array u others)) where
    abbrev behind : List Value
    behind = paste others (to + 1) (drop (from + 1) items) count

    there_behind : from < length items
    there_behind = let all = as_many old d source (from + 1 + count) t items has live in omega arith

    place_behind : to < length others
    place_behind = let all = as_many old d target (to + 1 + count) u others into stands in omega arith

    long_behind : length behind ≡ length others
    long_behind =
        range_length items others (from + 1) (to + 1) count (as_many old d target (to + 1 + count) u others into stands)
        (as_many old d source (from + 1 + count) t items has live)

    unchanged_behind : source ≡ target → get_or behind from Held.Null ≡ get_or others from Held.Null
    unchanged_behind same = earlier_is_same items others from to count Held.Null (way same) place_behind

    reads_behind : (classes : List ClassRecord) → HasItem now classes d source from
    reads_behind =
        has_item old now d source target from to holds kind t u items others behind live stands there_behind place_behind long_behind
        unchanged_behind (so_far t u items others live stands)

    module _ (v : Value) (read : (object : Object) → IsLive now d source object → item_of object from ≡ Some v) where
      takes_behind : (classes : List ClassRecord) → TakesItem now classes d target to v
      takes_behind =
          takes_item old now d source target from to holds kind t u items others behind live stands there_behind place_behind long_behind
          unchanged_behind (so_far t u items others live stands) v read

      put_behind : (next : HeapContent)
          → ((object new : Object) → IsLive now d target object → IsWritten object to v new → WritesObject now next d target new)
          → WritesObject old next d target (Array u (paste others to (drop from items) (count + 1)))
      put_behind next writes =
          subst (λ (l : List Value). WritesObject old next d target (Array u l))
          (put_before items others from to count Held.Null there_behind place_behind)
          (item_put old now d source target from to holds kind t u items others behind live stands there_behind place_behind long_behind
          unchanged_behind (so_far t u items others live stands) v read next writes)

  pub has_previous : (classes : List ClassRecord) → HasItem now classes d source from
  has_previous = reads_behind has.element into.element has.items into.items has.live into.live

  module _ (v : Value) (read : (object : Object) → IsLive now d source object → item_of object from ≡ Some v) where
    pub takes_previous : (classes : List ClassRecord) → TakesItem now classes d target to v
    takes_previous = takes_behind has.element into.element has.items into.items has.live into.live v read

    pub previous_copied : (next : HeapContent)
        → ((object new : Object) → IsLive now d target object → IsWritten object to v new → WritesObject now next d target new)
        → CopiesRange old next d source from target to (count + 1)
    previous_copied next writes = λ t u items others live stands. put_behind t u items others live stands v read next writes

-- ---- The same in a loop that counts down: i places are left, and k is the last of them.

module _ (old now : HeapContent) (d : DomainId) (source from target to count i k : ℕ) (holds : IsHeapContent now)
    (has : HasItems old d source (from + count)) (into : HasItems old d target (to + count)) (kind : AreOfOneKind old d source target)
    (way : source ≡ target → from ≤ to) (last : i ≡ k + 1) (within : i ≤ count)
    (so_far : CopiesRange old now d source (from + i) target (to + i) (count - i)) where
  source_end : from + count ≡ from + k + 1 + (count - i)
  source_end = omega (arith, last)

  target_end : to + count ≡ to + k + 1 + (count - i)
  target_end = omega (arith, last)

  has_end : HasItems old d source (from + k + 1 + (count - i))
  has_end = subst (HasItems old d source) source_end has

  into_end : HasItems old d target (to + k + 1 + (count - i))
  into_end = subst (HasItems old d target) target_end into

  other_way : source ≡ target → from + k ≤ to + k
  other_way same = let less = way same in omega arith

  so_far_end : CopiesRange old now d source (from + k + 1) target (to + k + 1) (count - i)
  so_far_end =
      let source_place : from + i ≡ from + k + 1 = omega (arith, last) in
      let target_place : to + i ≡ to + k + 1 = omega (arith, last) in
      subst (λ (n : ℕ). CopiesRange old now d source (from + k + 1) target n (count - i)) target_place
      (subst (λ (n : ℕ). CopiesRange old now d source n target (to + i) (count - i)) source_place so_far)

  pub has_last : (classes : List ClassRecord) → HasItem now classes d source (from + k)
  has_last = has_previous old now d source (from + k) target (to + k) (count - i) holds has_end into_end kind other_way so_far_end

  module _ (v : Value) (read : (object : Object) → IsLive now d source object → item_of object (from + k) ≡ Some v) where
    pub takes_last : (classes : List ClassRecord) → TakesItem now classes d target (to + k) v
    takes_last = takes_previous old now d source (from + k) target (to + k) (count - i) holds has_end into_end kind other_way so_far_end v read

    pub last_copied : (next : HeapContent)
        → ((object new : Object) → IsLive now d target object → IsWritten object (to + k) v new → WritesObject now next d target new)
        → CopiesRange old next d source (from + k) target (to + k) (count - k)
    last_copied next writes =
        let more : count - i + 1 ≡ count - k = omega (arith, last) in
        subst (λ (n : ℕ). CopiesRange old next d source (from + k) target (to + k) n) more
        (previous_copied old now d source (from + k) target (to + k) (count - i) holds has_end into_end kind other_way so_far_end v read next writes)

-- no place is left over at the end, and all of them at the start
pub none_from_end : (c : HeapContent) (d : DomainId) (source from target to count : ℕ) → IsHeapContent c
    → CopiesRange c c d source (from + count) target (to + count) (count - count)
none_from_end c d source from target to count holds =
    let none : 0 ≡ count - count = omega arith in
    subst (λ (n : ℕ). CopiesRange c c d source (from + count) target (to + count) n) none
    (none_copied c d source (from + count) target (to + count) holds)

pub all_from_end : (old now : HeapContent) (d : DomainId) (source from target to count i : ℕ) → i ≡ 0
    → CopiesRange old now d source (from + i) target (to + i) (count - i) → CopiesRange old now d source from target to count
all_from_end old now d source from target to count i end so_far =
    let source_place : from + i ≡ from = omega (arith, end) in
    let target_place : to + i ≡ to = omega (arith, end) in
    let all : count - i ≡ count = omega (arith, end) in
    subst (λ (n : ℕ). CopiesRange old now d source from target to n) all
    (subst (λ (n : ℕ). CopiesRange old now d source from target n (count - i)) target_place
    (subst (λ (n : ℕ). CopiesRange old now d source n target (to + i) (count - i)) source_place so_far))
