-- An object is put behind all others of its heap: the parts fit each other again, and the objects are those before and the new one.
use Rattle.std.proofs.Common.{inl, inr, ◌⊎◌, ◌≡◌, ℕ, zero, suc, ◌+◌, ◌-◌, ◌<◌, ◌≤◌, Bool, true, false, cond, List, [], ◌∷◌, ◌++◌, length, Option, Some, None, slice_get, refl, sym, ap, subst, ◌∙◌, arith}
use Rattle.std.specs.Option.{option_map, option_map_or}
use Rattle.std.proofs.lemmas.Bool.{cases_lt}
use Rattle.std.proofs.lemmas.List.{length-append, length_push}
use Rattle.std.proofs.lemmas.Option.{slice_get_past, slice_get_within}
use Rattle.list_lemmas.proofs.ItemsByPlace.{old_or_new, slice_get-back, slice_get-front}
use Rattle.jk_model.specs.declared.values.Value.{Value}
use Rattle.jk_model_classes.specs.declared.records.ClassRecord.{ClassRecord}
use Rattle.jk_model_domains.specs.Objects.{NamedObject, Object, object_words}
use Rattle.jk_model_heaps.specs.declared.shapes.Shape.{Shape}
use Rattle.jk_model_heaps.specs.declared.shapes.Shape.TheVariants as Of
use Rattle.jk_model_heaps.specs.Heaps.{named}
use Rattle.plain_store.specs.declared.domain_heap.DomainHeap.{DomainHeap}
use Rattle.plain_store.specs.declared.domain_heap.Header.{Header}
use Rattle.plain_store.specs.Headers.{IsDomainHeap, IsPlaced, is_text, kind_of, object_of, object_with, said_kind, said_len, units_in, values_in}
use Rattle.plain_store.specs.HeapMoves.{MakesIn, mark_of, objects_of}
use Rattle.plain_store.specs.NumberedObjects.{heap-push, heap-same, heap_of, named-heap}
use Rattle.plain_store.specs.Pieces.{piece, piece-append, piece-behind}
use Rattle.plain_store.proofs.NewPayloads.{IsPayload}

-- ---- What an object of a shape doesn't depend on.

pub with-same : (shape : Shape) (vs ws : List Value) (us ts : List ℕ) → (is_text shape ≡ false → vs ≡ ws) → (is_text shape ≡ true → us ≡ ts)
    → object_with shape vs us ≡ object_with shape ws ts
with-same (Of.Plain c) vs ws us ts value text = ap (λ (xs : List Value). object_with (Of.Plain c) xs us) (value refl)
with-same (Of.Array t n) vs ws us ts value text = ap (λ (xs : List Value). object_with (Of.Array t n) xs us) (value refl)
with-same (Of.Text n) vs ws us ts value text = ap (λ (xs : List ℕ). object_with (Of.Text n) vs xs) (text refl)
with-same (Of.Task s) vs ws us ts value text = refl

pub text_kind : (shape : Shape) (k : ℕ) → is_text shape ≡ true → said_kind shape k ≡ k
text_kind (Of.Plain c) k text = refl
text_kind (Of.Array t n) k text = absurd cc
text_kind (Of.Text n) k text = refl
text_kind (Of.Task s) k text = refl

-- what two lists together have, one of them has
in_either : {X : Type 0} (xs ys : List X) (k : ℕ) (x : X) → slice_get (xs ++ ys) k ≡ Some x
    → (slice_get xs k ≡ Some x) ⊎ ((j : ℕ) × (slice_get ys j ≡ Some x))
in_either xs ys k x e = elim (cases_lt k (length xs)) [
  | inl front ↦ inl (sym (slice_get-front xs ys k front) ∙ e)
  | inr back ↦ let at : k ≡ length xs + (k - length xs) = omega arith in inr (k - length xs, sym (slice_get-back xs ys (k - length xs) k at) ∙ e)
]

first_where : (b t : Bool) (first m n : ℕ) → first ≡ cond b m n → b ≡ t → first ≡ cond t m n
first_where b t first m n e same = e ∙ ap (λ (c : Bool). cond c m n) same

abbrev mark_in : Option Header → ℕ
mark_in o = option_map_or (λ (g : Header). g.mark) o 0

module _ (x : DomainHeap) (h : Header) (object : Object) (payload : IsPayload h.shape object)
    (first_is : h.first ≡ cond (is_text h.shape) (length x.units.items) (length x.values.items))
    (len_is : h.len ≡ length (values_in object) + length (units_in object)) where
  abbrev more_values : List Value
  more_values = x.values.items ++ values_in object

  abbrev more_units : List ℕ
  more_units = x.units.items ++ units_in object

  values_long : length more_values ≡ length x.values.items + length (values_in object)
  values_long = length-append x.values.items (values_in object)

  units_long : length more_units ≡ length x.units.items + length (units_in object)
  units_long = length-append x.units.items (units_in object)

  -- where the new payload is
  behind_values : is_text h.shape ≡ false → h.first ≡ length x.values.items
  behind_values value = first_where (is_text h.shape) false h.first (length x.units.items) (length x.values.items) first_is value

  behind_units : is_text h.shape ≡ true → h.first ≡ length x.units.items
  behind_units text = first_where (is_text h.shape) true h.first (length x.units.items) (length x.values.items) first_is text

  long_values : is_text h.shape ≡ false → h.len ≡ length (values_in object)
  long_values value =
      let none : length (units_in object) ≡ 0 = ap (λ (us : List ℕ). length us) (payload.no_units value) in
      omega (arith, len_is)

  long_units : is_text h.shape ≡ true → h.len ≡ length (units_in object)
  long_units text =
      let none : length (values_in object) ≡ 0 = ap (λ (vs : List Value). length vs) (payload.no_values text) in
      omega (arith, len_is)

  new_is : object_of more_values more_units h ≡ object
  new_is =
      with-same h.shape (piece more_values h.first h.len) (values_in object) (piece more_units h.first h.len) (units_in object)
      (λ value. piece-behind x.values.items (values_in object) h.first h.len (behind_values value) (long_values value))
      (λ text. piece-behind x.units.items (units_in object) h.first h.len (behind_units text) (long_units text))
      ∙ payload.is

  old_is : (k : ℕ) (g : Header) → slice_get x.headers.items k ≡ Some g → object_of more_values more_units g ≡ object_of x.values.items x.units.items g
  old_is k g at =
      let placed = x.ok.placed k g at in
      with-same g.shape (piece more_values g.first g.len) (piece x.values.items g.first g.len) (piece more_units g.first g.len)
      (piece x.units.items g.first g.len)
      (λ value. piece-append x.values.items g.first g.len (values_in object) (placed.in_values value))
      (λ text. piece-append x.units.items g.first g.len (units_in object) (placed.in_units text))

  pub grown_objects : heap_of (object_of more_values more_units) (x.headers.items ++ h ∷ [])
      ≡ heap_of (object_of x.values.items x.units.items) x.headers.items ++ named (length x.headers.items) object ∷ []
  grown_objects =
      let old : Header → Object = object_of x.values.items x.units.items in
      let new : Header → Object = object_of more_values more_units in
      heap-push new x.headers.items h
      ∙ ap (λ (es : List NamedObject). es ++ named (length x.headers.items) (new h) ∷ []) (heap-same old new x.headers.items old_is)
      ∙ ap (λ (o : Object). heap_of old x.headers.items ++ named (length x.headers.items) o ∷ []) new_is

  -- ---- The parts fit.

  kinds_by : (g : Header) → ((is_text g.shape ≡ false) → g.first + g.len ≤ length x.values.items)
      → ((j : ℕ) (v : Value) → j < g.len → slice_get x.values.items (g.first + j) ≡ Some v → said_kind g.shape (kind_of v) ≡ kind_of v)
      → (t : Bool) → is_text g.shape ≡ t
      → (j : ℕ) (v : Value) → j < g.len → slice_get more_values (g.first + j) ≡ Some v → said_kind g.shape (kind_of v) ≡ kind_of v
  kinds_by g there kinds true text j v lt at = text_kind g.shape (kind_of v) text
  kinds_by g there kinds false value j v lt at =
      let within : g.first + j < length x.values.items = omega (arith, there value) in
      kinds j v lt (sym (slice_get-front x.values.items (values_in object) (g.first + j) within) ∙ at)

  old_placed : (k : ℕ) (g : Header) → slice_get x.headers.items k ≡ Some g → IsPlaced more_values more_units g
  old_placed k g at =
      let placed = x.ok.placed k g at in
      record {
        in_values = λ value. omega (arith, placed.in_values value, values_long);
        in_units = λ text. omega (arith, placed.in_units text, units_long);
        long = placed.long;
        kinds = kinds_by g placed.in_values placed.kinds (is_text g.shape) refl;
      }

  new_kinds : (t : Bool) → is_text h.shape ≡ t
      → (j : ℕ) (v : Value) → j < h.len → slice_get more_values (h.first + j) ≡ Some v → said_kind h.shape (kind_of v) ≡ kind_of v
  new_kinds true text j v lt at = text_kind h.shape (kind_of v) text
  new_kinds false value j v lt at =
      let place : h.first + j ≡ length x.values.items + j = omega (arith, behind_values value) in
      payload.kinds j v (sym (slice_get-back x.values.items (values_in object) j (h.first + j) place) ∙ at)

  new_placed : IsPlaced more_values more_units h
  new_placed =
      record {
        in_values = λ value. omega (arith, behind_values value, long_values value, values_long);
        in_units = λ text. omega (arith, behind_units text, long_units text, units_long);
        long = subst (λ (n : ℕ). said_len h.shape n ≡ n) (sym len_is) payload.long;
        kinds = new_kinds (is_text h.shape) refl;
      }

  before_new : (g : Header) (k : ℕ) → slice_get x.headers.items k ≡ Some g → (t : Bool) → is_text h.shape ≡ t → is_text g.shape ≡ is_text h.shape
      → g.first + g.len ≤ h.first
  before_new g k at true text same = omega (arith, (x.ok.placed k g at).in_units (same ∙ text), behind_units text)
  before_new g k at false value same = omega (arith, (x.ok.placed k g at).in_values (same ∙ value), behind_values value)

  before_end : (j k : ℕ) (g : Header) → j < k → k ≡ length x.headers.items → slice_get (x.headers.items ++ h ∷ []) j ≡ Some g
      → slice_get x.headers.items j ≡ Some g
  before_end j k g lt end at = sym (slice_get-front x.headers.items (h ∷ []) j (omega arith)) ∙ at

  pub grown_heap : (used : ℕ) → x.used + (length (values_in object) + length (units_in object) + 4) ≤ used → used ≤ x.words
      → IsDomainHeap x.words used (x.headers.items ++ h ∷ []) more_values more_units
  grown_heap used paid within =
      record {
        least = x.ok.least;
        most = x.ok.most;
        within = within;
        paid = omega (arith, x.ok.paid, values_long, units_long, length_push x.headers.items h);
        placed =
            λ k g at. elim (old_or_new x.headers.items h k g at) [
              | inl old ↦ old_placed k g old
              | inr new ↦ subst (IsPlaced more_values more_units) (sym new.1) new_placed
            ];
        apart =
            λ j k f g lt at_j at_k same. elim (old_or_new x.headers.items h k g at_k) [
              | inl old ↦
                  let low = slice_get_within x.headers.items k g old in
                  x.ok.apart j k f g lt (sym (slice_get-front x.headers.items (h ∷ []) j (omega arith)) ∙ at_j) old same
              | inr new ↦
                  let P : Header → Type 0 = λ (e : Header). is_text f.shape ≡ is_text e.shape → f.first + f.len ≤ e.first in
                  subst P (sym new.1) (before_new f j (before_end j k f lt new.0 at_j) (is_text h.shape) refl) same
            ];
        narrow =
            λ k v at. elim (in_either x.values.items (values_in object) k v at) [
              | inl old ↦ x.ok.narrow k v old
              | inr new ↦ payload.narrow new.0 v new.1
            ];
        units_fit =
            λ k u at. elim (in_either x.units.items (units_in object) k u at) [
              | inl old ↦ x.ok.units_fit k u old
              | inr new ↦ payload.fit new.0 u new.1
            ];
      }

  -- ---- Marks.

  one_mark : h.mark ≡ 0 → (j : ℕ) → mark_in (slice_get (h ∷ []) j) ≡ 0
  one_mark unmarked zero = unmarked
  one_mark unmarked (suc j) = refl

  pub grown_marks : h.mark ≡ 0 → (a : ℕ) → mark_in (slice_get (x.headers.items ++ h ∷ []) a) ≡ mark_in (slice_get x.headers.items a)
  grown_marks unmarked a = elim (cases_lt a (length x.headers.items)) [
    | inl low ↦ ap mark_in (slice_get-front x.headers.items (h ∷ []) a low)
    | inr high ↦
        let at : a ≡ length x.headers.items + (a - length x.headers.items) = omega arith in
        ap mark_in (slice_get-back x.headers.items (h ∷ []) (a - length x.headers.items) a at)
        ∙ one_mark unmarked (a - length x.headers.items) ∙ sym (ap mark_in (slice_get_past x.headers.items a high))
  ]

  -- ---- The whole.

  same_objects : (hs : List Header) (vs : List Value) (us : List ℕ) → hs ≡ x.headers.items ++ h ∷ [] → vs ≡ more_values → us ≡ more_units
      → heap_of (object_of vs us) hs ≡ heap_of (object_of more_values more_units) (x.headers.items ++ h ∷ [])
  same_objects hs vs us e f g =
      ap (heap_of (object_of vs us)) e
      ∙ ap (λ (ws : List Value). heap_of (object_of ws us) (x.headers.items ++ h ∷ [])) f
      ∙ ap (λ (ws : List ℕ). heap_of (object_of more_values ws) (x.headers.items ++ h ∷ [])) g

  pub made_heap : (used : ℕ) (hs : List Header) (vs : List Value) (us : List ℕ) → hs ≡ x.headers.items ++ h ∷ [] → vs ≡ more_values → us ≡ more_units
      → x.used + (length (values_in object) + length (units_in object) + 4) ≤ used → used ≤ x.words → IsDomainHeap x.words used hs vs us
  made_heap used hs vs us e f g paid within =
      subst (λ (ws : List Header). IsDomainHeap x.words used ws vs us) (sym e)
      (subst (λ (ws : List Value). IsDomainHeap x.words used (x.headers.items ++ h ∷ []) ws us) (sym f)
      (subst (IsDomainHeap x.words used (x.headers.items ++ h ∷ []) more_values) (sym g) (grown_heap used paid within)))

  pub made_in : (y : DomainHeap) (classes : List ClassRecord) (name : ℕ) → name ≡ length x.headers.items → h.mark ≡ 0 → y.words ≡ x.words
      → y.headers.items ≡ x.headers.items ++ h ∷ [] → y.values.items ≡ more_values → y.units.items ≡ more_units
      → y.used ≡ x.used + object_words classes object → MakesIn x y classes name object
  made_in y classes name last unmarked words e f g uses =
      let nothing : slice_get x.headers.items name ≡ None = slice_get_past x.headers.items name (omega (arith, last)) in
      let marks : (a : ℕ) → mark_of y a ≡ mark_of x a =
      λ a. ap (λ (hs : List Header). mark_in (slice_get hs a)) e ∙ grown_marks unmarked a in
      record {
        fresh =
            named-heap (object_of x.values.items x.units.items) x.headers.items name
            ∙ ap (option_map (object_of x.values.items x.units.items)) nothing;
        small = omega (arith, last, x.ok.paid, x.ok.within, x.ok.most);
        unmarked = marks name ∙ ap mark_in nothing;
        becomes = record {
          words = words;
          becomes =
              same_objects y.headers.items y.values.items y.units.items e f g ∙ grown_objects
              ∙ ap (λ (n : ℕ). objects_of x ++ named n object ∷ []) (sym last);
          uses = uses;
          mark = marks;
        };
      }
