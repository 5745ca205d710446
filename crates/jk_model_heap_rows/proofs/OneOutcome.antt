-- What is done after an instruction on objects is told by the instruction, the frame and the heap: of a row's cases one alone holds.
use Rattle.std.proofs.Common.{◌≡◌, ℕ, suc, ◌==◌, Bool, not, IsTrue, ℤ, pos, inl, inr, List, [], ◌∷◌, length, map, Some, None, slice_get, if◌then◌else◌, refl, sym, ap, subst, ◌∙◌, arith}
use Rattle.std.proofs.lemmas.Bool.Decides.{nat_tests}
use Rattle.std.proofs.lemmas.Option.{none-some, same_Some}
use Rattle.list_lemmas.proofs.EndsOfLists.{one_split}
use Rattle.jk_model.specs.declared.identifiers.ClassId.{ClassId}
use Rattle.jk_model.specs.declared.instructions.Instr.{Instr}
use Rattle.jk_model.specs.declared.opcodes.TheConstants.{ANEWARRAY, NEWARRAY}
use Rattle.jk_model.specs.declared.steps.Raise.{Raise}
use Rattle.jk_model.specs.declared.steps.Raise.TheVariants as Raised
use Rattle.jk_model.specs.declared.values.Value.{Value}
use Rattle.jk_model.specs.declared.values.Value.TheVariants as Held
use Rattle.jk_model_classes.specs.declared.records.BaseRef.{BaseRef}
use Rattle.jk_model_classes.specs.declared.records.BaseRef.TheVariants as Base
use Rattle.jk_model_classes.specs.declared.records.Link.{Link}
use Rattle.jk_model_classes.specs.declared.records.Link.TheVariants as To
use Rattle.jk_model_classes.specs.declared.records.TypeRef.{TypeRef}
use Rattle.jk_model_typing.specs.FrameTypes.{array_type}
use Rattle.jk_model_typing.specs.Rows.{IsCodeOf}
use Rattle.jk_model_typing.specs.Scopes.{CodeScope, LeadsToLink}
use Rattle.jk_model_frames.specs.Frames.{FrameState}
use Rattle.jk_model_domains.specs.NumberRows.{IsOnTop}
use Rattle.jk_model_domains.specs.Objects.{NamedObject, Object, Text, object_words}
use Rattle.jk_model_domains.specs.OwnStates.{literal_named}
use Rattle.jk_model_heaps.specs.declared.shapes.Shape.{Shape}
use Rattle.jk_model_heaps.specs.declared.shapes.Shape.TheVariants as Of
use Rattle.jk_model_heaps.specs.Heaps.{MakesOne, zero_object}
use Rattle.jk_model_heaps.specs.References.{IsHeapArray, IsNullOrInstance}
use Rattle.jk_model_heaps.specs.Workings.{GoesOnWith, Inside, Outcome, Raises, RaisesHere, Setting, Working}
use Rattle.jk_model_heaps.proofs.ArraysInHeaps.{no_array_at_null, one_array}
use Rattle.jk_model_heap_rows.specs.ArrayTrees.{tree_words}
use Rattle.jk_model_heap_rows.specs.ElementRows.{ArrayLength, LoadsElement, StoresElement, place_at}
use Rattle.jk_model_heap_rows.specs.FieldRows.{GetsField, PutsField}
use Rattle.jk_model_heap_rows.specs.InstanceRows.{Casts, RaisesObject}
use Rattle.jk_model_heap_rows.specs.NewObjectRows.{LacksWords, LoadsText, MakesArray, MakesArrayOf, MakesArrays, MakesObject, PushesNew, count_of, counts_of}
use Rattle.jk_model_heap_rows.proofs.MadeOrLacking.{made_or_lacking}
use Rattle.jk_model_heap_rows.proofs.StoresAlone.{three_on_top}

-- ---- Operands.

same_index : (a : ℤ) (m n : ℕ) → a ≡ pos m → a ≡ pos n → m ≡ n
same_index a m n e f = cc

one_link : (s : CodeScope) (i : Instr) (a b : Link) → LeadsToLink s i a → LeadsToLink s i b → a ≡ b
one_link s i a b h k =
    let place : h.0 ≡ k.0 = same_index i.a h.0 k.0 h.1 k.1 in
    same_Some a b (sym h.2 ∙ ap (slice_get s.links) place ∙ k.2)

same_text : (us vs : List ℕ) → To.Text us ≡ To.Text vs → us ≡ vs
same_text us vs e = cc

same_kind : (t u : TypeRef) → To.Class t ≡ To.Class u → t ≡ u
same_kind t u e = cc

one_kind : (s : CodeScope) (i : Instr) (t u : TypeRef) → LeadsToLink s i (To.Class t) → LeadsToLink s i (To.Class u) → t ≡ u
one_kind s i t u h k = same_kind t u (one_link s i (To.Class t) (To.Class u) h k)

same_class : (c d : ClassId) → array_type 0 (Base.Class c) ≡ array_type 0 (Base.Class d) → c ≡ d
same_class c d e = let base : Base.Class c ≡ Base.Class d = ap (λ (t : TypeRef). t.base) e in cc

-- the kind of a code of newarray
abbrev kind_of_code : ℕ → BaseRef
kind_of_code code =
    if code == 4 then Base.Bool
    else (if code == 5 then Base.Char else (if code == 8 then Base.Byte else (if code == 9 then Base.Short
    else (if code == 10 then Base.Int else Base.Long))))

kind_by_code : (base : BaseRef) (code : ℕ) → IsCodeOf base code → kind_of_code code ≡ base
kind_by_code Base.Bool code e = ap kind_of_code e
kind_by_code Base.Char code e = ap kind_of_code e
kind_by_code Base.Byte code e = ap kind_of_code e
kind_by_code Base.Short code e = ap kind_of_code e
kind_by_code Base.Int code e = ap kind_of_code e
kind_by_code Base.Long code e = ap kind_of_code e
kind_by_code (Base.Class c) code e = absurd e

other_op : (n a b : ℕ) → IsTrue (not (a == b)) → n ≡ a → n ≡ b → ⊥
other_op n a b test e f = let same : a ≡ b = sym e ∙ f in grind (arith, nat_tests)

one_element : (s : CodeScope) (i : Instr) (t u : TypeRef) → MakesArrayOf s i t → MakesArrayOf s i u → t ≡ u
one_element s i t u (inl (op, (code, base, at, is, e))) (inl (too, (other, kind, also, of, f))) =
    let same : code ≡ other = same_index i.a code other at also in
    let bases : base ≡ kind = sym (kind_by_code base code is) ∙ ap kind_of_code same ∙ kind_by_code kind other of in
    e ∙ ap (λ (b : BaseRef). array_type 0 b) bases ∙ sym f
one_element s i t u (inl (op, p)) (inr (too, q)) = absurd (other_op i.op NEWARRAY ANEWARRAY refl op too)
one_element s i t u (inr (op, p)) (inl (too, q)) = absurd (other_op i.op ANEWARRAY NEWARRAY refl op too)
one_element s i t u (inr (op, p)) (inr (too, q)) = one_kind s i t u p q

-- ---- What stands on top of the stack.

same_top : (f : FrameState) (ts us : List Value) → IsOnTop f ts → IsOnTop f us → length ts ≡ length us → ts ≡ us
same_top f ts us h k long = (one_split h.0 k.0 ts us (sym h.1 ∙ k.1) long).1

first : (v w : Value) (vs ws : List Value) → v ∷ vs ≡ w ∷ ws → v ≡ w
first v w vs ws e = cc

one_on_top : (f : FrameState) (v w : Value) → IsOnTop f (v ∷ []) → IsOnTop f (w ∷ []) → v ≡ w
one_on_top f v w h k = first v w [] [] (same_top f (v ∷ []) (w ∷ []) h k refl)

int_on_top : (f : FrameState) (m n : ℤ) → IsOnTop f (Held.Int m ∷ []) → IsOnTop f (Held.Int n ∷ []) → m ≡ n
int_on_top f m n h k = let same : Held.Int m ≡ Held.Int n = one_on_top f (Held.Int m) (Held.Int n) h k in cc

record AreTwo (a b : Value) (m n : ℤ) : Type 0 where
  pub array : a ≡ b
  pub index : m ≡ n

two_on_top : (f : FrameState) (a b : Value) (m n : ℤ) → IsOnTop f (a ∷ Held.Int m ∷ []) → IsOnTop f (b ∷ Held.Int n ∷ []) → AreTwo a b m n
two_on_top f a b m n h k =
    let same : a ∷ Held.Int m ∷ [] ≡ b ∷ Held.Int n ∷ [] = same_top f (a ∷ Held.Int m ∷ []) (b ∷ Held.Int n ∷ []) h k refl in
    record { array = cc; index = cc }

same_ints : (ms ns : List ℤ) → map Held.Int ms ≡ map Held.Int ns → ms ≡ ns
same_ints [] [] e = refl
same_ints [] (n ∷ ns) e = absurd cc
same_ints (m ∷ ms) [] e = absurd cc
same_ints (m ∷ ms) (n ∷ ns) e =
    let head : m ≡ n = cc in
    let tail : map Held.Int ms ≡ map Held.Int ns = cc in
    let rest : ms ≡ ns = same_ints ms ns tail in
    λ j. head j ∷ rest j

lengths_of_ints : (ms : List ℤ) → length (map Held.Int ms) ≡ length ms
lengths_of_ints [] = refl
lengths_of_ints (m ∷ ms) = ap suc (lengths_of_ints ms)

ints_on_top : (f : FrameState) (ms ns : List ℤ) → length ms ≡ length ns → IsOnTop f (map Held.Int ms) → IsOnTop f (map Held.Int ns) → ms ≡ ns
ints_on_top f ms ns long h k =
    same_ints ms ns (same_top f (map Held.Int ms) (map Held.Int ns) h k (lengths_of_ints ms ∙ long ∙ sym (lengths_of_ints ns)))

object_or_null : (v w : Value) (a : ℕ) → v ≡ w → v ≡ Held.Null → w ≡ Held.Obj a → ⊥
object_or_null v w a e f g = cc

-- ---- The cases of each row.

module _ (x : Setting) (s : CodeScope) (i : Instr) (w new other : Working) (o r : Outcome) where
  pub both_go : {ts ps us qs : List Value} {a b : Inside} → GoesOnWith w ts ps a new o → GoesOnWith w us qs b other r → o ≡ r
  both_go p q = p.goes_on ∙ sym q.goes_on

  both_raise : {k l : Raise} → k ≡ l → RaisesHere w k new o → RaisesHere w l other r → o ≡ r
  both_raise e p q = p.1 ∙ ap Raises e ∙ sym q.1

  abbrev heap : List NamedObject
  heap = w.inside.heap

  never_both : (object other_object : Object) (a : ℕ) (made : List NamedObject) → object ≡ other_object
      → MakesOne x.classes x.quota heap a object made → LacksWords x w (object_words x.classes other_object) → ⊥
  never_both object other_object a made same makes lacks =
      made_or_lacking x.classes x.quota heap a object made makes
      (subst (λ (z : Object). LacksWords x w (object_words x.classes z)) (sym same) lacks)

  pushes_new : (ts us : List Value) (shape kind : Shape) → shape ≡ kind → PushesNew x w ts shape new o → PushesNew x w us kind other r → o ≡ r
  pushes_new ts us shape kind e (inl (a, made, makes, goes)) (inl (b, also, makes_too, goes_too)) = both_go goes goes_too
  pushes_new ts us shape kind e (inl (a, made, makes, goes)) (inr (lacks, raises)) =
      absurd (never_both (zero_object x.classes shape) (zero_object x.classes kind) a made (ap (zero_object x.classes) e) makes lacks)
  pushes_new ts us shape kind e (inr (lacks, raises)) (inl (b, also, makes, goes)) =
      absurd (never_both (zero_object x.classes kind) (zero_object x.classes shape) b also (ap (zero_object x.classes) (sym e)) makes lacks)
  pushes_new ts us shape kind e (inr (lacks, raises)) (inr (too, raises_too)) = both_raise refl raises raises_too

  one_text : (p : LoadsText x s i w new o) (q : LoadsText x s i w other r) → p.text ≡ q.text
  one_text p q = same_text p.text q.text (one_link s i (To.Text p.text) (To.Text q.text) p.names q.names)

  pub texts : LoadsText x s i w new o → LoadsText x s i w other r → o ≡ r
  texts p q =
      let text : p.text ≡ q.text = one_text p q in
      let literal : literal_named w.inside.own p.text ≡ literal_named w.inside.own q.text = ap (literal_named w.inside.own) text in
      let object : Text p.text ≡ Text q.text = ap Text text in
      elim p.does [
        | inl (a, is, goes) ↦ elim q.does [
          | inl (b, too, also) ↦ both_go goes also
          | inr (inl (b, made, none, makes, also)) ↦ absurd (none-some a (sym none ∙ sym literal ∙ is))
          | inr (inr (none, fails)) ↦ absurd (none-some a (sym none ∙ sym literal ∙ is))
        ]
        | inr (inl (a, made, none, makes, goes)) ↦ elim q.does [
          | inl (b, too, also) ↦ absurd (none-some b (sym none ∙ literal ∙ too))
          | inr (inl (b, also_made, too, makes_too, also)) ↦ both_go goes also
          | inr (inr (too, fails)) ↦ absurd (never_both (Text p.text) (Text q.text) a made object makes fails.0)
        ]
        | inr (inr (none, fails)) ↦ elim q.does [
          | inl (b, too, also) ↦ absurd (none-some b (sym none ∙ literal ∙ too))
          | inr (inl (b, made, too, makes, also)) ↦ absurd (never_both (Text q.text) (Text p.text) b made (sym object) makes fails.0)
          | inr (inr (too, also)) ↦ both_raise refl fails.1 also.1
        ]
      ]

  pub fields : GetsField x s i w new o → GetsField x s i w other r → o ≡ r
  fields p q =
      let top : p.receiver ≡ q.receiver = one_on_top w.frame p.receiver q.receiver p.on_top q.on_top in
      elim p.does [
        | inl null ↦ elim q.does [
          | inl also ↦ both_raise refl null.1 also.1
          | inr gets ↦ absurd (object_or_null p.receiver q.receiver gets.0.name top null.0 gets.0.refers)
        ]
        | inr gets ↦ elim q.does [
          | inl null ↦ absurd (object_or_null q.receiver p.receiver gets.0.name (sym top) null.0 gets.0.refers)
          | inr also ↦ both_go gets.1 also.1
        ]
      ]

  same_receiver : (p : PutsField x s i w new o) (q : PutsField x s i w other r) → p.receiver ≡ q.receiver
  same_receiver p q =
      first p.receiver q.receiver (p.value ∷ []) (q.value ∷ [])
      (same_top w.frame (p.receiver ∷ p.value ∷ []) (q.receiver ∷ q.value ∷ []) p.on_top q.on_top refl)

  pub puts : PutsField x s i w new o → PutsField x s i w other r → o ≡ r
  puts p q =
      let top : p.receiver ≡ q.receiver = same_receiver p q in
      elim p.does [
        | inl null ↦ elim q.does [
          | inl also ↦ both_raise refl null.1 also.1
          | inr sets ↦ absurd (object_or_null p.receiver q.receiver sets.0.name top null.0 sets.0.refers)
        ]
        | inr sets ↦ elim q.does [
          | inl null ↦ absurd (object_or_null q.receiver p.receiver sets.0.name (sym top) null.0 sets.0.refers)
          | inr also ↦ both_go sets.1 also.1
        ]
      ]

  null_or_array : (v u : Value) → v ≡ u → v ≡ Held.Null → IsHeapArray heap u → ⊥
  null_or_array v u e null a = no_array_at_null heap u a (sym e ∙ null)

  place_or_none : (v u : Value) (m n : ℤ) (k : ℕ) (a : IsHeapArray heap v) (b : IsHeapArray heap u) → v ≡ u → m ≡ n
      → place_at a.items m ≡ None → place_at b.items n ≡ Some k → ⊥
  place_or_none v u m n k a b e f none some =
      let items : a.items ≡ b.items = (one_array heap v u a b e).items in
      none-some k (sym none ∙ (λ j. place_at (items j) (f j)) ∙ some)

  pub loads : LoadsElement i w new o → LoadsElement i w other r → o ≡ r
  loads p q =
      let top = two_on_top w.frame p.array q.array p.index q.index p.on_top q.on_top in
      elim p.does [
        | inl null ↦ elim q.does [
          | inl also ↦ both_raise refl null.1 also.1
          | inr (inl fails) ↦ absurd (null_or_array p.array q.array top.array null.0 fails.0)
          | inr (inr gets) ↦ absurd (null_or_array p.array q.array top.array null.0 gets.0)
        ]
        | inr (inl fails) ↦ elim q.does [
          | inl null ↦ absurd (null_or_array q.array p.array (sym top.array) null.0 fails.0)
          | inr (inl also) ↦ both_raise refl fails.1.1 also.1.1
          | inr (inr gets) ↦ absurd (place_or_none p.array q.array p.index q.index gets.1 fails.0 gets.0 top.array top.index fails.1.0 gets.3)
        ]
        | inr (inr gets) ↦ elim q.does [
          | inl null ↦ absurd (null_or_array q.array p.array (sym top.array) null.0 gets.0)
          | inr (inl fails) ↦
              absurd (place_or_none q.array p.array q.index p.index gets.1 fails.0 gets.0 (sym top.array) (sym top.index) fails.1.0 gets.3)
          | inr (inr also) ↦ both_go gets.5 also.5
        ]
      ]

  fits_or_not : (v u a b : Value) (k : IsHeapArray heap a) (m : IsHeapArray heap b) → v ≡ u → a ≡ b
      → (IsNullOrInstance x heap v k.element → ⊥) → IsNullOrInstance x heap u m.element → ⊥
  fits_or_not v u a b k m e f never fits =
      let element : m.element ≡ k.element = (one_array heap b a m k (sym f)).element in
      never (subst (λ (z : Value). IsNullOrInstance x heap z k.element) (sym e) (subst (IsNullOrInstance x heap u) element fits))

  pub stores : StoresElement x i w new o → StoresElement x i w other r → o ≡ r
  stores p q =
      let top = three_on_top w.frame p.array p.index p.value q.array q.index q.value p.on_top q.on_top in
      elim p.does [
        | inl null ↦ elim q.does [
          | inl also ↦ both_raise refl null.1 also.1
          | inr (inl fails) ↦ absurd (null_or_array p.array q.array top.array null.0 fails.0)
          | inr (inr (inl fails)) ↦ absurd (null_or_array p.array q.array top.array null.0 fails.0)
          | inr (inr (inr sets)) ↦ absurd (null_or_array p.array q.array top.array null.0 sets.0)
        ]
        | inr (inl fails) ↦ elim q.does [
          | inl null ↦ absurd (null_or_array q.array p.array (sym top.array) null.0 fails.0)
          | inr (inl also) ↦ both_raise refl fails.1.1 also.1.1
          | inr (inr (inl bad)) ↦ absurd (place_or_none p.array q.array p.index q.index bad.1 fails.0 bad.0 top.array top.index fails.1.0 bad.2)
          | inr (inr (inr sets)) ↦
              absurd (place_or_none p.array q.array p.index q.index sets.1 fails.0 sets.0 top.array top.index fails.1.0 sets.2)
        ]
        | inr (inr (inl bad)) ↦ elim q.does [
          | inl null ↦ absurd (null_or_array q.array p.array (sym top.array) null.0 bad.0)
          | inr (inl fails) ↦
              absurd (place_or_none q.array p.array q.index p.index bad.1 fails.0 bad.0 (sym top.array) (sym top.index) fails.1.0 bad.2)
          | inr (inr (inl also)) ↦ both_raise refl bad.5 also.5
          | inr (inr (inr sets)) ↦
              absurd (fits_or_not p.value q.value p.array q.array bad.0 sets.0 top.value top.array bad.4 (sets.3 bad.3))
        ]
        | inr (inr (inr sets)) ↦ elim q.does [
          | inl null ↦ absurd (null_or_array q.array p.array (sym top.array) null.0 sets.0)
          | inr (inl fails) ↦
              absurd (place_or_none q.array p.array q.index p.index sets.1 fails.0 sets.0 (sym top.array) (sym top.index) fails.1.0 sets.2)
          | inr (inr (inl bad)) ↦
              absurd (fits_or_not q.value p.value q.array p.array bad.0 sets.0 (sym top.value) (sym top.array) bad.4 (sets.3 bad.3))
          | inr (inr (inr also)) ↦ both_go sets.4 also.4
        ]
      ]

  pub array_lengths : ArrayLength i w new o → ArrayLength i w other r → o ≡ r
  array_lengths p q =
      let top : p.array ≡ q.array = one_on_top w.frame p.array q.array p.on_top q.on_top in
      elim p.does [
        | inl null ↦ elim q.does [
          | inl also ↦ both_raise refl null.1 also.1
          | inr gives ↦ absurd (null_or_array p.array q.array top null.0 gives.0)
        ]
        | inr gives ↦ elim q.does [
          | inl null ↦ absurd (null_or_array q.array p.array (sym top) null.0 gives.0)
          | inr also ↦ both_go gives.1 also.1
        ]
      ]

  one_class : (p : MakesObject x s i w new o) (q : MakesObject x s i w other r) → p.class ≡ q.class
  one_class p q =
      same_class p.class q.class
      (one_kind s i (array_type 0 (Base.Class p.class)) (array_type 0 (Base.Class q.class)) p.names q.names)

  pub objects : MakesObject x s i w new o → MakesObject x s i w other r → o ≡ r
  objects p q = pushes_new [] [] (Of.Plain p.class) (Of.Plain q.class) (ap Of.Plain (one_class p q)) p.does q.does

  pub arrays : MakesArray x s i w new o → MakesArray x s i w other r → o ≡ r
  arrays p q =
      let count : p.count ≡ q.count = int_on_top w.frame p.count q.count p.on_top q.on_top in
      let element : p.element ≡ q.element = one_element s i p.element q.element p.of_elements q.of_elements in
      elim p.does [
        | inl (none, raises) ↦ elim q.does [
          | inl (also, raises_too) ↦ both_raise refl raises raises_too
          | inr (n, some, makes) ↦ absurd (none-some n (sym none ∙ ap count_of count ∙ some))
        ]
        | inr (n, some, makes) ↦ elim q.does [
          | inl (none, raises) ↦ absurd (none-some n (sym none ∙ ap count_of (sym count) ∙ some))
          | inr (m, also, makes_too) ↦
              let same : n ≡ m = same_Some n m (sym some ∙ ap count_of count ∙ also) in
              pushes_new (Held.Int p.count ∷ []) (Held.Int q.count ∷ []) (Of.Array p.element n) (Of.Array q.element m)
              (λ j. Of.Array (element j) (same j)) makes makes_too
        ]
      ]

  one_count : (p : MakesArrays x s i w new o) (q : MakesArrays x s i w other r) → p.counts ≡ q.counts
  one_count p q =
      ints_on_top w.frame p.counts q.counts
      (same_index i.b (length p.counts) (length q.counts) p.as_many q.as_many) p.on_top q.on_top

  same_words : (p : MakesArrays x s i w new o) (q : MakesArrays x s i w other r) (ms ns : List ℕ) → counts_of p.counts ≡ Some ms
      → counts_of q.counts ≡ Some ns → tree_words p.kind ms ≡ tree_words q.kind ns
  same_words p q ms ns some also =
      let kind : p.kind ≡ q.kind = one_kind s i p.kind q.kind p.names q.names in
      let sizes : ms ≡ ns = same_Some ms ns (sym some ∙ ap counts_of (one_count p q) ∙ also) in
      λ j. tree_words (kind j) (sizes j)

  pub trees : MakesArrays x s i w new o → MakesArrays x s i w other r → o ≡ r
  trees p q =
      let counts : counts_of p.counts ≡ counts_of q.counts = ap counts_of (one_count p q) in
      elim p.does [
        | inl (none, raises) ↦ elim q.does [
          | inl (also, raises_too) ↦ both_raise refl raises raises_too
          | inr (inl (ns, some, fails)) ↦ absurd (none-some ns (sym none ∙ counts ∙ some))
          | inr (inr makes) ↦ absurd (none-some makes.0 (sym none ∙ counts ∙ makes.3))
        ]
        | inr (inl (ms, some, fails)) ↦ elim q.does [
          | inl (none, raises) ↦ absurd (none-some ms (sym none ∙ sym counts ∙ some))
          | inr (inl (ns, also, fails_too)) ↦ both_raise refl fails.1 fails_too.1
          | inr (inr makes) ↦ absurd (makes.4 (subst (LacksWords x w) (same_words p q ms makes.0 some makes.3) fails.0))
        ]
        | inr (inr makes) ↦ elim q.does [
          | inl (none, raises) ↦ absurd (none-some makes.0 (sym none ∙ sym counts ∙ makes.3))
          | inr (inl (ns, also, fails)) ↦
              absurd (makes.4 (subst (LacksWords x w) (sym (same_words p q makes.0 ns makes.3 also)) fails.0))
          | inr (inr also) ↦ both_go makes.6 also.6
        ]
      ]

  cast_moved : (v u : Value) (t k : TypeRef) → v ≡ u → t ≡ k → IsNullOrInstance x heap v t → IsNullOrInstance x heap u k
  cast_moved v u t k e f is = subst (λ (z : Value). IsNullOrInstance x heap z k) e (subst (IsNullOrInstance x heap v) f is)

  pub casts_agree : Casts x s i w new o → Casts x s i w other r → o ≡ r
  casts_agree p q =
      let value : p.value ≡ q.value = one_on_top w.frame p.value q.value p.on_top q.on_top in
      let kind : p.kind ≡ q.kind = one_kind s i p.kind q.kind p.names q.names in
      elim p.does [
        | inl (is, goes) ↦ elim q.does [ inl (too, also) ↦ both_go goes also | inr (never, raises) ↦ absurd (never (cast_moved p.value q.value p.kind q.kind value kind is)) ]
        | inr (never, raises) ↦ elim q.does [ inl (is, goes) ↦ absurd (never (cast_moved q.value p.value q.kind p.kind (sym value) (sym kind) is)) | inr (too, also) ↦ both_raise refl raises also ]
      ]

  pub raises_agree : RaisesObject i w new o → RaisesObject i w other r → o ≡ r
  raises_agree p q =
      let top : p.value ≡ q.value = one_on_top w.frame p.value q.value p.on_top q.on_top in
      elim p.does [
        | inl null ↦ elim q.does [
          | inl also ↦ both_raise refl null.1 also.1
          | inr (a, is, raises) ↦ absurd (object_or_null p.value q.value a top null.0 is)
        ]
        | inr (a, is, raises) ↦ elim q.does [
          | inl null ↦ absurd (object_or_null q.value p.value a (sym top) null.0 is)
          | inr (b, also, raises_too) ↦
              let same : Held.Obj a ≡ Held.Obj b = sym is ∙ top ∙ also in
              let name : a ≡ b = cc in
              both_raise (ap Raised.Object name) raises raises_too
        ]
      ]
