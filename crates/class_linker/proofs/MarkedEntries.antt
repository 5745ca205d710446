-- Entries that are marked in turn.
use Rattle.std.proofs.Common.{◌≡◌, ◌↔◌, ◌+◌, ◌<◌, ◌≤◌, ◌⊎◌, ℕ, Bool, true, false, List, length, replicate, get_or, inl, inr, refl, sym, ◌∙◌, ap, arith, subst, Some}
use Rattle.std.specs.Prelude.{IsTrue, slice_get}
use Rattle.std.proofs.lemmas.List.{length-replicate}
use Rattle.list_lemmas.proofs.ItemsByPlace.{item_read}
use Rattle.list_lemmas.proofs.ItemsRead.{none_marked as not_true}
use Rattle.jk_model.specs.declared.class_file.ClassFile.{ClassFile}
use Rattle.jk_model.specs.declared.class_file.MemberInfo.{MemberInfo}
use Rattle.jk_model.specs.declared.class_file.PoolEntry.{PoolEntry}
use Rattle.jk_model.specs.declared.class_file.PoolEntry.TheVariants.{NameAndType}
use Rattle.jk_model_classes.specs.Items.{HasItem, HasItemBefore}
use Rattle.jk_model_classes.specs.References.{IsDescriptorEntry}
use Rattle.class_lemmas.proofs.SomeItem.{none_yet}
use Rattle.class_linker.specs.KnownReferences.{AreMarked}
use Rattle.name_rules.specs.Marks.{Marks}
use Rattle.name_rules.proofs.ItemsSoFar.{all_before, before_new, before_old, before_split, some_before}
use Rattle.name_rules.proofs.MarksInTurn.{marks_as, marks_nothing, marks_then}

-- what was marked where nothing was before
pub just_marked : (P : ℕ → Type 0) (pool : List PoolEntry) (before after : List Bool) → before ≡ replicate (length pool) false → Marks P before after
    → AreMarked P pool after
just_marked P pool before after clear h = record {
  as_many = h.as_many ∙ ap length clear ∙ length-replicate (length pool) false;
  at = λ i below.
      let within : i < length before = omega (arith, ap length clear, length-replicate (length pool) false) in (
        λ t. elim ((h.at i within).0 t) [
          | inl was ↦ absurd (not_true (length pool) i (subst (λ (marks : List Bool). slice_get marks i ≡ Some true) clear was))
          | inr p ↦ p
        ],
        λ p. (h.at i within).1 (inr p),
      );
}

-- ---- Items in turn.

module _ {X : Type 0} (P : ℕ → X → Type 0) (items : List X) where
  pub marks_start : (a : List Bool) → Marks (λ i. HasItemBefore 0 (P i) items) a a
  marks_start a = marks_nothing (λ i. HasItemBefore 0 (P i) items) a (λ i. none_yet (P i) items)

  -- what one more item marks
  pub marks_more : (k : ℕ) (x : X) (a b c : List Bool) → k < length items → x ≡ get_or items k x → Marks (λ i. HasItemBefore k (P i) items) a b
      → Marks (λ i. P i x) b c → Marks (λ i. HasItemBefore (k + 1) (P i) items) a c
  marks_more k x a b c below is first second =
      let at : slice_get items k ≡ Some x = item_read items k x below is in
      marks_then (λ i. HasItemBefore k (P i) items) (λ i. P i x) (λ i. HasItemBefore (k + 1) (P i) items) a b c (λ i. before_old (P i) items k)
      (λ i. before_new (P i) items k x at) (λ i. before_split (P i) items k x at) first second

  -- what all items mark
  pub marks_all : (k : ℕ) (a b : List Bool) → length items ≤ k → Marks (λ i. HasItemBefore k (P i) items) a b → Marks (λ i. HasItem (P i) items) a b
  marks_all k a b all h =
      marks_as (λ i. HasItemBefore k (P i) items) (λ i. HasItem (P i) items) a b (λ i. some_before (P i) items k) (λ i. all_before (P i) items k all) h

-- ---- All descriptors.

abbrev Described : List MemberInfo → ℕ → Type 0
Described members i = HasItem (λ (m : MemberInfo). m.descriptor ≡ i) members

abbrev Paired : List PoolEntry → ℕ → Type 0
Paired pool i = HasItem (λ (e : PoolEntry). (name : ℕ) × (e ≡ NameAndType name i)) pool

pub descriptors_marked : (c : ClassFile) (fields methods : List MemberInfo) (pool : List PoolEntry) (m0 m1 m2 m3 : List Bool) → fields ≡ c.fields
    → methods ≡ c.methods → pool ≡ c.pool → m0 ≡ replicate (length c.pool) false
    → Marks (λ i. HasItem (λ (m : MemberInfo). m.descriptor ≡ i) fields) m0 m1
    → Marks (λ i. HasItem (λ (m : MemberInfo). m.descriptor ≡ i) methods) m1 m2
    → Marks (λ i. HasItem (λ (e : PoolEntry). (name : ℕ) × (e ≡ NameAndType name i)) pool) m2 m3 → AreMarked (IsDescriptorEntry c) c.pool m3
descriptors_marked c fields methods pool m0 m1 m2 m3 same_fields same_methods same_pool clear one two three =
    let first : Marks (Described c.fields) m0 m1 = subst (λ (ms : List MemberInfo). Marks (Described ms) m0 m1) same_fields one in
    let second : Marks (Described c.methods) m1 m2 = subst (λ (ms : List MemberInfo). Marks (Described ms) m1 m2) same_methods two in
    let third : Marks (Paired c.pool) m2 m3 = subst (λ (es : List PoolEntry). Marks (Paired es) m2 m3) same_pool three in
    let later : Marks (λ i. Described c.methods i ⊎ Paired c.pool i) m1 m3 =
    marks_then (Described c.methods) (Paired c.pool) (λ i. Described c.methods i ⊎ Paired c.pool i) m1 m2 m3 (λ i h. inl h) (λ i h. inr h) (λ i h. h)
    second third in
    just_marked (IsDescriptorEntry c) c.pool m0 m3 clear
    (marks_then (Described c.fields) (λ i. Described c.methods i ⊎ Paired c.pool i) (IsDescriptorEntry c) m0 m1 m3 (λ i h. inl h) (λ i h. inr h)
    (λ i h. h) first later)

-- ---- A mark that is read.

pub marked_is : (P : ℕ → Type 0) (pool : List PoolEntry) (marks read : List Bool) (i : ℕ) (b : Bool) → AreMarked P pool marks → read ≡ marks
    → i < length pool → (IsTrue b ↔ (slice_get read i ≡ Some true)) → IsTrue b ↔ P i
marked_is P pool marks read i b h same below is = (
  λ t. (h.at i below).0 (subst (λ (bs : List Bool). slice_get bs i ≡ Some true) same (is.0 t)),
  λ p. is.1 (subst (λ (bs : List Bool). slice_get bs i ≡ Some true) (sym same) ((h.at i below).1 p)),
)
