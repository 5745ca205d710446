-- The classes that are thrown, one index after another, and the body of an Exceptions.
use Rattle.std.proofs.Common.{◌≡◌, ℕ, ◌+◌, ◌<◌, ◌≤◌, ◌⊎◌, inl, inr, List, [], ◌∷◌, ◌++◌, length, take, Option, Some, None, Result, Ok, Err, refl, sym, ◌∙◌, ap, subst, append-nil}
use Rattle.std.specs.Prelude.{slice_get, IfOk}
use Rattle.std.specs.Int.{w16}
use Rattle.std.specs.List.{AllByRecursion, AllZip}
use Rattle.std.specs.Option.{option_to_list}
use Rattle.std.proofs.Math.ListN.{get_or}
use Rattle.std.proofs.lemmas.List.{take_more, take_all}
use Rattle.std.proofs.lemmas.Option.{same_Some}
use Rattle.std.proofs.lemmas.Slice.Zip.{AllZip-long}
use Rattle.list_lemmas.proofs.ItemByItem.{zip_at}
use Rattle.list_lemmas.proofs.ItemsOfLists.{Contains-at, place_of}
use Rattle.jk_model.specs.declared.class_file.Attribute.{Attribute}
use Rattle.jk_model.specs.declared.class_file.ClassFile.{ClassFile}
use Rattle.jk_model.specs.declared.class_file.MemberInfo.{MemberInfo}
use Rattle.jk_model.specs.declared.class_file.PoolEntry.{PoolEntry}
use Rattle.jk_model.specs.declared.class_file.PoolEntry.TheVariants.{Class}
use Rattle.jk_model.specs.declared.identifiers.ClassId.{ClassId}
use Rattle.jk_model.specs.declared.output.Rule.TheVariants.{C9}
use Rattle.jk_model.specs.ClassFile.{interfaces_bytes, AreInterfaces, NamesEntry, IsClassEntry}
use Rattle.jk_model_classes.specs.Items.{HasItem, Member}
use Rattle.jk_model_classes.specs.LinkRules.{LinkScope}
use Rattle.jk_model_classes.specs.MemberAttributes.{AreThrown, IsExceptions}
use Rattle.jk_model_classes.specs.Worlds.{NamedClass}
use Rattle.jk_model_folders.specs.LinkedClasses.{AreThrownBy, GoAlong, IsThrown}
use Rattle.byte_fields.proofs.OneListRead.{read_again, one_list}
use Rattle.byte_fields.specs.Reading.{number_at, counted_at}
use Rattle.class_linker.specs.LinkedFiles.{HasNames, IsLinkable}
use Rattle.class_linker.specs.ThrownClasses.{AreClassesIn, AreClassesOf, AreClassesThrown, IsClassOfEntry, IsExceptionsOf}
use Rattle.class_linker.proofs.ItemsInTurn.{zip_all}

-- ---- One class more.

module _ (names : List NamedClass) (c : ClassFile) (s : LinkScope) (named : HasNames names s) where
  last : (thrown : List ClassId) (i : ℕ) (r : Option ClassId) → thrown ≡ [] → IsClassOfEntry names c.pool i r
      → IsThrown s c (i ∷ []) (thrown ++ option_to_list r)
  last thrown i None none (name, at, other) = (name, [], at, refl, inr (other, append-nil thrown ∙ none))
  last thrown i (Some class) none (name, at, (own, means)) =
      (name, [], at, refl, inl (own, (class, named name ∙ means, ap (λ ws. ws ++ class ∷ []) none)))

  pushed : (front : List ℕ) (thrown : List ClassId) (i : ℕ) (r : Option ClassId) → IsThrown s c front thrown → IsClassOfEntry names c.pool i r
      → IsThrown s c (front ++ i ∷ []) (thrown ++ option_to_list r)
  pushed [] thrown i r h of = last thrown i r h of
  pushed (j ∷ front) thrown i r (name, rest, at, later, inl (own, (class, means, e))) of =
      (name, rest ++ option_to_list r, at, pushed front rest i r later of, inl (own, (class, means, ap (λ ws. ws ++ option_to_list r) e)))
  pushed (j ∷ front) thrown i r (name, rest, at, later, inr (other, e)) of =
      (name, rest ++ option_to_list r, at, pushed front rest i r later of, inr (other, ap (λ ws. ws ++ option_to_list r) e))

pub thrown_more : (names : List NamedClass) (c : ClassFile) (indices : List ℕ) (n d : ℕ) (r : Option ClassId) (thrown longer : List ClassId)
    → n < length indices → IsClassOfEntry names c.pool (get_or indices n d) r → AreClassesOf names c (take n indices) thrown
    → longer ≡ thrown ++ option_to_list r → AreClassesOf names c (take (n + 1) indices) longer
thrown_more names c indices n d r thrown longer within of h e = λ s named.
    let all = pushed names c s named (take n indices) thrown (get_or indices n d) r (h s named) of in
    let here : take n indices ++ get_or indices n d ∷ [] ≡ take (n + 1) indices = sym (take_more indices n d within) in
    subst (λ ws. IsThrown s c (take (n + 1) indices) ws) (sym e) (subst (λ ws. IsThrown s c ws (thrown ++ option_to_list r)) here all)

pub thrown_all : (names : List NamedClass) (c : ClassFile) (indices : List ℕ) (n : ℕ) (thrown : List ClassId) → length indices ≤ n
    → AreClassesOf names c (take n indices) thrown → AreClassesOf names c indices thrown
thrown_all names c indices n thrown end h = subst (λ ws. AreClassesOf names c ws thrown) (take_all n indices end) h

-- ---- The body of an Exceptions.

pub reads_thrown : (pool : List PoolEntry) (body : List ℕ) → counted_at (number_at w16) body ≡ None → AreThrown pool body → ⊥
reads_thrown pool body none (indices, fits, e, all) = let again = read_again body indices fits e in cc

entry_kind : (e : PoolEntry) → IsClassEntry e ⊎ (IsClassEntry e → ⊥)
entry_kind (Class name) = inl tt
entry_kind _ = inr (λ h. h)

named_or_not : (pool : List PoolEntry) (i : ℕ) (found : Option PoolEntry) → slice_get pool i ≡ found
    → NamesEntry IsClassEntry pool i ⊎ (NamesEntry IsClassEntry pool i → ⊥)
named_or_not pool i None e = inr (λ (x, at, k). let z : Some x ≡ None = sym at ∙ e in cc)
named_or_not pool i (Some x) e = elim (entry_kind x) [
  | inl k ↦ inl (x, e, k)
  | inr never ↦ inr (λ (y, at, k). never (subst IsClassEntry (same_Some y x (sym at ∙ e)) k))
]

abbrev AreClasses : List PoolEntry → List ℕ → Type 0
AreClasses pool indices = AllByRecursion (NamesEntry IsClassEntry pool) indices

all_or_not : (pool : List PoolEntry) (indices : List ℕ) → AreClasses pool indices ⊎ (AreClasses pool indices → ⊥)
all_or_not pool [] = inl tt
all_or_not pool (i ∷ indices) = elim (named_or_not pool i (slice_get pool i) refl) [
  | inr never ↦ inr (λ h. never h.0)
  | inl here ↦ elim (all_or_not pool indices) [ inl all ↦ inl (here, all) | inr never ↦ inr (λ h. never h.1) ]
]

nothing_or_not : (rest : List ℕ) → (rest ≡ []) ⊎ (rest ≡ [] → ⊥)
nothing_or_not [] = inl refl
nothing_or_not (x ∷ rest) = inr (λ e. cc)

-- A body that isn't refused is that of the indices that are read from it.
pub body_read : (pool : List PoolEntry) (body indices rest : List ℕ) → counted_at (number_at w16) body ≡ Some (indices, rest)
    → body ≡ interfaces_bytes indices ++ rest → ((AreThrown pool body → ⊥) → ⊥) → (body ≡ interfaces_bytes indices) × AreClasses pool indices
body_read pool body indices rest read e thrown = elim (nothing_or_not rest) [
  | inr some ↦ absurd (thrown (λ (others, these, f, all). some (one_list body indices others rest read these f).1))
  | inl none ↦ elim (all_or_not pool indices) [
    | inl all ↦ (e ∙ ap (λ w. interfaces_bytes indices ++ w) none ∙ append-nil (interfaces_bytes indices), all)
    | inr never ↦ absurd (thrown (λ (others, these, f, all). never (subst (AreClasses pool) (sym (one_list body indices others rest read these f).0) all)))
  ]
]

pub classes_read : {E : Type 0} (names : List NamedClass) (c : ClassFile) (body indices : List ℕ) (result : Result (List ClassId) E) → AreInterfaces indices
    → body ≡ interfaces_bytes indices → IfOk result (λ thrown. AreClassesOf names c indices thrown) → IfOk result (λ thrown. AreClassesIn names c body thrown)
classes_read names c body indices (Ok thrown) fits e h = (indices, fits, e, h)
classes_read names c body indices (Err error) fits e h = tt

-- ---- A method's Exceptions.

-- the body of one isn't refused
pub not_refused : (names : List NamedClass) (c : ClassFile) (k j : ℕ) (info : MemberInfo) (a : Attribute) → IsLinkable c names
    → slice_get c.methods k ≡ Some info → slice_get info.attributes j ≡ Some a → IsExceptions c.pool a → (AreThrown c.pool a.body → ⊥) → ⊥
not_refused names c k j info a linkable at there is never =
    linkable.alone C9 (Member (length c.fields + k + 1)) (inr (inr (info, (k, refl, at), inr (inr (inr (inr (j, a, there, (is, never))))))))

pub some_thrown : {E : Type 0} (names : List NamedClass) (c : ClassFile) (info : MemberInfo) (j : ℕ) (a : Attribute) (result : Result (List ClassId) E)
    → slice_get info.attributes j ≡ Some a → IsExceptions c.pool a → IfOk result (λ thrown. AreClassesIn names c a.body thrown)
    → IfOk result (λ thrown. AreClassesThrown names c info thrown)
some_thrown names c info j a (Ok thrown) there is (indices, fits, e, h) =
    λ s named. inl (a, indices, Contains-at info.attributes j a there, is, fits, e, h s named)
some_thrown names c info j a (Err error) there is h = tt

pub none_thrown : (names : List NamedClass) (c : ClassFile) (info : MemberInfo) (thrown : List ClassId)
    → (HasItem (IsExceptions c.pool) info.attributes → ⊥) → thrown ≡ [] → AreClassesThrown names c info thrown
none_thrown names c info thrown none e = λ s named.
    inr (λ a has is. let (j, there) = place_of info.attributes a has in none (j, a, there, is), e)

-- ---- Facts of one list, at another that is the same.

pub own_exceptions : (pool own : List PoolEntry) (xs ys : List Attribute) (found : Option Attribute) → pool ≡ own → xs ≡ ys
    → IsExceptionsOf pool xs found → IsExceptionsOf own ys found
own_exceptions pool own xs ys found p e h =
    subst (λ (w : List PoolEntry). IsExceptionsOf w ys found) p (subst (λ (w : List Attribute). IsExceptionsOf pool w found) e h)

-- the lists of all methods
pub all_thrown : (names : List NamedClass) (c : ClassFile) (methods : List MemberInfo) (lists : List (List ClassId)) (n : ℕ) → methods ≡ c.methods
    → length methods ≤ n → AllZip (AreClassesThrown names c) (take n methods) lists → (s : LinkScope) → HasNames names s
    → GoAlong (AreThrownBy s c) c.methods lists
all_thrown names c methods lists n same end h s named =
    let all : AllZip (AreClassesThrown names c) c.methods lists =
    subst (λ (w : List MemberInfo). AllZip (AreClassesThrown names c) w lists) same (zip_all (AreClassesThrown names c) methods lists n end h) in
    record {
      as_many = AllZip-long (AreClassesThrown names c) c.methods lists all;
      each = λ i x y at_x at_y. zip_at (AreClassesThrown names c) c.methods lists all i x y at_x at_y s named;
    }
