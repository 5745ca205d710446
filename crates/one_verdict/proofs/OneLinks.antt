-- The entries of a class file's pool lead to one list of links, and its methods say that they throw one list of classes.
use Rattle.std.proofs.Common.{◌≡◌, ◌≢◌, ℕ, zero, suc, inl, inr, List, [], ◌∷◌, ◌++◌, Some, slice_get, replicate, refl, sym, ◌∙◌, ap, subst, arith}
use Rattle.std.specs.List.{join_with_byte}
use Rattle.std.proofs.lemmas.Option.{same_Some, slice_get_within}
use Rattle.list_lemmas.proofs.ItemsByPlace.{item_there as item_at}
use Rattle.jk_model.specs.declared.class_file.Attribute.{Attribute}
use Rattle.jk_model.specs.declared.class_file.ClassFile.{ClassFile}
use Rattle.jk_model.specs.declared.class_file.MemberInfo.{MemberInfo}
use Rattle.jk_model.specs.declared.class_file.PoolEntry.{PoolEntry}
use Rattle.jk_model.specs.declared.class_file.PoolEntry.TheVariants as Entry
use Rattle.jk_model.specs.declared.descriptors.FieldType.{FieldType}
use Rattle.jk_model.specs.declared.identifiers.ClassId.{ClassId}
use Rattle.jk_model.specs.ClassFile.{interfaces_bytes}
use Rattle.jk_model.specs.Descriptors.{IsClassName, IsFieldText, IsName, base_text}
use Rattle.jk_model_classes.specs.declared.records.BaseRef.TheVariants as Base
use Rattle.jk_model_classes.specs.declared.records.Link.{Link}
use Rattle.jk_model_classes.specs.declared.records.TypeRef.{TypeRef}
use Rattle.jk_model_classes.specs.LinkRules.{LinkScope}
use Rattle.jk_model_classes.specs.SystemRecords.{IsTypeFor}
use Rattle.jk_model_folders.specs.LinkedClasses.{AreLinksFor, AreThrownBy, IsEntryType, IsFieldLink, IsLinkFor, IsMethodLink, IsThrown}
use Rattle.class_lemmas.proofs.OneMember.{one_type}
use Rattle.class_lemmas.proofs.OneText.{one_text, one_class}
use Rattle.descriptors.proofs.NoTextBeginsAnother.{one_field}
use Rattle.one_verdict.proofs.OneAttribute.{IsJudged, one_exceptions, one_list_of_indices}
use Rattle.one_verdict.proofs.OneMember.{one_field_found, one_method_found}
use Rattle.one_verdict.proofs.RisingLists.{list_is}

-- ---- The name of a class is none of an array.

name_begins : (name : List ℕ) (names : List (List ℕ)) (more : List ℕ) → IsName name → join_with_byte 47 (name ∷ names) ≡ 91 ∷ more → ⊥
name_begins [] names more h e = h.0 refl
name_begins (u ∷ us) [] more h e = let first : u ≡ 91 = cc in h.1.0.2 first
name_begins (u ∷ us) (next ∷ names) more h e = let first : u ≡ 91 = cc in h.1.0.2 first

no_array : (units more : List ℕ) → units ≡ 91 ∷ more → IsClassName units → ⊥
no_array units more e ([], some, all, joined) = some refl
no_array units more e (name ∷ names, some, all, joined) = name_begins name names more all.0 (sym joined ∙ e)

array_begins : (dims : ℕ) (back units : List ℕ) → dims ≢ 0 → units ≡ replicate dims 91 ++ back → IsClassName units → ⊥
array_begins zero back units some e h = some refl
array_begins (suc dims) back units some e h = no_array units (replicate dims 91 ++ back) e h

never_both : (units : List ℕ) (type : FieldType) → type.dims ≢ 0 → IsFieldText units type → IsClassName units → ⊥
never_both units type some text name = array_begins type.dims (base_text type.base) units some text.1 name

-- ---- Entries.

module _ (s : LinkScope) (c : ClassFile) where
  one_entry_type : (name : List ℕ) (a b : TypeRef) → IsEntryType s name a → IsEntryType s name b → a ≡ b
  one_entry_type name a b (inl (is, (x, means, e))) (inl (also, (y, tells, f))) =
      let same : x ≡ y = same_Some x y (sym means ∙ tells) in
      e ∙ ap (λ (z : ClassId). let t : TypeRef = record { dims = 0; base = Base.Class z } in t) same ∙ sym f
  one_entry_type name a b (inl (is, more)) (inr (type, some, text, for)) = absurd (never_both name type some text is)
  one_entry_type name a b (inr (type, some, text, for)) (inl (is, more)) = absurd (never_both name type some text is)
  one_entry_type name a b (inr (type, some, text, for)) (inr (other, many, units, also)) =
      let same : type ≡ other = one_field name type other text units in
      one_type s.meaning other a b (subst (λ (t : FieldType). IsTypeFor s.meaning t a) same for) also

  one_field_link : (i : ℕ) (a b : Link) → IsFieldLink s c i a → IsFieldLink s c i b → a ≡ b
  one_field_link i a b (inl (m, f, e)) (inl (n, g, h)) =
      let found = one_field_found s c i m n f g in
      let member : m ≡ n = found.0 in
      let class : f.class ≡ g.class = found.1 in
      cc
  one_field_link i a b (inl (m, f, e)) (inr (never, h)) = absurd (never m f)
  one_field_link i a b (inr (never, e)) (inl (n, g, h)) = absurd (never n g)
  one_field_link i a b (inr (never, e)) (inr (none, h)) = e ∙ sym h

  one_method_link : (i : ℕ) (a b : Link) → IsMethodLink s c i a → IsMethodLink s c i b → a ≡ b
  one_method_link i a b (inl (m, f, e)) (inl (n, g, h)) =
      let found = one_method_found s c i m n f g in
      let member : m ≡ n = found.0 in
      let class : f.class ≡ g.class = found.1 in
      cc
  one_method_link i a b (inl (m, f, e)) (inr (never, h)) = absurd (never m f)
  one_method_link i a b (inr (never, e)) (inl (n, g, h)) = absurd (never n g)
  one_method_link i a b (inr (never, e)) (inr (none, h)) = e ∙ sym h

  one_link : (i : ℕ) (entry : PoolEntry) (a b : Link) → IsLinkFor s c i entry a → IsLinkFor s c i entry b → a ≡ b
  one_link i (Entry.Integer n) a b h k = h ∙ sym k
  one_link i (Entry.Long n) a b h k = h ∙ sym k
  one_link i (Entry.Str text) a b (us, at, e) (vs, there, f) =
      let same : us ≡ vs = one_text c.pool text us vs at there in
      cc
  one_link i (Entry.Class name) a b (us, t, at, of_t, e) (vs, u, there, of_u, f) =
      let units : us ≡ vs = one_text c.pool name us vs at there in
      let same : t ≡ u = one_entry_type vs t u (subst (λ (w : List ℕ). IsEntryType s w t) units of_t) of_u in
      cc
  one_link i (Entry.FieldRef class pair) a b h k = one_field_link i a b h k
  one_link i (Entry.MethodRef class pair) a b h k = one_method_link i a b h k
  one_link i (Entry.InterfaceMethodRef class pair) a b h k = one_method_link i a b h k
  one_link i _ a b h k = h ∙ sym k

  pub one_list_of_links : (xs ys : List Link) → AreLinksFor s c xs → AreLinksFor s c ys → xs ≡ ys
  one_list_of_links xs ys h k =
      list_is xs ys (h.as_many ∙ sym k.as_many) (λ i a b at there.
      let within = slice_get_within xs i a at in
      let entry = item_at c.pool i (omega (arith, within, h.as_many)) in
      one_link i entry.0 a b (h.each i entry.0 a entry.1 at) (k.each i entry.0 b entry.1 there))

-- ---- What is thrown.

module _ (s t : LinkScope) (same : s.meaning ≡ t.meaning) (c : ClassFile) where
  thrown_is : (indices : List ℕ) (xs ys : List ClassId) → IsThrown s c indices xs → IsThrown t c indices ys → xs ≡ ys
  thrown_is [] xs ys h k = h ∙ sym k
  thrown_is (i ∷ more) xs ys (us, rest, at, after, says) (vs, others, there, then, tells) =
      let name : us ≡ vs = one_class c.pool i us vs at there in
      let one : rest ≡ others = thrown_is more rest others after then in
      elim says [
        | inl own ↦ elim tells [
          | inl also ↦
              let class : own.1.0 ≡ also.1.0 = same_Some own.1.0 also.1.0 (sym own.1.1 ∙ (λ d. same d (name d)) ∙ also.1.1) in
              own.1.2 ∙ (λ d. class d ∷ one d) ∙ sym also.1.2
          | inr never ↦ absurd (never.0 (subst (λ (w : List ℕ). IsClassName w) name own.0))
        ]
        | inr none ↦ elim tells [
          | inl also ↦ absurd (none.0 (subst (λ (w : List ℕ). IsClassName w) (sym name) also.0))
          | inr never ↦ none.1 ∙ one ∙ sym never.1
        ]
      ]

  pub one_list_of_thrown : IsJudged c → (i : ℕ) (info : MemberInfo) (xs ys : List ClassId) → slice_get c.methods i ≡ Some info → AreThrownBy s c info xs
      → AreThrownBy t c info ys → xs ≡ ys
  one_list_of_thrown judged i info xs ys at (inl (a, us, in_a, is_a, fit, laid, thrown)) (inl (b, vs, in_b, is_b, fits, lies, others)) =
      let attribute : a ≡ b = one_exceptions c judged i info at a b in_a in_b is_a is_b in
      let bytes : interfaces_bytes us ≡ interfaces_bytes vs = sym laid ∙ ap (λ (w : Attribute). w.body) attribute ∙ lies in
      let indices : us ≡ vs = one_list_of_indices us vs fit fits bytes in
      thrown_is vs xs ys (subst (λ (w : List ℕ). IsThrown s c w xs) indices thrown) others
  one_list_of_thrown judged i info xs ys at (inl (a, us, in_a, is_a, fit, laid, thrown)) (inr (never, f)) = absurd (never a in_a is_a)
  one_list_of_thrown judged i info xs ys at (inr (never, e)) (inl (b, vs, in_b, is_b, fits, lies, others)) = absurd (never b in_b is_b)
  one_list_of_thrown judged i info xs ys at (inr (never, e)) (inr (none, f)) = e ∙ sym f
