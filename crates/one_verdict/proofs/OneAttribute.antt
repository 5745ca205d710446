-- Of the attributes of a member that breaks no rule one at most says what counts of it: its constant, its code, or what it throws.
use Rattle.std.proofs.Common.{◌≡◌, ℕ, ◌+◌, ◌<◌, ◌^◌, inl, inr, Bool, true, false, List, [], ◌++◌, length, Contains, Some, slice_get, refl, sym, ◌∙◌, ap, arith}
use Rattle.std.specs.Prelude.{not, IsTrue}
use Rattle.std.proofs.lemmas.Bool.{cases_order}
use Rattle.std.proofs.lemmas.Option.{same_Some, slice_get_within}
use Rattle.jk_model.specs.declared.class_file.Attribute.{Attribute}
use Rattle.jk_model.specs.declared.class_file.ClassFile.{ClassFile}
use Rattle.jk_model.specs.declared.class_file.MemberInfo.{MemberInfo}
use Rattle.jk_model.specs.declared.class_file.PoolEntry.{PoolEntry}
use Rattle.jk_model.specs.ClassFile.{u2, IsU2, AreInterfaces, interfaces_bytes}
use Rattle.jk_model.specs.Flags.{has, ABSTRACT, NATIVE, STATIC}
use Rattle.jk_model_classes.specs.ClassFlags.{MethodFlags}
use Rattle.jk_model_classes.specs.Items.{HasTwoItems, Member, Spot}
use Rattle.jk_model_classes.specs.MemberAttributes.{HasBadAttribute, IsCodeAttribute, IsConstantValue, IsExceptions}
use Rattle.jk_model_classes.specs.MemberCode.{IsNative}
use Rattle.jk_model_folders.specs.LinkedClasses.{HasConstantEntry}
use Rattle.byte_fields.specs.OneReading.{one_reading, one_u2, counted_reader, u2_reader}
use Rattle.byte_fields.specs.Reading.{counted_at, number_at}
use Rattle.std.specs.Int.{w16}
use Rattle.one_verdict.proofs.RisingLists.{in_list}

-- What is known of a class file that breaks none of the rules on the file alone, as far as it tells that it has one record.
pub record IsJudged (c : ClassFile) : Type 0 where
  pub few : IsU2 (length c.pool)
  pub attributes : (spot : Spot) → HasBadAttribute c spot → ⊥
  pub native : (spot : Spot) → IsNative c spot → ⊥

one_item : {X : Type 0} (P : X → Type 0) (xs : List X) (a b : X) → (HasTwoItems P xs → ⊥) → Contains xs a → Contains xs b → P a → P b → a ≡ b
one_item P xs a b never in_a in_b is_a is_b =
    let at_a = in_list xs a in_a in
    let at_b = in_list xs b in_b in
    elim (cases_order at_a.0 at_b.0) [
      | inl same ↦ same_Some a b (sym at_a.1 ∙ ap (λ (k : ℕ). slice_get xs k) same ∙ at_b.1)
      | inr other ↦
          elim other [
            | inl before ↦ absurd (never (at_a.0, at_b.0, a, b, before, at_a.1, at_b.1, is_a, is_b))
            | inr after ↦ absurd (never (at_b.0, at_a.0, b, a, after, at_b.1, at_a.1, is_b, is_a))
          ]
    ]

-- ---- Constants.

one_index : (m n : ℕ) → IsU2 m → IsU2 n → u2 m ≡ u2 n → m ≡ n
one_index m n h k e = (one_u2 m n [] [] h k (ap (λ (w : List ℕ). w ++ []) e)).0

module _ (c : ClassFile) (judged : IsJudged c) (i : ℕ) (info : MemberInfo) where
  -- the entry that the constant of a static field names
  pub one_entry : slice_get c.fields i ≡ Some info → IsTrue (has info.flags STATIC) → (x y : PoolEntry)
      → HasConstantEntry c.pool info.attributes x → HasConstantEntry c.pool info.attributes y → x ≡ y
  one_entry at static x y (a, m, in_a, is_a, body_a, at_x) (b, n, in_b, is_b, body_b, at_y) =
      let two : HasTwoItems (IsConstantValue c.pool) info.attributes → ⊥ =
      λ h. judged.attributes (Member (i + 1)) (inr (inl (info, (i, refl, at), inr (static, inl h)))) in
      let same : a ≡ b = one_item (IsConstantValue c.pool) info.attributes a b two in_a in_b is_a is_b in
      let bytes : u2 m ≡ u2 n = sym body_a ∙ ap (λ (w : Attribute). w.body) same ∙ body_b in
      let small : m < length c.pool = slice_get_within c.pool m x at_x in
      let little : n < length c.pool = slice_get_within c.pool n y at_y in
      let few : length c.pool < 2 ^ 16 = judged.few in
      let index : m ≡ n = one_index m n (omega (arith, small, few)) (omega (arith, little, few)) bytes in
      same_Some x y (sym at_x ∙ ap (λ (k : ℕ). slice_get c.pool k) index ∙ at_y)

  -- ---- Codes.

  one_code_by : (native : Bool) (flags : ℕ) → has flags NATIVE ≡ native → slice_get c.methods i ≡ Some info → MethodFlags c info flags
      → IsTrue (not (has flags ABSTRACT)) → HasTwoItems (IsCodeAttribute c.pool) info.attributes → ⊥
  one_code_by true flags is at counted concrete two =
      judged.native (Member (length c.fields + i + 1)) (info, flags, (i, refl, at), counted, is)
  one_code_by false flags is at counted concrete two =
      judged.attributes (Member (length c.fields + i + 1))
      (inr (inr (info, (i, refl, at), inr (inl (flags, counted, inl (concrete, ap not is, inr two))))))

  pub one_code_attribute : (flags : ℕ) → slice_get c.methods i ≡ Some info → MethodFlags c info flags → IsTrue (not (has flags ABSTRACT)) → (a b : Attribute)
      → Contains info.attributes a → Contains info.attributes b → IsCodeAttribute c.pool a → IsCodeAttribute c.pool b → a ≡ b
  one_code_attribute flags at counted concrete a b in_a in_b is_a is_b =
      one_item (IsCodeAttribute c.pool) info.attributes a b (one_code_by (has flags NATIVE) flags refl at counted concrete) in_a in_b is_a is_b

  -- ---- What is thrown.

  pub one_exceptions : slice_get c.methods i ≡ Some info → (a b : Attribute) → Contains info.attributes a → Contains info.attributes b
      → IsExceptions c.pool a → IsExceptions c.pool b → a ≡ b
  one_exceptions at a b in_a in_b is_a is_b =
      let two : HasTwoItems (IsExceptions c.pool) info.attributes → ⊥ =
      λ h. judged.attributes (Member (length c.fields + i + 1)) (inr (inr (info, (i, refl, at), inr (inr (inr (inl h)))))) in
      one_item (IsExceptions c.pool) info.attributes a b two in_a in_b is_a is_b

pub one_list_of_indices : (xs ys : List ℕ) → AreInterfaces xs → AreInterfaces ys → interfaces_bytes xs ≡ interfaces_bytes ys → xs ≡ ys
one_list_of_indices xs ys h k e =
    (one_reading (counted_at (number_at w16)) interfaces_bytes AreInterfaces (counted_reader (number_at w16) u2 IsU2 u2_reader) xs ys [] [] h k
    (ap (λ (w : List ℕ). w ++ []) e)).0
