-- The rules C6, C7 and C8 read one thing at a time.
use Rattle.std.proofs.Common.{ℕ, inl, inr, List}
use Rattle.std.specs.Prelude.{IsTrue}
use Rattle.jk_model.specs.declared.class_file.ClassFile.{ClassFile}
use Rattle.jk_model.specs.declared.class_file.MemberInfo.{MemberInfo}
use Rattle.jk_model.specs.declared.class_file.PoolEntry.{PoolEntry}
use Rattle.jk_model_classes.specs.ClassFlags.{HasBadFlags, HasBadMethodFlags, is_final_and_open, is_bad_field}
use Rattle.jk_model.specs.declared.descriptors.MethodType.{MethodType}
use Rattle.jk_model.specs.Descriptors.{IsName, IsFieldDescriptor}
use Rattle.jk_model_classes.specs.MemberDescriptors.{HasMethodType, IsReferenceDescriptor, HasBadDescriptor}
use Rattle.jk_model_classes.specs.ClassNames.{HasText, IsMethodName, IsClassEntryName, IsReferenceName, HasBadHeader, HasBadName}
use Rattle.jk_model_classes.specs.Members.{MemberKind}
use Rattle.jk_model_classes.specs.Items.{Spot, Member, Entry}
use Rattle.class_rules.specs.Entries.{IsBadlyNamed, IsBadReference}
use Rattle.class_rules.specs.Walks.{BreaksAt, ReadsEach}
use Rattle.class_rules.proofs.KnownEntries.{class_spot, reference_spot}

-- ---- C6.

module _ (c : ClassFile) where
  abbrev pub IsBadField : MemberInfo → Type 0
  IsBadField field = IsTrue (is_bad_field c.flags field.flags)

  abbrev FlagsAt : Spot → Type 0
  FlagsAt spot = BreaksAt c (IsTrue (is_final_and_open c.flags)) IsBadField (HasBadMethodFlags c) (λ entry. ⊥) spot

  flags_broken : (spot : Spot) → FlagsAt spot → HasBadFlags c spot
  flags_broken (Member n) h = h
  flags_broken (Entry i) h = h.2

  flags_only : (spot : Spot) → HasBadFlags c spot → FlagsAt spot
  flags_only (Member n) h = h
  flags_only (Entry i) h = absurd h

  pub flags_read_each : ReadsEach c (IsTrue (is_final_and_open c.flags)) IsBadField (HasBadMethodFlags c) (λ entry. ⊥) (HasBadFlags c)
  flags_read_each = record { broken = flags_broken; only = flags_only }

-- ---- C7.

abbrev pub LacksName : List PoolEntry → MemberInfo → Type 0
LacksName pool field = HasText IsName pool field.name → ⊥

abbrev pub LacksMethodName : List PoolEntry → MemberInfo → Type 0
LacksMethodName pool method = HasText IsMethodName pool method.name → ⊥

module _ (c : ClassFile) where
  abbrev NamesAt : Spot → Type 0
  NamesAt spot = BreaksAt c (HasBadHeader c) (LacksName c.pool) (LacksMethodName c.pool) (IsBadlyNamed c.pool) spot

  abbrev UnlikeClass : List ℕ → Type 0
  UnlikeClass units = IsClassEntryName units → ⊥

  abbrev UnlikeName : MemberKind → List ℕ → List ℕ → Type 0
  UnlikeName kind name descriptor = IsReferenceName kind name → ⊥

  names_broken : (spot : Spot) → NamesAt spot → HasBadName c spot
  names_broken (Member n) h = h
  names_broken (Entry i) (entry, at, inl k) = inl ((class_spot UnlikeClass c.pool i).1 (entry, at, k))
  names_broken (Entry i) (entry, at, inr k) = inr ((reference_spot UnlikeName c.pool i).1 (entry, at, k))

  names_only : (spot : Spot) → HasBadName c spot → NamesAt spot
  names_only (Member n) h = h
  names_only (Entry i) (inl h) = let found = (class_spot UnlikeClass c.pool i).0 h in (found.0, found.1, inl found.2)
  names_only (Entry i) (inr h) = let found = (reference_spot UnlikeName c.pool i).0 h in (found.0, found.1, inr found.2)

  pub names_read_each : ReadsEach c (HasBadHeader c) (LacksName c.pool) (LacksMethodName c.pool) (IsBadlyNamed c.pool) (HasBadName c)
  names_read_each = record { broken = names_broken; only = names_only }

-- ---- C8.

abbrev pub LacksFieldType : List PoolEntry → MemberInfo → Type 0
LacksFieldType pool field = HasText IsFieldDescriptor pool field.descriptor → ⊥

abbrev pub LacksMethodType : ClassFile → MemberInfo → Type 0
LacksMethodType c method = ((t : MethodType) × HasMethodType c method t) → ⊥

module _ (c : ClassFile) where
  abbrev DescriptorsAt : Spot → Type 0
  DescriptorsAt spot = BreaksAt c ⊥ (LacksFieldType c.pool) (LacksMethodType c) (IsBadReference c.pool) spot

  abbrev UnlikeDescriptor : MemberKind → List ℕ → List ℕ → Type 0
  UnlikeDescriptor kind name descriptor = IsReferenceDescriptor kind name descriptor → ⊥

  descriptors_broken : (spot : Spot) → DescriptorsAt spot → HasBadDescriptor c spot
  descriptors_broken (Member n) (inl h) = absurd h.1
  descriptors_broken (Member n) (inr (inl h)) = inl h
  descriptors_broken (Member n) (inr (inr (method, at, none))) = inr (method, at, λ t h. none (t, h))
  descriptors_broken (Entry i) (entry, at, k) = (reference_spot UnlikeDescriptor c.pool i).1 (entry, at, k)

  descriptors_only : (spot : Spot) → HasBadDescriptor c spot → DescriptorsAt spot
  descriptors_only (Member n) (inl h) = inr (inl h)
  descriptors_only (Member n) (inr (method, at, none)) = inr (inr (method, at, λ (t, h). none t h))
  descriptors_only (Entry i) h = (reference_spot UnlikeDescriptor c.pool i).0 h

  pub descriptors_read_each : ReadsEach c ⊥ (LacksFieldType c.pool) (LacksMethodType c) (IsBadReference c.pool) (HasBadDescriptor c)
  descriptors_read_each = record { broken = descriptors_broken; only = descriptors_only }
