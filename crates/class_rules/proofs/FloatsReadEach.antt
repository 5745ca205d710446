-- The rule C10 reads one thing at a time: the type of a field, the type and the code of a method, an entry.
use Rattle.std.proofs.Common.{List, ◌⊎◌, inl, inr}
use Rattle.jk_model.specs.declared.class_file.ClassFile.{ClassFile}
use Rattle.jk_model.specs.declared.class_file.MemberInfo.{MemberInfo}
use Rattle.jk_model.specs.declared.class_file.PoolEntry.{PoolEntry}
use Rattle.jk_model_classes.specs.ClassNames.{HasText}
use Rattle.jk_model_classes.specs.Items.{Spot, Member, Entry}
use Rattle.jk_model_classes.specs.MemberCode.{UsesFloat}
use Rattle.jk_model_classes.specs.MemberDescriptors.{IsFloatField, IsFloatArray, IsFloatMethod, IsFloatReference}
use Rattle.jk_model_classes.specs.Members.{MemberKind}
use Rattle.std.specs.Prelude.{ℕ}
use Rattle.class_rules.specs.CodeRules.{HasWrongMethodCode}
use Rattle.class_rules.specs.Entries.{IsFloatEntry}
use Rattle.class_rules.specs.Walks.{BreaksAt, ReadsEach}
use Rattle.class_rules.specs.declared.code_rules.CodeRule.TheVariants.{Floats}
use Rattle.class_rules.proofs.CodesReadEach.{wrong_at, its_wrong}
use Rattle.class_rules.proofs.KnownEntries.{class_spot, reference_spot}

abbrev pub HasFloatType : List PoolEntry → MemberInfo → Type 0
HasFloatType pool field = HasText IsFloatField pool field.descriptor

abbrev pub HasFloatSignature : List PoolEntry → MemberInfo → Type 0
HasFloatSignature pool method = HasText IsFloatMethod pool method.descriptor

abbrev pub UsesFloatBy : ClassFile → MemberInfo → Type 0
UsesFloatBy c method = HasFloatSignature c.pool method ⊎ HasWrongMethodCode Floats c method

module _ (c : ClassFile) where
  abbrev FloatsAt : Spot → Type 0
  FloatsAt spot = BreaksAt c ⊥ (HasFloatType c.pool) (UsesFloatBy c) (IsFloatEntry c.pool) spot

  abbrev IsFloatMember : MemberKind → List ℕ → List ℕ → Type 0
  IsFloatMember kind name descriptor = IsFloatReference kind descriptor

  floats_broken : (spot : Spot) → FloatsAt spot → UsesFloat c spot
  floats_broken (Member n) (inl h) = absurd h.1
  floats_broken (Member n) (inr (inl field)) = inl (inl field)
  floats_broken (Member n) (inr (inr (method, at, inl h))) = inl (inr (method, at, h))
  floats_broken (Member n) (inr (inr (method, at, inr h))) = inr (wrong_at Floats c n method at h)
  floats_broken (Entry i) (entry, at, inl k) = inl ((class_spot IsFloatArray c.pool i).1 (entry, at, k))
  floats_broken (Entry i) (entry, at, inr k) = inr ((reference_spot IsFloatMember c.pool i).1 (entry, at, k))

  floats_only : (spot : Spot) → UsesFloat c spot → FloatsAt spot
  floats_only (Member n) (inl (inl field)) = inr (inl field)
  floats_only (Member n) (inl (inr (method, at, h))) = inr (inr (method, at, inl h))
  floats_only (Member n) (inr h) = let (method, at, wrong) = its_wrong Floats c n h in inr (inr (method, at, inr wrong))
  floats_only (Entry i) (inl h) = let found = (class_spot IsFloatArray c.pool i).0 h in (found.0, found.1, inl found.2)
  floats_only (Entry i) (inr h) = let found = (reference_spot IsFloatMember c.pool i).0 h in (found.0, found.1, inr found.2)

  pub floats_read_each : ReadsEach c ⊥ (HasFloatType c.pool) (UsesFloatBy c) (IsFloatEntry c.pool) (UsesFloat c)
  floats_read_each = record { broken = floats_broken; only = floats_only }
