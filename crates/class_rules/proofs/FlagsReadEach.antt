-- The rules C12 and C13 read one method at a time.
use Rattle.std.proofs.Common.{◌≡◌, ℕ, ◌⊎◌, inl, inr, ◌↔◌, Bool, IsTrue, List, Option, sym, ◌∙◌, subst}
use Rattle.jk_model.specs.declared.class_file.ClassFile.{ClassFile}
use Rattle.jk_model.specs.declared.class_file.PoolEntry.{PoolEntry}
use Rattle.jk_model.specs.declared.class_file.MemberInfo.{MemberInfo}
use Rattle.jk_model.specs.Flags.{SYNCHRONIZED, NATIVE, has}
use Rattle.jk_model_classes.specs.Items.{Spot, Member, Entry}
use Rattle.jk_model_classes.specs.MemberCode.{UsesMonitor, IsNative}
use Rattle.class_rules.specs.Attributes.{CountFlags}
use Rattle.class_rules.specs.CodeRules.{HasWrongMethodCode}
use Rattle.class_rules.specs.FlagRules.{HasFlagged}
use Rattle.class_rules.specs.Walks.{BreaksAt, ReadsEach, IsLeastItem}
use Rattle.class_rules.specs.declared.code_rules.CodeRule.TheVariants.{Monitors}
use Rattle.class_rules.proofs.CodesReadEach.{wrong_at, its_wrong}
use Rattle.class_rules.proofs.MethodsByFlags.{one_value}

-- ---- One method.

pub is_flagged : (r : Bool) (pool : List PoolEntry) (flag flags : ℕ) (method : MemberInfo) → CountFlags pool method flags → r ≡ has flags flag
    → IsTrue r ↔ HasFlagged pool flag method
is_flagged r pool flag flags method counted e = (
  λ t. (flags, counted, sym e ∙ t),
  λ (other, again, t).
      e ∙ subst (λ (n : ℕ). IsTrue (has n flag)) (one_value pool method other flags again counted) t,
)

-- ---- C13.

native_broken : (c : ClassFile) (spot : Spot) → BreaksAt c ⊥ (λ field. ⊥) (HasFlagged c.pool NATIVE) (λ entry. ⊥) spot → IsNative c spot
native_broken c (Member n) (inl (e, never)) = absurd never
native_broken c (Member n) (inr (inl (field, at, never))) = absurd never
native_broken c (Member n) (inr (inr (method, at, (flags, counted, t)))) = (method, flags, at, counted, t)
native_broken c (Entry i) h = absurd h.2

native_only : (c : ClassFile) (spot : Spot) → IsNative c spot → BreaksAt c ⊥ (λ field. ⊥) (HasFlagged c.pool NATIVE) (λ entry. ⊥) spot
native_only c (Member n) (method, flags, at, counted, t) = inr (inr (method, at, (flags, counted, t)))
native_only c (Entry i) h = absurd h

pub native_reads_each : (c : ClassFile) → ReadsEach c ⊥ (λ field. ⊥) (HasFlagged c.pool NATIVE) (λ entry. ⊥) (IsNative c)
native_reads_each c = record { broken = native_broken c; only = native_only c }

-- ---- C12.

abbrev pub UsesMonitorBy : ClassFile → MemberInfo → Type 0
UsesMonitorBy c method = HasWrongMethodCode Monitors c method ⊎ HasFlagged c.pool SYNCHRONIZED method

monitor_broken : (c : ClassFile) (spot : Spot) → BreaksAt c ⊥ (λ field. ⊥) (UsesMonitorBy c) (λ entry. ⊥) spot → UsesMonitor c spot
monitor_broken c (Member n) (inl (e, never)) = absurd never
monitor_broken c (Member n) (inr (inl (field, at, never))) = absurd never
monitor_broken c (Member n) (inr (inr (method, at, inl h))) = inl (wrong_at Monitors c n method at h)
monitor_broken c (Member n) (inr (inr (method, at, inr (flags, counted, t)))) = inr (method, flags, at, counted, t)
monitor_broken c (Entry i) h = absurd h.2

monitor_only : (c : ClassFile) (spot : Spot) → UsesMonitor c spot → BreaksAt c ⊥ (λ field. ⊥) (UsesMonitorBy c) (λ entry. ⊥) spot
monitor_only c (Member n) (inl h) = let (method, at, wrong) = its_wrong Monitors c n h in inr (inr (method, at, inl wrong))
monitor_only c (Member n) (inr (method, flags, at, counted, t)) = inr (inr (method, at, inr (flags, counted, t)))
monitor_only c (Entry i) h = absurd h

pub monitor_reads_each : (c : ClassFile) → ReadsEach c ⊥ (λ field. ⊥) (UsesMonitorBy c) (λ entry. ⊥) (UsesMonitor c)
monitor_reads_each c = record { broken = monitor_broken c; only = monitor_only c }

-- ---- The least method.

pub own_flagged : (pool own : List PoolEntry) (flag : ℕ) (methods listed : List MemberInfo) (r : Option ℕ) → pool ≡ own → methods ≡ listed
    → IsLeastItem (HasFlagged pool flag) methods r → IsLeastItem (HasFlagged own flag) listed r
own_flagged pool own flag methods listed r e f h =
    subst (λ (xs : List MemberInfo). IsLeastItem (HasFlagged own flag) xs r) f
    (subst (λ (p : List PoolEntry). IsLeastItem (HasFlagged p flag) methods r) e h)
