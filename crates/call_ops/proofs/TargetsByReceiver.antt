-- What a call at a receiver comes to doesn't hang on the arguments; and at a receiver for which there is a target, a call may begin to look
-- for its method.
use Rattle.std.proofs.Common.{◌≡◌, ◌≢◌, ℕ, List, ◌∷◌, refl, inl, inr}
use Rattle.jk_model.specs.declared.identifiers.ClassId.{ClassId}
use Rattle.jk_model.specs.declared.identifiers.DomainId.{DomainId}
use Rattle.jk_model.specs.declared.identifiers.MemberId.{MemberId}
use Rattle.jk_model.specs.declared.values.Value.{Value}
use Rattle.jk_model.specs.declared.values.Value.TheVariants as Held
use Rattle.jk_model_classes.specs.declared.records.ClassRecord.{ClassRecord}
use Rattle.jk_model_classes.specs.declared.records.MethodRecord.{MethodRecord}
use Rattle.jk_model_domains.specs.Objects.{NamedObject}
use Rattle.jk_model_heaps.specs.Instances.{RunsAs}
use Rattle.jk_model_call_rows.specs.CallRows.{AtReceiver}
use Rattle.jk_model_call_rows.specs.Targets.{Target, InterfaceTarget, VirtualTarget}
use Rattle.object_store.specs.HeapContents.{HeapContent}
use Rattle.instance_tests.specs.Tested.{Refers}
use Rattle.call_ops.specs.CodeTargets.{ComesTo}

-- ---- At a receiver.

at_other : (Comes : Value → Target → Type 0) (receiver : Value) (arguments : List Value) (target : Target) → receiver ≢ Held.Null
    → Comes receiver target → AtReceiver Comes (receiver ∷ arguments) target
at_other Comes Held.Null arguments target some h = absurd (some refl)
at_other Comes (Held.Int n) arguments target some h = h
at_other Comes (Held.Long n) arguments target some h = h
at_other Comes (Held.Obj a) arguments target some h = h
at_other Comes (Held.Cap k) arguments target some h = h
at_other Comes Held.Unset arguments target some h = h

-- ---- invokevirtual.

module _ (classes : List ClassRecord) (heap : List NamedObject) (op : ℕ) (self : ClassId) (m : MemberId) (method : MethodRecord) (receiver : Value) where
  pub virtual_comes : (target : Target) → op ≡ 0xb6 → receiver ≢ Held.Null → VirtualTarget classes heap receiver m target
      → (arguments : List Value) → ComesTo classes heap op self m method (receiver ∷ arguments) target
  virtual_comes target e some h arguments = inl (e, at_other (λ r. VirtualTarget classes heap r m) receiver arguments target some h)

-- ---- Where there is a target, the receiver is a reference.

runs_as_refers : (c : HeapContent) (d : DomainId) (receiver : Value) (class : ClassId) → RunsAs (c.heap d) receiver class → Refers c d receiver
runs_as_refers c d (Held.Obj a) class h = (h.0, h.1)
runs_as_refers c d (Held.Cap k) class h = tt
runs_as_refers c d Held.Null class h = h
runs_as_refers c d (Held.Int n) class h = h
runs_as_refers c d (Held.Long n) class h = h
runs_as_refers c d Held.Unset class h = h

module _ (classes : List ClassRecord) (c : HeapContent) (d : DomainId) (m : MemberId) (target : Target) where
  virtual_refers : (receiver : Value) (arguments : List Value) → receiver ≢ Held.Null
      → AtReceiver (λ r. VirtualTarget classes (c.heap d) r m) (receiver ∷ arguments) target → Refers c d receiver
  virtual_refers Held.Null arguments some h = absurd (some refl)
  virtual_refers (Held.Obj a) arguments some h = runs_as_refers c d (Held.Obj a) h.0 h.1
  virtual_refers (Held.Cap k) arguments some h = tt
  virtual_refers (Held.Int n) arguments some h = h.1
  virtual_refers (Held.Long n) arguments some h = h.1
  virtual_refers Held.Unset arguments some h = h.1

  interface_refers : (receiver : Value) (arguments : List Value) → receiver ≢ Held.Null
      → AtReceiver (λ r. InterfaceTarget classes (c.heap d) r m) (receiver ∷ arguments) target → Refers c d receiver
  interface_refers Held.Null arguments some h = absurd (some refl)
  interface_refers (Held.Obj a) arguments some h = runs_as_refers c d (Held.Obj a) h.0 h.1
  interface_refers (Held.Cap k) arguments some h = tt
  interface_refers (Held.Int n) arguments some h = h.1
  interface_refers (Held.Long n) arguments some h = h.1
  interface_refers Held.Unset arguments some h = h.1

  pub receiver_refers : (op : ℕ) (self : ClassId) (method : MethodRecord) (receiver : Value) (arguments : List Value)
      → ComesTo classes (c.heap d) op self m method (receiver ∷ arguments) target → receiver ≢ Held.Null → op ≢ 0xb7 → Refers c d receiver
  receiver_refers op self method receiver arguments h some other = elim h [
    | inl virtual ↦ virtual_refers receiver arguments some virtual.1
    | inr (inl special) ↦ absurd (other special.0)
    | inr (inr interface) ↦ interface_refers receiver arguments some interface.1
  ]
