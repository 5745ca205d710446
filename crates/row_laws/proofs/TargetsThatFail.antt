-- What a call that fails raises, and when a call is one through a capability.
use Rattle.std.proofs.Common.{inl, inr, ◌≡◌, ◌≢◌, ◌⊎◌, ◌<◌, List, [], ◌∷◌, length, refl, sym, ap, subst, arith}
use Rattle.jk_model.specs.SystemTable.{system_classes}
use Rattle.jk_model.specs.declared.identifiers.CapId.{CapId}
use Rattle.jk_model.specs.declared.identifiers.ClassId.{ClassId}
use Rattle.jk_model.specs.declared.identifiers.MemberId.{MemberId}
use Rattle.jk_model.specs.declared.instructions.Instr.{Instr}
use Rattle.jk_model.specs.declared.opcodes.TheConstants.{INVOKEINTERFACE}
use Rattle.jk_model.specs.declared.values.Value.{Value}
use Rattle.jk_model.specs.declared.values.Value.TheVariants as Held
use Rattle.jk_model_classes.specs.declared.records.ClassRecord.{ClassRecord}
use Rattle.jk_model_classes.specs.declared.records.MethodRecord.{MethodRecord}
use Rattle.jk_model_classes.specs.Classes.{IsSubclass, OBJECT}
use Rattle.jk_model_typing.specs.FrameTypes.{THROWABLE}
use Rattle.jk_model_typing.specs.Scopes.{CodeScope}
use Rattle.jk_model_domains.specs.Objects.{NamedObject}
use Rattle.jk_model_heaps.specs.SystemClasses.{ABSTRACT_METHOD_ERROR, ILLEGAL_ACCESS_ERROR, INCOMPATIBLE_CLASS_CHANGE_ERROR, NULL_POINTER_EXCEPTION}
use Rattle.jk_model_heaps.specs.Workings.{Setting, Working}
use Rattle.jk_model_call_rows.specs.CallRows.{AtReceiver, MethodCall}
use Rattle.jk_model_call_rows.specs.Targets.{Fails, InterfaceTarget, LocalTarget, PublicTarget, SelectedTarget, SpecialTarget, Target, Through, VirtualTarget}
use Rattle.heap_laws.specs.SoundCodes.{AreSoundCodes}
use Rattle.row_laws.proofs.SystemParents.{below_listed}

-- ---- Errors.

abbrev pub IsCallError : ClassId → Type 0
IsCallError c =
    (c ≡ NULL_POINTER_EXCEPTION) ⊎ (c ≡ ABSTRACT_METHOD_ERROR) ⊎ (c ≡ ILLEGAL_ACCESS_ERROR) ⊎ (c ≡ INCOMPATIBLE_CLASS_CHANGE_ERROR)

of_null : (c : ClassId) → Fails c ≡ Fails NULL_POINTER_EXCEPTION → c ≡ NULL_POINTER_EXCEPTION
of_null c e = cc

of_abstract : (c : ClassId) → Fails c ≡ Fails ABSTRACT_METHOD_ERROR → c ≡ ABSTRACT_METHOD_ERROR
of_abstract c e = cc

of_access : (c : ClassId) → Fails c ≡ Fails ILLEGAL_ACCESS_ERROR → c ≡ ILLEGAL_ACCESS_ERROR
of_access c e = cc

of_change : (c : ClassId) → Fails c ≡ Fails INCOMPATIBLE_CLASS_CHANGE_ERROR → c ≡ INCOMPATIBLE_CLASS_CHANGE_ERROR
of_change c e = cc

at_receiver_fails : (ComesTo : Value → Target → Type 0) (given : List Value) (c : ClassId) → ((v : Value) → ComesTo v (Fails c) → IsCallError c)
    → AtReceiver ComesTo given (Fails c) → IsCallError c
at_receiver_fails ComesTo [] c each h = absurd h
at_receiver_fails ComesTo (Held.Null ∷ arguments) c each h = inl (of_null c h)
at_receiver_fails ComesTo (v ∷ arguments) c each h = each v h

module _ (classes : List ClassRecord) where
  selected_fails : (at : ClassId) (m : MemberId) (c : ClassId) → SelectedTarget classes at m (Fails c) → IsCallError c
  selected_fails at m c (inl (none, e)) = inr (inl (of_abstract c e))
  selected_fails at m c (inr (selected, selects, e)) = absurd cc

  public_fails : (at : ClassId) (m : MemberId) (c : ClassId) → PublicTarget classes at m (Fails c) → IsCallError c
  public_fails at m c (inl (none, e)) = inr (inl (of_abstract c e))
  public_fails at m c (inr (inl (selected, method, selects, is, hidden, e))) = inr (inr (inl (of_access c e)))
  public_fails at m c (inr (inr (selected, method, selects, is, shown, e))) = absurd cc

  special_fails : (self : ClassId) (m : MemberId) (method : MethodRecord) (c : ClassId) → SpecialTarget classes self m method (Fails c)
      → IsCallError c
  special_fails self m method c (inl (named, e)) = absurd cc
  special_fails self m method c (inr (parent, above, only, target)) = selected_fails parent m c target

  module _ (heap : List NamedObject) (m : MemberId) (c : ClassId) where
    local_fails : (v : Value) → LocalTarget classes heap v m (Fails c) → IsCallError c
    local_fails v (at, runs, inl (lacks, e)) = inr (inr (inr (of_change c e)))
    local_fails v (at, runs, inr (has_it, public)) = public_fails at m c public

    interface_fails : (v : Value) → InterfaceTarget classes heap v m (Fails c) → IsCallError c
    interface_fails (Held.Cap k) (inl (other, e)) = absurd cc
    interface_fails (Held.Cap k) (inr (object, local)) = local_fails (Held.Cap k) local
    interface_fails v local = local_fails v local

  -- each of them is a throwable of the system
  pub error_raised : AreSoundCodes classes → (c : ClassId) → IsCallError c → (c.0 < length system_classes) × IsSubclass classes c THROWABLE
  error_raised sound c (inl is) =
      subst (λ (e : ClassId). (e.0 < length system_classes) × IsSubclass classes e THROWABLE) (sym is)
      (omega arith, below_listed classes sound 9 26 9 refl)
  error_raised sound c (inr (inl is)) =
      subst (λ (e : ClassId). (e.0 < length system_classes) × IsSubclass classes e THROWABLE) (sym is)
      (omega arith, below_listed classes sound 9 38 9 refl)
  error_raised sound c (inr (inr (inl is))) =
      subst (λ (e : ClassId). (e.0 < length system_classes) × IsSubclass classes e THROWABLE) (sym is)
      (omega arith, below_listed classes sound 9 39 9 refl)
  error_raised sound c (inr (inr (inr is))) =
      subst (λ (e : ClassId). (e.0 < length system_classes) × IsSubclass classes e THROWABLE) (sym is)
      (omega arith, below_listed classes sound 9 35 9 refl)

-- ---- Calls through capabilities.

-- the capability is the receiver, and the method isn't one of java/lang/Object
pub record IsThrough (m found : MemberId) (k : CapId) (given : List Value) : Type 0 where
  pub arguments : List Value
  pub given_is : given ≡ Held.Cap k ∷ arguments
  pub method_is : m ≡ found
  pub no_object : found.class ≢ OBJECT

module _ (classes : List ClassRecord) where
  selected_goes : (at : ClassId) (m n : MemberId) (k : CapId) → SelectedTarget classes at m (Through k n) → ⊥
  selected_goes at m n k (inl (none, e)) = cc
  selected_goes at m n k (inr (selected, selects, e)) = cc

  special_goes : (self : ClassId) (m n : MemberId) (method : MethodRecord) (k : CapId) → SpecialTarget classes self m method (Through k n) → ⊥
  special_goes self m n method k (inl (named, e)) = cc
  special_goes self m n method k (inr (parent, above, only, target)) = selected_goes parent m n k target

  public_goes : (at : ClassId) (m n : MemberId) (k : CapId) → PublicTarget classes at m (Through k n) → ⊥
  public_goes at m n k (inl (none, e)) = cc
  public_goes at m n k (inr (inl (selected, method, selects, is, hidden, e))) = cc
  public_goes at m n k (inr (inr (selected, method, selects, is, shown, e))) = cc

  module _ (heap : List NamedObject) (m n : MemberId) (k : CapId) where
    local_goes : (v : Value) → LocalTarget classes heap v m (Through k n) → ⊥
    local_goes v (at, runs, inl (lacks, e)) = cc
    local_goes v (at, runs, inr (has_it, public)) = public_goes at m n k public

    capability_goes : (j : CapId) → InterfaceTarget classes heap (Held.Cap j) m (Through k n) → (j ≡ k) × (n ≡ m) × (m.class ≢ OBJECT)
    capability_goes j (inl (other, e)) =
        let same : j ≡ k = cc in
        let method : n ≡ m = cc in
        (same, method, other)
    capability_goes j (inr (object, local)) = absurd (local_goes (Held.Cap j) local)

    interface_goes : (given : List Value) → AtReceiver (λ receiver. InterfaceTarget classes heap receiver m) given (Through k n) → IsThrough n m k given
    interface_goes [] h = absurd h
    interface_goes (Held.Null ∷ arguments) h = absurd cc
    interface_goes (Held.Cap j ∷ arguments) h =
        let at = capability_goes j h in
        record {
          arguments = arguments;
          given_is = ap (λ (c : CapId). Held.Cap c ∷ arguments) at.0;
          method_is = at.1;
          no_object = at.2;
        }
    interface_goes (Held.Int a ∷ arguments) h = absurd (local_goes (Held.Int a) h)
    interface_goes (Held.Long a ∷ arguments) h = absurd (local_goes (Held.Long a) h)
    interface_goes (Held.Obj a ∷ arguments) h = absurd (local_goes (Held.Obj a) h)
    interface_goes (Held.Unset ∷ arguments) h = absurd (local_goes Held.Unset h)

  at_receiver_goes : (ComesTo : Value → Target → Type 0) (given : List Value) (n : MemberId) (k : CapId)
      → ((v : Value) → ComesTo v (Through k n) → ⊥) → AtReceiver ComesTo given (Through k n) → ⊥
  at_receiver_goes ComesTo [] n k each h = h
  at_receiver_goes ComesTo (Held.Null ∷ arguments) n k each h = cc
  at_receiver_goes ComesTo (v ∷ arguments) n k each h = each v h

-- ---- Of a call.

module _ (x : Setting) (s : CodeScope) (i : Instr) (w : Working) (call : MethodCall x s i w) where
  abbrev heap : List NamedObject
  heap = w.inside.heap

  pub call_fails : (c : ClassId) → call.target ≡ Fails c → IsCallError c
  call_fails c e = elim call.comes_to [
    | inl (op, target) ↦ absurd cc
    | inr (inl (op, at)) ↦
        at_receiver_fails (λ receiver. VirtualTarget x.classes heap receiver call.found) call.given c
        (λ v target. selected_fails x.classes target.0 call.found c target.2)
        (subst (AtReceiver (λ receiver. VirtualTarget x.classes heap receiver call.found) call.given) e at)
    | inr (inr (inl (op, at))) ↦
        at_receiver_fails (λ receiver. SpecialTarget x.classes s.self call.found call.method) call.given c
        (λ v target. special_fails x.classes s.self call.found call.method c target)
        (subst (AtReceiver (λ receiver. SpecialTarget x.classes s.self call.found call.method) call.given) e at)
    | inr (inr (inr (op, at))) ↦
        at_receiver_fails (λ receiver. InterfaceTarget x.classes heap receiver call.found) call.given c
        (λ v target. interface_fails x.classes heap call.found c v target)
        (subst (AtReceiver (λ receiver. InterfaceTarget x.classes heap receiver call.found) call.given) e at)
  ]

  pub call_goes : (k : CapId) (m : MemberId) → call.target ≡ Through k m → (i.op ≡ INVOKEINTERFACE) × IsThrough m call.found k call.given
  call_goes k m e = elim call.comes_to [
    | inl (op, target) ↦ absurd cc
    | inr (inl (op, at)) ↦
        absurd (at_receiver_goes x.classes (λ receiver. VirtualTarget x.classes heap receiver call.found) call.given m k
        (λ v target. selected_goes x.classes target.0 call.found m k target.2)
        (subst (AtReceiver (λ receiver. VirtualTarget x.classes heap receiver call.found) call.given) e at))
    | inr (inr (inl (op, at))) ↦
        absurd (at_receiver_goes x.classes (λ receiver. SpecialTarget x.classes s.self call.found call.method) call.given m k
        (λ v target. special_goes x.classes s.self call.found m call.method k target)
        (subst (AtReceiver (λ receiver. SpecialTarget x.classes s.self call.found call.method) call.given) e at))
    | inr (inr (inr (op, at))) ↦ (
      op,
      interface_goes x.classes heap call.found m k call.given
          (subst (AtReceiver (λ receiver. InterfaceTarget x.classes heap receiver call.found) call.given) e at),
    )
  ]
