-- A call is found: the method that is named, what is given, and what that comes to.
use Rattle.std.proofs.Common.{inl, inr, ◌≡◌, ◌≢◌, ◌⊎◌, ℕ, ◌+◌, ◌≤◌, List, [], ◌∷◌, length, refl, sym, subst, ◌∙◌, arith}
use Rattle.jk_model.specs.declared.instructions.Instr.{Instr}
use Rattle.jk_model.specs.declared.opcodes.TheConstants.{INVOKEINTERFACE, INVOKESPECIAL, INVOKESTATIC, INVOKEVIRTUAL}
use Rattle.jk_model.specs.declared.values.Value.{Value}
use Rattle.jk_model_classes.specs.declared.records.MethodRecord.{MethodRecord}
use Rattle.jk_model_classes.specs.declared.records.TypeRef.{TypeRef}
use Rattle.jk_model_classes.specs.Classes.{AreOrdered}
use Rattle.jk_model_typing.specs.Scopes.{CodeScope}
use Rattle.jk_model_domains.specs.Objects.{NamedObject}
use Rattle.jk_model_heaps.specs.RunningCode.{RunsCode}
use Rattle.jk_model_heaps.specs.Workings.{Setting, Working}
use Rattle.jk_model_call_rows.specs.CallRows.{AtReceiver, IsOfCalls, MethodCall, given_count}
use Rattle.jk_model_call_rows.specs.Targets.{InterfaceTarget, Runs, SpecialTarget, Target, VirtualTarget}
use Rattle.jk_model_sealing.specs.SealedInsides.{Surroundings}
use Rattle.decided_lookups.proofs.DecidedParts.{number_decided}
use Rattle.heap_laws.specs.FittingOutcomes.{AreOfTypes}
use Rattle.heap_laws.specs.RunningFrames.{RunsWell}
use Rattle.heap_laws.specs.SoundCodes.{AreSoundCodes}
use Rattle.row_laws.proofs.GivenToCalls.{GivenToCall, given_to_call, given_to_static}
use Rattle.row_laws.proofs.ClassesOfReceivers.{suited_runs}
use Rattle.row_laws.proofs.TargetsFound.{at_receiver, interface_target, special_target, virtual_target}

-- ---- Which instruction it is.

pub data WhichCall (op : ℕ) : Type 0 where
  is_virtual : op ≡ INVOKEVIRTUAL → WhichCall op
  is_special : op ≡ INVOKESPECIAL → WhichCall op
  is_static : op ≡ INVOKESTATIC → WhichCall op
  is_interface : op ≡ INVOKEINTERFACE → WhichCall op

which_by : (op : ℕ) → 0xb6 ≤ op → op ≤ 0xb9 → (op ≡ 0xb6) ⊎ (op ≢ 0xb6) → (op ≡ 0xb7) ⊎ (op ≢ 0xb7) → (op ≡ 0xb8) ⊎ (op ≢ 0xb8) → WhichCall op
which_by op low high (inl virtual) special static = is_virtual virtual
which_by op low high (inr a) (inl special) static = is_special special
which_by op low high (inr a) (inr b) (inl static) = is_static static
which_by op low high (inr a) (inr b) (inr c) = is_interface (omega (arith, low, high, a, b, c))

pub which_call : (i : Instr) → IsOfCalls i → WhichCall i.op
which_call i (low, high) = which_by i.op low high (number_decided i.op 0xb6) (number_decided i.op 0xb7) (number_decided i.op 0xb8)

-- ---- How much is given.

pub types_count : (around : Surroundings) (heap : List NamedObject) (ts : List TypeRef) (vs : List Value) → AreOfTypes around heap ts vs
    → length vs ≡ length ts
types_count around heap [] [] h = refl
types_count around heap [] (v ∷ vs) h = absurd h
types_count around heap (t ∷ ts) [] h = absurd h
types_count around heap (t ∷ ts) (v ∷ vs) h = let more = types_count around heap ts vs h.1 in omega (arith, more)

pub count_at : (op n k : ℕ) (method : MethodRecord) → n ≡ given_count k method → op ≡ k → n ≡ given_count op method
count_at op n k method count is = subst (λ (o : ℕ). n ≡ given_count o method) (sym is) count

module _ (around : Surroundings) (x : Setting) (w : Working) (runs : RunsWell around x w) (code : RunsCode around.classes w.frame) where
  abbrev s : CodeScope
  s = code.scope

  abbrev i : Instr
  i = code.instr

  abbrev heap : List NamedObject
  heap = w.inside.heap

  pub sound_here : AreSoundCodes s.classes
  sound_here = subst AreSoundCodes (sym code.is_scope.all) runs.setting.codes

  ordered : AreOrdered x.classes
  ordered = subst AreOrdered (sym runs.setting.classes) runs.setting.codes.ordered

  static_found : i.op ≡ INVOKESTATIC → MethodCall x s i w
  static_found op =
      let g = given_to_static around x w runs code op in
      record {
        found = g.1;
        method = g.2;
        names = (g.0, g.4, g.5);
        given = g.3;
        as_many = count_at i.op (length g.3) INVOKESTATIC g.2 (types_count around heap g.2.params g.3 g.7) op;
        on_top = g.6;
        target = Runs g.1;
        comes_to = inl (op, refl);
      }

  module _ (g : GivenToCall around w s i) where
    abbrev given : List Value
    given = g.receiver ∷ g.given

    -- one more than the parameters
    count : length given ≡ 1 + length g.method.params
    count = let many = types_count around heap g.method.params g.given g.of_types in omega (arith, many)

    with_target : (t : Target) → length given ≡ given_count i.op g.method
        → ((i.op ≡ INVOKESTATIC) × (t ≡ Runs g.found))
        ⊎ ((i.op ≡ INVOKEVIRTUAL) × AtReceiver (λ receiver. VirtualTarget x.classes heap receiver g.found) given t)
        ⊎ ((i.op ≡ INVOKESPECIAL) × AtReceiver (λ receiver. SpecialTarget x.classes s.self g.found g.method) given t)
        ⊎ ((i.op ≡ INVOKEINTERFACE) × AtReceiver (λ receiver. InterfaceTarget x.classes heap receiver g.found) given t)
        → MethodCall x s i w
    with_target t many comes = record {
      found = g.found;
      method = g.method;
      names = (g.class, g.leads, g.is_method);
      given = given;
      as_many = many;
      on_top = g.on_top;
      target = t;
      comes_to = comes;
    }

    virtual_found : i.op ≡ INVOKEVIRTUAL → MethodCall x s i w
    virtual_found op =
        let target =
        at_receiver (λ receiver. VirtualTarget x.classes heap receiver g.found) g.receiver g.given
        (virtual_target x.classes heap g.receiver g.found (suited_runs s heap sound_here i g.class g.method g.receiver g.suits)) in
        with_target target.0 (count_at i.op (length given) INVOKEVIRTUAL g.method count op) (inr (inl (op, target.1)))

    special_found : i.op ≡ INVOKESPECIAL → MethodCall x s i w
    special_found op =
        let target =
        at_receiver (λ receiver. SpecialTarget x.classes s.self g.found g.method) g.receiver g.given
        (inr (special_target x.classes ordered s.self g.found g.method)) in
        with_target target.0 (count_at i.op (length given) INVOKESPECIAL g.method count op) (inr (inr (inl (op, target.1))))

    interface_found : i.op ≡ INVOKEINTERFACE → MethodCall x s i w
    interface_found op =
        let target =
        at_receiver (λ receiver. InterfaceTarget x.classes heap receiver g.found) g.receiver g.given
        (interface_target x.classes heap g.receiver g.found (suited_runs s heap sound_here i g.class g.method g.receiver g.suits)) in
        with_target target.0 (count_at i.op (length given) INVOKEINTERFACE g.method count op) (inr (inr (inr (op, target.1))))

  found_by : WhichCall i.op → MethodCall x s i w
  found_by (is_static op) = static_found op
  found_by (is_virtual op) =
      virtual_found (given_to_call around x w runs code (inl op) (λ e. let both : 0xb6 ≡ 0xb8 = sym op ∙ e in omega (arith, both))) op
  found_by (is_special op) =
      special_found (given_to_call around x w runs code (inr (inl op)) (λ e. let both : 0xb7 ≡ 0xb8 = sym op ∙ e in omega (arith, both))) op
  found_by (is_interface op) =
      interface_found (given_to_call around x w runs code (inr (inr (inr op))) (λ e. let both : 0xb9 ≡ 0xb8 = sym op ∙ e in omega (arith, both))) op

  pub call_found : IsOfCalls i → MethodCall x s i w
  call_found of_calls = found_by (which_call i of_calls)
