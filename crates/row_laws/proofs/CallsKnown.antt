-- The method that a call runs is known: the domain knows its class, it begins with what is given, and answers what the method that is named does.
use Rattle.std.proofs.Common.{inl, inr, ◌≡◌, ◌≢◌, ◌⊎◌, ℕ, ◌+◌, IsTrue, List, [], ◌∷◌, ◌++◌, length, Contains, Some, refl, sym, ap, subst, ◌∙◌, arith}
use Rattle.std.specs.Prelude.{IsFalse}
use Rattle.list_lemmas.proofs.EndsOfLists.{one_split}
use Rattle.list_lemmas.proofs.ItemsOfLists.{Contains-here}
use Rattle.jk_model.specs.Flags.{has, ABSTRACT, STATIC}
use Rattle.jk_model.specs.declared.identifiers.ClassId.{ClassId}
use Rattle.jk_model.specs.declared.identifiers.MemberId.{MemberId}
use Rattle.jk_model.specs.declared.instructions.Instr.{Instr}
use Rattle.jk_model.specs.declared.opcodes.TheConstants.{INVOKEINTERFACE, INVOKESPECIAL, INVOKESTATIC, INVOKEVIRTUAL}
use Rattle.jk_model.specs.declared.values.Value.{Value}
use Rattle.jk_model.specs.declared.values.Value.TheVariants as Held
use Rattle.jk_model_classes.specs.declared.records.ClassRecord.{ClassRecord}
use Rattle.jk_model_classes.specs.declared.records.Link.TheVariants as To
use Rattle.jk_model_classes.specs.declared.records.MethodRecord.{MethodRecord}
use Rattle.jk_model_classes.specs.declared.records.TypeRef.{TypeRef}
use Rattle.jk_model_classes.specs.Classes.{IsInterface, IsSubclass, parents_of}
use Rattle.jk_model_classes.specs.Lookups.{MethodIs, Selects}
use Rattle.jk_model_classes.specs.Worlds.{IsNamed}
use Rattle.jk_model_typing.specs.Scopes.{CodeScope, LeadsToLink}
use Rattle.jk_model_domains.specs.Objects.{NamedObject}
use Rattle.jk_model_heaps.specs.Instances.{RunsAs}
use Rattle.jk_model_heaps.specs.RunningCode.{RunsCode}
use Rattle.jk_model_heaps.specs.Workings.{Setting, Working}
use Rattle.jk_model_call_rows.specs.CallRows.{AtReceiver, MethodCall, given_count}
use Rattle.jk_model_call_rows.specs.Targets.{InterfaceTarget, IsSelectedAbove, Runs, SpecialTarget, Target, VirtualTarget}
use Rattle.jk_model_sealing.specs.FittingFrames.{IsCall}
use Rattle.jk_model_sealing.specs.SealedInsides.{Surroundings}
use Rattle.class_table.proofs.StandingAbove.{is-own_superclass, superclasses-of_parent}
use Rattle.heap_laws.specs.FittingOutcomes.{AreOfTypes}
use Rattle.heap_laws.specs.RunningFrames.{RunsWell}
use Rattle.heap_laws.specs.NamedWell.{calls_method}
use Rattle.heap_laws.specs.SoundCodes.{AreSoundCodes}
use Rattle.row_laws.specs.CallOperands.{BeginMethod}
use Rattle.row_laws.proofs.CallersFit.{same_named}
use Rattle.row_laws.proofs.GivenToCalls.{SuitsCall, given_to_call, given_to_static}
use Rattle.row_laws.proofs.CallsFound.{sound_here, types_count}
use Rattle.row_laws.proofs.ClassesOfReceivers.{receiver_known, special_above, special_below}
use Rattle.row_laws.proofs.NamedMethods.{found_named, is_here, no_initialiser, self_named, special_concrete, special_dynamic, special_found, special_in_class, well}
use Rattle.row_laws.proofs.SelectedMethods.{RunsAlike, alike_in_class, interface_runs, runs_alike, selected_runs}
use Rattle.row_laws.proofs.TargetsFound.{runs_at_receiver}
use Rattle.row_laws.proofs.WaysUp.{above_named}

-- The method that is run, given these values, where another one was named.
pub record KnownRun (around : Surroundings) (heap : List NamedObject) (named : MethodRecord) (given : List Value) (m : MemberId) : Type 0 where
  pub method : MethodRecord
  pub is_method : MethodIs around.classes m method
  pub class_named : IsNamed around.table m.class
  pub begins : (IsTrue (has method.flags STATIC) × AreOfTypes around heap method.params given) ⊎ BeginMethod around heap m method given
  pub concrete : IsTrue (has method.flags STATIC) ⊎ IsFalse (has method.flags ABSTRACT)
  pub result : method.result ≡ named.result

-- What a call with a receiver was given, whichever way it was found.
pub record CallGiven (around : Surroundings) (x : Setting) (s : CodeScope) (i : Instr) (w : Working) (call : MethodCall x s i w) : Type 0 where
  pub class : ClassId
  pub leads : LeadsToLink s i (To.Method class call.found)
  pub receiver : Value
  pub arguments : List Value
  pub given_is : call.given ≡ receiver ∷ arguments
  pub suits : SuitsCall s w.inside.heap i class call.method receiver
  pub of_types : AreOfTypes around w.inside.heap call.method.params arguments

module _ (around : Surroundings) (x : Setting) (w : Working) (runs : RunsWell around x w) (code : RunsCode around.classes w.frame)
    (call : MethodCall x code.scope code.instr w) where
  abbrev s : CodeScope
  s = code.scope

  abbrev i : Instr
  i = code.instr

  abbrev heap : List NamedObject
  heap = w.inside.heap

  sound : AreSoundCodes around.classes
  sound = runs.setting.codes

  abbrev Known : MemberId → Type 0
  Known m = KnownRun around heap call.method call.given m

  -- ---- What was given.

  -- the entries that were given, where as many are known to be on top
  same_given : (below vs : List Value) → w.frame.stack ≡ below ++ vs → length call.given ≡ length vs → call.given ≡ vs
  same_given below vs top many = (one_split call.on_top.0 below call.given vs (sym call.on_top.1 ∙ top) many).1

  pub call_given : IsCall i → i.op ≢ INVOKESTATIC → ((method : MethodRecord) → given_count i.op method ≡ 1 + length method.params)
      → CallGiven around x s i w call
  call_given is_call other counts =
      let g = given_to_call around x w runs code is_call other in
      let same = same_named s i call.found call.method call.names g.found g.method (g.class, g.leads, g.is_method) in
      let params : length g.method.params ≡ length call.method.params = ap (λ (r : MethodRecord). length r.params) same.1 in
      let mine = types_count around heap g.method.params g.given g.of_types in
      let many : length call.given ≡ length (g.receiver ∷ g.given) = omega (arith, call.as_many, counts call.method, params, mine) in
      record {
        class = g.class;
        leads = subst (λ (k : MemberId). LeadsToLink s i (To.Method g.class k)) same.0 g.leads;
        receiver = g.receiver;
        arguments = g.given;
        given_is = same_given g.on_top.0 (g.receiver ∷ g.given) g.on_top.1 many;
        suits = subst (λ (r : MethodRecord). SuitsCall s heap i g.class r g.receiver) same.1 g.suits;
        of_types = subst (λ (r : MethodRecord). AreOfTypes around heap r.params g.given) same.1 g.of_types;
      }

  -- ---- invokestatic.

  static_known : i.op ≡ INVOKESTATIC → Known call.found
  static_known op =
      let g = given_to_static around x w runs code op in
      let same = same_named s i call.found call.method call.names g.1 g.2 (g.0, g.4, g.5) in
      let counts : given_count i.op call.method ≡ length call.method.params = ap (λ (k : ℕ). given_count k call.method) op in
      let params : length g.2.params ≡ length call.method.params = ap (λ (r : MethodRecord). length r.params) same.1 in
      let mine = types_count around heap g.2.params g.3 g.7 in
      let given : call.given ≡ g.3 = same_given g.6.0 g.3 g.6.1 (omega (arith, call.as_many, counts, params, mine)) in
      let static : IsTrue (has call.method.flags STATIC) = (well around x w runs code).static_method call.found call.method op call.names in
      let typed : AreOfTypes around heap call.method.params g.3 =
      subst (λ (r : MethodRecord). AreOfTypes around heap r.params g.3) same.1 g.7 in
      record {
        method = call.method;
        is_method = is_here around x w runs code call.names.0 call.found call.names.1 call.method call.names.2;
        class_named = found_named around x w runs code call.names.0 call.found call.names.1;
        begins = inl (static, subst (AreOfTypes around heap call.method.params) (sym given) typed);
        concrete = inl static;
        result = refl;
      }

  -- ---- Calls with a receiver.

  module _ (g : CallGiven around x s i w call) where
    abbrev named_is : MethodIs around.classes call.found call.method
    named_is = is_here around x w runs code g.class call.found g.leads call.method call.names.2

    abbrev named_known : IsNamed around.table call.found.class
    named_known = found_named around x w runs code g.class call.found g.leads

    -- a method that takes what the named one does, at a receiver whose class is below its own
    begins_at : (m : MemberId) (method : MethodRecord) → MethodIs around.classes m method → IsNamed around.table m.class
        → IsFalse (has method.flags STATIC) → IsFalse (has method.flags ABSTRACT) → method.params ≡ call.method.params
        → method.result ≡ call.method.result → (class : ClassId) → RunsAs heap g.receiver class → IsSubclass around.classes class m.class → Known m
    begins_at m method is there dynamic concrete params result class receiver below = record {
      method = method;
      is_method = is;
      class_named = there;
      begins =
          inr (subst (BeginMethod around heap m method) (sym g.given_is)
          (dynamic, (class, receiver, below), subst (λ (ts : List TypeRef). AreOfTypes around heap ts g.arguments) (sym params) g.of_types));
      concrete = inr concrete;
      result = result;
    }

    alike_known : (m : MemberId) → RunsAlike around x runs.setting call.found call.method named_is named_known m → (class : ClassId)
        → RunsAs heap g.receiver class → IsSubclass around.classes class m.class → Known m
    alike_known m a class receiver below =
        begins_at m a.other a.is_other a.class_named a.dynamic a.concrete a.params a.result class receiver below

    -- a method that was selected at the receiver's class
    selected_known : (m : MemberId) (class : ClassId) → RunsAs heap g.receiver class → Selects x.classes class call.found (Some m) → Known m
    selected_known m class receiver selects =
        let there = receiver_known around runs.setting.table x.quota w.inside runs.inside g.receiver class receiver in
        let alike = runs_alike around x runs.setting call.found call.method named_is named_known class m there
        (subst (λ (classes : List ClassRecord). Selects classes class call.found (Some m)) runs.setting.classes selects) in
        alike_known m alike.0 class receiver alike.1

    -- what is given, at its receiver
    at_given : (ComesTo : Value → Target → Type 0) (m : MemberId) → call.target ≡ Runs m → AtReceiver ComesTo call.given call.target
        → (g.receiver ≢ Held.Null) × ComesTo g.receiver (Runs m)
    at_given ComesTo m e at =
        runs_at_receiver ComesTo g.receiver g.arguments m
        (subst (λ (t : Target). AtReceiver ComesTo (g.receiver ∷ g.arguments) t) e
        (subst (λ (vs : List Value). AtReceiver ComesTo vs call.target) g.given_is at))

    virtual_known : (m : MemberId) → call.target ≡ Runs m
        → AtReceiver (λ receiver. VirtualTarget x.classes heap receiver call.found) call.given call.target → Known m
    virtual_known m e at =
        let there = at_given (λ receiver. VirtualTarget x.classes heap receiver call.found) m e at in
        selected_known m there.1.0 there.1.1 (selected_runs x.classes there.1.0 call.found m there.1.2)

    interface_known : (m : MemberId) → call.target ≡ Runs m
        → AtReceiver (λ receiver. InterfaceTarget x.classes heap receiver call.found) call.given call.target → Known m
    interface_known m e at =
        let there = at_given (λ receiver. InterfaceTarget x.classes heap receiver call.found) m e at in
        let selected = interface_runs x.classes heap call.found m g.receiver there.1 in
        selected_known m selected.0 selected.1 selected.2

    -- ---- invokespecial.

    module _ (op : i.op ≡ INVOKESPECIAL) (some : g.receiver ≢ Held.Null) where
      abbrev all : s.classes ≡ around.classes
      all = code.is_scope.all

      below_here : (c d : ClassId) → IsSubclass s.classes c d → IsSubclass around.classes c d
      below_here c d below = subst (λ (classes : List ClassRecord). IsSubclass classes c d) all below

      below_there : (c d : ClassId) → IsSubclass around.classes c d → IsSubclass s.classes c d
      below_there c d below = subst (λ (classes : List ClassRecord). IsSubclass classes c d) (sym all) below

      no_interface : (c : ClassId) → (IsInterface around.classes c → ⊥) → IsInterface s.classes c → ⊥
      no_interface c none is = none (subst (λ (classes : List ClassRecord). IsInterface classes c) all is)

      -- as it is named
      as_named : Known call.found
      as_named =
          let class_is = special_in_class around x w runs code g.class call.found g.leads call.method call.names.2 op in
          let up = special_found around x w runs code g.class call.found g.leads call.method call.names.2 op in
          let at = special_below s heap (sound_here around x w runs code) i g.class call.found.class call.method g.receiver op g.suits
          (no_interface call.found.class class_is) (below_there g.class call.found.class up) some in
          begins_at call.found call.method named_is named_known
          (special_dynamic around x w runs code g.class call.found g.leads call.method call.names.2 op)
          (special_concrete around x w runs code g.class call.found g.leads call.method call.names.2 op) refl refl at.0 at.1
          (below_here at.0 call.found.class at.2)

      -- as it is selected from the running class's parent upwards
      from_parent : (m : MemberId) (parent : ClassId) → IsSelectedAbove x.classes s.self call.found call.method
          → parents_of x.classes s.self ≡ parent ∷ [] → Selects x.classes parent call.found (Some m) → Known m
      from_parent m parent above only selects =
          let parents : parents_of around.classes s.self ≡ parent ∷ [] =
          subst (λ (classes : List ClassRecord). parents_of classes s.self ≡ parent ∷ []) runs.setting.classes only in
          let up : (d : ClassId) → IsSubclass around.classes parent d → IsSubclass around.classes s.self d =
          (λ d. superclasses-of_parent around.classes sound.ordered s.self parent d
          (subst (λ (cs : List ClassId). Contains cs parent) (sym parents) (Contains-here parent []))) in
          let parent_named =
          above_named around.classes sound around.table runs.setting.table.closed s.self parent (self_named around x w runs code)
          (up parent (is-own_superclass around.classes sound.ordered parent)) in
          let alike = runs_alike around x runs.setting call.found call.method named_is named_known parent m parent_named
          (subst (λ (classes : List ClassRecord). Selects classes parent call.found (Some m)) runs.setting.classes selects) in
          let other = no_initialiser around x w runs code g.class call.found g.leads call.method call.names.2 (ap calls_method op) in
          let class_is = alike_in_class around x runs.setting call.found call.method named_is named_known m other alike.0 in
          let at = special_above s heap (sound_here around x w runs code) i g.class m.class call.method g.receiver op above.no_constructor g.suits
          (no_interface m.class class_is) (below_there s.self m.class (up m.class alike.1)) some in
          alike_known m alike.0 at.0 at.1 (below_here at.0 m.class at.2)

      special_runs : (m : MemberId) → SpecialTarget x.classes s.self call.found call.method (Runs m) → Known m
      special_runs m (inl (named, e)) =
          let same : call.found ≡ m = cc in
          subst Known same as_named
      special_runs m (inr (parent, above, only, target)) = from_parent m parent above only (selected_runs x.classes parent call.found m target)

    special_known : (m : MemberId) → call.target ≡ Runs m → i.op ≡ INVOKESPECIAL
        → AtReceiver (λ receiver. SpecialTarget x.classes s.self call.found call.method) call.given call.target → Known m
    special_known m e op at =
        let there = at_given (λ receiver. SpecialTarget x.classes s.self call.found call.method) m e at in
        special_runs op there.0 m there.1

  -- ---- Each of them.

  known_by : (m : MemberId) → call.target ≡ Runs m
      → ((i.op ≡ INVOKESTATIC) × (call.target ≡ Runs call.found))
      ⊎ ((i.op ≡ INVOKEVIRTUAL) × AtReceiver (λ receiver. VirtualTarget x.classes heap receiver call.found) call.given call.target)
      ⊎ ((i.op ≡ INVOKESPECIAL) × AtReceiver (λ receiver. SpecialTarget x.classes s.self call.found call.method) call.given call.target)
      ⊎ ((i.op ≡ INVOKEINTERFACE) × AtReceiver (λ receiver. InterfaceTarget x.classes heap receiver call.found) call.given call.target)
      → Known m
  known_by m e (inl (op, target)) =
      let both : Runs call.found ≡ Runs m = sym target ∙ e in
      let same : call.found ≡ m = cc in
      subst Known same (static_known op)
  known_by m e (inr (inl (op, at))) =
      virtual_known
      (call_given (inl op) (λ f. let both : 0xb6 ≡ 0xb8 = sym op ∙ f in omega (arith, both)) (λ method. ap (λ (k : ℕ). given_count k method) op))
      m e at
  known_by m e (inr (inr (inl (op, at)))) =
      special_known
      (call_given (inr (inl op)) (λ f. let both : 0xb7 ≡ 0xb8 = sym op ∙ f in omega (arith, both)) (λ method. ap (λ (k : ℕ). given_count k method) op))
      m e op at
  known_by m e (inr (inr (inr (op, at)))) =
      interface_known
      (call_given (inr (inr (inr op))) (λ f. let both : 0xb9 ≡ 0xb8 = sym op ∙ f in omega (arith, both))
      (λ method. ap (λ (k : ℕ). given_count k method) op)) m e at

  pub known_run : (m : MemberId) → call.target ≡ Runs m → Known m
  known_run m e = known_by m e call.comes_to
