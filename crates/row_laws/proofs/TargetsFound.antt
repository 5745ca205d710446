-- Each call comes to a target: a method that is run, an error, or a call through a capability.
use Rattle.std.proofs.Common.{inl, inr, ◌≡◌, ◌≢◌, ◌⊎◌, Bool, true, false, not, IsTrue, List, ◌∷◌, Option, Some, None, refl, sym, ap, subst}
use Rattle.std.proofs.lemmas.Option.{none-some, same_Some}
use Rattle.jk_model.specs.Flags.{has, PRIVATE, PUBLIC}
use Rattle.jk_model.specs.declared.identifiers.ClassId.{ClassId}
use Rattle.jk_model.specs.declared.identifiers.MemberId.{MemberId}
use Rattle.jk_model.specs.declared.values.Value.{Value}
use Rattle.jk_model.specs.declared.values.Value.TheVariants as Held
use Rattle.jk_model_classes.specs.declared.records.ClassRecord.{ClassRecord}
use Rattle.jk_model_classes.specs.declared.records.MethodRecord.{MethodRecord}
use Rattle.jk_model_classes.specs.Classes.{AreOrdered, IsSubclass, OBJECT, superclasses}
use Rattle.jk_model_classes.specs.Lookups.{FindsOn, IsAbstract, IsFirstOn, IsUnlessAbstract, MethodIs, RunsFor, Selects}
use Rattle.jk_model_classes.specs.Members.{INIT}
use Rattle.jk_model_domains.specs.Objects.{NamedObject}
use Rattle.jk_model_heaps.specs.Instances.{RunsAs}
use Rattle.jk_model_heaps.specs.SystemClasses.{ABSTRACT_METHOD_ERROR, ILLEGAL_ACCESS_ERROR, INCOMPATIBLE_CLASS_CHANGE_ERROR, NULL_POINTER_EXCEPTION}
use Rattle.jk_model_call_rows.specs.CallRows.{AtReceiver}
use Rattle.jk_model_call_rows.specs.Targets.{Fails, HasInterface, InterfaceTarget, IsRunAsNamed, LocalTarget, PublicTarget, Runs, SelectedTarget, SpecialTarget, Target, Through, VirtualTarget}
use Rattle.class_table.proofs.StandingAbove.{superclasses-cases}
use Rattle.decided_lookups.specs.Decisions.{IsDecided}
use Rattle.decided_lookups.proofs.DecidedParts.{class_decided, text_decided, true_decided}
use Rattle.decided_lookups.proofs.DecidedRecords.{implements_decided, subclass_decided}
use Rattle.decided_lookups.proofs.MembersFound.{call_selects}

-- ---- At a receiver.

-- null fails, whatever other receivers come to
pub at_receiver : (ComesTo : Value → Target → Type 0) (v : Value) (arguments : List Value) → (v ≡ Held.Null) ⊎ ((t : Target) × ComesTo v t)
    → (t : Target) × AtReceiver ComesTo (v ∷ arguments) t
at_receiver ComesTo Held.Null arguments h = (Fails NULL_POINTER_EXCEPTION, refl)
at_receiver ComesTo (Held.Int n) arguments (inl null) = absurd cc
at_receiver ComesTo (Held.Long n) arguments (inl null) = absurd cc
at_receiver ComesTo (Held.Obj a) arguments (inl null) = absurd cc
at_receiver ComesTo (Held.Cap k) arguments (inl null) = absurd cc
at_receiver ComesTo Held.Unset arguments (inl null) = absurd cc
at_receiver ComesTo v arguments (inr found) = found

-- where a method is run the receiver isn't null
pub runs_at_receiver : (ComesTo : Value → Target → Type 0) (v : Value) (arguments : List Value) (m : MemberId)
    → AtReceiver ComesTo (v ∷ arguments) (Runs m) → (v ≢ Held.Null) × ComesTo v (Runs m)
runs_at_receiver ComesTo Held.Null arguments m h = absurd cc
runs_at_receiver ComesTo (Held.Int n) arguments m h = ((λ e. cc), h)
runs_at_receiver ComesTo (Held.Long n) arguments m h = ((λ e. cc), h)
runs_at_receiver ComesTo (Held.Obj a) arguments m h = ((λ e. cc), h)
runs_at_receiver ComesTo (Held.Cap k) arguments m h = ((λ e. cc), h)
runs_at_receiver ComesTo Held.Unset arguments m h = ((λ e. cc), h)

module _ (classes : List ClassRecord) where
  -- ---- Methods that are selected.

  selected_by : (c : ClassId) (m : MemberId) (o : Option MemberId) → Selects classes c m o → (t : Target) × SelectedTarget classes c m t
  selected_by c m None selects = (Fails ABSTRACT_METHOD_ERROR, inl (selects, refl))
  selected_by c m (Some selected) selects = (Runs selected, inr (selected, selects, refl))

  selected_target : (c : ClassId) (m : MemberId) → (t : Target) × SelectedTarget classes c m t
  selected_target c m = let found = call_selects classes c m in selected_by c m found.0 found.1

  -- what is selected runs for the method, at a class above the receiver's, and isn't abstract
  pub record IsSelected (c : ClassId) (m selected : MemberId) : Type 0 where
    pub first : IsFirstOn (RunsFor classes m) (superclasses classes c) selected
    pub concrete : IsAbstract classes selected → ⊥

  selected_from : (c : ClassId) (m selected : MemberId) (found : Option MemberId) → FindsOn (RunsFor classes m) (superclasses classes c) found
      → IsUnlessAbstract classes found (Some selected) → IsSelected c m selected
  selected_from c m selected None finds unless = absurd (none-some selected (sym unless))
  selected_from c m selected (Some n) finds (inl (abstract, none)) = absurd (none-some selected (sym none))
  selected_from c m selected (Some n) finds (inr (concrete, same)) =
      let one : n ≡ selected = same_Some n selected (sym same) in
      record {
        first = subst (IsFirstOn (RunsFor classes m) (superclasses classes c)) one finds;
        concrete = subst (λ (k : MemberId). IsAbstract classes k → ⊥) one concrete;
      }

  pub is_selected : (c : ClassId) (m selected : MemberId) → Selects classes c m (Some selected) → IsSelected c m selected
  is_selected c m selected (found, finds, unless) = selected_from c m selected found finds unless

  -- ---- invokevirtual.

  pub virtual_target : (heap : List NamedObject) (v : Value) (m : MemberId) → (v ≡ Held.Null) ⊎ ((c : ClassId) × RunsAs heap v c)
      → (v ≡ Held.Null) ⊎ ((t : Target) × VirtualTarget classes heap v m t)
  virtual_target heap v m (inl null) = inl null
  virtual_target heap v m (inr (c, runs)) = let target = selected_target c m in inr (target.0, (c, runs, target.1))

  -- ---- invokespecial.

  module _ (ordered : AreOrdered classes) (self : ClassId) (m : MemberId) (method : MethodRecord) where
    above_by : method.name ≢ INIT → (IsTrue (has method.flags PRIVATE) → ⊥) → m.class ≢ self → IsSubclass classes self m.class
        → (t : Target) × SpecialTarget classes self m method t
    above_by no_init not_private other above = elim (superclasses-cases classes ordered self m.class above) [
      | inl same ↦ absurd (other (sym same))
      | inr (parent, only, higher) ↦
          let target = selected_target parent m in (
            target.0,
            inr (
              parent,
              record { no_constructor = no_init; not_private = is_not (has method.flags PRIVATE) not_private; other = other; above = above },
              only,
              target.1,
            ),
          )
    ]
      where
        is_not : (b : Bool) → (IsTrue b → ⊥) → IsTrue (not b)
        is_not true refuted = absurd (refuted refl)
        is_not false refuted = refl

    named : IsRunAsNamed classes self m method → (t : Target) × SpecialTarget classes self m method t
    named is = (Runs m, inl (is, refl))

    by_above : method.name ≢ INIT → (IsTrue (has method.flags PRIVATE) → ⊥) → m.class ≢ self → IsDecided (IsSubclass classes self m.class)
        → (t : Target) × SpecialTarget classes self m method t
    by_above no_init not_private other (inl above) = above_by no_init not_private other above
    by_above no_init not_private other (inr refuted) = named (inr (inr (inr refuted)))

    by_class : method.name ≢ INIT → (IsTrue (has method.flags PRIVATE) → ⊥) → IsDecided (m.class ≡ self)
        → (t : Target) × SpecialTarget classes self m method t
    by_class no_init not_private (inl same) = named (inr (inr (inl same)))
    by_class no_init not_private (inr other) = by_above no_init not_private other (subclass_decided classes self m.class)

    by_flag : method.name ≢ INIT → IsDecided (IsTrue (has method.flags PRIVATE)) → (t : Target) × SpecialTarget classes self m method t
    by_flag no_init (inl private) = named (inr (inl private))
    by_flag no_init (inr not_private) = by_class no_init not_private (class_decided m.class self)

    by_name : IsDecided (method.name ≡ INIT) → (t : Target) × SpecialTarget classes self m method t
    by_name (inl init) = named (inl init)
    by_name (inr no_init) = by_flag no_init (true_decided (has method.flags PRIVATE))

    pub special_target : (t : Target) × SpecialTarget classes self m method t
    special_target = by_name (text_decided method.name INIT)

  -- ---- invokeinterface.

  public_flag : (c : ClassId) (m selected : MemberId) (method : MethodRecord) → Selects classes c m (Some selected) → MethodIs classes selected method
      → (b : Bool) → has method.flags PUBLIC ≡ b → (t : Target) × PublicTarget classes c m t
  public_flag c m selected method selects is true flag = (Runs selected, inr (inr (selected, method, selects, is, flag, refl)))
  public_flag c m selected method selects is false flag =
      (Fails ILLEGAL_ACCESS_ERROR, inr (inl (selected, method, selects, is, ap not flag, refl)))

  public_by : (c : ClassId) (m : MemberId) (o : Option MemberId) → Selects classes c m o → (t : Target) × PublicTarget classes c m t
  public_by c m None selects = (Fails ABSTRACT_METHOD_ERROR, inl (selects, refl))
  public_by c m (Some selected) selects =
      let suits = (is_selected c m selected selects).first.member.suits in
      public_flag c m selected suits.other_method selects suits.other_is (has suits.other_method.flags PUBLIC) refl

  public_target : (c : ClassId) (m : MemberId) → (t : Target) × PublicTarget classes c m t
  public_target c m = let found = call_selects classes c m in public_by c m found.0 found.1

  module _ (heap : List NamedObject) (v : Value) (m : MemberId) (c : ClassId) (runs : RunsAs heap v c) where
    with_interface : HasInterface classes c m → (t : Target) × LocalTarget classes heap v m t
    with_interface has_it = let target = public_target c m in (target.0, (c, runs, inr (has_it, target.1)))

    by_implementing : m.class ≢ OBJECT → (t : Target) × LocalTarget classes heap v m t
    by_implementing other = elim (implements_decided classes c m.class) [
      | inl implements ↦ with_interface (inr implements)
      | inr lacks ↦ (Fails INCOMPATIBLE_CLASS_CHANGE_ERROR, (c, runs, inl ((other, lacks), refl)))
    ]

    local_target : (t : Target) × LocalTarget classes heap v m t
    local_target = elim (class_decided m.class OBJECT) [
      | inl object ↦ with_interface (inl object)
      | inr other ↦ by_implementing other
    ]

  interface_at : (heap : List NamedObject) (v : Value) (m : MemberId) (c : ClassId) → RunsAs heap v c
      → (t : Target) × InterfaceTarget classes heap v m t
  interface_at heap (Held.Cap k) m c runs = elim (class_decided m.class OBJECT) [
    | inl object ↦ let target = local_target heap (Held.Cap k) m c runs in (target.0, inr (object, target.1))
    | inr other ↦ (Through k m, inl (other, refl))
  ]
  interface_at heap v m c runs = local_target heap v m c runs

  pub interface_target : (heap : List NamedObject) (v : Value) (m : MemberId) → (v ≡ Held.Null) ⊎ ((c : ClassId) × RunsAs heap v c)
      → (v ≡ Held.Null) ⊎ ((t : Target) × InterfaceTarget classes heap v m t)
  interface_target heap v m (inl null) = inl null
  interface_target heap v m (inr (c, runs)) = inr (interface_at heap v m c runs)
