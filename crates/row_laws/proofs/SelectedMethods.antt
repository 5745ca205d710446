-- A method that is selected for another one: it runs, and takes and answers what that one does, where one domain knows the classes of both.
use Rattle.std.proofs.Common.{inl, inr, ◌≡◌, ◌≢◌, ◌⊎◌, Bool, true, false, List, Some, refl, sym, ap, subst, ◌∙◌}
use Rattle.std.specs.Prelude.{IsFalse}
use Rattle.list_lemmas.proofs.ItemsOfLists.{Contains-at}
use Rattle.list_lemmas.proofs.TestsAndOrders.{not_true}
use Rattle.jk_model.specs.Flags.{has, ABSTRACT, STATIC}
use Rattle.jk_model.specs.declared.identifiers.ClassId.{ClassId}
use Rattle.jk_model.specs.declared.identifiers.MemberId.{MemberId}
use Rattle.jk_model.specs.declared.values.Value.{Value}
use Rattle.jk_model.specs.declared.values.Value.TheVariants as Held
use Rattle.jk_model_classes.specs.declared.records.ClassRecord.{ClassRecord}
use Rattle.jk_model_classes.specs.declared.records.MethodRecord.{MethodRecord}
use Rattle.jk_model_classes.specs.Classes.{IsInterface, IsSubclass, superclasses}
use Rattle.jk_model_classes.specs.Lookups.{IsAbstract, MethodIs, Selects}
use Rattle.jk_model_classes.specs.Members.{CLINIT}
use Rattle.jk_model_classes.specs.Worlds.{IsNamed}
use Rattle.jk_model_domains.specs.Objects.{NamedObject}
use Rattle.jk_model_heaps.specs.Instances.{RunsAs}
use Rattle.jk_model_heaps.specs.Workings.{Setting}
use Rattle.jk_model_call_rows.specs.Targets.{InterfaceTarget, LocalTarget, PublicTarget, Runs, SelectedTarget}
use Rattle.jk_model_sealing.specs.SealedInsides.{Surroundings}
use Rattle.class_lemmas.proofs.OneRecord.{one_method}
use Rattle.heap_laws.specs.RunningFrames.{IsKnownSetting}
use Rattle.row_laws.proofs.TargetsFound.{is_selected}
use Rattle.row_laws.proofs.WaysUp.{above_named, concrete_in_class}

-- ---- What is run was selected.

module _ (classes : List ClassRecord) (c : ClassId) (m selected : MemberId) where
  pub selected_runs : SelectedTarget classes c m (Runs selected) → Selects classes c m (Some selected)
  selected_runs (inl (none, e)) = absurd cc
  selected_runs (inr (other, selects, e)) =
      let same : other ≡ selected = cc in
      subst (λ (k : MemberId). Selects classes c m (Some k)) same selects

  public_runs : PublicTarget classes c m (Runs selected) → Selects classes c m (Some selected)
  public_runs (inl (none, e)) = absurd cc
  public_runs (inr (inl (other, method, selects, is, hidden, e))) = absurd cc
  public_runs (inr (inr (other, method, selects, is, shown, e))) =
      let same : other ≡ selected = cc in
      subst (λ (k : MemberId). Selects classes c m (Some k)) same selects

module _ (classes : List ClassRecord) (heap : List NamedObject) (m selected : MemberId) where
  local_runs : (v : Value) → LocalTarget classes heap v m (Runs selected) → (c : ClassId) × RunsAs heap v c × Selects classes c m (Some selected)
  local_runs v (c, runs, inl (lacks, e)) = absurd cc
  local_runs v (c, runs, inr (has_it, public)) = (c, runs, public_runs classes c m selected public)

  pub interface_runs : (v : Value) → InterfaceTarget classes heap v m (Runs selected)
      → (c : ClassId) × RunsAs heap v c × Selects classes c m (Some selected)
  interface_runs (Held.Cap k) (inl (other, e)) = absurd cc
  interface_runs (Held.Cap k) (inr (object, local)) = local_runs (Held.Cap k) local
  interface_runs v local = local_runs v local

-- ---- What it is.

module _ (around : Surroundings) (x : Setting) (known : IsKnownSetting around x) (found : MemberId) (method : MethodRecord)
    (is : MethodIs around.classes found method) (is_named : IsNamed around.table found.class) where
  -- it runs as the method that is named would
  pub record RunsAlike (m : MemberId) : Type 0 where
    pub other : MethodRecord
    pub is_other : MethodIs around.classes m other
    pub class_named : IsNamed around.table m.class
    pub dynamic : IsFalse (has other.flags STATIC)
    pub concrete : IsFalse (has other.flags ABSTRACT)
    pub name : other.name ≡ method.name
    pub params : other.params ≡ method.params
    pub result : other.result ≡ method.result

  record Agree (a : MethodRecord) : Type 0 where
    of_name : a.name ≡ method.name
    of_params : a.params ≡ method.params
    of_result : a.result ≡ method.result

  agree_by : (m : MemberId) (a b : MethodRecord) (P : Type 0) → MethodIs around.classes m a → IsNamed around.table m.class → b ≡ method
      → (m ≡ found) ⊎ ((a.name ≡ b.name) × (a.kind ≡ b.kind) × P) → Agree a
  agree_by m a b P is_a there one (inl same) =
      let whole : a ≡ method = one_method around.classes found a method (subst (λ (k : MemberId). MethodIs around.classes k a) same is_a) is in
      record {
        of_name = ap (λ (r : MethodRecord). r.name) whole;
        of_params = ap (λ (r : MethodRecord). r.params) whole;
        of_result = ap (λ (r : MethodRecord). r.result) whole;
      }
  agree_by m a b P is_a there one (inr (name, kind, how)) =
      let types = known.table.agrees m found a method is_a is there is_named (kind ∙ ap (λ (r : MethodRecord). r.kind) one) in
      record { of_name = name ∙ ap (λ (r : MethodRecord). r.name) one; of_params = types.0; of_result = types.1 }

  runs_by_flag : (m : MemberId) (a : MethodRecord) → MethodIs around.classes m a → (IsAbstract around.classes m → ⊥) → (b : Bool)
      → has a.flags ABSTRACT ≡ b → IsFalse (has a.flags ABSTRACT)
  runs_by_flag m a is_a concrete true flag = absurd (concrete (a, is_a, flag))
  runs_by_flag m a is_a concrete false flag = flag

  pub runs_alike : (c : ClassId) (m : MemberId) → IsNamed around.table c → Selects around.classes c found (Some m)
      → RunsAlike m × IsSubclass around.classes c m.class
  runs_alike c m c_named selects =
      let selected = is_selected around.classes c found m selects in
      let suits = selected.first.member.suits in
      let above : IsSubclass around.classes c m.class =
      Contains-at (superclasses around.classes c) selected.first.place m.class selected.first.visited in
      let m_named : IsNamed around.table m.class =
      above_named around.classes known.codes around.table known.table.closed c m.class c_named above in
      let one : suits.method ≡ method = one_method around.classes found suits.method method suits.m_is is in
      let agree = agree_by m suits.other_method suits.method _ suits.other_is m_named one suits.suits in (
        record {
          other = suits.other_method;
          is_other = suits.other_is;
          class_named = m_named;
          dynamic = not_true (has suits.other_method.flags STATIC) suits.is_instance;
          concrete = runs_by_flag m suits.other_method suits.other_is selected.concrete (has suits.other_method.flags ABSTRACT) refl;
          name = agree.of_name;
          params = agree.of_params;
          result = agree.of_result;
        },
        above,
      )

  -- and it is of no interface
  pub alike_in_class : (m : MemberId) → method.name ≢ CLINIT → RunsAlike m → IsInterface around.classes m.class → ⊥
  alike_in_class m other alike =
      concrete_in_class around.classes known.codes m alike.other alike.is_other (λ e. other (sym alike.name ∙ e)) alike.concrete
