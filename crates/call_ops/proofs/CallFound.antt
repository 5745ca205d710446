-- What is known of the call at which a frame stands: the method that it names, what it is given, and that its receiver stands on the stack
-- where code looks for it.
use Rattle.std.proofs.Common.{◌≡◌, ◌≢◌, ◌+◌, ◌-◌, ◌<◌, ◌≤◌, ◌⊎◌, ◌==◌, ◌++◌, ℕ, suc, List, [], ◌∷◌, Bool, true, false, length, length-append, Some, slice_get, refl, sym, subst, ap, ◌∙◌, arith}
use Rattle.std.proofs.lemmas.Bool.{eqb-true}
use Rattle.std.proofs.lemmas.Option.{slice_get_within}
use Rattle.list_lemmas.proofs.ItemsByPlace.{slice_get-seam}
use Rattle.jk_model.specs.declared.identifiers.MemberId.{MemberId}
use Rattle.jk_model.specs.declared.values.Value.{Value}
use Rattle.jk_model_classes.specs.declared.records.ClassRecord.{ClassRecord}
use Rattle.jk_model_classes.specs.declared.records.Link.TheVariants as To
use Rattle.jk_model_classes.specs.declared.records.MethodRecord.{MethodRecord}
use Rattle.jk_model_classes.specs.Classes.{HasClass}
use Rattle.jk_model_classes.specs.Lookups.{MethodIs}
use Rattle.jk_model_domains.specs.Objects.{NamedObject}
use Rattle.jk_model_heaps.specs.RunningCode.{NamesMethod}
use Rattle.jk_model_heaps.specs.Workings.{Inside, Setting}
use Rattle.jk_model_call_rows.specs.CallRows.{IsOfCalls, MethodCall, given_count}
use Rattle.jk_model_call_rows.specs.Targets.{Target, Runs}
use Rattle.class_lemmas.proofs.LinksToMembers.{one_linked}
use Rattle.class_lemmas.proofs.OneRecord.{one_method}
use Rattle.typing_lemmas.proofs.OneScope.{one_link}
use Rattle.step_contents.specs.Conditions.{MayDo, around, working}
use Rattle.step_contents.specs.Contents.{Contents, Here}
use Rattle.step_contents.specs.PlacesInCode.{PlaceInCode}
use Rattle.step_contents.specs.Settings.{IsSetting}
use Rattle.step_contents.specs.Operands.{LeadsToMethod}
use Rattle.step_contents.proofs.InstructionsBegin.{is_some_setting, runs_code, runs_well, some_setting}
use Rattle.row_laws.proofs.CallsFound.{call_found}
use Rattle.call_ops.specs.CodeTargets.{ComesTo}

-- ---- How many values are given, and where the receiver stands.

pub count_static : (op : ℕ) (method : MethodRecord) → op ≡ 0xb8 → given_count op method ≡ length method.params
count_static op method is = rw is refl

pub count_other : (op : ℕ) (method : MethodRecord) → op ≢ 0xb8 → given_count op method ≡ 1 + length method.params
count_other op method other = by (op == 0xb8) refl
  where
    by : (b : Bool) → (op == 0xb8) ≡ b → given_count op method ≡ 1 + length method.params
    by true e = absurd (other (eqb-true op 0xb8 e))
    by false e = rw e refl

-- what is given, where there is a receiver
pub first_given : (given : List Value) (n : ℕ) → length given ≡ 1 + n
    → (receiver : Value) × (arguments : List Value) × (given ≡ receiver ∷ arguments) × (length arguments ≡ n)
first_given [] n e = absurd (omega arith)
first_given (receiver ∷ arguments) n e = (receiver, arguments, refl, omega arith)

-- a value with so many above it is that far from the top
pub receiver_there : (below : List Value) (receiver : Value) (arguments stack : List Value) (n : ℕ) → stack ≡ below ++ receiver ∷ arguments
    → length arguments ≡ n → (n < length stack) × (slice_get stack (length stack - 1 - n) ≡ Some receiver)
receiver_there below receiver arguments stack n e count =
    let long : length stack ≡ length below + suc (length arguments) = ap length e ∙ length-append below (receiver ∷ arguments) in
    let place : length stack - 1 - n ≡ length below = omega arith in
    (omega arith, rw place (rw e (slice_get-seam below receiver arguments)))

-- ---- The call that is found.

module _ {old : Contents} {here : Here} {at : PlaceInCode} (may : MayDo old here at) (kind : IsOfCalls at.instr) where
  -- in each setting
  pub call_in : (x : Setting) → IsSetting old here x → MethodCall x at.scope at.instr (working may)
  call_in x is = call_found (around may.domain) x (working may) (runs_well may x is) (runs_code may) kind

  found_call : MethodCall (some_setting may) at.scope at.instr (working may)
  found_call = call_in (some_setting may) (is_some_setting may)

  pub leads_to_method : (m : MemberId) × LeadsToMethod at m
  leads_to_method = (found_call.found, (found_call.names.0, found_call.names.1))

  pub has_own_class : HasClass here.world.classes at.scope.self
  has_own_class =
      rw may.place.is_scope.self
      (slice_get_within here.world.classes may.place.method.class.0 may.place.is_scope.class may.place.is_scope.class_is)

  pub heap_here : may.run.inside.heap ≡ old.heaps.heap here.domain
  heap_here = ap (λ (i : Inside). i.heap) may.holds.inside

  -- ---- By the method that code finds the instruction to name.

  module _ (t : List ClassRecord) (same : t ≡ here.world.classes) (named : MemberId) (leads : LeadsToMethod at named) where
    same_named : (n : MemberId) (method : MethodRecord) → NamesMethod at.scope at.instr n method → named ≡ n
    same_named n method names =
        one_linked leads.0 names.0 named n (one_link at.scope at.instr (To.Method leads.0 named) (To.Method names.0 n) leads.1 names.1)

    pub classes_here : at.scope.classes ≡ t
    classes_here = may.place.is_scope.all ∙ sym same

    named_there : (n : MemberId) (method : MethodRecord) → NamesMethod at.scope at.instr n method → MethodIs t named method
    named_there n method names =
        subst (λ (k : MemberId). MethodIs t k method) (sym (same_named n method names))
        (subst (λ (l : List ClassRecord). MethodIs l n method) classes_here names.2)

    pub has_method : (method : MethodRecord) × MethodIs t named method
    has_method = (found_call.method, named_there found_call.found found_call.method found_call.names)

    module _ (method : MethodRecord) (is_method : MethodIs t named method) where
      pub few_params : length method.params ≤ 255
      few_params =
          may.domain.codes.few_params named method (subst (λ (l : List ClassRecord). MethodIs l named method) same is_method)

      pub same_record : (n : MemberId) (other : MethodRecord) → NamesMethod at.scope at.instr n other → other ≡ method
      same_record n other names = one_method t named other method (named_there n other names) is_method

      pub names_here : NamesMethod at.scope at.instr named method
      names_here = (leads.0, leads.1, subst (λ (l : List ClassRecord). MethodIs l named method) (sym classes_here) is_method)

      -- what is given, in each setting
      pub record IsGiven : Type 0 where
        pub given : List Value
        pub as_many : length given ≡ given_count at.instr.op method
        pub below : List Value
        pub on_top : may.frame.stack ≡ below ++ given

      abbrev pub is_given : (x : Setting) → MethodCall x at.scope at.instr (working may) → IsGiven
      is_given x call = record {
        given = call.given;
        as_many = call.as_many ∙ ap (given_count at.instr.op) (same_record call.found call.method call.names);
        below = call.on_top.0;
        on_top = call.on_top.1;
      }

      -- the call comes to this, in each setting, if what is given comes to it where code looks
      abbrev pub call_to : (x : Setting) → IsSetting old here x → (g : IsGiven) (target : Target)
          → ((at.instr.op ≡ 0xb8) × (target ≡ Runs named))
          ⊎ ComesTo t (old.heaps.heap here.domain) at.instr.op at.scope.self named method g.given target
          → MethodCall x at.scope at.instr (working may)
      call_to x is g target comes = record {
        found = named;
        method = method;
        names = names_here;
        given = g.given;
        as_many = g.as_many;
        on_top = (g.below, g.on_top);
        target = target;
        comes_to =
            subst (λ (l : List NamedObject). ((at.instr.op ≡ 0xb8) × (target ≡ Runs named))
            ⊎ ComesTo x.classes l at.instr.op at.scope.self named method g.given target) (sym heap_here)
            (subst (λ (l : List ClassRecord). ((at.instr.op ≡ 0xb8) × (target ≡ Runs named))
            ⊎ ComesTo l (old.heaps.heap here.domain) at.instr.op at.scope.self named method g.given target) (same ∙ sym is.classes) comes);
      }
