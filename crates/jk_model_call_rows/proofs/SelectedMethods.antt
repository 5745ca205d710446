-- Which methods of the examples' classes are selected. A class declares no method of another name that a call could run, and what is
-- found isn't abstract.
use Rattle.std.proofs.Common.{◌≡◌, ◌≢◌, ℕ, zero, suc, false, List, [], ◌∷◌, Some, None, refl, inl, inr, sym, ap, ◌∙◌, subst, true≢false, arith}
use Rattle.std.specs.Prelude.{Contains, slice_get, slice_index, codes}
use Rattle.std.specs.List.{AllByRecursion}
use Rattle.std.proofs.lemmas.Option.{same_Some}
use Rattle.list_lemmas.proofs.ItemsOfLists.{Contains-at, Contains-cases, Contains-none, each-of}
use Rattle.jk_model.specs.Flags.{has, ABSTRACT}
use Rattle.jk_model.specs.declared.identifiers.ClassId.{ClassId}
use Rattle.jk_model.specs.declared.identifiers.MemberId.{MemberId}
use Rattle.jk_model_classes.specs.declared.records.ClassRecord.{ClassRecord}
use Rattle.jk_model_classes.specs.declared.records.MethodRecord.{MethodRecord}
use Rattle.jk_model_classes.specs.Classes.{Implements, OBJECT, record_of, superclasses}
use Rattle.jk_model_classes.specs.Items.{HasItemBefore}
use Rattle.jk_model_classes.specs.Lookups.{Declares, IsAbstract, IsFirstOf, MethodIs, RunsFor, Selects}
use Rattle.jk_model_classes.specs.Members.{INIT}
use Rattle.class_lemmas.proofs.OneRecord.{one_method}
use Rattle.jk_model_call_rows.specs.Examples.{A, B, C, HIDES, I, LACKS, classes_of_calls, member_at}

-- ---- Of any classes.

pub first_alone : {X : Type 0} (P : X → Type 0) (x : X) (xs : List X) → (P x → ⊥) → HasItemBefore 1 P (x ∷ xs) → ⊥
first_alone P x xs never (zero, y, below, at, p) = never (subst P (sym (same_Some x y at)) p)
first_alone P x xs never (suc i, y, below, at, p) = absurd (omega (arith, below))

module _ (classes : List ClassRecord) where
  not_abstract : (m : MemberId) (method : MethodRecord) → MethodIs classes m method → has method.flags ABSTRACT ≡ false
      → IsAbstract classes m → ⊥
  not_abstract m method is plain (other, also, abstract) =
      let one : method ≡ other = one_method classes m method other is also in
      true≢false (sym abstract ∙ ap (λ (x : MethodRecord). has x.flags ABSTRACT) (sym one) ∙ plain)

  -- of another class than that of m
  pub declares_none : (m : MemberId) (method : MethodRecord) (c : ClassId) (r : ClassRecord) → MethodIs classes m method
      → record_of classes c ≡ Some r → c ≢ m.class → AllByRecursion (λ (x : MethodRecord). x.name ≢ method.name) r.methods
      → Declares (RunsFor classes m) c → ⊥
  declares_none m method c r is at other names (i, runs) =
      let same : r ≡ runs.other_is.0 = same_Some r runs.other_is.0 (sym at ∙ runs.other_is.1) in
      let there : slice_get r.methods i ≡ Some runs.other_method =
      ap (λ (x : ClassRecord). slice_get x.methods i) same ∙ runs.other_is.2 in
      let renamed : runs.other_method.name ≢ method.name =
      each-of (λ (x : MethodRecord). x.name ≢ method.name) r.methods runs.other_method names
      (Contains-at r.methods i runs.other_method there) in
      elim runs.suits [
        | inl e ↦ other (ap (λ (x : MemberId). x.class) e)
        | inr by_name ↦ renamed (by_name.0 ∙ ap (λ (x : MethodRecord). x.name) (one_method classes m runs.method method runs.m_is is))
      ]

  -- the first class of the walk that declares such a method has this one first, and it isn't abstract
  pub selected_at : (receiver : ClassId) (m n : MemberId) (method : MethodRecord) (place : ℕ) → MethodIs classes n method
      → has method.flags ABSTRACT ≡ false → IsFirstOf (RunsFor classes m) n → slice_get (superclasses classes receiver) place ≡ Some n.class
      → (HasItemBefore place (Declares (RunsFor classes m)) (superclasses classes receiver) → ⊥) → Selects classes receiver m (Some n)
  selected_at receiver m n method place is plain member visited earlier =
      (Some n, record { member = member; place = place; visited = visited; earlier = earlier }, inr (not_abstract n method is plain, refl))

-- the first method of its class is the first that runs for another
pub first_of : (Suits : MemberId → Type 0) (c : ClassId) → Suits (record { class = c; index = 0 }) → IsFirstOf Suits (record { class = c; index = 0 })
first_of Suits c suits = record { suits = suits; first = λ i before other. absurd (omega (arith, before)) }

-- ---- Of the examples' classes.

pub differ : (a b : ClassId) → a.0 ≢ b.0 → a ≢ b
differ a b h e = h (ap (λ (c : ClassId). c.0) e)

o_not_m : codes "o" ≢ codes "m"
o_not_m e = absurd (omega (arith, ap (λ (units : List ℕ). slice_index units 0) e))

m_not_o : codes "m" ≢ codes "o"
m_not_o e = o_not_m (sym e)

p_not_o : codes "p" ≢ codes "o"
p_not_o e = absurd (omega (arith, ap (λ (units : List ℕ). slice_index units 0) e))

init_not_o : INIT ≢ codes "o"
init_not_o e = absurd (omega (arith, ap (λ (units : List ℕ). slice_index units 0) e))

b_runs_for_a : RunsFor classes_of_calls (member_at A 0) (member_at B 0)
b_runs_for_a = record {
  method = _;
  m_is = (_, refl, refl);
  other_method = _;
  other_is = (_, refl, refl);
  is_instance = refl;
  suits = inr (refl, refl, inr (inl refl));
}

-- the m of A, at B and at C
pub at_b : Selects classes_of_calls B (member_at A 0) (Some (member_at B 0))
at_b = (
  Some (member_at B 0),
  record {
    member = record { suits = b_runs_for_a; first = λ i before suits. absurd (omega (arith, before)) };
    place = 0;
    visited = refl;
    earlier = λ h. absurd (omega (arith, h.2));
  },
  inr (not_abstract classes_of_calls (member_at B 0) _ (_, refl, refl) refl, refl),
)

no_m_in_c : Declares (RunsFor classes_of_calls (member_at A 0)) C → ⊥
no_m_in_c = declares_none classes_of_calls (member_at A 0) _ C _ (_, refl, refl) refl (differ C A (λ e. absurd (omega (arith, e)))) tt

-- the m of A at C
pub at_c : Selects classes_of_calls C (member_at A 0) (Some (member_at B 0))
at_c = (
  Some (member_at B 0),
  record {
    member = record { suits = b_runs_for_a; first = λ i before suits. absurd (omega (arith, before)) };
    place = 1;
    visited = refl;
    earlier = first_alone (Declares (RunsFor classes_of_calls (member_at A 0))) C (B ∷ A ∷ OBJECT ∷ []) no_m_in_c;
  },
  inr (not_abstract classes_of_calls (member_at B 0) _ (_, refl, refl) refl, refl),
)

-- that of the interface, at a class that has a private one
pub at_hides : Selects classes_of_calls HIDES (member_at I 0) (Some (member_at HIDES 0))
at_hides = (
  Some (member_at HIDES 0),
  record {
    member = record {
      suits = record {
        method = _;
        m_is = (_, refl, refl);
        other_method = _;
        other_is = (_, refl, refl);
        is_instance = refl;
        suits = inr (refl, refl, inl (_, refl, refl));
      };
      first = λ i before suits. absurd (omega (arith, before));
    };
    place = 0;
    visited = refl;
    earlier = λ h. absurd (omega (arith, h.2));
  },
  inr (not_abstract classes_of_calls (member_at HIDES 0) _ (_, refl, refl) refl, refl),
)

no_m_in_lacks : Declares (RunsFor classes_of_calls (member_at I 0)) LACKS → ⊥
no_m_in_lacks = declares_none classes_of_calls (member_at I 0) _ LACKS _ (_, refl, refl) refl (differ LACKS I (λ e. absurd (omega (arith, e)))) tt

no_m_in_object : Declares (RunsFor classes_of_calls (member_at I 0)) OBJECT → ⊥
no_m_in_object =
    declares_none classes_of_calls (member_at I 0) _ OBJECT _ (_, refl, refl) refl (differ OBJECT I (λ e. absurd (omega (arith, e))))
    (o_not_m, tt)

nowhere : (c : ClassId) → Contains (LACKS ∷ OBJECT ∷ []) c → Declares (RunsFor classes_of_calls (member_at I 0)) c → ⊥
nowhere c on declares = elim (Contains-cases c LACKS (OBJECT ∷ []) on) [
  | inl e ↦ no_m_in_lacks (subst (Declares (RunsFor classes_of_calls (member_at I 0))) (sym e) declares)
  | inr above ↦ elim (Contains-cases c OBJECT [] above) [
    | inl e ↦ no_m_in_object (subst (Declares (RunsFor classes_of_calls (member_at I 0))) (sym e) declares)
    | inr none ↦ absurd (Contains-none c none)
  ]
]

-- and at one that has none
pub at_lacks : Selects classes_of_calls LACKS (member_at I 0) None
at_lacks = (None, nowhere, refl)

no_o_in_a : Declares (RunsFor classes_of_calls (member_at OBJECT 0)) A → ⊥
no_o_in_a =
    declares_none classes_of_calls (member_at OBJECT 0) _ A _ (_, refl, refl) refl (differ A OBJECT (λ e. absurd (omega (arith, e))))
    (m_not_o, (p_not_o, (init_not_o, tt)))

-- the o of java/lang/Object at A
pub at_a : Selects classes_of_calls A (member_at OBJECT 0) (Some (member_at OBJECT 0))
at_a = (
  Some (member_at OBJECT 0),
  record {
    member = record {
      suits = record {
        method = _;
        m_is = (_, refl, refl);
        other_method = _;
        other_is = (_, refl, refl);
        is_instance = refl;
        suits = inl refl;
      };
      first = λ i before suits. absurd (omega (arith, before));
    };
    place = 1;
    visited = refl;
    earlier = first_alone (Declares (RunsFor classes_of_calls (member_at OBJECT 0))) A (OBJECT ∷ []) no_o_in_a;
  },
  inr (not_abstract classes_of_calls (member_at OBJECT 0) _ (_, refl, refl) refl, refl),
)

-- ---- What the examples' classes implement.

pub a_lacks_interface : Implements classes_of_calls A I → ⊥
a_lacks_interface (is, listed) = elim (Contains-cases I A (OBJECT ∷ []) listed) [
  | inl e ↦ absurd (omega (arith, ap (λ (c : ClassId). c.0) e))
  | inr above ↦ elim (Contains-cases I OBJECT [] above) [
    | inl e ↦ absurd (omega (arith, ap (λ (c : ClassId). c.0) e))
    | inr none ↦ absurd (Contains-none I none)
  ]
]

pub hides_has_interface : Implements classes_of_calls HIDES I
hides_has_interface = ((_, refl, refl), (1, omega arith, refl))

pub lacks_has_interface : Implements classes_of_calls LACKS I
lacks_has_interface = ((_, refl, refl), (1, omega arith, refl))
