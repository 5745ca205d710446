-- Whether the descriptor of a reference to a method is one that it may have, as a test of its units says it.
use Rattle.std.proofs.Common.{◌≡◌, ℕ, ◌↔◌, refl, sym, subst, Bool, true, false, List}
use Rattle.std.specs.Prelude.{IsTrue, bytes_eq}
use Rattle.std.proofs.lemmas.Slice.Eq.{bytes_eq-Decides}
use Rattle.jk_model.specs.declared.descriptors.MethodType.{MethodType}
use Rattle.jk_model_classes.specs.MemberDescriptors.{IsReferenceType}
use Rattle.jk_model_classes.specs.Members.{INIT}
use Rattle.class_rules.specs.MethodDescriptors.{FitsMethod}

reference_type : (receiver init b : Bool) (name descriptor : List ℕ) → IsTrue init ↔ (name ≡ INIT)
    → IsTrue b ↔ ((t : MethodType) × FitsMethod receiver init descriptor t)
    → IsTrue b ↔ ((t : MethodType) × IsReferenceType receiver name descriptor t)
reference_type receiver init b name descriptor is_init says = (
  λ e.
      let (t, (text, (few, none))) = says.0 e in
      (t, record { text = text; few = few; init = λ same. none (is_init.1 same) }),
  λ (t, h). says.1 (t, (h.text, (h.few, λ i. h.init (is_init.0 i)))),
)

-- the test of a name against `<init>` has one answer
init_test : (name : List ℕ) (init : Bool) → IsTrue init ↔ (name ≡ INIT) → init ≡ bytes_eq name INIT
init_test name true h = sym ((bytes_eq-Decides name INIT).1 (h.0 refl))
init_test name false h = other (bytes_eq name INIT) (bytes_eq-Decides name INIT).0
  where
    other : (b : Bool) → (b ≡ true → name ≡ INIT) → false ≡ b
    other true k = h.1 (k refl)
    other false k = refl

pub method_reference : (name descriptor : List ℕ) (init b : Bool) → IsTrue init ↔ (name ≡ INIT)
    → IsTrue b ↔ ((t : MethodType) × FitsMethod init init descriptor t)
    → IsTrue b ↔ ((t : MethodType) × IsReferenceType (bytes_eq name INIT) name descriptor t)
method_reference name descriptor init b is_init says =
    subst (λ (r : Bool). IsTrue b ↔ ((t : MethodType) × IsReferenceType r name descriptor t)) (init_test name init is_init)
    (reference_type init init b name descriptor is_init says)

pub interface_reference : (name descriptor : List ℕ) (init b : Bool) → IsTrue init ↔ (name ≡ INIT)
    → IsTrue b ↔ ((t : MethodType) × FitsMethod true init descriptor t)
    → IsTrue b ↔ ((t : MethodType) × IsReferenceType true name descriptor t)
interface_reference name descriptor init b is_init says = reference_type true init b name descriptor is_init says
