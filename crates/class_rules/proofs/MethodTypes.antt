-- Whether a method's descriptor is one that it may have, as a test of its units says it.
use Rattle.std.proofs.Common.{◌≡◌, ℕ, ◌≤◌, inl, inr, ◌↔◌, refl, sym, subst, Bool, false, List, Some}
use Rattle.std.specs.Prelude.{IsTrue, not}
use Rattle.jk_model.specs.declared.class_file.ClassFile.{ClassFile}
use Rattle.jk_model.specs.declared.class_file.MemberInfo.{MemberInfo}
use Rattle.jk_model.specs.declared.class_file.PoolEntry.{PoolEntry}
use Rattle.jk_model.specs.declared.descriptors.MethodType.{MethodType}
use Rattle.jk_model.specs.Descriptors.{IsMethodText, method_slots}
use Rattle.jk_model.specs.Flags.{STATIC, has}
use Rattle.jk_model_classes.specs.MemberDescriptors.{MAX_SLOTS, HasMethodType}
use Rattle.jk_model_classes.specs.Members.{TextAt, IsInit, IsClinit}
use Rattle.class_lemmas.proofs.OneText.{one_text}
use Rattle.class_rules.specs.declared.texts.TextFacts.{TextFacts}
use Rattle.class_rules.specs.declared.texts.Word.TheVariants.{NothingToNothing}
use Rattle.class_rules.specs.KnownPools.{IsTextKnown}
use Rattle.class_rules.specs.MethodDescriptors.{FitsMethod}
use Rattle.class_rules.specs.Texts.{AreFactsOf, word_text}
use Rattle.class_rules.proofs.Decisions.{denied}

module _ (c : ClassFile) (method : MemberInfo) where
  few_slots : (t : MethodType) → HasMethodType c method t → (IsClinit c method → ⊥) → method_slots t (not (has method.flags STATIC)) ≤ MAX_SLOTS
  few_slots t h plain =
      elim h.counted [
        | inl k ↦ absurd (plain k.0)
        | inr k ↦ subst (λ (f : ℕ). method_slots t (not (has f STATIC)) ≤ MAX_SLOTS) k.1 h.few
      ]

  few_static : (t : MethodType) → HasMethodType c method t → IsClinit c method → method_slots t false ≤ MAX_SLOTS
  few_static t h clinit =
      elim h.counted [
        | inl k ↦ subst (λ (f : ℕ). method_slots t (not (has f STATIC)) ≤ MAX_SLOTS) k.1 h.few
        | inr k ↦ absurd (k.0 clinit)
      ]

  text_of : (t : MethodType) (units : List ℕ) → HasMethodType c method t → TextAt c.pool method.descriptor units → IsMethodText units t
  text_of t units h at =
      subst (λ (u : List ℕ). IsMethodText u t) (one_text c.pool method.descriptor h.text.0 units h.text.1 at) h.text.2

  module _ (facts : TextFacts) (init b : Bool) (known : IsTextKnown c.pool method.descriptor (Some facts)) (is_init : IsTrue init ↔ IsInit c method) where
    plain_types : (static : Bool) → static ≡ has method.flags STATIC → (IsClinit c method → ⊥)
        → ((pool : List PoolEntry) (units : List ℕ) → AreFactsOf pool units facts → IsTrue b ↔ ((t : MethodType) × FitsMethod (not static) init units t))
        → IsTrue b ↔ ((t : MethodType) × HasMethodType c method t)
    plain_types static same plain says =
        let here = says c.pool known.0 known.2 in (
          λ e.
              let (t, (text, (few, none))) = here.0 e in (
                t,
                record {
                  text = (known.0, known.1, text);
                  flags = method.flags;
                  counted = inr (plain, refl);
                  few = subst (λ (s : Bool). method_slots t (not s) ≤ MAX_SLOTS) same few;
                  init = λ i. none (is_init.1 i);
                  clinit = λ k. absurd (plain k);
                },
              ),
          λ (t, h).
              here.1 (
                t,
                (
                  text_of t known.0 h known.1,
                  (subst (λ (s : Bool). method_slots t (not s) ≤ MAX_SLOTS) (sym same) (few_slots t h plain), λ i. h.init (is_init.0 i)),
                ),
              ),
        )

    clinit_types : IsClinit c method
        → ((pool : List PoolEntry) (units : List ℕ) → AreFactsOf pool units facts
        → IsTrue b ↔ (((t : MethodType) × FitsMethod false init units t) × (units ≡ word_text NothingToNothing)))
        → IsTrue b ↔ ((t : MethodType) × HasMethodType c method t)
    clinit_types clinit says =
        let here = says c.pool known.0 known.2 in (
          λ e.
              let ((t, (text, (few, none))), word) = here.0 e in (
                t,
                record {
                  text = (known.0, known.1, text);
                  flags = STATIC;
                  counted = inl (clinit, refl);
                  few = few;
                  init = λ i. none (is_init.1 i);
                  clinit = λ k. subst (λ (u : List ℕ). TextAt c.pool method.descriptor u) word known.1;
                },
              ),
          λ (t, h).
              here.1 (
                (t, (text_of t known.0 h known.1, (few_static t h clinit, λ i. h.init (is_init.0 i)))),
                one_text c.pool method.descriptor known.0 (word_text NothingToNothing) known.1 (h.clinit clinit),
              ),
        )

  -- a method other than `<clinit>`
  pub plain_type : (facts : TextFacts) (init static b : Bool) → IsTextKnown c.pool method.descriptor (Some facts) → IsTrue init ↔ IsInit c method
      → static ≡ has method.flags STATIC → (IsClinit c method → ⊥)
      → ((pool : List PoolEntry) (units : List ℕ) → AreFactsOf pool units facts → IsTrue b ↔ ((t : MethodType) × FitsMethod (not static) init units t))
      → IsTrue (not b) ↔ (((t : MethodType) × HasMethodType c method t) → ⊥)
  plain_type facts init static b known is_init same plain says = denied b (plain_types facts init b known is_init static same plain says)

  -- `<clinit>`
  pub clinit_type : (facts : TextFacts) (init b : Bool) → IsTextKnown c.pool method.descriptor (Some facts) → IsTrue init ↔ IsInit c method
      → IsClinit c method
      → ((pool : List PoolEntry) (units : List ℕ) → AreFactsOf pool units facts
      → IsTrue b ↔ (((t : MethodType) × FitsMethod false init units t) × (units ≡ word_text NothingToNothing)))
      → IsTrue (not b) ↔ (((t : MethodType) × HasMethodType c method t) → ⊥)
  clinit_type facts init b known is_init clinit says = denied b (clinit_types facts init b known is_init clinit says)
