-- The buffer is the object 1, and its text the object 2.
use Rattle.std.proofs.Common.{◌≡◌, ℕ, [], ◌∷◌, inl, inr, refl, ◌∙◌}
use Rattle.jk_model.specs.declared.values.Value.TheVariants as Held
use Rattle.jk_model_domains.specs.Objects.{Plain}
use Rattle.jk_model_heaps.specs.Heaps.{with_object}
use Rattle.jk_model_heaps.specs.SystemClasses.{STRING_BUFFER}
use Rattle.jk_model_heaps.specs.Workings.{with_heap}
use Rattle.jk_model_system_rows.specs.Answers.{gives_nothing, with_answer}
use Rattle.jk_model_system_rows.specs.Examples.{new_buffer}
use Rattle.jk_model_system_rows.proofs.OneHolder.{that_holder}
use Rattle.jk_model_system_rows.proofs.examples.buffer_is_begun_with_a_text.Goals as goal

no_null : (a : ℕ) → Held.Obj a ≡ Held.Null → ⊥
no_null a e = cc

pub returns-clause-null : goal.returns-clause-null
returns-clause-null c = λ done begins. elim begins [
  | inl (null, fails) ↦ fails
  | inr (some, sets) ↦ absurd (some refl)
]

pub returns-clause-text : goal.returns-clause-text
returns-clause-text c = λ done begins. elim begins [
  | inl (null, fails) ↦ absurd (no_null 2 null)
  | inr (some, (h, sets)) ↦
      let that = that_holder new_buffer.heap 1 STRING_BUFFER Held.Null [] refl h in
      sets
      ∙ (λ j. with_answer
      (with_heap new_buffer (with_object (that.name j) (Plain (that.class j) (Held.Obj 2 ∷ that.others j)) new_buffer.heap)) gives_nothing)
]
