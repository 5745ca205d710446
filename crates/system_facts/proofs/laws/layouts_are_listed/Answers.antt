-- By the lemmas on listed fields.
use Rattle.std.proofs.Common.{◌≡◌, ℕ, [], ◌∷◌, refl, subst}
use Rattle.std.proofs.lemmas.Option.{same_Some}
use Rattle.system_facts.specs.SystemLayouts.{listed_fields, text_field}
use Rattle.system_facts.proofs.FieldsListed.{fields_listed, message_first}
use Rattle.system_facts.proofs.laws.layouts_are_listed.Goals as goal

pub returns-clause-layouts : goal.returns-clause-layouts
returns-clause-layouts g = λ classes c ordered system low. fields_listed classes ordered system c low

pub returns-clause-object : goal.returns-clause-object
returns-clause-object g = λ n e. subst (λ (k : ℕ). listed_fields k ≡ []) (same_Some 0 n e) refl

pub returns-clause-string : goal.returns-clause-string
returns-clause-string g = λ n e. subst (λ (k : ℕ). listed_fields k ≡ []) (same_Some 3 n e) refl

pub returns-clause-string_buffer : goal.returns-clause-string_buffer
returns-clause-string_buffer g = λ n e. subst (λ (k : ℕ). listed_fields k ≡ text_field k ∷ []) (same_Some 4 n e) refl

pub returns-clause-string_builder : goal.returns-clause-string_builder
returns-clause-string_builder g = λ n e. subst (λ (k : ℕ). listed_fields k ≡ text_field k ∷ []) (same_Some 5 n e) refl

pub returns-clause-print_stream : goal.returns-clause-print_stream
returns-clause-print_stream g = λ n e. subst (λ (k : ℕ). listed_fields k ≡ []) (same_Some 6 n e) refl

pub returns-clause-throwable : goal.returns-clause-throwable
returns-clause-throwable g = λ n e. subst (λ (k : ℕ). listed_fields k ≡ text_field k ∷ []) (same_Some 9 n e) refl

pub returns-clause-messages : goal.returns-clause-messages
returns-clause-messages g = λ classes c throwable ordered system named below. message_first classes ordered system c throwable named below
