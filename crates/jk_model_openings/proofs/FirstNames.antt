-- The names of a list of standing throwables differ.
use Rattle.std.proofs.Common.{◌≡◌, ℕ, zero, suc, ◌+◌, List, [], ◌∷◌, Option, Some, None, slice_get, refl, sym, ap, ◌∙◌, arith}
use Rattle.std.proofs.lemmas.Option.{none-some, same_Some}
use Rattle.jk_model.specs.declared.steps.Standing.{Standing}
use Rattle.jk_model_domains.specs.Objects.{NamedObject}
use Rattle.jk_model_openings.specs.Examples.{all_standing, first_heap, standing_from}

-- the name is the place, counted from the first name on
name_from : (n : ℕ) (all : List Standing) (i : ℕ) (e : NamedObject) → slice_get (standing_from n all) i ≡ Some e → e.name ≡ n + i
name_from n [] i e at = absurd (none-some e at)
name_from n (s ∷ more) zero e at = ap (λ (x : NamedObject). x.name) (sym (same_Some _ e at)) ∙ omega arith
name_from n (s ∷ more) (suc i) e at = name_from (1 + n) more i e at ∙ omega arith

name_in_heap : (i : ℕ) (e : NamedObject) → slice_get first_heap i ≡ Some e → e.name ≡ i
name_in_heap zero e at = ap (λ (x : NamedObject). x.name) (sym (same_Some _ e at))
name_in_heap (suc i) e at = name_from 1 all_standing i e at ∙ omega arith

pub names_differ : (i j : ℕ) (a b : NamedObject) → slice_get first_heap i ≡ Some a → slice_get first_heap j ≡ Some b → a.name ≡ b.name → i ≡ j
names_differ i j a b first second same = sym (name_in_heap i a first) ∙ same ∙ name_in_heap j b second
