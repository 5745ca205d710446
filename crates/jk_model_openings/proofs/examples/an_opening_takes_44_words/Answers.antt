-- The words of nine objects; no class has a part, and each object is one that stands.
use Rattle.std.proofs.Common.{◌≡◌, ℕ, ◌≤◌, [], ◌∷◌, Some, None, Contains, slice_get, inl, inr, refl, sym, subst, arith}
use Rattle.std.proofs.lemmas.Option.{none-some}
use Rattle.jk_model.specs.declared.steps.Standing.{Standing}
use Rattle.jk_model.specs.declared.steps.Standing.TheVariants as Stands
use Rattle.jk_model_domains.specs.Objects.{NamedObject, object_named}
use Rattle.jk_model_domains.specs.OwnStates.{IsOwnState}
use Rattle.jk_model_heaps.specs.ExampleClasses.{system_records}
use Rattle.jk_model_heaps.specs.Heaps.{Makes, heap_words}
use Rattle.jk_model_heaps.specs.Throwables.{IsStanding, fresh_throwable, standing_class}
use Rattle.jk_model_openings.specs.Examples.{first_heap, first_inside}
use Rattle.jk_model_openings.specs.OpenedDomains.{IsFirstOwn, IsOpeningName}
use Rattle.jk_model_openings.proofs.FirstNames.{names_differ}
use Rattle.list_lemmas.proofs.ItemsOfLists.{Contains-none, each-of}
use Rattle.jk_model_openings.proofs.examples.an_opening_takes_44_words.Goals as goal

takes : heap_words system_records first_heap ≡ 44
takes = refl

own_state : IsOwnState system_records [] first_inside.own
own_state = record {
  each = λ e h. absurd (Contains-none e h);
  all = λ c r part. absurd (Contains-none (record { name = part.0.0; class = c }) part.0.1);
  classes_differ = λ i j a b first second same. absurd (none-some a first);
  literals_differ = λ i j a b first second same. absurd (none-some a first);
  standing = refl;
}

first_own : IsFirstOwn system_records [] first_inside.own
first_own = record {
  state = own_state;
  untouched = λ e h. absurd (Contains-none e h);
  statics = λ e r h is. absurd (Contains-none e h);
  no_literals = refl;
}

made : Makes system_records 44 [] first_heap first_heap
made = record { fresh = λ e h. refl; differ = names_differ; fits = subst (λ n. n ≤ 44) (sym takes) (omega arith); grown = refl }

stands : (s : Standing) → (a : ℕ) × IsStanding first_inside.own s a
    × (object_named first_heap a ≡ Some (fresh_throwable system_records (standing_class s)))
stands Stands.OutOfMemoryError = (1, refl, refl)
stands Stands.StackOverflowError = (2, refl, refl)
stands Stands.Revoked = (3, refl, refl)
stands Stands.Quota = (4, refl, refl)
stands Stands.NotCopiable = (5, refl, refl)
stands Stands.Remote = (6, refl, refl)
stands Stands.ThreadDeath = (7, refl, refl)
stands Stands.Security = (8, refl, refl)

pub returns-clause-words : goal.returns-clause-words
returns-clause-words c = takes

pub returns-clause-opens : goal.returns-clause-opens
returns-clause-opens c = record {
  own = first_own;
  makes = made;
  out = refl;
  standing = stands;
  nothing_else = λ e h. each-of (λ (f : NamedObject). IsOpeningName first_inside.own f.name) first_heap e (
    inl refl,
    (
      inr (Stands.OutOfMemoryError, refl),
      (
        inr (Stands.StackOverflowError, refl),
        (
          inr (Stands.Revoked, refl),
          (
            inr (Stands.Quota, refl),
            (
              inr (Stands.NotCopiable, refl),
              (
                inr (Stands.Remote, refl),
                (
                  inr (Stands.ThreadDeath, refl),
                  (inr (Stands.Security, refl), tt),
                ),
              ),
            ),
          ),
        ),
      ),
    ),
  ) h;
}

pub returns-clause-not_less : goal.returns-clause-not_less
returns-clause-not_less c = λ opening. omega (arith, subst (λ n. n ≤ 43) takes opening.makes.fits)
