-- The machine without domains is sealed, and no call is open in it.
use Rattle.std.proofs.Common.{◌≡◌, ℕ, List, [], Option, Some, slice_get, sym, subst, arith}
use Rattle.std.proofs.lemmas.Option.{none-some}
use Rattle.jk_model_machine_state.specs.Machines.{IsFirstMachine, Machine}
use Rattle.jk_model_runs.specs.Events.{IsWhole}
use Rattle.list_lemmas.proofs.ItemsOfLists.{none_in}

nowhere : {X : Type 0} (xs : List X) → xs ≡ [] → (i : ℕ) (x : X) → slice_get xs i ≡ Some x → ⊥
nowhere {X = X} xs none i x e = none-some x (subst (λ (ys : List X). slice_get ys i ≡ Some x) none e)

module _ (heap_pages stack_pages : Option ℕ) (m : Machine) (first : IsFirstMachine heap_pages stack_pages m) where
  -- a machine that differs from this one in having a list that is empty by itself
  abbrev bare : Machine
  bare = record m { domains = []; names = []; threads = []; next_thread = 1; next_segment = 1 }

  bare_whole : IsWhole bare
  bare_whole = (
    record {
      domains = record {
        numbered = λ i d e. absurd (nowhere [] (λ k. []) i d e);
        few = omega arith;
        names_differ = λ i j a b at bt live alive same. absurd (nowhere [] (λ k. []) i a at);
        insides = λ d inside on is. absurd (none_in d [] (λ k. []) on);
        chunks = λ d on. absurd (none_in d [] (λ k. []) on);
        budgets = λ d on. absurd (none_in d [] (λ k. []) on);
        started = λ d on. absurd (none_in d [] (λ k. []) on);
      };
      heap_places = record {
        placed = λ d pages on is. absurd (none_in d [] (λ k. []) on);
        apart = λ a b p q one other differ has. absurd (none-some p has);
      };
      stack_places = record {
        placed = λ d pages on is. absurd (none_in d [] (λ k. []) on);
        apart = λ a b p q one other differ has. absurd (none-some p has);
      };
      capabilities = record {
        owner = λ d on. absurd (none_in d [] (λ k. []) on);
        count = λ d on. absurd (none_in d [] (λ k. []) on);
        chained = λ i d e. absurd (nowhere [] (λ k. []) i d e);
        within = λ d on. absurd (none_in d [] (λ k. []) on);
        few = omega arith;
        remote = λ d c on stands made. absurd (none_in d [] (λ k. []) on);
        targets = λ d c on made revoked. absurd (none_in d [] (λ k. []) on);
      };
      names = record {
        given_out = λ n on. absurd (none_in n [] (λ k. []) on);
        binders = λ n on. absurd (none_in n [] (λ k. []) on);
        short = λ n on. absurd (none_in n [] (λ k. []) on);
        differ = λ i j a b at bt same. absurd (nowhere [] (λ k. []) i a at);
        within = λ d on. absurd (none_in d [] (λ k. []) on);
      };
      threads = record {
        segments = λ thread on. absurd (none_in thread [] (λ k. []) on);
        rise = λ i j a b lower at bt. absurd (nowhere [] (λ k. []) i a at);
        before = λ thread on. absurd (none_in thread [] (λ k. []) on);
        first_numbers = (omega arith, omega arith);
        segments_before = λ thread s on of. absurd (none_in thread [] (λ k. []) on);
        segments_differ = λ i j k l a b s r at bt st rt same. absurd (nowhere [] (λ k. []) i a at);
      };
      tasks = record {
        given_out = λ d inside a n on is there. absurd (none_in d [] (λ k. []) on);
        own = λ d inside a thread s on is there lives of. absurd (none_in d [] (λ k. []) on);
      };
      initialisers = record {
        one = λ thread d inside c lives on is. absurd (none_in d [] (λ k. []) on);
        live = λ d inside c t on is state. absurd (none_in d [] (λ k. []) on);
      };
    },
    record { segments = λ thread on. absurd (none_in thread [] (λ k. []) on) },
  )

  pub first_whole : IsWhole m
  first_whole =
      subst IsWhole
      (λ i. record m {
        domains = sym first.no_domains i;
        names = sym first.no_names i;
        threads = sym first.no_threads i;
        next_thread = sym first.threads_from i;
        next_segment = sym first.segments_from i;
      }) bare_whole
