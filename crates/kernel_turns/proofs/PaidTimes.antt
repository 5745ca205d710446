-- What several steps that a domain pays leave of what domains share.
use Rattle.std.proofs.Common.{◌≡◌, ◌==◌, ℕ, zero, suc, ◌-◌, ◌≤◌, Bool, true, false, cond, find, List, [], ◌∷◌, map, Option, Some, None, option_map, refl, sym, ap, ◌∙◌, arith}
use Rattle.std.proofs.lemmas.Option.{same_Some}
use Rattle.jk_model.specs.declared.identifiers.DomainId.{DomainId}
use Rattle.jk_model_sharing.specs.SharedStates.{SharedDomain, SharedState, caps_of, spent}
use Rattle.thread_segments.specs.Answers.{spent_steps}
use Rattle.thread_segments.specs.Asked.{MaySpend}
use Rattle.kernel_turns.specs.PaidSteps.{HasSteps, spent_times}

module _ (d : DomainId) where
  abbrev paid_one : SharedDomain → SharedDomain
  paid_one e = record e { steps_left = option_map (λ (n : ℕ). n - 1) e.steps_left }

  abbrev pays : SharedDomain → SharedDomain
  pays e = cond (e.number.0 == d.0) (paid_one e) e

  abbrev is_it : SharedDomain → Bool
  is_it e = e.number.0 == d.0

  paid_found : (ds : List SharedDomain) (e : SharedDomain) → find is_it ds ≡ Some e → find is_it (map pays ds) ≡ Some (paid_one e)
  paid_found [] e is = absurd cc
  paid_found (x ∷ ds) e is = step (is_it x) refl is (paid_found ds e)
    where
      step : (b : Bool) → is_it x ≡ b → cond b (Some x) (find is_it ds) ≡ Some e
          → (find is_it ds ≡ Some e → find is_it (map pays ds) ≡ Some (paid_one e))
          → cond (is_it (cond b (paid_one x) x)) (Some (cond b (paid_one x) x)) (find is_it (map pays ds)) ≡ Some (paid_one e)
      step true same found rest =
          ap (λ (b : Bool). cond b (Some (paid_one x)) (find is_it (map pays ds))) same
          ∙ ap (λ (y : SharedDomain). Some (paid_one y)) (same_Some x e found)
      step false same found rest = ap (λ (b : Bool). cond b (Some x) (find is_it (map pays ds))) same ∙ rest found

  same_caps : (ds : List SharedDomain) → map (λ (e : SharedDomain). e.caps) (map pays ds) ≡ map (λ (e : SharedDomain). e.caps) ds
  same_caps [] = refl
  same_caps (x ∷ ds) = (let rest = same_caps ds in λ i. by (is_it x) i ∷ rest i)
    where
      by : (b : Bool) → (cond b (paid_one x) x).caps ≡ x.caps
      by true = refl
      by false = refl

pub caps_spent : (d : DomainId) (s : SharedState) → caps_of (spent d s) ≡ caps_of s
caps_spent d s = same_caps d s.domains

-- ---- A live domain that has so many steps left.

pub may_spend : (n : ℕ) (d : DomainId) (s : SharedState) → HasSteps (suc n) d s → MaySpend s d
may_spend n d s has e there none =
    let same : has.entry ≡ e = same_Some has.entry e (sym has.is_there ∙ there) in
    let few : suc n ≤ 0 = has.enough 0 (ap (λ (x : SharedDomain). x.steps_left) same ∙ none) in
    absurd (omega (arith, few))

one_fewer : (n : ℕ) (o : Option ℕ) → ((left : ℕ) → o ≡ Some left → suc n ≤ left) → (left : ℕ) → option_map (λ (k : ℕ). k - 1) o ≡ Some left → n ≤ left
one_fewer n None enough left is = absurd cc
one_fewer n (Some k) enough left is =
    let had : suc n ≤ k = enough k refl in
    let now : k - 1 ≡ left = same_Some (k - 1) left is in
    omega (arith, had, now)

pub one_paid : (n : ℕ) (d : DomainId) (s : SharedState) → HasSteps (suc n) d s → HasSteps n d (spent d s)
one_paid n d s has = record {
  entry = paid_one d has.entry;
  is_there = paid_found d s.domains has.entry has.is_there;
  live = has.live;
  enough = one_fewer n has.entry.steps_left has.enough;
}

-- ---- Several at once are as many one after another.

less_in_turn : (n : ℕ) (o : Option ℕ) → option_map (λ (k : ℕ). k - n) (option_map (λ (k : ℕ). k - 1) o) ≡ option_map (λ (k : ℕ). k - suc n) o
less_in_turn n None = refl
less_in_turn n (Some k) = ap Some (let both : (k - 1) - n ≡ k - suc n = omega arith in both)

less_none : (o : Option ℕ) → option_map (λ (k : ℕ). k - 0) o ≡ o
less_none None = refl
less_none (Some k) = ap Some (let same : k - 0 ≡ k = omega arith in same)

module _ (d : DomainId) where
  abbrev less : ℕ → SharedDomain → SharedDomain
  less n e = record e { steps_left = option_map (λ (k : ℕ). k - n) e.steps_left }

  abbrev pays_many : ℕ → SharedDomain → SharedDomain
  pays_many n e = cond (e.number.0 == d.0) (less n e) e

  none_by : (b : Bool) (e : SharedDomain) → cond b (less 0 e) e ≡ e
  none_by true e = ap (λ (o : Option ℕ). record e { steps_left = o }) (less_none e.steps_left)
  none_by false e = refl

  pays_none : (ds : List SharedDomain) → map (pays_many 0) ds ≡ ds
  pays_none [] = refl
  pays_none (e ∷ ds) = λ i. none_by (e.number.0 == d.0) e i ∷ pays_none ds i

  more_by : (n : ℕ) (b : Bool) (e : SharedDomain) → e.number.0 == d.0 ≡ b
      → cond ((cond b (less 1 e) e).number.0 == d.0) (less n (cond b (less 1 e) e)) (cond b (less 1 e) e) ≡ cond b (less (suc n) e) e
  more_by n true e is =
      ap (λ (c : Bool). cond c (less n (less 1 e)) (less 1 e)) is
      ∙ ap (λ (o : Option ℕ). record e { steps_left = o }) (less_in_turn n e.steps_left)
  more_by n false e is = ap (λ (c : Bool). cond c (less n e) e) is

  pays_more : (n : ℕ) (ds : List SharedDomain) → map (pays_many n) (map (pays_many 1) ds) ≡ map (pays_many (suc n)) ds
  pays_more n [] = refl
  pays_more n (e ∷ ds) = λ i. more_by n (e.number.0 == d.0) e refl i ∷ pays_more n ds i

  pub all_at_once : (n : ℕ) (s : SharedState) → spent_steps n d s ≡ spent_times n d s
  all_at_once zero s = ap (λ (ds : List SharedDomain). record s { domains = ds }) (pays_none s.domains)
  all_at_once (suc n) s =
      ap (λ (ds : List SharedDomain). record s { domains = ds }) (sym (pays_more n s.domains)) ∙ all_at_once n (spent d s)
