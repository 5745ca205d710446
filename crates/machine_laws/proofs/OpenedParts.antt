-- Where a domain is opened, the domains, their capabilities and the names that are bound stay sealed.
use Rattle.std.proofs.Common.{◌≡◌, ℕ, ◌+◌, ◌==◌, ◌<◌, ◌≤◌, ◌⊎◌, Bool, true, false, not, List, [], ◌∷◌, length, take, map, filter, Contains, Option, Some, None, slice_get, inl, inr, refl, sym, ap, subst, ◌∙◌, arith}
use Rattle.std.specs.Prelude.{◌&&◌, sum_by}
use Rattle.std.proofs.lemmas.Bool.{cases_lt}
use Rattle.std.proofs.lemmas.List.{take-append-le, take_all, length-append}
use Rattle.std.proofs.lemmas.List.Sums.{sum_by-append, sum_by-cons}
use Rattle.std.proofs.lemmas.Option.{same_Some, slice_get_within}
use Rattle.list_lemmas.proofs.ItemsByPlace.{item_there, old_or_last, old_or_new, take_front}
use Rattle.list_lemmas.proofs.ItemsOfLists.{Contains-at, Contains-here, Contains-none}
use Rattle.list_lemmas.proofs.ItemsThatPass.{filter_short}
use Rattle.jk_model.specs.Capabilities.{last_number}
use Rattle.jk_model.specs.declared.identifiers.ClassId.{ClassId}
use Rattle.jk_model_classes.specs.declared.records.ClassRecord.{ClassRecord}
use Rattle.jk_model_classes.specs.Classes.{HasClass}
use Rattle.jk_model_classes.specs.Stubs.{ImplementsRemote}
use Rattle.jk_model_classes.specs.Worlds.{WorldRecord}
use Rattle.jk_model_heaps.specs.Capabilities.{CapRange, Capability, IsGivenOut}
use Rattle.jk_model_heaps.specs.Workings.{Inside}
use Rattle.jk_model_machine_state.specs.Machines.{DomainState, IsLiveDomain, Machine, Thread, caps_of, chunks_used, is_live_domain, started_in}
use Rattle.jk_model_openings.specs.OpenedDomains.{Admission}
use Rattle.jk_model_runs.specs.Sealed.{AreSealedCapabilities, AreSealedDomains, AreSealedNames, is_stand_in, numbers_before, surroundings}
use Rattle.jk_model_sealing.specs.SealedInsides.{IsOfClass, IsSealedInside}
use Rattle.jk_model_sharing.specs.BoundNames.{BoundName, count_bound_by}
use Rattle.jk_model_sharing.specs.CapabilityCalls.{count_numbers}
use Rattle.class_growth.proofs.MoreClasses.{has_class-still, implements-still}
use Rattle.machine_laws.proofs.InsidesStaySealed.{given_out_still}
use Rattle.machine_laws.proofs.OpenedMachines.{IsOpened, d, each_domain, home_still, new, new_there, widens}
use Rattle.machine_laws.proofs.OpenedThreads.{fails, no_chunks, none_pass, none_started}
use Rattle.machine_laws.proofs.OpeningsSealed.{opening_sealed}
use Rattle.machine_laws.proofs.WidenedSurroundings.{inside_widened}

-- ---- What a number of classes that are there tells of stand-ins.

and_false : (b : Bool) → (b && false) ≡ false
and_false true = refl
and_false false = refl

-- a domain whose capabilities are of classes that are there
abbrev with_made : DomainState → List Capability → DomainState
with_made e made = record e { caps = record e.caps { made = made } }

pub no_stand_in : (classes : List ClassRecord) (e : DomainState) (made : List Capability)
    → ((c : Capability) → Contains made c → HasClass classes c.class) → is_stand_in classes (with_made e made) ≡ false
no_stand_in classes e [] there = and_false (not (is_live_domain e))
no_stand_in classes e (c ∷ []) there =
    let at = item_there classes c.class.0 (there c (Contains-here c [])) in rw at.1 (and_false (not (is_live_domain e)))
no_stand_in classes e (c ∷ b ∷ made) there = and_false (not (is_live_domain e))

module _ {m : Machine} {w : WorldRecord} {a : Admission} {inside : Inside} (o : IsOpened m w a inside) where
  -- ---- Domains.

  number_at : (i : ℕ) (e : DomainState) → slice_get (new o).domains i ≡ Some e → e.number.0 ≡ i
  number_at i e at = elim (old_or_new m.domains (d o) i e at) [
    | inl was ↦ o.sealed.domains.numbered i e was
    | inr last ↦ ap (λ (x : DomainState). x.number.0) last.1 ∙ sym last.0
  ]

  few_domains : length (filter (λ (e : DomainState). not (is_stand_in (new o).classes e)) (new o).domains) ≤ 65535
  few_domains =
      let short = filter_short (λ (e : DomainState). not (is_stand_in (new o).classes e)) (new o).domains in
      let many = length-append m.domains (d o ∷ []) in
      elim (cases_lt (length m.domains) 65535) [ inl below ↦ omega (arith, short, many, below) | inr over ↦ absurd (o.few over) ]

  names_apart : (i j : ℕ) (x y : DomainState) → slice_get (new o).domains i ≡ Some x → slice_get (new o).domains j ≡ Some y → IsLiveDomain x
      → IsLiveDomain y → x.name ≡ y.name → i ≡ j
  names_apart i j x y first second live_x live_y same = by (old_or_new m.domains (d o) i x first) (old_or_new m.domains (d o) j y second)
    where
      by : (slice_get m.domains i ≡ Some x) ⊎ ((i ≡ length m.domains) × (x ≡ d o))
          → (slice_get m.domains j ≡ Some y) ⊎ ((j ≡ length m.domains) × (y ≡ d o)) → i ≡ j
      by (inl p) (inl q) = o.sealed.domains.names_differ i j x y p q live_x live_y same
      by (inl p) (inr q) = absurd (o.not_live x (Contains-at m.domains i x p) live_x (same ∙ ap (λ (e : DomainState). e.name) q.1))
      by (inr p) (inl q) = absurd (o.not_live y (Contains-at m.domains j y q) live_y (sym same ∙ ap (λ (e : DomainState). e.name) p.1))
      by (inr p) (inr q) = p.0 ∙ sym q.0

  inside_there : (e : DomainState) (i : Inside) → Contains (new o).domains e → e.inside ≡ Some i
      → IsSealedInside (surroundings (new o) e) e.quotas.heap i
  inside_there e i on =
      each_domain o (λ e. e.inside ≡ Some i → IsSealedInside (surroundings (new o) e) e.quotas.heap i)
      (λ e was is. inside_widened (surroundings m e) (surroundings (new o) e) (widens o e) o.sound.codes (o.sound.tables e was) e.quotas.heap i
      (o.sealed.domains.insides e i was is))
      (λ is. subst (IsSealedInside (surroundings (new o) (d o)) a.quotas.heap) (same_Some inside i is)
      (opening_sealed (surroundings (new o) (d o)) a.quotas.heap inside o.sound_then.codes (o.sound_then.tables (d o) (new_there o)) o.opening)) e on

  abbrev HasBudget : DomainState → Type 0
  HasBudget e =
      ((e.quotas.steps ≡ None) × (e.steps_left ≡ None))
      ⊎ ((most : ℕ) × (left : ℕ) × (e.quotas.steps ≡ Some most) × (e.steps_left ≡ Some left) × (left ≤ most))

  budget_by : (steps : Option ℕ) → a.quotas.steps ≡ steps → HasBudget (d o)
  budget_by None is = inl (is, is)
  budget_by (Some n) is = inr (n, n, is, is, omega arith)

  pub opened_domains : AreSealedDomains (new o)
  opened_domains = let h = o.sealed.domains in record {
    numbered = number_at;
    few = few_domains;
    names_differ = names_apart;
    insides = inside_there;
    chunks = each_domain o (λ e. chunks_used m e.number ≤ e.quotas.chunks) h.chunks (let none = no_chunks o in omega (arith, none));
    budgets = each_domain o HasBudget h.budgets (budget_by a.quotas.steps refl);
    started = each_domain o (λ e. started_in m e.number ≤ e.quotas.threads) h.started (let none = none_started o in omega (arith, none));
  }

  -- ---- Capabilities.

  abbrev count_of : DomainState → ℕ
  count_of e = e.caps.count

  counted_alike : (es : List DomainState) → count_numbers (map (λ (e : DomainState). e.caps) es) ≡ sum_by count_of es
  counted_alike [] = refl
  counted_alike (e ∷ es) =
      sum_by-cons (λ (r : CapRange). r.count) e.caps (map (λ (x : DomainState). x.caps) es)
      ∙ ap (λ (n : ℕ). e.caps.count + n) (counted_alike es) ∙ sym (sum_by-cons count_of e es)

  chained_at : (i : ℕ) (e : DomainState) → slice_get (new o).domains i ≡ Some e → e.caps.first ≡ 1 + numbers_before (new o) i
  chained_at i e at = elim (old_or_last m.domains (d o) i e at) [
    | inl was ↦
        let short : i ≤ length m.domains = omega (arith, was.0) in
        o.sealed.capabilities.chained i e was.1
        ∙ ap (λ (es : List DomainState). 1 + sum_by count_of es) (sym (take-append-le i m.domains (d o ∷ []) short))
    | inr last ↦
        ap (λ (x : DomainState). x.caps.first) last.1
        ∙ ap (λ (n : ℕ). 1 + n) (counted_alike m.domains)
        ∙ ap (λ (es : List DomainState). 1 + sum_by count_of es) (sym (take_front m.domains (d o ∷ [])))
        ∙ ap (λ (n : ℕ). 1 + numbers_before (new o) n) (sym last.0)
  ]

  few_numbers : numbers_before (new o) (length (new o).domains) ≤ last_number
  few_numbers =
      let all : take (length (new o).domains) (new o).domains ≡ (new o).domains = take_all (length (new o).domains) (new o).domains (omega arith) in
      let sum : numbers_before (new o) (length (new o).domains) ≡ sum_by count_of m.domains + a.quotas.caps =
      ap (sum_by count_of) all ∙ sum_by-append count_of m.domains (d o ∷ [])
      ∙ ap (λ (n : ℕ). sum_by count_of m.domains + n) (sum_by-cons count_of (d o) [] ∙ omega arith) in
      let alike : count_numbers (caps_of m) ≡ sum_by count_of m.domains = counted_alike m.domains in
      elim (cases_lt last_number (count_numbers (caps_of m) + a.quotas.caps)) [
        | inl over ↦ absurd (o.numbers over)
        | inr within ↦ subst (λ (n : ℕ). n ≤ last_number) (ap (λ (n : ℕ). n + a.quotas.caps) alike ∙ sym sum) within
      ]

  remote_still : (c : ClassId) → HasClass m.classes c → ImplementsRemote m.classes c → ImplementsRemote (new o).classes c
  remote_still c there (remote, is, implements) =
      subst (λ (classes : List ClassRecord). ImplementsRemote classes c) (sym o.same)
      (remote, is, implements-still m.classes o.more o.sound.codes.ordered c there remote implements)

  remote_there : (e : DomainState) (c : Capability) → Contains (new o).domains e → Contains e.caps.made c
      → ImplementsRemote (new o).classes c.class
  remote_there e c on =
      each_domain o (λ e. Contains e.caps.made c → ImplementsRemote (new o).classes c.class)
      (λ e was made. remote_still c.class (o.grows.made_there e c was made)
      (o.sealed.capabilities.remote e c was (no_stand_in m.classes e e.caps.made (λ b of. o.grows.made_there e b was of)) made))
      (λ made. absurd (Contains-none c made)) e on

  abbrev HasTarget : DomainState → Capability → Type 0
  HasTarget e c = (i : Inside) × (e.inside ≡ Some i) × IsOfClass i.heap c.target c.class

  target_there : (e : DomainState) (c : Capability) → Contains (new o).domains e → Contains e.caps.made c → c.revoked ≡ false → HasTarget e c
  target_there e c on =
      each_domain o (λ e. Contains e.caps.made c → c.revoked ≡ false → HasTarget e c) (λ e was. o.sealed.capabilities.targets e c was)
      (λ made valid. absurd (Contains-none c made)) e on

  pub opened_capabilities : AreSealedCapabilities (new o)
  opened_capabilities = let h = o.sealed.capabilities in record {
    owner = each_domain o (λ e. e.caps.owner ≡ e.number) h.owner refl;
    count = each_domain o (λ e. e.caps.count ≡ e.quotas.caps) h.count refl;
    chained = chained_at;
    within = each_domain o (λ e. length e.caps.made ≤ e.caps.count) h.within (omega arith);
    few = few_numbers;
    remote = λ e c on no_stand made. remote_there e c on made;
    targets = target_there;
  }

  -- ---- Bound names.

  binder_low : (n : BoundName) → Contains m.names n → n.binder.0 < length m.domains
  binder_low n on = let h = o.sealed.names.binders n on in slice_get_within m.domains n.binder.0 h.domain h.is_domain

  given_out_then : (n : BoundName) → Contains m.names n → IsGivenOut (caps_of (new o)) n.cap
  given_out_then n on =
      let wide = (widens o (d o)) in
      subst (λ (caps : List CapRange). IsGivenOut caps n.cap) (sym wide.caps)
      (given_out_still (caps_of m) wide.ranges n.cap (o.sealed.names.given_out n on))

  none_bound : count_bound_by m.names (d o).number ≡ 0
  none_bound =
      none_pass (λ (n : BoundName). n.binder.0 == (d o).number.0) m.names (λ n on. fails n.binder.0 (d o).number.0 (binder_low n on))

  pub opened_names : AreSealedNames (new o)
  opened_names = let h = o.sealed.names in record {
    given_out = given_out_then;
    binders = λ n on. home_still o n.binder (h.binders n on);
    short = h.short;
    differ = h.differ;
    within = each_domain o (λ e. count_bound_by m.names e.number ≤ e.quotas.names) h.within (let none = none_bound in omega (arith, none));
  }

  -- ---- What goes on beside.

  pub made_then : (e : DomainState) (c : Capability) → Contains (new o).domains e → Contains e.caps.made c → HasClass (new o).classes c.class
  made_then e c on =
      each_domain o (λ e. Contains e.caps.made c → HasClass (new o).classes c.class)
      (λ e was made. subst (λ (classes : List ClassRecord). HasClass classes c.class) (sym o.same)
      (has_class-still m.classes o.more c.class (o.grows.made_there e c was made)))
      (λ made. absurd (Contains-none c made)) e on

  pub started_then : (thread : Thread) → Contains m.threads thread → thread.domain.0 < length (new o).domains
  started_then thread on =
      let low = o.grows.started_there thread on in let many = length-append m.domains (d o ∷ []) in omega (arith, low, many)
