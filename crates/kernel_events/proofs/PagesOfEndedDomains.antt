-- A domain that is killed has no page any more, and each other domain has those that it had.
use Rattle.std.proofs.Common.{◌≡◌, ◌≢◌, ℕ, ◌==◌, ◌&&◌, Bool, true, false, cond, List, map, find, slice_get, Option, Some, None, option_and_then, option_map, bytes_eq, refl, sym, ap, subst, ◌∙◌}
use Rattle.std.proofs.lemmas.Bool.{eqb-false, eqb-true}
use Rattle.std.proofs.lemmas.Option.{same_Some, slice_get-map}
use Rattle.jk_model.specs.declared.identifiers.DomainId.{DomainId}
use Rattle.jk_model.specs.declared.output.Line.{Line}
use Rattle.jk_model_heaps.specs.Workings.{Inside}
use Rattle.jk_model_machine_state.specs.Machines.{DomainState, Machine, is_live_domain}
use Rattle.jk_model_crossings.specs.DomainEnds.{Terminates, ended_domain}
use Rattle.jk_model_openings.specs.PoolsOfMachines.{heap_pages_of, heap_pool, of_live, stack_pages_of, stack_pool}
use Rattle.jk_model_runs.specs.Events.{Kills, kills, no_domain}
use Rattle.jk_model_runs.specs.Sealed.{IsSealed}
use Rattle.list_lemmas.proofs.FoundItems.{Finds, finds}
use Rattle.kernel_events.specs.FreedPages.{FreesPages, GivesBack}

-- ---- The live domain of a name stands at its number.

abbrev of_name : List ℕ → DomainState → Bool
of_name name d = is_live_domain d && bytes_eq d.name name

-- each stands at its number
abbrev Numbered : List DomainState → Type 0
Numbered domains = (i : ℕ) (d : DomainState) → slice_get domains i ≡ Some d → d.number.0 ≡ i

stands_at_number : (domains : List DomainState) (name : List ℕ) (d : DomainState) → Numbered domains → find (of_name name) domains ≡ Some d
    → slice_get domains d.number.0 ≡ Some d
stands_at_number domains name d numbered is = by (find (of_name name) domains) is (finds (of_name name) domains)
  where
    by : (o : Option DomainState) → o ≡ Some d → Finds (of_name name) domains o → slice_get domains d.number.0 ≡ Some d
    by None e h = absurd cc
    by (Some x) e h =
        let same : x ≡ d = same_Some x d e in
        let at : slice_get domains h.0 ≡ Some d = h.1 ∙ ap (λ (y : DomainState). Some y) same in
        subst (λ (k : ℕ). slice_get domains k ≡ Some d) (sym (numbered h.0 d at)) at

-- ---- What a domain has in the machine after it.

abbrev without_inside : DomainId → DomainState → DomainState
without_inside d e = cond (e.number.0 == d.0) (ended_domain e) e

abbrev parts_at : {X : Type 0} → (DomainState → Inside → Option X) → Option DomainState → Option X
parts_at part o = option_and_then (λ (e : DomainState). option_and_then (part e) e.inside) o

ended_step : {X : Type 0} (part : DomainState → Inside → Option X) (t : Bool) (d : DomainState) → d.number.0 == d.number.0 ≡ t
    → parts_at part (Some (cond t (ended_domain d) d)) ≡ None
ended_step part true d is = refl
ended_step part false d is = absurd (eqb-false d.number.0 d.number.0 is refl)

gone_at : {X : Type 0} (part : DomainState → Inside → Option X) (domains : List DomainState) (d : DomainState)
    → slice_get domains d.number.0 ≡ Some d → parts_at part (slice_get (map (without_inside d.number) domains) d.number.0) ≡ None
gone_at part domains d at =
    ap (parts_at part) (slice_get-map (without_inside d.number) domains d.number.0 ∙ ap (option_map (without_inside d.number)) at)
    ∙ ended_step part (d.number.0 == d.number.0) d refl

kept_step : {X : Type 0} (part : DomainState → Inside → Option X) (t : Bool) (d : DomainId) (e : DomainState) → e.number.0 == d.0 ≡ t
    → (e.number.0 ≡ d.0 → ⊥) → parts_at part (Some (cond t (ended_domain e) e)) ≡ parts_at part (Some e)
kept_step part true d e is ne = absurd (ne (eqb-true e.number.0 d.0 is))
kept_step part false d e is ne = refl

kept_by : {X : Type 0} (part : DomainState → Inside → Option X) (domains : List DomainState) (d e : DomainId) (o : Option DomainState)
    → slice_get domains e.0 ≡ o → Numbered domains → (e.0 ≡ d.0 → ⊥)
    → parts_at part (option_map (without_inside d) o) ≡ parts_at part o
kept_by part domains d e None is numbered ne = refl
kept_by part domains d e (Some s) is numbered ne =
    kept_step part (s.number.0 == d.0) d s refl (λ same. ne (sym (numbered e.0 s is) ∙ same))

kept_at : {X : Type 0} (part : DomainState → Inside → Option X) (domains : List DomainState) (d e : DomainId) → Numbered domains
    → (e.0 ≡ d.0 → ⊥) → parts_at part (slice_get (map (without_inside d) domains) e.0) ≡ parts_at part (slice_get domains e.0)
kept_at part domains d e numbered ne =
    ap (parts_at part) (slice_get-map (without_inside d) domains e.0)
    ∙ kept_by part domains d e (slice_get domains e.0) refl numbered ne

-- ---- The pools.

same_domain : (d e : DomainId) → e ≢ d → e.0 ≡ d.0 → ⊥
same_domain d e differ same = differ (λ i. record { 0 = same i })

frees : (m new : Machine) (d : DomainState) (lines : List Line) → Numbered m.domains → slice_get m.domains d.number.0 ≡ Some d
    → Terminates m d lines new
    → GivesBack d.number (heap_pool m) (heap_pool new) × GivesBack d.number (stack_pool m) (stack_pool new)
frees m new d lines numbered at ends = (
  record {
    pages = ap (λ (x : Machine). x.heap_pages) ends.leads ∙ ap (λ (x : Machine). x.heap_pages) ends.is_cut;
    gone = (gone (λ e inside. Some (heap_pages_of e.quotas)), gone (λ e inside. inside.heap_at));
    others = λ e differ. (kept e differ (λ s inside. Some (heap_pages_of s.quotas)), kept e differ (λ s inside. inside.heap_at));
  },
  record {
    pages = ap (λ (x : Machine). x.stack_pages) ends.leads ∙ ap (λ (x : Machine). x.stack_pages) ends.is_cut;
    gone = (gone (λ e inside. Some (stack_pages_of e.quotas)), gone (λ e inside. inside.stack_at));
    others = λ e differ. (kept e differ (λ s inside. Some (stack_pages_of s.quotas)), kept e differ (λ s inside. inside.stack_at));
  },
)
  where
    domains_are : new.domains ≡ map (without_inside d.number) m.domains
    domains_are = ap (λ (x : Machine). x.domains) ends.leads ∙ ap (λ (x : Machine). x.domains) ends.is_cut

    gone : (part : DomainState → Inside → Option ℕ) → of_live part new d.number ≡ None
    gone part = ap (λ (xs : List DomainState). parts_at part (slice_get xs d.number.0)) domains_are ∙ gone_at part m.domains d at

    kept : (e : DomainId) → e ≢ d.number → (part : DomainState → Inside → Option ℕ) → of_live part new e ≡ of_live part m e
    kept e differ part =
        ap (λ (xs : List DomainState). parts_at part (slice_get xs e.0)) domains_are
        ∙ kept_at part m.domains d.number e numbered (same_domain d.number e differ)

pub kills_free_pages : (m new : Machine) (name : List ℕ) (lines : List Line) → IsSealed m → Kills m name lines new → FreesPages m name new
kills_free_pages m new name lines sealed killed d is = by lines new killed
  where
    by : (said : List Line) (end : Machine) → Kills m name said end
        → GivesBack d.number (heap_pool m) (heap_pool end) × GivesBack d.number (stack_pool m) (stack_pool end)
    by said end (no_domain none) = let never : None ≡ Some d = sym none ∙ is in absurd cc
    by said end (kills e more after found ends) =
        let one : e ≡ d = same_Some e d (sym found ∙ is) in
        frees m after d more sealed.domains.numbered (stands_at_number m.domains name d sealed.domains.numbered is)
        (subst (λ (x : DomainState). Terminates m x more after) one ends)
