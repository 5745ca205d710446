-- A domain of the machine is what the world, the shared state, the own states and the stores have at its number.
use Rattle.std.proofs.Common.{◌≡◌, ℕ, zero, suc, List, [], ◌∷◌, length, map, slice_get, Option, Some, None, option_map, refl, sym, ap, ◌∙◌, arith}
use Rattle.std.proofs.lemmas.Option.{same_Some, slice_get_within}
use Rattle.list_lemmas.proofs.ItemsByPlace.{item_there}
use Rattle.jk_model.specs.declared.identifiers.DomainId.{DomainId}
use Rattle.jk_model_classes.specs.Worlds.{DomainRecord}
use Rattle.jk_model_domains.specs.OwnStates.{OwnState}
use Rattle.jk_model_heaps.specs.Capabilities.{CapRange}
use Rattle.jk_model_heaps.specs.Workings.{Inside}
use Rattle.jk_model_sharing.specs.SharedStates.{SharedDomain}
use Rattle.jk_model_machine_state.specs.Machines.{DomainState}
use Rattle.jk_model_machine_state.specs.Places.{LiveDomain}
use Rattle.object_store.specs.HeapContents.{HeapContent}
use Rattle.frame_store.specs.FrameContents.{FrameContent}
use Rattle.machine_parts.specs.ChangedParts.{StandsInParts}
use Rattle.machine_parts.specs.FittingParts.{HaveOneList}
use Rattle.machine_parts.specs.MachineParts.{MachineParts, domain_state, domain_states, inside_of, machine_of}

-- ---- What stands at a place of all three lists.

pub record AtPlace (heap : HeapContent) (frames : FrameContent) (world : List DomainRecord) (shared : List SharedDomain) (owns : List (Option OwnState))
    (i : ℕ) (d : DomainState) : Type 0 where
  pub names : DomainRecord
  pub is_named : slice_get world i ≡ Some names
  pub s : SharedDomain
  pub is_shared : slice_get shared i ≡ Some s
  pub own : Option OwnState
  pub is_own : slice_get owns i ≡ Some own
  pub is_state : d ≡ domain_state heap frames names s own

pub at_place : (heap : HeapContent) (frames : FrameContent) (world : List DomainRecord) (shared : List SharedDomain) (owns : List (Option OwnState))
    (i : ℕ) (d : DomainState) → slice_get (domain_states heap frames world shared owns) i ≡ Some d → AtPlace heap frames world shared owns i d
at_place heap frames (n ∷ world) (s ∷ shared) (o ∷ owns) zero d at = record {
  names = n;
  is_named = refl;
  s = s;
  is_shared = refl;
  own = o;
  is_own = refl;
  is_state = sym (same_Some (domain_state heap frames n s o) d at);
}
at_place heap frames (n ∷ world) (s ∷ shared) (o ∷ owns) (suc i) d at =
    let later = at_place heap frames world shared owns i d at in
    record {
      names = later.names;
      is_named = later.is_named;
      s = later.s;
      is_shared = later.is_shared;
      own = later.own;
      is_own = later.is_own;
      is_state = later.is_state;
    }
at_place heap frames [] shared owns i d at = absurd cc
at_place heap frames (n ∷ world) [] owns i d at = absurd cc
at_place heap frames (n ∷ world) (s ∷ shared) [] i d at = absurd cc

pub state_at : (heap : HeapContent) (frames : FrameContent) (world : List DomainRecord) (shared : List SharedDomain) (owns : List (Option OwnState))
    (i : ℕ) (names : DomainRecord) (s : SharedDomain) (own : Option OwnState) → slice_get world i ≡ Some names → slice_get shared i ≡ Some s
    → slice_get owns i ≡ Some own → slice_get (domain_states heap frames world shared owns) i ≡ Some (domain_state heap frames names s own)
state_at heap frames (n ∷ world) (x ∷ shared) (o ∷ owns) zero names s own a b c =
    λ i. Some (domain_state heap frames (same_Some n names a i) (same_Some x s b i) (same_Some o own c i))
state_at heap frames (n ∷ world) (x ∷ shared) (o ∷ owns) (suc i) names s own a b c = state_at heap frames world shared owns i names s own a b c
state_at heap frames [] shared owns i names s own a b c = absurd cc
state_at heap frames (n ∷ world) [] owns i names s own a b c = absurd cc
state_at heap frames (n ∷ world) (x ∷ shared) [] i names s own a b c = absurd cc

-- what the domains share stands at their numbers
pub numbered_shared : (p : MachineParts) → HaveOneList p → (i : ℕ) (s : SharedDomain) → slice_get p.shared.domains i ≡ Some s → s.number.0 ≡ i
numbered_shared p one i s at =
    let low = slice_get_within p.shared.domains i s at in
    let same = one.shared in
    let names = item_there p.world.domains i (omega (arith, low, same)) in
    ap (λ (d : DomainId). d.0) (one.same_number i names.0 s names.1 at).0 ∙ one.numbered i names.0 names.1

-- ---- Ranges of capabilities.

pub same_ranges : (heap : HeapContent) (frames : FrameContent) (world : List DomainRecord) (shared : List SharedDomain) (owns : List (Option OwnState))
    → length shared ≡ length world → length owns ≡ length world
    → map (λ (d : DomainState). d.caps) (domain_states heap frames world shared owns) ≡ map (λ (s : SharedDomain). s.caps) shared
same_ranges heap frames [] [] owns many also = refl
same_ranges heap frames [] (s ∷ shared) owns many also = absurd (omega (arith, many))
same_ranges heap frames (n ∷ world) [] owns many also = absurd (omega (arith, many))
same_ranges heap frames (n ∷ world) (s ∷ shared) [] many also = absurd (omega (arith, also))
same_ranges heap frames (n ∷ world) (s ∷ shared) (own ∷ owns) many also =
    ap (λ (rs : List CapRange). s.caps ∷ rs) (same_ranges heap frames world shared owns (omega (arith, many)) (omega (arith, also)))

-- ---- Live domains.

-- an inside is there where an own state is
inside_by : (heap : HeapContent) (frames : FrameContent) (d : DomainId) (own : Option OwnState) (inside : Inside)
    → option_map (inside_of heap frames d) own ≡ Some inside → (o : OwnState) × (own ≡ Some o) × (inside ≡ inside_of heap frames d o)
inside_by heap frames d None inside is = absurd cc
inside_by heap frames d (Some o) inside is = (o, refl, sym (same_Some (inside_of heap frames d o) inside is))

pub live_domain_is_of_parts : (p : MachineParts) (d : DomainId) (l : LiveDomain (machine_of p) d) → HaveOneList p
    → (own : OwnState) × (names : DomainRecord) × (s : SharedDomain) × StandsInParts p d own names s
    × (l.domain ≡ domain_state p.heap p.frames names s (Some own)) × (l.inside ≡ inside_of p.heap p.frames d own)
live_domain_is_of_parts p d l one =
    let a = at_place p.heap p.frames p.world.domains p.shared.domains p.owns d.0 l.domain l.is_domain in
    let number : a.names.id ≡ d = sym (ap (λ (e : DomainState). e.number) a.is_state) ∙ l.numbered in
    let inside : option_map (inside_of p.heap p.frames a.names.id) a.own ≡ Some l.inside =
    sym (ap (λ (e : DomainState). e.inside) a.is_state) ∙ l.is_inside in
    let own = inside_by p.heap p.frames a.names.id a.own l.inside inside in (
      own.0,
      a.names,
      a.s,
      record { is_named = a.is_named; is_shared = a.is_shared; is_own = a.is_own ∙ ap (λ (o : Option OwnState). Some o) own.1; number = number },
      a.is_state ∙ ap (λ (o : Option OwnState). domain_state p.heap p.frames a.names a.s o) own.1,
      own.2 ∙ ap (λ (e : DomainId). inside_of p.heap p.frames e own.0) number,
    )
