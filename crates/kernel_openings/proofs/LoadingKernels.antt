-- In a kernel of sound parts a folder may be loaded: there are few domains, as none stands in for another, and the world of the parts is that
-- of the machine. Another domain may be opened in it.
use Rattle.std.proofs.Common.{◌≡◌, ℕ, suc, ◌<◌, ◌≤◌, ◌==◌, Bool, true, false, not, List, [], ◌∷◌, length, map, find, Contains, Option, Some, None, slice_get, refl, sym, ap, subst, ◌∙◌, inl, inr, arith, true≢false}
use Rattle.std.specs.Prelude.{is_some}
use Rattle.std.specs.List.{AllByRecursion, IsDistinct, list_any}
use Rattle.std.proofs.lemmas.Bool.{cases_Bool, cases_lt, eqb-true}
use Rattle.std.proofs.lemmas.List.{length-map}
use Rattle.std.proofs.lemmas.Map.Steps.{length-le_from_distinct_below}
use Rattle.std.proofs.lemmas.Option.{slice_get_within}
use Rattle.list_lemmas.proofs.FoundItems.{Finds, finds}
use Rattle.list_lemmas.proofs.ItemsOfLists.{Contains-at, place_of}
use Rattle.jk_model.specs.SystemTable.{system_classes}
use Rattle.jk_model.specs.declared.identifiers.ClassId.{ClassId}
use Rattle.jk_model.specs.declared.identifiers.DomainId.{DomainId}
use Rattle.jk_model_classes.specs.declared.sharing.Stub.{Stub}
use Rattle.jk_model_classes.specs.Classes.{HasClass}
use Rattle.jk_model_classes.specs.Worlds.{DomainRecord, WorldRecord}
use Rattle.jk_model_domains.specs.OwnStates.{OwnState}
use Rattle.jk_model_folders.specs.Loads.{MayLoad}
use Rattle.jk_model_heaps.specs.Capabilities.{Capability}
use Rattle.jk_model_sharing.specs.SharedStates.{SharedDomain}
use Rattle.jk_model_machine_state.specs.Machines.{DomainState, world_of, is_live_domain}
use Rattle.jk_model_machine_state.specs.Places.{LiveDomain}
use Rattle.jk_model_runs.specs.Sealed.{is_stand_in}
use Rattle.object_store.specs.HeapContents.{HeapContent}
use Rattle.object_store.specs.HeapContents.{HasFewDomains as HasFewHeaps}
use Rattle.frame_store.specs.FrameContents.{FrameContent}
use Rattle.frame_store.specs.FrameContents.{HasFewDomains as HasFewStacks}
use Rattle.machine_laws.proofs.FilteredItems.{all_pass}
use Rattle.kernel_parts.specs.SoundKernels.{AreKernelParts, KernelContent, kernel_machine, parts_of}
use Rattle.machine_parts.specs.FittingParts.{AreFittingParts, HaveOneList}
use Rattle.machine_parts.specs.MachineParts.{MachineParts, domain_state, domain_states, machine_of}
use Rattle.machine_parts.proofs.DomainsOfParts.{at_place}
use Rattle.machine_laws.proofs.OpenedParts.{no_stand_in}

-- ---- The world.

abbrev names_in : DomainState → DomainRecord
names_in d = record { id = d.number; name = d.name; live = is_live_domain d; table = d.table; offers = d.offers }

abbrev with_life : DomainRecord → Bool → DomainRecord
with_life names b = record { id = names.id; name = names.name; live = b; table = names.table; offers = names.offers }

lives_as : (heap : HeapContent) (frames : FrameContent) (names : DomainRecord) (s : SharedDomain) (own : Option OwnState)
    → is_live_domain (domain_state heap frames names s own) ≡ is_some own
lives_as heap frames names s None = refl
lives_as heap frames names s (Some own) = refl

names_of_states : (heap : HeapContent) (frames : FrameContent) (world : List DomainRecord) (shared : List SharedDomain) (owns : List (Option OwnState))
    → length shared ≡ length world → length owns ≡ length world
    → ((i : ℕ) (names : DomainRecord) (own : Option OwnState) → slice_get world i ≡ Some names → slice_get owns i ≡ Some own → is_some own ≡ names.live)
    → map names_in (domain_states heap frames world shared owns) ≡ world
names_of_states heap frames [] shared owns many also live = refl
names_of_states heap frames (n ∷ world) [] owns many also live = absurd (omega arith)
names_of_states heap frames (n ∷ world) (s ∷ shared) [] many also live = absurd (omega arith)
names_of_states heap frames (n ∷ world) (s ∷ shared) (own ∷ owns) many also live =
    let rest =
    names_of_states heap frames world shared owns (omega (arith, many)) (omega (arith, also)) (λ i x o at had. live (suc i) x o at had) in
    let life : is_live_domain (domain_state heap frames n s own) ≡ n.live = lives_as heap frames n s own ∙ live 0 n own refl refl in
    ap (λ (b : Bool). with_life n b ∷ map names_in (domain_states heap frames world shared owns)) life
    ∙ ap (λ (xs : List DomainRecord). n ∷ xs) rest

pub same_world : (p : MachineParts) → HaveOneList p → world_of (machine_of p) ≡ p.world
same_world p one =
    ap (λ (ds : List DomainRecord). let w : WorldRecord = record { classes = p.world.classes; domains = ds } in w)
    (names_of_states p.heap p.frames p.world.domains p.shared.domains p.owns one.shared one.owns one.same_life)

pub as_many_states : (p : MachineParts) → HaveOneList p → length (machine_of p).domains ≡ length p.world.domains
as_many_states p one =
    sym (length-map (machine_of p).domains names_in) ∙ ap (λ (w : WorldRecord). length w.domains) (same_world p one)

-- ---- Few domains.

abbrev number : DomainId → ℕ
number d = d.0

all_apart : (n : ℕ) (ds : List DomainId) → AllByRecursion (λ (e : DomainId). n == e.0 ≡ false) ds → AllByRecursion (λ (k : ℕ). n == k ≡ false) (map number ds)
all_apart n [] h = tt
all_apart n (d ∷ ds) h = (h.0, all_apart n ds h.1)

numbers_apart : (ds : List DomainId) → IsDistinct (λ (d e : DomainId). d.0 == e.0) ds → IsDistinct ◌==◌ (map number ds)
unfolding IsDistinct
numbers_apart [] h = tt
numbers_apart (d ∷ ds) h = (all_apart d.0 ds h.0, numbers_apart ds h.1)

all_below : (n : ℕ) (ds : List DomainId) → AllByRecursion (λ (d : DomainId). d.0 < n) ds → (q : ℕ) → list_any (λ k. q == k) (map number ds) ≡ true → q < n
all_below n [] h q e = absurd cc
all_below n (d ∷ ds) h q e = elim (cases_Bool (q == d.0)) [
  | inl here ↦ (let same : q ≡ d.0 = eqb-true q d.0 here in omega (arith, same, h.0))
  | inr other ↦ (let later : list_any (λ k. q == k) (map number ds) ≡ true = rw other at e in all_below n ds h.1 q later)
]

none_is : (o : Option ℕ) → o ≡ None → is_some o ≡ true → ⊥
none_is None e is = true≢false (sym is)
none_is (Some x) e is = absurd cc

module _ (quota : DomainId → Option ℕ) (n : ℕ) (no_others : (d : DomainId) → n ≤ d.0 → quota d ≡ None) where
  below : (d : DomainId) → is_some (quota d) ≡ true → d.0 < n
  below d admitted = elim (cases_lt d.0 n) [
    | inl low ↦ low
    | inr high ↦ absurd (none_is (quota d) (no_others d high) admitted)
  ]

  each_below : (ds : List DomainId) → AllByRecursion (λ (d : DomainId). is_some (quota d) ≡ true) ds → AllByRecursion (λ (d : DomainId). d.0 < n) ds
  each_below [] h = tt
  each_below (d ∷ ds) h = (below d h.0, each_below ds h.1)

  few_admitted : n < 140000 → (ds : List DomainId) → IsDistinct (λ (d e : DomainId). d.0 == e.0) ds
      → AllByRecursion (λ (d : DomainId). is_some (quota d) ≡ true) ds → length ds < 140000
  few_admitted few ds apart admitted =
      let most = length-le_from_distinct_below (map number ds) n (numbers_apart ds apart) (all_below n ds (each_below ds admitted)) in
      omega (arith, few, most, length-map ds number)

-- ---- The kernel.

stub_there : (stubs : List Stub) (c : ClassId) (stub : Stub) → find (λ (e : Stub). e.class.0 == c.0) stubs ≡ Some stub
    → Contains stubs stub × (stub.class ≡ c)
stub_there stubs c stub found =
    let at : Finds (λ (e : Stub). e.class.0 == c.0) stubs (Some stub) =
    subst (Finds (λ (e : Stub). e.class.0 == c.0) stubs) found (finds (λ (e : Stub). e.class.0 == c.0) stubs) in
    let same : stub.class.0 ≡ c.0 = eqb-true stub.class.0 c.0 at.2 in
    (Contains-at stubs at.0 stub at.1, λ i. record { 0 = same i })

module _ (k : KernelContent) (h : AreKernelParts k) where
  abbrev p : MachineParts
  p = parts_of k

  fit : AreFittingParts p
  fit = h.sound.fitting

  pub world_is : world_of (kernel_machine k) ≡ k.world
  world_is = same_world p fit.domains

  pub as_many : length (kernel_machine k).domains ≡ length k.world.domains
  as_many = as_many_states p fit.domains

  -- ---- No domain stands in for another.

  pub caps_there : (e : DomainState) (c : Capability) → Contains (kernel_machine k).domains e → Contains e.caps.made c → HasClass k.world.classes c.class
  caps_there e c on made =
      let place = place_of (kernel_machine k).domains e on in
      let at = at_place p.heap p.frames p.world.domains p.shared.domains p.owns place.0 e place.1 in
      let here : Contains at.s.caps.made c = subst (λ (x : DomainState). Contains x.caps.made c) at.is_state made in
      let stub = fit.stubs.made at.s c (Contains-at p.shared.domains place.0 at.s at.is_shared) here in
      let there = stub_there k.shared.stubs c.class stub.0 stub.1 in
      subst (HasClass k.world.classes) there.1 (h.stubs stub.0 there.0)

  no_stand_ins : (e : DomainState) → Contains (kernel_machine k).domains e → not (is_stand_in k.world.classes e) ≡ true
  no_stand_ins e on = ap not (no_stand_in k.world.classes e e.caps.made (λ c made. caps_there e c on made))

  pub few_domains : length k.world.domains ≤ 65535
  few_domains =
      let all = all_pass (λ (e : DomainState). not (is_stand_in k.world.classes e)) (kernel_machine k).domains no_stand_ins in
      omega (arith, all, h.sound.sealed.domains.few, as_many)

  pub may_load : MayLoad k.world
  may_load =
      let many : length system_classes ≡ 45 = refl in
      record {
        world = h.sound.world;
        system = h.sound.sound.codes.system;
        few_classes = omega (arith, few_domains, h.sound.few_classes, many);
      }

  -- ---- No store has a domain with a number that wasn't given.

  not_yet : (d : DomainId) → length k.world.domains ≤ d.0 → LiveDomain (kernel_machine k) d → ⊥
  not_yet d high live =
      let low = slice_get_within (kernel_machine k).domains d.0 live.domain live.is_domain in
      omega (arith, low, high, as_many)

  pub no_others : (d : DomainId) → length k.world.domains ≤ d.0 → (k.heap.quota d ≡ None) × (k.frames.quota d ≡ None)
  no_others d high = fit.live.no_others d (not_yet d high)

  pub few_heaps : HasFewHeaps k.heap
  few_heaps = few_admitted k.heap.quota (length k.world.domains) (λ d high. (no_others d high).0) (omega (arith, few_domains))

  pub few_stacks : HasFewStacks k.frames
  few_stacks = few_admitted k.frames.quota (length k.world.domains) (λ d high. (no_others d high).1) (omega (arith, few_domains))
