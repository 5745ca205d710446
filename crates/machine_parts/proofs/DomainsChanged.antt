-- A change of one domain's heap or own state, or of its steps left, changes that domain of the machine, and no other.
use Rattle.std.proofs.Common.{◌≡◌, ◌≢◌, ℕ, zero, suc, ◌+◌, ◌-◌, ◌<◌, ◌==◌, Bool, true, false, cond, List, [], ◌∷◌, length, map, slice_get, slice_set, Contains, Option, Some, None, option_map, refl, sym, ap, subst, ◌∙◌, arith}
use Rattle.std.proofs.lemmas.Bool.{eqb-false, eqb-true}
use Rattle.std.proofs.lemmas.Option.{same_Some, slice_get_within}
use Rattle.jk_model.specs.declared.identifiers.DomainId.{DomainId}
use Rattle.jk_model_classes.specs.Worlds.{DomainRecord}
use Rattle.jk_model_domains.specs.Objects.{NamedObject}
use Rattle.jk_model_domains.specs.OwnStates.{OwnState}
use Rattle.jk_model_heaps.specs.Workings.{Inside, with_heap, with_own}
use Rattle.jk_model_sharing.specs.SharedStates.{SharedDomain, spent}
use Rattle.jk_model_machine_state.specs.Machines.{DomainState, paid, with_inside}
use Rattle.jk_model_machine_state.specs.Places.{LiveDomain}
use Rattle.object_store.specs.HeapContents.{HeapBecomes, HeapContent}
use Rattle.frame_store.specs.FrameContents.{FrameContent}
use Rattle.list_lemmas.proofs.ItemsOfLists.{Contains-here, Contains-there, place_of}
use Rattle.machine_parts.specs.FittingParts.{HaveOneList}
use Rattle.machine_parts.specs.MachineParts.{MachineParts, domain_state, domain_states, inside_of, machine_of}
use Rattle.machine_parts.proofs.DomainsOfParts.{at_place, live_domain_is_of_parts}

pub map_same : {X Y : Type 0} (f g : X → Y) (xs : List X) → ((x : X) → Contains xs x → f x ≡ g x) → map f xs ≡ map g xs
map_same f g [] h = refl
map_same f g (x ∷ xs) h = λ i. h x (Contains-here x xs) i ∷ map_same f g xs (λ y later. h y (Contains-there y x xs later)) i

-- ---- The domain of a number stands at it.

abbrev Numbered : List DomainState → Type 0
Numbered domains = (i : ℕ) (d : DomainState) → slice_get domains i ≡ Some d → d.number.0 ≡ i

states_are_numbered : (p : MachineParts) → HaveOneList p → Numbered (machine_of p).domains
states_are_numbered p one i d at =
    let a = at_place p.heap p.frames p.world.domains p.shared.domains p.owns i d at in
    ap (λ (e : DomainState). e.number.0) a.is_state ∙ one.numbered i a.names a.is_named

one_of_number : (domains : List DomainState) (d e : DomainState) (n : ℕ) → Numbered domains → Contains domains e → slice_get domains n ≡ Some d
    → e.number.0 ≡ n → e ≡ d
one_of_number domains d e n numbered there at same =
    let place = place_of domains e there in
    let k : place.0 ≡ n = sym (numbered place.0 e place.1) ∙ same in
    same_Some e d (sym place.1 ∙ ap (slice_get domains) k ∙ at)

same_domain : (d e : DomainId) → e.0 ≡ d.0 → e ≡ d
same_domain d e same = λ i. record { 0 = same i }

-- ---- A heap.

abbrev heap_in : DomainId → List NamedObject → DomainState → DomainState
heap_in d heap e = cond (e.number.0 == d.0) (record e { inside = option_map (λ (x : Inside). with_heap x heap) e.inside }) e

inside_changes : (old new : HeapContent) (frames : FrameContent) (d : DomainId) (heap : List NamedObject) (used : ℕ) → HeapBecomes old new d heap used
    → (own : Option OwnState)
    → option_map (inside_of new frames d) own ≡ option_map (λ (x : Inside). with_heap x heap) (option_map (inside_of old frames d) own)
inside_changes old new frames d heap used h None = refl
inside_changes old new frames d heap used h (Some own) =
    λ i. Some (record { own = own; heap = h.becomes i; heap_at = h.domains.first_page d i; stack_at = frames.first_page d })

inside_stays : (old new : HeapContent) (frames : FrameContent) (d e : DomainId) (heap : List NamedObject) (used : ℕ) → HeapBecomes old new d heap used
    → e ≢ d → (own : Option OwnState) → option_map (inside_of new frames e) own ≡ option_map (inside_of old frames e) own
inside_stays old new frames d e heap used h other None = refl
inside_stays old new frames d e heap used h other (Some own) =
    λ i. Some (record { own = own; heap = h.others e other i; heap_at = h.domains.first_page e i; stack_at = frames.first_page e })

state_changes : (t : Bool) (old new : HeapContent) (frames : FrameContent) (d : DomainId) (heap : List NamedObject) (used : ℕ)
    → HeapBecomes old new d heap used → (names : DomainRecord) (s : SharedDomain) (own : Option OwnState) → names.id.0 == d.0 ≡ t
    → domain_state new frames names s own
    ≡ cond t (record (domain_state old frames names s own) {
      inside = option_map (λ (x : Inside). with_heap x heap) (option_map (inside_of old frames names.id) own);
    }) (domain_state old frames names s own)
state_changes true old new frames d heap used h names s own is =
    let same : names.id ≡ d = same_domain d names.id (eqb-true names.id.0 d.0 is) in
    let inside : option_map (inside_of new frames names.id) own
    ≡ option_map (λ (x : Inside). with_heap x heap) (option_map (inside_of old frames names.id) own) =
    subst (λ (e : DomainId). option_map (inside_of new frames e) own ≡ option_map (λ (x : Inside). with_heap x heap) (option_map (inside_of old frames e) own))
    (sym same) (inside_changes old new frames d heap used h own) in
    λ i. record (domain_state old frames names s own) { inside = inside i }
state_changes false old new frames d heap used h names s own is =
    let other : names.id ≢ d = λ e. eqb-false names.id.0 d.0 is (ap (λ (x : DomainId). x.0) e) in
    λ i. record (domain_state old frames names s own) { inside = inside_stays old new frames d names.id heap used h other own i }

states_change : (old new : HeapContent) (frames : FrameContent) (d : DomainId) (heap : List NamedObject) (used : ℕ) → HeapBecomes old new d heap used
    → (world : List DomainRecord) (shared : List SharedDomain) (owns : List (Option OwnState))
    → domain_states new frames world shared owns ≡ map (heap_in d heap) (domain_states old frames world shared owns)
states_change old new frames d heap used h (n ∷ world) (s ∷ shared) (o ∷ owns) =
    λ i. state_changes (n.id.0 == d.0) old new frames d heap used h n s o refl i ∷ states_change old new frames d heap used h world shared owns i
states_change old new frames d heap used h [] shared owns = refl
states_change old new frames d heap used h (n ∷ world) [] owns = refl
states_change old new frames d heap used h (n ∷ world) (s ∷ shared) [] = refl

-- of the live domain of that number it is the same
abbrev sets_inside : DomainId → Inside → DomainState → DomainState
sets_inside d inside e = cond (e.number.0 == d.0) (record e { inside = Some inside }) e

same_change : (t : Bool) (d : DomainId) (inside : Inside) (heap : List NamedObject) (e : DomainState) → e.number.0 == d.0 ≡ t
    → (e.number.0 ≡ d.0 → e.inside ≡ Some inside)
    → cond t (record e { inside = option_map (λ (x : Inside). with_heap x heap) e.inside }) e ≡ cond t (record e { inside = Some (with_heap inside heap) }) e
same_change true d inside heap e is has =
    ap (λ (x : Option Inside). record e { inside = option_map (λ (y : Inside). with_heap y heap) x }) (has (eqb-true e.number.0 d.0 is))
same_change false d inside heap e is has = refl

pub heaps_change_machines : (p : MachineParts) (new : HeapContent) (d : DomainId) (heap : List NamedObject) (used : ℕ)
    (l : LiveDomain (machine_of p) d) → HaveOneList p → HeapBecomes p.heap new d heap used
    → machine_of (record p { heap = new }) ≡ with_inside d (with_heap l.inside heap) (machine_of p)
heaps_change_machines p new d heap used l one h =
    λ i. record (machine_of p) { heap_pages = h.domains.pages i; domains = both i }
  where
    is_inside : (e : DomainState) → Contains (machine_of p).domains e → e.number.0 ≡ d.0 → e.inside ≡ Some l.inside
    is_inside e there same =
        ap (λ (x : DomainState). x.inside)
        (one_of_number (machine_of p).domains l.domain e d.0 (states_are_numbered p one) there l.is_domain same) ∙ l.is_inside

    both : (machine_of (record p { heap = new })).domains ≡ (with_inside d (with_heap l.inside heap) (machine_of p)).domains
    both =
        states_change p.heap new p.frames d heap used h p.world.domains p.shared.domains p.owns
        ∙ map_same (heap_in d heap) (sets_inside d (with_heap l.inside heap)) (machine_of p).domains
        (λ e there. same_change (e.number.0 == d.0) d l.inside heap e refl (is_inside e there))

-- ---- An own state.

-- the names stand at their numbers, the first of which is this
abbrev NumberedFrom : ℕ → List DomainRecord → Type 0
NumberedFrom n world = (i : ℕ) (names : DomainRecord) → slice_get world i ≡ Some names → names.id.0 ≡ n + i

later_names : (n : ℕ) (x : DomainRecord) (world : List DomainRecord) → NumberedFrom n (x ∷ world) → NumberedFrom (suc n) world
later_names n x world h i names at = omega (arith, h (suc i) names at)

abbrev own_in : HeapContent → FrameContent → DomainId → OwnState → DomainState → DomainState
own_in heap frames d own e = cond (e.number.0 == d.0) (record e { inside = Some (inside_of heap frames d own) }) e

own_elsewhere : (t : Bool) (heap : HeapContent) (frames : FrameContent) (d : DomainId) (own : OwnState) (e : DomainState) → e.number.0 == d.0 ≡ t
    → (e.number.0 ≡ d.0 → ⊥) → e ≡ cond t (record e { inside = Some (inside_of heap frames d own) }) e
own_elsewhere true heap frames d own e is ne = absurd (ne (eqb-true e.number.0 d.0 is))
own_elsewhere false heap frames d own e is ne = refl

own_here : (t : Bool) (heap : HeapContent) (frames : FrameContent) (d : DomainId) (own : OwnState) (names : DomainRecord) (s : SharedDomain)
    (old : Option OwnState) → names.id.0 == d.0 ≡ t → names.id.0 ≡ d.0
    → domain_state heap frames names s (Some own)
    ≡ cond t (record (domain_state heap frames names s old) { inside = Some (inside_of heap frames d own) }) (domain_state heap frames names s old)
own_here true heap frames d own names s old is same =
    ap (λ (e : DomainId). record (domain_state heap frames names s old) { inside = Some (inside_of heap frames e own) })
    (same_domain d names.id same)
own_here false heap frames d own names s old is same = absurd (eqb-false names.id.0 d.0 is same)

owns_after : (heap : HeapContent) (frames : FrameContent) (d : DomainId) (own : OwnState) (n : ℕ) (world : List DomainRecord)
    (shared : List SharedDomain) (owns : List (Option OwnState)) → NumberedFrom n world → d.0 < n
    → domain_states heap frames world shared owns ≡ map (own_in heap frames d own) (domain_states heap frames world shared owns)
owns_after heap frames d own n (x ∷ world) (s ∷ shared) (o ∷ owns) numbered low =
    λ i. own_elsewhere (x.id.0 == d.0) heap frames d own (domain_state heap frames x s o) refl (λ same. omega (arith, numbered 0 x refl, low, same)) i
    ∷ owns_after heap frames d own (suc n) world shared owns (later_names n x world numbered) (omega (arith, low)) i
owns_after heap frames d own n [] shared owns numbered low = refl
owns_after heap frames d own n (x ∷ world) [] owns numbered low = refl
owns_after heap frames d own n (x ∷ world) (s ∷ shared) [] numbered low = refl

owns_change : (heap : HeapContent) (frames : FrameContent) (d : DomainId) (own : OwnState) (n k : ℕ) (world : List DomainRecord)
    (shared : List SharedDomain) (owns : List (Option OwnState)) → NumberedFrom n world → d.0 ≡ n + k → k < length owns
    → domain_states heap frames world shared (slice_set owns k (Some own)) ≡ map (own_in heap frames d own) (domain_states heap frames world shared owns)
owns_change heap frames d own n zero (x ∷ world) (s ∷ shared) (o ∷ owns) numbered at low =
    λ i. own_here (x.id.0 == d.0) heap frames d own x s o refl (omega (arith, numbered 0 x refl, at)) i
    ∷ owns_after heap frames d own (suc n) world shared owns (later_names n x world numbered) (omega (arith, at)) i
owns_change heap frames d own n (suc k) (x ∷ world) (s ∷ shared) (o ∷ owns) numbered at low =
    λ i. own_elsewhere (x.id.0 == d.0) heap frames d own (domain_state heap frames x s o) refl (λ same. omega (arith, numbered 0 x refl, at, same)) i
    ∷ owns_change heap frames d own (suc n) k world shared owns (later_names n x world numbered) (omega (arith, at)) (omega (arith, low)) i
owns_change heap frames d own n k [] shared owns numbered at low = refl
owns_change heap frames d own n k (x ∷ world) [] owns numbered at low = refl
owns_change heap frames d own n k (x ∷ world) (s ∷ shared) [] numbered at low = absurd (omega (arith, low))

pub own_states_change_machines : (p : MachineParts) (own : OwnState) (d : DomainId) (l : LiveDomain (machine_of p) d) → HaveOneList p
    → machine_of (record p { owns = slice_set p.owns d.0 (Some own) }) ≡ with_inside d (with_own l.inside own) (machine_of p)
own_states_change_machines p own d l one =
    let found = live_domain_is_of_parts p d l one in
    let was = found.0 in
    let low : d.0 < length p.owns = slice_get_within p.owns d.0 (Some was) found.3.is_own in
    let changed : domain_states p.heap p.frames p.world.domains p.shared.domains (slice_set p.owns d.0 (Some own))
    ≡ map (own_in p.heap p.frames d own) (machine_of p).domains =
    owns_change p.heap p.frames d own 0 d.0 p.world.domains p.shared.domains p.owns (λ i names at. omega (arith, one.numbered i names at)) (omega arith) low in
    let inside : inside_of p.heap p.frames d own ≡ with_own l.inside own = ap (λ (x : Inside). with_own x own) (sym found.5) in
    let set : map (own_in p.heap p.frames d own) (machine_of p).domains ≡ (with_inside d (with_own l.inside own) (machine_of p)).domains =
    ap (λ (x : Inside). map (sets_inside d x) (machine_of p).domains) inside in
    ap (λ (ds : List DomainState). record (machine_of p) { domains = ds }) (changed ∙ set)

-- ---- Steps left.

abbrev paid_in : DomainId → DomainState → DomainState
paid_in d e = cond (e.number.0 == d.0) (record e { steps_left = option_map (λ (n : ℕ). n - 1) e.steps_left }) e

abbrev spent_in : DomainId → SharedDomain → SharedDomain
spent_in d e = cond (e.number.0 == d.0) (record e { steps_left = option_map (λ (n : ℕ). n - 1) e.steps_left }) e

payment_step : (t : Bool) (heap : HeapContent) (frames : FrameContent) (names : DomainRecord) (s : SharedDomain) (own : Option OwnState)
    → domain_state heap frames names (cond t (record s { steps_left = option_map (λ (n : ℕ). n - 1) s.steps_left }) s) own
    ≡ cond t (record (domain_state heap frames names s own) { steps_left = option_map (λ (n : ℕ). n - 1) s.steps_left }) (domain_state heap frames names s own)
payment_step true heap frames names s own = refl
payment_step false heap frames names s own = refl

-- the same numbers at the same places
abbrev AreSame : List DomainRecord → List SharedDomain → Type 0
AreSame world shared = (i : ℕ) (names : DomainRecord) (s : SharedDomain) → slice_get world i ≡ Some names → slice_get shared i ≡ Some s → s.number ≡ names.id

payments_change : (heap : HeapContent) (frames : FrameContent) (d : DomainId) (world : List DomainRecord) (shared : List SharedDomain)
    (owns : List (Option OwnState)) → AreSame world shared
    → domain_states heap frames world (map (spent_in d) shared) owns ≡ map (paid_in d) (domain_states heap frames world shared owns)
payments_change heap frames d (x ∷ world) (s ∷ shared) (o ∷ owns) same =
    let test : (s.number.0 == d.0) ≡ (x.id.0 == d.0) = ap (λ (e : DomainId). e.0 == d.0) (same 0 x s refl refl) in
    let first : domain_state heap frames x (spent_in d s) o ≡ paid_in d (domain_state heap frames x s o) =
    ap (λ (t : Bool). domain_state heap frames x (cond t (record s { steps_left = option_map (λ (n : ℕ). n - 1) s.steps_left }) s) o) test
    ∙ payment_step (x.id.0 == d.0) heap frames x s o in
    λ i. first i ∷ payments_change heap frames d world shared owns (λ k names e at there. same (suc k) names e at there) i
payments_change heap frames d [] shared owns same = refl
payments_change heap frames d (x ∷ world) [] owns same = refl
payments_change heap frames d (x ∷ world) (s ∷ shared) [] same = refl

pub payments_change_machines : (p : MachineParts) (d : DomainId) → HaveOneList p → machine_of (record p { shared = spent d p.shared }) ≡ paid d (machine_of p)
payments_change_machines p d one =
    ap (λ (ds : List DomainState). record (machine_of p) { domains = ds })
    (payments_change p.heap p.frames d p.world.domains p.shared.domains p.owns (λ i names s at there. (one.same_number i names s at there).0))
