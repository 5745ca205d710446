-- What holds of each content holds of a store's.
use Rattle.std.proofs.Common.{◌≡◌, ℕ, zero, suc, ◌+◌, ◌<◌, ◌≤◌, List, [], ◌∷◌, ◌++◌, Option, Some, None, IsSome, is_some, option_map, nat_eq, refl, sym, ap, subst, arith, inl}
use Rattle.std.specs.Option.{option_map_or}
use Rattle.std.specs.List.{AllByRecursion}
use Rattle.jk_model.specs.declared.identifiers.DomainId.{DomainId}
use Rattle.jk_model.specs.declared.identifiers.SegmentNo.{SegmentNo}
use Rattle.jk_model_frames.specs.Frames.{FrameState, frames_chunks, segment_chunks}
use Rattle.indexmap.specs.IndexMap.{IndexMap, get}
use Rattle.frame_store.specs.declared.domain_frames.DomainFrames.{DomainFrames}
use Rattle.number_table.specs.declared.entry_table.Place.{Place}
use Rattle.number_table.specs.NumberPlaces.{NumberPlaces}
use Rattle.frame_store.specs.FrameContents.{StoredSegment, IsContent, IsSized, IsAdmitted}
use Rattle.number_table.specs.ChainMoves.{place}
use Rattle.frame_store.specs.SlotMoves.{number_of, place_in}
use Rattle.number_table.specs.NumberPlaces as table
use Rattle.frame_store.specs.FrameBlocks.{build, record_at, value_of, cost_in}
use Rattle.frame_store.specs.DomainMoves.{depth_of, frames_of, value_at}
use Rattle.frame_store.specs.StoreContents.{content_of, stored, IsStore}
use Rattle.frame_store.specs.Builds.{length-build, chunks-build}
use Rattle.number_table.proofs.SumsBelow.{le_sum_below}

-- ---- Of a domain.

pub frames_cost : (x : DomainFrames) (i : ℕ) → frames_chunks (frames_of x i) ≡ cost_in x.frames x.records.items i
frames_cost x i = chunks-build (λ k. value_at x (place x.frames i k)) (depth_of x i)

pub segment_paid : (x : DomainFrames) (i : ℕ) → i < x.chunks → place_in x.slots i < x.slots.live → segment_chunks (frames_of x i) ≤ x.used
segment_paid x i lt live = omega (arith, frames_cost x i, x.ok.uses, le_sum_below (cost_in x.frames x.records.items) i x.chunks lt)

all_with : (xs : List FrameState) (y : FrameState) → AllByRecursion IsSized xs → IsSized y → AllByRecursion IsSized (xs ++ y ∷ [])
all_with [] y all here = (here, tt)
all_with (x ∷ xs) y all here = (all.0, all_with xs y all.1 here)

sized_build : (f : ℕ → FrameState) (n : ℕ) → ((k : ℕ) → k < n → IsSized (f k)) → AllByRecursion IsSized (build f n)
sized_build f zero h = tt
sized_build f (suc n) h = all_with (build f n) (f n) (sized_build f n (λ k lt. h k (omega arith))) (h n (omega arith))

pub frames_sized : (x : DomainFrames) (i : ℕ) → i < x.chunks → AllByRecursion IsSized (frames_of x i)
frames_sized x i lt =
    sized_build (λ k. value_at x (place x.frames i k)) (depth_of x i)
    (λ k low.
    let f = place x.frames i k in
    let r = record_at x.records.items f in
    let height = length-build (λ q. value_of x.parts x.values.items f (r.head.max_locals + q)) r.height in
    record {
      locals = length-build (value_of x.parts x.values.items f) r.head.max_locals;
      stack = omega (arith, height, (x.ok.framed i k lt low).low);
    })

-- ---- Of a store.

-- a place with its domain
pub record StandsIn {S : Type 0} (domains : IndexMap ℕ DomainFrames S) (s : ℕ) (p : Place) (x : DomainFrames) : Type 0 where
  pub is : get nat_eq domains p.domain ≡ Some x
  pub within : p.slot < x.chunks
  pub live : place_in x.slots p.slot < x.slots.live
  pub number : number_of x.slots p.slot ≡ s

stands_by : {S : Type 0} (domains : IndexMap ℕ DomainFrames S) (s : ℕ) (p : Place) (o : Option DomainFrames) → get nat_eq domains p.domain ≡ o
    → p.slot < option_map_or (λ (x : DomainFrames). x.chunks) o 0
    → option_map_or (λ (x : DomainFrames). place_in x.slots p.slot) o 0 < option_map_or (λ (x : DomainFrames). x.slots.live) o 0
    → option_map_or (λ (x : DomainFrames). number_of x.slots p.slot) o 0 ≡ s
    → (x : DomainFrames) × StandsIn domains s p x
stands_by domains s p None e a b c = absurd (omega arith)
stands_by domains s p (Some x) e a b c = (x, record { is = e; within = a; live = b; number = c })

pub stands : {S : Type 0} (domains : IndexMap ℕ DomainFrames S) (places : NumberPlaces) (owed : ℕ) → IsStore domains places owed
    → (s : ℕ) (p : Place) → table.place_of places s ≡ Some p → (x : DomainFrames) × StandsIn domains s p x
stands domains places owed h s p e =
    stands_by domains s p (get nat_eq domains p.domain) refl (h.in_domain s p e) (h.is_live s p e) (h.has_number s p e)

-- a stored segment with its place
pub record HasPlace {S : Type 0} (domains : IndexMap ℕ DomainFrames S) (places : NumberPlaces) (s : ℕ) (g : StoredSegment) : Type 0 where
  pub place : Place
  pub domain : DomainFrames
  pub at : table.place_of places s ≡ Some place
  pub stands : StandsIn domains s place domain
  pub is : g ≡ record { domain = record { 0 = place.domain }; frames = frames_of domain place.slot }

placed_by : {S : Type 0} (domains : IndexMap ℕ DomainFrames S) (places : NumberPlaces) (owed : ℕ) → IsStore domains places owed
    → (s : ℕ) (g : StoredSegment) (o : Option Place) → table.place_of places s ≡ o → stored domains o ≡ Some g → HasPlace domains places s g
placed_by domains places owed h s g None e f = absurd (cc)
placed_by domains places owed h s g (Some p) e f =
    let x = stands domains places owed h s p e in
    let is : stored domains (Some p) ≡ Some (record { domain = record { 0 = p.domain }; frames = frames_of x.0 p.slot }) =
    ap (option_map (λ (y : DomainFrames). let t : StoredSegment = record { domain = record { 0 = p.domain }; frames = frames_of y p.slot } in t)) x.1.is in
    record { place = p; domain = x.0; at = e; stands = x.1; is = cc }

pub placed : {S : Type 0} (domains : IndexMap ℕ DomainFrames S) (places : NumberPlaces) (owed : ℕ) → IsStore domains places owed
    → (s : SegmentNo) (g : StoredSegment) → (content_of domains places).segment s ≡ Some g → HasPlace domains places s.0 g
placed domains places owed h s g e = placed_by domains places owed h s.0 g (table.place_of places s.0) refl e

le_by : (a b c : ℕ) → a ≤ b → c ≡ b → a ≤ c
le_by a b c h e = omega arith

owned_by : (o : Option DomainFrames) (x : DomainFrames) (g : StoredSegment) → o ≡ Some x → segment_chunks g.frames ≤ x.used
    → IsSome (option_map (λ (y : DomainFrames). y.chunks) o) × (segment_chunks g.frames ≤ option_map_or (λ (y : DomainFrames). y.used) o 0)
owned_by o x g e le = (
  ap (λ p. is_some (option_map (λ (y : DomainFrames). y.chunks) p)) e,
  le_by (segment_chunks g.frames) x.used (option_map_or (λ (y : DomainFrames). y.used) o 0) le (ap (λ p. option_map_or (λ (y : DomainFrames). y.used) p 0) e),
)

within_by : (o : Option DomainFrames) (q : ℕ) → option_map (λ (y : DomainFrames). y.chunks) o ≡ Some q
    → (option_map_or (λ (y : DomainFrames). y.used) o 0 ≤ q) × (1 ≤ q) × (q ≤ 262144)
within_by None q e = absurd (cc)
within_by (Some x) q e =
    let same : x.chunks ≡ q = cc in
    (omega (arith, x.ok.within), omega (arith, x.ok.least), omega (arith, x.ok.most))

unused_by : (o : Option DomainFrames) → option_map (λ (y : DomainFrames). y.chunks) o ≡ None → option_map_or (λ (y : DomainFrames). y.used) o 0 ≡ 0
unused_by None e = refl
unused_by (Some x) e = absurd (cc)

pub store_holds : {S : Type 0} (domains : IndexMap ℕ DomainFrames S) (places : NumberPlaces) (owed : ℕ) → IsStore domains places owed
    → IsContent (content_of domains places)
store_holds domains places owed h =
    record {
      owned =
          λ s g e.
          let p = placed domains places owed h s g e in
          let paid : segment_chunks g.frames ≤ p.domain.used =
          let P : StoredSegment → Type 0 = λ (t : StoredSegment). segment_chunks t.frames ≤ p.domain.used in
          subst P (sym p.is) (segment_paid p.domain p.place.slot p.stands.within p.stands.live) in
          let P : DomainId → Type 0 = λ (t : DomainId). IsAdmitted (content_of domains places) t
          × (segment_chunks g.frames ≤ (content_of domains places).used t) in
          subst P (sym (ap (λ (t : StoredSegment). t.domain) p.is))
          (owned_by (get nat_eq domains p.place.domain) p.domain g p.stands.is paid);
      sized =
          λ s g e.
          let p = placed domains places owed h s g e in
          let P : StoredSegment → Type 0 = λ (t : StoredSegment). AllByRecursion IsSized t.frames in
          subst P (sym p.is) (frames_sized p.domain p.place.slot p.stands.within);
      within = λ d q e. within_by (get nat_eq domains d.0) q e;
      unused = λ d e. (unused_by (get nat_eq domains d.0) e, refl);
      placed = λ d q e. inl (refl, refl);
    }
