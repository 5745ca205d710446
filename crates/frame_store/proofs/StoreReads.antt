-- A frame of a segment by how many are below it.
use Rattle.std.proofs.Common.{◌≡◌, ℕ, zero, suc, ◌-◌, ◌<◌, ◌≤◌, List, [], ◌∷◌, length, Some, None, slice_get, refl, sym, ap, arith, ◌∙◌}
use Rattle.std.proofs.lemmas.Option.{slice_get_within, same_Some}
use Rattle.jk_model.specs.declared.identifiers.SegmentNo.{SegmentNo}
use Rattle.jk_model_frames.specs.Frames.{FrameState}
use Rattle.indexmap.specs.IndexMap.{IndexMap}
use Rattle.frame_store.specs.declared.domain_frames.DomainFrames.{DomainFrames}
use Rattle.number_table.specs.NumberPlaces.{NumberPlaces}
use Rattle.frame_store.specs.FrameContents.{StoredSegment, FrameAt}
use Rattle.number_table.specs.ChainMoves.{place}
use Rattle.frame_store.specs.DomainMoves.{depth_of, frames_of, value_at}
use Rattle.frame_store.specs.StoreContents.{content_of, IsStore, IsFound}
use Rattle.frame_store.specs.Builds.{length-build}
use Rattle.frame_store.proofs.StoreChanges.{segment_in, found_segment}

pub get_past : {A : Type 0} (xs : List A) (n : ℕ) → length xs ≤ n → slice_get xs n ≡ None
get_past [] n le = refl
get_past (y ∷ xs) zero le = absurd (omega arith)
get_past (y ∷ xs) (suc n) le = get_past xs n (omega arith)

pub positive : (b n l : ℕ) → b < l → n ≡ l → 1 ≤ n
positive b n l h e = omega arith

pub below_last : (b n l : ℕ) → b < l → n ≡ l → b ≤ n - 1
below_last b n l h e = omega arith

pub in_stack : (b n l k : ℕ) → b < l → n ≡ l → n ≡ k → n - 1 - b < k
in_stack b n l k h e f = omega arith

pub index_below : (a b i : ℕ) → a ≡ b → a ≤ i → b ≤ i
index_below a b i e h = omega arith

low_by : (n a b : ℕ) → n < a → a ≡ b → n < b
low_by n a b h e = omega arith

module _ {S : Type 0} (m : IndexMap ℕ DomainFrames S) (t : NumberPlaces) (owed : ℕ) (s : SegmentNo) (h : IsStore m t owed) (x : DomainFrames) (i : ℕ)
    (f : IsFound m t s.0 x i) (n : ℕ) (g : FrameState) (at : FrameAt (content_of m t) s n g) where
  get_is : slice_get (frames_of x i) n ≡ Some g
  get_is =
      let same = same_Some (segment_in x f.domain i) at.0 (sym (found_segment m t owed s h x i f) ∙ at.1) in
      ap (λ (k : StoredSegment). slice_get k.frames n) same ∙ at.2

  pub frame_low : n < depth_of x i
  frame_low =
      low_by n (length (frames_of x i)) (depth_of x i) (slice_get_within (frames_of x i) n g get_is)
      (length-build (λ k. value_at x (place x.frames i k)) (depth_of x i))

  pub frame_is : (v : FrameState) → slice_get (frames_of x i) n ≡ Some v → g ≡ v
  frame_is v e = same_Some g v (sym get_is ∙ e)
