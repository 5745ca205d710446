-- Threads are listed: the segments of each are gone over from the top down, and the threads one after the other.
use Rattle.std.proofs.Common.{◌≡◌, ℕ, ◌+◌, suc, add-one, true, false, List, [], ◌∷◌, ◌++◌, map, take, reverse, find, Option, Some, None, slice_get, refl, sym, ap, ◌∙◌, append-nil}
use Rattle.std.proofs.lemmas.List.{map-append, reverse-append}
use Rattle.std.proofs.lemmas.List.Elements.{filter-append}
use Rattle.list_lemmas.proofs.LastItems.{take_next}
use Rattle.jk_model.specs.declared.identifiers.SegmentNo.{SegmentNo}
use Rattle.jk_model_sharing.specs.Segments.{SharedThread, has_segments, live_threads}
use Rattle.thread_stacks.specs.declared.entries.ThreadEntry.{ThreadEntry}
use Rattle.thread_stacks.specs.declared.parts.SegmentPart.{SegmentPart}
use Rattle.thread_stacks.specs.declared.parts.ThreadPart.{ThreadPart}
use Rattle.thread_stacks.specs.declared.slots.Slot.{Slot}
use Rattle.thread_stacks.specs.Places.{AreRisingBy, has_key}
use Rattle.thread_stacks.specs.StackParts.{segment_part, thread_part}
use Rattle.thread_stacks.specs.Stacks.{NameBelows, is_running, segment_of, slot_key, stack_of, stands_on, thread_of, threads_of, top_on}
use Rattle.thread_stacks.proofs.Filtered.{filter_hit, filter_miss}
use Rattle.thread_stacks.proofs.StacksWalked.{IsWalked, all_walked, none_done, now_done, walk_begins, walk_goes_on}
use Rattle.thread_stacks.proofs.ThreadsAfter.{runs}

-- ---- The segments of a thread.

abbrev pub slot_part : Slot → SegmentPart
slot_part s = segment_part (segment_of s)

-- Those that were looked at are listed, the lowest last.
pub record IsListed (slots : List Slot) (t : ℕ) (next : Option SegmentNo) (parts : List SegmentPart) : Type 0 where
  pub walk : IsWalked slots (stands_on t) next
  pub listed : reverse parts ≡ map slot_part walk.done

pub listing_begins : (slots : List Slot) (t : ℕ) (next : Option SegmentNo) (parts : List SegmentPart) → next ≡ top_on t slots → parts ≡ []
    → IsListed slots t next parts
listing_begins slots t next parts is none =
    record {
      walk = walk_begins slots (stands_on t) next is;
      listed = ap (λ (ps : List SegmentPart). reverse ps) none ∙ sym (ap (λ (ss : List Slot). map slot_part ss) (none_done slots (stands_on t) next is));
    }

map_twice : (ss : List Slot) → map segment_part (map segment_of ss) ≡ map slot_part ss
map_twice [] = refl
map_twice (s ∷ ss) = ap (λ (ps : List SegmentPart). slot_part s ∷ ps) (map_twice ss)

pub all_listed : (slots : List Slot) (t : ℕ) (parts : List SegmentPart) → IsListed slots t None parts
    → reverse parts ≡ map segment_part (stack_of t slots)
all_listed slots t parts l =
    l.listed ∙ sym (map_twice l.walk.done ∙ refl) ∙ ap (λ (ss : List Slot). map segment_part (map segment_of ss)) (sym (all_walked slots (stands_on t) l.walk))

pub listing_goes_on : (slots : List Slot) (t : ℕ) (n : SegmentNo) (rising : AreRisingBy slot_key slots) (parts more : List SegmentPart)
    (l : IsListed slots t (Some n) parts) (s : Slot) → find (has_key slot_key n.0) slots ≡ Some s → NameBelows slots → more ≡ parts ++ slot_part s ∷ []
    → IsListed slots t s.below more
listing_goes_on slots t n rising parts more l s is belows becomes = record {
  walk = walk_goes_on slots t n rising l.walk s is belows;
  listed =
      ap (λ (ps : List SegmentPart). reverse ps) becomes ∙ reverse-append parts (slot_part s ∷ [])
      ∙ ap (λ (ps : List SegmentPart). slot_part s ∷ ps) l.listed
      ∙ sym (ap (λ (ss : List Slot). map slot_part ss) (now_done slots t n rising l.walk s is belows));
}

-- ---- Threads.

threads_more : (slots : List Slot) (es : List ThreadEntry) (e : ThreadEntry)
    → threads_of slots (es ++ e ∷ []) ≡ threads_of slots es ++ live_threads (thread_of slots e ∷ [])
threads_more slots es e =
    ap (λ (ts : List SharedThread). live_threads ts) (map-append (thread_of slots) es (e ∷ []))
    ∙ filter-append has_segments (map (thread_of slots) es) (thread_of slots e ∷ [])

module _ (slots : List Slot) (es : List ThreadEntry) (k : ℕ) (e : ThreadEntry) (at : slice_get es k ≡ Some e) (top : e.top ≡ top_on e.number slots) where
  -- the thread isn't live
  passed_over : is_running e ≡ false → threads_of slots (take (suc k) es) ≡ threads_of slots (take k es)
  passed_over off =
      ap (λ (xs : List ThreadEntry). threads_of slots xs) (take_next es k e at) ∙ threads_more slots (take k es) e
      ∙ ap (λ (ts : List SharedThread). threads_of slots (take k es) ++ ts) (filter_miss has_segments (thread_of slots e) [] (runs slots e top ∙ off))
      ∙ append-nil (threads_of slots (take k es))

  -- it is
  passed : is_running e ≡ true → threads_of slots (take (suc k) es) ≡ threads_of slots (take k es) ++ thread_of slots e ∷ []
  passed on =
      ap (λ (xs : List ThreadEntry). threads_of slots xs) (take_next es k e at) ∙ threads_more slots (take k es) e
      ∙ ap (λ (ts : List SharedThread). threads_of slots (take k es) ++ ts) (filter_hit has_segments (thread_of slots e) [] (runs slots e top ∙ on))

  listed_more : is_running e ≡ true → (parts : List ThreadPart) → parts ≡ map thread_part (threads_of slots (take k es))
      → parts ++ thread_part (thread_of slots e) ∷ [] ≡ map thread_part (threads_of slots (take (suc k) es))
  listed_more on parts so_far =
      ap (λ (ps : List ThreadPart). ps ++ thread_part (thread_of slots e) ∷ []) so_far
      ∙ sym (map-append thread_part (threads_of slots (take k es)) (thread_of slots e ∷ []))
      ∙ sym (ap (λ (ts : List SharedThread). map thread_part ts) (passed on))

  pub goes_on_with : is_running e ≡ true → (parts more : List ThreadPart) (segments : List SegmentPart)
      → segments ≡ map segment_part (stack_of e.number slots) → parts ≡ map thread_part (threads_of slots (take k es))
      → more ≡ parts ++ record { number = record { 0 = e.number }; domain = e.domain; segments = segments } ∷ []
      → more ≡ map thread_part (threads_of slots (take (k + 1) es))
  goes_on_with on parts more segments are so_far becomes =
      becomes
      ∙ ap (λ (ss : List SegmentPart). parts ++ record { number = record { 0 = e.number }; domain = e.domain; segments = ss } ∷ []) are
      ∙ listed_more on parts so_far
      ∙ ap (λ (n : ℕ). map thread_part (threads_of slots (take n es))) (sym (add-one k))

  pub goes_on_without : is_running e ≡ false → (parts more : List ThreadPart) → parts ≡ map thread_part (threads_of slots (take k es)) → more ≡ parts
      → more ≡ map thread_part (threads_of slots (take (k + 1) es))
  goes_on_without off parts more so_far same =
      same ∙ so_far ∙ sym (ap (λ (ts : List SharedThread). map thread_part ts) (passed_over off))
      ∙ ap (λ (n : ℕ). map thread_part (threads_of slots (take n es))) (sym (add-one k))
