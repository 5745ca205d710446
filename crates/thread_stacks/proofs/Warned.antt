-- What a slot is after a neighbour was taken out: it is an orphan, or has a RevokedException pending, or is as before.
use Rattle.std.proofs.Common.{◌≡◌, ℕ, Bool, true, false, is_some, refl, ap, ◌∙◌}
use Rattle.std.specs.Prelude.{◌==◌, ◌&&◌, if◌then◌else◌}
use Rattle.jk_model_sharing.specs.Segments.{SharedSegment, as_orphan, with_revoked}
use Rattle.thread_stacks.specs.declared.segments.Flag.TheVariants.{Orphan, Revoked}
use Rattle.thread_stacks.specs.declared.slots.Slot.{Slot}
use Rattle.thread_stacks.specs.StackChanges.{hits, if_hit, slot_flagged, warned}
use Rattle.thread_stacks.specs.Stacks.{segment_of, stands_on}
use Rattle.thread_stacks.proofs.Relinked.{becomes, kept}

-- what is no flag stays
warned_keeps : {Y : Type 0} (field : Slot → Y) → ((x : Slot) → field (record x { orphan = true }) ≡ field x)
    → ((x : Slot) → field (record x { revoked = true }) ≡ field x) → (was x : Slot) (b : Bool)
    → field (if b then if_hit was.above (slot_flagged Orphan true) x else if_hit was.below (slot_flagged Revoked true) x) ≡ field x
warned_keeps field a r was x true = kept field was.above (slot_flagged Orphan true) x (a x)
warned_keeps field a r was x false = kept field was.below (slot_flagged Revoked true) x (r x)

module _ (was x : Slot) where
  pub warned_number : (warned was x).number ≡ x.number
  warned_number = warned_keeps (λ (y : Slot). y.number) (λ y. refl) (λ y. refl) was x (is_some was.above)

  pub warned_live : (warned was x).live ≡ x.live
  warned_live = warned_keeps (λ (y : Slot). y.live) (λ y. refl) (λ y. refl) was x (is_some was.above)

  pub warned_thread : (warned was x).thread ≡ x.thread
  warned_thread = warned_keeps (λ (y : Slot). y.thread) (λ y. refl) (λ y. refl) was x (is_some was.above)

  pub warned_domain : (warned was x).domain ≡ x.domain
  warned_domain = warned_keeps (λ (y : Slot). y.domain) (λ y. refl) (λ y. refl) was x (is_some was.above)

  pub warned_below : (warned was x).below ≡ x.below
  warned_below = warned_keeps (λ (y : Slot). y.below) (λ y. refl) (λ y. refl) was x (is_some was.above)

  pub warned_above : (warned was x).above ≡ x.above
  warned_above = warned_keeps (λ (y : Slot). y.above) (λ y. refl) (λ y. refl) was x (is_some was.above)

  pub warned_older : (warned was x).older ≡ x.older
  warned_older = warned_keeps (λ (y : Slot). y.older) (λ y. refl) (λ y. refl) was x (is_some was.above)

  pub warned_newer : (warned was x).newer ≡ x.newer
  warned_newer = warned_keeps (λ (y : Slot). y.newer) (λ y. refl) (λ y. refl) was x (is_some was.above)

  pub warned_on : (u : ℕ) → stands_on u (warned was x) ≡ stands_on u x
  warned_on u =
      ap (λ (b : Bool). b && ((warned was x).thread == u)) warned_live ∙ ap (λ (t : ℕ). x.live && (t == u)) warned_thread

-- its segment
abbrev pub told_of : Slot → Slot → SharedSegment
told_of was x =
    if is_some was.above then (if hits was.above x then as_orphan (segment_of x) else segment_of x)
    else (if hits was.below x then with_revoked true (segment_of x) else segment_of x)

pub warned_segment : (was x : Slot) → segment_of (warned was x) ≡ told_of was x
warned_segment was x = by_above (is_some was.above)
  where
    by_above : (b : Bool)
        → segment_of (if b then if_hit was.above (slot_flagged Orphan true) x else if_hit was.below (slot_flagged Revoked true) x)
        ≡ (if b then (if hits was.above x then as_orphan (segment_of x) else segment_of x)
        else (if hits was.below x then with_revoked true (segment_of x) else segment_of x))
    by_above true = becomes segment_of was.above (slot_flagged Orphan true) (as_orphan (segment_of x)) x refl
    by_above false = becomes segment_of was.below (slot_flagged Revoked true) (with_revoked true (segment_of x)) x refl
