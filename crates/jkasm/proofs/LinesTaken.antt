-- A line is taken into the class of those before it, or is the first at fault; and how a text ends.
use Rattle.std.proofs.Common.{◌≡◌, ℕ, suc, ◌<◌, inl, List, [], ◌∷◌, ◌++◌, length, drop, Some, slice_get, refl, sym, ◌∙◌, subst, arith, add-one, below_more}
use Rattle.std.specs.List.{AllByRecursion}
use Rattle.std.proofs.lemmas.List.{append-nil}
use Rattle.list_lemmas.proofs.ItemsByPlace.{drop_next}
use Rattle.jk_model.specs.declared.class_file.PoolEntry.{PoolEntry}
use Rattle.asm_reader.specs.declared.items.Item.{Item}
use Rattle.asm_reader.specs.declared.items.LineReading.{LineReading}
use Rattle.asm_reader.specs.declared.items.LineReading.TheVariants.{Empty, Short, Long, Bad}
use Rattle.jkasm.specs.declared.class_builder.ClassBuilder.{ClassBuilder}
use Rattle.jkasm.specs.Building.{IsBuilt}
use Rattle.jkasm.specs.ClassSteps.{Adds, CannotBeAdded}
use Rattle.jkasm.specs.ConstantRanges.{AreInRange}
use Rattle.jkasm.specs.Constants.{PoolConstant, HasJust, for_item, needed_first}
use Rattle.jkasm.specs.GoodLines.{IsGoodInUnfinished, IsGoodItem, IsGoodReading, IsGoodLine, AreGoodBefore, IsFirstFaulty}
use Rattle.jkasm.specs.Limits.{FitPool, IsWithinLimits}
use Rattle.jkasm.specs.Outline.{Outline, nothing_yet, after_item, items_of, codes_to_end}
use Rattle.jkasm.specs.WholeText.{IsSoundReading, IsBuiltSoFar}
use Rattle.jkasm.proofs.ItemsAdded.{empty_passed}
use Rattle.jkasm.proofs.OutlinesInTurn.{outline_next, outline_same, needed_next, needed_in_range}

-- nothing is built of no lines
pub nothing_built : (readings : List LineReading) (b : ClassBuilder) → IsBuilt nothing_yet readings b → HasJust b.pool []
    → IsBuiltSoFar readings 0 b
nothing_built readings b built pool = record {
  good = λ i below. absurd (omega arith);
  so_far = nothing_yet;
  outline_is = refl;
  built = built;
  limits = record { class = tt; fields = omega arith; methods = omega arith; ended = tt; unfinished = tt };
  pool = pool;
}

module _ (readings : List LineReading) (i : ℕ) where
  good_line : (r : LineReading) → slice_get readings i ≡ Some r → IsGoodReading readings i (Some r) → IsGoodLine readings i
  good_line r at good = rw at good

  good_so_far : AreGoodBefore readings i → IsGoodLine readings i → AreGoodBefore readings (suc i)
  good_so_far before here = rw (← add-one i) (below_more (IsGoodLine readings) i before here)

  pub empty_taken : (b : ClassBuilder) → slice_get readings i ≡ Some Empty → IsBuiltSoFar readings i b → IsBuiltSoFar readings (suc i) b
  empty_taken b at so = record {
    good = good_so_far so.good (good_line Empty at tt);
    so_far = so.so_far;
    outline_is = outline_same readings i so.so_far at so.outline_is;
    built = empty_passed so.so_far (drop (suc i) readings) b
        (subst (λ (later : List LineReading). IsBuilt so.so_far later b) (drop_next readings i Empty at) so.built);
    limits = so.limits;
    pool = subst (HasJust b.pool) (sym (needed_next readings i Empty at ∙ append-nil (needed_first i readings))) so.pool;
  }

  module _ (item : Item) (at : slice_get readings i ≡ Some (Short item)) (old : ClassBuilder) (so : IsBuiltSoFar readings i old) where
    built_here : IsBuilt so.so_far (Short item ∷ drop (suc i) readings) old
    built_here = subst (λ (later : List LineReading). IsBuilt so.so_far later old) (drop_next readings i (Short item) at) so.built

    short_pool : (new : List PoolEntry) → ((before : List PoolConstant) → HasJust old.pool before
        → HasJust new (before ++ for_item item (drop (suc i) readings))) → HasJust new (needed_first (suc i) readings)
    short_pool new just = subst (HasJust new) (sym (needed_next readings i (Short item) at)) (just (needed_first i readings) so.pool)

    short_taken : (new : ClassBuilder) → Adds so.so_far item (drop (suc i) readings) old.pool new → FitPool (needed_first (suc i) readings)
        → IsBuiltSoFar readings (suc i) new
    short_taken new adds fit = record {
      good = good_so_far so.good (good_line (Short item) at (record {
        so_far = so.so_far;
        before = so.outline_is;
        next = adds.next;
        stands = adds.stands;
        labels = adds.labels;
        limits = adds.limits;
        pool = fit;
      }));
      so_far = adds.next;
      outline_is = outline_next readings i item so.so_far adds.next at so.outline_is adds.stands;
      built = adds.built;
      limits = adds.limits;
      pool = short_pool new.pool adds.takes.just;
    }

    bad_item : CannotBeAdded so.so_far item (drop (suc i) readings) old.pool → IsGoodItem readings i item → ⊥
    bad_item cannot good =
        let same : good.so_far ≡ so.so_far = let e = sym good.before ∙ so.outline_is in cc in
        cannot good.next (subst (λ (o : Outline). after_item o item ≡ Some good.next) same good.stands)
        (subst (λ (o : Outline). IsGoodInUnfinished o.unfinished item (codes_to_end (items_of (drop (suc i) readings)))) same good.labels)
        good.limits (needed_first i readings) so.pool (subst FitPool (needed_next readings i (Short item) at) good.pool)

    short_at_fault : CannotBeAdded so.so_far item (drop (suc i) readings) old.pool → i < length readings → IsFirstFaulty readings (suc i)
    short_at_fault cannot below = (i, refl, so.good, inl (below, λ good. bad_item cannot (rw at at good)))

    -- the same, where the lines after it are a slice
    pub refused_before : (later : List LineReading) → later ≡ drop (suc i) readings → i < length readings
        → (IsBuilt so.so_far (Short item ∷ later) old → IsWithinLimits so.so_far → CannotBeAdded so.so_far item later old.pool)
        → IsFirstFaulty readings (suc i)
    refused_before later rest below cannot =
        let here = rw rest at cannot in
        short_at_fault (here built_here so.limits) below

    pub taken_before : (later : List LineReading) → later ≡ drop (suc i) readings → (new : ClassBuilder)
        → (IsBuilt so.so_far (Short item ∷ later) old → IsWithinLimits so.so_far → Adds so.so_far item later old.pool new)
        → ((constants : List PoolConstant) → HasJust new.pool constants → AreInRange constants → FitPool constants)
        → AllByRecursion IsSoundReading readings → IsBuiltSoFar readings (suc i) new
    taken_before later rest new add fit sound =
        let here = rw rest at add in
        let adds : Adds so.so_far item (drop (suc i) readings) old.pool new = here built_here so.limits in
        let pool = short_pool new.pool adds.takes.just in
        short_taken new adds (fit (needed_first (suc i) readings) pool (needed_in_range (suc i) readings sound))

  -- neither empty nor a short item
  pub other_at_fault : (r : LineReading) → slice_get readings i ≡ Some r → (r ≡ Empty → ⊥) → ((item : Item) → r ≡ Short item → ⊥)
      → AreGoodBefore readings i → i < length readings → IsFirstFaulty readings (suc i)
  other_at_fault Empty at some long before below = absurd (some refl)
  other_at_fault (Short item) at some long before below = absurd (long item refl)
  other_at_fault (Long item) at some long before below = (i, refl, before, inl (below, λ good. rw at at good))
  other_at_fault Bad at some long before below = (i, refl, before, inl (below, λ good. rw at at good))
