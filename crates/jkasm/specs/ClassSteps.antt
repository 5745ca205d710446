-- What an item adds to the class that is built, and when it can't be added.
use Rattle.std.specs.Prelude.{◌≡◌, List, Some}
use Rattle.jk_model.specs.declared.class_file.PoolEntry.{PoolEntry}
use Rattle.asm_reader.specs.declared.items.Item.{Item}
use Rattle.asm_reader.specs.declared.items.LineReading.{LineReading}
use Rattle.jkasm.specs.declared.class_builder.ClassBuilder.{ClassBuilder}
use Rattle.jkasm.specs.Building.{IsBuilt}
use Rattle.jkasm.specs.Constants.{for_item}
use Rattle.jkasm.specs.GoodLines.{IsGoodInUnfinished}
use Rattle.jkasm.specs.Limits.{IsWithinLimits}
use Rattle.jkasm.specs.Outline.{Outline, after_item, items_of, codes_to_end}
use Rattle.jkasm.specs.PoolGrowth.{Takes, HasNoRoom}

pub record Adds (o : Outline) (item : Item) (later : List LineReading) (old_pool : List PoolEntry) (new : ClassBuilder) : Type 0 where
  pub next : Outline
  pub stands : after_item o item ≡ Some next
  pub labels : IsGoodInUnfinished o.unfinished item (codes_to_end (items_of later))
  pub limits : IsWithinLimits next
  pub takes : Takes old_pool new.pool (for_item item later)
  pub built : IsBuilt next later new

-- it may not stand there, or a label or a limit is at fault, or the pool has no room
abbrev pub CannotBeAdded : Outline → Item → List LineReading → List PoolEntry → Type 0
CannotBeAdded o item later old_pool =
    (next : Outline) → after_item o item ≡ Some next → IsGoodInUnfinished o.unfinished item (codes_to_end (items_of later))
    → IsWithinLimits next → HasNoRoom old_pool (for_item item later)
