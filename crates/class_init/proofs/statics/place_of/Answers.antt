-- The search goes by the places of the fields, which rise.
use Rattle.std.proofs.Common.{rules}
use Rattle.std.specs.Ordering.{nat_cmp}
use Rattle.std.proofs.lemmas.Fn.{always_returns_same}
use Rattle.class_init.specs.declared.statics.FieldSlot.{FieldSlot}
use Rattle.class_init.proofs.FieldOfAnIndex.{says_place}
use Rattle.class_init.proofs.statics.place_of.Goals as goal

pub returns : goal.returns
returns c =
    let found = c.binary_search_by.ensures.position (λ (s : FieldSlot). nat_cmp s.index c.args.index) (always_returns_same _ _ _ (λ a r f h. search rules)) in
    rw c.ok.ensures.value (says_place c.args.slots.now c.args.index c.binary_search_by.result c.requires c.binary_search_by.ensures.bound found)
