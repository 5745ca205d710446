-- One more type's class.
use Rattle.std.proofs.Common.{◌≡◌, ◌+◌, ℕ, List, Some, arith, refl, length, slice_get}
use Rattle.std.proofs.lemmas.Option.{slice_get_read}
use Rattle.jk_model_classes.specs.Items.{HasItem, HasItemBefore}
use Rattle.jk_model_classes.specs.References.{IsOfClass}
use Rattle.jk_model_classes.specs.Worlds.{class_named}
use Rattle.class_linker.proofs.NumbersAdded.{adds_as, adds_then}
use Rattle.name_rules.proofs.ItemsSoFar.{all_before, before_new, before_old, before_split, some_before}
use Rattle.class_linker.proofs.references.add_types.Goals as goal

pub loop-t-preserved : goal.loop-t-preserved
loop-t-preserved c =
    let types = c.args.types.now in
    let k = c.loop-t.t-index in
    let t = c.t-item.result in
    let at : slice_get types k ≡ Some t = slice_get_read types (length types) k t refl (omega arith) c.t-item.is in
    adds_then (class_named c.args.names.now) (λ (name : List ℕ). HasItemBefore k (IsOfClass name) types) (λ (name : List ℕ). IsOfClass name t)
    (λ (name : List ℕ). HasItemBefore (k + 1) (IsOfClass name) types) c.args.numbers.now.items c.loop-t.numbers.items c.add_base.new.numbers.items
    (λ name. before_old (IsOfClass name) types k) (λ name. before_new (IsOfClass name) types k t at) (λ name. before_split (IsOfClass name) types k t at)
    c.loop-t.invariant c.in_ok-add_base.ensures

pub returns : goal.returns
returns c =
    let types = c.args.types.now in
    let k = c.loop-t.t-index in
    adds_as (class_named c.args.names.now) (λ (name : List ℕ). HasItemBefore k (IsOfClass name) types) (λ (name : List ℕ). HasItem (IsOfClass name) types)
    c.args.numbers.now.items c.loop-t.numbers.items (λ name. some_before (IsOfClass name) types k) (λ name. all_before (IsOfClass name) types k (omega arith))
    c.loop-t.invariant
