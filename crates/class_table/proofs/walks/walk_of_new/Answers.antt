-- The set has the classes of the walk in their order.
use Rattle.std.proofs.Common.{◌≡◌, [], ◌∷◌, length, flat_map, nat_eq, ap, ◌∙◌}
use Rattle.indexmap.specs.IndexSet.{insert_key}
use Rattle.jk_model_classes.specs.Classes.{with_interfaces}
use Rattle.class_table.specs.Entries.{records}
use Rattle.class_table.specs.Walks.{classes_numbered, with_all}
use Rattle.class_table.proofs.WalkOfNew.{walk-new}
use Rattle.class_table.proofs.walks.walk_of_new.Goals as goal

pub returns : goal.returns
returns c =
    let entries = c.args.entries.now in
    let n = length entries in
    let with = with_interfaces (records entries) in
    let alone : c.insert.new.self.keys ≡ n ∷ [] = c.in_ok-insert.ensures.keys ∙ ap (λ keys. insert_key nat_eq keys n) c.new-seen.ensures.empty in
    let own = c.add_interfaces.new.seen.keys in
    let own_is : own ≡ with_all (n ∷ []) (flat_map with c.args.class.now.interfaces)
    = c.in_ok-add_interfaces.ensures
    ∙ ap (λ keys. with_all keys (flat_map with c.as_slice.result.now)) alone
    ∙ ap (λ interfaces. with_all (n ∷ []) (flat_map with interfaces)) c.as_slice.ensures in
    walk-new entries c.requires.table c.args.class.now c.requires.above own c.add_parent.new.seen.keys (length c.as_slice-own.result.now)
    c.in_ok-classes.classes own_is c.in_ok-add_parent.ensures (ap length c.as_slice-own.ensures.keys)
    (c.in_ok-classes.ensures ∙ ap classes_numbered c.as_slice-2.ensures.keys)
