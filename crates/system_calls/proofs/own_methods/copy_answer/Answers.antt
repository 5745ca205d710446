-- The values that are read are those that are given.
use Rattle.std.proofs.Common.{◌≡◌, ◌∙◌, [], ◌∷◌, to_z, of_z, w32, rules}
use Rattle.jk_model.specs.declared.values.Value.TheVariants as Held
use Rattle.system_calls.proofs.own_methods.copy_answer.Goals as goal

pub returns-clause-row : goal.returns-clause-row
returns-clause-row g c = λ x inside is caps.
    let r = c.five_values-source.result in
    let from : to_z w32 (of_z w32 c.int_of.result) ≡ c.int_of.result = search rules in
    let to : to_z w32 (of_z w32 c.int_of-2.result) ≡ c.int_of-2.result = search rules in
    let count : to_z w32 (of_z w32 c.int_of-3.result) ≡ c.int_of-3.result = search rules in
    let second = c.int_of.ensures in
    let fourth = c.int_of-2.ensures in
    let fifth = c.int_of-3.ensures in
    let read = c.five_values-source.ensures in
    let row = c.copy_array.ensures.row x inside is caps in
    let same : c.args.given.now
    ≡ r.0 ∷ Held.Int (to_z w32 (of_z w32 c.int_of.result)) ∷ r.2 ∷ Held.Int (to_z w32 (of_z w32 c.int_of-2.result))
    ∷ Held.Int (to_z w32 (of_z w32 c.int_of-3.result)) ∷ [] = cc in
    (row.0, same ∙ row.1, row.2)
