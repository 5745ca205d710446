-- A label that has no place yet is put to the others.
use Rattle.std.proofs.Common.{◌≡◌, ℕ, ◌∙◌, Vec, Global, sym, ap, Some, false, is_some}
use Rattle.jkasm.specs.declared.labels.Labels.{Labels}
use Rattle.jkasm.specs.LabelTables.{known}
use Rattle.jkasm.proofs.KeysByBytes.{get_by-updates}
use Rattle.jkasm.proofs.LabelsInTurn.{notes_new}
use Rattle.jkasm.proofs.labels.Labels.note.Goals as goal

pub returns : goal.returns
returns c =
    let own = c.in_ok-key.key.items in
    let old = c.args.self.now in
    let new : Labels = record { places = c.insert.new.self } in
    let key : own ≡ c.in-Some.label = c.in_ok-key.ensures.items ∙ c.as_slice-2.ensures in
    let missing : is_some (known old own) ≡ false =
    ap (λ bs. is_some (known old bs)) (key ∙ sym c.as_slice.ensures) ∙ sym c.if-contains_key.ensures in
    let named : c.args.line.now.label ≡ Some own = c.in-Some.is ∙ ap (λ bs. Some bs) (sym key) in
    rw named (notes_new old new own c.args.at missing
    (get_by-updates (λ (k : Vec ℕ Global). k.items) old.places new.places own (Some c.args.at) c.in_ok-insert.ensures.updates))
