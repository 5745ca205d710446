-- A label is put to those that were met, or is one of them.
use Rattle.std.proofs.Common.{ℕ, ◌∙◌, Vec, Global, sym, ap, Some, true}
use Rattle.jkasm.specs.declared.labels.SeenLabels.{SeenLabels}
use Rattle.jkasm.proofs.KeysByBytes.{contains_by-updates}
use Rattle.jkasm.proofs.LabelsInTurn.{seen_again, seen_new}
use Rattle.jkasm.proofs.labels.SeenLabels.meet.Goals as goal

pub returns-then-contains-clause-seen : goal.returns-then-contains-clause-seen
returns-then-contains-clause-seen c =
    λ codes line are is. seen_again codes line c.args.self.now c.args.label.now are is (sym c.if-contains.ensures)

pub returns-clause-seen : goal.returns-clause-seen
returns-clause-seen c =
    let own = c.in_ok-key.key.items in
    let old = c.args.self.now in
    let new : SeenLabels = record { labels = c.insert.new.self } in
    λ codes line are is. seen_new codes line old new own are (is ∙ ap (λ bs. Some bs) (sym c.in_ok-key.ensures.items))
    (contains_by-updates (λ (k : Vec ℕ Global). k.items) old.labels new.labels own true c.in_ok-insert.ensures.updates)
