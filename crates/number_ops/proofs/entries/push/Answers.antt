-- The entry that the store pushes is on top.
use Rattle.std.proofs.Common.{◌∷◌, ◌++◌, [], List, ap, ◌∙◌}
use Rattle.std.proofs.lemmas.List.{append-nil}
use Rattle.jk_model.specs.declared.values.Value.{Value}
use Rattle.number_laws.proofs.FrameParts.{with_stack}
use Rattle.number_ops.proofs.entries.push.Goals as goal

pub returns : goal.returns
returns g c =
    let on = c.requires in
    let low = on.stack ∙ append-nil on.below in
    record {
      before = on.frame;
      after = with_stack on.frame (on.frame.stack ++ c.args.v ∷ []);
      becomes = record { top = on.top; sets = c.push_value.ensures on.frame on.top };
      replaces = record { below = on.below; before = on.stack; after = ap (λ (xs : List Value). with_stack on.frame (xs ++ c.args.v ∷ [])) low };
    }
