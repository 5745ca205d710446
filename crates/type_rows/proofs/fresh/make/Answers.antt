-- The fresh object is pushed, and others that the instruction made are gone.
use Rattle.type_rows.specs.CodeViews.{scope_of}
use Rattle.jk_model_typing.specs.Rows.{is_made_at}
use Rattle.type_rows.proofs.LocalsAreDone.{made, made_at}
use Rattle.type_rows.proofs.fresh.make.Goals as goal

pub returns : goal.returns
returns c =
    made (scope_of c.args.view.now) c.args.place c.args.frame.now c.push.result c.replace_all.new.vs c.push.new.stack c.requires
    (λ is. let on = c.if-is_on.ensures.1 is in absurd cc) (c.replace_all.ensures (is_made_at c.args.place) (made_at c.args.place))
    c.push.ensures.room c.push.ensures.pushed
