-- Two numbers are equal where they compare so.
use Rattle.std.proofs.Common.{◌∙◌, Bool, Some, ap, cond}
use Rattle.std.specs.BTreeMap.{get}
use Rattle.std.specs.Cmp.{unsigned_tied}
use Rattle.std.specs.Ordering.{nat_cmp}
use Rattle.class_linker.proofs.found.remember.Goals as goal

pub returns : goal.returns
returns c = λ q.
    c.in_ok-insert.ensures.updates.0 q ∙ ap (λ (b : Bool). cond b (Some c.args.m) (get nat_cmp c.args.found.now q)) (unsigned_tied c.args.key q)
