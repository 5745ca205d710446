use Rattle.jk_outside.proofs.Below.{not_below, below_cases}
use Rattle.jk_outside.proofs.memory_files.strip_folder.Goals as goal

pub returns-in_err-strip_prefix : goal.returns-in_err-strip_prefix
returns-in_err-strip_prefix c =
    rw c.from_residual.ensures (not_below c.args.folder.now c.args.path.now c.in_err-strip_prefix.ensures.cases)

pub returns : goal.returns
returns c =
    below_cases c.args.folder.now c.args.path.now c.in_ok-strip_prefix.field-0.now c.strip_prefix-2.result
    c.in_ok-strip_prefix.ensures.cases.0 c.in_ok-strip_prefix.ensures.cases.1 c.strip_prefix-2.ensures.cases
