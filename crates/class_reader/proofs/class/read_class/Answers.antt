-- Each answer is the only one.
use Rattle.class_reader.proofs.OneFault.{only, bad_magic, bad_version, only_truncated, only_trailing, only_bad_pool}
use Rattle.class_reader.proofs.class.read_class.Goals as goal

pub returns-clause-only : goal.returns-clause-only
returns-clause-only c = λ d h. only c.args.bytes.now c.answered.result d c.answered.ensures h

pub returns-clause-bad_magic : goal.returns-clause-bad_magic
returns-clause-bad_magic c = bad_magic c.args.bytes.now c.answered.result c.answered.ensures

pub returns-clause-bad_version : goal.returns-clause-bad_version
returns-clause-bad_version c = bad_version c.args.bytes.now c.answered.result c.answered.ensures

pub returns-clause-only_truncated : goal.returns-clause-only_truncated
returns-clause-only_truncated c = λ h. only_truncated c.args.bytes.now c.answered.result c.answered.ensures h

pub returns-clause-only_trailing : goal.returns-clause-only_trailing
returns-clause-only_trailing c = λ n h. only_trailing c.args.bytes.now c.answered.result n c.answered.ensures h

pub returns-clause-only_bad_pool : goal.returns-clause-only_bad_pool
returns-clause-only_bad_pool c = λ i h. only_bad_pool c.args.bytes.now c.answered.result i c.answered.ensures h
