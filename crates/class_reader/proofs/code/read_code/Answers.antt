-- Each answer is the only one.
use Rattle.class_reader.proofs.OneCodeBody.{only, only_cut, only_trailing, only_code_length}
use Rattle.class_reader.proofs.code.read_code.Goals as goal

pub returns-clause-only : goal.returns-clause-only
returns-clause-only c = λ d l. only c.args.body.now c.answered.result d c.answered.ensures l

pub returns-clause-only_cut : goal.returns-clause-only_cut
returns-clause-only_cut c = only_cut c.args.body.now c.answered.result c.answered.ensures

pub returns-clause-only_trailing : goal.returns-clause-only_trailing
returns-clause-only_trailing c = λ n h. only_trailing c.args.body.now c.answered.result n c.answered.ensures h

pub returns-clause-only_code_length : goal.returns-clause-only_code_length
returns-clause-only_code_length c = λ n h. only_code_length c.args.body.now c.answered.result n c.answered.ensures h
