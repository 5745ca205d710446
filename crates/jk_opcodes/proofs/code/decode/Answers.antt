-- What one answer says of each reading, each fault and each place.
use Rattle.std.proofs.Common.{arith}
use Rattle.jk_opcodes.proofs.OneReading.{only, fault, only_fault, only_cut}
use Rattle.jk_opcodes.proofs.code.decode.Goals as goal

pub returns-clause-only : goal.returns-clause-only
returns-clause-only c = only c.args.code.now c.read.result (λ i. omega (arith, c.type_inv.code i)) c.read.ensures

pub returns-clause-fault : goal.returns-clause-fault
returns-clause-fault c = λ f place e. fault c.args.code.now c.read.result f place c.read.ensures e

pub returns-clause-only_fault : goal.returns-clause-only_fault
returns-clause-only_fault c = λ f place h. only_fault c.args.code.now c.read.result f place (λ i. omega (arith, c.type_inv.code i)) c.read.ensures h

pub returns-clause-only_cut : goal.returns-clause-only_cut
returns-clause-only_cut c = λ place h. only_cut c.args.code.now c.read.result place (λ i. omega (arith, c.type_inv.code i)) c.read.ensures h
