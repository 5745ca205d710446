-- Nothing but want of memory keeps the code from being decoded.
use Rattle.std.proofs.Common.{ap, Err}
use Rattle.class_linker.proofs.OnlyMemory.{code_memory}
use Rattle.class_linker.proofs.code.decoded.Goals as goal

pub only_memory-requires : goal.only_memory-requires
only_memory-requires c =
    code_memory c.args.code.now c.as_slice.result.now c.in-Err.e c.as_slice.ensures c.requires
    (λ f place same. c.in-Err.ensures.fault f place (ap (λ x. Err x) same)) (λ place same. c.in-Err.ensures.cut place (ap (λ x. Err x) same))
