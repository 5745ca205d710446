-- The code that was found is that of the method's scope, and has few instructions.
use Rattle.std.proofs.Common.{arith, ◌≡◌, ◌<◌, length, subst}
use Rattle.typing_check.proofs.typing.is_untyped.Goals as goal

pub verify-requires : goal.verify-requires
verify-requires c = record {
  short = λ s h.
      let same : c.in-Some.code.now ≡ s.code = c.in-Some.ensures s h in
      let few : length c.in-Some.code.now.instrs < 4294967296 = omega arith in
      subst (λ code. length code.instrs < 4294967296) same few;
}
