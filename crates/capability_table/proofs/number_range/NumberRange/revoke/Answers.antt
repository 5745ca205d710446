-- The creation at the place of the number is revoked, or there is none.
use Rattle.std.proofs.Common.{◌-◌, refl, arith}
use Rattle.capability_table.proofs.RevokedByPlace.{revoked-set, revoked-past}
use Rattle.capability_table.proofs.number_range.NumberRange.revoke.Goals as goal

pub returns-then-place-len : goal.returns-then-place-len
returns-then-place-len c =
    let r = c.self.inside in
    rw (
      ← c.self.view_is,
      ← revoked-set r.made.items (c.args.k.0 - r.first) c.index_mut.result.now c.revoke.new.self
          (omega (arith, c.if-place-len.true, c.len.ensures, r.made.ok.0)) c.index_mut.ensures.value c.revoke.ensures,
    ) refl

pub returns-else-place-len : goal.returns-else-place-len
returns-else-place-len c =
    let r = c.self.inside in
    rw (← c.self.view_is, revoked-past r.made.items (c.args.k.0 - r.first) (omega (arith, c.if-place-len.false, c.len.ensures, r.made.ok.0))) refl
