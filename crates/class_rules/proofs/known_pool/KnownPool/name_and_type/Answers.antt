-- Both texts of the entry at an index are known.
use Rattle.std.proofs.Common.{inl, inr}
use Rattle.class_rules.proofs.KnownEntries.{pair_known, pair_unknown}
use Rattle.class_rules.proofs.known_pool.KnownPool.name_and_type.Goals as goal

pub returns-in_err-name : goal.returns-in_err-name
returns-in_err-name c =
    pair_unknown c.args.self.now.entries.now c.args.i c.in_ok-n.n c.in_ok-n.d _ c.from_residual-in_err-name.ensures c.in_ok-n.ensures
    (inl c.in_err-name.ensures)

pub returns-in_err-descriptor : goal.returns-in_err-descriptor
returns-in_err-descriptor c =
    pair_unknown c.args.self.now.entries.now c.args.i c.in_ok-n.n c.in_ok-n.d _ c.from_residual-in_err-descriptor.ensures c.in_ok-n.ensures
    (inr c.in_err-descriptor.ensures)

pub returns : goal.returns
returns c =
    pair_known c.args.self.now.entries.now c.args.i c.in_ok-n.n c.in_ok-n.d c.in_ok-name.name c.in_ok-descriptor.descriptor c.in_ok-n.ensures
    c.in_ok-name.ensures c.in_ok-descriptor.ensures
