-- All entries are dropped at once.
use Rattle.std.proofs.Common.{◌≡◌, [], length, refl, sym, arith}
use Rattle.exception_unwind.proofs.catching.clear_stack.Goals as goal

pub drop_entries-requires : goal.drop_entries-requires
drop_entries-requires g c =
    let f = c.requires.0 in
    let all : c.height.result ≡ length f.stack = c.height.ensures f c.requires.1 in
    (f, c.requires.1, omega (arith, all))

pub returns : goal.returns
returns g c = λ f top. c.drop_entries.ensures f top [] f.stack refl (sym (c.height.ensures f top))
