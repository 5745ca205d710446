-- What a class lists comes first, and then its methods in order.
use Rattle.std.proofs.Common.{sym, ◌∙◌}
use Rattle.list_lemmas.proofs.AnswersTold.{not_so}
use Rattle.shared_interfaces.proofs.MethodsCounted.{counted_within}
use Rattle.shared_interfaces.proofs.RemoteInterfaces.{lists_other_at_0, breaks_by_method, breaks_nowhere}
use Rattle.shared_interfaces.proofs.remote.RemoteShapeClassRule.least_number.Goals as goal

pub returns-then-lists_other : goal.returns-then-lists_other
returns-then-lists_other c =
    let s = c.args.self.now in
    lists_other_at_0 s.classes.now s.first s.declared.now c.args.c c.args.class.now c.requires.known c.requires.folder
    (sym c.has.ensures ∙ c.if-not-has.false) (c.is_remote.ensures.0 c.if-not-is_remote.false)
    ((rw c.as_slice.ensures at c.lists_other.ensures).0 c.if-lists_other.true)

pub first_silent-requires-clause-declared : goal.first_silent-requires-clause-declared
first_silent-requires-clause-declared c =
    let s = c.args.self.now in
    let within = counted_within s.classes.now s.first c.args.c c.args.class.now c.requires.known c.requires.folder in
    rw (c.as_slice-2.ensures, c.requires.place, c.requires.ready.0) within

pub returns-in_err-i : goal.returns-in_err-i
returns-in_err-i c =
    let s = c.args.self.now in
    rw c.from_residual.ensures
    (breaks_nowhere s.classes.now s.first s.declared.now c.args.c c.args.class.now c.requires.known c.requires.folder
    (sym c.has.ensures ∙ c.if-not-has.false) (c.is_remote.ensures.0 c.if-not-is_remote.false)
    (not_so c.lists_other.result _ (rw c.as_slice.ensures at c.lists_other.ensures) c.if-lists_other.false)
    (rw (c.as_slice-2.ensures, c.requires.place) at c.in_err-i.ensures))

pub returns : goal.returns
returns c =
    let s = c.args.self.now in
    rw c.len.ensures
    (breaks_by_method s.classes.now s.first s.declared.now c.args.c c.args.class.now c.requires.known c.requires.folder
    (sym c.has.ensures ∙ c.if-not-has.false) (c.is_remote.ensures.0 c.if-not-is_remote.false)
    (not_so c.lists_other.result _ (rw c.as_slice.ensures at c.lists_other.ensures) c.if-lists_other.false)
    c.in_ok-i.i (rw (c.as_slice-2.ensures, c.requires.place) at c.in_ok-i.ensures))
