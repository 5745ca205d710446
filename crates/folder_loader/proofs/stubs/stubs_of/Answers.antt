-- One class more, and its stub where it has one.
use Rattle.std.proofs.Common.{◌+◌, sym, subst, ◌∙◌, arith}
use Rattle.std.specs.Prelude.{List}
use Rattle.jk_model_classes.specs.declared.sharing.Stub.{Stub}
use Rattle.jk_model_classes.specs.Stubs.{ImplementsRemote, IsStub}
use Rattle.folder_loader.proofs.StubsInTurn.{AreStubsUpTo, all_made, none_made, none_next, stub_next}
use Rattle.folder_loader.proofs.stubs.stubs_of.Goals as goal
use Rattle.folder_loader.proofs.stubs.stubs_of.Goals.{in-Some+in_ok-push, in_default}

pub loop-number-init : goal.loop-number-init
loop-number-init c = rw c.new-stubs.ensures (none_made c.args.t.now c.args.first.0)

pub loop-number-preserved : goal.loop-number-preserved
loop-number-preserved c =
    let t = c.args.t.now in
    elim c.match-branch-2.branch [
      | in-Some+in_ok-push w ↦
          let is : IsStub t (record { 0 = c.loop-number.number }) w.in-Some.stub = rw w.in-Some.is at c.in_ok-stub.ensures.some in
          subst (λ (xs : List Stub). AreStubsUpTo t c.args.first.0 (c.loop-number.number + 1) xs) (sym (w.stubs-is ∙ w.in_ok-push.ensures.ok))
          (stub_next t c.args.first.0 c.loop-number.number c.loop-number.stubs w.in-Some.stub (omega arith) c.loop-number.invariant is)
      | in_default w ↦
          let none : ImplementsRemote t (record { 0 = c.loop-number.number }) → ⊥ = rw w.in_default.is at c.in_ok-stub.ensures.none in
          subst (λ (xs : List Stub). AreStubsUpTo t c.args.first.0 (c.loop-number.number + 1) xs) (sym w.stubs-is)
          (none_next t c.args.first.0 c.loop-number.number c.loop-number.stubs c.loop-number.invariant none)
    ]

pub returns : goal.returns
returns c =
    all_made c.args.t.now c.args.first.0 c.loop-number.number c.loop-number.stubs (omega (arith, c.requires)) c.loop-number.invariant
