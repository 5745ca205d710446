-- The walk begins with the folder alone, and ends where each that was found was looked at.
use Rattle.std.proofs.Common.{◌≡◌, ℕ, length, vec_len, refl, sym, ap, subst, arith, ◌<◌, ◌+◌, ◌∙◌, [], Option}
use Rattle.std.proofs.lemmas.Str.{IsUtf8-nil}
use Rattle.jk_model.specs.Outside.{Tree}
use Rattle.folder_reader.specs.Paths.{top}
use Rattle.folder_reader.specs.Walks.{AreFound, IsToldWalk}
use Rattle.folder_reader.proofs.CallsInTurn.{asked_since, handed_on, moves_on, no_move}
use Rattle.folder_reader.proofs.CountsTaken.{absent_later, asked_later, one_level, took_both, took_fewer, took_nothing}
use Rattle.folder_reader.proofs.PathsTellNames.{within_self}
use Rattle.folder_reader.proofs.ToldOrNot.{begins}
use Rattle.folder_reader.proofs.AsksApart.{asks_same, lists_at, lists_none, lists_on, lists_once}
use Rattle.folder_reader.proofs.walk.found_below.Goals as goal

pub loop-next-init : goal.loop-next-init
loop-next-init g c =
    let alone = c.in_ok-found.ensures in
    let one = ap length alone in
    record {
      few = omega (arith, one, c.in_ok-found.found.ok.0);
      within = omega arith;
      found = subst (AreFound c.args.root.now) (sym alone) (record { utf8 = IsUtf8-nil; within = within_self c.args.root.now; top = λ _. refl }, tt);
      levels = one_level c.in_ok-found.found.items top alone refl;
      counted = took_fewer _ 0 _ _ _ (omega (arith, one, c.in_ok-found.found.ok.0)) (took_nothing _ _);
      walk = begins _ c.args.root.now c.in_ok-found.found.items alone;
      moves = no_move c.args.root.now _ _ _ _ (g.met.F.Files.faults_fit c.args.files.now) (g.met.F.Files.taken_fits c.args.files.now);
      asks = asks_same _ _ _ [] refl;
      calm = λ t is. refl;
    }

pub returns-clause-walk : goal.returns-clause-walk
returns-clause-walk g c =
    let v = c.loop-next.found in
    let all : c.loop-next.next ≡ vec_len v = omega (arith, c.loop-next-test.false, c.len.ensures, c.loop-next.invariant.within) in
    subst (λ (n : ℕ). IsToldWalk (g.F.Files.tree c.args.files.now) c.args.root.now v.items n) all c.loop-next.invariant.walk

pub returns-in_err-look_at-clause-something : goal.returns-in_err-look_at-clause-something
returns-in_err-look_at-clause-something g c = λ is.
    let r = c.from_residual-in_err-look_at in
    asked_since c.args.root.now _ _ _ _ _ _ _ _ _ _ _ _ c.loop-next.invariant.moves c.look_at.ensures.moves
    (c.look_at.ensures.something
    (handed_on r.result c.in_err-look_at.field-0.0 _ c.look_at.result r.ensures.1 is c.in_err-look_at.was))

pub returns-in_err-look_at-clause-no_folder : goal.returns-in_err-look_at-clause-no_folder
returns-in_err-look_at-clause-no_folder g c = λ is.
    let r = c.from_residual-in_err-look_at in
    let before = c.loop-next.invariant.moves in
    absent_later _ _ c.args.root.now _ _ _ before.stays before.faults
    (c.look_at.ensures.no_folder
    (handed_on r.result c.in_err-look_at.field-0.0 _ c.look_at.result r.ensures.1 is c.in_err-look_at.was))

pub returns-in_err-look_at-clause-missed : goal.returns-in_err-look_at-clause-missed
returns-in_err-look_at-clause-missed g c = λ is.
    let r = c.from_residual-in_err-look_at in
    asked_later c.args.root.now _ _ _ _ _ _ _ _ _ _ c.loop-next.invariant.moves
    (c.look_at.ensures.missed
    (handed_on r.result c.in_err-look_at.field-0.0 _ c.look_at.result r.ensures.1 is c.in_err-look_at.was))

pub returns-in_err-look_at-clause-large : goal.returns-in_err-look_at-clause-large
returns-in_err-look_at-clause-large g c = λ is.
    let r = c.from_residual-in_err-look_at in
    let before = c.loop-next.invariant.moves in
    took_both _ _ _ _ 17 _ _ _ before.stays (omega arith) c.look_at.ensures.moves.taken c.loop-next.invariant.counted
    (c.look_at.ensures.large
    (handed_on r.result c.in_err-look_at.field-0.0 _ c.look_at.result r.ensures.1 is c.in_err-look_at.was))

pub loop-next-preserved : goal.loop-next-preserved
loop-next-preserved g c =
    let v = c.loop-next.found in let i = c.loop-next.next in let root = c.args.root.now in
    let before = c.loop-next.invariant in
    let after = c.in_ok-look_at.ensures in
    let within : i < length v.items = omega (arith, c.loop-next-test.true, c.len.ensures, v.ok.0) in
    record {
      few = after.few;
      within = omega (arith, c.loop-next-test.true, c.len.ensures, after.grows);
      found = after.found;
      levels = after.levels;
      counted = took_both _ _ _ _ _ _ _ _ before.moves.stays (omega (arith, after.grows)) after.moves.taken before.counted after.counted;
      walk = subst (λ (t : Option Tree). IsToldWalk t root c.look_at.new.found.items (i + 1)) before.moves.stays after.walk;
      moves = moves_on root _ _ _ _ _ _ _ _ _ _ _ _ before.moves after.moves;
      asks = lists_on root _ _ v.items after.keeps.0 _ (i + 1) after.keeps.1 (omega (arith, within))
          (lists_at root _ _ _ v.items i within before.asks after.once);
      calm = λ t is. after.calm t (before.moves.stays ∙ is) (λ fault. cc) ∙ before.calm t is;
    }

pub returns-in_err-found-clause-once : goal.returns-in_err-found-clause-once
returns-in_err-found-clause-once g c = lists_none _ _ _ refl

pub returns-in_err-look_at-clause-once : goal.returns-in_err-look_at-clause-once
returns-in_err-look_at-clause-once g c =
    let v = c.loop-next.found in let i = c.loop-next.next in
    let within : i < length v.items = omega (arith, c.loop-next-test.true, c.len.ensures, v.ok.0) in
    lists_once _ c.args.root.now _ _ v.items i (i + 1) c.loop-next.invariant.walk
    (lists_at c.args.root.now _ _ _ v.items i within c.loop-next.invariant.asks c.look_at.ensures.once)

pub returns-clause-once : goal.returns-clause-once
returns-clause-once g c = lists_once _ c.args.root.now _ _ c.loop-next.found.items _ _ c.loop-next.invariant.walk c.loop-next.invariant.asks
