-- The walk from a leader on.
use Rattle.std.proofs.Common.{ℕ, subst, sym, add-one}
use Rattle.type_verifier.specs.Progress.{notes_of}
use Rattle.type_verifier.specs.Covers.{nodes_of}
use Rattle.type_verifier.specs.Known.{DiffersIn}
use Rattle.type_verifier.specs.Ranges.{IsClipped}
use Rattle.type_verifier.specs.Settling.{Settles}
use Rattle.type_verifier.specs.Settling.Settles.{goes_on}
use Rattle.type_verifier.specs.Tasks.{scope_in}
use Rattle.type_verifier.specs.Walking.{IsWalking}
use Rattle.type_verifier.proofs.BelowTypings.{frame-within, handed-below}
use Rattle.type_verifier.proofs.MovesCompose.{Moves-trans}
use Rattle.type_verifier.proofs.RangesOfWalks.{DiffersIn-grown, known-differs, known-seen, known-visited}
use Rattle.type_verifier.proofs.SettledStays.{AreSettled-visited, Grows-compose, StepsWell-grown}
use Rattle.type_verifier.proofs.visiting.walk.Goals as goal

pub hand_on-requires-clause-outside : goal.hand_on-requires-clause-outside
hand_on-requires-clause-outside c = λ seen there.
    let s = scope_in c.args.task.now in
    let frame = c.args.frame in
    let clipped = subst (λ (n : ℕ). IsClipped c.args.range n c.clipped-range.result) c.len.ensures c.clipped-range.ensures in
    rw c.as_slice.ensures
    (known-seen s c.requires.ready.ordered c.args.task.now.leads.items c.args.progress.now.frames.items (nodes_of c.args.nodes.now) c.args.leader
    frame c.args.range c.clipped-range.result (c.requires.ready.kept.sized c.args.leader frame c.requires.copied).locals clipped
    c.requires.known seen there)

pub hand_on-requires-clause-below : goal.hand_on-requires-clause-below
hand_on-requires-clause-below c = λ typing types.
    let at = c.requires.copied in
    let frame = c.args.frame in
    rw c.as_slice.ensures
    (handed-below c.args.task.now c.requires.ready.known c.requires.ready.ordered typing types c.args.leader frame
    (c.requires.ready.kept.below typing types c.args.leader frame at))

pub returns-then-not-branch-clause-none : goal.returns-then-not-branch-clause-none
returns-then-not-branch-clause-none c = λ _. c.in_ok-hand_on.ensures.none c.if-not-branch.true

pub loop-frame-init : goal.loop-frame-init
loop-frame-init c =
    let at = c.requires.copied in
    let frame = c.args.frame in
    let told = c.in_ok-hand_on.ensures in
    let yes = c.if-not-branch.false in
    let s = scope_in c.args.task.now in
    let ordered = c.requires.ready.ordered in
    let clipped = subst (λ (n : ℕ). IsClipped c.args.range n c.clipped-range.result) c.len.ensures c.clipped-range.ensures in
    record {
      seen = told.seen yes;
      leaf = rw c.as_slice.ensures at (told.leaf yes);
      differs = DiffersIn-grown s ordered c.args.task.now.leads.items c.args.progress.now.frames.items c.hand_on.new.progress.frames.items
          (told.moves yes).grows c.args.leader frame c.clipped-range.result
          (known-differs s ordered c.args.task.now.leads.items c.args.progress.now.frames.items (nodes_of c.args.nodes.now) c.args.leader
          frame c.args.range c.clipped-range.result (c.requires.ready.kept.sized c.args.leader frame at).locals clipped c.requires.known);
      ready = record { known = c.requires.ready.known; ordered = c.requires.ready.ordered; kept = told.frames yes };
      covers = told.covers yes;
      moves = told.moves yes;
      walking = record {
        within = frame-within c.args.task.now c.args.progress.now.frames.items c.args.leader frame c.requires.ready.kept at;
        sized = c.requires.ready.kept.sized c.args.leader frame at;
        below = λ typing types. c.requires.ready.kept.below typing types c.args.leader frame at;
        leaf = rw c.as_slice.ensures at (told.leaf yes);
        handed = rw c.as_slice.ensures at (told.handed yes);
        covered = λ h has. (λ covers. covers, λ covers. covers);
      };
      rest = λ later grows settles. settles;
    }

pub go_over-requires-clause-leader : goal.go_over-requires-clause-leader
go_over-requires-clause-leader c =
    let at = c.requires.copied in
    frame-within c.args.task.now c.args.progress.now.frames.items c.args.leader c.args.frame c.requires.ready.kept at

pub returns-in-Nowhere-clause-none : goal.returns-in-Nowhere-clause-none
returns-in-Nowhere-clause-none c = λ _. c.in_ok-go_over.ensures.nowhere c.in-Nowhere.is

pub returns-in-Done-clause-moves : goal.returns-in-Done-clause-moves
returns-in-Done-clause-moves c = λ _.
    Moves-trans (scope_in c.args.task.now) c.requires.ready.ordered _ _ _ _ _ _ c.loop-frame.invariant.moves
    (c.in_ok-go_over.ensures.moves (λ e. let is = c.in-Done.is in cc))

pub returns-in-Done-clause-settled : goal.returns-in-Done-clause-settled
returns-in-Done-clause-settled c = λ _.
    let at = c.requires.copied in
    let s = scope_in c.args.task.now in
    let ordered = c.requires.ready.ordered in
    let before = c.loop-frame.invariant in
    let moves = c.in_ok-go_over.ensures.moves (λ e. let is = c.in-Done.is in cc) in
    AreSettled-visited s ordered c.args.task.now.leads.items c.args.progress.now.frames.items c.go_over.new.progress.frames.items
    (notes_of c.args.progress.now) (notes_of c.go_over.new.progress) c.args.leader c.args.frame c.requires.settled
    (Moves-trans s ordered _ _ _ _ _ _ before.moves moves) at
    (before.rest c.go_over.new.progress.frames.items moves.grows (c.in_ok-go_over.ensures.done c.in-Done.is))

pub returns-in-Done-clause-known : goal.returns-in-Done-clause-known
returns-in-Done-clause-known c = λ _.
    let at = c.requires.copied in
    let s = scope_in c.args.task.now in
    let ordered = c.requires.ready.ordered in
    let before = c.loop-frame.invariant in
    let moves = c.in_ok-go_over.ensures.moves (λ e. let is = c.in-Done.is in cc) in
    let keeps = c.in_ok-go_over.ensures.seen (λ e. let is = c.in-Done.is in cc) in
    known-visited s ordered c.args.task.now.leads.items c.args.progress.now.frames.items c.go_over.new.progress.frames.items
    (notes_of c.args.progress.now) (notes_of c.go_over.new.progress) (nodes_of c.args.nodes.now) (nodes_of c.go_over.new.nodes)
    c.args.leader c.args.frame c.requires.others (Moves-trans s ordered _ _ _ _ _ _ before.moves moves)
    (λ p locals fresh leaf. keeps p locals fresh (before.seen p locals fresh leaf)) at
    (before.rest c.go_over.new.progress.frames.items moves.grows (c.in_ok-go_over.ensures.done c.in-Done.is))
    (keeps c.args.leader c.args.frame.locals c.args.frame.fresh before.leaf)

pub loop-frame-preserved : goal.loop-frame-preserved
loop-frame-preserved c =
    let task = c.args.task.now in
    let s = scope_in task in
    let ordered = c.requires.ready.ordered in
    let place = c.loop-frame.place in
    let before = c.loop-frame.invariant in
    let told = c.in_ok-go_over.ensures in
    let on = c.in-On.is in
    let moves = told.moves (λ e. cc) in
    let steps = told.steps on in
    record {
      seen = λ p locals fresh leaf. told.seen (λ e. cc) p locals fresh (before.seen p locals fresh leaf);
      leaf = told.seen (λ e. cc) c.args.leader c.args.frame.locals c.args.frame.fresh before.leaf;
      differs =
          subst (λ (n : ℕ). DiffersIn s task.leads.items c.go_over.new.progress.frames.items n c.go_over.new.frame c.go_over.new.range)
          (sym (add-one place)) (told.differs on);
      ready = told.ready (λ e. cc);
      covers = told.covers (λ e. cc);
      moves = Moves-trans s ordered _ _ _ _ _ _ before.moves moves;
      walking =
          subst (λ (n : ℕ). IsWalking task c.go_over.new.progress.frames.items (nodes_of c.go_over.new.nodes) c.args.leader n c.go_over.new.frame)
          (sym (add-one place)) (told.walking on);
      rest = λ later grows settles.
          before.rest later (Grows-compose s ordered c.loop-frame.progress.frames.items c.go_over.new.progress.frames.items later moves.grows grows)
          (goes_on place steps.0 c.loop-frame.frame c.go_over.new.frame
          (StepsWell-grown s ordered c.go_over.new.progress.frames.items later grows place steps.0 c.loop-frame.frame c.go_over.new.frame steps.1)
          (told.no_leader on)
          (subst (λ (n : ℕ). Settles s task.leads.items later n c.go_over.new.frame) (add-one place) settles));
    }
