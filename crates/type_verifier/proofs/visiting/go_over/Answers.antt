-- One instruction of a walk.
use Rattle.std.proofs.Common.{◌≡◌, ℕ, ◌<◌, List, Option, Some, length, slice_get, get_or, refl, sym, subst, ap, add-one, ◌∙◌}
use Rattle.std.proofs.lemmas.Option.{slice_get_read}
use Rattle.std.proofs.lemmas.Result.{IfOk-weaker}
use Rattle.jk_model.specs.declared.instructions.Instr.{Instr}
use Rattle.jk_model_typing.specs.declared.frames.FrameType.{FrameType}
use Rattle.type_verifier.specs.Climbs.{FitsBut}
use Rattle.type_verifier.specs.Covers.{nodes_of}
use Rattle.type_verifier.specs.Leaders.{Leads}
use Rattle.type_verifier.specs.Ranges.{IsLeft}
use Rattle.type_verifier.specs.Tasks.{scope_in}
use Rattle.type_verifier.proofs.BelowTypings.{may-begin}
use Rattle.type_verifier.proofs.BothOfResults.{IfOk-both, IfOk-all_four}
use Rattle.type_verifier.proofs.MovesCompose.{Moves-trans}
use Rattle.type_verifier.proofs.RangesOfWalks.{DiffersIn-grown, differs-jumps, differs-next, differs-on}
use Rattle.type_verifier.proofs.SettledStays.{AreCovers-grown, Grows-compose}
use Rattle.type_verifier.proofs.WalksGoOn.{line-below, settles-here, steps, stored-below, stored-outside, targets, walks-on}
use Rattle.type_verifier.proofs.visiting.go_over.Goals as goal

-- the instruction that is read is the one at the place
found : (instrs shown : List Instr) (place : ℕ) (i : Instr) → shown ≡ instrs → place < length instrs → i ≡ get_or shown place i
    → slice_get instrs place ≡ Some i
found instrs shown place i same within is = slice_get_read instrs (length instrs) place i refl within (rw same at is)

pub returns-then-not-branch-clause-nowhere : goal.returns-then-not-branch-clause-nowhere
returns-then-not-branch-clause-nowhere c = λ _ typing types.
    let task = c.args.task.now in
    let walking = c.requires.walking in
    let i = c.index-as_slice-place.result in
    let at = found task.view.code.now.instrs c.as_slice.result.now c.args.place i c.as_slice.ensures walking.within c.index-as_slice-place.is in
    let begins =
    may-begin task c.requires.ready.known c.requires.ready.ordered typing types c.args.place i c.args.frame.now at walking.sized
    (walking.below typing types) in
    c.in_ok-step.ensures.fails c.if-not-branch.true begins.0 begins.1

pub hand_on_stored-requires-clause-stored : goal.hand_on_stored-requires-clause-stored
hand_on_stored-requires-clause-stored c =
    let task = c.args.task.now in
    let walking = c.requires.walking in
    let i = c.index-as_slice-place.result in
    let at = found task.view.code.now.instrs c.as_slice.result.now c.args.place i c.as_slice.ensures walking.within c.index-as_slice-place.is in
    stored-outside task c.args.progress.now.frames.items (nodes_of c.args.nodes.now) c.args.leader c.args.place i c.args.frame.now c.step.new.frame
    c.requires.ready walking at (c.in_ok-step.ensures.holds c.if-not-branch.false)

pub hand_on_stored-requires-clause-below : goal.hand_on_stored-requires-clause-below
hand_on_stored-requires-clause-below c =
    let task = c.args.task.now in
    let walking = c.requires.walking in
    let i = c.index-as_slice-place.result in
    let at = found task.view.code.now.instrs c.as_slice.result.now c.args.place i c.as_slice.ensures walking.within c.index-as_slice-place.is in
    stored-below task c.args.progress.now.frames.items (nodes_of c.args.nodes.now) c.args.leader c.args.place i c.args.frame.now c.step.new.frame
    c.requires.ready walking at (c.in_ok-step.ensures.holds c.if-not-branch.false)

pub returns-then-not-branch-2-clause-nowhere : goal.returns-then-not-branch-2-clause-nowhere
returns-then-not-branch-2-clause-nowhere c = λ _. c.in_ok-hand_on_stored.ensures.none c.if-not-branch-2.true

pub jump_on-requires-clause-targets : goal.jump_on-requires-clause-targets
jump_on-requires-clause-targets c =
    let task = c.args.task.now in
    let walking = c.requires.walking in
    let i = c.index-as_slice-place.result in
    let at = found task.view.code.now.instrs c.as_slice.result.now c.args.place i c.as_slice.ensures walking.within c.index-as_slice-place.is in
    targets task c.args.progress.now.frames.items (nodes_of c.args.nodes.now) c.args.leader c.args.place i c.args.frame.now c.step.new.frame
    c.requires.ready walking at (c.in_ok-step.ensures.holds c.if-not-branch.false)

pub returns-then-not-branch-3-clause-nowhere : goal.returns-then-not-branch-3-clause-nowhere
returns-then-not-branch-3-clause-nowhere c = λ _. c.in_ok-jump_on.ensures.none c.if-not-branch-3.true

pub line_on-requires-clause-below : goal.line_on-requires-clause-below
line_on-requires-clause-below c =
    let task = c.args.task.now in
    let walking = c.requires.walking in
    let i = c.index-as_slice-place.result in
    let at = found task.view.code.now.instrs c.as_slice.result.now c.args.place i c.as_slice.ensures walking.within c.index-as_slice-place.is in
    line-below task c.args.progress.now.frames.items (nodes_of c.args.nodes.now) c.args.leader c.args.place i c.args.frame.now c.step.new.frame
    c.requires.ready walking at (c.in_ok-step.ensures.holds c.if-not-branch.false)

pub returns-clause-covers : goal.returns-clause-covers
returns-clause-covers c =
    let s = scope_in c.args.task.now in
    let ordered = c.requires.ready.ordered in
    let stored : List (Option FrameType) = c.hand_on_stored.new.progress.frames.items in
    let jumped : List (Option FrameType) = c.jump_on.new.progress.frames.items in
    let new : List (Option FrameType) = c.line_on.new.progress.frames.items in
    let jumping = c.in_ok-jump_on.ensures.moves c.if-not-branch-3.false in
    IfOk-weaker c.line_on.result _ _
    (λ went moves goes.
    AreCovers-grown c.args.task.now ordered stored new (Grows-compose s ordered stored jumped new jumping.grows (moves goes).grows)
    (nodes_of c.hand_on_stored.new.nodes) (c.in_ok-hand_on_stored.ensures.covers c.if-not-branch-2.false))
    c.line_on.ensures.moves

pub returns-clause-moves : goal.returns-clause-moves
returns-clause-moves c =
    let s = scope_in c.args.task.now in
    let ordered = c.requires.ready.ordered in
    let stored = c.in_ok-hand_on_stored.ensures.moves c.if-not-branch-2.false in
    let jumped = c.in_ok-jump_on.ensures.moves c.if-not-branch-3.false in
    IfOk-weaker c.line_on.result _ _
    (λ went moves goes. Moves-trans s ordered _ _ _ _ _ _ stored (Moves-trans s ordered _ _ _ _ _ _ jumped (moves goes)))
    c.line_on.ensures.moves

pub returns-clause-done : goal.returns-clause-done
returns-clause-done c =
    let task = c.args.task.now in
    let walking = c.requires.walking in
    let i = c.index-as_slice-place.result in
    let at = found task.view.code.now.instrs c.as_slice.result.now c.args.place i c.as_slice.ensures walking.within c.index-as_slice-place.is in
    let stored = c.in_ok-hand_on_stored.ensures in
    let jumped = c.in_ok-jump_on.ensures in
    let yes = c.if-not-branch-2.false in
    let yes_too = c.if-not-branch-3.false in
    IfOk-both c.line_on.result _ _ _
    (λ went moves way is.
    settles-here task c.args.progress.now.frames.items (nodes_of c.args.nodes.now) c.args.leader c.args.place i c.args.frame.now c.step.new.frame
    c.requires.ready walking at (c.in_ok-step.ensures.holds c.if-not-branch.false) c.hand_on_stored.new.progress.frames.items
    c.jump_on.new.progress.frames.items c.line_on.new.progress.frames.items (nodes_of c.hand_on_stored.new.nodes) (stored.moves yes).grows
    (jumped.moves yes_too).grows (moves (λ e. cc)).grows (stored.handed yes) (jumped.fit yes_too)
    (way is))
    c.line_on.ensures.moves c.line_on.ensures.done

pub returns-clause-steps : goal.returns-clause-steps
returns-clause-steps c =
    let task = c.args.task.now in
    let walking = c.requires.walking in
    let i = c.index-as_slice-place.result in
    let at = found task.view.code.now.instrs c.as_slice.result.now c.args.place i c.as_slice.ensures walking.within c.index-as_slice-place.is in
    let stored = c.in_ok-hand_on_stored.ensures in
    let jumped = c.in_ok-jump_on.ensures in
    let yes = c.if-not-branch-2.false in
    let yes_too = c.if-not-branch-3.false in
    IfOk-weaker c.line_on.result _ _
    (λ went moves is. (
      i,
      steps task c.args.progress.now.frames.items (nodes_of c.args.nodes.now) c.args.leader c.args.place i c.args.frame.now c.step.new.frame
          c.requires.ready walking at (c.in_ok-step.ensures.holds c.if-not-branch.false) c.hand_on_stored.new.progress.frames.items
          c.jump_on.new.progress.frames.items c.line_on.new.progress.frames.items (nodes_of c.hand_on_stored.new.nodes) (stored.moves yes).grows
          (jumped.moves yes_too).grows (moves (λ e. cc)).grows (stored.handed yes) (jumped.fit yes_too),
    ))
    c.line_on.ensures.moves

pub returns-clause-no_leader : goal.returns-clause-no_leader
returns-clause-no_leader c =
    IfOk-weaker c.line_on.result _ _
    (λ went none is leads. none is (subst (λ (n : ℕ). Leads c.args.task.now.leads.items n) (sym (add-one c.args.place)) leads))
    c.line_on.ensures.no_leader

pub returns-clause-walking : goal.returns-clause-walking
returns-clause-walking c =
    let task = c.args.task.now in
    let walking = c.requires.walking in
    let i = c.index-as_slice-place.result in
    let at = found task.view.code.now.instrs c.as_slice.result.now c.args.place i c.as_slice.ensures walking.within c.index-as_slice-place.is in
    let stored = c.in_ok-hand_on_stored.ensures in
    let jumped = c.in_ok-jump_on.ensures in
    let yes = c.if-not-branch-2.false in
    let yes_too = c.if-not-branch-3.false in
    IfOk-all_four c.line_on.result _ _ _ _ _
    (λ went moves within none stays is.
    walks-on task c.args.progress.now.frames.items (nodes_of c.args.nodes.now) c.args.leader c.args.place i c.args.frame.now c.step.new.frame
    c.requires.ready walking at (c.in_ok-step.ensures.holds c.if-not-branch.false) c.hand_on_stored.new.progress.frames.items
    c.jump_on.new.progress.frames.items c.line_on.new.progress.frames.items (nodes_of c.hand_on_stored.new.nodes) (stored.moves yes).grows
    (jumped.moves yes_too).grows (moves (λ e. cc)).grows (stored.handed yes) (jumped.fit yes_too)
    (stored.leaf yes) (λ other. ap nodes_of (stored.others yes other)) (within is) (none is) (stays is))
    c.line_on.ensures.moves c.line_on.ensures.within c.line_on.ensures.no_leader c.line_on.ensures.stays

-- ---- The range of what may differ.

pub left_by-requires : goal.left_by-requires
left_by-requires c = λ store.
    let task = c.args.task.now in
    let walking = c.requires.walking in
    let i = c.index-as_slice-place.result in
    let at = found task.view.code.now.instrs c.as_slice.result.now c.args.place i c.as_slice.ensures walking.within c.index-as_slice-place.is in
    let row = c.in_ok-step.ensures.holds c.if-not-branch.false in
    let stored = stored-outside task c.args.progress.now.frames.items (nodes_of c.args.nodes.now) c.args.leader c.args.place i c.args.frame.now
    c.step.new.frame c.requires.ready walking at row store in
    (stored.0, stored.1)

pub jump_on-requires-clause-sized : goal.jump_on-requires-clause-sized
jump_on-requires-clause-sized c = (c.in_ok-step.ensures.holds c.if-not-branch.false).room

pub line_on-requires-clause-sized : goal.line_on-requires-clause-sized
line_on-requires-clause-sized c = (c.in_ok-step.ensures.holds c.if-not-branch.false).room

pub jump_on-requires-clause-outside : goal.jump_on-requires-clause-outside
jump_on-requires-clause-outside c =
    let task = c.args.task.now in
    let walking = c.requires.walking in
    let i = c.index-as_slice-place.result in
    let at = found task.view.code.now.instrs c.as_slice.result.now c.args.place i c.as_slice.ensures walking.within c.index-as_slice-place.is in
    let s = scope_in task in
    let ordered = c.requires.ready.ordered in
    let leads = task.leads.items in
    let old : List (Option FrameType) = c.args.progress.now.frames.items in
    let stored : List (Option FrameType) = c.hand_on_stored.new.progress.frames.items in
    let f = c.args.frame.now in
    let after = c.step.new.frame in
    let row = c.in_ok-step.ensures.holds c.if-not-branch.false in
    let same = row.room.locals ∙ sym walking.sized.locals in
    let q = c.args.range.now in
    let r = c.left_by.result in
    let left = subst (λ (n : ℕ). IsLeft i q n r) c.len.ensures c.left_by.ensures in
    let storing = (c.in_ok-hand_on_stored.ensures.moves c.if-not-branch-2.false).grows in
    differs-jumps task stored c.args.place i f after at row same q r left
    (DiffersIn-grown s ordered leads old stored storing c.args.place f q c.requires.differs)

pub line_on-requires-clause-outside : goal.line_on-requires-clause-outside
line_on-requires-clause-outside c = λ stays leader.
    let task = c.args.task.now in
    let walking = c.requires.walking in
    let i = c.index-as_slice-place.result in
    let at = found task.view.code.now.instrs c.as_slice.result.now c.args.place i c.as_slice.ensures walking.within c.index-as_slice-place.is in
    let s = scope_in task in
    let ordered = c.requires.ready.ordered in
    let leads = task.leads.items in
    let old : List (Option FrameType) = c.args.progress.now.frames.items in
    let stored : List (Option FrameType) = c.hand_on_stored.new.progress.frames.items in
    let f = c.args.frame.now in
    let after = c.step.new.frame in
    let row = c.in_ok-step.ensures.holds c.if-not-branch.false in
    let same = row.room.locals ∙ sym walking.sized.locals in
    let q = c.args.range.now in
    let r = c.left_by.result in
    let left = subst (λ (n : ℕ). IsLeft i q n r) c.len.ensures c.left_by.ensures in
    let storing = (c.in_ok-hand_on_stored.ensures.moves c.if-not-branch-2.false).grows in
    let jumped : List (Option FrameType) = c.jump_on.new.progress.frames.items in
    let jumping = (c.in_ok-jump_on.ensures.moves c.if-not-branch-3.false).grows in
    let grows = Grows-compose s ordered old stored jumped storing jumping in
    let outside = differs-next task jumped c.args.place i f after at row same q r left
    (DiffersIn-grown s ordered leads old jumped grows c.args.place f q c.requires.differs) stays
    (subst (λ (n : ℕ). Leads leads n) (add-one c.args.place) leader) in
    subst (λ (n : ℕ). FitsBut s jumped n r.first r.end after.locals) (sym (add-one c.args.place)) outside

pub returns-clause-differs : goal.returns-clause-differs
returns-clause-differs c =
    let task = c.args.task.now in
    let walking = c.requires.walking in
    let i = c.index-as_slice-place.result in
    let at = found task.view.code.now.instrs c.as_slice.result.now c.args.place i c.as_slice.ensures walking.within c.index-as_slice-place.is in
    let s = scope_in task in
    let ordered = c.requires.ready.ordered in
    let leads = task.leads.items in
    let old : List (Option FrameType) = c.args.progress.now.frames.items in
    let stored : List (Option FrameType) = c.hand_on_stored.new.progress.frames.items in
    let f = c.args.frame.now in
    let after = c.step.new.frame in
    let row = c.in_ok-step.ensures.holds c.if-not-branch.false in
    let same = row.room.locals ∙ sym walking.sized.locals in
    let q = c.args.range.now in
    let r = c.left_by.result in
    let left = subst (λ (n : ℕ). IsLeft i q n r) c.len.ensures c.left_by.ensures in
    let storing = (c.in_ok-hand_on_stored.ensures.moves c.if-not-branch-2.false).grows in
    let jumped : List (Option FrameType) = c.jump_on.new.progress.frames.items in
    let new : List (Option FrameType) = c.line_on.new.progress.frames.items in
    let jumping = (c.in_ok-jump_on.ensures.moves c.if-not-branch-3.false).grows in
    let grows = Grows-compose s ordered old stored jumped storing jumping in
    IfOk-all_four c.line_on.result _ _ _ _ _
    (λ went moves ready none stays is.
    let later = Grows-compose s ordered old jumped new grows (moves (λ e. cc)).grows in
    differs-on task new c.args.place i f after at row same q r left
    (DiffersIn-grown s ordered leads old new later c.args.place f q c.requires.differs) (ready (λ e. cc)).kept (stays is)
    (λ leader. none is (subst (λ (n : ℕ). Leads leads n) (sym (add-one c.args.place)) leader)))
    c.line_on.ensures.moves c.line_on.ensures.ready c.line_on.ensures.no_leader c.line_on.ensures.stays
