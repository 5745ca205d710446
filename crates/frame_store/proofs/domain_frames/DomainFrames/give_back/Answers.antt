-- The frame below is on top when the top frame is off, and then it goes on.
use Rattle.std.proofs.Common.{◌^◌, ◌+◌, ◌-◌, ◌<◌, ◌++◌, ◌∷◌, ◌∙◌, [], length, Option, sym, subst}
use Rattle.jk_model.specs.declared.values.Value.{Value}
use Rattle.jk_model_frames.specs.Frames.{FrameState, head_chunks}
use Rattle.frame_store.specs.DomainMoves.{Becomes}
use Rattle.frame_store.specs.FrameContents.{gone_on}
use Rattle.frame_store.proofs.GivenBack.{aimed_still, below_is, below_there, frame_there, gone_frame, gone_is, gone_top, has_room, none_given, on_top, one_given, top_there, values_still}
use Rattle.frame_store.proofs.domain_frames.DomainFrames.give_back.Goals as goal

pub pop-requires : goal.pop-requires
pop-requires c =
    let two = c.requires.two in
    top_there c.args.self.now c.args.c.now.place.slot c.requires.slot two.lower two.below two.top two.are

pub aim-requires : goal.aim-requires
aim-requires c =
    let two = c.requires.two in
    below_there c.args.self.now c.args.c.now.place.slot c.requires.slot two.lower two.below two.top two.are c.pop.new.self c.pop.ensures

pub go_on-requires-clause-frame : goal.go_on-requires-clause-frame
go_on-requires-clause-frame c =
    let two = c.requires.two in
    frame_there c.args.self.now c.args.c.now.place.slot c.requires.slot two.lower two.below two.top two.are c.pop.new.self c.pop.ensures
    c.aim.new.c.frame c.aim.ensures.frame

pub go_on-requires-clause-place : goal.go_on-requires-clause-place
go_on-requires-clause-place c =
    let two = c.requires.two in
    let P : FrameState → Type 0 = λ (f : FrameState). f.head.at + 1 < 2 ^ 32 in
    subst P (sym (below_is c.args.self.now c.args.c.now.place.slot c.requires.slot two.lower two.below two.top two.are c.pop.new.self c.pop.ensures
    c.aim.new.c.frame c.aim.ensures.frame)) two.place

pub push_value-requires-clause-frame : goal.push_value-requires-clause-frame
push_value-requires-clause-frame c =
    let two = c.requires.two in
    let i = c.args.c.now.place.slot in
    gone_frame c.args.self.now i c.requires.slot two.lower two.below two.top two.are c.pop.new.self c.pop.ensures
    c.aim.new.c.frame c.aim.ensures.frame c.go_on.new.self c.go_on.ensures.frames
    (c.go_on.ensures.becomes i (on_top c.args.self.now i c.requires.slot two.lower two.below two.top two.are c.pop.new.self c.pop.ensures
    c.aim.new.c.frame c.aim.ensures.frame))

pub push_value-requires-clause-values : goal.push_value-requires-clause-values
push_value-requires-clause-values c =
    values_still c.pop.new.self c.go_on.new.self c.aim.new.c c.go_on.ensures.parts c.go_on.ensures.locals c.aim.ensures.values

pub push_value-requires-clause-room : goal.push_value-requires-clause-room
push_value-requires-clause-room c =
    let two = c.requires.two in
    let i = c.args.c.now.place.slot in
    let is =
    gone_is c.args.self.now i c.requires.slot two.lower two.below two.top two.are c.pop.new.self c.pop.ensures
    c.aim.new.c.frame c.aim.ensures.frame c.go_on.new.self c.go_on.ensures.frames
    (c.go_on.ensures.becomes i (on_top c.args.self.now i c.requires.slot two.lower two.below two.top two.are c.pop.new.self c.pop.ensures
    c.aim.new.c.frame c.aim.ensures.frame)) in
    let room = has_room two.below c.args.v _ c.in-Some.is two.room in
    let P : FrameState → Type 0 = λ (f : FrameState). length f.stack < f.head.max_stack in
    subst P (sym is) room

pub returns-in-Some-clause-gives : goal.returns-in-Some-clause-gives
returns-in-Some-clause-gives c =
    let i = c.args.c.now.place.slot in
    λ lower below top are.
    let d = c.args.self.now in
    let go =
    c.go_on.ensures.becomes i (on_top d i c.requires.slot lower below top are c.pop.new.self c.pop.ensures c.aim.new.c.frame c.aim.ensures.frame) in
    let given =
    one_given d i c.requires.slot lower below top are c.pop.new.self c.pop.ensures c.aim.new.c.frame c.aim.ensures.frame c.go_on.new.self
    c.go_on.ensures.frames go c.push_value.new.self _
    (c.push_value.ensures.becomes i (gone_top d i c.requires.slot lower below top are c.pop.new.self c.pop.ensures c.aim.new.c.frame
    c.aim.ensures.frame c.go_on.new.self c.go_on.ensures.frames go)) in
    let P : Option Value → Type 0 = λ (v : Option Value).
    Becomes d c.push_value.new.self i (lower ++ gone_on v below ∷ []) (d.used - head_chunks top.head) in
    subst P (sym c.in-Some.is) given

pub returns-in-Some-clause-aims : goal.returns-in-Some-clause-aims
returns-in-Some-clause-aims c =
    aimed_still c.pop.new.self c.push_value.new.self c.args.c.now c.aim.new.c
    (c.push_value.ensures.frames ∙ c.go_on.ensures.frames) (c.push_value.ensures.parts ∙ c.go_on.ensures.parts)
    (c.push_value.ensures.locals ∙ c.go_on.ensures.locals) c.aim.ensures

pub returns-in_default-clause-gives : goal.returns-in_default-clause-gives
returns-in_default-clause-gives c =
    let i = c.args.c.now.place.slot in
    λ lower below top are.
    let d = c.args.self.now in
    let go =
    c.go_on.ensures.becomes i (on_top d i c.requires.slot lower below top are c.pop.new.self c.pop.ensures c.aim.new.c.frame c.aim.ensures.frame) in
    let given =
    none_given d i c.requires.slot lower below top are c.pop.new.self c.pop.ensures c.aim.new.c.frame c.aim.ensures.frame c.go_on.new.self
    c.go_on.ensures.frames go in
    let P : Option Value → Type 0 = λ (v : Option Value).
    Becomes d c.go_on.new.self i (lower ++ gone_on v below ∷ []) (d.used - head_chunks top.head) in
    subst P (sym c.in_default.is) given

pub returns-in_default-clause-aims : goal.returns-in_default-clause-aims
returns-in_default-clause-aims c =
    aimed_still c.pop.new.self c.go_on.new.self c.args.c.now c.aim.new.c c.go_on.ensures.frames c.go_on.ensures.parts c.go_on.ensures.locals c.aim.ensures
