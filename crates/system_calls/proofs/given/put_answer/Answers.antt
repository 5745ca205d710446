-- There is room for the answer where the values were.
use Rattle.std.proofs.Common.{sym, subst}
use Rattle.system_calls.specs.GivenOnTop.{HasRoomAfter, PutsFor}
use Rattle.system_calls.proofs.GivenTaken.{none_put, put_for, room_left}
use Rattle.system_calls.proofs.given.put_answer.Goals as goal

pub push_value-requires : goal.push_value-requires
push_value-requires g c =
    room_left (g.F.SegmentFrames.content c.args.frames.now) (g.F.SegmentFrames.content c.drop_given.new.frames) c.args.s c.args.count c.in-Some.v
    c.requires.given
    (subst (HasRoomAfter (g.F.SegmentFrames.content c.args.frames.now) c.args.s c.args.count) c.in-Some.is c.requires.room) c.drop_given.ensures

pub returns-in-Some : goal.returns-in-Some
returns-in-Some g c =
    subst (PutsFor (g.F.SegmentFrames.content c.args.frames.now) (g.F.SegmentFrames.content c.push_value.new.self) c.args.s c.args.count) (sym c.in-Some.is)
    (put_for (g.F.SegmentFrames.content c.args.frames.now) (g.F.SegmentFrames.content c.drop_given.new.frames) (g.F.SegmentFrames.content c.push_value.new.self)
    c.args.s c.args.count c.in-Some.v c.drop_given.ensures c.push_value.ensures)

pub returns-in_default : goal.returns-in_default
returns-in_default g c =
    none_put (g.F.SegmentFrames.content c.args.frames.now) (g.F.SegmentFrames.content c.drop_given.new.frames) c.args.s c.args.count c.args.answer
    c.in_default.is c.drop_given.ensures
