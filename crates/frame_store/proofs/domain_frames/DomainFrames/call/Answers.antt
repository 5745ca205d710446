-- The frame is added, given its arguments, and then they are off the caller.
use Rattle.std.proofs.Common.{◌+◌, ◌*◌, ◌∙◌, ap, sym}
use Rattle.number_table.specs.declared.chains.Chains.{Chains}
use Rattle.number_table.specs.ChainMoves.{place}
use Rattle.frame_store.specs.DomainMoves.{CallsOn}
use Rattle.frame_store.proofs.FramesCalled.{called, caller_has, caller_number, frame_last, may_give, number_last, off_at}
use Rattle.frame_store.proofs.TopIsWritten.{is_top_frame}
use Rattle.frame_store.proofs.domain_frames.DomainFrames.call.Goals as goal

pub give-requires-clause-may : goal.give-requires-clause-may
give-requires-clause-may c =
    let has = c.requires.given in
    let may =
    may_give c.args.self.now c.add-frame.new.self c.args.c.now.place.slot c.add-frame.result.0 c.args.head c.args.arguments _ c.requires.top.has_top has
    c.add-frame.ensures.moves c.add-frame.ensures.becomes c.requires.few_locals c.args.c.now.frame c.requires.top.is
    has.0 has.1 has.2 has.3 in
    may

pub give-requires-clause-low : goal.give-requires-clause-low
give-requires-clause-low c =
    let d = c.args.self.now in
    c.requires.values.start
    ∙ sym (c.add-frame.ensures.starts c.args.c.now.frame (is_top_frame d c.args.c.now.place.slot c.args.c.now.frame c.requires.top.has_top c.requires.top.is))

pub shorten-requires-clause-frame : goal.shorten-requires-clause-frame
shorten-requires-clause-frame c =
    let has = c.requires.given in
    let may =
    may_give c.args.self.now c.add-frame.new.self c.args.c.now.place.slot c.add-frame.result.0 c.args.head c.args.arguments _ c.requires.top.has_top has
    c.add-frame.ensures.moves c.add-frame.ensures.becomes c.requires.few_locals c.args.c.now.frame c.requires.top.is
    has.0 has.1 has.2 has.3 in
    caller_number c.args.self.now c.add-frame.new.self c.args.c.now.place.slot c.add-frame.result.0 c.args.head c.args.arguments _ c.requires.top.has_top has
    c.add-frame.ensures.moves c.add-frame.ensures.becomes c.requires.few_locals c.args.c.now.frame c.requires.top.is
    has.0 has.1 has.2 has.3 c.give.new.self c.give.ensures.frames (c.give.ensures.gives may)

pub shorten-requires-clause-enough : goal.shorten-requires-clause-enough
shorten-requires-clause-enough c =
    let has = c.requires.given in
    let may =
    may_give c.args.self.now c.add-frame.new.self c.args.c.now.place.slot c.add-frame.result.0 c.args.head c.args.arguments _ c.requires.top.has_top has
    c.add-frame.ensures.moves c.add-frame.ensures.becomes c.requires.few_locals c.args.c.now.frame c.requires.top.is
    has.0 has.1 has.2 has.3 in
    caller_has c.args.self.now c.add-frame.new.self c.args.c.now.place.slot c.add-frame.result.0 c.args.head c.args.arguments _ c.requires.top.has_top has
    c.add-frame.ensures.moves c.add-frame.ensures.becomes c.requires.few_locals c.args.c.now.frame c.requires.top.is
    has.0 has.1 has.2 has.3 c.give.new.self c.give.ensures.frames (c.give.ensures.gives may)

pub returns-clause-calls : goal.returns-clause-calls
returns-clause-calls c =
    let has = c.requires.given in
    let d = c.args.self.now in
    let n = c.shorten.new.self in
    let i = c.args.c.now.place.slot in
    let called_on : CallsOn d n i c.args.head c.args.arguments =
    λ below given stack many.
    let may =
    may_give c.args.self.now c.add-frame.new.self c.args.c.now.place.slot c.add-frame.result.0 c.args.head c.args.arguments _ c.requires.top.has_top has
    c.add-frame.ensures.moves c.add-frame.ensures.becomes c.requires.few_locals c.args.c.now.frame c.requires.top.is
    below given stack many in
    let gives = c.give.ensures.gives may in
    let at =
    off_at c.args.self.now c.add-frame.new.self c.args.c.now.place.slot c.add-frame.result.0 c.args.head c.args.arguments _ c.requires.top.has_top has
    c.add-frame.ensures.moves c.add-frame.ensures.becomes c.requires.few_locals c.args.c.now.frame c.requires.top.is
    below given stack many c.give.new.self c.give.ensures.frames gives in
    called c.args.self.now c.add-frame.new.self c.args.c.now.place.slot c.add-frame.result.0 c.args.head c.args.arguments _ c.requires.top.has_top has
    c.add-frame.ensures.moves c.add-frame.ensures.becomes c.requires.few_locals c.args.c.now.frame c.requires.top.is
    below given stack many c.give.new.self c.give.ensures.frames gives n _ (ap (λ k. d.used + k) c.requires.cost)
    (c.shorten.ensures.becomes i _ below given at.2 at.1 at.0 at.3 many) in
    called_on

pub aim_at-requires-clause-is_frame : goal.aim_at-requires-clause-is_frame
aim_at-requires-clause-is_frame c =
    let has = c.requires.given in
    let d = c.args.self.now in
    let n = c.shorten.new.self in
    let i = c.args.c.now.place.slot in
    let called_on : CallsOn d n i c.args.head c.args.arguments =
    λ below given stack many.
    let may =
    may_give c.args.self.now c.add-frame.new.self c.args.c.now.place.slot c.add-frame.result.0 c.args.head c.args.arguments _ c.requires.top.has_top has
    c.add-frame.ensures.moves c.add-frame.ensures.becomes c.requires.few_locals c.args.c.now.frame c.requires.top.is
    below given stack many in
    let gives = c.give.ensures.gives may in
    let at =
    off_at c.args.self.now c.add-frame.new.self c.args.c.now.place.slot c.add-frame.result.0 c.args.head c.args.arguments _ c.requires.top.has_top has
    c.add-frame.ensures.moves c.add-frame.ensures.becomes c.requires.few_locals c.args.c.now.frame c.requires.top.is
    below given stack many c.give.new.self c.give.ensures.frames gives in
    called c.args.self.now c.add-frame.new.self c.args.c.now.place.slot c.add-frame.result.0 c.args.head c.args.arguments _ c.requires.top.has_top has
    c.add-frame.ensures.moves c.add-frame.ensures.becomes c.requires.few_locals c.args.c.now.frame c.requires.top.is
    below given stack many c.give.new.self c.give.ensures.frames gives n _ (ap (λ k. d.used + k) c.requires.cost)
    (c.shorten.ensures.becomes i _ below given at.2 at.1 at.0 at.3 many) in
    let same = c.shorten.ensures.frames ∙ c.give.ensures.frames in
    let chunks = (called_on has.0 has.1 has.2 has.3).same_chunks in
    number_last c.args.self.now c.add-frame.new.self c.args.c.now.place.slot c.add-frame.result.0 c.args.head c.args.arguments _ c.requires.top.has_top has
    c.add-frame.ensures.moves c.add-frame.ensures.becomes c.requires.few_locals c.args.c.now.frame c.requires.top.is
    n same chunks

pub aim_at-requires-clause-top : goal.aim_at-requires-clause-top
aim_at-requires-clause-top c =
    let has = c.requires.given in
    let d = c.args.self.now in
    let n = c.shorten.new.self in
    let i = c.args.c.now.place.slot in
    let called_on : CallsOn d n i c.args.head c.args.arguments =
    λ below given stack many.
    let may =
    may_give c.args.self.now c.add-frame.new.self c.args.c.now.place.slot c.add-frame.result.0 c.args.head c.args.arguments _ c.requires.top.has_top has
    c.add-frame.ensures.moves c.add-frame.ensures.becomes c.requires.few_locals c.args.c.now.frame c.requires.top.is
    below given stack many in
    let gives = c.give.ensures.gives may in
    let at =
    off_at c.args.self.now c.add-frame.new.self c.args.c.now.place.slot c.add-frame.result.0 c.args.head c.args.arguments _ c.requires.top.has_top has
    c.add-frame.ensures.moves c.add-frame.ensures.becomes c.requires.few_locals c.args.c.now.frame c.requires.top.is
    below given stack many c.give.new.self c.give.ensures.frames gives in
    called c.args.self.now c.add-frame.new.self c.args.c.now.place.slot c.add-frame.result.0 c.args.head c.args.arguments _ c.requires.top.has_top has
    c.add-frame.ensures.moves c.add-frame.ensures.becomes c.requires.few_locals c.args.c.now.frame c.requires.top.is
    below given stack many c.give.new.self c.give.ensures.frames gives n _ (ap (λ k. d.used + k) c.requires.cost)
    (c.shorten.ensures.becomes i _ below given at.2 at.1 at.0 at.3 many) in
    let same = c.shorten.ensures.frames ∙ c.give.ensures.frames in
    let chunks = (called_on has.0 has.1 has.2 has.3).same_chunks in
    frame_last c.args.self.now c.add-frame.new.self c.args.c.now.place.slot c.add-frame.result.0 c.args.head c.args.arguments _ c.requires.top.has_top has
    c.add-frame.ensures.moves c.add-frame.ensures.becomes c.requires.few_locals c.args.c.now.frame c.requires.top.is
    n same chunks

pub aim_at-requires-clause-start : goal.aim_at-requires-clause-start
aim_at-requires-clause-start c =
    let same = c.shorten.ensures.parts ∙ c.give.ensures.parts in
    c.add-frame.ensures.start ∙ ap (λ (q : Chains). 20 * place q c.add-frame.result.0 0) (sym same)
