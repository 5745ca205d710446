-- Entries are pushed one after the other.
use Rattle.std.proofs.Common.{◌≡◌, [], ◌∷◌, length, sym, subst, lit≤}
use Rattle.jk_model.specs.declared.identifiers.SegmentNo.{SegmentNo}
use Rattle.frame_store.specs.FrameContents.{FrameContent}
use Rattle.number_ops.specs.declared.moves.Entries.{Entries}
use Rattle.number_ops.specs.Entries.{entries_of}
use Rattle.number_ops.specs.TopChanges.{OnTopWithRoom, Turns}
use Rattle.number_ops.proofs.EntriesOnTop.{less_room, nothing_turned, pushes, room_pushed}
use Rattle.number_ops.proofs.moves.put.Goals as goal

room_as : (c : FrameContent) (s : SegmentNo) (e e' : Entries) → e ≡ e' → OnTopWithRoom c s [] (length (entries_of e))
    → OnTopWithRoom c s [] (length (entries_of e'))
room_as c s e e' same h = subst (λ (x : Entries). OnTopWithRoom c s [] (length (entries_of x))) same h

turned_as : (c d : FrameContent) (s : SegmentNo) (e e' : Entries) → e ≡ e' → Turns c d s [] (entries_of e') → Turns c d s [] (entries_of e)
turned_as c d s e e' same h = subst (λ (x : Entries). Turns c d s [] (entries_of x)) (sym same) h

pub push-requires : goal.push-requires
push-requires g c = room_as _ _ _ _ c.in-One.is c.requires

pub push-requires-in-Two : goal.push-requires-in-Two
push-requires-in-Two g c =
    less_room _ _ [] 2 1 (room_as _ _ _ _ c.in-Two.is c.requires) (lit≤ tt)

pub push-requires-in-Two-2 : goal.push-requires-in-Two-2
push-requires-in-Two-2 g c =
    room_pushed _ _ _ (c.in-Two.v ∷ []) 2 1 (room_as _ _ _ _ c.in-Two.is c.requires)
    c.push-in-Two.ensures (lit≤ tt)

pub returns-in-Nothing : goal.returns-in-Nothing
returns-in-Nothing g c =
    turned_as _ _ _ _ _ c.in-Nothing.is (nothing_turned _ _ c.requires.frame c.requires.top)

pub returns-in-One : goal.returns-in-One
returns-in-One g c = turned_as _ _ _ _ _ c.in-One.is c.push.ensures

pub returns-in-Two : goal.returns-in-Two
returns-in-Two g c =
    turned_as _ _ _ _ _ c.in-Two.is
    (pushes _ _ _ _ [] (c.in-Two.v ∷ []) (c.in-Two.w ∷ []) c.push-in-Two.ensures c.push-in-Two-2.ensures)
