-- Some blocks are given back.
use Rattle.number_table.specs.ChainMoves.{count}
use Rattle.frame_store.proofs.BlocksAreGiven.{GivesSome}
use Rattle.frame_store.proofs.frame_blocks.give_blocks.Given as goal

abbrev pub invariant-loop-parts : goal.invariant-loop-parts
invariant-loop-parts l = GivesSome l.initial.parts l.parts l.last l.frame

abbrev pub decreases-loop-parts : goal.decreases-loop-parts
decreases-loop-parts l = count l.parts l.frame
