-- The method begins, where there is room.
use Rattle.std.proofs.Common.{inl, inr, arith}
use Rattle.jkasm.proofs.ItemsAdded.{method_added, method_refused}
use Rattle.jkasm.proofs.class_builder.ClassBuilder.add_method.Goals as goal
use Rattle.jkasm.proofs.class_builder.ClassBuilder.add_method.Goals.{then-not-has_room_for_members-via-then-not-has_room_for_members, then-not-has_room_for_members-via-else-not-has_room_for_members+then-len-ge-MOST}

pub returns-then-not-has_room_for_members-clause-fault : goal.returns-then-not-has_room_for_members-clause-fault
returns-then-not-has_room_for_members-clause-fault c =
    λ o built limits e. method_refused o c.args.line.now c.args.later.now c.args.self.now built
    (elim c.then-not-has_room_for_members.branch [
      | then-not-has_room_for_members-via-then-not-has_room_for_members w ↦ inl (grind arith)
      | then-not-has_room_for_members-via-else-not-has_room_for_members+then-len-ge-MOST w ↦ inr (omega arith)
    ])

pub returns-clause-added : goal.returns-clause-added
returns-clause-added c =
    λ o built limits. method_added o c.args.line.now c.args.later.now c.args.self.now c.begin.new.pool c.in_ok-method.method built limits
    (grind arith) (omega arith) c.in_ok-method.ensures.begun c.in_ok-method.ensures.takes c.in_ok-method.ensures.short
