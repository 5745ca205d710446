-- The field comes after the others, where there is room.
use Rattle.std.proofs.Common.{inl, inr, arith}
use Rattle.jkasm.proofs.ItemsAdded.{field_added, field_refused}
use Rattle.jkasm.proofs.class_builder.ClassBuilder.add_field.Goals as goal
use Rattle.jkasm.proofs.class_builder.ClassBuilder.add_field.Goals.{then-not-has_room_for_members-via-then-not-has_room_for_members, then-not-has_room_for_members-via-else-not-has_room_for_members+then-len-ge-MOST}

pub returns-then-not-has_room_for_members-clause-fault : goal.returns-then-not-has_room_for_members-clause-fault
returns-then-not-has_room_for_members-clause-fault c =
    λ o later built limits e. field_refused o c.args.line.now later c.args.self.now built
    (elim c.then-not-has_room_for_members.branch [
      | then-not-has_room_for_members-via-then-not-has_room_for_members w ↦ inl (grind arith)
      | then-not-has_room_for_members-via-else-not-has_room_for_members+then-len-ge-MOST w ↦ inr (omega arith)
    ])

pub returns-clause-added : goal.returns-clause-added
returns-clause-added c =
    λ o later built limits. rw c.in_ok-push.ensures.ok
    (field_added o c.args.line.now later c.args.self.now c.build_field.new.pool c.in_ok-field.field built limits
    (grind arith) (omega arith) c.in_ok-field.ensures.says c.in_ok-field.ensures.fits c.in_ok-field.ensures.takes)
