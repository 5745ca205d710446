-- A record can be written where its parts fit, its version is accepted, and its pool is good.
use Rattle.std.proofs.Common.{sym, ◌∙◌}
use Rattle.class_writer.proofs.ClassIsItsParts.{writable}
use Rattle.class_writer.proofs.class.is_writable.Goals as goal
use Rattle.class_writer.proofs.class.is_writable.Goals.{then-is_version, else-is_version, then-is_short, else-is_short}

pub returns-then-are_slots : goal.returns-then-are_slots
returns-then-are_slots c =
    elim c.if-is_version.branch [
      | then-is_version w ↦
          elim c.if-is_short.branch [
            | then-is_short v ↦
                let same = c.as_slice-pool.ensures in
                let good = c.is_good_pool.ensures.good in
                let version = c.is_version.ensures.accepted.0 w.if-is_version.true in
                let short = w.is_short.ensures.0 (sym w.value-is ∙ v.if-is_short.true) in
                let slots = rw same at (v.are_slots.ensures.0 (sym v.value-is ∙ c.if-are_slots.true)) in
                record { writable = (λ h. writable c.args.c.now short version slots (rw same at (good.0 h)), λ k. good.1 (rw same k.is_class.entries)) }
            | else-is_short v ↦ absurd cc
          ]
      | else-is_version w ↦ elim c.if-is_short.branch [ then-is_short v ↦ absurd cc | else-is_short v ↦ absurd cc ]
    ]
