-- The least native method is the least spot.
use Rattle.std.proofs.Common.{false, None}
use Rattle.jk_model.specs.Flags.{NATIVE}
use Rattle.jk_model_classes.specs.MemberCode.{IsNative}
use Rattle.class_rules.specs.FlagRules.{HasFlagged}
use Rattle.class_rules.specs.declared.members.FirstPlaces.{FirstPlaces}
use Rattle.class_rules.proofs.LeastSpots.{least_spot}
use Rattle.class_rules.proofs.CodesReadEach.{false_is_never}
use Rattle.class_rules.proofs.FlagsReadEach.{native_reads_each, own_flagged}
use Rattle.class_rules.proofs.flag_rules.native_method.Goals as goal

pub returns : goal.returns
returns c =
    let places : FirstPlaces = record { class = false; field = None; method = c.first_flagged.result; entry = None } in
    least_spot c.args.c.now ⊥ (λ field. ⊥) (HasFlagged c.args.c.now.pool NATIVE) (λ entry. ⊥) (IsNative c.args.c.now) places _ _
    (native_reads_each c.args.c.now)
    (record {
      class = false_is_never;
      field = λ h. h.3;
      method = own_flagged c.of-pool.result.entries.now c.args.c.now.pool NATIVE c.as_slice.result.now c.args.c.now.methods c.first_flagged.result
          c.of-pool.ensures.entries c.as_slice.ensures c.first_flagged.ensures.least;
      entry = λ h. h.3;
    })
    c.len.ensures c.number.ensures
