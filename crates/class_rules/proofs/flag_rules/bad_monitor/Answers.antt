-- The earlier of the least method by its code and the least by its flags is the least spot.
use Rattle.std.proofs.Common.{false, None, sym, subst, ℕ, Option}
use Rattle.jk_model.specs.Flags.{SYNCHRONIZED}
use Rattle.jk_model_classes.specs.MemberCode.{UsesMonitor}
use Rattle.class_rules.specs.CodeRules.{HasWrongMethodCode}
use Rattle.class_rules.specs.FlagRules.{HasFlagged}
use Rattle.class_rules.specs.Walks.{IsLeastItem}
use Rattle.class_rules.specs.declared.code_rules.CodeRule.TheVariants.{Monitors}
use Rattle.class_rules.specs.declared.members.FirstPlaces.{FirstPlaces}
use Rattle.class_rules.proofs.LeastSpots.{least_spot}
use Rattle.class_rules.proofs.CodesReadEach.{false_is_never, least_code}
use Rattle.class_rules.proofs.EarlierItems.{least_either}
use Rattle.class_rules.proofs.FlagsReadEach.{UsesMonitorBy, monitor_reads_each, own_flagged}
use Rattle.class_rules.proofs.flag_rules.bad_monitor.Goals as goal

pub returns : goal.returns
returns c =
    let places : FirstPlaces = record { class = false; field = None; method = c.earlier.result; entry = None } in
    let both = least_either (HasWrongMethodCode Monitors c.args.c.now) (HasFlagged c.args.c.now.pool SYNCHRONIZED) c.args.c.now.methods
    c.first_code-by_code.result c.first_flagged-by_flag.result
    (least_code Monitors c.args.c.now c.args.judged.now c.requires.judged c.first_code-by_code.result c.first_code-by_code.ensures.least)
    (own_flagged c.of-pool.result.entries.now c.args.c.now.pool SYNCHRONIZED c.as_slice.result.now c.args.c.now.methods c.first_flagged-by_flag.result
    c.of-pool.ensures.entries c.as_slice.ensures c.first_flagged-by_flag.ensures.least) in
    least_spot c.args.c.now ⊥ (λ field. ⊥) (UsesMonitorBy c.args.c.now) (λ entry. ⊥) (UsesMonitor c.args.c.now) places _ _
    (monitor_reads_each c.args.c.now)
    (record {
      class = false_is_never;
      field = λ h. h.3;
      method = subst (λ (r : Option ℕ). IsLeastItem (UsesMonitorBy c.args.c.now) c.args.c.now.methods r) (sym c.earlier.ensures) both;
      entry = λ h. h.3;
    })
    c.len.ensures c.number.ensures
