-- The least of a field, the earlier of a method by its type and one by its code, and an entry is the least spot.
use Rattle.std.proofs.Common.{arith, false, sym, subst, ℕ, Option, length, ◌^◌}
use Rattle.jk_model_classes.specs.MemberCode.{UsesFloat}
use Rattle.class_rules.specs.CodeRules.{HasWrongMethodCode}
use Rattle.class_rules.specs.Entries.{IsFloatEntry}
use Rattle.class_rules.specs.Walks.{IsLeastItem}
use Rattle.class_rules.specs.declared.code_rules.CodeRule.TheVariants.{Floats}
use Rattle.class_rules.specs.declared.members.FirstPlaces.{FirstPlaces}
use Rattle.class_rules.proofs.CodesReadEach.{false_is_never, least_code}
use Rattle.class_rules.proofs.EarlierItems.{earlier_within, least_either, within_more}
use Rattle.class_rules.proofs.FloatsReadEach.{HasFloatType, HasFloatSignature, UsesFloatBy, floats_read_each}
use Rattle.class_rules.proofs.LeastSpots.{least_spot}
use Rattle.class_rules.proofs.floats.bad_floats.Goals as goal

pub number-requires-clause-method : goal.number-requires-clause-method
number-requires-clause-method c =
    rw c.earlier.ensures
    (earlier_within _ _ (2 ^ 16)
    (within_more _ (length c.args.c.now.methods) (2 ^ 16) (omega arith) c.first_float_method-by_descriptor.ensures.within)
    (within_more _ (length c.args.judged.now) (2 ^ 16) (omega (arith, c.requires.judged.long)) c.first_code-by_code.ensures.within))

pub returns : goal.returns
returns c =
    let class = c.args.c.now in
    let places : FirstPlaces = record {
      class = false;
      field = c.first_float_field.result;
      method = c.earlier.result;
      entry = c.first_float_entry.result;
    } in
    let by_code = least_code Floats class c.args.judged.now c.requires.judged c.first_code-by_code.result c.first_code-by_code.ensures.least in
    let both = least_either (HasFloatSignature class.pool) (HasWrongMethodCode Floats class) class.methods c.first_float_method-by_descriptor.result
    c.first_code-by_code.result c.first_float_method-by_descriptor.ensures.least by_code in
    least_spot class ⊥ (HasFloatType class.pool) (UsesFloatBy class) (IsFloatEntry class.pool) (UsesFloat class) places _ _ (floats_read_each class)
    (record {
      class = false_is_never;
      field = c.first_float_field.ensures.least;
      method = subst (λ (r : Option ℕ). IsLeastItem (UsesFloatBy class) class.methods r) (sym c.earlier.ensures) both;
      entry = c.first_float_entry.ensures.least;
    })
    c.len.ensures c.number.ensures
