-- Each part of a step does what the row of the instruction says.
use Rattle.std.proofs.Common.{◌≡◌, ◌+◌, ◌<◌, Bool, true, false, MatchBool, [], ◌∷◌, rules, refl, sym, ap, subst, ◌∙◌, arith}
use Rattle.std.specs.Int.{cast_signed, cast_unsigned, w32}
use Rattle.jk_model.specs.declared.steps.After.TheVariants as Next
use Rattle.jk_model_domains.specs.NumberRows.{switch_target}
use Rattle.jk_model_typing.specs.Groups.{int, takes}
use Rattle.number_ops.specs.NumberSteps.{DoesNumbers}
use Rattle.number_ops.specs.Operands.{Decided}
use Rattle.number_laws.specs.NumberOpcodes.{switch_opcodes}
use Rattle.number_ops.specs.declared.parts.Part.TheVariants as P
use Rattle.number_ops.proofs.FindsOperands.{finds}
use Rattle.number_ops.proofs.FoundOperands.{found_int, roomless}
use Rattle.number_ops.proofs.OpcodesAmong.{finds_as, finds_at, finds_load, finds_room, finds_store, finds_value, is_jump_among, is_load_among, is_only, is_return_among, is_store_among, is_switch_among, of_part}
use Rattle.number_ops.proofs.StepsDone.{calculated, did_nothing, divided, jumped, ldc_int, ldc_long, leads, most_locals, moved, next_fits, no_other, pushed, returned, returned_nothing, switched, used}
use Rattle.number_laws.proofs.JumpsGoOn.{jump_goes_on, switch_goes_on}
use Rattle.number_ops.proofs.step.Goals.{in-Nothing, in-Constant, in-Load, in-Store, in-Move, in-Calculate+else-not-calculate, in-Increment, in-Decide+else-decides}
use Rattle.number_ops.proofs.step.Goals as goal

when_true : (A B : Type 0) (b : Bool) → b ≡ true → MatchBool b A B → A
when_true A B true e h = h
when_true A B false e h = absurd cc

when_false : (A B : Type 0) (b : Bool) → b ≡ false → MatchBool b A B → B
when_false A B true e h = absurd cc
when_false A B false e h = h

pub constant-requires-clause-op : goal.constant-requires-clause-op
constant-requires-clause-op g c = of_part _ P.Constant c.args.i.now.op c.in-Constant.is c.part_of.ensures

pub constant-requires-clause-linked : goal.constant-requires-clause-linked
constant-requires-clause-linked g c = record {
  member = c.requires.method;
  method_is = c.requires.method_is;
  scope = c.requires.scope;
  scope_is = c.requires.scope_is;
  int = ldc_int _ _ _ c.args.head.now c.args.i.now c.requires;
  long = ldc_long _ _ _ c.args.head.now c.args.i.now c.requires;
}

pub push-requires : goal.push-requires
push-requires g c = finds_room _ _ c.args.i.now (of_part _ P.Constant c.args.i.now.op c.in-Constant.is c.part_of.ensures)
    (finds _ _ _ c.args.head.now c.args.i.now c.requires)

pub load-requires-clause-op : goal.load-requires-clause-op
load-requires-clause-op g c = is_load_among c.args.i.now.op (of_part _ P.Load c.args.i.now.op c.in-Load.is c.part_of.ensures)

pub load-requires-clause-most : goal.load-requires-clause-most
load-requires-clause-most g c = most_locals _ _ _ c.args.head.now c.args.i.now c.requires

pub load-requires-clause-finds : goal.load-requires-clause-finds
load-requires-clause-finds g c = finds_load _ _ c.args.i.now (of_part _ P.Load c.args.i.now.op c.in-Load.is c.part_of.ensures)
    (finds _ _ _ c.args.head.now c.args.i.now c.requires)

pub store-requires-clause-op : goal.store-requires-clause-op
store-requires-clause-op g c = is_store_among c.args.i.now.op (of_part _ P.Store c.args.i.now.op c.in-Store.is c.part_of.ensures)

pub store-requires-clause-most : goal.store-requires-clause-most
store-requires-clause-most g c = most_locals _ _ _ c.args.head.now c.args.i.now c.requires

pub store-requires-clause-finds : goal.store-requires-clause-finds
store-requires-clause-finds g c = finds_store _ _ c.args.i.now (of_part _ P.Store c.args.i.now.op c.in-Store.is c.part_of.ensures)
    (finds _ _ _ c.args.head.now c.args.i.now c.requires)

pub move_entries-requires-clause-op : goal.move_entries-requires-clause-op
move_entries-requires-clause-op g c = of_part _ P.Move c.args.i.now.op c.in-Move.is c.part_of.ensures

pub move_entries-requires-clause-finds : goal.move_entries-requires-clause-finds
move_entries-requires-clause-finds g c = finds _ _ _ c.args.head.now c.args.i.now c.requires

pub calculate-requires-clause-op : goal.calculate-requires-clause-op
calculate-requires-clause-op g c = of_part _ (P.Calculate c.in-Calculate.kind) c.args.i.now.op c.in-Calculate.is c.part_of.ensures

pub calculate-requires-clause-finds : goal.calculate-requires-clause-finds
calculate-requires-clause-finds g c = finds _ _ _ c.args.head.now c.args.i.now c.requires

pub returns-then-not-calculate : goal.returns-then-not-calculate
returns-then-not-calculate g c =
    let no : c.calculate.result ≡ false = search rules in
    divided _ _ _ _ c.args.head.now c.args.i.now c.requires (when_false _ _ c.calculate.result no c.calculate.ensures)

pub increment-requires-clause-op : goal.increment-requires-clause-op
increment-requires-clause-op g c = is_only 0x84 c.args.i.now.op (of_part _ P.Increment c.args.i.now.op c.in-Increment.is c.part_of.ensures)

pub increment-requires-clause-most : goal.increment-requires-clause-most
increment-requires-clause-most g c = most_locals _ _ _ c.args.head.now c.args.i.now c.requires

pub increment-requires-clause-finds : goal.increment-requires-clause-finds
increment-requires-clause-finds g c = finds_at _ _ c.args.i.now 0x84 (is_only 0x84 c.args.i.now.op
    (of_part _ P.Increment c.args.i.now.op c.in-Increment.is c.part_of.ensures)) (finds _ _ _ c.args.head.now c.args.i.now c.requires)

pub decides-requires-clause-op : goal.decides-requires-clause-op
decides-requires-clause-op g c = of_part _ (P.Decide c.in-Decide.kind) c.args.i.now.op c.in-Decide.is c.part_of.ensures

pub decides-requires-clause-there : goal.decides-requires-clause-there
decides-requires-clause-there g c = (c.requires.frame, c.requires.top)

pub decides-requires-clause-finds : goal.decides-requires-clause-finds
decides-requires-clause-finds g c = finds _ _ _ c.args.head.now c.args.i.now c.requires

pub place_of-requires : goal.place_of-requires
place_of-requires g c =
    let jump = is_jump_among c.in-Decide.kind c.args.i.now.op (of_part _ (P.Decide c.in-Decide.kind) c.args.i.now.op c.in-Decide.is c.part_of.ensures) in
    let to = leads _ _ _ c.args.head.now c.args.i.now c.requires c.args.i.now.a (jump_goes_on c.args.head.now.at c.args.i.now jump) in
    let round : cast_signed w32 (cast_unsigned w32 c.args.i.now.a) ≡ c.args.i.now.a = search rules in
    (to.0, round ∙ to.1)

pub returns-then-decides : goal.returns-then-decides
returns-then-decides g c =
    let round : cast_signed w32 (cast_unsigned w32 c.args.i.now.a) ≡ c.args.i.now.a = search rules in
    jumped _ _ _ _ c.args.head.now c.args.i.now c.requires c.place_of.result true (subst (Decided _ _ _ _) c.if-decides.true c.decides.ensures)
    (sym round ∙ c.place_of.ensures)

pub pop_int-key-requires : goal.pop_int-key-requires
pop_int-key-requires g c =
    let h = found_int _ _ [] (finds_as switch_opcodes _ _ c.args.i.now (takes (int ∷ []) []) (refl, (refl, tt))
    (of_part _ P.Switch c.args.i.now.op c.in-Switch.is c.part_of.ensures) (finds _ _ _ c.args.head.now c.args.i.now c.requires)) in
    (h.0, roomless _ _ _ 0 h.1)

pub target-requires : goal.target-requires
target-requires g c = c.requires.keys

pub place_of-requires-in-Switch : goal.place_of-requires-in-Switch
place_of-requires-in-Switch g c =
    let key = cast_signed w32 (cast_unsigned w32 c.pop_int-key.result) in
    let switch = is_switch_among c.args.i.now.op (of_part _ P.Switch c.args.i.now.op c.in-Switch.is c.part_of.ensures) in
    let to = leads _ _ _ c.args.head.now c.args.i.now c.requires (switch_target c.args.i.now key)
    (switch_goes_on c.args.head.now.at c.args.i.now key switch) in
    let round : cast_signed w32 (cast_unsigned w32 c.target.result) ≡ c.target.result = search rules in
    (to.0, round ∙ c.target.ensures ∙ to.1)

pub returns-in-Switch : goal.returns-in-Switch
returns-in-Switch g c =
    let switch = is_switch_among c.args.i.now.op (of_part _ P.Switch c.args.i.now.op c.in-Switch.is c.part_of.ensures) in
    let round : cast_signed w32 (cast_unsigned w32 c.target.result) ≡ c.target.result = search rules in
    let key : cast_signed w32 (cast_unsigned w32 c.pop_int-key.result) ≡ c.pop_int-key.result = search rules in
    let is = ap (switch_target c.args.i.now) (sym key) ∙ sym c.target.ensures ∙ sym round ∙ c.place_of-in-Switch.ensures in
    switched _ _ _ _ c.args.head.now c.args.i.now c.requires c.place_of-in-Switch.result c.pop_int-key.result switch c.pop_int-key.ensures is

pub pop-requires : goal.pop-requires
pop-requires g c = finds_value _ _ c.args.i.now (of_part _ P.ReturnValue c.args.i.now.op c.in-ReturnValue.is c.part_of.ensures)
    (finds _ _ _ c.args.head.now c.args.i.now c.requires)

pub returns-in-ReturnValue : goal.returns-in-ReturnValue
returns-in-ReturnValue g c =
    returned _ _ _ _ c.args.head.now c.args.i.now c.requires c.pop.result (is_return_among c.args.i.now.op
    (of_part _ P.ReturnValue c.args.i.now.op c.in-ReturnValue.is c.part_of.ensures)) c.pop.ensures

pub returns-in-ReturnNothing : goal.returns-in-ReturnNothing
returns-in-ReturnNothing g c = returned_nothing _ _ _ c.args.head.now c.args.i.now c.requires (is_only 0xb1 c.args.i.now.op
    (of_part _ P.ReturnNothing c.args.i.now.op c.in-ReturnNothing.is c.part_of.ensures))

pub unreachable-requires : goal.unreachable-requires
unreachable-requires g c = no_other _ _ _ c.args.head.now c.args.i.now c.requires (of_part _ P.Other c.args.i.now.op c.in-Other.is c.part_of.ensures)

pub overflow_add-result : goal.overflow_add-result
overflow_add-result g c =
    let fits = next_fits _ _ _ c.args.head.now c.args.i.now c.requires in
    let low : c.args.head.now.at + 1 < 4294967296 = omega (arith, fits) in
    record { fits = low }

pub returns : goal.returns
returns g c =
    let Done = λ (x : g.row.F.Denot). DoesNumbers (g.F.SegmentFrames.content c.args.frames.now) (g.F.SegmentFrames.content x) c.args.w.now.classes
    c.args.s c.args.head.now c.args.i.now (Next.Goto (c.args.head.now.at + 1)) in
    elim c.match-part_of.branch [
      | in-Nothing w ↦ subst Done (sym w.frames-is) (did_nothing _ _ _ c.args.head.now c.args.i.now c.requires _ (is_only 0x00 c.args.i.now.op
          (of_part _ P.Nothing c.args.i.now.op w.in-Nothing.is c.part_of.ensures)) refl)
      | in-Constant w ↦ subst Done (sym w.frames-is) (pushed _ _ _ _ c.args.head.now c.args.i.now c.requires _ w.constant.result
          (w.constant.ensures c.requires.method c.requires.scope (c.requires.method_is) c.requires.scope_is)
          w.push.ensures refl)
      | in-Load w ↦ subst Done (sym w.frames-is) (used _ _ _ _ c.args.head.now c.args.i.now c.requires _ w.load.ensures refl)
      | in-Store w ↦ subst Done (sym w.frames-is) (used _ _ _ _ c.args.head.now c.args.i.now c.requires _ w.store.ensures refl)
      | in-Move w ↦ subst Done (sym w.frames-is) (moved _ _ _ _ c.args.head.now c.args.i.now c.requires _ w.move_entries.ensures refl)
      | in-Calculate+else-not-calculate w ↦
          (let yes : w.calculate.result ≡ true = search rules in
          subst Done (sym w.frames-is)
          (calculated _ _ _ _ c.args.head.now c.args.i.now c.requires _ (when_true _ _ w.calculate.result yes w.calculate.ensures) refl))
      | in-Increment w ↦ subst Done (sym w.frames-is) (used _ _ _ _ c.args.head.now c.args.i.now c.requires _ w.increment.ensures refl)
      | in-Decide+else-decides w ↦ subst Done (sym w.frames-is) (jumped _ _ _ _ c.args.head.now c.args.i.now c.requires _ false
          (subst (Decided _ _ _ _) w.if-decides.false w.decides.ensures) refl)
    ]
