-- The place of each instruction is within the table, and is marked.
use Rattle.std.proofs.Common.{length, refl, arith, ap, ◌<◌, ◌∙◌, true, false}
use Rattle.std.proofs.lemmas.List.{length-replicate, length-set}
use Rattle.std.proofs.lemmas.Option.{slice_get_read}
use Rattle.class_rules.proofs.PlacesMarked.{none_marked, one_more_marked, all_marked}
use Rattle.class_rules.proofs.codes.places.places_of.Goals as goal

pub index_mut-requires : goal.index_mut-requires
index_mut-requires c =
    let at = slice_get_read c.args.instrs.now (length c.args.instrs.now) c.loop-instr.instr-index c.instr-item.result refl c.loop-instr-test.true
    c.instr-item.is in
    omega (arith, c.requires c.loop-instr.instr-index c.instr-item.result at, c.loop-instr.invariant.long)

pub loop-instr-init : goal.loop-instr-init
loop-instr-init c =
    let e = c.in_ok-places.ensures.items_if_clones_equal (λ y same. same) in
    record { long = ap length e ∙ length-replicate c.args.long false; marked = none_marked c.args.instrs.now c.in_ok-places.places.items c.args.long e }

pub loop-instr-preserved : goal.loop-instr-preserved
loop-instr-preserved c =
    let at = slice_get_read c.args.instrs.now (length c.args.instrs.now) c.loop-instr.instr-index c.instr-item.result refl c.loop-instr-test.true
    c.instr-item.is in
    let within : c.instr-item.result.at < length c.loop-instr.places.items =
    omega (arith, c.requires c.loop-instr.instr-index c.instr-item.result at, c.loop-instr.invariant.long) in
    record {
      long = length-set c.loop-instr.places.items c.instr-item.result.at true ∙ c.loop-instr.invariant.long;
      marked = one_more_marked c.args.instrs.now c.loop-instr.places.items c.loop-instr.instr-index c.instr-item.result c.loop-instr-test.true
          c.instr-item.is within c.loop-instr.invariant.marked;
    }

pub returns : goal.returns
returns c = all_marked c.args.instrs.now c.loop-instr.places.items c.loop-instr.instr-index (omega arith) c.loop-instr.invariant.marked
