-- One instruction more is renamed.
use Rattle.std.proofs.Common.{◌∙◌, List, ap, length, refl, sym, subst, arith}
use Rattle.std.proofs.lemmas.List.{length_push}
use Rattle.std.proofs.lemmas.Option.{slice_get_read}
use Rattle.jk_model.specs.declared.instructions.Instr.{Instr}
use Rattle.touched_locals.proofs.KeptByList.{RenamedSoFar, renamed-none, renamed-pushed}
use Rattle.touched_locals.proofs.renaming.renamed_instrs.Goals as goal

pub loop-i-init : goal.loop-i-init
loop-i-init c =
    record {
      as_many = ap length c.new-renamed.ensures;
      each = subst (λ (xs : List Instr). RenamedSoFar c.args.kept.now c.args.count c.args.instrs.now xs) (sym c.new-renamed.ensures)
          (renamed-none c.args.kept.now c.args.count c.args.instrs.now);
    }

pub loop-i-preserved : goal.loop-i-preserved
loop-i-preserved c =
    let so = c.loop-i.invariant in
    let instrs = c.args.instrs.now in
    let at = slice_get_read instrs (length instrs) c.loop-i.i-index c.i-item.result refl c.loop-i-test.true c.i-item.is in
    let renames = rw c.in-Some.is at c.in_ok-instr.ensures in
    let pushed = c.in_ok-push.ensures.ok in
    record {
      as_many = ap length pushed ∙ length_push c.loop-i.renamed c.in-Some.instr ∙ omega (arith, so.as_many);
      each = renamed-pushed c.args.kept.now c.args.count instrs c.loop-i.renamed c.push.new.self c.loop-i.i-index c.i-item.result c.in-Some.instr so.as_many
          so.each at renames pushed;
    }

pub returns : goal.returns
returns c =
    let so = c.loop-i.invariant in
    record { as_many = omega (arith, so.as_many); each = so.each }
