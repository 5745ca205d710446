-- By the initialiser that was found.
use Rattle.std.proofs.Common.{List, length, sym, ap, subst, ◌∙◌, arith}
use Rattle.std.proofs.lemmas.Option.{same_Some}
use Rattle.list_lemmas.proofs.ItemsByPlace.{item_lent}
use Rattle.jk_model_classes.specs.declared.records.ClassRecord.{ClassRecord}
use Rattle.jk_model_classes.specs.declared.records.MethodRecord.{MethodRecord}
use Rattle.segment_steps.specs.Initialisers.{IsFirstClinit, NoClinit}
use Rattle.segment_steps.proofs.InitialiserHeads.{begins_code, begins_nothing, has_code}
use Rattle.segment_steps.proofs.needed_classes.initialiser_head.Goals.{in-Some-first_clinit, in-None-first_clinit}
use Rattle.segment_steps.proofs.needed_classes.initialiser_head.Goals as goal

pub first_clinit-requires : goal.first_clinit-requires
first_clinit-requires c =
    let there = item_lent c.args.t.now c.args.c.0 c.in-Some.class c.in-Some.ensures in
    omega (arith, ap length c.as_slice.ensures, (c.ordered.ensures.members c.args.c c.in-Some.class.now there).1)

pub first_head-code-requires : goal.first_head-code-requires
first_head-code-requires c =
    let there = item_lent c.args.t.now c.args.c.0 c.in-Some.class c.in-Some.ensures in
    let same = same_Some c.requires.class.0 c.in-Some.class.now (sym c.requires.class.2 ∙ there) in
    has_code c.args.t.now c.requires.sound c.args.c c.requires.class.1 c.in-Some.class.now there
    (ap (λ (k : ClassRecord). k.parent) (sym same) ∙ c.requires.class.3) c.in-Some-first_clinit.index
    (subst (λ (l : List MethodRecord). IsFirstClinit l c.in-Some-first_clinit.index) c.as_slice.ensures c.in-Some-first_clinit.ensures)

pub returns : goal.returns
returns c =
    let there = item_lent c.args.t.now c.args.c.0 c.in-Some.class c.in-Some.ensures in
    let same = same_Some c.requires.class.0 c.in-Some.class.now (sym c.requires.class.2 ∙ there) in
    let parent = ap (λ (k : ClassRecord). k.parent) (sym same) ∙ c.requires.class.3 in
    elim c.match-first_clinit.branch [
      | in-Some-first_clinit w ↦
          begins_code c.args.t.now c.requires.sound c.args.c c.requires.class.1 c.in-Some.class.now there parent w.in-Some-first_clinit.index
          (subst (λ (l : List MethodRecord). IsFirstClinit l w.in-Some-first_clinit.index) c.as_slice.ensures w.in-Some-first_clinit.ensures)
          c.match-first_clinit.code w.first_head-code.ensures.0 w.first_head-code.ensures.1 (w.code-is ∙ w.first_head-code.ensures.2)
      | in-None-first_clinit w ↦
          begins_nothing c.args.t.now c.requires.sound c.args.c c.requires.class.1 c.in-Some.class.now there parent c.match-first_clinit.code
          (subst NoClinit c.as_slice.ensures w.in-None-first_clinit.ensures) w.code-is
    ]
