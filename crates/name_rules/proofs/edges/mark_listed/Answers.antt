-- One name more is marked.
use Rattle.std.proofs.Common.{◌≡◌, ◌+◌, ℕ, List, Bool, get_or, arith, Some, slice_get, subst, sym, ◌∙◌, ap}
use Rattle.std.proofs.lemmas.Option.{slice_get-get_or}
use Rattle.jk_model.specs.declared.class_file.PoolEntry.TheVariants.{Class}
use Rattle.jk_model_classes.specs.Items.{HasItemBefore}
use Rattle.name_rules.specs.Marks.{Marks}
use Rattle.name_rules.proofs.MarksInTurn.{marks_all, marks_more, marks_skipped}
use Rattle.name_rules.proofs.edges.mark_listed.Goals as goal
use Rattle.name_rules.proofs.edges.mark_listed.Goals.{in-Some, in_default}

pub loop-i-preserved : goal.loop-i-preserved
loop-i-preserved c =
    let pool = c.args.pool.now in
    let indices = c.args.indices.now in
    let k = c.loop-i.i-index in
    let item = get_or indices k 0 in
    let at : slice_get indices k ≡ Some item = slice_get-get_or indices k 0 c.loop-i-test.true in
    let P = λ (n i : ℕ). slice_get pool i ≡ Some (Class n) in
    let Fine : List Bool → Type 0 = λ marks. Marks (λ (n : ℕ). HasItemBefore (k + 1) (P n) indices) c.args.marks.now marks in
    elim c.match-class_entry.branch [
      | in-Some w ↦
          let is = w.in-Some.ensures in
          let index = w.from.ensures in
          subst Fine (sym w.marks-is)
          (marks_more P indices (λ (j : ℕ). j ≡ w.from.result) k item c.args.marks.now c.loop-i.marks w.set_mark.new.marks at
          (λ n e. is ∙ ap (λ (m : ℕ). Some (Class m)) (sym index ∙ sym e))
          (λ n h.
          let both : Some (Class w.in-Some.name) ≡ Some (Class n) = sym is ∙ h in
          let same : w.in-Some.name ≡ n = cc in
          sym same ∙ sym index)
          c.loop-i.invariant w.set_mark.ensures)
      | in_default w ↦
          subst Fine (sym w.marks-is) (marks_skipped P indices k item c.args.marks.now c.loop-i.marks at w.in_default.ensures c.loop-i.invariant)
    ]

pub returns : goal.returns
returns c =
    marks_all (λ (n i : ℕ). slice_get c.args.pool.now i ≡ Some (Class n)) c.args.indices.now c.loop-i.i-index c.args.marks.now
    c.loop-i.marks (omega arith) c.loop-i.invariant
