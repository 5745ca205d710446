-- One descriptor more is marked.
use Rattle.std.proofs.Common.{◌≡◌, ◌+◌, ℕ, List, Bool, length, refl, arith, Some, slice_get, subst, sym, ◌∙◌, ap}
use Rattle.jk_model_classes.specs.Items.{HasItemBefore}
use Rattle.name_rules.specs.Marks.{Marks}
use Rattle.std.proofs.lemmas.Option.{slice_get_read}
use Rattle.jk_model.specs.declared.class_file.PoolEntry.{PoolEntry}
use Rattle.jk_model.specs.declared.class_file.PoolEntry.TheVariants.{NameAndType}
use Rattle.name_rules.proofs.MarksInTurn.{marks_all, marks_more, marks_skipped}
use Rattle.name_rules.proofs.known_names.mark_pairs.Goals as goal
use Rattle.name_rules.proofs.known_names.mark_pairs.Goals.{in-NameAndType, in_default}

pub loop-entry-preserved : goal.loop-entry-preserved
loop-entry-preserved c =
    let pool = c.args.pool.now in
    let k = c.loop-entry.entry-index in
    let entry = c.entry-item.result in
    let at : slice_get pool k ≡ Some entry = slice_get_read pool (length pool) k entry refl (omega arith) c.entry-item.is in
    let P = λ (i : ℕ) (e : PoolEntry). (name : ℕ) × (e ≡ NameAndType name i) in
    let Fine : List Bool → Type 0 = λ marks. Marks (λ (i : ℕ). HasItemBefore (k + 1) (P i) pool) c.args.marks.now marks in
    elim c.match-entry.branch [
      | in-NameAndType w ↦
          let is = w.in-NameAndType.is in
          let index = w.from.ensures in
          subst Fine (sym w.marks-is)
          (marks_more P pool (λ (j : ℕ). j ≡ w.from.result) k entry c.args.marks.now c.loop-entry.marks w.set_mark.new.marks at
          (λ i e. (w.in-NameAndType.field-0, is ∙ ap (λ (d : ℕ). NameAndType w.in-NameAndType.field-0 d) (sym index ∙ sym e)))
          (λ i (name, e).
          let both : NameAndType w.in-NameAndType.field-0 w.in-NameAndType.descriptor ≡ NameAndType name i = sym is ∙ e in
          let same : w.in-NameAndType.descriptor ≡ i = cc in
          sym same ∙ sym index)
          c.loop-entry.invariant w.set_mark.ensures)
      | in_default w ↦
          subst Fine (sym w.marks-is)
          (marks_skipped P pool k entry c.args.marks.now c.loop-entry.marks at (λ i (name, e). w.in_default.not-NameAndType name i e) c.loop-entry.invariant)
    ]

pub returns : goal.returns
returns c =
    marks_all (λ (i : ℕ) (e : PoolEntry). (name : ℕ) × (e ≡ NameAndType name i)) c.args.pool.now c.loop-entry.entry-index c.args.marks.now
    c.loop-entry.marks (omega arith) c.loop-entry.invariant
