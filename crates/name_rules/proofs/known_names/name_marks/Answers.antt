-- The marks of one walk.
use Rattle.std.proofs.Common.{◌≡◌, ◌∙◌, ℕ, List, Bool, false, length, replicate, sym, ap, subst}
use Rattle.jk_model.specs.declared.class_file.PoolEntry.{PoolEntry}
use Rattle.name_rules.specs.KnownNames.{IsEntryName}
use Rattle.name_rules.specs.Marks.{Marks, MarksOf}
use Rattle.name_rules.proofs.MarksInTurn.{marks_of, written}
use Rattle.name_rules.proofs.known_names.name_marks.Goals as goal

pub returns : goal.returns
returns c =
    let pool = c.args.c.now.pool in
    let bare = c.in_ok-marks.marks in
    let marks = c.mark_names.new.marks in
    let after = written bare c.deref_mut.result.now marks c.deref_mut.ensures.value c.mark_names.ensures.as_many in
    let all : Marks (IsEntryName pool) bare.items marks =
    subst (λ (items : List PoolEntry). Marks (IsEntryName items) bare.items marks) c.as_slice.ensures
    (subst (λ (m : List Bool). Marks (IsEntryName c.as_slice.result.now) m marks) c.deref_mut.ensures.value c.mark_names.ensures) in
    let items : bare.items ≡ replicate (length pool) false =
    c.in_ok-marks.ensures.items_if_clones_equal (λ y e. e) ∙ ap (λ (n : ℕ). replicate n false) c.len.ensures in
    subst (λ (m : List Bool). MarksOf (length pool) (IsEntryName pool) m) (sym after)
    (marks_of (length pool) (IsEntryName pool) bare.items marks items all)
