-- The marks of one walk.
use Rattle.std.proofs.Common.{◌≡◌, ◌∙◌, ℕ, List, Bool, false, length, replicate, sym, ap, subst, Some, slice_get}
use Rattle.jk_model.specs.declared.class_file.PoolEntry.{PoolEntry}
use Rattle.jk_model.specs.declared.class_file.PoolEntry.TheVariants.{Class}
use Rattle.jk_model_classes.specs.Items.{HasItem}
use Rattle.name_rules.specs.FolderEdges.{IsListedName}
use Rattle.name_rules.specs.Marks.{Marks, MarksOf}
use Rattle.name_rules.proofs.MarksInTurn.{marks_of, written}
use Rattle.name_rules.proofs.edges.listed_names.Goals as goal

abbrev Names : List PoolEntry → List ℕ → ℕ → Type 0
Names pool indices n = HasItem (λ (i : ℕ). slice_get pool i ≡ Some (Class n)) indices

pub returns : goal.returns
returns c =
    let file = c.args.c.now in
    let bare = c.in_ok-marks.marks in
    let marks = c.mark_listed.new.marks in
    let after = written bare c.deref_mut.result.now marks c.deref_mut.ensures.value c.mark_listed.ensures.as_many in
    let all : Marks (IsListedName file) bare.items marks =
    subst (λ (p : List PoolEntry). Marks (Names p file.interfaces) bare.items marks) c.as_slice.ensures
    (subst (λ (indices : List ℕ). Marks (Names c.as_slice.result.now indices) bare.items marks) c.as_slice-2.ensures
    (subst (λ (m : List Bool). Marks (Names c.as_slice.result.now c.as_slice-2.result.now) m marks) c.deref_mut.ensures.value c.mark_listed.ensures)) in
    let items : bare.items ≡ replicate (length file.pool) false =
    c.in_ok-marks.ensures.items_if_clones_equal (λ y e. e) ∙ ap (λ (n : ℕ). replicate n false) c.len.ensures in
    subst (λ (m : List Bool). MarksOf (length file.pool) (IsListedName file) m) (sym after)
    (marks_of (length file.pool) (IsListedName file) bare.items marks items all)
