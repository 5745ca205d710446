-- The marks of the parent and of the interfaces together.
use Rattle.std.proofs.Common.{◌≡◌, ◌∙◌, inl, inr, List, Bool, false, replicate, sym, subst}
use Rattle.std.specs.Vec.{with_items}
use Rattle.name_rules.specs.FolderEdges.{ExtendsPlace, GoesTo, ListsPlace}
use Rattle.name_rules.specs.Marks.{Marks, MarksOf}
use Rattle.name_rules.proofs.MarksInTurn.{marks_of, marks_then, written}
use Rattle.name_rules.proofs.edges.row_of.Goals as goal

pub returns : goal.returns
returns c =
    let file = c.args.f.now.file in
    let own = c.args.own.now in
    let bare = c.in_ok-row.row in
    let first = c.mark_parent.new.row in
    let second = c.mark_interfaces.new.row in
    let after_first = written bare c.deref_mut.result.now first c.deref_mut.ensures.value c.mark_parent.ensures.as_many in
    let after_second =
    written (with_items bare first) c.deref_mut-2.result.now second c.deref_mut-2.ensures.value c.mark_interfaces.ensures.as_many in
    let one : Marks (ExtendsPlace file own) bare.items first =
    subst (λ (m : List Bool). Marks (ExtendsPlace file own) m first) c.deref_mut.ensures.value c.mark_parent.ensures in
    let two : Marks (ListsPlace file own) first second =
    subst (λ (m : List Bool). Marks (ListsPlace file own) m second) (c.deref_mut-2.ensures.value ∙ after_first) c.mark_interfaces.ensures in
    let all : Marks (GoesTo file own) bare.items second =
    marks_then (ExtendsPlace file own) (ListsPlace file own) (GoesTo file own) bare.items first second (λ i h. inl h) (λ i h. inr h) (λ i h. h) one two in
    let items : bare.items ≡ replicate c.args.count false = c.in_ok-row.ensures.items_if_clones_equal (λ y e. e) in
    subst (λ (m : List Bool). MarksOf c.args.count (GoesTo file own) m) (sym after_second) (marks_of c.args.count (GoesTo file own) bare.items second items all)
