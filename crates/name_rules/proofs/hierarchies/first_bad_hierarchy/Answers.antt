-- The first file that is bad.
use Rattle.std.proofs.Common.{◌≡◌, ◌<◌, ◌∙◌, ℕ, length, refl, arith, Some, slice_get, sym, subst, inl, inr}
use Rattle.std.specs.Vec.{with_items}
use Rattle.std.proofs.lemmas.Bool.{cases_lt, iff_false}
use Rattle.std.proofs.lemmas.Option.{same_Some, slice_get_read, slice_get_within}
use Rattle.jk_model.specs.declared.class_file.ClassFile.{ClassFile}
use Rattle.class_files.proofs.JudgedFiles.{class_at as at_file}
use Rattle.name_rules.specs.BadHierarchies.{IsBadAt, folder_scope}
use Rattle.name_rules.specs.Graphs.{Rows}
use Rattle.class_files.specs.declared.folder_class.FolderClass.{FolderClass}
use Rattle.name_rules.specs.declared.scope.Scope.{Scope}
use Rattle.name_rules.proofs.BadParts.{bad_hierarchy, closed_rows, good_hierarchy}
use Rattle.name_rules.proofs.FolderGraph.{file_at, names_of}
use Rattle.name_rules.proofs.hierarchies.first_bad_hierarchy.Goals as goal

pub returns-then-branch-clause-bad : goal.returns-then-branch-clause-bad
returns-then-branch-clause-bad c =
    let folder = c.args.folder.now in
    let x : Scope = record { table = c.args.t; folder = c.args.folder; outer = c.args.outer; own = c.args.own } in
    let s = folder_scope x in
    let edges = c.in_ok-above.above in
    let above : Rows = (with_items edges c.close.new.rows).items in
    let closed = closed_rows edges c.deref_mut.result.now c.close.new.rows c.deref_mut.ensures.value c.close.ensures in
    let i = c.loop-i.i in
    let f = c.index-folder-i.result in
    let at : slice_get folder i ≡ Some f = slice_get_read folder (length folder) i f refl c.loop-i-test.true c.index-folder-i.is in
    let here = at_file folder i f at in
    let bad : IsBadAt s above i f.file =
    subst (λ (rows : Rows). IsBadAt s rows i f.file) c.deref.ensures.value (c.in_ok-is_bad.ensures.0 c.if-branch.true) in
    let broken =
    bad_hierarchy s c.args.own.now edges.items above c.requires.own c.in_ok-above.ensures closed (names_of folder c.requires.read) i f.file here bad in
    (f.file, here, broken)

pub returns-then-branch-clause-first : goal.returns-then-branch-clause-first
returns-then-branch-clause-first c = λ j file spot below at.
    let folder = c.args.folder.now in
    let x : Scope = record { table = c.args.t; folder = c.args.folder; outer = c.args.outer; own = c.args.own } in
    let s = folder_scope x in
    let edges = c.in_ok-above.above in
    let above : Rows = (with_items edges c.close.new.rows).items in
    let closed = closed_rows edges c.deref_mut.result.now c.close.new.rows c.deref_mut.ensures.value c.close.ensures in
    let found = file_at folder j file at in
    good_hierarchy s c.args.own.now edges.items above c.requires.own c.in_ok-above.ensures closed (names_of folder c.requires.read) j file spot at
    (λ bad. c.loop-i.invariant j found.0 below found.1 (subst (λ (d : ClassFile). IsBadAt s above j d) (sym found.2) bad))

pub loop-i-preserved : goal.loop-i-preserved
loop-i-preserved c = λ j g below at bad.
    let folder = c.args.folder.now in
    let x : Scope = record { table = c.args.t; folder = c.args.folder; outer = c.args.outer; own = c.args.own } in
    let s = folder_scope x in
    let above : Rows = (with_items c.in_ok-above.above c.close.new.rows).items in
    let i = c.loop-i.i in
    let f = c.index-folder-i.result in
    elim (cases_lt j i) [
      | inl less ↦ c.loop-i.invariant j g less at bad
      | inr least ↦
          let place : j ≡ i = omega arith in
          let here : slice_get folder i ≡ Some f = slice_get_read folder (length folder) i f refl c.loop-i-test.true c.index-folder-i.is in
          let same : g ≡ f = same_Some g f (sym at ∙ subst (λ (k : ℕ). slice_get folder k ≡ Some f) (sym place) here) in
          let there : IsBadAt s above i f.file =
          subst (λ (k : ℕ). IsBadAt s above k f.file) place (subst (λ (h : FolderClass). IsBadAt s above j h.file) same bad) in
          iff_false c.in_ok-is_bad.ensures c.if-branch.false
          (subst (λ (rows : Rows). IsBadAt s rows i f.file) (sym c.deref.ensures.value) there)
    ]

pub returns-clause-none : goal.returns-clause-none
returns-clause-none c = λ j file spot at.
    let folder = c.args.folder.now in
    let x : Scope = record { table = c.args.t; folder = c.args.folder; outer = c.args.outer; own = c.args.own } in
    let s = folder_scope x in
    let edges = c.in_ok-above.above in
    let above : Rows = (with_items edges c.close.new.rows).items in
    let closed = closed_rows edges c.deref_mut.result.now c.close.new.rows c.deref_mut.ensures.value c.close.ensures in
    let found = file_at folder j file at in
    let within = slice_get_within folder j found.0 found.1 in
    let below : j < c.loop-i.i = omega (arith, within, c.loop-i-test.false) in
    good_hierarchy s c.args.own.now edges.items above c.requires.own c.in_ok-above.ensures closed (names_of folder c.requires.read) j file spot at
    (λ bad. c.loop-i.invariant j found.0 below found.1 (subst (λ (d : ClassFile). IsBadAt s above j d) (sym found.2) bad))
