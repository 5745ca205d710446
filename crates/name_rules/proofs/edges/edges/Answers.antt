-- One row more.
use Rattle.std.proofs.Common.{◌≡◌, ◌+◌, ◌∙◌, ◌∷◌, [], ◌++◌, ℕ, List, length, refl, ap, arith, Some, slice_get, subst, Bool, length-append}
use Rattle.std.specs.Global.{Vec}
use Rattle.std.proofs.lemmas.Option.{slice_get_read}
use Rattle.jk_model.proofs.EachItem.{all_at}
use Rattle.class_files.specs.FolderClasses.{IsReadClass}
use Rattle.name_rules.proofs.EdgesMarked.{are_edges, rows_more}
use Rattle.name_rules.proofs.edges.edges.Goals as goal

pub row_of-requires : goal.row_of-requires
row_of-requires c =
    let folder = c.args.folder.now in
    let f = c.f-item.result in
    all_at IsReadClass folder c.loop-f.f-index f c.requires (slice_get_read folder (length folder) c.loop-f.f-index f refl c.loop-f-test.true c.f-item.is)

pub loop-f-preserved : goal.loop-f-preserved
loop-f-preserved c =
    let folder = c.args.folder.now in
    let k = c.loop-f.f-index in
    let f = c.f-item.result in
    let rows = c.loop-f.rows.items in
    let row = c.in_ok-row.row in
    let at : slice_get folder k ≡ Some f = slice_get_read folder (length folder) k f refl c.loop-f-test.true c.f-item.is in
    let items : c.push.new.self.items ≡ rows ++ row ∷ [] = c.in_ok-push.ensures.items in
    record {
      as_many = ap (λ (r : List (Vec Bool)). length r) items ∙ length-append rows (row ∷ []) ∙ ap (λ (n : ℕ). n + 1) c.loop-f.invariant.as_many;
      each = λ i g r at_i at_r.
          rows_more folder c.args.own.now rows k f row c.loop-f.invariant.as_many at c.loop-f.invariant.each c.in_ok-row.ensures i g r at_i
          (subst (λ (all : List (Vec Bool)). slice_get all i ≡ Some r) items at_r);
    }

pub returns : goal.returns
returns c =
    are_edges c.args.folder.now c.args.own.now c.loop-f.rows.items (omega (arith, c.loop-f.invariant.as_many, c.loop-f-test.false, c.loop-f.auto.f-index-end))
    c.loop-f.invariant.each
