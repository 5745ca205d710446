-- The name is the text that the class's entry names.
use Rattle.std.proofs.Common.{◌≡◌, ap, refl, ◌∙◌, Some, Bor, List, ℕ, slice_get, rules, ◌<◌, length, get_or}
use Rattle.std.proofs.lemmas.Option.{slice_get_read}
use Rattle.jk_model.specs.declared.class_file.PoolEntry.{PoolEntry}
use Rattle.jk_model.specs.declared.class_file.PoolEntry.TheVariants.{Class}
use Rattle.class_texts.proofs.TextsOfAPool.{class_by_text}
use Rattle.class_texts.proofs.texts.ClassTexts.class_name.Goals as goal

pub returns : goal.returns
returns c =
    let pool = c.args.pool.now in
    let e = c.in_ok-entry.entry.now in
    let below : c.args.i < length pool = search rules in
    let read : e ≡ get_or pool c.args.i e = search rules in
    let at : slice_get pool c.args.i ≡ Some e = slice_get_read pool (length pool) c.args.i e refl below read in
    let class : e ≡ Class c.in_ok-name.name = c.in_ok-name.ensures in
    class_by_text (λ (b : Bor (List ℕ)). b.now) pool c.args.self.now c.args.i c.in_ok-name.name c.requires (at ∙ ap (λ (x : PoolEntry). Some x) class)
    c.text.result
    c.text.ensures
