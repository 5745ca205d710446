-- The name of a class is the text that its entry names.
use Rattle.std.proofs.Common.{◌≡◌, ◌∙◌, Some, sym, slice_get, length, refl}
use Rattle.std.proofs.lemmas.Option.{slice_get_read}
use Rattle.jk_model.specs.declared.class_file.PoolEntry.TheVariants.{Class}
use Rattle.class_rules.proofs.OneText.{class_by_text}
use Rattle.class_rules.proofs.path.class_at.Goals as goal

pub returns : goal.returns
returns c =
    let found = c.in-Some-Class.ensures.lookup in
    let its : c.in-Some-Class.field-0.now ≡ Class c.in-Some-Class.name = cc in
    let read : slice_get c.args.pool.now c.from.result ≡ Some (Class c.in-Some-Class.name) =
    slice_get_read c.args.pool.now (length c.args.pool.now) c.from.result (Class c.in-Some-Class.name) refl found.3.0
    (sym its ∙ found.3.1 (Class c.in-Some-Class.name)) in
    let at : slice_get c.args.pool.now c.args.index ≡ Some (Class c.in-Some-Class.name) = rw (← c.from.ensures) read in
    class_by_text c.args.pool.now c.args.index c.in-Some-Class.name at c.text_at.result c.text_at.ensures
