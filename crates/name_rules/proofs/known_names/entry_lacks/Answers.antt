-- What a Class entry's name says was worked out with its text.
use Rattle.std.proofs.Common.{◌≡◌, ◌↔◌, ◌∙◌, ap, ℕ, Some, slice_get, subst, IsTrue}
use Rattle.jk_model.specs.declared.class_file.PoolEntry.{PoolEntry}
use Rattle.jk_model.specs.declared.class_file.PoolEntry.TheVariants.{Class}
use Rattle.name_rules.specs.Marks.{IsMarked}
use Rattle.name_rules.proofs.NamesLacking.{class_entry_tells, mark_tells}
use Rattle.name_rules.proofs.known_names.entry_lacks.Goals as goal

pub returns-in-Class : goal.returns-in-Class
returns-in-Class c =
    let x = c.args.names.now in
    let file = c.args.f.now.file in
    let name = c.in-Class.name in
    let r = c.is_marked.result in
    let at : slice_get file.pool c.args.i ≡ Some (Class name) = c.requires.at ∙ ap (λ (e : PoolEntry). Some e) c.in-Class.is in
    class_entry_tells x file c.args.i name r at
    (mark_tells x file.pool c.args.lacking.now name c.args.i r c.requires.lacking at
    (subst (λ (n : ℕ). IsTrue r ↔ IsMarked c.args.lacking.now n) c.from.ensures c.is_marked.ensures))
