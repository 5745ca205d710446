-- The class gets its own name, where that is free.
use Rattle.std.proofs.Common.{length, refl}
use Rattle.std.proofs.lemmas.Option.{slice_get_read}
use Rattle.jk_model_classes.specs.Worlds.{IsNamed}
use Rattle.domain_resolver.proofs.BroughtInTurn.{brings_by, done_by}
use Rattle.domain_resolver.proofs.name_table.NameTable.bring.Goals as goal

pub returns-clause-done : goal.returns-clause-done
returns-clause-done c =
    let r = c.in-Some.record.now in
    let there = slice_get_read c.args.classes.now (length c.args.classes.now) c.args.class.0 r refl c.requires c.in-Some.ensures.1 in
    let free : IsNamed c.args.self.now c.args.class → ⊥ = λ n. let yes = c.has_class.ensures.1 n in let no = c.if-has_class.false in cc in
    done_by c.args.classes.now c.args.class r c.args.self.now _ c.give.result there free c.give.ensures.given

pub returns-clause-some : goal.returns-clause-some
returns-clause-some c =
    let r = c.in-Some.record.now in
    let there = slice_get_read c.args.classes.now (length c.args.classes.now) c.args.class.0 r refl c.requires c.in-Some.ensures.1 in
    brings_by c.args.classes.now c.args.class r c.args.self.now _ c.give.result there
    (λ n. let yes = c.has_class.ensures.1 n in let no = c.if-has_class.false in cc) c.give.ensures.given c.give.ensures.err
