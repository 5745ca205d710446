-- A method's name and flags say which descriptor it may have.
use Rattle.std.proofs.Common.{refl, subst, List, Some, None}
use Rattle.jk_model.specs.declared.class_file.PoolEntry.{PoolEntry}
use Rattle.jk_model_classes.specs.Members.{TextAt, INIT, CLINIT}
use Rattle.class_rules.specs.KnownPools.{IsTextKnown}
use Rattle.class_rules.proofs.KnownTexts.{of_entries, refuted}
use Rattle.class_rules.proofs.MethodTypes.{plain_type, clinit_type}
use Rattle.class_rules.proofs.member_descriptors.lacks_method_type.Goals as goal

pub returns-in_default : goal.returns-in_default
returns-in_default c =
    let none = subst (λ (p : List PoolEntry). IsTextKnown p c.args.method.now.descriptor None) c.of-pool.ensures.entries c.in_default.ensures in
    (λ e (t, h). none h.text.0 h.text.1, λ h. refl)

pub returns-then-is_word : goal.returns-then-is_word
returns-then-is_word c =
    let same = c.of-pool.ensures.entries in
    let pool = c.args.c.now.pool in
    let known =
    subst (λ (p : List PoolEntry). IsTextKnown p c.args.method.now.descriptor (Some c.in-Some.descriptor)) same c.in-Some.ensures in
    let init = of_entries (λ p. TextAt p c.args.method.now.name INIT) _ pool c.is_word-is_init.result same c.is_word-is_init.ensures in
    let clinit = of_entries (λ p. TextAt p c.args.method.now.name CLINIT) _ pool c.is_word.result same c.is_word.ensures in
    clinit_type c.args.c.now c.args.method.now c.in-Some.descriptor c.is_word-is_init.result c.fits_clinit.result known init (clinit.0 c.if-is_word.true)
    c.fits_clinit.ensures

pub returns : goal.returns
returns c =
    let same = c.of-pool.ensures.entries in
    let pool = c.args.c.now.pool in
    let known =
    subst (λ (p : List PoolEntry). IsTextKnown p c.args.method.now.descriptor (Some c.in-Some.descriptor)) same c.in-Some.ensures in
    let init = of_entries (λ p. TextAt p c.args.method.now.name INIT) _ pool c.is_word-is_init.result same c.is_word-is_init.ensures in
    let clinit = of_entries (λ p. TextAt p c.args.method.now.name CLINIT) _ pool c.is_word.result same c.is_word.ensures in
    plain_type c.args.c.now c.args.method.now c.in-Some.descriptor c.is_word-is_init.result c.has-is_static.result c.fits_method.result known init
    c.has-is_static.ensures (refuted c.is_word.result clinit c.if-is_word.false) c.fits_method.ensures
