-- The entry and its link are there, or one of them isn't.
use Rattle.std.proofs.Common.{◌≡◌, Some, sym, subst, ◌∙◌, ℕ, pos}
use Rattle.std.specs.Prelude.{slice_get}
use Rattle.link_rules.proofs.MadeByLinks.{no_made_link, unmakable_by_link}
use Rattle.link_rules.proofs.made_classes.makes_unmakable.Goals as goal

pub returns-in-Some-named_link : goal.returns-in-Some-named_link
returns-in-Some-named_link c = λ s same h.
    let (i, names, there) = c.in-Some.ensures in
    let (j, also, stands) = c.in-Some-named_link.ensures in
    let both : pos j ≡ pos i = sym also ∙ names in
    let one : j ≡ i = cc in
    unmakable_by_link s c.args.c.now c.args.texts.now c.requires.texts c.args.links.now h i c.in-Some.entry.now there c.in-Some-named_link.link.now
    (subst (λ (w : ℕ). slice_get c.args.links.now w ≡ Some c.in-Some-named_link.link.now) one stands) c.args.instr.now names c.if-instr.false
    c.args.t.now c.leads_unmakable.result same c.leads_unmakable.ensures

pub returns-in-None-named_link : goal.returns-in-None-named_link
returns-in-None-named_link c = λ s same h.
    (λ t. absurd cc, λ m. absurd (no_made_link c.args.links.now c.args.instr.now c.in-None-named_link.ensures s c.args.c.now h m))
