-- A line that shares brings in nothing; one that imports brings in what is offered.
use Rattle.std.proofs.Common.{◌∙◌, ap, length, refl}
use Rattle.std.proofs.lemmas.Option.{slice_get_read}
use Rattle.jk_model_classes.specs.declared.sharing.ResolverLine.{ResolverLine}
use Rattle.resolver_rules.proofs.LinesBringIn.{import_judged, not_offered, offered_is_there, offered_under, own_names, share_keeps}
use Rattle.resolver_rules.proofs.imports.take_line.Goals as goal

pub returns-in-Share : goal.returns-in-Share
returns-in-Share c =
    let line = c.index-lines-place.result in
    let at = slice_get_read c.args.lines.now (length c.args.lines.now) c.args.place line refl c.requires.place c.index-lines-place.is in
    share_keeps c.args.folder.now c.args.w.now c.args.into.now c.args.lines.now c.args.place line c.in-Share.class c.in-Share.to c.args.names.now
    at (ap (λ (l : ResolverLine). l.says) c.index-lines-place.is ∙ c.in-Share.is) c.requires.brought

pub bring-requires-clause-class : goal.bring-requires-clause-class
bring-requires-clause-class c =
    offered_is_there c.args.w.now c.args.into.now c.requires.world c.as_slice-in-Import.result.now c.as_slice-in-Import-2.result.now c.in-Some.class
    c.in-Some.ensures

pub bring-requires-clause-own : goal.bring-requires-clause-own
bring-requires-clause-own c =
    own_names c.args.folder.now c.args.w.now c.args.into.now c.args.lines.now c.args.place c.args.names.now c.requires.brought

pub returns-in-Some : goal.returns-in-Some
returns-in-Some c =
    let line = c.index-lines-place.result in
    let at = slice_get_read c.args.lines.now (length c.args.lines.now) c.args.place line refl c.requires.place c.index-lines-place.is in
    let name = c.as_slice-in-Import-2.ensures.value ∙ c.in_ok-name-in-Import.ensures ∙ c.as_slice.ensures in
    let offered = offered_under c.args.w.now c.args.into.now c.in-Import.from c.as_slice-in-Import.result.now c.in-Import.class
    c.as_slice-in-Import-2.result.now c.in-Some.class c.as_slice-in-Import.ensures name c.in-Some.ensures in
    import_judged c.args.folder.now c.args.w.now c.args.into.now c.args.lines.now c.args.place line c.in-Import.from c.in-Import.class at
    (ap (λ (l : ResolverLine). l.says) c.index-lines-place.is ∙ c.in-Import.is) c.requires.world c.in-Some.class c.args.names.now c.bring.new.names offered
    c.requires.brought c.bring.result c.bring.ensures

pub returns : goal.returns
returns c =
    let line = c.index-lines-place.result in
    let at = slice_get_read c.args.lines.now (length c.args.lines.now) c.args.place line refl c.requires.place c.index-lines-place.is in
    let name = c.as_slice-in-Import-2.ensures.value ∙ c.in_ok-name-in-Import.ensures ∙ c.as_slice.ensures in
    not_offered c.args.folder.now c.args.w.now c.args.into.now c.args.lines.now c.args.place line c.in-Import.from c.in-Import.class at
    (ap (λ (l : ResolverLine). l.says) c.index-lines-place.is ∙ c.in-Import.is)
    (λ x offered. c.in-None.ensures x (rw (c.as_slice-in-Import.ensures, name) offered))
