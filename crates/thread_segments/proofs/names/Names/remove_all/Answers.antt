-- What is kept are the names of other domains.
use Rattle.std.proofs.Common.{List, ap, ◌∙◌, rules}
use Rattle.std.specs.Prelude.{◌==◌, not}
use Rattle.std.proofs.lemmas.Fn.{filter_same}
use Rattle.jk_model_sharing.specs.BoundNames.{BoundName}
use Rattle.thread_segments.specs.declared.names.NameEntry.{NameEntry}
use Rattle.thread_segments.specs.NameEntries.{NameList, names_of}
use Rattle.thread_segments.proofs.NamesByPlace.{names_of_others}
use Rattle.thread_segments.proofs.names.Names.remove_all.Goals as goal

pub returns : goal.returns
returns c =
    let s = c.self.inside in
    let kept = filter_same _ (λ (e : NameEntry). not (e.binder.0 == c.args.binder.0)) _ (λ x b g h. search rules) s.entries.items c.retain.new.self.items
    c.retain.ensures.filtered in
    rw (← c.self.view_is)
    (ap (λ (ns : List BoundName). let x : NameList = record { names = ns; most = s.most } in x)
    (ap (λ (es : List NameEntry). names_of es) kept ∙ names_of_others c.args.binder s.entries.items))
