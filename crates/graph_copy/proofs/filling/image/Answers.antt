-- A name's object has a mark that leads to its copy.
use Rattle.std.proofs.Common.{[], ◌∷◌, Contains, sym, ap, ◌∙◌, subst}
use Rattle.jk_model.specs.declared.values.Value.{Value}
use Rattle.jk_model.specs.declared.values.Value.TheVariants as Held
use Rattle.list_lemmas.proofs.ItemsOfLists.{Contains-here}
use Rattle.graph_copy.specs.Filled.{image_of}
use Rattle.graph_copy.proofs.PlacesFilled.{other_image}
use Rattle.graph_copy.proofs.filling.image.Goals as goal

pub copy_of-requires-clause-named : goal.copy_of-requires-clause-named
copy_of-requires-clause-named g c =
    let there : Contains (c.args.v ∷ []) (Held.Obj c.in-Obj.a) =
    subst (λ (w : Value). Contains (c.args.v ∷ []) w) c.in-Obj.is (Contains-here c.args.v []) in
    (c.requires c.in-Obj.a there).is_name

pub copy_of-requires-clause-marked : goal.copy_of-requires-clause-marked
copy_of-requires-clause-marked g c =
    let there : Contains (c.args.v ∷ []) (Held.Obj c.in-Obj.a) =
    subst (λ (w : Value). Contains (c.args.v ∷ []) w) c.in-Obj.is (Contains-here c.args.v []) in
    (c.requires c.in-Obj.a there).marked

pub returns-in-Obj : goal.returns-in-Obj
returns-in-Obj g c =
    ap Held.Obj c.copy_of.ensures ∙ sym (ap (image_of ((g.H.ObjectStore.content c.args.store.now).mark c.args.from)) c.in-Obj.is)

pub returns-in_default : goal.returns-in_default
returns-in_default g c = other_image ((g.H.ObjectStore.content c.args.store.now).mark c.args.from) c.args.v c.in_default.not-Obj
