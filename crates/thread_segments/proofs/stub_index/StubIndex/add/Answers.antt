-- The places lead to the stubs of all lists.
use Rattle.std.proofs.Common.{◌∙◌, ◌++◌, ◌∷◌, [], List, subst, sym}
use Rattle.jk_model_classes.specs.declared.sharing.Stub.{Stub}
use Rattle.thread_segments.specs.StubPlaces.{ArePlacesOf, stubs_in}
use Rattle.thread_segments.proofs.StubsByClass.{stubs_in-push}
use Rattle.thread_segments.proofs.stub_index.StubIndex.add.Goals as goal

pub invariant_of-self : goal.invariant_of-self
invariant_of-self c =
    let x = c.self.inside in
    let P : List Stub → Type 0 = λ xs. ArePlacesOf c.enter.new.places (x.lists.items ++ xs ∷ []) (stubs_in (x.lists.items ++ xs ∷ [])) in
    rw c.push_reserved.ensures.items
    (subst P c.as_slice.ensures (c.enter.ensures x.lists.items (sym x.lists.ok.0 ∙ sym c.len.ensures) c.self.invariant))

pub returns : goal.returns
returns c = rw (← c.self.view_is, c.push_reserved.ensures.items) (stubs_in-push c.self.inside.lists.items c.args.stubs)
