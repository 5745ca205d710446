-- The value names one object, which is met, or none.
use Rattle.std.proofs.Common.{[], ◌∷◌, Contains, sym, subst}
use Rattle.jk_model.specs.declared.values.Value.{Value}
use Rattle.jk_model.specs.declared.values.Value.TheVariants as Held
use Rattle.list_lemmas.proofs.ItemsOfLists.{Contains-here}
use Rattle.graph_copy.specs.MetObjects.{Meets}
use Rattle.graph_copy.proofs.ObjectsMet.{meets_none, meets_one, only_value}
use Rattle.graph_copy.proofs.meeting.meet_value.Goals as goal

pub returns-in-Obj : goal.returns-in-Obj
returns-in-Obj g c =
    let there : Contains (c.args.v ∷ []) (Held.Obj c.in-Obj.b) =
    subst (λ (w : Value). Contains (c.args.v ∷ []) w) c.in-Obj.is (Contains-here c.args.v []) in
    subst
    (λ (w : Value). Meets (g.H.ObjectStore.content c.args.store.now) (g.H.ObjectStore.content c.meet.new.store) c.args.d (w ∷ []) c.args.head
    c.meet.result) (sym c.in-Obj.is)
    (meets_one (g.H.ObjectStore.content c.args.store.now) (g.H.ObjectStore.content c.meet.new.store) c.args.d c.in-Obj.b c.args.head c.meet.result
    (c.requires.named c.in-Obj.b there) c.meet.ensures)

pub returns-in_default : goal.returns-in_default
returns-in_default g c =
    meets_none (g.H.ObjectStore.content c.args.store.now) c.args.d (c.args.v ∷ []) c.args.head
    (λ b there. c.in_default.not-Obj b (only_value c.args.v (Held.Obj b) there))
