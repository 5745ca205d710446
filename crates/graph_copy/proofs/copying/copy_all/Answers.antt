-- What is found is laid, filled and forgotten one after the other.
use Rattle.std.proofs.Common.{List, sym, subst}
use Rattle.jk_model_classes.specs.declared.records.ClassRecord.{ClassRecord}
use Rattle.graph_copy.specs.Filled.{Fills, MayFill}
use Rattle.graph_copy.specs.Laid.{Lays, MayLay}
use Rattle.graph_copy.proofs.CopiesMade.{all_copied, chain_still, given_have_images, has_chain, may_fill, may_lay}
use Rattle.graph_copy.proofs.copying.copy_all.Goals as goal

pub lay-first-requires : goal.lay-first-requires
lay-first-requires g c =
    subst (λ (cs : List ClassRecord). MayLay (g.H.ObjectStore.content c.args.store.now) cs c.args.from c.args.to c.args.head) (sym c.classes-t.ensures)
    (may_lay c.requires.0 (g.H.ObjectStore.content c.args.store.now) c.args.w.now c.args.from c.args.to c.args.values.now c.args.head c.requires.1)

pub fill-requires : goal.fill-requires
fill-requires g c =
    let l = subst (λ (cs : List ClassRecord). Lays (g.H.ObjectStore.content c.args.store.now) (g.H.ObjectStore.content c.lay-first.new.store) cs c.args.from
    c.args.to c.requires.1.found.second c.lay-first.result) c.classes-t.ensures
    (c.lay-first.ensures c.requires.1.found.second c.requires.1.found.met.done_queue c.requires.1.found.is_second) in
    subst (λ (cs : List ClassRecord). MayFill (g.H.ObjectStore.content c.lay-first.new.store) cs c.args.from c.args.to c.lay-first.result)
    (sym c.classes-t.ensures)
    (may_fill c.requires.0 (g.H.ObjectStore.content c.args.store.now) c.args.w.now c.args.from c.args.to c.args.values.now c.args.head c.requires.1
    (g.H.ObjectStore.content c.lay-first.new.store) c.lay-first.result (g.met.H.ObjectStore.holds c.lay-first.new.store) l)

pub replace-requires : goal.replace-requires
replace-requires g c =
    let l = subst (λ (cs : List ClassRecord). Lays (g.H.ObjectStore.content c.args.store.now) (g.H.ObjectStore.content c.lay-first.new.store) cs c.args.from
    c.args.to c.requires.1.found.second c.lay-first.result) c.classes-t.ensures
    (c.lay-first.ensures c.requires.1.found.second c.requires.1.found.met.done_queue c.requires.1.found.is_second) in
    let p = subst (λ (cs : List ClassRecord). Fills (g.H.ObjectStore.content c.lay-first.new.store) (g.H.ObjectStore.content c.fill.new.store) cs
    c.args.from c.args.to l.pairs) c.classes-t.ensures (c.fill.ensures l.pairs l.laid.chain l.is_first) in
    given_have_images c.requires.0 (g.H.ObjectStore.content c.args.store.now) c.args.w.now c.args.from c.args.to c.args.values.now c.args.head c.requires.1
    (g.H.ObjectStore.content c.lay-first.new.store) c.lay-first.result (g.met.H.ObjectStore.holds c.lay-first.new.store) l
    (g.H.ObjectStore.content c.fill.new.store) (g.met.H.ObjectStore.holds c.fill.new.store) p

pub forget_pairs-requires : goal.forget_pairs-requires
forget_pairs-requires g c =
    let l = subst (λ (cs : List ClassRecord). Lays (g.H.ObjectStore.content c.args.store.now) (g.H.ObjectStore.content c.lay-first.new.store) cs c.args.from
    c.args.to c.requires.1.found.second c.lay-first.result) c.classes-t.ensures
    (c.lay-first.ensures c.requires.1.found.second c.requires.1.found.met.done_queue c.requires.1.found.is_second) in
    let p = subst (λ (cs : List ClassRecord). Fills (g.H.ObjectStore.content c.lay-first.new.store) (g.H.ObjectStore.content c.fill.new.store) cs
    c.args.from c.args.to l.pairs) c.classes-t.ensures (c.fill.ensures l.pairs l.laid.chain l.is_first) in
    has_chain c.requires.0 (g.H.ObjectStore.content c.args.store.now) c.args.w.now c.args.from c.args.to c.args.values.now c.args.head c.requires.1
    (g.H.ObjectStore.content c.lay-first.new.store) c.lay-first.result (g.met.H.ObjectStore.holds c.lay-first.new.store) l
    (g.H.ObjectStore.content c.fill.new.store) (g.met.H.ObjectStore.holds c.fill.new.store) p

pub returns : goal.returns
returns g c = λ x f.
    let l = subst (λ (cs : List ClassRecord). Lays (g.H.ObjectStore.content c.args.store.now) (g.H.ObjectStore.content c.lay-first.new.store) cs c.args.from
    c.args.to f.found.second c.lay-first.result) c.classes-t.ensures
    (c.lay-first.ensures f.found.second f.found.met.done_queue f.found.is_second) in
    let p = subst (λ (cs : List ClassRecord). Fills (g.H.ObjectStore.content c.lay-first.new.store) (g.H.ObjectStore.content c.fill.new.store) cs
    c.args.from c.args.to l.pairs) c.classes-t.ensures (c.fill.ensures l.pairs l.laid.chain l.is_first) in
    all_copied x (g.H.ObjectStore.content c.args.store.now) c.args.w.now c.args.from c.args.to c.args.values.now c.args.head f
    (g.H.ObjectStore.content c.lay-first.new.store) c.lay-first.result (g.met.H.ObjectStore.holds c.lay-first.new.store) l
    (g.H.ObjectStore.content c.fill.new.store) (g.met.H.ObjectStore.holds c.fill.new.store) p
    (g.H.ObjectStore.content c.forget_pairs.new.store) (g.met.H.ObjectStore.holds c.args.store.now)
    (g.met.H.ObjectStore.holds c.forget_pairs.new.store) c.replace.new.values c.replace.ensures
    (c.forget_pairs.ensures l.pairs
    (chain_still x (g.H.ObjectStore.content c.args.store.now) c.args.w.now c.args.from c.args.to c.args.values.now c.args.head f
    (g.H.ObjectStore.content c.lay-first.new.store) c.lay-first.result (g.met.H.ObjectStore.holds c.lay-first.new.store) l
    (g.H.ObjectStore.content c.fill.new.store) (g.met.H.ObjectStore.holds c.fill.new.store) p)
    l.is_first)
