-- The comparison of the ranks from the front tells.
use Rattle.std.proofs.Common.{◌≡◌, refl, rules, codes, nat_cmp}
use Rattle.std.proofs.lemmas.Iterator.{YieldsList-from_slice, YieldsList-from_map}
use Rattle.std.proofs.lemmas.Iterator.Consumers.{YieldsList-from_chain, YieldsList-at}
use Rattle.std.proofs.lemmas.Iterator.Search.{cmp_from_yields_List}
use Rattle.jk_model_classes.specs.SharedRules.{path_ranks, rank_of}
use Rattle.shared_interfaces.proofs.PathsInOrder.{tells_before}
use Rattle.shared_interfaces.proofs.path_order.is_path_before.Goals as goal

pub returns : goal.returns
returns c =
    tells_before (path_ranks c.args.a.now) (path_ranks c.args.b.now) c.cmp.result c.is_lt.result
    (cmp_from_yields_List (λ x y. y ≡ x) c.map-of_b.result nat_cmp c.cmp.result c.cmp.ensures.ran
    (YieldsList-from_map _ rank_of
    (YieldsList-at c.map-of_a.ensures.source (YieldsList-from_chain (YieldsList-from_slice c.args.a.now cc)
    (YieldsList-from_slice (codes ".class") cc) (cc) (cc)))
    c.map-of_a.ensures.closure (λ x r q k. search rules))
    (λ it same. YieldsList-at same
    (YieldsList-from_map _ rank_of
    (YieldsList-at c.map-of_b.ensures.source (YieldsList-from_chain (YieldsList-from_slice c.args.b.now cc)
    (YieldsList-from_slice (codes ".class") cc) (cc) (cc)))
    c.map-of_b.ensures.closure (λ x r q k. search rules)))
    (λ x y. refl))
    c.is_lt.ensures
