-- The search goes by the numbers of the interfaces, which rise.
use Rattle.std.proofs.Common.{rules}
use Rattle.std.specs.Ordering.{nat_cmp}
use Rattle.std.proofs.lemmas.Fn.{always_returns_same}
use Rattle.jk_model.specs.declared.identifiers.ClassId.{ClassId}
use Rattle.thread_segments.proofs.InterfacesShown.{class_key, says_listed}
use Rattle.thread_stacks.proofs.ItemsByKey.{says_place}
use Rattle.thread_segments.proofs.shared.is_listed.Goals as goal

pub returns : goal.returns
returns c =
    let xs = c.args.interfaces.now in
    let found = c.binary_search_by.ensures.position (λ (x : ClassId). nat_cmp x.0 c.args.interface.0) (always_returns_same _ _ _ (λ a r f h. search rules)) in
    let place =
    says_place class_key xs c.args.interface.0 c.binary_search_by.result (λ i j x y p q lt. c.requires i j x y lt p q)
    c.binary_search_by.ensures.bound found in
    rw c.is_ok.ensures.value (says_listed xs c.args.interface c.binary_search_by.result place)
