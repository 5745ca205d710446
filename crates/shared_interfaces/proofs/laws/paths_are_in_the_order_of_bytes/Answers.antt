-- Both are in the order of their characters.
use Rattle.std.proofs.Common.{◌↔◌, ℕ, List, map, ap, subst₂}
use Rattle.std.specs.Str.{chars}
use Rattle.std.proofs.Math.Utf8.{encode, encodes}
use Rattle.std.proofs.lemmas.Str.{encodes-chars, scalars-chars}
use Rattle.jk_model_classes.specs.SharedRules.{IsBeforeInOrder, path_ranks, rank_of}
use Rattle.shared_interfaces.proofs.EncodingsKeepOrder.{encoded_order}
use Rattle.shared_interfaces.proofs.Utf16KeepsOrder.{all_ranks, ranks, utf16_encodes}
use Rattle.shared_interfaces.proofs.Utf8KeepsOrder.{utf8_encodes}
use Rattle.shared_interfaces.proofs.laws.paths_are_in_the_order_of_bytes.Goals as goal

pub returns : goal.returns
returns c = λ p q a b is_p is_q e f.
    let bytes : IsBeforeInOrder p q ↔ IsBeforeInOrder (chars p) (chars q) =
    subst₂ (λ (x y : List ℕ). IsBeforeInOrder x y ↔ IsBeforeInOrder (chars p) (chars q)) (encodes-chars p is_p) (encodes-chars q is_q)
    (encoded_order encode encodes utf8_encodes (chars p) (chars q) (scalars-chars p is_p) (scalars-chars q is_q)) in
    let units : IsBeforeInOrder (path_ranks a) (path_ranks b) ↔ IsBeforeInOrder (chars p) (chars q) =
    subst₂ (λ (x y : List ℕ). IsBeforeInOrder x y ↔ IsBeforeInOrder (chars p) (chars q)) (ap (map rank_of) e) (ap (map rank_of) f)
    (encoded_order ranks all_ranks utf16_encodes (chars p) (chars q) (scalars-chars p is_p) (scalars-chars q is_q)) in
    (λ h. units.1 (bytes.0 h), λ h. bytes.1 (units.0 h))
