-- Units that are fed in turn are fed as one.
use Rattle.std.proofs.Common.{ℕ, List, ◌++◌, append_assoc}
use Rattle.std.proofs.lemmas.List.Concat.{flat_map-append}
use Rattle.std.specs.Int.{w16, to_be_bytes}
use Rattle.sha2.specs.declared.Sha256.{Sha256}
use Rattle.shared_values.specs.Feeding.{Feeds}
use Rattle.shared_values.specs.Fingerprints.{unit_bytes}

pub feeds_both : {a b c : Sha256} {xs ys : List ℕ} → Feeds a b xs → Feeds b c ys → Feeds a c (xs ++ ys)
feeds_both {a} {b} {c} {xs} {ys} first second = record {
  adds = λ m held. rw (flat_map-append (to_be_bytes w16) xs ys, ← append_assoc m (unit_bytes xs) (unit_bytes ys)) (second.adds _ (first.adds m held));
}
