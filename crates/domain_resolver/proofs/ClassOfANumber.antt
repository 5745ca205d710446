-- A class is known by its number.
use Rattle.std.proofs.Common.{◌≡◌, ℕ}
use Rattle.jk_model.specs.declared.identifiers.ClassId.{ClassId}

pub same_class : (a b : ClassId) → a.0 ≡ b.0 → a ≡ b
same_class a b e = let of : (m n : ℕ) → m ≡ n → (let x : ClassId = record { 0 = m } in x) ≡ record { 0 = n } = λ m n q. cc in of a.0 b.0 e
