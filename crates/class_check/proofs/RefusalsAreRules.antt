-- A refusal of the reader stands for the one of C1 to C5 that the bytes break.
use Rattle.std.proofs.Common.{◌≡◌, ℕ, List, Result, Ok, Err, length, subst, sym, inl, inr, refl}
use Rattle.class_reader.specs.declared.class.ReadRefusal.{ReadRefusal}
use Rattle.class_reader.specs.declared.class.ReadRefusal.TheVariants.{BadMagic, BadVersion, Truncated, Trailing, BadPool, OutOfMemory}
use Rattle.class_check.specs.FirstRule.{BreaksFirst, of_refusal}
use Rattle.class_check.specs.declared.finding.Finding.{Finding}
use Rattle.class_check.specs.declared.finding.Finding.TheVariants.{Broken}
use Rattle.jk_model.specs.declared.memory.OutOfMemory.{OutOfMemory as NoMemory}
use Rattle.jk_model.specs.declared.output.Rule.{Rule}
use Rattle.jk_model.specs.declared.output.Rule.TheVariants.{C1, C2, C3, C4, C5}
use Rattle.jk_model.specs.ReadFaults.{HasBadMagic, HasBadVersion, HasBadPool, IsTruncated, TrailsClass}

-- what is known of a refusal of these bytes
pub record IsCaused (bytes : List ℕ) (refusal : ReadRefusal) : Type 0 where
  pub magic : refusal ≡ BadMagic → HasBadMagic bytes
  pub version : refusal ≡ BadVersion → HasBadVersion bytes
  pub truncated : (n : ℕ) → refusal ≡ Truncated n → IsTruncated bytes × (n ≡ length bytes)
  pub trailing : (n : ℕ) → refusal ≡ Trailing n → TrailsClass bytes n
  pub «pool» : (i : ℕ) → refusal ≡ BadPool i → HasBadPool bytes i

-- what holds of a finding holds of the same finding
pub along : (P : Rule → ℕ → Type 0) (r s : Rule) (m n : ℕ) (e : Result Finding NoMemory) → e ≡ Ok (Broken r m) → e ≡ Ok (Broken s n)
    → P r m → P s n
along P r s m n e a b h =
    let rules : r ≡ s = cc in
    let numbers : m ≡ n = cc in
    subst (λ (k : ℕ). P s k) numbers (subst (λ (x : Rule). P x m) rules h)

pub refusal_breaks : (bytes path : List ℕ) (refusal : ReadRefusal) (rule : Rule) (n : ℕ) → IsCaused bytes refusal
    → of_refusal refusal ≡ Ok (Broken rule n) → BreaksFirst bytes path rule n
refusal_breaks bytes path BadMagic rule n k e =
    along (BreaksFirst bytes path) C1 rule 0 n _ refl e (inl (k.magic refl, refl))
refusal_breaks bytes path BadVersion rule n k e =
    along (BreaksFirst bytes path) C2 rule 4 n _ refl e (inl (k.version refl, refl))
refusal_breaks bytes path (Truncated len) rule n k e =
    along (BreaksFirst bytes path) C3 rule len n _ refl e (inl (k.truncated len refl))
refusal_breaks bytes path (Trailing place) rule n k e =
    along (BreaksFirst bytes path) C4 rule place n _ refl e (inl (k.trailing place refl))
refusal_breaks bytes path (BadPool index) rule n k e =
    along (BreaksFirst bytes path) C5 rule index n _ refl e (inl (k.«pool» index refl))
refusal_breaks bytes path OutOfMemory rule n k e = let impossible : ⊥ = cc in absurd impossible
