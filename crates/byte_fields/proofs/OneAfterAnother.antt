-- What a loop has read, with what it still reads, is what reading so many gives.
use Rattle.std.proofs.Common.{◌≡◌, ℕ, suc, ◌-◌, ◌+◌, ◌≤◌, ◌<◌, List, [], ◌∷◌, ◌++◌, Option, Some, None, refl, sym, ap, ◌∙◌, append_assoc, arith}
use Rattle.std.proofs.lemmas.List.{append-nil}
use Rattle.byte_fields.specs.declared.errors.ReadError.{ReadError}
use Rattle.byte_fields.specs.declared.errors.ReadError.TheVariants as errors
use Rattle.byte_fields.specs.Reading.{◌>>=◌, FailsInMemory, many_at}

-- what was read before, and what is still read
abbrev pub with_front : {A : Type 0} → List A → Option (List A × List ℕ) → Option (List A × List ℕ)
with_front front read = read >>= λ x. Some (front ++ x.0, x.1)

-- this is left to read of so many
abbrev pub GoesOn : {A : Type 0} → (List ℕ → Option (A × List ℕ)) → List A → ℕ → List ℕ → Option (List A × List ℕ) → Type 0
GoesOn r front left bytes total = with_front front (many_at r left bytes) ≡ total

regrouped : {A : Type 0} (front : List A) (a : A) (read : Option (List A × List ℕ))
    → with_front front (read >>= λ x. Some (a ∷ x.0, x.1)) ≡ with_front (front ++ a ∷ []) read
regrouped {A = A} front a (Some x) = ap (λ (xs : List A). Some (xs, x.1)) (simp append_assoc)
regrouped front a None = refl

nothing_before : {A : Type 0} (read : Option (List A × List ℕ)) → with_front [] read ≡ read
nothing_before (Some x) = refl
nothing_before None = refl

-- a loop that starts with nothing read
pub begins : {A : Type 0} (r : List ℕ → Option (A × List ℕ)) (front : List A) (count : ℕ) (bytes : List ℕ)
    → front ≡ [] → GoesOn r front (count - 0) bytes (many_at r count bytes)
begins r front count bytes e =
    let k : count - 0 ≡ count = omega arith in
    rw (e, k) (nothing_before (many_at r count bytes))

pub goes_on : {A : Type 0} (r : List ℕ → Option (A × List ℕ)) (front : List A) (count i : ℕ) (bytes : List ℕ) (a : A) (after : List ℕ)
    (total : Option (List A × List ℕ)) → i < count → r bytes ≡ Some (a, after) → GoesOn r front (count - i) bytes total
    → GoesOn r (front ++ a ∷ []) (count - (i + 1)) after total
goes_on r front count i bytes a after total lt h so_far =
    let left = count - (i + 1) in
    let k : count - i ≡ suc left = omega arith in
    let one : with_front front (many_at r (count - i) bytes) ≡ with_front (front ++ a ∷ []) (many_at r left after) =
    rw (k, h) (regrouped front a (many_at r left after)) in
    sym one ∙ so_far

-- where one of them isn't read, so many aren't
pub ends : {A : Type 0} (r : List ℕ → Option (A × List ℕ)) (e : ReadError) (front : List A) (count i : ℕ) (bytes : List ℕ)
    (total : Option (List A × List ℕ)) → i < count → FailsInMemory e (r bytes) → GoesOn r front (count - i) bytes total → FailsInMemory e total
ends r errors.OutOfMemory front count i bytes total lt h so_far = tt
ends r errors.EndsEarly front count i bytes total lt h so_far =
    let k : count - i ≡ suc (count - (i + 1)) = omega arith in
    let one : with_front front (many_at r (count - i) bytes) ≡ None = rw (k, h) refl in
    sym so_far ∙ one

pub is_done : {A : Type 0} (r : List ℕ → Option (A × List ℕ)) (front : List A) (count i : ℕ) (bytes : List ℕ) (total : Option (List A × List ℕ))
    → count ≤ i → GoesOn r front (count - i) bytes total → total ≡ Some (front, bytes)
is_done {A = A} r front count i bytes total le so_far =
    let k : count - i ≡ 0 = omega arith in
    let one : with_front front (many_at r (count - i) bytes) ≡ Some (front, bytes) = rw k (ap (λ (xs : List A). Some (xs, bytes)) (append-nil front)) in
    sym so_far ∙ one
