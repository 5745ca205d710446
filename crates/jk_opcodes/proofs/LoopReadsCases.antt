-- A loop that reads cases one after another reads what the definition by recursion does.
use Rattle.std.proofs.Common.{◌≡◌, ℕ, suc, ◌-◌, ◌+◌, ◌<◌, ◌≤◌, List, [], ◌∷◌, ◌++◌, Option, Some, Result, Ok, Err, refl, sym, ap, ◌∙◌, append_assoc, arith}
use Rattle.std.specs.Prelude.{ℤ, pos, negsuc, ◌+ℤ◌, ◌-ℤ◌, ◌≤ℤ◌, ◌<ℤ◌}
use Rattle.std.proofs.lemmas.List.{append-nil}
use Rattle.std.proofs.lemmas.Int.{ints}
use Rattle.jk_model.specs.declared.instructions.SwitchCase.{SwitchCase}
use Rattle.jk_opcodes.specs.declared.errors.Stop.{Stop}
use Rattle.jk_opcodes.specs.declared.errors.StepError.{StepError}
use Rattle.jk_opcodes.specs.declared.errors.StepError.TheVariants as steps
use Rattle.jk_opcodes.specs.Reading.{◌>>=◌, FailsInMemory}
use Rattle.jk_opcodes.specs.Switches.{Cases, key_case_at, table_cases_at, nat_of, span, pair_at, lookup_cases_at}

-- what was read before, and what is still read
abbrev pub with_front : List SwitchCase → Cases → Cases
with_front front read = read >>= λ x. Ok (front ++ x.0, x.1)

regroup : (front : List SwitchCase) (a : SwitchCase) (read : Cases)
    → with_front front (read >>= λ x. Ok (a ∷ x.0, x.1)) ≡ with_front (front ++ a ∷ []) read
regroup front a (Ok x) = ap (λ (xs : List SwitchCase). Ok (xs, x.1)) (simp append_assoc)
regroup front a (Err f) = refl

nothing_at_all : (read : Cases) → with_front [] read ≡ read
nothing_at_all (Ok x) = refl
nothing_at_all (Err f) = refl

pub nothing_before : (front : List SwitchCase) (read : Cases) → front ≡ [] → with_front front read ≡ read
nothing_before front read e = rw e (nothing_at_all read)

-- ---- What stops one part stops the whole.

pub fails_on : {A B : Type 0} (e : StepError) (read : Result A Stop) (next : A → Result B Stop) → FailsInMemory e read → FailsInMemory e (read >>= next)
fails_on steps.Memory read next h = tt
fails_on (steps.Stop stop) read next h = rw h refl

-- ---- Pairs.

pub lookup_goes_on : (at : ℕ) (before : Option ℤ) (front : List SwitchCase) (count i : ℕ) (bytes : List ℕ) (a : SwitchCase)
    (after : List ℕ) (total : Cases)
    → i < count → pair_at at before bytes ≡ Ok (a, after) → with_front front (lookup_cases_at at before (count - i) bytes) ≡ total
    → with_front (front ++ a ∷ []) (lookup_cases_at at (Some (a.key)) (count - (i + 1)) after) ≡ total
unfolding lookup_cases_at
lookup_goes_on at before front count i bytes a after total lt h so_far =
    let k : count - i ≡ suc (count - (i + 1)) = omega arith in
    let one : with_front front (lookup_cases_at at before (count - i) bytes) ≡ with_front (front ++ a ∷ [])
    (lookup_cases_at at (Some (a.key)) (count - (i + 1)) after) =
    rw (k, h) (regroup front a (lookup_cases_at at (Some (a.key)) (count - (i + 1)) after)) in
    sym one ∙ so_far

pub lookup_ends : (stop : Stop) (at : ℕ) (before : Option ℤ) (front : List SwitchCase) (count i : ℕ) (bytes : List ℕ) (total : Cases)
    → i < count → pair_at at before bytes ≡ Err stop → with_front front (lookup_cases_at at before (count - i) bytes) ≡ total
    → total ≡ Err stop
unfolding lookup_cases_at
lookup_ends stop at before front count i bytes total lt h so_far =
    let k : count - i ≡ suc (count - (i + 1)) = omega arith in
    let one : with_front front (lookup_cases_at at before (count - i) bytes) ≡ Err stop = rw (k, h) refl in
    sym so_far ∙ one

pub lookup_is_done : (at : ℕ) (before : Option ℤ) (front : List SwitchCase) (count i : ℕ) (bytes : List ℕ) (total : Cases)
    → count ≤ i → with_front front (lookup_cases_at at before (count - i) bytes) ≡ total → total ≡ Ok (front, bytes)
unfolding lookup_cases_at
lookup_is_done at before front count i bytes total le so_far =
    let k : count - i ≡ 0 = omega arith in
    let one : with_front front (lookup_cases_at at before (count - i) bytes) ≡ Ok (front, bytes) =
    rw k (ap (λ (xs : List SwitchCase). Ok (xs, bytes)) (append-nil front)) in
    sym so_far ∙ one

-- ---- Keys from the lowest to the highest.

pub nat_of_is : (z : ℤ) → pos 0 ≤ℤ z → pos (nat_of z) ≡ z
nat_of_is (pos n) h = refl
nat_of_is (negsuc n) h = absurd (omega (arith, ints))

pub span_step : (key high : ℤ) → key <ℤ high → nat_of (high -ℤ key) ≡ span (key +ℤ pos 1) high
span_step key high h =
    let a = nat_of_is (high -ℤ key) (omega (arith, ints)) in
    let b = nat_of_is (high -ℤ (key +ℤ pos 1)) (omega (arith, ints)) in
    omega (arith, ints)

pub span_end : (key high : ℤ) → key ≡ high → nat_of (high -ℤ key) ≡ 0
span_end key high h =
    let a = nat_of_is (high -ℤ key) (omega (arith, ints)) in
    omega (arith, ints)

pub table_goes_on : (at : ℕ) (key high : ℤ) (front : List SwitchCase) (bytes : List ℕ) (a : SwitchCase) (after : List ℕ) (total : Cases)
    → key <ℤ high → key_case_at at key bytes ≡ Ok (a, after) → with_front front (table_cases_at at key (span key high) bytes) ≡ total
    → with_front (front ++ a ∷ []) (table_cases_at at (key +ℤ pos 1) (span (key +ℤ pos 1) high) after) ≡ total
unfolding table_cases_at
table_goes_on at key high front bytes a after total lt h so_far =
    let one : with_front front (table_cases_at at key (span key high) bytes) ≡ with_front (front ++ a ∷ [])
    (table_cases_at at (key +ℤ pos 1) (span (key +ℤ pos 1) high) after) =
    rw (h, span_step key high lt) (regroup front a (table_cases_at at (key +ℤ pos 1) (span (key +ℤ pos 1) high) after)) in
    sym one ∙ so_far

pub table_ends : (stop : Stop) (at : ℕ) (key high : ℤ) (front : List SwitchCase) (bytes : List ℕ) (total : Cases)
    → key_case_at at key bytes ≡ Err stop → with_front front (table_cases_at at key (span key high) bytes) ≡ total → total ≡ Err stop
unfolding table_cases_at
table_ends stop at key high front bytes total h so_far =
    let one : with_front front (table_cases_at at key (span key high) bytes) ≡ Err stop = rw h refl in
    sym so_far ∙ one

pub table_is_done : (at : ℕ) (key high : ℤ) (front : List SwitchCase) (bytes : List ℕ) (a : SwitchCase) (after : List ℕ) (total : Cases)
    → key ≡ high → key_case_at at key bytes ≡ Ok (a, after) → with_front front (table_cases_at at key (span key high) bytes) ≡ total
    → total ≡ Ok (front ++ a ∷ [], after)
unfolding table_cases_at
table_is_done at key high front bytes a after total e h so_far =
    let one : with_front front (table_cases_at at key (span key high) bytes) ≡ Ok (front ++ a ∷ [], after) = rw (h, span_end key high e) refl in
    sym so_far ∙ one
