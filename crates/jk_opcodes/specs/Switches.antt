-- The two switches, read from the bytes after their opcode.
use Rattle.std.specs.Prelude.{ℕ, zero, suc, ℤ, pos, negsuc, ◌+ℤ◌, ◌-ℤ◌, int_lt, Bool, true, List, [], ◌∷◌, Option, Some, None, Result, Ok, Err, if◌then◌else◌}
use Rattle.byte_fields.specs.Reading.{bytes_at}
use Rattle.jk_model.specs.declared.instructions.Instr.{Instr}
use Rattle.jk_model.specs.declared.instructions.SwitchCase.{SwitchCase}
use Rattle.jk_model.specs.Instructions.{gap, target}
use Rattle.jk_opcodes.specs.declared.switches.TableHead.{TableHead}
use Rattle.jk_opcodes.specs.declared.errors.Stop.{Stop}
use Rattle.jk_opcodes.specs.declared.errors.Stop.TheVariants.{BadSwitch}
use Rattle.jk_opcodes.specs.Reading.{◌>>=◌, needed, int_at}
use Rattle.jk_opcodes.specs.Plain.{Read}

abbrev pub Cases : Type 0
Cases = Result (List SwitchCase × List ℕ) Stop

unfoldable pub filling_at : ℕ → List ℕ → Result (List ℕ) Stop
filling_at at after = needed (bytes_at (gap at) after) >>= λ x. Ok x.1

-- the case of this key
unfoldable pub key_case_at : ℕ → ℤ → List ℕ → Result (SwitchCase × List ℕ) Stop
key_case_at at key bytes = int_at bytes >>= λ x. Ok (record { key = key; target = target at x.0 }, x.1)

-- so many keys from this one on
unfoldable pub table_cases_at : ℕ → ℤ → ℕ → List ℕ → Cases
table_cases_at at key zero bytes = Ok ([], bytes)
table_cases_at at key (suc n) bytes =
    key_case_at at key bytes >>= λ c. table_cases_at at (key +ℤ pos 1) n c.1 >>= λ more. Ok (c.0 ∷ more.0, more.1)

abbrev pub nat_of : ℤ → ℕ
nat_of (pos n) = n
nat_of (negsuc n) = 0

-- how many keys there are from the lowest to the highest
abbrev pub span : ℤ → ℤ → ℕ
span low high = suc (nat_of (high -ℤ low))

abbrev pub switch_of : ℕ → ℕ → ℤ → List SwitchCase → Instr
switch_of at op default cases = record { at = at; op = op; a = target at default; b = pos 0; cases = cases }

-- the operands before the cases of a table
unfoldable pub table_head_at : ℕ → List ℕ → Result (TableHead × List ℕ) Stop
table_head_at at after =
    filling_at at after >>= λ rest. int_at rest >>= λ d. int_at d.1 >>= λ l. int_at l.1 >>= λ h.
    if int_lt h.0 l.0 then Err BadSwitch else Ok (record { default = d.0; low = l.0; high = h.0 }, h.1)

unfoldable pub table_switch_at : ℕ → ℕ → List ℕ → Read
table_switch_at at op after =
    table_head_at at after >>= λ h. table_cases_at at h.0.low (span h.0.low h.0.high) h.1 >>= λ c. Ok (switch_of at op h.0.default c.0, c.1)

-- whether a key is above the one before it, where there is one
abbrev pub is_above : Option ℤ → ℤ → Bool
is_above None key = true
is_above (Some before) key = int_lt before key

unfoldable pub pair_at : ℕ → Option ℤ → List ℕ → Result (SwitchCase × List ℕ) Stop
pair_at at before bytes = int_at bytes >>= λ k. if is_above before k.0 then key_case_at at k.0 k.1 else Err BadSwitch

-- so many pairs
unfoldable pub lookup_cases_at : ℕ → Option ℤ → ℕ → List ℕ → Cases
lookup_cases_at at before zero bytes = Ok ([], bytes)
lookup_cases_at at before (suc n) bytes =
    pair_at at before bytes >>= λ c. lookup_cases_at at (Some (c.0.key)) n c.1 >>= λ more. Ok (c.0 ∷ more.0, more.1)

abbrev pub count_at : ℤ → Result ℕ Stop
count_at (pos n) = Ok n
count_at (negsuc n) = Err BadSwitch

-- the offset of the default, and the number of pairs
unfoldable pub lookup_head_at : ℕ → List ℕ → Result ((ℤ × ℕ) × List ℕ) Stop
lookup_head_at at after =
    filling_at at after >>= λ rest. int_at rest >>= λ d. int_at d.1 >>= λ n. count_at n.0 >>= λ count. Ok ((d.0, count), n.1)

unfoldable pub lookup_switch_at : ℕ → ℕ → List ℕ → Read
lookup_switch_at at op after =
    lookup_head_at at after >>= λ h. lookup_cases_at at None h.0.1 h.1 >>= λ c. Ok (switch_of at op h.0.0 c.0, c.1)
