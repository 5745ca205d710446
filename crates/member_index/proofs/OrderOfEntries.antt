-- The order of entries, as an order of numbers.
use Rattle.std.proofs.Common.{◌≡◌, ◌⊎◌, ℕ, ◌<◌, ◌≤◌, true, false, List, length, get_or, arith}
use Rattle.std.proofs.lemmas.Bool.Decides.{nat_tests}
use Rattle.std.proofs.lemmas.Cmp.{nat_cmp_total, then_total}
use Rattle.std.proofs.lemmas.List.Sorted.{sorted_far, ranks_by}
use Rattle.std.specs.Cmp.{IsTotalOrder}
use Rattle.std.specs.Ordering.{is_lt, nat_cmp}
use Rattle.member_index.specs.Index.{entry_cmp, AreInOrder}
use Rattle.member_index.specs.declared.entries.Entry.{Entry}

-- the first stands before the second, or at its place
abbrev pub IsAtMost : Entry → Entry → Type 0
IsAtMost a b =
    (a.marks.name < b.marks.name)
    ⊎ ((a.marks.name ≡ b.marks.name)
    × ((a.marks.kind < b.marks.kind) ⊎ ((a.marks.kind ≡ b.marks.kind) × (a.place ≤ b.place))))

pub at_most_from_not_less : (a b : Entry) → is_lt (entry_cmp a b) ≡ false → IsAtMost b a
at_most_from_not_less a b h = grind (arith, nat_tests)

pub not_at_most_from_less : (a b : Entry) → is_lt (entry_cmp a b) ≡ true → IsAtMost b a → ⊥
not_at_most_from_less a b h at_most = grind (arith, nat_tests)

-- numbers of entries, compared
nat_total_on : (key : Entry → ℕ) → IsTotalOrder (λ a b. nat_cmp (key a) (key b))
nat_total_on key = record {
  antisymm = λ x y. nat_cmp_total.antisymm (key x) (key y);
  trans = λ x y z. nat_cmp_total.trans (key x) (key y) (key z);
  congr = λ x y z. nat_cmp_total.congr (key x) (key y) (key z);
}

entry_total : IsTotalOrder entry_cmp
entry_total = then_total (then_total (nat_total_on (λ e. e.marks.name)) (nat_total_on (λ e. e.marks.kind))) (nat_total_on (λ e. e.place))

-- of two entries of a list in order the first is at most the second
pub entries_rise : (entries : List Entry) (i j : ℕ) (d : Entry) → AreInOrder entries → i ≤ j → j < length entries
    → IsAtMost (get_or entries i d) (get_or entries j d)
entries_rise entries i j d in_order i_first j_in =
    at_most_from_not_less _ _ (sorted_far (λ x y. is_lt (entry_cmp x y)) (ranks_by entry_total (λ e. e)) entries in_order i j d i_first j_in)

-- tests of the order
pub less_from_at_most : (a b c : Entry) → IsAtMost a b → is_lt (entry_cmp b c) ≡ true → is_lt (entry_cmp a c) ≡ true
less_from_at_most a b c a_b h = grind (arith, nat_tests)
