-- Each opcode of an instruction on numbers that has a row of typing is in one of these lists; and what holds of each opcode of a list
-- holds of one that is among them.
use Rattle.std.proofs.Common.{◌≡◌, ℕ, zero, suc, ◌<◌, ◌≤◌, ◌⊎◌, Bool, true, false, not, ◌&&◌, ◌||◌, nat_le, List, [], ◌∷◌, map, IsTrue, refl, sym, subst, inl, inr, arith, Some, slice_get}
use Rattle.std.specs.List.{AllByRecursion, range_with_len}
use Rattle.std.proofs.lemmas.Grind.{common_steps}
use Rattle.std.proofs.lemmas.Option.{same_Some}
use Rattle.list_lemmas.proofs.ItemsByPlace.{agree_within}
use Rattle.jk_model_classes.specs.Items.{HasItem}
use Rattle.jk_model_typing.specs.Groups.{has_group}
use Rattle.jk_model_domains.specs.NumberRows.{number_opcodes}
use Rattle.number_laws.proofs.EachOpcode.{each_among}
use Rattle.number_laws.specs.NumberOpcodes.{is_among}

abbrev pub is_among_any : List (List ℕ) → ℕ → Bool
is_among_any [] op = false
is_among_any (ks ∷ more) op = is_among ks op || is_among_any more op

abbrev pub is_in : List (ℕ × ℕ) → ℕ → Bool
is_in [] op = false
is_in (r ∷ rows) op = (nat_le r.0 op && nat_le op r.1) || is_in rows op

-- ---- The lists.

-- nop, aconst_null, the constants of long and of int, ldc2_w
abbrev pub constants : List ℕ
constants = 0x00 ∷ 0x01 ∷ 0x09 ∷ 0x11 ∷ 0x14 ∷ []

-- the loads, the stores, iinc
abbrev pub locals : List ℕ
locals = 0x15 ∷ 0x16 ∷ 0x19 ∷ 0x36 ∷ 0x37 ∷ 0x3a ∷ 0x84 ∷ []

-- pop, pop2, the forms of dup, swap
abbrev pub moves : List ℕ
moves = 0x57 ∷ 0x58 ∷ 0x59 ∷ 0x5a ∷ 0x5b ∷ 0x5c ∷ 0x5d ∷ 0x5e ∷ 0x5f ∷ []

-- of two ints
abbrev pub ints : List ℕ
ints = 0x60 ∷ 0x64 ∷ 0x68 ∷ 0x6c ∷ 0x70 ∷ 0x78 ∷ 0x7a ∷ 0x7c ∷ 0x7e ∷ 0x80 ∷ 0x82 ∷ []

-- of two longs, or of a long and a distance
abbrev pub longs : List ℕ
longs = 0x61 ∷ 0x65 ∷ 0x69 ∷ 0x6d ∷ 0x71 ∷ 0x79 ∷ 0x7b ∷ 0x7d ∷ 0x7f ∷ 0x81 ∷ 0x83 ∷ 0x94 ∷ []

-- of one value
abbrev pub conversions : List ℕ
conversions = 0x74 ∷ 0x75 ∷ 0x85 ∷ 0x88 ∷ 0x91 ∷ 0x92 ∷ 0x93 ∷ []

-- the jumps that compare ints
abbrev pub int_jumps : List ℕ
int_jumps = 0x99 ∷ 0x9a ∷ 0x9b ∷ 0x9c ∷ 0x9d ∷ 0x9e ∷ 0x9f ∷ 0xa0 ∷ 0xa1 ∷ 0xa2 ∷ 0xa3 ∷ 0xa4 ∷ []

-- the other jumps, and the switches
abbrev pub other_jumps : List ℕ
other_jumps = 0xa5 ∷ 0xa6 ∷ 0xa7 ∷ 0xc6 ∷ 0xc7 ∷ 0xaa ∷ 0xab ∷ []

abbrev pub returns_of : List ℕ
returns_of = 0xac ∷ 0xad ∷ 0xb0 ∷ 0xb1 ∷ []

abbrev pub kinds : List (List ℕ)
kinds = constants ∷ locals ∷ moves ∷ ints ∷ longs ∷ conversions ∷ int_jumps ∷ other_jumps ∷ returns_of ∷ []

-- ---- No opcode is left out.

is_listed : ℕ → Bool
is_listed op = not (is_in number_opcodes op && has_group op) || is_among_any kinds op

always : ℕ → Bool
always op = true

all_listed : map is_listed (range_with_len 0 256) ≡ map always (range_with_len 0 256)
unfolding is_listed always
all_listed = refl

by_parts : (a b c : Bool) → a ≡ true → b ≡ true → (not (a && b) || c) ≡ true → IsTrue c
by_parts true true c p q h = h
by_parts true false c p q h = absurd cc
by_parts false b c p q h = absurd cc

pub listed : (op : ℕ) → op < 256 → is_in number_opcodes op ≡ true → has_group op ≡ true → IsTrue (is_among_any kinds op)
unfolding is_listed always
listed op lt inside group =
    by_parts (is_in number_opcodes op) (has_group op) (is_among_any kinds op) inside group (agree_within is_listed always true 256 op all_listed lt)

-- an opcode in a range of the table
pub in-range : (rows : List (ℕ × ℕ)) (op : ℕ) → HasItem (λ (r : ℕ × ℕ). (r.0 ≤ op) × (op ≤ r.1)) rows → is_in rows op ≡ true
in-range rows op (k, r, at, (low, high)) = place rows k at
  where
    or_left : (a b : Bool) → a ≡ true → (a || b) ≡ true
    or_left true b h = refl
    or_left false b h = absurd cc

    or_right : (a b : Bool) → b ≡ true → (a || b) ≡ true
    or_right true b h = refl
    or_right false b h = h

    test : (x : ℕ × ℕ) → x.0 ≤ op → op ≤ x.1 → (nat_le x.0 op && nat_le op x.1) ≡ true
    test x l h = grind (arith, common_steps)

    place : (rs : List (ℕ × ℕ)) (n : ℕ) → slice_get rs n ≡ Some r → is_in rs op ≡ true
    place [] n e = absurd cc
    place (x ∷ rs) zero e =
        let same : x ≡ r = same_Some x r e in
        let here : (nat_le x.0 op && nat_le op x.1) ≡ true = subst (λ (y : ℕ × ℕ). (nat_le y.0 op && nat_le op y.1) ≡ true) (sym same) (test r low high) in
        or_left (nat_le x.0 op && nat_le op x.1) (is_in rs op) here
    place (x ∷ rs) (suc n) e = or_right (nat_le x.0 op && nat_le op x.1) (is_in rs op) (place rs n e)

-- ---- One of a list.

or_cases : (a b : Bool) → IsTrue (a || b) → IsTrue a ⊎ IsTrue b
or_cases true b h = inl refl
or_cases false b h = inr h

pub each_among_any : (P : ℕ → Type 0) (lists : List (List ℕ)) (op : ℕ) → AllByRecursion (AllByRecursion P) lists
    → IsTrue (is_among_any lists op) → P op
each_among_any P [] op all h = absurd cc
each_among_any P (ks ∷ more) op all h = elim (or_cases (is_among ks op) (is_among_any more op) h) [
  | inl here ↦ each_among P ks op all.0 here
  | inr later ↦ each_among_any P more op all.1 later
]
