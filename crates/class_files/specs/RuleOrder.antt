-- The order of all rules, and which of two faults counts.
use Rattle.std.specs.Prelude.{ℕ, Option, Some, None, nat_lt, if◌then◌else◌}
use Rattle.jk_model.specs.declared.output.Rule.{Rule}
use Rattle.jk_model.specs.declared.output.Rule.TheVariants.{L1, L2, L3, L4, L5, L6, L7, L8, C1, C2, C3, C4, C5, C6, C7, C8, C9, C10, C11, C12, C13, C14, C15, C16, C17, C18, C19, C20, C21, C22, C23, C24, C25, C26, C27}
use Rattle.class_files.specs.declared.faults.FileFault.{FileFault}

-- the place of a rule among all, as they are declared
abbrev pub rank_of : Rule → ℕ
rank_of L1 = 0
rank_of L2 = 1
rank_of L3 = 2
rank_of L4 = 3
rank_of L5 = 4
rank_of L6 = 5
rank_of L7 = 6
rank_of L8 = 7
rank_of C1 = 8
rank_of C2 = 9
rank_of C3 = 10
rank_of C4 = 11
rank_of C5 = 12
rank_of C6 = 13
rank_of C7 = 14
rank_of C8 = 15
rank_of C9 = 16
rank_of C10 = 17
rank_of C11 = 18
rank_of C12 = 19
rank_of C13 = 20
rank_of C14 = 21
rank_of C15 = 22
rank_of C16 = 23
rank_of C17 = 24
rank_of C18 = 25
rank_of C19 = 26
rank_of C20 = 27
rank_of C21 = 28
rank_of C22 = 29
rank_of C23 = 30
rank_of C24 = 31
rank_of C25 = 32
rank_of C26 = 33
rank_of C27 = 34

-- of the fault so far and that of a later file: the one of the earlier rule, or else the one so far
abbrev pub earlier_of : Option FileFault → FileFault → FileFault
earlier_of None next = next
earlier_of (Some first) next = if nat_lt (rank_of next.rule) (rank_of first.rule) then next else first
