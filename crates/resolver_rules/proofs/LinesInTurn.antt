-- A line by itself is one line.
use Rattle.std.proofs.Common.{◌≡◌, ℕ, false, List, [], ◌∷◌, length, refl, ◌∙◌, ap, arith, nat_eq}
use Rattle.std.specs.List.{All}
use Rattle.std.specs.Str.Lines.{lines, lines_of_parts}
use Rattle.std.proofs.lemmas.Bool.{ne_eqb}
use Rattle.std.proofs.lemmas.List.Splits.{slice_split_none}
use Rattle.jk_model_classes.specs.Resolver.{lines_say}
use Rattle.resolver_rules.specs.Lines.{IsOneLine}

pub one_line : (line : List ℕ) → All (λ (byte : ℕ). nat_eq byte 10 ≡ false) line → IsOneLine line
one_line [] all = refl
one_line (b ∷ bs) all =
    let some : nat_eq (length (b ∷ bs)) 0 ≡ false = ne_eqb (length (b ∷ bs)) 0 (omega arith) in
    let part : lines (b ∷ bs) ≡ (b ∷ bs) ∷ [] = ap lines_of_parts (slice_split_none (λ (byte : ℕ). nat_eq byte 10) (b ∷ bs) all) ∙ rw some refl in
    ap (lines_say 1) part
