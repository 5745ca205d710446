-- The first line ends at the first line feed.
use Rattle.std.proofs.Common.{◌≡◌, ◌<◌, ◌-◌, ◌+◌, ℕ, [], None, length, take, drop, nat_eq, ap, sym, take_all, arith, length-drop}
use Rattle.std.specs.List.{position}
use Rattle.std.proofs.lemmas.Grind.{common_steps}
use Rattle.text_lines.proofs.LinesInTurn.{first_line, last_line}
use Rattle.text_lines.proofs.lines.next_line.Goals as goal

pub returns-in-Some : goal.returns-in-Some
returns-in-Some c =
    let text = c.args.text.now in
    let end = c.in-Some.end in
    let rest : take (length text - (end + 1)) (drop (end + 1) text) ≡ drop (end + 1) text =
    take_all (length text - (end + 1)) (drop (end + 1) text) (omega (arith, length-drop (end + 1) text)) in
    first_line text c.without_carriage_return.result.now _ end (sym c.in-Some.ensures) c.without_carriage_return.ensures rest

pub returns-in-None : goal.returns-in-None
returns-in-None c =
    let text = c.args.text.now in
    let none : position (λ (byte : ℕ). nat_eq byte 10) text ≡ None = sym c.in-None.ensures in
    let some : 0 < length text = grind (arith, common_steps) in
    let nothing : length text - length text ≡ 0 = omega arith in
    let rest : take (length text - length text) (drop (length text) text) ≡ [] = ap (λ (k : ℕ). take k (drop (length text) text)) nothing in
    last_line text _ some none rest
