-- Lines are written one after the other.
use Rattle.std.proofs.Common.{◌≡◌, ℕ, ◌+◌, List, [], ◌∷◌, ◌++◌, refl, sym, ap, ◌∙◌, append_assoc}
use Rattle.std.proofs.lemmas.List.{append-nil}
use Rattle.jk_model.specs.declared.class_file.PoolEntry.{PoolEntry}
use Rattle.asm_reader.specs.declared.items.CodeLine.{CodeLine}
use Rattle.jkasm.specs.CodePlaces.{line_size, place_after}
use Rattle.jkasm.specs.Written.{IsLineWritten, AreWritten}

pub written_push : (pool : List PoolEntry) (codes : List CodeLine) (at : ℕ) (lines : List CodeLine) (line : CodeLine) (bytes more : List ℕ)
    → AreWritten pool codes at lines bytes → IsLineWritten pool codes (place_after at lines) line.statement more
    → AreWritten pool codes at (lines ++ line ∷ []) (bytes ++ more)
written_push pool codes at [] line bytes more h is =
    let none : bytes ≡ [] = h in
    (more, [], is, rw none (sym (append-nil more)), refl)
written_push pool codes at (x ∷ lines) line bytes more (front, rest, here, parts, others) is = (
  front,
  rest ++ more,
  here,
  ap (λ (b : List ℕ). b ++ more) parts ∙ append_assoc front rest more,
  written_push pool codes (at + line_size at x.statement) lines line rest more others is,
)
