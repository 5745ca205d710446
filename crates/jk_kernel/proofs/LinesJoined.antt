-- Lines that were printed after lines that all went out are printed with them.
use Rattle.std.proofs.Common.{◌≡◌, ◌<◌, ◌^◌, ℕ, List, [], ◌∷◌, ◌++◌, Result, Ok, Err, refl, sym, ap, ◌∙◌, subst, append_assoc, append-nil}
use Rattle.std.specs.List.{concat}
use Rattle.std.proofs.lemmas.Grind.{flat_map-append}
use Rattle.std.proofs.lemmas.List.Folds.{concat-append}
use Rattle.jk_model.specs.Outside.{Appends, AppendsPart}
use Rattle.jk_model.specs.Output.{line_text, text_of}
use Rattle.jk_model.specs.declared.output.Line.{Line}
use Rattle.jk_model.proofs.AppendsInTurn.{Appends-append, Appends-nil, AppendsPart-after}
use Rattle.jk_model.proofs.CountsNeverFall.{NeverFalls-after, NeverFalls-refl, HasRisen-after}
use Rattle.jk_outside.specs.CutTexts.{BreaksOff, Sends}
use Rattle.jk_outside.specs.SeveralLines.{pieces_of, pieces_of_lines}
use Rattle.jk_outside.proofs.CutIsWholeAndRest.{concat-cut_text}
use Rattle.jk_outside.proofs.SentInOrder.{BreaksOff-after}
use Rattle.kernel_events.specs.PrintedLines.{Prints, SinkState}

both_texts : (a b : List Line) → text_of a ++ text_of b ≡ text_of (a ++ b)
both_texts a b = sym (flat_map-append (λ (l : Line). line_text l ++ 10 ∷ []) a b)

both_pieces : (a b : List Line) → pieces_of_lines a ++ pieces_of_lines b ≡ pieces_of_lines (a ++ b)
both_pieces a b = sym (flat_map-append pieces_of a b)

text_of_pieces : (lines : List Line) → concat (pieces_of_lines lines) ≡ text_of lines
text_of_pieces [] = refl
text_of_pieces (line ∷ lines) =
    concat-append (pieces_of line) (pieces_of_lines lines)
    ∙ ap (λ (t : List ℕ). t ++ concat (pieces_of_lines lines)) (concat-cut_text (text_of (line ∷ [])) ∙ append-nil (line_text line ++ 10 ∷ []))
    ∙ ap (λ (t : List ℕ). (line_text line ++ 10 ∷ []) ++ t) (text_of_pieces lines)

-- what a sink tells of itself: its count of faults fits
abbrev pub Fits : SinkState → Type 0
Fits s = s.faults < 2 ^ 64

pub printed_none : {E : Type 0} (s : SinkState) → Fits s → Prints {E = E} s s (Ok tt) []
printed_none s fits = record {
  ok = Appends-nil s.bytes;
  pieces = sym (append-nil s.pieces);
  part = tt;
  pieces_part = tt;
  cause = tt;
  calm = refl;
  faults = NeverFalls-refl s.faults fits;
}

-- all went out, and then these came to something
pub printed_both : {E G : Type 0} (a b c : SinkState) (first rest : List Line) (result : Result (Unit {0}) E) → Prints {E = G} a b (Ok tt) first
    → Prints b c result rest → Prints a c result (first ++ rest)
printed_both a b c first rest (Ok tt) p q = record {
  ok = subst (Appends a.bytes c.bytes) (both_texts first rest) (Appends-append a.bytes b.bytes c.bytes (text_of first) (text_of rest) p.ok q.ok);
  pieces = q.pieces ∙ ap (λ (ps : List (List ℕ)). ps ++ pieces_of_lines rest) p.pieces
      ∙ append_assoc a.pieces (pieces_of_lines first) (pieces_of_lines rest) ∙ ap (λ (ps : List (List ℕ)). a.pieces ++ ps) (both_pieces first rest);
  part = tt;
  pieces_part = tt;
  cause = tt;
  calm = q.calm ∙ p.calm;
  faults = NeverFalls-after a.faults b.faults c.faults p.faults q.faults;
}
printed_both a b c first rest (Err e) p q =
    let sent : Sends a.bytes b.bytes a.pieces b.pieces (pieces_of_lines first) =
    record { handed = p.pieces; taken = subst (Appends a.bytes b.bytes) (sym (text_of_pieces first)) p.ok } in
    record {
      ok = tt;
      pieces = tt;
      part = subst (AppendsPart a.bytes c.bytes) (both_texts first rest)
          (AppendsPart-after a.bytes b.bytes c.bytes (text_of first) (text_of rest) p.ok q.part);
      pieces_part = subst (λ (ps : List (List ℕ)). BreaksOff a.bytes c.bytes a.pieces c.pieces ps) (both_pieces first rest)
          (BreaksOff-after a.bytes b.bytes c.bytes a.pieces b.pieces c.pieces (pieces_of_lines first) (pieces_of_lines rest) sent q.pieces_part);
      cause = HasRisen-after a.faults b.faults c.faults p.faults q.cause;
      calm = tt;
      faults = NeverFalls-after a.faults b.faults c.faults p.faults q.faults;
    }
