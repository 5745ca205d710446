-- One more line after lines that were all printed, and none after one that failed.
use Rattle.std.proofs.Common.{◌≡◌, ℕ, List, [], ◌∷◌, ◌++◌, Option, Result, Ok, Err, refl, sym, ap, ◌∙◌, subst, append_assoc, append-nil}
use Rattle.std.specs.Prelude.{OnOk, OnErr}
use Rattle.std.specs.List.{concat}
use Rattle.std.proofs.lemmas.Grind.{flat_map-append}
use Rattle.std.proofs.lemmas.List.Folds.{concat-append}
use Rattle.jk_model.specs.Outside.{Appends, AppendsPart, HasRisen, NeverFalls}
use Rattle.jk_model.specs.Output.{line_text, text_of}
use Rattle.jk_model.specs.declared.output.Line.{Line}
use Rattle.jk_model.proofs.AppendsInTurn.{Appends-append, AppendsPart-after, AppendsPart-more}
use Rattle.jk_model.proofs.CountsNeverFall.{NeverFalls-after, HasRisen-after}
use Rattle.jk_outside.specs.CutTexts.{BreaksOff, Sends}
use Rattle.jk_outside.specs.SeveralLines.{pieces_of, pieces_of_lines, PrintsLines}
use Rattle.jk_outside.proofs.CutIsWholeAndRest.{concat-cut_text}
use Rattle.jk_outside.proofs.SentInOrder.{BreaksOff-after, BreaksOff-more}

one_more_text : (lines : List Line) (line : Line) → text_of lines ++ text_of (line ∷ []) ≡ text_of (lines ++ line ∷ [])
one_more_text lines line = sym (flat_map-append (λ (l : Line). line_text l ++ 10 ∷ []) lines (line ∷ []))

one_more_pieces : (lines : List Line) (line : Line) → pieces_of_lines lines ++ pieces_of line ≡ pieces_of_lines (lines ++ line ∷ [])
one_more_pieces lines line =
    ap (λ (ps : List (List ℕ)). pieces_of_lines lines ++ ps) (sym (append-nil (pieces_of line))) ∙ sym (flat_map-append pieces_of lines (line ∷ []))

text_of_pieces : (lines : List Line) → concat (pieces_of_lines lines) ≡ text_of lines
text_of_pieces [] = refl
text_of_pieces (line ∷ lines) =
    concat-append (pieces_of line) (pieces_of_lines lines)
    ∙ ap (λ (t : List ℕ). t ++ concat (pieces_of_lines lines)) (concat-cut_text (text_of (line ∷ [])) ∙ append-nil (line_text line ++ 10 ∷ []))
    ∙ ap (λ (t : List ℕ). (line_text line ++ 10 ∷ []) ++ t) (text_of_pieces lines)

pub prints_no_more : {E : Type 0} (a b : Option (List ℕ)) (p q : List (List ℕ)) (fa fb : ℕ) (e e' : E) (lines : List Line) (line : Line)
    → PrintsLines a b p q fa fb (Err e) lines → PrintsLines a b p q fa fb (Err e') (lines ++ line ∷ [])
prints_no_more a b p q fa fb e e' lines line so_far =
    record {
      ok = tt;
      pieces = tt;
      part = subst (AppendsPart a b) (one_more_text lines line) (AppendsPart-more a b (text_of lines) (text_of (line ∷ [])) so_far.part);
      pieces_part = subst (λ (ps : List (List ℕ)). BreaksOff a b p q ps) (one_more_pieces lines line)
          (BreaksOff-more a b p q (pieces_of_lines lines) (pieces_of line) so_far.pieces_part);
      cause = so_far.cause;
      calm = tt;
      faults = so_far.faults;
    }

module _ {E : Type 0} (a b c : Option (List ℕ)) (p q r : List (List ℕ)) (fa fb fc : ℕ) (lines : List Line) (line : Line)
    (so_far : PrintsLines {E = E} a b p q fa fb (Ok tt) lines) (faults : NeverFalls fb fc) where
  pub prints_more : Appends b c (text_of (line ∷ [])) → r ≡ q ++ pieces_of line → fc ≡ fb → PrintsLines {E = E} a c p r fa fc (Ok tt) (lines ++ line ∷ [])
  prints_more out handed calm =
      record {
        ok = subst (Appends a c) (one_more_text lines line) (Appends-append a b c (text_of lines) (text_of (line ∷ [])) so_far.ok out);
        pieces = handed ∙ ap (λ (ps : List (List ℕ)). ps ++ pieces_of line) so_far.pieces
            ∙ append_assoc p (pieces_of_lines lines) (pieces_of line) ∙ ap (λ (ps : List (List ℕ)). p ++ ps) (one_more_pieces lines line);
        part = tt;
        pieces_part = tt;
        cause = tt;
        calm = calm ∙ so_far.calm;
        faults = NeverFalls-after fa fb fc so_far.faults faults;
      }

  pub prints_part : (e : E) → AppendsPart b c (text_of (line ∷ [])) → BreaksOff b c q r (pieces_of line) → HasRisen fb fc
      → PrintsLines a c p r fa fc (Err e) (lines ++ line ∷ [])
  prints_part e part broken cause =
      let sent : Sends a b p q (pieces_of_lines lines) =
      record { handed = so_far.pieces; taken = subst (Appends a b) (sym (text_of_pieces lines)) so_far.ok } in
      record {
        ok = tt;
        pieces = tt;
        part = subst (AppendsPart a c) (one_more_text lines line) (AppendsPart-after a b c (text_of lines) (text_of (line ∷ [])) so_far.ok part);
        pieces_part = subst (λ (ps : List (List ℕ)). BreaksOff a c p r ps) (one_more_pieces lines line)
            (BreaksOff-after a b c p q r (pieces_of_lines lines) (pieces_of line) sent broken);
        cause = HasRisen-after fa fb fc so_far.faults cause;
        calm = tt;
        faults = NeverFalls-after fa fb fc so_far.faults faults;
      }

pub prints_next : {E : Type 0} (a b c : Option (List ℕ)) (p q r : List (List ℕ)) (fa fb fc : ℕ) (lines : List Line) (line : Line)
    (result : Result (Unit {0}) E) → PrintsLines {E = E} a b p q fa fb (Ok tt) lines → OnOk result (Appends b c (text_of (line ∷ [])))
    → OnOk result (r ≡ q ++ pieces_of line) → OnErr result (AppendsPart b c (text_of (line ∷ []))) → OnErr result (BreaksOff b c q r (pieces_of line))
    → OnErr result (HasRisen fb fc) → OnOk result (fc ≡ fb) → NeverFalls fb fc → PrintsLines a c p r fa fc result (lines ++ line ∷ [])
prints_next a b c p q r fa fb fc lines line (Ok tt) so_far ok pieces part pieces_part cause calm faults =
    prints_more a b c p q r fa fb fc lines line so_far faults ok pieces calm
prints_next a b c p q r fa fb fc lines line (Err e) so_far ok pieces part pieces_part cause calm faults =
    prints_part a b c p q r fa fb fc lines line so_far faults e part pieces_part cause
