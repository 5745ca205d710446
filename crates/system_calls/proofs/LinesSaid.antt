-- The line of what a domain says: its name, a colon and the units of a text, put one after the other.
use Rattle.std.proofs.Common.{◌≡◌, ℕ, ◌+◌, ◌<◌, ◌^◌, List, [], ◌∷◌, ◌++◌, Option, Result, Ok, Err, take, drop, codes, refl, sym, ap, ◌∙◌, subst, append_assoc, arith}
use Rattle.std.specs.Prelude.{flat_map, OnErr, OnOk}
use Rattle.std.proofs.lemmas.Grind.{flat_map-append}
use Rattle.std.proofs.lemmas.List.{append-nil, drop-take, take-append-drop, take-take}
use Rattle.jk_model.specs.declared.output.Line.{Line}
use Rattle.jk_model.specs.declared.output.Line.TheVariants.{Said}
use Rattle.jk_model.specs.Outside.{HasRisen, NeverFalls}
use Rattle.jk_model.specs.Output.{text_of}
use Rattle.jk_model.specs.Text.{shown, shown_unit}
use Rattle.jk_model.proofs.AppendsInTurn.{Appends-nil}
use Rattle.jk_model.proofs.CountsNeverFall.{NeverFalls-refl}
use Rattle.jk_outside.specs.declared.parts.Part.{Part}
use Rattle.jk_outside.specs.declared.parts.Part.TheVariants.{Bytes, Escaped}
use Rattle.jk_outside.specs.CutTexts.{BreaksOff, Sends, whole_pieces}
use Rattle.jk_outside.specs.Lines.{Prints, part_text, parts_text}
use Rattle.jk_outside.specs.SeveralLines.{PrintsLines}
use Rattle.jk_outside.proofs.LineTexts.{said_text}
use Rattle.jk_outside.proofs.LinesInTurn.{prints_next}
use Rattle.jk_outside.proofs.PartsInOrder.{Prints-as, Prints-broken, Prints-ended}
use Rattle.jk_outside.proofs.SentInOrder.{SoFar}

-- ---- A text in chunks.

taken_more : (units : List ℕ) (from count : ℕ) → take (from + count) units ≡ take from units ++ take count (drop from units)
taken_more units from count =
    sym (take-append-drop from (take (from + count) units))
    ∙ ap (λ (us : List ℕ). us ++ drop from (take (from + count) units)) (take-take from (from + count) units (omega arith))
    ∙ ap (λ (us : List ℕ). take from units ++ us) (drop-take from count units)

pub shown_more : (units : List ℕ) (from count : ℕ) → shown (take (from + count) units) ≡ shown (take from units) ++ shown (take count (drop from units))
shown_more units from count = ap shown (taken_more units from count) ∙ flat_map-append shown_unit (take from units) (take count (drop from units))

pub shown_split : (units : List ℕ) (from count : ℕ)
    → shown units ≡ shown (take from units) ++ shown (take count (drop from units)) ++ shown (drop (from + count) units)
shown_split units from count =
    ap shown (sym (take-append-drop (from + count) units))
    ∙ flat_map-append shown_unit (take (from + count) units) (drop (from + count) units)
    ∙ ap (λ (text : List ℕ). text ++ shown (drop (from + count) units)) (shown_more units from count)

-- what was put, at another writing of it
pub so_far_as : (a b : Option (List ℕ)) (p q : List (List ℕ)) (fa fb : ℕ) (g h x y : List ℕ) → x ≡ y → SoFar a b p q fa fb g h x
    → SoFar a b p q fa fb g h y
so_far_as a b p q fa fb g h x y same so_far = subst (SoFar a b p q fa fb g h) same so_far

-- ---- The parts of the line.

module _ (name text : List ℕ) where
  abbrev parts : List Part
  parts =
      Bytes (record { ref_ptr = (0, 0); now = name })
      ∷ Bytes (record { ref_ptr = (0, 0); now = codes ": " })
      ∷ Escaped (record { ref_ptr = (0, 0); now = text })
      ∷ []

  -- ---- The name, then the colon, and then the text.

  module _ (a b : Option (List ℕ)) (p q : List (List ℕ)) (fa fb : ℕ) (held : List ℕ) where
    after_name : SoFar a b p q fa fb [] held name → SoFar a b p q fa fb [] held (flat_map part_text (take 1 parts))
    after_name so_far = subst (SoFar a b p q fa fb [] held) (sym (append-nil name)) so_far

    after_colon : SoFar a b p q fa fb [] held (name ++ codes ": ") → SoFar a b p q fa fb [] held (flat_map part_text (take 2 parts))
    after_colon so_far =
        subst (SoFar a b p q fa fb [] held) (ap (λ (t : List ℕ). name ++ t) (sym (append-nil (codes ": ")))) so_far

    after_text : SoFar a b p q fa fb [] held ((name ++ codes ": ") ++ shown text) → SoFar a b p q fa fb [] held (flat_map part_text (take 3 parts))
    after_text so_far =
        subst (SoFar a b p q fa fb [] held)
        (append_assoc name (codes ": ") (shown text) ∙ ap (λ (t : List ℕ). name ++ (codes ": " ++ t)) (sym (append-nil (shown text)))) so_far

  module _ {E : Type 0} (a : Option (List ℕ)) (p : List (List ℕ)) (fa : ℕ) (fits : fa < 2 ^ 64) where
    pub none_printed : PrintsLines {E = E} a a p p fa fa (Ok tt) []
    none_printed = record {
      ok = Appends-nil a;
      pieces = sym (append-nil p);
      part = tt;
      pieces_part = tt;
      cause = tt;
      calm = refl;
      faults = NeverFalls-refl fa fits;
    }

    as_lines : (c : Option (List ℕ)) (r : List (List ℕ)) (fc : ℕ) (result : Result (Unit {0}) E) → Prints a c p r fa fc result (parts_text parts)
        → PrintsLines a c p r fa fc result (Said name text ∷ [])
    as_lines c r fc result prints =
        let e : Prints a c p r fa fc result (text_of (Said name text ∷ [])) = Prints-as (said_text name text) prints in
        prints_next a a c p p r fa fa fc [] (Said name text) result none_printed e.ok e.pieces e.part e.pieces_part e.cause e.calm e.faults

    module _ (b : Option (List ℕ)) (q : List (List ℕ)) (fb : ℕ) (held : List ℕ) where
      module _ (c : Option (List ℕ)) (r : List (List ℕ)) (fc : ℕ) (faults : NeverFalls fb fc) where
        pub name_broken : (e : E) → SoFar a b p q fa fb [] held [] → BreaksOff b c q r (whole_pieces (held ++ name)) → HasRisen fb fc
            → PrintsLines a c p r fa fc (Err e) (Said name text ∷ [])
        name_broken e so_far broken cause =
            as_lines c r fc (Err e) (Prints-broken a b c p q r fa fb fc held e parts 0 (omega arith) so_far broken cause faults)

        pub colon_broken : (e : E) → SoFar a b p q fa fb [] held name → BreaksOff b c q r (whole_pieces (held ++ codes ": ")) → HasRisen fb fc
            → PrintsLines a c p r fa fc (Err e) (Said name text ∷ [])
        colon_broken e so_far broken cause =
            as_lines c r fc (Err e) (Prints-broken a b c p q r fa fb fc held e parts 1 (omega arith) (after_name a b p q fa fb held so_far) broken cause faults)

        pub text_broken : (e : E) → SoFar a b p q fa fb [] held (name ++ codes ": ") → BreaksOff b c q r (whole_pieces (held ++ shown text))
            → HasRisen fb fc → PrintsLines a c p r fa fc (Err e) (Said name text ∷ [])
        text_broken e so_far broken cause =
            as_lines c r fc (Err e) (Prints-broken a b c p q r fa fb fc held e parts 2 (omega arith) (after_colon a b p q fa fb held so_far) broken
            cause faults)

        pub ended : (result : Result (Unit {0}) E) → SoFar a b p q fa fb [] held ((name ++ codes ": ") ++ shown text)
            → OnOk result (Sends b c q r ((held ++ 10 ∷ []) ∷ [])) → OnErr result (BreaksOff b c q r ((held ++ 10 ∷ []) ∷ []))
            → OnErr result (HasRisen fb fc) → OnOk result (fc ≡ fb) → PrintsLines a c p r fa fc result (Said name text ∷ [])
        ended result so_far sent broken cause calm =
            as_lines c r fc result (Prints-ended a b c p q r fa fb fc held result parts 3 (omega arith) (after_text a b p q fa fb held so_far) sent
            broken cause calm faults)

-- ---- What came of a line, where the answer says more.

module _ {E : Type 0} (a c : Option (List ℕ)) (p r : List (List ℕ)) (fa fc : ℕ) (result : Result (Unit {0}) E) where
  pub ok_printed : (u : Unit {0}) (lines : List Line) → result ≡ Ok u → PrintsLines a c p r fa fc result lines
      → PrintsLines {E = E} a c p r fa fc (Ok tt) lines
  ok_printed u lines is prints = subst (λ (o : Result (Unit {0}) E). PrintsLines a c p r fa fc o lines) is prints

  pub err_printed : (e : E) (lines : List Line) → result ≡ Err e → PrintsLines a c p r fa fc result lines
      → PrintsLines a c p r fa fc (Err e) lines
  err_printed e lines is prints = subst (λ (o : Result (Unit {0}) E). PrintsLines a c p r fa fc o lines) is prints
