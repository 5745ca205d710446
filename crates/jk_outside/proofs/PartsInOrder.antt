-- The parts of a line, one after another, are the line.
use Rattle.std.proofs.Common.{◌≡◌, ℕ, ◌+◌, ◌<◌, ◌≤◌, List, [], ◌∷◌, ◌++◌, Option, Result, Ok, Err, length, take, drop, get_or, sym, ap, ◌∙◌, subst}
use Rattle.std.specs.Prelude.{flat_map, OnOk, OnErr}
use Rattle.std.proofs.lemmas.List.{take_all}
use Rattle.jk_model.specs.Outside.{Appends, AppendsPart, HasRisen, NeverFalls}
use Rattle.jk_model.proofs.CountsNeverFall.{NeverFalls-after, HasRisen-after}
use Rattle.jk_outside.specs.declared.parts.Part.{Part}
use Rattle.jk_outside.specs.declared.parts.Part.TheVariants.{Bytes}
use Rattle.jk_outside.specs.CutTexts.{cut_text, whole_pieces, rest_of_pieces, Sends, BreaksOff}
use Rattle.jk_outside.specs.Lines.{part_text, parts_text, Prints}
use Rattle.jk_outside.proofs.CutIsWholeAndRest.{cut_text-line, concat-cut_text}
use Rattle.jk_outside.proofs.SentInOrder.{SoFar, BreaksOff-at, BreaksOff-after, BreaksOff-more, Sends-append, AppendsPart-broken}
use Rattle.jk_outside.proofs.Splits.{flat_map-split}

-- what a read of a part past the end would give
abbrev pub no_part : Part
no_part = Bytes (record { ref_ptr = (0, 0); now = [] })

-- what came of a text of which all was sent, or which broke off
text_sent : (a b : Option (List ℕ)) (p q : List (List ℕ)) (text : List ℕ) → Sends a b p q (cut_text text) → Appends a b text
text_sent a b p q text sends =
    let P : List ℕ → Type 0 = λ t. Appends a b t in subst P (concat-cut_text text) sends.taken

text_broken : (a b : Option (List ℕ)) (p q : List (List ℕ)) (text : List ℕ) → BreaksOff a b p q (cut_text text) → AppendsPart a b text
text_broken a b p q text broken =
    let P : List ℕ → Type 0 = λ t. AppendsPart a b t in
    subst P (concat-cut_text text) (AppendsPart-broken a b p q (cut_text text) broken)

Prints-from : {E : Type 0} (a b : Option (List ℕ)) (p q : List (List ℕ)) (fa fb : ℕ) (r : Result (Unit {0}) E) (text : List ℕ)
    → OnOk r (Sends a b p q (cut_text text)) → OnErr r (BreaksOff a b p q (cut_text text)) → OnErr r (HasRisen fa fb) → OnOk r (fb ≡ fa)
    → NeverFalls fa fb → Prints a b p q fa fb r text
Prints-from a b p q fa fb (Ok x) text sends broken cause calm faults =
    record { ok = text_sent a b p q text sends; pieces = sends.handed; part = tt; pieces_part = tt; cause = tt; calm = calm; faults = faults }
Prints-from a b p q fa fb (Err e) text sends broken cause calm faults =
    record { ok = tt; pieces = tt; part = text_broken a b p q text broken; pieces_part = broken; cause = cause; calm = tt; faults = faults }

-- a part was not taken
pub Prints-broken : {E : Type 0} (a b c : Option (List ℕ)) (p q r : List (List ℕ)) (fa fb fc : ℕ) (held : List ℕ) (e : E) (parts : List Part) (i : ℕ)
    → i < length parts → SoFar a b p q fa fb [] held (flat_map part_text (take i parts))
    → BreaksOff b c q r (whole_pieces (held ++ part_text (get_or parts i no_part))) → HasRisen fb fc → NeverFalls fb fc
    → Prints a c p r fa fc (Err e) (parts_text parts)
Prints-broken a b c p q r fa fb fc held e parts i within so_far broken cause faults =
    let text = flat_map part_text parts in
    let P : List (List ℕ) → Type 0 = λ t. BreaksOff a c p r t in
    let whole = BreaksOff-at a b c p q r fa fb [] held (flat_map part_text (take i parts)) (part_text (get_or parts i no_part)) text
    (flat_map part_text (drop (i + 1) parts)) so_far broken (flat_map-split part_text parts i no_part within) in
    let cut = subst P (sym (cut_text-line text 10)) (BreaksOff-more a c p r (whole_pieces text) ((rest_of_pieces text ++ 10 ∷ []) ∷ []) whole) in
    Prints-from a c p r fa fc (Err e) (parts_text parts) tt cut (HasRisen-after fa fb fc so_far.faults cause) tt
    (NeverFalls-after fa fb fc so_far.faults faults)

-- the whole pieces of a line's text, and the piece with its line feed
cut_ended : (put text held : List ℕ) → put ≡ text → held ≡ rest_of_pieces put → whole_pieces put ++ (held ++ 10 ∷ []) ∷ [] ≡ cut_text (text ++ 10 ∷ [])
cut_ended put text held all is =
    ap (λ (t : List ℕ). whole_pieces put ++ (t ++ 10 ∷ []) ∷ []) is ∙ sym (cut_text-line put 10)
    ∙ ap (λ (t : List ℕ). cut_text (t ++ 10 ∷ [])) all

-- all parts were put, and the line was ended
pub Prints-ended : {E : Type 0} (a b c : Option (List ℕ)) (p q r : List (List ℕ)) (fa fb fc : ℕ) (held : List ℕ) (result : Result (Unit {0}) E)
    (parts : List Part) (i : ℕ) → length parts ≤ i → SoFar a b p q fa fb [] held (flat_map part_text (take i parts))
    → OnOk result (Sends b c q r ((held ++ 10 ∷ []) ∷ [])) → OnErr result (BreaksOff b c q r ((held ++ 10 ∷ []) ∷ []))
    → OnErr result (HasRisen fb fc) → OnOk result (fc ≡ fb) → NeverFalls fb fc → Prints a c p r fa fc result (parts_text parts)
Prints-ended a b c p q r fa fb fc held (Ok x) parts i end so_far sent broken cause calm faults =
    let text = flat_map part_text parts in
    let all : flat_map part_text (take i parts) ≡ text = ap (flat_map part_text) (take_all i parts end) in
    let P : List (List ℕ) → Type 0 = λ t. Sends a c p r t in
    let both = Sends-append a b c p q r (whole_pieces (flat_map part_text (take i parts))) ((held ++ 10 ∷ []) ∷ []) so_far.sends sent in
    Prints-from a c p r fa fc (Ok x) (parts_text parts)
    (subst P (cut_ended (flat_map part_text (take i parts)) text held all so_far.held) both) tt tt (calm ∙ so_far.calm)
    (NeverFalls-after fa fb fc so_far.faults faults)
Prints-ended a b c p q r fa fb fc held (Err e) parts i end so_far sent broken cause calm faults =
    let text = flat_map part_text parts in
    let all : flat_map part_text (take i parts) ≡ text = ap (flat_map part_text) (take_all i parts end) in
    let P : List (List ℕ) → Type 0 = λ t. BreaksOff a c p r t in
    let both = BreaksOff-after a b c p q r (whole_pieces (flat_map part_text (take i parts))) ((held ++ 10 ∷ []) ∷ []) so_far.sends broken in
    Prints-from a c p r fa fc (Err e) (parts_text parts) tt (subst P (cut_ended (flat_map part_text (take i parts)) text held all so_far.held) both)
    (HasRisen-after fa fb fc so_far.faults cause) tt (NeverFalls-after fa fb fc so_far.faults faults)

-- what came of a text, at another writing of that text
pub Prints-as : {E : Type 0} {a b : Option (List ℕ)} {p q : List (List ℕ)} {fa fb : ℕ} {r : Result (Unit {0}) E} {s t : List ℕ} → s ≡ t
    → Prints a b p q fa fb r s → Prints a b p q fa fb r t
Prints-as {a = a} {b = b} {p = p} {q = q} {fa = fa} {fb = fb} {r = r} same prints =
    let P : List ℕ → Type 0 = λ text. Prints a b p q fa fb r text in subst P same prints
