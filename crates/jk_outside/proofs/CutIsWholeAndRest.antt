-- A text is its whole pieces and a rest, and the cut of a line is the whole pieces of its text and a last piece.
use Rattle.std.proofs.Common.{◌≡◌, ℕ, suc, zero, ◌+◌, ◌*◌, ◌/◌, ◌<◌, ◌≤◌, List, [], ◌∷◌, ◌++◌, length, take, drop, refl, sym, ap, ◌∙◌, arith, append_assoc, append-nil, length-append, length-drop}
use Rattle.std.specs.List.{concat}
use Rattle.std.proofs.Math.Seq.{take-append_seam, drop-append_seam}
use Rattle.std.proofs.lemmas.List.{take-append-drop, take_all, drop_all, drop-drop, length-take-le}
use Rattle.std.proofs.lemmas.List.Folds.{concat-append}
use Rattle.jk_outside.specs.CutTexts.{first_pieces, cut_text, whole_pieces, rest_of_pieces}

-- each of these pieces has 256 bytes
abbrev pub AreFull : List (List ℕ) → Type 0
AreFull [] = Unit {0}
AreFull (piece ∷ pieces) = (length piece ≡ 256) × AreFull pieces

AreFull-append : (xs ys : List (List ℕ)) → AreFull xs → AreFull ys → AreFull (xs ++ ys)
AreFull-append [] ys h k = k
AreFull-append (x ∷ xs) ys h k = (h.0, AreFull-append xs ys h.1 k)

length-full : (pieces : List (List ℕ)) → AreFull pieces → length (concat pieces) ≡ length pieces * 256
length-full [] h = refl
length-full (piece ∷ pieces) h =
    omega (arith, h.0, length-full pieces h.1, length-append piece (concat pieces))

take_first : (piece more : List ℕ) → length piece ≡ 256 → take 256 (piece ++ more) ≡ piece
take_first piece more h = ap (λ (n : ℕ). take n (piece ++ more)) (sym h) ∙ take-append_seam piece more

drop_first : (piece more : List ℕ) → length piece ≡ 256 → drop 256 (piece ++ more) ≡ more
drop_first piece more h = ap (λ (n : ℕ). drop n (piece ++ more)) (sym h) ∙ drop-append_seam piece more

-- full pieces are the first pieces of what begins with them
first_pieces-full : (pieces : List (List ℕ)) (more n : ℕ) (text : List ℕ) → AreFull pieces → n ≡ length pieces + more
    → first_pieces n (concat pieces ++ text) ≡ pieces ++ first_pieces more text
first_pieces-full [] more n text h e =
    let same : n ≡ more = omega arith in ap (λ (k : ℕ). first_pieces k text) same
first_pieces-full (piece ∷ pieces) more zero text h e = absurd (omega arith)
first_pieces-full (piece ∷ pieces) more (suc n) text h e =
    let count : n ≡ length pieces + more = omega arith in
    let whole : piece ++ concat pieces ++ text ≡ piece ++ (concat pieces ++ text) = append_assoc piece (concat pieces) text in
    ap (first_pieces (suc n)) whole
    ∙ ap (λ (t : List ℕ). t ∷ first_pieces n (drop 256 (piece ++ (concat pieces ++ text)))) (take_first piece (concat pieces ++ text) h.0)
    ∙ ap (λ (t : List ℕ). piece ∷ first_pieces n t) (drop_first piece (concat pieces ++ text) h.0)
    ∙ ap (λ (ps : List (List ℕ)). piece ∷ ps) (first_pieces-full pieces more n text h.1 count)

are_full : (n : ℕ) (text : List ℕ) → n * 256 ≤ length text → AreFull (first_pieces n text)
are_full zero text h = tt
are_full (suc n) text h =
    (length-take-le 256 text (omega arith), are_full n (drop 256 text) (omega (arith, length-drop 256 text)))

joined : (n : ℕ) (text : List ℕ) → concat (first_pieces n text) ++ drop (n * 256) text ≡ text
joined zero text = refl
joined (suc n) text =
    let later : drop (suc n * 256) text ≡ drop (n * 256) (drop 256 text) =
    let sum : suc n * 256 ≡ 256 + n * 256 = omega arith in
    ap (λ (k : ℕ). drop k text) sum ∙ sym (drop-drop (n * 256) 256 text) in
    append_assoc (take 256 text) (concat (first_pieces n (drop 256 text))) (drop (suc n * 256) text)
    ∙ ap (λ (t : List ℕ). take 256 text ++ (concat (first_pieces n (drop 256 text)) ++ t)) later
    ∙ ap (λ (t : List ℕ). take 256 text ++ t) (joined n (drop 256 text))
    ∙ take-append-drop 256 text

pub whole_pieces-full : (text : List ℕ) → AreFull (whole_pieces text)
unfolding whole_pieces
whole_pieces-full text = are_full (length text / 256) text (omega arith)

pub whole_and_rest : (text : List ℕ) → concat (whole_pieces text) ++ rest_of_pieces text ≡ text
unfolding whole_pieces rest_of_pieces
whole_and_rest text = joined (length text / 256) text

pub rest_of_pieces-lt : (text : List ℕ) → length (rest_of_pieces text) < 256
unfolding rest_of_pieces
rest_of_pieces-lt text = omega (arith, length-drop (length text / 256 * 256) text)

-- there is one way to take a text apart so
pub whole_pieces_are : (text : List ℕ) (pieces : List (List ℕ)) (rest : List ℕ) → AreFull pieces → length rest < 256 → text ≡ concat pieces ++ rest
    → whole_pieces text ≡ pieces
unfolding whole_pieces
whole_pieces_are text pieces rest full short is =
    let len : length text ≡ length pieces * 256 + length rest =
    omega (arith, ap length is, length-append (concat pieces) rest, length-full pieces full) in
    let count : length text / 256 ≡ length pieces + 0 = omega arith in
    ap (first_pieces (length text / 256)) is ∙ first_pieces-full pieces 0 (length text / 256) rest full count ∙ append-nil pieces

pub rest_of_pieces_is : (text : List ℕ) (pieces : List (List ℕ)) (rest : List ℕ) → AreFull pieces → length rest < 256 → text ≡ concat pieces ++ rest
    → rest_of_pieces text ≡ rest
unfolding rest_of_pieces
rest_of_pieces_is text pieces rest full short is =
    let len : length text ≡ length pieces * 256 + length rest =
    omega (arith, ap length is, length-append (concat pieces) rest, length-full pieces full) in
    let count : length text / 256 * 256 ≡ length (concat pieces) = omega (arith, length-full pieces full) in
    ap (λ (n : ℕ). drop n text) count ∙ ap (drop (length (concat pieces))) is ∙ drop-append_seam (concat pieces) rest

-- what more text does
more_text : (x y : List ℕ) → x ++ y ≡ concat (whole_pieces x ++ whole_pieces (rest_of_pieces x ++ y)) ++ rest_of_pieces (rest_of_pieces x ++ y)
more_text x y =
    let more = rest_of_pieces x ++ y in
    ap (λ (t : List ℕ). t ++ y) (sym (whole_and_rest x)) ∙ append_assoc (concat (whole_pieces x)) (rest_of_pieces x) y
    ∙ ap (λ (t : List ℕ). concat (whole_pieces x) ++ t) (sym (whole_and_rest more))
    ∙ sym (append_assoc (concat (whole_pieces x)) (concat (whole_pieces more)) (rest_of_pieces more))
    ∙ ap (λ (t : List ℕ). t ++ rest_of_pieces more) (sym (concat-append (whole_pieces x) (whole_pieces more)))

pub whole_pieces-append : (x y : List ℕ) → whole_pieces (x ++ y) ≡ whole_pieces x ++ whole_pieces (rest_of_pieces x ++ y)
whole_pieces-append x y =
    let more = rest_of_pieces x ++ y in
    whole_pieces_are (x ++ y) (whole_pieces x ++ whole_pieces more) (rest_of_pieces more)
    (AreFull-append (whole_pieces x) (whole_pieces more) (whole_pieces-full x) (whole_pieces-full more))
    (rest_of_pieces-lt more) (more_text x y)

pub rest_of_pieces-append : (x y : List ℕ) → rest_of_pieces (x ++ y) ≡ rest_of_pieces (rest_of_pieces x ++ y)
rest_of_pieces-append x y =
    let more = rest_of_pieces x ++ y in
    rest_of_pieces_is (x ++ y) (whole_pieces x ++ whole_pieces more) (rest_of_pieces more)
    (AreFull-append (whole_pieces x) (whole_pieces more) (whole_pieces-full x) (whole_pieces-full more))
    (rest_of_pieces-lt more) (more_text x y)

-- a text that fills no piece, and one that is a piece
pub whole_pieces-short : (text : List ℕ) → length text < 256 → whole_pieces text ≡ []
whole_pieces-short text h = whole_pieces_are text [] text tt h refl

pub rest_of_pieces-short : (text : List ℕ) → length text < 256 → rest_of_pieces text ≡ text
rest_of_pieces-short text h = rest_of_pieces_is text [] text tt h refl

pub whole_pieces-one : (text : List ℕ) → length text ≡ 256 → whole_pieces text ≡ text ∷ []
whole_pieces-one text h =
    whole_pieces_are text (text ∷ []) [] (h, tt) (omega arith) (sym (append-nil (text ++ []) ∙ append-nil text))

pub rest_of_pieces-one : (text : List ℕ) → length text ≡ 256 → rest_of_pieces text ≡ []
rest_of_pieces-one text h =
    rest_of_pieces_is text (text ∷ []) [] (h, tt) (omega arith) (sym (append-nil (text ++ []) ∙ append-nil text))

-- a last piece of 1 to 256 bytes
cut_text-last : (pieces : List (List ℕ)) (last : List ℕ) → AreFull pieces → 0 < length last → length last ≤ 256
    → cut_text (concat pieces ++ last) ≡ pieces ++ last ∷ []
unfolding cut_text
cut_text-last pieces last full some few =
    let n = (length (concat pieces ++ last) + 255) / 256 in
    let count : n ≡ length pieces + 1 =
    omega (arith, length-append (concat pieces) last, length-full pieces full) in
    first_pieces-full pieces 1 n last full count
    ∙ ap (λ (t : List ℕ). pieces ++ t ∷ []) (take_all 256 last few)

-- the cut of a line
pub cut_text-line : (text : List ℕ) (byte : ℕ) → cut_text (text ++ byte ∷ []) ≡ whole_pieces text ++ (rest_of_pieces text ++ byte ∷ []) ∷ []
cut_text-line text byte =
    let last = rest_of_pieces text ++ byte ∷ [] in
    let size : length last ≡ length (rest_of_pieces text) + 1 = length-append (rest_of_pieces text) (byte ∷ []) in
    ap (λ (t : List ℕ). cut_text (t ++ byte ∷ [])) (sym (whole_and_rest text))
    ∙ ap cut_text (append_assoc (concat (whole_pieces text)) (rest_of_pieces text) (byte ∷ []))
    ∙ cut_text-last (whole_pieces text) last (whole_pieces-full text) (omega arith) (omega (arith, rest_of_pieces-lt text))

-- the pieces of a cut make the text
pub concat-cut_text : (text : List ℕ) → concat (cut_text text) ≡ text
unfolding cut_text
concat-cut_text text =
    let n = (length text + 255) / 256 in
    let past : drop (n * 256) text ≡ [] = drop_all (n * 256) text (omega arith) in
    sym (append-nil (concat (first_pieces n text)))
    ∙ ap (λ (t : List ℕ). concat (first_pieces n text) ++ t) (sym past)
    ∙ joined n text
