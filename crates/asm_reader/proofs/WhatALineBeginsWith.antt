-- What the bytes in front of a line say of its first word.
use Rattle.std.proofs.Common.{◌≡◌, ◌≢◌, ℕ, ◌-◌, ◌≤◌, ◌⊎◌, Bool, true, false, IsTrue, MatchBool, List, [], ◌∷◌, ◌++◌, length, take, drop, get_or, nat_eq, refl, sym, ap, ◌∙◌, arith, inl, inr}
use Rattle.std.specs.List.{list_all}
use Rattle.std.proofs.lemmas.List.{append-nil, take_rest}
use Rattle.std.proofs.lemmas.Bool.{eqb-true, eqb-false}
use Rattle.asm_reader.specs.declared.words.Word.{Word}
use Rattle.asm_reader.specs.declared.words.Word.TheVariants.{Plain, Quoted}
use Rattle.asm_reader.specs.Words.{is_plain_byte, is_quoted_byte, AreSpaces, EndsWord, IsEmptyLine}
use Rattle.asm_reader.specs.LineFronts.{StopsAt, IsSpan, IsWordThen, BeginsWith, is_space}
use Rattle.asm_reader.proofs.OneSplitIntoWords.{one_span, ends_stop, after_quote, no_plain_quote, text_begins}

-- ---- The quote that ends a quoted text.

pub quote_ends : (text front rest : List ℕ) → IsSpan is_quoted_byte text front rest → 1 ≤ length rest → get_or rest 0 0 ≡ 34
    → IsTrue (list_all is_quoted_byte front) × (text ≡ front ++ 34 ∷ take (length rest - 1) (drop 1 rest))
quote_ends text front [] s some e = absurd (omega arith)
quote_ends text front (x ∷ rest) s some e =
    let tail : take (length (x ∷ rest) - 1) (drop 1 (x ∷ rest)) ≡ rest = take_rest (x ∷ rest) 1 in
    (s.pass, s.parts ∙ ap (λ l. front ++ l) cc)

pub no_quote_ends : (text front rest : List ℕ) → IsSpan is_quoted_byte text front rest → (1 ≤ length rest → get_or rest 0 0 ≢ 34)
    → (content more : List ℕ) → IsTrue (list_all is_quoted_byte content) → text ≡ content ++ 34 ∷ more → ⊥
no_quote_ends text front rest s other content more pass e =
    let same = one_span is_quoted_byte front rest content (34 ∷ more) s.pass s.stops pass refl (sym s.parts ∙ e) in
    let ends : rest ≡ 34 ∷ more = same.1 in
    other (rw ends (omega arith)) (rw ends refl)

pub not_ended : (inside content rest : List ℕ) → IsTrue (list_all is_quoted_byte content) → inside ≡ content ++ 34 ∷ rest → (EndsWord rest → ⊥)
    → (other more : List ℕ) → IsWordThen (34 ∷ inside) (Quoted other) more → ⊥
not_ended inside content rest pass e never other more f =
    let same = one_span is_quoted_byte content (34 ∷ rest) other (34 ∷ more) pass refl f.is_word refl (sym e ∙ after_quote inside other more f.parts) in
    let ends : rest ≡ more = cc in
    never (rw ends f.ends)

-- ---- The bytes of a word without quotes.

pub no_plain_word : (text front rest : List ℕ) → IsSpan is_plain_byte text front rest → ((front ≡ []) ⊎ (EndsWord rest → ⊥))
    → (content more : List ℕ) → IsWordThen text (Plain content) more → ⊥
no_plain_word text front rest s never content more f =
    let same = one_span is_plain_byte front rest content more s.pass s.stops f.is_word.1 (ends_stop more f.ends) (sym s.parts ∙ f.parts) in
    elim never [ inl none ↦ f.is_word.0 (sym same.0 ∙ none) | inr goes_on ↦ goes_on (rw same.1 f.ends) ]

-- ---- No word stands in front.

pub no_word_at_quote : (text : List ℕ) → 1 ≤ length text → get_or text 0 0 ≡ 34
    → ((content rest : List ℕ) → IsWordThen (34 ∷ take (length text - 1) (drop 1 text)) (Quoted content) rest → ⊥)
    → (word : Word) (rest : List ℕ) → IsWordThen text word rest → ⊥
no_word_at_quote [] some e never word rest f = absurd (omega arith)
no_word_at_quote (x ∷ text) some e never (Plain bytes) rest f =
    let first : 34 ∷ text ≡ x ∷ text = ap (λ b. b ∷ text) (sym e) in
    no_plain_quote bytes rest text f.is_word (first ∙ f.parts)
no_word_at_quote (x ∷ text) some e never (Quoted content) rest f =
    let tail : take (length (x ∷ text) - 1) (drop 1 (x ∷ text)) ≡ text = take_rest (x ∷ text) 1 in
    let same : 34 ∷ take (length (x ∷ text) - 1) (drop 1 (x ∷ text)) ≡ x ∷ text = cc in
    never content rest (rw same f)

pub no_word_else : (text : List ℕ) → get_or text 0 0 ≢ 34 → ((content rest : List ℕ) → IsWordThen text (Plain content) rest → ⊥)
    → (word : Word) (rest : List ℕ) → IsWordThen text word rest → ⊥
no_word_else text other never (Plain bytes) rest f = never bytes rest f
no_word_else text other never (Quoted content) rest f = other (rw f.parts refl)

pub no_word_in_front : (line spaces text : List ℕ) → IsSpan is_space line spaces text → 1 ≤ length text
    → ((word : Word) (rest : List ℕ) → IsWordThen text word rest → ⊥)
    → (AreSpaces line → ⊥) × ((word : Word) (rest : List ℕ) → BeginsWith line word rest → ⊥)
no_word_in_front line spaces text s some never =
    (not_spaces line spaces text s some, λ word rest f. never word rest (text_begins line spaces text word rest s f))
  where
    not_spaces : (line spaces text : List ℕ) → IsSpan is_space line spaces text → 1 ≤ length text → AreSpaces line → ⊥
    not_spaces line spaces text s some h =
        let same = one_span is_space spaces text line [] s.pass s.stops h tt (sym s.parts ∙ sym (append-nil line)) in
        let none : length text ≡ 0 = ap length same.1 in
        absurd (omega arith)

-- ---- A comment.

-- a line's end and `#`
abbrev IsEmptyFrom : List ℕ → Type 0
IsEmptyFrom rest = (rest ≡ []) ⊎ ((more : List ℕ) × (rest ≡ 35 ∷ more))

comment_stops : (rest : List ℕ) → IsEmptyFrom rest → StopsAt is_space rest
comment_stops [] h = tt
comment_stops (x ∷ rest) (inl e) = absurd cc
comment_stops (x ∷ rest) (inr (more, e)) = let same : x ≡ 35 = cc in rw same refl

other_byte : (x : ℕ) (more rest : List ℕ) → x ∷ more ≡ rest → (x ≡ 35 → ⊥) → IsEmptyFrom rest → ⊥
other_byte x more rest e other (inl none) = absurd cc
other_byte x more rest e other (inr (after, f)) = other cc

comment_or_not : (line spaces more : List ℕ) (x : ℕ) → IsSpan is_space line spaces (x ∷ more) → (b : Bool) → nat_eq x 35 ≡ b
    → MatchBool b (IsEmptyLine line) (IsEmptyLine line → ⊥)
comment_or_not line spaces more x s true e = (spaces, x ∷ more, s.pass, s.parts, inr (more, ap (λ b. b ∷ more) (eqb-true x 35 e)))
comment_or_not line spaces more x s false e =
    λ h.
    let same = one_span is_space spaces (x ∷ more) h.0 h.1 s.pass s.stops h.2 (comment_stops h.1 h.4) (sym s.parts ∙ h.3) in
    other_byte x more h.1 same.1 (eqb-false x 35 e) h.4

pub empty_or_not : (line spaces text : List ℕ) → IsSpan is_space line spaces text → 1 ≤ length text
    → MatchBool (nat_eq (get_or text 0 0) 35) (IsEmptyLine line) (IsEmptyLine line → ⊥)
empty_or_not line spaces [] s some = absurd (omega arith)
empty_or_not line spaces (x ∷ more) s some = comment_or_not line spaces more x s (nat_eq x 35) refl
