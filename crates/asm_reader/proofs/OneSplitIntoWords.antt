-- A line is spaces and words one way only.
use Rattle.std.proofs.Common.{◌≡◌, ℕ, ◌<◌, Bool, true, false, IsTrue, List, [], ◌∷◌, ◌++◌, length, take, drop, refl, sym, ap, ◌∙◌, one-add, append_assoc, length-append, arith, inl, inr}
use Rattle.std.specs.List.{list_all, prefix_len}
use Rattle.std.proofs.lemmas.List.{append-nil}
use Rattle.std.proofs.lemmas.Bool.{and_parts, both_ways, ne_eqb}
use Rattle.asm_reader.specs.declared.words.Word.{Word}
use Rattle.asm_reader.specs.declared.words.Word.TheVariants.{Plain, Quoted}
use Rattle.asm_reader.specs.Words.{IsWord, is_plain_byte, is_quoted_byte, word_bytes, AreSpaces, EndsWord, HasWords}
use Rattle.asm_reader.specs.LineFronts.{StopsAt, IsSpan, IsWordThen, BeginsWith, is_space}

-- ---- The bytes in front that pass are so many, and no more.

goes_on : (p : ℕ → Bool) (y : ℕ) (c d b : List ℕ) → IsTrue (list_all p (y ∷ c)) → StopsAt p b → b ≡ y ∷ (c ++ d) → ⊥
goes_on p y c d [] h s e = cc
goes_on p y c d (x ∷ b) h s e =
    let same : p x ≡ p y = ap p cc in
    both_ways (p y) (sym same ∙ s) (and_parts (p y) (list_all p c) h).0

pub one_span : (p : ℕ → Bool) (a b c d : List ℕ) → IsTrue (list_all p a) → StopsAt p b → IsTrue (list_all p c) → StopsAt p d
    → a ++ b ≡ c ++ d → (a ≡ c) × (b ≡ d)
one_span p [] b [] d ha sb hc sd e = (refl, e)
one_span p [] b (y ∷ c) d ha sb hc sd e = absurd (goes_on p y c d b hc sb e)
one_span p (x ∷ a) b [] d ha sb hc sd e = absurd (goes_on p x a b d ha sd (sym e))
one_span p (x ∷ a) b (y ∷ c) d ha sb hc sd e =
    let rest = one_span p a b c d (and_parts (p x) (list_all p a) ha).1 sb (and_parts (p y) (list_all p c) hc).1 sd cc in
    (cc, rest.1)

-- where the bytes that pass end
pub span : (p : ℕ → Bool) (xs : List ℕ) → IsSpan p xs (take (prefix_len p xs) xs) (drop (prefix_len p xs) xs)
span p [] = record { pass = refl; stops = tt; parts = refl }
span p (x ∷ xs) = more p x xs (span p xs) (p x) refl
  where
    more : (p : ℕ → Bool) (x : ℕ) (xs : List ℕ) → IsSpan p xs (take (prefix_len p xs) xs) (drop (prefix_len p xs) xs) → (b : Bool) → p x ≡ b
        → IsSpan p (x ∷ xs) (take (prefix_len p (x ∷ xs)) (x ∷ xs)) (drop (prefix_len p (x ∷ xs)) (x ∷ xs))
    more p x xs s true e = rw (e, one-add) record { pass = rw e s.pass; stops = s.stops; parts = ap (λ l. x ∷ l) s.parts }
    more p x xs s false e = rw e record { pass = refl; stops = e; parts = refl }

-- ---- The first word, and what follows it.

pub ends_stop : (rest : List ℕ) → EndsWord rest → StopsAt is_plain_byte rest
ends_stop [] h = tt
ends_stop (x ∷ rest) (inl e) = absurd cc
ends_stop (x ∷ rest) (inr (more, e)) = let same : x ≡ 32 = cc in rw same refl

word_stops : (word : Word) (rest : List ℕ) → IsWord word → StopsAt is_space (word_bytes word ++ rest)
word_stops (Plain []) rest h = absurd (h.0 refl)
word_stops (Plain (b ∷ bytes)) rest h =
    let plain : is_plain_byte b ≡ true = (and_parts (is_plain_byte b) (list_all is_plain_byte bytes) h.1).0 in
    ne_eqb b 32 (λ e. let space : is_plain_byte b ≡ false = rw e refl in both_ways (is_plain_byte b) space plain)
word_stops (Quoted text) rest h = refl

-- a quoted text, without the quote in front
pub after_quote : (inside content rest : List ℕ) → 34 ∷ inside ≡ word_bytes (Quoted content) ++ rest → inside ≡ content ++ 34 ∷ rest
after_quote inside content rest e =
    let tail : inside ≡ (content ++ 34 ∷ []) ++ rest = cc in
    tail ∙ append_assoc content (34 ∷ []) rest

pub no_plain_quote : (bytes rest more : List ℕ) → IsWord (Plain bytes) → 34 ∷ more ≡ bytes ++ rest → ⊥
no_plain_quote [] rest more h e = h.0 refl
no_plain_quote (b ∷ bytes) rest more h e =
    let plain : is_plain_byte b ≡ true = (and_parts (is_plain_byte b) (list_all is_plain_byte bytes) h.1).0 in
    let quote : b ≡ 34 = cc in
    let never : is_plain_byte b ≡ false = rw quote refl in
    both_ways (is_plain_byte b) never plain

pub one_word_then : (text : List ℕ) (v w : Word) (a b : List ℕ) → IsWordThen text v a → IsWordThen text w b → (v ≡ w) × (a ≡ b)
one_word_then text (Plain x) (Plain y) a b f g =
    let same = one_span is_plain_byte x a y b f.is_word.1 (ends_stop a f.ends) g.is_word.1 (ends_stop b g.ends) (sym f.parts ∙ g.parts) in
    (ap Plain same.0, same.1)
one_word_then text (Plain x) (Quoted t) a b f g = absurd (no_plain_quote x a _ f.is_word (sym g.parts ∙ f.parts))
one_word_then text (Quoted s) (Plain y) a b f g = absurd (no_plain_quote y b _ g.is_word (sym f.parts ∙ g.parts))
one_word_then text (Quoted s) (Quoted t) a b f g =
    let first = append_assoc s (34 ∷ []) a in
    let second = after_quote ((s ++ 34 ∷ []) ++ a) t b (sym f.parts ∙ g.parts) in
    let same = one_span is_quoted_byte s (34 ∷ a) t (34 ∷ b) f.is_word refl g.is_word refl (sym first ∙ second) in
    (ap Quoted same.0, cc)

-- the text after the spaces is the same for each word that might stand there
pub text_begins : (line spaces text : List ℕ) (word : Word) (rest : List ℕ) → IsSpan is_space line spaces text → BeginsWith line word rest
    → IsWordThen text word rest
text_begins line spaces text word rest s f =
    let stops : StopsAt is_space f.text = rw f.then.parts (word_stops word rest f.then.is_word) in
    let same = one_span is_space spaces text f.spaces f.text s.pass s.stops f.are_spaces stops (sym s.parts ∙ f.parts) in
    rw same.1 f.then

word_some : (text : List ℕ) (word : Word) (rest : List ℕ) → IsWordThen text word rest → 0 < length text
word_some text (Plain []) rest f = absurd (f.is_word.0 refl)
word_some text (Plain (b ∷ bytes)) rest f = rw f.parts (omega arith)
word_some text (Quoted t) rest f = rw f.parts (omega arith)

pub shorter : (line : List ℕ) (word : Word) (rest : List ℕ) → BeginsWith line word rest → length rest < length line
shorter line word rest f =
    let some = word_some (word_bytes word) word [] record { is_word = f.then.is_word; parts = sym (append-nil (word_bytes word)); ends = inl refl } in
    omega (arith, ap length f.parts, ap length f.then.parts, length-append f.spaces f.text, length-append (word_bytes word) rest)

pub one_front : (line : List ℕ) (v w : Word) (a b : List ℕ) → BeginsWith line v a → BeginsWith line w b → (v ≡ w) × (a ≡ b)
one_front line v w a b f g =
    let stops : StopsAt is_space f.text = rw f.then.parts (word_stops v a f.then.is_word) in
    let span : IsSpan is_space line f.spaces f.text = record { pass = f.are_spaces; stops = stops; parts = f.parts } in
    one_word_then f.text v w a b f.then (text_begins line f.spaces f.text w b span g)

pub no_front : (line : List ℕ) (word : Word) (rest : List ℕ) → AreSpaces line → BeginsWith line word rest → ⊥
no_front line word rest h f =
    let span : IsSpan is_space line line [] = record { pass = h; stops = tt; parts = sym (append-nil line) } in
    let some = word_some [] word rest (text_begins line line [] word rest span f) in
    absurd (omega arith)

-- ---- Words, one after another.

pub first_of_words : (line : List ℕ) (word : Word) (words : List Word) → HasWords line (word ∷ words)
    → (rest : List ℕ) × BeginsWith line word rest × HasWords rest words
first_of_words line word words h =
    let front : BeginsWith line word h.1 =
    record {
      spaces = h.0;
      text = word_bytes word ++ h.1;
      are_spaces = h.2;
      parts = h.4 ∙ append_assoc h.0 (word_bytes word) h.1;
      then = record { is_word = h.3; parts = refl; ends = h.5 };
    } in
    (h.1, front, h.6)

pub words_after : (line : List ℕ) (word : Word) (words : List Word) (rest : List ℕ) → BeginsWith line word rest → HasWords rest words
    → HasWords line (word ∷ words)
words_after line word words rest f h = (
  f.spaces,
  rest,
  f.are_spaces,
  f.then.is_word,
  f.parts ∙ ap (λ text. f.spaces ++ text) f.then.parts ∙ sym (append_assoc f.spaces (word_bytes word) rest),
  f.then.ends,
  h,
)

pub one_words : (line : List ℕ) (a b : List Word) → HasWords line a → HasWords line b → a ≡ b
one_words line [] [] f g = refl
one_words line [] (w ∷ ws) f g = let next = first_of_words line w ws g in absurd (no_front line w next.0 f next.1)
one_words line (v ∷ vs) [] f g = let next = first_of_words line v vs f in absurd (no_front line v next.0 g next.1)
one_words line (v ∷ vs) (w ∷ ws) f g =
    let left = first_of_words line v vs f in
    let right = first_of_words line w ws g in
    let same = one_front line v w left.0 right.0 left.1 right.1 in
    let words = one_words left.0 vs ws left.2 (rw same.1 right.2) in
    cc

-- these words were read, and the rest is left
abbrev pub Passes : List ℕ → List Word → List ℕ → Type 0
Passes line [] rest = line ≡ rest
Passes line (word ∷ words) rest = (middle : List ℕ) × BeginsWith line word middle × Passes middle words rest

pub passes_more : (line : List ℕ) (words : List Word) (middle : List ℕ) (word : Word) (rest : List ℕ) → Passes line words middle
    → BeginsWith middle word rest → Passes line (words ++ word ∷ []) rest
passes_more line [] middle word rest p f = (rest, rw p f, refl)
passes_more line (w ∷ words) middle word rest p f = (p.0, p.1, passes_more p.0 words middle word rest p.2 f)

pub passes_all : (line : List ℕ) (words : List Word) (rest : List ℕ) → Passes line words rest → AreSpaces rest → HasWords line words
passes_all line [] rest p h = rw p h
passes_all line (w ∷ words) rest p h = words_after line w words p.0 p.1 (passes_all p.0 words rest p.2 h)

-- what follows the words that were read
words_left : (line : List ℕ) (words : List Word) (rest : List ℕ) (all : List Word) → Passes line words rest → HasWords line all
    → (more : List Word) × HasWords rest more
words_left line [] rest all p h = (all, rw (← p) h)
words_left line (w ∷ words) rest [] p h = absurd (no_front line w p.0 h p.1)
words_left line (w ∷ words) rest (v ∷ all) p h =
    let next = first_of_words line v all h in
    let same = one_front line w v p.0 next.0 p.1 next.1 in
    words_left p.0 words rest all p.2 (rw same.1 next.2)

no_words : (rest : List ℕ) (more : List Word) → (AreSpaces rest → ⊥) → ((word : Word) (after : List ℕ) → BeginsWith rest word after → ⊥)
    → HasWords rest more → ⊥
no_words rest [] end front h = end h
no_words rest (w ∷ more) end front h = let next = first_of_words rest w more h in front w next.0 next.1

pub passes_never : (line : List ℕ) (words : List Word) (rest : List ℕ) (all : List Word) → Passes line words rest → (AreSpaces rest → ⊥)
    → ((word : Word) (after : List ℕ) → BeginsWith rest word after → ⊥) → HasWords line all → ⊥
passes_never line words rest all p end front h =
    let left = words_left line words rest all p h in
    no_words rest left.0 end front left.1
