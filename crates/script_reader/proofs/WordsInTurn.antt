-- The words after a `start` line's class, from left to right.
use Rattle.std.proofs.Common.{◌≡◌, ℕ, zero, suc, ◌+◌, ◌-◌, ◌<◌, ◌≤◌, List, [], ◌∷◌, ◌++◌, length, refl, sym, ◌∙◌, ap, arith, length-append, append-nil, append_assoc, Some, None, Ok, Err}
use Rattle.jk_model.specs.declared.script.FaultKind.TheVariants.{TooLong, Extra}
use Rattle.jk_model.specs.Script.{words}
use Rattle.jk_model.specs.ScriptGrammar.{start_words_fault}
use Rattle.script_reader.specs.StartWords.{start_words}

-- what is known once some words are taken
pub record AreTaken (text rest : List ℕ) (taken : List (List ℕ)) : Type 0 where
  pub room : ℕ
  pub many : room + length taken ≡ 255
  pub all : words text ≡ taken ++ words rest
  pub fault : start_words_fault 255 (words text) ≡ start_words_fault room (words rest)

pub before_all : (text : List ℕ) (taken : List (List ℕ)) → taken ≡ [] → AreTaken text text taken
before_all text taken e = record { room = 255; many = rw e; all = rw e; fault = refl }

long_word : (room : ℕ) (word : List ℕ) (more : List (List ℕ)) → 255 < length word → start_words_fault room (word ∷ more) ≡ Some TooLong
long_word zero word more h = grind arith
long_word (suc room) word more h = grind arith

pub too_long : (text rest word after : List ℕ) (taken : List (List ℕ)) → AreTaken text rest taken → words rest ≡ word ∷ words after
    → 255 < length word → start_words (words text) ≡ Err TooLong
too_long text rest word after taken h e long =
    let fault : start_words_fault 255 (words text) ≡ Some TooLong = h.fault ∙ rw e (long_word h.room word (words after) long) in
    rw fault

no_room : (room : ℕ) (word : List ℕ) (more : List (List ℕ)) → length word ≤ 255 → room ≡ 0 → start_words_fault room (word ∷ more) ≡ Some Extra
no_room zero word more h e = grind arith
no_room (suc room) word more h e = absurd (omega arith)

pub one_too_many : (text rest word after : List ℕ) (taken : List (List ℕ)) → AreTaken text rest taken → words rest ≡ word ∷ words after
    → length word ≤ 255 → length taken ≡ 255 → start_words (words text) ≡ Err Extra
one_too_many text rest word after taken h e short many =
    let fault : start_words_fault 255 (words text) ≡ Some Extra = h.fault ∙ rw e (no_room h.room word (words after) short (omega (arith, h.many, many))) in
    rw fault

has_room : (room : ℕ) (word : List ℕ) (more : List (List ℕ)) → length word ≤ 255 → start_words_fault (suc room) (word ∷ more) ≡ start_words_fault room more
has_room room word more h = grind arith

pub after_word : (text rest word after : List ℕ) (taken : List (List ℕ)) → AreTaken text rest taken → words rest ≡ word ∷ words after
    → length word ≤ 255 → (length taken ≡ 255 → ⊥) → AreTaken text after (taken ++ word ∷ [])
after_word text rest word after taken h e short some =
    let left : h.room ≡ suc (h.room - 1) = omega (arith, h.many, some) in
    record {
      room = h.room - 1;
      many = omega (arith, h.many, some, length-append taken (word ∷ []));
      all = h.all ∙ rw e (sym (append_assoc taken (word ∷ []) (words after)));
      fault = h.fault ∙ ap (λ n. start_words_fault n (words rest)) left ∙ rw e (has_room (h.room - 1) word (words after) short);
    }

pub all_words : (text rest : List ℕ) (taken : List (List ℕ)) → AreTaken text rest taken → words rest ≡ [] → start_words (words text) ≡ Ok taken
all_words text rest taken h e =
    let whole : words text ≡ taken = h.all ∙ ap (λ ws. taken ++ ws) e ∙ append-nil taken in
    let fault : start_words_fault 255 (words text) ≡ None = h.fault ∙ rw e in
    rw fault (ap Ok whole)
