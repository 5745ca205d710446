-- Words are an item as the keyword in front of them says.
use Rattle.std.proofs.Common.{◌≡◌, ℕ, List, ◌∷◌, Option, Some, None, MatchOption, option_map, sym, subst, ◌∙◌}
use Rattle.asm_reader.specs.declared.items.Item.{Item}
use Rattle.asm_reader.specs.declared.words.Word.{Word}
use Rattle.asm_reader.specs.declared.words.Word.TheVariants.{Plain}
use Rattle.asm_reader.specs.Items.{Keyword, IsItem, IsItemOf, keyword_of}

-- an item's words after the first are as that word says
pub by_keyword : (words : List Word) (word : List ℕ) (rest : List Word) (k : Keyword) (i : Item)
    → words ≡ Plain word ∷ rest → keyword_of word ≡ k → IsItem words i → IsItemOf k word rest i
by_keyword words word rest k i e f h =
    let same : Plain h.0 ∷ h.1 ≡ Plain word ∷ rest = sym h.2 ∙ e in
    let first : h.0 ≡ word = cc in
    let others : h.1 ≡ rest = cc in
    let a : IsItemOf (keyword_of h.0) word rest i =
    subst (λ (ws : List Word). IsItemOf (keyword_of h.0) word ws i) others
    (subst (λ (w : List ℕ). IsItemOf (keyword_of h.0) w h.1 i) first h.3) in
    subst (λ (l : Keyword). IsItemOf l word rest i) (rw first f) a

-- the other way round
pub of_keyword : (words : List Word) (word : List ℕ) (rest : List Word) (k : Keyword) (i : Item)
    → words ≡ Plain word ∷ rest → keyword_of word ≡ k → IsItemOf k word rest i → IsItem words i
of_keyword words word rest k i e f h =
    (word, rest, e, subst (λ (l : Keyword). IsItemOf l word rest i) (sym f) h)

-- what one sort of line is, as an item
pub found_by_keyword : {A : Type 0} (words : List Word) (word : List ℕ) (rest : List Word) (k : Keyword)
    (f : A → Item) (P : A → Type 0) (o : Option A) (r : Option Item) → words ≡ Plain word ∷ rest → k ≡ keyword_of word
    → ((x : A) → P x → IsItemOf k word rest (f x)) → ((i : Item) → IsItemOf k word rest i → (x : A) × P x)
    → MatchOption o ((x : A) → P x → ⊥) P → r ≡ option_map f o
    → MatchOption r ((i : Item) → IsItem words i → ⊥) (λ i. IsItem words i)
found_by_keyword words word rest k f P None r e w to from h is =
    rw is (λ i found. let x = from i (by_keyword words word rest k i e (sym w) found) in h x.0 x.1)
found_by_keyword words word rest k f P (Some x) r e w to from h is =
    rw is (of_keyword words word rest k (f x) e (sym w) (to x h))
