-- What is known of the text at an index, and that a text has one list of units.
use Rattle.std.proofs.Common.{◌≡◌, ℕ, ◌<◌, ◌≤◌, inl, inr, ◌↔◌, refl, sym, ◌∙◌, ap, subst, arith, Bool, true, false, List, length, Option, Some, None, ◌==◌}
use Rattle.std.specs.Prelude.{slice_get, IsTrue, if◌then◌else◌}
use Rattle.std.proofs.lemmas.Option.{slice_get_cases, slice_get_within as item_within}
use Rattle.jk_model.specs.declared.class_file.PoolEntry.{PoolEntry}
use Rattle.jk_model.specs.declared.class_file.PoolEntry.TheVariants.{Utf8}
use Rattle.jk_model_classes.specs.ClassNames.{HasText}
use Rattle.jk_model_classes.specs.Members.{TextAt}
use Rattle.class_lemmas.proofs.OneText.{one_text}
use Rattle.class_rules.specs.KnownPools.{IsTextKnown}
use Rattle.class_rules.specs.Texts.{AreFacts, AreFactsOf, AreFactsAt, IsWord, word_text}
use Rattle.class_rules.specs.declared.texts.TextFacts.{TextFacts}
use Rattle.class_rules.specs.declared.texts.Word.{Word}
use Rattle.class_rules.specs.declared.texts.Word.TheVariants.{Init, Clinit, Code, ConstantValue, Exceptions, NothingToNothing}

-- ---- What stands in the table.

at_entry : (pool : List PoolEntry) (i : ℕ) (e : PoolEntry) (facts : TextFacts) → slice_get pool i ≡ Some e → AreFactsAt pool e (Some facts)
    → IsTextKnown pool i (Some facts)
at_entry pool i (Utf8 bytes) facts e h = (h.0, (bytes, e, h.1), h.2)
at_entry pool i _ facts e h = absurd h

-- there is an entry at each index of the table
entry_at : (pool : List PoolEntry) (table : List (Option TextFacts)) (i : ℕ) (found : Option TextFacts) → AreFacts pool table
    → slice_get table i ≡ Some found → (e : PoolEntry) × (slice_get pool i ≡ Some e) × AreFactsAt pool e found
entry_at pool table i found known at =
    let below : i < length table = item_within table i found at in
    elim (slice_get_cases pool i).1 [
      | inl k ↦ (k.0, k.2, known.at i k.0 found k.2 at)
      | inr k ↦ absurd (omega (arith, k.0, known.long))
    ]

no_text : (pool : List PoolEntry) (table : List (Option TextFacts)) (i : ℕ) → AreFacts pool table → slice_get table i ≡ Some None → IsTextKnown pool i None
no_text pool table i known at = λ units (bytes, here, spells). known.at i (Utf8 bytes) None here at

-- what the table has at an index is what is known of the text there
pub known_text : (pool : List PoolEntry) (table : List (Option TextFacts)) (i : ℕ) (found : Option TextFacts) → AreFacts pool table
    → slice_get table i ≡ Some found → IsTextKnown pool i found
known_text pool table i None known at = no_text pool table i known at
known_text pool table i (Some facts) known at =
    let entry = entry_at pool table i (Some facts) known at in
    at_entry pool i entry.0 facts entry.1 entry.2

-- no text stands past the end of the table
pub past_texts : (pool : List PoolEntry) (table : List (Option TextFacts)) (i : ℕ) → AreFacts pool table → length table ≤ i
    → IsTextKnown pool i None
past_texts pool table i known past =
    λ units (bytes, here, spells). let below : i < length pool = item_within pool i (Utf8 bytes) here in omega (arith, known.long)

-- what is known of a pool is known of the same entries
pub own_known : (entries pool : List PoolEntry) (texts table : List (Option TextFacts)) → entries ≡ pool → texts ≡ table → AreFacts pool table
    → AreFacts entries texts
own_known entries pool texts table own same known =
    subst (λ (p : List PoolEntry). AreFacts p texts) (sym own) (subst (λ (t : List (Option TextFacts)). AreFacts pool t) (sym same) known)

-- ---- Words: their texts have different lengths.

word_of : ℕ → Word
word_of n =
    if n == 6 then Init
    else (if n == 8 then Clinit
    else (if n == 4 then Code
    else (if n == 13 then ConstantValue
    else (if n == 10 then Exceptions else NothingToNothing))))

word_by_length : (word : Word) → word_of (length (word_text word)) ≡ word
unfolding word_of
word_by_length Init = refl
word_by_length Clinit = refl
word_by_length Code = refl
word_by_length ConstantValue = refl
word_by_length Exceptions = refl
word_by_length NothingToNothing = refl

one_word : (v w : Word) → word_text v ≡ word_text w → v ≡ w
one_word v w e = sym (word_by_length v) ∙ ap (λ units. word_of (length units)) e ∙ word_by_length w

-- units that are a word are the word that is known
pub known_word : (units : List ℕ) (found : Option Word) (word : Word) → IsWord units found → (found ≡ Some word) ↔ (units ≡ word_text word)
known_word units None word h = (λ e. absurd cc, λ e. absurd (h word e))
known_word units (Some found) word h = (
  λ e. let same : found ≡ word = cc in h ∙ ap word_text same,
  λ e. ap (λ w. Some w) (one_word found word (sym h ∙ e)),
)

-- What a test says of the units of the text at an index.
pub text_decides : (P : List ℕ → Type 0) (pool : List PoolEntry) (i : ℕ) (facts : TextFacts) (b : Bool) → IsTextKnown pool i (Some facts)
    → ((entries : List PoolEntry) (units : List ℕ) → AreFactsOf entries units facts → IsTrue b ↔ P units) → IsTrue b ↔ HasText P pool i
text_decides P pool i facts b (units, at, known) says =
    let here = says pool units known in
    (λ e. (units, at, here.0 e), λ (v, there, p). here.1 (subst P (one_text pool i v units there at) p))

pub word_decides : (word : List ℕ) (pool : List PoolEntry) (i : ℕ) (b : Bool) → IsTrue b ↔ HasText (λ units. units ≡ word) pool i
    → IsTrue b ↔ TextAt pool i word
word_decides word pool i b says =
    (λ e. let found = says.0 e in subst (λ (w : List ℕ). TextAt pool i w) found.2 found.1, λ at. says.1 (word, at, refl))

-- what a test says of the entries of a known pool it says of the pool that they are of
pub of_entries : (P : List PoolEntry → Type 0) (entries pool : List PoolEntry) (b : Bool) → entries ≡ pool → IsTrue b ↔ P entries → IsTrue b ↔ P pool
of_entries P entries pool b same h = subst (λ (w : List PoolEntry). IsTrue b ↔ P w) same h

-- a test that answered no
pub refuted : {P : Type 0} (b : Bool) → IsTrue b ↔ P → b ≡ false → P → ⊥
refuted b h answer p = let same : b ≡ true = h.1 p in cc
