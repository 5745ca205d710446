-- What is known at an index is known of the text that stands there.
use Rattle.std.proofs.Common.{◌≡◌, ℕ, List, slice_get, subst, arith, Option, Some, None}
use Rattle.std.proofs.lemmas.Option.{slice_get_within}
use Rattle.list_lemmas.proofs.ItemsByPlace.{item_there as entry_at}
use Rattle.jk_model.specs.declared.class_file.PoolEntry.{PoolEntry}
use Rattle.jk_model.specs.declared.class_file.PoolEntry.TheVariants.{Utf8}
use Rattle.jk_model_classes.specs.Members.{TextAt}
use Rattle.class_lemmas.proofs.OneText.{one_text}
use Rattle.class_rules.specs.Texts.{AreFacts, AreFactsAt, AreFactsOf}
use Rattle.class_rules.specs.declared.texts.TextFacts.{TextFacts}

text_of_facts : (pool : List PoolEntry) (i : ℕ) (e : PoolEntry) (facts : TextFacts) → slice_get pool i ≡ Some e → AreFactsAt pool e (Some facts)
    → (units : List ℕ) × TextAt pool i units × AreFactsOf pool units facts
text_of_facts pool i (Utf8 bytes) facts at (units, spelt, known) = (units, (bytes, at, spelt), known)
text_of_facts pool i _ facts at h = absurd h

-- where something is known, a text stands, and it is known of that text
pub facts_at : (pool : List PoolEntry) (table : List (Option TextFacts)) → AreFacts pool table → (i : ℕ) (facts : TextFacts)
    → slice_get table i ≡ Some (Some facts) → (units : List ℕ) × TextAt pool i units × AreFactsOf pool units facts
facts_at pool table known i facts at =
    let within = slice_get_within table i (Some facts) at in
    let (e, here) = entry_at pool i (omega (arith, known.long)) in
    text_of_facts pool i e facts here (known.at i e (Some facts) here at)

facts_of_found : (pool : List PoolEntry) (table : List (Option TextFacts)) (i : ℕ) (bytes : List ℕ) (found : Option TextFacts)
    → slice_get table i ≡ Some found → AreFactsAt pool (Utf8 bytes) found → (facts : TextFacts) × (slice_get table i ≡ Some (Some facts))
facts_of_found pool table i bytes None at h = absurd h
facts_of_found pool table i bytes (Some facts) at h = (facts, at)

-- what is known of a text
pub facts_of_text : (pool : List PoolEntry) (table : List (Option TextFacts)) → AreFacts pool table → (i : ℕ) (units : List ℕ)
    → TextAt pool i units → (facts : TextFacts) × (slice_get table i ≡ Some (Some facts)) × AreFactsOf pool units facts
facts_of_text pool table known i units (bytes, at, spelt) =
    let within = slice_get_within pool i (Utf8 bytes) at in
    let (found, here) = entry_at table i (omega (arith, known.long)) in
    let (facts, there) = facts_of_found pool table i bytes found here (known.at i (Utf8 bytes) found at here) in
    let (others, text, its) = facts_at pool table known i facts there in
    let same : others ≡ units = one_text pool i others units text (bytes, at, spelt) in
    (facts, there, subst (λ (us : List ℕ). AreFactsOf pool us facts) same its)
