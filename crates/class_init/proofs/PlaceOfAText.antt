-- A text is found through its fingerprint, from the newest entry on to older ones.
use Rattle.std.proofs.Common.{◌≡◌, ℕ, ◌+◌, ◌<◌, ◌≤◌, ◌⊎◌, inl, inr, List, length, map, sym, ◌∙◌, ap, arith, Option, Some, None, slice_get}
use Rattle.std.specs.Prelude.{Contains}
use Rattle.std.specs.Option.{MatchOption, option_map_or}
use Rattle.std.proofs.lemmas.Bool.{cases_lt}
use Rattle.std.proofs.lemmas.Option.{slice_get_within, same_Some}
use Rattle.list_lemmas.proofs.ItemsByPlace.{comes_from, mapped_at}
use Rattle.list_lemmas.proofs.ItemsOfLists.{Contains-at}
use Rattle.shared_values.specs.Fingerprints.{fingerprint_of}
use Rattle.class_init.specs.declared.known_texts.TextEntry.{TextEntry}
use Rattle.class_init.specs.Texts.{text_of, IsNewest, HasFingerprint, AreChained, LacksText, HasTextAt}
use Rattle.class_init.proofs.PlacesInLists.{stands_at}

-- the texts differ, as contracts see them
pub texts_differ : (es : List TextEntry)
    → ((i j : ℕ) (a b : TextEntry) → slice_get es i ≡ Some a → slice_get es j ≡ Some b → a.text ≡ b.text → i ≡ j)
    → (i j : ℕ) (text : List ℕ) → slice_get (map text_of es) i ≡ Some text → slice_get (map text_of es) j ≡ Some text → i ≡ j
texts_differ es h i j text p q =
    let x = comes_from text_of es i text p in
    let y = comes_from text_of es j text q in
    h i j x.from y.from x.there y.there (x.gives ∙ sym y.gives)

-- what is known from the entries says where the text stands
pub place_says : (es : List TextEntry) (text : List ℕ) (r : Option ℕ) → MatchOption r (LacksText es text) (λ place. HasTextAt es text place)
    → MatchOption r (Contains (map text_of es) text → ⊥) (λ place. slice_get (map text_of es) place ≡ Some text)
place_says es text None h =
    λ has.
    let s = stands_at (map text_of es) text has in
    let x = comes_from text_of es s.place text s.there in h s.place x.from x.there x.gives
place_says es text (Some place) h = mapped_at text_of es place h.entry h.there ∙ ap Some h.is

-- and a text that isn't known stands in no entry
pub lacks_from_absent : (es : List TextEntry) (text : List ℕ) → (Contains (map text_of es) text → ⊥) → LacksText es text
lacks_from_absent es text h k e at same = h (Contains-at (map text_of es) k text (mapped_at text_of es k e at ∙ ap Some same))

-- ---- The search from the newest entry on.

-- the entries from a place on don't have the text, and before it the newest with its fingerprint stands here
pub record Searches (es : List TextEntry) (text : List ℕ) (next : Option ℕ) : Type 0 where
  pub end : ℕ
  pub newest : IsNewest es (fingerprint_of text) end next
  pub past : (k : ℕ) (e : TextEntry) → end ≤ k → slice_get es k ≡ Some e → e.text ≡ text → ⊥

pub search_begins : (es : List TextEntry) (text : List ℕ) (next : Option ℕ) → IsNewest es (fingerprint_of text) (length es) next → Searches es text next
search_begins es text next h = record {
  end = length es;
  newest = h;
  past = λ k e late at same. absurd (omega (arith, slice_get_within es k e at, late));
}

has_print : (es : List TextEntry) (text : List ℕ) (k : ℕ) (e : TextEntry) → slice_get es k ≡ Some e → e.text ≡ text → HasFingerprint es (fingerprint_of text) k
has_print es text k e at same = record { entry = e; there = at; is = ap fingerprint_of same }

-- where no entry is left, none has the text
pub search_ends : (es : List TextEntry) (text : List ℕ) → Searches es text None → LacksText es text
search_ends es text s k e at same = by_order (cases_lt k s.end)
  where
    by_order : (k < s.end) ⊎ (s.end ≤ k) → ⊥
    by_order (inl early) = s.newest k early (has_print es text k e at same)
    by_order (inr late) = s.past k e late at same

-- an entry with another text leads on
pub search_goes_on : (es : List TextEntry) (text : List ℕ) (place : ℕ) (e : TextEntry) → AreChained es → Searches es text (Some place)
    → slice_get es place ≡ Some e → (e.text ≡ text → ⊥) → Searches es text e.before
search_goes_on es text place e chained s at other = record {
  end = place;
  newest =
      let found = s.newest.1 in
      let entry : found.entry ≡ e = same_Some found.entry e (sym found.there ∙ at) in
      let print : fingerprint_of e.text ≡ fingerprint_of text = ap (λ (x : TextEntry). fingerprint_of x.text) (sym entry) ∙ found.is in
      rw print at (chained place e at);
  past = λ k x late there same. by_order k x there same (cases_lt place k) late;
}
  where
    by_order : (k : ℕ) (x : TextEntry) → slice_get es k ≡ Some x → x.text ≡ text → (place < k) ⊎ (k ≤ place) → place ≤ k → ⊥
    by_order k x there same (inr low) late =
        let here : k ≡ place = omega arith in
        let entry : x ≡ e = same_Some x e (sym there ∙ ap (slice_get es) here ∙ at) in
        other (ap (λ (y : TextEntry). y.text) (sym entry) ∙ same)
    by_order k x there same (inl after) late = by_end (cases_lt k s.end)
      where
        by_end : (k < s.end) ⊎ (s.end ≤ k) → ⊥
        by_end (inl early) = s.newest.2 k after early (has_print es text k x there same)
        by_end (inr past) = s.past k x past there same

-- what is looked at next is an entry
pub next_within : (es : List TextEntry) (text : List ℕ) (next : Option ℕ) (place : ℕ) → Searches es text next → next ≡ Some place → place < length es
next_within es text next place s is =
    let at : Searches es text (Some place) = rw is at s in
    slice_get_within es place at.newest.1.entry at.newest.1.there

-- and what it leads on to is older
pub before_is_older : (es : List TextEntry) (f place : ℕ) (r : Option ℕ) → IsNewest es f place r → option_map_or (λ p. p + 1) r 0 < place + 1
before_is_older es f place None h = omega arith
before_is_older es f place (Some p) h = omega (arith, h.0)
