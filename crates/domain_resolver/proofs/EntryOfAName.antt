-- What a table says of a name is what its entries with that name say, of which there is one at most.
use Rattle.std.proofs.Common.{◌≡◌, ℕ, ◌+◌, ◌<◌, ◌≤◌, ◌⊎◌, inl, inr, Bool, true≢false, List, length, map, refl, sym, ◌∙◌, ap, arith, Option, Some, None, slice_get, find}
use Rattle.std.specs.Option.{MatchOption, option_map, option_map_or}
use Rattle.std.specs.Str.{bytes_eq}
use Rattle.std.proofs.lemmas.Bool.{cases_lt}
use Rattle.std.proofs.lemmas.Slice.Eq.{bytes_eq-Decides}
use Rattle.std.proofs.lemmas.Option.{slice_get_within, same_Some}
use Rattle.list_lemmas.proofs.ItemsByPlace.{comes_from, mapped_at}
use Rattle.list_lemmas.proofs.FoundItems.{finds, Finds}
use Rattle.jk_model.specs.declared.identifiers.ClassId.{ClassId}
use Rattle.shared_values.specs.Fingerprints.{fingerprint_of}
use Rattle.jk_model_classes.specs.Worlds.{NamedClass, class_named}
use Rattle.domain_resolver.specs.declared.name_table.NameEntry.{NameEntry}
use Rattle.domain_resolver.specs.NameIndex.{named_class, IsNewest, HasFingerprint, AreChained, HasName, LacksName}

abbrev pub NamesDiffer : List NameEntry → Type 0
NamesDiffer es = (i j : ℕ) (a b : NameEntry) → slice_get es i ≡ Some a → slice_get es j ≡ Some b → a.name ≡ b.name → i ≡ j

-- the names of a table differ, as contracts see it
pub names_of_table_differ : (es : List NameEntry) → NamesDiffer es → (i j : ℕ) (a b : NamedClass) → slice_get (map named_class es) i ≡ Some a
    → slice_get (map named_class es) j ≡ Some b → a.name ≡ b.name → i ≡ j
names_of_table_differ es h i j a b p q e =
    let x = comes_from named_class es i a p in
    let y = comes_from named_class es j b q in
    h i j x.from y.from x.there y.there (ap (λ (n : NamedClass). n.name) x.gives ∙ e ∙ sym (ap (λ (n : NamedClass). n.name) y.gives))

abbrev has_name : List ℕ → NamedClass → Bool
has_name name e = bytes_eq e.name name

-- a name that no entry has means nothing
pub means_nothing : (es : List NameEntry) (name : List ℕ) → LacksName es name → class_named (map named_class es) name ≡ None
means_nothing es name lacks = by_find (find (has_name name) (map named_class es)) refl (finds (has_name name) (map named_class es))
  where
    by_find : (r : Option NamedClass) → find (has_name name) (map named_class es) ≡ r
        → Finds (has_name name) (map named_class es) (find (has_name name) (map named_class es))
        → class_named (map named_class es) name ≡ None
    by_find None e h = ap (option_map (λ (n : NamedClass). n.class)) e
    by_find (Some n) e h =
        let g : Finds (has_name name) (map named_class es) (Some n) = rw e at h in
        let x = comes_from named_class es g.0 n g.1 in
        let same : n.name ≡ name = (bytes_eq-Decides n.name name).0 g.2 in
        absurd (lacks g.0 x.from x.there (ap (λ (m : NamedClass). m.name) x.gives ∙ same))

-- a name that an entry has means its class
pub means_class : (es : List NameEntry) (name : List ℕ) (class : ClassId) → NamesDiffer es → HasName es name class
    → class_named (map named_class es) name ≡ Some class
means_class es name class differ has = by_find (find (has_name name) (map named_class es)) refl (finds (has_name name) (map named_class es))
  where
    by_find : (r : Option NamedClass) → find (has_name name) (map named_class es) ≡ r
        → Finds (has_name name) (map named_class es) (find (has_name name) (map named_class es))
        → class_named (map named_class es) name ≡ Some class
    by_find None e h =
        let g : Finds (has_name name) (map named_class es) None = rw e at h in
        let fails = g has.place (named_class has.entry) (mapped_at named_class es has.place has.entry has.there) in
        absurd (true≢false (sym ((bytes_eq-Decides has.entry.name name).1 has.named) ∙ fails))
    by_find (Some n) e h =
        let g : Finds (has_name name) (map named_class es) (Some n) = rw e at h in
        let x = comes_from named_class es g.0 n g.1 in
        let same : n.name ≡ name = (bytes_eq-Decides n.name name).0 g.2 in
        let here : g.0 ≡ has.place = differ g.0 has.place x.from has.entry x.there has.there (ap (λ (m : NamedClass). m.name) x.gives ∙ same ∙ sym has.named) in
        let entry : x.from ≡ has.entry = same_Some x.from has.entry (sym x.there ∙ ap (slice_get es) here ∙ has.there) in
        let class_of : x.from.class ≡ class = ap (λ (m : NameEntry). m.class) entry ∙ has.classed in
        ap (option_map (λ (m : NamedClass). m.class)) e ∙ ap (λ (m : NamedClass). Some m.class) (sym x.gives) ∙ ap Some class_of

-- what is known of a name from the entries says what it means
pub meaning : (es : List NameEntry) (name : List ℕ) (r : Option ClassId) → NamesDiffer es
    → MatchOption r (LacksName es name) (λ class. HasName es name class) → r ≡ class_named (map named_class es) name
meaning es name None differ h = sym (means_nothing es name h)
meaning es name (Some class) differ h = sym (means_class es name class differ h)

-- and the other way round
pub lacks_from_none : (es : List NameEntry) (name : List ℕ) → class_named (map named_class es) name ≡ None → LacksName es name
lacks_from_none es name none k e at same =
    by_find (find (has_name name) (map named_class es)) refl (finds (has_name name) (map named_class es))
  where
    by_find : (r : Option NamedClass) → find (has_name name) (map named_class es) ≡ r
        → Finds (has_name name) (map named_class es) (find (has_name name) (map named_class es)) → ⊥
    by_find None f h =
        let g : Finds (has_name name) (map named_class es) None = rw f at h in
        let fails = g k (named_class e) (mapped_at named_class es k e at) in
        true≢false (sym ((bytes_eq-Decides e.name name).1 same) ∙ fails)
    by_find (Some n) f h =
        let some : Some n.class ≡ None = sym (ap (option_map (λ (m : NamedClass). m.class)) f) ∙ none in cc

-- ---- The search from the newest entry on.

-- the entries from a place on don't have the name, and before it the newest with its fingerprint stands here
pub record Searches (es : List NameEntry) (name : List ℕ) (next : Option ℕ) : Type 0 where
  pub end : ℕ
  pub newest : IsNewest es (fingerprint_of name) end next
  pub past : (k : ℕ) (e : NameEntry) → end ≤ k → slice_get es k ≡ Some e → e.name ≡ name → ⊥

pub search_begins : (es : List NameEntry) (name : List ℕ) (next : Option ℕ) → IsNewest es (fingerprint_of name) (length es) next → Searches es name next
search_begins es name next h = record {
  end = length es;
  newest = h;
  past = λ k e late at same. absurd (omega (arith, slice_get_within es k e at, late));
}

has_print : (es : List NameEntry) (name : List ℕ) (k : ℕ) (e : NameEntry) → slice_get es k ≡ Some e → e.name ≡ name → HasFingerprint es (fingerprint_of name) k
has_print es name k e at same = record { entry = e; there = at; is = ap fingerprint_of same }

-- where no entry is left, none has the name
pub search_ends : (es : List NameEntry) (name : List ℕ) → Searches es name None → LacksName es name
search_ends es name s k e at same = by_order (cases_lt k s.end)
  where
    by_order : (k < s.end) ⊎ (s.end ≤ k) → ⊥
    by_order (inl early) = s.newest k early (has_print es name k e at same)
    by_order (inr late) = s.past k e late at same

-- an entry with another name leads on
pub search_goes_on : (es : List NameEntry) (name : List ℕ) (place : ℕ) (e : NameEntry) → AreChained es → Searches es name (Some place)
    → slice_get es place ≡ Some e → (e.name ≡ name → ⊥) → Searches es name e.before
search_goes_on es name place e chained s at other = record {
  end = place;
  newest =
      let found = s.newest.1 in
      let entry : found.entry ≡ e = same_Some found.entry e (sym found.there ∙ at) in
      let print : fingerprint_of e.name ≡ fingerprint_of name = ap (λ (x : NameEntry). fingerprint_of x.name) (sym entry) ∙ found.is in
      rw print at (chained place e at);
  past = λ k x late there same. by_order k x there same (cases_lt place k) late;
}
  where
    by_order : (k : ℕ) (x : NameEntry) → slice_get es k ≡ Some x → x.name ≡ name → (place < k) ⊎ (k ≤ place) → place ≤ k → ⊥
    by_order k x there same (inr low) late =
        let here : k ≡ place = omega arith in
        let entry : x ≡ e = same_Some x e (sym there ∙ ap (slice_get es) here ∙ at) in
        other (ap (λ (y : NameEntry). y.name) (sym entry) ∙ same)
    by_order k x there same (inl after) late = by_end (cases_lt k s.end)
      where
        by_end : (k < s.end) ⊎ (s.end ≤ k) → ⊥
        by_end (inl early) = s.newest.2 k after early (has_print es name k x there same)
        by_end (inr past) = s.past k x past there same

-- what is looked at next is an entry
pub next_within : (es : List NameEntry) (name : List ℕ) (next : Option ℕ) (place : ℕ) → Searches es name next → next ≡ Some place → place < length es
next_within es name next place s is =
    let at : Searches es name (Some place) = rw is at s in
    slice_get_within es place at.newest.1.entry at.newest.1.there

-- and what it leads on to is older
pub before_is_older : (es : List NameEntry) (f place : ℕ) (r : Option ℕ) → IsNewest es f place r → option_map_or (λ p. p + 1) r 0 < place + 1
before_is_older es f place None h = omega arith
before_is_older es f place (Some p) h = omega (arith, h.0)
