-- What was begun is the first state of a domain.
use Rattle.std.specs.Prelude.{Contains}
use Rattle.std.proofs.Common.{◌≡◌, ℕ, inl, inr, List, length, map, refl, sym, ◌∙◌, ap, Some, slice_get}
use Rattle.list_lemmas.proofs.ItemsOfLists.{Contains-none, Contains-at}
use Rattle.jk_model.specs.declared.identifiers.ClassId.{ClassId}
use Rattle.jk_model_classes.specs.declared.records.ClassRecord.{ClassRecord}
use Rattle.jk_model_classes.specs.Worlds.{NamedClass, IsNamed}
use Rattle.jk_model_domains.specs.OwnStates.{ClassPart, StaticField, HasPart, IsPartFor, IsLiteralOf, IsFirstState, IsOwnState, first_statics}
use Rattle.class_init.specs.KeptStates.{HasFirstRooms, HasRooms}
use Rattle.jk_model_domains.specs.declared.states.LiteralImage.{LiteralImage}
use Rattle.class_init.specs.Beginning.{IsNamedBefore, IsFirstPart, IsTextBefore, IsBegun, new_kept, new_state}
use Rattle.class_init.specs.TextsAdded.{AddsTexts, IsOfSome, HasText}
use Rattle.class_init.proofs.PlacesInLists.{stands_at}
use Rattle.std.proofs.lemmas.Option.{same_Some}

named_before : (table : List NamedClass) (c : ClassId) → IsNamed table c → IsNamedBefore table (length table) c
named_before table c (name, has) =
    let s = stands_at table (record { name = name; class = c }) has in
    record { place = s.place; low = s.low; entry = record { name = name; class = c }; there = s.there; means = refl }

is_named : (table : List NamedClass) (end : ℕ) (c : ClassId) → IsNamedBefore table end c → IsNamed table c
is_named table end c h =
    let of : IsNamed table h.entry.class = (h.entry.name, Contains-at table h.place (record { name = h.entry.name; class = h.entry.class }) h.there) in
    rw h.means at of

abbrev DifferentClasses : List ClassPart → Type 0
DifferentClasses parts = (i j : ℕ) (a b : ClassPart) → slice_get parts i ≡ Some a → slice_get parts j ≡ Some b → a.class ≡ b.class → i ≡ j

abbrev DifferentTexts : List (List ℕ) → Type 0
DifferentTexts texts = (i j : ℕ) (text : List ℕ) → slice_get texts i ≡ Some text → slice_get texts j ≡ Some text → i ≡ j

text_before : (classes : List ClassRecord) (table : List NamedClass) (text : List ℕ) → IsLiteralOf classes table text
    → IsTextBefore classes table (length table) text
text_before classes table text (c, r, named, is, leads) =
    record { class = c; of = r; has = record { named = named_before table c named; is = is }; leads = leads }

-- the parts that were begun
pub begun_state : (classes : List ClassRecord) (table : List NamedClass) (parts : List ClassPart) (texts : List (List ℕ))
    → IsBegun classes table (length table) parts texts → DifferentClasses parts → IsOwnState classes table (new_state parts)
begun_state classes table parts texts h differ = record {
  each = λ e has. part_for e (h.each e has);
  all = λ c r part. h.all c r (record { named = named_before table c part.0; is = part.1 }) part.2;
  classes_differ = differ;
  literals_differ = λ i j a b p q e. cc;
  standing = refl;
}
  where
    part_for : (e : ClassPart) → IsFirstPart classes table (length table) e → (r : ClassRecord) × HasPart classes table e.class r × IsPartFor r e
    part_for e f = (
      f.of,
      (is_named table (length table) e.class f.has.named, f.has.is, f.own),
      ap (λ (x : ClassPart). map (λ (s : StaticField). s.index) x.statics) f.begins,
    )

-- and room for their texts and maybe others
pub begun_rooms : (classes : List ClassRecord) (table : List NamedClass) (parts : List ClassPart) (texts more : List (List ℕ))
    → IsBegun classes table (length table) parts texts → ((text : List ℕ) → Contains texts text → Contains more text) → DifferentTexts more
    → HasRooms classes table (new_kept parts more)
begun_rooms classes table parts texts more h kept apart = record {
  texts = λ text is. kept text ((h.leads text).1 (text_before classes table text is));
  rooms_differ = apart;
  literals = λ l has. absurd (Contains-none l has);
}

pub first_rooms : (classes : List ClassRecord) (table : List NamedClass) (parts : List ClassPart) (texts : List (List ℕ))
    → IsBegun classes table (length table) parts texts → DifferentTexts texts → HasFirstRooms classes table (new_kept parts texts)
first_rooms classes table parts texts h apart = record {
  rooms = begun_rooms classes table parts texts texts h (λ text has. has) apart;
  no_others =
      λ text has.
      let t = (h.leads text).0 has in (t.class, t.of, is_named table (length table) t.class t.has.named, t.has.is, t.leads);
}

pub first_state : (classes : List ClassRecord) (table : List NamedClass) (parts : List ClassPart) (texts : List (List ℕ))
    → IsBegun classes table (length table) parts texts → DifferentClasses parts → IsFirstState classes table (new_state parts)
first_state classes table parts texts h differ = record {
  state = begun_state classes table parts texts h differ;
  untouched = λ e has. ap (λ (x : ClassPart). x.state) (h.each e has).begins;
  statics =
      λ e r has is.
      let f = h.each e has in
      let same : f.of ≡ r = same_Some f.of r (sym f.has.is ∙ is) in
      ap (λ (x : ClassPart). x.statics) f.begins ∙ ap first_statics same;
  no_literals = refl;
  out = refl;
  standing = refl;
}

-- the texts that were begun are there, and those of these images
pub images_known : (images : List LiteralImage) (texts more : List (List ℕ)) → AddsTexts (IsOfSome HasText images) texts more
    → (l : LiteralImage) → Contains images l → Contains more l.text
images_known images texts more h l has = (h.has l.text).1 (inr (l, has, refl))

pub texts_stay : (images : List LiteralImage) (texts more : List (List ℕ)) → AddsTexts (IsOfSome HasText images) texts more
    → (text : List ℕ) → Contains texts text → Contains more text
texts_stay images texts more h text has = (h.has text).1 (inl has)
