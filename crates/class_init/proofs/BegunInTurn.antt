-- One name after the other brings the part of its class, and its texts.
use Rattle.std.proofs.Common.{◌≡◌, ◌≢◌, ℕ, ◌+◌, ◌<◌, ◌≤◌, ◌⊎◌, inl, inr, List, [], ◌∷◌, ◌++◌, refl, sym, ◌∙◌, ap, subst, arith, Option, Some, None, slice_get}
use Rattle.std.specs.Prelude.{Contains}
use Rattle.std.specs.Option.{option_map}
use Rattle.std.proofs.lemmas.Bool.{cases_lt}
use Rattle.std.proofs.lemmas.List.Elements.{Contains-push, Contains-push_cases}
use Rattle.std.proofs.lemmas.Option.{slice_get-get_or, same_Some}
use Rattle.list_lemmas.proofs.ItemsByPlace.{slice_get-longer}
use Rattle.list_lemmas.proofs.ItemsOfLists.{Contains-none, Contains-at}
use Rattle.jk_model.specs.declared.identifiers.ClassId.{ClassId}
use Rattle.jk_model_classes.specs.declared.records.ClassRecord.{ClassRecord}
use Rattle.jk_model_classes.specs.Classes.{record_of}
use Rattle.jk_model_classes.specs.Worlds.{NamedClass, IsNamed}
use Rattle.jk_model_domains.specs.OwnStates.{ClassPart, IsTextOf}
use Rattle.class_init.specs.Parts.{part_in, HasPartOf, first_part}
use Rattle.class_init.specs.Beginning.{AddsPart, IsNamedBefore, HasRecordBefore, IsFirstPart, IsTextBefore, IsBegun}
use Rattle.class_init.specs.TextsAdded.{AddsTexts}
use Rattle.class_init.proofs.ByKey.{Found, found_stands, none_lacks}
use Rattle.class_init.proofs.PartOfAClass.{number}

-- ---- Names.

named_later : (table : List NamedClass) (i : ℕ) (c : ClassId) → IsNamedBefore table i c → IsNamedBefore table (i + 1) c
named_later table i c h = record { place = h.place; low = omega (arith, h.low); entry = h.entry; there = h.there; means = h.means }

record_later : (classes : List ClassRecord) (table : List NamedClass) (i : ℕ) (c : ClassId) (r : ClassRecord) → HasRecordBefore classes table i c r
    → HasRecordBefore classes table (i + 1) c r
record_later classes table i c r h = record { named = named_later table i c h.named; is = h.is }

first_later : (classes : List ClassRecord) (table : List NamedClass) (i : ℕ) (e : ClassPart) → IsFirstPart classes table i e
    → IsFirstPart classes table (i + 1) e
first_later classes table i e h = record { of = h.of; has = record_later classes table i e.class h.of h.has; own = h.own; begins = h.begins }

-- a class of one name more is an old one, or that of the last name
one_name_more : (table : List NamedClass) (i : ℕ) (e : NamedClass) (c : ClassId) → slice_get table i ≡ Some e → IsNamedBefore table (i + 1) c
    → IsNamedBefore table i c ⊎ (e.class ≡ c)
one_name_more table i e c at h = by_order (cases_lt h.place i)
  where
    by_order : (h.place < i) ⊎ (i ≤ h.place) → IsNamedBefore table i c ⊎ (e.class ≡ c)
    by_order (inl low) = inl (record { place = h.place; low = low; entry = h.entry; there = h.there; means = h.means })
    by_order (inr late) =
        let here : h.place ≡ i = omega (arith, h.low, late) in
        let same : e ≡ h.entry = same_Some e h.entry (sym at ∙ ap (slice_get table) (sym here) ∙ h.there) in
        inr (ap (λ (x : NamedClass). x.class) same ∙ h.means)

last_named : (table : List NamedClass) (i : ℕ) (e : NamedClass) → slice_get table i ≡ Some e → IsNamedBefore table (i + 1) e.class
last_named table i e at = record { place = i; low = omega arith; entry = e; there = at; means = refl }

-- ---- Parts.

pub begun_none : (classes : List ClassRecord) (table : List NamedClass) → IsBegun classes table 0 [] []
begun_none classes table = record {
  each = λ e has. absurd (Contains-none e has);
  all = λ c r h own. absurd (omega (arith, h.named.low));
  leads = λ text. (λ has. absurd (Contains-none text has), λ (h : IsTextBefore classes table 0 text). absurd (omega (arith, h.has.named.low)));
}

-- what is found stays found
find_more : (parts more : List ClassPart) (c : ClassId) → HasPartOf parts c → HasPartOf (parts ++ more) c
find_more parts more c (e, found) = by_find (part_in (parts ++ more) c) refl
  where
    f : Found number parts c.0 e
    f = found_stands number parts c.0 e found

    by_find : (r : Option ClassPart) → part_in (parts ++ more) c ≡ r → HasPartOf (parts ++ more) c
    by_find None none = absurd (none_lacks number (parts ++ more) c.0 none f.place e (slice_get-longer parts more f.place e f.there) f.is)
    by_find (Some x) some = (x, some)

-- an item of the class is found
pub item_found : (parts : List ClassPart) (k : ℕ) (x : ClassPart) (c : ClassId) → slice_get parts k ≡ Some x → x.class ≡ c → HasPartOf parts c
item_found parts k x c at same = by_find (part_in parts c) refl
  where
    by_find : (r : Option ClassPart) → part_in parts c ≡ r → HasPartOf parts c
    by_find None none = absurd (none_lacks number parts c.0 none k x at (ap (λ (y : ClassId). y.0) same))
    by_find (Some y) some = (y, some)

has_of : (parts new : List ClassPart) (c : ClassId) (r : ClassRecord) (d : ClassId) → AddsPart c r parts new → HasPartOf parts d → HasPartOf new d
has_of parts new c r d (inl (none, same)) h = rw same h
has_of parts new c r d (inr (inl (has, same))) h = rw same h
has_of parts new c r d (inr (inr (own, free, is))) h = rw is (find_more parts (first_part c r ∷ []) d h)

added_itself : (parts new : List ClassPart) (c : ClassId) (r : ClassRecord) → AddsPart c r parts new → r.home ≢ None → HasPartOf new c
added_itself parts new c r (inl (none, same)) own = absurd (own none)
added_itself parts new c r (inr (inl (has, same))) own = rw same has
added_itself parts new c r (inr (inr (other, free, is))) own =
    rw is (by_contains (Contains-push parts (first_part c r)))
  where
    by_contains : Contains (parts ++ first_part c r ∷ []) (first_part c r) → HasPartOf (parts ++ first_part c r ∷ []) c
    by_contains (k, low, at) =
        item_found (parts ++ first_part c r ∷ []) k (first_part c r) c
        (slice_get-get_or (parts ++ first_part c r ∷ []) k (first_part c r) low ∙ ap Some at) refl

-- a part is an old one, or that which was added
part_cases : (parts new : List ClassPart) (c : ClassId) (r : ClassRecord) (e : ClassPart) → AddsPart c r parts new → Contains new e
    → Contains parts e ⊎ ((r.home ≢ None) × (first_part c r ≡ e))
part_cases parts new c r e (inl (none, same)) has = inl (rw same at has)
part_cases parts new c r e (inr (inl (there, same))) has = inl (rw same at has)
part_cases parts new c r e (inr (inr (own, free, is))) has = by_place (Contains-push_cases parts (first_part c r) e (rw is at has))
  where
    by_place : Contains parts e ⊎ (first_part c r ≡ e) → Contains parts e ⊎ ((r.home ≢ None) × (first_part c r ≡ e))
    by_place (inl x) = inl x
    by_place (inr x) = inr (own, x)

pub begun_more : (classes : List ClassRecord) (table : List NamedClass) (i : ℕ) (parts new : List ClassPart) (texts texts' : List (List ℕ)) (n : NamedClass)
    (r : ClassRecord) → IsBegun classes table i parts texts → slice_get table i ≡ Some n → record_of classes n.class ≡ Some r → AddsPart n.class r parts new
    → AddsTexts (IsTextOf r) texts texts' → IsBegun classes table (i + 1) new texts'
begun_more classes table i parts new texts texts' n r h at is adds leads = record {
  each = λ e has. by_part e (part_cases parts new n.class r e adds has);
  all = λ c x before own. by_name c x before own (one_name_more table i n c at before.named);
  leads = λ text. (there text, back text);
}
  where
    last : HasRecordBefore classes table (i + 1) n.class r
    last = record { named = last_named table i n at; is = is }

    by_part : (e : ClassPart) → Contains parts e ⊎ ((r.home ≢ None) × (first_part n.class r ≡ e)) → IsFirstPart classes table (i + 1) e
    by_part e (inl has) = first_later classes table i e (h.each e has)
    by_part e (inr (own, same)) = rw (← same) (record { of = r; has = last; own = own; begins = refl })

    by_name : (c : ClassId) (x : ClassRecord) → HasRecordBefore classes table (i + 1) c x → x.home ≢ None
        → IsNamedBefore table i c ⊎ (n.class ≡ c) → HasPartOf new c
    by_name c x before own (inl old) = has_of parts new n.class r c adds (h.all c x (record { named = old; is = before.is }) own)
    by_name c x before own (inr same) =
        let record_is : r ≡ x = same_Some r x (sym is ∙ ap (record_of classes) same ∙ before.is) in
        let mine : r.home ≢ None = λ e. own (ap (λ (y : ClassRecord). y.home) (sym record_is) ∙ e) in
        rw (← same) (added_itself parts new n.class r adds mine)

    there : (text : List ℕ) → Contains texts' text → IsTextBefore classes table (i + 1) text
    there text has = by_side ((leads.has text).0 has)
      where
        by_side : Contains texts text ⊎ IsTextOf r text → IsTextBefore classes table (i + 1) text
        by_side (inl x) =
            let t = (h.leads text).0 x in record { class = t.class; of = t.of; has = record_later classes table i t.class t.of t.has; leads = t.leads }
        by_side (inr x) = record { class = n.class; of = r; has = last; leads = x }

    back : (text : List ℕ) → IsTextBefore classes table (i + 1) text → Contains texts' text
    back text t = by_name_of (one_name_more table i n t.class at t.has.named)
      where
        by_name_of : IsNamedBefore table i t.class ⊎ (n.class ≡ t.class) → Contains texts' text
        by_name_of (inl old) =
            (leads.has text).1 (inl ((h.leads text).1 (record { class = t.class; of = t.of; has = record { named = old; is = t.has.is }; leads = t.leads })))
        by_name_of (inr same) =
            let record_is : t.of ≡ r = same_Some t.of r (sym t.has.is ∙ ap (record_of classes) (sym same) ∙ is) in
            (leads.has text).1 (inr (subst (λ (x : ClassRecord). IsTextOf x text) record_is t.leads))

-- ---- The name at a place.

pub record NameAt (table : List NamedClass) (i : ℕ) (c : ClassId) : Type 0 where
  pub entry : NamedClass
  pub there : slice_get table i ≡ Some entry
  pub means : entry.class ≡ c

pub name_at : (table : List NamedClass) (i : ℕ) (c : ClassId) → Some c ≡ option_map (λ (e : NamedClass). e.class) (slice_get table i) → NameAt table i c
name_at table i c told = by_place (slice_get table i) refl told
  where
    by_place : (r : Option NamedClass) → slice_get table i ≡ r → Some c ≡ option_map (λ (e : NamedClass). e.class) r → NameAt table i c
    by_place None at e = cc
    by_place (Some x) at e = record { entry = x; there = at; means = sym (same_Some c x.class e) }

pub name_is_named : (table : List NamedClass) (i : ℕ) (e : NamedClass) → slice_get table i ≡ Some e → IsNamed table e.class
name_is_named table i e at = (e.name, Contains-at table i (record { name = e.name; class = e.class }) at)
