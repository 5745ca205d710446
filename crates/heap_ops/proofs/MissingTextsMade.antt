-- The constant texts of the first fields of a class have their objects, and then that of one field more. All of them fit together.
use Rattle.std.proofs.Common.{append-nil, append_assoc, inl, inr, ◌≡◌, ℕ, ◌+◌, ◌-◌, ◌<◌, ◌≤◌, List, [], ◌∷◌, ◌++◌, length, map, Contains, Option, Some, None, slice_get, refl, sym, ap, subst, ◌∙◌, arith}
use Rattle.std.specs.Prelude.{IsSome, sum_by}
use Rattle.std.specs.Option.{is_some, option_map_or}
use Rattle.std.proofs.lemmas.List.{map-append}
use Rattle.std.proofs.lemmas.List.Sums.{sum_by-append, sum_by-cons, sum_by_push}
use Rattle.list_lemmas.proofs.ItemsByPlace.{slice_get-behind, slice_get-longer}
use Rattle.list_lemmas.proofs.ItemsOfLists.{place_of, stands_at}
use Rattle.jk_model.specs.declared.identifiers.DomainId.{DomainId}
use Rattle.jk_model_classes.specs.declared.records.ClassRecord.{ClassRecord}
use Rattle.jk_model_classes.specs.declared.records.FieldRecord.{FieldRecord}
use Rattle.jk_model_domains.specs.Objects.{NamedObject, Object, Text, object_named, object_words}
use Rattle.jk_model_domains.specs.OwnStates.{Literal, OwnState, literal_named}
use Rattle.jk_model_heaps.specs.Heaps.{Makes, heap_words, named}
use Rattle.jk_model_heap_rows.specs.Constants.{new_texts, text_object}
use Rattle.class_init.specs.KeptStates.{KeptState}
use Rattle.class_init.specs.MissingTexts.{HasTextConstant, IsMissing, text_words}
use Rattle.object_store.specs.HeapContents.{HeapContent, IsAdmitted, IsHeapContent, IsSame, MakesObject, words_left}
use Rattle.heap_laws.proofs.ObjectsAfterChanges.{costs_together, found_stands}
use Rattle.heap_ops.specs.ConstantTexts.{MakesTexts, TextsCall, with_literals}
use Rattle.heap_ops.specs.LiteralObjects.{HasObject, LacksObject, LiteralCall, with_text}
use Rattle.heap_ops.proofs.InstructionDone.{is_same}
use Rattle.heap_ops.proofs.TextsInTurn.{had_text, is_constant, is_new, longer, new_text, no_text, none_before, of_fields, says, static_said}

-- what the objects of literals cost
pub made_words : (classes : List ClassRecord) (more : List Literal)
    → heap_words classes (map text_object more) ≡ sum_by text_words (map (λ (l : Literal). l.text) more)
made_words classes [] = refl
made_words classes (l ∷ more) =
    sum_by-cons (λ (e : NamedObject). object_words classes e.object) (text_object l) (map text_object more)
    ∙ ap (λ (n : ℕ). text_words l.text + n) (made_words classes more)
    ∙ sym (sum_by-cons text_words l.text (map (λ (k : Literal). k.text) more))

-- ---- Words that are left where some are used.

left_after : (u a n : ℕ) (q : Option ℕ) → a + n ≤ option_map_or (λ (m : ℕ). m - u) q 0 → 0 < n → n ≤ option_map_or (λ (m : ℕ). m - (u + a)) q 0
left_after u a n None fits some = omega arith
left_after u a n (Some m) fits some = omega arith

module _ (classes : List ClassRecord) (d : DomainId) (heaps : HeapContent) (own : KeptState) where
  abbrev pub call_to : HeapContent → KeptState → TextsCall
  call_to new_heaps new_own = record { heaps = heaps; new_heaps = new_heaps; own = own; new_own = new_own; domain = d }

  abbrev pub Made : HeapContent → KeptState → List (List ℕ) → Type 0
  Made new_heaps new_own texts = MakesTexts (call_to new_heaps new_own) classes texts

  pub none_made : Made heaps own []
  none_made = record {
    more = [];
    are = refl;
    becomes = record {
      domains = (is_same heaps).domains;
      becomes = sym (append-nil (heaps.heap d));
      others = λ e differ. refl;
      uses = omega arith;
      other_uses = λ e differ. refl;
      mark = λ e a. refl;
    };
    kept =
        ap (λ (ls : List Literal). let state : OwnState = record own.state { literals = ls } in let k : KeptState = record own { state = state } in k)
        (sym (append-nil own.state.literals));
  }

  module _ (now : HeapContent) (own_now : KeptState) (texts : List (List ℕ)) (so_far : Made now own_now texts) where
    -- the domain is admitted still, and texts have the rooms that they had
    pub admitted_still : IsAdmitted heaps d → IsAdmitted now d
    admitted_still is = ap (λ (q : Option ℕ). is_some q) (so_far.becomes.domains.quota d) ∙ is

    pub known_still : (t : List ℕ) → Contains own.rooms t → Contains own_now.rooms t
    known_still t has = subst (λ (k : KeptState). Contains k.rooms t) (sym so_far.kept) has

    -- nothing is made
    stays : (then : HeapContent) (own_then : KeptState) → IsSame now then → own_then ≡ own_now → Made then own_then texts
    stays then own_then same kept =
        let before = so_far.becomes in
        record {
          more = so_far.more;
          are = so_far.are;
          becomes = record {
            domains = record {
              pages = same.domains.pages ∙ before.domains.pages;
              took_all = same.domains.took_all ∙ before.domains.took_all;
              quota = λ e. same.domains.quota e ∙ before.domains.quota e;
              first_page = λ e. same.domains.first_page e ∙ before.domains.first_page e;
            };
            becomes = same.heap d ∙ before.becomes;
            others = λ e differ. same.heap e ∙ before.others e differ;
            uses = same.used d ∙ before.uses;
            other_uses = λ e differ. same.used e ∙ before.other_uses e differ;
            mark = λ e a. same.mark e a ∙ before.mark e a;
          };
          kept = kept ∙ so_far.kept;
        }

    -- one object more is made
    grows : (then : HeapContent) (own_then : KeptState) (t : List ℕ) (a : ℕ) → MakesObject now then classes d a (Text t)
        → own_then ≡ with_text own_now t a → Made then own_then (texts ++ t ∷ [])
    grows then own_then t a makes kept =
        let l : Literal = record { text = t; name = a } in
        let before = so_far.becomes in
        let after = makes.becomes in
        let more : List Literal = so_far.more ++ l ∷ [] in
        let objects : map text_object more ≡ map text_object so_far.more ++ named a (Text t) ∷ [] = map-append text_object so_far.more (l ∷ []) in
        let words : heap_words classes (map text_object more)
        ≡ heap_words classes (map text_object so_far.more) + heap_words classes (named a (Text t) ∷ []) =
        ap (heap_words classes) objects ∙ costs_together classes (map text_object so_far.more) (named a (Text t) ∷ []) in
        let one : heap_words classes (named a (Text t) ∷ []) ≡ object_words classes (Text t) = omega arith in
        record {
          more = more;
          are = map-append (λ (k : Literal). k.text) so_far.more (l ∷ []) ∙ ap (λ (ts : List (List ℕ)). ts ++ t ∷ []) so_far.are;
          becomes = record {
            domains = record {
              pages = after.domains.pages ∙ before.domains.pages;
              took_all = after.domains.took_all ∙ before.domains.took_all;
              quota = λ e. after.domains.quota e ∙ before.domains.quota e;
              first_page = λ e. after.domains.first_page e ∙ before.domains.first_page e;
            };
            becomes =
                after.becomes ∙ ap (λ (xs : List NamedObject). xs ++ named a (Text t) ∷ []) before.becomes
                ∙ append_assoc (heaps.heap d) (map text_object so_far.more) (named a (Text t) ∷ [])
                ∙ ap (λ (xs : List NamedObject). heaps.heap d ++ xs) (sym objects);
            others = λ e differ. after.others e differ ∙ before.others e differ;
            uses = let first = after.uses in let second = before.uses in omega (arith, first, second, words, one);
            other_uses = λ e differ. after.other_uses e differ ∙ before.other_uses e differ;
            mark = λ e b. after.mark e b ∙ before.mark e b;
          };
          kept =
              kept ∙ ap (λ (k : KeptState). with_text k t a) so_far.kept
              ∙ ap (λ (ls : List Literal). let state : OwnState = record own.state { literals = ls } in
              let k : KeptState = record own { state = state } in k)
              (append_assoc own.state.literals so_far.more (l ∷ []));
        }

  -- ---- The constant of one field more.

  module _ (r : ClassRecord) (fs : List FieldRecord) (f : FieldRecord) (now : HeapContent) (own_now : KeptState)
      (so_far : Made now own_now (new_texts own.state (of_fields r fs))) where
    abbrev more_texts : List (List ℕ)
    more_texts = new_texts own.state (of_fields r (fs ++ f ∷ []))

    says_none : ((t : List ℕ) → HasTextConstant f t → ⊥) → (o : Option (List ℕ)) → static_said f ≡ o → static_said f ≡ None
    says_none none None e = e
    says_none none (Some t) e = absurd (none t (is_constant f t e))

    -- it is no text, or the field isn't static
    pub without_text : ((t : List ℕ) → HasTextConstant f t → ⊥) → Made now own_now more_texts
    without_text none =
        subst (Made now own_now) (sym (no_text own.state r fs f (says_none none (static_said f) refl))) so_far

    module _ (t : List ℕ) (is : HasTextConstant f t) where
      in_state : (o : Option ℕ) → literal_named own_now.state t ≡ o
          → (let k = with_literals own so_far.more in literal_named k.state t ≡ o)
      in_state o e = ap (λ (k : KeptState). literal_named k.state t) (sym so_far.kept) ∙ e

      -- it is a text, which has this object then
      pub with_object : (then : HeapContent) (own_then : KeptState) (a : ℕ)
          → (let x : LiteralCall = record { heaps = now; new_heaps = then; own = own_now; new_own = own_then; domain = d; text = t } in
          HasObject x classes a)
          → Made then own_then more_texts
      with_object then own_then a (inl (named, same, kept)) =
          subst (Made then own_then) (sym (had_text own.state r fs f t (says f t is) so_far.more so_far.are a (in_state (Some a) named)))
          (stays now own_now (new_texts own.state (of_fields r fs)) so_far then own_then same kept)
      with_object then own_then a (inr (none, makes, low, kept)) =
          subst (Made then own_then) (sym (new_text own.state r fs f t (says f t is) so_far.more so_far.are (in_state None none)))
          (grows now own_now (new_texts own.state (of_fields r fs)) so_far then own_then t a makes kept)

      -- and it can't lack room
      pub has_room : (then : HeapContent) (own_then : KeptState) (gs : List FieldRecord) → r.fields ≡ (fs ++ f ∷ []) ++ gs
          → sum_by text_words (new_texts own.state r) ≤ words_left heaps d
          → (let x : LiteralCall = record { heaps = now; new_heaps = then; own = own_now; new_own = own_then; domain = d; text = t } in LacksObject x)
          → ⊥
      has_room then own_then gs all fits (none, same, kept, low) =
          let texts = new_texts own.state (of_fields r fs) in
          let rest = longer own.state r (fs ++ f ∷ []) gs in
          let whole : new_texts own.state r ≡ (texts ++ t ∷ []) ++ rest.0 =
          ap (λ (xs : List FieldRecord). new_texts own.state (of_fields r xs)) all ∙ rest.1
          ∙ ap (λ (ts : List (List ℕ)). ts ++ rest.0) (new_text own.state r fs f t (says f t is) so_far.more so_far.are (in_state None none)) in
          let sum : sum_by text_words (new_texts own.state r) ≡ sum_by text_words (texts ++ t ∷ []) + sum_by text_words rest.0 =
          ap (sum_by text_words) whole ∙ sum_by-append text_words (texts ++ t ∷ []) rest.0 in
          let first : sum_by text_words (texts ++ t ∷ []) ≡ sum_by text_words texts + (4 + length t) = sum_by_push text_words texts t in
          let made : ℕ = heap_words classes (map text_object so_far.more) in
          let cost : made ≡ sum_by text_words texts = made_words classes so_far.more ∙ ap (sum_by text_words) so_far.are in
          let fit : made + (4 + length t) ≤ words_left heaps d = omega (arith, fits, sum, first, cost) in
          let some : 0 < 4 + length t = omega arith in
          let left : 4 + length t ≤ option_map_or (λ (m : ℕ). m - (heaps.used d + made)) (heaps.quota d) 0 =
          left_after (heaps.used d) made (4 + length t) (heaps.quota d) fit some in
          let is_left : words_left now d ≡ option_map_or (λ (m : ℕ). m - (heaps.used d + made)) (heaps.quota d) 0 =
          ap (λ (q : Option ℕ). option_map_or (λ (m : ℕ). m - now.used d) q 0) (so_far.becomes.domains.quota d)
          ∙ ap (λ (u : ℕ). option_map_or (λ (m : ℕ). m - u) (heaps.quota d) 0) so_far.becomes.uses in
          omega (arith, low, left, is_left)

-- ---- In the end.

module _ (x : TextsCall) (classes : List ClassRecord) (r : ClassRecord) (made : MakesTexts x classes (new_texts x.own.state r)) where
  named_by : (f : FieldRecord) (t : List ℕ) → Contains r.fields f → HasTextConstant f t
      → (o : Option ℕ) → (let k = with_literals x.own made.more in literal_named k.state t ≡ o) → IsSome o
  named_by f t has is (Some a) e = refl
  named_by f t has is None e =
      let before = none_before x.own.state.literals made.more t e in
      let missing : IsMissing x.own.state r.fields t = record { field = f; among = has; has = is; no_object = before.0 } in
      absurd (before.1 (subst (λ (ts : List (List ℕ)). Contains ts t) (sym made.are) (is_new x.own.state r t missing)))

  -- each constant text has an object
  pub all_named : (f : FieldRecord) (t : List ℕ) → Contains r.fields f → HasTextConstant f t → IsSome (literal_named x.new_own.state t)
  all_named f t has is =
      subst (λ (k : KeptState). IsSome (literal_named k.state t)) (sym made.kept)
      (named_by f t has is (let k = with_literals x.own made.more in literal_named k.state t) refl)

  -- names of the store's objects differ, so these were free, and differ from one another
  module _ (holds : IsHeapContent x.new_heaps) where
    abbrev before : List NamedObject
    before = x.heaps.heap x.domain

    abbrev objects : List NamedObject
    objects = map text_object made.more

    apart : (i j : ℕ) (a b : NamedObject) → slice_get (before ++ objects) i ≡ Some a → slice_get (before ++ objects) j ≡ Some b → a.name ≡ b.name
        → i ≡ j
    apart = subst (λ (heap : List NamedObject). (i j : ℕ) (a b : NamedObject) → slice_get heap i ≡ Some a → slice_get heap j ≡ Some b
        → a.name ≡ b.name → i ≡ j)
        made.becomes.becomes (holds.differ x.domain)

    made_at : (i : ℕ) (a : NamedObject) → slice_get objects i ≡ Some a → slice_get (before ++ objects) (length before + i) ≡ Some a
    made_at i a at = slice_get-behind before objects i ∙ at

    differ : (i j : ℕ) (a b : NamedObject) → slice_get objects i ≡ Some a → slice_get objects j ≡ Some b → a.name ≡ b.name → i ≡ j
    differ i j a b first second same =
        let one : length before + i ≡ length before + j = apart (length before + i) (length before + j) a b (made_at i a first) (made_at j b second) same in
        omega (arith, one)

    fresh_by : (e : NamedObject) → Contains objects e → (o : Option Object) → object_named before e.name ≡ o → object_named before e.name ≡ None
    fresh_by e has None is = is
    fresh_by e has (Some object) is =
        let at = place_of objects e has in
        let old = stands_at before (named e.name object) (found_stands e.name object before is) in
        let one : old.0 ≡ length before + at.0 = apart old.0 (length before + at.0) (named e.name object) e
        (slice_get-longer before objects old.0 (named e.name object) old.2) (made_at at.0 e at.1) refl in
        absurd (omega (arith, one, old.1))

    pub all_made : (quota : ℕ) → heap_words classes before + sum_by text_words (new_texts x.own.state r) ≤ quota
        → Makes classes quota before objects (before ++ objects)
    all_made quota fits =
        let cost : heap_words classes objects ≡ sum_by text_words (new_texts x.own.state r) =
        made_words classes made.more ∙ ap (sum_by text_words) made.are in
        record {
          fresh = λ e has. fresh_by e has (object_named before e.name) refl;
          differ = differ;
          fits = omega (arith, fits, cost);
          grown = refl;
        }
