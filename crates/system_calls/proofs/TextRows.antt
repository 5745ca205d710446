-- Rows of methods of texts: what is found in the store is what they answer, and the new texts are theirs.
use Rattle.std.proofs.Common.{◌≡◌, ◌≢◌, ◌⊎◌, ℕ, ◌+◌, ◌-◌, ◌<◌, ◌≤◌, ◌&&◌, Bool, true, false, cond, ℤ, pos, negsuc, List, [], ◌∷◌, ◌++◌, length, take, drop, replicate, Option, Some, None, MatchOption, nat_le, nat_eq, bytes_eq, to_z, w32, refl, sym, ap, ◌∙◌, subst, inl, inr, arith}
use Rattle.std.specs.Option.{option_map_or}
use Rattle.std.proofs.Math.ListN.{drop_of_length-le}
use Rattle.std.proofs.lemmas.Bool.{ne_eqb}
use Rattle.std.proofs.lemmas.Bool.Decides.{leb_tells}
use Rattle.std.proofs.lemmas.Int.{to_z_pos}
use Rattle.std.proofs.lemmas.List.{append-nil, length-drop, length-replicate, length-take-le}
use Rattle.jk_model.specs.declared.identifiers.DomainId.{DomainId}
use Rattle.jk_model.specs.declared.values.Value.{Value}
use Rattle.jk_model.specs.declared.values.Value.TheVariants as Held
use Rattle.jk_model_classes.specs.declared.records.ClassRecord.{ClassRecord}
use Rattle.jk_model_domains.specs.Objects.{NamedObject, Object, Array, Plain, Task, Text, object_named, object_words}
use Rattle.jk_model_heaps.specs.declared.shapes.Shape.TheVariants as Of
use Rattle.jk_model_heaps.specs.Heaps.{shape_of}
use Rattle.jk_model_heaps.specs.SystemClasses.{STRING_INDEX_EXCEPTION}
use Rattle.jk_model_heaps.specs.Workings.{Inside}
use Rattle.jk_model_system_rows.specs.declared.meanings.Shown.{Shown}
use Rattle.jk_model_system_rows.specs.declared.meanings.SystemMeaning.TheVariants as Means
use Rattle.jk_model_system_rows.specs.Answers.{Answers, AnswersNew, fails_by, fails_for_memory, gives_int, gives_value, with_answer}
use Rattle.jk_model_system_rows.specs.Texts.{IsText, ReadsAs, is_equal_text, substring}
use Rattle.object_store.specs.HeapContents.{HeapContent, IsHeapContent, IsLive, IsSame, MakesObject, WritesObject, words_left}
use Rattle.object_store.proofs.ObjectsWritten.{live_made, made_with}
use Rattle.heap_loops.specs.TextChanges.{CopiesUnits, HasUnits, with_units}
use Rattle.system_calls.specs.DoneRows.{Does, Finds, IsReady}
use Rattle.row_laws.specs.GivenValues.{IsTextOrNull}
use Rattle.system_calls.proofs.RowsOfNewObjects.{answers_lack, answers_new, counted_after, counted_still, done_still}
use Rattle.system_calls.proofs.TextsJoined.{still_live}
use Rattle.system_calls.proofs.UnitsRead.{unequal}

pub same_self : (c : HeapContent) → IsSame c c
same_self c = record {
  domains = record { pages = refl; took_all = refl; quota = λ d. refl; first_page = λ d. refl };
  used = λ d. refl;
  heap = λ d. refl;
  mark = λ d a. refl;
}

pub live_inside : (heap : List NamedObject) (inside : Inside) (a : ℕ) (o : Object) → inside.heap ≡ heap → object_named heap a ≡ Some o
    → object_named inside.heap a ≡ Some o
live_inside heap inside a o is live = ap (λ (h : List NamedObject). object_named h a) is ∙ live

-- ---- What is found.

pub length_is_told : (c : HeapContent) (d : DomainId) (a n : ℕ) (units : List ℕ) → IsLive c d a (Text units) → n ≡ length units → n ≤ 16777216
    → Finds c d Means.TextLength (Held.Obj a ∷ []) (gives_int (to_z w32 n))
length_is_told c d a n units live is few = λ x inside same. (
  units,
  live_inside (c.heap d) inside a (Text units) same live,
  ap (λ (z : ℤ). with_answer inside (gives_int z)) (to_z_pos w32 n (omega (arith, few)) ∙ ap pos is),
)

-- ---- Equal texts.

abbrev like : List ℕ → Object → Bool
like units (Text others) = bytes_eq units others
like units object = false

pub shown_text : (o : Object) (n : ℕ) → Of.Text n ≡ shape_of o → (units : List ℕ) × (o ≡ Text units) × (n ≡ length units)
shown_text (Plain c fields) n is = absurd cc
shown_text (Array t items) n is = absurd cc
shown_text (Text units) n is = let same : n ≡ length units = cc in (units, refl, same)
shown_text (Task s) n is = absurd cc

pub equal_by : (heap : List NamedObject) (b : ℕ) (units others : List ℕ) (r : Bool) → object_named heap b ≡ Some (Text others)
    → r ≡ bytes_eq units others → r ≡ is_equal_text heap units (Held.Obj b)
equal_by heap b units others r live is = is ∙ sym (ap (λ (o : Option Object). option_map_or (like units) o false) live)

pub unequal_lengths : (heap : List NamedObject) (b : ℕ) (units others : List ℕ) (m n : ℕ) → object_named heap b ≡ Some (Text others)
    → m ≡ length others → n ≡ length units → m ≢ n → nat_eq m n ≡ is_equal_text heap units (Held.Obj b)
unequal_lengths heap b units others m n live long short differ =
    let apart : units ≡ others → ⊥ = λ same. differ (long ∙ sym (ap length same) ∙ sym short) in
    equal_by heap b units others (nat_eq m n) live (ne_eqb m n differ ∙ unequal units others apart)

no_text : (units : List ℕ) (o : Object) → ((n : ℕ) → shape_of o ≡ Of.Text n → ⊥) → false ≡ like units o
no_text units (Plain c fields) other = refl
no_text units (Array t items) other = refl
no_text units (Text others) other = absurd (other (length others) refl)
no_text units (Task s) other = refl

pub unequal_objects : (heap : List NamedObject) (b : ℕ) (units : List ℕ) (o : Object) → object_named heap b ≡ Some o
    → ((n : ℕ) → shape_of o ≡ Of.Text n → ⊥) → false ≡ is_equal_text heap units (Held.Obj b)
unequal_objects heap b units o live other =
    no_text units o other ∙ sym (ap (λ (o : Option Object). option_map_or (like units) o false) live)

-- ---- Parts.

cut_by : (t u : Bool) (part : List ℕ) → (t && u) ≡ false → cond (t && u) (Some part) None ≡ None
cut_by t u part is = ap (λ (b : Bool). cond b (Some part) None) is

no_part : (units : List ℕ) (b e : ℤ) → ((i j : ℕ) → b ≡ pos i → e ≡ pos j → i ≤ j → length units < j) → substring units b e ≡ None
no_part units (pos i) (pos j) past =
    elim (leb_tells i j) [
      | inl low ↦ elim (leb_tells j (length units)) [
        | inl high ↦ let beyond = past i j refl refl low.1 in let within = high.1 in absurd (omega arith)
        | inr high ↦ cut_by (nat_le i j) (nat_le j (length units)) (take (j - i) (drop i units))
            (ap (λ (t : Bool). t && nat_le j (length units)) low.0 ∙ high.0)
      ]
      | inr low ↦ cut_by (nat_le i j) (nat_le j (length units)) (take (j - i) (drop i units)) (ap (λ (t : Bool). t && nat_le j (length units)) low.0)
    ]
no_part units (pos i) (negsuc j) past = refl
no_part units (negsuc i) e past = refl

is_part : (units : List ℕ) (first count : ℕ) → first + count ≤ length units
    → substring units (pos first) (pos (first + count)) ≡ Some (take count (drop first units))
is_part units first count within =
    elim (leb_tells first (first + count)) [
      | inl low ↦ elim (leb_tells (first + count) (length units)) [
        | inl high ↦
            let both : (nat_le first (first + count) && nat_le (first + count) (length units)) ≡ true =
            ap (λ (t : Bool). t && nat_le (first + count) (length units)) low.0 ∙ high.0 in
            let size : first + count - first ≡ count = omega arith in
            ap (λ (b : Bool). cond b (Some (take (first + count - first) (drop first units))) None) both
            ∙ ap (λ (n : ℕ). Some (take n (drop first units))) size
        | inr high ↦ let beyond = high.1 in absurd (omega arith)
      ]
      | inr low ↦ let beyond = low.1 in absurd (omega arith)
    ]

module _ (c : HeapContent) (classes : List ClassRecord) (d : DomainId) (ready : IsReady c classes d) (a : ℕ) (units : List ℕ)
    (live : IsLive c d a (Text units)) (b e : ℤ) where
  pub cut_outside : (len : ℕ) → len ≡ length units → ((i j : ℕ) → b ≡ pos i → e ≡ pos j → i ≤ j → len < j)
      → Does c c classes d Means.Substring (Held.Obj a ∷ Held.Int b ∷ Held.Int e ∷ []) (fails_by STRING_INDEX_EXCEPTION)
  cut_outside len is past =
      done_still c c classes d ready Means.Substring (Held.Obj a ∷ Held.Int b ∷ Held.Int e ∷ []) (fails_by STRING_INDEX_EXCEPTION) (same_self c)
      (λ x inside same. (
        units,
        live_inside (c.heap d) inside a (Text units) same live,
        subst (λ (o : Option (List ℕ)). MatchOption o
            (Answers inside (fails_by STRING_INDEX_EXCEPTION) (with_answer inside (fails_by STRING_INDEX_EXCEPTION)))
            (λ (part : List ℕ). AnswersNew x inside (Text part) (with_answer inside (fails_by STRING_INDEX_EXCEPTION))))
            (sym (no_part units b e (λ i j bi ej low. let beyond = past i j bi ej low in omega (arith, is, beyond)))) refl,
      ))

  module _ (mid : HeapContent) (made_name first count : ℕ) (made : MakesObject c mid classes d made_name (Text (replicate count 0)))
      (begins : b ≡ pos first) (ends : e ≡ pos (first + count)) (within : first + count ≤ length units) where
    pub source_given : HasUnits mid d a (first + count)
    source_given = record {
      text = units;
      live = still_live c mid classes d made_name a (Text (replicate count 0)) (Text units) made live;
      many = within;
    }

    zeros_live : IsLive mid d made_name (Text (replicate count 0))
    zeros_live = live_made c mid classes d made_name (Text (replicate count 0)) made

    pub target_given : HasUnits mid d made_name (0 + count)
    target_given = record { text = replicate count 0; live = zeros_live; many = omega (arith, length-replicate {A = ℕ} count 0) }

    module _ (new : HeapContent) (copies : CopiesUnits mid new d a first made_name 0 count) (holds : IsHeapContent c)
        (fits : 4 + count ≤ words_left c d) where
      abbrev part : List ℕ
      part = take count (drop first units)

      part_size : length (take count (drop first units)) ≡ count
      part_size = length-take-le count (drop first units) (omega (arith, length-drop first units, within))

      filled : with_units (replicate count 0) 0 part ≡ part
      filled =
          let nothing : drop (0 + length part) (replicate count 0) ≡ [] =
          drop_of_length-le (replicate count 0) (omega (arith, length-replicate {A = ℕ} count 0, part_size)) in
          ap (λ (l : List ℕ). part ++ l) nothing ∙ append-nil part

      part_made : MakesObject c new classes d made_name (Text part)
      part_made =
          let writes = copies units (still_live c mid classes d made_name a (Text (replicate count 0)) (Text units) made live)
          (replicate count 0) zeros_live in
          let whole = subst (λ (us : List ℕ). WritesObject mid new d made_name (Text us)) filled writes in
          let cost : object_words classes (Text part) ≡ object_words classes (Text (replicate count 0)) =
          omega (arith, length-replicate {A = ℕ} count 0, part_size) in
          made_with c mid new classes d made_name (Text (replicate count 0)) (Text part) cost made whole

      pub part_is_cut : Does c new classes d Means.Substring (Held.Obj a ∷ Held.Int b ∷ Held.Int e ∷ []) (gives_value (Held.Obj made_name))
      part_is_cut = record {
        becomes = counted_after c new classes d ready made_name (Text part) part_made;
        row = λ x inside is. (
          units,
          live_inside (c.heap d) inside a (Text units) is.heap live,
          subst (λ (o : Option (List ℕ)). MatchOption o
              (Answers inside (fails_by STRING_INDEX_EXCEPTION) (with_answer (record inside { heap = new.heap d }) (gives_value (Held.Obj made_name))))
              (λ (p : List ℕ). AnswersNew x inside (Text p) (with_answer (record inside { heap = new.heap d }) (gives_value (Held.Obj made_name)))))
              (sym found) (answers_new c new classes d ready made_name (Text part) part_made holds (omega (arith, fits, part_size)) x inside is),
        );
      }
        where
          found : substring units b e ≡ Some (take count (drop first units))
          found = ap (λ (z : ℤ). substring units z e) begins ∙ ap (substring units (pos first)) ends ∙ is_part units first count within

-- ---- Texts that are joined, and what values read as.

module _ (c new : HeapContent) (classes : List ClassRecord) (d : DomainId) (ready : IsReady c classes d) (holds : IsHeapContent c) where
  pub joined_is_answered : (a b name : ℕ) (units more : List ℕ) (v : Value) → v ≡ Held.Obj b → IsLive c d a (Text units) → IsLive c d b (Text more)
      → MakesObject c new classes d name (Text (units ++ more)) → 4 + length (units ++ more) ≤ words_left c d
      → Does c new classes d Means.Concat (Held.Obj a ∷ v ∷ []) (gives_value (Held.Obj name))
  joined_is_answered a b name units more v is live other made fits =
      subst (λ (w : Value). Does c new classes d Means.Concat (Held.Obj a ∷ w ∷ []) (gives_value (Held.Obj name))) (sym is) (record {
        becomes = counted_after c new classes d ready name (Text (units ++ more)) made;
        row = λ x inside here. (
          units,
          live_inside (c.heap d) inside a (Text units) here.heap live,
          inr (
            more,
            live_inside (c.heap d) inside b (Text more) here.heap other,
            answers_new c new classes d ready name (Text (units ++ more)) made holds fits x inside here,
          ),
        );
      })

  pub joined_has_no_room : (a b : ℕ) (units more : List ℕ) (v : Value) → v ≡ Held.Obj b → IsLive c d a (Text units) → IsLive c d b (Text more)
      → IsSame c new → words_left c d < 4 + length (units ++ more) → Does c new classes d Means.Concat (Held.Obj a ∷ v ∷ []) fails_for_memory
  joined_has_no_room a b units more v is live other same lacks =
      subst (λ (w : Value). Does c new classes d Means.Concat (Held.Obj a ∷ w ∷ []) fails_for_memory) (sym is) (record {
        becomes = counted_still c new classes d ready same;
        row = λ x inside here. (
          units,
          live_inside (c.heap d) inside a (Text units) here.heap live,
          inr (
            more,
            live_inside (c.heap d) inside b (Text more) here.heap other,
            answers_lack c new classes d ready (Text (units ++ more)) lacks same x inside here,
          ),
        );
      })

  module _ (shown : Shown) (v : Value) (text : List ℕ) (reads : ReadsAs (c.heap d) shown v text) where
    pub written_is_answered : (name : ℕ) → MakesObject c new classes d name (Text text) → 4 + length text ≤ words_left c d
        → Does c new classes d (Means.TextOf shown) (v ∷ []) (gives_value (Held.Obj name))
    written_is_answered name made fits = record {
      becomes = counted_after c new classes d ready name (Text text) made;
      row = λ x inside here. (
        text,
        subst (λ (heap : List NamedObject). ReadsAs heap shown v text) (sym here.heap) reads,
        answers_new c new classes d ready name (Text text) made holds fits x inside here,
      );
    }

    pub written_has_no_room : IsSame c new → words_left c d < 4 + length text → Does c new classes d (Means.TextOf shown) (v ∷ []) fails_for_memory
    written_has_no_room same lacks = record {
      becomes = counted_still c new classes d ready same;
      row = λ x inside here. (
        text,
        subst (λ (heap : List NamedObject). ReadsAs heap shown v text) (sym here.heap) reads,
        answers_lack c new classes d ready (Text text) lacks same x inside here,
      );
    }

-- ---- A value that is null or a text.

pub text_of_object : (heap : List NamedObject) (v : Value) (b : ℕ) → v ≡ Held.Obj b → IsTextOrNull heap v
    → (more : List ℕ) × (object_named heap b ≡ Some (Text more))
text_of_object heap v b is (inl null) = let other : Held.Obj b ≡ Held.Null = sym is ∙ null in absurd cc
text_of_object heap v b is (inr (more, text)) = (more, subst (λ (w : Value). IsText heap w more) is text)

pub text_name : (heap : List NamedObject) (v : Value) → IsTextOrNull heap v → (v ≡ Held.Null) ⊎ ((a : ℕ) × (v ≡ Held.Obj a) × ((o : Object) ×
    (object_named heap a ≡ Some o)))
text_name heap v (inl null) = inl null
text_name heap (Held.Obj a) (inr (units, text)) = inr (a, refl, (Text units, text))
text_name heap (Held.Int n) (inr (units, text)) = absurd text
text_name heap (Held.Long n) (inr (units, text)) = absurd text
text_name heap Held.Null (inr (units, text)) = absurd text
text_name heap (Held.Cap k) (inr (units, text)) = absurd text
text_name heap Held.Unset (inr (units, text)) = absurd text
