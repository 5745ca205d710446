-- Where an instruction finds its operands there is a row of it.
use Rattle.std.proofs.Common.{inl, inr, ◌≡◌, ◌⊎◌, ℕ, ◌+◌, ◌≤◌, ℤ, pos, negsuc, Bool, true, false, List, [], ◌∷◌, ◌++◌, length, map, Option, Some, None, slice_get, refl, sym, subst, arith}
use Rattle.std.specs.Prelude.{IsTrue, if◌then◌else◌, nat_lt, option_and_then, option_map}
use Rattle.std.proofs.lemmas.Bool.{cases_eq, cases_lt, ltb-true}
use Rattle.std.proofs.lemmas.List.{append-nil}
use Rattle.std.proofs.lemmas.Option.{same_Some}
use Rattle.list_lemmas.proofs.ItemsByPlace.{item_there}
use Rattle.jk_model.specs.declared.identifiers.MemberId.{MemberId}
use Rattle.jk_model.specs.declared.instructions.Instr.{Instr}
use Rattle.jk_model.specs.declared.opcodes.TheConstants.{AASTORE, ARRAYLENGTH, ATHROW, GETFIELD, LDC_W, MULTIANEWARRAY, PUTFIELD}
use Rattle.jk_model.specs.declared.values.Value.{Value}
use Rattle.jk_model.specs.declared.values.Value.TheVariants as Held
use Rattle.jk_model_classes.specs.declared.records.FieldRecord.{FieldRecord}
use Rattle.jk_model_classes.specs.declared.records.Link.TheVariants as To
use Rattle.jk_model_classes.specs.declared.records.TypeRef.{TypeRef}
use Rattle.jk_model_typing.specs.Scopes.{CodeScope, LeadsToLink}
use Rattle.jk_model_domains.specs.NumberRows.{IsOnTop}
use Rattle.jk_model_domains.specs.Objects.{NamedObject, Text, object_words}
use Rattle.jk_model_domains.specs.OwnStates.{literal_named, with_static}
use Rattle.jk_model_heaps.specs.declared.shapes.Shape.{Shape}
use Rattle.jk_model_heaps.specs.declared.shapes.Shape.TheVariants as Of
use Rattle.jk_model_heaps.specs.Heaps.{heap_words, zero_object}
use Rattle.jk_model_heaps.specs.References.{IsNullOrInstance}
use Rattle.jk_model_heaps.specs.RunningCode.{NamesField}
use Rattle.jk_model_heaps.specs.StoredValues.{stored}
use Rattle.jk_model_heaps.specs.Workings.{GoesOn, GoesOnWith, Inside, Outcome, Setting, Working, with_heap, with_own}
use Rattle.jk_model_heap_rows.specs.ElementRows.{place_at, is_element_load, is_element_store, with_item}
use Rattle.jk_model_heap_rows.specs.FieldRows.{with_field_value}
use Rattle.jk_model_heap_rows.specs.HeapRows.{HeapRow, array_length, casts, gets_field, gets_static, loads_element, loads_text, makes_array, makes_arrays, makes_object, puts_field, puts_static, raises_object, stores_element, tests}
use Rattle.jk_model_heap_rows.specs.NewObjectRows.{LacksWords, MakesArrayOf, PushesNew, count_of, counts_of, with_literal}
use Rattle.jk_model_heap_rows.specs.ArrayTrees.{MakesTree, tree_words}
use Rattle.decided_lookups.specs.Decisions.{IsDecided}
use Rattle.decided_lookups.proofs.DecidedParts.{either_decided}
use Rattle.heap_laws.proofs.FreshNames.{fitting_made}
use Rattle.row_laws.specs.HeapOperands.{HeapOperands, HasFieldOrIsNull, IsArrayOrNull, IsObjectOrNull, of_cast, of_get_field, of_get_static, of_length, of_load, of_new, of_new_array, of_new_arrays, of_put_field, of_put_static, of_store, of_test, of_text, of_throw}
use Rattle.row_laws.proofs.TreesOfArrays.{tree_made}
use Rattle.row_laws.proofs.InstancesDecided.{instance_decided}

-- ---- Counts.

-- the count of an array that is made by some counts
first_count : (n : ℤ) (more : List ℤ) (sizes : List ℕ) → counts_of (n ∷ more) ≡ Some sizes
    → (m : ℕ) × (rest : List ℕ) × (sizes ≡ m ∷ rest)
first_count n more [] is = absurd (not_empty n (counts_of more) is)
  where
    not_empty : (k : ℤ) (found : Option (List ℕ))
        → option_and_then (λ (count : ℕ). option_map (λ (counts : List ℕ). count ∷ counts) found) (count_of k)
        ≡ Some [] → ⊥
    not_empty (pos k) None e = absurd cc
    not_empty (pos k) (Some counts) e = absurd cc
    not_empty (negsuc k) found e = absurd cc
first_count n more (m ∷ rest) is = (m, rest, refl)

-- what an option has, or that it has nothing
told : {X : Type 0} → (o : Option X) → (o ≡ None) ⊎ ((x : X) × (o ≡ Some x))
told None = inl refl
told (Some x) = inr (x, refl)

-- a place that an index means is one of the array's
place_there : (items : List Value) (index : ℤ) (place : ℕ) → place_at items index ≡ Some place → (v : Value) × (slice_get items place ≡ Some v)
place_there items (pos n) place is = by_test (nat_lt n (length items)) refl is
  where
    by_test : (b : Bool) → nat_lt n (length items) ≡ b → (if b then Some n else None) ≡ Some place
        → (v : Value) × (slice_get items place ≡ Some v)
    by_test true low e =
        let same : n ≡ place = same_Some n place e in
        subst (λ (k : ℕ). (v : Value) × (slice_get items k ≡ Some v)) same (item_there items n (ltb-true n (length items) low))
    by_test false low e = absurd cc
place_there items (negsuc n) place is = absurd cc

module _ (x : Setting) (w : Working) where
  -- ---- What an instruction may do.

  abbrev Going : List Value → List Value → Inside → Type 0
  Going taken pushed inside = (new : Working) × (outcome : Outcome) × GoesOnWith w taken pushed inside new outcome

  going : (taken pushed : List Value) (inside : Inside) → IsOnTop w.frame taken → Going taken pushed inside
  going taken pushed inside (below, is) = (
    record { inside = inside; frame = record w.frame { stack = below ++ pushed } },
    GoesOn (w.frame.head.at + 1),
    record { replaced = record { below = below; before = is; after = refl }; inside_is = refl; goes_on = refl },
  )

  nothing_taken : IsOnTop w.frame []
  nothing_taken = (w.frame.stack, sym (append-nil w.frame.stack))

  -- what is pushed where a new object fits, and what is raised where it doesn't
  fits_or_lacks : (words : ℕ) → (heap_words x.classes w.inside.heap + words ≤ x.quota) ⊎ LacksWords x w words
  fits_or_lacks words = elim (cases_lt x.quota (heap_words x.classes w.inside.heap + words)) [ inl low ↦ inr low | inr fits ↦ inl fits ]

  pushing : (taken : List Value) (shape : Shape) → IsOnTop w.frame taken
      → (new : Working) × (outcome : Outcome) × PushesNew x w taken shape new outcome
  pushing taken shape top = elim (fits_or_lacks (object_words x.classes (zero_object x.classes shape))) [
    | inl fits ↦
        let made = fitting_made x.classes x.quota w.inside.heap (zero_object x.classes shape) fits in
        let g = going taken (Held.Obj made.0 ∷ []) (with_heap w.inside made.1) top in
        (g.0, g.1, inl (made.0, made.1, made.2, g.2))
    | inr lacks ↦ (w, _, inr (lacks, (refl, refl)))
  ]

  null_or_instance : (v : Value) (t : TypeRef) → IsDecided (IsNullOrInstance x w.inside.heap v t)
  null_or_instance v t =
      either_decided (is_null v) (instance_decided x.classes x.caps w.inside.heap v t)
    where
      is_null : (u : Value) → IsDecided (u ≡ Held.Null)
      is_null Held.Null = inl refl
      is_null (Held.Int n) = inr (λ e. absurd cc)
      is_null (Held.Long n) = inr (λ e. absurd cc)
      is_null (Held.Obj a) = inr (λ e. absurd cc)
      is_null (Held.Cap k) = inr (λ e. absurd cc)
      is_null Held.Unset = inr (λ e. absurd cc)

  -- ---- Each group.

  module _ (s : CodeScope) (i : Instr) where
    abbrev HasRow : Type 0
    HasRow = (new : Working) × (outcome : Outcome) × HeapRow x s i w new outcome

    text_row : (text : List ℕ) → i.op ≡ LDC_W → LeadsToLink s i (To.Text text) → HasRow
    text_row text op leads = elim (told (literal_named w.inside.own text)) [
      | inl none ↦ elim (fits_or_lacks (object_words x.classes (Text text))) [
        | inl fits ↦
            let made = fitting_made x.classes x.quota w.inside.heap (Text text) fits in
            let g = going [] (Held.Obj made.0 ∷ [])
            (with_heap (with_literal w.inside (record { text = text; name = made.0 })) made.1) nothing_taken in
            (g.0, g.1, loads_text (record { op = op; text = text; names = leads; does = inr (inl (made.0, made.1, none, made.2, g.2)) }))
        | inr lacks ↦
            (w, _, loads_text (record { op = op; text = text; names = leads; does = inr (inr (none, (lacks, (refl, refl)))) }))
      ]
      | inr (a, some) ↦
          let g = going [] (Held.Obj a ∷ []) w.inside nothing_taken in
          (g.0, g.1, loads_text (record { op = op; text = text; names = leads; does = inl (a, some, g.2) }))
    ]

    get_field_row : (m : MemberId) (field : FieldRecord) (v : Value) → i.op ≡ GETFIELD → NamesField s i m field → IsOnTop w.frame (v ∷ [])
        → HasFieldOrIsNull x w.inside.heap v m → HasRow
    get_field_row m field v op names top (inl null) = (
      w,
      _,
      gets_field (record { op = op; member = m; field = field; names = names; receiver = v; on_top = top; does = inl (null, (refl, refl)) }),
    )
    get_field_row m field v op names top (inr f) =
        let g = going (v ∷ []) (f.value ∷ []) w.inside top in (
          g.0,
          g.1,
          gets_field (record { op = op; member = m; field = field; names = names; receiver = v; on_top = top; does = inr (f, g.2) }),
        )

    put_field_row : (m : MemberId) (field : FieldRecord) (v u : Value) → i.op ≡ PUTFIELD → NamesField s i m field
        → IsOnTop w.frame (v ∷ u ∷ []) → HasFieldOrIsNull x w.inside.heap v m → HasRow
    put_field_row m field v u op names top (inl null) = (
      w,
      _,
      puts_field (record {
        op = op;
        member = m;
        field = field;
        names = names;
        receiver = v;
        value = u;
        on_top = top;
        does = inl (null, (refl, refl));
      }),
    )
    put_field_row m field v u op names top (inr f) =
        let g = going (v ∷ u ∷ []) [] (with_heap w.inside (with_field_value f (stored field.kind u))) top in (
          g.0,
          g.1,
          puts_field (record {
            op = op;
            member = m;
            field = field;
            names = names;
            receiver = v;
            value = u;
            on_top = top;
            does = inr (f, g.2);
          }),
        )

    load_row : (v : Value) (index : ℤ) → IsTrue (is_element_load i.op) → IsOnTop w.frame (v ∷ Held.Int index ∷ [])
        → IsArrayOrNull w.inside.heap v → HasRow
    load_row v index op top (inl null) =
        (w, _, loads_element (record { op = op; array = v; index = index; on_top = top; does = inl (null, (refl, refl)) }))
    load_row v index op top (inr a) = elim (told (place_at a.items index)) [
      | inl none ↦
          (w, _, loads_element (record { op = op; array = v; index = index; on_top = top; does = inr (inl (a, (none, (refl, refl)))) }))
      | inr (place, is) ↦
          let item = place_there a.items index place is in
          let g = going (v ∷ Held.Int index ∷ []) (item.0 ∷ []) w.inside top in (
            g.0,
            g.1,
            loads_element (record {
              op = op;
              array = v;
              index = index;
              on_top = top;
              does = inr (inr (a, place, item.0, is, item.1, g.2));
            }),
          )
    ]

    -- an aastore asks for an instance, and the others for nothing
    suits : (v : Value) (t : TypeRef) → ((i.op ≡ AASTORE) × (IsNullOrInstance x w.inside.heap v t → ⊥))
        ⊎ (i.op ≡ AASTORE → IsNullOrInstance x w.inside.heap v t)
    suits v t = elim (null_or_instance v t) [
      | inl is ↦ inr (λ op. is)
      | inr fails ↦ elim (cases_eq i.op AASTORE) [ inl op ↦ inl (op, fails) | inr other ↦ inr (λ op. absurd (other op)) ]
    ]

    store_row : (v u : Value) (index : ℤ) → IsTrue (is_element_store i.op) → IsOnTop w.frame (v ∷ Held.Int index ∷ u ∷ [])
        → IsArrayOrNull w.inside.heap v → HasRow
    store_row v u index op top (inl null) = (
      w,
      _,
      stores_element (record { op = op; array = v; index = index; value = u; on_top = top; does = inl (null, (refl, refl)) }),
    )
    store_row v u index op top (inr a) = elim (told (place_at a.items index)) [
      | inl none ↦ (
        w,
        _,
        stores_element (record { op = op; array = v; index = index; value = u; on_top = top; does = inr (inl (a, (none, (refl, refl)))) }),
      )
      | inr (place, is) ↦ elim (suits u a.element) [
        | inl (aastore, fails) ↦ (
          w,
          _,
          stores_element (record {
            op = op;
            array = v;
            index = index;
            value = u;
            on_top = top;
            does = inr (inr (inl (a, place, is, aastore, fails, (refl, refl))));
          }),
        )
        | inr fits ↦
            let g = going (v ∷ Held.Int index ∷ u ∷ []) [] (with_heap w.inside (with_item a place (stored a.element u))) top in (
              g.0,
              g.1,
              stores_element (record {
                op = op;
                array = v;
                index = index;
                value = u;
                on_top = top;
                does = inr (inr (inr (a, place, is, fits, g.2)));
              }),
            )
      ]
    ]

    length_row : (v : Value) → i.op ≡ ARRAYLENGTH → IsOnTop w.frame (v ∷ []) → IsArrayOrNull w.inside.heap v → HasRow
    length_row v op top (inl null) = (w, _, array_length (record { op = op; array = v; on_top = top; does = inl (null, (refl, refl)) }))
    length_row v op top (inr a) =
        let g = going (v ∷ []) (Held.Int (pos (length a.items)) ∷ []) w.inside top in
        (g.0, g.1, array_length (record { op = op; array = v; on_top = top; does = inr (a, g.2) }))

    array_row : (element : TypeRef) (count : ℤ) → MakesArrayOf s i element → IsOnTop w.frame (Held.Int count ∷ []) → HasRow
    array_row element count of top = elim (told (count_of count)) [
      | inl none ↦
          (w, _, makes_array (record { element = element; of_elements = of; count = count; on_top = top; does = inl (none, (refl, refl)) }))
      | inr (n, some) ↦
          let p = pushing (Held.Int count ∷ []) (Of.Array element n) top in
          (p.0, p.1, makes_array (record { element = element; of_elements = of; count = count; on_top = top; does = inr (n, some, p.2) }))
    ]

    trees_row : (kind : TypeRef) (n : ℤ) (more : List ℤ) → i.op ≡ MULTIANEWARRAY
        → LeadsToLink s i (To.Class kind) → i.b ≡ pos (length (n ∷ more)) → IsOnTop w.frame (map Held.Int (n ∷ more)) → HasRow
    trees_row kind n more op leads many top = elim (told (counts_of (n ∷ more))) [
      | inl none ↦ (
        w,
        _,
        makes_arrays (record {
          op = op;
          kind = kind;
          names = leads;
          counts = n ∷ more;
          as_many = many;
          on_top = top;
          does = inl (none, (refl, refl));
        }),
      )
      | inr (sizes, some) ↦ elim (fits_or_lacks (tree_words kind sizes)) [
        | inl fits ↦
            let first = first_count n more sizes some in
            let made : (a : ℕ) × (heap : List NamedObject) × MakesTree x kind sizes a w.inside.heap heap =
            subst (λ (ks : List ℕ). (a : ℕ) × (heap : List NamedObject) × MakesTree x kind ks a w.inside.heap heap)
            (sym first.2) (tree_made x kind first.0 first.1 w.inside.heap
            (subst (λ (ks : List ℕ). heap_words x.classes w.inside.heap + tree_words kind ks ≤ x.quota) first.2 fits)) in
            let g = going (map Held.Int (n ∷ more)) (Held.Obj made.0 ∷ []) (with_heap w.inside made.1) top in (
              g.0,
              g.1,
              makes_arrays (record {
                op = op;
                kind = kind;
                names = leads;
                counts = n ∷ more;
                as_many = many;
                on_top = top;
                does = inr (inr (sizes, made.0, made.1, some, (λ lacks. omega (arith, lacks, fits)), made.2, g.2));
              }),
            )
        | inr lacks ↦ (
          w,
          _,
          makes_arrays (record {
            op = op;
            kind = kind;
            names = leads;
            counts = n ∷ more;
            as_many = many;
            on_top = top;
            does = inr (inl (sizes, some, (lacks, (refl, refl))));
          }),
        )
      ]
    ]

    many_row : (kind : TypeRef) (counts : List ℤ) → i.op ≡ MULTIANEWARRAY
        → LeadsToLink s i (To.Class kind) → i.b ≡ pos (length counts) → 1 ≤ length counts → IsOnTop w.frame (map Held.Int counts) → HasRow
    many_row kind [] op leads many some top = absurd (omega (arith, some))
    many_row kind (n ∷ more) op leads many some top = trees_row kind n more op leads many top

    throw_row : (v : Value) → i.op ≡ ATHROW → IsOnTop w.frame (v ∷ []) → IsObjectOrNull w.inside.heap v → HasRow
    throw_row v op top (inl null) = (w, _, raises_object (record { op = op; value = v; on_top = top; does = inl (null, (refl, refl)) }))
    throw_row v op top (inr (a, object, is, named)) =
        (w, _, raises_object (record { op = op; value = v; on_top = top; does = inr (a, is, (refl, refl)) }))

    -- ---- All of them.

    pub row_there : HeapOperands x s i w → HasRow
    row_there (of_text text op leads) = text_row text op leads
    row_there (of_get_static m field v op names is) =
        let g = going [] (v ∷ []) w.inside nothing_taken in
        (g.0, g.1, gets_static (record { op = op; member = m; field = field; names = names; value = v; value_is = is; does = g.2 }))
    row_there (of_put_static m field v op names there top) =
        let g = going (v ∷ []) [] (with_own w.inside (with_static w.inside.own m (stored field.kind v))) top in
        (g.0, g.1, puts_static (record { op = op; member = m; field = field; names = names; is_there = there; value = v; does = g.2 }))
    row_there (of_get_field m field v op names top has) = get_field_row m field v op names top has
    row_there (of_put_field m field v u op names top has) = put_field_row m field v u op names top has
    row_there (of_load v index op top is) = load_row v index op top is
    row_there (of_store v u index op top is) = store_row v u index op top is
    row_there (of_length v op top is) = length_row v op top is
    row_there (of_new class op names) =
        let p = pushing [] (Of.Plain class) nothing_taken in
        (p.0, p.1, makes_object (record { op = op; class = class; names = names; does = p.2 }))
    row_there (of_new_array element count of top) = array_row element count of top
    row_there (of_new_arrays kind counts op leads many some top) = many_row kind counts op leads many some top
    row_there (of_cast kind v op leads top is) = elim (null_or_instance v kind) [
      | inl fits ↦
          let g = going (v ∷ []) (v ∷ []) w.inside top in
          (g.0, g.1, casts (record { op = op; kind = kind; names = leads; value = v; on_top = top; does = inl (fits, g.2) }))
      | inr fails ↦
          (w, _, casts (record { op = op; kind = kind; names = leads; value = v; on_top = top; does = inr (fails, (refl, refl)) }))
    ]
    row_there (of_test kind v op leads top is) = elim (instance_decided x.classes x.caps w.inside.heap v kind) [
      | inl fits ↦
          let g = going (v ∷ []) (Held.Int (pos 1) ∷ []) w.inside top in
          (g.0, g.1, tests (record { op = op; kind = kind; names = leads; value = v; on_top = top; does = inl (fits, g.2) }))
      | inr fails ↦
          let g = going (v ∷ []) (Held.Int (pos 0) ∷ []) w.inside top in
          (g.0, g.1, tests (record { op = op; kind = kind; names = leads; value = v; on_top = top; does = inr (fails, g.2) }))
    ]
    row_there (of_throw v op top is) = throw_row v op top is
