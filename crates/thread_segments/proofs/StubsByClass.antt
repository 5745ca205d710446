-- Places of classes lead to the first stubs that are of them, also after one more stub.
use Rattle.std.proofs.Common.{◌≡◌, ◌≢◌, ℕ, suc, ◌+◌, ◌≤◌, Bool, true, false, List, [], ◌∷◌, ◌++◌, length, take, find, Option, Some, None, nat_eq, slice_get, refl, sym, ap, subst, ◌∙◌, arith, inl, inr, append_assoc, append-nil}
use Rattle.std.proofs.lemmas.Bool.{cases_Bool, cases_eq, eq-eqb, ne_eqb}
use Rattle.std.proofs.lemmas.List.{take_all}
use Rattle.indexmap.specs.IndexMap.{IndexMap, get}
use Rattle.jk_model_classes.specs.declared.sharing.Stub.{Stub}
use Rattle.list_lemmas.proofs.ItemsByPlace.{slice_get-longer, slice_get-last}
use Rattle.list_lemmas.proofs.LastItems.{take_next}
use Rattle.thread_segments.specs.declared.stub_index.StubPlace.{StubPlace}
use Rattle.thread_segments.specs.StubPlaces.{ArePlacesOf, IsEntered, LeadsTo, has_class, stub_at, stubs_in}
use Rattle.thread_stacks.proofs.FoundInStacks.{head_fails}

pub find_front : {X : Type 0} (test : X → Bool) (xs ys : List X) (x : X) → find test xs ≡ Some x → find test (xs ++ ys) ≡ Some x
find_front test [] ys x e = absurd cc
find_front test (y ∷ xs) ys x e = elim (cases_Bool (test y)) [
  | inl hit ↦ let here : Some y ≡ Some x = rw hit at e in rw hit here
  | inr miss ↦ let later : find test xs ≡ Some x = rw miss at e in rw miss (find_front test xs ys x later)
]

pub find_past : {X : Type 0} (test : X → Bool) (xs ys : List X) → find test xs ≡ None → find test (xs ++ ys) ≡ find test ys
find_past test [] ys e = refl
find_past test (y ∷ xs) ys e =
    let head = head_fails test y xs e in rw (head.0) (find_past test xs ys head.1)

pub stubs_in-push : (lists : List (List Stub)) (stubs : List Stub) → stubs_in (lists ++ stubs ∷ []) ≡ stubs_in lists ++ stubs
stubs_in-push [] stubs = append-nil stubs
stubs_in-push (l ∷ lists) stubs = ap (λ xs. l ++ xs) (stubs_in-push lists stubs) ∙ sym (append_assoc l (stubs_in lists) stubs)

-- a place in the lists is one in more lists
stub_at-longer : (lists more : List (List Stub)) (p : StubPlace) (s : Stub) → stub_at lists p ≡ Some s → stub_at (lists ++ more) p ≡ Some s
stub_at-longer lists more p s e = by_list (slice_get lists p.list) refl
  where
    by_list : (o : Option (List Stub)) → slice_get lists p.list ≡ o → stub_at (lists ++ more) p ≡ Some s
    by_list None at = let never : None ≡ Some s = rw at at e in absurd cc
    by_list (Some l) at = rw (slice_get-longer lists more p.list l at) (rw at at e)

stub_at-last : (lists : List (List Stub)) (stubs : List Stub) (list at : ℕ) (s : Stub) → length lists ≡ list → slice_get stubs at ≡ Some s
    → stub_at (lists ++ stubs ∷ []) (record { list = list; at = at }) ≡ Some s
stub_at-last lists stubs list at s e there = rw (← e, slice_get-last lists stubs) there

leads_longer : (lists more : List (List Stub)) (stubs : List Stub) (c : ℕ) (place : Option StubPlace) → LeadsTo lists stubs c place
    → LeadsTo (lists ++ more) stubs c place
leads_longer lists more stubs c None h = h
leads_longer lists more stubs c (Some p) h = (h.0, stub_at-longer lists more p h.0 h.1, h.2)

-- one more stub, of another class
leads_past : (lists : List (List Stub)) (xs : List Stub) (x : Stub) (c : ℕ) (place : Option StubPlace) → x.class.0 ≢ c → LeadsTo lists xs c place
    → LeadsTo lists (xs ++ x ∷ []) c place
leads_past lists xs x c None ne h =
    let miss : has_class c x ≡ false = ne_eqb x.class.0 c ne in
    find_past (has_class c) xs (x ∷ []) h ∙ rw miss refl
leads_past lists xs x c (Some p) ne h = (h.0, h.1, find_front (has_class c) xs (x ∷ []) h.0 h.2)

abbrev pub all_lists : List (List Stub) → List Stub → List (List Stub)
all_lists lists stubs = lists ++ stubs ∷ []

module _ {S : Type 0} (lists : List (List Stub)) (stubs : List Stub) where
  -- the first so many stubs of the last list have places
  abbrev pub AreEntered : IndexMap ℕ StubPlace S → ℕ → Type 0
  AreEntered places n = ArePlacesOf places (all_lists lists stubs) (stubs_in lists ++ take n stubs)

  pub none_entered : (places : IndexMap ℕ StubPlace S) → ArePlacesOf places lists (stubs_in lists) → AreEntered places 0
  none_entered places h c =
      let same : stubs_in lists ++ take 0 stubs ≡ stubs_in lists = append-nil (stubs_in lists) in
      rw same (leads_longer lists (stubs ∷ []) (stubs_in lists) c (get nat_eq places c) (h c))

  by_class : (old new : IndexMap ℕ StubPlace S) (n : ℕ) (s : Stub) (e : IsEntered old new s.class.0 (record { list = length lists; at = n }))
      → slice_get stubs n ≡ Some s → (place : Option StubPlace) → get nat_eq old s.class.0 ≡ place
      → LeadsTo (all_lists lists stubs) (stubs_in lists ++ take n stubs) s.class.0 place
      → LeadsTo (all_lists lists stubs) ((stubs_in lists ++ take n stubs) ++ s ∷ []) s.class.0 (get nat_eq new s.class.0)
  by_class old new n s e at None was h =
      let xs = stubs_in lists ++ take n stubs in
      let hit : has_class s.class.0 s ≡ true = eq-eqb s.class.0 s.class.0 refl in
      let found : find (has_class s.class.0) (xs ++ s ∷ []) ≡ Some s = find_past (has_class s.class.0) xs (s ∷ []) h ∙ rw hit refl in
      rw (e.first was) (s, stub_at-last lists stubs (length lists) n s refl at, found)
  by_class old new n s e at (Some p) was h =
      let xs = stubs_in lists ++ take n stubs in
      rw (e.later p was) (h.0, h.1, find_front (has_class s.class.0) xs (s ∷ []) h.0 h.2)

  pub one_entered : (old new : IndexMap ℕ StubPlace S) (n m : ℕ) (s : Stub) → slice_get stubs n ≡ Some s → m ≡ n + 1
      → IsEntered old new s.class.0 (record { list = length lists; at = n }) → AreEntered old n → AreEntered new m
  one_entered old new n m s at more e h c =
      let xs = stubs_in lists ++ take n stubs in
      let next : m ≡ suc n = omega (arith, more) in
      let longer : stubs_in lists ++ take m stubs ≡ xs ++ s ∷ [] =
      ap (λ k. stubs_in lists ++ take k stubs) next ∙ ap (λ ys. stubs_in lists ++ ys) (take_next stubs n s at) ∙ sym (append_assoc (stubs_in lists)
      (take n stubs) (s ∷ [])) in
      rw longer
      (elim (cases_eq c s.class.0) [
        | inl same ↦
            let P : ℕ → Type 0 = λ k. LeadsTo (all_lists lists stubs) (xs ++ s ∷ []) k (get nat_eq new k) in
            subst P (sym same) (by_class old new n s e at (get nat_eq old s.class.0) refl (h s.class.0))
        | inr other ↦
            rw (e.others c other) (leads_past (all_lists lists stubs) xs s c (get nat_eq old c) (λ same. other (sym same)) (h c))
      ])

  pub all_entered : (places : IndexMap ℕ StubPlace S) (n : ℕ) → length stubs ≤ n → AreEntered places n
      → ArePlacesOf places (lists ++ stubs ∷ []) (stubs_in (lists ++ stubs ∷ []))
  all_entered places n low h =
      let whole : stubs_in lists ++ take n stubs ≡ stubs_in (lists ++ stubs ∷ []) =
      ap (λ ys. stubs_in lists ++ ys) (take_all n stubs low) ∙ sym (stubs_in-push lists stubs) in
      let P : List Stub → Type 0 = λ xs. ArePlacesOf places (lists ++ stubs ∷ []) xs in
      subst P whole h
