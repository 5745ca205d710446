-- A domain that begins has a part for each class that its names mean and that isn't of the system, in the order of all classes.
use Rattle.std.proofs.Common.{◌≡◌, ◌≢◌, ℕ, zero, suc, ◌+◌, ◌==◌, ◌<◌, ◌&&◌, Bool, true, false, cond, List, [], ◌∷◌, find, map, Contains, Option, Some, None, slice_get, refl, sym, ap, subst, ◌∙◌, arith}
use Rattle.std.proofs.lemmas.Bool.{and_parts, eq-eqb, eqb-true, false≢true}
use Rattle.std.proofs.lemmas.Option.{none-some, same_Some}
use Rattle.list_lemmas.proofs.FoundItems.{Finds, finds}
use Rattle.list_lemmas.proofs.ItemsByPlace.{slice_get-nil}
use Rattle.list_lemmas.proofs.ItemsOfLists.{Contains-at, Contains-here, Contains-there, place_of, stands_at}
use Rattle.model_lemmas.proofs.SameNumbers.{same_class}
use Rattle.jk_model.specs.declared.identifiers.ClassId.{ClassId}
use Rattle.jk_model_classes.specs.declared.records.ClassRecord.{ClassRecord}
use Rattle.jk_model_classes.specs.Worlds.{IsNamed, NamedClass}
use Rattle.jk_model_domains.specs.declared.states.ClassState.TheVariants as State
use Rattle.jk_model_domains.specs.OwnStates.{ClassPart, HasPart, HasState, IsOwnState, OwnState, StaticField, first_statics, part_of}
use Rattle.jk_model_openings.specs.OpenedDomains.{IsFirstOwn}
use Rattle.machine_laws.proofs.FirstObjects.{throwable_names}

abbrev is_told : {X : Type 0} → Option X → Bool
is_told None = false
is_told (Some x) = true

told-some : {X : Type 0} (o : Option X) → is_told o ≡ true → (x : X) × (o ≡ Some x)
told-some None e = absurd (false≢true e)
told-some (Some x) e = (x, refl)

not-none : {X : Type 0} (o : Option X) → is_told o ≡ true → o ≢ None
not-none o e none = let at = told-some o e in none-some at.0 (sym none ∙ at.1)

told-not_none : {X : Type 0} (o : Option X) → o ≢ None → is_told o ≡ true
told-not_none None differ = absurd (differ refl)
told-not_none (Some x) differ = refl

abbrev indices : ClassPart → List ℕ
indices e = map (λ (f : StaticField). f.index) e.statics

module _ (classes : List ClassRecord) (table : List NamedClass) where
  -- ---- Whether a class has a part.

  abbrev means : ℕ → NamedClass → Bool
  means n e = e.class.0 == n

  abbrev is_own : ℕ → ClassRecord → Bool
  is_own n r = is_told (find (means n) table) && is_told r.home

  named-by : (n : ℕ) → is_told (find (means n) table) ≡ true → IsNamed table (record { 0 = n })
  named-by n e =
      let found = told-some (find (means n) table) e in
      let at = subst (Finds (means n) table) found.1 (finds (means n) table) in
      let class : found.0.class ≡ record { 0 = n } = same_class found.0.class (record { 0 = n }) (eqb-true found.0.class.0 n at.2) in (
        found.0.name,
        subst (λ (c : ClassId). Contains table (record { name = found.0.name; class = c })) class (Contains-at table at.0 found.0 at.1),
      )

  found-some : {X : Type 0} (test : X → Bool) (xs : List X) (x : X) (o : Option X) → Contains xs x → test x ≡ true → Finds test xs o
      → is_told o ≡ true
  found-some test xs x None has passes none =
      let at = place_of xs x has in absurd (false≢true (sym (none at.0 x at.1) ∙ passes))
  found-some test xs x (Some y) has passes at = refl

  by-named : (n : ℕ) → IsNamed table (record { 0 = n }) → is_told (find (means n) table) ≡ true
  by-named n (name, has) =
      found-some (means n) table (record { name = name; class = record { 0 = n } }) (find (means n) table) has (eq-eqb n n refl)
      (finds (means n) table)

  -- ---- The parts of these classes, of which the first has the number n.

  abbrev part_at : ℕ → ClassRecord → ClassPart
  part_at n r = record { class = record { 0 = n }; state = State.Untouched; statics = first_statics r }

  abbrev pub parts_from : ℕ → List ClassRecord → List ClassPart
  parts_from n [] = []
  parts_from n (r ∷ rs) = cond (is_own n r) (part_at n r ∷ parts_from (suc n) rs) (parts_from (suc n) rs)

  -- where a part comes from
  record ComesFrom (n : ℕ) (rs : List ClassRecord) (e : ClassPart) : Type 0 where
    place : ℕ
    of : ClassRecord
    there : slice_get rs place ≡ Some of
    is : e ≡ part_at (n + place) of
    own : is_own (n + place) of ≡ true

  later : (n : ℕ) (r : ClassRecord) (rs : List ClassRecord) (e : ClassPart) → ComesFrom (suc n) rs e → ComesFrom n (r ∷ rs) e
  later n r rs e from =
      let same : suc n + from.place ≡ n + suc from.place = omega arith in
      record {
        place = suc from.place;
        of = from.of;
        there = from.there;
        is = from.is ∙ ap (λ (k : ℕ). part_at k from.of) same;
        own = subst (λ (k : ℕ). is_own k from.of ≡ true) same from.own;
      }

  here : (n : ℕ) (r : ClassRecord) (rs : List ClassRecord) (e : ClassPart) → is_own n r ≡ true → e ≡ part_at n r → ComesFrom n (r ∷ rs) e
  here n r rs e own is =
      let same : n ≡ n + 0 = omega arith in
      record {
        place = 0;
        of = r;
        there = refl;
        is = is ∙ ap (λ (k : ℕ). part_at k r) same;
        own = subst (λ (k : ℕ). is_own k r ≡ true) same own;
      }

  from_by : (n : ℕ) (r : ClassRecord) (rs : List ClassRecord) (e : ClassPart) (b : Bool) → is_own n r ≡ b → (i : ℕ)
      → ((j : ℕ) → slice_get (parts_from (suc n) rs) j ≡ Some e → ComesFrom (suc n) rs e)
      → slice_get (cond b (part_at n r ∷ parts_from (suc n) rs) (parts_from (suc n) rs)) i ≡ Some e → ComesFrom n (r ∷ rs) e
  from_by n r rs e true own zero rest at = here n r rs e own (sym (same_Some (part_at n r) e at))
  from_by n r rs e true own (suc i) rest at = later n r rs e (rest i at)
  from_by n r rs e false own i rest at = later n r rs e (rest i at)

  comes_from : (n : ℕ) (rs : List ClassRecord) (e : ClassPart) (i : ℕ) → slice_get (parts_from n rs) i ≡ Some e → ComesFrom n rs e
  comes_from n [] e i at = absurd (slice_get-nil i e at)
  comes_from n (r ∷ rs) e i at = from_by n r rs e (is_own n r) refl i (λ j. comes_from (suc n) rs e j) at

  -- ---- No class has two.

  above : (n : ℕ) (rs : List ClassRecord) (e : ClassPart) (i : ℕ) → slice_get (parts_from (suc n) rs) i ≡ Some e → n < e.class.0
  above n rs e i at =
      let from = comes_from (suc n) rs e i at in
      let number : e.class.0 ≡ suc n + from.place = ap (λ (x : ClassPart). x.class.0) from.is in
      omega (arith, number)

  abbrev ClassesDiffer : List ClassPart → Type 0
  ClassesDiffer parts =
      (i j : ℕ) (a b : ClassPart) → slice_get parts i ≡ Some a → slice_get parts j ≡ Some b → a.class ≡ b.class → i ≡ j

  differ_by : (n : ℕ) (r : ClassRecord) (rs : List ClassRecord) (i j : ℕ) (a b : ClassPart) → ClassesDiffer (parts_from (suc n) rs)
      → slice_get (part_at n r ∷ parts_from (suc n) rs) i ≡ Some a → slice_get (part_at n r ∷ parts_from (suc n) rs) j ≡ Some b
      → a.class ≡ b.class → i ≡ j
  differ_by n r rs zero zero a b rest first second same = refl
  differ_by n r rs zero (suc j) a b rest first second same =
      let number : n ≡ a.class.0 = ap (λ (x : ClassPart). x.class.0) (same_Some (part_at n r) a first) in
      let one : a.class.0 ≡ b.class.0 = ap (λ (x : ClassId). x.0) same in
      absurd (omega (arith, number, one, above n rs b j second))
  differ_by n r rs (suc i) zero a b rest first second same =
      let number : n ≡ b.class.0 = ap (λ (x : ClassPart). x.class.0) (same_Some (part_at n r) b second) in
      let one : a.class.0 ≡ b.class.0 = ap (λ (x : ClassId). x.0) same in
      absurd (omega (arith, number, one, above n rs a i first))
  differ_by n r rs (suc i) (suc j) a b rest first second same = ap suc (rest i j a b first second same)

  differ_cases : (n : ℕ) (r : ClassRecord) (rs : List ClassRecord) (t : Bool) → ClassesDiffer (parts_from (suc n) rs)
      → ClassesDiffer (cond t (part_at n r ∷ parts_from (suc n) rs) (parts_from (suc n) rs))
  differ_cases n r rs true rest = λ i j a b. differ_by n r rs i j a b rest
  differ_cases n r rs false rest = rest

  classes_differ : (n : ℕ) (rs : List ClassRecord) → ClassesDiffer (parts_from n rs)
  classes_differ n [] = λ i j a b first second same. absurd (slice_get-nil i a first)
  classes_differ n (r ∷ rs) = differ_cases n r rs (is_own n r) (classes_differ (suc n) rs)

  -- ---- Each class that has one is found.

  kept_here : (n : ℕ) (r : ClassRecord) (parts : List ClassPart) (b : Bool) → b ≡ true → Contains (cond b (part_at n r ∷ parts) parts) (part_at n r)
  kept_here n r parts true e = Contains-here (part_at n r) parts
  kept_here n r parts false e = absurd (false≢true e)

  kept_there : (e p : ClassPart) (parts : List ClassPart) (b : Bool) → Contains parts e → Contains (cond b (p ∷ parts) parts) e
  kept_there e p parts true has = Contains-there e p parts has
  kept_there e p parts false has = has

  has_part : (n : ℕ) (rs : List ClassRecord) (k : ℕ) (r : ClassRecord) → slice_get rs k ≡ Some r → is_own (n + k) r ≡ true
      → Contains (parts_from n rs) (part_at (n + k) r)
  has_part n [] k r at own = absurd (slice_get-nil k r at)
  has_part n (x ∷ rs) zero r at own =
      let same : x ≡ r = same_Some x r at in
      let number : n + 0 ≡ n = omega arith in
      let own_here : is_own n x ≡ true = ap (is_own n) same ∙ ap (λ (k : ℕ). is_own k r) (sym number) ∙ own in
      let part : part_at n x ≡ part_at (n + 0) r = ap (part_at n) same ∙ ap (λ (k : ℕ). part_at k r) (sym number) in
      subst (Contains (parts_from n (x ∷ rs))) part (kept_here n x (parts_from (suc n) rs) (is_own n x) own_here)
  has_part n (x ∷ rs) (suc k) r at own =
      let number : n + suc k ≡ suc n + k = omega arith in
      let rest = has_part (suc n) rs k r at (subst (λ (i : ℕ). is_own i r ≡ true) number own) in
      subst (λ (i : ℕ). Contains (parts_from n (x ∷ rs)) (part_at i r)) (sym number)
      (kept_there (part_at (suc n + k) r) (part_at n x) (parts_from (suc n) rs) (is_own n x) rest)

  -- ---- The own state.

  abbrev pub first_own : OwnState
  first_own = record { classes = parts_from 0 classes; literals = []; out = 0; standing = throwable_names }

  part_known : (e : ClassPart) → Contains first_own.classes e
      → (r : ClassRecord) × HasPart classes table e.class r × (e ≡ part_at e.class.0 r)
  part_known e has =
      let at = stands_at first_own.classes e has in
      let from = comes_from 0 classes e at.0 at.2 in
      let number : 0 + from.place ≡ from.place = omega arith in
      let is : e ≡ part_at from.place from.of = from.is ∙ ap (λ (k : ℕ). part_at k from.of) number in
      let class : e.class.0 ≡ from.place = ap (λ (x : ClassPart). x.class.0) is in
      let own : is_own from.place from.of ≡ true = subst (λ (k : ℕ). is_own k from.of ≡ true) number from.own in
      let both = and_parts (is_told (find (means from.place) table)) (is_told from.of.home) own in (
        from.of,
        (
          subst (IsNamed table) (same_class (record { 0 = from.place }) e.class (sym class)) (named-by from.place both.0),
          subst (λ (k : ℕ). slice_get classes k ≡ Some from.of) (sym class) from.there,
          not-none from.of.home both.1,
        ),
        is ∙ ap (λ (k : ℕ). part_at k from.of) (sym class),
      )

  part_found : (c : ClassId) (r : ClassRecord) → HasPart classes table c r → HasState first_own c
  part_found c r (named, is, home) =
      let from_none : c.0 ≡ 0 + c.0 = omega arith in
      let meant : is_told (find (means c.0) table) ≡ true = by-named c.0 named in
      let of_domain : is_told r.home ≡ true = told-not_none r.home home in
      let own : is_own c.0 r ≡ true = rw (meant, of_domain) refl in
      let has = has_part 0 classes c.0 r is (subst (λ (k : ℕ). is_own k r ≡ true) from_none own) in
      told-some (part_of first_own c)
      (found-some (λ (e : ClassPart). e.class.0 == c.0) first_own.classes (part_at (0 + c.0) r) (part_of first_own c) has
      (eq-eqb (0 + c.0) c.0 (sym from_none)) (finds (λ (e : ClassPart). e.class.0 == c.0) first_own.classes))

  own_state : IsOwnState classes table first_own
  own_state = record {
    each = λ e has.
        let part = part_known e has in
        (part.0, part.1, ap indices part.2);
    all = part_found;
    classes_differ = classes_differ 0 classes;
    literals_differ = λ i j a b first second same. absurd (slice_get-nil i a first);
    standing = refl;
  }

  pub first_is_own : IsFirstOwn classes table first_own
  first_is_own = record {
    state = own_state;
    untouched = λ e has. ap (λ (x : ClassPart). x.state) (part_known e has).2;
    statics = λ e r has is.
        let part = part_known e has in
        ap (λ (x : ClassPart). x.statics) part.2 ∙ ap first_statics (same_Some part.0 r (sym part.1.1 ∙ is));
    no_literals = refl;
  }
