-- What arraycopy leaves is determined: each of its cases but one contradicts the arguments, and one front of the items fits.
use Rattle.std.proofs.Common.{◌≡◌, ℕ, ◌+◌, ◌<◌, ◌≤◌, ◌||◌, false, ℤ, pos, List, [], ◌∷◌, length, take, drop, Option, Some, None, MatchOption, inl, inr, refl, sym, ap, subst, ◌∙◌, arith}
use Rattle.std.proofs.lemmas.Bool.{both_ways, cases_order}
use Rattle.list_lemmas.proofs.ItemsByPlace.{item_there}
use Rattle.jk_model.specs.declared.values.Value.{Value}
use Rattle.jk_model.specs.declared.values.Value.TheVariants as Held
use Rattle.jk_model_classes.specs.declared.records.BaseRef.{BaseRef}
use Rattle.jk_model_classes.specs.declared.records.TypeRef.{TypeRef}
use Rattle.jk_model_domains.specs.NumberRows.{is_null}
use Rattle.jk_model_domains.specs.Objects.{Array, NamedObject}
use Rattle.jk_model_heaps.specs.Heaps.{with_object}
use Rattle.jk_model_heaps.specs.References.{IsHeapArray}
use Rattle.jk_model_heaps.specs.Workings.{Inside, Setting, with_heap}
use Rattle.jk_model_heaps.proofs.ArraysInHeaps.{IsOneArray, one_array}
use Rattle.jk_model_system_rows.specs.Answers.{Answered, with_answer}
use Rattle.jk_model_system_rows.specs.ArrayCopies.{ArrayCopy, ArrayPair, CopiesArray, CopiesItems, CopyRange, HasNoNull, HasNull, IsFittingFront, IsFront, at_null, copied, copies, copy_answer, number_kind, of_other_kinds, out_of_range}

-- ---- Null, and arrays.

null_or_not : (c : ArrayCopy) → HasNull c → HasNoNull c → ⊥
null_or_not c some none = both_ways (is_null c.source || is_null c.target) none some

array_is_not_null : (heap : List NamedObject) (v : Value) → IsHeapArray heap v → is_null v ≡ false
array_is_not_null heap v a = ap is_null a.refers

pair_has_no_null : (heap : List NamedObject) (c : ArrayCopy) → ArrayPair heap c → HasNoNull c
pair_has_no_null heap c p =
    let source : is_null c.source ≡ false = array_is_not_null heap c.source p.source in
    let target : is_null c.target ≡ false = array_is_not_null heap c.target p.target in
    rw (source, target) refl

module _ (heap : List NamedObject) (c : ArrayCopy) (p q : ArrayPair heap c) where
  one_source : IsOneArray p.source.name q.source.name p.source.element q.source.element p.source.items q.source.items
  one_source = one_array heap c.source c.source p.source q.source refl

  one_target : IsOneArray p.target.name q.target.name p.target.element q.target.element p.target.items q.target.items
  one_target = one_array heap c.target c.target p.target q.target refl

  same_range : CopyRange p → CopyRange q
  same_range r = record {
    from = r.from;
    is_from = r.is_from;
    to = r.to;
    is_to = r.is_to;
    count = r.count;
    is_count = r.is_count;
    in_source = subst (λ (xs : List Value). r.from + r.count ≤ length xs) one_source.items r.in_source;
    in_target = subst (λ (xs : List Value). r.to + r.count ≤ length xs) one_target.items r.in_target;
  }

-- ---- The front that fits.

module _ (x : Setting) (heap : List NamedObject) (t : TypeRef) (items : List Value) where
  no_longer_front : (m n : ℕ) → IsFittingFront x heap t items m → IsFittingFront x heap t items n → m < n → ⊥
  no_longer_front m n short long less =
      let within : n ≤ length items = long.within in
      let (v, at) = item_there items m (omega arith) in
      short.next v at (long.fit m v less at)

  one_fitting_front : (m n : ℕ) → IsFittingFront x heap t items m → IsFittingFront x heap t items n → m ≡ n
  one_fitting_front m n p q = elim (cases_order m n) [
    | inl same ↦ same
    | inr (inl less) ↦ absurd (no_longer_front m n p q less)
    | inr (inr more) ↦ absurd (no_longer_front n m q p more)
  ]

  one_front_by : (kind : Option BaseRef) (m n : ℕ)
      → MatchOption kind (IsFittingFront x heap t items m) (λ (k : BaseRef). m ≡ length items)
      → MatchOption kind (IsFittingFront x heap t items n) (λ (k : BaseRef). n ≡ length items) → m ≡ n
  one_front_by None m n p q = one_fitting_front m n p q
  one_front_by (Some k) m n p q = p ∙ sym q

  one_front : (m n : ℕ) → IsFront x heap t items m → IsFront x heap t items n → m ≡ n
  one_front m n p q = one_front_by (number_kind t) m n p q

same_index : (a : ℤ) (m n : ℕ) → a ≡ pos m → a ≡ pos n → m ≡ n
same_index a m n e f = cc

-- ---- The cases.

module _ (x : Setting) (c : ArrayCopy) (old : Inside) (done other : Answered) where
  abbrev left : ℕ → TypeRef → List Value → ℕ → List Value → ℕ → ℕ → ℕ → Answered
  left name element source from target to front count =
      with_answer (with_heap old (with_object name (Array element (copied source from target to front)) old.heap)) (copy_answer front count)

  both_copy : (p q : ArrayPair old.heap c) (r : CopyRange p) (s : CopyRange q) (m n : ℕ)
      → IsFront x old.heap p.target.element (take r.count (drop r.from p.source.items)) m
      → IsFront x old.heap q.target.element (take s.count (drop s.from q.source.items)) n
      → done ≡ left p.target.name p.target.element p.source.items r.from p.target.items r.to m r.count
      → other ≡ left q.target.name q.target.element q.source.items s.from q.target.items s.to n s.count → done ≡ other
  both_copy p q r s m n front also is too =
      let source = one_source old.heap c p q in
      let target = one_target old.heap c p q in
      let from : r.from ≡ s.from = same_index c.from r.from s.from r.is_from s.is_from in
      let to : r.to ≡ s.to = same_index c.to r.to s.to r.is_to s.is_to in
      let count : r.count ≡ s.count = same_index c.count r.count s.count r.is_count s.is_count in
      let moved : IsFront x old.heap q.target.element (take s.count (drop s.from q.source.items)) m =
      subst (λ (e : TypeRef). IsFront x old.heap e (take s.count (drop s.from q.source.items)) m) target.element
      (subst (λ (vs : List Value). IsFront x old.heap p.target.element vs m)
      (λ j. take (count j) (drop (from j) (source.items j))) front) in
      let fronts : m ≡ n = one_front x old.heap q.target.element (take s.count (drop s.from q.source.items)) m n moved also in
      is
      ∙ (λ j. left (target.name j) (target.element j) (source.items j) (from j) (target.items j) (to j) (fronts j) (count j))
      ∙ sym too

  pub copies_agree : CopiesItems x c old done → CopiesItems x c old other → done ≡ other
  copies_agree (at_null some is) (at_null also too) = is ∙ sym too
  copies_agree (at_null some is) (of_other_kinds none pair too) = absurd (null_or_not c some none)
  copies_agree (at_null some is) (out_of_range p range too) = absurd (null_or_not c some (pair_has_no_null old.heap c p))
  copies_agree (at_null some is) (copies p r front fits too) = absurd (null_or_not c some (pair_has_no_null old.heap c p))
  copies_agree (of_other_kinds none pair is) (at_null some too) = absurd (null_or_not c some none)
  copies_agree (of_other_kinds none pair is) (of_other_kinds also other too) = is ∙ sym too
  copies_agree (of_other_kinds none pair is) (out_of_range p range too) = absurd (pair p)
  copies_agree (of_other_kinds none pair is) (copies p r front fits too) = absurd (pair p)
  copies_agree (out_of_range p range is) (at_null some too) = absurd (null_or_not c some (pair_has_no_null old.heap c p))
  copies_agree (out_of_range p range is) (of_other_kinds none pair too) = absurd (pair p)
  copies_agree (out_of_range p range is) (out_of_range q also too) = is ∙ sym too
  copies_agree (out_of_range p range is) (copies q r front fits too) = absurd (range (same_range old.heap c q p r))
  copies_agree (copies p r front fits is) (at_null some too) = absurd (null_or_not c some (pair_has_no_null old.heap c p))
  copies_agree (copies p r front fits is) (of_other_kinds none pair too) = absurd (pair p)
  copies_agree (copies p r front fits is) (out_of_range q range too) = absurd (range (same_range old.heap c p q r))
  copies_agree (copies p r front fits is) (copies q s also same too) = both_copy p q r s front also fits same is too

-- ---- The arguments.

abbrev given_by : ArrayCopy → List Value
given_by c = c.source ∷ Held.Int c.from ∷ c.target ∷ Held.Int c.to ∷ Held.Int c.count ∷ []

same_arguments : (c d : ArrayCopy) → given_by c ≡ given_by d → c ≡ d
same_arguments c d e =
    let source : c.source ≡ d.source = cc in
    let from : c.from ≡ d.from = cc in
    let target : c.target ≡ d.target = cc in
    let to : c.to ≡ d.to = cc in
    let count : c.count ≡ d.count = cc in
    λ j. record { source = source j; from = from j; target = target j; to = to j; count = count j }

pub one_copy : (x : Setting) (given : List Value) (old : Inside) (done other : Answered) → CopiesArray x given old done
    → CopiesArray x given old other → done ≡ other
one_copy x given old done other (c, is, copy) (d, too, also) =
    let same : c ≡ d = same_arguments c d (sym is ∙ too) in
    copies_agree x d old done other (subst (λ (e : ArrayCopy). CopiesItems x e old done) same copy) also
