-- Items of lists that are counted one list after another: the number of an item tells the list and the place in it.
use Rattle.std.proofs.Common.{◌≡◌, ℕ, zero, suc, ◌+◌, ◌-◌, ◌<◌, List, [], ◌∷◌, ◌++◌, length, take, map, flat_map, Option, Some, None, option_map, option_and_then, slice_get, inl, inr, refl, sym, ap, subst, ◌∙◌, arith, sum_by}
use Rattle.std.proofs.lemmas.Bool.{cases_lt}
use Rattle.std.proofs.lemmas.List.Sums.{sum_by-cons}
use Rattle.std.proofs.lemmas.Option.{same_Some, slice_get_within}
use Rattle.list_lemmas.proofs.ItemsByPlace.{item_there, slice_get-back, slice_get-longer}
use Rattle.jk_model.specs.declared.identifiers.MemberId.{MemberId}
use Rattle.jk_model.specs.SystemTable.{SystemClass, first_method_number, system_classes}
use Rattle.jk_model_system_rows.specs.declared.meanings.SystemMeaning.{SystemMeaning}
use Rattle.jk_model_system_rows.specs.Meanings.{MethodMeaning, meaning_numbered, meaning_of, number_of, system_meanings}

-- how many items the lists of these lengths have before the one at a place, and together
abbrev before : List ℕ → ℕ → ℕ
before [] n = 0
before (l ∷ ls) zero = 0
before (l ∷ ls) (suc n) = l + before ls n

abbrev total : List ℕ → ℕ
total [] = 0
total (l ∷ ls) = l + total ls

same_spot : (ls : List ℕ) (n k i j l m : ℕ) → slice_get ls n ≡ Some l → slice_get ls k ≡ Some m → i < l → j < m
    → before ls n + i ≡ before ls k + j → (n ≡ k) × (i ≡ j)
same_spot [] n k i j l m at also low short e = absurd cc
same_spot (a ∷ ls) zero zero i j l m at also low short e = (refl, omega arith)
same_spot (a ∷ ls) zero (suc k) i j l m at also low short e = let same : a ≡ l = same_Some a l at in absurd (omega arith)
same_spot (a ∷ ls) (suc n) zero i j l m at also low short e = let same : a ≡ m = same_Some a m also in absurd (omega arith)
same_spot (a ∷ ls) (suc n) (suc k) i j l m at also low short e =
    let rest = same_spot ls n k i j l m at also low short (omega arith) in
    (ap suc rest.0, rest.1)

abbrev Spot : List ℕ → ℕ → Type 0
Spot ls t = (n : ℕ) × (i : ℕ) × (l : ℕ) × (slice_get ls n ≡ Some l) × (i < l) × (before ls n + i ≡ t)

some_spot : (ls : List ℕ) (t : ℕ) → t < total ls → Spot ls t
some_spot [] t low = absurd (omega (arith, low))
some_spot (a ∷ ls) t low = elim (cases_lt t a) [
  | inl within ↦ (0, t, a, refl, within, omega arith)
  | inr past ↦
      let (n, i, l, at, short, is) = some_spot ls (t - a) (omega arith) in
      (suc n, i, l, at, short, omega arith)
]

module _ {X : Type 0} where
  sum_front : (f : X → ℕ) (xs : List X) (n : ℕ) → sum_by f (take n xs) ≡ before (map f xs) n
  sum_front f [] zero = refl
  sum_front f [] (suc n) = refl
  sum_front f (x ∷ xs) zero = refl
  sum_front f (x ∷ xs) (suc n) = sum_by-cons f x (take n xs) ∙ ap (λ (k : ℕ). f x + k) (sum_front f xs n)

  abbrev joined : List (List X) → List X
  joined xss = flat_map (λ (xs : List X). xs) xss

  abbrev lengths : List (List X) → List ℕ
  lengths xss = map (λ (xs : List X). length xs) xss

  item_numbered : (xss : List (List X)) (n i : ℕ) (xs : List X) (x : X) → slice_get xss n ≡ Some xs → slice_get xs i ≡ Some x
      → slice_get (joined xss) (before (lengths xss) n + i) ≡ Some x
  item_numbered [] n i xs x at there = absurd cc
  item_numbered (ys ∷ xss) zero i xs x at there =
      let same : ys ≡ xs = same_Some ys xs at in
      subst (λ (k : ℕ). slice_get (ys ++ joined xss) k ≡ Some x) (omega arith)
      (slice_get-longer ys (joined xss) i x (ap (λ (zs : List X). slice_get zs i) same ∙ there))
  item_numbered (ys ∷ xss) (suc n) i xs x at there =
      slice_get-back ys (joined xss) (before (lengths xss) n + i) ((length ys + before (lengths xss) n) + i) (omega arith)
      ∙ item_numbered xss n i xs x at there

  length_at : (xss : List (List X)) (n : ℕ) (xs : List X) → slice_get xss n ≡ Some xs → slice_get (lengths xss) n ≡ Some (length xs)
  length_at [] n xs at = absurd cc
  length_at (ys ∷ xss) zero xs at = ap (λ (zs : List X). Some (length zs)) (same_Some ys xs at)
  length_at (ys ∷ xss) (suc n) xs at = length_at xss n xs at

  list_of_length : (xss : List (List X)) (n l : ℕ) → slice_get (lengths xss) n ≡ Some l
      → (xs : List X) × (slice_get xss n ≡ Some xs) × (length xs ≡ l)
  list_of_length [] n l at = absurd cc
  list_of_length (ys ∷ xss) zero l at = (ys, refl, same_Some (length ys) l at)
  list_of_length (ys ∷ xss) (suc n) l at = list_of_length xss n l at

-- ---- The methods of the system classes.

first_number : (n : ℕ) → first_method_number n ≡ before (lengths system_meanings) n
first_number n = sum_front (λ (c : SystemClass). length c.methods) system_classes n

-- the list of a class, and the meaning in it
record MeaningAt (m : MemberId) (meaning : SystemMeaning) : Type 0 where
  pub methods : List MethodMeaning
  pub entry : MethodMeaning
  pub of_class : slice_get system_meanings m.class.0 ≡ Some methods
  pub at : slice_get methods m.index ≡ Some entry
  pub means : entry.meaning ≡ meaning

mapped : (o : Option MethodMeaning) (meaning : SystemMeaning) → option_map (λ (e : MethodMeaning). e.meaning) o ≡ Some meaning
    → (e : MethodMeaning) × (o ≡ Some e) × (e.meaning ≡ meaning)
mapped None meaning e = absurd cc
mapped (Some x) meaning e = (x, refl, same_Some x.meaning meaning e)

in_list : (m : MemberId) (meaning : SystemMeaning) (o : Option (List MethodMeaning)) → slice_get system_meanings m.class.0 ≡ o
    → option_and_then (λ (methods : List MethodMeaning). option_map (λ (e : MethodMeaning). e.meaning) (slice_get methods m.index)) o ≡ Some meaning
    → MeaningAt m meaning
in_list m meaning None is e = absurd cc
in_list m meaning (Some methods) is e =
    let (entry, at, means) = mapped (slice_get methods m.index) meaning e in
    record { methods = methods; entry = entry; of_class = is; at = at; means = means }

meaning_at : (m : MemberId) (meaning : SystemMeaning) → meaning_of m ≡ Some meaning → MeaningAt m meaning
meaning_at m meaning e = in_list m meaning (slice_get system_meanings m.class.0) refl e

pub meaning_by_number : (m : MemberId) (meaning : SystemMeaning) → meaning_of m ≡ Some meaning → meaning_numbered (number_of m) ≡ Some meaning
meaning_by_number m meaning e =
    let h = meaning_at m meaning e in
    let number : before (lengths system_meanings) m.class.0 + m.index ≡ number_of m = ap (λ (k : ℕ). k + m.index) (sym (first_number m.class.0)) in
    let item = item_numbered system_meanings m.class.0 m.index h.methods h.entry h.of_class h.at in
    ap (option_map (λ (x : MethodMeaning). x.meaning)) (subst (λ (k : ℕ). slice_get (joined system_meanings) k ≡ Some h.entry) number item)
    ∙ ap Some h.means

same_member : (m n : MemberId) → m.class.0 ≡ n.class.0 → m.index ≡ n.index → m ≡ n
same_member m n e f = λ j. record { class = record { 0 = e j }; index = f j }

pub one_of_number : (m n : MemberId) (a b : SystemMeaning) → meaning_of m ≡ Some a → meaning_of n ≡ Some b → number_of m ≡ number_of n → m ≡ n
one_of_number m n a b e f same =
    let h = meaning_at m a e in
    let k = meaning_at n b f in
    let spots = same_spot (lengths system_meanings) m.class.0 n.class.0 m.index n.index (length h.methods) (length k.methods)
    (length_at system_meanings m.class.0 h.methods h.of_class) (length_at system_meanings n.class.0 k.methods k.of_class)
    (slice_get_within h.methods m.index h.entry h.at) (slice_get_within k.methods n.index k.entry k.at)
    (ap (λ (x : ℕ). x + m.index) (sym (first_number m.class.0)) ∙ same ∙ ap (λ (x : ℕ). x + n.index) (first_number n.class.0)) in
    same_member m n spots.0 spots.1

pub each_number : (number : ℕ) → number < total (lengths system_meanings)
    → (m : MemberId) × (meaning : SystemMeaning) × (meaning_of m ≡ Some meaning) × (number_of m ≡ number)
each_number number low =
    let (n, i, l, at, short, is) = some_spot (lengths system_meanings) number low in
    let (methods, there, long) = list_of_length system_meanings n l at in
    let (entry, stands) = item_there methods i (omega arith) in (
      record { class = record { 0 = n }; index = i },
      entry.meaning,
      ap (option_and_then (λ (ms : List MethodMeaning). option_map (λ (e : MethodMeaning). e.meaning) (slice_get ms i))) there
          ∙ ap (option_map (λ (e : MethodMeaning). e.meaning)) stands,
      ap (λ (x : ℕ). x + i) (first_number n) ∙ is,
    )
