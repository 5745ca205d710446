-- Among cases whose keys rise, a binary search finds the first one with a key.
use Rattle.std.proofs.Common.{◌≡◌, ◌≢◌, ℕ, zero, suc, ◌<◌, ◌≤◌, ◌⊎◌, inl, inr, ℤ, List, [], ◌∷◌, length, get_or, Option, Some, None, cond, refl, sym, ap, subst, ◌∙◌, Err, arith}
use Rattle.std.specs.Prelude.{find, ◌<ℤ◌}
use Rattle.std.specs.Ordering.{MatchOrdering, int_cmp, int_eq, is_eq, ordering_index}
use Rattle.std.specs.Cmp.{int_cmp_is, int_ranks}
use Rattle.std.specs.declared.cmp.Ordering.{Ordering}
use Rattle.std.specs.declared.cmp.Ordering.TheVariants.{Less, Equal, Greater}
use Rattle.std.specs.List.Sorted.{IsBinarySearchResult}
use Rattle.std.specs.Option.{option_map_or}
use Rattle.std.proofs.lemmas.Int.{ints}
use Rattle.jk_model.specs.declared.instructions.Instr.{Instr}
use Rattle.jk_model.specs.declared.instructions.SwitchCase.{SwitchCase}
use Rattle.jk_model.specs.Instructions.{Rises}
use Rattle.jk_model_domains.specs.NumberRows.{switch_target}
use Rattle.number_ops.specs.Operands.{keys_of}

lt_trans : (a b c : ℤ) → a <ℤ b → b <ℤ c → a <ℤ c
lt_trans a b c h k = omega (arith, ints)

no_less : (a b : ℤ) → a <ℤ b → b <ℤ a → ⊥
no_less a b h k = absurd (omega (arith, ints))

head_below : (x : SwitchCase) (xs : List SwitchCase) (p : ℕ) (d : SwitchCase) → Rises (x.key ∷ keys_of xs) → p < length xs
    → x.key <ℤ (get_or xs p d).key
head_below x [] p d up lt = absurd (omega arith)
head_below x (y ∷ ys) zero d up lt = up.0
head_below x (y ∷ ys) (suc p) d up lt = lt_trans _ _ _ up.0 (head_below y ys p d up.1 (omega arith))

tail_rises : (x : SwitchCase) (xs : List SwitchCase) → Rises (x.key ∷ keys_of xs) → Rises (keys_of xs)
tail_rises x [] up = tt
tail_rises x (y ∷ ys) up = up.1

rises_far : (cs : List SwitchCase) (a b : ℕ) (d : SwitchCase) → Rises (keys_of cs) → a < b → b < length cs
    → (get_or cs a d).key <ℤ (get_or cs b d).key
rises_far [] a b d up lt within = absurd (omega arith)
rises_far (x ∷ xs) a zero d up lt within = absurd (omega arith)
rises_far (x ∷ xs) zero (suc b) d up lt within = head_below x xs b d up (omega arith)
rises_far (x ∷ xs) (suc a) (suc b) d up lt within = rises_far xs a b d (tail_rises x xs up) (omega arith) (omega arith)

equal_or_less : (a b : ℕ) → a ≤ b → (a ≡ b) ⊎ (a < b)
equal_or_less zero zero h = inl refl
equal_or_less zero (suc b) h = inr (omega arith)
equal_or_less (suc a) zero h = absurd (omega arith)
equal_or_less (suc a) (suc b) h = elim (equal_or_less a b (omega arith)) [ inl e ↦ inl (ap suc e) | inr l ↦ inr (omega (arith, l)) ]

module _ (key : ℤ) where
  mono : (k l : ℤ) (o q : Ordering) → MatchOrdering o (k <ℤ key) (k ≡ key) (key <ℤ k) → MatchOrdering q (l <ℤ key) (l ≡ key) (key <ℤ l)
      → k <ℤ l → ordering_index o ≤ ordering_index q
  mono k l Less q h j lt = omega arith
  mono k l Equal Less h j lt = absurd (no_less l k (subst (λ (z : ℤ). l <ℤ z) (sym h) j) lt)
  mono k l Equal Equal h j lt = omega arith
  mono k l Equal Greater h j lt = omega arith
  mono k l Greater Less h j lt = absurd (no_less l k (lt_trans _ _ _ j h) lt)
  mono k l Greater Equal h j lt = absurd (no_less l k (subst (λ (z : ℤ). z <ℤ k) (sym j) h) lt)
  mono k l Greater Greater h j lt = omega arith

  pub found : (cs : List SwitchCase) (p : ℕ) (d : SwitchCase) → Rises (keys_of cs) → p < length cs
      → int_cmp (get_or cs p d).key key ≡ Equal → find (λ (c : SwitchCase). int_eq c.key key) cs ≡ Some (get_or cs p d)
  found [] p d up lt is = absurd (omega arith)
  found (x ∷ xs) zero d up lt is =
      ap (λ (o : Ordering). cond (is_eq o) (Some x) (find (λ (c : SwitchCase). int_eq c.key key) xs)) is
  found (x ∷ xs) (suc p) d up lt is =
      let there : (get_or xs p d).key ≡ key =
      subst (λ (o : Ordering). MatchOrdering o ((get_or xs p d).key <ℤ key) ((get_or xs p d).key ≡ key) (key <ℤ (get_or xs p d).key)) is
      (int_ranks (get_or xs p d).key key) in
      let below : x.key <ℤ key = subst (λ (z : ℤ). x.key <ℤ z) there (head_below x xs p d up (omega arith)) in
      let less : Less ≡ int_cmp x.key key = int_cmp_is x.key key Less below in
      ap (λ (o : Ordering). cond (is_eq o) (Some x) (find (λ (c : SwitchCase). int_eq c.key key) xs)) (sym less)
      ∙ found xs p d (tail_rises x xs up) (omega arith) is

  none_at : (x : SwitchCase) (rest : Option SwitchCase) (o : Ordering) → o ≢ Equal → cond (is_eq o) (Some x) rest ≡ rest
  none_at x rest Less h = refl
  none_at x rest Equal h = absurd (h refl)
  none_at x rest Greater h = refl

  none : (cs : List SwitchCase) → ((p : ℕ) (d : SwitchCase) → p < length cs → int_cmp (get_or cs p d).key key ≢ Equal)
      → find (λ (c : SwitchCase). int_eq c.key key) cs ≡ None
  none [] h = refl
  none (x ∷ xs) h =
      none_at x (find (λ (c : SwitchCase). int_eq c.key key) xs) (int_cmp x.key key) (h 0 x (omega arith))
      ∙ none xs (λ p d lt. h (suc p) d (omega arith))

  not_found : (cs : List SwitchCase) (i : ℕ) → Rises (keys_of cs) → IsBinarySearchResult (λ (c : SwitchCase). int_cmp c.key key) cs (Err i)
      → (p : ℕ) (d : SwitchCase) → p < length cs → int_cmp (get_or cs p d).key key ≢ Equal
  not_found cs i up h p d lt e =
      let parted = h (λ a b x le within. elim (equal_or_less a b le) [
        | inl same ↦ (let P : ℕ → Type 0 = λ k. ordering_index (int_cmp (get_or cs a x).key key) ≤ ordering_index (int_cmp (get_or cs k x).key key) in
            subst P same (omega arith))
        | inr less ↦ mono (get_or cs a x).key (get_or cs b x).key _ _ (int_ranks (get_or cs a x).key key) (int_ranks (get_or cs b x).key key)
            (rises_far cs a b x up less within)
      ]) in
      elim (side p i) [
        | inl low ↦ (let less = parted.0 p d (omega arith) low in absurd cc)
        | inr high ↦ (let greater = parted.1 p d high lt in absurd cc)
      ]
    where
      side : (a b : ℕ) → (a < b) ⊎ (b ≤ a)
      side a zero = inr (omega arith)
      side zero (suc b) = inl (omega arith)
      side (suc a) (suc b) = elim (side a b) [ inl l ↦ inl (omega (arith, l)) | inr l ↦ inr (omega (arith, l)) ]

  pub target_found : (i : Instr) (p : ℕ) (d : SwitchCase) → Rises (keys_of i.cases) → p < length i.cases
      → int_cmp (get_or i.cases p d).key key ≡ Equal → switch_target i key ≡ (get_or i.cases p d).target
  target_found i p d up lt is =
      ap (λ (o : Option SwitchCase). option_map_or (λ (c : SwitchCase). c.target) o i.a) (found i.cases p d up lt is)

  pub no_target : (i : Instr) (p : ℕ) → Rises (keys_of i.cases) → IsBinarySearchResult (λ (c : SwitchCase). int_cmp c.key key) i.cases (Err p)
      → switch_target i key ≡ i.a
  no_target i p up h =
      ap (λ (o : Option SwitchCase). option_map_or (λ (c : SwitchCase). c.target) o i.a) (none i.cases (not_found i.cases p up h))
