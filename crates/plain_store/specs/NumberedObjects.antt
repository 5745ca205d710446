-- Objects that are named by their places in a list: what a heap of them has under a name, and what it is after a change.
use Rattle.std.proofs.Common.{inl, inr, ◌≡◌, ◌≢◌, ℕ, zero, suc, ◌+◌, ◌==◌, Bool, true, false, cond, List, [], ◌∷◌, ◌++◌, length, map, set, find, Some, slice_get, refl, sym, ap, ◌∙◌, arith}
use Rattle.std.specs.List.{enumerate_from}
use Rattle.std.specs.Option.{option_map}
use Rattle.std.proofs.lemmas.Bool.{eq-eqb, eqb-false, eqb-true}
use Rattle.std.proofs.lemmas.Bool.Decides.{eqb_tells}
use Rattle.std.proofs.lemmas.List.{map_push}
use Rattle.list_lemmas.proofs.LastItems.{enumerate_from-push}
use Rattle.jk_model_domains.specs.Objects.{NamedObject, Object, object_named}
use Rattle.jk_model_heaps.specs.Heaps.{named, with_object}

-- what a function says of the items of a list, each under its place, the first under this one
abbrev pub numbered_from : {X : Type 0} → ℕ → (X → Object) → List X → List NamedObject
numbered_from {X} n f xs = map (λ (p : ℕ × X). named p.0 (f p.1)) (enumerate_from n xs)

abbrev pub heap_of : {X : Type 0} → (X → Object) → List X → List NamedObject
heap_of f xs = numbered_from 0 f xs

abbrev object_in : NamedObject → Object
object_in e = e.object

abbrev has_name : ℕ → NamedObject → Bool
has_name a e = e.name == a

not_equal : (a b : ℕ) → a ≢ b → (a == b) ≡ false
not_equal a b differ = elim (eqb_tells a b) [ inl h ↦ absurd (differ h.1) | inr h ↦ h.0 ]

head_by : (n b : ℕ) (p q o : Object) (t : Bool) → (n == b) ≡ t → (n ≡ b → q ≡ o) → (n ≢ b → q ≡ p)
    → named n q ≡ cond t (named b o) (named n p)
head_by n b p q o true t here other =
    let same : n ≡ b = eqb-true n b t in
    ap (λ (m : ℕ). named m q) same ∙ ap (named b) (here same)
head_by n b p q o false t here other = ap (named n) (other (eqb-false n b t))

module _ {X : Type 0} (f : X → Object) where
  get-numbered : (n : ℕ) (xs : List X) (k : ℕ)
      → slice_get (numbered_from n f xs) k ≡ option_map (λ (x : X). named (n + k) (f x)) (slice_get xs k)
  get-numbered n [] k = refl
  get-numbered n (x ∷ xs) zero = let e : n ≡ n + 0 = omega arith in ap (λ (m : ℕ). Some (named m (f x))) e
  get-numbered n (x ∷ xs) (suc k) =
      let e : (n + 1) + k ≡ n + suc k = omega arith in
      get-numbered (n + 1) xs k ∙ ap (λ (m : ℕ). option_map (λ (y : X). named m (f y)) (slice_get xs k)) e

  pub get-heap : (xs : List X) (k : ℕ) → slice_get (heap_of f xs) k ≡ option_map (λ (x : X). named k (f x)) (slice_get xs k)
  get-heap xs k =
      let e : 0 + k ≡ k = omega arith in
      get-numbered 0 xs k ∙ ap (λ (m : ℕ). option_map (λ (y : X). named m (f y)) (slice_get xs k)) e

  -- what stands under a name
  named-numbered : (n : ℕ) (xs : List X) (k b : ℕ) → b ≡ n + k → object_named (numbered_from n f xs) b ≡ option_map f (slice_get xs k)
  named-numbered n [] k b e = refl
  named-numbered n (x ∷ xs) zero b e =
      let same : (n == b) ≡ true = eq-eqb n b (omega (arith, e)) in
      ap (λ (t : Bool). option_map object_in (cond t (Some (named n (f x))) (find (has_name b) (numbered_from (n + 1) f xs)))) same
  named-numbered n (x ∷ xs) (suc k) b e =
      let other : (n == b) ≡ false = not_equal n b (λ h. absurd (omega (arith, e, h))) in
      ap (λ (t : Bool). option_map object_in (cond t (Some (named n (f x))) (find (has_name b) (numbered_from (n + 1) f xs)))) other
      ∙ named-numbered (n + 1) xs k b (omega (arith, e))

  pub named-heap : (xs : List X) (a : ℕ) → object_named (heap_of f xs) a ≡ option_map f (slice_get xs a)
  named-heap xs a = named-numbered 0 xs a a (omega arith)

  -- one more item
  pub heap-push : (xs : List X) (x : X) → heap_of f (xs ++ x ∷ []) ≡ heap_of f xs ++ named (length xs) (f x) ∷ []
  heap-push xs x =
      let e : 0 + length xs ≡ length xs = omega arith in
      ap (map (λ (p : ℕ × X). named p.0 (f p.1))) (enumerate_from-push 0 xs x)
      ∙ map_push (λ (p : ℕ × X). named p.0 (f p.1)) (enumerate_from 0 xs) (0 + length xs, x)
      ∙ ap (λ (m : ℕ). heap_of f xs ++ named m (f x) ∷ []) e

  -- an item that is replaced by another with the same object
  numbered-set : (n : ℕ) (xs : List X) (a : ℕ) (y : X) → ((x : X) → slice_get xs a ≡ Some x → f y ≡ f x)
      → numbered_from n f (set xs a y) ≡ numbered_from n f xs
  numbered-set n [] a y h = refl
  numbered-set n (x ∷ xs) zero y h = ap (λ (o : Object). named n o ∷ numbered_from (n + 1) f xs) (h x refl)
  numbered-set n (x ∷ xs) (suc a) y h = ap (λ (es : List NamedObject). named n (f x) ∷ es) (numbered-set (n + 1) xs a y h)

  pub heap-set : (xs : List X) (a : ℕ) (y : X) → ((x : X) → slice_get xs a ≡ Some x → f y ≡ f x) → heap_of f (set xs a y) ≡ heap_of f xs
  heap-set xs a y h = numbered-set 0 xs a y h

  module _ (g : X → Object) where
    -- functions that say the same of the items
    numbered-same : (n : ℕ) (xs : List X) → ((k : ℕ) (x : X) → slice_get xs k ≡ Some x → g x ≡ f x) → numbered_from n g xs ≡ numbered_from n f xs
    numbered-same n [] h = refl
    numbered-same n (x ∷ xs) h =
        ap (λ (o : Object). named n o ∷ numbered_from (n + 1) g xs) (h 0 x refl)
        ∙ ap (λ (es : List NamedObject). named n (f x) ∷ es) (numbered-same (n + 1) xs (λ k y e. h (suc k) y e))

    pub heap-same : (xs : List X) → ((k : ℕ) (x : X) → slice_get xs k ≡ Some x → g x ≡ f x) → heap_of g xs ≡ heap_of f xs
    heap-same xs h = numbered-same 0 xs h

    -- functions that say the same of all items but one
    numbered-written : (n : ℕ) (xs : List X) (b : ℕ) (o : Object) → ((k : ℕ) (x : X) → slice_get xs k ≡ Some x → n + k ≡ b → g x ≡ o)
        → ((k : ℕ) (x : X) → slice_get xs k ≡ Some x → n + k ≢ b → g x ≡ f x) → numbered_from n g xs ≡ with_object b o (numbered_from n f xs)
    numbered-written n [] b o here other = refl
    numbered-written n (x ∷ xs) b o here other =
        let first : named n (g x) ≡ cond (n == b) (named b o) (named n (f x)) =
        head_by n b (f x) (g x) o (n == b) refl (λ e. here 0 x refl (omega (arith, e))) (λ ne. other 0 x refl (λ e. ne (omega (arith, e)))) in
        let rest : numbered_from (n + 1) g xs ≡ with_object b o (numbered_from (n + 1) f xs) =
        numbered-written (n + 1) xs b o (λ k y at e. here (suc k) y at (omega (arith, e))) (λ k y at ne. other (suc k) y at (λ e. ne (omega (arith, e)))) in
        ap (λ (e : NamedObject). e ∷ numbered_from (n + 1) g xs) first
        ∙ ap (λ (es : List NamedObject). cond (n == b) (named b o) (named n (f x)) ∷ es) rest

    pub heap-written : (xs : List X) (a : ℕ) (o : Object) → ((x : X) → slice_get xs a ≡ Some x → g x ≡ o)
        → ((k : ℕ) (x : X) → slice_get xs k ≡ Some x → k ≢ a → g x ≡ f x) → heap_of g xs ≡ with_object a o (heap_of f xs)
    heap-written xs a o here other =
        numbered-written 0 xs a o
        (λ k x at e. let same : k ≡ a = omega (arith, e) in here x (ap (slice_get xs) (sym same) ∙ at))
        (λ k x at ne. other k x at (λ e. ne (omega (arith, e))))
