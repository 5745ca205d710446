-- Fitting is an order of lists and of frames too: entry by entry, and by places.
use Rattle.std.proofs.Common.{◌≡◌, ℕ, zero, suc, List, [], ◌∷◌, ◌++◌, length, Some, slice_get, refl, ap, subst, arith}
use Rattle.std.specs.List.{AllByRecursion}
use Rattle.std.proofs.lemmas.List.Sums.{sum_by-cons}
use Rattle.std.proofs.lemmas.Option.{same_Some}
use Rattle.jk_model_classes.specs.declared.records.ClassRecord.{ClassRecord}
use Rattle.jk_model_classes.specs.Classes.{AreOrdered}
use Rattle.jk_model_typing.specs.declared.frames.VType.{VType}
use Rattle.jk_model_typing.specs.declared.frames.VType.TheVariants.{Unusable, Null, Ref}
use Rattle.jk_model_typing.specs.declared.frames.FrameType.{FrameType}
use Rattle.jk_model_typing.specs.FrameTypes.{Fits, EachFits, FrameFits, IsUsable, slots, slots_of}
use Rattle.type_frames.proofs.OrderOfTypes.{Fits-refl, Fits-trans, Fits-antisym}

module _ (classes : List ClassRecord) where
  -- ---- Lists.

  pub EachFits-refl : (xs : List VType) → EachFits classes xs xs
  EachFits-refl [] = tt
  EachFits-refl (x ∷ xs) = (Fits-refl classes x, EachFits-refl xs)

  pub EachFits-length : (xs ys : List VType) → EachFits classes xs ys → length xs ≡ length ys
  EachFits-length [] [] h = refl
  EachFits-length [] (y ∷ ys) h = absurd h
  EachFits-length (x ∷ xs) [] h = absurd h
  EachFits-length (x ∷ xs) (y ∷ ys) h = ap suc (EachFits-length xs ys h.1)

  -- ---- By places.

  pub EachFits-at : (xs ys : List VType) (k : ℕ) (a b : VType) → EachFits classes xs ys → slice_get xs k ≡ Some a → slice_get ys k ≡ Some b
      → Fits classes a b
  EachFits-at [] ys k a b h at at_too = absurd cc
  EachFits-at (x ∷ xs) [] k a b h at at_too = absurd h
  EachFits-at (x ∷ xs) (y ∷ ys) zero a b h at at_too =
      subst (λ (v : VType). Fits classes v b) (same_Some x a at) (subst (λ (v : VType). Fits classes x v) (same_Some y b at_too) h.0)
  EachFits-at (x ∷ xs) (y ∷ ys) (suc k) a b h at at_too = EachFits-at xs ys k a b h.1 at at_too

  -- what an entry of the first fits
  pub EachFits-right_at : (xs ys : List VType) (k : ℕ) (a : VType) → EachFits classes xs ys → slice_get xs k ≡ Some a
      → (b : VType) × (slice_get ys k ≡ Some b) × Fits classes a b
  EachFits-right_at [] ys k a h at = absurd cc
  EachFits-right_at (x ∷ xs) [] k a h at = absurd h
  EachFits-right_at (x ∷ xs) (y ∷ ys) zero a h at = (y, refl, subst (λ (v : VType). Fits classes v y) (same_Some x a at) h.0)
  EachFits-right_at (x ∷ xs) (y ∷ ys) (suc k) a h at = EachFits-right_at xs ys k a h.1 at

  -- what fits an entry of the second
  pub EachFits-left_at : (xs ys : List VType) (k : ℕ) (b : VType) → EachFits classes xs ys → slice_get ys k ≡ Some b
      → (a : VType) × (slice_get xs k ≡ Some a) × Fits classes a b
  EachFits-left_at [] [] k b h at = absurd cc
  EachFits-left_at [] (y ∷ ys) k b h at = absurd h
  EachFits-left_at (x ∷ xs) [] k b h at = absurd h
  EachFits-left_at (x ∷ xs) (y ∷ ys) zero b h at = (x, refl, subst (λ (v : VType). Fits classes x v) (same_Some y b at) h.0)
  EachFits-left_at (x ∷ xs) (y ∷ ys) (suc k) b h at = EachFits-left_at xs ys k b h.1 at

  pub EachFits-from_places : (xs ys : List VType) → length xs ≡ length ys
      → ((k : ℕ) (a b : VType) → slice_get xs k ≡ Some a → slice_get ys k ≡ Some b → Fits classes a b) → EachFits classes xs ys
  EachFits-from_places [] [] same h = tt
  EachFits-from_places [] (y ∷ ys) same h = absurd (omega arith)
  EachFits-from_places (x ∷ xs) [] same h = absurd (omega arith)
  EachFits-from_places (x ∷ xs) (y ∷ ys) same h =
      (h 0 x y refl refl, EachFits-from_places xs ys (omega arith) (λ k a b at at_too. h (suc k) a b at at_too))

  -- ---- Lists one after the other.

  pub EachFits-append : (xs ys us vs : List VType) → EachFits classes xs ys → EachFits classes us vs → EachFits classes (xs ++ us) (ys ++ vs)
  EachFits-append [] [] us vs front back = back
  EachFits-append [] (y ∷ ys) us vs front back = absurd front
  EachFits-append (x ∷ xs) [] us vs front back = absurd front
  EachFits-append (x ∷ xs) (y ∷ ys) us vs front back = (front.0, EachFits-append xs ys us vs front.1 back)

  pub EachFits-append_parts : (xs ys us vs : List VType) → length xs ≡ length ys → EachFits classes (xs ++ us) (ys ++ vs)
      → EachFits classes xs ys × EachFits classes us vs
  EachFits-append_parts [] [] us vs same h = (tt, h)
  EachFits-append_parts [] (y ∷ ys) us vs same h = absurd (omega arith)
  EachFits-append_parts (x ∷ xs) [] us vs same h = absurd (omega arith)
  EachFits-append_parts (x ∷ xs) (y ∷ ys) us vs same h =
      let rest = EachFits-append_parts xs ys us vs (omega arith) h.1 in ((h.0, rest.0), rest.1)

  -- the parts of what a list of two parts fits
  pub EachFits-append_left : (xs us zs : List VType) → EachFits classes (xs ++ us) zs
      → (ys : List VType) × (vs : List VType) × (zs ≡ ys ++ vs) × EachFits classes xs ys × EachFits classes us vs
  EachFits-append_left [] us zs h = ([], zs, refl, tt, h)
  EachFits-append_left (x ∷ xs) us [] h = absurd h
  EachFits-append_left (x ∷ xs) us (z ∷ zs) h =
      let rest = EachFits-append_left xs us zs h.1 in
      (z ∷ rest.0, rest.1, ap (λ (l : List VType). z ∷ l) rest.2, (h.0, rest.3), rest.4)

  -- the parts of what fits a list of two parts
  pub EachFits-append_right : (zs ys vs : List VType) → EachFits classes zs (ys ++ vs)
      → (xs : List VType) × (us : List VType) × (zs ≡ xs ++ us) × EachFits classes xs ys × EachFits classes us vs
  EachFits-append_right zs [] vs h = ([], zs, refl, tt, h)
  EachFits-append_right [] (y ∷ ys) vs h = absurd h
  EachFits-append_right (z ∷ zs) (y ∷ ys) vs h =
      let rest = EachFits-append_right zs ys vs h.1 in
      (z ∷ rest.0, rest.1, ap (λ (l : List VType). z ∷ l) rest.2, (h.0, rest.3), rest.4)

  -- ---- Entries that can be used.

  pub Fits-usable : (a b : VType) → Fits classes a b → IsUsable b → IsUsable a
  Fits-usable a Unusable h usable = absurd usable
  Fits-usable Unusable (Ref r) h usable = absurd cc
  Fits-usable Unusable b h usable = absurd cc
  Fits-usable a b h usable = tt

  pub Fits-slots : (a b : VType) → Fits classes a b → IsUsable b → slots_of a ≡ slots_of b
  Fits-slots a Unusable h usable = absurd usable
  Fits-slots Null (Ref r) h usable = refl
  Fits-slots (Ref a) (Ref b) h usable = refl
  Fits-slots a b h usable = ap slots_of h

  pub EachFits-usable : (xs ys : List VType) → EachFits classes xs ys → AllByRecursion IsUsable ys → AllByRecursion IsUsable xs
  EachFits-usable [] [] h usable = tt
  EachFits-usable [] (y ∷ ys) h usable = absurd h
  EachFits-usable (x ∷ xs) [] h usable = absurd h
  EachFits-usable (x ∷ xs) (y ∷ ys) h usable = (Fits-usable x y h.0 usable.0, EachFits-usable xs ys h.1 usable.1)

  pub EachFits-slots : (xs ys : List VType) → EachFits classes xs ys → AllByRecursion IsUsable ys → slots xs ≡ slots ys
  EachFits-slots [] [] h usable = refl
  EachFits-slots [] (y ∷ ys) h usable = absurd h
  EachFits-slots (x ∷ xs) [] h usable = absurd h
  EachFits-slots (x ∷ xs) (y ∷ ys) h usable =
      let first = Fits-slots x y h.0 usable.0 in
      let rest = EachFits-slots xs ys h.1 usable.1 in
      omega (arith, sum_by-cons slots_of x xs, sum_by-cons slots_of y ys)

  -- ---- Frames.

  pub FrameFits-refl : (f : FrameType) → AllByRecursion IsUsable f.stack → FrameFits classes f f
  FrameFits-refl f usable = record {
    locals = EachFits-refl f.locals;
    stack = EachFits-refl f.stack;
    usable = usable;
    fresh = λ yes. yes;
  }

module _ (classes : List ClassRecord) (ordered : AreOrdered classes) where
  pub EachFits-trans : (xs ys zs : List VType) → EachFits classes xs ys → EachFits classes ys zs → EachFits classes xs zs
  EachFits-trans [] [] zs xy yz = yz
  EachFits-trans [] (y ∷ ys) zs xy yz = absurd xy
  EachFits-trans (x ∷ xs) [] zs xy yz = absurd xy
  EachFits-trans (x ∷ xs) (y ∷ ys) [] xy yz = absurd yz
  EachFits-trans (x ∷ xs) (y ∷ ys) (z ∷ zs) xy yz =
      (Fits-trans classes ordered x y z xy.0 yz.0, EachFits-trans xs ys zs xy.1 yz.1)

  pub EachFits-antisym : (xs ys : List VType) → EachFits classes xs ys → EachFits classes ys xs → xs ≡ ys
  EachFits-antisym [] [] xy yx = refl
  EachFits-antisym [] (y ∷ ys) xy yx = absurd xy
  EachFits-antisym (x ∷ xs) [] xy yx = absurd xy
  EachFits-antisym (x ∷ xs) (y ∷ ys) xy yx =
      let first : x ≡ y = Fits-antisym classes ordered x y xy.0 yx.0 in
      let rest : xs ≡ ys = EachFits-antisym xs ys xy.1 yx.1 in
      cc

  pub FrameFits-trans : (f g h : FrameType) → FrameFits classes f g → FrameFits classes g h → FrameFits classes f h
  FrameFits-trans f g h fg gh = record {
    locals = EachFits-trans f.locals g.locals h.locals fg.locals gh.locals;
    stack = EachFits-trans f.stack g.stack h.stack fg.stack gh.stack;
    usable = gh.usable;
    fresh = λ yes. gh.fresh (fg.fresh yes);
  }
