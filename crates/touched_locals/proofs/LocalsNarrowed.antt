-- The locals of a whole code that are those of a narrowed one widened, by tests; and the locals with which a method begins.
use Rattle.std.proofs.Common.{◌≡◌, ℕ, zero, suc, ◌+◌, ◌<◌, ◌≤◌, Bool, true, false, not, List, [], ◌∷◌, ◌++◌, length, replicate, flat_map, Some, None, refl, sym, ap, ◌∙◌, subst, arith}
use Rattle.std.specs.List.{slice_get}
use Rattle.std.specs.Prelude.{◌&&◌}
use Rattle.std.proofs.lemmas.Bool.{and_parts as both}
use Rattle.jk_model_classes.specs.declared.records.ClassRecord.{ClassRecord}
use Rattle.jk_model_typing.specs.declared.frames.VType.{VType}
use Rattle.jk_model_typing.specs.declared.frames.VType.TheVariants.{Unusable, Int, Long, Null, Ref, Fresh, FreshThis}
use Rattle.jk_model_typing.specs.FrameTypes.{EachFits, Fits}
use Rattle.jk_model_typing.specs.Typing.{as_locals}
use Rattle.touched_locals.specs.Narrowing.{IsKept, kept_count, widened}

abbrev pub EndsShort : List Bool → List VType → Type 0
EndsShort marks locals = (n : ℕ) → IsKept marks n → slice_get marks (suc n) ≡ Some false → slice_get locals n ≡ Some Long → ⊥

-- ---- Tests.

is_unusable : VType → Bool
is_unusable Unusable = true
is_unusable v = false

is_long : VType → Bool
is_long Long = true
is_long v = false

-- nothing can be used where no local is kept
pub is_wide : List Bool → List VType → Bool
is_wide [] vs = true
is_wide (m ∷ marks) [] = true
is_wide (false ∷ marks) (v ∷ vs) = is_unusable v && is_wide marks vs
is_wide (true ∷ marks) (v ∷ vs) = is_wide marks vs

-- no long ends where no local is kept
pub ends_short : List Bool → List VType → Bool
ends_short [] vs = true
ends_short (m ∷ marks) [] = true
ends_short (true ∷ false ∷ marks) (v ∷ vs) = not (is_long v) && ends_short (false ∷ marks) vs
ends_short (m ∷ marks) (v ∷ vs) = ends_short marks vs

-- the kept ones of a whole code's locals
abbrev pub narrow_locals : List Bool → List VType → List VType
narrow_locals [] vs = []
narrow_locals (m ∷ marks) [] = []
narrow_locals (false ∷ marks) (v ∷ vs) = narrow_locals marks vs
narrow_locals (true ∷ marks) (v ∷ vs) = v ∷ narrow_locals marks vs

pub narrow-many : (marks : List Bool) (vs : List VType) → length vs ≡ length marks → length (narrow_locals marks vs) ≡ kept_count marks
narrow-many [] vs e = refl
narrow-many (m ∷ marks) [] e = absurd (omega arith)
narrow-many (false ∷ marks) (v ∷ vs) e = narrow-many marks vs (omega arith)
narrow-many (true ∷ marks) (v ∷ vs) e = ap suc (narrow-many marks vs (omega arith))

unusable : (v : VType) → is_unusable v ≡ true → v ≡ Unusable
unfolding is_unusable
unusable Unusable h = refl
unusable v h = cc

pub narrow-back : (marks : List Bool) (vs : List VType) → length vs ≡ length marks → is_wide marks vs ≡ true
    → widened marks (narrow_locals marks vs) ≡ vs
unfolding is_wide
narrow-back [] [] e h = refl
narrow-back [] (v ∷ vs) e h = absurd (omega arith)
narrow-back (m ∷ marks) [] e h = absurd (omega arith)
narrow-back (false ∷ marks) (v ∷ vs) e h =
    let parts = both (is_unusable v) (is_wide marks vs) h in
    ap (λ (ws : List VType). Unusable ∷ ws) (narrow-back marks vs (omega arith) parts.1)
    ∙ ap (λ (w : VType). w ∷ vs) (sym (unusable v parts.0))
narrow-back (true ∷ marks) (v ∷ vs) e h = ap (λ (ws : List VType). v ∷ ws) (narrow-back marks vs (omega arith) h)

-- ---- What is above.

fits_unusable : (classes : List ClassRecord) (v : VType) → Fits classes Unusable v → is_unusable v ≡ true
unfolding is_unusable
fits_unusable classes Unusable h = refl
fits_unusable classes Int h = cc
fits_unusable classes Long h = cc
fits_unusable classes Null h = cc
fits_unusable classes (Ref t) h = cc
fits_unusable classes (Fresh p) h = cc
fits_unusable classes FreshThis h = cc

and_true : (a b : Bool) → a ≡ true → b ≡ true → (a && b) ≡ true
and_true true b h k = k
and_true false b h k = cc

pub wide-above : (classes : List ClassRecord) (marks : List Bool) (a vs : List VType) → EachFits classes (widened marks a) vs → is_wide marks vs ≡ true
unfolding is_wide
wide-above classes [] a vs h = refl
wide-above classes (false ∷ marks) a [] h = refl
wide-above classes (false ∷ marks) a (v ∷ vs) h =
    and_true (is_unusable v) (is_wide marks vs) (fits_unusable classes v h.0) (wide-above classes marks a vs h.1)
wide-above classes (true ∷ marks) [] [] h = refl
wide-above classes (true ∷ marks) [] (v ∷ vs) h = wide-above classes marks [] vs h.1
wide-above classes (true ∷ marks) (w ∷ a) [] h = refl
wide-above classes (true ∷ marks) (w ∷ a) (v ∷ vs) h = wide-above classes marks a vs h.1

fits_long : (classes : List ClassRecord) (v : VType) → Fits classes v Long → v ≡ Long
fits_long classes Unusable h = h
fits_long classes Int h = h
fits_long classes Long h = h
fits_long classes Null h = h
fits_long classes (Ref t) h = h
fits_long classes (Fresh p) h = h
fits_long classes FreshThis h = h

long-below : (classes : List ClassRecord) (xs ys : List VType) (n : ℕ) → EachFits classes xs ys → slice_get ys n ≡ Some Long
    → slice_get xs n ≡ Some Long
long-below classes [] [] n h at = cc
long-below classes [] (y ∷ ys) n h at = absurd h
long-below classes (x ∷ xs) [] n h at = absurd h
long-below classes (x ∷ xs) (y ∷ ys) zero h at =
    let is : y ≡ Long = cc in
    ap (λ (v : VType). Some v) (fits_long classes x (subst (Fits classes x) is h.0))
long-below classes (x ∷ xs) (y ∷ ys) (suc n) h at = long-below classes xs ys n h.1 at

pub ends-above : (classes : List ClassRecord) (marks : List Bool) (xs ys : List VType) → EachFits classes xs ys → EndsShort marks xs
    → EndsShort marks ys
ends-above classes marks xs ys h ends = λ n kept last at. ends n kept last (long-below classes xs ys n h at)

-- ---- Longs at ends, by the test.

not_long : (v : VType) → (v ≡ Long → ⊥) → not (is_long v) ≡ true
unfolding is_long
not_long Long h = absurd (h refl)
not_long v h = refl

not_true : (v : VType) → not (is_long v) ≡ true → v ≡ Long → ⊥
unfolding is_long
not_true Long h e = cc
not_true v h e = cc

pub ends-tested : (marks : List Bool) (vs : List VType) → EndsShort marks vs → ends_short marks vs ≡ true
unfolding ends_short
ends-tested [] vs h = refl
ends-tested (m ∷ marks) [] h = refl
ends-tested (true ∷ false ∷ marks) (v ∷ vs) h =
    and_true (not (is_long v)) (ends_short (false ∷ marks) vs) (not_long v (λ e. h zero refl refl (ap (λ (w : VType). Some w) e)))
    (ends-tested (false ∷ marks) vs (λ n kept last at. h (suc n) kept last at))
ends-tested (true ∷ true ∷ marks) (v ∷ vs) h = ends-tested (true ∷ marks) vs (λ n kept last at. h (suc n) kept last at)
ends-tested (true ∷ []) (v ∷ vs) h = ends-tested [] vs (λ n kept last at. h (suc n) kept last at)
ends-tested (false ∷ marks) (v ∷ vs) h = ends-tested marks vs (λ n kept last at. h (suc n) kept last at)

pub ends-told : (marks : List Bool) (vs : List VType) → ends_short marks vs ≡ true → EndsShort marks vs
unfolding ends_short
ends-told [] vs h n kept last at = cc
ends-told (m ∷ marks) [] h n kept last at = cc
ends-told (true ∷ false ∷ marks) (v ∷ vs) h zero kept last at =
    not_true v (both (not (is_long v)) (ends_short (false ∷ marks) vs) h).0 cc
ends-told (true ∷ false ∷ marks) (v ∷ vs) h (suc n) kept last at =
    ends-told (false ∷ marks) vs (both (not (is_long v)) (ends_short (false ∷ marks) vs) h).1 n kept last at
ends-told (true ∷ true ∷ marks) (v ∷ vs) h zero kept last at = cc
ends-told (true ∷ true ∷ marks) (v ∷ vs) h (suc n) kept last at = ends-told (true ∷ marks) vs h n kept last at
ends-told (true ∷ []) (v ∷ vs) h zero kept last at = cc
ends-told (true ∷ []) (v ∷ vs) h (suc n) kept last at = ends-told [] vs h n kept last at
ends-told (false ∷ marks) (v ∷ vs) h zero kept last at = cc
ends-told (false ∷ marks) (v ∷ vs) h (suc n) kept last at = ends-told marks vs h n kept last at

-- ---- The locals with which a method begins.

widened-unusable : (marks : List Bool) → widened marks (replicate (kept_count marks) Unusable) ≡ replicate (length marks) Unusable
widened-unusable [] = refl
widened-unusable (false ∷ marks) = ap (λ (ws : List VType). Unusable ∷ ws) (widened-unusable marks)
widened-unusable (true ∷ marks) = ap (λ (ws : List VType). Unusable ∷ ws) (widened-unusable marks)

abbrev pub AreFirst : List Bool → ℕ → Type 0
AreFirst marks many = (n : ℕ) → n < many → IsKept marks n

pub widened-given : (marks : List Bool) (given : List VType) (k m : ℕ) → AreFirst marks (length given) → kept_count marks ≡ length given + k
    → length marks ≡ length given + m → widened marks (given ++ replicate k Unusable) ≡ given ++ replicate m Unusable
widened-given marks [] k m first count all =
    ap (λ (n : ℕ). widened marks (replicate n Unusable)) (omega (arith, count)) ∙ widened-unusable marks
    ∙ ap (λ (n : ℕ). replicate n Unusable) (omega (arith, all))
widened-given [] (v ∷ given) k m first count all = absurd (omega arith)
widened-given (false ∷ marks) (v ∷ given) k m first count all =
    let z : Some false ≡ Some true = first 0 (omega arith) in
    cc
widened-given (true ∷ marks) (v ∷ given) k m first count all =
    ap (λ (ws : List VType). v ∷ ws)
    (widened-given marks given k m (λ n less. first (suc n) (omega (arith, less))) (omega (arith, count)) (omega (arith, all)))

pub count-most : (marks : List Bool) → kept_count marks ≤ length marks
count-most [] = omega arith
count-most (true ∷ marks) = omega (arith, count-most marks)
count-most (false ∷ marks) = omega (arith, count-most marks)

pub first-counted : (marks : List Bool) (many : ℕ) → AreFirst marks many → many ≤ kept_count marks
first-counted marks zero first = omega arith
first-counted [] (suc many) first =
    let z : None ≡ Some true = first 0 (omega arith) in
    cc
first-counted (false ∷ marks) (suc many) first =
    let z : Some false ≡ Some true = first 0 (omega arith) in
    cc
first-counted (true ∷ marks) (suc many) first = omega (arith, first-counted marks many (λ n less. first (suc n) (omega (arith, less))))

none_long : (m n : ℕ) → slice_get (replicate m Unusable) n ≡ Some Long → ⊥
none_long zero n at = cc
none_long (suc m) zero at = cc
none_long (suc m) (suc n) at = none_long m n at

-- a long that is given has its second half
pub given-halved : (params : List VType) (m n : ℕ) → slice_get (flat_map as_locals params ++ replicate m Unusable) n ≡ Some Long
    → suc n < length (flat_map as_locals params)
given-halved [] m n at = absurd (none_long m n at)
given-halved (Long ∷ params) m zero at = omega arith
given-halved (Long ∷ params) m (suc zero) at = cc
given-halved (Long ∷ params) m (suc (suc n)) at = omega (arith, given-halved params m n at)
given-halved (v ∷ params) m zero at = cc
given-halved (v ∷ params) m (suc n) at = omega (arith, given-halved params m n at)
