-- What instructions do to the locals: lists of locals that fit stay so, and each long keeps its second half.
use Rattle.std.proofs.Common.{◌≡◌, ◌≢◌, ℕ, zero, suc, ◌+◌, ◌<◌, ◌⊎◌, inl, inr, Bool, true, false, List, [], ◌∷◌, length, Option, Some, None, slice_set, refl, sym, ap, ◌∙◌, arith}
use Rattle.std.specs.List.{slice_get}
use Rattle.std.specs.Prelude.{⊤, if◌then◌else◌}
use Rattle.std.specs.Option.{option_map_or}
use Rattle.std.proofs.lemmas.List.{length-set}
use Rattle.jk_model_classes.specs.declared.records.ClassRecord.{ClassRecord}
use Rattle.jk_model_classes.specs.declared.records.TypeRef.{TypeRef}
use Rattle.jk_model_typing.specs.declared.frames.VType.{VType}
use Rattle.jk_model_typing.specs.declared.frames.VType.TheVariants.{Unusable, Long, Null, Ref}
use Rattle.jk_model_typing.specs.FrameTypes.{Fits, EachFits, IsUsable}
use Rattle.jk_model_typing.specs.Rows.{cut, cut_before, with_local, replaced, is_made_at, is_fresh_this}
use Rattle.type_frames.proofs.OrderOfTypes.{Fits-refl}
use Rattle.type_rows.proofs.RowsMeetDemands.{FitsBy, same, null, refs, unusable, fits-by}

-- ---- Lists by places.

module _ {X : Type 0} where
  pub set-here : (xs : List X) (n : ℕ) (x : X) → n < length xs → slice_get (slice_set xs n x) n ≡ Some x
  set-here [] n x h = absurd (omega arith)
  set-here (y ∷ xs) zero x h = refl
  set-here (y ∷ xs) (suc n) x h = set-here xs n x (omega arith)

  pub set-elsewhere : (xs : List X) (n k : ℕ) (x : X) → k ≢ n → slice_get (slice_set xs n x) k ≡ slice_get xs k
  set-elsewhere [] n k x h = refl
  set-elsewhere (y ∷ xs) zero zero x h = absurd (h refl)
  set-elsewhere (y ∷ xs) zero (suc k) x h = refl
  set-elsewhere (y ∷ xs) (suc n) zero x h = refl
  set-elsewhere (y ∷ xs) (suc n) (suc k) x h = set-elsewhere xs n k x (λ e. h (ap suc e))

  pub get-within : (xs : List X) (n : ℕ) (x : X) → slice_get xs n ≡ Some x → n < length xs
  get-within [] n x h = cc
  get-within (y ∷ xs) zero x h = omega arith
  get-within (y ∷ xs) (suc n) x h = omega (arith, get-within xs n x h)

same_or_not : (a b : ℕ) → (a ≡ b) ⊎ (a ≢ b)
same_or_not a b = grind arith

-- ---- What a store leaves.

cut-no_long : (v : VType) → cut v ≢ Long
cut-no_long Long = λ e. cc
cut-no_long v = λ e. cc

-- the locals where the one at this place is cut, if there is one
cut_at : List VType → ℕ → Option VType → List VType
cut_at locals n o = option_map_or (λ v. slice_set locals n (cut v)) o locals

cut_at-length : (locals : List VType) (n : ℕ) (o : Option VType) → length (cut_at locals n o) ≡ length locals
unfolding cut_at
cut_at-length locals n None = refl
cut_at-length locals n (Some v) = length-set locals n (cut v)

cut_at-elsewhere : (locals : List VType) (n k : ℕ) (o : Option VType) → k ≢ n → slice_get (cut_at locals n o) k ≡ slice_get locals k
unfolding cut_at
cut_at-elsewhere locals n k None h = refl
cut_at-elsewhere locals n k (Some v) h = set-elsewhere locals n k (cut v) h

cut_at-no_long : (locals : List VType) (n : ℕ) (o : Option VType) → slice_get locals n ≡ o → slice_get (cut_at locals n o) n ≢ Some Long
unfolding cut_at
cut_at-no_long locals n None at = λ e. cc
cut_at-no_long locals n (Some v) at = λ e.
    let here = set-here locals n (cut v) (get-within locals n v at) in
    cut-no_long v cc

cut_at-half : (locals : List VType) (n : ℕ) (o : Option VType) → slice_get locals n ≡ o → slice_get locals n ≡ Some Unusable
    → slice_get (cut_at locals n o) n ≡ Some Unusable
unfolding cut_at
cut_at-half locals n None at half = cc
cut_at-half locals n (Some v) at half =
    let unusable : v ≡ Unusable = cc in
    set-here locals n (cut v) (get-within locals n v at) ∙ ap (λ v. Some (cut v)) unusable

pub cut_before-length : (locals : List VType) (n : ℕ) → length (cut_before locals n) ≡ length locals
unfolding cut_at
cut_before-length locals zero = refl
cut_before-length locals (suc n) = cut_at-length locals n (slice_get locals n)

pub cut_before-elsewhere : (locals : List VType) (n k : ℕ) → suc k ≢ n → slice_get (cut_before locals n) k ≡ slice_get locals k
unfolding cut_at
cut_before-elsewhere locals zero k h = refl
cut_before-elsewhere locals (suc n) k h = cut_at-elsewhere locals n k (slice_get locals n) (λ e. h (ap suc e))

cut_before-no_long : (locals : List VType) (k : ℕ) → slice_get (cut_before locals (suc k)) k ≢ Some Long
unfolding cut_at
cut_before-no_long locals k = cut_at-no_long locals k (slice_get locals k) refl

-- a half that can't be used stays so
cut_before-half : (locals : List VType) (n k : ℕ) → slice_get locals k ≡ Some Unusable → slice_get (cut_before locals n) k ≡ Some Unusable
unfolding cut_at
cut_before-half locals zero k half = half
cut_before-half locals (suc n) k half = elim (same_or_not k n) [
  | inl e ↦ rw e (cut_at-half locals n (slice_get locals n) refl (rw e at half))
  | inr other ↦ cut_at-elsewhere locals n k (slice_get locals n) other ∙ half
]

stored : List VType → ℕ → VType → List VType
stored locals n v = slice_set (cut_before locals n) n v

pub with_local-length : (locals : List VType) (n : ℕ) (v : VType) → length (with_local locals n v) ≡ length locals
with_local-length locals n Long =
    length-set (slice_set (cut_before locals n) n Long) (suc n) Unusable ∙ length-set (cut_before locals n) n Long ∙ cut_before-length locals n
with_local-length locals n v = length-set (cut_before locals n) n v ∙ cut_before-length locals n

-- a local is as before, but for the one that is stored, the one before and the one after it
pub with_local-elsewhere : (locals : List VType) (n : ℕ) (v : VType) (k : ℕ) → (suc k < n) ⊎ (n + 1 < k)
    → slice_get (with_local locals n v) k ≡ slice_get locals k
with_local-elsewhere locals n Long k away =
    set-elsewhere (slice_set (cut_before locals n) n Long) (suc n) k Unusable (grind arith)
    ∙ set-elsewhere (cut_before locals n) n k Long (grind arith) ∙ cut_before-elsewhere locals n k (grind arith)
with_local-elsewhere locals n v k away = set-elsewhere (cut_before locals n) n k v (grind arith) ∙ cut_before-elsewhere locals n k (grind arith)

-- ---- Halves of longs.

-- after a long comes what can't be used
abbrev pub AreHalved : List VType → Type 0
AreHalved locals = (n : ℕ) → slice_get locals n ≡ Some Long → slice_get locals (suc n) ≡ Some Unusable

stored-halved : (locals : List VType) (n : ℕ) (v : VType) → AreHalved locals → (k : ℕ) → k ≢ n
    → slice_get (stored locals n v) k ≡ Some Long → slice_get (stored locals n v) (suc k) ≡ Some Unusable
unfolding stored
stored-halved locals n v halves k other at =
    let cut_long : slice_get (cut_before locals n) k ≡ Some Long = sym (set-elsewhere (cut_before locals n) n k v other) ∙ at in
    elim (same_or_not (suc k) n) [
      | inl e ↦ absurd (cut_before-no_long locals k (rw (← e) at cut_long))
      | inr apart ↦
          let half = halves k (sym (cut_before-elsewhere locals n k apart) ∙ cut_long) in
          set-elsewhere (cut_before locals n) n (suc k) v apart ∙ cut_before-half locals n (suc k) half
    ]

short-halved : (locals : List VType) (n : ℕ) (v : VType) → v ≢ Long → n < length locals → AreHalved locals → AreHalved (stored locals n v)
unfolding stored
short-halved locals n v short within halves = λ k at. elim (same_or_not k n) [
  | inl e ↦
      let here = set-here (cut_before locals n) n v (omega (arith, cut_before-length locals n)) in
      absurd (short cc)
  | inr other ↦ stored-halved locals n v halves k other at
]

long-halved : (locals : List VType) (n : ℕ) → suc n < length locals → AreHalved locals → AreHalved (slice_set (stored locals n Long) (suc n) Unusable)
unfolding stored
long-halved locals n within halves = λ k at. elim (same_or_not k n) [
  | inl e ↦ rw e (set-here (stored locals n Long) (suc n) Unusable
      (omega (arith, cut_before-length locals n, length-set (cut_before locals n) n Long)))
  | inr other ↦ elim (same_or_not k (suc n)) [
    | inl e ↦
        let here = set-here (stored locals n Long) (suc n) Unusable
        (omega (arith, cut_before-length locals n, length-set (cut_before locals n) n Long)) in
        cc
    | inr apart ↦
        set-elsewhere (stored locals n Long) (suc n) (suc k) Unusable (λ e. other (omega arith))
        ∙ stored-halved locals n Long halves k other (sym (set-elsewhere (stored locals n Long) (suc n) k Unusable apart) ∙ at)
  ]
]

pub with_local-halved : (locals : List VType) (n : ℕ) (v : VType) → n < length locals → (v ≡ Long → suc n < length locals)
    → AreHalved locals → AreHalved (with_local locals n v)
unfolding stored
with_local-halved locals n Long within room halves = long-halved locals n (room refl) halves
with_local-halved locals n v within room halves = short-halved locals n v (λ e. cc) within halves

-- where a long was stored, its half has a place
pub with_local-long : (locals : List VType) (n : ℕ) → n < length locals → AreHalved (with_local locals n Long) → suc n < length locals
with_local-long locals n within halves =
    let inner : List VType = slice_set (cut_before locals n) n Long in
    let here : slice_get (slice_set inner (suc n) Unusable) n ≡ Some Long =
    set-elsewhere inner (suc n) n Unusable (omega arith) ∙ set-here (cut_before locals n) n Long (omega (arith, cut_before-length locals n)) in
    let after = get-within (slice_set inner (suc n) Unusable) (suc n) Unusable (halves n here) in
    omega (arith, with_local-length locals n Long)

-- ---- Entries that are replaced.

-- what instructions ask whether to replace an entry: none but fresh objects pass
pub record AsksFresh (test : VType → Bool) : Type 0 where
  pub null : test Null ≡ false
  pub ref : (t : TypeRef) → test (Ref t) ≡ false
  pub unusable : test Unusable ≡ false
  pub long : test Long ≡ false

pub is_made_at-fresh : (place : ℕ) → AsksFresh (is_made_at place)
is_made_at-fresh place = record { null = refl; ref = λ t. refl; unusable = refl; long = refl }

pub is_fresh_this-fresh : AsksFresh is_fresh_this
is_fresh_this-fresh = record { null = refl; ref = λ t. refl; unusable = refl; long = refl }

pub replaced-length : (test : VType → Bool) (new : VType) (vs : List VType) → length (replaced test new vs) ≡ length vs
replaced-length test new [] = refl
replaced-length test new (v ∷ vs) = ap suc (replaced-length test new vs)

if_long : (b : Bool) (new v : VType) → new ≢ Long → (if b then new else v) ≡ Long → v ≡ Long
if_long true new v other e = absurd (other e)
if_long false new v other e = e

replaced-long : (test : VType → Bool) (new : VType) → new ≢ Long → (vs : List VType) (n : ℕ) → slice_get (replaced test new vs) n ≡ Some Long
    → slice_get vs n ≡ Some Long
replaced-long test new other [] n at = cc
replaced-long test new other (v ∷ vs) zero at = ap (λ v. Some v) (if_long (test v) new v other cc)
replaced-long test new other (v ∷ vs) (suc n) at = replaced-long test new other vs n at

replaced-half : (test : VType → Bool) (new : VType) → AsksFresh test → (vs : List VType) (n : ℕ) → slice_get vs n ≡ Some Unusable
    → slice_get (replaced test new vs) n ≡ Some Unusable
replaced-half test new asks [] n at = cc
replaced-half test new asks (v ∷ vs) zero at =
    let unusable : v ≡ Unusable = cc in
    rw (unusable, asks.unusable) refl
replaced-half test new asks (v ∷ vs) (suc n) at = replaced-half test new asks vs n at

pub replaced-halved : (test : VType → Bool) (new : VType) → AsksFresh test → new ≢ Long → (vs : List VType) → AreHalved vs
    → AreHalved (replaced test new vs)
replaced-halved test new asks other vs halves = λ n at. replaced-half test new asks vs (suc n) (halves n (replaced-long test new other vs n at))

-- ---- Fitting.

module _ (classes : List ClassRecord) where
  pub EachFits-set : (vs ws : List VType) (n : ℕ) (v w : VType) → EachFits classes vs ws → Fits classes v w
      → EachFits classes (slice_set vs n v) (slice_set ws n w)
  EachFits-set [] [] n v w h one = tt
  EachFits-set [] (u ∷ ws) n v w h one = absurd h
  EachFits-set (x ∷ vs) [] n v w h one = absurd h
  EachFits-set (x ∷ vs) (u ∷ ws) zero v w h one = (one, h.1)
  EachFits-set (x ∷ vs) (u ∷ ws) (suc n) v w h one = (h.0, EachFits-set vs ws n v w h.1 one)

  cut-fits : {v w : VType} → FitsBy classes v w → Fits classes (cut v) (cut w)
  cut-fits {v} same = Fits-refl classes (cut v)
  cut-fits null = tt
  cut-fits (refs h) = h
  cut-fits unusable = tt

  -- what stands at a place of two lists fits, or nothing stands there in both
  AtOnceFits : Option VType → Option VType → Type 0
  AtOnceFits None None = ⊤
  AtOnceFits (Some v) (Some w) = Fits classes v w
  AtOnceFits _ _ = ⊥

  at_once : (vs ws : List VType) (n : ℕ) → EachFits classes vs ws → AtOnceFits (slice_get vs n) (slice_get ws n)
  unfolding AtOnceFits
  at_once [] [] n h = tt
  at_once [] (w ∷ ws) n h = absurd h
  at_once (v ∷ vs) [] n h = absurd h
  at_once (v ∷ vs) (w ∷ ws) zero h = h.0
  at_once (v ∷ vs) (w ∷ ws) (suc n) h = at_once vs ws n h.1

  cut_at-fits : (vs ws : List VType) (n : ℕ) (o p : Option VType) → EachFits classes vs ws → AtOnceFits o p
      → EachFits classes (cut_at vs n o) (cut_at ws n p)
  unfolding AtOnceFits cut_at
  cut_at-fits vs ws n None None h at = h
  cut_at-fits vs ws n (Some v) (Some w) h at = EachFits-set vs ws n (cut v) (cut w) h (cut-fits (fits-by classes v w at))
  cut_at-fits vs ws n None (Some w) h at = absurd at
  cut_at-fits vs ws n (Some v) None h at = absurd at

  cut_before-fits : (vs ws : List VType) (n : ℕ) → EachFits classes vs ws → EachFits classes (cut_before vs n) (cut_before ws n)
  unfolding cut_at
  cut_before-fits vs ws zero h = h
  cut_before-fits vs ws (suc n) h = cut_at-fits vs ws n (slice_get vs n) (slice_get ws n) h (at_once vs ws n h)

  with_local-same : (vs ws : List VType) (n : ℕ) (v : VType) → EachFits classes vs ws → EachFits classes (with_local vs n v) (with_local ws n v)
  with_local-same vs ws n Long h =
      EachFits-set (slice_set (cut_before vs n) n Long) (slice_set (cut_before ws n) n Long) (suc n) Unusable Unusable
      (EachFits-set (cut_before vs n) (cut_before ws n) n Long Long (cut_before-fits vs ws n h) refl) tt
  with_local-same vs ws n v h = EachFits-set (cut_before vs n) (cut_before ws n) n v v (cut_before-fits vs ws n h) (Fits-refl classes v)

  pub with_local-fits : (vs ws : List VType) (n : ℕ) {v w : VType} → FitsBy classes v w → IsUsable w → EachFits classes vs ws
      → EachFits classes (with_local vs n v) (with_local ws n w)
  with_local-fits vs ws n {v = v} same usable h = with_local-same vs ws n v h
  with_local-fits vs ws n (null {t = t}) usable h = EachFits-set (cut_before vs n) (cut_before ws n) n Null (Ref t) (cut_before-fits vs ws n h) tt
  with_local-fits vs ws n (refs {a = a} {b = b} e) usable h = EachFits-set (cut_before vs n) (cut_before ws n) n (Ref a) (Ref b) (cut_before-fits vs ws n h) e
  with_local-fits vs ws n unusable usable h = absurd usable

  replaced-one : (test : VType → Bool) (new : VType) → AsksFresh test → {v w : VType} → FitsBy classes v w
      → Fits classes (if test v then new else v) (if test w then new else w)
  replaced-one test new asks {v = v} same = Fits-refl classes (if test v then new else v)
  replaced-one test new asks (null {t = t}) = rw (asks.null, asks.ref t) tt
  replaced-one test new asks (refs {a = a} {b = b} h) = rw (asks.ref a, asks.ref b) h
  replaced-one test new asks unusable = rw asks.unusable tt

  pub replaced-fits : (test : VType → Bool) (new : VType) → AsksFresh test → (vs ws : List VType) → EachFits classes vs ws
      → EachFits classes (replaced test new vs) (replaced test new ws)
  replaced-fits test new asks [] [] h = tt
  replaced-fits test new asks [] (w ∷ ws) h = absurd h
  replaced-fits test new asks (v ∷ vs) [] h = absurd h
  replaced-fits test new asks (v ∷ vs) (w ∷ ws) h = (replaced-one test new asks (fits-by classes v w h.0), replaced-fits test new asks vs ws h.1)
