-- Locals of a whole code and those that are kept: what a store does to the one it does to the other.
use Rattle.std.proofs.Common.{◌≡◌, ℕ, zero, suc, ◌<◌, ◌≤◌, Bool, true, false, List, [], ◌∷◌, length, Option, Some, None, slice_set, refl, sym, ap, ◌∙◌, arith}
use Rattle.std.specs.List.{slice_get}
use Rattle.std.specs.Prelude.{if◌then◌else◌}
use Rattle.std.specs.Option.{option_map_or}
use Rattle.std.proofs.lemmas.List.{length-set}
use Rattle.jk_model_classes.specs.declared.records.ClassRecord.{ClassRecord}
use Rattle.jk_model_typing.specs.declared.frames.VType.{VType}
use Rattle.jk_model_typing.specs.declared.frames.VType.TheVariants.{Unusable, Long}
use Rattle.jk_model_typing.specs.FrameTypes.{EachFits}
use Rattle.jk_model_typing.specs.Rows.{cut, cut_before, replaced, with_local}
use Rattle.touched_locals.specs.Narrowing.{IsKept, IsTouched, kept_count, rank, widened}

-- ---- Numbers among the kept locals.

pub rank-zero : (marks : List Bool) → rank marks zero ≡ 0
rank-zero [] = refl
rank-zero (m ∷ marks) = refl

pub rank-next : (marks : List Bool) (n : ℕ) → IsKept marks n → rank marks (suc n) ≡ suc (rank marks n)
rank-next [] n kept = cc
rank-next (true ∷ marks) zero kept = ap suc (rank-zero marks)
rank-next (false ∷ marks) zero kept = cc
rank-next (true ∷ marks) (suc n) kept = ap suc (rank-next marks n kept)
rank-next (false ∷ marks) (suc n) kept = rank-next marks n kept

pub rank-within : (marks : List Bool) (n : ℕ) → IsKept marks n → rank marks n < kept_count marks
rank-within [] n kept = cc
rank-within (true ∷ marks) zero kept = omega arith
rank-within (false ∷ marks) zero kept = cc
rank-within (true ∷ marks) (suc n) kept = omega (arith, rank-within marks n kept)
rank-within (false ∷ marks) (suc n) kept = rank-within marks n kept

-- each number is that of a local
pub of-rank : (marks : List Bool) (k : ℕ) → k < kept_count marks → (n : ℕ) × IsKept marks n × (rank marks n ≡ k)
of-rank [] k less = absurd (omega arith)
of-rank (true ∷ marks) zero less = (0, refl, refl)
of-rank (true ∷ marks) (suc k) less =
    let (n, kept, is) = of-rank marks k (omega arith) in
    (suc n, kept, ap suc is)
of-rank (false ∷ marks) k less =
    let (n, kept, is) = of-rank marks k less in
    (suc n, kept, is)

none_kept : (marks : List Bool) → slice_get marks 0 ≡ None → kept_count marks ≡ 0
none_kept [] e = refl
none_kept (m ∷ marks) e = cc

-- the last local of all
pub rank-last : (marks : List Bool) (n : ℕ) → IsKept marks n → slice_get marks (suc n) ≡ None → kept_count marks ≡ suc (rank marks n)
rank-last [] n kept e = cc
rank-last (true ∷ marks) zero kept e = ap suc (none_kept marks e)
rank-last (false ∷ marks) zero kept e = cc
rank-last (true ∷ marks) (suc n) kept e = ap suc (rank-last marks n kept e)
rank-last (false ∷ marks) (suc n) kept e = rank-last marks n kept e

pub past-last : (marks : List Bool) (n : ℕ) → slice_get marks n ≡ None → length marks ≤ n
past-last [] n e = omega arith
past-last (m ∷ marks) zero e = cc
past-last (m ∷ marks) (suc n) e = omega (arith, past-last marks n e)

-- ---- What stands where.

pub length-widened : (marks : List Bool) (vs : List VType) → length (widened marks vs) ≡ length marks
length-widened [] vs = refl
length-widened (false ∷ marks) vs = ap suc (length-widened marks vs)
length-widened (true ∷ marks) [] = ap suc (length-widened marks [])
length-widened (true ∷ marks) (v ∷ vs) = ap suc (length-widened marks vs)

pub get-kept : (marks : List Bool) (vs : List VType) (n : ℕ) → length vs ≡ kept_count marks → IsKept marks n
    → slice_get (widened marks vs) n ≡ slice_get vs (rank marks n)
get-kept [] vs n many kept = cc
get-kept (true ∷ marks) [] n many kept = absurd (omega arith)
get-kept (true ∷ marks) (v ∷ vs) zero many kept = refl
get-kept (true ∷ marks) (v ∷ vs) (suc n) many kept = get-kept marks vs n (omega arith) kept
get-kept (false ∷ marks) vs zero many kept = cc
get-kept (false ∷ marks) vs (suc n) many kept = get-kept marks vs n many kept

pub get-left_out : (marks : List Bool) (vs : List VType) (n : ℕ) → slice_get marks n ≡ Some false → slice_get (widened marks vs) n ≡ Some Unusable
get-left_out [] vs n e = cc
get-left_out (false ∷ marks) vs zero e = refl
get-left_out (false ∷ marks) vs (suc n) e = get-left_out marks vs n e
get-left_out (true ∷ marks) [] zero e = cc
get-left_out (true ∷ marks) [] (suc n) e = get-left_out marks [] n e
get-left_out (true ∷ marks) (v ∷ vs) zero e = cc
get-left_out (true ∷ marks) (v ∷ vs) (suc n) e = get-left_out marks vs n e

pub get-past : (marks : List Bool) (vs : List VType) (n : ℕ) → slice_get marks n ≡ None → slice_get (widened marks vs) n ≡ None
get-past [] vs n e = refl
get-past (false ∷ marks) vs zero e = cc
get-past (false ∷ marks) vs (suc n) e = get-past marks vs n e
get-past (true ∷ marks) [] zero e = cc
get-past (true ∷ marks) [] (suc n) e = get-past marks [] n e
get-past (true ∷ marks) (v ∷ vs) zero e = cc
get-past (true ∷ marks) (v ∷ vs) (suc n) e = get-past marks vs n e

-- ---- What is put there.

pub set-kept : (marks : List Bool) (vs : List VType) (n : ℕ) (x : VType) → length vs ≡ kept_count marks → IsKept marks n
    → widened marks (slice_set vs (rank marks n) x) ≡ slice_set (widened marks vs) n x
set-kept [] vs n x many kept = cc
set-kept (true ∷ marks) [] n x many kept = absurd (omega arith)
set-kept (true ∷ marks) (v ∷ vs) zero x many kept = refl
set-kept (true ∷ marks) (v ∷ vs) (suc n) x many kept = ap (λ ws. v ∷ ws) (set-kept marks vs n x (omega arith) kept)
set-kept (false ∷ marks) vs zero x many kept = cc
set-kept (false ∷ marks) vs (suc n) x many kept = ap (λ ws. Unusable ∷ ws) (set-kept marks vs n x many kept)

set-past : (vs : List VType) (n : ℕ) (x : VType) → length vs ≤ n → slice_set vs n x ≡ vs
set-past [] n x past = refl
set-past (v ∷ vs) zero x past = absurd (omega arith)
set-past (v ∷ vs) (suc n) x past = ap (λ ws. v ∷ ws) (set-past vs n x (omega arith))

-- where there is a local before this one, it is cut
cut_at : List VType → ℕ → Option VType → List VType
cut_at locals n o = option_map_or (λ v. slice_set locals n (cut v)) o locals

cut_at-widened : (marks : List Bool) (vs : List VType) (n : ℕ) (o : Option VType) → length vs ≡ kept_count marks → IsKept marks n
    → widened marks (cut_at vs (rank marks n) o) ≡ cut_at (widened marks vs) n o
unfolding cut_at
cut_at-widened marks vs n None many kept = refl
cut_at-widened marks vs n (Some v) many kept = set-kept marks vs n (cut v) many kept

cut_at-length : (locals : List VType) (n : ℕ) (o : Option VType) → length (cut_at locals n o) ≡ length locals
unfolding cut_at
cut_at-length locals n None = refl
cut_at-length locals n (Some v) = length-set locals n (cut v)

pub cut_before-many : (locals : List VType) (n : ℕ) → length (cut_before locals n) ≡ length locals
unfolding cut_at
cut_before-many locals zero = refl
cut_before-many locals (suc n) = cut_at-length locals n (slice_get locals n)

pub cut_before-widened : (marks : List Bool) (vs : List VType) (n : ℕ) → length vs ≡ kept_count marks → IsTouched marks n
    → widened marks (cut_before vs (rank marks n)) ≡ cut_before (widened marks vs) n
unfolding cut_at
cut_before-widened marks vs zero many touched = ap (λ k. widened marks (cut_before vs k)) (rank-zero marks)
cut_before-widened marks vs (suc n) many touched =
    let kept = touched.before n refl in
    ap (λ k. widened marks (cut_before vs k)) (rank-next marks n kept)
    ∙ cut_at-widened marks vs n (slice_get vs (rank marks n)) many kept
    ∙ ap (λ o. cut_at (widened marks vs) n o) (sym (get-kept marks vs n many kept))

stored : List VType → ℕ → VType → List VType
stored locals n v = slice_set (cut_before locals n) n v

stored-widened : (marks : List Bool) (vs : List VType) (n : ℕ) (v : VType) → length vs ≡ kept_count marks → IsTouched marks n
    → widened marks (stored vs (rank marks n) v) ≡ stored (widened marks vs) n v
unfolding stored
stored-widened marks vs n v many touched =
    set-kept marks (cut_before vs (rank marks n)) n v (cut_before-many vs (rank marks n) ∙ many) touched.here
    ∙ ap (λ ws. slice_set ws n v) (cut_before-widened marks vs n many touched)

stored-many : (locals : List VType) (n : ℕ) (v : VType) → length (stored locals n v) ≡ length locals
unfolding stored
stored-many locals n v = length-set (cut_before locals n) n v ∙ cut_before-many locals n

-- the half of a long that is stored, where it has a place
half-widened : (marks : List Bool) (vs : List VType) (n : ℕ) → length vs ≡ kept_count marks → IsTouched marks n → (m : Option Bool)
    → slice_get marks (suc n) ≡ m → widened marks (slice_set vs (suc (rank marks n)) Unusable) ≡ slice_set (widened marks vs) (suc n) Unusable
half-widened marks vs n many touched (Some true) next =
    ap (λ k. widened marks (slice_set vs k Unusable)) (sym (rank-next marks n touched.here)) ∙ set-kept marks vs (suc n) Unusable many next
half-widened marks vs n many touched (Some false) next = absurd (touched.after next)
half-widened marks vs n many touched None next =
    ap (widened marks) (set-past vs (suc (rank marks n)) Unusable (omega (arith, rank-last marks n touched.here next)))
    ∙ sym (set-past (widened marks vs) (suc n) Unusable (omega (arith, length-widened marks vs, past-last marks (suc n) next)))

pub with_local-widened : (marks : List Bool) (vs : List VType) (n : ℕ) (v : VType) → length vs ≡ kept_count marks → IsTouched marks n
    → widened marks (with_local vs (rank marks n) v) ≡ with_local (widened marks vs) n v
unfolding stored
with_local-widened marks vs n Long many touched =
    half-widened marks (stored vs (rank marks n) Long) n (stored-many vs (rank marks n) Long ∙ many) touched (slice_get marks (suc n)) refl
    ∙ ap (λ ws. slice_set ws (suc n) Unusable) (stored-widened marks vs n Long many touched)
with_local-widened marks vs n v many touched = stored-widened marks vs n v many touched

if_false : (b : Bool) (v w : VType) → b ≡ false → (if b then v else w) ≡ w
if_false true v w e = cc
if_false false v w e = refl

pub replaced-widened : (test : VType → Bool) (new : VType) → test Unusable ≡ false → (marks : List Bool) (vs : List VType)
    → widened marks (replaced test new vs) ≡ replaced test new (widened marks vs)
replaced-widened test new other [] vs = refl
replaced-widened test new other (false ∷ marks) vs =
    ap (λ ws. Unusable ∷ ws) (replaced-widened test new other marks vs)
    ∙ ap (λ w. w ∷ replaced test new (widened marks vs)) (sym (if_false (test Unusable) new Unusable other))
replaced-widened test new other (true ∷ marks) [] =
    ap (λ ws. Unusable ∷ ws) (replaced-widened test new other marks [])
    ∙ ap (λ w. w ∷ replaced test new (widened marks [])) (sym (if_false (test Unusable) new Unusable other))
replaced-widened test new other (true ∷ marks) (v ∷ vs) = ap (λ ws. (if test v then new else v) ∷ ws) (replaced-widened test new other marks vs)

-- ---- Which fit which.

pub fits-widened : (classes : List ClassRecord) (marks : List Bool) (a b : List VType) → EachFits classes a b
    → EachFits classes (widened marks a) (widened marks b)
fits-widened classes [] a b h = tt
fits-widened classes (false ∷ marks) a b h = (tt, fits-widened classes marks a b h)
fits-widened classes (true ∷ marks) [] [] h = (tt, fits-widened classes marks [] [] h)
fits-widened classes (true ∷ marks) [] (w ∷ b) h = absurd h
fits-widened classes (true ∷ marks) (v ∷ a) [] h = absurd h
fits-widened classes (true ∷ marks) (v ∷ a) (w ∷ b) h = (h.0, fits-widened classes marks a b h.1)

pub fits-narrowed : (classes : List ClassRecord) (marks : List Bool) (a b : List VType) → length a ≡ kept_count marks → length b ≡ kept_count marks
    → EachFits classes (widened marks a) (widened marks b) → EachFits classes a b
fits-narrowed classes [] [] [] many count h = tt
fits-narrowed classes [] [] (w ∷ b) many count h = absurd (omega arith)
fits-narrowed classes [] (v ∷ a) b many count h = absurd (omega arith)
fits-narrowed classes (false ∷ marks) a b many count h = fits-narrowed classes marks a b many count h.1
fits-narrowed classes (true ∷ marks) [] b many count h = absurd (omega arith)
fits-narrowed classes (true ∷ marks) (v ∷ a) [] many count h = absurd (omega arith)
fits-narrowed classes (true ∷ marks) (v ∷ a) (w ∷ b) many count h = (h.0, fits-narrowed classes marks a b (omega arith) (omega arith) h.1)
