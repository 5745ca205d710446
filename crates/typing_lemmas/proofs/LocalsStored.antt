-- A local into which typing lets something be stored is there, and where that is a long, so is the local after it.
use Rattle.std.proofs.Common.{◌≡◌, ℕ, zero, suc, ◌+◌, ◌<◌, ◌≤◌, List, length, set, Option, Some, None, slice_get, refl, subst, ◌∙◌, arith}
use Rattle.std.specs.Option.{option_map_or}
use Rattle.std.proofs.Math.ListN.{length-set}
use Rattle.std.proofs.lemmas.Option.{slice_get_within}
use Rattle.list_lemmas.proofs.ItemsByPlace.{slice_get-set_other, slice_get-set_same}
use Rattle.jk_model_typing.specs.declared.frames.VType.{VType}
use Rattle.jk_model_typing.specs.declared.frames.VType.TheVariants.{Unusable, Int, Long, Null, Ref, Fresh, FreshThis}
use Rattle.jk_model_typing.specs.FrameTypes.{slots_of}
use Rattle.jk_model_typing.specs.Rows.{cut, cut_before, with_local}

cut_before-length : (locals : List VType) (n : ℕ) → length (cut_before locals n) ≡ length locals
cut_before-length locals zero = refl
cut_before-length locals (suc n) = one (slice_get locals n)
  where
    one : (o : Option VType) → length (option_map_or (λ v. set locals n (cut v)) o locals) ≡ length locals
    one None = refl
    one (Some v) = length-set locals n (cut v)

-- each long has its second half after it
abbrev HasHalves : List VType → Type 0
HasHalves ls = (k : ℕ) → slice_get ls k ≡ Some Long → slice_get ls (k + 1) ≡ Some Unusable

local_after_long : (before : List VType) (n : ℕ) → n < length before → HasHalves (with_local before n Long) → n + 2 ≤ length before
local_after_long before n within halves =
    let now : List VType = set (cut_before before n) n Long in
    let many : length (cut_before before n) ≡ length before = cut_before-length before n in
    let here : slice_get now n ≡ Some Long = slice_get-set_same (cut_before before n) n Long (omega (arith, many)) in
    let long : slice_get (with_local before n Long) n ≡ Some Long =
    slice_get-set_other now (suc n) n Unusable (λ e. absurd (omega (arith, e))) ∙ here in
    let past : n + 1 < length (with_local before n Long) = slice_get_within (with_local before n Long) (n + 1) Unusable (halves n long) in
    omega (arith, past, many, length-set now (suc n) Unusable, length-set (cut_before before n) n Long)

pub slots_needed : (before after : List VType) (n : ℕ) (v : VType) → n < length before → after ≡ with_local before n v → HasHalves after
    → n + slots_of v ≤ length before
slots_needed before after n Long within is halves = local_after_long before n within (subst HasHalves is halves)
slots_needed before after n Unusable within is halves = omega arith
slots_needed before after n Int within is halves = omega arith
slots_needed before after n Null within is halves = omega arith
slots_needed before after n (Ref t) within is halves = omega arith
slots_needed before after n (Fresh p) within is halves = omega arith
slots_needed before after n FreshThis within is halves = omega arith
