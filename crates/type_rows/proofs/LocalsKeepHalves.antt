-- After a long in the locals comes its second half, also after a store and after fresh objects are replaced.
use Rattle.std.proofs.Common.{◌≡◌, ◌≢◌, ℕ, zero, suc, ◌+◌, ◌<◌, ◌≤◌, ◌⊎◌, inl, inr, Bool, true, false, List, [], ◌∷◌, length, set, Option, Some, None, slice_get, refl, sym, ap, subst, ◌∙◌, arith}
use Rattle.std.specs.Prelude.{if◌then◌else◌}
use Rattle.std.specs.Option.{option_map, option_map_or}
use Rattle.std.proofs.Math.ListN.{length-set}
use Rattle.std.proofs.lemmas.Option.{same_Some, slice_get-map, slice_get_within}
use Rattle.list_lemmas.proofs.ItemsByPlace.{slice_get-set_cases, slice_get-set_same, slice_get-set_other}
use Rattle.jk_model_typing.specs.declared.frames.VType.{VType}
use Rattle.jk_model_typing.specs.declared.frames.VType.TheVariants.{Unusable, Int, Long, Null, Ref, Fresh, FreshThis}
use Rattle.jk_model_typing.specs.FrameTypes.{slots_of}
use Rattle.jk_model_typing.specs.Rows.{cut, cut_before, with_local, replaced}

pub record Halves (ls : List VType) : Type 0 where
  pub after : (n : ℕ) → slice_get ls n ≡ Some Long → slice_get ls (n + 1) ≡ Some Unusable

same_or_not : (a b : ℕ) → (a ≡ b) ⊎ (a ≢ b)
same_or_not zero zero = inl refl
same_or_not zero (suc b) = inr (λ e. absurd (omega (arith, e)))
same_or_not (suc a) zero = inr (λ e. absurd (omega (arith, e)))
same_or_not (suc a) (suc b) =
    elim (same_or_not a b) [ inl e ↦ inl (ap suc e) | inr h ↦ inr (λ e. h (omega (arith, e))) ]

-- ---- The local before is cut.

cut_is_no_long : (v : VType) → cut v ≢ Long
cut_is_no_long Unusable e = cc
cut_is_no_long Int e = cc
cut_is_no_long Long e = cc
cut_is_no_long Null e = cc
cut_is_no_long (Ref t) e = cc
cut_is_no_long (Fresh p) e = cc
cut_is_no_long FreshThis e = cc

record IsCut (ls : List VType) (n : ℕ) (now : List VType) : Type 0 where
  pub many : length now ≡ length ls
  pub long : (k : ℕ) → slice_get now k ≡ Some Long → (slice_get ls k ≡ Some Long) × (k + 1 ≢ n)
  pub unusable : (k : ℕ) → slice_get ls k ≡ Some Unusable → slice_get now k ≡ Some Unusable

one_cut : (ls : List VType) (n : ℕ) (o : Option VType) → slice_get ls n ≡ o → IsCut ls (suc n) (option_map_or (λ v. set ls n (cut v)) o ls)
one_cut ls n None e = record {
  many = refl;
  long = λ k at. (at, λ same. let here : slice_get ls n ≡ Some Long = subst (λ (i : ℕ). slice_get ls i ≡ Some Long) (omega (arith, same)) at in absurd cc);
  unusable = λ k at. at;
}
one_cut ls n (Some v) e = record {
  many = length-set ls n (cut v);
  long = λ k at.
      elim (slice_get-set_cases ls n k (cut v) Long at) [
        | inl here ↦ absurd (cut_is_no_long v here.1)
        | inr there ↦ (
          there,
          λ same.
              let is : n ≡ k = omega (arith, same) in
              let within : n < length ls = slice_get_within ls n v e in
              let new : slice_get (set ls n (cut v)) k ≡ Some (cut v) =
              subst (λ (i : ℕ). slice_get (set ls n (cut v)) i ≡ Some (cut v)) is (slice_get-set_same ls n (cut v) within) in
              cut_is_no_long v (same_Some (cut v) Long (sym new ∙ at)),
        )
      ];
  unusable = λ k at.
      elim (same_or_not n k) [
        | inl same ↦
            (let here : slice_get ls n ≡ Some Unusable = subst (λ (i : ℕ). slice_get ls i ≡ Some Unusable) (sym same) at in
            let v_is : v ≡ Unusable = same_Some v Unusable (sym e ∙ here) in
            let within : n < length ls = slice_get_within ls n v e in
            let new : slice_get (set ls n (cut v)) n ≡ Some (cut v) = slice_get-set_same ls n (cut v) within in
            subst (λ (i : ℕ). slice_get (set ls n (cut v)) i ≡ Some Unusable) same (new ∙ ap (λ (x : VType). Some (cut x)) v_is))
        | inr other ↦ slice_get-set_other ls n k (cut v) other ∙ at
      ];
}

is_cut : (ls : List VType) (n : ℕ) → IsCut ls n (cut_before ls n)
is_cut ls zero = record { many = refl; long = λ k at. (at, λ same. absurd (omega (arith, same))); unusable = λ k at. at }
is_cut ls (suc n) = one_cut ls n (slice_get ls n) refl

-- ---- A value is put into a local.

put_halves : (ls now : List VType) (n : ℕ) (v : VType) → v ≢ Long → IsCut ls n now → Halves ls → Halves (set now n v)
put_halves ls now n v short h halves = record {
  after = λ k at.
      elim (slice_get-set_cases now n k v Long at) [
        | inl here ↦ absurd (short here.1)
        | inr there ↦
            (let was = h.long k there in
            let next = h.unusable (k + 1) (halves.after k was.0) in
            slice_get-set_other now n (k + 1) v (λ e. was.1 (sym e)) ∙ next)
      ];
}

put_long : (ls now : List VType) (n : ℕ) → suc n < length ls → IsCut ls n now → Halves ls
    → Halves (set (set now n Long) (suc n) Unusable)
put_long ls now n room h halves = record {
  after = λ k at.
      let one : List VType = set now n Long in
      let two : List VType = set one (suc n) Unusable in
      let many : length one ≡ length now = length-set now n Long in
      let half : slice_get two (suc n) ≡ Some Unusable = slice_get-set_same one (suc n) Unusable (omega (arith, many, h.many)) in
      elim (same_or_not n k) [
        | inl same ↦ subst (λ (i : ℕ). slice_get two i ≡ Some Unusable) (omega (arith, same)) half
        | inr other ↦
            elim (slice_get-set_cases one (suc n) k Unusable Long at) [
              | inl here ↦ (let e = here.1 in absurd cc)
              | inr there ↦
                  elim (slice_get-set_cases now n k Long Long there) [
                    | inl here ↦ absurd (other here.0)
                    | inr old ↦
                        (let was = h.long k old in
                        let next = h.unusable (k + 1) (halves.after k was.0) in
                        slice_get-set_other one (suc n) (k + 1) Unusable (λ e. other (omega (arith, e)))
                        ∙ slice_get-set_other now n (k + 1) Long (λ e. was.1 (sym e)) ∙ next)
                  ]
            ]
      ];
}

pub stored_halves : (ls : List VType) (n : ℕ) (v : VType) → n + slots_of v ≤ length ls → Halves ls → Halves (with_local ls n v)
stored_halves ls n Unusable room h = put_halves ls (cut_before ls n) n Unusable (λ e. cc) (is_cut ls n) h
stored_halves ls n Int room h = put_halves ls (cut_before ls n) n Int (λ e. cc) (is_cut ls n) h
stored_halves ls n Long room h = put_long ls (cut_before ls n) n (omega arith) (is_cut ls n) h
stored_halves ls n Null room h = put_halves ls (cut_before ls n) n Null (λ e. cc) (is_cut ls n) h
stored_halves ls n (Ref t) room h = put_halves ls (cut_before ls n) n (Ref t) (λ e. cc) (is_cut ls n) h
stored_halves ls n (Fresh p) room h = put_halves ls (cut_before ls n) n (Fresh p) (λ e. cc) (is_cut ls n) h
stored_halves ls n FreshThis room h = put_halves ls (cut_before ls n) n FreshThis (λ e. cc) (is_cut ls n) h

put_many : (ls : List VType) (n : ℕ) (v : VType) → length (set (cut_before ls n) n v) ≡ length ls
put_many ls n v = length-set (cut_before ls n) n v ∙ (is_cut ls n).many

pub stored_many : (ls : List VType) (n : ℕ) (v : VType) → length (with_local ls n v) ≡ length ls
stored_many ls n Unusable = put_many ls n Unusable
stored_many ls n Int = put_many ls n Int
stored_many ls n Long = length-set (set (cut_before ls n) n Long) (suc n) Unusable ∙ put_many ls n Long
stored_many ls n Null = put_many ls n Null
stored_many ls n (Ref t) = put_many ls n (Ref t)
stored_many ls n (Fresh p) = put_many ls n (Fresh p)
stored_many ls n FreshThis = put_many ls n FreshThis

-- a long that is stored so that its half follows has a local for it
pub room_for : (ls : List VType) (n : ℕ) (v : VType) → n < length ls → Halves (with_local ls n v) → n + slots_of v ≤ length ls
room_for ls n Unusable lt h = omega arith
room_for ls n Int lt h = omega arith
room_for ls n Long lt h =
    let one : List VType = set (cut_before ls n) n Long in
    let two : List VType = set one (suc n) Unusable in
    let many : length one ≡ length ls = put_many ls n Long in
    let here : slice_get one n ≡ Some Long = slice_get-set_same (cut_before ls n) n Long (omega (arith, (is_cut ls n).many)) in
    let still : slice_get two n ≡ Some Long = slice_get-set_other one (suc n) n Unusable (λ e. absurd (omega (arith, e))) ∙ here in
    let within = slice_get_within two (n + 1) Unusable (h.after n still) in
    omega (arith, within, many, length-set one (suc n) Unusable)
room_for ls n Null lt h = omega arith
room_for ls n (Ref t) lt h = omega arith
room_for ls n (Fresh p) lt h = omega arith
room_for ls n FreshThis lt h = omega arith

-- ---- Fresh objects are replaced.

pub replaced_many : (test : VType → Bool) (new : VType) (ls : List VType) → length (replaced test new ls) ≡ length ls
replaced_many test new [] = refl
replaced_many test new (v ∷ ls) = ap suc (replaced_many test new ls)

pub replaced_halves : (test : VType → Bool) (new : VType) (ls : List VType) → test Unusable ≡ false → new ≢ Long → Halves ls
    → Halves (replaced test new ls)
replaced_halves test new ls untouched short h = record {
  after = λ n at.
      let f : VType → VType = λ v. if test v then new else v in
      let was : slice_get ls n ≡ Some Long = long_before f n (slice_get ls n) refl (sym (slice_get-map f ls n) ∙ at) in
      slice_get-map f ls (n + 1) ∙ ap (option_map f) (h.after n was) ∙ ap (λ (b : Bool). Some (if b then new else Unusable)) untouched;
}
  where
    chosen : (b : Bool) (v : VType) → (if b then new else v) ≡ Long → v ≡ Long
    chosen true v e = absurd (short e)
    chosen false v e = e

    long_before : (f : VType → VType) (n : ℕ) (o : Option VType) → slice_get ls n ≡ o
        → option_map (λ v. if test v then new else v) o ≡ Some Long → slice_get ls n ≡ Some Long
    long_before f n None e at = absurd cc
    long_before f n (Some v) e at =
        let is : v ≡ Long = chosen (test v) v (same_Some (if test v then new else v) Long at) in
        e ∙ ap (λ (x : VType). Some x) is
