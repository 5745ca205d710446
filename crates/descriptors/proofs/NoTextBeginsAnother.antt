-- No text of a base, field, result or method, or of parameters, is the beginning of another, so it is of one type; and where
-- units stop being one.
use Rattle.std.proofs.Common.{◌≡◌, ◌≢◌, ℕ, zero, suc, ◌+◌, ◌<◌, ◌≤◌, ◌⊎◌, inl, inr, cond, eqb, List, [], ◌∷◌, ◌++◌, length, replicate, Option, Some, None, refl, sym, ◌∙◌, ap, arith, append-nil, append_assoc}
use Rattle.std.specs.List.{AllByRecursion, flat_map}
use Rattle.jk_model.specs.declared.descriptors.Base.{Base}
use Rattle.jk_model.specs.declared.descriptors.Base.TheVariants.{Byte, Char, Double, Float, Int, Long, Short, Bool as Boolean, Class}
use Rattle.jk_model.specs.declared.descriptors.FieldType.{FieldType}
use Rattle.jk_model.specs.declared.descriptors.MethodType.{MethodType}
use Rattle.jk_model.specs.Descriptors.{IsBase, base_text, IsFieldType, field_text, IsFieldText, IsResult, result_text, IsMethodText, IsFieldDescriptor, IsMethodDescriptor}
use Rattle.descriptors.specs.Stops.{StartsAs, IsStuck}
use Rattle.descriptors.specs.Names.{IsNameText}
use Rattle.descriptors.specs.PartTexts.{IsBaseText, IsParamsText, IsResultText, IsNoLetter}
use Rattle.jk_model.proofs.EachItem.{all_push}
use Rattle.jk_model.proofs.EmptyByLength.{length_from_not_nil}
use Rattle.descriptors.proofs.PartStopsTheWhole.{IsPrefixFree, starts_within, first_of, IsBoth, stuck_first, stuck_second, free_both, stuck_as}
use Rattle.descriptors.proofs.NamesAreWalks.{same_names}

-- ---- Bases.

-- the first unit of a base's text, and the others
abbrev first_unit : Base → ℕ
first_unit Byte = 66
first_unit Char = 67
first_unit Double = 68
first_unit Float = 70
first_unit Int = 73
first_unit Long = 74
first_unit Short = 83
first_unit Boolean = 90
first_unit (Class name) = 76

abbrev other_units : Base → List ℕ
other_units (Class name) = name ++ 59 ∷ []
other_units _ = []

base_parts : (b : Base) → base_text b ≡ first_unit b ∷ other_units b
base_parts (Class name) = refl
base_parts _ = refl

base_first : (b : Base) (r : List ℕ) (u : ℕ) (z : List ℕ) → base_text b ++ r ≡ u ∷ z → (first_unit b ≡ u) × (other_units b ++ r ≡ z)
base_first b r u z e =
    let whole : first_unit b ∷ (other_units b ++ r) ≡ u ∷ z = sym (ap (λ t. t ++ r) (base_parts b)) ∙ e in
    (cc, cc)

unit_within : (b : Base) → (66 ≤ first_unit b) × (first_unit b < 91) × (first_unit b ≢ 86)
unit_within (Class name) = (omega arith, omega arith, λ e. absurd (omega arith))
unit_within _ = (omega arith, omega arith, λ e. absurd (omega arith))

abbrev IsLetter : Base → Type 0
IsLetter (Class name) = ⊥
IsLetter _ = Unit {0}

abbrev base_of : ℕ → Base
base_of u =
    cond (eqb u 66) Byte (cond (eqb u 67) Char
    (cond (eqb u 68) Double (cond (eqb u 70) Float (cond (eqb u 73) Int (cond (eqb u 74) Long (cond (eqb u 83) Short Boolean))))))

base_back : (b : Base) → IsLetter b → base_of (first_unit b) ≡ b
base_back (Class name) h = absurd h
base_back _ h = refl

letter_alone : (b : Base) → IsLetter b → other_units b ≡ []
letter_alone (Class name) h = absurd h
letter_alone _ h = refl

letters_free : (b c : Base) (r s : List ℕ) → IsLetter b → IsLetter c → base_text b ++ r ≡ base_text c ++ s → (b ≡ c) × (r ≡ s)
letters_free b c r s h k e =
    let both = base_first b r (first_unit c) (other_units c ++ s) (e ∙ ap (λ t. t ++ s) (base_parts c)) in
    let left : other_units b ++ r ≡ r = ap (λ t. t ++ r) (letter_alone b h) in
    let right : other_units c ++ s ≡ s = ap (λ t. t ++ s) (letter_alone c k) in
    (sym (base_back b h) ∙ ap base_of both.0 ∙ base_back c k, sym left ∙ both.1 ∙ right)

no_class : (b : Base) → IsLetter b → first_unit b ≡ 76 → ⊥
no_class (Class name) h e = h
no_class _ h e = omega arith

class_free : (name : List ℕ) (c : Base) (r s : List ℕ) → IsLetter c → base_text (Class name) ++ r ≡ base_text c ++ s → ⊥
class_free name c r s k e = no_class c k (base_first c s 76 ((name ++ 59 ∷ []) ++ r) (sym e)).0

pub bases_free : (b c : Base) (r s : List ℕ) → IsBase b → IsBase c → base_text b ++ r ≡ base_text c ++ s → (b ≡ c) × (r ≡ s)
bases_free (Class name) (Class other) r s h k e =
    let whole : 76 ∷ ((name ++ 59 ∷ []) ++ r) ≡ 76 ∷ ((other ++ 59 ∷ []) ++ s) = e in
    let after : (name ++ 59 ∷ []) ++ r ≡ (other ++ 59 ∷ []) ++ s = cc in
    let same = same_names name other r s h k (sym (append_assoc name (59 ∷ []) r) ∙ after ∙ append_assoc other (59 ∷ []) s) in
    (ap (λ n. Class n) same.0, same.1)
bases_free (Class name) c r s h k e = absurd (class_free name c r s tt e)
bases_free b (Class other) r s h k e = absurd (class_free other b s r tt (sym e))
bases_free b c r s h k e = letters_free b c r s tt tt e

-- a base whose text begins with `L` goes on as a class's name
class_only : (b : Base) → IsBase b → first_unit b ≡ 76 → IsNameText (other_units b)
class_only (Class name) h e = (name, h, refl)
class_only _ h e = absurd (omega arith)

pub stuck_class : (front rest : List ℕ) → IsStuck IsNameText front rest → IsStuck IsBaseText (76 ∷ front) rest
stuck_class front rest ((more, (name, h, e)), never) = (
  (more, (Class name, h, ap (λ t. 76 ∷ t) e)),
  λ v text after s t eq.
      let both = base_first t.0 after 76 (front ++ v) (ap (λ w. w ++ after) (sym t.2) ∙ sym eq) in
      never v (other_units t.0) after s (class_only t.0 t.1 both.0) (sym both.1),
)

no_unit : (b : Base) (u : ℕ) → IsNoLetter u → u ≢ 76 → first_unit b ≡ u → ⊥
no_unit Byte u h k e = h.0 (sym e)
no_unit Char u h k e = h.1 (sym e)
no_unit Double u h k e = h.2 (sym e)
no_unit Float u h k e = h.3 (sym e)
no_unit Int u h k e = h.4 (sym e)
no_unit Long u h k e = h.5 (sym e)
no_unit Short u h k e = h.6 (sym e)
no_unit Boolean u h k e = h.7 (sym e)
no_unit (Class name) u h k e = k (sym e)

-- nothing begins here
stuck_here : (units : List ℕ) → ((b : Base) (more : List ℕ) → units ≡ first_unit b ∷ more → ⊥) → IsStuck IsBaseText [] units
stuck_here units none = (
  (66 ∷ [], (Byte, tt, refl)),
  λ v text after s t eq.
      let whole : v ≡ first_unit t.0 ∷ (other_units t.0 ++ after) = eq ∙ ap (λ w. w ++ after) (t.2 ∙ base_parts t.0) in
      let found = first_of units v (first_unit t.0) (other_units t.0 ++ after) s whole in
      none t.0 found.0 found.1,
)

pub stuck_nothing : IsStuck IsBaseText [] []
stuck_nothing = stuck_here [] (λ b more e. absurd cc)

pub stuck_unit : (u : ℕ) (rest : List ℕ) → IsNoLetter u → u ≢ 76 → IsStuck IsBaseText [] (u ∷ rest)
stuck_unit u rest h k =
    stuck_here (u ∷ rest)
    (λ b more e.
    let whole : u ∷ rest ≡ first_unit b ∷ more = e in
    no_unit b u h k cc)

-- ---- Fields.

abbrev field_of : ℕ → Base → FieldType
field_of n b = record { dims = n; base = b }

dims_first : (n : ℕ) (b : Base) (r : List ℕ) (u : ℕ) (z : List ℕ) → (replicate n 91 ++ base_text b) ++ r ≡ u ∷ z → (u ≢ 41) × (u ≢ 86)
dims_first zero b r u z e =
    let same = (base_first b r u z e).0 in
    let within = unit_within b in
    (λ k. absurd (omega (arith, same, within.0)), λ k. within.2 (same ∙ k))
dims_first (suc n) b r u z e =
    let whole : 91 ∷ ((replicate n 91 ++ base_text b) ++ r) ≡ u ∷ z = e in
    let same : u ≡ 91 = cc in
    (λ k. absurd (omega (arith, same)), λ k. absurd (omega (arith, same)))

-- a field's text begins with no parenthesis and no `V`
pub field_first : (t : FieldType) (r : List ℕ) (u : ℕ) (z : List ℕ) → field_text t ++ r ≡ u ∷ z → (u ≢ 41) × (u ≢ 86)
field_first t r u z e = dims_first t.dims t.base r u z e

some_dims : (n : ℕ) (b : Base) (r : List ℕ) → (replicate n 91 ++ base_text b) ++ r ≡ [] → ⊥
some_dims zero b r e =
    let whole : first_unit b ∷ (other_units b ++ r) ≡ [] = sym (ap (λ t. t ++ r) (base_parts b)) ∙ e in
    absurd cc
some_dims (suc n) b r e =
    let whole : 91 ∷ ((replicate n 91 ++ base_text b) ++ r) ≡ [] = e in
    absurd cc

-- a field's text has a unit
pub field_some : (t : FieldType) → 0 < length (field_text t)
field_some t = length_from_not_nil (field_text t) (λ e. some_dims t.dims t.base [] (append-nil (field_text t) ∙ e))

no_bracket : (b : Base) (r z : List ℕ) → base_text b ++ r ≡ 91 ∷ z → ⊥
no_bracket b r z e = absurd (omega (arith, (base_first b r 91 z e).0, (unit_within b).1))

record Same (d k : ℕ) (b c : Base) (r s : List ℕ) : Type 0 where
  dims : d ≡ k
  base : b ≡ c
  after : r ≡ s

dims_free : (d k : ℕ) (b c : Base) (r s : List ℕ) → IsBase b → IsBase c → (replicate d 91 ++ base_text b) ++ r ≡ (replicate k 91 ++ base_text c) ++ s
    → Same d k b c r s
dims_free zero zero b c r s h k e =
    let same = bases_free b c r s h k e in
    record { dims = refl; base = same.0; after = same.1 }
dims_free zero (suc n) b c r s h k e = absurd (no_bracket b r ((replicate n 91 ++ base_text c) ++ s) e)
dims_free (suc m) zero b c r s h k e = absurd (no_bracket c s ((replicate m 91 ++ base_text b) ++ r) (sym e))
dims_free (suc m) (suc n) b c r s h k e =
    let whole : 91 ∷ ((replicate m 91 ++ base_text b) ++ r) ≡ 91 ∷ ((replicate n 91 ++ base_text c) ++ s) = e in
    let same = dims_free m n b c r s h k cc in
    record { dims = ap suc same.dims; base = same.base; after = same.after }

fields_same : (d k : ℕ) (b c : Base) → d ≡ k → b ≡ c → field_of d b ≡ field_of k c
fields_same d k b c e f = rw (e, f) refl

pub fields_free : (t u : FieldType) (r s : List ℕ) → IsFieldType t → IsFieldType u → field_text t ++ r ≡ field_text u ++ s → (t ≡ u) × (r ≡ s)
fields_free t u r s h k e =
    let same = dims_free t.dims u.dims t.base u.base r s h.1 k.1 e in
    (fields_same t.dims u.dims t.base u.base same.dims same.base, same.after)

pub field_texts_free : IsPrefixFree IsFieldDescriptor
field_texts_free a b r s (t, (h, e)) (u, (k, f)) eq =
    let same = fields_free t u r s h k (ap (λ w. w ++ r) (sym e) ∙ eq ∙ ap (λ w. w ++ s) f) in
    (e ∙ ap field_text same.0 ∙ sym f, same.1)

record Cancelled (d k : ℕ) (b : Base) (r z : List ℕ) : Type 0 where
  left : ℕ
  sum : k ≡ d + left
  after : z ≡ (replicate left 91 ++ base_text b) ++ r

cancelled : (d k : ℕ) (b : Base) (r z : List ℕ) → replicate d 91 ++ z ≡ (replicate k 91 ++ base_text b) ++ r → Cancelled d k b r z
cancelled zero k b r z e = record { left = k; sum = omega arith; after = e }
cancelled (suc d) zero b r z e = absurd (no_bracket b r (replicate d 91 ++ z) (sym e))
cancelled (suc d) (suc k) b r z e =
    let whole : 91 ∷ (replicate d 91 ++ z) ≡ 91 ∷ ((replicate k 91 ++ base_text b) ++ r) = e in
    let on = cancelled d k b r z cc in
    record { left = on.left; sum = omega (arith, on.sum); after = on.after }

-- there are 255 brackets, or no further one
abbrev pub IsFull : ℕ → List ℕ → Type 0
IsFull n units = (n ≡ 255) ⊎ ((after : List ℕ) → units ≡ 91 ∷ after → ⊥)

no_further : (n left : ℕ) (units after : List ℕ) → IsFull n units → n + suc left ≤ 255 → units ≡ 91 ∷ after → ⊥
no_further n left units after (inl most) le e = absurd (omega arith)
no_further n left units after (inr none) le e = none after e

stuck_at : (d left : ℕ) (b : Base) (front rest v after : List ℕ) → IsFull d (front ++ rest) → d + left ≤ 255 → IsBase b → IsStuck IsBaseText front rest
    → StartsAs rest v → front ++ v ≡ (replicate left 91 ++ base_text b) ++ after → ⊥
stuck_at d zero b front rest v after full le h stuck s e = stuck.1 v (base_text b) after s (b, h, refl) e
stuck_at d (suc left) b front rest v after full le h stuck s e =
    let found = first_of (front ++ rest) (front ++ v) 91 ((replicate left 91 ++ base_text b) ++ after) (starts_within front rest v s) e in
    no_further d left (front ++ rest) found.0 full le found.1

pub stuck_field : (d : ℕ) (front rest : List ℕ) → d ≤ 255 → IsFull d (front ++ rest) → IsStuck IsBaseText front rest
    → IsStuck IsFieldDescriptor (replicate d 91 ++ front) rest
stuck_field d front rest le full stuck = (
  (stuck.0.0, (field_of d stuck.0.1.0, ((le, stuck.0.1.1), append_assoc (replicate d 91) front stuck.0.0 ∙ ap (λ w. replicate d 91 ++ w) stuck.0.1.2))),
  λ v text after s t e.
      let whole : replicate d 91 ++ (front ++ v) ≡ (replicate t.0.dims 91 ++ base_text t.0.base) ++ after =
      sym (append_assoc (replicate d 91) front v) ∙ e ∙ ap (λ w. w ++ after) t.1.1 in
      let rest_of = cancelled d t.0.dims t.0.base after (front ++ v) whole in
      stuck_at d rest_of.left t.0.base front rest v after full (omega (arith, rest_of.sum, t.1.0.0)) t.1.0.1 stuck s rest_of.after,
)

-- ---- Parameters.

abbrev pub params_text : List FieldType → List ℕ
params_text params = flat_map field_text params

params_free : (ps qs : List FieldType) (r s : List ℕ) → AllByRecursion IsFieldType ps → AllByRecursion IsFieldType qs
    → params_text ps ++ 41 ∷ r ≡ params_text qs ++ 41 ∷ s → (ps ≡ qs) × (r ≡ s)
params_free [] [] r s h k e =
    let whole : 41 ∷ r ≡ 41 ∷ s = e in
    (refl, cc)
params_free [] (q ∷ qs) r s h k e =
    absurd ((field_first q (params_text qs ++ 41 ∷ s) 41 r (sym (e ∙ append_assoc (field_text q) (params_text qs) (41 ∷ s)))).0 refl)
params_free (p ∷ ps) [] r s h k e =
    absurd ((field_first p (params_text ps ++ 41 ∷ r) 41 s (sym (append_assoc (field_text p) (params_text ps) (41 ∷ r)) ∙ e)).0 refl)
params_free (p ∷ ps) (q ∷ qs) r s h k e =
    let whole : field_text p ++ (params_text ps ++ 41 ∷ r) ≡ field_text q ++ (params_text qs ++ 41 ∷ s) =
    sym (append_assoc (field_text p) (params_text ps) (41 ∷ r)) ∙ e ∙ append_assoc (field_text q) (params_text qs) (41 ∷ s) in
    let same = fields_free p q (params_text ps ++ 41 ∷ r) (params_text qs ++ 41 ∷ s) h.0 k.0 whole in
    let others = params_free ps qs r s h.1 k.1 same.1 in
    (rw (same.0, others.0) refl, others.1)

closed : (ps : List FieldType) (text r : List ℕ) → text ≡ params_text ps ++ 41 ∷ [] → text ++ r ≡ params_text ps ++ 41 ∷ r
closed ps text r e = rw e (append_assoc (params_text ps) (41 ∷ []) r)

pub params_texts_free : IsPrefixFree IsParamsText
params_texts_free a b r s (ps, h, e) (qs, k, f) eq =
    let same = params_free ps qs r s h k (sym (closed ps a r e) ∙ eq ∙ closed qs b s f) in
    (e ∙ ap (λ w. params_text w ++ 41 ∷ []) same.0 ∙ sym f, same.1)

abbrev HasNoClose : List ℕ → Type 0
HasNoClose units = (after : List ℕ) → units ≡ 41 ∷ after → ⊥

never_params : (front rest : List ℕ) → HasNoClose (front ++ rest) → IsStuck IsFieldDescriptor front rest
    → (v : List ℕ) (ps : List FieldType) (after : List ℕ) → StartsAs rest v → AllByRecursion IsFieldType ps → front ++ v ≡ params_text ps ++ 41 ∷ after → ⊥
never_params front rest unclosed stuck v [] after s h e =
    let found = first_of (front ++ rest) (front ++ v) 41 after (starts_within front rest v s) e in
    unclosed found.0 found.1
never_params front rest unclosed stuck v (p ∷ ps) after s h e =
    stuck.1 v (field_text p) (params_text ps ++ 41 ∷ after) s (p, (h.0, refl)) (e ∙ append_assoc (field_text p) (params_text ps) (41 ∷ after))

never_more : (params : List FieldType) (front rest : List ℕ) → AllByRecursion IsFieldType params → HasNoClose (front ++ rest)
    → IsStuck IsFieldDescriptor front rest → (v : List ℕ) (ps : List FieldType) (after : List ℕ) → StartsAs rest v → AllByRecursion IsFieldType ps
    → params_text params ++ (front ++ v) ≡ params_text ps ++ 41 ∷ after → ⊥
never_more [] front rest all unclosed stuck v ps after s h e = never_params front rest unclosed stuck v ps after s h e
never_more (p ∷ params) front rest all unclosed stuck v [] after s h e =
    absurd ((field_first p (params_text params ++ (front ++ v)) 41 after (sym (append_assoc (field_text p) (params_text params) (front ++ v)) ∙ e)).0 refl)
never_more (p ∷ params) front rest all unclosed stuck v (q ∷ ps) after s h e =
    let whole : field_text p ++ (params_text params ++ (front ++ v)) ≡ field_text q ++ (params_text ps ++ 41 ∷ after) =
    sym (append_assoc (field_text p) (params_text params) (front ++ v)) ∙ e ∙ append_assoc (field_text q) (params_text ps) (41 ∷ after) in
    let same = fields_free p q (params_text params ++ (front ++ v)) (params_text ps ++ 41 ∷ after) all.0 h.0 whole in
    never_more params front rest all.1 unclosed stuck v ps after s h.1 same.1

text_with : (ps : List FieldType) (t : FieldType) → params_text (ps ++ t ∷ []) ≡ params_text ps ++ field_text t
text_with [] t = append-nil (field_text t)
text_with (p ∷ ps) t = ap (λ w. field_text p ++ w) (text_with ps t) ∙ sym (append_assoc (field_text p) (params_text ps) (field_text t))

pub stuck_params : (params : List FieldType) (front rest : List ℕ) → AllByRecursion IsFieldType params → HasNoClose (front ++ rest)
    → IsStuck IsFieldDescriptor front rest → IsStuck IsParamsText (params_text params ++ front) rest
stuck_params params front rest all unclosed stuck =
    let more : List ℕ = stuck.0.0 in
    let t : FieldType = stuck.0.1.0 in
    let begun : (params_text params ++ front) ++ (more ++ 41 ∷ []) ≡ params_text (params ++ t ∷ []) ++ 41 ∷ [] =
    sym (append_assoc (params_text params ++ front) more (41 ∷ []))
    ∙ ap (λ w. w ++ 41 ∷ []) (append_assoc (params_text params) front more ∙ ap (λ w. params_text params ++ w) stuck.0.1.1.1 ∙ sym (text_with params t)) in (
      (more ++ 41 ∷ [], (params ++ t ∷ [], all_push IsFieldType params t all stuck.0.1.1.0, begun)),
      λ v text after s h e.
          never_more params front rest all unclosed stuck v h.0 after s h.1 (sym (append_assoc (params_text params) front v) ∙ e ∙ closed h.0 text after h.2),
    )

-- what is known once some parameters are read
abbrev pub AreSoFar : List ℕ → List ℕ → List FieldType → Type 0
AreSoFar units rest params = AllByRecursion IsFieldType params × (units ≡ params_text params ++ rest)

pub after_param : (units rest after : List ℕ) (params : List FieldType) (t : FieldType) → AreSoFar units rest params
    → IsFieldType t × (rest ≡ field_text t ++ after) → AreSoFar units after (params ++ t ∷ [])
after_param units rest after params t (all, e) (h, f) = (
  all_push IsFieldType params t all h,
  e ∙ ap (λ w. params_text params ++ w) f ∙ sym (append_assoc (params_text params) (field_text t) after) ∙ ap (λ w. w ++ after) (sym (text_with params t)),
)

-- ---- Results.

results_free : (t u : Option FieldType) (r s : List ℕ) → IsResult t → IsResult u → result_text t ++ r ≡ result_text u ++ s → (t ≡ u) × (r ≡ s)
results_free None None r s h k e =
    let whole : 86 ∷ r ≡ 86 ∷ s = e in
    (refl, cc)
results_free None (Some u) r s h k e = absurd ((field_first u s 86 r (sym e)).1 refl)
results_free (Some t) None r s h k e = absurd ((field_first t r 86 s e).1 refl)
results_free (Some t) (Some u) r s h k e =
    let same = fields_free t u r s h k e in
    (ap (λ w. Some w) same.0, same.1)

pub result_texts_free : IsPrefixFree IsResultText
result_texts_free a b r s (t, h, e) (u, k, f) eq =
    let same = results_free t u r s h k (ap (λ w. w ++ r) (sym e) ∙ eq ∙ ap (λ w. w ++ s) f) in
    (e ∙ ap result_text same.0 ∙ sym f, same.1)

never_result : (front rest : List ℕ) → ((after : List ℕ) → front ++ rest ≡ 86 ∷ after → ⊥) → IsStuck IsFieldDescriptor front rest
    → (v : List ℕ) (t : Option FieldType) (after : List ℕ) → StartsAs rest v → IsResult t → front ++ v ≡ result_text t ++ after → ⊥
never_result front rest typed stuck v None after s h e =
    let found = first_of (front ++ rest) (front ++ v) 86 after (starts_within front rest v s) e in
    typed found.0 found.1
never_result front rest typed stuck v (Some t) after s h e = stuck.1 v (field_text t) after s (t, (h, refl)) e

pub stuck_result : (front rest : List ℕ) → ((after : List ℕ) → front ++ rest ≡ 86 ∷ after → ⊥) → IsStuck IsFieldDescriptor front rest
    → IsStuck IsResultText front rest
stuck_result front rest typed stuck = (
  (stuck.0.0, (Some stuck.0.1.0, stuck.0.1.1.0, stuck.0.1.1.1)),
  λ v text after s h e. never_result front rest typed stuck v h.0 after s h.1 (e ∙ ap (λ w. w ++ after) h.2),
)

-- ---- Methods.

abbrev IsOpen : List ℕ → Type 0
IsOpen text = text ≡ 40 ∷ []

abbrev IsClosed : List ℕ → Type 0
IsClosed text = IsBoth IsParamsText IsResultText text

abbrev IsParts : List ℕ → Type 0
IsParts text = IsBoth IsOpen IsClosed text

method_of : (text : List ℕ) → IsParts text → IsMethodDescriptor text
method_of text (a, b, opened, (p, r, (params, all, e), (result, h, f), eq2), eq) =
    let after : p ++ r ≡ params_text params ++ 41 ∷ result_text result = closed params p r e ∙ ap (λ w. params_text params ++ 41 ∷ w) f in
    let whole : text ≡ 40 ∷ params_text params ++ 41 ∷ result_text result = eq ∙ ap (λ w. w ++ b) opened ∙ ap (λ w. 40 ∷ w) (eq2 ∙ after) in
    (record { params = params; result = result }, ((all, h), whole))

parts_of : (text : List ℕ) → IsMethodDescriptor text → IsParts text
parts_of text (m, (h, e)) = (
  40 ∷ [],
  (params_text m.params ++ 41 ∷ []) ++ result_text m.result,
  refl,
  (params_text m.params ++ 41 ∷ [], result_text m.result, (m.params, h.0, refl), (m.result, h.1, refl), refl),
  e ∙ ap (λ w. 40 ∷ w) (sym (append_assoc (params_text m.params) (41 ∷ []) (result_text m.result))),
)

open_free : IsPrefixFree IsOpen
open_free a b r s h k e =
    let whole : 40 ∷ r ≡ 40 ∷ s = ap (λ w. w ++ r) (sym h) ∙ e ∙ ap (λ w. w ++ s) k in
    (h ∙ sym k, cc)

pub method_texts_free : IsPrefixFree IsMethodDescriptor
method_texts_free a b r s h k e =
    free_both IsOpen IsClosed open_free (free_both IsParamsText IsResultText params_texts_free result_texts_free) a b r s (parts_of a h) (parts_of b k) e

as_method : (front rest : List ℕ) → IsStuck IsParts front rest → IsStuck IsMethodDescriptor front rest
as_method front rest stuck = stuck_as IsParts IsMethodDescriptor method_of parts_of front rest stuck

void : IsResultText (86 ∷ [])
void = (None, tt, refl)

pub stuck_unopened : (units : List ℕ) → ((after : List ℕ) → units ≡ 40 ∷ after → ⊥) → IsStuck IsMethodDescriptor [] units
stuck_unopened units never =
    let opens : IsStuck IsOpen [] units = (
      (40 ∷ [], refl),
      λ v text after s t e. let found = first_of units v 40 after s (e ∙ ap (λ w. w ++ after) t) in never found.0 found.1,
    ) in
    as_method [] units (stuck_first IsOpen IsClosed [] units (41 ∷ 86 ∷ []) (41 ∷ [], 86 ∷ [], ([], tt, refl), void, refl) opens)

pub stuck_at_params : (front rest : List ℕ) → IsStuck IsParamsText front rest → IsStuck IsMethodDescriptor (40 ∷ front) rest
stuck_at_params front rest stuck =
    as_method (40 ∷ front) rest (stuck_second IsOpen IsClosed open_free (40 ∷ []) front rest refl
    (stuck_first IsParamsText IsResultText front rest (86 ∷ []) void stuck))

pub stuck_at_result : (params : List FieldType) (front rest : List ℕ) → AllByRecursion IsFieldType params → IsStuck IsResultText front rest
    → IsStuck IsMethodDescriptor (40 ∷ ((params_text params ++ 41 ∷ []) ++ front)) rest
stuck_at_result params front rest all stuck =
    let closes : List ℕ = params_text params ++ 41 ∷ [] in
    as_method (40 ∷ (closes ++ front)) rest (stuck_second IsOpen IsClosed open_free (40 ∷ []) (closes ++ front) rest refl
    (stuck_second IsParamsText IsResultText params_texts_free closes front rest (params, all, refl) stuck))

-- ---- A text is of one type.

pub one_field : (units : List ℕ) (t u : FieldType) → IsFieldText units t → IsFieldText units u → t ≡ u
one_field units t u h k = (fields_free t u [] [] h.0 k.0 (append-nil (field_text t) ∙ sym h.1 ∙ k.1 ∙ sym (append-nil (field_text u)))).0

results_same : (r s : Option FieldType) → IsResult r → IsResult s → result_text r ≡ result_text s → r ≡ s
results_same r s h k e = (results_free r s [] [] h k (append-nil (result_text r) ∙ e ∙ sym (append-nil (result_text s)))).0

abbrev method_with : List FieldType → Option FieldType → MethodType
method_with params result = record { params = params; result = result }

methods_same : (p q : List FieldType) (r s : Option FieldType) → p ≡ q → r ≡ s → method_with p r ≡ method_with q s
methods_same p q r s e f = rw (e, f) refl

pub one_method : (units : List ℕ) (m n : MethodType) → IsMethodText units m → IsMethodText units n → m ≡ n
one_method units m n h k =
    let whole : 40 ∷ (params_text m.params ++ 41 ∷ result_text m.result) ≡ 40 ∷ (params_text n.params ++ 41 ∷ result_text n.result) = sym h.1 ∙ k.1 in
    let same = params_free m.params n.params (result_text m.result) (result_text n.result) h.0.0 k.0.0 cc in
    methods_same m.params n.params m.result n.result same.0 (results_same m.result n.result h.0.1 k.0.1 same.1)
