-- What stands under a name of a heap once an object has other contents.
use Rattle.std.proofs.Common.{inl, inr, ◌≡◌, ◌≢◌, ℕ, suc, ◌==◌, Bool, true, false, cond, List, [], ◌∷◌, ◌++◌, find, Some, None, slice_get, refl, sym, ap, ◌∙◌, arith}
use Rattle.std.specs.Option.{option_map}
use Rattle.std.proofs.lemmas.Bool.{eq-eqb, eqb-true}
use Rattle.std.proofs.lemmas.Bool.Decides.{eqb_tells}
use Rattle.std.proofs.lemmas.Option.{same_Some}
use Rattle.jk_model_domains.specs.Objects.{NamedObject, Object, object_named}
use Rattle.jk_model_heaps.specs.Heaps.{named, with_object}

abbrev object_in : NamedObject → Object
object_in e = e.object

abbrev has_name : ℕ → NamedObject → Bool
has_name a e = e.name == a

-- no name is there twice
abbrev pub NamesDiffer : List NamedObject → Type 0
NamesDiffer heap =
    (i j : ℕ) (a b : NamedObject) → slice_get heap i ≡ Some a → slice_get heap j ≡ Some b → a.name ≡ b.name → i ≡ j

abbrev pub IsNotThere : ℕ → List NamedObject → Type 0
IsNotThere a heap = (k : ℕ) (e : NamedObject) → slice_get heap k ≡ Some e → e.name ≡ a → ⊥

not_equal : (a b : ℕ) → a ≢ b → (a == b) ≡ false
not_equal a b differ = elim (eqb_tells a b) [ inl h ↦ absurd (differ h.1) | inr h ↦ h.0 ]

-- ---- Under its name the new object stands.

in_place_by : (a : ℕ) (p o : Object) (e : NamedObject) (es : List NamedObject) (b : Bool) → (e.name == a) ≡ b
    → option_map object_in (cond b (Some e) (find (has_name a) es)) ≡ Some o
    → (object_named es a ≡ Some o → object_named (with_object a p es) a ≡ Some p)
    → object_named (cond b (named a p) e ∷ with_object a p es) a ≡ Some p
in_place_by a p o e es true t live later =
    ap (λ (b : Bool). option_map object_in (cond b (Some (named a p)) (find (has_name a) (with_object a p es)))) (eq-eqb a a refl)
in_place_by a p o e es false t live later =
    ap (λ (b : Bool). option_map object_in (cond b (Some e) (find (has_name a) (with_object a p es)))) t ∙ later live

pub named_in_place : (a : ℕ) (p o : Object) (heap : List NamedObject) → object_named heap a ≡ Some o
    → object_named (with_object a p heap) a ≡ Some p
named_in_place a p o [] live = absurd cc
named_in_place a p o (e ∷ es) live = in_place_by a p o e es (e.name == a) refl live (named_in_place a p o es)

-- ---- Under other names stands what stood.

beside_here : (a b : ℕ) (e : NamedObject) (es fs : List NamedObject) → object_named es b ≡ object_named fs b
    → (t : Bool) → option_map object_in (cond t (Some e) (find (has_name b) es)) ≡ option_map object_in (cond t (Some e) (find (has_name b) fs))
beside_here a b e es fs rest true = refl
beside_here a b e es fs rest false = rest

beside_by : (a b : ℕ) (p : Object) (e : NamedObject) (es : List NamedObject) → b ≢ a → (t : Bool) → (e.name == a) ≡ t
    → object_named (with_object a p es) b ≡ object_named es b
    → object_named (cond t (named a p) e ∷ with_object a p es) b ≡ object_named (e ∷ es) b
beside_by a b p e es differ true t rest =
    let same : e.name ≡ a = eqb-true e.name a t in
    let new : (a == b) ≡ false = not_equal a b (λ h. differ (sym h)) in
    let old : (e.name == b) ≡ false = ap (λ (n : ℕ). n == b) same ∙ new in
    ap (λ (x : Bool). option_map object_in (cond x (Some (named a p)) (find (has_name b) (with_object a p es)))) new
    ∙ rest
    ∙ sym (ap (λ (x : Bool). option_map object_in (cond x (Some e) (find (has_name b) es))) old)
beside_by a b p e es differ false t rest = beside_here a b e (with_object a p es) es rest (e.name == b)

pub named_beside : (a b : ℕ) (p : Object) (heap : List NamedObject) → b ≢ a → object_named (with_object a p heap) b ≡ object_named heap b
named_beside a b p [] differ = refl
named_beside a b p (e ∷ es) differ = beside_by a b p e es differ (e.name == a) refl (named_beside a b p es differ)

-- ---- The last of two objects that are put under a name stays.

twice_by : (a : ℕ) (p q : Object) (e : NamedObject) (t : Bool) → (e.name == a) ≡ t
    → cond ((cond t (named a p) e).name == a) (named a q) (cond t (named a p) e) ≡ cond t (named a q) e
twice_by a p q e true t = ap (λ (b : Bool). cond b (named a q) (named a p)) (eq-eqb a a refl)
twice_by a p q e false t = ap (λ (b : Bool). cond b (named a q) e) t

pub written_twice : (a : ℕ) (p q : Object) (heap : List NamedObject) → with_object a q (with_object a p heap) ≡ with_object a q heap
written_twice a p q [] = refl
written_twice a p q (e ∷ es) =
    let here = twice_by a p q e (e.name == a) refl in
    let rest = written_twice a p q es in
    cc

-- ---- An object that is put where it stands changes nothing.

pub absent_by : (a : ℕ) (o : Object) (e : NamedObject) (t : Bool) → (e.name == a) ≡ t → e.name ≢ a → cond t (named a o) e ≡ e
absent_by a o e true t differ = absurd (differ (eqb-true e.name a t))
absent_by a o e false t differ = refl

pub absent_as_is : (a : ℕ) (o : Object) (heap : List NamedObject) → IsNotThere a heap → with_object a o heap ≡ heap
absent_as_is a o [] absent = refl
absent_as_is a o (e ∷ es) absent =
    let here = absent_by a o e (e.name == a) refl (absent 0 e refl) in
    let rest = absent_as_is a o es (λ k x. absent (suc k) x) in
    cc

pub rest_differs : (e : NamedObject) (es : List NamedObject) → NamesDiffer (e ∷ es) → NamesDiffer es
rest_differs e es differ = λ i j a b at bt same.
    let there = differ (suc i) (suc j) a b at bt same in omega arith

pub first_is_alone : (a : ℕ) (e : NamedObject) (es : List NamedObject) → NamesDiffer (e ∷ es) → e.name ≡ a → IsNotThere a es
first_is_alone a e es differ same = λ k x at other.
    let there = differ 0 (suc k) e x refl at (same ∙ sym other) in absurd (omega arith)

as_is_by : (a : ℕ) (o : Object) (e : NamedObject) (es : List NamedObject) → NamesDiffer (e ∷ es) → (t : Bool) → (e.name == a) ≡ t
    → option_map object_in (cond t (Some e) (find (has_name a) es)) ≡ Some o
    → (object_named es a ≡ Some o → with_object a o es ≡ es)
    → cond t (named a o) e ∷ with_object a o es ≡ e ∷ es
as_is_by a o e es differ true t live later =
    let same : e.name ≡ a = eqb-true e.name a t in
    let object : e.object ≡ o = same_Some e.object o live in
    let here : named a o ≡ e = sym (ap (λ (n : ℕ). named n e.object) same ∙ ap (named a) object) in
    let rest = absent_as_is a o es (first_is_alone a e es differ same) in
    cc
as_is_by a o e es differ false t live later = ap (λ (l : List NamedObject). e ∷ l) (later live)

pub written_as_is : (a : ℕ) (o : Object) (heap : List NamedObject) → NamesDiffer heap → object_named heap a ≡ Some o
    → with_object a o heap ≡ heap
written_as_is a o [] differ live = refl
written_as_is a o (e ∷ es) differ live =
    as_is_by a o e es differ (e.name == a) refl live (written_as_is a o es (rest_differs e es differ))

-- ---- A new object, under a name that the heap lacks.

made_by : (a : ℕ) (p : Object) (e : NamedObject) (es : List NamedObject) (t : Bool)
    → option_map object_in (cond t (Some e) (find (has_name a) es)) ≡ None
    → (object_named es a ≡ None → object_named (es ++ named a p ∷ []) a ≡ Some p)
    → option_map object_in (cond t (Some e) (find (has_name a) (es ++ named a p ∷ []))) ≡ Some p
made_by a p e es true fresh later = absurd cc
made_by a p e es false fresh later = later fresh

pub named_at_end : (a : ℕ) (p : Object) (heap : List NamedObject) → object_named heap a ≡ None
    → object_named (heap ++ named a p ∷ []) a ≡ Some p
named_at_end a p [] fresh = ap (λ (b : Bool). option_map object_in (cond b (Some (named a p)) None)) (eq-eqb a a refl)
named_at_end a p (e ∷ es) fresh = made_by a p e es (e.name == a) fresh (named_at_end a p es)

filled_by : (a : ℕ) (p q : Object) (e : NamedObject) (es : List NamedObject) (t : Bool)
    → option_map object_in (cond t (Some e) (find (has_name a) es)) ≡ None
    → (object_named es a ≡ None → with_object a q (es ++ named a p ∷ []) ≡ es ++ named a q ∷ [])
    → cond t (named a q) e ∷ with_object a q (es ++ named a p ∷ []) ≡ e ∷ (es ++ named a q ∷ [])
filled_by a p q e es true fresh later = absurd cc
filled_by a p q e es false fresh later = ap (λ (l : List NamedObject). e ∷ l) (later fresh)

pub written_at_end : (a : ℕ) (p q : Object) (heap : List NamedObject) → object_named heap a ≡ None
    → with_object a q (heap ++ named a p ∷ []) ≡ heap ++ named a q ∷ []
written_at_end a p q [] fresh = ap (λ (b : Bool). cond b (named a q) (named a p) ∷ []) (eq-eqb a a refl)
written_at_end a p q (e ∷ es) fresh = filled_by a p q e es (e.name == a) fresh (written_at_end a p q es)
