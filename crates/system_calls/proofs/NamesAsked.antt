-- A name is bound, looked up and removed as what domains share grants or denies it. Of a text that is too long for a name the first units
-- are asked for, which are too many for one too.
use Rattle.std.proofs.Common.{◌≡◌, ◌⊎◌, inl, inr, ℕ, ◌-◌, ◌<◌, ◌≤◌, List, [], ◌∷◌, length, take, drop, Contains, Option, Some, None, Result, Ok, refl, sym, ap, subst, ◌∙◌, arith}
use Rattle.std.specs.Prelude.{bytes_eq, min, option_map}
use Rattle.std.proofs.lemmas.Bool.{cases_lt}
use Rattle.std.proofs.lemmas.List.{length-take-le, take_all}
use Rattle.std.proofs.lemmas.Slice.Eq.{bytes_eq-Decides}
use Rattle.list_lemmas.proofs.FoundItems.{Finds, finds}
use Rattle.list_lemmas.proofs.ItemsOfLists.{Contains-at}
use Rattle.jk_model.specs.declared.identifiers.CapId.{CapId}
use Rattle.jk_model.specs.declared.identifiers.DomainId.{DomainId}
use Rattle.jk_model.specs.declared.steps.Raise.{Raise}
use Rattle.jk_model.specs.declared.values.Value.{Value}
use Rattle.jk_model.specs.declared.values.Value.TheVariants as Held
use Rattle.jk_model_domains.specs.Objects.{NamedObject, Text, object_named}
use Rattle.jk_model_heaps.specs.Workings.{Binds, Inside, LooksUp, Request, Setting, Unbinds}
use Rattle.jk_model_sharing.specs.Answers.{Answers, as_nothing, as_reference, binds, looks_up, unbinds}
use Rattle.jk_model_sharing.specs.BoundNames as bound
use Rattle.jk_model_sharing.specs.BoundNames.{BoundName, bound_as, longest_name}
use Rattle.jk_model_sharing.specs.SharedStates.{SharedState}
use Rattle.jk_model_system_rows.specs.declared.meanings.SystemMeaning.{SystemMeaning}
use Rattle.jk_model_system_rows.specs.declared.meanings.SystemMeaning.TheVariants as Means
use Rattle.jk_model_system_rows.specs.Answers.{Answered, Wants, with_answer}
use Rattle.jk_model_system_rows.specs.PackageJk.{AsksByName}
use Rattle.jk_model_system_rows.specs.SystemRows.{SystemRow}
use Rattle.jk_model_system_rows.specs.Texts.{IsText}
use Rattle.object_store.specs.HeapContents.{HeapContent, IsLive}
use Rattle.row_laws.specs.GivenValues.{IsTextOrNull}
use Rattle.thread_segments.specs.Answers.{BindsFor, UnbindsFor}
use Rattle.thread_segments.specs.SoundStates.{AreSound}
use Rattle.system_calls.specs.declared.here.Here.{Here}
use Rattle.system_calls.specs.MethodsDone.{IsAround, MayAnswer, MethodDone, asks}
use Rattle.system_calls.proofs.MethodsAreDone.{asked}
use Rattle.system_calls.proofs.MethodsMayBeDone.{ready}

-- ---- Names that are too long.

-- no name of more than 64 units is bound
abbrev AreShort : List BoundName → Type 0
AreShort names = (n : BoundName) → Contains names n → length n.text ≤ longest_name

long_by : (names : List BoundName) (text : List ℕ) (o : Option BoundName) → bound_as names text ≡ o → AreShort names → longest_name < length text
    → o ≡ None
long_by names text None is short long = refl
long_by names text (Some n) is short long =
    let found = subst (Finds (λ (m : BoundName). bytes_eq m.text text) names) is (finds (λ (m : BoundName). bytes_eq m.text text) names) in
    let same : n.text ≡ text = (bytes_eq-Decides n.text text).0 found.2 in
    let few = short n (Contains-at names found.0 n found.1) in
    absurd (omega (arith, few, ap length same, long))

not_bound : (names : List BoundName) (text : List ℕ) → AreShort names → longest_name < length text → bound_as names text ≡ None
not_bound names text short long = long_by names text (bound_as names text) refl short long

module _ (text : List ℕ) (long : 65 < length text) where
  cut : length (take 65 text) ≡ 65
  cut = length-take-le 65 text (omega arith)

  pub binds_long : (names new : List BoundName) (quota : ℕ) (k : CapId) (d : DomainId) (answer : Result (Unit {0}) Raise)
      → bound.Binds names quota (record { text = take 65 text; cap = k; binder = d }) answer new
      → bound.Binds names quota (record { text = text; cap = k; binder = d }) answer new
  binds_long names new quota k d answer (bound.too_long long_too) = bound.too_long (omega arith)
  binds_long names new quota k d answer (bound.of_another b short is differ) = absurd (omega (arith, short, cut))
  binds_long names new quota k d answer (bound.own_name b short is same) = absurd (omega (arith, short, cut))
  binds_long names new quota k d answer (bound.one_too_many short none full) = absurd (omega (arith, short, cut))
  binds_long names new quota k d answer (bound.new_name short none room) = absurd (omega (arith, short, cut))

  module _ (names : List BoundName) (short : AreShort names) where
    both_none : bound_as names (take 65 text) ≡ bound_as names text
    both_none = not_bound names (take 65 text) short (omega (arith, cut)) ∙ sym (not_bound names text short (omega arith))

    unbinds_long : (d : DomainId) (answer : Result (Unit {0}) Raise) (new : List BoundName) → bound.Unbinds names d (take 65 text) answer new
        → bound.Unbinds names d text answer new
    unbinds_long d answer new (bound.not_own b is differ) = bound.not_own b (sym both_none ∙ is) differ
    unbinds_long d answer new (bound.removed b is same) =
        let gone : Some b ≡ None = sym is ∙ both_none ∙ not_bound names text short (omega arith) in absurd cc
    unbinds_long d answer new (bound.not_bound none) = bound.not_bound (sym both_none ∙ none)

-- the first 65 units are all of them, or there are more
front_cases : (text : List ℕ) → (take 65 text ≡ text) ⊎ (65 < length text)
front_cases text = elim (cases_lt 65 (length text)) [ inl long ↦ inr long | inr short ↦ inl (take_all 65 text short) ]

-- so many units as there is room for are the front
pub front_read : (units : List ℕ) (room len n : ℕ) → room ≡ 65 → len ≡ length units → n ≡ min room (len - 0)
    → take n (drop 0 units) ≡ take 65 units
front_read units room len n most long is = elim (cases_lt 65 (length units)) [
  | inl many ↦ (let all : n ≡ 65 = omega (arith, most, long, is, many) in ap (λ (k : ℕ). take k units) all)
  | inr few ↦ take_all n units (omega (arith, most, long, is, few)) ∙ sym (take_all 65 units few)
]

-- ---- What is given.

module _ (heap : List NamedObject) where
  -- an object is a text
  pub text_there : (v : Value) → IsTextOrNull heap v → (a : ℕ) → v ≡ Held.Obj a → (units : List ℕ) × (object_named heap a ≡ Some (Text units))
  text_there v (inl null) a is = let wrong : Held.Null ≡ Held.Obj a = sym null ∙ is in absurd cc
  text_there v (inr (units, text)) a is = (units, subst (λ (u : Value). IsText heap u units) is text)

module _ (heaps : HeapContent) (shared : SharedState) (h : Here) where
  -- ---- A name alone.

  module _ (meaning : SystemMeaning) (request : List ℕ → Request)
      (is : (x : Setting) (given : List Value) (inside : Inside) (done : Answered) → AsksByName request given inside done
      → SystemRow x meaning given inside done)
      (v : Value) (may : MayAnswer heaps shared h meaning (v ∷ [])) (given : IsTextOrNull (heaps.heap h.domain) v) where
    module _ (a : ℕ) (named : v ≡ Held.Obj a) where
      abbrev pub name_there : (units : List ℕ) × IsLive heaps h.domain a (Text units)
      name_there = text_there (heaps.heap h.domain) v given a named

      wants : (x : Setting) (inside : Inside) → IsAround heaps shared h x inside
          → SystemRow x meaning (v ∷ []) inside (with_answer inside (Wants (request name_there.0)))
      wants x inside around =
          is x (v ∷ []) inside (with_answer inside (Wants (request name_there.0)))
          (inr (
            name_there.0,
            subst (λ (u : Value). IsText inside.heap u name_there.0) (sym named)
                (ap (λ (heap : List NamedObject). object_named heap a) around.own.heap ∙ name_there.1),
            refl,
          ))

      pub name_asked : (new : SharedState) (result : Result (Option Value) Raise) → Answers shared h.domain (request name_there.0) result new
          → MethodDone heaps heaps shared new h meaning (v ∷ []) result
      name_asked new result answered =
          asked heaps shared new h (ready heaps shared h may.own may.frames may.may) meaning (v ∷ []) result
          (λ x inside around. asks (request name_there.0) (wants x inside around) answered (sym around.own.heap))

  -- ---- What it is answered.

  module _ (sound : AreSound shared) (text name : List ℕ) (front : name ≡ take 65 text) where
    pub name_found : (found : Option CapId) → bound.LooksUp shared.names name found
        → Answers shared h.domain (LooksUp text) (Ok (Some (as_reference found))) shared
    name_found found is = looks_up text found (elim (front_cases text) [
      | inl whole ↦ subst (λ (t : List ℕ). bound.LooksUp shared.names t found) (front ∙ whole) is
      | inr long ↦
          subst (λ (t : List ℕ). bound.LooksUp shared.names t found) front is
          ∙ ap (option_map (λ (n : BoundName). n.cap)) (both_none text long shared.names sound.names.short)
    ])

    name_removed : (answer : Result (Unit {0}) Raise) (new : SharedState) → UnbindsFor shared h.domain name answer new
        → Answers shared h.domain (Unbinds text) (as_nothing answer) new
    name_removed answer new u =
        subst (Answers shared h.domain (Unbinds text) (as_nothing answer)) (sym u.becomes)
        (unbinds text answer u.names (elim (front_cases text) [
          | inl whole ↦ subst (λ (t : List ℕ). bound.Unbinds shared.names h.domain t answer u.names) (front ∙ whole) u.unbinds
          | inr long ↦
              unbinds_long text long shared.names sound.names.short h.domain answer u.names
              (subst (λ (t : List ℕ). bound.Unbinds shared.names h.domain t answer u.names) front u.unbinds)
        ]))

    pub removed_as : (answer shown : Result (Unit {0}) Raise) (new : SharedState) → answer ≡ shown → UnbindsFor shared h.domain name answer new
        → Answers shared h.domain (Unbinds text) (as_nothing shown) new
    removed_as answer shown new is u =
        subst (λ (r : Result (Unit {0}) Raise). Answers shared h.domain (Unbinds text) (as_nothing r) new) is (name_removed answer new u)

  module _ (text name : List ℕ) (front : name ≡ take 65 text) (k : CapId) where
    name_bound : (answer : Result (Unit {0}) Raise) (new : SharedState)
        → BindsFor shared (record { text = name; cap = k; binder = h.domain }) answer new
        → Answers shared h.domain (Binds text k) (as_nothing answer) new
    name_bound answer new b =
        subst (Answers shared h.domain (Binds text k) (as_nothing answer)) (sym b.becomes)
        (binds b.domain text k answer b.names b.is_domain (elim (front_cases text) [
          | inl whole ↦
              subst (λ (t : List ℕ). bound.Binds shared.names b.domain.quotas.names
              (let n : BoundName = record { text = t; cap = k; binder = h.domain } in n) answer b.names) (front ∙ whole) b.binds
          | inr long ↦
              binds_long text long shared.names b.names b.domain.quotas.names k h.domain answer
              (subst (λ (t : List ℕ). bound.Binds shared.names b.domain.quotas.names
              (let n : BoundName = record { text = t; cap = k; binder = h.domain } in n) answer b.names) front b.binds)
        ]))

    pub bound_to : (answer shown : Result (Unit {0}) Raise) (new : SharedState) → answer ≡ shown
        → BindsFor shared (record { text = name; cap = k; binder = h.domain }) answer new
        → Answers shared h.domain (Binds text k) (as_nothing shown) new
    bound_to answer shown new is b =
        subst (λ (r : Result (Unit {0}) Raise). Answers shared h.domain (Binds text k) (as_nothing r) new) is (name_bound answer new b)

  -- ---- A name and a capability.

  module _ (v w : Value) (may : MayAnswer heaps shared h Means.BindsName (v ∷ w ∷ [])) where
    module _ (a : ℕ) (named : v ≡ Held.Obj a) (k : CapId) (cap : w ≡ Held.Cap k) where
      abbrev pub text_bound : (units : List ℕ) × IsLive heaps h.domain a (Text units)
      text_bound = text_there (heaps.heap h.domain) v may.given_for.0 a named

      pub bind_asked : (new : SharedState) (result : Result (Option Value) Raise) → Answers shared h.domain (Binds text_bound.0 k) result new
          → MethodDone heaps heaps shared new h Means.BindsName (v ∷ w ∷ []) result
      bind_asked new result answered =
          asked heaps shared new h (ready heaps shared h may.own may.frames may.may) Means.BindsName (v ∷ w ∷ []) result
          (λ x inside around. asks (Binds text_bound.0 k)
          (inr (
            text_bound.0,
            k,
            subst (λ (u : Value). IsText inside.heap u text_bound.0) (sym named)
                (ap (λ (heap : List NamedObject). object_named heap a) around.own.heap ∙ text_bound.1),
            cap,
            refl,
          )) answered (sym around.own.heap))
