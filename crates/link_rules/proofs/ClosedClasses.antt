-- A closed class of the system without a constructor is found by its name.
use Rattle.std.proofs.Common.{◌≡◌, ℕ, zero, suc, ◌+◌, ◌<◌, ◌↔◌, Bool, true, false, IsTrue, List, [], ◌∷◌, length, map, get_or, Option, Some, None, refl, sym, ◌∙◌, ap, subst, arith}
use Rattle.std.specs.Prelude.{bytes_eq, not, position, slice_get}
use Rattle.std.specs.List.{position_or_len}
use Rattle.std.proofs.lemmas.List.Quantifiers.{position-Some}
use Rattle.std.proofs.lemmas.List.Sums.{fails_before_first}
use Rattle.std.proofs.lemmas.Grind.{common_steps}
use Rattle.std.proofs.lemmas.Option.{get_or_from_slice_get, none-some, same_Some, slice_get-get_or, slice_get_within}
use Rattle.std.proofs.lemmas.Slice.Eq.{bytes_eq-Decides}
use Rattle.jk_model.specs.SystemTable as Table
use Rattle.jk_model.specs.SystemTable.{number_named, system_classes, throwable}
use Rattle.jk_model_classes.specs.Items.{HasItem, HasItemBefore}
use Rattle.jk_model_classes.specs.LinkRules.{HasNoConstructor}
use Rattle.jk_model_classes.specs.Members.{INIT}
use Rattle.class_lemmas.proofs.SomeItem.{none_more}
use Rattle.system_table.specs.declared.entry.SystemClass.{SystemClass}
use Rattle.system_table.specs.declared.entry.SystemMethod.{SystemMethod}
use Rattle.system_table.specs.Entry.{IsEntry, method_of}
use Rattle.system_table.specs.Laws.{IsAt}

-- ---- The first class of a name.

abbrev named : List ℕ → Table.SystemClass → Bool
named name e = bytes_eq e.name name

some_class : Table.SystemClass
some_class = throwable [] []

none_passes : {X : Type 0} (p : X → Bool) (xs : List X) (k : ℕ) (x : X) → position p xs ≡ None → slice_get xs k ≡ Some x → p x ≡ true → ⊥
none_passes p xs k x none at t =
    let within : k < length xs = slice_get_within xs k x at in
    let past : k < position_or_len p xs = grind (arith, common_steps) in
    let fails : p (get_or xs k x) ≡ false = fails_before_first p xs k x past in
    let same : get_or xs k x ≡ x = get_or_from_slice_get xs k x x at in
    let both : true ≡ false = sym t ∙ ap p (sym same) ∙ fails in
    absurd cc

class_found : (xs : List Table.SystemClass) (name : List ℕ) (n : ℕ) → position (named name) xs ≡ Some n
    → (e : Table.SystemClass) × (slice_get xs n ≡ Some e) × (e.name ≡ name)
class_found xs name n e =
    let h = position-Some (named name) xs n some_class e in
    let found = get_or xs n some_class in
    (found, slice_get-get_or xs n some_class h.0, (bytes_eq-Decides found.name name).0 h.1)

pub within_table : (name : List ℕ) (found : Option ℕ) (n : ℕ) → found ≡ number_named name → found ≡ Some n → n < length system_classes
within_table name found n is some =
    let (e, at, named) = class_found system_classes name n (sym is ∙ some) in
    slice_get_within system_classes n e at

pub unnamed : (name : List ℕ) (found : Option ℕ) → found ≡ number_named name → found ≡ None → HasNoConstructor name → ⊥
unnamed name found is none (k, e, at, (same, closed, bare)) =
    none_passes (named name) system_classes k e (sym is ∙ none) at ((bytes_eq-Decides e.name name).1 same)

-- ---- Its methods.

mapped : (xs : List SystemMethod) (k : ℕ) (m : SystemMethod) → slice_get xs k ≡ Some m → slice_get (map method_of xs) k ≡ Some (method_of m)
mapped [] k m at = absurd (none-some m at)
mapped (x ∷ xs) zero m at = ap (λ (w : SystemMethod). Some (method_of w)) (same_Some x m at)
mapped (x ∷ xs) (suc k) m at = mapped xs k m at

unmapped : (xs : List SystemMethod) (k : ℕ) (e : Table.SystemMethod) → slice_get (map method_of xs) k ≡ Some e
    → (m : SystemMethod) × (slice_get xs k ≡ Some m) × (method_of m ≡ e)
unmapped [] k e at = absurd (none-some e at)
unmapped (x ∷ xs) zero e at = (x, refl, same_Some (method_of x) e at)
unmapped (x ∷ xs) (suc k) e at = unmapped xs k e at

abbrev pub IsInit : SystemMethod → Type 0
IsInit m = m.name.now ≡ INIT

pub init_there : (methods : List SystemMethod) (i : ℕ) (other : SystemMethod) (init : Bool) → i < length methods
    → init ≡ bytes_eq (get_or methods i other).name.now INIT → init ≡ true → HasItem IsInit methods
init_there methods i other init within is so =
    let m = get_or methods i other in
    (i, m, slice_get-get_or methods i other within, (bytes_eq-Decides m.name.now INIT).0 (sym is ∙ so))

pub init_later : (methods : List SystemMethod) (i : ℕ) (other : SystemMethod) (init : Bool) → i < length methods
    → init ≡ bytes_eq (get_or methods i other).name.now INIT → init ≡ false → (HasItemBefore i IsInit methods → ⊥)
    → HasItemBefore (i + 1) IsInit methods → ⊥
init_later methods i other init within is not_so none =
    let m = get_or methods i other in
    none_more IsInit methods i m within (sym (get_or_from_slice_get methods i m m (slice_get-get_or methods i other within)))
    (λ e. let both : true ≡ false = sym ((bytes_eq-Decides m.name.now INIT).1 e) ∙ sym is ∙ not_so in absurd cc) none

module _ (name : List ℕ) (found : Option ℕ) (n : ℕ) (is : found ≡ number_named name) (some : found ≡ Some n)
    (differ : (m : ℕ) (k : ℕ) (c : Table.SystemClass) (d : Table.SystemClass) → IsAt c m → IsAt d k → c.name ≡ d.name → m ≡ k)
    (class : SystemClass) (entry : IsEntry n class) where
  abbrev Constructors : Type 0
  Constructors = HasItem IsInit class.methods.now

  -- the class of this name is that entry
  entry_is : (k : ℕ) (e : Table.SystemClass) → slice_get system_classes k ≡ Some e → e.name ≡ name → e ≡ entry.0
  entry_is k e at same =
      let (f, there, also) = class_found system_classes name n (sym is ∙ some) in
      let place : k ≡ n = differ k n e f at there (same ∙ sym also) in
      same_Some e entry.0 (sym at ∙ ap (slice_get system_classes) place ∙ entry.1)

  entry_name : entry.0.name ≡ name
  entry_name =
      let (f, there, also) = class_found system_classes name n (sym is ∙ some) in
      let same : entry.0 ≡ f = same_Some entry.0 f (sym entry.1 ∙ there) in
      ap (λ (w : Table.SystemClass). w.name) same ∙ also

  listed : HasItem (λ (m : Table.SystemMethod). m.name ≡ INIT) entry.0.methods → Constructors
  listed (k, m, at, init) =
      let (own, there, same) = unmapped class.methods.now k m (ap (λ (w : List Table.SystemMethod). slice_get w k) entry.2.methods ∙ at) in
      (k, own, there, ap (λ (w : Table.SystemMethod). w.name) same ∙ init)

  unlisted : Constructors → HasItem (λ (m : Table.SystemMethod). m.name ≡ INIT) entry.0.methods
  unlisted (k, m, at, init) =
      (k, method_of m, sym (ap (λ (w : List Table.SystemMethod). slice_get w k) entry.2.methods) ∙ mapped class.methods.now k m at, init)

  pub closed_says : (init : Bool) → class.closed ≡ true → (IsTrue init ↔ Constructors) → IsTrue (not init) ↔ HasNoConstructor name
  closed_says true closed says = (
    λ t. absurd cc,
    λ (k, e, at, (same, shut, bare)).
        let one : e ≡ entry.0 = entry_is k e at same in
        absurd (bare (subst (λ (w : Table.SystemClass). HasItem (λ (m : Table.SystemMethod). m.name ≡ INIT) w.methods) (sym one) (unlisted (says.0 refl)))),
  )
  closed_says false closed says = (
    λ t. (n, entry.0, entry.1, (entry_name, sym entry.2.closed ∙ closed, λ h. let z : false ≡ true = says.1 (listed h) in absurd cc)),
    λ h. refl,
  )

  pub open_says : class.closed ≡ false → HasNoConstructor name → ⊥
  open_says opened (k, e, at, (same, shut, bare)) =
      let one : e ≡ entry.0 = entry_is k e at same in
      let both : true ≡ false = sym shut ∙ ap (λ (w : Table.SystemClass). w.closed) one ∙ sym entry.2.closed ∙ opened in
      absurd cc
