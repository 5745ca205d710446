-- What is given is so many values, of which the first is an object where the meaning asks for a text, a holder of a text or a Task.
use Rattle.std.proofs.Common.{◌≡◌, ◌⊎◌, ℕ, ◌≤◌, List, [], ◌∷◌, length, refl, ap, arith}
use Rattle.jk_model.specs.declared.values.Value.{Value}
use Rattle.jk_model.specs.declared.values.Value.TheVariants as Held
use Rattle.jk_model_domains.specs.Objects.{NamedObject}
use Rattle.jk_model_system_rows.specs.declared.meanings.SystemMeaning.{SystemMeaning}
use Rattle.jk_model_system_rows.specs.declared.meanings.SystemMeaning.TheVariants as Means
use Rattle.jk_model_system_rows.specs.Texts.{IsText}
use Rattle.row_laws.specs.GivenValues.{Anything, ArraysAndPlaces, GivenFor, HasWording, HoldsText, IsInt, IsSomeCapability, IsSomeReference, IsSomeTask, IsSomeText, IsTextOrNull, Nothing, One, Three, Two}
use Rattle.row_laws.proofs.GivenByNumber.{one, three, two}
use Rattle.system_calls.specs.GivenOnTop.{given_count}

-- ---- Objects.

abbrev pub IsObject : Value → Type 0
IsObject v = (a : ℕ) × (v ≡ Held.Obj a)

module _ (heap : List NamedObject) where
  text_by : (v : Value) (units : List ℕ) → IsText heap v units → IsObject v
  text_by (Held.Obj a) units is = (a, refl)
  text_by (Held.Cap k) units is = absurd is
  text_by (Held.Int n) units is = absurd is
  text_by (Held.Long n) units is = absurd is
  text_by Held.Null units is = absurd is
  text_by Held.Unset units is = absurd is

  pub text_object : (v : Value) → IsSomeText heap v → IsObject v
  text_object v is = text_by v is.0 is.1

  pub holder_object : (v : Value) → HoldsText heap v → IsObject v
  holder_object v is = (is.0.name, is.0.names)

  pub task_object : (v : Value) → IsSomeTask heap v → IsObject v
  task_object v is = (is.0, is.2)

-- ---- So many values.

module _ (P : Value → Type 0) where
  pub one_value : (given : List Value) → One P given → (v : Value) × (given ≡ v ∷ [])
  one_value = one P (λ xs. (v : Value) × (xs ≡ v ∷ [])) (λ v p. (v, refl))

  pub one_object : ((v : Value) → P v → IsObject v) → (given : List Value) → One P given → (a : ℕ) × (given ≡ Held.Obj a ∷ [])
  one_object is = one P (λ xs. (a : ℕ) × (xs ≡ Held.Obj a ∷ [])) (λ v p. ((is v p).0, ap (λ (u : Value). u ∷ []) (is v p).1))

  module _ (Q : Value → Type 0) where
    pub two_values : (given : List Value) → Two P Q given → (v : Value) × (w : Value) × (given ≡ v ∷ w ∷ [])
    two_values = two P Q (λ xs. (v : Value) × (w : Value) × (xs ≡ v ∷ w ∷ [])) (λ v w p q. (v, w, refl))

    pub object_and_value : ((v : Value) → P v → IsObject v) → (given : List Value) → Two P Q given
        → (a : ℕ) × (w : Value) × (given ≡ Held.Obj a ∷ w ∷ [])
    object_and_value is =
        two P Q (λ xs. (a : ℕ) × (w : Value) × (xs ≡ Held.Obj a ∷ w ∷ [])) (λ v w p q. ((is v p).0, w, ap (λ (u : Value). u ∷ w ∷ []) (is v p).1))

    module _ (R : Value → Type 0) where
      pub object_and_two : ((v : Value) → P v → IsObject v) → (given : List Value) → Three P Q R given
          → (a : ℕ) × (w : Value) × (u : Value) × (given ≡ Held.Obj a ∷ w ∷ u ∷ [])
      object_and_two is =
          three P Q R (λ xs. (a : ℕ) × (w : Value) × (u : Value) × (xs ≡ Held.Obj a ∷ w ∷ u ∷ []))
          (λ v w u p q r. ((is v p).0, w, u, ap (λ (y : Value). y ∷ w ∷ u ∷ []) (is v p).1))

pub five : (heap : List NamedObject) (given : List Value) → ArraysAndPlaces heap given → length given ≡ 5
five heap [] h = absurd h
five heap (s ∷ []) h = absurd h
five heap (s ∷ f ∷ []) h = absurd h
five heap (s ∷ f ∷ t ∷ []) h = absurd h
five heap (s ∷ f ∷ t ∷ p ∷ []) h = absurd h
five heap (s ∷ f ∷ t ∷ p ∷ n ∷ y ∷ more) h = absurd h
five heap (s ∷ f ∷ t ∷ p ∷ n ∷ []) h = refl

-- ---- How many they are.

none_long : (given : List Value) → Nothing given → length given ≡ 0
none_long [] h = refl
none_long (v ∷ given) h = absurd h

module _ (P : Value → Type 0) where
  one_long : (given : List Value) → One P given → length given ≡ 1
  one_long = one P (λ xs. length xs ≡ 1) (λ v p. refl)

  module _ (Q : Value → Type 0) where
    two_long : (given : List Value) → Two P Q given → length given ≡ 2
    two_long = two P Q (λ xs. length xs ≡ 2) (λ v w p q. refl)

    three_long : (R : Value → Type 0) (given : List Value) → Three P Q R given → length given ≡ 3
    three_long R = three P Q R (λ xs. length xs ≡ 3) (λ v w u p q r. refl)

pub as_many : (heap : List NamedObject) (meaning : SystemMeaning) (given : List Value) → GivenFor heap meaning given
    → length given ≡ given_count meaning
as_many heap Means.Initialises given h = one_long Anything given h
as_many heap Means.IsSame given h = two_long Anything Anything given h
as_many heap Means.TextLength given h = one_long (IsSomeText heap) given h
as_many heap Means.CharAt given h = two_long (IsSomeText heap) IsInt given h
as_many heap Means.IsSameText given h = two_long (IsSomeText heap) Anything given h
as_many heap Means.Concat given h = two_long (IsSomeText heap) (IsTextOrNull heap) given h
as_many heap Means.Substring given h = three_long (IsSomeText heap) IsInt IsInt given h
as_many heap (Means.TextOf shown) given h = one_long (HasWording heap shown) given h
as_many heap Means.BufferInitialises given h = one_long (HoldsText heap) given h
as_many heap Means.BufferInitialisesWith given h = two_long (HoldsText heap) (IsTextOrNull heap) given h
as_many heap Means.BufferLength given h = one_long (HoldsText heap) given h
as_many heap Means.BufferText given h = one_long (HoldsText heap) given h
as_many heap (Means.Appends shown) given h = two_long (HoldsText heap) (HasWording heap shown) given h
as_many heap Means.PrintsEmptyLine given h = one_long Anything given h
as_many heap (Means.Prints shown) given h = two_long Anything (HasWording heap shown) given h
as_many heap Means.CopiesArray given h = five heap given h
as_many heap Means.ParsesInt given h = one_long (IsTextOrNull heap) given h
as_many heap Means.SetsMessage given h = two_long (HoldsText heap) (IsTextOrNull heap) given h
as_many heap Means.GetsMessage given h = one_long (HoldsText heap) given h
as_many heap Means.CreatesCapability given h = one_long (IsSomeReference heap) given h
as_many heap Means.RevokesCapability given h = one_long IsSomeCapability given h
as_many heap Means.BindsName given h = two_long (IsTextOrNull heap) (λ v. (v ≡ Held.Null) ⊎ IsSomeCapability v) given h
as_many heap Means.LooksUpName given h = one_long (IsTextOrNull heap) given h
as_many heap Means.UnbindsName given h = one_long (IsTextOrNull heap) given h
as_many heap Means.NamesDomain given h = none_long given h
as_many heap Means.CountsFreeWords given h = none_long given h
as_many heap Means.TerminatesDomain given h = none_long given h
as_many heap Means.GetsTask given h = none_long given h
as_many heap Means.SuspendsTask given h = one_long (IsSomeTask heap) given h
as_many heap Means.ResumesTask given h = one_long (IsSomeTask heap) given h
as_many heap Means.StopsTask given h = one_long (IsSomeTask heap) given h

pub five_at_most : (meaning : SystemMeaning) → given_count meaning ≤ 5
five_at_most Means.CopiesArray = omega arith
five_at_most meaning = omega arith
