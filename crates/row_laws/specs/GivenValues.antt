-- What a method of the system is given, by its meaning: its receiver, where it has one, which isn't null, and its arguments.
use Rattle.std.specs.Prelude.{◌≡◌, ◌⊎◌, ⊤, ℤ, ℕ, List, [], ◌∷◌, Some}
use Rattle.jk_model.specs.declared.identifiers.CapId.{CapId}
use Rattle.jk_model.specs.declared.identifiers.SegmentNo.{SegmentNo}
use Rattle.jk_model.specs.declared.values.Value.{Value}
use Rattle.jk_model.specs.declared.values.Value.TheVariants as Held
use Rattle.jk_model_domains.specs.Objects.{NamedObject, Object, Task, object_named}
use Rattle.jk_model_system_rows.specs.declared.meanings.Shown.{Shown}
use Rattle.jk_model_system_rows.specs.declared.meanings.SystemMeaning.{SystemMeaning}
use Rattle.jk_model_system_rows.specs.declared.meanings.SystemMeaning.TheVariants as Means
use Rattle.jk_model_system_rows.specs.HiddenTexts.{HidesUnits, TextHolder}
use Rattle.jk_model_system_rows.specs.Texts.{IsText, ReadsAs}

-- ---- Values.

abbrev pub IsInt : Value → Type 0
IsInt v = (n : ℤ) × (v ≡ Held.Int n)

abbrev pub IsSomeText : List NamedObject → Value → Type 0
IsSomeText heap v = (units : List ℕ) × IsText heap v units

abbrev pub IsTextOrNull : List NamedObject → Value → Type 0
IsTextOrNull heap v = (v ≡ Held.Null) ⊎ IsSomeText heap v

-- it reads as some text
abbrev pub HasWording : List NamedObject → Shown → Value → Type 0
HasWording heap shown v = (text : List ℕ) × ReadsAs heap shown v text

-- an object that begins with a text, or with null in its place
abbrev pub HoldsText : List NamedObject → Value → Type 0
HoldsText heap v = (h : TextHolder heap v) × (units : List ℕ) × HidesUnits heap h.text units

abbrev pub IsSomeCapability : Value → Type 0
IsSomeCapability v = (k : CapId) × (v ≡ Held.Cap k)

abbrev pub IsSomeObject : List NamedObject → Value → Type 0
IsSomeObject heap v = (a : ℕ) × (object : Object) × (v ≡ Held.Obj a) × (object_named heap a ≡ Some object)

abbrev pub IsSomeReference : List NamedObject → Value → Type 0
IsSomeReference heap v = (v ≡ Held.Null) ⊎ IsSomeObject heap v ⊎ IsSomeCapability v

abbrev pub IsSomeTask : List NamedObject → Value → Type 0
IsSomeTask heap v = (a : ℕ) × (n : SegmentNo) × (v ≡ Held.Obj a) × (object_named heap a ≡ Some (Task n))

-- ---- Lists of so many values.

abbrev pub Nothing : List Value → Type 0
Nothing [] = ⊤
Nothing given = ⊥

abbrev pub One : (Value → Type 0) → List Value → Type 0
One P (v ∷ []) = P v
One P given = ⊥

abbrev pub Two : (Value → Type 0) → (Value → Type 0) → List Value → Type 0
Two P Q (v ∷ w ∷ []) = P v × Q w
Two P Q given = ⊥

abbrev pub Three : (Value → Type 0) → (Value → Type 0) → (Value → Type 0) → List Value → Type 0
Three P Q R (v ∷ w ∷ u ∷ []) = P v × Q w × R u
Three P Q R given = ⊥

-- source, place, target, place and count
abbrev pub ArraysAndPlaces : List NamedObject → List Value → Type 0
ArraysAndPlaces heap (source ∷ from ∷ target ∷ to ∷ count ∷ []) =
    IsSomeReference heap source × IsInt from × IsSomeReference heap target × IsInt to × IsInt count
ArraysAndPlaces heap given = ⊥

-- anything
abbrev pub Anything : Value → Type 0
Anything v = ⊤

-- ---- By the meaning.

abbrev pub GivenFor : List NamedObject → SystemMeaning → List Value → Type 0
GivenFor heap Means.Initialises given = One Anything given
GivenFor heap Means.IsSame given = Two Anything Anything given
GivenFor heap Means.TextLength given = One (IsSomeText heap) given
GivenFor heap Means.CharAt given = Two (IsSomeText heap) IsInt given
GivenFor heap Means.IsSameText given = Two (IsSomeText heap) Anything given
GivenFor heap Means.Concat given = Two (IsSomeText heap) (IsTextOrNull heap) given
GivenFor heap Means.Substring given = Three (IsSomeText heap) IsInt IsInt given
GivenFor heap (Means.TextOf shown) given = One (HasWording heap shown) given
GivenFor heap Means.BufferInitialises given = One (HoldsText heap) given
GivenFor heap Means.BufferInitialisesWith given = Two (HoldsText heap) (IsTextOrNull heap) given
GivenFor heap Means.BufferLength given = One (HoldsText heap) given
GivenFor heap Means.BufferText given = One (HoldsText heap) given
GivenFor heap (Means.Appends shown) given = Two (HoldsText heap) (HasWording heap shown) given
GivenFor heap Means.PrintsEmptyLine given = One Anything given
GivenFor heap (Means.Prints shown) given = Two Anything (HasWording heap shown) given
GivenFor heap Means.CopiesArray given = ArraysAndPlaces heap given
GivenFor heap Means.ParsesInt given = One (IsTextOrNull heap) given
GivenFor heap Means.SetsMessage given = Two (HoldsText heap) (IsTextOrNull heap) given
GivenFor heap Means.GetsMessage given = One (HoldsText heap) given
GivenFor heap Means.CreatesCapability given = One (IsSomeReference heap) given
GivenFor heap Means.RevokesCapability given = One IsSomeCapability given
GivenFor heap Means.BindsName given = Two (IsTextOrNull heap) (λ v. (v ≡ Held.Null) ⊎ IsSomeCapability v) given
GivenFor heap Means.LooksUpName given = One (IsTextOrNull heap) given
GivenFor heap Means.UnbindsName given = One (IsTextOrNull heap) given
GivenFor heap Means.NamesDomain given = Nothing given
GivenFor heap Means.CountsFreeWords given = Nothing given
GivenFor heap Means.TerminatesDomain given = Nothing given
GivenFor heap Means.GetsTask given = Nothing given
GivenFor heap Means.SuspendsTask given = One (IsSomeTask heap) given
GivenFor heap Means.ResumesTask given = One (IsSomeTask heap) given
GivenFor heap Means.StopsTask given = One (IsSomeTask heap) given
