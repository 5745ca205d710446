-- What the table of system classes says of a method suits its meaning: the types that it takes and answers, whether it is static, and
-- the class whose objects are its receivers.
use Rattle.std.proofs.Common.{◌≡◌, ℕ, zero, suc, ◌+◌, ◌==◌, ◌||◌, Bool, true, false, List, [], ◌∷◌, map, Option, Some, None, slice_get, refl, ap, subst, ◌∙◌, arith}
use Rattle.std.specs.Prelude.{option_and_then, option_map}
use Rattle.std.proofs.lemmas.Option.{same_Some}
use Rattle.jk_model.specs.Flags.{has, STATIC}
use Rattle.jk_model.specs.SystemTable.{SystemClass, SystemMethod, system_classes}
use Rattle.jk_model.specs.declared.identifiers.MemberId.{MemberId}
use Rattle.jk_model_classes.specs.declared.records.BaseRef.{BaseRef}
use Rattle.jk_model_classes.specs.declared.records.BaseRef.TheVariants as Base
use Rattle.jk_model_classes.specs.declared.records.TypeRef.{TypeRef}
use Rattle.jk_model_system_rows.specs.declared.meanings.Shown.{Shown}
use Rattle.jk_model_system_rows.specs.declared.meanings.Shown.TheVariants as As
use Rattle.jk_model_system_rows.specs.declared.meanings.SystemMeaning.{SystemMeaning}
use Rattle.jk_model_system_rows.specs.declared.meanings.SystemMeaning.TheVariants as Means
use Rattle.jk_model_system_rows.specs.Meanings.{MethodMeaning, meaning_of, system_meanings}
use Rattle.system_facts.specs.DescriptorReader.{MethodTypes, method_types}
use Rattle.row_laws.proofs.SystemParents.{is_listed_below}

-- ---- What suits a meaning.

abbrev pub number_type : BaseRef → TypeRef
number_type base = record { dims = 0; base = base }

abbrev pub object_type : ℕ → TypeRef
object_type n = record { dims = 0; base = Base.Class (record { 0 = n }) }

abbrev pub shown_type : Shown → TypeRef
shown_type As.Text = object_type 3
shown_type As.Int = number_type Base.Int
shown_type As.Long = number_type Base.Long
shown_type As.Char = number_type Base.Char
shown_type As.Truth = number_type Base.Bool

-- what comes after a receiver, where there is one
abbrev pub params_for : SystemMeaning → List TypeRef
params_for Means.Initialises = []
params_for Means.IsSame = object_type 0 ∷ []
params_for Means.TextLength = []
params_for Means.CharAt = number_type Base.Int ∷ []
params_for Means.IsSameText = object_type 0 ∷ []
params_for Means.Concat = object_type 3 ∷ []
params_for Means.Substring = number_type Base.Int ∷ number_type Base.Int ∷ []
params_for (Means.TextOf shown) = shown_type shown ∷ []
params_for Means.BufferInitialises = []
params_for Means.BufferInitialisesWith = object_type 3 ∷ []
params_for Means.BufferLength = []
params_for Means.BufferText = []
params_for (Means.Appends shown) = shown_type shown ∷ []
params_for Means.PrintsEmptyLine = []
params_for (Means.Prints shown) = shown_type shown ∷ []
params_for Means.CopiesArray =
    object_type 0 ∷ number_type Base.Int ∷ object_type 0 ∷ number_type Base.Int ∷ number_type Base.Int ∷ []
params_for Means.ParsesInt = object_type 3 ∷ []
params_for Means.SetsMessage = object_type 3 ∷ []
params_for Means.GetsMessage = []
params_for Means.CreatesCapability = object_type 10 ∷ []
params_for Means.RevokesCapability = []
params_for Means.BindsName = object_type 3 ∷ object_type 11 ∷ []
params_for Means.LooksUpName = object_type 3 ∷ []
params_for Means.UnbindsName = object_type 3 ∷ []
params_for Means.NamesDomain = []
params_for Means.CountsFreeWords = []
params_for Means.TerminatesDomain = []
params_for Means.GetsTask = []
params_for Means.SuspendsTask = []
params_for Means.ResumesTask = []
params_for Means.StopsTask = []

-- the answer of a method of the class with this number
abbrev pub result_for : ℕ → SystemMeaning → Option TypeRef
result_for n Means.IsSame = Some (number_type Base.Bool)
result_for n Means.TextLength = Some (number_type Base.Int)
result_for n Means.CharAt = Some (number_type Base.Char)
result_for n Means.IsSameText = Some (number_type Base.Bool)
result_for n Means.Concat = Some (object_type 3)
result_for n Means.Substring = Some (object_type 3)
result_for n (Means.TextOf shown) = Some (object_type 3)
result_for n Means.BufferLength = Some (number_type Base.Int)
result_for n Means.BufferText = Some (object_type 3)
result_for n (Means.Appends shown) = Some (object_type n)
result_for n Means.ParsesInt = Some (number_type Base.Int)
result_for n Means.GetsMessage = Some (object_type 3)
result_for n Means.CreatesCapability = Some (object_type 11)
result_for n Means.LooksUpName = Some (object_type 11)
result_for n Means.NamesDomain = Some (object_type 3)
result_for n Means.CountsFreeWords = Some (number_type Base.Int)
result_for n Means.GetsTask = Some (object_type 14)
result_for n meaning = None

abbrev pub is_static_for : SystemMeaning → Bool
is_static_for (Means.TextOf shown) = true
is_static_for Means.CopiesArray = true
is_static_for Means.ParsesInt = true
is_static_for Means.CreatesCapability = true
is_static_for Means.BindsName = true
is_static_for Means.LooksUpName = true
is_static_for Means.UnbindsName = true
is_static_for Means.NamesDomain = true
is_static_for Means.CountsFreeWords = true
is_static_for Means.TerminatesDomain = true
is_static_for Means.GetsTask = true
is_static_for meaning = false

abbrev pub is_buffer : ℕ → Bool
is_buffer n = n == 4 || n == 5

-- the class with this number is one whose objects may be receivers
abbrev pub is_class_for : SystemMeaning → ℕ → Bool
is_class_for Means.TextLength n = n == 3
is_class_for Means.CharAt n = n == 3
is_class_for Means.IsSameText n = n == 3
is_class_for Means.Concat n = n == 3
is_class_for Means.Substring n = n == 3
is_class_for Means.BufferInitialises n = is_buffer n
is_class_for Means.BufferInitialisesWith n = is_buffer n
is_class_for Means.BufferLength n = is_buffer n
is_class_for Means.BufferText n = is_buffer n
is_class_for (Means.Appends shown) n = is_buffer n
is_class_for Means.SetsMessage n = is_listed_below 45 n 9
is_class_for Means.GetsMessage n = is_listed_below 45 n 9
is_class_for Means.RevokesCapability n = n == 11
is_class_for Means.SuspendsTask n = n == 14
is_class_for Means.ResumesTask n = n == 14
is_class_for Means.StopsTask n = n == 14
is_class_for meaning n = true

-- ---- Method by method.

pub record MethodFacts : Type 0 where
  pub types : Option MethodTypes
  pub static : Bool
  pub of_class : Bool

abbrev pub said_of : SystemMethod → MethodFacts
said_of e = record { types = method_types e.descriptor; static = has e.flags STATIC; of_class = true }

abbrev pub wanted_of : ℕ → MethodMeaning → MethodFacts
wanted_of n e = record {
  types = Some (record { params = params_for e.meaning; result = result_for n e.meaning });
  static = is_static_for e.meaning;
  of_class = is_class_for e.meaning n;
}

-- class by class, from the one with this number on
abbrev wanted_from : ℕ → List (List MethodMeaning) → List (List MethodFacts)
wanted_from n [] = []
wanted_from n (methods ∷ more) = map (wanted_of n) methods ∷ wanted_from (n + 1) more

all_suit : map (λ (class : SystemClass). map said_of class.methods) system_classes ≡ wanted_from 0 system_meanings
all_suit = refl

-- ---- One of them.

-- the meaning of the method that the table says this of
pub record MeaningFound (n i : ℕ) (entry : SystemMethod) : Type 0 where
  pub methods : List MethodMeaning
  pub means : MethodMeaning
  pub of_class : slice_get system_meanings n ≡ Some methods
  pub at : slice_get methods i ≡ Some means
  pub suits : said_of entry ≡ wanted_of n means

in_class : (n i : ℕ) (entries : List SystemMethod) (methods : List MethodMeaning) (entry : SystemMethod)
    → map said_of entries ≡ map (wanted_of n) methods → slice_get entries i ≡ Some entry
    → (e : MethodMeaning) × (slice_get methods i ≡ Some e) × (said_of entry ≡ wanted_of n e)
in_class n i [] methods entry same at = absurd cc
in_class n i (x ∷ entries) [] entry same at = absurd cc
in_class n zero (x ∷ entries) (e ∷ methods) entry same at =
    let one : x ≡ entry = same_Some x entry at in
    let first : said_of x ≡ wanted_of n e = cc in
    (e, refl, subst (λ (y : SystemMethod). said_of y ≡ wanted_of n e) one first)
in_class n (suc i) (x ∷ entries) (e ∷ methods) entry same at =
    let rest : map said_of entries ≡ map (wanted_of n) methods = cc in
    in_class n i entries methods entry rest at

in_table : (k n i : ℕ) (classes : List SystemClass) (lists : List (List MethodMeaning)) (class : SystemClass) (entry : SystemMethod)
    → map (λ (c : SystemClass). map said_of c.methods) classes ≡ wanted_from k lists → slice_get classes n ≡ Some class
    → slice_get class.methods i ≡ Some entry
    → (methods : List MethodMeaning) × (e : MethodMeaning) × (slice_get lists n ≡ Some methods) × (slice_get methods i ≡ Some e)
    × (said_of entry ≡ wanted_of (k + n) e)
in_table k n i [] lists class entry same at there = absurd cc
in_table k n i (c ∷ classes) [] class entry same at there = absurd cc
in_table k zero i (c ∷ classes) (methods ∷ lists) class entry same at there =
    let one : c ≡ class = same_Some c class at in
    let first : map said_of c.methods ≡ map (wanted_of k) methods = cc in
    let number : k ≡ k + 0 = omega arith in
    let found = in_class k i class.methods methods entry
    (subst (λ (d : SystemClass). map said_of d.methods ≡ map (wanted_of k) methods) one first) there in
    (methods, found.0, refl, found.1, subst (λ (m : ℕ). said_of entry ≡ wanted_of m found.0) number found.2)
in_table k (suc n) i (c ∷ classes) (methods ∷ lists) class entry same at there =
    let rest : map (λ (d : SystemClass). map said_of d.methods) classes ≡ wanted_from (k + 1) lists = cc in
    let found = in_table (k + 1) n i classes lists class entry rest at there in
    let number : k + 1 + n ≡ k + suc n = omega arith in
    (found.0, found.1, found.2, found.3, subst (λ (m : ℕ). said_of entry ≡ wanted_of m found.1) number found.4)

pub meaning_found : (n i : ℕ) (class : SystemClass) (entry : SystemMethod) → slice_get system_classes n ≡ Some class
    → slice_get class.methods i ≡ Some entry → MeaningFound n i entry
meaning_found n i class entry at there =
    let found = in_table 0 n i system_classes system_meanings class entry all_suit at there in
    let number : 0 + n ≡ n = omega arith in
    record {
      methods = found.0;
      means = found.1;
      of_class = found.2;
      at = found.3;
      suits = subst (λ (m : ℕ). said_of entry ≡ wanted_of m found.1) number found.4;
    }

pub meaning_told : (m : MemberId) (entry : SystemMethod) (found : MeaningFound m.class.0 m.index entry) → meaning_of m ≡ Some found.means.meaning
meaning_told m entry found =
    ap (option_and_then (λ (methods : List MethodMeaning). option_map (λ (e : MethodMeaning). e.meaning) (slice_get methods m.index))) found.of_class
    ∙ ap (option_map (λ (e : MethodMeaning). e.meaning)) found.at
