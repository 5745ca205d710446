-- Members by what they are called: by the first indices of the texts of their names and descriptors.
use Rattle.std.specs.Prelude.{◌≡◌, ℕ, ◌<◌, List, Option, Some, None, slice_get}
use Rattle.jk_model.specs.declared.class_file.MemberInfo.{MemberInfo}
use Rattle.jk_model_classes.specs.Items.{HasItemBefore}
use Rattle.class_rules.specs.declared.texts.TextFacts.{TextFacts}

-- the first index of the text that this is known of
abbrev pub first_of : Option (Option TextFacts) → Option ℕ
first_of (Some (Some facts)) = Some facts.first
first_of (Some None) = None
first_of None = None

abbrev pub first_at : List (Option TextFacts) → ℕ → Option ℕ
first_at facts i = first_of (slice_get facts i)

abbrev pub both : Option ℕ → Option ℕ → Option (ℕ × ℕ)
both (Some name) (Some descriptor) = Some (name, descriptor)
both (Some name) None = None
both None descriptor = None

abbrev pub key_of : List (Option TextFacts) → MemberInfo → Option (ℕ × ℕ)
key_of facts m = both (first_at facts m.name) (first_at facts m.descriptor)

-- the member at this place has a key that a member before it has
abbrev pub HasKeyBefore : List (Option TextFacts) → List MemberInfo → ℕ → Type 0
HasKeyBefore facts members i =
    (m : MemberInfo) × (key : ℕ × ℕ) × (slice_get members i ≡ Some m) × (key_of facts m ≡ Some key)
    × HasItemBefore i (λ other. key_of facts other ≡ Some key) members

-- the first such place, or none
abbrev pub IsFirstRepeat : List (Option TextFacts) → List MemberInfo → Option ℕ → Type 0
IsFirstRepeat facts members None = (i : ℕ) → HasKeyBefore facts members i → ⊥
IsFirstRepeat facts members (Some i) = HasKeyBefore facts members i × ((j : ℕ) → j < i → HasKeyBefore facts members j → ⊥)
