-- The object of a literal, which is made where there is none yet.
use Rattle.std.specs.Prelude.{◌≡◌, ◌⊎◌, ℕ, ◌+◌, ◌<◌, ◌≤◌, List, [], ◌∷◌, ◌++◌, length, Some, None}
use Rattle.jk_model.specs.declared.identifiers.DomainId.{DomainId}
use Rattle.jk_model_classes.specs.declared.records.ClassRecord.{ClassRecord}
use Rattle.jk_model_domains.specs.Objects.{Text}
use Rattle.jk_model_domains.specs.OwnStates.{Literal, OwnState, literal_named}
use Rattle.class_init.specs.KeptStates.{KeptState}
use Rattle.object_store.specs.HeapContents.{HeapContent, IsSame, MakesObject, words_left}

-- a state with one literal more
abbrev pub with_text : KeptState → List ℕ → ℕ → KeptState
with_text own text a =
    let l : Literal = record { text = text; name = a } in
    let state : OwnState = record own.state { literals = own.state.literals ++ l ∷ [] } in
    record own { state = state }

-- What a call finds and leaves: the heaps and the own state, before and after.
pub record LiteralCall : Type 0 where
  pub heaps : HeapContent
  pub new_heaps : HeapContent
  pub own : KeptState
  pub new_own : KeptState
  pub domain : DomainId
  pub text : List ℕ

-- the text has this object, which was there or is new
abbrev pub HasObject : LiteralCall → List ClassRecord → ℕ → Type 0
HasObject x classes a =
    ((literal_named x.own.state x.text ≡ Some a) × IsSame x.heaps x.new_heaps × (x.new_own ≡ x.own))
    ⊎ ((literal_named x.own.state x.text ≡ None) × MakesObject x.heaps x.new_heaps classes x.domain a (Text x.text)
    × (4 + length x.text ≤ words_left x.heaps x.domain) × (x.new_own ≡ with_text x.own x.text a))

-- it has none, and one more doesn't fit
abbrev pub LacksObject : LiteralCall → Type 0
LacksObject x =
    (literal_named x.own.state x.text ≡ None) × IsSame x.heaps x.new_heaps × (x.new_own ≡ x.own)
    × (words_left x.heaps x.domain < 4 + length x.text)
