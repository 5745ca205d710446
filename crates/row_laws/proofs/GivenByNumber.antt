-- So many values are given, each of its kind: what holds where they are such values holds of what is given.
use Rattle.std.proofs.Common.{List, [], ◌∷◌}
use Rattle.jk_model.specs.declared.values.Value.{Value}
use Rattle.row_laws.specs.GivenValues.{One, Three, Two}

pub one : (P : Value → Type 0) (R : List Value → Type 0) → ((v : Value) → P v → R (v ∷ [])) → (given : List Value) → One P given → R given
one P R f [] h = absurd h
one P R f (v ∷ []) h = f v h
one P R f (v ∷ w ∷ more) h = absurd h

pub two : (P Q : Value → Type 0) (R : List Value → Type 0) → ((v w : Value) → P v → Q w → R (v ∷ w ∷ [])) → (given : List Value) → Two P Q given
    → R given
two P Q R f [] h = absurd h
two P Q R f (v ∷ []) h = absurd h
two P Q R f (v ∷ w ∷ []) h = f v w h.0 h.1
two P Q R f (v ∷ w ∷ u ∷ more) h = absurd h

pub three : (P Q S : Value → Type 0) (R : List Value → Type 0) → ((v w u : Value) → P v → Q w → S u → R (v ∷ w ∷ u ∷ []))
    → (given : List Value) → Three P Q S given → R given
three P Q S R f [] h = absurd h
three P Q S R f (v ∷ []) h = absurd h
three P Q S R f (v ∷ w ∷ []) h = absurd h
three P Q S R f (v ∷ w ∷ u ∷ []) h = f v w u h.0 h.1 h.2
three P Q S R f (v ∷ w ∷ u ∷ x ∷ more) h = absurd h
