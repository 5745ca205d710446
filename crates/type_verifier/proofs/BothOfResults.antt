-- What two clauses say together of a result that is returned as it is.
use Rattle.std.specs.Prelude.{Result, Ok, Err}
use Rattle.std.specs.Result.{IfOk}

pub IfOk-both : {T E : Type 0} (r : Result T E) (P Q R : T → Type 0) → ((x : T) → P x → Q x → R x) → IfOk r P → IfOk r Q → IfOk r R
IfOk-both (Ok x) P Q R both p q = both x p q
IfOk-both (Err e) P Q R both p q = tt

pub IfOk-all_four : {T E : Type 0} (r : Result T E) (P Q R S All : T → Type 0) → ((x : T) → P x → Q x → R x → S x → All x) → IfOk r P
    → IfOk r Q → IfOk r R → IfOk r S → IfOk r All
IfOk-all_four (Ok x) P Q R S All all p q h s = all x p q h s
IfOk-all_four (Err e) P Q R S All all p q h s = tt
