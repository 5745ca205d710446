-- With one attribute at most, that one comes to the second place.
use Rattle.std.proofs.Common.{◌≡◌, ◌≤◌, List, [], ◌∷◌, ◌++◌, length, Some, slice_get, slice_set, arith, refl}
use Rattle.std.proofs.lemmas.Result.{on_ok_weaker}
use Rattle.jkasm.proofs.method_builder.put_first.Goals as goal

two : {X : Type 0} (xs mid new : List X) (first second : X) → length xs ≤ 1 → slice_get xs 0 ≡ Some second → mid ≡ slice_set xs 0 first
    → new ≡ mid ++ second ∷ [] → new ≡ first ∷ xs
two [] mid new first second few at put pushed = absurd cc
two (x ∷ []) mid new first second few at put pushed =
    let same : x ≡ second = cc in
    let all : mid ≡ first ∷ [] = put in
    rw (pushed, all, same) refl
two (x ∷ y ∷ xs) mid new first second few at put pushed = absurd (omega arith)

pub returns : goal.returns
returns c = λ few.
    on_ok_weaker c.push-2.result
    (two c.args.attributes.now c.replace-second.new.self c.push-2.new.self c.args.first c.replace-second.result
    few c.replace-second.ensures.old c.replace-second.ensures.new)
    c.push-2.ensures.ok
