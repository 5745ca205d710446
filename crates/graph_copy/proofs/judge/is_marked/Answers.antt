-- A class behind those of the system isn't marked.
use Rattle.std.proofs.Common.{◌≡◌, ℕ, zero, suc, ◌≤◌, false, List, [], ◌∷◌, length, slice_get, refl, arith}
use Rattle.std.specs.Option.{option_map_or}
use Rattle.jk_model.specs.SystemTable.{SystemClass, system_classes}
use Rattle.graph_copy.proofs.judge.is_marked.Goals as goal

not_marked : (entries : List SystemClass) (n : ℕ) → length entries ≤ n
    → false ≡ option_map_or (λ (e : SystemClass). e.copiable) (slice_get entries n) false
not_marked [] n past = refl
not_marked (e ∷ entries) zero past = absurd (omega (arith, past))
not_marked (e ∷ entries) (suc n) past = not_marked entries n (omega (arith, past))

pub returns-then-c-from : goal.returns-then-c-from
returns-then-c-from c =
    let past : length system_classes ≤ c.args.c.0 = omega (arith, c.count.ensures, c.from.ensures, c.if-c-from.true) in
    not_marked system_classes c.args.c.0 past
