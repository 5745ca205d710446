-- The search finds the first case with the key.
use Rattle.std.proofs.Common.{◌≡◌, ◌<◌, ℕ, ℤ, List, length, get_or, pos, rules, sym, ap, subst, ◌∙◌, Err, Equal}
use Rattle.std.proofs.lemmas.List.Sorted.{answers_always}
use Rattle.std.proofs.lemmas.Int.{to_z-of_z}
use Rattle.std.specs.Int.{cast_signed, cast_unsigned, w32}
use Rattle.std.specs.List.Sorted.{IsBinarySearchResult}
use Rattle.std.specs.Ordering.{int_cmp}
use Rattle.jk_model.specs.declared.instructions.Instr.{Instr}
use Rattle.jk_model.specs.declared.instructions.SwitchCase.{SwitchCase}
use Rattle.jk_model.specs.Instructions.{Rises}
use Rattle.jk_model_domains.specs.NumberRows.{switch_target}
use Rattle.number_ops.specs.Operands.{keys_of}
use Rattle.number_ops.proofs.CasesByKey.{no_target, target_found}
use Rattle.number_ops.proofs.switches.target.Goals as goal

at_case : (i : Instr) (cases : List SwitchCase) (key given : ℤ) (p : ℕ) (d : SwitchCase) → cases ≡ i.cases → given ≡ key
    → Rises (keys_of i.cases) → p < length cases → ((e : SwitchCase) → int_cmp (get_or cases p e).key given ≡ Equal)
    → (get_or cases p d).target ≡ switch_target i key
at_case i cases key given p d same is up lt found =
    let lt' : p < length i.cases = subst (λ (cs : List SwitchCase). p < length cs) same lt in
    let there : int_cmp (get_or i.cases p d).key given ≡ Equal =
    subst (λ (cs : List SwitchCase). int_cmp (get_or cs p d).key given ≡ Equal) same (found d) in
    let here : int_cmp (get_or i.cases p d).key key ≡ Equal =
    subst (λ (k : ℤ). int_cmp (get_or i.cases p d).key k ≡ Equal) is there in
    ap (λ (cs : List SwitchCase). (get_or cs p d).target) same ∙ sym (target_found key i p d up lt' here)

at_none : (i : Instr) (cases : List SwitchCase) (key given : ℤ) (p : ℕ) → cases ≡ i.cases → given ≡ key → Rises (keys_of i.cases)
    → IsBinarySearchResult (λ (c : SwitchCase). int_cmp c.key given) cases (Err p) → i.a ≡ switch_target i key
at_none i cases key given p same is up found =
    let there : IsBinarySearchResult (λ (c : SwitchCase). int_cmp c.key given) i.cases (Err p) =
    subst (λ (cs : List SwitchCase). IsBinarySearchResult (λ (c : SwitchCase). int_cmp c.key given) cs (Err p)) same found in
    let here : IsBinarySearchResult (λ (c : SwitchCase). int_cmp c.key key) i.cases (Err p) =
    subst (λ (k : ℤ). IsBinarySearchResult (λ (c : SwitchCase). int_cmp c.key k) i.cases (Err p)) is there in
    sym (no_target key i p up here)

pub returns-in-Ok : goal.returns-in-Ok
returns-in-Ok c =
    let by_key = c.in-Ok.ensures.position (λ (x : SwitchCase). x.key) (answers_always _ _ _ (λ f a r g called. search rules)) in
    let d : SwitchCase = record { key = pos 0; target = pos 0 } in
    let at = (get_or c.as_slice-cases.result.now c.in-Ok.place d).target in
    let round : cast_signed w32 (cast_unsigned w32 at) ≡ at = search rules in
    round ∙ at_case c.args.i.now c.as_slice-cases.result.now c.args.key _ c.in-Ok.place d c.as_slice-cases.ensures
    (to_z-of_z w32 c.args.key c.ranges.key) c.requires c.in-Ok.ensures.bound by_key

pub returns-in-Err : goal.returns-in-Err
returns-in-Err c =
    let by_key = c.in-Err.ensures.position (λ (x : SwitchCase). x.key) (answers_always _ _ _ (λ f a r g called. search rules)) in
    let round : cast_signed w32 (cast_unsigned w32 c.args.i.now.a) ≡ c.args.i.now.a = search rules in
    round ∙ at_none c.args.i.now c.as_slice-cases.result.now c.args.key _ c.in-Err.field-0 c.as_slice-cases.ensures
    (to_z-of_z w32 c.args.key c.ranges.key) c.requires by_key
