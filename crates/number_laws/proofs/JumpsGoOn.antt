-- Jumps and switches go on where their instructions say.
use Rattle.std.proofs.Common.{◌≡◌, ◌⊎◌, inl, inr, ℕ, ℤ, Bool, true, false, List, [], ◌∷◌, Some, IsTrue, refl, ◌||◌}
use Rattle.std.specs.Prelude.{cond, find, Option, suc}
use Rattle.std.specs.Option.{option_map_or}
use Rattle.std.specs.Ordering.{int_eq}
use Rattle.jk_model.specs.declared.instructions.Instr.{Instr}
use Rattle.jk_model.specs.declared.instructions.SwitchCase.{SwitchCase}
use Rattle.jk_model_classes.specs.Items.{HasItem}
use Rattle.jk_model_classes.specs.MemberCode.{is_jump, is_switch}
use Rattle.jk_model_typing.specs.Typing.{GoesOnAt}
use Rattle.jk_model_domains.specs.NumberRows.{switch_target}

pub first_way : (a b : Bool) → IsTrue a → IsTrue (a || b)
first_way true b h = refl
first_way false b h = absurd cc

pub either_way : (a b : Bool) → IsTrue b → IsTrue (a || b)
either_way true b h = refl
either_way false b h = h

-- a switch goes on at one of its targets
one_case : (x : SwitchCase) (xs : List SwitchCase) (found : Option SwitchCase) (a : ℤ) (b : Bool)
    → (option_map_or (λ (c : SwitchCase). c.target) found a ≡ a)
    ⊎ HasItem (λ (c : SwitchCase). option_map_or (λ (c : SwitchCase). c.target) found a ≡ c.target) xs
    → (option_map_or (λ (c : SwitchCase). c.target) (cond b (Some x) found) a ≡ a)
    ⊎ HasItem (λ (c : SwitchCase). option_map_or (λ (c : SwitchCase). c.target) (cond b (Some x) found) a ≡ c.target) (x ∷ xs)
one_case x xs found a true h = inr (0, x, refl, refl)
one_case x xs found a false h = elim h [
  | inl same ↦ inl same
  | inr item ↦ inr (suc item.0, item.1, item.2, item.3)
]

case_of_switch : (cs : List SwitchCase) (key a : ℤ)
    → (option_map_or (λ (c : SwitchCase). c.target) (find (λ (c : SwitchCase). int_eq c.key key) cs) a ≡ a)
    ⊎ HasItem (λ (c : SwitchCase). option_map_or (λ (c : SwitchCase). c.target) (find (λ (c : SwitchCase). int_eq c.key key) cs) a ≡ c.target) cs
case_of_switch [] key a = inl refl
case_of_switch (x ∷ xs) key a =
    one_case x xs (find (λ (c : SwitchCase). int_eq c.key key) xs) a (int_eq x.key key) (case_of_switch xs key a)

pub switch_goes_on : (place : ℕ) (i : Instr) (key : ℤ) → IsTrue (is_switch i.op) → GoesOnAt place i (switch_target i key)
switch_goes_on place i key op =
    elim (case_of_switch i.cases key i.a) [
      | inl same ↦ inr (inl (either_way (is_jump i.op) (is_switch i.op) op, same))
      | inr item ↦ inr (inr item)
    ]

pub jump_goes_on : (place : ℕ) (i : Instr) → IsTrue (is_jump i.op) → GoesOnAt place i i.a
jump_goes_on place i op = inr (inl (first_way (is_jump i.op) (is_switch i.op) op, refl))
