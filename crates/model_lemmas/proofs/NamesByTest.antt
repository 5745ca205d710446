-- Units that a test finds good are units of names, so a text that is written out is seen to be a name of a class.
use Rattle.std.proofs.Common.{◌≡◌, ◌≢◌, ℕ, Bool, true, not, List, [], ◌∷◌, codes, refl, arith}
use Rattle.std.specs.Prelude.{◌==◌, ◌&&◌}
use Rattle.std.specs.List.{AllByRecursion, list_all}
use Rattle.std.proofs.lemmas.Bool.{and_parts}
use Rattle.std.proofs.lemmas.Grind.{common_steps}
use Rattle.jk_model.specs.Descriptors.{IsClassName, IsNameUnit}

abbrev pub is_name_unit : ℕ → Bool
is_name_unit u = not (u == 46) && not (u == 59) && not (u == 91) && not (u == 47)

pub name_unit : (u : ℕ) → is_name_unit u ≡ true → IsNameUnit u
name_unit u h = (λ e. grind (arith, common_steps), λ e. grind (arith, common_steps), λ e. grind (arith, common_steps), λ e. grind (arith, common_steps))

pub name_units : (us : List ℕ) → list_all is_name_unit us ≡ true → AllByRecursion IsNameUnit us
name_units [] h = tt
name_units (u ∷ us) h =
    let parts = and_parts (is_name_unit u) (list_all is_name_unit us) h in
    (name_unit u parts.0, name_units us parts.1)

pub some_units : (u : ℕ) (us : List ℕ) → u ∷ us ≢ []
some_units u us e = cc

pub some_names : (name : List ℕ) (names : List (List ℕ)) → name ∷ names ≢ []
some_names name names e = cc

-- the name of java/lang/String
pub string_name : IsClassName (codes "java/lang/String")
string_name = (
  codes "java" ∷ codes "lang" ∷ codes "String" ∷ [],
  some_names _ _,
  (
    (some_units _ _, name_units (codes "java") refl),
    ((some_units _ _, name_units (codes "lang") refl), ((some_units _ _, name_units (codes "String") refl), tt)),
  ),
  refl,
)
