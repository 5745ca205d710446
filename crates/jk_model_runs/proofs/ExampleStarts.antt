-- The class Go has a public static `main` that is found from it.
use Rattle.std.proofs.Common.{◌≡◌, ℕ, ◌<◌, ◌≤◌, List, [], ◌∷◌, Some, refl, arith}
use Rattle.std.specs.Prelude.{codes}
use Rattle.jk_model.specs.Descriptors.{IsClassName, IsMethodText, IsNameUnit}
use Rattle.jk_model.specs.declared.descriptors.MethodType.{MethodType}
use Rattle.jk_model.specs.declared.identifiers.MemberId.{MemberId}
use Rattle.jk_model_classes.specs.Lookups.{FindsMethod}
use Rattle.jk_model_crossings.specs.Examples.{inside_with}
use Rattle.jk_model_runs.specs.Examples.{GO, go, main, main_code, start_of, startable}
use Rattle.jk_model_runs.specs.Starts.{HasMain, IsMain}

-- ---- The type of `main`.

abbrev type_of_main : MethodType
type_of_main = main.kind

small : (u : ℕ) → 91 < u → IsNameUnit u
small u above = (omega arith, omega arith, omega arith, omega arith)

text_is_named : IsClassName (codes "java/lang/String")
text_is_named = (
  codes "java" ∷ codes "lang" ∷ codes "String" ∷ [],
  λ e. absurd cc,
  (
    (λ e. absurd cc, (small 106 (omega arith), (small 97 (omega arith), (small 118 (omega arith), (small 97 (omega arith), tt))))),
    (
      (λ e. absurd cc, (small 108 (omega arith), (small 97 (omega arith), (small 110 (omega arith), (small 103 (omega arith), tt))))),
      (
        (
          λ e. absurd cc,
          (
            (omega arith, omega arith, omega arith, omega arith),
            (small 116 (omega arith), (small 114 (omega arith), (small 105 (omega arith), (small 110 (omega arith), (small 103 (omega arith), tt))))),
          ),
        ),
        tt,
      ),
    ),
  ),
  refl,
)

text_of_main : IsMethodText (codes "([Ljava/lang/String;)V") type_of_main
text_of_main = ((((omega arith, text_is_named), tt), tt), refl)

-- ---- Its place.

abbrev pub main_of_go : MemberId
main_of_go = record { class = GO; index = 0 }

found : (threads chunks : ℕ) → FindsMethod (startable threads chunks).classes GO (codes "main") type_of_main (Some main_of_go)
found threads chunks = record {
  member = record { suits = (main, (go, refl, refl), refl, refl); first = λ i before suits. absurd (omega (arith, before)) };
  place = 0;
  visited = refl;
  earlier = λ h. absurd (omega (arith, h.2));
}

pub is_main : (threads chunks : ℕ) → IsMain (startable threads chunks) GO main_of_go main_code
is_main threads chunks = record {
  type = type_of_main;
  text = text_of_main;
  found = found threads chunks;
  method = main;
  is_method = (go, refl, refl);
  flags = refl;
  body = refl;
}

abbrev pub has_main : (threads chunks : ℕ) (words : List (List ℕ)) → HasMain (startable threads chunks) (start_of (codes "ann") (codes "Go") words)
has_main threads chunks words = record {
  in_class = record {
    in_domain = record { domain = _; found = refl; inside = inside_with []; is_inside = refl };
    class = GO;
    is_named = refl;
  };
  main = main_of_go;
  code = main_code;
  is_main = is_main threads chunks;
}

-- ---- Numbers that are computed.

pub not_lacking : (a b x y : ℕ) → a ≡ x → b ≡ y → y ≤ x → a < b → ⊥
not_lacking a b x y e f h lacks = omega (arith, e, f, h, lacks)
