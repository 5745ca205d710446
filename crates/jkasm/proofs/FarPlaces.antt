-- What is known of places is the same for two places that are too far.
use Rattle.std.proofs.Common.{◌≡◌, ℕ, ◌+◌, ◌≤◌, Bool, true, false, List, [], ◌∷◌, refl, ap, arith, Option, Some, None, if◌then◌else◌, min, inl, inr}
use Rattle.std.specs.Option.{option_map}
use Rattle.std.proofs.lemmas.Bool.{cases_lt}
use Rattle.asm_reader.specs.declared.items.CodeLine.{CodeLine}
use Rattle.jkasm.specs.CodePlaces.{line_size, is_label, label_place}
use Rattle.jkasm.specs.Labels.{FAR, IsKnownPlace}

-- what is known of a place, or that there is none
abbrev pub near : Option ℕ → Option ℕ
near place = option_map (λ p. min p FAR) place

-- what is known of a label in lines that begin at a place
abbrev pub known_place : ℕ → List CodeLine → List ℕ → Option ℕ
known_place at codes label = near (label_place at codes label)

pub known_from_near : (place known : Option ℕ) → known ≡ near place → IsKnownPlace place known
known_from_near None known h = h
known_from_near (Some place) known h = h

-- what is known of a label that stands at this place, or else as in the lines after
pub known_here : (b : Bool) (at : ℕ) (rest : Option ℕ) → near (if b then Some at else rest) ≡ (if b then Some (min at FAR) else near rest)
known_here true at rest = refl
known_here false at rest = refl

far_alike : (b : Bool) (x y : ℕ) (xs ys : Option ℕ) → FAR ≤ x → FAR ≤ y → near xs ≡ near ys
    → near (if b then Some x else xs) ≡ near (if b then Some y else ys)
far_alike true x y xs ys h k e =
    let same : min x FAR ≡ min y FAR = omega arith in
    ap (λ (p : ℕ). Some p) same
far_alike false x y xs ys h k e = e

-- from any two places that are too far, the same is known
pub known_place-far : (x y : ℕ) (codes : List CodeLine) (label : List ℕ) → FAR ≤ x → FAR ≤ y
    → known_place x codes label ≡ known_place y codes label
known_place-far x y [] label h k = refl
known_place-far x y (line ∷ codes) label h k =
    let nx = x + line_size x line.statement in
    let ny = y + line_size y line.statement in
    let fx : FAR ≤ x + line_size x line.statement = omega arith in
    let fy : FAR ≤ y + line_size y line.statement = omega arith in
    far_alike (is_label line.label label) x y (label_place nx codes label) (label_place ny codes label) h k
    (known_place-far nx ny codes label fx fy)

-- so a place may stop at the first of those
pub known_place-min : (at : ℕ) (codes : List CodeLine) (label : List ℕ) → known_place (min at FAR) codes label ≡ known_place at codes label
known_place-min at codes label = elim (cases_lt at FAR) [
  | inl below ↦ let same : min at FAR ≡ at = omega arith in ap (λ p. known_place p codes label) same
  | inr far ↦ known_place-far (min at FAR) at codes label (omega arith) far
]
