-- Texts that go out one after the other go out as one text, and a part of a text is a part of a longer one.
use Rattle.std.proofs.Common.{◌≡◌, ℕ, List, [], ◌++◌, Option, Some, None, refl, sym, ap, ◌∙◌, subst, append_assoc, append-nil}
use Rattle.jk_model.specs.Outside.{Appends, AppendsPart, IsPrefix}

pub Appends-nil : (bytes : Option (List ℕ)) → Appends bytes bytes []
Appends-nil None = refl
Appends-nil (Some old) = ap (λ (text : List ℕ). Some text) (sym (append-nil old))

pub Appends-append : (old mid new : Option (List ℕ)) (first second : List ℕ)
    → Appends old mid first → Appends mid new second → Appends old new (first ++ second)
Appends-append None mid new first second h k = subst (λ (o : Option (List ℕ)). Appends o new second) h k
Appends-append (Some text) mid new first second h k =
    let all : new ≡ Some ((text ++ first) ++ second) = subst (λ (o : Option (List ℕ)). Appends o new second) h k in
    all ∙ ap (λ (t : List ℕ). Some t) (append_assoc text first second)

-- a front of a text is one of a longer text
pub IsPrefix-append : (front text more : List ℕ) → IsPrefix front text → IsPrefix front (text ++ more)
IsPrefix-append front text more (back, is) = (back ++ more, ap (λ (t : List ℕ). t ++ more) is ∙ append_assoc front back more)

-- a part of a text is one of a longer text
pub AppendsPart-more : (old new : Option (List ℕ)) (text more : List ℕ) → AppendsPart old new text → AppendsPart old new (text ++ more)
AppendsPart-more old new text more (front, is_front, out) = (front, IsPrefix-append front text more is_front, out)

-- a part that goes out after a text is with it a part of both
pub AppendsPart-after : (old mid new : Option (List ℕ)) (first second : List ℕ)
    → Appends old mid first → AppendsPart mid new second → AppendsPart old new (first ++ second)
AppendsPart-after old mid new first second h (front, (back, is), out) =
    let whole : first ++ second ≡ (first ++ front) ++ back =
    ap (λ (t : List ℕ). first ++ t) is ∙ sym (append_assoc first front back) in
    (first ++ front, (back, whole), Appends-append old mid new first front h out)

-- all of a text is a part of it
pub AppendsPart-whole : (old new : Option (List ℕ)) (text : List ℕ) → Appends old new text → AppendsPart old new text
AppendsPart-whole old new text out = (text, ([], sym (append-nil text)), out)
