-- What a sink was handed and took, one text after another.
use Rattle.std.proofs.Common.{◌≡◌, ℕ, ◌^◌, ◌<◌, List, [], ◌∷◌, ◌++◌, Option, length, refl, sym, ap, ◌∙◌, subst, append_assoc, append-nil}
use Rattle.std.specs.List.{concat}
use Rattle.std.proofs.lemmas.List.Folds.{concat-append}
use Rattle.jk_model.specs.Outside.{Appends, AppendsPart, NeverFalls}
use Rattle.jk_model.proofs.AppendsInTurn.{Appends-nil, Appends-append}
use Rattle.jk_model.proofs.CountsNeverFall.{NeverFalls-refl, NeverFalls-after}
use Rattle.jk_outside.specs.CutTexts.{whole_pieces, rest_of_pieces, Sends, BreaksOff}
use Rattle.jk_outside.proofs.CutIsWholeAndRest.{whole_pieces-append, rest_of_pieces-append, whole_pieces-short, rest_of_pieces-short}

Appends-is : (a b : Option (List ℕ)) (x y : List ℕ) → x ≡ y → Appends a b x → Appends a b y
Appends-is a b x y e h = let P : List ℕ → Type 0 = λ t. Appends a b t in subst P e h

-- ---- pieces

pub Sends-nil : (a : Option (List ℕ)) (p : List (List ℕ)) → Sends a a p p []
Sends-nil a p = record { handed = sym (append-nil p); taken = Appends-nil a }

-- one piece, from what a write says of it
pub Sends-one : (a b : Option (List ℕ)) (p q : List (List ℕ)) (piece : List ℕ) → q ≡ p ++ piece ∷ [] → Appends a b piece → Sends a b p q (piece ∷ [])
Sends-one a b p q piece handed taken =
    record { handed = handed; taken = Appends-is a b piece (piece ++ []) (sym (append-nil piece)) taken }

pub BreaksOff-one : (a b : Option (List ℕ)) (p q : List (List ℕ)) (piece : List ℕ) → q ≡ p ++ piece ∷ [] → AppendsPart a b piece
    → BreaksOff a b p q (piece ∷ [])
BreaksOff-one a b p q piece is part =
    record {
      before = [];
      failed = piece;
      left = [];
      cut = refl;
      handed = is ∙ ap (λ (t : List (List ℕ)). t ++ piece ∷ []) (sym (append-nil p));
      front = part.0;
      is_front = part.1;
      taken = part.2;
    }

pub Sends-append : (a b c : Option (List ℕ)) (p q r x y : List (List ℕ)) → Sends a b p q x → Sends b c q r y → Sends a c p r (x ++ y)
Sends-append a b c p q r x y first second =
    record {
      handed = second.handed ∙ ap (λ (t : List (List ℕ)). t ++ y) first.handed ∙ append_assoc p x y;
      taken = Appends-is a c (concat x ++ concat y) (concat (x ++ y)) (sym (concat-append x y))
          (Appends-append a b c (concat x) (concat y) first.taken second.taken);
    }

pub BreaksOff-after : (a b c : Option (List ℕ)) (p q r x y : List (List ℕ)) → Sends a b p q x → BreaksOff b c q r y → BreaksOff a c p r (x ++ y)
BreaksOff-after a b c p q r x y first broken =
    let text : concat x ++ (concat broken.before ++ broken.front) ≡ concat (x ++ broken.before) ++ broken.front =
    sym (append_assoc (concat x) (concat broken.before) broken.front)
    ∙ ap (λ (t : List ℕ). t ++ broken.front) (sym (concat-append x broken.before)) in
    let order : q ++ broken.before ≡ p ++ (x ++ broken.before) =
    ap (λ (t : List (List ℕ)). t ++ broken.before) first.handed ∙ append_assoc p x broken.before in
    record {
      before = x ++ broken.before;
      failed = broken.failed;
      left = broken.left;
      cut = ap (λ (t : List (List ℕ)). x ++ t) broken.cut ∙ sym (append_assoc x broken.before (broken.failed ∷ broken.left));
      handed = broken.handed ∙ ap (λ (t : List (List ℕ)). t ++ broken.failed ∷ []) order;
      front = broken.front;
      is_front = broken.is_front;
      taken = Appends-is a c (concat x ++ (concat broken.before ++ broken.front)) (concat (x ++ broken.before) ++ broken.front) text
          (Appends-append a b c (concat x) (concat broken.before ++ broken.front) first.taken broken.taken);
    }

pub BreaksOff-more : (a b : Option (List ℕ)) (p q x y : List (List ℕ)) → BreaksOff a b p q x → BreaksOff a b p q (x ++ y)
BreaksOff-more a b p q x y broken =
    record {
      before = broken.before;
      failed = broken.failed;
      left = broken.left ++ y;
      cut = ap (λ (t : List (List ℕ)). t ++ y) broken.cut ∙ append_assoc broken.before (broken.failed ∷ broken.left) y;
      handed = broken.handed;
      front = broken.front;
      is_front = broken.is_front;
      taken = broken.taken;
    }

-- what went out of pieces that were broken off is a part of their text
pub AppendsPart-broken : (a b : Option (List ℕ)) (p q x : List (List ℕ)) → BreaksOff a b p q x → AppendsPart a b (concat x)
AppendsPart-broken a b p q x broken =
    let front = concat broken.before ++ broken.front in
    let back = broken.is_front.0 ++ concat broken.left in
    let text : concat x ≡ front ++ back =
    ap concat broken.cut ∙ concat-append broken.before (broken.failed ∷ broken.left)
    ∙ ap (λ (t : List ℕ). concat broken.before ++ (t ++ concat broken.left)) broken.is_front.1
    ∙ ap (λ (t : List ℕ). concat broken.before ++ t) (append_assoc broken.front broken.is_front.0 (concat broken.left))
    ∙ sym (append_assoc (concat broken.before) broken.front back) in
    (front, (back, text), broken.taken)

-- ---- texts over a buffer

-- What was put so far: its whole pieces went out, the rest is held, and no fault was counted.
pub record SoFar (old new : Option (List ℕ)) (old_pieces new_pieces : List (List ℕ)) (old_faults new_faults : ℕ)
    (old_held new_held text : List ℕ) : Type 0 where
  pub sends : Sends old new old_pieces new_pieces (whole_pieces (old_held ++ text))
  pub held : new_held ≡ rest_of_pieces (old_held ++ text)
  pub calm : new_faults ≡ old_faults
  pub faults : NeverFalls old_faults new_faults
  pub few : length new_held < 256

pub SoFar-nil : (a : Option (List ℕ)) (p : List (List ℕ)) (faults : ℕ) (held : List ℕ) → length held < 256 → faults < 2 ^ 64
    → SoFar a a p p faults faults held held []
SoFar-nil a p faults held few fits =
    record {
      sends = rw (append-nil held, whole_pieces-short held few) (Sends-nil a p);
      held = rw (append-nil held) (sym (rest_of_pieces-short held few));
      calm = refl;
      faults = NeverFalls-refl faults fits;
      few = few;
    }

-- the whole pieces of two texts
joined : (g h x y : List ℕ) → h ≡ rest_of_pieces (g ++ x) → whole_pieces (g ++ x) ++ whole_pieces (h ++ y) ≡ whole_pieces (g ++ (x ++ y))
joined g h x y held =
    ap (λ (t : List ℕ). whole_pieces (g ++ x) ++ whole_pieces (t ++ y)) held ∙ sym (whole_pieces-append (g ++ x) y)
    ∙ ap whole_pieces (append_assoc g x y)

pub SoFar-append : (a b c : Option (List ℕ)) (p q r : List (List ℕ)) (fa fb fc : ℕ) (g h k x y : List ℕ) → SoFar a b p q fa fb g h x
    → Sends b c q r (whole_pieces (h ++ y)) → k ≡ rest_of_pieces (h ++ y) → fc ≡ fb → NeverFalls fb fc → length k < 256
    → SoFar a c p r fa fc g k (x ++ y)
SoFar-append a b c p q r fa fb fc g h k x y so_far sends held calm faults few =
    let P : List (List ℕ) → Type 0 = λ t. Sends a c p r t in
    record {
      sends = subst P (joined g h x y so_far.held) (Sends-append a b c p q r (whole_pieces (g ++ x)) (whole_pieces (h ++ y)) so_far.sends sends);
      held = held ∙ ap (λ (t : List ℕ). rest_of_pieces (t ++ y)) so_far.held ∙ sym (rest_of_pieces-append (g ++ x) y) ∙ ap rest_of_pieces (append_assoc g x y);
      calm = calm ∙ so_far.calm;
      faults = NeverFalls-after fa fb fc so_far.faults faults;
      few = few;
    }

-- the next text was not taken, nor what comes after it
pub BreaksOff-at : (a b c : Option (List ℕ)) (p q r : List (List ℕ)) (fa fb : ℕ) (g h x y text rest : List ℕ) → SoFar a b p q fa fb g h x
    → BreaksOff b c q r (whole_pieces (h ++ y)) → text ≡ x ++ y ++ rest → BreaksOff a c p r (whole_pieces (g ++ text))
BreaksOff-at a b c p q r fa fb g h x y text rest so_far broken splits =
    let P : List (List ℕ) → Type 0 = λ t. BreaksOff a c p r t in
    let over = rest_of_pieces (g ++ (x ++ y)) ++ rest in
    let all : whole_pieces (g ++ (x ++ y)) ++ whole_pieces over ≡ whole_pieces (g ++ text) =
    sym (whole_pieces-append (g ++ (x ++ y)) rest) ∙ ap whole_pieces (append_assoc g (x ++ y) rest)
    ∙ ap (λ (t : List ℕ). whole_pieces (g ++ t)) (sym splits) in
    let both = BreaksOff-after a b c p q r (whole_pieces (g ++ x)) (whole_pieces (h ++ y)) so_far.sends broken in
    subst P all (BreaksOff-more a c p r (whole_pieces (g ++ (x ++ y))) (whole_pieces over) (subst P (joined g h x y so_far.held) both))
