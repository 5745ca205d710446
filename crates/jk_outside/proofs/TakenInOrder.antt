-- What a writer took, one text after another.
use Rattle.std.proofs.Common.{◌≡◌, ℕ, List, ◌++◌, Option, Some, None, take, drop, sym, ap, ◌∙◌, append_assoc}
use Rattle.std.specs.Io.KnownBytes.{Keeps}
use Rattle.std.proofs.lemmas.List.{take-append-drop}
use Rattle.jk_outside.specs.Streams.{Takes}

pub Takes-append : (a b c : Option (List ℕ)) (x y : List ℕ) → Takes a b x → Takes b c y → Takes a c (x ++ y)
Takes-append None b c x y h k = tt
Takes-append (Some xs) None c x y h k = absurd h
Takes-append (Some xs) (Some ys) None x y h k = k
Takes-append (Some xs) (Some ys) (Some zs) x y h k =
    k ∙ ap (λ (t : List ℕ). t ++ y) h ∙ append_assoc xs x y

pub Takes-kept : (a b c : Option (List ℕ)) (x : List ℕ) → Takes a b x → Keeps b c → Takes a c x
Takes-kept None b c x h k = tt
Takes-kept (Some xs) None c x h k = absurd h
Takes-kept (Some xs) (Some ys) None x h k = k
Takes-kept (Some xs) (Some ys) (Some zs) x h k = k ∙ h

-- a text up to some place, and so much more of it
pub more_of : (text front rest : List ℕ) (n : ℕ) → text ≡ front ++ rest → text ≡ front ++ take n rest ++ drop n rest
more_of text front rest n h =
    h ∙ ap (λ (t : List ℕ). front ++ t) (sym (take-append-drop n rest)) ∙ sym (append_assoc front (take n rest) (drop n rest))
