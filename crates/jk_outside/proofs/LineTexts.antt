-- The parts that each kind of line is printed of make its text.
use Rattle.std.proofs.Common.{◌≡◌, ℕ, List, [], ◌∷◌, ◌++◌, ℤ, pos, ap, ◌∙◌, append_assoc, append-nil, ◌<◌, ◌^◌, arith, to_z, of_z, w64}
use Rattle.std.proofs.lemmas.Int.{to_z_pos}
use Rattle.std.specs.Prelude.{codes, decimal}
use Rattle.std.specs.Fmt.{signed_decimal}
use Rattle.jk_model.specs.declared.output.Line.TheVariants.{Said, Loaded, Refused, Started, StartRefused, Ended, EndedBy, EndedByKill, Killed, KillRefused}
use Rattle.jk_model.specs.declared.output.Place.TheVariants.{Whole, At}
use Rattle.jk_model.specs.declared.output.Rule.{Rule}
use Rattle.jk_model.specs.Output.{text_of, rule_text}
use Rattle.jk_model.specs.Text.{shown, utf16_of}

pub three : (a b c : List ℕ) → (a ++ (b ++ (c ++ []))) ++ 10 ∷ [] ≡ a ++ b ++ c ++ 10 ∷ []
three a b c = simp (append_assoc, append-nil)

four : (a b c d : List ℕ) → (a ++ (b ++ (c ++ (d ++ [])))) ++ 10 ∷ [] ≡ a ++ b ++ c ++ d ++ 10 ∷ []
four a b c d = simp (append_assoc, append-nil)

at_whole : (a b c d : List ℕ) → (a ++ (b ++ (c ++ (d ++ [])))) ++ 10 ∷ [] ≡ ((a ++ b ++ c ++ d ++ []) ++ 10 ∷ []) ++ []
at_whole a b c d = simp (append_assoc, append-nil)

at_number : (a b c d e f g h : List ℕ)
    → (a ++ (b ++ (c ++ (d ++ (e ++ (f ++ (g ++ (h ++ [])))))))) ++ 10 ∷ [] ≡ ((a ++ b ++ c ++ d ++ (e ++ f ++ g ++ h)) ++ 10 ∷ []) ++ []
at_number a b c d e f g h = simp (append_assoc, append-nil)

-- the last line feed stands alone in the text of one line
closed : (text : List ℕ) → text ≡ text ++ []
closed text = simp append-nil

pub loaded_text : (domain : List ℕ) → codes "* domain " ++ domain ++ codes " loaded" ++ 10 ∷ [] ≡ text_of (Loaded domain ∷ [])
loaded_text domain = closed (codes "* domain " ++ domain ++ codes " loaded" ++ 10 ∷ [])

pub killed_text : (domain : List ℕ) → codes "* domain " ++ domain ++ codes " killed" ++ 10 ∷ [] ≡ text_of (Killed domain ∷ [])
killed_text domain = closed (codes "* domain " ++ domain ++ codes " killed" ++ 10 ∷ [])

pub kill_refused_text : (domain : List ℕ) → codes "* kill " ++ domain ++ codes " refused K1" ++ 10 ∷ [] ≡ text_of (KillRefused domain ∷ [])
kill_refused_text domain = closed (codes "* kill " ++ domain ++ codes " refused K1" ++ 10 ∷ [])

-- no class follows
no_class : (a b c : List ℕ) → a ++ b ++ c ++ [] ++ 10 ∷ [] ≡ (a ++ b ++ c ++ 10 ∷ []) ++ []
no_class a b c = simp append-nil

pub ended_text : (n : ℕ) → codes "* thread " ++ decimal n ++ codes " ended" ++ [] ++ 10 ∷ [] ≡ text_of (Ended (record { 0 = n }) ∷ [])
ended_text n = no_class (codes "* thread ") (decimal n) (codes " ended")

pub ended_by_kill_text : (n : ℕ) → codes "* thread " ++ decimal n ++ codes " ended by kill" ++ [] ++ 10 ∷ [] ≡ text_of (EndedByKill (record { 0 = n }) ∷ [])
ended_by_kill_text n = no_class (codes "* thread ") (decimal n) (codes " ended by kill")

pub ended_by_text : (n : ℕ) (class : List ℕ)
    → codes "* thread " ++ decimal n ++ codes " ended by " ++ shown class ++ 10 ∷ [] ≡ text_of (EndedBy (record { 0 = n }) class ∷ [])
ended_by_text n class = closed (codes "* thread " ++ decimal n ++ codes " ended by " ++ shown class ++ 10 ∷ [])

pub said_text : (domain text : List ℕ) → (domain ++ (codes ": " ++ (shown text ++ []))) ++ 10 ∷ [] ≡ text_of (Said domain text ∷ [])
said_text domain text = simp (append_assoc, append-nil)

pub thread_text : (n : ℕ) (x : ℤ) (fate class : List ℕ) → x ≡ pos n
    → (codes "* thread " ++ (signed_decimal x ++ (fate ++ (class ++ [])))) ++ 10 ∷ [] ≡ codes "* thread " ++ decimal n ++ fate ++ class ++ 10 ∷ []
thread_text n x fate class e =
    ap (λ (y : ℤ). (codes "* thread " ++ (signed_decimal y ++ (fate ++ (class ++ [])))) ++ 10 ∷ []) e ∙ four (codes "* thread ") (decimal n) fate class

pub started_text : (n : ℕ) (x : ℤ) (domain : List ℕ) → x ≡ pos n
    → (codes "* thread " ++ (signed_decimal x ++ (codes " started in " ++ (domain ++ [])))) ++ 10 ∷ [] ≡ text_of
    (Started (record { 0 = n }) domain ∷ [])
started_text n x domain e =
    ap (λ (y : ℤ). (codes "* thread " ++ (signed_decimal y ++ (codes " started in " ++ (domain ++ [])))) ++ 10 ∷ []) e
    ∙ four (codes "* thread ") (decimal n) (codes " started in ") domain ∙ closed (codes "* thread " ++ decimal n ++ codes " started in " ++ domain ++ 10 ∷ [])

pub start_refused_text : (domain : List ℕ) (n : ℕ) (x : ℤ) → x ≡ pos n
    → (codes "* start " ++ (domain ++ (codes " refused S" ++ (signed_decimal x ++ [])))) ++ 10 ∷ [] ≡ text_of (StartRefused domain n ∷ [])
start_refused_text domain n x e =
    ap (λ (y : ℤ). (codes "* start " ++ (domain ++ (codes " refused S" ++ (signed_decimal y ++ [])))) ++ 10 ∷ []) e
    ∙ four (codes "* start ") domain (codes " refused S") (decimal n) ∙ closed (codes "* start " ++ domain ++ codes " refused S" ++ decimal n ++ 10 ∷ [])

pub refused_text : (domain name : List ℕ) (rule : Rule) → name ≡ rule_text rule
    → (codes "* domain " ++ (domain ++ (codes " refused " ++ (name ++ [])))) ++ 10 ∷ [] ≡ text_of (Refused domain rule Whole ∷ [])
refused_text domain name rule e =
    ap (λ (t : List ℕ). (codes "* domain " ++ (domain ++ (codes " refused " ++ (t ++ [])))) ++ 10 ∷ []) e
    ∙ at_whole (codes "* domain ") domain (codes " refused ") (rule_text rule)

pub refused_at_text : (domain name path : List ℕ) (rule : Rule) (n : ℕ) (x : ℤ) → name ≡ rule_text rule → x ≡ pos n
    → (codes "* domain " ++ (domain ++
    (codes " refused " ++ (name ++ (codes " " ++ (shown (utf16_of path) ++ (codes " " ++ (signed_decimal x ++ [])))))))) ++ 10 ∷ [] ≡ text_of
    (Refused domain rule (At path n) ∷ [])
refused_at_text domain name path rule n x e h =
    ap (λ (t : List ℕ). (codes "* domain " ++
    (domain ++ (codes " refused " ++ (t ++ (codes " " ++ (shown (utf16_of path) ++ (codes " " ++ (signed_decimal x ++ [])))))))) ++ 10 ∷ []) e
    ∙ ap (λ (y : ℤ). (codes "* domain " ++
    (domain ++ (codes " refused " ++ (rule_text rule ++ (codes " " ++ (shown (utf16_of path) ++ (codes " " ++ (signed_decimal y ++ [])))))))) ++ 10 ∷
    []) h
    ∙ at_number (codes "* domain ") domain (codes " refused ") (rule_text rule) (codes " ") (shown (utf16_of path)) (codes " ") (decimal n)

-- a number of 32 bits, as it is handed on
pub number_is : (n : ℕ) (x : ℤ) → n < 2 ^ 32 → x ≡ pos n → to_z w64 (of_z w64 x) ≡ pos n
number_is n x h e =
    let below : n < 2 ^ 63 = omega arith in
    ap (λ (y : ℤ). to_z w64 (of_z w64 y)) e ∙ to_z_pos w64 n below
