-- `resolver.txt`: its grammar, and the rules L6 and L7 on it. Its bytes, line ends and words are those of a script.
use Rattle.std.specs.Prelude.{◌≡◌, ◌≢◌, ℕ, ◌+◌, ◌≤◌, ◌<◌, ◌⊎◌, ◌&&◌, Bool, true, List, [], ◌∷◌, length, filter, find, Contains, nat_le, Option, Some, None, Result, Ok, Err, codes, if◌then◌else◌, bytes_eq, slice_get}
use Rattle.std.specs.List.{list_all, enumerate_from}
use Rattle.jk_model.specs.declared.identifiers.ClassId.{ClassId}
use Rattle.jk_model.specs.declared.identifiers.DomainId.{DomainId}
use Rattle.jk_model.specs.Script.{script_lines, words, is_line_byte, is_empty_line}
use Rattle.jk_model.specs.ScriptGrammar.{is_name}
use Rattle.jk_model_classes.specs.declared.sharing.ResolverLine.{ResolverLine}
use Rattle.jk_model_classes.specs.declared.sharing.ResolverWord.{ResolverWord}
use Rattle.jk_model_classes.specs.declared.sharing.ResolverWord.TheVariants.{Share, Import}

-- ---- Words.

-- a class's name has 1 to 255 bytes
abbrev pub is_class_word : List ℕ → Bool
is_class_word word = nat_le 1 (length word) && nat_le (length word) 255

abbrev checked : Bool → ResolverWord → Option ResolverWord
checked good says = if good then Some says else None

-- `share CLASS`, `share CLASS DOMAIN`
abbrev share_of : List (List ℕ) → Option ResolverWord
share_of (class ∷ []) = checked (is_class_word class) (Share class None)
share_of (class ∷ domain ∷ []) = checked (is_class_word class && is_name domain) (Share class (Some domain))
share_of _ = None

-- `import DOMAIN CLASS`
abbrev import_of : List (List ℕ) → Option ResolverWord
import_of (domain ∷ class ∷ []) = checked (is_name domain && is_class_word class) (Import domain class)
import_of _ = None

-- what the words of a line say, or nothing where they are outside the grammar
abbrev pub words_say : List (List ℕ) → Option ResolverWord
words_say [] = None
words_say (command ∷ more) =
    if bytes_eq command (codes "share") then share_of more
    else (if bytes_eq command (codes "import") then import_of more else None)

-- ---- Lines.

-- a line reads as something that it says, or as nothing; or it is outside the grammar
pub data Reading : Type 0 where
  Says : ResolverWord → Reading
  Nothing : Reading
  Outside : Reading

abbrev said : Option ResolverWord → Reading
said None = Outside
said (Some says) = Says says

abbrev pub line_reading : List ℕ → Reading
line_reading line =
    if list_all is_line_byte line then (if is_empty_line line then Nothing else said (words_say (words line))) else Outside

abbrev with_line : ℕ → ResolverWord → Result (List ResolverLine) ℕ → Result (List ResolverLine) ℕ
with_line n says (Ok lines) = Ok (record { line = n; says = says } ∷ lines)
with_line n says (Err m) = Err m

abbrev after_reading : ℕ → Reading → Result (List ResolverLine) ℕ → Result (List ResolverLine) ℕ
after_reading n Outside rest = Err n
after_reading n Nothing rest = rest
after_reading n (Says says) rest = with_line n says rest

-- what the lines say, from a number on, or the number of the first that is outside the grammar
abbrev pub lines_say : ℕ → List (List ℕ) → Result (List ResolverLine) ℕ
lines_say n [] = Ok []
lines_say n (line ∷ lines) = after_reading n (line_reading line) (lines_say (n + 1) lines)

-- what the bytes of a `resolver.txt` say, or the number of its first line outside the grammar
abbrev pub resolver_of : List ℕ → Result (List ResolverLine) ℕ
resolver_of bytes = lines_say 1 (script_lines bytes)
