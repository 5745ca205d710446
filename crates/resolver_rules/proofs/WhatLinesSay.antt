-- What a line says by itself, the lines that were passed, and the first line outside the grammar.
use Rattle.std.proofs.Common.{◌≡◌, ℕ, suc, ◌+◌, ◌<◌, ◌≤◌, inl, inr, List, [], ◌∷◌, ◌++◌, length, refl, sym, ◌∙◌, ap, arith, append_assoc, append-nil, length-append, Some, None, Result, Ok, Err, slice_get, subst}
use Rattle.std.proofs.lemmas.Option.{same_Some}
use Rattle.list_lemmas.proofs.ItemsByPlace.{slice_get-push_cases, slice_get-front, slice_get-last}
use Rattle.jk_model.specs.Script.{script_lines}
use Rattle.jk_model_classes.specs.declared.sharing.ResolverLine.{ResolverLine}
use Rattle.jk_model_classes.specs.declared.sharing.ResolverWord.{ResolverWord}
use Rattle.jk_model_classes.specs.Resolver.{Reading, Says, Nothing, Outside, line_reading, lines_say, resolver_of}
use Rattle.jk_model_classes.specs.ResolverRules.{BreaksL6, IsBadReading}
use Rattle.text_lines.specs.FirstLines.{IsFirstLine}
use Rattle.resolver_rules.specs.Lines.{ArePassed, IsOneLine}

-- ---- A line by itself.

abbrev read_alone : Reading → Result (List ResolverLine) ℕ
read_alone Outside = Err 1
read_alone Nothing = Ok []
read_alone (Says says) = Ok (record { line = 1; says = says } ∷ [])

alone : (line : List ℕ) → lines_say 1 (line ∷ []) ≡ read_alone (line_reading line)
alone line = by_reading (line_reading line) refl
  where
    by_reading : (r : Reading) → line_reading line ≡ r → lines_say 1 (line ∷ []) ≡ read_alone r
    by_reading Outside e = rw e refl
    by_reading Nothing e = rw e refl
    by_reading (Says says) e = rw e refl

reads_as : (line : List ℕ) → IsOneLine line → resolver_of line ≡ read_alone (line_reading line)
reads_as line one = one ∙ alone line

pub says_nothing : (paths : List (List ℕ)) (line : List ℕ) (lines : List ResolverLine) → IsOneLine line → resolver_of line ≡ Ok lines
    → length lines ≤ 0 → IsBadReading paths (line_reading line) → ⊥
says_nothing paths line lines one e none = by_reading (line_reading line) (sym (reads_as line one) ∙ e)
  where
    by_reading : (r : Reading) → read_alone r ≡ Ok lines → IsBadReading paths r → ⊥
    by_reading Outside f = absurd cc
    by_reading Nothing f = λ bad. bad
    by_reading (Says says) f =
        let is : record { line = 1; says = says } ∷ [] ≡ lines = cc in
        let one : length lines ≡ 1 = rw (← is) refl in
        absurd (omega (arith, one, none))

pub says_this : (line : List ℕ) (lines : List ResolverLine) (said : ResolverLine) → IsOneLine line → resolver_of line ≡ Ok lines
    → slice_get lines 0 ≡ Some said → line_reading line ≡ Says said.says
says_this line lines said one e at = by_reading (line_reading line) (sym (reads_as line one) ∙ e)
  where
    by_reading : (r : Reading) → read_alone r ≡ Ok lines → r ≡ Says said.says
    by_reading Outside f = absurd cc
    by_reading Nothing f =
        let is : [] ≡ lines = cc in
        let none : None ≡ Some said = ap (λ (xs : List ResolverLine). slice_get xs 0) is ∙ at in
        absurd cc
    by_reading (Says says) f =
        let this : ResolverLine = record { line = 1; says = says } in
        let is : this ∷ [] ≡ lines = cc in
        let same : this ≡ said = same_Some this said (ap (λ (xs : List ResolverLine). slice_get xs 0) is ∙ at) in
        ap (λ (l : ResolverLine). Says l.says) same

pub is_outside : (line : List ℕ) (n : ℕ) → IsOneLine line → resolver_of line ≡ Err n → line_reading line ≡ Outside
is_outside line n one e = by_reading (line_reading line) (sym (reads_as line one) ∙ e)
  where
    by_reading : (r : Reading) → read_alone r ≡ Err n → r ≡ Outside
    by_reading Outside f = refl
    by_reading Nothing f = absurd cc
    by_reading (Says says) f = absurd cc

-- ---- The lines that were passed.

pub none_passed : (paths : List (List ℕ)) (bytes : List ℕ) → ArePassed paths bytes bytes 1
none_passed paths bytes = record { front = []; lines = refl; count = refl; good = λ i line at. absurd cc }

pub one_passed : (paths : List (List ℕ)) (bytes rest line after : List ℕ) (n : ℕ) → ArePassed paths bytes rest n → IsFirstLine rest line after
    → (IsBadReading paths (line_reading line) → ⊥) → ArePassed paths bytes after (n + 1)
one_passed paths bytes rest line after n p f good = record {
  front = p.front ++ line ∷ [];
  lines = p.lines ∙ ap (λ ls. p.front ++ ls) f.lines ∙ sym (append_assoc p.front (line ∷ []) (script_lines after));
  count = omega (arith, p.count, length-append p.front (line ∷ []));
  good = λ i other at. elim (slice_get-push_cases p.front line other i at) [
    | inl here ↦ p.good i other here.1
    | inr last ↦ subst (λ (l : List ℕ). IsBadReading paths (line_reading l) → ⊥) last.1 good
  ];
}

-- no line before the number breaks L6
none_before : (paths : List (List ℕ)) (bytes rest : List ℕ) (n : ℕ) → ArePassed paths bytes rest n → (m : ℕ) → m < n → BreaksL6 paths bytes m → ⊥
none_before paths bytes rest n p m low (i, line, at, is, bad) =
    let inside : i < length p.front = omega (arith, low, is, p.count) in
    let there : slice_get (p.front ++ script_lines rest) i ≡ Some line = rw p.lines at at in
    p.good i line (sym (slice_get-front p.front (script_lines rest) i inside) ∙ there) bad

pub breaks_here : (paths : List (List ℕ)) (bytes rest line after : List ℕ) (n : ℕ) → ArePassed paths bytes rest n → IsFirstLine rest line after
    → IsBadReading paths (line_reading line) → BreaksL6 paths bytes n × ((m : ℕ) → m < n → BreaksL6 paths bytes m → ⊥)
breaks_here paths bytes rest line after n p f bad =
    let lines : script_lines bytes ≡ (p.front ++ line ∷ []) ++ script_lines after =
    p.lines ∙ ap (λ ls. p.front ++ ls) f.lines ∙ sym (append_assoc p.front (line ∷ []) (script_lines after)) in
    let low : length p.front < length (p.front ++ line ∷ []) = omega (arith, length-append p.front (line ∷ [])) in
    let at : slice_get (script_lines bytes) (length p.front) ≡ Some line =
    rw lines (slice_get-front (p.front ++ line ∷ []) (script_lines after) (length p.front) low ∙ slice_get-last p.front line) in
    ((length p.front, line, at, p.count, bad), none_before paths bytes rest n p)

pub all_passed : (paths : List (List ℕ)) (bytes rest : List ℕ) (n : ℕ) → ArePassed paths bytes rest n → script_lines rest ≡ []
    → (m : ℕ) → BreaksL6 paths bytes m → ⊥
all_passed paths bytes rest n p none m (i, line, at, is, bad) =
    let lines : script_lines bytes ≡ p.front = p.lines ∙ ap (λ ls. p.front ++ ls) none ∙ append-nil p.front in
    p.good i line (rw lines at at) bad

-- ---- The first line outside the grammar breaks L6.

record IsOutsideAt (n : ℕ) (lines : List (List ℕ)) (m : ℕ) : Type 0 where
  i : ℕ
  line : List ℕ
  at : slice_get lines i ≡ Some line
  number : m ≡ i + n
  outside : line_reading line ≡ Outside

outside_at : (lines : List (List ℕ)) (n m : ℕ) → lines_say n lines ≡ Err m → IsOutsideAt n lines m
outside_at [] n m e = absurd cc
outside_at (line ∷ lines) n m e = by_reading (line_reading line) refl (outside_at lines (n + 1) m)
  where
    later : IsOutsideAt (n + 1) lines m → IsOutsideAt n (line ∷ lines) m
    later o = record { i = suc o.i; line = o.line; at = o.at; number = omega (arith, o.number); outside = o.outside }

    by_rest : (says : ResolverWord) (r : Result (List ResolverLine) ℕ) → lines_say (n + 1) lines ≡ r → line_reading line ≡ Says says
        → lines_say (n + 1) lines ≡ Err m
    by_rest says (Ok more) f read =
        let all : lines_say n (line ∷ lines) ≡ Ok (record { line = n; says = says } ∷ more) = rw (read, f) refl in
        absurd cc
    by_rest says (Err k) f read =
        let all : lines_say n (line ∷ lines) ≡ Err k = rw (read, f) refl in
        cc

    by_reading : (r : Reading) → line_reading line ≡ r → (lines_say (n + 1) lines ≡ Err m → IsOutsideAt (n + 1) lines m) → IsOutsideAt n (line ∷ lines) m
    by_reading Outside read rest =
        let here : lines_say n (line ∷ lines) ≡ Err n = rw read refl in
        let same : n ≡ m = cc in
        record { i = 0; line = line; at = refl; number = omega (arith, same); outside = read }
    by_reading Nothing read rest =
        let there : lines_say n (line ∷ lines) ≡ lines_say (n + 1) lines = rw read refl in
        later (rest (sym there ∙ e))
    by_reading (Says says) read rest = later (rest (by_rest says (lines_say (n + 1) lines) refl read))

pub outside_breaks : (paths : List (List ℕ)) (bytes : List ℕ) (m : ℕ) → resolver_of bytes ≡ Err m → BreaksL6 paths bytes m
outside_breaks paths bytes m e =
    let o = outside_at (script_lines bytes) 1 m e in
    (o.i, o.line, o.at, o.number, rw o.outside tt)
