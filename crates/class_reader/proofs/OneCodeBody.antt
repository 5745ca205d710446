-- Bytes are the body of one Code attribute, or have one fault: what reading answers is the body or its fault,
-- and each answer rules out the others.
use Rattle.std.proofs.Common.{◌≡◌, ℕ, ◌+◌, ◌^◌, ◌<◌, ◌≤◌, ◌⊎◌, inl, inr, List, [], ◌++◌, length, take, drop, Some, None, Result, Ok, Err, refl, sym, ap, subst, ◌∙◌, append_assoc, append-nil, arith}
use Rattle.std.specs.Prelude.{MatchResult}
use Rattle.std.specs.Int.{w32}
use Rattle.std.proofs.lemmas.List.{length-append, length-drop, drop_at, take-append-drop}
use Rattle.jk_model.specs.declared.class_file.Code.{Code}
use Rattle.jk_model.specs.ClassFile.{u2, u4, IsU4, handlers_bytes, attributes_bytes, code_bytes, CodeLayout, IsCutCode, TrailsCode, HasBadCodeLength}
use Rattle.jk_model.proofs.EmptyByLength.{not_nil_back, length_from_not_nil}
use Rattle.byte_fields.specs.Reading.{number_at, pair_at}
use Rattle.byte_fields.specs.Layouts.{IsBytes, FailsWithin, pair_bytes, IsPair}
use Rattle.byte_fields.specs.PartsAreBytes.{IsBytes-after}
use Rattle.byte_fields.specs.OneReading.{one_reading, one_u4, pair_reader}
use Rattle.byte_fields.specs.CutIsBeginning.{then_cut, pair_cut, u4_cut}
use Rattle.class_reader.specs.declared.code.CodeRefusal.{CodeRefusal}
use Rattle.class_reader.specs.declared.code.CodeRefusal.TheVariants.{Cut, Trailing, CodeLength, OutOfMemory}
use Rattle.class_reader.specs.Reading.{front_at, tables_at}
use Rattle.class_reader.specs.SectionLaws.{Front, front_bytes, IsFront, front_reader, Tables, table_bytes, AreTables, tables_reader, tables_cut}
use Rattle.class_reader.specs.Answers.{IsRefused, BeginsWith, IsCodeAnswer}

-- ---- A body by its parts.

abbrev front_of : Code → Front
front_of c = ((c.max_stack, c.max_locals), length c.code)

abbrev tables_of : Code → Tables
tables_of c = (c.code, (c.handlers, c.attributes))

abbrev pub code_of : Front → Tables → Code
code_of p t = record { max_stack = p.0.0; max_locals = p.0.1; code = t.0; handlers = t.1.0; attributes = t.1.1 }

code_parts : (c : Code) → code_bytes c ≡ front_bytes (front_of c) ++ table_bytes (tables_of c)
code_parts c = regrouped (u2 c.max_stack) (u2 c.max_locals) (u4 (length c.code)) c.code (handlers_bytes c.handlers) (attributes_bytes c.attributes)
  where
    regrouped : (a b c d e f : List ℕ) → a ++ b ++ c ++ d ++ e ++ f ≡ ((a ++ b) ++ c) ++ (d ++ (e ++ f))
    regrouped a b c d e f = simp append_assoc

layout_front : (body : List ℕ) (c : Code) → CodeLayout body c → IsFront (front_of c)
layout_front body c l = ((l.limits.0, l.limits.1), omega (arith, l.code.1))

layout_tables : (body : List ℕ) (c : Code) → CodeLayout body c → AreTables (length c.code) (tables_of c)
layout_tables body c l = ((refl, l.code.2), ((l.handlers.0, l.handlers.1), l.attributes))

-- the bytes begin with this front, and go on so
record GoesOn (body : List ℕ) (p : Front) (rest : List ℕ) : Type 0 where
  pub fits : IsFront p
  pub parts : body ≡ front_bytes p ++ rest

made_layout : (body : List ℕ) (p : Front) (t : Tables) → IsFront p → 0 < p.1 → p.1 < 2 ^ 16 → AreTables p.1 t → body ≡ front_bytes p ++ table_bytes t
    → CodeLayout body (code_of p t)
made_layout body p t fits some few tables e =
    let c = code_of p t in
    let len : p.1 ≡ length t.0 = sym tables.0.0 in
    let same : front_bytes p ≡ front_bytes (front_of c) = ap (λ (n : ℕ). pair_bytes p.0 ++ u4 n) len in
    record {
      sections = e ∙ ap (λ (w : List ℕ). w ++ table_bytes t) same ∙ sym (code_parts c);
      limits = (fits.0.0, fits.0.1);
      code = (omega (arith, len), omega (arith, len), tables.0.1);
      handlers = (tables.1.0.0, tables.1.0.1);
      attributes = tables.1.1;
    }

-- ---- One body.

code_is : (p q : Front) (s t : Tables) → p ≡ q → s ≡ t → code_of p s ≡ code_of q t
code_is p q s t e f = ap (λ (x : Front). code_of x s) e ∙ ap (λ (x : Tables). code_of q x) f

code_goes_on : (front : List ℕ) (c : Code) (body rest : List ℕ) → CodeLayout front c → body ≡ front ++ rest
    → GoesOn body (front_of c) (table_bytes (tables_of c) ++ rest)
code_goes_on front c body rest l e = record {
  fits = layout_front front c l;
  parts = e ∙ ap (λ (w : List ℕ). w ++ rest) (l.sections ∙ code_parts c) ∙ append_assoc (front_bytes (front_of c)) (table_bytes (tables_of c)) rest;
}

one_front : (body : List ℕ) (p q : Front) (r s : List ℕ) → GoesOn body p r → GoesOn body q s → (p ≡ q) × (r ≡ s)
one_front body p q r s h k = one_reading front_at front_bytes IsFront front_reader p q r s h.fits k.fits (sym h.parts ∙ k.parts)

one_code : (a b : List ℕ) (c d : Code) (body x y : List ℕ) → CodeLayout a c → CodeLayout b d → body ≡ a ++ x → body ≡ b ++ y → (c ≡ d) × (x ≡ y)
one_code a b c d body x y l k e f =
    let n = length c.code in
    let after_c = table_bytes (tables_of c) ++ x in
    let after_d = table_bytes (tables_of d) ++ y in
    let front = one_front body (front_of c) (front_of d) after_c after_d (code_goes_on a c body x l e) (code_goes_on b d body y k f) in
    let len : length d.code ≡ n = sym (ap (λ (p : Front). p.1) front.0) in
    let fits = subst (λ (m : ℕ). AreTables m (tables_of d)) len (layout_tables b d k) in
    let tables = one_reading (tables_at n) table_bytes (AreTables n) (tables_reader n) (tables_of c) (tables_of d) x y (layout_tables a c l) fits front.1 in
    (code_is (front_of c) (front_of d) (tables_of c) (tables_of d) front.0 tables.0, tables.1)

-- ---- What reading answers.

front_cut : FailsWithin front_at front_bytes IsFront
unfolding front_at
front_cut = then_cut pair_at (λ _. number_at w32) pair_bytes (λ _. u4) IsPair (λ _. IsU4) pair_reader pair_cut (λ _. u4_cut)

pub front_ends : (body : List ℕ) → IsBytes body → front_at body ≡ None → IsCutCode body
front_ends body fits none =
    let h = front_cut.cut body fits none in
    let len : length body + length h.more ≡ 8 = sym (length-append body h.more) ∙ ap length h.spelled in
    inl (omega (arith, len, length_from_not_nil h.more h.some))

front_found : (body : List ℕ) (p : Front) (rest : List ℕ) → IsBytes body → front_at body ≡ Some (p, rest) → GoesOn body p rest
front_found body p rest fits e = let t = front_reader.takes body (p, rest) fits e in record { fits = t.1; parts = t.0.parts }

pub bad_length : (body : List ℕ) (p : Front) (rest : List ℕ) → IsBytes body → front_at body ≡ Some (p, rest) → (p.1 ≡ 0) ⊎ (2 ^ 16 ≤ p.1)
    → HasBadCodeLength body p.1
bad_length body p rest fits e bad =
    let h = front_found body p rest fits e in
    (pair_bytes p.0, rest, refl, h.fits.1, h.parts, bad)

rest_fits : (body : List ℕ) (p : Front) (rest : List ℕ) → IsBytes body → GoesOn body p rest → IsBytes rest
rest_fits body p rest fits h = IsBytes-after body (front_bytes p) rest h.parts fits

pub tables_end : (body : List ℕ) (p : Front) (rest : List ℕ) → IsBytes body → front_at body ≡ Some (p, rest) → 0 < p.1 → p.1 < 2 ^ 16
    → tables_at p.1 rest ≡ None → IsCutCode body
tables_end body p rest fits e some few none =
    let h = front_found body p rest fits e in
    let cut = (tables_cut p.1).cut rest (rest_fits body p rest fits h) none in
    let whole : body ++ cut.more ≡ front_bytes p ++ table_bytes cut.value =
    ap (λ (w : List ℕ). w ++ cut.more) h.parts ∙ append_assoc (front_bytes p) rest cut.more ∙ ap (λ (w : List ℕ). front_bytes p ++ w) cut.spelled in
    inr (code_of p cut.value, cut.more, cut.some, made_layout (body ++ cut.more) p cut.value h.fits some few cut.fits whole)

pub tables_found : (body : List ℕ) (p : Front) (rest : List ℕ) (t : Tables) (after : List ℕ) → IsBytes body → front_at body ≡ Some (p, rest)
    → 0 < p.1 → p.1 < 2 ^ 16 → tables_at p.1 rest ≡ Some (t, after) → BeginsWith (λ w. CodeLayout w (code_of p t)) body after
tables_found body p rest t after fits e some few f =
    let h = front_found body p rest fits e in
    let took = (tables_reader p.1).takes rest (t, after) (rest_fits body p rest fits h) f in
    let front = front_bytes p ++ table_bytes t in
    let whole : body ≡ front ++ after =
    h.parts ∙ ap (λ (w : List ℕ). front_bytes p ++ w) took.0.parts ∙ sym (append_assoc (front_bytes p) (table_bytes t) after) in
    record { front = front; is = made_layout front p t h.fits some few took.1 refl; parts = whole }

-- ---- Each answer rules out the others.

not_cut : (front : List ℕ) (c : Code) (body rest : List ℕ) → CodeLayout front c → body ≡ front ++ rest → IsCutCode body → ⊥
not_cut front c body rest l e (inl short) =
    let h = code_goes_on front c body rest l e in
    let after = table_bytes (tables_of c) ++ rest in
    omega (arith, short, ap length h.parts, length-append (front_bytes (front_of c)) after)
not_cut front c body rest l e (inr (d, more, some, k)) =
    let whole = body ++ more in
    let left : whole ≡ front ++ (rest ++ more) = ap (λ (w : List ℕ). w ++ more) e ∙ append_assoc front rest more in
    not_nil_back rest more some (one_code front whole c d whole (rest ++ more) [] l k left (sym (append-nil whole))).1

-- the number that stands at the length's place
one_length : (body : List ℕ) (p : Front) (rest : List ℕ) (n : ℕ) → GoesOn body p rest → HasBadCodeLength body n → p.1 ≡ n
one_length body p rest n h (front, more, four, small, parts, bad) =
    let left : drop 4 body ≡ u4 p.1 ++ rest =
    ap (λ (w : List ℕ). drop 4 w) (h.parts ∙ append_assoc (pair_bytes p.0) (u4 p.1) rest) ∙ drop_at (pair_bytes p.0) (u4 p.1 ++ rest) 4 refl in
    let right : drop 4 body ≡ u4 n ++ more = ap (λ (w : List ℕ). drop 4 w) (parts ∙ append_assoc front (u4 n) more) ∙ drop_at front (u4 n ++ more) 4 four in
    (one_u4 p.1 n rest more h.fits.1 small (sym left ∙ right)).0

not_length : (front : List ℕ) (c : Code) (body rest : List ℕ) (n : ℕ) → CodeLayout front c → body ≡ front ++ rest → HasBadCodeLength body n → ⊥
not_length front c body rest n l e h =
    let same : length c.code ≡ n = one_length body (front_of c) (table_bytes (tables_of c) ++ rest) n (code_goes_on front c body rest l e) h in
    elim h.5 [
      | inl zero ↦ omega (arith, same, zero, l.code.0)
      | inr many ↦ omega (arith, same, many, l.code.1)
    ]

length_more : (body : List ℕ) (n : ℕ) (more : List ℕ) → HasBadCodeLength body n → HasBadCodeLength (body ++ more) n
length_more body n more (front, rest, four, small, parts, bad) =
    (front, rest ++ more, four, small, ap (λ (w : List ℕ). w ++ more) parts ∙ append_assoc (front ++ u4 n) rest more, bad)

cut_not_length : (body : List ℕ) (n : ℕ) → IsCutCode body → HasBadCodeLength body n → ⊥
cut_not_length body n (inl short) (front, more, four, small, parts, bad) =
    omega (arith, short, four, ap length parts, length-append (front ++ u4 n) more, length-append front (u4 n))
cut_not_length body n (inr (d, more, some, k)) h =
    let whole = body ++ more in
    not_length whole d whole [] n k (sym (append-nil whole)) (length_more body n more h)

one_bad_length : (body : List ℕ) (n m : ℕ) → HasBadCodeLength body n → HasBadCodeLength body m → n ≡ m
one_bad_length body n m (front, more, four, small, parts, bad) (other, rest, four2, small2, parts2, bad2) =
    let left : drop 4 body ≡ u4 n ++ more = ap (λ (w : List ℕ). drop 4 w) (parts ∙ append_assoc front (u4 n) more) ∙ drop_at front (u4 n ++ more) 4 four in
    let right : drop 4 body ≡ u4 m ++ rest = ap (λ (w : List ℕ). drop 4 w) (parts2 ∙ append_assoc other (u4 m) rest) ∙ drop_at other (u4 m ++ rest) 4 four2 in
    (one_u4 n m more rest small small2 (sym left ∙ right)).0

layout_not_trails : (body : List ℕ) (c : Code) (n : ℕ) → CodeLayout body c → TrailsCode body n → ⊥
layout_not_trails body c n l t =
    let none : drop n body ≡ [] =
    (one_code (take n body) body t.0 c body (drop n body) [] t.2 l (sym (take-append-drop n body)) (sym (append-nil body))).1 in
    omega (arith, t.1, ap length none, length-drop n body)

one_trails : (body : List ℕ) (n m : ℕ) → TrailsCode body n → TrailsCode body m → n ≡ m
one_trails body n m h k =
    let one = one_code (take n body) (take m body) h.0 k.0 body (drop n body) (drop m body) h.2 k.2
    (sym (take-append-drop n body)) (sym (take-append-drop m body)) in
    omega (arith, h.1, k.1, ap length one.1, length-drop n body, length-drop m body)

-- ---- The clauses, of what a function answered.

abbrev Answer : Type 0
Answer = Result Code CodeRefusal

pub only : (body : List ℕ) (r : Answer) (c : Code) → IsCodeAnswer body r → CodeLayout body c → MatchResult r (λ d. d ≡ c) (λ e. e ≡ OutOfMemory)
only body (Ok d) c a l = (one_code body body d c body [] [] a l (sym (append-nil body)) (sym (append-nil body))).0
only body (Err Cut) c a l = absurd (not_cut body c body [] l (sym (append-nil body)) a)
only body (Err (Trailing n)) c a l = absurd (layout_not_trails body c n l a)
only body (Err (CodeLength n)) c a l = absurd (not_length body c body [] n l (sym (append-nil body)) a)
only body (Err OutOfMemory) c a l = refl

pub only_cut : (body : List ℕ) (r : Answer) → IsCodeAnswer body r → IsCutCode body → IsRefused r Cut OutOfMemory
only_cut body (Ok c) a h = absurd (not_cut body c body [] a (sym (append-nil body)) h)
only_cut body (Err Cut) a h = inl refl
only_cut body (Err (Trailing n)) a h = absurd (not_cut (take n body) a.0 body (drop n body) a.2 (sym (take-append-drop n body)) h)
only_cut body (Err (CodeLength n)) a h = absurd (cut_not_length body n h a)
only_cut body (Err OutOfMemory) a h = inr refl

pub only_trailing : (body : List ℕ) (r : Answer) (n : ℕ) → IsCodeAnswer body r → TrailsCode body n → IsRefused r (Trailing n) OutOfMemory
only_trailing body (Ok c) n a t = absurd (layout_not_trails body c n a t)
only_trailing body (Err Cut) n a t = absurd (not_cut (take n body) t.0 body (drop n body) t.2 (sym (take-append-drop n body)) a)
only_trailing body (Err (Trailing m)) n a t = inl (ap (λ (k : ℕ). Trailing k) (one_trails body m n a t))
only_trailing body (Err (CodeLength m)) n a t = absurd (not_length (take n body) t.0 body (drop n body) m t.2 (sym (take-append-drop n body)) a)
only_trailing body (Err OutOfMemory) n a t = inr refl

pub only_code_length : (body : List ℕ) (r : Answer) (n : ℕ) → IsCodeAnswer body r → HasBadCodeLength body n → IsRefused r (CodeLength n) OutOfMemory
only_code_length body (Ok c) n a h = absurd (not_length body c body [] n a (sym (append-nil body)) h)
only_code_length body (Err Cut) n a h = absurd (cut_not_length body n a h)
only_code_length body (Err (Trailing m)) n a h = absurd (not_length (take m body) a.0 body (drop m body) n a.2 (sym (take-append-drop m body)) h)
only_code_length body (Err (CodeLength m)) n a h = inl (ap (λ (k : ℕ). CodeLength k) (one_bad_length body m n a h))
only_code_length body (Err OutOfMemory) n a h = inr refl
