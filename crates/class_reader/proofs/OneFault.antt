-- Bytes are one class file or have one fault: each answer rules out the others.
use Rattle.std.proofs.Common.{◌≡◌, ℕ, ◌≤◌, inl, inr, List, [], ◌++◌, length, take, drop, Result, Ok, Err, refl, sym, ap, subst, ◌∙◌, append_assoc, append-nil, arith}
use Rattle.std.specs.Prelude.{◌↔◌, MatchResult}
use Rattle.std.proofs.lemmas.List.{length-drop, take_at, take-append-drop, take-append-le}
use Rattle.jk_model.specs.declared.class_file.ClassFile.{ClassFile}
use Rattle.jk_model.specs.ClassFile.{u2, u4, IsClass}
use Rattle.jk_model.specs.ReadFaults.{MAGIC, BeginsWithVersion, HasBadMagic, HasBadVersion, HasBadPool, IsTruncated, TrailsClass}
use Rattle.jk_model.proofs.EmptyByLength.{not_nil_back}
use Rattle.class_reader.specs.declared.class.ReadRefusal.{ReadRefusal}
use Rattle.class_reader.specs.declared.class.ReadRefusal.TheVariants.{BadMagic, BadVersion, Truncated, Trailing, BadPool, OutOfMemory}
use Rattle.class_reader.specs.SectionLaws.{section_bytes}
use Rattle.class_reader.specs.Answers.{IsRefused, BeginsWith, HasPoolFault, IsClassAnswer}
use Rattle.class_reader.proofs.OnePoolFault.{good_no_fault, one_pool_fault}
use Rattle.class_reader.proofs.OneClassFile.{version_split, one_version, version_good, version_long, after_pool, after_version, layout_version, one_class}

-- ---- Bytes that begin with a class file.

abbrev Begins : List ℕ → ClassFile → List ℕ → Type 0
Begins bytes c rest = BeginsWith (λ w. IsClass w c) bytes rest

class_begins : (bytes : List ℕ) (c : ClassFile) → IsClass bytes c → Begins bytes c []
class_begins bytes c h = record { front = bytes; is = h; parts = sym (append-nil bytes) }

trails_begins : (bytes : List ℕ) (n : ℕ) → (h : TrailsClass bytes n) → Begins bytes h.0 (drop n bytes)
trails_begins bytes n h = record { front = take n bytes; is = h.2; parts = sym (take-append-drop n bytes) }

version_there : (bytes : List ℕ) (c : ClassFile) (rest : List ℕ) → Begins bytes c rest → BeginsWithVersion bytes c.major c.minor (after_version c rest)
version_there bytes c rest b = layout_version b.front c bytes rest b.is.layout b.parts

one_begins : (bytes : List ℕ) (c d : ClassFile) (x y : List ℕ) → Begins bytes c x → Begins bytes d y → (c ≡ d) × (x ≡ y)
one_begins bytes c d x y a b = one_class a.front b.front c d bytes x y a.is.layout b.is.layout a.parts b.parts

-- ---- The magic number.

four_at : (bytes : List ℕ) (major minor : ℕ) (rest : List ℕ) → BeginsWithVersion bytes major minor rest → take 4 bytes ≡ u4 MAGIC
four_at bytes major minor rest h =
    let parts : bytes ≡ u4 MAGIC ++ (u2 minor ++ (u2 major ++ rest)) = h.sections ∙ version_split (u4 MAGIC) (u2 minor) (u2 major) rest in
    ap (λ (w : List ℕ). take 4 w) parts ∙ take_at (u4 MAGIC) (u2 minor ++ (u2 major ++ rest)) 4 refl

magic_there : (bytes : List ℕ) (major minor : ℕ) (rest : List ℕ) → BeginsWithVersion bytes major minor rest → HasBadMagic bytes → ⊥
magic_there bytes major minor rest h bad = bad.1 (four_at bytes major minor rest h)

truncated_magic : (bytes : List ℕ) → IsTruncated bytes → HasBadMagic bytes → ⊥
truncated_magic bytes t bad =
    elim t.early [
      | inl short ↦ omega (arith, short, bad.0)
      | inr (c, more, some, layout) ↦
          let whole = bytes ++ more in
          let version = layout_version whole c whole [] layout (sym (append-nil whole)) in
          bad.1 (sym (take-append-le 4 bytes more bad.0) ∙ four_at whole c.major c.minor (after_version c []) version)
    ]

-- ---- The pool.

pool_there : (bytes : List ℕ) (c : ClassFile) (rest : List ℕ) → Begins bytes c rest → (i : ℕ) → HasBadPool bytes i → ⊥
pool_there bytes c rest b i (major, minor, other, k, good, fault) =
    let same = one_version bytes major minor c.major c.minor other (after_version c rest) k (version_there bytes c rest b) in
    let there = subst (λ (w : List ℕ). HasPoolFault w i) same.same_rest fault in
    good_no_fault (after_version c rest) c.pool (section_bytes (after_pool c) ++ rest) (b.is.layout.pool, refl) b.is.entries i there

one_bad_pool : (bytes : List ℕ) (i j : ℕ) → HasBadPool bytes i → HasBadPool bytes j → i ≡ j
one_bad_pool bytes i j (major, minor, rest, h, good, fault) (n, m, other, k, fine, bad) =
    let same = one_version bytes n m major minor other rest k h in
    one_pool_fault rest i j fault (subst (λ (w : List ℕ). HasPoolFault w j) same.same_rest bad)

-- ---- What ends early.

begins_long : (bytes : List ℕ) (c : ClassFile) (rest : List ℕ) → Begins bytes c rest → 4 ≤ length bytes
begins_long bytes c rest b =
    let after = after_version c rest in
    let long = version_long bytes c.major c.minor after (version_there bytes c rest b) in
    omega (arith, long)

not_truncated : (bytes : List ℕ) (c : ClassFile) (rest : List ℕ) → Begins bytes c rest → IsTruncated bytes → ⊥
not_truncated bytes c rest b t =
    elim t.early [
      | inl short ↦ omega (arith, short, begins_long bytes c rest b)
      | inr (d, more, some, layout) ↦
          let whole = bytes ++ more in
          let left : whole ≡ b.front ++ (rest ++ more) = ap (λ (w : List ℕ). w ++ more) b.parts ∙ append_assoc b.front rest more in
          not_nil_back rest more some (one_class b.front whole c d whole (rest ++ more) [] b.is.layout layout left (sym (append-nil whole))).1
    ]

-- ---- What follows.

class_not_trails : (bytes : List ℕ) (c : ClassFile) (n : ℕ) → IsClass bytes c → TrailsClass bytes n → ⊥
class_not_trails bytes c n h t =
    let none : drop n bytes ≡ [] = (one_begins bytes t.0 c (drop n bytes) [] (trails_begins bytes n t) (class_begins bytes c h)).1 in
    omega (arith, t.1, ap length none, length-drop n bytes)

one_trails : (bytes : List ℕ) (n m : ℕ) → TrailsClass bytes n → TrailsClass bytes m → n ≡ m
one_trails bytes n m h k =
    let same : drop n bytes ≡ drop m bytes = (one_begins bytes h.0 k.0 (drop n bytes) (drop m bytes) (trails_begins bytes n h) (trails_begins bytes m k)).1 in
    omega (arith, h.1, k.1, ap length same, length-drop n bytes, length-drop m bytes)

-- ---- The clauses, of what a function answered.

abbrev Answer : Type 0
Answer = Result ClassFile ReadRefusal

pub only : (bytes : List ℕ) (r : Answer) (c : ClassFile) → IsClassAnswer bytes r → IsClass bytes c → MatchResult r (λ d. d ≡ c) (λ e. e ≡ OutOfMemory)
only bytes (Ok d) c a h = (one_begins bytes d c [] [] (class_begins bytes d a) (class_begins bytes c h)).0
only bytes (Err BadMagic) c a h = absurd (magic_there bytes c.major c.minor (after_version c []) (version_there bytes c [] (class_begins bytes c h)) a)
only bytes (Err BadVersion) c a h =
    absurd (version_good bytes c.major c.minor (after_version c []) (version_there bytes c [] (class_begins bytes c h)) h.version a)
only bytes (Err (Truncated n)) c a h = absurd (not_truncated bytes c [] (class_begins bytes c h) a.0)
only bytes (Err (Trailing n)) c a h = absurd (class_not_trails bytes c n h a)
only bytes (Err (BadPool i)) c a h = absurd (pool_there bytes c [] (class_begins bytes c h) i a)
only bytes (Err OutOfMemory) c a h = refl

magic_told : (bytes : List ℕ) (r : Answer) → IsClassAnswer bytes r → r ≡ Err BadMagic → HasBadMagic bytes
magic_told bytes r a e = subst (IsClassAnswer bytes) e a

magic_tells : (bytes : List ℕ) (r : Answer) → IsClassAnswer bytes r → HasBadMagic bytes → r ≡ Err BadMagic
magic_tells bytes (Ok c) a h = absurd (magic_there bytes c.major c.minor (after_version c []) (version_there bytes c [] (class_begins bytes c a)) h)
magic_tells bytes (Err BadMagic) a h = refl
magic_tells bytes (Err BadVersion) (major, minor, rest, k, bad) h = absurd (magic_there bytes major minor rest k h)
magic_tells bytes (Err (Truncated n)) a h = absurd (truncated_magic bytes a.0 h)
magic_tells bytes (Err (Trailing n)) (c, less, class) h =
    let t : TrailsClass bytes n = (c, less, class) in
    absurd (magic_there bytes c.major c.minor (after_version c (drop n bytes)) (version_there bytes c (drop n bytes) (trails_begins bytes n t)) h)
magic_tells bytes (Err (BadPool i)) (major, minor, rest, k, good, fault) h = absurd (magic_there bytes major minor rest k h)
magic_tells bytes (Err OutOfMemory) (major, minor, ((rest, k), good)) h = absurd (magic_there bytes major minor rest k h)

pub bad_magic : (bytes : List ℕ) (r : Answer) → IsClassAnswer bytes r → r ≡ Err BadMagic ↔ HasBadMagic bytes
bad_magic bytes r a = (magic_told bytes r a, magic_tells bytes r a)

version_told : (bytes : List ℕ) (r : Answer) → IsClassAnswer bytes r → r ≡ Err BadVersion → HasBadVersion bytes
version_told bytes r a e = subst (IsClassAnswer bytes) e a

version_tells : (bytes : List ℕ) (r : Answer) → IsClassAnswer bytes r → HasBadVersion bytes → r ≡ Err BadVersion
version_tells bytes (Ok c) a h =
    absurd (version_good bytes c.major c.minor (after_version c []) (version_there bytes c [] (class_begins bytes c a)) a.version h)
version_tells bytes (Err BadMagic) a (major, minor, rest, k, bad) = absurd (magic_there bytes major minor rest k a)
version_tells bytes (Err BadVersion) a h = refl
version_tells bytes (Err (Truncated n)) a h = absurd (a.0.version h)
version_tells bytes (Err (Trailing n)) (c, less, class) h =
    let t : TrailsClass bytes n = (c, less, class) in
    let there = version_there bytes c (drop n bytes) (trails_begins bytes n t) in
    absurd (version_good bytes c.major c.minor (after_version c (drop n bytes)) there class.version h)
version_tells bytes (Err (BadPool i)) (major, minor, rest, k, good, fault) h = absurd (version_good bytes major minor rest k good h)
version_tells bytes (Err OutOfMemory) (major, minor, ((rest, k), good)) h = absurd (version_good bytes major minor rest k good h)

pub bad_version : (bytes : List ℕ) (r : Answer) → IsClassAnswer bytes r → r ≡ Err BadVersion ↔ HasBadVersion bytes
bad_version bytes r a = (version_told bytes r a, version_tells bytes r a)

pub only_truncated : (bytes : List ℕ) (r : Answer) → IsClassAnswer bytes r → IsTruncated bytes → IsRefused r (Truncated (length bytes)) OutOfMemory
only_truncated bytes (Ok c) a t = absurd (not_truncated bytes c [] (class_begins bytes c a) t)
only_truncated bytes (Err BadMagic) a t = absurd (truncated_magic bytes t a)
only_truncated bytes (Err BadVersion) a t = absurd (t.version a)
only_truncated bytes (Err (Truncated n)) a t = inl (ap (λ (k : ℕ). Truncated k) a.1)
only_truncated bytes (Err (Trailing n)) a t = absurd (not_truncated bytes a.0 (drop n bytes) (trails_begins bytes n a) t)
only_truncated bytes (Err (BadPool i)) a t = absurd (t.pool i a)
only_truncated bytes (Err OutOfMemory) a t = inr refl

pub only_trailing : (bytes : List ℕ) (r : Answer) (n : ℕ) → IsClassAnswer bytes r → TrailsClass bytes n → IsRefused r (Trailing n) OutOfMemory
only_trailing bytes (Ok c) n a t = absurd (class_not_trails bytes c n a t)
only_trailing bytes (Err BadMagic) n a t =
    let rest = drop n bytes in
    absurd (magic_there bytes t.0.major t.0.minor (after_version t.0 rest) (version_there bytes t.0 rest (trails_begins bytes n t)) a)
only_trailing bytes (Err BadVersion) n a t =
    let rest = drop n bytes in
    absurd (version_good bytes t.0.major t.0.minor (after_version t.0 rest) (version_there bytes t.0 rest (trails_begins bytes n t)) t.2.version a)
only_trailing bytes (Err (Truncated m)) n a t = absurd (not_truncated bytes t.0 (drop n bytes) (trails_begins bytes n t) a.0)
only_trailing bytes (Err (Trailing m)) n a t = inl (ap (λ (k : ℕ). Trailing k) (one_trails bytes m n a t))
only_trailing bytes (Err (BadPool i)) n a t = absurd (pool_there bytes t.0 (drop n bytes) (trails_begins bytes n t) i a)
only_trailing bytes (Err OutOfMemory) n a t = inr refl

pub only_bad_pool : (bytes : List ℕ) (r : Answer) (i : ℕ) → IsClassAnswer bytes r → HasBadPool bytes i → IsRefused r (BadPool i) OutOfMemory
only_bad_pool bytes (Ok c) i a h = absurd (pool_there bytes c [] (class_begins bytes c a) i h)
only_bad_pool bytes (Err BadMagic) i a (major, minor, rest, k, good, fault) = absurd (magic_there bytes major minor rest k a)
only_bad_pool bytes (Err BadVersion) i a (major, minor, rest, k, good, fault) = absurd (version_good bytes major minor rest k good a)
only_bad_pool bytes (Err (Truncated n)) i a h = absurd (a.0.pool i h)
only_bad_pool bytes (Err (Trailing n)) i a h = absurd (pool_there bytes a.0 (drop n bytes) (trails_begins bytes n a) i h)
only_bad_pool bytes (Err (BadPool j)) i a h = inl (ap (λ (k : ℕ). BadPool k) (one_bad_pool bytes j i a h))
only_bad_pool bytes (Err OutOfMemory) i a h = inr refl
