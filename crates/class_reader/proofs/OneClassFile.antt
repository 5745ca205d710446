-- Bytes begin with one version and with one class file. A class file is its version, its pool and the
-- sections after it, one after another.
use Rattle.std.proofs.Common.{◌≡◌, ℕ, ◌+◌, List, ◌++◌, length, refl, sym, ap, subst, ◌∙◌, append_assoc, arith}
use Rattle.std.proofs.lemmas.List.{length-append}
use Rattle.jk_model.specs.declared.class_file.ClassFile.{ClassFile}
use Rattle.jk_model.specs.declared.class_file.PoolEntry.{PoolEntry}
use Rattle.jk_model.specs.ClassFile.{u2, u4, IsU2, IsVersion, pool_bytes, IsPool, interfaces_bytes, members_bytes, attributes_bytes, class_bytes, Layout}
use Rattle.jk_model.specs.ReadFaults.{MAGIC, BeginsWithVersion, HasBadVersion}
use Rattle.const_pool.proofs.OnePool.{one_pool}
use Rattle.byte_fields.specs.OneReading.{one_u2, one_u4, one_reading}
use Rattle.class_reader.specs.Reading.{Sections, sections_at}
use Rattle.class_reader.specs.SectionLaws.{section_bytes, AreSections, section_reader}

-- ---- The magic number and the version.

abbrev pub version_bytes : ℕ → ℕ → List ℕ
version_bytes major minor = u4 MAGIC ++ u2 minor ++ u2 major

pub version_split : (a b c d : List ℕ) → (a ++ b ++ c) ++ d ≡ a ++ (b ++ (c ++ d))
version_split a b c d = simp append_assoc

pub record SameVersion (major minor n m : ℕ) (r s : List ℕ) : Type 0 where
  pub same_major : major ≡ n
  pub same_minor : minor ≡ m
  pub same_rest : r ≡ s

pub one_version : (bytes : List ℕ) (major minor n m : ℕ) (r s : List ℕ) → BeginsWithVersion bytes major minor r → BeginsWithVersion bytes n m s
    → SameVersion major minor n m r s
one_version bytes major minor n m r s h k =
    let left : bytes ≡ u4 MAGIC ++ (u2 minor ++ (u2 major ++ r)) = h.sections ∙ version_split (u4 MAGIC) (u2 minor) (u2 major) r in
    let right : bytes ≡ u4 MAGIC ++ (u2 m ++ (u2 n ++ s)) = k.sections ∙ version_split (u4 MAGIC) (u2 m) (u2 n) s in
    let one = one_u4 MAGIC MAGIC (u2 minor ++ (u2 major ++ r)) (u2 m ++ (u2 n ++ s)) (omega arith) (omega arith) (sym left ∙ right) in
    let two = one_u2 minor m (u2 major ++ r) (u2 n ++ s) h.numbers.0 k.numbers.0 one.1 in
    let three = one_u2 major n r s h.numbers.1 k.numbers.1 two.1 in
    record { same_major = three.0; same_minor = two.0; same_rest = three.1 }

-- bytes with an accepted version have no bad one
pub version_good : (bytes : List ℕ) (major minor : ℕ) (rest : List ℕ) → BeginsWithVersion bytes major minor rest → IsVersion major minor
    → HasBadVersion bytes → ⊥
version_good bytes major minor rest h good (n, m, other, k, bad) =
    let same = one_version bytes major minor n m rest other h k in
    bad (subst (λ (x : ℕ). IsVersion x m) same.same_major (subst (λ (x : ℕ). IsVersion major x) same.same_minor good))

pub version_long : (bytes : List ℕ) (major minor : ℕ) (rest : List ℕ) → BeginsWithVersion bytes major minor rest → length bytes ≡ 8 + length rest
version_long bytes major minor rest h = ap length h.sections ∙ length-append (version_bytes major minor) rest

-- ---- A class file by its parts.

abbrev pub after_pool : ClassFile → Sections
after_pool c = ((c.flags, (c.this_class, c.super_class)), (c.interfaces, (c.fields, (c.methods, c.attributes))))

abbrev pub class_of : ℕ → ℕ → List PoolEntry → Sections → ClassFile
class_of major minor pool s =
    record {
      minor = minor;
      major = major;
      pool = pool;
      flags = s.0.0;
      this_class = s.0.1.0;
      super_class = s.0.1.1;
      interfaces = s.1.0;
      fields = s.1.1.0;
      methods = s.1.1.1.0;
      attributes = s.1.1.1.1;
    }

-- what stands after the version
abbrev pub body_bytes : List PoolEntry → Sections → List ℕ
body_bytes pool s = pool_bytes pool ++ section_bytes s

regrouped : (v p a b c d e f g : List ℕ) → v ++ p ++ a ++ b ++ c ++ d ++ e ++ f ++ g ≡ v ++ (p ++ ((a ++ (b ++ c)) ++ (d ++ (e ++ (f ++ g)))))
regrouped v p a b c d e f g = simp append_assoc

pub class_parts : (c : ClassFile) → class_bytes c ≡ version_bytes c.major c.minor ++ body_bytes c.pool (after_pool c)
class_parts c =
    regrouped (version_bytes c.major c.minor) (pool_bytes c.pool) (u2 c.flags) (u2 c.this_class) (u2 c.super_class) (interfaces_bytes c.interfaces)
    (members_bytes c.fields) (members_bytes c.methods) (attributes_bytes c.attributes)

pub made_layout : (bytes : List ℕ) (major minor : ℕ) (pool : List PoolEntry) (s : Sections) → IsU2 minor → IsU2 major → IsPool pool → AreSections s
    → bytes ≡ version_bytes major minor ++ body_bytes pool s → Layout bytes (class_of major minor pool s)
made_layout bytes major minor pool s small large is fits e =
    record {
      sections = e ∙ sym (class_parts (class_of major minor pool s));
      version = (small, large);
      pool = is;
      header = (fits.0.0, fits.0.1.0, fits.0.1.1);
      interfaces = fits.1.0;
      fields = fits.1.1.0;
      methods = fits.1.1.1.0;
      attributes = fits.1.1.1.1;
    }

pub layout_sections : (bytes : List ℕ) (c : ClassFile) → Layout bytes c → AreSections (after_pool c)
layout_sections bytes c l = ((l.header.0, (l.header.1, l.header.2)), (l.interfaces, (l.fields, (l.methods, l.attributes))))

-- what stands after the version in bytes that begin with a class file
abbrev pub after_version : ClassFile → List ℕ → List ℕ
after_version c rest = pool_bytes c.pool ++ (section_bytes (after_pool c) ++ rest)

pub layout_version : (front : List ℕ) (c : ClassFile) (bytes rest : List ℕ) → Layout front c → bytes ≡ front ++ rest
    → BeginsWithVersion bytes c.major c.minor (after_version c rest)
layout_version front c bytes rest l parts =
    let version = version_bytes c.major c.minor in
    let sections = section_bytes (after_pool c) in
    let split : (version ++ (pool_bytes c.pool ++ sections)) ++ rest ≡ version ++ (pool_bytes c.pool ++ (sections ++ rest)) =
    append_assoc version (pool_bytes c.pool ++ sections) rest ∙ ap (λ (w : List ℕ). version ++ w) (append_assoc (pool_bytes c.pool) sections rest) in
    record { numbers = (l.version.0, l.version.1); sections = parts ∙ ap (λ (w : List ℕ). w ++ rest) (l.sections ∙ class_parts c) ∙ split }

-- ---- One class file.

class_is : (a b : ℕ) (m n : ℕ) (p q : List PoolEntry) (s t : Sections) → a ≡ b → m ≡ n → p ≡ q → s ≡ t → class_of a m p s ≡ class_of b n q t
class_is a b m n p q s t e f g h =
    ap (λ (x : ℕ). class_of x m p s) e ∙ ap (λ (x : ℕ). class_of b x p s) f ∙ ap (λ (x : List PoolEntry). class_of b n x s) g
    ∙ ap (λ (x : Sections). class_of b n q x) h

pub one_class : (a b : List ℕ) (c d : ClassFile) (bytes x y : List ℕ) → Layout a c → Layout b d → bytes ≡ a ++ x → bytes ≡ b ++ y → (c ≡ d) × (x ≡ y)
one_class a b c d bytes x y l k e f =
    let version = one_version bytes c.major c.minor d.major d.minor (after_version c x) (after_version d y)
    (layout_version a c bytes x l e) (layout_version b d bytes y k f) in
    let sections_c = section_bytes (after_pool c) ++ x in
    let sections_d = section_bytes (after_pool d) ++ y in
    let pool = one_pool (after_version c x) c.pool d.pool sections_c sections_d (l.pool, refl) (k.pool, version.same_rest) in
    let sections = one_reading sections_at section_bytes AreSections section_reader (after_pool c) (after_pool d) x y
    (layout_sections a c l) (layout_sections b d k) pool.1 in
    (class_is c.major d.major c.minor d.minor c.pool d.pool (after_pool c) (after_pool d) version.same_major version.same_minor pool.0 sections.0, sections.1)
