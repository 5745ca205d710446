-- What the steps of reading answer is the class file, or the first fault of the bytes.
use Rattle.std.proofs.Common.{◌≡◌, ℕ, ◌+◌, ◌<◌, inl, inr, List, [], ◌∷◌, ◌++◌, length, drop, Some, None, Ok, Err, refl, sym, ap, subst, ◌∙◌, append_assoc, append-nil, arith}
use Rattle.std.specs.List.{AllByRecursion}
use Rattle.std.proofs.lemmas.List.{length-append, drop_at}
use Rattle.jk_model.specs.declared.class_file.PoolEntry.{PoolEntry}
use Rattle.jk_model.specs.declared.class_file.PoolEntry.TheVariants.{Unusable}
use Rattle.jk_model.specs.ClassFile.{u2, u4, pool_bytes, IsPool, IsGoodEntry, IsVersion, IsClass}
use Rattle.jk_model.specs.ConstantPool.{HasPool, IsCutPool, StopsAtTag, HasBadText, HasBadIndex}
use Rattle.jk_model.proofs.EmptyByLength.{not_nil_front, length_from_not_nil}
use Rattle.jk_model.specs.ReadFaults.{MAGIC, BeginsWithVersion, HasBadPool, IsTruncated}
use Rattle.const_pool.specs.declared.pool.Pool.{Pool}
use Rattle.const_pool.specs.declared.pool.PoolError.{PoolError}
use Rattle.const_pool.specs.declared.pool.PoolError.TheVariants as faults
use Rattle.byte_fields.specs.Reading.{pair_at}
use Rattle.byte_fields.specs.Layouts.{IsBytes}
use Rattle.byte_fields.specs.PartsAreBytes.{IsBytes-drop, IsBytes-after}
use Rattle.byte_fields.specs.CutIsBeginning.{pair_cut}
use Rattle.class_reader.specs.declared.class.ReadRefusal.{ReadRefusal}
use Rattle.class_reader.specs.declared.class.ReadRefusal.TheVariants.{BadMagic, BadVersion, Truncated, Trailing, BadPool, OutOfMemory}
use Rattle.class_reader.specs.Reading.{Sections, sections_at}
use Rattle.class_reader.specs.SectionLaws.{section_bytes, AreSections, section_reader, section_cut}
use Rattle.class_reader.specs.Answers.{HasVersion, HasPoolFault, IsPoolAnswer, pool_refusal, IsClassAnswer, BeginsWith}
use Rattle.class_reader.proofs.OnePoolFault.{good_no_fault, fault_not_cut}
use Rattle.class_reader.proofs.OneClassFile.{version_bytes, one_version, version_good, version_long, class_of, body_bytes, made_layout}

-- ---- In the magic number and the version.

no_pool : List PoolEntry
no_pool = Unusable ∷ []

no_pool_is : IsPool no_pool
unfolding no_pool
no_pool_is = (tt, omega arith, (tt, tt))

some_sections : Sections
some_sections = section_cut.one

some_sections_fit : AreSections some_sections
unfolding some_sections
some_sections_fit = section_cut.one_fits

version_regrouped : (a b c d : List ℕ) → (a ++ b) ++ (c ++ d) ≡ a ++ ((b ++ c) ++ d)
version_regrouped a b c d = simp append_assoc

pub version_cut : (bytes rest : List ℕ) → IsBytes bytes → bytes ≡ u4 MAGIC ++ rest → pair_at rest ≡ None → IsTruncated bytes
version_cut bytes rest fits e none =
    let h = pair_cut.cut rest (IsBytes-after bytes (u4 MAGIC) rest e fits) none in
    let len : length rest + length h.more ≡ 4 = sym (length-append rest h.more) ∙ ap length h.spelled in
    let more_long : 0 < length h.more = length_from_not_nil h.more h.some in
    let long : length bytes ≡ 4 + length rest = ap length e ∙ length-append (u4 MAGIC) rest in
    let body = body_bytes no_pool some_sections in
    let minor = h.value.0 in
    let major = h.value.1 in
    let whole : bytes ++ (h.more ++ body) ≡ version_bytes major minor ++ body =
    ap (λ (w : List ℕ). w ++ (h.more ++ body)) e ∙ version_regrouped (u4 MAGIC) rest h.more body
    ∙ ap (λ (w : List ℕ). u4 MAGIC ++ (w ++ body)) h.spelled ∙ pair_split (u4 MAGIC) (u2 minor) (u2 major) body in
    let c = class_of major minor no_pool some_sections in
    let layout = made_layout (bytes ++ (h.more ++ body)) major minor no_pool some_sections h.fits.0 h.fits.1 no_pool_is some_sections_fit whole in
    record {
      early = inr (c, h.more ++ body, not_nil_front h.more body h.some, layout);
      version = λ v. omega (arith, len, more_long, long, version_long bytes v.0 v.1 v.2 v.3);
      pool = λ i v. omega (arith, len, more_long, long, version_long bytes v.0 v.1 v.2 v.3);
    }
  where
    pair_split : (a b c d : List ℕ) → a ++ ((b ++ c) ++ d) ≡ (a ++ b ++ c) ++ d
    pair_split a b c d = simp append_assoc

-- ---- In the pool.

pub pool_fault : (len : ℕ) (bytes : List ℕ) (e : PoolError)
    → ((i : ℕ) → e ≡ faults.BadTag i → StopsAtTag bytes i) → ((i : ℕ) → e ≡ faults.BadIndex i → HasBadIndex bytes i)
    → ((i : ℕ) → e ≡ faults.BadUtf i → HasBadText bytes i) → (e ≡ faults.Truncated → IsCutPool bytes)
    → IsPoolAnswer len bytes (Err (pool_refusal len e))
pool_fault len bytes (faults.BadTag i) tag index text cut = inl (tag i refl)
pool_fault len bytes (faults.BadIndex i) tag index text cut = inr (inr (index i refl))
pool_fault len bytes (faults.BadUtf i) tag index text cut = inr (inl (text i refl))
pool_fault len bytes faults.Truncated tag index text cut = (cut refl, refl)
pool_fault len bytes faults.OutOfMemory tag index text cut = tt

-- what stands after the version
version_drop : (bytes : List ℕ) (major minor : ℕ) (rest : List ℕ) → BeginsWithVersion bytes major minor rest → drop 8 bytes ≡ rest
version_drop bytes major minor rest h = ap (λ (w : List ℕ). drop 8 w) h.sections ∙ drop_at (version_bytes major minor) rest 8 refl

-- a fault of the pool stands after the version
fault_there : (bytes : List ℕ) (major minor : ℕ) (rest : List ℕ) → BeginsWithVersion bytes major minor rest → (i : ℕ) → HasBadPool bytes i → HasPoolFault rest i
fault_there bytes major minor rest h i (n, m, other, k, good, fault) =
    subst (λ (w : List ℕ). HasPoolFault w i) (one_version bytes n m major minor other rest k h).same_rest fault

pub record Goes (bytes rest : List ℕ) (major minor : ℕ) : Type 0 where
  pub begins : BeginsWithVersion bytes major minor rest
  pub version : IsVersion major minor

pool_cut : (bytes rest : List ℕ) (major minor : ℕ) → Goes bytes rest major minor → IsCutPool rest → IsTruncated bytes
pool_cut bytes rest major minor g cut =
    let pool = cut.0 in
    let more = cut.1 in
    let sections = section_bytes some_sections in
    let version = version_bytes major minor in
    let whole : bytes ++ (more ++ sections) ≡ version ++ body_bytes pool some_sections =
    ap (λ (w : List ℕ). w ++ (more ++ sections)) g.begins.sections ∙ version_regrouped version rest more sections
    ∙ ap (λ (w : List ℕ). version ++ (w ++ sections)) cut.4 in
    let layout = made_layout (bytes ++ (more ++ sections)) major minor pool some_sections g.begins.numbers.0 g.begins.numbers.1 cut.3 some_sections_fit whole in
    record {
      early = inr (class_of major minor pool some_sections, more ++ sections, not_nil_front more sections cut.2, layout);
      version = version_good bytes major minor rest g.begins g.version;
      pool = λ i v. fault_not_cut rest i (fault_there bytes major minor rest g.begins i v) cut;
    }

-- a pool that isn't read is the first fault after an accepted version
pub pool_refused : (bytes : List ℕ) (major minor : ℕ) (e : ReadRefusal) → HasVersion bytes major minor → IsPoolAnswer (length bytes) (drop 8 bytes) (Err e)
    → IsClassAnswer bytes (Err e)
pool_refused bytes major minor BadMagic v h = absurd h
pool_refused bytes major minor BadVersion v h = absurd h
pool_refused bytes major minor (Trailing n) v h = absurd h
pool_refused bytes major minor (Truncated n) ((rest, begins), good) h =
    let cut = subst IsCutPool (version_drop bytes major minor rest begins) h.0 in
    (pool_cut bytes rest major minor (record { begins = begins; version = good }) cut, h.1)
pool_refused bytes major minor (BadPool i) ((rest, begins), good) h =
    let fault = subst (λ (w : List ℕ). HasPoolFault w i) (version_drop bytes major minor rest begins) h in
    (major, minor, rest, begins, good, fault)
pool_refused bytes major minor OutOfMemory v h = (major, minor, v)

-- ---- After the pool.

-- an accepted version, a pool without a fault, and what stands after it
pub record AfterPool (bytes : List ℕ) (major minor : ℕ) (pool : List PoolEntry) (end : ℕ) : Type 0 where
  pub goes : Goes bytes (drop 8 bytes) major minor
  pub is : IsPool pool
  pub good : AllByRecursion (IsGoodEntry pool) pool
  pub after : drop 8 bytes ≡ pool_bytes pool ++ drop end bytes

after_pool_is : (bytes : List ℕ) (major minor : ℕ) (pool : List PoolEntry) (end : ℕ) → HasVersion bytes major minor → HasPool (drop 8 bytes) pool
    → end ≡ 8 + length (pool_bytes pool) → AfterPool bytes major minor pool end
after_pool_is bytes major minor pool end ((rest, begins), accepted) ((follows, (is, parts)), good) place =
    let at = sym (version_drop bytes major minor rest begins) in
    let begins_at = subst (λ (w : List ℕ). BeginsWithVersion bytes major minor w) at begins in
    let version = version_bytes major minor in
    let front = version ++ pool_bytes pool in
    let split : bytes ≡ front ++ follows =
    begins.sections ∙ ap (λ (w : List ℕ). version ++ w) (at ∙ parts) ∙ sym (append_assoc version (pool_bytes pool) follows) in
    let long : length front ≡ end = length-append version (pool_bytes pool) ∙ sym place in
    let there : drop end bytes ≡ follows = ap (λ (w : List ℕ). drop end w) split ∙ drop_at front follows end long in
    record {
      goes = record { begins = begins_at; version = accepted };
      is = is;
      good = good;
      after = parts ∙ ap (λ (w : List ℕ). pool_bytes pool ++ w) (sym there);
    }

-- the whole, where these sections and this rest stand after the pool
whole_of : (bytes : List ℕ) (major minor : ℕ) (pool : List PoolEntry) (end : ℕ) (more : List ℕ) (s : Sections) (rest : List ℕ)
    → AfterPool bytes major minor pool end → drop end bytes ++ more ≡ section_bytes s ++ rest
    → bytes ++ more ≡ (version_bytes major minor ++ body_bytes pool s) ++ rest
whole_of bytes major minor pool end more s rest h e =
    let version = version_bytes major minor in
    ap (λ (w : List ℕ). w ++ more) (h.goes.begins.sections ∙ ap (λ (w : List ℕ). version ++ w) h.after)
    ∙ one version (pool_bytes pool) (drop end bytes) more ∙ ap (λ (w : List ℕ). version ++ (pool_bytes pool ++ w)) e
    ∙ two version (pool_bytes pool) (section_bytes s) rest
  where
    one : (a b c d : List ℕ) → (a ++ (b ++ c)) ++ d ≡ a ++ (b ++ (c ++ d))
    one a b c d = simp append_assoc

    two : (a b c d : List ℕ) → a ++ (b ++ (c ++ d)) ≡ (a ++ (b ++ c)) ++ d
    two a b c d = simp append_assoc

sections_end : (bytes : List ℕ) (major minor : ℕ) (pool : List PoolEntry) (end : ℕ) → IsBytes (drop end bytes) → AfterPool bytes major minor pool end
    → sections_at (drop end bytes) ≡ None → IsTruncated bytes
sections_end bytes major minor pool end fits h none =
    let cut = section_cut.cut (drop end bytes) fits none in
    let whole = whole_of bytes major minor pool end cut.more cut.value [] h (cut.spelled ∙ sym (append-nil (section_bytes cut.value))) in
    let spelled = whole ∙ append-nil (version_bytes major minor ++ body_bytes pool cut.value) in
    let numbers = h.goes.begins.numbers in
    let layout = made_layout (bytes ++ cut.more) major minor pool cut.value numbers.0 numbers.1 h.is cut.fits spelled in
    record {
      early = inr (class_of major minor pool cut.value, cut.more, cut.some, layout);
      version = version_good bytes major minor (drop 8 bytes) h.goes.begins h.goes.version;
      pool = λ i v.
          let there = fault_there bytes major minor (drop 8 bytes) h.goes.begins i v in
          good_no_fault (drop 8 bytes) pool (drop end bytes) (h.is, h.after) h.good i there;
    }

sections_found : (bytes : List ℕ) (major minor : ℕ) (pool : List PoolEntry) (end : ℕ) (s : Sections) (rest : List ℕ) → IsBytes (drop end bytes)
    → AfterPool bytes major minor pool end → sections_at (drop end bytes) ≡ Some (s, rest)
    → BeginsWith (λ w. IsClass w (class_of major minor pool s)) bytes rest
sections_found bytes major minor pool end s rest fits h e =
    let t = section_reader.takes (drop end bytes) (s, rest) fits e in
    let front = version_bytes major minor ++ body_bytes pool s in
    let whole : bytes ≡ front ++ rest = sym (append-nil bytes) ∙ whole_of bytes major minor pool end [] s rest h (append-nil (drop end bytes) ∙ t.0.parts) in
    let numbers = h.goes.begins.numbers in
    let layout = made_layout front major minor pool s numbers.0 numbers.1 h.is t.1 refl in
    record {
      front = front;
      is = record { layout = layout; version = h.goes.version; entries = h.good };
      parts = whole;
    }

-- the same, of what the steps before answered
abbrev pub IsAnswered : List ℕ → ℕ → ℕ → Pool → Type 0
IsAnswered bytes major minor p = HasVersion bytes major minor × IsPoolAnswer (length bytes) (drop 8 bytes) (Ok p)

answered_after : (bytes : List ℕ) (major minor : ℕ) (p : Pool) → IsAnswered bytes major minor p → AfterPool bytes major minor p.entries p.end
answered_after bytes major minor p (version, pool) = after_pool_is bytes major minor p.entries p.end version pool.0 pool.1

pub answered_cut : (bytes : List ℕ) (major minor : ℕ) (p : Pool) → IsBytes bytes → IsAnswered bytes major minor p → sections_at (drop p.end bytes) ≡ None
    → IsTruncated bytes
answered_cut bytes major minor p fits h none =
    sections_end bytes major minor p.entries p.end (IsBytes-drop p.end bytes fits) (answered_after bytes major minor p h) none

pub answered_found : (bytes : List ℕ) (major minor : ℕ) (p : Pool) (s : Sections) (rest : List ℕ) → IsBytes bytes → IsAnswered bytes major minor p
    → sections_at (drop p.end bytes) ≡ Some (s, rest) → BeginsWith (λ w. IsClass w (class_of major minor p.entries s)) bytes rest
answered_found bytes major minor p s rest fits h given =
    sections_found bytes major minor p.entries p.end s rest (IsBytes-drop p.end bytes fits) (answered_after bytes major minor p h) given
