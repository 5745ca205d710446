-- The bytes of a file are a class file, or break one of C1 to C5 alone, at one number.
use Rattle.std.proofs.Common.{◌≡◌, ◌↔◌, ℕ, List, Result, Ok, Err, length, refl, inl, inr, sym, subst}
use Rattle.std.specs.Prelude.{IfOk}
use Rattle.jk_model.specs.declared.class_file.ClassFile.{ClassFile}
use Rattle.jk_model.specs.declared.output.Rule.{Rule}
use Rattle.jk_model.specs.declared.output.Rule.TheVariants.{C1, C2, C3, C4, C5}
use Rattle.jk_model.specs.ClassFile.{IsClass}
use Rattle.jk_model.specs.ReadFaults.{BreaksReading, HasBadMagic, HasBadVersion, HasBadPool, IsTruncated, TrailsClass}
use Rattle.class_reader.specs.Answers.{IsRefused}
use Rattle.class_reader.specs.declared.class.ReadRefusal.{ReadRefusal}
use Rattle.class_reader.specs.declared.class.ReadRefusal.TheVariants.{BadMagic, BadVersion, Truncated, Trailing, BadPool, OutOfMemory}
use Rattle.class_files.specs.FileAnswers.{IsReading, of_refusal}
use Rattle.class_files.specs.declared.reading.NotRead.{NotRead}
use Rattle.class_files.specs.declared.reading.NotRead.TheVariants as Not

-- what is known of an answer of the reader
pub record IsAnswer (bytes : List ℕ) (r : Result ClassFile ReadRefusal) : Type 0 where
  pub found : IfOk r (λ c. IsClass bytes c)
  pub bad_magic : (r ≡ Err BadMagic) ↔ HasBadMagic bytes
  pub bad_version : (r ≡ Err BadVersion) ↔ HasBadVersion bytes
  pub truncated : (n : ℕ) → r ≡ Err (Truncated n) → IsTruncated bytes × (n ≡ length bytes)
  pub only_truncated : IsTruncated bytes → IsRefused r (Truncated (length bytes)) OutOfMemory
  pub trailing : (n : ℕ) → r ≡ Err (Trailing n) → TrailsClass bytes n
  pub only_trailing : (n : ℕ) → TrailsClass bytes n → IsRefused r (Trailing n) OutOfMemory
  pub bad_pool : (i : ℕ) → r ≡ Err (BadPool i) → HasBadPool bytes i
  pub only_bad_pool : (i : ℕ) → HasBadPool bytes i → IsRefused r (BadPool i) OutOfMemory

breaks_none : (bytes : List ℕ) (c : ClassFile) → IsAnswer bytes (Ok c) → (rule : Rule) (n : ℕ) → BreaksReading bytes rule n → ⊥
breaks_none bytes c k C1 n h = let e : Ok c ≡ Err BadMagic = k.bad_magic.1 h.0 in cc
breaks_none bytes c k C2 n h = let e : Ok c ≡ Err BadVersion = k.bad_version.1 h.0 in cc
breaks_none bytes c k C3 n h = k.only_truncated h.0
breaks_none bytes c k C4 n h = k.only_trailing n h
breaks_none bytes c k C5 n h = k.only_bad_pool n h
breaks_none bytes c k _ n h = h

-- the rule with its number is the one that a refusal stands for
abbrev IsThis : NotRead → Rule → ℕ → Type 0
IsThis (Not.Broken fault) rule n = (rule ≡ fault.rule) × (n ≡ fault.number)
IsThis Not.OutOfMemory rule n = ⊥

is_this : (e d : ReadRefusal) (rule : Rule) (n : ℕ) → e ≡ d → IsThis (of_refusal d) rule n → IsThis (of_refusal e) rule n
is_this e d rule n same h = subst (λ (x : ReadRefusal). IsThis (of_refusal x) rule n) (sym same) h

breaks_this : (bytes : List ℕ) (e : ReadRefusal) → IsAnswer bytes (Err e) → (e ≡ OutOfMemory → ⊥) → (rule : Rule) (n : ℕ)
    → BreaksReading bytes rule n → IsThis (of_refusal e) rule n
breaks_this bytes e k some C1 n h =
    let both : ◌≡◌ {A = Result ClassFile ReadRefusal} (Err e) (Err BadMagic) = k.bad_magic.1 h.0 in
    let same : e ≡ BadMagic = cc in
    is_this e BadMagic C1 n same (refl, h.1)
breaks_this bytes e k some C2 n h =
    let both : ◌≡◌ {A = Result ClassFile ReadRefusal} (Err e) (Err BadVersion) = k.bad_version.1 h.0 in
    let same : e ≡ BadVersion = cc in
    is_this e BadVersion C2 n same (refl, h.1)
breaks_this bytes e k some C3 n h =
    elim (k.only_truncated h.0) [
      | inl same ↦ is_this e (Truncated (length bytes)) C3 n same (refl, h.1)
      | inr memory ↦ absurd (some memory)
    ]
breaks_this bytes e k some C4 n h =
    elim (k.only_trailing n h) [
      | inl same ↦ is_this e (Trailing n) C4 n same (refl, refl)
      | inr memory ↦ absurd (some memory)
    ]
breaks_this bytes e k some C5 n h =
    elim (k.only_bad_pool n h) [
      | inl same ↦ is_this e (BadPool n) C5 n same (refl, refl)
      | inr memory ↦ absurd (some memory)
    ]
breaks_this bytes e k some _ n h = absurd h

pub class_is_read : (bytes : List ℕ) (c : ClassFile) → IsAnswer bytes (Ok c) → IsReading bytes (Ok c)
class_is_read bytes c k = (k.found, breaks_none bytes c k)

pub refusal_is_read : (bytes : List ℕ) (e : ReadRefusal) → IsAnswer bytes (Err e) → IsReading bytes (Err (of_refusal e))
refusal_is_read bytes BadMagic k = ((k.bad_magic.0 refl, refl), breaks_this bytes BadMagic k (λ e. cc))
refusal_is_read bytes BadVersion k = ((k.bad_version.0 refl, refl), breaks_this bytes BadVersion k (λ e. cc))
refusal_is_read bytes (Truncated len) k = (k.truncated len refl, breaks_this bytes (Truncated len) k (λ e. cc))
refusal_is_read bytes (Trailing place) k = (k.trailing place refl, breaks_this bytes (Trailing place) k (λ e. cc))
refusal_is_read bytes (BadPool index) k = (k.bad_pool index refl, breaks_this bytes (BadPool index) k (λ e. cc))
refusal_is_read bytes OutOfMemory k = tt
