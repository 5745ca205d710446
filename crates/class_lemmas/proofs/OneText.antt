-- A text of a pool has one reading, a class one name, and a text of a class file few units.
use Rattle.std.proofs.Common.{◌≡◌, ℕ, ◌<◌, ◌^◌, List, length, sym, ◌∙◌, subst, Some, arith}
use Rattle.jk_model.specs.declared.class_file.ClassFile.{ClassFile}
use Rattle.jk_model.specs.declared.class_file.PoolEntry.{PoolEntry}
use Rattle.jk_model.specs.declared.class_file.PoolEntry.TheVariants.{Utf8, Class}
use Rattle.jk_model.specs.ClassFile.{IsEntry}
use Rattle.jk_model.specs.ReadFaults.{IsWritable}
use Rattle.jk_model.specs.Text.{Spells}
use Rattle.jk_model.proofs.EachItem.{all_at}
use Rattle.jk_model_classes.specs.Members.{TextAt, ClassAt}
use Rattle.model_lemmas.proofs.OneReading.{one_reading}
use Rattle.model_lemmas.proofs.TextsAreLong.{units_within}

pub one_text : (pool : List PoolEntry) (i : ℕ) (us vs : List ℕ) → TextAt pool i us → TextAt pool i vs → us ≡ vs
one_text pool i us vs (bytes, e, h) (bytes2, e2, k) =
    let both : Some (Utf8 bytes2) ≡ Some (Utf8 bytes) = sym e2 ∙ e in
    let same : bytes2 ≡ bytes = cc in
    one_reading bytes us vs h (subst (λ (b : List ℕ). Spells b vs) same k)

pub one_class : (pool : List PoolEntry) (i : ℕ) (us vs : List ℕ) → ClassAt pool i us → ClassAt pool i vs → us ≡ vs
one_class pool i us vs (n, e, h) (m, e2, k) =
    let both : Some (Class m) ≡ Some (Class n) = sym e2 ∙ e in
    let same : m ≡ n = cc in
    one_text pool n us vs h (subst (λ (j : ℕ). TextAt pool j vs) same k)

pub few_units : (c : ClassFile) (i : ℕ) (units : List ℕ) → IsWritable c → TextAt c.pool i units → length units < 2 ^ 31
few_units c i units writable (bytes, at, spells) =
    let entry : IsEntry (Utf8 bytes) = all_at IsEntry c.pool i (Utf8 bytes) writable.is_class.layout.pool.2 at in
    let small : length bytes < 2 ^ 16 = entry.0 in
    let within = units_within bytes units spells in
    omega arith
