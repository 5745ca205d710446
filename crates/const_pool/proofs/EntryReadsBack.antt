-- An entry is read back: what is read after a tag is spelled so, what is spelled so is read again, and bytes
-- that end early in it are the beginning of an entry.
use Rattle.std.proofs.Common.{◌≡◌, ℕ, ◌^◌, ◌≤◌, ◌⊎◌, inl, inr, true, cond, eqb, List, [], ◌∷◌, ◌++◌, Option, Some, None, refl, sym, ap, subst, ◌∙◌, arith}
use Rattle.std.specs.Int.{w16, w32, w64}
use Rattle.std.proofs.lemmas.Option.{none-some, same_Some}
use Rattle.byte_fields.specs.Layouts.{IsBytes, Takes, IsReader, FailsWithin, Completes, IsPair, pair_bytes, IsBlock, block_bytes}
use Rattle.byte_fields.specs.Reading.{mapped_at, number_at, pair_at, block_at}
use Rattle.byte_fields.specs.OneNumber.{wide16}
use Rattle.byte_fields.specs.OneReading.{bind_some, found_is, u2_reader, u4_reader, u8_reader, pair_reader, block_reader}
use Rattle.byte_fields.specs.CutIsBeginning.{bind_none, u2_cut, u4_cut, u8_cut, pair_cut, block_cut}
use Rattle.jk_model.specs.declared.class_file.PoolEntry.{PoolEntry}
use Rattle.jk_model.specs.declared.class_file.PoolEntry.TheVariants.{Unusable, Utf8, Integer, Float, Long, Double, Class, Str, FieldRef, MethodRef, InterfaceMethodRef, NameAndType}
use Rattle.jk_model.specs.ClassFile.{entry_bytes, u2, u4, u8, IsU2, IsU4, IsU8}
use Rattle.jk_model.specs.ConstantPool.{IsTag, IsWideTag}
use Rattle.const_pool.specs.declared.tags.Tag.{Tag}
use Rattle.const_pool.specs.declared.tags.Tag.TheVariants as tags
use Rattle.const_pool.specs.Reading.{tag_number, is_wide, body_at}
use Rattle.const_pool.specs.Answer.{second_index, IsSlot}

-- ---- Texts: bytes after a length of two bytes.

abbrev text_at : List ℕ → Option (List ℕ × List ℕ)
text_at bytes = block_at w16 bytes

abbrev text_bytes : List ℕ → List ℕ
text_bytes text = block_bytes w16 text

abbrev IsText : List ℕ → Type 0
IsText text = IsBlock (2 ^ 16) text

text_reader : IsReader text_at text_bytes IsText
text_reader = block_reader w16 (2 ^ 16) wide16

text_cut : FailsWithin text_at text_bytes IsText
text_cut = block_cut w16 (2 ^ 16) wide16 (omega arith)

-- ---- What is read, and where it is cut.

-- an entry with this tag
pub record IsOfTag (t : Tag) (e : PoolEntry) : Type 0 where
  pub slot : IsSlot e
  pub wide : second_index e ≡ cond (is_wide t) (Unusable ∷ []) []

abbrev pub BodyTakes : Tag → List ℕ → PoolEntry × List ℕ → Type 0
BodyTakes t bytes x = Takes (tag_number t ∷ bytes) (entry_bytes x.0) x.1 × IsOfTag t x.0

-- a reader of what stands after this tag
pub record IsBody (t : Tag) (read : List ℕ → Option (PoolEntry × List ℕ)) : Type 0 where
  pub takes : (bytes : List ℕ) (x : PoolEntry × List ℕ) → IsBytes bytes → read bytes ≡ Some x → BodyTakes t bytes x
  pub cut : (bytes : List ℕ) → IsBytes bytes → read bytes ≡ None → Completes entry_bytes (IsOfTag t) (tag_number t ∷ bytes)

-- by the reader of the value that an entry with this tag is made of
body_of_value : {A : Type 0} (f : A → PoolEntry) (r : List ℕ → Option (A × List ℕ)) (s : A → List ℕ) (F : A → Type 0) (t : Tag)
    → IsReader r s F → FailsWithin r s F → ((a : A) → entry_bytes (f a) ≡ tag_number t ∷ s a) → ((a : A) → F a → IsOfTag t (f a))
    → IsBody t (mapped_at f r)
body_of_value {A = A} f r s F t p c spelled fit = record {
  takes = λ bytes x fits e.
      let a = bind_some (r bytes) (λ x. Some (f x.0, x.1)) x e in
      let h = p.takes bytes a.0 fits a.1 in
      let made : PoolEntry × List ℕ = (f a.0.0, a.0.1) in
      let parts : tag_number t ∷ bytes ≡ entry_bytes (f a.0.0) ++ a.0.1 =
      ap (λ (w : List ℕ). tag_number t ∷ w) h.0.parts ∙ ap (λ (w : List ℕ). w ++ a.0.1) (sym (spelled a.0.0)) in
      subst (BodyTakes t bytes) (same_Some made x a.2) (record { parts = parts; rest_fits = h.0.rest_fits }, fit a.0.0 h.1);
  cut = λ bytes fits e.
      elim (bind_none (r bytes) (λ x. Some (f x.0, x.1)) e) [
        | inl e1 ↦
            let h = c.cut bytes fits e1 in
            record {
              value = f h.value;
              fits = fit h.value h.fits;
              more = h.more;
              some = h.some;
              spelled = ap (λ (w : List ℕ). tag_number t ∷ w) h.spelled ∙ sym (spelled h.value);
            }
        | inr w ↦ absurd (none-some (f w.0.0, w.0.1) (sym w.2))
      ];
}

-- an entry that fits has a tag, and its second index where the tag is wide
of_tag : (t : Tag) (e : PoolEntry) → IsSlot e → second_index e ≡ cond (is_wide t) (Unusable ∷ []) [] → IsOfTag t e
of_tag t e slot wide = record { slot = slot; wide = wide }

pub bodies : (t : Tag) → IsBody t (body_at t)
unfolding body_at
bodies tags.Utf8 =
    body_of_value (λ a. Utf8 a) text_at text_bytes IsText tags.Utf8 text_reader text_cut (λ a. refl) (λ a h. of_tag _ _ h refl)
bodies tags.Integer =
    body_of_value (λ a. Integer a) (number_at w32) u4 IsU4 tags.Integer u4_reader u4_cut (λ a. refl) (λ a h. of_tag _ _ h refl)
bodies tags.Float =
    body_of_value (λ a. Float a) (number_at w32) u4 IsU4 tags.Float u4_reader u4_cut (λ a. refl) (λ a h. of_tag _ _ h refl)
bodies tags.Long =
    body_of_value (λ a. Long a) (number_at w64) u8 IsU8 tags.Long u8_reader u8_cut (λ a. refl) (λ a h. of_tag _ _ h refl)
bodies tags.Double =
    body_of_value (λ a. Double a) (number_at w64) u8 IsU8 tags.Double u8_reader u8_cut (λ a. refl) (λ a h. of_tag _ _ h refl)
bodies tags.Class =
    body_of_value (λ a. Class a) (number_at w16) u2 IsU2 tags.Class u2_reader u2_cut (λ a. refl) (λ a h. of_tag _ _ h refl)
bodies tags.Str =
    body_of_value (λ a. Str a) (number_at w16) u2 IsU2 tags.Str u2_reader u2_cut (λ a. refl) (λ a h. of_tag _ _ h refl)
bodies tags.FieldRef =
    body_of_value (λ p. FieldRef p.0 p.1) pair_at pair_bytes IsPair tags.FieldRef pair_reader pair_cut (λ a. refl) (λ a h. of_tag _ _ h refl)
bodies tags.MethodRef =
    body_of_value (λ p. MethodRef p.0 p.1) pair_at pair_bytes IsPair tags.MethodRef pair_reader pair_cut (λ a. refl) (λ a h. of_tag _ _ h refl)
bodies tags.InterfaceMethodRef =
    body_of_value (λ p. InterfaceMethodRef p.0 p.1) pair_at pair_bytes IsPair tags.InterfaceMethodRef pair_reader pair_cut (λ a. refl)
    (λ a h. of_tag _ _ h refl)
bodies tags.NameAndType =
    body_of_value (λ p. NameAndType p.0 p.1) pair_at pair_bytes IsPair tags.NameAndType pair_reader pair_cut (λ a. refl)
    (λ a h. of_tag _ _ h refl)

-- ---- An entry is read as itself.

-- the tag of an entry that has one
abbrev tag : PoolEntry → Tag
tag Unusable = tags.Utf8
tag (Utf8 text) = tags.Utf8
tag (Integer n) = tags.Integer
tag (Float n) = tags.Float
tag (Long n) = tags.Long
tag (Double n) = tags.Double
tag (Class name) = tags.Class
tag (Str text) = tags.Str
tag (FieldRef class pair) = tags.FieldRef
tag (MethodRef class pair) = tags.MethodRef
tag (InterfaceMethodRef class pair) = tags.InterfaceMethodRef
tag (NameAndType name descriptor) = tags.NameAndType

-- the bytes after the tag
abbrev body : PoolEntry → List ℕ
body Unusable = []
body (Utf8 text) = text_bytes text
body (Integer n) = u4 n
body (Float n) = u4 n
body (Long n) = u8 n
body (Double n) = u8 n
body (Class name) = u2 name
body (Str text) = u2 text
body (FieldRef class pair) = pair_bytes (class, pair)
body (MethodRef class pair) = pair_bytes (class, pair)
body (InterfaceMethodRef class pair) = pair_bytes (class, pair)
body (NameAndType name descriptor) = pair_bytes (name, descriptor)

spelled : (e : PoolEntry) → IsSlot e → entry_bytes e ≡ tag_number (tag e) ∷ body e
spelled Unusable h = absurd h
spelled (Utf8 text) h = refl
spelled (Integer n) h = refl
spelled (Float n) h = refl
spelled (Long n) h = refl
spelled (Double n) h = refl
spelled (Class name) h = refl
spelled (Str text) h = refl
spelled (FieldRef class pair) h = refl
spelled (MethodRef class pair) h = refl
spelled (InterfaceMethodRef class pair) h = refl
spelled (NameAndType name descriptor) h = refl

kind_again : {A : Type 0} (f : A → PoolEntry) (r : List ℕ → Option (A × List ℕ)) (s : A → List ℕ) (F : A → Type 0) → IsReader r s F
    → (a : A) (rest : List ℕ) → F a → mapped_at f r (s a ++ rest) ≡ Some (f a, rest)
kind_again f r s F p a rest fits = rw (p.again a rest fits) refl

body_again : (e : PoolEntry) (rest : List ℕ) → IsSlot e → body_at (tag e) (body e ++ rest) ≡ Some (e, rest)
unfolding body_at
body_again Unusable rest h = absurd h
body_again (Utf8 text) rest h = kind_again (λ a. Utf8 a) text_at text_bytes IsText text_reader text rest h
body_again (Integer n) rest h = kind_again (λ a. Integer a) (number_at w32) u4 IsU4 u4_reader n rest h
body_again (Float n) rest h = kind_again (λ a. Float a) (number_at w32) u4 IsU4 u4_reader n rest h
body_again (Long n) rest h = kind_again (λ a. Long a) (number_at w64) u8 IsU8 u8_reader n rest h
body_again (Double n) rest h = kind_again (λ a. Double a) (number_at w64) u8 IsU8 u8_reader n rest h
body_again (Class name) rest h = kind_again (λ a. Class a) (number_at w16) u2 IsU2 u2_reader name rest h
body_again (Str text) rest h = kind_again (λ a. Str a) (number_at w16) u2 IsU2 u2_reader text rest h
body_again (FieldRef class pair) rest h = kind_again (λ p. FieldRef p.0 p.1) pair_at pair_bytes IsPair pair_reader (class, pair) rest h
body_again (MethodRef class pair) rest h = kind_again (λ p. MethodRef p.0 p.1) pair_at pair_bytes IsPair pair_reader (class, pair) rest h
body_again (InterfaceMethodRef class pair) rest h = kind_again (λ p. InterfaceMethodRef p.0 p.1) pair_at pair_bytes IsPair pair_reader (class, pair) rest h
body_again (NameAndType name descriptor) rest h = kind_again (λ p. NameAndType p.0 p.1) pair_at pair_bytes IsPair pair_reader (name, descriptor) rest h

-- ---- Tags by their numbers.

abbrev tag_with : ℕ → Tag
tag_with n =
    cond (eqb n 1) tags.Utf8
    (cond (eqb n 3) tags.Integer
    (cond (eqb n 4) tags.Float
    (cond (eqb n 5) tags.Long
    (cond (eqb n 6) tags.Double
    (cond (eqb n 7) tags.Class
    (cond (eqb n 8) tags.Str
    (cond (eqb n 9) tags.FieldRef
    (cond (eqb n 10) tags.MethodRef
    (cond (eqb n 11) tags.InterfaceMethodRef tags.NameAndType)))))))))

tag_back : (t : Tag) → tag_with (tag_number t) ≡ t
tag_back tags.Utf8 = refl
tag_back tags.Integer = refl
tag_back tags.Float = refl
tag_back tags.Long = refl
tag_back tags.Double = refl
tag_back tags.Class = refl
tag_back tags.Str = refl
tag_back tags.FieldRef = refl
tag_back tags.MethodRef = refl
tag_back tags.InterfaceMethodRef = refl
tag_back tags.NameAndType = refl

same_tag : (t u : Tag) → tag_number t ≡ tag_number u → t ≡ u
same_tag t u e = sym (tag_back t) ∙ ap tag_with e ∙ tag_back u

pub tag_is : (t : Tag) → IsTag (tag_number t)
tag_is tags.Utf8 = inl refl
tag_is tags.Integer = inr (omega arith, omega arith)
tag_is tags.Float = inr (omega arith, omega arith)
tag_is tags.Long = inr (omega arith, omega arith)
tag_is tags.Double = inr (omega arith, omega arith)
tag_is tags.Class = inr (omega arith, omega arith)
tag_is tags.Str = inr (omega arith, omega arith)
tag_is tags.FieldRef = inr (omega arith, omega arith)
tag_is tags.MethodRef = inr (omega arith, omega arith)
tag_is tags.InterfaceMethodRef = inr (omega arith, omega arith)
tag_is tags.NameAndType = inr (omega arith, omega arith)

pub wide_is : (t : Tag) → is_wide t ≡ true → IsWideTag (tag_number t)
wide_is tags.Long h = inl refl
wide_is tags.Double h = inr refl
wide_is _ h = absurd cc

apart : (m n : ℕ) → ((m ≡ 5) ⊎ (m ≡ 6)) → ((n ≡ m) × ((n ≤ 4) ⊎ (7 ≤ n))) → ⊥
apart m n (inl h) (e, inl k) = omega arith
apart m n (inl h) (e, inr k) = omega arith
apart m n (inr h) (e, inl k) = omega arith
apart m n (inr h) (e, inr k) = omega arith

wide_second : (e : PoolEntry) → IsSlot e → IsWideTag (tag_number (tag e)) → second_index e ≡ Unusable ∷ []
wide_second Unusable h w = absurd h
wide_second (Utf8 text) h w = absurd (apart _ 1 w (refl, inl (omega arith)))
wide_second (Integer n) h w = absurd (apart _ 3 w (refl, inl (omega arith)))
wide_second (Float n) h w = absurd (apart _ 4 w (refl, inl (omega arith)))
wide_second (Long n) h w = refl
wide_second (Double n) h w = refl
wide_second (Class name) h w = absurd (apart _ 7 w (refl, inr (omega arith)))
wide_second (Str text) h w = absurd (apart _ 8 w (refl, inr (omega arith)))
wide_second (FieldRef class pair) h w = absurd (apart _ 9 w (refl, inr (omega arith)))
wide_second (MethodRef class pair) h w = absurd (apart _ 10 w (refl, inr (omega arith)))
wide_second (InterfaceMethodRef class pair) h w = absurd (apart _ 11 w (refl, inr (omega arith)))
wide_second (NameAndType name descriptor) h w = absurd (apart _ 12 w (refl, inr (omega arith)))

-- the byte in front of an entry is a tag, and that of a wide one has an index after it
pub front_is_tag : (e : PoolEntry) (n : ℕ) (more rest : List ℕ) → IsSlot e → n ∷ more ≡ entry_bytes e ++ rest
    → IsTag n × (IsWideTag n → second_index e ≡ Unusable ∷ [])
front_is_tag e n more rest h same =
    let whole : n ∷ more ≡ tag_number (tag e) ∷ (body e ++ rest) = same ∙ ap (λ (w : List ℕ). w ++ rest) (spelled e h) in
    let first : tag_number (tag e) ≡ n = cc in
    (subst IsTag first (tag_is (tag e)), λ w. wide_second e h (subst IsWideTag (sym first) w))

-- an entry is read in one way
pub same_entry : (e f : PoolEntry) (r s : List ℕ) → IsSlot e → IsSlot f → entry_bytes e ++ r ≡ entry_bytes f ++ s → (e ≡ f) × (r ≡ s)
same_entry e f r s h k same =
    let left : entry_bytes e ++ r ≡ tag_number (tag e) ∷ (body e ++ r) = ap (λ (w : List ℕ). w ++ r) (spelled e h) in
    let right : entry_bytes f ++ s ≡ tag_number (tag f) ∷ (body f ++ s) = ap (λ (w : List ℕ). w ++ s) (spelled f k) in
    let whole : tag_number (tag e) ∷ (body e ++ r) ≡ tag_number (tag f) ∷ (body f ++ s) = sym left ∙ same ∙ right in
    let first : tag_number (tag e) ≡ tag_number (tag f) = cc in
    let tags_same : tag e ≡ tag f = same_tag (tag e) (tag f) first in
    let bodies : body e ++ r ≡ body f ++ s = cc in
    let reads : body_at (tag e) (body e ++ r) ≡ body_at (tag f) (body f ++ s) =
    ap (λ (t : Tag). body_at t (body e ++ r)) tags_same ∙ ap (body_at (tag f)) bodies in
    found_is e f r s (sym (body_again e r h) ∙ reads ∙ body_again f s k)
