-- Members are namesakes where their keys are the same.
use Rattle.std.proofs.Common.{◌≡◌, ℕ, ◌+◌, ◌<◌, inl, inr, List, length, slice_get, refl, ◌∙◌, ap, subst, arith, Option, Some, None}
use Rattle.std.proofs.lemmas.Bool.{cases_order}
use Rattle.std.proofs.lemmas.Option.{slice_get_within}
use Rattle.jk_model.specs.declared.class_file.ClassFile.{ClassFile}
use Rattle.jk_model.specs.declared.class_file.MemberInfo.{MemberInfo}
use Rattle.jk_model.specs.declared.class_file.PoolEntry.{PoolEntry}
use Rattle.jk_model_classes.specs.ClassNames.{AreNamesakes, IsSecondAt, IsDuplicate}
use Rattle.jk_model_classes.specs.Items.{Spot, Member, Entry, IsBefore}
use Rattle.jk_model_classes.specs.Members.{TextAt}
use Rattle.class_lemmas.proofs.OneText.{one_text}
use Rattle.class_rules.specs.Answers.{IsLeastSpot}
use Rattle.class_rules.specs.MemberKeys.{first_of, first_at, both, key_of, HasKeyBefore, IsFirstRepeat}
use Rattle.class_rules.specs.Texts.{AreFacts, IsFirstAt}
use Rattle.class_rules.specs.declared.texts.TextFacts.{TextFacts}
use Rattle.class_rules.proofs.FactsOfTexts.{facts_at, facts_of_text}

-- ---- The first index of a text.

one_first : (pool : List PoolEntry) (units : List ℕ) (m n : ℕ) → IsFirstAt pool units m → IsFirstAt pool units n → m ≡ n
one_first pool units m n (at, least) (at2, least2) =
    elim (cases_order m n) [ inl same ↦ same | inr (inl lt) ↦ absurd (least2 m lt at) | inr (inr lt) ↦ absurd (least n lt at2) ]

-- two indices have the same first index where the same text stands at both
same_first : (pool : List PoolEntry) (table : List (Option TextFacts)) → AreFacts pool table → (i j : ℕ) (units : List ℕ)
    → TextAt pool i units → TextAt pool j units → (n : ℕ) × (first_at table i ≡ Some n) × (first_at table j ≡ Some n)
same_first pool table known i j units h k =
    let (a, at, its) = facts_of_text pool table known i units h in
    let (b, at2, its2) = facts_of_text pool table known j units k in
    let same : b.first ≡ a.first = one_first pool units b.first a.first its2.first its.first in
    (a.first, ap first_of at, ap first_of at2 ∙ ap Some same)

facts_from_first : (found : Option (Option TextFacts)) (n : ℕ) → first_of found ≡ Some n → (facts : TextFacts) × (found ≡ Some (Some facts)) × (facts.first ≡ n)
facts_from_first None n h = absurd cc
facts_from_first (Some None) n h = absurd cc
facts_from_first (Some (Some facts)) n h =
    let whole : Some facts.first ≡ Some n = h in
    (facts, refl, cc)

text_from_first : (pool : List PoolEntry) (table : List (Option TextFacts)) → AreFacts pool table → (i n : ℕ) → first_at table i ≡ Some n
    → (units : List ℕ) × TextAt pool i units × TextAt pool n units
text_from_first pool table known i n h =
    let (facts, at, first) = facts_from_first (slice_get table i) n h in
    let (units, text, its) = facts_at pool table known i facts at in
    (units, text, subst (λ (j : ℕ). TextAt pool j units) first its.first.0)

same_text : (pool : List PoolEntry) (table : List (Option TextFacts)) → AreFacts pool table → (i j n : ℕ) → first_at table i ≡ Some n
    → first_at table j ≡ Some n → (units : List ℕ) × TextAt pool i units × TextAt pool j units
same_text pool table known i j n h k =
    let (us, text, first) = text_from_first pool table known i n h in
    let (vs, text2, first2) = text_from_first pool table known j n k in
    let same : vs ≡ us = one_text pool n vs us first2 first in
    (us, text, subst (λ (ws : List ℕ). TextAt pool j ws) same text2)

-- ---- Keys of members.

parts_of_both : (a b : Option ℕ) (key : ℕ × ℕ) → both a b ≡ Some key → (a ≡ Some key.0) × (b ≡ Some key.1)
parts_of_both None b key h = absurd cc
parts_of_both (Some x) None key h = absurd cc
parts_of_both (Some x) (Some y) key h =
    let whole : Some (x, y) ≡ Some key = h in
    let pair : (x, y) ≡ key = cc in
    (ap (λ (p : ℕ × ℕ). Some p.0) pair, ap (λ (p : ℕ × ℕ). Some p.1) pair)

same_key : (pool : List PoolEntry) (table : List (Option TextFacts)) → AreFacts pool table → (a b : MemberInfo) → AreNamesakes pool a b
    → (key : ℕ × ℕ) × (key_of table a ≡ Some key) × (key_of table b ≡ Some key)
same_key pool table known a b (name, descriptor, h, k, h2, k2) =
    let (m, first, second) = same_first pool table known a.name b.name name h k in
    let (n, first2, second2) = same_first pool table known a.descriptor b.descriptor descriptor h2 k2 in
    ((m, n), (λ i. both (first i) (first2 i)), (λ i. both (second i) (second2 i)))

namesakes : (pool : List PoolEntry) (table : List (Option TextFacts)) → AreFacts pool table → (a b : MemberInfo) (key : ℕ × ℕ)
    → key_of table a ≡ Some key → key_of table b ≡ Some key → AreNamesakes pool a b
namesakes pool table known a b key h k =
    let first = parts_of_both (first_at table a.name) (first_at table a.descriptor) key h in
    let second = parts_of_both (first_at table b.name) (first_at table b.descriptor) key k in
    let (name, t, t2) = same_text pool table known a.name b.name key.0 first.0 second.0 in
    let (descriptor, u, u2) = same_text pool table known a.descriptor b.descriptor key.1 first.1 second.1 in
    (name, descriptor, t, t2, u, u2)

second_from_key : (pool : List PoolEntry) (table : List (Option TextFacts)) → AreFacts pool table → (members : List MemberInfo) (i : ℕ)
    → HasKeyBefore table members i → IsSecondAt pool members i
second_from_key pool table known members i (m, key, at, its, (j, other, lt, at2, its2)) =
    (m, at, (j, other, lt, at2, namesakes pool table known other m key its2 its))

key_from_second : (pool : List PoolEntry) (table : List (Option TextFacts)) → AreFacts pool table → (members : List MemberInfo) (i : ℕ)
    → IsSecondAt pool members i → HasKeyBefore table members i
key_from_second pool table known members i (m, at, (j, other, lt, at2, alike)) =
    let (key, its2, its) = same_key pool table known other m alike in
    (m, key, at, its, (j, other, lt, at2, its2))

-- ---- The least member of a class that has a namesake before it.

pub repeat_within : (table : List (Option TextFacts)) (members : List MemberInfo) (i : ℕ) → IsFirstRepeat table members (Some i) → i < length members
repeat_within table members i ((m, key, at, its, earlier), least) = slice_get_within members i m at

pub second_field : (c : ClassFile) (table : List (Option TextFacts)) → AreFacts c.pool table → (i : ℕ)
    → IsFirstRepeat table c.fields (Some i) → IsLeastSpot (IsDuplicate c) (Some (i + 1))
second_field c table known i (here, least) = (Member (i + 1), inl (i, refl, second_from_key c.pool table known c.fields i here), before, refl)
  where
    before : (other : Spot) → IsBefore other (Member (i + 1)) → IsDuplicate c other → ⊥
    before (Entry n) lt h = h
    before (Member n) lt (inl (j, is_n, h)) = least j (omega arith) (key_from_second c.pool table known c.fields j h)
    before (Member n) lt (inr (j, is_n, h)) =
        let within = repeat_within table c.fields i (here, least) in
        omega arith

no_second : (pool : List PoolEntry) (table : List (Option TextFacts)) → AreFacts pool table → (members : List MemberInfo)
    → IsFirstRepeat table members None → (i : ℕ) → IsSecondAt pool members i → ⊥
no_second pool table known members none i h = none i (key_from_second pool table known members i h)

pub second_method : (c : ClassFile) (table : List (Option TextFacts)) → AreFacts c.pool table → IsFirstRepeat table c.fields None
    → (i : ℕ) → IsFirstRepeat table c.methods (Some i) → IsLeastSpot (IsDuplicate c) (Some (length c.fields + i + 1))
second_method c table known none i (here, least) =
    (Member (length c.fields + i + 1), inr (i, refl, second_from_key c.pool table known c.methods i here), before, refl)
  where
    before : (other : Spot) → IsBefore other (Member (length c.fields + i + 1)) → IsDuplicate c other → ⊥
    before (Entry n) lt h = h
    before (Member n) lt (inl (j, is_n, h)) = no_second c.pool table known c.fields none j h
    before (Member n) lt (inr (j, is_n, h)) = least j (omega arith) (key_from_second c.pool table known c.methods j h)

pub no_duplicate : (c : ClassFile) (table : List (Option TextFacts)) → AreFacts c.pool table → IsFirstRepeat table c.fields None
    → IsFirstRepeat table c.methods None → (spot : Spot) → IsDuplicate c spot → ⊥
no_duplicate c table known none none2 (Member n) (inl (j, is_n, h)) = no_second c.pool table known c.fields none j h
no_duplicate c table known none none2 (Member n) (inr (j, is_n, h)) = no_second c.pool table known c.methods none2 j h
no_duplicate c table known none none2 (Entry n) h = h
