-- Final methods are met by their keys, and what was met stays so.
use Rattle.std.proofs.Common.{◌≡◌, ℕ, ◌+◌, ◌<◌, ◌≤◌, ◌⊎◌, ◌↔◌, inl, inr, Bool, true, false, cond, IsTrue, List, length, Some, None, refl, sym, ap, subst, ◌∙◌, arith}
use Rattle.std.specs.Prelude.{slice_get}
use Rattle.std.specs.BTreeMap.{BTreeMap, get, is_at, Updates}
use Rattle.std.specs.Ordering.{is_eq, nat_cmp, ordering_then}
use Rattle.std.specs.declared.cmp.Ordering.{Ordering}
use Rattle.std.specs.declared.cmp.Ordering.TheVariants.{Equal, Greater, Less}
use Rattle.std.proofs.lemmas.Bool.{cases_lt}
use Rattle.std.proofs.lemmas.Map.Lookups.{exact_unsigned}
use Rattle.std.proofs.lemmas.Option.{same_Some, slice_get_within}
use Rattle.list_lemmas.proofs.TestsAndOrders.{equal_by as is_equal}
use Rattle.jk_model.specs.Flags.{has, FINAL}
use Rattle.jk_model_classes.specs.declared.records.MethodRecord.{MethodRecord}
use Rattle.jk_model_classes.specs.Lookups.{IsUnmarked}
use Rattle.link_rules.specs.contracts.met_finals.FinalKeyOrd.TheImpl as block
use Rattle.link_rules.specs.declared.met_finals.FinalKey.{FinalKey}
use Rattle.link_rules.specs.MetFinals.{Grows, IsKept, IsMet, IsOpen, key_in}

-- ---- Keys that compare as equal are equal.

both_equal : (o p : Ordering) → is_eq (ordering_then o p) ≡ true → (o ≡ Equal) × (is_eq p ≡ true)
both_equal Less p h = absurd cc
both_equal Equal p h = (refl, h)
both_equal Greater p h = absurd cc

abbrev key : ℕ → ℕ → ℕ → FinalKey
key name kind package_number = record { name = name; kind = kind; package_number = package_number }

same_key : (k q : FinalKey) → is_at (block.ghosts.cmp k) q ≡ true → k ≡ q
same_key k q h =
    let (names, rest) = both_equal (nat_cmp k.name q.name) (ordering_then (nat_cmp k.kind q.kind) (nat_cmp k.package_number q.package_number)) h in
    let (kinds, packages) = both_equal (nat_cmp k.kind q.kind) (nat_cmp k.package_number q.package_number) rest in
    let name : k.name ≡ q.name = exact_unsigned k.name q.name names in
    let kind : k.kind ≡ q.kind = exact_unsigned k.kind q.kind kinds in
    let package_number : k.package_number ≡ q.package_number =
    exact_unsigned k.package_number q.package_number (is_equal (nat_cmp k.package_number q.package_number) packages) in
    ap (λ (n : ℕ). key n k.kind k.package_number) name ∙ ap (λ (n : ℕ). key q.name n k.package_number) kind ∙ ap (key q.name q.kind) package_number

-- ---- What was met by one key.

pub met_by : (met : BTreeMap FinalKey ℕ) (k : FinalKey) (n until : ℕ) (b : Bool) → get block.ghosts.cmp met k ≡ Some until → (IsTrue b ↔ (n ≤ until))
    → IsTrue b ↔ IsMet met k n
met_by met k n until b at says = (
  λ t. (until, at, says.0 t),
  λ (v, there, most). says.1 (let same : until ≡ v = same_Some until v (sym at ∙ there) in omega arith),
)

pub not_met : (met : BTreeMap FinalKey ℕ) (k : FinalKey) (n : ℕ) → get block.ghosts.cmp met k ≡ None → IsMet met k n → ⊥
not_met met k n none (v, there, most) = let both : None ≡ Some v = sym none ∙ there in cc

pub met_less : (met : BTreeMap FinalKey ℕ) (k : FinalKey) (m n : ℕ) → m ≤ n → IsMet met k n → IsMet met k m
met_less met k m n less (v, there, most) = (v, there, omega arith)

pub met_as : (met : BTreeMap FinalKey ℕ) (k q : FinalKey) (n : ℕ) → k ≡ q → IsMet met k n → IsMet met q n
met_as met k q n same = subst (λ (x : FinalKey). IsMet met x n) same

module _ (old new : BTreeMap FinalKey ℕ) (k : FinalKey) (until : ℕ) (puts : Updates block.ghosts.cmp old new k (Some until)) where
  pub raised_met : IsMet new k until
  raised_met = (until, puts.1, omega arith)

  pub raised_grows : (IsMet old k until → ⊥) → Grows old new
  raised_grows low q n (v, at, most) = by_test (is_at (block.ghosts.cmp k) q) refl
    where
      by_test : (b : Bool) → is_at (block.ghosts.cmp k) q ≡ b → IsMet new q n
      by_test true t =
          let same : k ≡ q = same_key k q t in
          let here : get block.ghosts.cmp old k ≡ Some v = subst (λ (x : FinalKey). get block.ghosts.cmp old x ≡ Some v) (sym same) at in
          elim (cases_lt v until) [
            | inl less ↦ (until, puts.0 q ∙ ap (λ (b : Bool). cond b (Some until) (get block.ghosts.cmp old q)) t, omega arith)
            | inr least ↦ absurd (low (v, here, least))
          ]
      by_test false t = (v, puts.0 q ∙ ap (λ (b : Bool). cond b (Some until) (get block.ghosts.cmp old q)) t ∙ at, most)

-- ---- Methods that are kept.

pub grows_none : (met : BTreeMap FinalKey ℕ) → Grows met met
grows_none met q n h = h

pub grows_both : (a b c : BTreeMap FinalKey ℕ) → Grows a b → Grows b c → Grows a c
grows_both a b c h k q n is = k q n (h q n is)

pub kept_grows : (a b : BTreeMap FinalKey ℕ) (n package_number : ℕ) (method : MethodRecord) → Grows a b → IsKept a n package_number method
    → IsKept b n package_number method
kept_grows a b n package_number method h kept final =
    let here = kept final in
    (λ wide. h (key_in 0 method) n (here.0 wide), λ unmarked. h (key_in package_number method) n (here.1 unmarked))

pub kept_less : (met : BTreeMap FinalKey ℕ) (m n package_number : ℕ) (method : MethodRecord) → m ≤ n → IsKept met n package_number method
    → IsKept met m package_number method
kept_less met m n package_number method less kept final =
    let here = kept final in
    (λ wide. met_less met (key_in 0 method) m n less (here.0 wide), λ unmarked. met_less met (key_in package_number method) m n less (here.1 unmarked))

pub kept_none : (met : BTreeMap FinalKey ℕ) (n package_number : ℕ) (method : MethodRecord)
    → (IsTrue (has method.flags FINAL) → IsOpen method.flags ⊎ IsUnmarked method.flags → ⊥) → IsKept met n package_number method
kept_none met n package_number method none final = (λ wide. absurd (none final (inl wide)), λ unmarked. absurd (none final (inr unmarked)))

pub kept_one : (met : BTreeMap FinalKey ℕ) (n package_number own : ℕ) (method : MethodRecord) (k : FinalKey)
    → (IsOpen method.flags → own ≡ 0) × (IsUnmarked method.flags → own ≡ package_number) → k ≡ key_in own method → IsMet met k n
    → IsKept met n package_number method
kept_one met n package_number own method k owns is h final = (
  λ wide. met_as met k (key_in 0 method) n (is ∙ ap (λ (p : ℕ). key_in p method) (owns.0 wide)) h,
  λ unmarked. met_as met k (key_in package_number method) n (is ∙ ap (λ (p : ℕ). key_in p method) (owns.1 unmarked)) h,
)

-- the methods before a place are kept
pub record AreKeptBefore (old met : BTreeMap FinalKey ℕ) (n package_number : ℕ) (methods : List MethodRecord) (end : ℕ) : Type 0 where
  pub grows : Grows old met
  pub kept : (i : ℕ) (method : MethodRecord) → i < end → slice_get methods i ≡ Some method → IsKept met n package_number method

pub kept_first : (old : BTreeMap FinalKey ℕ) (n package_number : ℕ) (methods : List MethodRecord) → AreKeptBefore old old n package_number methods 0
kept_first old n package_number methods = record { grows = grows_none old; kept = λ i method less at. absurd (omega arith) }

pub kept_next : (old met new : BTreeMap FinalKey ℕ) (n package_number : ℕ) (methods : List MethodRecord) (end : ℕ) (last : MethodRecord)
    → slice_get methods end ≡ Some last → AreKeptBefore old met n package_number methods end → Grows met new → IsKept new n package_number last
    → AreKeptBefore old new n package_number methods (end + 1)
kept_next old met new n package_number methods end last there before grows kept =
    record { grows = grows_both old met new before.grows grows; kept = each }
  where
    each : (i : ℕ) (method : MethodRecord) → i < end + 1 → slice_get methods i ≡ Some method → IsKept new n package_number method
    each i method less at = elim (cases_lt i end) [
      | inl early ↦ kept_grows met new n package_number method grows (before.kept i method early at)
      | inr late ↦
          let same : i ≡ end = omega arith in
          let one : last ≡ method = same_Some last method (sym there ∙ subst (λ (k : ℕ). slice_get methods k ≡ Some method) same at) in
          subst (λ (m : MethodRecord). IsKept new n package_number m) one kept
    ]

pub kept_all : (old met : BTreeMap FinalKey ℕ) (n package_number : ℕ) (methods : List MethodRecord) (end : ℕ) → length methods ≤ end
    → AreKeptBefore old met n package_number methods end → (i : ℕ) (method : MethodRecord) → slice_get methods i ≡ Some method
    → IsKept met n package_number method
kept_all old met n package_number methods end all before i method at =
    before.kept i method (omega (arith, all, slice_get_within methods i method at)) at
