-- What arrays of arrays cost is added up from the first count on: so many arrays of a level, each of them with what its count says.
use Rattle.std.proofs.Common.{◌≡◌, ℕ, ◌+◌, ◌-◌, ◌*◌, ◌<◌, ◌≤◌, List, length, drop, get_or, refl, sym, ap, ◌∙◌, subst, arith}
use Rattle.std.proofs.Math.Nat.{mul-le-mul_left}
use Rattle.std.proofs.lemmas.List.{drop_more}
use Rattle.jk_model_classes.specs.declared.records.TypeRef.{TypeRef}
use Rattle.jk_model_classes.specs.Layouts.{HEADER_WORDS, type_words}
use Rattle.jk_model_typing.specs.FrameTypes.{array_type}
use Rattle.jk_model_heap_rows.specs.ArrayTrees.{element_type, tree_words}

-- So many levels are counted: there are so many arrays of the next one, of this type, and those before cost so many words.
pub record WordsSoFar (t kind : TypeRef) (counts : List ℕ) (i arrays words : ℕ) : Type 0 where
  pub kind_is : kind ≡ array_type (t.dims - i) t.base
  pub whole : words + arrays * tree_words kind (drop i counts) ≡ tree_words t counts
  pub few : arrays ≤ 16777216
  pub small : words ≤ 16777216

module _ (t kind : TypeRef) (counts : List ℕ) (i arrays words n cost : ℕ) (within : i < length counts) (count : n ≡ get_or counts i 0)
    (costs : cost ≡ HEADER_WORDS + type_words (element_type kind) * n) (so_far : WordsSoFar t kind counts i arrays words) where
  abbrev rest : ℕ
  rest = tree_words (element_type kind) (drop (i + 1) counts)

  next_is : tree_words kind (drop i counts) ≡ cost + n * rest
  next_is =
      ap (tree_words kind) (drop_more counts i 0 within)
      ∙ ap (λ (k : ℕ). HEADER_WORDS + type_words (element_type kind) * k + k * rest) (sym count)
      ∙ ap (λ (k : ℕ). k + n * rest) (sym costs)

  next_whole : (words + arrays * cost) + (arrays * n) * rest ≡ tree_words t counts
  next_whole =
      let before : words + arrays * (cost + n * rest) ≡ tree_words t counts =
      ap (λ (k : ℕ). words + arrays * k) (sym next_is) ∙ so_far.whole in
      omega (arith, before)

  one_counted : n ≤ cost → words + arrays * cost ≤ 16777216
      → WordsSoFar t (element_type kind) counts (i + 1) (arrays * n) (words + arrays * cost)
  one_counted least most =
      let kind_next : t.dims - i - 1 ≡ t.dims - (i + 1) = omega arith in
      let fewer : arrays * n ≤ arrays * cost = mul-le-mul_left arrays least in
      record {
        kind_is = ap element_type so_far.kind_is ∙ ap (λ (k : ℕ). array_type k t.base) kind_next;
        whole = next_whole;
        few = omega (arith, fewer, most);
        small = most;
      }

pub level_counted : (t kind next : TypeRef) (counts : List ℕ) (i arrays words n cost : ℕ) → i < length counts → next ≡ element_type kind
    → n ≡ get_or counts i 0 → cost ≡ HEADER_WORDS + type_words next * get_or counts i 0 → get_or counts i 0 ≤ cost
    → words + arrays * cost ≤ 16777216 → WordsSoFar t kind counts i arrays words
    → WordsSoFar t next counts (i + 1) (arrays * n) (words + arrays * cost)
level_counted t kind next counts i arrays words n cost within below count costs least most so_far =
    let here : cost ≡ HEADER_WORDS + type_words (element_type kind) * get_or counts i 0 =
    costs ∙ ap (λ (k : TypeRef). HEADER_WORDS + type_words k * get_or counts i 0) below in
    subst (λ (k : TypeRef). WordsSoFar t k counts (i + 1) (arrays * n) (words + arrays * cost)) (sym below)
    (subst (λ (k : ℕ). WordsSoFar t (element_type kind) counts (i + 1) (arrays * k) (words + arrays * cost)) (sym count)
    (one_counted t kind counts i arrays words (get_or counts i 0) cost within refl here so_far least most))
