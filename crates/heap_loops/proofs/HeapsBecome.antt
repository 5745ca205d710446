-- Two changes of a heap after one another are one, a change may be told otherwise, and what is left for what comes next.
use Rattle.std.proofs.Common.{◌≡◌, ℕ, ◌+◌, ◌-◌, ◌<◌, ◌≤◌, List, [], ◌∷◌, Option, Some, None, ◌∙◌, subst, arith}
use Rattle.std.specs.Option.{option_map_or}
use Rattle.std.proofs.lemmas.List.Sums.{sum_by-cons}
use Rattle.jk_model.specs.declared.identifiers.DomainId.{DomainId}
use Rattle.jk_model_classes.specs.declared.records.ClassRecord.{ClassRecord}
use Rattle.jk_model_domains.specs.Objects.{NamedObject, Object, object_words}
use Rattle.jk_model_heaps.specs.Heaps.{heap_words, named}
use Rattle.object_store.specs.HeapContents.{HeapBecomes, HeapContent}
use Rattle.object_store.proofs.ObjectsWritten.{both_keep}

pub told : (old new : HeapContent) (d : DomainId) (heap others : List NamedObject) (used words : ℕ) → heap ≡ others → used ≡ words
    → HeapBecomes old new d heap used → HeapBecomes old new d others words
told old new d heap others used words same as_many becomes =
    subst (λ (n : ℕ). HeapBecomes old new d others n) as_many (subst (λ (h : List NamedObject). HeapBecomes old new d h used) same becomes)

pub both_become : (a b c : HeapContent) (d : DomainId) (heap others : List NamedObject) (used words : ℕ) → HeapBecomes a b d heap used
    → HeapBecomes b c d others words → HeapBecomes a c d others words
both_become a b c d heap others used words first second = record {
  domains = both_keep a b c first.domains second.domains;
  becomes = second.becomes;
  others = λ e differ. second.others e differ ∙ first.others e differ;
  uses = second.uses;
  other_uses = λ e differ. second.other_uses e differ ∙ first.other_uses e differ;
  mark = λ e x. second.mark e x ∙ first.mark e x;
}

-- ---- Words.

pub one_word : (classes : List ClassRecord) (a : ℕ) (object : Object) → object_words classes object ≡ heap_words classes (named a object ∷ [])
one_word classes a object = let sum = sum_by-cons (λ (e : NamedObject). object_words classes e.object) (named a object) [] in omega (arith, sum)

pub room_by : (q : Option ℕ) (used before whole part here : ℕ) → used ≡ before + here → here + part ≤ whole → 0 < whole
    → whole ≤ option_map_or (λ (k : ℕ). k - before) q 0 → part ≤ option_map_or (λ (k : ℕ). k - used) q 0
room_by None used before whole part here is fits some room = omega arith
room_by (Some q) used before whole part here is fits some room = omega arith
