-- What is made by counts costs what the counts say.
use Rattle.std.proofs.Common.{◌≡◌, ℕ, ◌+◌, ◌*◌, List, [], ◌∷◌, length, map, ap, ap₂, ◌∙◌, arith}
use Rattle.std.specs.Prelude.{flat_map}
use Rattle.std.specs.List.{AllByRecursion}
use Rattle.std.proofs.lemmas.List.{length-map}
use Rattle.std.proofs.lemmas.List.Sums.{sum_by-append, sum_by-cons}
use Rattle.jk_model_classes.specs.declared.records.ClassRecord.{ClassRecord}
use Rattle.jk_model_classes.specs.declared.records.TypeRef.{TypeRef}
use Rattle.jk_model_classes.specs.Layouts.{HEADER_WORDS, type_words}
use Rattle.jk_model_domains.specs.Objects.{Array, NamedObject, object_words}
use Rattle.jk_model_heaps.specs.Heaps.{heap_words, named}
use Rattle.jk_model_heap_rows.specs.ArrayTrees.{IsTree, Made, element_type, tree_words}

abbrev words_of : List ClassRecord → NamedObject → ℕ
words_of classes e = object_words classes e.object

abbrev all_objects : List Made → List NamedObject
all_objects items = flat_map (λ (e : Made). e.objects) items

-- items of one cost each
items_cost : (classes : List ClassRecord) (n : ℕ) (P : Made → Type 0)
    → ((tree : Made) → P tree → heap_words classes tree.objects ≡ n) → (items : List Made) → AllByRecursion P items
    → heap_words classes (all_objects items) ≡ length items * n
items_cost classes n P each [] h = omega arith
items_cost classes n P each (x ∷ items) h =
    let here : heap_words classes x.objects ≡ n = each x h.0 in
    let rest : heap_words classes (all_objects items) ≡ length items * n = items_cost classes n P each items h.1 in
    sum_by-append (words_of classes) x.objects (all_objects items) ∙ omega arith

pub trees_cost : (classes : List ClassRecord) (counts : List ℕ) (t : TypeRef) (tree : Made) → IsTree t counts tree
    → heap_words classes tree.objects ≡ tree_words t counts
trees_cost classes [] t tree e = ap (λ (m : Made). heap_words classes m.objects) e
trees_cost classes (n ∷ counts) t tree (a, items, many, each, e) =
    let element : TypeRef = element_type t in
    let top : NamedObject = named a (Array element (map (λ (m : Made). m.value) items)) in
    let below : heap_words classes (all_objects items) ≡ length items * tree_words element counts =
    items_cost classes (tree_words element counts) (IsTree element counts) (trees_cost classes counts element) items each in
    ap (λ (m : Made). heap_words classes m.objects) e
    ∙ sum_by-cons (words_of classes) top (all_objects items)
    ∙ ap₂ (λ (x y : ℕ). x + y)
    (ap (λ (k : ℕ). HEADER_WORDS + type_words element * k) (length-map items (λ (m : Made). m.value) ∙ many))
    (below ∙ ap (λ (k : ℕ). k * tree_words element counts) many)
