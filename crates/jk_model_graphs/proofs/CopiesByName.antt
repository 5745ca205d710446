-- What a heap with copies behind its objects has under each name.
use Rattle.std.proofs.Common.{◌≡◌, ℕ, List, Some, None, sym, ap, ◌∙◌, Contains}
use Rattle.jk_model_classes.specs.declared.records.ClassRecord.{ClassRecord}
use Rattle.jk_model_domains.specs.Objects.{NamedObject, Object, object_named}
use Rattle.jk_model_graphs.specs.Copies.{ArePaired, IsCopy}
use Rattle.jk_model_graphs.specs.Reach.{Graph}
use Rattle.jk_model_heaps.specs.Heaps.{named}
use Rattle.jk_model_heaps.proofs.NamesInHeaps.{behind, in_front, stands}

-- the copy of a pair has a name that the heap lacked
pub copy_is_new : (classes : List ClassRecord) (source : Graph) (before : List NamedObject) (copy : Graph) (pairs : List (ℕ × ℕ)) (a b : ℕ)
    → IsCopy classes source before copy pairs → Contains pairs (a, b)
    → (object_named before b ≡ None) × ArePaired classes source.heap copy.heap pairs a b
copy_is_new classes source before copy pairs a b h pair =
    let paired = h.each_made a b pair in
    let lacked : object_named before b ≡ None = h.fresh (named b paired.copy) (stands h.made b paired.copy paired.is_copy) in
    let found : object_named copy.heap b ≡ Some paired.copy =
    ap (λ (heap : List NamedObject). object_named heap b) h.grown ∙ behind before h.made b lacked ∙ paired.is_copy in
    (lacked, record { object = paired.object; is_object = paired.is_object; copy = paired.copy; is_copy = found; same = paired.same })

pub names_stay : (classes : List ClassRecord) (source : Graph) (before : List NamedObject) (copy : Graph) (pairs : List (ℕ × ℕ)) (b : ℕ) (object : Object)
    → IsCopy classes source before copy pairs → object_named before b ≡ Some object → object_named copy.heap b ≡ Some object
names_stay classes source before copy pairs b object h is =
    ap (λ (heap : List NamedObject). object_named heap b) h.grown ∙ in_front before h.made b object is

pub no_other_is_new : (classes : List ClassRecord) (source : Graph) (before : List NamedObject) (copy : Graph) (pairs : List (ℕ × ℕ)) (b : ℕ) (object : Object)
    → IsCopy classes source before copy pairs → object_named copy.heap b ≡ Some object → object_named before b ≡ None
    → (a : ℕ) × Contains pairs (a, b)
no_other_is_new classes source before copy pairs b object h is lacked =
    let made : object_named h.made b ≡ Some object =
    sym (behind before h.made b lacked) ∙ sym (ap (λ (heap : List NamedObject). object_named heap b) h.grown) ∙ is in
    h.all_made (named b object) (stands h.made b object made)
