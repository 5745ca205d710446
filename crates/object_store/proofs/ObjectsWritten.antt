-- An object of a store is written: what stands there then, and what two writes make together.
use Rattle.std.proofs.Common.{◌≡◌, ◌≢◌, ℕ, ◌+◌, ◌≤◌, List, [], Option, Some, None, refl, sym, ap, ◌∙◌, arith}
use Rattle.jk_model.specs.declared.identifiers.DomainId.{DomainId}
use Rattle.jk_model_classes.specs.declared.records.ClassRecord.{ClassRecord}
use Rattle.jk_model_domains.specs.Objects.{NamedObject, Object, object_named, object_words}
use Rattle.jk_model_heaps.specs.Heaps.{with_object}
use Rattle.object_store.specs.HeapContents.{HeapContent, IsHeapContent, IsLive, KeepsDomains, MakesObject, WritesObject, size_of}
use Rattle.object_store.proofs.ObjectsByName.{named_at_end, named_beside, named_in_place, written_as_is, written_at_end, written_twice}

-- an object of a heap is small: sums of three places or lengths fit 32 bits
sized_by : (c : HeapContent) (d : DomainId) (a : ℕ) (object : Object) → IsHeapContent c → IsLive c d a object → (q : Option ℕ) → c.quota d ≡ q
    → size_of object + 4 ≤ 16777216
sized_by c d a object holds live None none =
    let empty : c.heap d ≡ [] = (holds.unused d none).0.heap in
    let nothing : None ≡ Some object = sym (ap (λ (heap : List NamedObject). object_named heap a) empty) ∙ live in
    absurd cc
sized_by c d a object holds live (Some q) some =
    let within = holds.within d q some in
    let sized = holds.sized d a object live in
    omega arith

pub is_short : (c : HeapContent) (d : DomainId) (a : ℕ) (object : Object) → IsHeapContent c → IsLive c d a object → size_of object + 4 ≤ 16777216
is_short c d a object holds live = sized_by c d a object holds live (c.quota d) refl

pub both_keep : (a b c : HeapContent) → KeepsDomains a b → KeepsDomains b c → KeepsDomains a c
both_keep a b c first second = record {
  pages = second.pages ∙ first.pages;
  took_all = second.took_all ∙ first.took_all;
  quota = λ d. second.quota d ∙ first.quota d;
  first_page = λ d. second.first_page d ∙ first.first_page d;
}

-- where an object is written as it stands, nothing changes
pub written_as_it_is : (c : HeapContent) (d : DomainId) (a : ℕ) (object : Object) → IsHeapContent c → IsLive c d a object
    → WritesObject c c d a object
written_as_it_is c d a object holds live = record {
  domains = record { pages = refl; took_all = refl; quota = λ e. refl; first_page = λ e. refl };
  becomes = sym (written_as_is a object (c.heap d) (holds.differ d) live);
  others = λ e differ. refl;
  uses = refl;
  other_uses = λ e differ. refl;
  mark = λ e b. refl;
}

pub live_after : (old new : HeapContent) (d : DomainId) (a : ℕ) (before after : Object) → IsLive old d a before → WritesObject old new d a after
    → IsLive new d a after
live_after old new d a before after live writes =
    ap (λ (heap : List NamedObject). object_named heap a) writes.becomes ∙ named_in_place a after before (old.heap d) live

pub live_beside : (old new : HeapContent) (d : DomainId) (a b : ℕ) (after object : Object) → b ≢ a → IsLive old d b object
    → WritesObject old new d a after → IsLive new d b object
live_beside old new d a b after object differ live writes =
    ap (λ (heap : List NamedObject). object_named heap b) writes.becomes ∙ named_beside a b after (old.heap d) differ ∙ live

-- the second of two writes counts
pub then_written : (c mid new : HeapContent) (d : DomainId) (a : ℕ) (p q : Object) → WritesObject c mid d a p → WritesObject mid new d a q
    → WritesObject c new d a q
then_written c mid new d a p q first second = record {
  domains = both_keep c mid new first.domains second.domains;
  becomes = second.becomes ∙ ap (with_object a q) first.becomes ∙ written_twice a p q (c.heap d);
  others = λ e differ. second.others e differ ∙ first.others e differ;
  uses = second.uses ∙ first.uses;
  other_uses = λ e differ. second.other_uses e differ ∙ first.other_uses e differ;
  mark = λ e b. second.mark e b ∙ first.mark e b;
}

-- ---- An object that was made is written before anybody sees it.

pub live_made : (old new : HeapContent) (classes : List ClassRecord) (d : DomainId) (a : ℕ) (object : Object)
    → MakesObject old new classes d a object → IsLive new d a object
live_made old new classes d a object made =
    ap (λ (heap : List NamedObject). object_named heap a) made.becomes.becomes ∙ named_at_end a object (old.heap d) made.fresh

pub made_with : (old mid new : HeapContent) (classes : List ClassRecord) (d : DomainId) (a : ℕ) (p q : Object)
    → object_words classes q ≡ object_words classes p → MakesObject old mid classes d a p → WritesObject mid new d a q
    → MakesObject old new classes d a q
made_with old mid new classes d a p q cost made writes = record {
  fresh = made.fresh;
  small = made.small;
  unmarked = writes.mark d a ∙ made.unmarked;
  becomes = record {
    domains = both_keep old mid new made.becomes.domains writes.domains;
    becomes = writes.becomes ∙ ap (with_object a q) made.becomes.becomes ∙ written_at_end a p q (old.heap d) made.fresh;
    others = λ e differ. writes.others e differ ∙ made.becomes.others e differ;
    uses = writes.uses ∙ made.becomes.uses ∙ ap (λ (n : ℕ). old.used d + n) (sym cost);
    other_uses = λ e differ. writes.other_uses e differ ∙ made.becomes.other_uses e differ;
    mark = λ e b. writes.mark e b ∙ made.becomes.mark e b;
  };
}
