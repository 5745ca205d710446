-- A text of two units whose second one is written: it is there with its units.
use Rattle.std.proofs.Common.{◌≡◌, ◌<◌, ℕ, pos, List, [], ◌∷◌, ◌==◌, length, Option, Some, None, IsSome, refl, ap, ◌∙◌, arith}
use Rattle.std.specs.List.{AllByRecursion, IsDistinct}
use Rattle.jk_model.specs.declared.identifiers.DomainId.{DomainId}
use Rattle.jk_model.specs.declared.values.Value.{Value}
use Rattle.jk_model.specs.declared.values.Value.TheVariants as Held
use Rattle.jk_model_classes.specs.declared.records.ClassRecord.{ClassRecord}
use Rattle.jk_model_domains.specs.Objects.{NamedObject, Object, Text, object_named}
use Rattle.object_store.specs.HeapContents.{HasItem, HeapContent, IsAdmitted, IsLive, IsWritten, WritesObject, item_of}
use Rattle.object_store.proofs.ObjectsWritten.{live_after}

not_there : (o : Option ℕ) → o ≡ None → IsSome o → ⊥
not_there None e some = cc
not_there (Some x) e some = cc

-- where no domain is admitted, few are
pub few_by : (c : HeapContent) → ((d : DomainId) → c.quota d ≡ None) → (domains : List DomainId)
    → IsDistinct (λ (d e : DomainId). d.0 == e.0) domains → AllByRecursion (IsAdmitted c) domains → length domains < 140000
few_by c none [] distinct all = omega arith
few_by c none (d ∷ ds) distinct all = absurd (not_there (c.quota d) (none d) all.0)

abbrev pub zeros : Object
zeros = Text (0 ∷ 0 ∷ [])

abbrev pub written : Object
written = Text (0 ∷ 65535 ∷ [])

pub live_written : (old new : HeapContent) (d : DomainId) (a : ℕ) → IsLive old d a zeros
    → ((object after : Object) → IsLive old d a object → IsWritten object 1 (Held.Int (pos 65535)) after → WritesObject old new d a after)
    → IsLive new d a written
live_written old new d a live writes =
    live_after old new d a zeros written live (writes zeros written live (omega arith, omega arith, refl))

pub still_live : (old new : HeapContent) (d : DomainId) (a : ℕ) → ((e : DomainId) → new.heap e ≡ old.heap e) → IsLive old d a written
    → IsLive new d a written
still_live old new d a same live = ap (λ (heap : List NamedObject). object_named heap a) (same d) ∙ live

pub has_unit : (c : HeapContent) (classes : List ClassRecord) (d : DomainId) (a i : ℕ) (v : Value) → IsLive c d a written → item_of written i ≡ Some v
    → HasItem c classes d a i
has_unit c classes d a i v live is = record { object = written; live = live; laid_out = tt; value = v; stands = is }
