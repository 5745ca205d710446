-- What domains share can be made anew of its parts, whatever they did.
use Rattle.std.proofs.Common.{◌≡◌, ℕ, suc, ◌≤◌, inl, inr, List, [], ◌∷◌, Contains, Some, slice_get, refl, ap, subst, arith}
use Rattle.jk_model.specs.declared.script.Quotas.{Quotas}
use Rattle.jk_model_classes.specs.declared.sharing.Stub.{Stub}
use Rattle.jk_model_heaps.specs.Capabilities.{CapRange}
use Rattle.jk_model_sharing.specs.Segments.{SharedThread}
use Rattle.jk_model_sharing.specs.SharedStates.{SharedDomain}
use Rattle.list_lemmas.proofs.ItemsOfLists.{Contains-cases, Contains-none}
use Rattle.thread_segments.specs.declared.domains.DomainEntry.{DomainEntry}
use Rattle.thread_segments.specs.DomainEntries.{IsKept, domain_with, domains_with, state_of}
use Rattle.thread_segments.specs.NameEntries.{NameList}
use Rattle.thread_segments.specs.RestoredStates.{IsRestorable}
use Rattle.thread_segments.proofs.DomainsByNumber.{length-domains_with}
use Rattle.thread_stacks.specs.LiveStacks.{segment_key}
use Rattle.thread_stacks.specs.Places.{AreRisingBy}
use Rattle.thread_stacks.specs.Stacks.{ThreadList}

-- a domain's quotas are those of an entry
entry_of : (n : ℕ) (es : List DomainEntry) (rs : List CapRange) (e : SharedDomain) → Contains (domains_with n es rs) e
    → (i : ℕ) × (x : DomainEntry) × (slice_get es i ≡ Some x) × (x.quotas ≡ e.quotas)
entry_of n [] rs e there = absurd (Contains-none e there)
entry_of n (x ∷ es) [] e there = absurd (Contains-none e there)
entry_of n (x ∷ es) (r ∷ rs) e there = elim (Contains-cases e (domain_with n x r) (domains_with (suc n) es rs) there) [
  | inl here ↦ (0, x, refl, ap (λ (y : SharedDomain). y.quotas) here)
  | inr later ↦ let f = entry_of (suc n) es rs e later in (suc f.0, f.1, f.2, f.3)
]

pub restorable : (es : List DomainEntry) (rs : List CapRange) (stubs : List Stub) (ns : NameList) (t : ThreadList) → IsKept es rs stubs ns t
    → ((u : SharedThread) → Contains t.threads u → AreRisingBy segment_key u.segments) → IsRestorable (state_of es rs stubs ns t)
restorable es rs stubs ns t k rise = record {
  sound = k.sound;
  few = omega (arith, k.segments.few, length-domains_with 0 es rs k.counted.as_many);
  threads =
      λ e there.
      let f = entry_of 0 es rs e there in
      subst (λ (q : Quotas). q.threads ≤ 4096) f.3 (k.counted.small f.0 f.1 f.2);
  names =
      λ e there.
      let f = entry_of 0 es rs e there in
      subst (λ (q : Quotas). q.names ≤ 4096) f.3 (k.named.small f.0 f.1 f.2);
  rise = rise;
}
