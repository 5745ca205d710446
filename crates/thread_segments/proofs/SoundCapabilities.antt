-- What domains share stays sound where a capability is created or revoked.
use Rattle.std.proofs.Common.{◌≡◌, ℕ, suc, ◌≤◌, inl, inr, true, false, List, [], ◌∷◌, length, map, Some, Contains, refl, sym, ap, subst, ◌∙◌, arith, length-append, Result}
use Rattle.std.specs.Prelude.{◌==◌, ◌-◌}
use Rattle.std.proofs.lemmas.Bool.{cases_Bool, eqb-true}
use Rattle.std.proofs.lemmas.List.Elements.{Contains-append_cases}
use Rattle.std.proofs.lemmas.Option.{same_Some}
use Rattle.jk_model.specs.declared.identifiers.CapId.{CapId}
use Rattle.jk_model.specs.declared.identifiers.ClassId.{ClassId}
use Rattle.jk_model.specs.declared.identifiers.DomainId.{DomainId}
use Rattle.jk_model.specs.declared.steps.Raise.{Raise}
use Rattle.jk_model_classes.specs.declared.sharing.Stub.{Stub}
use Rattle.jk_model_heaps.specs.Capabilities.{CapRange, Capability}
use Rattle.jk_model_sharing.specs.CapabilityCalls.{Creates, Revokes, has_room, of_another, own, revoked_at, revoked_capability, used_up, with_capability_revoked, with_created}
use Rattle.jk_model_sharing.specs.SharedStates.{SharedDomain, SharedState, domain_numbered, stub_for, with_caps}
use Rattle.list_lemmas.proofs.ItemsOfLists.{Contains-cases, Contains-here, Contains-none, Contains-there, only_in}
use Rattle.thread_segments.specs.Answers.{CreatesFor, RevokesFor, has_stub, no_stub}
use Rattle.thread_segments.specs.Asked.{IsLiveDomain}
use Rattle.thread_segments.specs.SoundStates.{AreSound}
use Rattle.thread_segments.proofs.SoundDomains.{IsSoundDomain, Refits, one_changed, sound_domain, sound_one}
use Rattle.thread_segments.proofs.SoundGrowth.{found_domain, of_domain}

pub maps_alike : {X Y : Type 0} (f g : X → Y) (xs : List X) → ((x : X) → Contains xs x → f x ≡ g x) → map f xs ≡ map g xs
maps_alike f g [] same = refl
maps_alike f g (x ∷ xs) same =
    rw (same x (Contains-here x xs), maps_alike f g xs (λ y there. same y (Contains-there y x xs there))) refl

-- ---- One domain's capabilities are changed.

abbrev caps_changed : (CapRange → CapRange) → SharedDomain → SharedDomain
caps_changed f e = record e { caps = f e.caps }

-- A range keeps its owner and its numbers, and loses no capability.
pub record KeepsRange (f : CapRange → CapRange) : Type 0 where
  pub owner : (r : CapRange) → (f r).owner ≡ r.owner
  pub first : (r : CapRange) → (f r).first ≡ r.first
  pub count : (r : CapRange) → (f r).count ≡ r.count
  pub made : (r : CapRange) → length r.made ≤ length (f r).made

module _ (f : CapRange → CapRange) (k : KeepsRange f) where
  caps_refit : Refits (caps_changed f)
  caps_refit = record {
    number = λ e. refl;
    live = λ e. refl;
    quotas = λ e. refl;
    owner = λ e. k.owner e.caps;
    first = λ e. k.first e.caps;
    count = λ e. k.count e.caps;
    made = λ e. k.made e.caps;
  }

  pub sound_caps : (s : SharedState) (d : DomainId) (e : SharedDomain) (range : CapRange) → domain_numbered s d ≡ Some e → f e.caps ≡ range
      → IsSoundDomain s (caps_changed f e) → AreSound s → AreSound (with_caps d range s)
  sound_caps s d e range is becomes right h =
      let P : List SharedDomain → Type 0 = λ ds. AreSound (record s { domains = ds }) in
      let same : map (one_changed d (caps_changed f)) s.domains ≡ map (one_changed d (λ (x : SharedDomain). record x { caps = range })) s.domains =
      maps_alike (one_changed d (caps_changed f)) (one_changed d (λ (x : SharedDomain). record x { caps = range })) s.domains (λ x there. alike x there) in
      subst P same
      (sound_one d (caps_changed f) caps_refit s
      (λ x there number. subst (λ (y : SharedDomain). IsSoundDomain s (caps_changed f y)) (of_domain s h.numbered d e x is there number) right) h)
    where
      alike : (x : SharedDomain) → Contains s.domains x → one_changed d (caps_changed f) x ≡ one_changed d (λ (x : SharedDomain). record x { caps = range }) x
      alike x there = elim (cases_Bool (x.number.0 == d.0)) [
        | inl hit ↦
            let one = of_domain s h.numbered d e x is there (eqb-true x.number.0 d.0 hit) in
            rw hit (ap (λ (c : CapRange). let y : SharedDomain = record x { caps = c } in y) (ap (λ (y : SharedDomain). f y.caps) (sym one) ∙ becomes))
        | inr miss ↦ rw miss refl
      ]

abbrev same_range : CapRange → CapRange
same_range r = r

range_kept : KeepsRange same_range
range_kept = record { owner = λ r. refl; first = λ r. refl; count = λ r. refl; made = λ r. omega arith }

-- its range is put where it stands
sound_same : (s : SharedState) (d : DomainId) (e : SharedDomain) → domain_numbered s d ≡ Some e → AreSound s → AreSound (with_caps d e.caps s)
sound_same s d e is h = sound_caps same_range range_kept s d e e.caps is refl (sound_domain s h e (found_domain s d e is).0) h

-- ---- One more capability.

created_kept : (class : ClassId) (target : ℕ) → KeepsRange (with_created class target)
created_kept class target = record {
  owner = λ r. refl;
  first = λ r. refl;
  count = λ r. refl;
  made = λ r. omega (arith, length-append r.made (record { target = target; class = class; revoked = false } ∷ []));
}

live_is : (s : SharedState) (d : DomainId) (e : SharedDomain) → IsLiveDomain s d → domain_numbered s d ≡ Some e → e.live ≡ true
live_is s d e l is = ap (λ (x : SharedDomain). x.live) (same_Some e l.0 (sym is ∙ l.1)) ∙ l.2

sound_new : (s : SharedState) (d : DomainId) (class : ClassId) (target : ℕ) (stub : Stub) (e : SharedDomain) (answer : Result CapId Raise) (range : CapRange)
    → IsLiveDomain s d → stub_for s class ≡ Some stub → domain_numbered s d ≡ Some e → Creates e.caps class target answer range → AreSound s
    → AreSound (with_caps d range s)
sound_new s d class target stub e answer range live has is (used_up full) h = sound_same s d e is h
sound_new s d class target stub e answer range live has is (has_room room) h =
    let was = sound_domain s h e (found_domain s d e is).0 in
    let new : Capability = record { target = target; class = class; revoked = false } in
    let lives = live_is s d e live is in
    sound_caps (with_created class target) (created_kept class target) s d e (with_created class target e.caps) is refl
    (record {
      budget = was.budget;
      made = omega (arith, length-append e.caps.made (new ∷ []), room);
      dead = λ c gone made. let never : true ≡ false = sym lives ∙ gone in cc;
      have_stubs =
          λ c made. elim (Contains-append_cases e.caps.made (new ∷ []) c made) [
            | inl old ↦ was.have_stubs c old
            | inr last ↦
                let same : new ≡ c = only_in c new (new ∷ []) refl last in
                let P : Capability → Type 0 = λ x. (b : Stub) × (stub_for s x.class ≡ Some b) in
                subst P same (stub, has)
          ];
    }) h

pub sound_created : (s : SharedState) (d : DomainId) (class : ClassId) (target : ℕ) (answer : Result CapId Raise) (new : SharedState) → IsLiveDomain s d
    → CreatesFor s d class target answer new → AreSound s → AreSound new
sound_created s d class target answer new live (no_stub none) h = h
sound_created s d class target answer new live (has_stub stub e _ range has is creates) h =
    sound_new s d class target stub e answer range live has is creates h

-- ---- One is revoked.

length-revoked : (made : List Capability) (place : ℕ) → length (revoked_at made place) ≡ length made
length-revoked [] place = refl
length-revoked (c ∷ made) place = elim (cases_Bool (place == 0)) [
  | inl hit ↦ rw hit refl
  | inr miss ↦ rw miss (ap suc (length-revoked made (place - 1)))
]

-- what one was before
was_before : (made : List Capability) (place : ℕ) (c : Capability) → Contains (revoked_at made place) c → (b : Capability) × Contains made b
    × (b.class ≡ c.class)
was_before [] place c there = absurd (Contains-none c there)
was_before (x ∷ made) place c there = elim (cases_Bool (place == 0)) [
  | inl hit ↦
      let among : Contains (revoked_capability x ∷ made) c = rw hit at there in
      elim (Contains-cases c (revoked_capability x) made among) [
        | inl here ↦ (x, Contains-here x made, ap (λ (y : Capability). y.class) here)
        | inr later ↦ (c, Contains-there c x made later, refl)
      ]
  | inr miss ↦
      let among : Contains (x ∷ revoked_at made (place - 1)) c = rw miss at there in
      elim (Contains-cases c x (revoked_at made (place - 1)) among) [
        | inl here ↦ (x, Contains-here x made, ap (λ (y : Capability). y.class) here)
        | inr later ↦ let b = was_before made (place - 1) c later in (b.0, Contains-there b.0 x made b.1, b.2)
      ]
]

revoked_kept : (k : CapId) → KeepsRange (with_capability_revoked k)
revoked_kept k = record {
  owner = λ r. refl;
  first = λ r. refl;
  count = λ r. refl;
  made = λ r. omega (arith, length-revoked r.made (k.0 - r.first));
}

sound_revocation : (s : SharedState) (d : DomainId) (k : CapId) (e : SharedDomain) (answer : Result (Unit {0}) Raise) (range : CapRange) → IsLiveDomain s d
    → domain_numbered s d ≡ Some e → Revokes e.caps k answer range → AreSound s → AreSound (with_caps d range s)
sound_revocation s d k e answer range live is (of_another other) h = sound_same s d e is h
sound_revocation s d k e answer range live is (own its) h =
    let was = sound_domain s h e (found_domain s d e is).0 in
    let lives = live_is s d e live is in
    sound_caps (with_capability_revoked k) (revoked_kept k) s d e (with_capability_revoked k e.caps) is refl
    (record {
      budget = was.budget;
      made = omega (arith, length-revoked e.caps.made (k.0 - e.caps.first), was.made);
      dead = λ c gone made. let never : true ≡ false = sym lives ∙ gone in cc;
      have_stubs =
          λ c made.
          let b = was_before e.caps.made (k.0 - e.caps.first) c made in
          let P : ClassId → Type 0 = λ x. (stub : Stub) × (stub_for s x ≡ Some stub) in
          subst P b.2 (was.have_stubs b.0 b.1);
    }) h

pub sound_revoked : (s new : SharedState) (d : DomainId) (k : CapId) (answer : Result (Unit {0}) Raise) → IsLiveDomain s d
    → RevokesFor s d k answer new → AreSound s → AreSound new
sound_revoked s new d k answer live r h =
    let P : SharedState → Type 0 = λ x. AreSound x in
    subst P (sym r.becomes) (sound_revocation s d k r.domain answer r.range live r.is_domain r.revokes h)
