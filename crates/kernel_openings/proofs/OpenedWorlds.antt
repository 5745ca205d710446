-- The world with the classes of an accepted folder, and with its domain's names, is one in which a folder may be loaded.
use Rattle.std.proofs.Common.{◌≡◌, ℕ, zero, suc, ◌+◌, ◌<◌, ◌≤◌, ◌⊎◌, inl, inr, true, List, [], ◌∷◌, ◌++◌, length, Some, slice_get, Contains, refl, sym, ap, subst, ◌∙◌, arith, length-append}
use Rattle.std.proofs.lemmas.Option.{same_Some}
use Rattle.list_lemmas.proofs.ItemsOfLists.{place_of}
use Rattle.jk_model.specs.declared.identifiers.ClassId.{ClassId}
use Rattle.jk_model.specs.declared.identifiers.DomainId.{DomainId}
use Rattle.jk_model_classes.specs.declared.records.ClassRecord.{ClassRecord}
use Rattle.jk_model_classes.specs.declared.sharing.Offer.{Offer}
use Rattle.jk_model_classes.specs.declared.sharing.Stub.{Stub}
use Rattle.jk_model_classes.specs.Classes.{AreOrdered, HasClass, record_of}
use Rattle.jk_model_classes.specs.Worlds.{DomainRecord, IsLiveNamed, IsNamed, IsWorld, NamedClass, WorldRecord}
use Rattle.jk_model_folders.specs.declared.files.FolderFiles.{FolderFiles}
use Rattle.jk_model_folders.specs.FolderTrees.{AreFiles}
use Rattle.jk_model_folders.specs.Loads.{Loads, MayLoad}
use Rattle.class_growth.proofs.ItemsOfLists.{slice_get-append_cases}
use Rattle.class_growth.proofs.MoreClasses.{has_class-still}
use Rattle.sound_folders.proofs.NamesOfTables.{meant-from}
use Rattle.sound_folders.proofs.NewClasses.{added, all, meant_there, own_file, names_there}

-- an item of a list with one more is one of the list, or that one at the end
pub last_or_before : {X : Type 0} (xs : List X) (y : X) (i : ℕ) (x : X) → slice_get (xs ++ y ∷ []) i ≡ Some x
    → ((i < length xs) × (slice_get xs i ≡ Some x)) ⊎ ((i ≡ length xs) × (y ≡ x))
last_or_before [] y zero x at = inr (refl, same_Some y x at)
last_or_before [] y (suc i) x at = absurd cc
last_or_before (z ∷ xs) y zero x at = inl (omega arith, at)
last_or_before (z ∷ xs) y (suc i) x at = elim (last_or_before xs y i x at) [
  | inl before ↦ inl (omega (arith, before.0), before.1)
  | inr last ↦ inr (ap suc last.0, last.1)
]

module _ {f : FolderFiles} {w : WorldRecord} {into : List ℕ} {first : ClassId} {table : List NamedClass} {offers : List Offer} {stubs : List Stub}
    {new : WorldRecord} (l : Loads f w into first table offers stubs new) (may : MayLoad w) where
  -- ---- The classes.

  pub named_there : (c : ClassId) → IsNamed l.placed.table c → HasClass (all l) c
  named_there c (name, on) = meant_there l may name c (meant-from l.placed.table l.is_placed.names_differ name c on)

  pub as_many_added : AreFiles f → length (added l) ≤ 512
  as_many_added files = omega (arith, files.few, l.are_classes.as_many, l.is_placed.as_many)

  home_there : (n : ℕ) → n ≡ length w.domains + 1 → (c : ClassId) (r : ClassRecord) (d : DomainId) → record_of (all l) c ≡ Some r → r.home ≡ Some d
      → d.0 < n
  home_there n more c r d is home = elim (slice_get-append_cases w.classes (added l) c.0 r is) [
    | inl old ↦ elim (may.world.homes c r d old home) [
      | inl low ↦ omega (arith, low, more)
      | inr next ↦ omega (arith, next, more)
    ]
    | inr later ↦
        let place = place_of (added l) r later in
        let own = own_file l place.0 r place.1 in
        let same : l.placed.home ≡ d = same_Some l.placed.home d (sym own.is_record.at_home ∙ home) in
        omega (arith, ap (λ (x : DomainId). x.0) same, l.is_placed.home, more)
  ]

  -- ---- The domains.

  module _ (name : List ℕ) (not_live : (d : DomainId) → IsLiveNamed w name d → ⊥) (ordered : AreOrdered (all l)) where
    abbrev d : DomainRecord
    d = record { id = record { 0 = length w.domains }; name = name; live = true; table = l.placed.table; offers = l.placed.offers }

    abbrev opened : WorldRecord
    opened = record { classes = all l; domains = w.domains ++ d ∷ [] }

    one_more : length opened.domains ≡ length w.domains + 1
    one_more = omega (arith, length-append w.domains (d ∷ []))

    -- a live domain is one that was there, or the new one
    abbrev IsOldOrNew : List ℕ → DomainId → Type 0
    IsOldOrNew other a = IsLiveNamed w other a ⊎ ((a.0 ≡ length w.domains) × (name ≡ other))

    live_domain : (other : List ℕ) (a : DomainId) → IsLiveNamed opened other a → IsOldOrNew other a
    live_domain other a (r, is, live, called) = elim (last_or_before w.domains d a.0 r is) [
      | inl old ↦ inl (r, old.1, live, called)
      | inr last ↦ inr (last.0, ap (λ (x : DomainRecord). x.name) last.1 ∙ called)
    ]

    one_live : (other : List ℕ) (a b : DomainId) → IsOldOrNew other a → IsOldOrNew other b → a ≡ b
    one_live other a b (inl old) (inl before) = may.world.names_differ other a b old before
    one_live other a b (inl old) (inr last) = absurd (not_live a (subst (λ (n : List ℕ). IsLiveNamed w n a) (sym last.1) old))
    one_live other a b (inr last) (inl old) = absurd (not_live b (subst (λ (n : List ℕ). IsLiveNamed w n b) (sym last.1) old))
    one_live other a b (inr last) (inr end) = ap (λ (n : ℕ). let x : DomainId = record { 0 = n } in x) (last.0 ∙ sym end.0)

    pub opened_world : length w.domains < 65535 → IsWorld opened (length opened.domains)
    opened_world few = record {
      numbered = λ i x at. elim (last_or_before w.domains d i x at) [
        | inl old ↦ may.world.numbered i x old.1
        | inr last ↦ ap (λ (y : DomainRecord). y.id.0) (sym last.1) ∙ sym last.0
      ];
      names_differ = λ other a b x y. one_live other a b (live_domain other a x) (live_domain other b y);
      named = λ i x at c on. elim (last_or_before w.domains d i x at) [
        | inl old ↦ has_class-still w.classes (added l) c (may.world.named i x old.1 c on)
        | inr last ↦ named_there c (subst (λ (y : DomainRecord). IsNamed y.table c) (sym last.1) on)
      ];
      offered = λ i x at o on. elim (last_or_before w.domains d i x at) [
        | inl old ↦ has_class-still w.classes (added l) o.class (may.world.offered i x old.1 o on)
        | inr last ↦
            let here : Contains l.placed.offers o = subst (λ (y : DomainRecord). Contains y.offers o) (sym last.1) on in
            let (line, listed, (name, to, says, means, goes)) = (l.is_placed.offers o).0 here in
            meant_there l may name o.class means
      ];
      records = names_there l may;
      ordered = ordered;
      homes = λ c r x is home. inl (home_there (length opened.domains) one_more c r x is home);
      few_domains = omega (arith, few, one_more);
    }
