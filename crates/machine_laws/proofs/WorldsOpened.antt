-- The world with the classes of an accepted folder, and with its domain's names, is one in which a folder may be loaded.
use Rattle.std.proofs.Common.{◌≡◌, ℕ, ◌+◌, ◌<◌, ◌≤◌, ◌⊎◌, inl, inr, true, List, [], ◌∷◌, ◌++◌, length, Contains, Some, sym, ap, subst, ◌∙◌, arith, length-append}
use Rattle.std.proofs.lemmas.Bool.{cases_lt}
use Rattle.std.proofs.lemmas.List.{length-map, map-append}
use Rattle.std.proofs.lemmas.Option.{same_Some}
use Rattle.class_growth.proofs.ItemsOfLists.{slice_get-append_cases}
use Rattle.class_growth.proofs.MoreClasses.{has_class-still}
use Rattle.jk_model.specs.declared.identifiers.ClassId.{ClassId}
use Rattle.jk_model.specs.declared.identifiers.DomainId.{DomainId}
use Rattle.jk_model.specs.declared.script.Quotas.{Quotas}
use Rattle.jk_model_classes.specs.declared.records.ClassRecord.{ClassRecord}
use Rattle.jk_model_classes.specs.Classes.{AreOrdered, HasClass, record_of}
use Rattle.jk_model_classes.specs.Worlds.{DomainRecord, IsLiveNamed, IsNamed, IsWorld, WorldRecord}
use Rattle.jk_model_folders.specs.declared.files.FolderFiles.{FolderFiles}
use Rattle.jk_model_folders.specs.FolderTrees.{AreFiles, MOST_FILES}
use Rattle.jk_model_folders.specs.Loads.{Loads, MayLoad}
use Rattle.jk_model_machine_state.specs.Machines.{DomainState, Machine, world_of}
use Rattle.jk_model_openings.specs.OpenedDomains.{new_domain, with_new_domain}
use Rattle.jk_model_openings.specs.Openings.{MOST_DOMAINS, admission}
use Rattle.list_lemmas.proofs.ItemsByPlace.{old_or_last}
use Rattle.list_lemmas.proofs.ItemsOfLists.{place_of}
use Rattle.sound_folders.proofs.NamesOfTables.{meant-from}
use Rattle.sound_folders.proofs.NewClasses.{added, all, meant_there, names_there, own_file}
use Rattle.machine_laws.specs.LoadingNext.{LoadsNext}
use Rattle.machine_laws.specs.MachinesOfRuns.{OpensFrom}
use Rattle.machine_laws.proofs.WorldsStay.{told}

module _ {f : FolderFiles} {m new : Machine} {name : List ℕ} {quotas : Quotas} (o : OpensFrom f m name quotas new) where
  abbrev w : WorldRecord
  w = world_of m

  abbrev l : Loads f (world_of m) name o.accepted.first o.accepted.table o.accepted.offers o.accepted.stubs o.accepted.world
  l = o.accepted.loads

  abbrev may : MayLoad (world_of m)
  may = o.accepts.may

  -- ---- The classes.

  named_there : (c : ClassId) → IsNamed l.placed.table c → HasClass (all l) c
  named_there c (called, on) = meant_there l may called c (meant-from l.placed.table l.is_placed.names_differ called c on)

  same_classes : o.accepted.world.classes ≡ all l
  same_classes = ap (λ (x : WorldRecord). x.classes) l.world ∙ l.is_placed.classes

  few_added : AreFiles f → length (added l) ≤ MOST_FILES
  few_added files = let few = files.few in omega (arith, few, l.are_classes.as_many, l.is_placed.as_many)

  -- ---- The domains.

  abbrev d : DomainRecord
  d = record { id = record { 0 = length m.domains }; name = name; live = true; table = l.placed.table; offers = l.placed.offers }

  abbrev opened : WorldRecord
  opened = record { classes = all l; domains = (world_of m).domains ++ d ∷ [] }

  as_many : length (world_of m).domains ≡ length m.domains
  as_many = length-map m.domains told

  one_more : length opened.domains ≡ length m.domains + 1
  one_more = let many = as_many in omega (arith, length-append (world_of m).domains (d ∷ []), many)

  home_there : (c : ClassId) (r : ClassRecord) (h : DomainId) → record_of (all l) c ≡ Some r → r.home ≡ Some h → h.0 < length opened.domains
  home_there c r h is home = elim (slice_get-append_cases w.classes (added l) c.0 r is) [
    | inl old ↦ elim (may.world.homes c r h old home) [
      | inl low ↦ let more = one_more in let many = as_many in omega (arith, low, more, many)
      | inr next ↦ let more = one_more in let many = as_many in omega (arith, next, more, many)
    ]
    | inr later ↦
        let place = place_of (added l) r later in
        let own = own_file l place.0 r place.1 in
        let same : l.placed.home ≡ h = same_Some l.placed.home h (sym own.is_record.at_home ∙ home) in
        let more = one_more in
        let many = as_many in
        omega (arith, ap (λ (x : DomainId). x.0) same, l.is_placed.home, more, many)
  ]

  -- a live domain is one that was there, or the new one
  abbrev IsOldOrNew : List ℕ → DomainId → Type 0
  IsOldOrNew other a = IsLiveNamed (world_of m) other a ⊎ ((a.0 ≡ length m.domains) × (name ≡ other))

  live_domain : (other : List ℕ) (a : DomainId) → IsLiveNamed opened other a → IsOldOrNew other a
  live_domain other a (r, is, live, called) = elim (old_or_last (world_of m).domains d a.0 r is) [
    | inl old ↦ inl (r, old.1, live, called)
    | inr last ↦ inr (last.0 ∙ as_many, ap (λ (x : DomainRecord). x.name) (sym last.1) ∙ called)
  ]

  one_live : (other : List ℕ) (a b : DomainId) → IsOldOrNew other a → IsOldOrNew other b → a ≡ b
  one_live other a b (inl old) (inl before) = may.world.names_differ other a b old before
  one_live other a b (inl old) (inr last) = absurd (l.not_live (a, subst (λ (n : List ℕ). IsLiveNamed (world_of m) n a) (sym last.1) old))
  one_live other a b (inr last) (inl old) = absurd (l.not_live (b, subst (λ (n : List ℕ). IsLiveNamed (world_of m) n b) (sym last.1) old))
  one_live other a b (inr last) (inr end) = ap (λ (n : ℕ). let x : DomainId = record { 0 = n } in x) (last.0 ∙ sym end.0)

  opened_world : IsWorld opened (length opened.domains)
  opened_world = record {
    numbered = λ i x at. elim (old_or_last (world_of m).domains d i x at) [
      | inl old ↦ may.world.numbered i x old.1
      | inr last ↦ ap (λ (y : DomainRecord). y.id.0) last.1 ∙ sym as_many ∙ sym last.0
    ];
    names_differ = λ other a b x y. one_live other a b (live_domain other a x) (live_domain other b y);
    named = λ i x at c on. elim (old_or_last (world_of m).domains d i x at) [
      | inl old ↦ has_class-still w.classes (added l) c (may.world.named i x old.1 c on)
      | inr last ↦ named_there c (subst (λ (y : DomainRecord). IsNamed y.table c) last.1 on)
    ];
    offered = λ i x at offer on. elim (old_or_last (world_of m).domains d i x at) [
      | inl old ↦ has_class-still w.classes (added l) offer.class (may.world.offered i x old.1 offer on)
      | inr last ↦
          let here : Contains l.placed.offers offer = subst (λ (y : DomainRecord). Contains y.offers offer) last.1 on in
          let (line, listed, (called, to, says, means, goes)) = (l.is_placed.offers offer).0 here in
          meant_there l may called offer.class means
    ];
    records = names_there l may;
    ordered = subst AreOrdered same_classes o.accepts.ordered;
    homes = λ c r x is home. inl (home_there c r x is home);
    few_domains = let few = few_then in let more = one_more in omega (arith, few, more);
  }
    where
      few_then : length m.domains < MOST_DOMAINS
      few_then = elim (cases_lt (length m.domains) MOST_DOMAINS) [ inl less ↦ less | inr many ↦ absurd (o.few many) ]

  -- ---- The machine.

  abbrev then : Machine
  then = with_new_domain m o.accepted.world (admission o.accepted quotas) o.inside

  abbrev domain : DomainState
  domain = new_domain m (admission o.accepted quotas) o.inside

  told_domain : told domain ≡ d
  told_domain = λ i. record {
    id = record { 0 = length m.domains };
    name = name;
    live = true;
    table = l.table_is i;
    offers = l.offers_are i;
  }

  world_is : world_of then ≡ opened
  world_is = λ i. record {
    classes = same_classes i;
    domains = (map-append told m.domains (domain ∷ []) ∙ ap (λ (x : DomainRecord). (world_of m).domains ++ x ∷ []) told_domain) i;
  }

  many_then : length then.domains ≡ length opened.domains
  many_then = let more = one_more in omega (arith, length-append m.domains (domain ∷ []), more)

  then_loads : AreFiles f → LoadsNext m → LoadsNext then
  then_loads files h = record {
    world = subst (λ (x : WorldRecord). IsWorld x (length then.domains)) (sym world_is)
        (subst (IsWorld opened) (sym many_then) opened_world);
    few_classes =
        let classes : length o.accepted.world.classes ≡ length m.classes + length (added l) =
        ap (λ (cs : List ClassRecord). length cs) same_classes ∙ length-append m.classes (added l) in
        let few = few_added files in
        let domains : length then.domains ≡ length m.domains + 1 = many_then ∙ one_more in
        omega (arith, h.few_classes, classes, few, domains);
  }

  pub opening_loads : AreFiles f → LoadsNext m → LoadsNext new
  opening_loads files h = subst LoadsNext (sym o.leads) (then_loads files h)
