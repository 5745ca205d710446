-- The world of a machine stays one in which a folder may be loaded where domains keep what they were opened with, and none comes to life.
use Rattle.std.proofs.Common.{◌≡◌, ℕ, ◌+◌, ◌*◌, ◌^◌, ◌-◌, ◌==◌, ◌<◌, ◌≤◌, ◌⊎◌, Bool, true, false, cond, not, List, [], length, map, Contains, Option, Some, None, slice_get, refl, sym, ap, subst, ◌∙◌, arith}
use Rattle.std.specs.List.{AllByRecursion}
use Rattle.std.proofs.lemmas.List.{length-map}
use Rattle.std.proofs.lemmas.Option.{none-some, same_Some}
use Rattle.class_growth.proofs.SystemClassesClosed.{system_alone}
use Rattle.jk_model.specs.SystemTable.{system_classes}
use Rattle.jk_model.specs.declared.identifiers.DomainId.{DomainId}
use Rattle.jk_model.specs.declared.identifiers.ThreadNo.{ThreadNo}
use Rattle.jk_model.specs.declared.output.Line.{Line}
use Rattle.jk_model_classes.specs.declared.records.ClassRecord.{ClassRecord}
use Rattle.jk_model_classes.specs.declared.sharing.Offer.{Offer}
use Rattle.jk_model_classes.specs.Classes.{AreOrdered, HasClass}
use Rattle.jk_model_classes.specs.Worlds.{DomainRecord, IsLiveNamed, IsNamed, IsWorld, NamedClass, WorldRecord}
use Rattle.jk_model_folders.specs.FolderTrees.{MOST_FILES}
use Rattle.jk_model_folders.specs.Loads.{MayLoad}
use Rattle.jk_model_heaps.specs.Workings.{Inside, with_heap}
use Rattle.jk_model_machine_state.specs.Machines.{DomainState, IsFirstMachine, Machine, is_live_domain, world_of}
use Rattle.jk_model_runs.specs.Events.{Kills}
use Rattle.jk_model_runs.specs.Sealed.{is_stand_in}
use Rattle.jk_model_runs.specs.Starts.{Starts, StartWords}
use Rattle.jk_model_runs.specs.Steps.{Steps}
use Rattle.list_lemmas.proofs.ItemsByPlace.{comes_from, mapped_at, nothing_at}
use Rattle.row_laws.specs.LocalStepLaws.{LocalStepsKeep}
use Rattle.machine_laws.specs.KeptWorlds.{LastingDomain, lasting}
use Rattle.machine_laws.specs.KnownMachines.{IsKnownMachine}
use Rattle.machine_laws.specs.LoadingNext.{LoadsNext}
use Rattle.machine_laws.specs.OpenedMachines.{MayGrow}
use Rattle.machine_laws.proofs.ChangedItems.{parts_stay}
use Rattle.machine_laws.proofs.MachinesThatGrow.{GrowsOn}
use Rattle.machine_laws.proofs.OpenedParts.{no_stand_in}
use Rattle.machine_laws.proofs.StepsGrow.{kills_grow, start_grows, step_grows}
use Rattle.machine_laws.proofs.WorldsKept.{kills_keep, steps_keep}
use Rattle.machine_laws.proofs.FilteredItems.{all_pass}

-- what a world has of a domain
abbrev pub told : DomainState → DomainRecord
told e = record { id = e.number; name = e.name; live = is_live_domain e; table = e.table; offers = e.offers }

has_inside : (e : DomainState) (o : Option Inside) → e.inside ≡ o → is_live_domain e ≡ true → (x : Inside) × (e.inside ≡ Some x)
has_inside e (Some x) is live = (x, is)
has_inside e None is live =
    let dead : is_live_domain e ≡ false = ap (λ (o : Option Inside). is_live_domain (record e { inside = o })) is in absurd cc

module _ (m new : Machine) (g : GrowsOn m new) (last : map lasting new.domains ≡ map lasting m.domains) where
  record WasTold (i : ℕ) (d : DomainRecord) : Type 0 where
    before : DomainRecord
    at : slice_get (world_of m).domains i ≡ Some before
    id : d.id ≡ before.id
    name : d.name ≡ before.name
    table : d.table ≡ before.table
    offers : d.offers ≡ before.offers
    live : d.live ≡ true → before.live ≡ true

  was_told : (i : ℕ) (d : DomainRecord) → slice_get (world_of new).domains i ≡ Some d → WasTold i d
  was_told i d at =
      let from = comes_from told new.domains i d at in
      let was = g.domains i from.from from.there in
      let lasts : lasting from.from ≡ lasting was.before =
      same_Some (lasting from.from) (lasting was.before)
      (sym (mapped_at lasting new.domains i from.from from.there) ∙ ap (λ (ls : List LastingDomain). slice_get ls i) last
      ∙ mapped_at lasting m.domains i was.before was.at) in
      record {
        before = told was.before;
        at = mapped_at told m.domains i was.before was.at;
        id = ap (λ (x : DomainRecord). x.id) (sym from.gives) ∙ ap (λ (l : LastingDomain). l.number) lasts;
        name = ap (λ (x : DomainRecord). x.name) (sym from.gives) ∙ ap (λ (l : LastingDomain). l.name) lasts;
        table = ap (λ (x : DomainRecord). x.table) (sym from.gives) ∙ ap (λ (l : LastingDomain). l.table) lasts;
        offers = ap (λ (x : DomainRecord). x.offers) (sym from.gives) ∙ ap (λ (l : LastingDomain). l.offers) lasts;
        live = λ lives.
            let inside = has_inside from.from from.from.inside refl (ap (λ (x : DomainRecord). x.live) from.gives ∙ lives) in
            let there = was.placed inside.0 inside.1 in
            ap (λ (o : Option Inside). is_live_domain (record was.before { inside = o })) there.1;
      }

  module _ (h : IsWorld (world_of m) (length m.domains)) where
    live_before : (name : List ℕ) (a : DomainId) → IsLiveNamed (world_of new) name a → IsLiveNamed (world_of m) name a
    live_before name a (d, is, live, called) =
        let was = was_told a.0 d is in (was.before, was.at, was.live live, sym was.name ∙ called)

    -- with the classes that were there
    abbrev between : WorldRecord
    between = record { classes = m.classes; domains = (world_of new).domains }

    world_between : IsWorld between (length m.domains)
    world_between = record {
      numbered = λ i d at. let was = was_told i d at in ap (λ (n : DomainId). n.0) was.id ∙ h.numbered i was.before was.at;
      names_differ = λ name a b x y. h.names_differ name a b (live_before name a x) (live_before name b y);
      named = λ i d at c on.
          let was = was_told i d at in h.named i was.before was.at c (subst (λ (t : List NamedClass). IsNamed t c) was.table on);
      offered = λ i d at o on.
          let was = was_told i d at in h.offered i was.before was.at o (subst (λ (os : List Offer). Contains os o) was.offers on);
      records = h.records;
      ordered = h.ordered;
      homes = λ c r d is home.
          subst (λ (n : ℕ). (d.0 < n) ⊎ (d.0 ≡ length m.domains)) (sym many) (h.homes c r d is home);
      few_domains = subst (λ (n : ℕ). n < 2 ^ 32 - 1) (sym many) h.few_domains;
    }
      where
        many : length (world_of new).domains ≡ length (world_of m).domains
        many = length-map new.domains told ∙ g.as_many ∙ sym (length-map m.domains told)

    world_stays : IsWorld (world_of new) (length new.domains)
    world_stays =
        subst (IsWorld (world_of new)) (sym g.as_many)
        (subst (λ (classes : List ClassRecord). IsWorld (record { classes = classes; domains = (world_of new).domains }) (length m.domains))
        (sym g.classes) world_between)

  pub loads_still : LoadsNext m → LoadsNext new
  loads_still h = record {
    world = world_stays h.world;
    few_classes = subst (λ (classes : List ClassRecord). length classes ≤ length system_classes + MOST_FILES * length new.domains) (sym g.classes)
        (subst (λ (n : ℕ). length m.classes ≤ length system_classes + MOST_FILES * n) (sym g.as_many) h.few_classes);
  }

-- ---- Steps, kills and starts.

pub steps_load : LocalStepsKeep → (m new : Machine) (t : ThreadNo) (lines : List Line) → IsKnownMachine m → LoadsNext m
    → (step : Steps m t lines new) → LoadsNext new
steps_load keep m new t lines known h step =
    loads_still m new (step_grows keep m new t step.0 lines known step.1) (steps_keep m new t step.0 lines step.1).domains h

pub kills_load : (m new : Machine) (name : List ℕ) (lines : List Line) → LoadsNext m → Kills m name lines new → LoadsNext new
kills_load m new name lines h killed = loads_still m new (kills_grow m new name lines killed) (kills_keep m new name lines killed).domains h

pub starts_load : (m : Machine) (start : StartWords) (lines : List Line) (new : Machine) → IsKnownMachine m → LoadsNext m → Starts m start lines new
    → LoadsNext new
starts_load m start lines new known h starts =
    loads_still m new (start_grows m start lines new known starts) (domains_last m start lines new starts) h
  where
    lasts_by : (b : Bool) (inside : Inside) (e : DomainState) → lasting (cond b (record e { inside = Some inside }) e) ≡ lasting e
    lasts_by true inside e = refl
    lasts_by false inside e = refl

    domains_last : (m : Machine) (start : StartWords) (lines : List Line) (new : Machine) → Starts m start lines new
        → map lasting new.domains ≡ map lasting m.domains
    domains_last m start lines new (Starts.no_domain none) = refl
    domains_last m start lines new (Starts.no_class h none) = refl
    domains_last m start lines new (Starts.no_main h none) = refl
    domains_last m start lines new (Starts.many_threads h many) = refl
    domains_last m start lines new (Starts.many_words h few lacks) = refl
    domains_last m start lines new (Starts.few_chunks h few fit lacks) = refl
    domains_last m start lines new (Starts.begins h few room heap words frame called) =
        let d : DomainState = h.in_class.in_domain.domain in
        let made : Inside = with_heap h.in_class.in_domain.inside heap in
        parts_stay (λ (e : DomainState). cond (e.number.0 == d.number.0) (record e { inside = Some made }) e) lasting
        (λ e. lasts_by (e.number.0 == d.number.0) made e) m.domains

-- ---- The first machine.

pub first_loads : (heap_pages stack_pages : Option ℕ) (m : Machine) → IsFirstMachine heap_pages stack_pages m → AreOrdered m.classes → LoadsNext m
first_loads heap_pages stack_pages m first ordered =
    let none : (world_of m).domains ≡ [] = ap (map told) first.no_domains in
    record {
      world = record {
        numbered = λ i d at. absurd (nothing_at (world_of m).domains i d none at);
        names_differ = λ name a b x y. absurd (nothing_at (world_of m).domains a.0 x.0 none x.1);
        named = λ i d at. absurd (nothing_at (world_of m).domains i d none at);
        offered = λ i d at. absurd (nothing_at (world_of m).domains i d none at);
        records = λ c r at. record {
          references = subst (AllByRecursion (HasClass m.classes)) (sym (system_alone m.classes first.system c r at).0) tt;
        };
        ordered = ordered;
        homes = λ c r d at home. absurd (none-some d (sym (system_alone m.classes first.system c r at).1 ∙ home));
        few_domains = subst (λ (ds : List DomainRecord). length ds < 2 ^ 32 - 1) (sym none) (omega arith);
      };
      few_classes = let many : length m.classes ≡ length system_classes = first.system.as_many in omega (arith, many);
    }

-- ---- A folder may be loaded.

few_domains : (m : Machine) → IsKnownMachine m → MayGrow m → length m.domains ≤ 65535
few_domains m known may =
    subst (λ (n : ℕ). n ≤ 65535)
    (all_pass (λ (e : DomainState). not (is_stand_in m.classes e)) m.domains
    (λ e on. ap not (no_stand_in m.classes e e.caps.made (λ c made. may.made_there e c on made)))) known.0.0.domains.few

pub may_load : (m : Machine) → IsKnownMachine m → MayGrow m → LoadsNext m → MayLoad (world_of m)
may_load m known may h = record {
  world = subst (IsWorld (world_of m)) (sym (length-map m.domains told)) h.world;
  system = known.1.codes.system;
  few_classes = let few = few_domains m known may in omega (arith, few, h.few_classes);
}
