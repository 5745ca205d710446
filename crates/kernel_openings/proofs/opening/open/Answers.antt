-- A domain is opened in all parts, or in none.
use Rattle.std.proofs.Common.{◌≡◌, List, ℕ, sym, ap, subst, ◌∙◌, Option, None, Err, Some}
use Rattle.std.specs.Prelude.{true, ◌++◌, ◌∷◌, []}
use Rattle.jk_model.specs.declared.identifiers.DomainId.{DomainId}
use Rattle.jk_model.specs.declared.stores.AdmitError.{AdmitError}
use Rattle.jk_model_classes.specs.declared.records.ClassRecord.{ClassRecord}
use Rattle.jk_model_classes.specs.Classes.{HasClass}
use Rattle.jk_model_classes.specs.Worlds.{WorldRecord}
use Rattle.jk_model_domains.specs.OwnStates.{IsFirstState}
use Rattle.jk_model_sharing.specs.SharedStates.{admitted}
use Rattle.class_init.specs.KeptStates.{HasFirstRooms, KeptState}
use Rattle.kernel_openings.specs.StandingObjects.{MakesStanding}
use Rattle.object_store.specs.HeapContents.{Admits}
use Rattle.frame_store.specs.FrameContents.{Admits as AdmitsStack}
use Rattle.kernel_openings.specs.OpenedParts.{next_number}
use Rattle.kernel_openings.specs.OpenedParts.{OpenParts as Parts}
use Rattle.kernel_openings.proofs.ClosedStores.{heap_again, stack_again}
use Rattle.kernel_openings.proofs.OpenedOrNot.{admitted_places, why_full, why_no_memory}
use Rattle.kernel_openings.proofs.opening.open.Goals as goal

pub make_ready-requires : goal.make_ready-requires
make_ready-requires g c = record { there = λ x named. subst (λ (t : List ClassRecord). HasClass t x) (sym c.classes.ensures) (c.requires.may.there x named) }

pub returns-in_err-ready-clause-cause : goal.returns-in_err-ready-clause-cause
returns-in_err-ready-clause-cause g c =
    let old : Parts =
    record {
      world = c.args.world.now;
      owns = c.args.owns.now.items;
      shared = c.args.shared.now;
      heap = g.H.ObjectStore.content c.args.heap.now;
      frames = g.F.SegmentFrames.content c.args.frames.now;
    }
    in
    why_no_memory old c.args.quotas.now c.from_residual.result c.from_residual.ensures.1

pub returns-in-Err-NoExtent-clause-cause : goal.returns-in-Err-NoExtent-clause-cause
returns-in-Err-NoExtent-clause-cause g c =
    c.admit_stores.ensures.no_extent (c.in-Err-NoExtent.is ∙ ap (λ (e : AdmitError). Err e) c.in-Err-NoExtent.field-0-is)

pub enter-requires-clause-free : goal.enter-requires-clause-free
enter-requires-clause-free g c = λ e live. c.requires.may.not_live e (live.0, live.1, live.2, live.3 ∙ c.in_ok-ready.ensures.name)

pub returns-in-Err-clause-err : goal.returns-in-Err-clause-err
returns-in-Err-clause-err g c =
    let d : DomainId = record { 0 = c.domain_count.result } in
    record {
      world = c.in-Err.ensures.same_world;
      owns = c.make_ready.ensures.items;
      shared = c.in-Err.ensures.same_shared;
      heap = heap_again (g.H.ObjectStore.content c.args.heap.now) (g.H.ObjectStore.content c.admit_stores.new.heap)
          (g.H.ObjectStore.content c.close.new.self) d
          c.args.quotas.now.heap (g.met.H.ObjectStore.holds c.args.heap.now)
          (subst (λ (n : ℕ). (g.H.ObjectStore.content c.args.heap.now).quota (record { 0 = n }) ≡ None) (sym c.domain_count.ensures.count)
          c.requires.may.new_heap) c.in-Ok.ensures.heap c.close.ensures;
      frames = stack_again (g.F.SegmentFrames.content c.args.frames.now) (g.F.SegmentFrames.content c.admit_stores.new.frames)
          (g.F.SegmentFrames.content c.close-in-Err.new.self) d
          c.args.quotas.now.chunks (g.met.F.FrameStore.holds c.args.frames.now)
          (subst (λ (n : ℕ). (g.F.SegmentFrames.content c.args.frames.now).quota (record { 0 = n }) ≡ None) (sym c.domain_count.ensures.count)
          c.requires.may.new_stack) c.in-Ok.ensures.stack c.close-in-Err.ensures;
    }

pub returns-in-Err-clause-cause : goal.returns-in-Err-clause-cause
returns-in-Err-clause-cause g c =
    let old : Parts =
    record {
      world = c.args.world.now;
      owns = c.args.owns.now.items;
      shared = c.args.shared.now;
      heap = g.H.ObjectStore.content c.args.heap.now;
      frames = g.F.SegmentFrames.content c.args.frames.now;
    }
    in
    why_full old c.args.quotas.now c.in-Err.e
    (admitted_places old c.args.quotas.now c.admit_stores.result c.in-Ok.is c.admit_stores.ensures.only_no_extent)
    c.in-Err.ensures.cause

pub returns-clause-ok : goal.returns-clause-ok
returns-clause-ok g c =
    let old : Parts =
    record {
      world = c.args.world.now;
      owns = c.args.owns.now.items;
      shared = c.args.shared.now;
      heap = g.H.ObjectStore.content c.args.heap.now;
      frames = g.F.SegmentFrames.content c.args.frames.now;
    }
    in
    let number : record { 0 = c.domain_count.result } ≡ next_number old =
    ap (λ (n : ℕ). let d : DomainId = record { 0 = n } in d) c.domain_count.ensures.count in
    let same_classes : c.classes-2.result.now ≡ c.args.world.now.classes =
    c.classes-2.ensures ∙ ap (λ (w : WorldRecord). w.classes) c.in_default.ensures.world in
    let with_names : DomainId → List ℕ → WorldRecord =
    λ d n. record old.world {
      domains = old.world.domains
          ++ record { id = d; name = n; live = true; table = c.args.loaded.table; offers = c.args.loaded.offers } ∷ [];
    } in
    record {
      places = admitted_places old c.args.quotas.now c.admit_stores.result c.in-Ok.is c.admit_stores.ensures.only_no_extent;
      numbers = c.in_default.ensures.numbers;
      few = c.in_default.ensures.few;
      before = c.in_ok-ready.ready.own;
      own = c.make_standing.new.own;
      first = subst (λ (t : List ClassRecord). IsFirstState t c.args.loaded.table c.in_ok-ready.ready.own.state) c.classes.ensures c.in_ok-ready.ensures.state;
      rooms = subst (λ (t : List ClassRecord). HasFirstRooms t c.args.loaded.table c.in_ok-ready.ready.own) c.classes.ensures c.in_ok-ready.ensures.rooms;
      eight = c.holds-2.ensures.standing;
      empty = g.H.ObjectStore.content c.admit_stores.new.heap;
      heap =
          subst (λ (d : DomainId). Admits old.heap (g.H.ObjectStore.content c.admit_stores.new.heap) d c.args.quotas.now.heap) number
          c.in-Ok.ensures.heap;
      standing =
          subst (λ (d : DomainId). MakesStanding (g.H.ObjectStore.content c.admit_stores.new.heap) (g.H.ObjectStore.content c.make_standing.new.heap)
          c.args.world.now.classes d c.in_ok-ready.ready.own c.make_standing.new.own) number
          (subst (λ (t : List ClassRecord). MakesStanding (g.H.ObjectStore.content c.admit_stores.new.heap)
          (g.H.ObjectStore.content c.make_standing.new.heap) t (record { 0 = c.domain_count.result }) c.in_ok-ready.ready.own c.make_standing.new.own)
          same_classes c.make_standing.ensures);
      stack =
          subst (λ (d : DomainId). AdmitsStack old.frames (g.F.SegmentFrames.content c.admit_stores.new.frames) d c.args.quotas.now.chunks) number
          c.in-Ok.ensures.stack;
      names_are =
          c.in_default.ensures.world ∙ ap (λ (d : DomainId). with_names d c.in_ok-ready.ready.name) number
          ∙ ap (with_names (next_number old)) c.in_ok-ready.ensures.name;
      shared_is =
          c.in_default.ensures.shared ∙ ap (λ (d : DomainId). admitted d c.args.quotas.now c.args.loaded.stubs c.args.shared.now) number;
      owns_are =
          c.push_reserved.ensures.items ∙ ap (λ (o : List (Option KeptState)). o ++ Some c.make_standing.new.own ∷ []) c.make_ready.ensures.items;
    }
