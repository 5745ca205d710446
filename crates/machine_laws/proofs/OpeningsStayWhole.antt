-- A machine that is whole stays so where a folder is accepted and a domain is opened.
use Rattle.std.proofs.Common.{◌≡◌, ℕ, List, Contains, sym, ap, subst, ◌∙◌}
use Rattle.list_lemmas.proofs.ItemsByPlace.{mapped_at}
use Rattle.list_lemmas.proofs.ItemsOfLists.{place_of}
use Rattle.jk_model.specs.declared.output.Line.{Line}
use Rattle.jk_model.specs.declared.script.Quotas.{Quotas}
use Rattle.jk_model_classes.specs.declared.records.ClassRecord.{ClassRecord}
use Rattle.jk_model_classes.specs.Worlds.{WorldRecord}
use Rattle.jk_model_folders.specs.declared.files.FolderFiles.{FolderFiles}
use Rattle.jk_model_heaps.specs.Workings.{Inside}
use Rattle.jk_model_machine_state.specs.Machines.{DomainState, IsLiveDomain, Machine, is_live_domain}
use Rattle.jk_model_openings.specs.OpenedDomains.{Admission}
use Rattle.jk_model_openings.specs.Openings.{IsAccepted, OpensWith, admission, no_numbers, no_room, opens, too_many}
use Rattle.jk_model_openings.specs.PoolsOfMachines.{heap_pages_of, stack_pages_of}
use Rattle.jk_model_runs.specs.AnsweredCalls.{AreCallsAnswered, SegmentsAnswer}
use Rattle.jk_model_runs.specs.Events.{IsWhole}
use Rattle.jk_model_runs.specs.Sealed.{IsSealed}
use Rattle.machine_laws.specs.SoundMachines.{HasSoundClasses}
use Rattle.machine_laws.specs.OpenedMachines.{MayGrow}
use Rattle.machine_laws.proofs.CallsStayAnswered.{segments_answer_still}
use Rattle.machine_laws.proofs.OpenedMachines.{IsOpened, new}
use Rattle.machine_laws.proofs.OpenedParts.{made_then, opened_capabilities, opened_domains, opened_names, started_then}
use Rattle.machine_laws.proofs.OpenedPools.{opened_empty, opened_pool}
use Rattle.machine_laws.proofs.OpenedThreads.{opened_initialisers, opened_tasks, opened_threads}

module _ {m : Machine} {w : WorldRecord} {a : Admission} {inside : Inside} (o : IsOpened m w a inside) where
  opened_sealed : IsSealed (new o)
  opened_sealed = record {
    domains = opened_domains o;
    heap_places =
        opened_pool m w a inside m.heap_pages heap_pages_of (λ i. i.heap_at) o.sealed.heap_places o.grows.heaps o.placed.heap o.sealed.domains.numbered;
    stack_places =
        opened_pool m w a inside m.stack_pages stack_pages_of (λ i. i.stack_at) o.sealed.stack_places o.grows.stacks o.placed.stack
        o.sealed.domains.numbered;
    capabilities = opened_capabilities o;
    names = opened_names o;
    threads = opened_threads o;
    tasks = opened_tasks o;
    initialisers = opened_initialisers o;
  }

  opened_answered : AreCallsAnswered m → AreCallsAnswered (new o)
  opened_answered h = record {
    segments = λ thread on.
        subst (λ (classes : List ClassRecord). SegmentsAnswer classes thread.segments) (sym o.same)
        (segments_answer_still m.classes o.more thread.segments (h.segments thread on));
  }

  opened_grows : MayGrow (new o)
  opened_grows = record {
    made_there = made_then o;
    started_there = started_then o;
    heaps =
        opened_empty m w a inside m.heap_pages heap_pages_of (λ i. i.heap_at) o.sealed.heap_places o.grows.heaps o.placed.heap
        o.sealed.domains.numbered;
    stacks =
        opened_empty m w a inside m.stack_pages stack_pages_of (λ i. i.stack_at) o.sealed.stack_places o.grows.stacks o.placed.stack
        o.sealed.domains.numbered;
  }

  pub opened_whole : AreCallsAnswered m → IsWhole (new o) × MayGrow (new o)
  opened_whole h = ((opened_sealed, opened_answered h), opened_grows)

-- ---- By the files of a folder.

module _ (f : FolderFiles) (m : Machine) (name : List ℕ) (quotas : Quotas) (whole : IsWhole m) (sound : HasSoundClasses m) (grows : MayGrow m) where
  -- no live domain has the name
  not_live : (a : IsAccepted f m name) (e : DomainState) → Contains m.domains e → IsLiveDomain e → e.name ≡ name → ⊥
  not_live a e on live same =
      let place = place_of m.domains e on in
      a.loads.not_live (
        record { 0 = place.0 },
        (
          record { id = e.number; name = e.name; live = is_live_domain e; table = e.table; offers = e.offers },
          mapped_at (λ (x : DomainState). record { id = x.number; name = x.name; live = is_live_domain x; table = x.table; offers = x.offers })
              m.domains place.0 e place.1,
          live,
          same,
        ),
      )

  pub whole_then : (lines : List Line) (then : Machine) → OpensWith f m name quotas lines then → HasSoundClasses then → IsWhole then × MayGrow then
  whole_then lines then (no_room a lacks) known = (whole, grows)
  whole_then lines then (no_numbers a room lacks) known = (whole, grows)
  whole_then lines then (too_many a room numbers many) known = (whole, grows)
  whole_then lines then (opens a inside room numbers few opening placed) known =
      let o : IsOpened m a.world (admission a quotas) inside = record {
        sealed = whole.0;
        sound = sound;
        grows = grows;
        sound_then = known;
        more = a.loads.is_placed.added;
        same = ap (λ (x : WorldRecord). x.classes) a.loads.world ∙ a.loads.is_placed.classes;
        not_live = not_live a;
        numbers = numbers;
        few = few;
        opening = opening;
        placed = placed;
      } in
      opened_whole o whole.1
