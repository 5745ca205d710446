-- No step changes the world: what it changes of a domain are its steps left, its capabilities and its inside.
use Rattle.std.proofs.Common.{◌≡◌, ℕ, ◌-◌, ◌==◌, Bool, true, false, cond, List, [], ◌∷◌, ◌++◌, filter, map, Option, Some, None, option_map, Ok, Err, Contains, inl, inr, refl, sym, ap, subst, ◌∙◌}
use Rattle.std.specs.List.{AllByRecursion}
use Rattle.jk_model.specs.declared.identifiers.DomainId.{DomainId}
use Rattle.jk_model.specs.declared.identifiers.ThreadNo.{ThreadNo}
use Rattle.jk_model.specs.declared.output.Line.{Line}
use Rattle.jk_model.specs.declared.steps.Raise.{Raise}
use Rattle.jk_model.specs.declared.steps.Raise.TheVariants as Raised
use Rattle.jk_model.specs.declared.steps.Standing.TheVariants as Stands
use Rattle.jk_model.specs.declared.values.Value.{Value}
use Rattle.jk_model_classes.specs.declared.records.ClassRecord.{ClassRecord}
use Rattle.jk_model_classes.specs.Worlds.{NamedClass}
use Rattle.jk_model_domains.specs.Objects.{NamedObject}
use Rattle.jk_model_frames.specs.Frames.{FrameState}
use Rattle.jk_model_heaps.specs.CalledFrames.{resumed}
use Rattle.jk_model_heaps.specs.Workings.{Inside, Request}
use Rattle.jk_model_running.specs.Ways.{Went}
use Rattle.jk_model_sharing.specs.BoundNames.{without_names_of}
use Rattle.jk_model_sharing.specs.Segments.{SharedSegment, with_revoked, with_stop}
use Rattle.jk_model_machine_state.specs.Machines.{DomainState, Machine, Segment, paid, with_domain, without_thread}
use Rattle.jk_model_machine_state.specs.Places.{LiveDomain, RunningSegment, with_flags, with_run, with_running, without_top}
use Rattle.jk_model_crossings.specs.Answers.{Receives, Returns}
use Rattle.jk_model_crossings.specs.DomainEnds.{Terminates, ended_domain, has_segments, without_segments_of}
use Rattle.jk_model_crossings.specs.RemoteCalls.{Enters, RemoteCall, arrived, departed}
use Rattle.jk_model_sharing.specs.Answers.{Granted}
use Rattle.jk_model_crossings.specs.Requests.{Grants}
use Rattle.jk_model_crossings.specs.Throwing.{Brings, RaisesInThread, Throws, TopTwo}
use Rattle.jk_model_runs.specs.Events.{Kills}
use Rattle.jk_model_runs.specs.Steps.{Acts, Deed, Ensues, StepsBy}
use Rattle.list_lemmas.proofs.ItemsOfLists.{Contains-cases, Contains-here, Contains-none, Contains-there}
use Rattle.heap_laws.specs.SoundCodes.{AreSoundCodes}
use Rattle.heap_laws.specs.SoundTables.{IsSoundTable}
use Rattle.sound_folders.specs.LinkedWorlds.{AreLinked}
use Rattle.machine_laws.specs.SoundMachines.{HasSoundClasses, tables_of}
use Rattle.machine_laws.specs.KeptWorlds.{KeepsWorld, LastingDomain, lasting}

-- ---- One change after another.

keeps_same : (m : Machine) → KeepsWorld m m
keeps_same m = record { pools = (refl, refl); classes = refl; domains = refl; next_thread = refl }

pub keeps_both : (a b c : Machine) → KeepsWorld a b → KeepsWorld b c → KeepsWorld a c
keeps_both a b c h k = record {
  pools = (k.pools.0 ∙ h.pools.0, k.pools.1 ∙ h.pools.1);
  classes = k.classes ∙ h.classes;
  domains = k.domains ∙ h.domains;
  next_thread = k.next_thread ∙ h.next_thread;
}

-- ---- A domain.

lasts_at : (t : Bool) (change : DomainState → DomainState) (e : DomainState) → lasting (change e) ≡ lasting e
    → lasting (cond t (change e) e) ≡ lasting e
lasts_at true change e h = h
lasts_at false change e h = refl

abbrev changed_at : DomainId → (DomainState → DomainState) → DomainState → DomainState
changed_at d change e = cond (e.number.0 == d.0) (change e) e

all_last : (d : DomainId) (change : DomainState → DomainState) (domains : List DomainState) → ((e : DomainState) → lasting (change e) ≡ lasting e)
    → map lasting (map (changed_at d change) domains) ≡ map lasting domains
all_last d change [] h = refl
all_last d change (x ∷ domains) h = λ i. lasts_at (x.number.0 == d.0) change x (h x) i ∷ all_last d change domains h i

domain_keeps : (d : DomainId) (change : DomainState → DomainState) (m : Machine) → ((e : DomainState) → lasting (change e) ≡ lasting e)
    → KeepsWorld m (with_domain d change m)
domain_keeps d change m h = record { pools = (refl, refl); classes = refl; domains = all_last d change m.domains h; next_thread = refl }

-- ---- The top segment.

pub running_keeps : {m : Machine} {t : ThreadNo} (p : RunningSegment m t) (s : Segment) (inside : Inside) → KeepsWorld m (with_running p s inside)
running_keeps {m = m} p s inside = record {
  pools = (refl, refl);
  classes = refl;
  domains = all_last p.segment.shared.domain (λ (e : DomainState). record e { inside = Some inside }) m.domains (λ e. refl);
  next_thread = refl;
}

pub top_keeps : {m : Machine} {t : ThreadNo} (p : RunningSegment m t) → KeepsWorld m (without_top p)
top_keeps p = record { pools = (refl, refl); classes = refl; domains = refl; next_thread = refl }

end_keeps : (t : ThreadNo) (m : Machine) → KeepsWorld m (without_thread t m)
end_keeps t m = record { pools = (refl, refl); classes = refl; domains = refl; next_thread = refl }

pub below_keeps : {m : Machine} {t : ThreadNo} (s : TopTwo m t) (r : Segment) (inside : Inside) → KeepsWorld m (with_running s.below r inside)
below_keeps {m = m} s r inside =
    keeps_both m (without_top s.left) (with_running s.below r inside) (top_keeps s.left) (running_keeps s.below r inside)

-- ---- Throwables.

brings_keep : {m : Machine} {t : ThreadNo} (s : TopTwo m t) (a : ℕ) (r : Raise) (mid : Machine) → Brings s a r mid → KeepsWorld m mid
brings_keep s a r mid (Brings.is_death b death) = top_keeps s.left
brings_keep s a r mid (Brings.is_uncopiable b alive not) = top_keeps s.left
brings_keep s a r mid (Brings.is_too_large b alive large) = top_keeps s.left
brings_keep s a r mid (Brings.is_copied b alive heap c passes) =
    below_keeps s s.below.segment (record s.below.home.inside { heap = heap })

throws_keep : (t : ThreadNo) (n : ℕ) (m : Machine) (a : ℕ) (lines : List Line) (new : Machine) → Throws t n m a lines new → KeepsWorld m new
throws_keep t n m a lines new (Throws.ends w b p class lowest orphan) = end_keeps t w
throws_keep t n m a lines new (Throws.ends_orphan w b p lowest orphan) = end_keeps t w
throws_keep t n m a lines new (Throws.drops w b s orphan) =
    below_keeps s (record s.below.segment { shared = with_revoked true s.below.segment.shared }) s.below.home.inside
throws_keep t n m a lines new (Throws.caught w mid b s r orphan brought p run raised) =
    keeps_both w mid (with_run p run) (brings_keep s b r mid brought) (running_keeps p (record p.segment { frames = run.frames }) run.inside)
throws_keep t n m a lines new (Throws.goes_on k w mid end b c said s r orphan brought p run raised thrown) =
    keeps_both w mid end (brings_keep s b r mid brought)
    (keeps_both mid (with_run p run) end (running_keeps p (record p.segment { frames = run.frames }) run.inside)
    (throws_keep t k (with_run p run) c said end thrown))

raises_keep : (m : Machine) (t : ThreadNo) (r : Raise) (n : ℕ) (lines : List Line) (new : Machine) → RaisesInThread m t r n lines new
    → KeepsWorld m new
raises_keep m t r n lines new (RaisesInThread.caught p run raised) = running_keeps p (record p.segment { frames = run.frames }) run.inside
raises_keep m t r n lines new (RaisesInThread.goes_down p run a k said end raised thrown) =
    keeps_both m (with_run p run) end (running_keeps p (record p.segment { frames = run.frames }) run.inside)
    (throws_keep t k (with_run p run) a said end thrown)

-- ---- Answers.

receives_keep : {m : Machine} {t : ThreadNo} (p : RunningSegment m t) (heap : List NamedObject) (v : Option Value) (new : Machine)
    → Receives p heap v new → KeepsWorld m new
receives_keep {m = m} p heap v new h =
    subst (λ (x : Machine). KeepsWorld m x) (sym h.leads) (running_keeps p (record p.segment { frames = after }) (record p.home.inside { heap = heap }))
  where
    after : List FrameState
    after = h.callers ++ resumed v h.caller ∷ []

returns_keep : (m : Machine) (t : ThreadNo) (v : Option Value) (n : ℕ) (lines : List Line) (new : Machine) → Returns m t v n lines new
    → KeepsWorld m new
returns_keep m t v n lines new (Returns.ends w p lowest) = end_keeps t m
returns_keep m t v n lines new (Returns.drops w s orphan) =
    below_keeps s (record s.below.segment { shared = with_revoked true s.below.segment.shared }) s.below.home.inside
returns_keep m t v n lines new (Returns.gives_nothing s end orphan received) =
    keeps_both m (without_top s.left) end (top_keeps s.left) (receives_keep s.below s.below.home.inside.heap None end received)
returns_keep m t v n lines new (Returns.gives x w s heap end orphan passes received) =
    keeps_both m (without_top s.left) end (top_keeps s.left) (receives_keep s.below heap (Some w) end received)
returns_keep m t v n lines new (Returns.is_uncopiable x s k said end orphan not raised) =
    keeps_both m (without_top s.left) end (top_keeps s.left) (raises_keep (without_top s.left) t (Raised.Standing Stands.NotCopiable) k said end raised)
returns_keep m t v n lines new (Returns.is_too_large x s k said end orphan large raised) =
    keeps_both m (without_top s.left) end (top_keeps s.left)
    (raises_keep (without_top s.left) t (Raised.Standing Stands.OutOfMemoryError) k said end raised)

-- ---- Calls, requests, ends.

enters_keep : {m : Machine} {t : ThreadNo} (c : RemoteCall m t) (new : Machine) → Enters c new → KeepsWorld m new
enters_keep {m = m} {t = t} c new h = subst (λ (x : Machine). KeepsWorld m x) (sym h.leads) (keeps_both m (departed c) here left came)
  where
    owner : LiveDomain m c.known.owner
    owner = h.is_open.has_target.is_shown.live.owner

    here : Machine
    here = arrived owner t h.heap h.frame (departed c)

    left : KeepsWorld m (departed c)
    left = running_keeps c.place (record c.place.segment { frames = c.callers ++ record c.frame { stack = c.below } ∷ [] }) c.place.home.inside

    came : KeepsWorld (departed c) here
    came = record {
      pools = (refl, refl);
      classes = refl;
      domains = all_last c.known.owner (λ (e : DomainState). record e { inside = Some (record owner.inside { heap = h.heap }) }) (departed c).domains
          (λ e. refl);
      next_thread = refl;
    }

pub grants_keep : {m : Machine} {t : ThreadNo} (p : RunningSegment m t) (request : Request) (granted : Granted) (mid : Machine)
    → Grants p request granted mid → KeepsWorld m mid
grants_keep {m = m} p request granted mid (Grants.creates class target answer range g created is) =
    domain_keeps p.home.domain.number (λ (e : DomainState). record e { caps = range }) m (λ e. refl)
grants_keep {m = m} p request granted mid (Grants.revokes k answer range g revoked is) =
    domain_keeps p.home.domain.number (λ (e : DomainState). record e { caps = range }) m (λ e. refl)
grants_keep p request granted mid (Grants.binds text k answer names g bound is) =
    record { pools = (refl, refl); classes = refl; domains = refl; next_thread = refl }
grants_keep {m = m} p request granted mid (Grants.looks_up text found looked) = keeps_same m
grants_keep p request granted mid (Grants.unbinds text answer names g unbound is) =
    record { pools = (refl, refl); classes = refl; domains = refl; next_thread = refl }
grants_keep p request granted mid (Grants.suspends s) = record { pools = (refl, refl); classes = refl; domains = refl; next_thread = refl }
grants_keep p request granted mid (Grants.resumes s) = record { pools = (refl, refl); classes = refl; domains = refl; next_thread = refl }
grants_keep p request granted mid (Grants.stops s) = record { pools = (refl, refl); classes = refl; domains = refl; next_thread = refl }

pub terminates_keep : (m new : Machine) (d : DomainState) (lines : List Line) → Terminates m d lines new → KeepsWorld m new
terminates_keep m new d lines h = record {
  pools = (of_both (λ (x : Machine). x.heap_pages), of_both (λ (x : Machine). x.stack_pages));
  classes = of_both (λ (x : Machine). x.classes);
  domains = of_both (λ (x : Machine). map lasting x.domains) ∙ all_last d.number ended_domain m.domains (λ e. refl);
  next_thread = of_both (λ (x : Machine). x.next_thread);
}
  where
    cut : Machine
    cut = without_segments_of d.number (with_domain d.number ended_domain m)

    of_both : {X : Type 0} (part : Machine → X)
        → part new ≡ part (record cut { names = without_names_of d.number cut.names; threads = filter has_segments cut.threads })
    of_both part =
        ap part h.leads
        ∙ ap (λ (x : Machine). part (record x { names = without_names_of d.number x.names; threads = filter has_segments x.threads })) h.is_cut

pub kills_keep : (m new : Machine) (name : List ℕ) (lines : List Line) → Kills m name lines new → KeepsWorld m new
kills_keep m new name lines (Kills.no_domain none) = keeps_same m
kills_keep m new name lines (Kills.kills d said end found ends) = terminates_keep m end d said ends

-- ---- A step.

ensues_keep : (m : Machine) (t : ThreadNo) (went : Went) (deed : Deed) (lines : List Line) (new : Machine) → Ensues m t went deed lines new
    → KeepsWorld m new
ensues_keep m t went deed lines new Ensues.goes_on = keeps_same m
ensues_keep m t went deed lines new (Ensues.says p text) = keeps_same m
ensues_keep m t went deed lines new (Ensues.ended v n said end h) = returns_keep m t v n said end h
ensues_keep m t went deed lines new (Ensues.left a n said end h) = throws_keep t n m a said end h
ensues_keep m t went deed lines new (Ensues.enters k method c end of_cap of_method h) = enters_keep c end h
ensues_keep m t went deed lines new (Ensues.is_refused k method c r n said end of_cap of_method refused h) = raises_keep m t r n said end h
ensues_keep m t went deed lines new (Ensues.grants p request v mid end granted q received) =
    keeps_both m mid end (grants_keep p request (Ok v) mid granted) (receives_keep q q.home.inside.heap v end received)
ensues_keep m t went deed lines new (Ensues.denies p request r n said mid end granted h) =
    keeps_both m mid end (grants_keep p request (Err r) mid granted) (raises_keep mid t r n said end h)
ensues_keep m t went deed lines new (Ensues.terminates p said end h) = terminates_keep m end p.home.domain said h

acts_keep : (m : Machine) (t : ThreadNo) (deed : Deed) (lines : List Line) (new : Machine) → Acts m t deed lines new → KeepsWorld m new
acts_keep m t deed lines new (Acts.stops p n said end stop h) =
    let shared : SharedSegment = with_stop false p.segment.shared in
    keeps_both m (with_flags p shared) end (running_keeps p (record p.segment { shared = shared }) p.home.inside)
    (raises_keep (with_flags p shared) t (Raised.Standing Stands.ThreadDeath) n said end h)
acts_keep m t deed lines new (Acts.is_revoked p n said end stop revoked h) =
    let shared : SharedSegment = with_revoked false p.segment.shared in
    keeps_both m (with_flags p shared) end (running_keeps p (record p.segment { shared = shared }) p.home.inside)
    (raises_keep (with_flags p shared) t (Raised.Standing Stands.Revoked) n said end h)
acts_keep m t deed lines new (Acts.does p run went done said end stop revoked step h) =
    keeps_both m (with_run p run) end (running_keeps p (record p.segment { frames = run.frames }) run.inside)
    (ensues_keep (with_run p run) t went done said end h)

pub steps_keep : (m new : Machine) (t : ThreadNo) (deed : Deed) (lines : List Line) → StepsBy m t deed lines new → KeepsWorld m new
steps_keep m new t deed lines (StepsBy.not_live gone) = keeps_same m
steps_keep m new t deed lines (StepsBy.is_held p held) = keeps_same m
steps_keep m new t deed lines (StepsBy.is_spent p free spent) = keeps_same m
steps_keep m new t deed lines (StepsBy.acts p done said end free rich h) =
    keeps_both m (paid p.segment.shared.domain m) end
    (domain_keeps p.segment.shared.domain (λ (e : DomainState). record e { steps_left = option_map (λ (n : ℕ). n - 1) e.steps_left }) m (λ e. refl))
    (acts_keep (paid p.segment.shared.domain m) t done said end h)

-- ---- Sound classes.

tables_last : (domains : List DomainState)
    → map (λ (l : LastingDomain). l.table) (map lasting domains) ≡ map (λ (d : DomainState). d.table) domains
tables_last [] = refl
tables_last (d ∷ domains) = λ i. d.table ∷ tables_last domains i

each_table : (P : List NamedClass → Type 0) (domains : List DomainState) → ((d : DomainState) → Contains domains d → P d.table)
    → AllByRecursion P (map (λ (d : DomainState). d.table) domains)
each_table P [] h = tt
each_table P (d ∷ domains) h = (h d (Contains-here d domains), each_table P domains (λ e later. h e (Contains-there e d domains later)))

of_table : (P : List NamedClass → Type 0) (domains : List DomainState) (d : DomainState)
    → AllByRecursion P (map (λ (e : DomainState). e.table) domains) → Contains domains d → P d.table
of_table P [] d all there = absurd (Contains-none d there)
of_table P (e ∷ domains) d all there = elim (Contains-cases d e domains there) [
  | inl same ↦ subst (λ (x : DomainState). P x.table) same all.0
  | inr later ↦ of_table P domains d all.1 later
]

pub sound_classes_stay : (m new : Machine) → KeepsWorld m new → HasSoundClasses m → HasSoundClasses new
sound_classes_stay m new h sound = record {
  linked = subst (λ (x : List (List NamedClass)). AreLinked new.classes x) tables
      (subst (λ (x : List ClassRecord). AreLinked x (tables_of m)) (sym h.classes) sound.linked);
  codes = subst AreSoundCodes (sym h.classes) sound.codes;
  tables = λ d there. of_table (IsSoundTable new.classes) new.domains d
      (subst (λ (x : List (List NamedClass)). AllByRecursion (IsSoundTable new.classes) x) tables
      (subst (λ (x : List ClassRecord). AllByRecursion (IsSoundTable x) (tables_of m)) (sym h.classes)
      (each_table (IsSoundTable m.classes) m.domains sound.tables))) there;
}
  where
    tables : tables_of m ≡ tables_of new
    tables =
        sym (tables_last m.domains) ∙ ap (map (λ (l : LastingDomain). l.table)) (sym h.domains) ∙ tables_last new.domains
