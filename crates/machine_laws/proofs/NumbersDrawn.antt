-- A step draws one number of a segment where it enters another domain, and none elsewhere.
use Rattle.std.proofs.Common.{◌≡◌, ℕ, zero, suc, ◌+◌, List, Option, None, Some, false, Ok, Err, refl, ap, ◌∙◌, arith}
use Rattle.jk_model.specs.declared.identifiers.ThreadNo.{ThreadNo}
use Rattle.jk_model.specs.declared.output.Line.{Line}
use Rattle.jk_model.specs.declared.steps.Raise.{Raise}
use Rattle.jk_model.specs.declared.steps.Raise.TheVariants as Raised
use Rattle.jk_model.specs.declared.steps.Standing.TheVariants as Stands
use Rattle.jk_model.specs.declared.values.Value.{Value}
use Rattle.jk_model_domains.specs.Objects.{NamedObject}
use Rattle.jk_model_heaps.specs.Workings.{Request}
use Rattle.jk_model_heaps.specs.Workings.{Binds as AsksToBind, Creates as AsksToCreate, LooksUp as AsksToLookUp, Resumes as AsksToResume, Revokes as AsksToRevoke, Stops as AsksToStop, Suspends as AsksToSuspend, Unbinds as AsksToUnbind}
use Rattle.jk_model_running.specs.Ways.{Went}
use Rattle.jk_model_sharing.specs.Segments.{with_revoked, with_stop}
use Rattle.jk_model_machine_state.specs.Machines.{DomainState, Machine, paid}
use Rattle.jk_model_machine_state.specs.Places.{RunningSegment, with_flags, with_run, without_top}
use Rattle.jk_model_crossings.specs.Answers.{Receives, Returns}
use Rattle.jk_model_crossings.specs.DomainEnds.{Terminates}
use Rattle.jk_model_sharing.specs.Answers.{Granted}
use Rattle.jk_model_crossings.specs.Requests.{Grants}
use Rattle.jk_model_crossings.specs.Throwing.{Brings, RaisesInThread, Throws, TopTwo}
use Rattle.jk_model_runs.specs.Confined.{drawn_by}
use Rattle.jk_model_runs.specs.Events.{Kills}
use Rattle.jk_model_runs.specs.Steps.{Acts, Deed, Ensues, StepsBy, deed_of_raise, deed_of_request}

-- ---- Where nothing is drawn.

abbrev Same : Machine → Machine → Type 0
Same m new = new.next_segment ≡ m.next_segment

brings_same : {m : Machine} {t : ThreadNo} (s : TopTwo m t) (a : ℕ) (r : Raise) (mid : Machine) → Brings s a r mid → Same m mid
brings_same s a r mid (Brings.is_death b death) = refl
brings_same s a r mid (Brings.is_uncopiable b alive not) = refl
brings_same s a r mid (Brings.is_too_large b alive large) = refl
brings_same s a r mid (Brings.is_copied b alive heap c passes) = refl

throws_same : (t : ThreadNo) (n : ℕ) (m : Machine) (a : ℕ) (lines : List Line) (new : Machine) → Throws t n m a lines new → Same m new
throws_same t n m a lines new (Throws.ends w b p class lowest orphan) = refl
throws_same t n m a lines new (Throws.ends_orphan w b p lowest orphan) = refl
throws_same t n m a lines new (Throws.drops w b s orphan) = refl
throws_same t n m a lines new (Throws.caught w mid b s r orphan brought p run raised) = brings_same s b r mid brought
throws_same t n m a lines new (Throws.goes_on k w mid end b c said s r orphan brought p run raised thrown) =
    throws_same t k (with_run p run) c said end thrown ∙ brings_same s b r mid brought

raises_same : (m : Machine) (t : ThreadNo) (r : Raise) (n : ℕ) (lines : List Line) (new : Machine) → RaisesInThread m t r n lines new → Same m new
raises_same m t r n lines new (RaisesInThread.caught p run raised) = refl
raises_same m t r n lines new (RaisesInThread.goes_down p run a k said end raised thrown) = throws_same t k (with_run p run) a said end thrown

receives_same : {m : Machine} {t : ThreadNo} (p : RunningSegment m t) (heap : List NamedObject) (v : Option Value) (new : Machine)
    → Receives p heap v new → Same m new
receives_same p heap v new h = ap (λ (x : Machine). x.next_segment) h.leads

returns_same : (m : Machine) (t : ThreadNo) (v : Option Value) (n : ℕ) (lines : List Line) (new : Machine) → Returns m t v n lines new → Same m new
returns_same m t v n lines new (Returns.ends w p lowest) = refl
returns_same m t v n lines new (Returns.drops w s orphan) = refl
returns_same m t v n lines new (Returns.gives_nothing s end orphan received) =
    receives_same s.below s.below.home.inside.heap None end received
returns_same m t v n lines new (Returns.gives x w s heap end orphan passes received) = receives_same s.below heap (Some w) end received
returns_same m t v n lines new (Returns.is_uncopiable x s k said end orphan not raised) =
    raises_same (without_top s.left) t (Raised.Standing Stands.NotCopiable) k said end raised
returns_same m t v n lines new (Returns.is_too_large x s k said end orphan large raised) =
    raises_same (without_top s.left) t (Raised.Standing Stands.OutOfMemoryError) k said end raised

grants_same : {m : Machine} {t : ThreadNo} (p : RunningSegment m t) (request : Request) (granted : Granted) (mid : Machine)
    → Grants p request granted mid → Same m mid
grants_same p request granted mid (Grants.creates class target answer range g created is) = refl
grants_same p request granted mid (Grants.revokes k answer range g revoked is) = refl
grants_same p request granted mid (Grants.binds text k answer names g bound is) = refl
grants_same p request granted mid (Grants.looks_up text found looked) = refl
grants_same p request granted mid (Grants.unbinds text answer names g unbound is) = refl
grants_same p request granted mid (Grants.suspends s) = refl
grants_same p request granted mid (Grants.resumes s) = refl
grants_same p request granted mid (Grants.stops s) = refl

pub terminates_same : (m new : Machine) (d : DomainState) (lines : List Line) → Terminates m d lines new → Same m new
terminates_same m new d lines h = ap (λ (x : Machine). x.next_segment) h.leads ∙ ap (λ (x : Machine). x.next_segment) h.is_cut

pub kills_same : (m new : Machine) (name : List ℕ) (lines : List Line) → Kills m name lines new → Same m new
kills_same m new name lines (Kills.no_domain none) = refl
kills_same m new name lines (Kills.kills d said end found ends) = terminates_same m end d said ends

-- ---- By what a step was.

raise_draws : (n : ℕ) → drawn_by (deed_of_raise n) ≡ 0
raise_draws zero = refl
raise_draws (suc n) = refl

request_draws : (request : Request) → drawn_by (deed_of_request request) ≡ 0
request_draws (AsksToCreate class target) = refl
request_draws (AsksToRevoke k) = refl
request_draws (AsksToBind text k) = refl
request_draws (AsksToLookUp text) = refl
request_draws (AsksToUnbind text) = refl
request_draws (AsksToSuspend s) = refl
request_draws (AsksToResume s) = refl
request_draws (AsksToStop s) = refl

abbrev Draws : Machine → Deed → Machine → Type 0
Draws m deed new = new.next_segment ≡ m.next_segment + drawn_by deed

ensues_draws : (m : Machine) (t : ThreadNo) (went : Went) (deed : Deed) (lines : List Line) (new : Machine) → Ensues m t went deed lines new
    → Draws m deed new
ensues_draws m t went deed lines new Ensues.goes_on = omega arith
ensues_draws m t went deed lines new (Ensues.says p text) = omega arith
ensues_draws m t went deed lines new (Ensues.ended v n said end h) = omega (arith, returns_same m t v n said end h)
ensues_draws m t went deed lines new (Ensues.left a n said end h) = omega (arith, throws_same t n m a said end h)
ensues_draws m t went deed lines new (Ensues.enters k method c end of_cap of_method h) =
    let drawn : end.next_segment ≡ suc m.next_segment = ap (λ (x : Machine). x.next_segment) h.leads in
    omega (arith, drawn)
ensues_draws m t went deed lines new (Ensues.is_refused k method c r n said end of_cap of_method refused h) =
    omega (arith, raises_same m t r n said end h, raise_draws n)
ensues_draws m t went deed lines new (Ensues.grants p request v mid end granted q received) =
    omega (arith, grants_same p request (Ok v) mid granted, receives_same q q.home.inside.heap v end received, request_draws request)
ensues_draws m t went deed lines new (Ensues.denies p request r n said mid end granted h) =
    omega (arith, grants_same p request (Err r) mid granted, raises_same mid t r n said end h, raise_draws n)
ensues_draws m t went deed lines new (Ensues.terminates p said end h) = omega (arith, terminates_same m end p.home.domain said h)

acts_draw : (m : Machine) (t : ThreadNo) (deed : Deed) (lines : List Line) (new : Machine) → Acts m t deed lines new → Draws m deed new
acts_draw m t deed lines new (Acts.stops p n said end stop h) =
    let same : end.next_segment ≡ m.next_segment =
    raises_same (with_flags p (with_stop false p.segment.shared)) t (Raised.Standing Stands.ThreadDeath) n said end h in
    omega (arith, same, raise_draws n)
acts_draw m t deed lines new (Acts.is_revoked p n said end stop revoked h) =
    let same : end.next_segment ≡ m.next_segment =
    raises_same (with_flags p (with_revoked false p.segment.shared)) t (Raised.Standing Stands.Revoked) n said end h in
    omega (arith, same, raise_draws n)
acts_draw m t deed lines new (Acts.does p run went done said end stop revoked step h) = ensues_draws (with_run p run) t went done said end h

pub steps_draw : (m new : Machine) (t : ThreadNo) (deed : Deed) (lines : List Line) → StepsBy m t deed lines new → Draws m deed new
steps_draw m new t deed lines (StepsBy.not_live gone) = omega arith
steps_draw m new t deed lines (StepsBy.is_held p held) = omega arith
steps_draw m new t deed lines (StepsBy.is_spent p free spent) = omega arith
steps_draw m new t deed lines (StepsBy.acts p done said end free rich h) = acts_draw (paid p.segment.shared.domain m) t done said end h
