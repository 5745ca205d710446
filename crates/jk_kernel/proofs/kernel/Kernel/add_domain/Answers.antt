-- An opening keeps what holds of the machine, and each other answer leaves it as it was.
use Rattle.std.proofs.Common.{◌≡◌, [], ◌∷◌, Some, Result, Ok, Err, sym, subst}
use Rattle.std.specs.Prelude.{IfErr, OnErr, OnOk}
use Rattle.jk_model_folders.specs.FolderRules.{IsFolderFault, IsLive}
use Rattle.jk_model_machine_state.specs.Machines.{Machine, world_of}
use Rattle.jk_model.specs.declared.output.Line.{Line}
use Rattle.jk_model.specs.declared.output.Line.TheVariants as Says
use Rattle.kernel_openings.specs.AddedDomains.{AddsDomain, IsCauseOf, Opening, line_of}
use Rattle.jk_kernel.specs.SoundMachines.{IsSoundMachine}
use Rattle.jk_kernel.proofs.kernel.Kernel.add_domain.Goals as goal

by_answer : {T E : Type 0} (r : Result T E) (P Q X : Type 0) → OnOk r P → OnErr r Q → (P → X) → (Q → X) → X
by_answer (Ok t) P Q X ok err good bad = good ok
by_answer (Err e) P Q X ok err good bad = bad err

pub invariant_of-self : goal.invariant_of-self
invariant_of-self g c =
    let e = c.add_domain.ensures in
    let old = c.self.inside.parts in
    let new = c.add_domain.new.k in
    by_answer c.add_domain.result _ (new ≡ old) (IsSoundMachine new) e.opened e.err
    (λ opened. c.machines_stay_sound.ensures.openings opened.0 old new c.args.name.now c.args.quotas opened.1 c.self.invariant opened.2)
    (λ same. subst IsSoundMachine (sym same) c.self.invariant)

pub returns-clause-ok : goal.returns-clause-ok
returns-clause-ok g c =
    let o : Opening = record { tree = g.R.Files.tree c.args.files.now; root = c.args.root.now; name = c.args.name.now; quotas = c.args.quotas } in
    subst (λ (m : Machine). OnOk c.add_domain.result (AddsDomain o m (Says.Loaded c.args.name.now ∷ []) c.add_domain.new.k)) c.self.view_is
    c.add_domain.ensures.ok

pub returns-clause-cause : goal.returns-clause-cause
returns-clause-cause g c =
    let o : Opening = record { tree = g.R.Files.tree c.args.files.now; root = c.args.root.now; name = c.args.name.now; quotas = c.args.quotas } in
    subst (λ (m : Machine). IfErr c.add_domain.result (IsCauseOf o m)) c.self.view_is c.add_domain.ensures.cause

pub returns-clause-refused : goal.returns-clause-refused
returns-clause-refused g c =
    let o : Opening = record { tree = g.R.Files.tree c.args.files.now; root = c.args.root.now; name = c.args.name.now; quotas = c.args.quotas } in
    subst
    (λ (m : Machine). IfErr c.add_domain.result (λ e. (line : Line) → line_of c.args.name.now e ≡ Some line → AddsDomain o m (line ∷ []) m))
    c.self.view_is c.add_domain.ensures.refused

pub returns-clause-only_refused : goal.returns-clause-only_refused
returns-clause-only_refused g c = λ t rule place told fault.
    c.add_domain.ensures.only_refused t rule place told
    (subst (λ (m : Machine). IsFolderFault t c.args.root.now (world_of m) c.args.name.now rule place) (sym c.self.view_is) fault)

pub returns-clause-only_lacking : goal.returns-clause-only_lacking
returns-clause-only_lacking g c = λ t e told lacking why.
    let o : Opening = record { tree = g.R.Files.tree c.args.files.now; root = c.args.root.now; name = c.args.name.now; quotas = c.args.quotas } in
    c.add_domain.ensures.only_lacking t e told lacking (subst (λ (m : Machine). IsCauseOf o m e) (sym c.self.view_is) why)

pub returns-clause-live : goal.returns-clause-live
returns-clause-live g c = λ live.
    c.add_domain.ensures.live (subst (λ (m : Machine). IsLive (world_of m) c.args.name.now) (sym c.self.view_is) live)

pub returns-clause-live_asks : goal.returns-clause-live_asks
returns-clause-live_asks g c = λ live.
    c.add_domain.ensures.live_asks (subst (λ (m : Machine). IsLive (world_of m) c.args.name.now) (sym c.self.view_is) live)
