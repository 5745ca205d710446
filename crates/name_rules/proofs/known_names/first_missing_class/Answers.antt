-- The first entry that refers to a class that isn't known.
use Rattle.std.proofs.Common.{◌≡◌, inl, inr, ℕ, List, length, ap, arith, subst}
use Rattle.std.proofs.lemmas.Bool.{cases_lt, iff_false}
use Rattle.jk_model.specs.declared.class_file.PoolEntry.{PoolEntry}
use Rattle.jk_model_classes.specs.References.{RefersAt}
use Rattle.name_rules.specs.KnownNames.{LacksOne}
use Rattle.name_rules.specs.declared.names.Names.{Names}
use Rattle.name_rules.proofs.NamesLacking.{is_missing, none_missing, not_missing}
use Rattle.name_rules.proofs.known_names.first_missing_class.Goals as goal

pub returns-then-branch-clause-missing : goal.returns-then-branch-clause-missing
returns-then-branch-clause-missing c = λ s outer own.
    let x : Names = record { alloc = c.args.alloc; outer = c.args.outer; own = c.args.own } in
    is_missing x s outer own c.args.f.now.file c.loop-i.i (c.in_ok-entry_lacks.ensures.0 c.if-branch.true)

pub returns-then-branch-clause-least : goal.returns-then-branch-clause-least
returns-then-branch-clause-least c = λ s outer own i below.
    let x : Names = record { alloc = c.args.alloc; outer = c.args.outer; own = c.args.own } in
    not_missing x s outer own c.args.f.now.file i (c.loop-i.invariant i below)

pub loop-i-preserved : goal.loop-i-preserved
loop-i-preserved c = λ k below.
    let x : Names = record { alloc = c.args.alloc; outer = c.args.outer; own = c.args.own } in
    elim (cases_lt k c.loop-i.i) [
      | inl less ↦ c.loop-i.invariant k less
      | inr least ↦ λ lacks.
          let same : k ≡ c.loop-i.i = omega arith in
          iff_false c.in_ok-entry_lacks.ensures c.if-branch.false (subst (λ (i : ℕ). LacksOne x (RefersAt c.args.f.now.file i)) same lacks)
    ]

pub returns-clause-none : goal.returns-clause-none
returns-clause-none c = λ s outer own.
    let x : Names = record { alloc = c.args.alloc; outer = c.args.outer; own = c.args.own } in
    let file = c.args.f.now.file in
    none_missing x s outer own file c.loop-i.i
    (omega (arith, c.loop-i-test.false, ap (λ (pool : List PoolEntry). length pool) c.as_slice-entry-items.ensures)) c.loop-i.invariant
