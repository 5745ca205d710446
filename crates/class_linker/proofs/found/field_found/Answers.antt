-- What is found is remembered at its key.
use Rattle.std.proofs.Common.{◌≡◌, ℕ, Some, cond, nat_eq, arith, subst}
use Rattle.std.specs.BTreeMap.{get}
use Rattle.std.specs.Ordering.{nat_cmp}
use Rattle.jk_model_classes.specs.Lookups.{FindsField}
use Rattle.class_linker.specs.TextsSaid.{IsPairOf, SaysField}
use Rattle.class_linker.proofs.MembersAreFound.{found_kept}
use Rattle.class_linker.proofs.TextsAreSaid.{one_field_said, one_pair}
use Rattle.class_linker.proofs.found.field_found.Goals as goal

pub returns-clause-known : goal.returns-clause-known
returns-clause-known c =
    let names = c.args.l.now.names.now in
    let pool = c.args.l.now.pool.now in
    found_kept (IsPairOf (SaysField names pool) pool) (FindsField c.args.l.now.t.now) (one_pair (SaysField names pool) (one_field_said names pool) pool)
    (λ q. get nat_cmp c.args.found.now q) (λ q. get nat_cmp c.remember.new.found q) c.args.class c.args.pair c.args.name.now c.args.kind
    c.find_field_by-m.result (omega arith) c.requires.pair (rw c.of_text.ensures at c.find_field_by-m.ensures)
    (subst (λ (k : ℕ). (q : ℕ) → get nat_cmp c.remember.new.found q ≡ cond (nat_eq k q) (Some c.find_field_by-m.result) (get nat_cmp c.args.found.now q))
    c.key_of-key.ensures c.in_ok-remember.ensures) c.requires.known

pub returns-clause-found : goal.returns-clause-found
returns-clause-found c = rw c.of_text.ensures at c.find_field_by-m.ensures
