-- One more is counted.
use Rattle.std.proofs.Common.{List, add-one, arith, refl, subst, take_all}
use Rattle.list_lemmas.proofs.ItemsByPlace.{item_read}
use Rattle.thread_segments.specs.declared.domains.DomainEntry.{DomainEntry}
use Rattle.thread_segments.specs.declared.parts.NamePart.{NamePart}
use Rattle.thread_segments.specs.RestoredParts.{AreCountedUp, more_names, name_home}
use Rattle.thread_segments.proofs.RestoredCounts.{no_more_names, none_counted, one_counted, one_fits, one_name_counted}
use Rattle.thread_segments.proofs.restoring.count_names.Goals as goal

pub loop-name-init : goal.loop-name-init
loop-name-init c = none_counted name_home more_names no_more_names c.args.domains.now.items

pub count_name-requires-clause-there : goal.count_name-requires-clause-there
count_name-requires-clause-there c =
    let k = c.loop-name.name-index in
    let x = c.name-item.result in
    let at = item_read c.args.names.now k x c.loop-name-test.true c.name-item.is in
    let low = c.requires.there k x at in
    omega (arith, low, c.loop-name.invariant.as_many)

pub count_name-requires-clause-few : goal.count_name-requires-clause-few
count_name-requires-clause-few c =
    let k = c.loop-name.name-index in
    let x = c.name-item.result in
    let at = item_read c.args.names.now k x c.loop-name-test.true c.name-item.is in
    one_fits name_home more_names c.args.domains.now.items c.loop-name.domains.items c.args.names.now k x at _ refl c.loop-name.invariant
    (λ (e : DomainEntry). e.names) (λ n e. refl) c.requires.few

pub loop-name-preserved : goal.loop-name-preserved
loop-name-preserved c =
    let k = c.loop-name.name-index in
    let x = c.name-item.result in
    let at = item_read c.args.names.now k x c.loop-name-test.true c.name-item.is in
    rw (add-one k)
    (one_counted name_home more_names c.args.domains.now.items c.loop-name.domains.items c.args.names.now k x at _ refl c.loop-name.invariant one_name_counted
    c.count_name.new.domains.items c.count_name.ensures)

pub returns : goal.returns
returns c =
    let P : List NamePart → Type 0 = λ xs. AreCountedUp name_home more_names c.args.domains.now.items c.loop-name.domains.items xs in
    subst P (take_all c.loop-name.name-index c.args.names.now (omega (arith, c.loop-name-test.false))) c.loop-name.invariant
