-- The first field that has a namesake before it counts, and else the first method.
use Rattle.std.proofs.Common.{subst, List, Some, None}
use Rattle.jk_model.specs.declared.class_file.MemberInfo.{MemberInfo}
use Rattle.class_rules.specs.MemberKeys.{IsFirstRepeat}
use Rattle.class_rules.proofs.NamesakesByKeys.{second_field, second_method, no_duplicate}
use Rattle.class_rules.proofs.duplicates.duplicate_member.Goals as goal

pub returns-in-Some : goal.returns-in-Some
returns-in-Some c =
    let found = rw c.in-Some.is at c.in_ok-i.ensures in
    second_field c.args.c.now c.args.facts.now c.requires.known c.in-Some.i
    (subst (λ (ms : List MemberInfo). IsFirstRepeat c.args.facts.now ms (Some c.in-Some.i)) c.as_slice.ensures found)

pub returns-in-Some-2 : goal.returns-in-Some-2
returns-in-Some-2 c =
    let none = rw c.in_default.is at c.in_ok-i.ensures in
    let found = rw c.in-Some-2.is at c.in_ok-i-2.ensures in
    let whole = second_method c.args.c.now c.args.facts.now c.requires.known
    (subst (λ (ms : List MemberInfo). IsFirstRepeat c.args.facts.now ms None) c.as_slice.ensures none) c.in-Some-2.i
    (subst (λ (ms : List MemberInfo). IsFirstRepeat c.args.facts.now ms (Some c.in-Some-2.i)) c.as_slice-2.ensures found) in
    rw c.len.ensures whole

pub returns : goal.returns
returns c =
    let none = rw c.in_default.is at c.in_ok-i.ensures in
    let none2 = rw c.in_default-2.is at c.in_ok-i-2.ensures in
    no_duplicate c.args.c.now c.args.facts.now c.requires.known
    (subst (λ (ms : List MemberInfo). IsFirstRepeat c.args.facts.now ms None) c.as_slice.ensures none)
    (subst (λ (ms : List MemberInfo). IsFirstRepeat c.args.facts.now ms None) c.as_slice-2.ensures none2)
