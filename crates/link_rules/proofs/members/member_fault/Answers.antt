-- The number is a method's where one finds a member of the wrong sort, and an entry's otherwise.
use Rattle.std.proofs.Common.{ℕ, List, Some, None, arith, refl, subst, sym}
use Rattle.list_lemmas.proofs.ItemsByPlace.{item_read}
use Rattle.jk_model.specs.declared.identifiers.ClassId.{ClassId}
use Rattle.jk_model_classes.specs.declared.records.ClassRecord.{ClassRecord}
use Rattle.jk_model_classes.specs.declared.records.MethodRecord.{MethodRecord}
use Rattle.jk_model_classes.specs.LinkRules.{LinkScope, MissesMember}
use Rattle.jk_model_classes.specs.Worlds.{NamedClass, class_named}
use Rattle.link_rules.specs.FinalMethods.{IsFirstPlace}
use Rattle.link_rules.specs.LinkedInstrs.{FindsWrong, HasLinkedInstr}
use Rattle.link_rules.specs.LinkFaults.{IsLeastNumber}
use Rattle.link_rules.proofs.MethodsByRecord.{least_entry, least_member, nowhere, own_record, place_within}
use Rattle.link_rules.proofs.MissingByLinks.{missing_within}
use Rattle.link_rules.proofs.ToldByOperands.{wrong_told}
use Rattle.link_rules.proofs.members.member_fault.Goals as goal

abbrev scope : List NamedClass → List ClassRecord → ClassId → LinkScope
scope names classes self = record { meaning = class_named names; classes = classes; self = self }

pub method_number-requires : goal.method_number-requires
method_number-requires c =
    let r = c.in_ok-r.r.now in
    let s = scope c.args.names.now c.args.t.now c.args.class in
    let few = c.ordered.ensures.members c.args.class r (item_read c.args.t.now c.args.class.0 r c.in_ok-r.ensures.3.0 c.in_ok-r.ensures.1) in
    record {
      fields = few.0;
      methods = few.1;
      within = place_within (HasLinkedInstr (FindsWrong s c.args.c.now)) r.methods c.in-Some.i
          (subst (λ (ms : List MethodRecord). IsFirstPlace (HasLinkedInstr (FindsWrong s c.args.c.now)) ms (Some c.in-Some.i)) c.as_slice.ensures
          (c.in-Some.ensures s c.args.c.now refl c.requires.linked.links_are));
    }

pub overflow_cast-result : goal.overflow_cast-result
overflow_cast-result c =
    let s = scope c.args.names.now c.args.t.now c.args.class in
    omega (
      arith,
      missing_within s c.args.c.now c.in-Some-first_missing.i c.requires.linked.writable
          (c.in-Some-first_missing.ensures s refl c.requires.linked.links_are).0,
    )

pub returns-in-Some : goal.returns-in-Some
returns-in-Some c =
    let r = c.in_ok-r.r.now in
    let s = scope c.args.names.now c.args.t.now c.args.class in
    let linked = c.requires.linked in
    let at = item_read c.args.t.now c.args.class.0 r c.in_ok-r.ensures.3.0 c.in_ok-r.ensures.1 in
    let least = least_member (FindsWrong s c.args.c.now) (wrong_told s c.args.c.now) s c.args.c.now linked.path linked.alone linked.home r
    (own_record s c.args.c.now c.args.links.now linked r at) (MissesMember s c.args.c.now) (λ n. (λ h. h, λ h. h)) c.in-Some.i
    (subst (λ (ms : List MethodRecord). IsFirstPlace (HasLinkedInstr (FindsWrong s c.args.c.now)) ms (Some c.in-Some.i)) c.as_slice.ensures
    (c.in-Some.ensures s c.args.c.now refl linked.links_are)) in
    subst (λ (n : ℕ). IsLeastNumber (MissesMember s c.args.c.now) (Some n)) (sym c.method_number.ensures) least

pub returns-in-Some-first_missing : goal.returns-in-Some-first_missing
returns-in-Some-first_missing c =
    let r = c.in_ok-r.r.now in
    let s = scope c.args.names.now c.args.t.now c.args.class in
    let linked = c.requires.linked in
    let at = item_read c.args.t.now c.args.class.0 r c.in_ok-r.ensures.3.0 c.in_ok-r.ensures.1 in
    let missing = c.in-Some-first_missing.ensures s refl linked.links_are in
    least_entry (FindsWrong s c.args.c.now) (wrong_told s c.args.c.now) s c.args.c.now linked.path linked.alone linked.home r
    (own_record s c.args.c.now c.args.links.now linked r at) (MissesMember s c.args.c.now) (λ n. (λ h. h, λ h. h)) c.in-Some-first_missing.i
    (subst (λ (ms : List MethodRecord). IsFirstPlace (HasLinkedInstr (FindsWrong s c.args.c.now)) ms None) c.as_slice.ensures
    (c.in-None.ensures s c.args.c.now refl linked.links_are)) missing.0 missing.1

pub returns-in-None-first_missing : goal.returns-in-None-first_missing
returns-in-None-first_missing c =
    let r = c.in_ok-r.r.now in
    let s = scope c.args.names.now c.args.t.now c.args.class in
    let linked = c.requires.linked in
    let at = item_read c.args.t.now c.args.class.0 r c.in_ok-r.ensures.3.0 c.in_ok-r.ensures.1 in
    nowhere (FindsWrong s c.args.c.now) (wrong_told s c.args.c.now) s c.args.c.now linked.path linked.alone linked.home r
    (own_record s c.args.c.now c.args.links.now linked r at) (MissesMember s c.args.c.now) (λ n. (λ h. h, λ h. h))
    (subst (λ (ms : List MethodRecord). IsFirstPlace (HasLinkedInstr (FindsWrong s c.args.c.now)) ms None) c.as_slice.ensures
    (c.in-None.ensures s c.args.c.now refl linked.links_are)) (c.in-None-first_missing.ensures s refl linked.links_are)
