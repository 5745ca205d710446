-- The number is a method's where one puts to a final field of another class or makes what it may not, and an entry's otherwise.
use Rattle.std.proofs.Common.{ℕ, List, Some, None, arith, refl, subst, sym}
use Rattle.list_lemmas.proofs.ItemsByPlace.{item_read}
use Rattle.jk_model.specs.declared.identifiers.ClassId.{ClassId}
use Rattle.jk_model_classes.specs.declared.records.ClassRecord.{ClassRecord}
use Rattle.jk_model_classes.specs.declared.records.MethodRecord.{MethodRecord}
use Rattle.jk_model_classes.specs.LinkRules.{LinkScope, IsAccessRefused}
use Rattle.jk_model_classes.specs.Worlds.{NamedClass, class_named}
use Rattle.link_rules.specs.FinalMethods.{IsFirstPlace}
use Rattle.link_rules.specs.LinkedInstrs.{BreaksAccess, HasLinkedInstr}
use Rattle.link_rules.specs.LinkFaults.{IsLeastNumber}
use Rattle.link_rules.proofs.MadeByLinks.{access_member}
use Rattle.link_rules.proofs.MethodsByRecord.{least_entry, least_member, nowhere, own_record, place_within}
use Rattle.link_rules.proofs.RefusedByLinks.{refused_short}
use Rattle.link_rules.proofs.ToldByOperands.{access_told}
use Rattle.link_rules.proofs.access.access_fault.Goals as goal

abbrev scope : List NamedClass → List ClassRecord → ClassId → LinkScope
scope names classes self = record { meaning = class_named names; classes = classes; self = self }

pub method_number-requires : goal.method_number-requires
method_number-requires c =
    let r = c.in_ok-r.r.now in
    let s = scope c.args.names.now c.args.t.now c.args.class in
    let few = c.ordered.ensures.members c.args.class r (item_read c.args.t.now c.args.class.0 r c.in_ok-r.ensures.3.0 c.in_ok-r.ensures.1) in
    record {
      fields = few.0;
      methods = few.1;
      within = place_within (HasLinkedInstr (BreaksAccess s c.args.c.now)) r.methods c.in-Some.i
          (subst (λ (ms : List MethodRecord). IsFirstPlace (HasLinkedInstr (BreaksAccess s c.args.c.now)) ms (Some c.in-Some.i)) c.as_slice.ensures
          (c.in-Some.ensures s refl refl c.requires.linked.links_are));
    }

pub overflow_cast-result : goal.overflow_cast-result
overflow_cast-result c =
    let s = scope c.args.names.now c.args.t.now c.args.class in
    omega (
      arith,
      refused_short s c.args.c.now c.in-Some-first_refused.i c.requires.linked.writable
          (c.in-Some-first_refused.ensures s c.args.c.now refl refl c.requires.linked.links_are).0,
    )

pub returns-in-Some : goal.returns-in-Some
returns-in-Some c =
    let r = c.in_ok-r.r.now in
    let s = scope c.args.names.now c.args.t.now c.args.class in
    let linked = c.requires.linked in
    let at = item_read c.args.t.now c.args.class.0 r c.in_ok-r.ensures.3.0 c.in_ok-r.ensures.1 in
    let least = least_member (BreaksAccess s c.args.c.now) (access_told s c.args.c.now) s c.args.c.now linked.path linked.alone linked.home r
    (own_record s c.args.c.now c.args.links.now linked r at) (IsAccessRefused s c.args.c.now)
    (λ n. access_member s c.args.c.now c.args.links.now linked.links_are linked.path linked.alone n) c.in-Some.i
    (subst (λ (ms : List MethodRecord). IsFirstPlace (HasLinkedInstr (BreaksAccess s c.args.c.now)) ms (Some c.in-Some.i)) c.as_slice.ensures
    (c.in-Some.ensures s refl refl linked.links_are)) in
    subst (λ (n : ℕ). IsLeastNumber (IsAccessRefused s c.args.c.now) (Some n)) (sym c.method_number.ensures) least

pub returns-in-Some-first_refused : goal.returns-in-Some-first_refused
returns-in-Some-first_refused c =
    let r = c.in_ok-r.r.now in
    let s = scope c.args.names.now c.args.t.now c.args.class in
    let linked = c.requires.linked in
    let at = item_read c.args.t.now c.args.class.0 r c.in_ok-r.ensures.3.0 c.in_ok-r.ensures.1 in
    let refused = c.in-Some-first_refused.ensures s c.args.c.now refl refl linked.links_are in
    least_entry (BreaksAccess s c.args.c.now) (access_told s c.args.c.now) s c.args.c.now linked.path linked.alone linked.home r
    (own_record s c.args.c.now c.args.links.now linked r at) (IsAccessRefused s c.args.c.now)
    (λ n. access_member s c.args.c.now c.args.links.now linked.links_are linked.path linked.alone n) c.in-Some-first_refused.i
    (subst (λ (ms : List MethodRecord). IsFirstPlace (HasLinkedInstr (BreaksAccess s c.args.c.now)) ms None) c.as_slice.ensures
    (c.in-None.ensures s refl refl linked.links_are)) refused.0 refused.1

pub returns-in-None-first_refused : goal.returns-in-None-first_refused
returns-in-None-first_refused c =
    let r = c.in_ok-r.r.now in
    let s = scope c.args.names.now c.args.t.now c.args.class in
    let linked = c.requires.linked in
    let at = item_read c.args.t.now c.args.class.0 r c.in_ok-r.ensures.3.0 c.in_ok-r.ensures.1 in
    nowhere (BreaksAccess s c.args.c.now) (access_told s c.args.c.now) s c.args.c.now linked.path linked.alone linked.home r
    (own_record s c.args.c.now c.args.links.now linked r at) (IsAccessRefused s c.args.c.now)
    (λ n. access_member s c.args.c.now c.args.links.now linked.links_are linked.path linked.alone n)
    (subst (λ (ms : List MethodRecord). IsFirstPlace (HasLinkedInstr (BreaksAccess s c.args.c.now)) ms None) c.as_slice.ensures
    (c.in-None.ensures s refl refl linked.links_are)) (c.in-None-first_refused.ensures s c.args.c.now refl refl linked.links_are)
