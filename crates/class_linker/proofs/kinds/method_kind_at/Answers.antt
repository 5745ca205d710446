-- One more type is known.
use Rattle.std.proofs.Common.{◌≡◌, ℕ, List, Option, Some, arith, subst, sym, slice_get}
use Rattle.std.specs.Prelude.{IfSome}
use Rattle.jk_model_classes.specs.Worlds.{class_named}
use Rattle.class_linker.specs.declared.types.MethodKind.{MethodKind}
use Rattle.class_linker.specs.KnownDescriptors.{AreKindsKnown, IsKindAt}
use Rattle.class_linker.specs.KnownTypes.{IsMethodOf, IsKindOf}
use Rattle.class_linker.proofs.KnownOnce.{text_within, kinds_more}
use Rattle.class_linker.proofs.kinds.method_kind_at.Goals as goal

pub returns-in-Some-clause-found : goal.returns-in-Some-clause-found
returns-in-Some-clause-found c =
    let read : slice_get c.as_slice.result.now c.args.i ≡ Some (Some c.in-Some.kind) =
    subst (λ (o : Option MethodKind). IfSome o (λ k. slice_get c.as_slice.result.now c.args.i ≡ Some (Some k))) c.in-Some.is c.in_ok-kind.ensures in
    c.requires.known.each c.args.i c.in-Some.kind
    (subst (λ (list : List (Option MethodKind)). slice_get list c.args.i ≡ Some (Some c.in-Some.kind)) c.as_slice.ensures read)

pub kind_of_method-requires : goal.kind_of_method-requires
kind_of_method-requires c =
    subst (λ (units : List ℕ). IsMethodOf (class_named c.args.scope.now.names.now) units) (sym c.as_slice-2.ensures)
    (c.requires.method.is c.text.result.now c.text.ensures)

pub replace-requires : goal.replace-requires
replace-requires c =
    omega (arith, c.from.ensures, c.requires.known.long, text_within c.args.scope.now.file.now.pool c.args.i c.text.result.now c.text.ensures)

pub returns-clause-known : goal.returns-clause-known
returns-clause-known c =
    let m = class_named c.args.scope.now.names.now in
    let pool = c.args.scope.now.file.now.pool in
    let kind = c.in_ok-kind-2.kind in
    let is : IsKindAt m pool c.args.i kind =
    (c.text.result.now, c.text.ensures, subst (λ (units : List ℕ). IsKindOf m units kind) c.as_slice-2.ensures c.in_ok-kind-2.ensures) in
    subst (λ (list : List (Option MethodKind)). AreKindsKnown m pool list) (sym c.replace.ensures.new)
    (kinds_more m pool c.args.known.now c.from.result c.args.i c.in_ok-shared.shared c.from.ensures c.requires.known
    (subst (λ (k : MethodKind). IsKindAt m pool c.args.i k) (sym c.in_ok-shared.ensures) is))
