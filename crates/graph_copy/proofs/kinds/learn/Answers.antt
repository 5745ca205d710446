-- The class is known by its kind.
use Rattle.std.proofs.Common.{inl, inr, ap, ◌∙◌}
use Rattle.std.proofs.lemmas.Option.{same_Some}
use Rattle.jk_model_heaps.specs.declared.shapes.Shape.TheVariants as Of
use Rattle.graph_copy.specs.declared.kinds.KnownClass.{KnownClass}
use Rattle.graph_copy.proofs.KindsKnown.{class_is_known}
use Rattle.graph_copy.proofs.kinds.learn.Goals as goal

pub returns-in-Plain-clause-known : goal.returns-in-Plain-clause-known
returns-in-Plain-clause-known c = class_is_known c.args.t.now c.args.shape.now c.in-Plain.c c.new_kind-kind.result c.in-Plain.is c.new_kind-kind.ensures

pub returns-in-Plain-clause-learnt : goal.returns-in-Plain-clause-learnt
returns-in-Plain-clause-learnt c = λ k is.
    inr (c.in-Plain.is
    ∙ ap (λ (x : KnownClass). Of.Plain x.class) (same_Some (record { class = c.in-Plain.c; kind = c.new_kind-kind.result }) k is))

pub returns-in_default-clause-learnt : goal.returns-in_default-clause-learnt
returns-in_default-clause-learnt c = λ k is. inl is
