-- The call finds what it asks for, and at a capability it is one through it.
use Rattle.std.proofs.Common.{◌≡◌, ◌≢◌, length, refl, ap, ◌∙◌, inl, inr, arith, rules}
use Rattle.jk_model.specs.declared.values.Value.TheVariants as Held
use Rattle.jk_model_call_rows.specs.CallRows.{IsOfCalls}
use Rattle.jk_model_call_rows.specs.Targets.{Through}
use Rattle.jk_model_classes.specs.Classes.{OBJECT}
use Rattle.call_ops.proofs.CallFound.{few_params, has_method, leads_to_method}
use Rattle.call_ops.proofs.CallsDone.{has_entry, through_at}
use Rattle.call_ops.proofs.steps.crossing_at.Goals as goal

-- ---- What it asks for.

pub method_of-named-requires : goal.method_of-named-requires
method_of-named-requires g c =
    let kind : IsOfCalls c.args.at.now.instr.now = (omega arith, omega arith) in
    leads_to_method c.requires.4 kind

pub unreachable-requires : goal.unreachable-requires
unreachable-requires g c =
    let kind : IsOfCalls c.args.at.now.instr.now = (omega arith, omega arith) in
    let there = has_method c.requires.4 kind c.classes-t.result.now c.classes-t.ensures c.method_of-named.result c.method_of-named.ensures in
    c.in-None.ensures.none there.0 there.1

pub overflow_cast-arguments : goal.overflow_cast-arguments
overflow_cast-arguments g c =
    let kind : IsOfCalls c.args.at.now.instr.now = (omega arith, omega arith) in
    omega (
      arith,
      c.len-arguments.ensures,
      ap length c.get.ensures,
      few_params c.requires.4 kind c.classes-t.result.now c.classes-t.ensures c.method_of-named.result c.method_of-named.ensures
          c.in-Some.method.now c.in-Some.ensures.some,
    )

pub peek-requires : goal.peek-requires
peek-requires g c =
    let kind : IsOfCalls c.args.at.now.instr.now = (omega arith, omega arith) in
    let other : c.args.at.now.instr.now.op ≢ 0xb8 = λ static. absurd (omega (arith, static)) in
    has_entry c.requires.4 kind c.classes-t.result.now c.classes-t.ensures c.method_of-named.result c.method_of-named.ensures
    c.in-Some.method.now c.in-Some.ensures.some c.len-arguments.result (c.len-arguments.ensures ∙ ap length c.get.ensures) other

-- ---- What it answers.

pub returns-in-Cap-clause-kind : goal.returns-in-Cap-clause-kind
returns-in-Cap-clause-kind g c = omega arith

pub returns-in-Cap-clause-call : goal.returns-in-Cap-clause-call
returns-in-Cap-clause-call g c = λ heaps own shared d x may is.
    let kind : IsOfCalls c.args.at.now.instr.now = (omega arith, omega arith) in
    let other : c.args.at.now.instr.now.op ≢ 0xb8 = λ static. absurd (omega (arith, static)) in
    let interface : c.args.at.now.instr.now.op ≡ 0xb9 = omega arith in
    let no_object : c.method_of-named.result.class ≢ OBJECT = search rules in
    through_at may kind c.classes-t.result.now c.classes-t.ensures c.method_of-named.result c.method_of-named.ensures
    c.in-Some.method.now c.in-Some.ensures.some c.len-arguments.result (c.len-arguments.ensures ∙ ap length c.get.ensures)
    other (Held.Cap c.in-Cap.k) c.in-Cap.ensures (Through c.in-Cap.k c.method_of-named.result)
    (λ arguments. inr (inr (interface, inl (no_object, refl)))) c.in-Cap.k c.method_of-named.result refl x is
