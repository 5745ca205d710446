-- A method with lines has an instruction and the attribute Code, and one without has none.
use Rattle.std.proofs.Common.{sym, ◌∙◌, arith, subst}
use Rattle.jk_model.specs.ClassFile.{IsMember}
use Rattle.jkasm.specs.Assembled.{IsMethodOf}
use Rattle.jkasm.specs.GoodLines.{HasCodeOrNothing}
use Rattle.jkasm.proofs.MethodAtItsEnd.{HasShortNumbers, member_of, thrown_few, ended_with_code, ended_without_code}
use Rattle.jkasm.proofs.method_builder.MethodBuilder.end.Goals as goal
use Rattle.jkasm.proofs.method_builder.MethodBuilder.end.Goals.{in-Some+in_ok-body+in_ok-put_first, in_default}

pub returns-clause-built : goal.returns-clause-built
returns-clause-built c = λ pool m later is few.
    let b = c.args.self in
    let numbers : HasShortNumbers b = (omega arith, omega arith, omega arith) in
    elim c.match-code_name.branch [
      | in-Some+in_ok-body+in_ok-put_first w ↦
          let put = w.in_ok-put_first.ensures (thrown_few pool m.line.throws b.thrown is.thrown) in
          ended_with_code pool m later b w.in-Some.name w.in_ok-body.body c.match-code_name.attributes is w.in-Some.is (omega arith) numbers
          w.in_ok-body.ensures.body (w.attributes-is ∙ put)
      | in_default w ↦
          subst (λ attributes. IsMethodOf pool m (member_of b attributes) × IsMember (member_of b attributes) × HasCodeOrNothing m) (sym w.attributes-is)
          (ended_without_code pool m later b is w.in_default.is numbers)
    ]
