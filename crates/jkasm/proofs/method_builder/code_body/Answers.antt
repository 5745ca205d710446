-- The body is laid out as its code, and is short.
use Rattle.std.proofs.Common.{◌≡◌, [], refl, subst, arith}
use Rattle.std.specs.List.{AllByRecursion}
use Rattle.jk_model.specs.ClassFile.{AreBytes, IsHandler, code_bytes}
use Rattle.jkasm.proofs.CodeBodies.{FitsCode, body_of, not_empty}
use Rattle.jkasm.proofs.method_builder.code_body.Goals as goal

pub returns-clause-body : goal.returns-clause-body
returns-clause-body c =
    let code = c.args.code in
    let handlers = c.args.handlers in
    let fits : FitsCode (record { max_stack = c.args.stack; max_locals = c.args.locals; code = code; handlers = handlers; attributes = [] }) = record {
      limits = (omega arith, omega arith);
      some = not_empty code c.is_empty.result c.is_empty.ensures.1 c.if-is_empty.false;
      short = omega arith;
      bytes = subst AreBytes c.as_slice.ensures c.are_bytes.ensures;
      few = omega arith;
      handlers = subst (AllByRecursion IsHandler) c.as_slice-2.ensures c.are_handlers.ensures;
      plain = refl;
    } in
    body_of c.args.stack c.args.locals code handlers c.in_ok-body.body fits
    (subst (λ attributes. c.in_ok-body.body ≡ code_bytes (record {
      max_stack = c.args.stack;
      max_locals = c.args.locals;
      code = code;
      handlers = handlers;
      attributes = attributes;
    }))
    c.new-attributes.ensures c.in_ok-body.ensures.written)
    (subst AreBytes c.as_slice-3.ensures c.are_bytes-2.ensures)
