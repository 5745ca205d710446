-- The text of the parts is that of the fault.
use Rattle.std.proofs.Common.{subst, List, ℕ, ◌∙◌, w64, rules}
use Rattle.std.proofs.lemmas.Int.{to_z-of_z}
use Rattle.std.specs.Prelude.{OnOk, OnErr}
use Rattle.jk_model.specs.Outside.{Appends, AppendsPart}
use Rattle.jkernel_runs.proofs.MessageTexts.{fault_parts}
use Rattle.jkernel_runs.proofs.ends.say_fault.Goals as goal

pub returns-clause-ok : goal.returns-clause-ok
returns-clause-ok g c =
    subst (λ (text : List ℕ). OnOk c.write_line.result (Appends (g.E.Sink.bytes c.args.err.now) (g.E.Sink.bytes c.write_line.new.sink) text))
    (fault_parts (record { line = c.args.line; kind = c.args.kind }) _ c.kind_name.result.now (to_z-of_z w64 c.from.result (search rules) ∙ c.from.ensures)
    c.kind_name.ensures)
    c.write_line.ensures.ok

pub returns-clause-part : goal.returns-clause-part
returns-clause-part g c =
    subst (λ (text : List ℕ). OnErr c.write_line.result (AppendsPart (g.E.Sink.bytes c.args.err.now) (g.E.Sink.bytes c.write_line.new.sink) text))
    (fault_parts (record { line = c.args.line; kind = c.args.kind }) _ c.kind_name.result.now (to_z-of_z w64 c.from.result (search rules) ∙ c.from.ensures)
    c.kind_name.ensures)
    c.write_line.ensures.part
