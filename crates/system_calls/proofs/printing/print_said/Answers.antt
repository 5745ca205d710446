-- The name, the colon, the text and the end of the line follow one another.
use Rattle.std.proofs.Common.{◌++◌, ℕ, List, [], codes, sym, subst, arith}
use Rattle.std.proofs.lemmas.Result.{err_from_is_err_and}
use Rattle.jk_model.specs.Text.{shown}
use Rattle.jk_outside.proofs.SentInOrder.{SoFar, SoFar-append, SoFar-nil}
use Rattle.system_calls.proofs.LinesSaid.{colon_broken, ended, name_broken, text_broken}
use Rattle.system_calls.proofs.printing.print_said.Goals as goal

pub returns-in_err-put_bytes : goal.returns-in_err-put_bytes
returns-in_err-put_bytes g c = λ text words.
    let failed = err_from_is_err_and c.from_residual.result c.from_residual.ensures.1 in
    let start : SoFar (g.S.Sink.bytes c.args.out.now) (g.S.Sink.bytes c.args.out.now) (g.S.Sink.pieces c.args.out.now) (g.S.Sink.pieces
    c.args.out.now) (g.S.Sink.faults c.args.out.now) (g.S.Sink.faults c.args.out.now)
    [] c.new-buffer.result [] =
    subst (λ (h : List ℕ). SoFar (g.S.Sink.bytes c.args.out.now) (g.S.Sink.bytes c.args.out.now) (g.S.Sink.pieces c.args.out.now) (g.S.Sink.pieces
    c.args.out.now) (g.S.Sink.faults c.args.out.now) (g.S.Sink.faults c.args.out.now) [] h [])
    (sym c.new-buffer.ensures) (SoFar-nil (g.S.Sink.bytes c.args.out.now) (g.S.Sink.pieces c.args.out.now) (g.S.Sink.faults c.args.out.now) []
    (omega arith) (g.met.S.Sink.faults_fit c.args.out.now)) in
    rw failed.1 (name_broken c.args.name.now text (g.S.Sink.bytes c.args.out.now) (g.S.Sink.pieces c.args.out.now) (g.S.Sink.faults c.args.out.now)
    (g.met.S.Sink.faults_fit c.args.out.now)
    (g.S.Sink.bytes c.args.out.now) (g.S.Sink.pieces c.args.out.now) (g.S.Sink.faults c.args.out.now) c.new-buffer.result (g.S.Sink.bytes
    c.put_bytes.new.sink) (g.S.Sink.pieces c.put_bytes.new.sink) (g.S.Sink.faults c.put_bytes.new.sink)
    c.in_err-put_bytes.ensures.faults _ start c.in_err-put_bytes.ensures.part c.in_err-put_bytes.ensures.cause)

pub returns-in_err-put_bytes-2 : goal.returns-in_err-put_bytes-2
returns-in_err-put_bytes-2 g c = λ text words.
    let failed = err_from_is_err_and c.from_residual-in_err-put_bytes-2.result c.from_residual-in_err-put_bytes-2.ensures.1 in
    let start : SoFar (g.S.Sink.bytes c.args.out.now) (g.S.Sink.bytes c.args.out.now) (g.S.Sink.pieces c.args.out.now) (g.S.Sink.pieces
    c.args.out.now) (g.S.Sink.faults c.args.out.now) (g.S.Sink.faults c.args.out.now)
    [] c.new-buffer.result [] =
    subst (λ (h : List ℕ). SoFar (g.S.Sink.bytes c.args.out.now) (g.S.Sink.bytes c.args.out.now) (g.S.Sink.pieces c.args.out.now) (g.S.Sink.pieces
    c.args.out.now) (g.S.Sink.faults c.args.out.now) (g.S.Sink.faults c.args.out.now) [] h [])
    (sym c.new-buffer.ensures) (SoFar-nil (g.S.Sink.bytes c.args.out.now) (g.S.Sink.pieces c.args.out.now) (g.S.Sink.faults c.args.out.now) []
    (omega arith) (g.met.S.Sink.faults_fit c.args.out.now)) in
    let first = SoFar-append (g.S.Sink.bytes c.args.out.now) (g.S.Sink.bytes c.args.out.now) (g.S.Sink.bytes c.put_bytes.new.sink) (g.S.Sink.pieces
    c.args.out.now) (g.S.Sink.pieces c.args.out.now) (g.S.Sink.pieces c.put_bytes.new.sink) (g.S.Sink.faults c.args.out.now) (g.S.Sink.faults
    c.args.out.now) (g.S.Sink.faults c.put_bytes.new.sink)
    [] c.new-buffer.result c.put_bytes.new.self [] c.args.name.now start
    c.in_ok-put_bytes.ensures.sent c.in_ok-put_bytes.ensures.held c.in_ok-put_bytes.ensures.calm c.in_ok-put_bytes.ensures.faults
    c.in_ok-put_bytes.ensures.few in
    rw failed.1 (colon_broken c.args.name.now text (g.S.Sink.bytes c.args.out.now) (g.S.Sink.pieces c.args.out.now) (g.S.Sink.faults c.args.out.now)
    (g.met.S.Sink.faults_fit c.args.out.now)
    (g.S.Sink.bytes c.put_bytes.new.sink) (g.S.Sink.pieces c.put_bytes.new.sink) (g.S.Sink.faults c.put_bytes.new.sink) c.put_bytes.new.self
    (g.S.Sink.bytes c.put_bytes-2.new.sink) (g.S.Sink.pieces c.put_bytes-2.new.sink) (g.S.Sink.faults c.put_bytes-2.new.sink)
    c.in_err-put_bytes-2.ensures.faults _ first c.in_err-put_bytes-2.ensures.part c.in_err-put_bytes-2.ensures.cause)

pub returns-in_err-put_wording : goal.returns-in_err-put_wording
returns-in_err-put_wording g c = λ text words.
    let failed = err_from_is_err_and c.from_residual-in_err-put_wording.result c.from_residual-in_err-put_wording.ensures.1 in
    let start : SoFar (g.S.Sink.bytes c.args.out.now) (g.S.Sink.bytes c.args.out.now) (g.S.Sink.pieces c.args.out.now) (g.S.Sink.pieces
    c.args.out.now) (g.S.Sink.faults c.args.out.now) (g.S.Sink.faults c.args.out.now)
    [] c.new-buffer.result [] =
    subst (λ (h : List ℕ). SoFar (g.S.Sink.bytes c.args.out.now) (g.S.Sink.bytes c.args.out.now) (g.S.Sink.pieces c.args.out.now) (g.S.Sink.pieces
    c.args.out.now) (g.S.Sink.faults c.args.out.now) (g.S.Sink.faults c.args.out.now) [] h [])
    (sym c.new-buffer.ensures) (SoFar-nil (g.S.Sink.bytes c.args.out.now) (g.S.Sink.pieces c.args.out.now) (g.S.Sink.faults c.args.out.now) []
    (omega arith) (g.met.S.Sink.faults_fit c.args.out.now)) in
    let first = SoFar-append (g.S.Sink.bytes c.args.out.now) (g.S.Sink.bytes c.args.out.now) (g.S.Sink.bytes c.put_bytes.new.sink) (g.S.Sink.pieces
    c.args.out.now) (g.S.Sink.pieces c.args.out.now) (g.S.Sink.pieces c.put_bytes.new.sink) (g.S.Sink.faults c.args.out.now) (g.S.Sink.faults
    c.args.out.now) (g.S.Sink.faults c.put_bytes.new.sink)
    [] c.new-buffer.result c.put_bytes.new.self [] c.args.name.now start
    c.in_ok-put_bytes.ensures.sent c.in_ok-put_bytes.ensures.held c.in_ok-put_bytes.ensures.calm c.in_ok-put_bytes.ensures.faults
    c.in_ok-put_bytes.ensures.few in
    let second = SoFar-append (g.S.Sink.bytes c.args.out.now) (g.S.Sink.bytes c.put_bytes.new.sink) (g.S.Sink.bytes c.put_bytes-2.new.sink)
    (g.S.Sink.pieces c.args.out.now) (g.S.Sink.pieces c.put_bytes.new.sink) (g.S.Sink.pieces c.put_bytes-2.new.sink) (g.S.Sink.faults
    c.args.out.now) (g.S.Sink.faults c.put_bytes.new.sink) (g.S.Sink.faults c.put_bytes-2.new.sink)
    [] c.put_bytes.new.self c.put_bytes-2.new.self c.args.name.now (codes ": ") first
    c.in_ok-put_bytes-2.ensures.sent c.in_ok-put_bytes-2.ensures.held c.in_ok-put_bytes-2.ensures.calm c.in_ok-put_bytes-2.ensures.faults
    c.in_ok-put_bytes-2.ensures.few in
    rw failed.1 (text_broken c.args.name.now text (g.S.Sink.bytes c.args.out.now) (g.S.Sink.pieces c.args.out.now) (g.S.Sink.faults c.args.out.now)
    (g.met.S.Sink.faults_fit c.args.out.now)
    (g.S.Sink.bytes c.put_bytes-2.new.sink) (g.S.Sink.pieces c.put_bytes-2.new.sink) (g.S.Sink.faults c.put_bytes-2.new.sink) c.put_bytes-2.new.self
    (g.S.Sink.bytes c.put_wording.new.out) (g.S.Sink.pieces c.put_wording.new.out) (g.S.Sink.faults c.put_wording.new.out)
    c.in_err-put_wording.ensures.faults _ second (c.in_err-put_wording.ensures.part text words) c.in_err-put_wording.ensures.cause)

pub returns : goal.returns
returns g c = λ text words.
    let start : SoFar (g.S.Sink.bytes c.args.out.now) (g.S.Sink.bytes c.args.out.now) (g.S.Sink.pieces c.args.out.now) (g.S.Sink.pieces
    c.args.out.now) (g.S.Sink.faults c.args.out.now) (g.S.Sink.faults c.args.out.now)
    [] c.new-buffer.result [] =
    subst (λ (h : List ℕ). SoFar (g.S.Sink.bytes c.args.out.now) (g.S.Sink.bytes c.args.out.now) (g.S.Sink.pieces c.args.out.now) (g.S.Sink.pieces
    c.args.out.now) (g.S.Sink.faults c.args.out.now) (g.S.Sink.faults c.args.out.now) [] h [])
    (sym c.new-buffer.ensures) (SoFar-nil (g.S.Sink.bytes c.args.out.now) (g.S.Sink.pieces c.args.out.now) (g.S.Sink.faults c.args.out.now) []
    (omega arith) (g.met.S.Sink.faults_fit c.args.out.now)) in
    let first = SoFar-append (g.S.Sink.bytes c.args.out.now) (g.S.Sink.bytes c.args.out.now) (g.S.Sink.bytes c.put_bytes.new.sink) (g.S.Sink.pieces
    c.args.out.now) (g.S.Sink.pieces c.args.out.now) (g.S.Sink.pieces c.put_bytes.new.sink) (g.S.Sink.faults c.args.out.now) (g.S.Sink.faults
    c.args.out.now) (g.S.Sink.faults c.put_bytes.new.sink)
    [] c.new-buffer.result c.put_bytes.new.self [] c.args.name.now start
    c.in_ok-put_bytes.ensures.sent c.in_ok-put_bytes.ensures.held c.in_ok-put_bytes.ensures.calm c.in_ok-put_bytes.ensures.faults
    c.in_ok-put_bytes.ensures.few in
    let second = SoFar-append (g.S.Sink.bytes c.args.out.now) (g.S.Sink.bytes c.put_bytes.new.sink) (g.S.Sink.bytes c.put_bytes-2.new.sink)
    (g.S.Sink.pieces c.args.out.now) (g.S.Sink.pieces c.put_bytes.new.sink) (g.S.Sink.pieces c.put_bytes-2.new.sink) (g.S.Sink.faults
    c.args.out.now) (g.S.Sink.faults c.put_bytes.new.sink) (g.S.Sink.faults c.put_bytes-2.new.sink)
    [] c.put_bytes.new.self c.put_bytes-2.new.self c.args.name.now (codes ": ") first
    c.in_ok-put_bytes-2.ensures.sent c.in_ok-put_bytes-2.ensures.held c.in_ok-put_bytes-2.ensures.calm c.in_ok-put_bytes-2.ensures.faults
    c.in_ok-put_bytes-2.ensures.few in
    let third = SoFar-append (g.S.Sink.bytes c.args.out.now) (g.S.Sink.bytes c.put_bytes-2.new.sink) (g.S.Sink.bytes c.put_wording.new.out)
    (g.S.Sink.pieces c.args.out.now) (g.S.Sink.pieces c.put_bytes-2.new.sink) (g.S.Sink.pieces c.put_wording.new.out) (g.S.Sink.faults
    c.args.out.now) (g.S.Sink.faults c.put_bytes-2.new.sink) (g.S.Sink.faults c.put_wording.new.out)
    [] c.put_bytes-2.new.self c.put_wording.new.buffer (c.args.name.now ++ codes ": ") (shown text) second
    (c.in_ok-put_wording.ensures.sent text words) (c.in_ok-put_wording.ensures.held text words) c.in_ok-put_wording.ensures.calm
    c.in_ok-put_wording.ensures.faults c.in_ok-put_wording.ensures.kept in
    ended c.args.name.now text (g.S.Sink.bytes c.args.out.now) (g.S.Sink.pieces c.args.out.now) (g.S.Sink.faults c.args.out.now)
    (g.met.S.Sink.faults_fit c.args.out.now)
    (g.S.Sink.bytes c.put_wording.new.out) (g.S.Sink.pieces c.put_wording.new.out) (g.S.Sink.faults c.put_wording.new.out) c.put_wording.new.buffer
    (g.S.Sink.bytes c.end_line.new.sink) (g.S.Sink.pieces c.end_line.new.sink) (g.S.Sink.faults c.end_line.new.sink)
    c.end_line.ensures.faults c.end_line.result third c.end_line.ensures.sent c.end_line.ensures.part c.end_line.ensures.cause c.end_line.ensures.calm
