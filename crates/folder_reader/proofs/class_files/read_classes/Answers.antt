-- One class file more is read, and is of those that make the folder too large.
use Rattle.std.proofs.Common.{◌+◌, [], Some, refl, sym, ap, ◌∙◌, arith, rules}
use Rattle.folder_reader.proofs.CallsInTurn.{asked_since, handed_on, moves_on, no_move}
use Rattle.folder_reader.proofs.CountsTaken.{took_both, took_later, took_nothing}
use Rattle.folder_reader.proofs.ToldOrNot.{file_is_read, path_get, to_read_at}
use Rattle.folder_reader.proofs.WholeWalk.{read_more, sum_more, too_long_with}
use Rattle.folder_reader.proofs.AsksApart.{asks_same, reads_some, reads_to}
use Rattle.folder_reader.proofs.class_files.read_classes.Goals as goal

pub read_class-requires-clause-to_read : goal.read_class-requires-clause-to_read
read_class-requires-clause-to_read g c =
    to_read_at _ _ c.args.root.now c.args.paths.now c.loop-path.path-index c.path-item.result _ c.loop-path.invariant.moves.stays
    c.requires.to_read (omega arith) c.path-item.is c.as_str.ensures.value

pub returns-then-sum-gt-MOST_CLASS_BYTES-clause-too_large : goal.returns-then-sum-gt-MOST_CLASS_BYTES-clause-too_large
returns-then-sum-gt-MOST_CLASS_BYTES-clause-too_large g c = λ _.
    let at = path_get c.args.paths.now c.loop-path.path-index c.path-item.result (omega arith) c.path-item.is
    ∙ ap Some (sym (c.in_ok-class.ensures.path ∙ c.as_str.ensures.value)) in
    let bytes = file_is_read _ _ c.args.root.now _ c.in_ok-class.class c.loop-path.invariant.moves.stays c.in_ok-class.ensures.path
    c.in_ok-class.ensures.bytes in
    too_long_with _ c.args.root.now _ c.loop-path.path-index c.loop-path.classes c.in_ok-class.class c.loop-path.invariant.read at bytes
    c.requires.to_read c.requires.apart c.requires.folder
    (omega (arith, c.loop-path.invariant.sum, c.len-sum.ensures, c.if-sum-gt-MOST_CLASS_BYTES.true))

pub loop-path-preserved : goal.loop-path-preserved
loop-path-preserved g c =
    let at = path_get c.args.paths.now c.loop-path.path-index c.path-item.result (omega arith) c.path-item.is
    ∙ ap Some (sym (c.in_ok-class.ensures.path ∙ c.as_str.ensures.value)) in
    let bytes = file_is_read _ _ c.args.root.now _ c.in_ok-class.class c.loop-path.invariant.moves.stays c.in_ok-class.ensures.path
    c.in_ok-class.ensures.bytes in
    let whole = sum_more c.loop-path.classes c.in_ok-class.class in
    record {
      read = rw c.in_ok-push.ensures.ok
          (read_more _ c.args.root.now _ c.loop-path.path-index c.loop-path.classes c.in_ok-class.class c.loop-path.invariant.read at bytes
          c.in_ok-class.ensures.short (omega (arith, c.loop-path.invariant.sum, c.len-sum.ensures, c.if-sum-gt-MOST_CLASS_BYTES.false)));
      sum = rw c.in_ok-push.ensures.ok (omega (arith, whole, c.loop-path.invariant.sum, c.len-sum.ensures));
      counted = took_both _ _ _ _ _ _ _ _ c.loop-path.invariant.moves.stays (omega (arith, c.len-sum.ensures)) c.in_ok-class.ensures.moves.taken
          c.loop-path.invariant.counted c.in_ok-class.ensures.counted;
      moves = moves_on c.args.root.now _ _ _ _ _ _ _ _ _ _ _ _ c.loop-path.invariant.moves c.in_ok-class.ensures.moves;
      asks = reads_to c.args.root.now _ _ _ _ c.loop-path.path-index _
          (path_get c.args.paths.now c.loop-path.path-index c.path-item.result (omega arith) c.path-item.is ∙ ap Some (sym c.as_str.ensures.value))
          c.loop-path.invariant.asks c.in_ok-class.ensures.once;
      calm = λ t is. c.in_ok-class.ensures.calm t (c.loop-path.invariant.moves.stays ∙ is) (λ fault. cc) ∙ c.loop-path.invariant.calm t is;
    }

pub returns-in_err-class-clause-something : goal.returns-in_err-class-clause-something
returns-in_err-class-clause-something g c = λ is.
    let r = c.from_residual in
    asked_since c.args.root.now _ _ _ _ _ _ _ _ _ _ _ _ c.loop-path.invariant.moves c.read_class.ensures.moves
    (c.read_class.ensures.something
    (handed_on r.result c.in_err-class.field-0.0 _ c.read_class.result r.ensures.1 is c.in_err-class.was))

pub returns-in_err-class-clause-large : goal.returns-in_err-class-clause-large
returns-in_err-class-clause-large g c = λ is.
    let r = c.from_residual in
    let before = c.loop-path.invariant.moves in
    took_later _ _ 17 _ _ _ before.stays before.taken
    (c.read_class.ensures.large (handed_on r.result c.in_err-class.field-0.0 _ c.read_class.result r.ensures.1 is c.in_err-class.was))

pub returns-then-sum-gt-MOST_CLASS_BYTES-clause-large : goal.returns-then-sum-gt-MOST_CLASS_BYTES-clause-large
returns-then-sum-gt-MOST_CLASS_BYTES-clause-large g c = λ _.
    took_both _ _ _ _ 17 _ _ _ c.loop-path.invariant.moves.stays (omega (arith, c.len-sum.ensures, c.if-sum-gt-MOST_CLASS_BYTES.true))
    c.in_ok-class.ensures.moves.taken c.loop-path.invariant.counted c.in_ok-class.ensures.counted

pub loop-path-init : goal.loop-path-init
loop-path-init g c = record {
  read = search rules;
  sum = search rules;
  counted = took_nothing _ _;
  moves = no_move c.args.root.now _ _ _ _ (g.met.F.Files.faults_fit c.args.files.now) (g.met.F.Files.taken_fits c.args.files.now);
  asks = asks_same _ _ [] _ refl;
  calm = λ t is. refl;
}

pub returns-in_err-class-clause-once : goal.returns-in_err-class-clause-once
returns-in_err-class-clause-once g c =
    let i = c.loop-path.path-index in
    let at = path_get c.args.paths.now i c.path-item.result (omega arith) c.path-item.is ∙ ap Some (sym c.as_str.ensures.value) in
    reads_some c.args.root.now _ _ _ (i + 1) (reads_to c.args.root.now _ _ _ _ i _ at c.loop-path.invariant.asks c.read_class.ensures.once)

pub returns-then-sum-gt-MOST_CLASS_BYTES-clause-once : goal.returns-then-sum-gt-MOST_CLASS_BYTES-clause-once
returns-then-sum-gt-MOST_CLASS_BYTES-clause-once g c =
    let i = c.loop-path.path-index in
    let at = path_get c.args.paths.now i c.path-item.result (omega arith) c.path-item.is ∙ ap Some (sym c.as_str.ensures.value) in
    reads_some c.args.root.now _ _ _ (i + 1) (reads_to c.args.root.now _ _ _ _ i _ at c.loop-path.invariant.asks c.in_ok-class.ensures.once)

pub returns-in_err-push-clause-once : goal.returns-in_err-push-clause-once
returns-in_err-push-clause-once g c =
    let i = c.loop-path.path-index in
    let at = path_get c.args.paths.now i c.path-item.result (omega arith) c.path-item.is ∙ ap Some (sym c.as_str.ensures.value) in
    reads_some c.args.root.now _ _ _ (i + 1) (reads_to c.args.root.now _ _ _ _ i _ at c.loop-path.invariant.asks c.in_ok-class.ensures.once)

pub returns-clause-once : goal.returns-clause-once
returns-clause-once g c = reads_some c.args.root.now _ _ _ c.loop-path.path-index c.loop-path.invariant.asks
