-- A class file is one alone, and a refusal stands for the one rule that is broken.
use Rattle.std.proofs.Common.{Err, sym, subst}
use Rattle.class_files.specs.FileAnswers.{IsReading}
use Rattle.class_files.specs.declared.reading.NotRead.{NotRead}
use Rattle.class_files.proofs.ReadingsOfFiles.{class_is_read, refusal_is_read}
use Rattle.class_files.proofs.reading.class_of.Goals as goal

pub returns-in-Ok : goal.returns-in-Ok
returns-in-Ok c = class_is_read c.args.bytes.now c.in-Ok.class (record {
  found = c.in-Ok.ensures.found;
  bad_magic = c.in-Ok.ensures.bad_magic;
  bad_version = c.in-Ok.ensures.bad_version;
  truncated = c.in-Ok.ensures.truncated;
  only_truncated = c.in-Ok.ensures.only_truncated;
  trailing = c.in-Ok.ensures.trailing;
  only_trailing = c.in-Ok.ensures.only_trailing;
  bad_pool = c.in-Ok.ensures.bad_pool;
  only_bad_pool = c.in-Ok.ensures.only_bad_pool;
})

pub returns-in-Err : goal.returns-in-Err
returns-in-Err c =
    let read = refusal_is_read c.args.bytes.now c.in-Err.refusal (record {
      found = c.in-Err.ensures.found;
      bad_magic = c.in-Err.ensures.bad_magic;
      bad_version = c.in-Err.ensures.bad_version;
      truncated = c.in-Err.ensures.truncated;
      only_truncated = c.in-Err.ensures.only_truncated;
      trailing = c.in-Err.ensures.trailing;
      only_trailing = c.in-Err.ensures.only_trailing;
      bad_pool = c.in-Err.ensures.bad_pool;
      only_bad_pool = c.in-Err.ensures.only_bad_pool;
    }) in
    let Answers : NotRead → Type 0 = λ e. IsReading c.args.bytes.now (Err e) in
    subst Answers (sym c.refused.ensures) read
