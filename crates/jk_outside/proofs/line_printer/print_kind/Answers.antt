-- Each kind of line is printed as its text.
use Rattle.jk_outside.proofs.LineTexts.{loaded_text, killed_text, kill_refused_text, ended_text, ended_by_text, ended_by_kill_text}
use Rattle.jk_outside.proofs.PartsInOrder.{Prints-as}
use Rattle.jk_outside.proofs.line_printer.print_kind.Goals as goal

pub returns-in-Said : goal.returns-in-Said
returns-in-Said g c = rw c.in-Said.is (c.print_said.ensures)

pub returns-in-Loaded : goal.returns-in-Loaded
returns-in-Loaded g c = rw c.in-Loaded.is (Prints-as (loaded_text c.in-Loaded.domain.now) c.print_named.ensures)

pub returns-in-Refused : goal.returns-in-Refused
returns-in-Refused g c = rw c.in-Refused.is (c.print_refused.ensures)

pub returns-in-Started : goal.returns-in-Started
returns-in-Started g c = rw c.in-Started.is (c.print_started.ensures)

pub returns-in-StartRefused : goal.returns-in-StartRefused
returns-in-StartRefused g c = rw c.in-StartRefused.is (c.print_start_refused.ensures)

pub returns-in-Ended : goal.returns-in-Ended
returns-in-Ended g c = rw c.in-Ended.is (Prints-as (ended_text c.in-Ended.thread.0) c.print_thread.ensures)

pub returns-in-EndedBy : goal.returns-in-EndedBy
returns-in-EndedBy g c = rw c.in-EndedBy.is (Prints-as (ended_by_text c.in-EndedBy.thread.0 c.in-EndedBy.class.now) c.print_thread-in-EndedBy.ensures)

pub returns-in-EndedByKill : goal.returns-in-EndedByKill
returns-in-EndedByKill g c = rw c.in-EndedByKill.is (Prints-as (ended_by_kill_text c.in-EndedByKill.thread.0) c.print_thread-in-EndedByKill.ensures)

pub returns-in-Killed : goal.returns-in-Killed
returns-in-Killed g c = rw c.in-Killed.is (Prints-as (killed_text c.in-Killed.domain.now) c.print_named-in-Killed.ensures)

pub returns-in-KillRefused : goal.returns-in-KillRefused
returns-in-KillRefused g c = rw c.in-KillRefused.is (Prints-as (kill_refused_text c.in-KillRefused.domain.now) c.print_named-in-KillRefused.ensures)
