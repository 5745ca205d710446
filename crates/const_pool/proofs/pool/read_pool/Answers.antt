-- What one answer says of each pool and each cause.
use Rattle.std.proofs.lemmas.Result.{err_from_is_err_and}
use Rattle.const_pool.proofs.OnePool.{ok_pool, ok_tag, ok_index, ok_text, ok_cut, err_pool, err_tag, err_index, err_text, err_cut}
use Rattle.const_pool.proofs.pool.read_pool.Goals as goal

pub returns-clause-only : goal.returns-clause-only
returns-clause-only c = rw (← c.from_place.ensures) (ok_pool _ c.in_ok-entries.entries c.in_ok-entries.after.now c.in_ok-entries.ensures)

pub returns-in_err-entries-clause-only : goal.returns-in_err-entries-clause-only
returns-in_err-entries-clause-only c =
    let p = err_from_is_err_and c.from_residual.result c.from_residual.ensures.1 in
    rw (p.1, p.2, ← c.from_place.ensures) (err_pool _ c.in_err-entries.field-0.0 c.in_err-entries.ensures)

pub returns-clause-only_bad_tag : goal.returns-clause-only_bad_tag
returns-clause-only_bad_tag c = rw (← c.from_place.ensures) (ok_tag _ c.in_ok-entries.entries c.in_ok-entries.after.now c.in_ok-entries.ensures)

pub returns-in_err-entries-clause-only_bad_tag : goal.returns-in_err-entries-clause-only_bad_tag
returns-in_err-entries-clause-only_bad_tag c =
    let p = err_from_is_err_and c.from_residual.result c.from_residual.ensures.1 in
    rw (p.1, p.2, ← c.from_place.ensures) (err_tag _ c.in_err-entries.field-0.0 c.in_err-entries.ensures)

pub returns-clause-only_bad_index : goal.returns-clause-only_bad_index
returns-clause-only_bad_index c = rw (← c.from_place.ensures) (ok_index _ c.in_ok-entries.entries c.in_ok-entries.after.now c.in_ok-entries.ensures)

pub returns-in_err-entries-clause-only_bad_index : goal.returns-in_err-entries-clause-only_bad_index
returns-in_err-entries-clause-only_bad_index c =
    let p = err_from_is_err_and c.from_residual.result c.from_residual.ensures.1 in
    rw (p.1, p.2, ← c.from_place.ensures) (err_index _ c.in_err-entries.field-0.0 c.in_err-entries.ensures)

pub returns-clause-only_bad_utf : goal.returns-clause-only_bad_utf
returns-clause-only_bad_utf c = rw (← c.from_place.ensures) (ok_text _ c.in_ok-entries.entries c.in_ok-entries.after.now c.in_ok-entries.ensures)

pub returns-in_err-entries-clause-only_bad_utf : goal.returns-in_err-entries-clause-only_bad_utf
returns-in_err-entries-clause-only_bad_utf c =
    let p = err_from_is_err_and c.from_residual.result c.from_residual.ensures.1 in
    rw (p.1, p.2, ← c.from_place.ensures) (err_text _ c.in_err-entries.field-0.0 c.in_err-entries.ensures)

pub returns-clause-only_truncated : goal.returns-clause-only_truncated
returns-clause-only_truncated c = rw (← c.from_place.ensures) (ok_cut _ c.in_ok-entries.entries c.in_ok-entries.after.now c.in_ok-entries.ensures)

pub returns-in_err-entries-clause-only_truncated : goal.returns-in_err-entries-clause-only_truncated
returns-in_err-entries-clause-only_truncated c =
    let p = err_from_is_err_and c.from_residual.result c.from_residual.ensures.1 in
    rw (p.1, p.2, ← c.from_place.ensures) (err_cut _ c.in_err-entries.field-0.0 c.in_err-entries.ensures)
