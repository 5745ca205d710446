-- Steps in turn, and others after them, are steps in turn.
use Rattle.std.proofs.Common.{◌≡◌, ℕ, zero, suc, ◌+◌, ◌-◌, ◌≤◌, List, refl, sym, ap, subst, arith}
use Rattle.jk_model.specs.declared.identifiers.ThreadNo.{ThreadNo}
use Rattle.jk_model_frames.specs.Frames.{frames_chunks}
use Rattle.jk_model_heaps.specs.Workings.{Run, Setting}
use Rattle.jk_model_running.specs.LocalSteps.{LocalStep}
use Rattle.jk_model_running.specs.Ways.{GoesOn}
use Rattle.segment_steps.specs.StepsInTurn.{HaveRooms, StepsInTurn, WaitsForNoClass, none, one_more, set_after}

abbrev with_free : Setting → ℕ → Setting
with_free x n = record x { chunks = n }

-- where the frames cost what they cost, the setting is the same
pub set_same : (x : Setting) (a b : Run) → frames_chunks b.frames ≡ frames_chunks a.frames → set_after x a b ≡ x
set_same x a b same =
    let free : x.chunks + frames_chunks a.frames - frames_chunks b.frames ≡ x.chunks = omega (arith, same) in
    ap (λ (n : ℕ). with_free x n) free

pub set_twice : (x : Setting) (a b c : Run) → frames_chunks b.frames ≤ frames_chunks a.frames + x.chunks
    → set_after (set_after x a b) b c ≡ set_after x a c
set_twice x a b c fits =
    let free : x.chunks + frames_chunks a.frames - frames_chunks b.frames + frames_chunks b.frames - frames_chunks c.frames
    ≡ x.chunks + frames_chunks a.frames - frames_chunks c.frames = omega (arith, fits) in
    ap (λ (n : ℕ). with_free x n) free

module _ (t : ThreadNo) (rooms : List (List ℕ)) where
  pub one_step : (x : Setting) (a b : Run) → WaitsForNoClass x.classes t a → LocalStep x t a b GoesOn → HaveRooms rooms b
      → frames_chunks b.frames ≤ frames_chunks a.frames + x.chunks → StepsInTurn t rooms 1 x a b
  one_step x a b waits step have fits = one_more 0 x a b b waits step have fits (none (set_after x a b) b)

  pub steps_then : (n m : ℕ) (x : Setting) (a b c : Run) → StepsInTurn t rooms n x a b → StepsInTurn t rooms m (set_after x a b) b c
      → StepsInTurn t rooms (n + m) x a c
  steps_then zero m x a b c (none _ _) rest =
      subst (λ (k : ℕ). StepsInTurn t rooms k x a c) (let is : m ≡ 0 + m = omega arith in is)
      (subst (λ (y : Setting). StepsInTurn t rooms m y a c) (set_same x a a refl) rest)
  steps_then (suc n) m x a b c (one_more _ _ _ mid _ waits step have fits more) rest =
      subst (λ (k : ℕ). StepsInTurn t rooms k x a c) (let is : suc (n + m) ≡ suc n + m = omega arith in is)
      (one_more (n + m) x a mid c waits step have fits
      (steps_then n m (set_after x a mid) mid b c more
      (subst (λ (y : Setting). StepsInTurn t rooms m y b c) (sym (set_twice x a mid b fits)) rest)))

  -- ---- What is so after all of them.

  pub all_fit : (n : ℕ) (x : Setting) (a b : Run) → StepsInTurn t rooms n x a b → frames_chunks b.frames ≤ frames_chunks a.frames + x.chunks
  all_fit zero x a b (none _ _) = (let fits : frames_chunks a.frames ≤ frames_chunks a.frames + x.chunks = omega arith in fits)
  all_fit (suc n) x a b (one_more _ _ _ mid _ waits step have fits more) =
      (let rest = all_fit n (set_after x a mid) mid b more in omega (arith, fits, rest))

  pub rooms_last : (n : ℕ) (x : Setting) (a b : Run) → HaveRooms rooms a → StepsInTurn t rooms n x a b → HaveRooms rooms b
  rooms_last zero x a b has (none _ _) = has
  rooms_last (suc n) x a b has (one_more _ _ _ mid _ waits step have fits more) = rooms_last n (set_after x a mid) mid b have more
