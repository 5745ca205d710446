-- Where an instruction may be done, it has a row of typing; and an instruction on numbers finds what it asks for.
use Rattle.std.proofs.Common.{◌≡◌, ℕ, ◌+◌, ◌^◌, ◌<◌, ℤ, pos, Some, length, refl, sym, ap, subst, ◌∙◌, arith}
use Rattle.std.proofs.lemmas.Option.{slice_get_within}
use Rattle.list_lemmas.proofs.ItemsOfLists.{Contains-at}
use Rattle.jk_model.specs.declared.frames.FrameHead.{FrameHead}
use Rattle.jk_model_domains.specs.NumberRows.{IsOfNumbers}
use Rattle.jk_model_typing.specs.Rows.{Row}
use Rattle.jk_model_typing.specs.Scopes.{CodeScope}
use Rattle.jk_model_typing.specs.Typing.{GoesOnAt}
use Rattle.number_ops.specs.NumberSteps.{IsReady}
use Rattle.heap_laws.specs.RunningFrames.{RunsWell}
use Rattle.heap_laws.specs.SoundCodes.{IsDecoded}
use Rattle.row_laws.specs.StandingFrames.{StandsTyped}
use Rattle.row_laws.proofs.StandsHere.{goes, least, room, stands_typed, typed}
use Rattle.step_contents.specs.Conditions.{MayDo, around, working}
use Rattle.step_contents.specs.Contents.{Contents, Here}
use Rattle.step_contents.specs.InstructionKinds.{HasRow}
use Rattle.step_contents.specs.PlacesInCode.{PlaceInCode}
use Rattle.step_contents.proofs.InstructionsBegin.{is_some_setting, runs_code, runs_well, some_setting, top_frame}

module _ {old : Contents} {here : Here} {at : PlaceInCode} (may : MayDo old here at) where
  runs : RunsWell (around may.domain) (some_setting may) (working may)
  runs = runs_well may (some_setting may) (is_some_setting may)

  stands : StandsTyped here.world.classes may.run.inside.heap may.frame (runs_code may)
  stands =
      stands_typed here.world.classes may.domain.codes may.frame (runs_code may) runs.fits.0 may.run.inside.heap runs.fits.1

  pub has_row : HasRow at
  has_row = (
    stands.before,
    stands.after,
    subst (λ (h : FrameHead). Row at.scope h.at at.instr stands.before stands.after) (sym may.head) stands.typed.row,
  )

  within : (next : ℤ) → GoesOnAt may.frame.head.at at.instr next → (n : ℕ) × (next ≡ pos n) × (n < length at.scope.code.instrs)
  within next on =
      let t = runs.fits.0 in
      let to = (goes here.world.classes may.domain.codes may.frame (runs_code may) t).goes_on next on in
      let low : to.0 < length t.frames = slice_get_within t.frames to.0 (Some to.2.0) to.2.1 in
      let many : length t.frames ≡ length at.scope.code.instrs =
      (least here.world.classes may.domain.codes may.frame (runs_code may) t).typing.as_many
      ∙ ap (λ (s : CodeScope). length s.code.instrs) (typed here.world.classes may.domain.codes may.frame (runs_code may) t) in
      (to.0, to.1, omega (arith, low, many))

  decoded : IsDecoded at.scope.code
  decoded = may.domain.codes.decoded may.place.method at.scope may.place.is_scope

  -- the next place fits 32 bits
  pub next_fits : at.head.at + 1 < 2 ^ 32
  next_fits = omega (arith, slice_get_within at.scope.code.instrs at.head.at at.instr may.place.stands, decoded.short)

  module _ (kind : IsOfNumbers at.scope at.instr) where
    ready_there : IsReady old.frames here.world.classes here.segment may.frame.head at.instr
    ready_there = record {
      frame = may.frame;
      top = top_frame may;
      ahead = refl;
      method = may.place.method;
      method_is = (runs_code may).is_method;
      scope = at.scope;
      scope_is = may.place.is_scope;
      room = room here.world.classes may.domain.codes may.frame (runs_code may) runs.fits.0;
      stands = (runs_code may).stands;
      of_numbers = kind;
      before = stands.before;
      after = stands.after;
      sized = stands.typed.sized;
      row = stands.typed.row;
      heap = may.run.inside.heap;
      holds = stands.typed.holds;
      keys = decoded.keys at.instr (Contains-at at.scope.code.instrs at.head.at at.instr may.place.stands);
      goes_on = within;
      short = decoded.short;
    }

    pub numbers_ready : IsReady old.frames here.world.classes here.segment at.head at.instr
    numbers_ready = subst (λ (h : FrameHead). IsReady old.frames here.world.classes here.segment h at.instr) (sym may.head) ready_there
