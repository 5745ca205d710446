-- The case of a local step. A law of this crate says that no two cases hold of one state.
use Rattle.jk_model.specs.declared.identifiers.ThreadNo.{ThreadNo}
use Rattle.jk_model_heaps.specs.Workings.{Run, Setting}
use Rattle.jk_model_running.specs.LocalSteps.{LocalStep, touches, overflows, meets_broken, need_falls, sets_constants, lacks_constants, does}
use Rattle.jk_model_running.specs.Ways.{Went}

pub data StepCase : Type 0 where
  -- a class that is needed is untouched, and its initialiser frame fits, or doesn't
  ClassTouched : StepCase
  ChunksLacking : StepCase
  -- a class that is needed is broken
  ClassBroken : StepCase
  -- the need of a frame that initialises no class falls; that of one that does, whose constant texts fit together, or don't
  NeedFalls : StepCase
  ConstantsSet : StepCase
  ConstantsLacking : StepCase
  -- an instruction is done
  InstrDone : StepCase

abbrev pub case_of : {x : Setting} {t : ThreadNo} {old new : Run} {went : Went} → LocalStep x t old new went → StepCase
case_of (touches class at fits is) = ClassTouched
case_of (overflows class at unwound short raises) = ChunksLacking
case_of (meets_broken at unwound raises) = ClassBroken
case_of (need_falls at none is) = NeedFalls
case_of (sets_constants at of set sets falls) = ConstantsSet
case_of (lacks_constants at of unwound lacks raises) = ConstantsLacking
case_of (does at went continues) = InstrDone
