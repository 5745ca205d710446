-- Each row of instructions on objects keeps what is kept, and what it leaves fits.
use Rattle.jk_model_heaps.specs.RunningCode.{RunsCode}
use Rattle.jk_model_heaps.specs.Workings.{Outcome, Setting, Working}
use Rattle.jk_model_heap_rows.specs.HeapRows.{HeapRow, array_length, casts, gets_field, gets_static, loads_element, loads_text, makes_array, makes_arrays, makes_object, puts_field, puts_static, raises_object, stores_element, tests}
use Rattle.jk_model_sealing.specs.SealedInsides.{Surroundings}
use Rattle.heap_laws.specs.RunningFrames.{RunsWell}
use Rattle.row_laws.proofs.ArraysOfArraysMade.{arrays_keep}
use Rattle.row_laws.proofs.CastsAndThrows.{cast_keeps, test_keeps, throw_keeps}
use Rattle.row_laws.proofs.ElementsRead.{length_keeps, load_keeps}
use Rattle.row_laws.proofs.ElementsWritten.{store_keeps}
use Rattle.row_laws.proofs.FieldsByPlace.{StandInOneOrder}
use Rattle.row_laws.proofs.FieldsRead.{get_keeps, static_keeps}
use Rattle.row_laws.proofs.FieldsWritten.{put_field_keeps, put_static_keeps}
use Rattle.row_laws.proofs.HeapFramesLeft.{Keeps}
use Rattle.row_laws.proofs.LiteralsLoaded.{text_keeps}
use Rattle.row_laws.proofs.ObjectsMade.{array_keeps, object_keeps}

module _ (around : Surroundings) (x : Setting) (w new : Working) (outcome : Outcome) (runs : RunsWell around x w)
    (code : RunsCode around.classes w.frame) where
  pub row_keeps : StandInOneOrder → HeapRow x code.scope code.instr w new outcome → Keeps around x w runs code new outcome
  row_keeps order (loads_text h) = text_keeps around x w new outcome runs code h
  row_keeps order (gets_static h) = static_keeps around x w new outcome runs code h
  row_keeps order (puts_static h) = put_static_keeps around x w new outcome runs code h
  row_keeps order (gets_field h) = get_keeps around x w new outcome runs code order h
  row_keeps order (puts_field h) = put_field_keeps around x w new outcome runs code order h
  row_keeps order (loads_element h) = load_keeps around x w new outcome runs code h
  row_keeps order (stores_element h) = store_keeps around x w new outcome runs code h
  row_keeps order (array_length h) = length_keeps around x w new outcome runs code h
  row_keeps order (makes_object h) = object_keeps around x w new outcome runs code h
  row_keeps order (makes_array h) = array_keeps around x w new outcome runs code h
  row_keeps order (makes_arrays h) = arrays_keep around x w new outcome runs code h
  row_keeps order (casts h) = cast_keeps around x w new outcome runs code h
  row_keeps order (tests h) = test_keeps around x w new outcome runs code h
  row_keeps order (raises_object h) = throw_keeps around x w new outcome runs code h
