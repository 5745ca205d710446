-- The stubs so far have places, and there is room for the others.
use Rattle.std.proofs.Common.{◌≡◌, ◌+◌, ◌≤◌, List, length}
use Rattle.indexmap.specs.IndexMap.{spare}
use Rattle.jk_model_classes.specs.declared.sharing.Stub.{Stub}
use Rattle.thread_segments.specs.StubPlaces.{ArePlacesOf, stubs_in}
use Rattle.thread_segments.proofs.StubsByClass.{AreEntered}
use Rattle.thread_segments.proofs.stub_index.enter.Given as goal

abbrev pub invariant-loop-at : goal.invariant-loop-at
invariant-loop-at l = record {
  entered : (lists : List (List Stub)) → length lists ≡ l.list → ArePlacesOf l.fn.places lists (stubs_in lists) → AreEntered lists l.stubs l.places l.at;
  room : length l.stubs ≤ spare l.places + l.at;
}
