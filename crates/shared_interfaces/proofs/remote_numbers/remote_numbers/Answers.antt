-- The names are those that are looked up.
use Rattle.shared_interfaces.proofs.remote_numbers.remote_numbers.Goals as goal

pub returns : goal.returns
returns c =
    record {
      remote = rw c.units.ensures at c.class_called.ensures;
      remote_exception = rw c.units-2.ensures at c.class_called-2.ensures;
      exception = rw c.units-3.ensures at c.class_called-3.ensures;
      throwable = rw c.units-4.ensures at c.class_called-4.ensures;
    }
