-- The zeros of the first fields are there.
use Rattle.std.proofs.Common.{◌≡◌, ◌++◌, take, vec_capacity}
use Rattle.jk_model_heaps.specs.Heaps.{zero_fields}
use Rattle.plain_store.proofs.zeros.add_fields.Given as goal

abbrev pub invariant-loop-i : goal.invariant-loop-i
invariant-loop-i l =
    record {
      so_far : l.values.items ≡ l.initial.values.items ++ take l.i (zero_fields l.t l.fn.c);
      capacity : vec_capacity l.values ≡ vec_capacity l.initial.values;
    }
