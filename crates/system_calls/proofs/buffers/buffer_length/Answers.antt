-- The hidden text tells its length.
use Rattle.std.proofs.Common.{arith}
use Rattle.jk_model.specs.declared.values.Value.TheVariants as Held
use Rattle.system_calls.proofs.BufferRows.{length_found}
use Rattle.system_calls.proofs.HiddenRows.{front_of_hidden}
use Rattle.system_calls.proofs.buffers.buffer_length.Goals as goal

pub len_of-requires : goal.len_of-requires
len_of-requires g c = (
  c.requires.given.1,
  front_of_hidden ((g.H.ObjectStore.content c.args.heap.now).heap c.args.d) c.requires.given.0.text c.hidden-text.result
      c.requires.given.1 (c.hidden-text.ensures c.requires.given.0) c.requires.given.2,
)

pub overflow_cast-result : goal.overflow_cast-result
overflow_cast-result g c = omega (arith, c.len_of.ensures.few)

pub returns : goal.returns
returns g c =
    length_found (g.H.ObjectStore.content c.args.heap.now) c.args.d (Held.Obj c.args.buffer) c.requires.given.0 c.requires.given.1 c.len_of.result
    c.requires.given.2
    (c.len_of.ensures.len c.requires.given.1
    (front_of_hidden ((g.H.ObjectStore.content c.args.heap.now).heap c.args.d) c.requires.given.0.text c.hidden-text.result c.requires.given.1
    (c.hidden-text.ensures c.requires.given.0) c.requires.given.2))
    c.len_of.ensures.few
