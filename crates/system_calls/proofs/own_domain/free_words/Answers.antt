-- What the store has left is what the heap's quota leaves, and fits an int.
use Rattle.std.proofs.Common.{arith}
use Rattle.system_calls.proofs.OwnDomain.{few_words, words_counted}
use Rattle.system_calls.proofs.own_domain.free_words.Goals as goal

pub overflow_cast-result : goal.overflow_cast-result
overflow_cast-result g c =
    omega (arith, c.free.ensures, few_words (g.H.ObjectStore.content c.args.heap.now) c.args.d (g.met.H.ObjectStore.holds c.args.heap.now))

pub returns : goal.returns
returns g c = λ classes ready.
    words_counted (g.H.ObjectStore.content c.args.heap.now) classes c.args.d c.free.result ready
    (g.met.H.ObjectStore.holds c.args.heap.now) c.free.ensures
