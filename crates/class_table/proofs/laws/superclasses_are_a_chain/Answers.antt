-- By the lemmas on what stands above.
use Rattle.class_table.proofs.StandingAbove.{superclasses-trans, superclasses-chain}
use Rattle.class_table.proofs.laws.superclasses_are_a_chain.Goals as goal

pub returns : goal.returns
returns c =
    record {
      above = λ classes a b c ordered ab bc. superclasses-trans classes ordered a b c ab bc;
      chain = λ classes a b c ordered ab ac order. superclasses-chain classes ordered a b c ab ac order;
    }
