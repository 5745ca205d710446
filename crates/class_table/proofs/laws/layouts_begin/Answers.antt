-- By the lemma on layouts.
use Rattle.class_table.proofs.LayoutsBegin.{layouts-begin}
use Rattle.class_table.proofs.laws.layouts_begin.Goals as goal

pub returns : goal.returns
returns c = λ classes a b ordered ab. layouts-begin classes ordered a b ab
