use Rattle.jk_model_heap_rows.proofs.TreesCost.{trees_cost}
use Rattle.jk_model_heap_rows.proofs.laws.trees_cost_their_words.Goals as goal

pub returns : goal.returns
returns c = λ classes t counts tree is. trees_cost classes counts t tree is
