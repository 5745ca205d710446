-- The key has the name and the type.
use Rattle.member_lookup.proofs.find.find_method.Goals as goal

pub returns : goal.returns
returns c = rw c.new.ensures at c.find_method_by.ensures
