-- An access is an instruction on objects, which may be done.
use Rattle.heap_ops.proofs.DoingHere.{accessing}
use Rattle.heap_ops.proofs.steps.access.Goals as goal

pub load_element-requires-clause-may : goal.load_element-requires-clause-may
load_element-requires-clause-may g c = accessing _ _ _ c.requires.kind c.requires.may

pub store_element-requires-clause-may : goal.store_element-requires-clause-may
store_element-requires-clause-may g c = accessing _ _ _ c.requires.kind c.requires.may

pub array_length-requires-clause-may : goal.array_length-requires-clause-may
array_length-requires-clause-may g c = accessing _ _ _ c.requires.kind c.requires.may

pub get_field-requires-clause-may : goal.get_field-requires-clause-may
get_field-requires-clause-may g c = accessing _ _ _ c.requires.kind c.requires.may

pub put_field-requires-clause-may : goal.put_field-requires-clause-may
put_field-requires-clause-may g c = accessing _ _ _ c.requires.kind c.requires.may
