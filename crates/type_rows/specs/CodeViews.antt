-- What a method's code is judged in, from the references that lead to it.
use Rattle.jk_model_typing.specs.Scopes.{CodeScope}
use Rattle.type_rows.specs.declared.code_view.CodeView.{CodeView}

abbrev pub scope_of : CodeView → CodeScope
scope_of v = record { classes = v.table.now; self = v.class; links = v.links.now; method = v.method.now; code = v.code.now }
