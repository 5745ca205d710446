-- What a call asks of files.
use Rattle.jk_model.specs.Outside.{Ask, ListOf, BytesOf}
use Rattle.jk_outside.specs.declared.asked.Call.{Call}
use Rattle.jk_outside.specs.declared.asked.Call.TheVariants.{List, Read}

abbrev pub ask_of : Call → Ask
ask_of (List folder limit) = ListOf folder.now limit
ask_of (Read path limit) = BytesOf path.now limit
