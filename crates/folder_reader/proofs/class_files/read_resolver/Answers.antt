-- `resolver.txt` stands directly in the folder.
use Rattle.std.proofs.Common.{inr, refl}
use Rattle.folder_reader.proofs.CallsInTurn.{if_ok_later}
use Rattle.folder_reader.proofs.PathsTellNames.{resolver_within}
use Rattle.folder_reader.proofs.AsksApart.{asks_same}
use Rattle.folder_reader.proofs.class_files.read_resolver.Goals as goal

pub read_file-requires-clause-within : goal.read_file-requires-clause-within
read_file-requires-clause-within g c = resolver_within c.args.root.now

pub read_file-requires-clause-counts : goal.read_file-requires-clause-counts
read_file-requires-clause-counts g c = inr refl

pub returns-then-has_resolver-clause-bytes : goal.returns-then-has_resolver-clause-bytes
returns-then-has_resolver-clause-bytes g c = if_ok_later c.read_file.result _ _ c.read_file.ensures.bytes

pub returns-else-has_resolver-clause-once : goal.returns-else-has_resolver-clause-once
returns-else-has_resolver-clause-once g c = asks_same _ _ _ _ refl
