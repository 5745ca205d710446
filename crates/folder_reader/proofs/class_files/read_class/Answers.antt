-- A class file that is too long makes the folder too large.
use Rattle.folder_reader.proofs.CallsInTurn.{handed_on}
use Rattle.folder_reader.proofs.WholeWalk.{too_long_class}
use Rattle.folder_reader.proofs.class_files.read_class.Goals as goal

pub returns-in_err-bytes-clause-too_large : goal.returns-in_err-bytes-clause-too_large
returns-in_err-bytes-clause-too_large g c = λ is.
    too_long_class _ _ c.args.path.now c.requires.to_read c.requires.folder
    (c.read_file.ensures.too_large
    (handed_on c.from_residual.result c.in_err-bytes.field-0.0 _ c.read_file.result c.from_residual.ensures.1 is c.in_err-bytes.was))
