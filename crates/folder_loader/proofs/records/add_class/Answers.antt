-- The record stands behind what its class extends and lists, and has few members.
use Rattle.folder_loader.proofs.RecordsStand.{few_fields, few_methods, stands}
use Rattle.folder_loader.proofs.records.add_class.Goals as goal

pub add_class-requires-clause-above : goal.add_class-requires-clause-above
add_class-requires-clause-above c =
    stands c.args.class.now.file c.args.names.now c.args.home c.in_ok-record.record c.in_ok-record.ensures.record _ c.requires.above

pub add_class-requires-clause-fields : goal.add_class-requires-clause-fields
add_class-requires-clause-fields c =
    few_fields c.args.class.now.file c.args.names.now c.args.home c.in_ok-record.record c.in_ok-record.ensures.record c.requires.read.writable

pub add_class-requires-clause-methods : goal.add_class-requires-clause-methods
add_class-requires-clause-methods c =
    few_methods c.args.class.now.file c.args.names.now c.args.home c.in_ok-record.record c.in_ok-record.ensures.record c.requires.read.writable
