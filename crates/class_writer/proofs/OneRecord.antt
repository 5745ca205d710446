-- The bytes of a record are no other record's.
use Rattle.std.proofs.Common.{◌≡◌, [], ◌++◌, sym}
use Rattle.std.proofs.lemmas.List.{append-nil}
use Rattle.jk_model.specs.declared.class_file.ClassFile.{ClassFile}
use Rattle.jk_model.specs.ClassFile.{class_bytes, IsClass}
use Rattle.jk_model.specs.ReadFaults.{IsWritable}
use Rattle.class_reader.proofs.OneClassFile.{one_class}

pub one_record : (c d : ClassFile) → IsWritable c → IsClass (class_bytes c) d → d ≡ c
one_record c d w h =
    let bytes = class_bytes c in
    let whole : bytes ≡ bytes ++ [] = sym (append-nil bytes) in
    (one_class bytes bytes d c bytes [] [] h.layout w.is_class.layout whole whole).0
