-- The bytes of a list of indices, as of interfaces, read as that list alone.
use Rattle.std.proofs.Common.{◌≡◌, ℕ, List, [], Some, sym, ◌∙◌, ap, append-nil}
use Rattle.std.specs.Int.{w16}
use Rattle.std.proofs.lemmas.Option.{some_pair_parts}
use Rattle.jk_model.specs.ClassFile.{u2, IsU2, interfaces_bytes, AreInterfaces}
use Rattle.byte_fields.specs.Reading.{number_at, counted_at}
use Rattle.byte_fields.specs.OneReading.{u2_reader, counted_reader}

pub read_again : (body indices : List ℕ) → AreInterfaces indices → body ≡ interfaces_bytes indices → counted_at (number_at w16) body ≡ Some (indices, [])
read_again body indices fits e =
    ap (counted_at (number_at w16)) (e ∙ sym (append-nil (interfaces_bytes indices)))
    ∙ (counted_reader (number_at w16) u2 IsU2 u2_reader).again indices [] fits

pub one_list : (body indices others rest : List ℕ) → counted_at (number_at w16) body ≡ Some (indices, rest) → AreInterfaces others
    → body ≡ interfaces_bytes others → (indices ≡ others) × (rest ≡ [])
one_list body indices others rest read these e = some_pair_parts indices others rest [] (sym read ∙ read_again body others these e)
