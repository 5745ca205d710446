-- The buffer is the object 1 with the text 2, and the new text is 3. The buffer and its text take 11 words, and the new text takes 10.
use Rattle.std.proofs.Common.{[], ◌∷◌, ◌++◌, codes, inl, refl, arith}
use Rattle.jk_model.specs.declared.values.Value.TheVariants as Held
use Rattle.jk_model_domains.specs.Objects.{Text}
use Rattle.jk_model_heaps.specs.Heaps.{named}
use Rattle.jk_model_heaps.specs.SystemClasses.{STRING_BUFFER}
use Rattle.jk_model_heaps.proofs.OneIsMade.{one_is_made}
use Rattle.jk_model_system_rows.specs.Examples.{buffer_before, classes}
use Rattle.jk_model_system_rows.specs.HiddenTexts.{TextHolder}
use Rattle.jk_model_system_rows.proofs.examples.null_is_appended.Goals as goal

abbrev buffer : TextHolder buffer_before.heap (Held.Obj 1)
buffer = record { name = 1; names = refl; class = STRING_BUFFER; text = Held.Obj 2; others = []; object = refl }

pub returns : goal.returns
returns c = (
  buffer,
  codes "ab",
  codes "null",
  refl,
  refl,
  inl (
    3,
    buffer_before.heap ++ named 3 (Text (codes "abnull")) ∷ [],
    one_is_made classes 21 buffer_before.heap 3 (Text (codes "abnull")) refl (omega arith),
    refl,
  ),
)
