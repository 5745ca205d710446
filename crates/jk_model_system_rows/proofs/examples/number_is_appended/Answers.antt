-- The buffer is the object 1 with the text 2, and the new text is 3. The buffer and its text take 11 words, and the new text takes 7.
use Rattle.std.proofs.Common.{[], ◌∷◌, ◌++◌, codes, inl, inr, refl, arith}
use Rattle.std.specs.Fmt.{digits}
use Rattle.jk_model.specs.declared.values.Value.TheVariants as Held
use Rattle.jk_model_domains.specs.Objects.{Text}
use Rattle.jk_model_heaps.specs.Heaps.{named}
use Rattle.jk_model_heaps.specs.SystemClasses.{STRING_BUFFER}
use Rattle.jk_model_system_rows.specs.Examples.{buffer_before, classes}
use Rattle.jk_model_system_rows.specs.HiddenTexts.{TextHolder}
use Rattle.jk_model_heaps.proofs.OneIsMade.{one_is_made}
use Rattle.jk_model_system_rows.proofs.examples.number_is_appended.Goals as goal

abbrev buffer : TextHolder buffer_before.heap (Held.Obj 1)
buffer = record { name = 1; names = refl; class = STRING_BUFFER; text = Held.Obj 2; others = []; object = refl }

pub returns-clause-fits : goal.returns-clause-fits
unfolding digits
returns-clause-fits c = (
  buffer,
  codes "ab",
  codes "7",
  refl,
  refl,
  inl (
    3,
    buffer_before.heap ++ named 3 (Text (codes "ab7")) ∷ [],
    one_is_made classes 18 buffer_before.heap 3 (Text (codes "ab7")) refl (omega arith),
    refl,
  ),
)

pub returns-clause-lacks : goal.returns-clause-lacks
unfolding digits
returns-clause-lacks c = (buffer, codes "ab", codes "7", refl, refl, inr (omega arith, refl))
