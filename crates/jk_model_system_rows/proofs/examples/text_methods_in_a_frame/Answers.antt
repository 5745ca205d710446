-- The text is the object 2; below it on the stack there is null.
use Rattle.std.proofs.Common.{[], ◌∷◌, pos, codes, refl}
use Rattle.jk_model.specs.declared.values.Value.TheVariants as Held
use Rattle.jk_model_heaps.specs.SystemClasses.{STRING_INDEX_EXCEPTION}
use Rattle.jk_model_system_rows.specs.declared.meanings.SystemMeaning.TheVariants as Means
use Rattle.jk_model_system_rows.specs.Answers.{fails_by, gives_int, with_answer}
use Rattle.jk_model_system_rows.specs.Examples.{buffer_before}
use Rattle.jk_model_system_rows.proofs.examples.text_methods_in_a_frame.Goals as goal

pub returns-clause-gives : goal.returns-clause-gives
returns-clause-gives c = record {
  meaning = Means.TextLength;
  means = refl;
  done = with_answer buffer_before (gives_int (pos 2));
  row = (codes "ab", refl, refl);
  answering = (record { below = Held.Null ∷ []; before = refl; after = refl }, refl);
  inside = refl;
}

pub returns-clause-fails : goal.returns-clause-fails
returns-clause-fails c = record {
  meaning = Means.CharAt;
  means = refl;
  done = with_answer buffer_before (fails_by STRING_INDEX_EXCEPTION);
  row = (codes "ab", refl, refl);
  answering = (refl, refl);
  inside = refl;
}
