-- The state of a domain whose names mean classes that were there is one still with more classes behind.
use Rattle.std.proofs.Common.{ℕ, List, ◌++◌, sym, ◌∙◌}
use Rattle.jk_model.specs.declared.identifiers.ClassId.{ClassId}
use Rattle.jk_model_classes.specs.declared.records.ClassRecord.{ClassRecord}
use Rattle.jk_model_classes.specs.Classes.{HasClass}
use Rattle.jk_model_classes.specs.Worlds.{NamedClass, IsNamed}
use Rattle.jk_model_domains.specs.OwnStates.{OwnState, HasPart, IsLiteralOf, IsOwnState, IsFirstState}
use Rattle.class_growth.proofs.MoreClasses.{record-kept, record-still}

module _ (classes more : List ClassRecord) (table : List NamedClass) where
  part-still : (c : ClassId) (r : ClassRecord) → HasPart classes table c r → HasPart (classes ++ more) table c r
  part-still c r (named, is, home) = (named, record-still classes more c r is, home)

  pub literal-still : (text : List ℕ) → IsLiteralOf classes table text → IsLiteralOf (classes ++ more) table text
  literal-still text (c, r, named, is, of) = (c, r, named, record-still classes more c r is, of)

  module _ (there : (c : ClassId) → IsNamed table c → HasClass classes c) where
    part-before : (c : ClassId) (r : ClassRecord) → HasPart (classes ++ more) table c r → HasPart classes table c r
    part-before c r (named, is, home) = (named, sym (record-kept classes more c (there c named)) ∙ is, home)

    pub literal-before : (text : List ℕ) → IsLiteralOf (classes ++ more) table text → IsLiteralOf classes table text
    literal-before text (c, r, named, is, of) = (c, r, named, sym (record-kept classes more c (there c named)) ∙ is, of)

    pub own_state-still : (own : OwnState) → IsOwnState classes table own → IsOwnState (classes ++ more) table own
    own_state-still own state =
        record {
          each = λ e on.
              let part = state.each e on in
              (part.0, part-still e.class part.0 part.1, part.2);
          all = λ c r part. state.all c r (part-before c r part);
          classes_differ = state.classes_differ;
          literals_differ = state.literals_differ;
          standing = state.standing;
        }

    pub first_state-still : (own : OwnState) → IsFirstState classes table own → IsFirstState (classes ++ more) table own
    first_state-still own first =
        record {
          state = own_state-still own first.state;
          untouched = first.untouched;
          statics = λ e r on is.
              let part = first.state.each e on in
              first.statics e r on (sym (record-kept classes more e.class (there e.class part.1.0)) ∙ is);
          no_literals = first.no_literals;
          out = first.out;
          standing = first.standing;
        }
