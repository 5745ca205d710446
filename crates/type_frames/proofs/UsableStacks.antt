-- A stack that two fit has as many entries as each of them, and can be used where the least one can.
use Rattle.std.proofs.Common.{◌≡◌, List, length, sym, ◌∙◌}
use Rattle.std.specs.List.{AllByRecursion}
use Rattle.jk_model_classes.specs.declared.records.ClassRecord.{ClassRecord}
use Rattle.jk_model_typing.specs.declared.frames.VType.{VType}
use Rattle.jk_model_typing.specs.FrameTypes.{EachFits, IsUsable}
use Rattle.type_frames.specs.FrameJoins.{HaveNoStack}
use Rattle.type_frames.proofs.OrderOfFrames.{EachFits-length, EachFits-usable}

module _ (classes : List ClassRecord) (xs ys : List VType) where
  pub no_stack-lengths : (length xs ≡ length ys → ⊥) → HaveNoStack classes xs ys
  no_stack-lengths other ds left right usable = other (EachFits-length classes xs ds left ∙ sym (EachFits-length classes ys ds right))

  pub no_stack-unusable : (zs : List VType)
      → ((ds : List VType) → EachFits classes xs ds → EachFits classes ys ds → EachFits classes zs ds)
      → (AllByRecursion IsUsable zs → ⊥) → HaveNoStack classes xs ys
  no_stack-unusable zs least unusable ds left right usable = unusable (EachFits-usable classes zs ds (least ds left right) usable)
