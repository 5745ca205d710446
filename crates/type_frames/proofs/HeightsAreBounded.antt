-- No type is higher than the greatest height, and each frame of a code is less high than a place that has none yet.
use Rattle.std.proofs.Common.{◌≡◌, ℕ, ◌+◌, ◌*◌, ◌<◌, ◌≤◌, Bool, true, false, List, [], ◌∷◌, length, None, ap, arith}
use Rattle.std.proofs.Math.Nat.{min-le_right, mul-le-mul_right, suc-mul, add-mul}
use Rattle.std.proofs.lemmas.List.Sums.{sum_by-cons}
use Rattle.jk_model_classes.specs.declared.records.BaseRef.{BaseRef}
use Rattle.jk_model_classes.specs.declared.records.BaseRef.TheVariants as Base
use Rattle.jk_model_classes.specs.declared.records.ClassRecord.{ClassRecord}
use Rattle.jk_model_classes.specs.declared.records.LinkedCode.{LinkedCode}
use Rattle.jk_model_classes.specs.declared.records.TypeRef.{TypeRef}
use Rattle.jk_model_classes.specs.Classes.{superclasses}
use Rattle.jk_model_typing.specs.declared.frames.VType.{VType}
use Rattle.jk_model_typing.specs.declared.frames.VType.TheVariants.{Unusable, Long, Ref}
use Rattle.jk_model_typing.specs.declared.frames.FrameType.{FrameType}
use Rattle.jk_model_typing.specs.FrameTypes.{IsFrameOf, slots, slots_of}
use Rattle.type_frames.specs.Heights.{base_height, most_height, height, heights, flag_height, frame_height, place_height}

module _ (classes : List ClassRecord) where
  base_height-most : (b : BaseRef) → base_height classes b ≤ length classes + 1
  base_height-most (Base.Class c) = min-le_right (length (superclasses classes c)) (length classes + 1)
  base_height-most b = omega arith

  -- the first ones are higher than each class and array
  pub height-ref : (r : TypeRef) → height classes (Ref r) < most_height classes
  height-ref r = let most = base_height-most r.base in omega (arith, min-le_right r.dims 256)

  pub height-most : (v : VType) → height classes v ≤ most_height classes
  height-most Unusable = omega arith
  height-most (Ref r) = let low = height-ref r in omega arith
  height-most v = omega arith

  pub heights-most : (vs : List VType) → heights classes vs ≤ length vs * most_height classes
  heights-most [] = omega arith
  heights-most (v ∷ vs) =
      let first = height-most v in
      let rest = heights-most vs in
      rw (sum_by-cons (height classes) v vs, suc-mul (length vs) (most_height classes)) (omega arith)

  slots_of-some : (v : VType) → 1 ≤ slots_of v
  slots_of-some Long = omega arith
  slots_of-some v = omega arith

  pub slots-most : (vs : List VType) → length vs ≤ slots vs
  slots-most [] = omega arith
  slots-most (v ∷ vs) =
      let first = slots_of-some v in
      let rest = slots-most vs in
      omega (arith, sum_by-cons slots_of v vs)

  flag_height-most : (fresh : Bool) → flag_height fresh ≤ 1
  flag_height-most true = omega arith
  flag_height-most false = omega arith

  pub frame_height-most : (code : LinkedCode) (f : FrameType) → IsFrameOf code f → frame_height classes f < place_height classes code None
  frame_height-most code f is =
      let locals = heights-most f.locals in
      let stack = heights-most f.stack in
      let room : length f.stack ≤ code.max_stack = omega (arith, slots-most f.stack, is.stack) in
      let entries = mul-le-mul_right (most_height classes) room in
      let flag = flag_height-most f.fresh in
      let of_locals : length f.locals * most_height classes ≡ code.max_locals * most_height classes =
      ap (λ (n : ℕ). n * most_height classes) is.locals in
      rw (add-mul code.max_locals code.max_stack (most_height classes)) (omega arith)
