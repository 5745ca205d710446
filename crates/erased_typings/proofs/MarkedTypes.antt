-- Types without references to marked classes: such a reference is lowered to null, which fits it. What fits such a reference is
-- null or such a reference itself, where whatever is below a marked class is marked.
use Rattle.std.proofs.Common.{◌≡◌, ℕ, ◌+◌, inl, inr, Bool, true, false, List, [], ◌∷◌, map, Option, Some, None, refl, sym, ap, ◌∙◌, subst, if◌then◌else◌}
use Rattle.std.specs.Prelude.{⊤, option_map, slice_get}
use Rattle.std.specs.List.{AllByRecursion}
use Rattle.std.proofs.lemmas.Bool.{false≢true}
use Rattle.std.proofs.lemmas.List.{length-map}
use Rattle.std.proofs.lemmas.Option.{same_Some, none-some, slice_get-map}
use Rattle.jk_model.specs.declared.identifiers.ClassId.{ClassId}
use Rattle.jk_model_classes.specs.declared.records.BaseRef.{BaseRef}
use Rattle.jk_model_classes.specs.declared.records.BaseRef.TheVariants as Base
use Rattle.jk_model_classes.specs.declared.records.ClassRecord.{ClassRecord}
use Rattle.jk_model_classes.specs.declared.records.LinkedCode.{LinkedCode}
use Rattle.jk_model_classes.specs.declared.records.TypeRef.{TypeRef}
use Rattle.jk_model_classes.specs.Classes.{IsSubclass, OBJECT}
use Rattle.jk_model_typing.specs.declared.frames.FrameType.{FrameType}
use Rattle.jk_model_typing.specs.declared.frames.VType.{VType}
use Rattle.jk_model_typing.specs.declared.frames.VType.TheVariants.{Unusable, Long, Null, Ref}
use Rattle.jk_model_typing.specs.FrameTypes.{IsClassBelow, RefFits, Fits, EachFits, FrameFits, IsUsable, IsFrameOf}
use Rattle.type_frames.proofs.OrderOfTypes.{Fits-refl, Fits-below_ref}
use Rattle.type_frames.proofs.OrderOfFrames.{EachFits-slots}

-- ---- Marked classes.

abbrev pub is_marked : (ClassId → Bool) → BaseRef → Bool
is_marked mark (Base.Class c) = mark c
is_marked mark _ = false

abbrev pub lowered : (ClassId → Bool) → VType → VType
lowered mark (Ref t) = if is_marked mark t.base then Null else Ref t
lowered mark v = v

abbrev pub lowered_frame : (ClassId → Bool) → FrameType → FrameType
lowered_frame mark f = record { locals = map (lowered mark) f.locals; stack = map (lowered mark) f.stack; fresh = f.fresh }

abbrev pub IsPlain : (ClassId → Bool) → VType → Type 0
IsPlain mark (Ref t) = is_marked mark t.base ≡ false
IsPlain mark _ = ⊤

abbrev pub IsPlainFrame : (ClassId → Bool) → FrameType → Type 0
IsPlainFrame mark f = AllByRecursion (IsPlain mark) f.locals × AllByRecursion (IsPlain mark) f.stack

pub record AreMarks (classes : List ClassRecord) (mark : ClassId → Bool) : Type 0 where
  pub object : mark OBJECT ≡ false
  pub below : (a b : ClassId) → IsSubclass classes a b → mark b ≡ true → mark a ≡ true

module _ (mark : ClassId → Bool) where
  -- ---- What is lowered.

  plain_by : (t : TypeRef) (b : Bool) → is_marked mark t.base ≡ b → IsPlain mark (if b then Null else Ref t)
  plain_by t true e = tt
  plain_by t false e = e

  pub lowered-plain : (v : VType) → IsPlain mark (lowered mark v)
  lowered-plain (Ref t) = plain_by t (is_marked mark t.base) refl
  lowered-plain v = tt

  pub lowered-same : (v : VType) → IsPlain mark v → lowered mark v ≡ v
  lowered-same (Ref t) h = rw h refl
  lowered-same v h = refl

  usable_by : (t : TypeRef) (b : Bool) → IsUsable (if b then Null else Ref t)
  usable_by t true = tt
  usable_by t false = tt

  lowered-usable : (v : VType) → IsUsable v → IsUsable (lowered mark v)
  lowered-usable (Ref t) h = usable_by t (is_marked mark t.base)
  lowered-usable v h = h

  long_by : (t : TypeRef) (b : Bool) → (if b then Null else Ref t) ≡ Long → Ref t ≡ Long
  long_by t true e = absurd cc
  long_by t false e = e

  lowered-long : (v : VType) → lowered mark v ≡ Long → v ≡ Long
  lowered-long (Ref t) e = long_by t (is_marked mark t.base) e
  lowered-long v e = e

  -- ---- Lists.

  pub all-plain : (vs : List VType) → AllByRecursion (IsPlain mark) (map (lowered mark) vs)
  all-plain [] = tt
  all-plain (v ∷ vs) = (lowered-plain v, all-plain vs)

  pub all-usable : (vs : List VType) → AllByRecursion IsUsable vs → AllByRecursion IsUsable (map (lowered mark) vs)
  all-usable [] h = tt
  all-usable (v ∷ vs) h = (lowered-usable v h.0, all-usable vs h.1)

  long_at : (vs : List VType) (n : ℕ) (o : Option VType) → slice_get vs n ≡ o → option_map (lowered mark) o ≡ Some Long → slice_get vs n ≡ Some Long
  long_at vs n None at e = absurd (none-some Long e)
  long_at vs n (Some v) at e = at ∙ ap (λ w. Some w) (lowered-long v (same_Some (lowered mark v) Long e))

  halves-kept : (vs : List VType) → ((n : ℕ) → slice_get vs n ≡ Some Long → slice_get vs (n + 1) ≡ Some Unusable)
      → (n : ℕ) → slice_get (map (lowered mark) vs) n ≡ Some Long → slice_get (map (lowered mark) vs) (n + 1) ≡ Some Unusable
  halves-kept vs halves n at =
      let long = long_at vs n (slice_get vs n) refl (sym (slice_get-map (lowered mark) vs n) ∙ at) in
      slice_get-map (lowered mark) vs (n + 1) ∙ ap (λ o. option_map (lowered mark) o) (halves n long)

  module _ (classes : List ClassRecord) where
    -- ---- What is lowered fits what it was.

    below_by : (t : TypeRef) (b : Bool) → Fits classes (if b then Null else Ref t) (Ref t)
    below_by t true = tt
    below_by t false = inl refl

    lowered-below : (v : VType) → Fits classes (lowered mark v) v
    lowered-below (Ref t) = below_by t (is_marked mark t.base)
    lowered-below v = Fits-refl classes v

    pub each-below : (vs : List VType) → EachFits classes (map (lowered mark) vs) vs
    each-below [] = tt
    each-below (v ∷ vs) = (lowered-below v, each-below vs)

    pub frame-below : (f : FrameType) → AllByRecursion IsUsable f.stack → FrameFits classes (lowered_frame mark f) f
    frame-below f usable =
        record {
          locals = each-below f.locals;
          stack = each-below f.stack;
          usable = usable;
          fresh = λ yes. yes;
        }

    pub frame-sized : (code : LinkedCode) (f : FrameType) → IsFrameOf code f → IsFrameOf code (lowered_frame mark f)
    frame-sized code f sized =
        record {
          locals = length-map f.locals (lowered mark) ∙ sized.locals;
          stack = rw (EachFits-slots classes (map (lowered mark) f.stack) f.stack (each-below f.stack) sized.usable) sized.stack;
          usable = all-usable f.stack sized.usable;
          halves = halves-kept f.locals sized.halves;
        }

    -- ---- A plain type that fits another fits it where it is lowered.

    module _ (marks : AreMarks classes mark) where
      base-marked : (a b : BaseRef) → IsClassBelow classes a b → is_marked mark b ≡ true → is_marked mark a ≡ true
      base-marked (Base.Class a) (Base.Class b) h e = marks.below a b h e
      base-marked (Base.Class a) b h e = absurd h
      base-marked a b h e = absurd h

      ref-marked : (x y : TypeRef) → RefFits classes x y → is_marked mark y.base ≡ true → is_marked mark x.base ≡ true
      ref-marked x y (inl same) e = rw same e
      ref-marked x y (inr (inl (dims, below))) e = base-marked x.base y.base below e
      ref-marked x y (inr (inr (dims, object))) e = absurd (false≢true (sym marks.object ∙ (rw object at e)))

      above_by : (x y : TypeRef) (b : Bool) → is_marked mark y.base ≡ b → RefFits classes x y → is_marked mark x.base ≡ false
          → Fits classes (Ref x) (if b then Null else Ref y)
      above_by x y true e fits plain = absurd (false≢true (sym plain ∙ ref-marked x y fits e))
      above_by x y false e fits plain = fits

      null_by : (y : TypeRef) (b : Bool) → Fits classes Null (if b then Null else Ref y)
      null_by y true = refl
      null_by y false = tt

      plain-above : (a b : VType) → Fits classes a b → IsPlain mark a → Fits classes a (lowered mark b)
      plain-above a (Ref y) h plain = elim (Fits-below_ref classes a y h) [
        | inl null ↦ subst (λ (v : VType). Fits classes v (lowered mark (Ref y))) (sym null) (null_by y (is_marked mark y.base))
        | inr (x, e, fits) ↦
            subst (λ (v : VType). Fits classes v (lowered mark (Ref y))) (sym e)
            (above_by x y (is_marked mark y.base) refl fits (subst (λ (v : VType). IsPlain mark v) e plain))
      ]
      plain-above a b h plain = h

      each-above : (vs ws : List VType) → EachFits classes vs ws → AllByRecursion (IsPlain mark) vs → EachFits classes vs (map (lowered mark) ws)
      each-above [] [] h plain = tt
      each-above [] (w ∷ ws) h plain = absurd h
      each-above (v ∷ vs) [] h plain = absurd h
      each-above (v ∷ vs) (w ∷ ws) h plain = (plain-above v w h.0 plain.0, each-above vs ws h.1 plain.1)

      pub frame-above : (f g : FrameType) → FrameFits classes f g → IsPlainFrame mark f → FrameFits classes f (lowered_frame mark g)
      frame-above f g fits plain =
          record {
            locals = each-above f.locals g.locals fits.locals plain.0;
            stack = each-above f.stack g.stack fits.stack plain.1;
            usable = all-usable g.stack fits.usable;
            fresh = fits.fresh;
          }

    -- ---- What fits what it is lowered to is plain.

    lower_by : (t : TypeRef) (b : Bool) → is_marked mark t.base ≡ b → Fits classes (Ref t) (if b then Null else Ref t) → is_marked mark t.base ≡ false
    lower_by t true e h = absurd cc
    lower_by t false e h = e

    plain-by_fit : (v : VType) → Fits classes v (lowered mark v) → IsPlain mark v
    plain-by_fit (Ref t) h = lower_by t (is_marked mark t.base) refl h
    plain-by_fit v h = tt

    pub each-plain_by_fit : (vs : List VType) → EachFits classes vs (map (lowered mark) vs) → AllByRecursion (IsPlain mark) vs
    each-plain_by_fit [] h = tt
    each-plain_by_fit (v ∷ vs) h = (plain-by_fit v h.0, each-plain_by_fit vs h.1)
