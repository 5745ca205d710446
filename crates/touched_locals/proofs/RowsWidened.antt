-- What an instruction does over the kept locals it does over all of them, and the other way round.
use Rattle.std.proofs.Common.{◌≡◌, ℕ, zero, suc, ◌+◌, ◌⊎◌, inl, inr, Bool, true, false, List, [], ◌∷◌, ◌++◌, length, Option, Some, None, slice_set, refl, sym, ap, ◌∙◌, subst, arith}
use Rattle.std.specs.List.{slice_get}
use Rattle.std.specs.Prelude.{if◌then◌else◌}
use Rattle.std.specs.Option.{option_map_or}
use Rattle.std.proofs.lemmas.List.{length-set}
use Rattle.std.proofs.lemmas.Option.{slice_get_within}
use Rattle.list_lemmas.proofs.ItemsByPlace.{item_there, slice_get-set_other, slice_get-set_same}
use Rattle.jk_model.specs.declared.identifiers.ClassId.{ClassId}
use Rattle.jk_model.specs.declared.instructions.Instr.{Instr}
use Rattle.jk_model.specs.declared.opcodes.TheConstants.{NEW}
use Rattle.jk_model_classes.specs.declared.records.LinkedCode.{LinkedCode}
use Rattle.jk_model_typing.specs.declared.frames.Demand.{Demand}
use Rattle.jk_model_typing.specs.declared.frames.Demand.TheVariants.{Fitting, FittingEither, FittingBoth, Reference, AnyReference, ReferenceArray, Array, Receiver, PutReceiver}
use Rattle.jk_model_typing.specs.declared.frames.FrameType.{FrameType}
use Rattle.jk_model_typing.specs.declared.frames.VType.{VType}
use Rattle.jk_model_typing.specs.declared.frames.VType.TheVariants.{Unusable, Long, Fresh}
use Rattle.jk_model_typing.specs.FrameTypes.{IsFrameOf, of_class}
use Rattle.jk_model_typing.specs.Groups.{Shape, Takes, Loads, Stores, Increments, Drops, Copies, Swaps, LoadsElement, Makes, Constructs, Leaves}
use Rattle.jk_model_typing.specs.Rows.{AllMeet, Does, MakesAt, Meets, Row, cut, cut_before, element, is_fresh_this, is_made_at, replaced, with_local}
use Rattle.jk_model_typing.specs.Scopes.{CodeScope, NamesClass}
use Rattle.touched_locals.specs.Narrowing.{IsKept, IsNarrowed, IsRenamed, IsTouched, kept_count, names_local, rank, wide_frame, widened, with_code}
use Rattle.touched_locals.proofs.LocalsNarrowed.{EndsShort}
use Rattle.touched_locals.proofs.LocalsWidened.{cut_before-many, get-kept, get-left_out, get-past, length-widened, of-rank, rank-last, rank-next, rank-within, replaced-widened, with_local-widened}
use Rattle.touched_locals.proofs.ShapesRenamed.{Touches, renamed_shape, shape-renamed, shape-whole}

-- ---- Demands don't look at the code.

module _ (s : CodeScope) (code : LinkedCode) where
  meets-with : (d : Demand) (v : VType) → Meets s d v → Meets (with_code s code) d v
  meets-with (Fitting t) v h = h
  meets-with (FittingEither t u) v h = h
  meets-with (FittingBoth t u) v h = h
  meets-with Reference v h = h
  meets-with AnyReference v h = h
  meets-with ReferenceArray v h = h
  meets-with Array v h = h
  meets-with (Receiver named member) v h = record { fits = h.fits; guarded = h.guarded }
  meets-with (PutReceiver named m) v (inl h) = inl (record { fits = h.fits; guarded = h.guarded })
  meets-with (PutReceiver named m) v (inr h) = inr h

  meets-without : (d : Demand) (v : VType) → Meets (with_code s code) d v → Meets s d v
  meets-without (Fitting t) v h = h
  meets-without (FittingEither t u) v h = h
  meets-without (FittingBoth t u) v h = h
  meets-without Reference v h = h
  meets-without AnyReference v h = h
  meets-without ReferenceArray v h = h
  meets-without Array v h = h
  meets-without (Receiver named member) v h = record { fits = h.fits; guarded = h.guarded }
  meets-without (PutReceiver named m) v (inl h) = inl (record { fits = h.fits; guarded = h.guarded })
  meets-without (PutReceiver named m) v (inr h) = inr h

  all-with : (ds : List Demand) (vs : List VType) → AllMeet s ds vs → AllMeet (with_code s code) ds vs
  all-with [] [] h = tt
  all-with [] (v ∷ vs) h = absurd h
  all-with (d ∷ ds) [] h = absurd h
  all-with (d ∷ ds) (v ∷ vs) h = (meets-with d v h.0, all-with ds vs h.1)

  all-without : (ds : List Demand) (vs : List VType) → AllMeet (with_code s code) ds vs → AllMeet s ds vs
  all-without [] [] h = tt
  all-without [] (v ∷ vs) h = absurd h
  all-without (d ∷ ds) [] h = absurd h
  all-without (d ∷ ds) (v ∷ vs) h = (meets-without d v h.0, all-without ds vs h.1)

-- `new` names no local
new_names_none : (op : ℕ) → op ≡ NEW → names_local op ≡ true → ⊥
new_names_none op e h = let z : names_local NEW ≡ true = subst (λ (n : ℕ). names_local n ≡ true) e h in cc

-- ---- Longs whose second half is left out.

if_long : (b : Bool) (new v : VType) → (new ≡ Long → ⊥) → (if b then new else v) ≡ Long → v ≡ Long
if_long true new v other e = absurd (other e)
if_long false new v other e = e

replaced-was : (test : VType → Bool) (new : VType) → (new ≡ Long → ⊥) → (vs : List VType) (n : ℕ) → slice_get (replaced test new vs) n ≡ Some Long
    → slice_get vs n ≡ Some Long
replaced-was test new other [] n at = cc
replaced-was test new other (v ∷ vs) zero at = ap (λ v. Some v) (if_long (test v) new v other cc)
replaced-was test new other (v ∷ vs) (suc n) at = replaced-was test new other vs n at

same_or_not : (a b : ℕ) → (a ≡ b) ⊎ ((a ≡ b) → ⊥)
same_or_not a b = grind arith

cut_at : List VType → ℕ → Option VType → List VType
cut_at locals n o = option_map_or (λ v. slice_set locals n (cut v)) o locals

cut_at-elsewhere : (locals : List VType) (n k : ℕ) (o : Option VType) → (k ≡ n → ⊥) → slice_get (cut_at locals n o) k ≡ slice_get locals k
unfolding cut_at
cut_at-elsewhere locals n k None h = refl
cut_at-elsewhere locals n k (Some v) h = slice_get-set_other locals n k (cut v) (λ e. h (sym e))

cut_before-elsewhere : (locals : List VType) (n k : ℕ) → (suc k ≡ n → ⊥) → slice_get (cut_before locals n) k ≡ slice_get locals k
unfolding cut_at
cut_before-elsewhere locals zero k h = refl
cut_before-elsewhere locals (suc n) k h = cut_at-elsewhere locals n k (slice_get locals n) (λ e. h (ap suc e))

-- a local is as before, but for the one that is stored, the one before and the one after it
with_local-elsewhere : (locals : List VType) (n : ℕ) (v : VType) (k : ℕ) → (suc k ≡ n → ⊥) → (k ≡ n → ⊥) → (k ≡ suc n → ⊥)
    → slice_get (with_local locals n v) k ≡ slice_get locals k
with_local-elsewhere locals n Long k before here next =
    slice_get-set_other (slice_set (cut_before locals n) n Long) (suc n) k Unusable (λ e. next (sym e))
    ∙ slice_get-set_other (cut_before locals n) n k Long (λ e. here (sym e)) ∙ cut_before-elsewhere locals n k before
with_local-elsewhere locals n v k before here next =
    slice_get-set_other (cut_before locals n) n k v (λ e. here (sym e)) ∙ cut_before-elsewhere locals n k before

with_local-length : (locals : List VType) (n : ℕ) (v : VType) → length (with_local locals n v) ≡ length locals
with_local-length locals n Long =
    length-set (slice_set (cut_before locals n) n Long) (suc n) Unusable ∙ length-set (cut_before locals n) n Long ∙ cut_before-many locals n
with_local-length locals n v = length-set (cut_before locals n) n v ∙ cut_before-many locals n

replaced-length : (test : VType → Bool) (new : VType) (vs : List VType) → length (replaced test new vs) ≡ length vs
replaced-length test new [] = refl
replaced-length test new (v ∷ vs) = ap suc (replaced-length test new vs)

after-stored : (locals : List VType) (n : ℕ) (v : VType) → slice_get (with_local locals n v) (suc n) ≡ Some Long → slice_get locals (suc n) ≡ Some Long
after-stored locals n Long at =
    let within = slice_get_within (with_local locals n Long) (suc n) Long at in
    let inner : List VType = slice_set (cut_before locals n) n Long in
    let here : slice_get (with_local locals n Long) (suc n) ≡ Some Unusable =
    slice_get-set_same inner (suc n) Unusable (omega (arith, within, length-set inner (suc n) Unusable)) in
    cc
after-stored locals n v at =
    sym (cut_before-elsewhere locals n (suc n) (λ e. omega arith)) ∙ sym (slice_get-set_other (cut_before locals n) n (suc n) v (λ e. omega arith)) ∙ at

ends-stored : (marks : List Bool) (locals : List VType) (n : ℕ) (v : VType) → IsTouched marks n → EndsShort marks locals
    → EndsShort marks (with_local locals n v)
ends-stored marks locals n v touched ends = λ q kept last at. elim (same_or_not q n) [
  | inl same ↦ touched.after (subst (λ (m : ℕ). slice_get marks (suc m) ≡ Some false) same last)
  | inr apart ↦ elim (same_or_not (suc q) n) [
    | inl before ↦ let both : Some true ≡ Some false = sym touched.here ∙ subst (λ (m : ℕ). slice_get marks m ≡ Some false) before last in cc
    | inr far ↦ elim (same_or_not q (suc n)) [
      | inl next ↦
          let there = after-stored locals n v (subst (λ (m : ℕ). slice_get (with_local locals n v) m ≡ Some Long) next at) in
          ends q kept last (subst (λ (m : ℕ). slice_get locals m ≡ Some Long) (sym next) there)
      | inr away ↦ ends q kept last (sym (with_local-elsewhere locals n v q far apart away) ∙ at)
    ]
  ]
]

-- ---- What shapes do.

module _ (s : CodeScope) (marks : List Bool) (code : LinkedCode) (narrowed : IsNarrowed s marks code) where
  abbrev Narrow : CodeScope
  Narrow = with_code s code

  abbrev Wide : FrameType → FrameType
  Wide f = wide_frame marks f

  makes-wide : (place : ℕ) (c : ClassId) → MakesAt Narrow place c → MakesAt s place c
  makes-wide place c (j, at, new, named) =
      let (i, i_at) = item_there s.code.instrs place (omega (arith, slice_get_within code.instrs place j at, narrowed.as_many)) in
      by_renamed i i_at (narrowed.each place i j i_at at)
    where
      by_renamed : (i : Instr) → slice_get s.code.instrs place ≡ Some i → IsRenamed marks i j → MakesAt s place c
      by_renamed i i_at (inl (other, same)) =
          (i, i_at, subst (λ (k : Instr). k.op ≡ NEW) same new, subst (λ (k : Instr). NamesClass s k c) same named)
      by_renamed i i_at (inr (names, (n, is, touched, same))) =
          absurd (new_names_none i.op (subst (λ (k : Instr). k.op ≡ NEW) same new) names)

  makes-narrow : (place : ℕ) (c : ClassId) → MakesAt s place c → MakesAt Narrow place c
  makes-narrow place c (i, at, new, named) =
      let (j, j_at) = item_there code.instrs place (omega (arith, slice_get_within s.code.instrs place i at, narrowed.as_many)) in
      by_renamed j j_at (narrowed.each place i j at j_at)
    where
      by_renamed : (j : Instr) → slice_get code.instrs place ≡ Some j → IsRenamed marks i j → MakesAt Narrow place c
      by_renamed j j_at (inl (other, same)) =
          (j, j_at, subst (λ (k : Instr). k.op ≡ NEW) (sym same) new, subst (λ (k : Instr). NamesClass s k c) (sym same) named)
      by_renamed j j_at (inr (names, (n, is, touched, same))) = absurd (new_names_none i.op new names)

  -- the same frame, with these locals and this stack
  abbrev changed : FrameType → List VType → List VType → FrameType
  changed f locals stack = record f { locals = locals; stack = stack }

  does-wide : (place : ℕ) (shape : Shape) (f g : FrameType) → length f.locals ≡ kept_count marks → Touches marks shape
      → Does Narrow place (renamed_shape marks shape) f g → Does s place shape (Wide f) (Wide g)
  does-wide place (Takes demands gives) f g many touched (below, taken, stack, meet, e) =
      (below, taken, stack, all-without s code demands taken meet, ap Wide e)
  does-wide place (Loads demand n) f g many touched (v, at, meet, e) =
      (v, get-kept marks f.locals n many touched.here ∙ at, meets-without s code demand v meet, ap Wide e)
  does-wide place (Stores demand n) f g many touched (below, v, stack, meet, within, e) = (
    below,
    v,
    stack,
    meets-without s code demand v meet,
    omega (arith, length-widened marks f.locals, slice_get_within marks n true touched.here),
    ap Wide e ∙ ap (λ (ls : List VType). changed f ls below) (with_local-widened marks f.locals n v many touched),
  )
  does-wide place (Increments n) f g many touched (at, e) = (get-kept marks f.locals n many touched.here ∙ at, ap Wide e)
  does-wide place (Drops n) f g many touched (below, dropped, stack, sized, e) = (below, dropped, stack, sized, ap Wide e)
  does-wide place (Copies skipped copied) f g many touched (below, between, top, stack, skips, counts, e) =
      (below, between, top, stack, skips, counts, ap Wide e)
  does-wide place Swaps f g many touched (below, a, b, stack, one, other, e) = (below, a, b, stack, one, other, ap Wide e)
  does-wide place LoadsElement f g many touched (below, array, stack, meet, e) = (below, array, stack, meet, ap Wide e)
  does-wide place Makes f g many touched (none, e) = (
    none,
    ap Wide e ∙ ap (λ (ls : List VType). changed f ls (f.stack ++ Fresh place ∷ [])) (replaced-widened (is_made_at place) Unusable refl marks f.locals),
  )
  does-wide place (Constructs c m arguments) f g many touched (below, receiver, taken, stack, meet, inl (p, is, makes, may, e)) = (
    below,
    receiver,
    taken,
    stack,
    all-without s code arguments taken meet,
    inl (
      p,
      is,
      makes-wide p c makes,
      may,
      ap Wide e
          ∙ ap (λ (ls : List VType). changed f ls (replaced (is_made_at p) (of_class s.classes c) below))
          (replaced-widened (is_made_at p) (of_class s.classes c) refl marks f.locals),
    ),
  )
  does-wide place (Constructs c m arguments) f g many touched (below, receiver, taken, stack, meet, inr (is, own, e)) = (
    below,
    receiver,
    taken,
    stack,
    all-without s code arguments taken meet,
    inr (
      is,
      own,
      ap Wide e
          ∙ ap (λ (ls : List VType). record { locals = ls; stack = replaced is_fresh_this (of_class s.classes s.self) below; fresh = false })
          (replaced-widened is_fresh_this (of_class s.classes s.self) refl marks f.locals),
    ),
  )
  does-wide place Leaves f g many touched (done, e) = (done, ap Wide e)

  -- a frame over the kept locals that is left where all are looked at
  pub record Left (place : ℕ) (shape : Shape) (f g : FrameType) : Type 0 where
    pub frame : FrameType
    pub frame_is : g ≡ wide_frame marks frame
    pub does : Does (with_code s code) place (renamed_shape marks shape) f frame
    pub many : length frame.locals ≡ kept_count marks
    pub ends : EndsShort marks (widened marks frame.locals)

  kept-locals : (place : ℕ) (shape : Shape) (f g : FrameType) (stack : List VType) → length f.locals ≡ kept_count marks
      → EndsShort marks (widened marks f.locals) → g ≡ record (Wide f) { stack = stack }
      → Does (with_code s code) place (renamed_shape marks shape) f (record f { stack = stack }) → Left place shape f g
  kept-locals place shape f g stack many ends e does =
      record { frame = record f { stack = stack }; frame_is = e; does = does; many = many; ends = ends }

  does-narrow : (place : ℕ) (shape : Shape) (f g : FrameType) → length f.locals ≡ kept_count marks → EndsShort marks (widened marks f.locals)
      → Touches marks shape → Does s place shape (Wide f) g → Left place shape f g
  does-narrow place (Takes demands gives) f g many ends touched (below, taken, stack, meet, e) =
      kept-locals place (Takes demands gives) f g (below ++ gives) many ends e (below, taken, stack, all-with s code demands taken meet, refl)
  does-narrow place (Loads demand n) f g many ends touched (v, at, meet, e) =
      kept-locals place (Loads demand n) f g (f.stack ++ v ∷ []) many ends e
      (v, sym (get-kept marks f.locals n many touched.here) ∙ at, meets-with s code demand v meet, refl)
  does-narrow place (Stores demand n) f g many ends touched (below, v, stack, meet, within, e) =
      let locals : List VType = with_local f.locals (rank marks n) v in
      let same = with_local-widened marks f.locals n v many touched in
      record {
        frame = changed f locals below;
        frame_is = e ∙ ap (λ (ls : List VType). changed f ls below) (sym same);
        does = (below, v, stack, meets-with s code demand v meet, omega (arith, many, rank-within marks n touched.here), refl);
        many = with_local-length f.locals (rank marks n) v ∙ many;
        ends = subst (EndsShort marks) (sym same) (ends-stored marks (widened marks f.locals) n v touched ends);
      }
  does-narrow place (Increments n) f g many ends touched (at, e) =
      record {
        frame = f;
        frame_is = e;
        does = (sym (get-kept marks f.locals n many touched.here) ∙ at, refl);
        many = many;
        ends = ends;
      }
  does-narrow place (Drops n) f g many ends touched (below, dropped, stack, sized, e) =
      kept-locals place (Drops n) f g below many ends e (below, dropped, stack, sized, refl)
  does-narrow place (Copies skipped copied) f g many ends touched (below, between, top, stack, skips, counts, e) =
      kept-locals place (Copies skipped copied) f g (below ++ top ++ between ++ top) many ends e (below, between, top, stack, skips, counts, refl)
  does-narrow place Swaps f g many ends touched (below, a, b, stack, one, other, e) =
      kept-locals place Swaps f g (below ++ b ∷ a ∷ []) many ends e (below, a, b, stack, one, other, refl)
  does-narrow place LoadsElement f g many ends touched (below, array, stack, meet, e) =
      kept-locals place LoadsElement f g (below ++ element array ∷ []) many ends e (below, array, stack, meet, refl)
  does-narrow place Makes f g many ends touched (none, e) =
      let stack : List VType = f.stack ++ Fresh place ∷ [] in
      let same = replaced-widened (is_made_at place) Unusable refl marks f.locals in
      record {
        frame = changed f (replaced (is_made_at place) Unusable f.locals) stack;
        frame_is = e ∙ ap (λ (ls : List VType). changed f ls stack) (sym same);
        does = (none, refl);
        many = replaced-length (is_made_at place) Unusable f.locals ∙ many;
        ends = λ n kept last at.
            ends n kept last (replaced-was (is_made_at place) Unusable (λ z. cc) (widened marks f.locals) n
            (ap (λ (ls : List VType). slice_get ls n) (sym same) ∙ at));
      }
  does-narrow place (Constructs c m arguments) f g many ends touched (below, receiver, taken, stack, meet, inl (p, is, makes, may, e)) =
      let new : VType = of_class s.classes c in
      let left : List VType = replaced (is_made_at p) new below in
      let same = replaced-widened (is_made_at p) new refl marks f.locals in
      record {
        frame = changed f (replaced (is_made_at p) new f.locals) left;
        frame_is = e ∙ ap (λ (ls : List VType). changed f ls left) (sym same);
        does = (below, receiver, taken, stack, all-with s code arguments taken meet, inl (p, is, makes-narrow p c makes, may, refl));
        many = replaced-length (is_made_at p) new f.locals ∙ many;
        ends = λ n kept last at.
            ends n kept last (replaced-was (is_made_at p) new (λ z. cc) (widened marks f.locals) n
            (ap (λ (ls : List VType). slice_get ls n) (sym same) ∙ at));
      }
  does-narrow place (Constructs c m arguments) f g many ends touched (below, receiver, taken, stack, meet, inr (is, own, e)) =
      let new : VType = of_class s.classes s.self in
      let left : List VType = replaced is_fresh_this new below in
      let same = replaced-widened is_fresh_this new refl marks f.locals in
      record {
        frame = record { locals = replaced is_fresh_this new f.locals; stack = left; fresh = false };
        frame_is = e ∙ ap (λ (ls : List VType). record { locals = ls; stack = left; fresh = false }) (sym same);
        does = (below, receiver, taken, stack, all-with s code arguments taken meet, inr (is, own, refl));
        many = replaced-length is_fresh_this new f.locals ∙ many;
        ends = λ n kept last at.
            ends n kept last (replaced-was is_fresh_this new (λ z. cc) (widened marks f.locals) n
            (ap (λ (ls : List VType). slice_get ls n) (sym same) ∙ at));
      }
  does-narrow place Leaves f g many ends touched (done, e) =
      record { frame = f; frame_is = e; does = (done, refl); many = many; ends = ends }

  -- ---- Frames of a code.

  kept_or : (n : ℕ) (m : Option Bool) → slice_get marks n ≡ m → (IsKept marks n) ⊎ (slice_get marks n ≡ Some false) ⊎ (slice_get marks n ≡ None)
  kept_or n (Some true) e = inl e
  kept_or n (Some false) e = inr (inl e)
  kept_or n None e = inr (inr e)

  pub frame-wide : (f : FrameType) → IsFrameOf code f → IsFrameOf s.code (Wide f)
  frame-wide f sized =
      let many : length f.locals ≡ kept_count marks = sized.locals ∙ narrowed.locals in
      record {
        locals = length-widened marks f.locals ∙ narrowed.marked;
        stack = omega (arith, sized.stack, narrowed.stack);
        usable = sized.usable;
        halves = λ n at. by_mark many n at (kept_or n (slice_get marks n) refl);
      }
    where
      next : (many : length f.locals ≡ kept_count marks) (n : ℕ) → IsKept marks n → slice_get f.locals (suc (rank marks n)) ≡ Some Unusable
          → (IsKept marks (suc n)) ⊎ (slice_get marks (suc n) ≡ Some false) ⊎ (slice_get marks (suc n) ≡ None)
          → slice_get (widened marks f.locals) (suc n) ≡ Some Unusable
      next many n kept half (inl kept_too) =
          get-kept marks f.locals (suc n) many kept_too ∙ ap (slice_get f.locals) (rank-next marks n kept) ∙ half
      next many n kept half (inr (inl out)) = get-left_out marks f.locals (suc n) out
      next many n kept half (inr (inr past)) =
          absurd (omega (arith, many, rank-last marks n kept past, slice_get_within f.locals (suc (rank marks n)) Unusable half))

      by_mark : (many : length f.locals ≡ kept_count marks) (n : ℕ) → slice_get (widened marks f.locals) n ≡ Some Long
          → (IsKept marks n) ⊎ (slice_get marks n ≡ Some false) ⊎ (slice_get marks n ≡ None)
          → slice_get (widened marks f.locals) (n + 1) ≡ Some Unusable
      by_mark many n at (inl kept) =
          let half = sized.halves (rank marks n) (sym (get-kept marks f.locals n many kept) ∙ at) in
          let half_there : slice_get f.locals (suc (rank marks n)) ≡ Some Unusable =
          subst (λ (k : ℕ). slice_get f.locals k ≡ Some Unusable) (omega arith) half in
          subst (λ (k : ℕ). slice_get (widened marks f.locals) k ≡ Some Unusable) (omega arith)
          (next many n kept half_there (kept_or (suc n) (slice_get marks (suc n)) refl))
      by_mark many n at (inr (inl out)) = let z = get-left_out marks f.locals n out in cc
      by_mark many n at (inr (inr past)) = let z = get-past marks f.locals n past in cc

  pub frame-narrow : (f : FrameType) → IsFrameOf s.code (Wide f) → length f.locals ≡ kept_count marks → EndsShort marks (widened marks f.locals)
      → IsFrameOf code f
  frame-narrow f sized many ends = record {
    locals = many ∙ sym narrowed.locals;
    stack = omega (arith, sized.stack, narrowed.stack);
    usable = sized.usable;
    halves = halves;
  }
    where
      next : (n : ℕ) → IsKept marks n → slice_get (widened marks f.locals) n ≡ Some Long → slice_get (widened marks f.locals) (suc n) ≡ Some Unusable
          → (IsKept marks (suc n)) ⊎ (slice_get marks (suc n) ≡ Some false) ⊎ (slice_get marks (suc n) ≡ None)
          → slice_get f.locals (suc (rank marks n)) ≡ Some Unusable
      next n kept long half (inl kept_too) =
          ap (slice_get f.locals) (sym (rank-next marks n kept)) ∙ sym (get-kept marks f.locals (suc n) many kept_too) ∙ half
      next n kept long half (inr (inl out)) = absurd (ends n kept out long)
      next n kept long half (inr (inr past)) = let z = get-past marks f.locals (suc n) past in cc

      halves : (k : ℕ) → slice_get f.locals k ≡ Some Long → slice_get f.locals (k + 1) ≡ Some Unusable
      halves k at =
          let (n, kept, is) = of-rank marks k (omega (arith, many, slice_get_within f.locals k Long at)) in
          let long : slice_get (widened marks f.locals) n ≡ Some Long = get-kept marks f.locals n many kept ∙ ap (slice_get f.locals) is ∙ at in
          let half : slice_get (widened marks f.locals) (suc n) ≡ Some Unusable =
          subst (λ (m : ℕ). slice_get (widened marks f.locals) m ≡ Some Unusable) (omega arith) (sized.halves n long) in
          subst (λ (m : ℕ). slice_get f.locals m ≡ Some Unusable) (omega (arith, is))
          (next n kept long half (kept_or (suc n) (slice_get marks (suc n)) refl))

  -- ---- Rows.

  pub row-wide : (place : ℕ) (i j : Instr) (f g : FrameType) → IsRenamed marks i j → IsFrameOf code f → Row Narrow place j f g
      → Row s place i (Wide f) (Wide g)
  row-wide place i j f g renamed sized row =
      let (shape, is, has, touches) = shape-whole s code marks i j row.shape renamed row.shape_is in
      record {
        shape = shape;
        shape_is = has;
        does = does-wide place shape f g (sized.locals ∙ narrowed.locals) touches (subst (λ (x : Shape). Does Narrow place x f g) is row.does);
        room = frame-wide g row.room;
      }

  pub record NarrowRow (place : ℕ) (j : Instr) (f g : FrameType) : Type 0 where
    pub frame : FrameType
    pub frame_is : g ≡ wide_frame marks frame
    pub row : Row (with_code s code) place j f frame
    pub many : length frame.locals ≡ kept_count marks
    pub ends : EndsShort marks (widened marks frame.locals)

  pub row-narrow : (place : ℕ) (i j : Instr) (f g : FrameType) → IsRenamed marks i j → length f.locals ≡ kept_count marks
      → EndsShort marks (widened marks f.locals) → Row s place i (Wide f) g → NarrowRow place j f g
  row-narrow place i j f g renamed many ends row =
      let (has, touches) = shape-renamed s code marks i j row.shape renamed row.shape_is in
      let left = does-narrow place row.shape f g many ends touches row.does in
      record {
        frame = left.frame;
        frame_is = left.frame_is;
        row = record {
          shape = renamed_shape marks row.shape;
          shape_is = has;
          does = left.does;
          room = frame-narrow left.frame (subst (IsFrameOf s.code) left.frame_is row.room) left.many left.ends;
        };
        many = left.many;
        ends = left.ends;
      }
