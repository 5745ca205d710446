-- What an instruction makes of a frame is determined: its shape by its opcode and operands, and the frame by the shape.
use Rattle.std.proofs.Common.{◌≡◌, ℕ, suc, ◌⊎◌, inl, inr, List, [], ◌∷◌, ◌++◌, length, refl, sym, ap, ◌∙◌}
use Rattle.std.specs.Prelude.{◌==◌, if◌then◌else◌}
use Rattle.jk_model.specs.declared.identifiers.ClassId.{ClassId}
use Rattle.jk_model.specs.declared.identifiers.MemberId.{MemberId}
use Rattle.jk_model.specs.declared.instructions.Instr.{Instr}
use Rattle.jk_model_classes.specs.declared.records.BaseRef.{BaseRef}
use Rattle.jk_model_classes.specs.declared.records.BaseRef.TheVariants as Base
use Rattle.jk_model_classes.specs.declared.records.FieldRecord.{FieldRecord}
use Rattle.jk_model_classes.specs.declared.records.Link.{Link}
use Rattle.jk_model_classes.specs.declared.records.MethodRecord.{MethodRecord}
use Rattle.jk_model_typing.specs.declared.frames.Demand.{Demand}
use Rattle.jk_model_typing.specs.declared.frames.FrameType.{FrameType}
use Rattle.jk_model_typing.specs.declared.frames.VType.{VType}
use Rattle.jk_model_typing.specs.declared.frames.VType.TheVariants.{Int}
use Rattle.jk_model_typing.specs.Groups.{Group, Shape, Always, LoadsLocal, StoresLocal, IncrementsLocal, LoadsConstant, LoadsLong, ReturnsInt, ReturnsLong, ReturnsReference, ReturnsNothing, GetsStatic, PutsStatic, GetsField, PutsField, CallsVirtual, CallsSpecial, CallsStatic, CallsInterface, MakesObject, MakesArray, MakesArrays, Casts, Tests, MakesNumbers, NoGroup, Takes, Loads, Stores, Increments, Drops, Copies, Swaps, LoadsElement, Makes, Constructs, Leaves, group_of}
use Rattle.jk_model_typing.specs.Rows.{Does, Row, HasShape, AllMeet, IsCodeOf, UsesField, UsesMethod, ConstructsObject, ConstructsThis, with_local, element}
use Rattle.jk_model_typing.specs.Scopes.{CodeScope, LeadsToLink}
use Rattle.type_rows.proofs.RowsCutStacks.{same_cut_by_length, same_cut_by_slots}

-- ---- Shapes.

-- the kind of numbers of a code of newarray
base_of : ℕ → BaseRef
base_of code =
    if code == 4 then Base.Bool else if code == 5 then Base.Char else if code == 8 then Base.Byte else
    if code == 9 then Base.Short else if code == 10 then Base.Int else Base.Long

of_code : (base : BaseRef) (code : ℕ) → IsCodeOf base code → base ≡ base_of code
unfolding base_of
of_code Base.Bool code h = rw h refl
of_code Base.Char code h = rw h refl
of_code Base.Byte code h = rw h refl
of_code Base.Short code h = rw h refl
of_code Base.Int code h = rw h refl
of_code Base.Long code h = rw h refl
of_code (Base.Class c) code h = absurd h

module _ (s : CodeScope) (i : Instr) where
  one_link : (a b : Link) → LeadsToLink s i a → LeadsToLink s i b → a ≡ b
  one_link a b (m, m_is, at) (n, n_is, there) =
      let same : m ≡ n = cc in
      cc

  one_field : (c d : ClassId) (m n : MemberId) (a b : FieldRecord) → UsesField s i c m a → UsesField s i d n b
      → (c ≡ d) × (m ≡ n) × (a ≡ b)
  one_field c d m n a b (to, (r, r_is, at)) (other, (q, q_is, there)) =
      let link = one_link (Link.Field c m) (Link.Field d n) to other in
      let class : c ≡ d = cc in
      let member : m ≡ n = cc in
      let owner : r ≡ q = cc in
      (class, member, cc)

  one_method : (c d : ClassId) (m n : MemberId) (a b : MethodRecord) → UsesMethod s i c m a → UsesMethod s i d n b
      → (c ≡ d) × (m ≡ n) × (a ≡ b)
  one_method c d m n a b (to, (r, r_is, at)) (other, (q, q_is, there)) =
      let link = one_link (Link.Method c m) (Link.Method d n) to other in
      let class : c ≡ d = cc in
      let member : m ≡ n = cc in
      let owner : r ≡ q = cc in
      (class, member, cc)

  shape-determined : (group : Group) (a b : Shape) → HasShape s i group a → HasShape s i group b → a ≡ b
  shape-determined (Always of_all) a b h k = cc
  shape-determined (LoadsLocal demand) a b (m, m_is, e) (n, n_is, f) = cc
  shape-determined (StoresLocal demand) a b (m, m_is, e) (n, n_is, f) = cc
  shape-determined IncrementsLocal a b (m, m_is, e) (n, n_is, f) = cc
  shape-determined LoadsConstant a b (inl (m, to, e)) (inl (n, other, f)) = cc
  shape-determined LoadsConstant a b (inl (m, to, e)) (inr (text, other, f)) =
      let never = one_link (Link.Int m) (Link.Text text) to other in cc
  shape-determined LoadsConstant a b (inr (text, to, e)) (inl (n, other, f)) =
      let never = one_link (Link.Text text) (Link.Int n) to other in cc
  shape-determined LoadsConstant a b (inr (text, to, e)) (inr (units, other, f)) = cc
  shape-determined LoadsLong a b (m, to, e) (n, other, f) = cc
  shape-determined ReturnsInt a b (t, e) (u, f) = cc
  shape-determined ReturnsLong a b (t, e) (u, f) = cc
  shape-determined ReturnsReference a b (t, (r, r_is, v), e) (u, (q, q_is, w), f) =
      let same : r ≡ q = cc in
      cc
  shape-determined ReturnsNothing a b (none, e) (again, f) = cc
  shape-determined GetsStatic a b (c, m, x, to, e) (d, n, y, other, f) =
      let one = one_field c d m n x y to other in
      let field = one.2 in cc
  shape-determined PutsStatic a b (c, m, x, to, e) (d, n, y, other, f) =
      let one = one_field c d m n x y to other in
      let field = one.2 in cc
  shape-determined GetsField a b (c, m, x, to, e) (d, n, y, other, f) =
      let one = one_field c d m n x y to other in
      let class = one.0 in let member = one.1 in let field = one.2 in cc
  shape-determined PutsField a b (c, m, x, to, e) (d, n, y, other, f) =
      let one = one_field c d m n x y to other in
      let class = one.0 in let member = one.1 in let field = one.2 in cc
  shape-determined CallsVirtual a b (c, m, x, to, e) (d, n, y, other, f) =
      let one = one_method c d m n x y to other in
      let class = one.0 in let member = one.1 in let method = one.2 in cc
  shape-determined CallsSpecial a b (c, m, x, to, inl (init, e)) (d, n, y, other, inl (again, f)) =
      let one = one_method c d m n x y to other in
      let class = one.0 in let member = one.1 in let method = one.2 in cc
  shape-determined CallsSpecial a b (c, m, x, to, inl (init, e)) (d, n, y, other, inr (not, below, f)) =
      let one = one_method c d m n x y to other in
      absurd (not (ap (λ (r : MethodRecord). r.name) (sym one.2) ∙ init))
  shape-determined CallsSpecial a b (c, m, x, to, inr (not, below, e)) (d, n, y, other, inl (init, f)) =
      let one = one_method c d m n x y to other in
      absurd (not (ap (λ (r : MethodRecord). r.name) one.2 ∙ init))
  shape-determined CallsSpecial a b (c, m, x, to, inr (not, below, e)) (d, n, y, other, inr (never, under, f)) =
      let one = one_method c d m n x y to other in
      let class = one.0 in let member = one.1 in let method = one.2 in cc
  shape-determined CallsStatic a b (c, m, x, to, e) (d, n, y, other, f) =
      let one = one_method c d m n x y to other in
      let method = one.2 in cc
  shape-determined CallsInterface a b (c, m, x, to, e) (d, n, y, other, f) =
      let one = one_method c d m n x y to other in
      let method = one.2 in cc
  shape-determined MakesObject a b (c, to, e) (d, other, f) = cc
  shape-determined MakesNumbers a b (m, x, m_is, code, e) (n, y, n_is, other, f) =
      let codes : m ≡ n = cc in
      let bases : x ≡ y = of_code x m code ∙ ap base_of codes ∙ sym (of_code y n other) in
      cc
  shape-determined MakesArray a b (t, to, few, e) (u, other, less, f) =
      let link = one_link (Link.Class t) (Link.Class u) to other in
      let same : t ≡ u = cc in
      cc
  shape-determined MakesArrays a b (t, m, to, m_is, some, within, e) (u, n, other, n_is, more, inside, f) =
      let link = one_link (Link.Class t) (Link.Class u) to other in
      let same : t ≡ u = cc in
      let dims : m ≡ n = cc in
      cc
  shape-determined Casts a b (t, to, e) (u, other, f) =
      let link = one_link (Link.Class t) (Link.Class u) to other in
      let same : t ≡ u = cc in
      cc
  shape-determined Tests a b (t, to, e) (u, other, f) = cc
  shape-determined NoGroup a b h k = absurd h

-- ---- Frames.

module _ (s : CodeScope) where
  meet-length : (ds : List Demand) (vs : List VType) → AllMeet s ds vs → length vs ≡ length ds
  meet-length [] [] h = refl
  meet-length [] (v ∷ vs) h = absurd h
  meet-length (d ∷ ds) [] h = absurd h
  meet-length (d ∷ ds) (v ∷ vs) h = ap suc (meet-length ds vs h.1)

  module _ (place : ℕ) where
    constructs-determined : (c : ClassId) (m : MemberId) (receiver : VType) (before : FrameType) (below : List VType) (a b : FrameType)
        → ConstructsObject s c m receiver before below a ⊎ ConstructsThis s c receiver before below a
        → ConstructsObject s c m receiver before below b ⊎ ConstructsThis s c receiver before below b → a ≡ b
    constructs-determined c m receiver before below a b (inl (p, fresh, makes, may, e)) (inl (q, also, made, might, f)) =
        let same : p ≡ q = cc in
        e ∙ rw same (sym f)
    constructs-determined c m receiver before below a b (inl (p, fresh, makes, may, e)) (inr (this, own, f)) = cc
    constructs-determined c m receiver before below a b (inr (this, own, e)) (inl (q, also, made, might, f)) = cc
    constructs-determined c m receiver before below a b (inr (this, own, e)) (inr (that, owns, f)) = e ∙ sym f

    does-determined : (shape : Shape) (before a b : FrameType) → Does s place shape before a → Does s place shape before b → a ≡ b
    does-determined (Takes demands gives) before a b (below, taken, stack, meet, e) (under, over, is, meets, f) =
        let cut = same_cut_by_length below taken under over (sym stack ∙ is) (meet-length demands taken meet ∙ sym (meet-length demands over meets)) in
        e ∙ ap (λ xs. record before { stack = xs ++ gives }) cut.0 ∙ sym f
    does-determined (Loads demand n) before a b (v, at, meet, e) (w, there, meets, f) =
        let same : v ≡ w = cc in
        e ∙ ap (λ x. record before { stack = before.stack ++ x ∷ [] }) same ∙ sym f
    does-determined (Stores demand n) before a b (below, v, stack, meet, within, e) (under, w, is, meets, inside, f) =
        let cut = same_cut_by_length below (v ∷ []) under (w ∷ []) (sym stack ∙ is) refl in
        let top : v ≡ w = let over = cut.1 in cc in
        e ∙ (λ j. record before { locals = with_local before.locals n (top j); stack = cut.0 j }) ∙ sym f
    does-determined (Increments n) before a b (at, e) (there, f) = e ∙ sym f
    does-determined (Drops n) before a b (below, dropped, stack, sized, e) (under, over, is, sizes, f) =
        let cut = same_cut_by_slots below dropped under over (sym stack ∙ is) (sized ∙ sym sizes) in
        e ∙ ap (λ xs. record before { stack = xs }) cut.0 ∙ sym f
    does-determined (Copies skipped copied) before a b (below, between, top, stack, skips, counts, e) (under, middle, over, is, skip, count, f) =
        let cut = same_cut_by_slots (below ++ between) top (under ++ middle) over (sym stack ∙ is) (counts ∙ sym count) in
        let parts = same_cut_by_slots below between under middle cut.0 (skips ∙ sym skip) in
        e ∙ (λ j. record before { stack = parts.0 j ++ cut.1 j ++ parts.1 j ++ cut.1 j }) ∙ sym f
    does-determined Swaps before a b (below, x, y, stack, one, other, e) (under, v, w, is, also, too, f) =
        let cut = same_cut_by_length below (x ∷ y ∷ []) under (v ∷ w ∷ []) (sym stack ∙ is) refl in
        let first : x ≡ v = let over = cut.1 in cc in
        let second : y ≡ w = let over = cut.1 in cc in
        e ∙ (λ j. record before { stack = cut.0 j ++ second j ∷ first j ∷ [] }) ∙ sym f
    does-determined LoadsElement before a b (below, v, stack, meet, e) (under, w, is, meets, f) =
        let cut = same_cut_by_length below (v ∷ Int ∷ []) under (w ∷ Int ∷ []) (sym stack ∙ is) refl in
        let array : v ≡ w = let over = cut.1 in cc in
        e ∙ (λ j. record before { stack = cut.0 j ++ element (array j) ∷ [] }) ∙ sym f
    does-determined Makes before a b (none, e) (never, f) = e ∙ sym f
    does-determined (Constructs c m arguments) before a b (below, receiver, taken, stack, meet, made) (under, object, over, is, meets, makes) =
        let long : length (receiver ∷ taken) ≡ length (object ∷ over) =
        ap suc (meet-length arguments taken meet ∙ sym (meet-length arguments over meets)) in
        let cut = same_cut_by_length below (receiver ∷ taken) under (object ∷ over) (sym stack ∙ is) long in
        let same : receiver ≡ object = let rest = cut.1 in cc in
        constructs-determined c m receiver before below a b made
        (rw (same, cut.0) makes)
    does-determined Leaves before a b (done, e) (ends, f) = e ∙ sym f

  -- an instruction leaves one frame at most
  pub row-determined : (place : ℕ) (i : Instr) (before a b : FrameType) → Row s place i before a → Row s place i before b → a ≡ b
  row-determined place i before a b h k =
      let same = shape-determined s i (group_of i.op) h.shape k.shape h.shape_is k.shape_is in
      does-determined place h.shape before a b h.does (rw same k.does)
