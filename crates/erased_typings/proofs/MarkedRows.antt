-- An instruction that begins with a plain frame leaves a plain one, where what it pushes by itself is plain.
use Rattle.std.proofs.Common.{◌≡◌, ℕ, zero, suc, ◌+◌, Bool, true, false, inl, inr, List, [], ◌∷◌, ◌++◌, Option, Some, None, slice_set, refl, if◌then◌else◌}
use Rattle.std.specs.Prelude.{⊤, slice_get}
use Rattle.std.specs.List.{AllByRecursion, list_all}
use Rattle.std.specs.Option.{option_map_or}
use Rattle.jk_model.specs.declared.identifiers.ClassId.{ClassId}
use Rattle.jk_model.specs.declared.identifiers.MemberId.{MemberId}
use Rattle.jk_model.specs.declared.instructions.Instr.{Instr}
use Rattle.jk_model.proofs.EachItem.{all_append, all_at, all_back, all_from_test, all_front}
use Rattle.jk_model_classes.specs.declared.records.BaseRef.{BaseRef}
use Rattle.jk_model_classes.specs.declared.records.BaseRef.TheVariants as Base
use Rattle.jk_model_classes.specs.declared.records.FieldRecord.{FieldRecord}
use Rattle.jk_model_classes.specs.declared.records.Link.TheVariants as Link
use Rattle.jk_model_classes.specs.declared.records.MethodRecord.{MethodRecord}
use Rattle.jk_model_classes.specs.declared.records.TypeRef.{TypeRef}
use Rattle.jk_model_typing.specs.declared.frames.FrameType.{FrameType}
use Rattle.jk_model_typing.specs.declared.frames.VType.{VType}
use Rattle.jk_model_typing.specs.declared.frames.VType.TheVariants.{Unusable, Int, Long, Ref, Fresh}
use Rattle.jk_model_typing.specs.FrameTypes.{array_type, of_class, of_type, value_of, string}
use Rattle.jk_model_typing.specs.Groups.{Group, Shape, Always, LoadsLocal, StoresLocal, IncrementsLocal, LoadsConstant, LoadsLong, ReturnsInt, ReturnsLong, ReturnsReference, ReturnsNothing, GetsStatic, PutsStatic, GetsField, PutsField, CallsVirtual, CallsSpecial, CallsStatic, CallsInterface, MakesObject, MakesArray, MakesArrays, Casts, Tests, MakesNumbers, NoGroup, Takes, Loads, Stores, Increments, Drops, Copies, Swaps, LoadsElement, Makes, Constructs, Leaves, group_of, groups}
use Rattle.jk_model_typing.specs.Rows.{Does, HasShape, IsCodeOf, UsesField, UsesMethod, cut, cut_before, with_local, replaced, is_made_at, is_fresh_this, element}
use Rattle.jk_model_typing.specs.Scopes.{CodeScope, LeadsToLink, result_values}
use Rattle.class_growth.proofs.ShapesKept.{passes_among}
use Rattle.erased_typings.proofs.MarkedTypes.{is_marked, IsPlain, IsPlainFrame}

-- What instructions push is plain: of the types that an operand leads to, and of the method's own class.
pub record PushesPlain (s : CodeScope) (mark : ClassId → Bool) : Type 0 where
  pub own : IsPlain mark (of_class s.classes s.self)
  pub text : IsPlain mark string
  pub types : (i : Instr) (t : TypeRef) (dims : ℕ) → LeadsToLink s i (Link.Class t) → IsPlain mark (of_type s.classes (array_type dims t.base))
  pub fields : (i : Instr) (c : ClassId) (m : MemberId) (field : FieldRecord) → UsesField s i c m field → IsPlain mark (value_of s.classes field.kind)
  pub results : (i : Instr) (c : ClassId) (m : MemberId) (method : MethodRecord) → UsesMethod s i c m method
      → AllByRecursion (IsPlain mark) (result_values s method)
  pub constructed : (i : Instr) (c : ClassId) (m : MemberId) (method : MethodRecord) → UsesMethod s i c m method
      → IsPlain mark (of_class s.classes c)

-- ---- Shapes that push no references by themselves.

abbrev is_no_ref : VType → Bool
is_no_ref (Ref t) = false
is_no_ref _ = true

abbrev pushes_no_ref : Shape → Bool
pushes_no_ref (Takes demands gives) = list_all is_no_ref gives
pushes_no_ref (Constructs c m demands) = false
pushes_no_ref _ = true

abbrev group_pushes_no_ref : Group → Bool
group_pushes_no_ref (Always shape) = pushes_no_ref shape
group_pushes_no_ref _ = true

group_of-pushes_no_ref : (op : ℕ) → group_pushes_no_ref (group_of op) ≡ true
group_of-pushes_no_ref op = passes_among group_pushes_no_ref NoGroup groups op refl refl

module _ (s : CodeScope) (mark : ClassId → Bool) where
  abbrev pub GivesPlain : Shape → Type 0
  GivesPlain (Takes demands gives) = AllByRecursion (IsPlain mark) gives
  GivesPlain (Constructs c m demands) = IsPlain mark (of_class s.classes c)
  GivesPlain _ = ⊤

  no_ref-plain : (v : VType) → is_no_ref v ≡ true → IsPlain mark v
  no_ref-plain (Ref t) h = absurd cc
  no_ref-plain v h = tt

  no_ref-gives : (shape : Shape) → pushes_no_ref shape ≡ true → GivesPlain shape
  no_ref-gives (Takes demands gives) h = all_from_test (IsPlain mark) is_no_ref no_ref-plain gives h
  no_ref-gives (Constructs c m demands) h = absurd cc
  no_ref-gives shape h = tt

  number-plain : (base : BaseRef) (code : ℕ) → IsCodeOf base code → is_marked mark base ≡ false
  number-plain (Base.Class c) code h = absurd h
  number-plain base code h = refl

  module _ (pushes : PushesPlain s mark) (i : Instr) where
    shape-gives_by : (g : Group) (shape : Shape) → group_pushes_no_ref g ≡ true → HasShape s i g shape → GivesPlain shape
    shape-gives_by (Always of_all) shape none e = rw e (no_ref-gives of_all none)
    shape-gives_by (LoadsLocal demand) shape none (n, a, e) = rw e tt
    shape-gives_by (StoresLocal demand) shape none (n, a, e) = rw e tt
    shape-gives_by IncrementsLocal shape none (n, a, e) = rw e tt
    shape-gives_by LoadsConstant shape none (inl (n, leads, e)) = rw e (tt, tt)
    shape-gives_by LoadsConstant shape none (inr (text, leads, e)) = rw e (pushes.text, tt)
    shape-gives_by LoadsLong shape none (n, leads, e) = rw e (tt, tt)
    shape-gives_by ReturnsInt shape none (answers, e) = rw e tt
    shape-gives_by ReturnsLong shape none (answers, e) = rw e tt
    shape-gives_by ReturnsReference shape none (t, answers, e) = rw e tt
    shape-gives_by ReturnsNothing shape none (nothing, e) = rw e tt
    shape-gives_by GetsStatic shape none (c, m, field, uses, e) = rw e (pushes.fields i c m field uses, tt)
    shape-gives_by PutsStatic shape none (c, m, field, uses, e) = rw e tt
    shape-gives_by GetsField shape none (c, m, field, uses, e) = rw e (pushes.fields i c m field uses, tt)
    shape-gives_by PutsField shape none (c, m, field, uses, e) = rw e tt
    shape-gives_by CallsVirtual shape none (c, m, method, uses, e) = rw e (pushes.results i c m method uses)
    shape-gives_by CallsSpecial shape none (c, m, method, uses, inl (named, e)) = rw e (pushes.constructed i c m method uses)
    shape-gives_by CallsSpecial shape none (c, m, method, uses, inr (named, below, e)) = rw e (pushes.results i c m method uses)
    shape-gives_by CallsStatic shape none (c, m, method, uses, e) = rw e (pushes.results i c m method uses)
    shape-gives_by CallsInterface shape none (c, m, method, uses, e) = rw e (pushes.results i c m method uses)
    shape-gives_by MakesObject shape none (c, names, e) = rw e tt
    shape-gives_by MakesNumbers shape none (code, base, a, is, e) = rw e (number-plain base code is, tt)
    shape-gives_by MakesArray shape none (t, leads, few, e) = rw e (pushes.types i t (t.dims + 1) leads, tt)
    shape-gives_by MakesArrays shape none (t, n, leads, b, some, few, e) = rw e (pushes.types i t t.dims leads, tt)
    shape-gives_by Casts shape none (t, leads, e) = rw e (pushes.types i t t.dims leads, tt)
    shape-gives_by Tests shape none (t, leads, e) = rw e (tt, tt)
    shape-gives_by NoGroup shape none h = absurd h

    pub shape-gives : (shape : Shape) → HasShape s i (group_of i.op) shape → GivesPlain shape
    shape-gives shape has = shape-gives_by (group_of i.op) shape (group_of-pushes_no_ref i.op) has

  -- ---- Locals.

  set_plain : (vs : List VType) (n : ℕ) (v : VType) → AllByRecursion (IsPlain mark) vs → IsPlain mark v
      → AllByRecursion (IsPlain mark) (slice_set vs n v)
  set_plain [] n v h here = tt
  set_plain (w ∷ vs) zero v h here = (here, h.1)
  set_plain (w ∷ vs) (suc n) v h here = (h.0, set_plain vs n v h.1 here)

  cut_plain : (v : VType) → IsPlain mark v → IsPlain mark (cut v)
  cut_plain Long h = tt
  cut_plain v h = h

  cut_before_by : (locals : List VType) (n : ℕ) (o : Option VType) → slice_get locals n ≡ o → AllByRecursion (IsPlain mark) locals
      → AllByRecursion (IsPlain mark) (option_map_or (λ v. slice_set locals n (cut v)) o locals)
  cut_before_by locals n None at h = h
  cut_before_by locals n (Some v) at h = set_plain locals n (cut v) h (cut_plain v (all_at (IsPlain mark) locals n v h at))

  cut_before_plain : (locals : List VType) (n : ℕ) → AllByRecursion (IsPlain mark) locals → AllByRecursion (IsPlain mark) (cut_before locals n)
  cut_before_plain locals zero h = h
  cut_before_plain locals (suc n) h = cut_before_by locals n (slice_get locals n) refl h

  with_local_plain : (locals : List VType) (n : ℕ) (v : VType) → AllByRecursion (IsPlain mark) locals → IsPlain mark v
      → AllByRecursion (IsPlain mark) (with_local locals n v)
  with_local_plain locals n Long h here =
      set_plain (slice_set (cut_before locals n) n Long) (suc n) Unusable (set_plain (cut_before locals n) n Long (cut_before_plain locals n h) tt) tt
  with_local_plain locals n v h here = set_plain (cut_before locals n) n v (cut_before_plain locals n h) here

  chosen_plain : (b : Bool) (new v : VType) → IsPlain mark new → IsPlain mark v → IsPlain mark (if b then new else v)
  chosen_plain true new v h k = h
  chosen_plain false new v h k = k

  replaced_plain : (test : VType → Bool) (new : VType) (vs : List VType) → IsPlain mark new → AllByRecursion (IsPlain mark) vs
      → AllByRecursion (IsPlain mark) (replaced test new vs)
  replaced_plain test new [] h k = tt
  replaced_plain test new (v ∷ vs) h k = (chosen_plain (test v) new v h k.0, replaced_plain test new vs h k.1)

  element_plain : (v : VType) → IsPlain mark v → IsPlain mark (element v)
  element_plain (Ref t) h = h
  element_plain v h = h

  -- ---- What is left is plain.

  module _ (place : ℕ) (f after : FrameType) (plain : IsPlainFrame mark f) where
    front_of : (below taken : List VType) → f.stack ≡ below ++ taken → AllByRecursion (IsPlain mark) below
    front_of below taken e = all_front (IsPlain mark) below taken (rw e at plain.1)

    back_of : (below taken : List VType) → f.stack ≡ below ++ taken → AllByRecursion (IsPlain mark) taken
    back_of below taken e = all_back (IsPlain mark) below taken (rw e at plain.1)

    onto : (below given : List VType) → AllByRecursion (IsPlain mark) below → AllByRecursion (IsPlain mark) given
        → AllByRecursion (IsPlain mark) (below ++ given)
    onto below given h k = all_append (IsPlain mark) below given h k

    pub does-plain : IsPlain mark (of_class s.classes s.self) → (shape : Shape) → GivesPlain shape → Does s place shape f after → IsPlainFrame mark after
    does-plain own (Takes demands gives) given (below, taken, stack, meet, e) = rw e (plain.0, onto below gives (front_of below taken stack) given)
    does-plain own (Loads demand n) given (v, at, meets, e) =
        rw e (plain.0, onto f.stack (v ∷ []) plain.1 (all_at (IsPlain mark) f.locals n v plain.0 at, tt))
    does-plain own (Stores demand n) given (below, v, stack, meets, within, e) =
        rw e (with_local_plain f.locals n v plain.0 (back_of below (v ∷ []) stack).0, front_of below (v ∷ []) stack)
    does-plain own (Increments n) given (at, e) = rw e plain
    does-plain own (Drops n) given (below, dropped, stack, sized, e) = rw e (plain.0, front_of below dropped stack)
    does-plain own (Copies skipped copied) given (below, between, top, stack, skips, counts, e) =
        let front = front_of (below ++ between) top stack in
        let low = all_front (IsPlain mark) below between front in
        let middle = all_back (IsPlain mark) below between front in
        let high = back_of (below ++ between) top stack in
        rw e (plain.0, onto (below ++ top ++ between) top (onto (below ++ top) between (onto below top low high) middle) high)
    does-plain own Swaps given (below, a, b, stack, one, other, e) =
        let two = back_of below (a ∷ b ∷ []) stack in
        rw e (plain.0, onto below (b ∷ a ∷ []) (front_of below (a ∷ b ∷ []) stack) (two.1.0, (two.0, tt)))
    does-plain own LoadsElement given (below, array, stack, meet, e) =
        let two = back_of below (array ∷ Int ∷ []) stack in
        rw e (plain.0, onto below (element array ∷ []) (front_of below (array ∷ Int ∷ []) stack) (element_plain array two.0, tt))
    does-plain own Makes given (none, e) =
        rw e (replaced_plain (is_made_at place) Unusable f.locals tt plain.0, onto f.stack (Fresh place ∷ []) plain.1 (tt, tt))
    does-plain own (Constructs c m arguments) given (below, receiver, taken, stack, meet, inl (made, fresh, makes, may, e)) =
        let front = front_of below (receiver ∷ taken) stack in
        rw e (
          replaced_plain (is_made_at made) (of_class s.classes c) f.locals given plain.0,
          replaced_plain (is_made_at made) (of_class s.classes c) below given front,
        )
    does-plain own (Constructs c m arguments) given (below, receiver, taken, stack, meet, inr (fresh, parent, e)) =
        let front = front_of below (receiver ∷ taken) stack in
        rw e (
          replaced_plain is_fresh_this (of_class s.classes s.self) f.locals own plain.0,
          replaced_plain is_fresh_this (of_class s.classes s.self) below own front,
        )
    does-plain own Leaves given (done, e) = rw e plain
