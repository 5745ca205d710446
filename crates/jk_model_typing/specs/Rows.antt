-- What each instruction asks of the frame before it, and which frame it leaves: the typing of instructions.
use Rattle.std.specs.Prelude.{◌≡◌, ◌≢◌, ℕ, zero, suc, ◌+◌, ◌-◌, ◌<◌, ◌≤◌, ◌⊎◌, ⊤, ◌==◌, Bool, false, not, pos, ℤ, IsTrue, List, [], ◌∷◌, ◌++◌, length, map, replicate, Contains, Some, None, slice_get, slice_set, if◌then◌else◌}
use Rattle.std.specs.Option.{option_map_or}
use Rattle.jk_model.specs.Flags.{has, PROTECTED, STATIC}
use Rattle.jk_model.specs.declared.identifiers.ClassId.{ClassId}
use Rattle.jk_model.specs.declared.identifiers.MemberId.{MemberId}
use Rattle.jk_model.specs.declared.instructions.Instr.{Instr}
use Rattle.jk_model.specs.declared.opcodes.TheConstants.{NEW}
use Rattle.jk_model_classes.specs.declared.records.BaseRef.{BaseRef}
use Rattle.jk_model_classes.specs.declared.records.BaseRef.TheVariants as Base
use Rattle.jk_model_classes.specs.declared.records.ClassRecord.{ClassRecord}
use Rattle.jk_model_classes.specs.declared.records.FieldRecord.{FieldRecord}
use Rattle.jk_model_classes.specs.declared.records.Link.TheVariants as Link
use Rattle.jk_model_classes.specs.declared.records.Member.{Member}
use Rattle.jk_model_classes.specs.declared.records.Member.TheVariants.{Field, Method}
use Rattle.jk_model_classes.specs.declared.records.MethodRecord.{MethodRecord}
use Rattle.jk_model_classes.specs.declared.records.TypeRef.{TypeRef}
use Rattle.jk_model_classes.specs.Classes.{record_of, IsSubclass}
use Rattle.jk_model_classes.specs.Lookups.{AreInOnePackage, FieldIs, MethodIs, FlagsAre, class_of}
use Rattle.jk_model_classes.specs.Members.{INIT}
use Rattle.jk_model_typing.specs.declared.frames.VType.{VType}
use Rattle.jk_model_typing.specs.declared.frames.VType.TheVariants.{Unusable, Int, Long, Null, Ref, Fresh, FreshThis}
use Rattle.jk_model_typing.specs.declared.frames.FrameType.{FrameType}
use Rattle.jk_model_typing.specs.declared.frames.Demand.{Demand}
use Rattle.jk_model_typing.specs.declared.frames.Demand.TheVariants.{Fitting, FittingEither, FittingBoth, Reference, AnyReference, ReferenceArray, Array, Receiver, PutReceiver}
use Rattle.jk_model_typing.specs.FrameTypes.{Fits, IsFrameOf, array_type, of_class, of_type, value_of, string, slots}
use Rattle.jk_model_typing.specs.Groups.{Group, Shape, Always, LoadsLocal, StoresLocal, IncrementsLocal, LoadsConstant, LoadsLong, ReturnsInt, ReturnsLong, ReturnsReference, ReturnsNothing, GetsStatic, PutsStatic, GetsField, PutsField, CallsVirtual, CallsSpecial, CallsStatic, CallsInterface, MakesObject, MakesArray, MakesArrays, Casts, Tests, MakesNumbers, NoGroup, Takes, Loads, Stores, Increments, Drops, Copies, Swaps, LoadsElement, Makes, Constructs, Leaves, group_of}
use Rattle.jk_model_typing.specs.Scopes.{CodeScope, LeadsToLink, NamesClass, is_init, parameter_values, result_values}

-- ---- Demands.

abbrev pub IsReference : VType → Type 0
IsReference Null = ⊤
IsReference (Ref t) = ⊤
IsReference _ = ⊥

abbrev pub IsAnyReference : VType → Type 0
IsAnyReference Null = ⊤
IsAnyReference (Ref t) = ⊤
IsAnyReference (Fresh place) = ⊤
IsAnyReference FreshThis = ⊤
IsAnyReference _ = ⊥

abbrev pub IsClass : BaseRef → Type 0
IsClass (Base.Class c) = ⊤
IsClass _ = ⊥

-- null, or an array whose elements are references: arrays, or objects
abbrev pub IsReferenceArray : VType → Type 0
IsReferenceArray Null = ⊤
IsReferenceArray (Ref t) = (1 < t.dims) ⊎ ((t.dims ≡ 1) × IsClass t.base)
IsReferenceArray _ = ⊥

-- null, or an array
abbrev pub IsArray : VType → Type 0
IsArray Null = ⊤
IsArray (Ref t) = 0 < t.dims
IsArray _ = ⊥

-- A protected member, not static, of a superclass in another runtime package: it is taken only at objects of the method's
-- own class and of classes below that.
abbrev pub IsGuarded : CodeScope → Member → Type 0
IsGuarded s member =
    (flags : ℕ) × FlagsAre s.classes member flags × IsTrue (has flags PROTECTED) × IsTrue (not (has flags STATIC))
    × IsSubclass s.classes s.self (class_of member) × (AreInOnePackage s.classes s.self (class_of member) → ⊥)

-- the entry fits the class that a reference to the member names, and the method's own class where the member is guarded
pub record IsReceiver (s : CodeScope) (named : ClassId) (member : Member) (v : VType) : Type 0 where
  pub fits : Fits s.classes v (of_class s.classes named)
  pub guarded : IsGuarded s member → Fits s.classes v (of_class s.classes s.self)

abbrev pub Meets : CodeScope → Demand → VType → Type 0
Meets s (Fitting t) v = Fits s.classes v t
Meets s (FittingEither t u) v = Fits s.classes v t ⊎ Fits s.classes v u
Meets s (FittingBoth t u) v = Fits s.classes v t × Fits s.classes v u
Meets s Reference v = IsReference v
Meets s AnyReference v = IsAnyReference v
Meets s ReferenceArray v = IsReferenceArray v
Meets s Array v = IsArray v
Meets s (Receiver named member) v = IsReceiver s named member v
Meets s (PutReceiver named m) v = IsReceiver s named (Field m) v ⊎ ((v ≡ FreshThis) × (m.class ≡ s.self))

-- as many, each of which meets the demand at its place
abbrev pub AllMeet : CodeScope → List Demand → List VType → Type 0
AllMeet s [] [] = ⊤
AllMeet s (d ∷ ds) (v ∷ vs) = Meets s d v × AllMeet s ds vs
AllMeet s _ _ = ⊥

-- ---- Locals.

-- a long loses its second half, and can't be used any more
abbrev pub cut : VType → VType
cut Long = Unusable
cut v = v

-- the local before this one is cut
abbrev pub cut_before : List VType → ℕ → List VType
cut_before locals zero = locals
cut_before locals (suc n) = option_map_or (λ v. slice_set locals n (cut v)) (slice_get locals n) locals

abbrev pub with_local : List VType → ℕ → VType → List VType
with_local locals n Long = slice_set (slice_set (cut_before locals n) n Long) (suc n) Unusable
with_local locals n v = slice_set (cut_before locals n) n v

-- ---- Fresh objects.

abbrev pub is_made_at : ℕ → VType → Bool
is_made_at place (Fresh p) = p == place
is_made_at place _ = false

abbrev pub is_fresh_this : VType → Bool
is_fresh_this v = elim v as (λ _. Bool) [ FreshThis ↦ Bool.true | _ ↦ false ]

-- the entries for which the test says yes become this one
abbrev pub replaced : (VType → Bool) → VType → List VType → List VType
replaced test new vs = map (λ v. if test v then new else v) vs

-- the instruction at a place is a `new` of this class
abbrev pub MakesAt : CodeScope → ℕ → ClassId → Type 0
MakesAt s place c = (i : Instr) × (slice_get s.code.instrs place ≡ Some i) × (i.op ≡ NEW) × NamesClass s i c

-- a protected constructor of a superclass in another runtime package isn't called at an object that `new` made
abbrev pub MayConstruct : CodeScope → MemberId → Type 0
MayConstruct s m = IsGuarded s (Method m) → ⊥

-- the method's own class, or its parent
abbrev pub IsOwnOrParent : CodeScope → ClassId → Type 0
IsOwnOrParent s c = (c ≡ s.self) ⊎ ((r : ClassRecord) × (record_of s.classes s.self ≡ Some r) × (r.parent ≡ Some c))

-- A constructor was called: all copies of its receiver are objects of the class from now on. The rest of the stack is below.
abbrev pub ConstructsObject : CodeScope → ClassId → MemberId → VType → FrameType → List VType → FrameType → Type 0
ConstructsObject s c m receiver before below after =
    (place : ℕ) × (receiver ≡ Fresh place) × MakesAt s place c × MayConstruct s m
    × (let object = replaced (is_made_at place) (of_class s.classes c) in
    after ≡ record before { locals = object before.locals; stack = object below })

abbrev pub ConstructsThis : CodeScope → ClassId → VType → FrameType → List VType → FrameType → Type 0
ConstructsThis s c receiver before below after =
    (receiver ≡ FreshThis) × IsOwnOrParent s c
    × (let object = replaced is_fresh_this (of_class s.classes s.self) in
    after ≡ record { locals = object before.locals; stack = object below; fresh = false })

-- ---- Shapes.

-- null's elements are null
abbrev pub element : VType → VType
element (Ref t) = Ref (array_type (t.dims - 1) t.base)
element v = v

abbrev pub Does : CodeScope → ℕ → Shape → FrameType → FrameType → Type 0
Does s place (Takes demands gives) before after =
    (below : List VType) × (taken : List VType) × (before.stack ≡ below ++ taken) × AllMeet s demands taken
    × (after ≡ record before { stack = below ++ gives })
Does s place (Loads demand n) before after =
    (v : VType) × (slice_get before.locals n ≡ Some v) × Meets s demand v
    × (after ≡ record before { stack = before.stack ++ v ∷ [] })
Does s place (Stores demand n) before after =
    (below : List VType) × (v : VType) × (before.stack ≡ below ++ v ∷ []) × Meets s demand v × (n < length before.locals)
    × (after ≡ record before { locals = with_local before.locals n v; stack = below })
Does s place (Increments n) before after = (slice_get before.locals n ≡ Some Int) × (after ≡ before)
Does s place (Drops n) before after =
    (below : List VType) × (dropped : List VType) × (before.stack ≡ below ++ dropped) × (slots dropped ≡ n)
    × (after ≡ record before { stack = below })
Does s place (Copies skipped copied) before after =
    (below : List VType) × (between : List VType) × (top : List VType) × (before.stack ≡ below ++ between ++ top)
    × (slots between ≡ skipped) × (slots top ≡ copied)
    × (after ≡ record before { stack = below ++ top ++ between ++ top })
Does s place Swaps before after =
    (below : List VType) × (a : VType) × (b : VType) × (before.stack ≡ below ++ a ∷ b ∷ []) × (slots (a ∷ []) ≡ 1)
    × (slots (b ∷ []) ≡ 1) × (after ≡ record before { stack = below ++ b ∷ a ∷ [] })
Does s place LoadsElement before after =
    (below : List VType) × (array : VType) × (before.stack ≡ below ++ array ∷ Int ∷ []) × IsReferenceArray array
    × (after ≡ record before { stack = below ++ element array ∷ [] })
Does s place Makes before after =
    (Contains before.stack (Fresh place) → ⊥)
    × (after ≡ record before {
      locals = replaced (is_made_at place) Unusable before.locals;
      stack = before.stack ++ Fresh place ∷ [];
    })
Does s place (Constructs c m arguments) before after =
    (below : List VType) × (receiver : VType) × (taken : List VType) × (before.stack ≡ below ++ receiver ∷ taken)
    × AllMeet s arguments taken
    × (ConstructsObject s c m receiver before below after ⊎ ConstructsThis s c receiver before below after)
Does s place Leaves before after = (IsTrue (is_init s.method) → before.fresh ≡ false) × (after ≡ before)

-- ---- The shape of an instruction, from its group and its operands.

abbrev pub arguments : CodeScope → MethodRecord → List Demand
arguments s method = map Fitting (parameter_values s method)

-- the instruction's first operand leads to a field, by a reference that names a class
abbrev pub UsesField : CodeScope → Instr → ClassId → MemberId → FieldRecord → Type 0
UsesField s i named m field = LeadsToLink s i (Link.Field named m) × FieldIs s.classes m field

abbrev pub UsesMethod : CodeScope → Instr → ClassId → MemberId → MethodRecord → Type 0
UsesMethod s i named m method = LeadsToLink s i (Link.Method named m) × MethodIs s.classes m method

-- the method's result is of a type whose values are these
abbrev pub Answers : CodeScope → VType → Type 0
Answers s v = (t : TypeRef) × (s.method.result ≡ Some t) × (v ≡ value_of s.classes t)

-- the code of newarray for elements of this kind
abbrev pub IsCodeOf : BaseRef → ℕ → Type 0
IsCodeOf Base.Bool code = code ≡ 4
IsCodeOf Base.Char code = code ≡ 5
IsCodeOf Base.Byte code = code ≡ 8
IsCodeOf Base.Short code = code ≡ 9
IsCodeOf Base.Int code = code ≡ 10
IsCodeOf Base.Long code = code ≡ 11
IsCodeOf _ code = ⊥

abbrev pub HasShape : CodeScope → Instr → Group → Shape → Type 0
HasShape s i (Always of_all) shape = shape ≡ of_all
HasShape s i (LoadsLocal demand) shape = (n : ℕ) × (i.a ≡ pos n) × (shape ≡ Loads demand n)
HasShape s i (StoresLocal demand) shape = (n : ℕ) × (i.a ≡ pos n) × (shape ≡ Stores demand n)
HasShape s i IncrementsLocal shape = (n : ℕ) × (i.a ≡ pos n) × (shape ≡ Increments n)
HasShape s i LoadsConstant shape =
    ((n : ℤ) × LeadsToLink s i (Link.Int n) × (shape ≡ Takes [] (Int ∷ [])))
    ⊎ ((text : List ℕ) × LeadsToLink s i (Link.Text text) × (shape ≡ Takes [] (string ∷ [])))
HasShape s i LoadsLong shape = (n : ℤ) × LeadsToLink s i (Link.Long n) × (shape ≡ Takes [] (Long ∷ []))
HasShape s i ReturnsInt shape = Answers s Int × (shape ≡ Takes (Fitting Int ∷ []) [])
HasShape s i ReturnsLong shape = Answers s Long × (shape ≡ Takes (Fitting Long ∷ []) [])
HasShape s i ReturnsReference shape = (t : TypeRef) × Answers s (Ref t) × (shape ≡ Takes (Fitting (Ref t) ∷ []) [])
HasShape s i ReturnsNothing shape = (s.method.result ≡ None) × (shape ≡ Leaves)
HasShape s i GetsStatic shape =
    (c : ClassId) × (m : MemberId) × (field : FieldRecord) × UsesField s i c m field
    × (shape ≡ Takes [] (value_of s.classes field.kind ∷ []))
HasShape s i PutsStatic shape =
    (c : ClassId) × (m : MemberId) × (field : FieldRecord) × UsesField s i c m field
    × (shape ≡ Takes (Fitting (value_of s.classes field.kind) ∷ []) [])
HasShape s i GetsField shape =
    (c : ClassId) × (m : MemberId) × (field : FieldRecord) × UsesField s i c m field
    × (shape ≡ Takes (Receiver c (Field m) ∷ []) (value_of s.classes field.kind ∷ []))
HasShape s i PutsField shape =
    (c : ClassId) × (m : MemberId) × (field : FieldRecord) × UsesField s i c m field
    × (shape ≡ Takes (PutReceiver c m ∷ Fitting (value_of s.classes field.kind) ∷ []) [])
HasShape s i CallsVirtual shape =
    (c : ClassId) × (m : MemberId) × (method : MethodRecord) × UsesMethod s i c m method
    × (shape ≡ Takes (Receiver c (Method m) ∷ arguments s method) (result_values s method))
HasShape s i CallsSpecial shape =
    (c : ClassId) × (m : MemberId) × (method : MethodRecord) × UsesMethod s i c m method
    × (((method.name ≡ INIT) × (shape ≡ Constructs c m (arguments s method)))
    ⊎ ((method.name ≢ INIT) × IsSubclass s.classes s.self c
    × (shape ≡ Takes (FittingBoth (of_class s.classes c) (of_class s.classes s.self) ∷ arguments s method) (result_values s method))))
HasShape s i CallsStatic shape =
    (c : ClassId) × (m : MemberId) × (method : MethodRecord) × UsesMethod s i c m method
    × (shape ≡ Takes (arguments s method) (result_values s method))
HasShape s i CallsInterface shape =
    (c : ClassId) × (m : MemberId) × (method : MethodRecord) × UsesMethod s i c m method
    × (shape ≡ Takes (Reference ∷ arguments s method) (result_values s method))
HasShape s i MakesObject shape = (c : ClassId) × NamesClass s i c × (shape ≡ Makes)
HasShape s i MakesNumbers shape =
    (code : ℕ) × (base : BaseRef) × (i.a ≡ pos code) × IsCodeOf base code
    × (shape ≡ Takes (Fitting Int ∷ []) (Ref (array_type 1 base) ∷ []))
HasShape s i MakesArray shape =
    (t : TypeRef) × LeadsToLink s i (Link.Class t) × (t.dims < 255)
    × (shape ≡ Takes (Fitting Int ∷ []) (of_type s.classes (array_type (t.dims + 1) t.base) ∷ []))
HasShape s i MakesArrays shape =
    (t : TypeRef) × (n : ℕ) × LeadsToLink s i (Link.Class t) × (i.b ≡ pos n) × (0 < n) × (n ≤ t.dims)
    × (shape ≡ Takes (replicate n (Fitting Int)) (of_type s.classes t ∷ []))
HasShape s i Casts shape =
    (t : TypeRef) × LeadsToLink s i (Link.Class t) × (shape ≡ Takes (Reference ∷ []) (of_type s.classes t ∷ []))
HasShape s i Tests shape =
    (t : TypeRef) × LeadsToLink s i (Link.Class t) × (shape ≡ Takes (Reference ∷ []) (Int ∷ []))
HasShape s i NoGroup shape = ⊥

-- The instruction at this place may begin with the first frame, and then leaves the second, which the code has room for.
pub record Row (s : CodeScope) (place : ℕ) (i : Instr) (before after : FrameType) : Type 0 where
  pub shape : Shape
  pub shape_is : HasShape s i (group_of i.op) shape
  pub does : Does s place shape before after
  pub room : IsFrameOf s.code after
