-- A method has one Code at most, and takes the slots that are known of its descriptor.
use Rattle.std.proofs.Common.{◌≡◌, ℕ, ◌+◌, ◌<◌, ◌≤◌, ◌^◌, inl, inr, ◌↔◌, Bool, true, false, IsTrue, List, length, Result, Ok, Err, Option, Some, None, sym, ◌∙◌, ap, subst, arith}
use Rattle.std.specs.Prelude.{not, slice_get, IfOk, IfSome, MatchOption}
use Rattle.std.proofs.lemmas.Bool.{cases_order, and_parts}
use Rattle.std.proofs.lemmas.Option.{same_Some}
use Rattle.jk_model.specs.declared.class_file.ClassFile.{ClassFile}
use Rattle.jk_model.specs.declared.class_file.PoolEntry.{PoolEntry}
use Rattle.jk_model.specs.declared.class_file.MemberInfo.{MemberInfo}
use Rattle.jk_model.specs.declared.class_file.Attribute.{Attribute}
use Rattle.jk_model.specs.declared.class_file.Code.{Code as CodeBody}
use Rattle.jk_model.specs.declared.descriptors.MethodType.{MethodType}
use Rattle.jk_model.specs.ClassFile.{CodeLayout}
use Rattle.jk_model.specs.Descriptors.{IsMethodText, method_slots, receiver_slots}
use Rattle.jk_model.specs.Flags.{STATIC, NATIVE, ABSTRACT, has}
use Rattle.jk_model_classes.specs.Items.{HasItemBefore, HasTwoItems}
use Rattle.class_lemmas.proofs.SomeItem.{none_at_all}
use Rattle.class_lemmas.proofs.OneText.{one_text}
use Rattle.descriptors.proofs.NoTextBeginsAnother.{one_method}
use Rattle.class_rules.specs.declared.codes.CodeJudgment.{CodeJudgment}
use Rattle.class_rules.specs.declared.texts.MethodShape.{MethodShape}
use Rattle.class_rules.specs.declared.texts.TextFacts.{TextFacts}
use Rattle.class_rules.specs.declared.texts.Word.TheVariants.{Code}
use Rattle.class_rules.specs.Attributes.{IsCalledBy, CountFlags, needs_code, HasBadMethodAttributes}
use Rattle.class_rules.specs.Codes.{IsJudgment}
use Rattle.class_rules.specs.KnownPools.{IsTextKnown}
use Rattle.class_rules.specs.MethodCodes.{HasCodeBody, TakesMore, HasMoreSlots, IsMethodJudged}
use Rattle.class_rules.specs.Texts.{IsMethodShape, method_shape}
use Rattle.class_rules.proofs.MethodsByFlags.{missed, one_value}

-- ---- One Code.

same_item : {X : Type 0} (P : X → Type 0) (xs : List X) (k j : ℕ) (x y : X) → (HasTwoItems P xs → ⊥) → slice_get xs k ≡ Some x → P x
    → slice_get xs j ≡ Some y → P y → y ≡ x
same_item P xs k j x y one at p found q =
    elim (cases_order j k) [
      | inl here ↦ same_Some y x (sym found ∙ subst (λ (n : ℕ). slice_get xs n ≡ Some x) (sym here) at)
      | inr other ↦ elim other [
        | inl before ↦ absurd (one (j, k, y, x, before, found, at, q, p))
        | inr after ↦ absurd (one (k, j, x, y, after, at, found, p, q))
      ]
    ]

-- what a Code elsewhere among the attributes says, this one says
body_here : (pool : List PoolEntry) (attributes : List Attribute) (k : ℕ) (a : Attribute) (body : List ℕ) (code : CodeBody)
    → (HasTwoItems (IsCalledBy pool Code) attributes → ⊥) → slice_get attributes k ≡ Some a → IsCalledBy pool Code a → body ≡ a.body
    → HasCodeBody pool attributes code → CodeLayout body code
body_here pool attributes k a body code one at called same (j, b, found, (again, layout)) =
    let here : b ≡ a = same_item (IsCalledBy pool Code) attributes k j a b one at called found again in
    subst (λ (bytes : List ℕ). CodeLayout bytes code) (ap (λ (x : Attribute). x.body) here ∙ sym same) layout

abbrev pub IsOneCode : List PoolEntry → List Attribute → Option CodeBody → Type 0
IsOneCode pool attributes found =
    MatchOption found ((code : CodeBody) → HasCodeBody pool attributes code → ⊥)
    (λ code. HasCodeBody pool attributes code × ((other : CodeBody) → HasCodeBody pool attributes other → code ≡ other))

pub code_found : {E : Type 0} (pool : List PoolEntry) (attributes : List Attribute) (k : ℕ) (a : Attribute) (body : List ℕ)
    (r : Result (Option CodeBody) E) → (HasTwoItems (IsCalledBy pool Code) attributes → ⊥) → slice_get attributes k ≡ Some a → IsCalledBy pool Code a
    → body ≡ a.body
    → IfOk r (λ found. MatchOption found ((code : CodeBody) → CodeLayout body code → ⊥) (λ code. CodeLayout body code))
    → IfOk r (λ found. IfSome found (λ code. (other : CodeBody) → CodeLayout body other → code ≡ other))
    → IfOk r (λ found. IsOneCode pool attributes found)
code_found pool attributes k a body (Ok None) one at called same none only =
    λ code h. none code (body_here pool attributes k a body code one at called same h)
code_found pool attributes k a body (Ok (Some code)) one at called same layout only = (
  (k, a, at, (called, subst (λ (bytes : List ℕ). CodeLayout bytes code) same layout)),
  λ other h. only other (body_here pool attributes k a body other one at called same h),
)
code_found pool attributes k a body (Err e) one at called same layout only = tt

pub no_code : (pool : List PoolEntry) (attributes : List Attribute) (k : ℕ) → length attributes ≤ k
    → (HasItemBefore k (IsCalledBy pool Code) attributes → ⊥) → (code : CodeBody) → HasCodeBody pool attributes code → ⊥
no_code pool attributes k all none code (j, b, found, (called, layout)) =
    none_at_all (IsCalledBy pool Code) attributes k all none (j, b, found, called)

-- ---- Slots.

slots_are : (shape : MethodShape) (t : MethodType) (receiver : Bool) → shape ≡ method_shape t → shape.slots + receiver_slots receiver ≡ method_slots t receiver
slots_are shape t receiver same = omega (arith, ap (λ (s : MethodShape). s.slots) same)

more_known : (units : List ℕ) (shape : Option MethodShape) (static : Bool) (max : ℕ) → IsMethodShape units shape → HasMoreSlots shape static max
    → (t : MethodType) × IsMethodText units t × (max < method_slots t (not static))
more_known units None static max known more = absurd more
more_known units (Some shape) static max (t, text, same) more = (t, text, omega (arith, more, slots_are shape t (not static) same))

more_taken : (units : List ℕ) (shape : Option MethodShape) (static : Bool) (max : ℕ) (t : MethodType) → IsMethodShape units shape → IsMethodText units t
    → max < method_slots t (not static) → HasMoreSlots shape static max
more_taken units None static max t none text more = none t text
more_taken units (Some shape) static max t (u, known, same) text more =
    let one : t ≡ u = one_method units t u text known in
    omega (arith, slots_are shape u (not static) same, subst (λ (v : MethodType). max < method_slots v (not static)) one more)

pub takes_more : (pool : List PoolEntry) (flags : ℕ) (method : MemberInfo) (facts : TextFacts) (static : Bool) (slots : ℕ)
    → IsTextKnown pool method.descriptor (Some facts) → static ≡ has flags STATIC
    → ((max : ℕ) → max < 2 ^ 16 → (max < slots) ↔ HasMoreSlots facts.method static max)
    → (max : ℕ) → max < 2 ^ 16 → (max < slots) ↔ TakesMore pool flags method max
takes_more pool flags method facts static slots (known_units, here, known) is more max small = (
  λ less.
      let (t, text, above) = more_known known_units facts.method static max known.method ((more max small).0 less) in
      (t, (known_units, here, text), subst (λ (b : Bool). max < method_slots t (not b)) is above),
  λ (t, (units, at, text), above).
      let one : units ≡ known_units = one_text pool method.descriptor units known_units at here in
      (more max small).1 (more_taken known_units facts.method static max t known.method (subst (λ (u : List ℕ). IsMethodText u t) one text)
      (subst (λ (b : Bool). max < method_slots t (not b)) (sym is) above)),
)

pub takes_none : (pool : List PoolEntry) (flags : ℕ) (method : MemberInfo) → IsTextKnown pool method.descriptor None
    → (max : ℕ) → max < 2 ^ 16 → (max < 0) ↔ TakesMore pool flags method max
takes_none pool flags method none max small = (λ less. absurd (omega arith), λ (t, (units, at, text), above). absurd (none units at))

-- ---- A method.

-- a method that has to have code has one
pub one_if_good : (c : ClassFile) (method : MemberInfo) (flags : ℕ) → CountFlags c.pool method flags → IsTrue (needs_code flags)
    → (HasBadMethodAttributes c method → ⊥) → HasTwoItems (IsCalledBy c.pool Code) method.attributes → ⊥
one_if_good c method flags counted needs good two =
    let parts = and_parts (not (has flags ABSTRACT)) (not (has flags NATIVE)) needs in
    good (inr (inl (missed c method flags counted (inl (parts.0, parts.1, inr two)))))

pub needs_none : (c : ClassFile) (method : MemberInfo) (flags : ℕ) → CountFlags c.pool method flags → needs_code flags ≡ false
    → IsMethodJudged c method None
needs_none c method flags counted free code (other, again, needs, h) =
    let same : other ≡ flags = one_value c.pool method other flags again counted in
    let never : true ≡ false = sym needs ∙ ap needs_code same ∙ free in
    cc

pub has_none : (c : ClassFile) (method : MemberInfo) → ((code : CodeBody) → HasCodeBody c.pool method.attributes code → ⊥) → IsMethodJudged c method None
has_none c method none code (flags, counted, needs, h) = none code h

pub method_judged : (c : ClassFile) (method : MemberInfo) (flags : ℕ) (code : CodeBody) (arguments : ℕ) (j : CodeJudgment) → CountFlags c.pool method flags
    → IsTrue (needs_code flags) → HasCodeBody c.pool method.attributes code
    → ((other : CodeBody) → HasCodeBody c.pool method.attributes other → code ≡ other)
    → ((code.max_locals < arguments) ↔ TakesMore c.pool flags method code.max_locals) → IsJudgment c.pool arguments code j
    → IsMethodJudged c method (Some j)
method_judged c method flags code arguments j counted needs body only takes judged = (
  code,
  (flags, counted, needs, body),
  λ other (others, again, too, h). only other h,
  record { flags = flags; counted = counted; arguments = arguments; takes = takes; judged = judged },
)

pub code_is_short : (pool : List PoolEntry) (attributes : List Attribute) (code : CodeBody) → HasCodeBody pool attributes code → length code.code < 2 ^ 16
code_is_short pool attributes code (j, b, found, (called, layout)) = layout.code.1

pub locals_are_few : (pool : List PoolEntry) (attributes : List Attribute) (code : CodeBody) → HasCodeBody pool attributes code → code.max_locals < 2 ^ 16
locals_are_few pool attributes code (j, b, found, (called, layout)) = layout.limits.1

pub own_code : (pool own : List PoolEntry) (attributes listed : List Attribute) (found : Option CodeBody) → pool ≡ own → attributes ≡ listed
    → IsOneCode pool attributes found → IsOneCode own listed found
own_code pool own attributes listed found e f h =
    subst (λ (xs : List Attribute). IsOneCode own xs found) f (subst (λ (p : List PoolEntry). IsOneCode p attributes found) e h)

pub some_found : (pool : List PoolEntry) (attributes : List Attribute) (found : Option CodeBody) (code : CodeBody) → found ≡ Some code
    → IsOneCode pool attributes found → IsOneCode pool attributes (Some code)
some_found pool attributes found code e h = subst (IsOneCode pool attributes) e h

pub none_found : (pool : List PoolEntry) (attributes : List Attribute) (found : Option CodeBody) → found ≡ None → IsOneCode pool attributes found
    → IsOneCode pool attributes None
none_found pool attributes found e h = subst (IsOneCode pool attributes) e h

pub own_two : (pool own : List PoolEntry) (attributes listed : List Attribute) → pool ≡ own → attributes ≡ listed
    → HasTwoItems (IsCalledBy pool Code) attributes → HasTwoItems (IsCalledBy own Code) listed
own_two pool own attributes listed e f h =
    subst (λ (xs : List Attribute). HasTwoItems (IsCalledBy own Code) xs) f
    (subst (λ (p : List PoolEntry). HasTwoItems (IsCalledBy p Code) attributes) e h)
