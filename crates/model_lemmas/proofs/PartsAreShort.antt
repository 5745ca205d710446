-- A part of a class file has no more bytes than the whole.
use Rattle.std.proofs.Common.{◌≡◌, ℕ, zero, suc, ◌≤◌, List, [], ◌∷◌, ◌++◌, length, Some, ap, arith, length-append, flat_map}
use Rattle.std.specs.Prelude.{slice_get}
use Rattle.std.proofs.lemmas.List.Concat.{flat_map-cons}
use Rattle.std.proofs.lemmas.Option.{same_Some, none-some}
use Rattle.jk_model.specs.declared.class_file.ClassFile.{ClassFile}
use Rattle.jk_model.specs.declared.class_file.MemberInfo.{MemberInfo}
use Rattle.jk_model.specs.declared.class_file.Attribute.{Attribute}
use Rattle.jk_model.specs.ClassFile.{u2, u4, attribute_bytes, attributes_bytes, member_bytes, members_bytes, pool_bytes, interfaces_bytes, class_bytes}

-- the bytes of one item are no more than those of all
pub item_long : {X : Type 0} (f : X → List ℕ) (xs : List X) (i : ℕ) (x : X) → slice_get xs i ≡ Some x → length (f x) ≤ length (flat_map f xs)
item_long f [] i x e = absurd (none-some x e)
item_long f (y ∷ xs) zero x e =
    let same : length (f y) ≡ length (f x) = ap (λ z. length (f z)) (same_Some y x e) in
    omega (arith, same, ap length (flat_map-cons f y xs), length-append (f y) (flat_map f xs))
item_long f (y ∷ xs) (suc i) x e =
    let rest = item_long f xs i x e in
    omega (arith, rest, ap length (flat_map-cons f y xs), length-append (f y) (flat_map f xs))

-- what is no longer than one part is no longer than the whole
pub within_back : (n : ℕ) (front back : List ℕ) → n ≤ length back → n ≤ length (front ++ back)
within_back n front back le = omega (arith, le, length-append front back)

pub within_front : (n : ℕ) (front back : List ℕ) → n ≤ length front → n ≤ length (front ++ back)
within_front n front back le = omega (arith, le, length-append front back)

pub body_within : (n : ℕ) (a : Attribute) → n ≤ length a.body → n ≤ length (attribute_bytes a)
body_within n a le =
    within_back n (u2 a.name) (u4 (length a.body) ++ a.body) (within_back n (u4 (length a.body)) a.body le)

pub item_within : {X : Type 0} (n : ℕ) (f : X → List ℕ) (xs : List X) (i : ℕ) (x : X) → slice_get xs i ≡ Some x → n ≤ length (f x)
    → n ≤ length (flat_map f xs)
item_within n f xs i x at le = let all = item_long f xs i x at in omega (arith, le, all)

pub attribute_within : (n : ℕ) (attributes : List Attribute) (i : ℕ) (a : Attribute) → slice_get attributes i ≡ Some a → n ≤ length (attribute_bytes a)
    → n ≤ length (attributes_bytes attributes)
attribute_within n attributes i a at le =
    within_back n (u2 (length attributes)) (flat_map attribute_bytes attributes) (item_within n attribute_bytes attributes i a at le)

pub attributes_within : (n : ℕ) (m : MemberInfo) → n ≤ length (attributes_bytes m.attributes) → n ≤ length (member_bytes m)
attributes_within n m le =
    let last = attributes_bytes m.attributes in
    within_back n (u2 m.flags) (u2 m.name ++ u2 m.descriptor ++ last)
    (within_back n (u2 m.name) (u2 m.descriptor ++ last) (within_back n (u2 m.descriptor) last le))

pub member_within : (n : ℕ) (members : List MemberInfo) (i : ℕ) (m : MemberInfo) → slice_get members i ≡ Some m → n ≤ length (member_bytes m)
    → n ≤ length (members_bytes members)
member_within n members i m at le =
    within_back n (u2 (length members)) (flat_map member_bytes members) (item_within n member_bytes members i m at le)

pub methods_within : (n : ℕ) (c : ClassFile) → n ≤ length (members_bytes c.methods) → n ≤ length (class_bytes c)
methods_within n c le =
    let before = u4 0xCAFEBABE ++ u2 c.minor ++ u2 c.major ++ pool_bytes c.pool ++ u2 c.flags ++ u2 c.this_class ++ u2 c.super_class
    ++ interfaces_bytes c.interfaces ++ members_bytes c.fields in
    within_front n (before ++ members_bytes c.methods) (attributes_bytes c.attributes) (within_back n before (members_bytes c.methods) le)
