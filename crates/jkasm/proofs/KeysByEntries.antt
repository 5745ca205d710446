-- The order of the index tells contents apart exactly where their entries differ.
use Rattle.std.proofs.Common.{◌≡◌, ℕ, true, List, refl, ap}
use Rattle.std.specs.BTreeMap.{is_at}
use Rattle.std.specs.Cmp.Lexicographic.{slice_cmp}
use Rattle.std.specs.Ordering.{nat_cmp, is_eq, ordering_then}
use Rattle.std.specs.declared.cmp.Ordering.{Ordering}
use Rattle.std.specs.declared.cmp.Ordering.TheVariants.{Less, Equal, Greater}
use Rattle.std.proofs.lemmas.Cmp.{tied_itself, nat_cmp_total, nat_list_cmp_total}
use Rattle.std.proofs.lemmas.Map.Lookups.{exact_unsigned, exact_bytes}
use Rattle.list_lemmas.proofs.TestsAndOrders.{equal_by as is_equal}
use Rattle.jk_model.specs.declared.class_file.PoolEntry.{PoolEntry}
use Rattle.jk_model.specs.declared.class_file.PoolEntry.TheVariants as entries
use Rattle.jkasm.specs.declared.pool.key.Key.{Key}
use Rattle.jkasm.specs.declared.pool.key.Key.TheVariants as keys
use Rattle.jkasm.specs.contracts.pool.key.KeyOrd.TheImpl as block
use Rattle.jkasm.specs.PoolKeys.{entry_of}

same_numbers : (a b : ℕ) → is_eq (nat_cmp a b) ≡ true → a ≡ b
same_numbers a b h = exact_unsigned a b (is_equal (nat_cmp a b) h)

same_bytes : (a b : List ℕ) → is_eq (slice_cmp nat_cmp a b) ≡ true → a ≡ b
same_bytes a b h = exact_bytes a b (is_equal (slice_cmp nat_cmp a b) h)

both_equal : (o p : Ordering) → is_eq (ordering_then o p) ≡ true → (o ≡ Equal) × (p ≡ Equal)
both_equal Less p h = absurd cc
both_equal Equal p h = (refl, is_equal p h)
both_equal Greater p h = absurd cc

same_pairs : (entry : ℕ → ℕ → PoolEntry) (a b c d : ℕ) → is_eq (ordering_then (nat_cmp a c) (nat_cmp b d)) ≡ true → entry a b ≡ entry c d
same_pairs entry a b c d h =
    let (front, back) = both_equal (nat_cmp a c) (nat_cmp b d) h in
    let one : a ≡ c = exact_unsigned a c front in
    let two : b ≡ d = exact_unsigned b d back in
    cc

pub same_entry : (k q : Key) → is_at (block.ghosts.cmp k) q ≡ true → entry_of k ≡ entry_of q
same_entry (keys.Utf8 a) (keys.Utf8 b) h = ap entries.Utf8 (same_bytes a.items b.items h)
same_entry (keys.Integer a) (keys.Integer b) h = ap entries.Integer (same_numbers a b h)
same_entry (keys.Long a) (keys.Long b) h = ap entries.Long (same_numbers a b h)
same_entry (keys.Class a) (keys.Class b) h = ap entries.Class (same_numbers a b h)
same_entry (keys.Str a) (keys.Str b) h = ap entries.Str (same_numbers a b h)
same_entry (keys.NameAndType a b) (keys.NameAndType c d) h = same_pairs entries.NameAndType a b c d h
same_entry (keys.Field a b) (keys.Field c d) h = same_pairs entries.FieldRef a b c d h
same_entry (keys.Method a b) (keys.Method c d) h = same_pairs entries.MethodRef a b c d h
same_entry (keys.InterfaceMethod a b) (keys.InterfaceMethod c d) h = same_pairs entries.InterfaceMethodRef a b c d h
same_entry _ _ h = cc

-- ---- The way back.

alike_numbers : (a b : ℕ) → a ≡ b → is_eq (nat_cmp a b) ≡ true
alike_numbers a b e = rw e (ap is_eq (tied_itself nat_cmp_total b))

alike_bytes : (a b : List ℕ) → a ≡ b → is_eq (slice_cmp nat_cmp a b) ≡ true
alike_bytes a b e = rw e (ap is_eq (tied_itself nat_list_cmp_total b))

alike_pairs : (a b c d : ℕ) → a ≡ c → b ≡ d → is_eq (ordering_then (nat_cmp a c) (nat_cmp b d)) ≡ true
alike_pairs a b c d e f = rw (e, f, tied_itself nat_cmp_total c, tied_itself nat_cmp_total d) refl

pub same_key : (k q : Key) → entry_of k ≡ entry_of q → is_at (block.ghosts.cmp k) q ≡ true
same_key (keys.Utf8 a) (keys.Utf8 b) h = alike_bytes a.items b.items cc
same_key (keys.Integer a) (keys.Integer b) h = alike_numbers a b cc
same_key (keys.Long a) (keys.Long b) h = alike_numbers a b cc
same_key (keys.Class a) (keys.Class b) h = alike_numbers a b cc
same_key (keys.Str a) (keys.Str b) h = alike_numbers a b cc
same_key (keys.NameAndType a b) (keys.NameAndType c d) h = alike_pairs a b c d (cc) (cc)
same_key (keys.Field a b) (keys.Field c d) h = alike_pairs a b c d (cc) (cc)
same_key (keys.Method a b) (keys.Method c d) h = alike_pairs a b c d (cc) (cc)
same_key (keys.InterfaceMethod a b) (keys.InterfaceMethod c d) h = alike_pairs a b c d (cc) (cc)
same_key _ _ h = cc
