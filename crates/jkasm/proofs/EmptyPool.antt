-- A pool with index 0 alone has no constants.
use Rattle.std.proofs.Common.{◌≡◌, ℕ, zero, suc, [], ◌∷◌, Some, slice_get}
use Rattle.jk_model.specs.declared.class_file.PoolEntry.{PoolEntry}
use Rattle.jk_model.specs.declared.class_file.PoolEntry.TheVariants as entries
use Rattle.asm_reader.specs.declared.items.Constant.TheVariants.{Int, Long, Text}
use Rattle.asm_reader.specs.declared.items.MemberKind.{MemberKind}
use Rattle.asm_reader.specs.declared.items.MemberKind.TheVariants.{Field, Method, InterfaceMethod}
use Rattle.jkasm.specs.Constants.{PoolConstant, Utf8, Class, Value, NameAndType, Reference, Says, HasJust, reference}

-- what stands in the empty pool says nothing
only_unusable : (i : ℕ) (e : PoolEntry) → slice_get (entries.Unusable ∷ []) i ≡ Some e → e ≡ entries.Unusable
only_unusable zero e at = cc
only_unusable (suc i) e at = absurd cc

no_reference : (i : ℕ) (kind : MemberKind) (k n : ℕ) → slice_get (entries.Unusable ∷ []) i ≡ Some (reference kind k n) → ⊥
no_reference i Field k n at = let e = only_unusable i (entries.FieldRef k n) at in cc
no_reference i Method k n at = let e = only_unusable i (entries.MethodRef k n) at in cc
no_reference i InterfaceMethod k n at = let e = only_unusable i (entries.InterfaceMethodRef k n) at in cc

says_nothing : (i : ℕ) (c : PoolConstant) → Says (entries.Unusable ∷ []) i c → ⊥
says_nothing i (Utf8 bytes) at = let e = only_unusable i (entries.Utf8 bytes) at in cc
says_nothing i (Class name) (n, at, text) = let e = only_unusable i (entries.Class n) at in cc
says_nothing i (Value (Int n)) at = let e = only_unusable i _ at in cc
says_nothing i (Value (Long n)) at = let e = only_unusable i _ at in cc
says_nothing i (Value (Text text)) (n, at, is) = let e = only_unusable i (entries.Str n) at in cc
says_nothing i (NameAndType name descriptor) (n, d, at, text, other) = let e = only_unusable i (entries.NameAndType n d) at in cc
says_nothing i (Reference kind class name descriptor) (k, n, at, is, pair) = no_reference i kind k n at

pub empty_pool : HasJust (entries.Unusable ∷ []) []
empty_pool = record {
  all = λ c (i, x, at, is). absurd cc;
  once = λ c i j one other. absurd (says_nothing i c one);
  only = λ i e at ne. absurd (ne (only_unusable i e at));
}
