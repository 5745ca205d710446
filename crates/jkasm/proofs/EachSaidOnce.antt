-- Where the entries of a pool differ, each constant is said by one entry.
use Rattle.std.proofs.Common.{◌≡◌, ◌≢◌, ℕ, List, Some, slice_get, ◌∙◌, ap}
use Rattle.jk_model.specs.declared.class_file.PoolEntry.{PoolEntry}
use Rattle.jk_model.specs.declared.class_file.PoolEntry.TheVariants as entries
use Rattle.asm_reader.specs.declared.items.Constant.TheVariants.{Int, Long, Text}
use Rattle.asm_reader.specs.declared.items.MemberKind.{MemberKind}
use Rattle.asm_reader.specs.declared.items.MemberKind.TheVariants.{Field, Method, InterfaceMethod}
use Rattle.jkasm.specs.Constants.{PoolConstant, Utf8, Class, Value, NameAndType, Reference, Says, Utf8At, ClassAt, NameAndTypeAt, reference}
use Rattle.jkasm.specs.PoolIndex.{EntriesDiffer}

pub reference_usable : (kind : MemberKind) (k n : ℕ) → reference kind k n ≢ entries.Unusable
reference_usable Field k n e = cc
reference_usable Method k n e = cc
reference_usable InterfaceMethod k n e = cc

module _ (pool : List PoolEntry) (differ : EntriesDiffer pool) where
  utf8_once : (i j : ℕ) (bytes : List ℕ) → Utf8At pool i bytes → Utf8At pool j bytes → i ≡ j
  utf8_once i j bytes = differ i j (entries.Utf8 bytes) (λ e. cc)

  -- an entry that says the same is the same
  pub class_entry : (n j : ℕ) (name : List ℕ) → Utf8At pool n name → ClassAt pool j name → slice_get pool j ≡ Some (entries.Class n)
  class_entry n j name text (m, at, is) =
      let same : m ≡ n = utf8_once m n name is text in
      at ∙ ap (λ (x : ℕ). Some (entries.Class x)) same

  pub text_entry : (n j : ℕ) (text : List ℕ) → Utf8At pool n text → Says pool j (Value (Text text))
      → slice_get pool j ≡ Some (entries.Str n)
  text_entry n j text at (m, said, is) =
      let same : m ≡ n = utf8_once m n text is at in
      said ∙ ap (λ (x : ℕ). Some (entries.Str x)) same

  pub pair_entry : (n d j : ℕ) (name descriptor : List ℕ) → Utf8At pool n name → Utf8At pool d descriptor
      → NameAndTypeAt pool j name descriptor → slice_get pool j ≡ Some (entries.NameAndType n d)
  pair_entry n d j name descriptor text other (m, f, at, is, as_well) =
      let same : m ≡ n = utf8_once m n name is text in
      let alike : f ≡ d = utf8_once f d descriptor as_well other in
      let here : entries.NameAndType m f ≡ entries.NameAndType n d = cc in
      at ∙ ap (λ (x : PoolEntry). Some x) here

  class_once : (i j : ℕ) (name : List ℕ) → ClassAt pool i name → ClassAt pool j name → i ≡ j
  class_once i j name (n, at, text) other =
      differ i j (entries.Class n) (λ e. cc) at (class_entry n j name text other)

  pair_once : (i j : ℕ) (name descriptor : List ℕ) → NameAndTypeAt pool i name descriptor → NameAndTypeAt pool j name descriptor → i ≡ j
  pair_once i j name descriptor (n, d, at, text, is) other =
      differ i j (entries.NameAndType n d) (λ e. cc) at (pair_entry n d j name descriptor text is other)

  pub reference_entry : (kind : MemberKind) (k n j : ℕ) (class name descriptor : List ℕ) → ClassAt pool k class
      → NameAndTypeAt pool n name descriptor → Says pool j (Reference kind class name descriptor)
      → slice_get pool j ≡ Some (reference kind k n)
  reference_entry kind k n j class name descriptor is pair (l, m, at, as_class, as_pair) =
      let same : l ≡ k = class_once l k class as_class is in
      let alike : m ≡ n = pair_once m n name descriptor as_pair pair in
      let here : reference kind l m ≡ reference kind k n = cc in
      at ∙ ap (λ (x : PoolEntry). Some x) here

  pub says_once : (i j : ℕ) (c : PoolConstant) → Says pool i c → Says pool j c → i ≡ j
  says_once i j (Utf8 bytes) one other = utf8_once i j bytes one other
  says_once i j (Class name) one other = class_once i j name one other
  says_once i j (Value (Int n)) one other = differ i j _ (λ e. cc) one other
  says_once i j (Value (Long n)) one other = differ i j _ (λ e. cc) one other
  says_once i j (Value (Text text)) (n, at, is) other =
      differ i j (entries.Str n) (λ e. cc) at (text_entry n j text is other)
  says_once i j (NameAndType name descriptor) one other = pair_once i j name descriptor one other
  says_once i j (Reference kind class name descriptor) (k, n, at, is, pair) other =
      differ i j (reference kind k n) (reference_usable kind k n) at
      (reference_entry kind k n j class name descriptor is pair other)
