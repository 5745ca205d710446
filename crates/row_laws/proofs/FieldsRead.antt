-- What getfield and getstatic push is of the field's type, and null as a receiver is refused: they keep what is kept.
use Rattle.std.proofs.Common.{inl, inr, ◌≡◌, ◌||◌, ℕ, Bool, IsTrue, true, false, not, List, [], ◌∷◌, Some, None, slice_get, refl, sym, ap, subst, ◌∙◌, arith}
use Rattle.std.specs.Prelude.{bytes_eq, codes}
use Rattle.std.specs.List.{list_all}
use Rattle.std.proofs.lemmas.Option.{same_Some, slice_get_within}
use Rattle.std.proofs.lemmas.Slice.Eq.{bytes_eq-Decides}
use Rattle.list_lemmas.proofs.ItemsByPlace.{item_there}
use Rattle.list_lemmas.proofs.ItemsOfLists.{Contains-at, passed_at}
use Rattle.jk_model.specs.Flags.{has, STATIC}
use Rattle.jk_model.specs.SystemTable.{SystemClass, SystemField, system_classes}
use Rattle.jk_model.specs.declared.identifiers.MemberId.{MemberId}
use Rattle.jk_model.specs.declared.values.Value.{Value}
use Rattle.jk_model.specs.declared.values.Value.TheVariants as Held
use Rattle.jk_model_classes.specs.declared.records.ClassRecord.{ClassRecord}
use Rattle.jk_model_classes.specs.declared.records.FieldRecord.{FieldRecord}
use Rattle.jk_model_classes.specs.declared.records.Link.TheVariants as To
use Rattle.jk_model_classes.specs.declared.records.Member.TheVariants.{Field}
use Rattle.jk_model_classes.specs.declared.records.TypeRef.{TypeRef}
use Rattle.jk_model_classes.specs.Classes.{record_of}
use Rattle.jk_model_classes.specs.Lookups.{FieldIs}
use Rattle.class_lemmas.proofs.OneRecord.{one_field}
use Rattle.jk_model_typing.specs.declared.frames.Demand.TheVariants.{Receiver}
use Rattle.jk_model_typing.specs.FrameTypes.{value_of}
use Rattle.jk_model_domains.specs.Objects.{Plain, PRINT_STREAM, class_type}
use Rattle.jk_model_domains.specs.ValueTypes.{HoldsDeclared}
use Rattle.jk_model_heaps.specs.RunningCode.{NamesField, RunsCode}
use Rattle.jk_model_heaps.specs.Workings.{GoesOnWith, Inside, Outcome, Setting, Working}
use Rattle.jk_model_heap_rows.specs.FieldRows.{GetsField, GetsStatic, HasField, IsStaticValue}
use Rattle.jk_model_sealing.specs.SealedInsides.{IsSealedInside, Surroundings}
use Rattle.heap_laws.specs.FittingOutcomes.{IsOfType}
use Rattle.heap_laws.specs.RunningFrames.{RunsWell}
use Rattle.heap_laws.specs.NamedWell.{NamesWell, uses_static_field}
use Rattle.heap_laws.specs.SoundCodes.{AreSoundCodes}
use Rattle.system_facts.specs.DescriptorReader.{field_kind}
use Rattle.system_facts.proofs.TypesRead.{field_kind-read}
use Rattle.row_laws.proofs.InstancesFitTypes.{instance_fits}
use Rattle.typing_lemmas.proofs.OneScope.{one_link}
use Rattle.row_laws.proofs.FieldsByPlace.{StandInOneOrder, field_held}
use Rattle.row_laws.proofs.HeapFramesLeft.{Keeps, declared_fits, fresh_raised, in_line, shape_at, took_only}
use Rattle.row_laws.proofs.StaticsNamed.{system_entry}

-- ---- The one static field of the system classes holds a java/io/PrintStream.

abbrev stream_text : List ℕ
stream_text = codes "Ljava/io/PrintStream;"

abbrev is_stream_or_plain : SystemField → Bool
is_stream_or_plain f = not (has f.flags STATIC) || bytes_eq f.descriptor stream_text

abbrev has_streams : SystemClass → Bool
has_streams class = list_all is_stream_or_plain class.fields

streams_alone : list_all has_streams system_classes ≡ true
streams_alone = refl

stream_read : field_kind stream_text ≡ Some (class_type PRINT_STREAM)
stream_read = refl

static_by : (a b : Bool) → a ≡ true → (not a || b) ≡ true → b ≡ true
static_by true b e h = h
static_by false b e h = absurd cc

module _ (classes : List ClassRecord) (sound : AreSoundCodes classes) where
  stream_kind : (m : MemberId) (field : FieldRecord) (r : ClassRecord) → record_of classes m.class ≡ Some r → r.home ≡ None
      → FieldIs classes m field → has field.flags STATIC ≡ true → field.kind ≡ class_type PRINT_STREAM
  stream_kind m field r is none (q, is_q, at_q) static =
      let one : q ≡ r = same_Some q r (sym is_q ∙ is) in
      let at : slice_get r.fields m.index ≡ Some field = subst (λ (y : ClassRecord). slice_get y.fields m.index ≡ Some field) one at_q in
      let entry = system_entry classes sound m.class r is none in
      let listed = item_there entry.0.fields m.index (let low = slice_get_within r.fields m.index field at in omega (arith, low, entry.2.field_count)) in
      let said = entry.2.fields m.index listed.0 field listed.1 at in
      let all : has_streams entry.0 ≡ true = passed_at has_streams system_classes m.class.0 entry.0 streams_alone entry.1 in
      let one : is_stream_or_plain listed.0 ≡ true = passed_at is_stream_or_plain entry.0.fields m.index listed.0 all listed.1 in
      let flags : has listed.0.flags STATIC ≡ true = ap (λ (n : ℕ). has n STATIC) (sym said.flags) ∙ static in
      let text : listed.0.descriptor ≡ stream_text =
      (bytes_eq-Decides listed.0.descriptor stream_text).0 (static_by (has listed.0.flags STATIC) (bytes_eq listed.0.descriptor stream_text) flags one) in
      let read : field_kind listed.0.descriptor ≡ Some field.kind = field_kind-read listed.0.descriptor said.type field.kind said.text said.kind in
      same_Some field.kind (class_type PRINT_STREAM) (sym read ∙ ap field_kind text ∙ stream_read)

-- ---- What a static field holds.

pub static_held : (around : Surroundings) (sound : AreSoundCodes around.classes) (quota : ℕ) (inside : Inside) → IsSealedInside around quota inside
    → (m : MemberId) (field : FieldRecord) (v : Value) → FieldIs around.classes m field → has field.flags STATIC ≡ true
    → IsStaticValue around.classes inside.own m v → IsOfType around inside.heap field.kind v
static_held around sound quota inside sealed m field v is static (inl ((r, of, none), out)) =
    let kind = stream_kind around.classes sound m field r of none is static in
    let stream : IsOfType around inside.heap (class_type PRINT_STREAM) (Held.Obj inside.own.out) = (
      (Plain PRINT_STREAM sealed.out.0, sealed.out.1, instance_fits around.classes sound (class_type PRINT_STREAM) (class_type PRINT_STREAM) (inl refl)),
      (Plain PRINT_STREAM sealed.out.0, sealed.out.1),
    ) in
    subst (λ (t : TypeRef). IsOfType around inside.heap t v) (sym kind)
    (subst (λ (y : Value). IsOfType around inside.heap (class_type PRINT_STREAM) y) (sym out) stream)
static_held around sound quota inside sealed m field v is static (inr (other, has_value)) = sealed.statics m v field has_value is

-- ---- The rows.

module _ (around : Surroundings) (x : Setting) (w new : Working) (outcome : Outcome) (runs : RunsWell around x w)
    (code : RunsCode around.classes w.frame) where
  pub field_here : (m : MemberId) (field : FieldRecord) → FieldIs code.scope.classes m field → FieldIs around.classes m field
  field_here m field is = subst (λ (classes : List ClassRecord). FieldIs classes m field) code.is_scope.all is

  -- the instruction names one field
  pub one_named : (m n : MemberId) (field other : FieldRecord) → NamesField code.scope code.instr m field → NamesField code.scope code.instr n other
      → field ≡ other
  one_named m n field other (c, leads, is) (d, also, too) =
      let link : To.Field c m ≡ To.Field d n = one_link code.scope code.instr (To.Field c m) (To.Field d n) leads also in
      let same : m ≡ n = cc in
      one_field code.scope.classes n field other (subst (λ (k : MemberId). FieldIs code.scope.classes k field) same is) too

  names_well : NamesWell code.scope code.instr
  names_well =
      runs.setting.codes.names code.method code.scope code.instr code.is_scope
      (Contains-at code.scope.code.instrs w.frame.head.at code.instr code.stands)

  pub static_keeps : GetsStatic x code.scope code.instr w new outcome → Keeps around x w runs code new outcome
  static_keeps h =
      let is = shape_at around x w runs code 0xb2 h.op in
      let same : is.2 ≡ h.field = one_named is.1 h.member is.2 h.field (is.0, is.3.0, is.3.1) h.names in
      let static = names_well.static_field h.member h.field (subst (λ (k : ℕ). IsTrue (uses_static_field k)) (sym h.op) refl) h.names in
      let held = static_held around runs.setting.codes x.quota w.inside runs.inside h.member h.field h.value
      (field_here h.member h.field h.names.2) static
      (subst (λ (classes : List ClassRecord). IsStaticValue classes w.inside.own h.member h.value) runs.setting.classes h.value_is) in
      let here = subst (λ (f : FieldRecord). HoldsDeclared around.classes w.inside.heap h.value f.kind) (sym same) held.0 in
      took_only around x w runs code [] (value_of code.scope.classes is.2.kind ∷ []) is.4 [] (h.value ∷ []) new outcome h.does
      (in_line code.instr 0xb2 h.op refl) refl (held.1, tt) (declared_fits around x w runs code w.inside.heap h.value is.2.kind here, tt)

  abbrev Got : MemberId → Value → List ClassRecord → Type 0
  Got m v classes =
      (f : HasField classes w.inside.heap v m) → GoesOnWith w (v ∷ []) (f.value ∷ []) w.inside new outcome → Keeps around x w runs code new outcome

  got : StandInOneOrder → (h : GetsField x code.scope code.instr w new outcome) → Got h.member h.receiver around.classes
  got order h f goes =
      let is = shape_at around x w runs code 0xb4 h.op in
      let same : is.2 ≡ h.field = one_named is.1 h.member is.2 h.field (is.0, is.3.0, is.3.1) h.names in
      let held = field_held order around x.quota w.inside runs.inside h.member h.field (field_here h.member h.field h.names.2) h.receiver f in
      let here = subst (λ (y : FieldRecord). HoldsDeclared around.classes w.inside.heap f.value y.kind) (sym same) held.0 in
      took_only around x w runs code (Receiver is.0 (Field is.1) ∷ []) (value_of code.scope.classes is.2.kind ∷ []) is.4 (h.receiver ∷ [])
      (f.value ∷ []) new outcome goes (in_line code.instr 0xb4 h.op refl) refl (held.1, tt)
      (declared_fits around x w runs code w.inside.heap f.value is.2.kind here, tt)

  pub get_keeps : StandInOneOrder → GetsField x code.scope code.instr w new outcome → Keeps around x w runs code new outcome
  get_keeps order h = elim h.does [
    | inl (null, raises) ↦ fresh_raised around x w runs code 26 9 new outcome (omega arith) refl raises
    | inr (f, goes) ↦ subst (Got h.member h.receiver) (sym runs.setting.classes) (got order h) f goes
  ]
