-- A frame runs one code, and needs one class at most; a class has one initialiser.
use Rattle.std.proofs.Common.{◌≡◌, ℕ, ◌+◌, ◌/◌, inl, inr, List, [], ◌∷◌, length, map, slice_get, sum_by, refl, sym, ap, subst, ◌∙◌}
use Rattle.std.proofs.lemmas.Bool.{cases_order}
use Rattle.std.proofs.lemmas.List.Sums.{sum_by-cons}
use Rattle.std.proofs.lemmas.Option.{none-some, same_Some}
use Rattle.list_lemmas.proofs.EndsOfLists.{head_is, one_split}
use Rattle.class_lemmas.proofs.CodeOfMethods.{same_code}
use Rattle.jk_model.specs.declared.frames.FrameHead.{FrameHead}
use Rattle.jk_model.specs.declared.identifiers.ClassId.{ClassId}
use Rattle.jk_model.specs.declared.identifiers.MemberId.{MemberId}
use Rattle.jk_model.specs.declared.instructions.Instr.{Instr}
use Rattle.jk_model_classes.specs.declared.records.BaseRef.TheVariants as Base
use Rattle.jk_model_classes.specs.declared.records.ClassRecord.{ClassRecord}
use Rattle.jk_model_classes.specs.declared.records.Link.TheVariants as To
use Rattle.jk_model_classes.specs.declared.records.LinkedCode.{LinkedCode}
use Rattle.jk_model_classes.specs.declared.records.MethodRecord.{MethodRecord}
use Rattle.jk_model_classes.specs.declared.records.TypeRef.{TypeRef}
use Rattle.jk_model_classes.specs.Layouts.{HEADER_WORDS}
use Rattle.jk_model_classes.specs.Lookups.{IsFirstOf}
use Rattle.class_lemmas.proofs.LinksToMembers.{one_linked}
use Rattle.jk_model_typing.specs.FrameTypes.{array_type}
use Rattle.jk_model_typing.specs.Scopes.{CodeScope, IsScopeOf}
use Rattle.jk_model_frames.specs.Frames.{FrameState, head_chunks}
use Rattle.jk_model_domains.specs.Objects.{NamedObject, object_words}
use Rattle.jk_model_domains.specs.OwnStates.{Literal}
use Rattle.jk_model_heaps.specs.Heaps.{heap_words}
use Rattle.jk_model_heaps.specs.RunningCode.{InstrNeeds, IsClinit, IsClinitOf, RunsCode}
use Rattle.jk_model_heaps.specs.Workings.{Run}
use Rattle.typing_lemmas.proofs.OneScope.{one-scope, one_link}
use Rattle.jk_model_heap_rows.specs.Constants.{text_object}
use Rattle.jk_model_running.specs.Initialising.{FrameNeeds, IsInitialiserHead}
use Rattle.jk_model_running.specs.LocalSteps.{TopFrame}

-- ---- The frame that runs, and its code.

pub one_top : (run : Run) (p q : TopFrame run) → p.frame ≡ q.frame
one_top run p q =
    head_is p.frame q.frame [] []
    (one_split p.callers q.callers (p.frame ∷ []) (q.frame ∷ []) (sym p.are_frames ∙ q.are_frames) refl).1

pub record IsOneCode {classes : List ClassRecord} {f : FrameState} (p q : RunsCode classes f) : Type 0 where
  pub scope : p.scope ≡ q.scope
  pub instr : p.instr ≡ q.instr

pub one_running : (classes : List ClassRecord) (f : FrameState) (p q : RunsCode classes f) → IsOneCode p q
one_running classes f p q =
    let method : p.method ≡ q.method = same_Some p.method q.method (sym p.is_method ∙ q.is_method) in
    let scope : p.scope ≡ q.scope =
    one-scope classes q.method p.scope q.scope (subst (λ (m : MemberId). IsScopeOf classes m p.scope) method p.is_scope) q.is_scope in
    record {
      scope = scope;
      instr = same_Some p.instr q.instr
          (sym p.stands ∙ ap (λ (s : CodeScope). slice_get s.code.instrs f.head.at) scope ∙ q.stands);
    }

-- ---- The class that is needed.

same_field : (c d : ClassId) (m n : MemberId) → To.Field c m ≡ To.Field d n → m ≡ n
same_field c d m n e = cc

same_type : (t u : TypeRef) → To.Class t ≡ To.Class u → t ≡ u
same_type t u e = cc

same_class : (c d : ClassId) → array_type 0 (Base.Class c) ≡ array_type 0 (Base.Class d) → c ≡ d
same_class c d e = let base : Base.Class c ≡ Base.Class d = ap (λ (t : TypeRef). t.base) e in cc

field_or_method : (c d : ClassId) (m n : MemberId) → To.Field c m ≡ To.Method d n → ⊥
field_or_method c d m n e = cc

field_or_class : (c : ClassId) (m : MemberId) (t : TypeRef) → To.Field c m ≡ To.Class t → ⊥
field_or_class c m t e = cc

method_or_class : (c : ClassId) (m : MemberId) (t : TypeRef) → To.Method c m ≡ To.Class t → ⊥
method_or_class c m t e = cc

pub one_instr_need : (s : CodeScope) (i : Instr) (a b : ClassId) → InstrNeeds s i a → InstrNeeds s i b → a ≡ b
one_instr_need s i a b (inl (op, (c, m, leads, is))) (inl (too, (d, n, also, same))) =
    is ∙ ap (λ (k : MemberId). k.class) (same_field c d m n (one_link s i (To.Field c m) (To.Field d n) leads also)) ∙ sym same
one_instr_need s i a b (inl (op, (c, m, leads, is))) (inr (inl (too, (d, n, also, same)))) =
    absurd (field_or_method c d m n (one_link s i (To.Field c m) (To.Method d n) leads also))
one_instr_need s i a b (inl (op, (c, m, leads, is))) (inr (inr (too, names))) =
    absurd (field_or_class c m (array_type 0 (Base.Class b)) (one_link s i (To.Field c m) (To.Class (array_type 0 (Base.Class b))) leads names))
one_instr_need s i a b (inr (inl (op, (c, m, leads, is)))) (inl (too, (d, n, also, same))) =
    absurd (field_or_method d c n m (one_link s i (To.Field d n) (To.Method c m) also leads))
one_instr_need s i a b (inr (inl (op, (c, m, leads, is)))) (inr (inl (too, (d, n, also, same)))) =
    is ∙ ap (λ (k : MemberId). k.class) (one_linked c d m n (one_link s i (To.Method c m) (To.Method d n) leads also)) ∙ sym same
one_instr_need s i a b (inr (inl (op, (c, m, leads, is)))) (inr (inr (too, names))) =
    absurd (method_or_class c m (array_type 0 (Base.Class b)) (one_link s i (To.Method c m) (To.Class (array_type 0 (Base.Class b))) leads names))
one_instr_need s i a b (inr (inr (op, names))) (inl (too, (d, n, also, same))) =
    absurd (field_or_class d n (array_type 0 (Base.Class a)) (one_link s i (To.Field d n) (To.Class (array_type 0 (Base.Class a))) also names))
one_instr_need s i a b (inr (inr (op, names))) (inr (inl (too, (d, n, also, same)))) =
    absurd (method_or_class d n (array_type 0 (Base.Class a)) (one_link s i (To.Method d n) (To.Class (array_type 0 (Base.Class a))) also names))
one_instr_need s i a b (inr (inr (op, names))) (inr (inr (too, also))) =
    same_class a b
    (same_type (array_type 0 (Base.Class a)) (array_type 0 (Base.Class b))
    (one_link s i (To.Class (array_type 0 (Base.Class a))) (To.Class (array_type 0 (Base.Class b))) names also))

pub needs_moved : (classes : List ClassRecord) (f : FrameState) (p q : RunsCode classes f) (c : ClassId) → InstrNeeds p.scope p.instr c
    → InstrNeeds q.scope q.instr c
needs_moved classes f p q c needs =
    let one : IsOneCode p q = one_running classes f p q in
    subst (λ (s : CodeScope). InstrNeeds s q.instr c) one.scope (subst (λ (i : Instr). InstrNeeds p.scope i c) one.instr needs)

pub one_need : (classes : List ClassRecord) (f : FrameState) (c d : ClassId) → FrameNeeds classes f c → FrameNeeds classes f d → c ≡ d
one_need classes f c d (inl need) (inl also) = same_Some c d (sym need ∙ also)
one_need classes f c d (inl need) (inr (none, by_instr)) = absurd (none-some c (sym none ∙ need))
one_need classes f c d (inr (none, by_instr)) (inl need) = absurd (none-some d (sym none ∙ need))
one_need classes f c d (inr (none, (p, needs))) (inr (none_too, (q, also))) =
    one_instr_need q.scope q.instr c d (needs_moved classes f p q c needs) also

-- ---- The initialiser of a class.

first_of_two : (Suits : MemberId → Type 0) (m n : MemberId) → m.class ≡ n.class → IsFirstOf Suits m → IsFirstOf Suits n → m ≡ n
first_of_two Suits m n class f g = elim (cases_order m.index n.index) [
  | inl same ↦ λ j. record { class = class j; index = same j }
  | inr (inl before) ↦
      absurd (g.first m.index before (subst (λ (c : ClassId). Suits (record { class = c; index = m.index })) class f.suits))
  | inr (inr after) ↦
      absurd (f.first n.index after (subst (λ (c : ClassId). Suits (record { class = c; index = n.index })) (sym class) g.suits))
]

one_clinit : (classes : List ClassRecord) (c : ClassId) (m n : MemberId) (a b : LinkedCode) → IsClinitOf classes c m a → IsClinitOf classes c n b
    → a ≡ b
one_clinit classes c m n a b (of, first, (method, (r, at, there), body)) (of_too, also, (other, (s, too, is), body_too)) =
    let member : m ≡ n = first_of_two (IsClinit classes) m n (of ∙ sym of_too) first also in
    let record_is : r ≡ s = same_Some r s (sym at ∙ ap (λ (k : MemberId). slice_get classes k.class.0) member ∙ too) in
    let method_is : method ≡ other = same_Some method other (sym there ∙ (λ j. slice_get (record_is j).methods (member j).index) ∙ is) in
    same_code a b (sym body ∙ ap (λ (k : MethodRecord). k.body) method_is ∙ body_too)

chunks_of : (h k : FrameHead) → h.max_locals ≡ k.max_locals → h.max_stack ≡ k.max_stack → head_chunks h ≡ head_chunks k
chunks_of h k locals stack = λ j. (4 + locals j + stack j + 19) / 20

pub one_size : (classes : List ClassRecord) (c : ClassId) (h k : FrameHead) → IsInitialiserHead classes c h → IsInitialiserHead classes c k
    → head_chunks h ≡ head_chunks k
one_size classes c h k p q = elim p.code [
  | inl (m, a, clinit, runs, locals, stack) ↦ elim q.code [
    | inl (n, b, also, runs_too, locals_too, stack_too) ↦
        let code : a ≡ b = one_clinit classes c m n a b clinit also in
        chunks_of h k (locals ∙ ap (λ (x : LinkedCode). x.max_locals) code ∙ sym locals_too)
        (stack ∙ ap (λ (x : LinkedCode). x.max_stack) code ∙ sym stack_too)
    | inr (none, runs_too, locals_too, stack_too) ↦ absurd (none m a clinit)
  ]
  | inr (none, runs, locals, stack) ↦ elim q.code [
    | inl (n, b, also, runs_too, locals_too, stack_too) ↦ absurd (none n b also)
    | inr (none_too, runs_too, locals_too, stack_too) ↦ chunks_of h k (locals ∙ sym locals_too) (stack ∙ sym stack_too)
  ]
]

-- ---- What constant texts cost.

pub texts_cost : (classes : List ClassRecord) (more : List Literal)
    → heap_words classes (map text_object more) ≡ sum_by (λ (text : List ℕ). HEADER_WORDS + length text) (map (λ (l : Literal). l.text) more)
texts_cost classes [] = refl
texts_cost classes (l ∷ more) =
    sum_by-cons (λ (e : NamedObject). object_words classes e.object) (text_object l) (map text_object more)
    ∙ ap (λ (n : ℕ). (HEADER_WORDS + length l.text) + n) (texts_cost classes more)
    ∙ sym (sum_by-cons (λ (text : List ℕ). HEADER_WORDS + length text) l.text (map (λ (k : Literal). k.text) more))
