-- An instruction finds what the entry that it names leads to.
use Rattle.std.proofs.Common.{◌≡◌, ◌≢◌, ℕ, ◌⊎◌, inl, inr, Bool, ◌↔◌, IsTrue, List, arith, Some, refl, sym, ◌∙◌, ap, subst, pos}
use Rattle.std.specs.Prelude.{slice_get}
use Rattle.std.proofs.lemmas.Option.{same_Some, slice_get_within}
use Rattle.list_lemmas.proofs.ItemsByPlace.{item_there}
use Rattle.jk_model.specs.declared.class_file.ClassFile.{ClassFile}
use Rattle.jk_model.specs.declared.class_file.PoolEntry.{PoolEntry}
use Rattle.jk_model.specs.declared.class_file.PoolEntry.TheVariants as Entry
use Rattle.jk_model.specs.declared.identifiers.ClassId.{ClassId}
use Rattle.jk_model.specs.declared.identifiers.MemberId.{MemberId}
use Rattle.jk_model.specs.declared.instructions.Instr.{Instr}
use Rattle.jk_model_classes.specs.declared.records.ClassRecord.{ClassRecord}
use Rattle.jk_model_classes.specs.declared.records.FieldRecord.{FieldRecord}
use Rattle.jk_model_classes.specs.declared.records.Link.{Link}
use Rattle.jk_model_classes.specs.declared.records.Link.TheVariants as To
use Rattle.jk_model_classes.specs.declared.records.MethodRecord.{MethodRecord}
use Rattle.jk_model_classes.specs.LinkRules.{FindsFieldAt, FindsMethodAt, FindsWrongField, FindsWrongMethod, LinkScope}
use Rattle.jk_model_classes.specs.Lookups.{FieldIs, MethodIs}
use Rattle.jk_model_classes.specs.Members.{Field, InterfaceMethod, MemberKind, Method, reference}
use Rattle.jk_model_folders.specs.LinkedClasses.{AreLinksFor, IsFieldLink, IsLinkFor, IsMethodLink}
use Rattle.link_rules.specs.WrongMembers.{LeadsWrong}
use Rattle.one_verdict.proofs.OneMember.{one_field_found, one_method_found}

module _ (s : LinkScope) (c : ClassFile) (i : ℕ) where
  -- ---- What a link says is found.

  field_link_found : (cls : ClassId) (m : MemberId) → IsFieldLink s c i (To.Field cls m) → FindsFieldAt s c i m
  field_link_found cls m (inl (n, f, e)) = let same : m ≡ n = cc in subst (λ (w : MemberId). FindsFieldAt s c i w) (sym same) f
  field_link_found cls m (inr (never, e)) = absurd cc

  field_link_no_method : (cls : ClassId) (m : MemberId) → IsFieldLink s c i (To.Method cls m) → FindsMethodAt s c i m
  field_link_no_method cls m (inl (n, f, e)) = absurd cc
  field_link_no_method cls m (inr (never, e)) = absurd cc

  method_link_found : (cls : ClassId) (m : MemberId) → IsMethodLink s c i (To.Method cls m) → FindsMethodAt s c i m
  method_link_found cls m (inl (n, f, e)) = let same : m ≡ n = cc in subst (λ (w : MemberId). FindsMethodAt s c i w) (sym same) f
  method_link_found cls m (inr (never, e)) = absurd cc

  method_link_no_field : (cls : ClassId) (m : MemberId) → IsMethodLink s c i (To.Field cls m) → FindsFieldAt s c i m
  method_link_no_field cls m (inl (n, f, e)) = absurd cc
  method_link_no_field cls m (inr (never, e)) = absurd cc

  pub field_found : (entry : PoolEntry) (cls : ClassId) (m : MemberId) → IsLinkFor s c i entry (To.Field cls m) → FindsFieldAt s c i m
  field_found (Entry.FieldRef class pair) cls m h = field_link_found cls m h
  field_found (Entry.MethodRef class pair) cls m h = method_link_no_field cls m h
  field_found (Entry.InterfaceMethodRef class pair) cls m h = method_link_no_field cls m h
  field_found (Entry.Class name) cls m (units, t, text, is, e) = absurd cc
  field_found (Entry.Str text) cls m (units, there, e) = absurd cc
  field_found _ cls m e = absurd cc

  method_found : (entry : PoolEntry) (cls : ClassId) (m : MemberId) → IsLinkFor s c i entry (To.Method cls m) → FindsMethodAt s c i m
  method_found (Entry.FieldRef class pair) cls m h = field_link_no_method cls m h
  method_found (Entry.MethodRef class pair) cls m h = method_link_found cls m h
  method_found (Entry.InterfaceMethodRef class pair) cls m h = method_link_found cls m h
  method_found (Entry.Class name) cls m (units, t, text, is, e) = absurd cc
  method_found (Entry.Str text) cls m (units, there, e) = absurd cc
  method_found _ cls m e = absurd cc

  -- ---- What is found is linked.

  by_field : (link : Link) (m : MemberId) → FindsFieldAt s c i m → IsFieldLink s c i link → (cls : ClassId) × (link ≡ To.Field cls m)
  by_field link m f (inl (n, g, e)) =
      let same : n ≡ m = (one_field_found s c i n m g f).0 in
      (g.class, e ∙ ap (λ (w : MemberId). To.Field g.class w) same)
  by_field link m f (inr (never, e)) = absurd (never m f)

  pub field_linked : (entry : PoolEntry) (link : Link) (m : MemberId) → slice_get c.pool i ≡ Some entry → IsLinkFor s c i entry link → FindsFieldAt s c i m
      → (cls : ClassId) × (link ≡ To.Field cls m)
  field_linked entry link m at h f =
      let (a, b, there, target, rest) = f.is_there in
      let same : entry ≡ Entry.FieldRef a b = same_Some entry (Entry.FieldRef a b) (sym at ∙ there) in
      by_field link m f (subst (λ (w : PoolEntry). IsLinkFor s c i w link) same h)

  as_method : (k : MemberKind) (a b : ℕ) (link : Link) → k ≢ Field → IsLinkFor s c i (reference k a b) link → IsMethodLink s c i link
  as_method Field a b link other h = absurd (other refl)
  as_method Method a b link other h = h
  as_method InterfaceMethod a b link other h = h

  by_method : (link : Link) (m : MemberId) → FindsMethodAt s c i m → IsMethodLink s c i link → (cls : ClassId) × (link ≡ To.Method cls m)
  by_method link m f (inl (n, g, e)) =
      let same : n ≡ m = (one_method_found s c i n m g f).0 in
      (g.class, e ∙ ap (λ (w : MemberId). To.Method g.class w) same)
  by_method link m f (inr (never, e)) = absurd (never m f)

  method_linked : (entry : PoolEntry) (link : Link) (m : MemberId) → slice_get c.pool i ≡ Some entry → IsLinkFor s c i entry link → FindsMethodAt s c i m
      → (cls : ClassId) × (link ≡ To.Method cls m)
  method_linked entry link m at h f =
      let (a, b, there, target, rest) = f.is_there in
      let same : entry ≡ reference f.kind a b = same_Some entry (reference f.kind a b) (sym at ∙ there) in
      by_method link m f (as_method f.kind a b link f.of_method (subst (λ (w : PoolEntry). IsLinkFor s c i w link) same h))

  -- ---- An instruction that names this entry.

  module _ (entry : PoolEntry) (at : slice_get c.pool i ≡ Some entry) (instr : Instr) (names : instr.a ≡ pos i) where
    abbrev FindsWrong : Type 0
    FindsWrong = FindsWrongField s c instr ⊎ FindsWrongMethod s c instr

    leads_wrong : (link : Link) → IsLinkFor s c i entry link → LeadsWrong s.classes instr.op link → FindsWrong
    leads_wrong (To.Field cls m) h (field, is, wrong) = inl (m, field, (i, names, field_found entry cls m h, is), wrong)
    leads_wrong (To.Method cls m) h (method, is, wrong) = inr (m, method, (i, names, method_found entry cls m h, is), wrong)
    leads_wrong _ h wrong = absurd wrong

    one_index : (j : ℕ) → instr.a ≡ pos j → j ≡ i
    one_index j other = let both : pos j ≡ pos i = sym other ∙ names in cc

    finds_wrong : (link : Link) → IsLinkFor s c i entry link → FindsWrong → LeadsWrong s.classes instr.op link
    finds_wrong link h (inl (m, field, (j, other, f, is), wrong)) =
        let here : FindsFieldAt s c i m = subst (λ (w : ℕ). FindsFieldAt s c w m) (one_index j other) f in
        let (cls, e) = field_linked entry link m at h here in
        subst (LeadsWrong s.classes instr.op) (sym e) (field, is, wrong)
    finds_wrong link h (inr (m, method, (j, other, f, is), wrong)) =
        let here : FindsMethodAt s c i m = subst (λ (w : ℕ). FindsMethodAt s c w m) (one_index j other) f in
        let (cls, e) = method_linked entry link m at h here in
        subst (LeadsWrong s.classes instr.op) (sym e) (method, is, wrong)

    pub link_wrong : (link : Link) → IsLinkFor s c i entry link
        → LeadsWrong s.classes instr.op link ↔ (FindsWrongField s c instr ⊎ FindsWrongMethod s c instr)
    link_wrong link h = (leads_wrong link h, finds_wrong link h)

pub wrong_by_link : (classes : List ClassRecord) (links : List Link) (instr : Instr) (i : ℕ) (link : Link) (wrong : Bool) → instr.a ≡ pos i
    → slice_get links i ≡ Some link → (IsTrue wrong ↔ LeadsWrong classes instr.op link) → (s : LinkScope) (c : ClassFile) → s.classes ≡ classes
    → AreLinksFor s c links → IsTrue wrong ↔ (FindsWrongField s c instr ⊎ FindsWrongMethod s c instr)
wrong_by_link classes links instr i link wrong names there says s c same h =
    let entry = item_there c.pool i (omega (arith, slice_get_within links i link there, h.as_many)) in
    let by = link_wrong s c i entry.0 entry.1 instr names link (h.each i entry.0 link entry.1 there) in
    let own : IsTrue wrong ↔ LeadsWrong s.classes instr.op link =
    subst (λ (w : List ClassRecord). IsTrue wrong ↔ LeadsWrong w instr.op link) (sym same) says in
    (λ t. by.0 (own.0 t), λ f. own.1 (by.1 f))

pub no_link : (links : List Link) (instr : Instr) → ((i : ℕ) (link : Link) → instr.a ≡ pos i → slice_get links i ≡ Some link → ⊥)
    → (s : LinkScope) (c : ClassFile) → AreLinksFor s c links → (FindsWrongField s c instr ⊎ FindsWrongMethod s c instr) → ⊥
no_link links instr none s c h (inl (m, field, (i, names, f, is), wrong)) =
    let (a, b, at, target, rest) = f.is_there in
    let link = item_there links i (omega (arith, slice_get_within c.pool i (reference Field a b) at, h.as_many)) in
    none i link.0 names link.1
no_link links instr none s c h (inr (m, method, (i, names, f, is), wrong)) =
    let (a, b, at, target, rest) = f.is_there in
    let link = item_there links i (omega (arith, slice_get_within c.pool i (reference f.kind a b) at, h.as_many)) in
    none i link.0 names link.1

-- ---- A link to a member that isn't there.

at_field : (classes : List ClassRecord) (op : ℕ) (cls : ClassId) (m : MemberId) → ((field : FieldRecord) → FieldIs classes m field → ⊥)
    → LeadsWrong classes op (To.Field cls m) → ⊥
at_field classes op cls m none (field, is, wrong) = none field is

at_method : (classes : List ClassRecord) (op : ℕ) (cls : ClassId) (m : MemberId) → ((method : MethodRecord) → MethodIs classes m method → ⊥)
    → LeadsWrong classes op (To.Method cls m) → ⊥
at_method classes op cls m none (method, is, wrong) = none method is

pub no_field_wrong : (classes : List ClassRecord) (op : ℕ) (link : Link) (cls : ClassId) (m : MemberId) → link ≡ To.Field cls m
    → ((field : FieldRecord) → FieldIs classes m field → ⊥) → LeadsWrong classes op link → ⊥
no_field_wrong classes op link cls m e none h = at_field classes op cls m none (subst (LeadsWrong classes op) e h)

pub no_method_wrong : (classes : List ClassRecord) (op : ℕ) (link : Link) (cls : ClassId) (m : MemberId) → link ≡ To.Method cls m
    → ((method : MethodRecord) → MethodIs classes m method → ⊥) → LeadsWrong classes op link → ⊥
no_method_wrong classes op link cls m e none h = at_method classes op cls m none (subst (LeadsWrong classes op) e h)
