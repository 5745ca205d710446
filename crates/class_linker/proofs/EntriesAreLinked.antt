-- What the entries lead to is what the links of a class file are.
use Rattle.std.proofs.Common.{◌≡◌, ◌≢◌, ℕ, ◌≤◌, inl, inr, List, length, take, Option, Some, refl, sym, ◌∙◌, ap, subst}
use Rattle.std.specs.Prelude.{slice_get}
use Rattle.std.specs.List.{AllZip}
use Rattle.std.proofs.Math.Path.{fun_ext}
use Rattle.std.proofs.lemmas.Option.{same_Some}
use Rattle.std.proofs.lemmas.Slice.Zip.{AllZip-long}
use Rattle.list_lemmas.proofs.ItemByItem.{zip_at}
use Rattle.jk_model.specs.declared.class_file.ClassFile.{ClassFile}
use Rattle.jk_model.specs.declared.class_file.PoolEntry.{PoolEntry}
use Rattle.jk_model.specs.declared.class_file.PoolEntry.TheVariants as Entry
use Rattle.jk_model.specs.declared.descriptors.MethodType.{MethodType}
use Rattle.jk_model.specs.declared.identifiers.ClassId.{ClassId}
use Rattle.jk_model.specs.declared.identifiers.MemberId.{MemberId}
use Rattle.jk_model_classes.specs.declared.records.ClassRecord.{ClassRecord}
use Rattle.jk_model_classes.specs.declared.records.Link.{Link}
use Rattle.jk_model_classes.specs.declared.records.TypeRef.{TypeRef}
use Rattle.jk_model_classes.specs.LinkRules.{LinkScope, FindsFieldAt, FindsMethodAt}
use Rattle.jk_model_classes.specs.Lookups.{FindsField, FindsMethod}
use Rattle.jk_model_classes.specs.Members.{ClassAt, MemberKind, Field, Method, InterfaceMethod, reference}
use Rattle.jk_model_classes.specs.Worlds.{NamedClass, class_named}
use Rattle.jk_model_folders.specs.LinkedClasses.{AreLinksFor, IsFieldLink, IsLinkFor, IsMethodLink}
use Rattle.class_linker.specs.LinkedFiles.{HasNames}
use Rattle.class_linker.specs.LinkParts.{FieldLinksFrom, LeadsFrom, LinksBy, MethodLinksFrom, scope_of}
use Rattle.class_linker.specs.TextsSaid.{IsPairOf, NamesClassBy, SaysField, SaysMethod}
use Rattle.class_linker.proofs.ItemsInTurn.{zip_all}
use Rattle.class_linker.proofs.TextsAreSaid.{one_class_named}

same_reference : (k l : MemberKind) (a b c d : ℕ) → reference k a b ≡ reference l c d → (a ≡ c) × (b ≡ d)
same_reference Field Field a b c d e = (cc, cc)
same_reference Method Method a b c d e = (cc, cc)
same_reference InterfaceMethod InterfaceMethod a b c d e = (cc, cc)
same_reference _ _ a b c d e = absurd cc

module _ (names : List NamedClass) (classes : List ClassRecord) (self : ClassId) (c : ClassFile) (i class pair : ℕ) where
  -- ---- Fields.

  record FieldParts (m : MemberId) (cls : ClassId) : Type 0 where
    named : NamesClassBy names c.pool class cls
    name : List ℕ
    kind : TypeRef
    looks : IsPairOf (SaysField names c.pool) c.pool pair name kind
    finds : FindsField classes cls name kind (Some m)

  field_parts : slice_get c.pool i ≡ Some (Entry.FieldRef class pair) → (m : MemberId) (f : FindsFieldAt (scope_of names classes self) c i m)
      → FieldParts m f.class
  field_parts at m f =
      let (a, b, there, target, (n, d, pair_at, name, descriptor)) = f.is_there in
      let both : reference Field a b ≡ reference Field class pair = same_Some (reference Field a b) (reference Field class pair) (sym there ∙ at) in
      let same = same_reference Field Field a b class pair both in
      record {
        named = (f.target, subst (λ (w : ℕ). ClassAt c.pool w f.target) same.0 target, f.class_is);
        name = f.name;
        kind = f.kind;
        looks = (
          n,
          d,
          subst (λ (w : ℕ). slice_get c.pool w ≡ Some (Entry.NameAndType n d)) same.1 pair_at,
          name,
          (f.descriptor, descriptor, (f.type, f.text, f.resolved)),
        );
        finds = f.found;
      }

  found_field : slice_get c.pool i ≡ Some (Entry.FieldRef class pair) → (m : MemberId) (cls : ClassId) → FieldParts m cls
      → (f : FindsFieldAt (scope_of names classes self) c i m) × (f.class ≡ cls)
  found_field at m cls p =
      let (target, class_at, means) = p.named in
      let (n, d, pair_at, name, (descriptor, text_at, (type, text, resolved))) = p.looks in (
        record {
          target = target;
          name = p.name;
          descriptor = descriptor;
          is_there = (class, pair, at, class_at, (n, d, pair_at, name, text_at));
          class = cls;
          class_is = means;
          type = type;
          text = text;
          kind = p.kind;
          resolved = resolved;
          found = p.finds;
        },
        refl,
      )

  pub field_link_is : (link : Link) → slice_get c.pool i ≡ Some (Entry.FieldRef class pair)
      → LinksBy (NamesClassBy names c.pool class) (FieldLinksFrom names c.pool classes pair) link → IsFieldLink (scope_of names classes self) c i link
  field_link_is link at (inl (cls, named, inl (name, kind, m, looks, finds, e))) =
      let made = found_field at m cls (record { named = named; name = name; kind = kind; looks = looks; finds = finds }) in
      inl (m, made.0, rw made.1 e)
  field_link_is link at (inl (cls, named, inr (never, e))) =
      inr (
        λ m f.
            let p = field_parts at m f in
            let same : f.class ≡ cls = one_class_named names c.pool class f.class cls p.named named in
            never p.name p.kind m p.looks (subst (λ (w : ClassId). FindsField classes w p.name p.kind (Some m)) same p.finds),
        e,
      )
  field_link_is link at (inr (none, e)) = inr (λ m f. none f.class (field_parts at m f).named, e)

  -- ---- Methods.

  record MethodParts (m : MemberId) (cls : ClassId) : Type 0 where
    named : NamesClassBy names c.pool class cls
    name : List ℕ
    kind : MethodType
    looks : IsPairOf (SaysMethod c.pool) c.pool pair name kind
    finds : FindsMethod classes cls name kind (Some m)

  method_parts : (k : MemberKind) → slice_get c.pool i ≡ Some (reference k class pair) → (m : MemberId)
      (f : FindsMethodAt (scope_of names classes self) c i m) → MethodParts m f.class
  method_parts k at m f =
      let (a, b, there, target, (n, d, pair_at, name, descriptor)) = f.is_there in
      let both : reference f.kind a b ≡ reference k class pair = same_Some (reference f.kind a b) (reference k class pair) (sym there ∙ at) in
      let same = same_reference f.kind k a b class pair both in
      record {
        named = (f.target, subst (λ (w : ℕ). ClassAt c.pool w f.target) same.0 target, f.class_is);
        name = f.name;
        kind = f.type;
        looks = (n, d, subst (λ (w : ℕ). slice_get c.pool w ≡ Some (Entry.NameAndType n d)) same.1 pair_at, name, (f.descriptor, descriptor, f.text));
        finds = f.found;
      }

  found_method : (k : MemberKind) → k ≢ Field → slice_get c.pool i ≡ Some (reference k class pair) → (m : MemberId) (cls : ClassId) → MethodParts m cls
      → (f : FindsMethodAt (scope_of names classes self) c i m) × (f.class ≡ cls)
  found_method k other at m cls p =
      let (target, class_at, means) = p.named in
      let (n, d, pair_at, name, (descriptor, text_at, text)) = p.looks in (
        record {
          kind = k;
          of_method = other;
          target = target;
          name = p.name;
          descriptor = descriptor;
          is_there = (class, pair, at, class_at, (n, d, pair_at, name, text_at));
          class = cls;
          class_is = means;
          type = p.kind;
          text = text;
          found = p.finds;
        },
        refl,
      )

  pub method_link_is : (k : MemberKind) → k ≢ Field → (link : Link) → slice_get c.pool i ≡ Some (reference k class pair)
      → LinksBy (NamesClassBy names c.pool class) (MethodLinksFrom c.pool classes pair) link → IsMethodLink (scope_of names classes self) c i link
  method_link_is k other link at (inl (cls, named, inl (name, kind, m, looks, finds, e))) =
      let made = found_method k other at m cls (record { named = named; name = name; kind = kind; looks = looks; finds = finds }) in
      inl (m, made.0, rw made.1 e)
  method_link_is k other link at (inl (cls, named, inr (never, e))) =
      inr (
        λ m f.
            let p = method_parts k at m f in
            let same : f.class ≡ cls = one_class_named names c.pool class f.class cls p.named named in
            never p.name p.kind m p.looks (subst (λ (w : ClassId). FindsMethod classes w p.name p.kind (Some m)) same p.finds),
        e,
      )
  method_link_is k other link at (inr (none, e)) = inr (λ m f. none f.class (method_parts k at m f).named, e)

-- ---- All entries.

module _ (names : List NamedClass) (classes : List ClassRecord) (self : ClassId) (c : ClassFile) (i : ℕ) where
  link_is : (entry : PoolEntry) (link : Link) → slice_get c.pool i ≡ Some entry → LeadsFrom names c.pool classes entry link
      → IsLinkFor (scope_of names classes self) c i entry link
  link_is (Entry.Integer n) link at h = h
  link_is (Entry.Long n) link at h = h
  link_is (Entry.Str text) link at h = h
  link_is (Entry.Class name) link at (units, t, there, is, e) = (units, t, there, is self, e)
  link_is (Entry.FieldRef class pair) link at h = field_link_is names classes self c i class pair link at h
  link_is (Entry.MethodRef class pair) link at h = method_link_is names classes self c i class pair Method (λ e. cc) link at h
  link_is (Entry.InterfaceMethodRef class pair) link at h = method_link_is names classes self c i class pair InterfaceMethod (λ e. cc) link at h
  link_is _ link at h = h

same_scope : (names : List NamedClass) (classes : List ClassRecord) (s : LinkScope) → HasNames names s → s.classes ≡ classes
    → scope_of names classes s.self ≡ s
same_scope names classes s named same =
    let meaning : class_named names ≡ s.meaning = fun_ext (λ name. sym (named name)) in
    ap (λ (m : List ℕ → Option ClassId). let x : LinkScope = record { meaning = m; classes = classes; self = s.self } in x) meaning
    ∙ ap (λ (cs : List ClassRecord). let x : LinkScope = record { meaning = s.meaning; classes = cs; self = s.self } in x) (sym same)

pub all_linked : (names : List NamedClass) (classes : List ClassRecord) (c : ClassFile) (pool : List PoolEntry) (links : List Link) (n : ℕ) → pool ≡ c.pool
    → length pool ≤ n → AllZip (LeadsFrom names pool classes) (take n pool) links → (s : LinkScope) → HasNames names s → s.classes ≡ classes
    → AreLinksFor s c links
all_linked names classes c pool links n own end h s named same =
    let every : AllZip (LeadsFrom names pool classes) pool links = zip_all (LeadsFrom names pool classes) pool links n end h in
    let all : AllZip (LeadsFrom names c.pool classes) c.pool links = subst (λ (p : List PoolEntry). AllZip (LeadsFrom names p classes) p links) own every in
    let made : AreLinksFor (scope_of names classes s.self) c links = record {
      as_many = AllZip-long (LeadsFrom names c.pool classes) c.pool links all;
      each = λ i entry link at there.
          link_is names classes s.self c i entry link at (zip_at (LeadsFrom names c.pool classes) c.pool links all i entry link at there);
    } in
    subst (λ (w : LinkScope). AreLinksFor w c links) (same_scope names classes s named same) made
