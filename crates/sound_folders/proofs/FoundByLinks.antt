-- What the entries of a file's pool find is what the links of its record lead to. What is found stands on the way up from the class
-- that the entry names, among the classes with their links too.
use Rattle.std.proofs.Common.{◌≡◌, ℕ, inl, inr, List, [], ◌∷◌, ◌++◌, map, Some, slice_get, Contains, refl, sym, ap, subst, ◌∙◌, arith}
use Rattle.std.proofs.lemmas.Option.{slice_get_within}
use Rattle.list_lemmas.proofs.ItemsOfLists.{Contains-at}
use Rattle.list_lemmas.proofs.ItemsByPlace.{item_there}
use Rattle.jk_model.specs.declared.class_file.ClassFile.{ClassFile}
use Rattle.jk_model.specs.declared.class_file.PoolEntry.{PoolEntry}
use Rattle.jk_model.specs.declared.class_file.PoolEntry.TheVariants as Entry
use Rattle.jk_model.specs.declared.identifiers.ClassId.{ClassId}
use Rattle.jk_model.specs.declared.identifiers.MemberId.{MemberId}
use Rattle.jk_model_classes.specs.declared.records.ClassRecord.{ClassRecord}
use Rattle.jk_model_classes.specs.declared.records.Link.{Link}
use Rattle.jk_model_classes.specs.declared.records.Link.TheVariants as To
use Rattle.jk_model_classes.specs.declared.records.TypeRef.{TypeRef}
use Rattle.jk_model_classes.specs.declared.sharing.Offer.{Offer}
use Rattle.jk_model_classes.specs.declared.sharing.Stub.{Stub}
use Rattle.jk_model_classes.specs.Classes.{AreOrdered, field_walk, method_walk}
use Rattle.jk_model_classes.specs.LinkRules.{FindsFieldAt, FindsMethodAt, LinkScope}
use Rattle.jk_model_classes.specs.Members.{ClassAt}
use Rattle.jk_model_classes.specs.Worlds.{NamedClass, WorldRecord}
use Rattle.jk_model_folders.specs.declared.files.FolderFiles.{FolderFiles}
use Rattle.jk_model_folders.specs.FolderRules.{link_scope}
use Rattle.jk_model_folders.specs.LinkedClasses.{AreLinksFor, IsEntryType, IsFieldLink, IsLinkFor, IsMethodLink, without_links}
use Rattle.jk_model_folders.specs.Loads.{Loads}
use Rattle.class_growth.specs.OtherLinks.{DifferInLinks}
use Rattle.class_growth.proofs.LinksDontMatter.{field_walk-linked, method_walk-linked, ordered-linked}
use Rattle.sound_folders.proofs.NewClasses.{added, all}

-- ---- One link.

-- the entry finds the field, of the class that it names
abbrev pub FoundField : LinkScope → ClassFile → ℕ → ClassId → MemberId → Type 0
FoundField s c i class m = (h : FindsFieldAt s c i m) × (h.class ≡ class)

abbrev pub FoundMethod : LinkScope → ClassFile → ℕ → ClassId → MemberId → Type 0
FoundMethod s c i class m = (h : FindsMethodAt s c i m) × (h.class ≡ class)

-- the entry is of a class, and says this type
abbrev pub FoundType : LinkScope → ClassFile → ℕ → TypeRef → Type 0
FoundType s c i t = (units : List ℕ) × ClassAt c.pool i units × IsEntryType s units t

module _ (s : LinkScope) (c : ClassFile) (i : ℕ) where
  field_from_field : (class : ClassId) (m : MemberId) → IsFieldLink s c i (To.Field class m) → FoundField s c i class m
  field_from_field class m (inl (n, h, e)) =
      let same : n ≡ m = cc in
      let named : h.class ≡ class = cc in
      subst (λ (x : MemberId). FoundField s c i class x) same (h, named)
  field_from_field class m (inr (never, e)) = absurd cc

  field_from_method : (class : ClassId) (m : MemberId) → IsMethodLink s c i (To.Field class m) → FoundField s c i class m
  field_from_method class m (inl (n, h, e)) = absurd cc
  field_from_method class m (inr (never, e)) = absurd cc

  field_from : (entry : PoolEntry) (class : ClassId) (m : MemberId) → IsLinkFor s c i entry (To.Field class m) → FoundField s c i class m
  field_from (Entry.FieldRef a b) class m h = field_from_field class m h
  field_from (Entry.MethodRef a b) class m h = field_from_method class m h
  field_from (Entry.InterfaceMethodRef a b) class m h = field_from_method class m h
  field_from (Entry.Class name) class m (units, t, at, is, e) = absurd cc
  field_from (Entry.Str text) class m (units, at, e) = absurd cc
  field_from entry class m e = absurd cc

  method_from_field : (class : ClassId) (m : MemberId) → IsFieldLink s c i (To.Method class m) → FoundMethod s c i class m
  method_from_field class m (inl (n, h, e)) = absurd cc
  method_from_field class m (inr (never, e)) = absurd cc

  method_from_method : (class : ClassId) (m : MemberId) → IsMethodLink s c i (To.Method class m) → FoundMethod s c i class m
  method_from_method class m (inl (n, h, e)) =
      let same : n ≡ m = cc in
      let named : h.class ≡ class = cc in
      subst (λ (x : MemberId). FoundMethod s c i class x) same (h, named)
  method_from_method class m (inr (never, e)) = absurd cc

  method_from : (entry : PoolEntry) (class : ClassId) (m : MemberId) → IsLinkFor s c i entry (To.Method class m) → FoundMethod s c i class m
  method_from (Entry.FieldRef a b) class m h = method_from_field class m h
  method_from (Entry.MethodRef a b) class m h = method_from_method class m h
  method_from (Entry.InterfaceMethodRef a b) class m h = method_from_method class m h
  method_from (Entry.Class name) class m (units, t, at, is, e) = absurd cc
  method_from (Entry.Str text) class m (units, at, e) = absurd cc
  method_from entry class m e = absurd cc

  type_from_field : (t : TypeRef) → IsFieldLink s c i (To.Class t) → ⊥
  type_from_field t (inl (n, h, e)) = cc
  type_from_field t (inr (never, e)) = cc

  type_from_method : (t : TypeRef) → IsMethodLink s c i (To.Class t) → ⊥
  type_from_method t (inl (n, h, e)) = cc
  type_from_method t (inr (never, e)) = cc

  type_from : (entry : PoolEntry) (t : TypeRef) → slice_get c.pool i ≡ Some entry → IsLinkFor s c i entry (To.Class t) → FoundType s c i t
  type_from (Entry.FieldRef a b) t there h = absurd (type_from_field t h)
  type_from (Entry.MethodRef a b) t there h = absurd (type_from_method t h)
  type_from (Entry.InterfaceMethodRef a b) t there h = absurd (type_from_method t h)
  type_from (Entry.Class name) t there (units, u, at, is, e) =
      let same : u ≡ t = cc in
      (units, (name, there, at), subst (IsEntryType s units) same is)
  type_from (Entry.Str text) t there (units, at, e) = absurd cc
  type_from entry t there e = absurd cc

-- ---- The links of a file.

module _ (s : LinkScope) (c : ClassFile) (links : List Link) (are : AreLinksFor s c links) (i : ℕ) where
  entry-at : (link : Link) → slice_get links i ≡ Some link → (entry : PoolEntry) × (slice_get c.pool i ≡ Some entry)
  entry-at link at = item_there c.pool i (omega (arith, slice_get_within links i link at, are.as_many))

  pub field-found : (class : ClassId) (m : MemberId) → slice_get links i ≡ Some (To.Field class m) → FoundField s c i class m
  field-found class m at =
      let entry = entry-at (To.Field class m) at in
      field_from s c i entry.0 class m (are.each i entry.0 (To.Field class m) entry.1 at)

  pub method-found : (class : ClassId) (m : MemberId) → slice_get links i ≡ Some (To.Method class m) → FoundMethod s c i class m
  method-found class m at =
      let entry = entry-at (To.Method class m) at in
      method_from s c i entry.0 class m (are.each i entry.0 (To.Method class m) entry.1 at)

  pub type-found : (t : TypeRef) → slice_get links i ≡ Some (To.Class t) → FoundType s c i t
  type-found t at =
      let entry = entry-at (To.Class t) at in
      type_from s c i entry.0 t entry.1 (are.each i entry.0 (To.Class t) entry.1 at)

-- ---- Members are found where the folder's classes have no links, and stand in the same place where they have.

no_links_twice : (classes : List ClassRecord) → map without_links (map without_links classes) ≡ map without_links classes
no_links_twice [] = refl
no_links_twice (r ∷ classes) = ap (λ (rest : List ClassRecord). without_links r ∷ rest) (no_links_twice classes)

differ_by_links : (front back : List ClassRecord) → map without_links (front ++ map without_links back) ≡ map without_links (front ++ back)
differ_by_links [] back = no_links_twice back
differ_by_links (r ∷ front) back = ap (λ (rest : List ClassRecord). without_links r ∷ rest) (differ_by_links front back)

module _ {f : FolderFiles} {w : WorldRecord} {into : List ℕ} {first : ClassId} {table : List NamedClass} {offers : List Offer} {stubs : List Stub}
    {new : WorldRecord} (l : Loads f w into first table offers stubs new) where
  pub only_links : DifferInLinks l.placed.unlinked (all l)
  only_links = ap (map without_links) l.is_placed.unlinked ∙ differ_by_links w.classes (added l)

  module _ (ordered : AreOrdered (all l)) where
    pub unlinked_ordered : AreOrdered l.placed.unlinked
    unlinked_ordered = ordered-linked (all l) l.placed.unlinked (sym only_links) ordered

    module _ (self : ClassId) (c : ClassFile) (i : ℕ) (m : MemberId) where
      pub field_above : (h : FindsFieldAt (link_scope l.placed self) c i m) → Contains (field_walk (all l) h.class) m.class
      field_above h =
          subst (λ (walk : List ClassId). Contains walk m.class) (sym (field_walk-linked l.placed.unlinked (all l) only_links unlinked_ordered h.class))
          (Contains-at (field_walk l.placed.unlinked h.class) h.found.place m.class h.found.visited)

      pub method_above : (h : FindsMethodAt (link_scope l.placed self) c i m) → Contains (method_walk (all l) h.class) m.class
      method_above h =
          subst (λ (walk : List ClassId). Contains walk m.class) (sym (method_walk-linked l.placed.unlinked (all l) only_links unlinked_ordered h.class))
          (Contains-at (method_walk l.placed.unlinked h.class) h.found.place m.class h.found.visited)
