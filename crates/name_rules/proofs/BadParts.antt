-- What a class may not extend or list, by what the names mean.
use Rattle.std.proofs.Common.{◌≡◌, ◌≢◌, ℕ, ◌+◌, ◌<◌, ◌≤◌, ◌↔◌, inl, inr, Bool, true, false, not, IsTrue, List, [], length, get_or, Option, Some, None, slice_get, bytes_eq, refl, sym, ◌∙◌, ap, subst, arith}
use Rattle.std.specs.Prelude.{codes}
use Rattle.std.specs.Global.{Vec}
use Rattle.std.specs.Vec.{with_items}
use Rattle.std.proofs.lemmas.Bool.{cases_lt}
use Rattle.std.proofs.lemmas.List.{with_items_is}
use Rattle.std.proofs.lemmas.List.Quantifiers.{position-Some}
use Rattle.std.proofs.lemmas.Option.{get_or_from_slice_get, same_Some, slice_get_within}
use Rattle.std.proofs.lemmas.Slice.Eq.{bytes_eq-Decides}
use Rattle.jk_model.specs.Flags.{has, INTERFACE}
use Rattle.jk_model.specs.declared.class_file.ClassFile.{ClassFile}
use Rattle.jk_model.specs.declared.class_file.PoolEntry.{PoolEntry}
use Rattle.jk_model.specs.declared.class_file.PoolEntry.TheVariants.{Utf8}
use Rattle.jk_model.specs.declared.identifiers.ClassId.{ClassId}
use Rattle.jk_model.specs.SystemTable.{SystemClass, interface_without_members, number_named, system_classes}
use Rattle.jk_model_classes.specs.Items.{HasItem, Spot, Member, Entry}
use Rattle.jk_model_classes.specs.Members.{ClassAt, TextAt}
use Rattle.jk_model_classes.specs.References.{FlagsOfNamed, FolderScope, HasBadHierarchy, HasBadInterface, HasBadParent, IsCalledClass, IsClosedNamed}
use Rattle.jk_model_classes.specs.Worlds.{NamedClass, class_named}
use Rattle.class_lemmas.proofs.OneText.{one_text, one_class}
use Rattle.class_files.proofs.JudgedFiles.{class_at as at_file}
use Rattle.system_table.proofs.LawsOfTheTable.{each, has_own_name, own_name}
use Rattle.name_rules.specs.BadHierarchies.{AnswersFlags, HasOwnNames, IsBadAt, IsBadParent, IsNoInterface, IsUnfit, LoadedFlags, TextIsBad, folder_scope}
use Rattle.name_rules.specs.FolderEdges.{AreEdges, IsListedName}
use Rattle.class_files.specs.FolderClasses.{files_of}
use Rattle.name_rules.specs.FolderNames.{AreOwnNames}
use Rattle.name_rules.specs.Graphs.{HasEdge, IsClosure, Rows}
use Rattle.class_files.specs.declared.folder_class.FolderClass.{FolderClass}
use Rattle.name_rules.specs.declared.scope.Scope.{Scope}
use Rattle.name_rules.proofs.FolderGraph.{as_many_files, ring_stands, stands_path}

-- ---- Closed classes of the system.

has_number : (m : ℕ) (d : SystemClass) (name : List ℕ) → slice_get system_classes m ≡ Some d → d.name ≡ name → number_named name ≡ Some m
has_number m d name at same = ap number_named (sym same) ∙ own_name m d (each has_own_name refl m d at)

pub number_within : (name : List ℕ) (n : ℕ) → Some n ≡ number_named name → n < length system_classes
number_within name n is = (position-Some (λ (c : SystemClass). bytes_eq c.name name) system_classes n (interface_without_members []) (sym is)).0

number_name : (name : List ℕ) (n : ℕ) (e : SystemClass) → Some n ≡ number_named name → slice_get system_classes n ≡ Some e → e.name ≡ name
number_name name n e is at =
    let passes = (position-Some (λ (c : SystemClass). bytes_eq c.name name) system_classes n e (sym is)).1 in
    let here : get_or system_classes n e ≡ e = get_or_from_slice_get system_classes n e e at in
    (bytes_eq-Decides e.name name).0 (subst (λ (c : SystemClass). bytes_eq c.name name ≡ true) here passes)

pub closed_tells : (name : List ℕ) (n : ℕ) (e : SystemClass) (b : Bool) → Some n ≡ number_named name → slice_get system_classes n ≡ Some e
    → b ≡ e.closed → IsTrue b ↔ IsClosedNamed name
closed_tells name n e b is at same = (
  λ t. (n, e, at, (number_name name n e is at, sym same ∙ t)),
  λ (m, d, at_d, (named, closed)).
      let number : number_named name ≡ Some m = has_number m d name at_d named in
      let place : m ≡ n = same_Some m n (sym number ∙ sym is) in
      let here : slice_get system_classes n ≡ Some d = subst (λ (k : ℕ). slice_get system_classes k ≡ Some d) place at_d in
      let one : d ≡ e = same_Some d e (sym here ∙ at) in
      same ∙ subst (λ (c : SystemClass). c.closed ≡ true) one closed,
)

pub none_closed : (name : List ℕ) → None ≡ number_named name → IsTrue false ↔ IsClosedNamed name
none_closed name is = (
  λ t. absurd cc,
  λ (m, d, at, (named, closed)).
      let number : number_named name ≡ Some m = has_number m d name at named in
      let never : None ≡ Some m = is ∙ number in
      absurd cc,
)

-- ---- Flags.

module _ (x : Scope) (owns : HasOwnNames x) (name : List ℕ) where
  abbrev Flags : ℕ → Type 0
  Flags = FlagsOfNamed (folder_scope x) name

  pub own_flags : (place : ClassId) (f : FolderClass) → Some place ≡ class_named x.own.now name → slice_get x.folder.now place.0 ≡ Some f
      → AnswersFlags Flags (Some f.file.flags)
  own_flags place f means at flags =
      let files = files_of x.folder.now in
      let i = place.0 in
      let here : slice_get files i ≡ Some f.file = at_file x.folder.now i f at in
      let file = (owns name i).0 (sym means) in
      let same : file.0 ≡ f.file = same_Some file.0 f.file (sym file.1 ∙ here) in
      let called : IsCalledClass f.file name = subst (λ (c : ClassFile). IsCalledClass c name) same file.2 in (
        λ e. inl (i, f.file, here, (called, sym (same_Some f.file.flags flags e))),
        λ known. elim known [
          | inl (j, d, at_d, (called_d, is)) ↦
              let other : ClassId = record { 0 = j } in
              let also : class_named x.own.now name ≡ Some other = (owns name j).1 (d, at_d, called_d) in
              let one : other ≡ place = same_Some other place (sym also ∙ sym means) in
              let number : j ≡ i = ap (λ (k : ClassId). k.0) one in
              let there : slice_get files i ≡ Some d = subst (λ (k : ℕ). slice_get files k ≡ Some d) number at_d in
              let file_is : d ≡ f.file = same_Some d f.file (sym there ∙ here) in
              ap (λ (k : ℕ). Some k) (sym (is ∙ ap (λ (c : ClassFile). c.flags) file_is))
          | inr (none, loaded) ↦ absurd (none (i, f.file, here, called))
        ],
      )

  pub no_own_file : (place : ClassId) → Some place ≡ class_named x.own.now name → length x.folder.now ≤ place.0 → ⊥
  no_own_file place means past =
      let file = (owns name place.0).0 (sym means) in
      let within = slice_get_within (files_of x.folder.now) place.0 file.0 file.1 in
      omega (arith, as_many_files x.folder.now)

  pub outer_flags : (answer : Option ℕ) → None ≡ class_named x.own.now name → AnswersFlags (LoadedFlags x.table.now x.outer.now name) answer
      → AnswersFlags Flags answer
  outer_flags answer means loaded flags =
      let none : HasItem (λ (c : ClassFile). IsCalledClass c name) (files_of x.folder.now) → ⊥ =
      λ (i, c, at, called).
      let place : ClassId = record { 0 = i } in
      let found : class_named x.own.now name ≡ Some place = (owns name i).1 (c, at, called) in
      let never : None ≡ Some place = means ∙ found in
      absurd cc in (
        λ e. inr (none, (loaded flags).0 e),
        λ known. elim known [
          | inl (i, c, at, (called, is)) ↦ absurd (none (i, c, at, called))
          | inr (never, is) ↦ (loaded flags).1 is
        ],
      )

pub some_test : (Q T : ℕ → Type 0) (flags : ℕ) (b : Bool) → AnswersFlags Q (Some flags) → IsTrue b ↔ T flags → IsTrue b ↔ ((f : ℕ) × Q f × T f)
some_test Q T flags b answers h = (
  λ t. (flags, (answers flags).0 refl, h.0 t),
  λ (f, q, t).
      let same : flags ≡ f = same_Some flags f ((answers f).1 q) in
      h.1 (subst T (sym same) t),
)

pub none_test : (Q T : ℕ → Type 0) → AnswersFlags Q None → IsTrue false ↔ ((f : ℕ) × Q f × T f)
none_test Q T answers = (
  λ t. absurd cc,
  λ (f, q, t). let never : None ≡ Some f = (answers f).1 q in absurd cc,
)

pub denied : (P : Type 0) (r : Bool) → IsTrue r ↔ P → IsTrue (not r) ↔ (P → ⊥)
denied P true h = (λ t. absurd cc, λ never. absurd (never (h.0 refl)))
denied P false h = ((λ t p. let same : false ≡ true = h.1 p in cc), λ never. refl)

-- ---- Parents.

module _ (s : FolderScope) (c : ClassFile) (name : List ℕ) where
  pub closed_parent : IsClosedNamed name → IsTrue true ↔ IsBadParent s c name
  closed_parent closed = (λ t. inl closed, λ h. refl)

  pub unfit_parent : IsUnfit s name → IsTrue true ↔ IsBadParent s c name
  unfit_parent unfit = (λ t. inr (inl unfit), λ h. refl)

  pub last_parent : (b : Bool) → (IsClosedNamed name → ⊥) → (IsUnfit s name → ⊥)
      → IsTrue b ↔ (IsTrue (has c.flags INTERFACE) × (name ≢ codes "java/lang/Object")) → IsTrue b ↔ IsBadParent s c name
  last_parent b opened fit h = (
    λ t. inr (inr (h.0 t)),
    λ bad. elim bad [
      | inl closed ↦ absurd (opened closed)
      | inr (inl unfit) ↦ absurd (fit unfit)
      | inr (inr low) ↦ h.1 low
    ],
  )

pub parent_tells : (s : FolderScope) (c : ClassFile) (entries : List PoolEntry) (name : List ℕ) (b : Bool) → entries ≡ c.pool
    → ClassAt entries c.super_class name → IsTrue b ↔ IsBadParent s c name → IsTrue b ↔ HasBadParent s c
parent_tells s c entries name b same at h =
    let here : ClassAt c.pool c.super_class name = subst (λ (p : List PoolEntry). ClassAt p c.super_class name) same at in (
      λ t. (name, here, h.0 t),
      λ (other, parent, bad). h.1 (subst (λ (n : List ℕ). IsBadParent s c n) (one_class c.pool c.super_class other name parent here) bad),
    )

pub no_parent_tells : (s : FolderScope) (c : ClassFile) (entries : List PoolEntry) → entries ≡ c.pool
    → ((units : List ℕ) → ClassAt entries c.super_class units → ⊥) → IsTrue false ↔ HasBadParent s c
no_parent_tells s c entries same none = (
  λ t. absurd cc,
  λ (name, parent, bad). absurd (none name (subst (λ (p : List PoolEntry). ClassAt p c.super_class name) (sym same) parent)),
)

-- ---- Interfaces.

pub text_bad_tells : (s : FolderScope) (c : ClassFile) (n : ℕ) (units name : List ℕ) (b : Bool) → units ≡ name → TextAt c.pool n name
    → IsTrue b ↔ IsNoInterface s units → IsTrue b ↔ TextIsBad s c n
text_bad_tells s c n units name b same at h =
    let here : TextAt c.pool n units = subst (λ (us : List ℕ). TextAt c.pool n us) (sym same) at in (
      λ t. (units, here, h.0 t),
      λ (other, text, bad). h.1 (subst (λ (us : List ℕ). IsNoInterface s us) (one_text c.pool n other units text here) bad),
    )

pub interface_found : (s : FolderScope) (c : ClassFile) (n : ℕ) → IsListedName c n → TextIsBad s c n → HasBadInterface s c
interface_found s c n (i, x, at, is) (name, text, (flags, means, low)) = (name, flags, (i, x, at, (n, is, text)), means, low)

pub no_interface_found : (s : FolderScope) (c : ClassFile) (n : ℕ) → length c.pool ≤ n
    → ((k : ℕ) → k < n → IsListedName c k → TextIsBad s c k → ⊥) → HasBadInterface s c → ⊥
no_interface_found s c n all none (name, flags, (i, x, at, (k, is, text)), means, low) =
    let within = slice_get_within c.pool k (Utf8 text.0) text.1 in
    none k (omega arith) (i, x, at, is) (name, text, (flags, means, low))

pub none_bad_more : (s : FolderScope) (c : ClassFile) (n : ℕ) → ((k : ℕ) → k < n → IsListedName c k → TextIsBad s c k → ⊥)
    → (IsListedName c n → TextIsBad s c n → ⊥) → (k : ℕ) → k < n + 1 → IsListedName c k → TextIsBad s c k → ⊥
none_bad_more s c n none here k below listed bad = elim (cases_lt k n) [
  | inl less ↦ none k less listed bad
  | inr least ↦
      let same : k ≡ n = omega arith in
      here (subst (λ (j : ℕ). IsListedName c j) same listed) (subst (λ (j : ℕ). TextIsBad s c j) same bad)
]

-- ---- The files of the folder.

module _ (s : FolderScope) (rows : Rows) (i : ℕ) (c : ClassFile) where
  pub ring_tells : HasEdge rows i i → IsTrue true ↔ IsBadAt s rows i c
  ring_tells e = (λ t. inl e, λ h. refl)

  pub bad_parent_tells : HasBadParent s c → IsTrue true ↔ IsBadAt s rows i c
  bad_parent_tells bad = (λ t. inr (inl bad), λ h. refl)

  pub interface_tells : (HasEdge rows i i → ⊥) → (HasBadParent s c → ⊥) → (b : Bool) → IsTrue b ↔ HasBadInterface s c → IsTrue b ↔ IsBadAt s rows i c
  interface_tells no_ring fit b h = (
    λ t. inr (inr (h.0 t)),
    λ bad. elim bad [
      | inl e ↦ absurd (no_ring e)
      | inr (inl parent) ↦ absurd (fit parent)
      | inr (inr interface) ↦ h.1 interface
    ],
  )

module _ (s : FolderScope) (own : List NamedClass) (rows above : Rows) (owns : AreOwnNames s.files own) (are : AreEdges s.files own rows)
    (closed : IsClosure rows above) (names : (i : ℕ) (c : ClassFile) → slice_get s.files i ≡ Some c → (a : List ℕ) × IsCalledClass c a) where
  pub bad_hierarchy : (i : ℕ) (c : ClassFile) → slice_get s.files i ≡ Some c → IsBadAt s above i c → HasBadHierarchy s c (Member 0)
  bad_hierarchy i c at (inl e) =
      let name = names i c at in
      (refl, inl (name.0, name.1, ring_stands s.files own rows owns are i c name.0 at name.1 ((closed.at i i).0 e)))
  bad_hierarchy i c at (inr (inl parent)) = (refl, inr (inl parent))
  bad_hierarchy i c at (inr (inr interface)) = (refl, inr (inr interface))

  pub good_hierarchy : (i : ℕ) (c : ClassFile) (spot : Spot) → slice_get s.files i ≡ Some c → (IsBadAt s above i c → ⊥) → HasBadHierarchy s c spot → ⊥
  good_hierarchy i c (Entry k) at good bad = bad
  good_hierarchy i c (Member n) at good (zero_is, inl (name, called, over)) =
      good (inl ((closed.at i i).1 (stands_path s.files own rows owns are i i c c name name at called at called over)))
  good_hierarchy i c (Member n) at good (zero_is, inr (inl parent)) = good (inr (inl parent))
  good_hierarchy i c (Member n) at good (zero_is, inr (inr interface)) = good (inr (inr interface))

-- what is closed in the items of a vector are its items then
pub closed_rows : (v : Vec (Vec Bool)) (before after : Rows) → before ≡ v.items → IsClosure before after → IsClosure v.items (with_items v after).items
closed_rows v before after at h =
    let long : length after ≡ v.len = omega (arith, h.as_many, ap (λ (rows : Rows). length rows) at, v.ok.0) in
    subst (λ (rows : Rows). IsClosure v.items rows) (sym (with_items_is v after long)) (subst (λ (rows : Rows). IsClosure rows after) at h)
