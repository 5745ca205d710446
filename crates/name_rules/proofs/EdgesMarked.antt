-- The marks of the files that a class file extends or lists, as they are set.
use Rattle.std.proofs.Common.{◌≡◌, ℕ, ◌+◌, ◌<◌, ◌≤◌, inl, inr, Bool, List, [], ◌∷◌, ◌++◌, length, Some, slice_get, sym, ◌∙◌, subst, arith}
use Rattle.std.specs.Global.{Vec}
use Rattle.std.proofs.lemmas.Bool.{cases_lt}
use Rattle.std.proofs.lemmas.Option.{same_Some, slice_get_within}
use Rattle.list_lemmas.proofs.ItemsByPlace.{item_there, slice_get-push_cases}
use Rattle.jk_model.specs.declared.class_file.ClassFile.{ClassFile}
use Rattle.jk_model.specs.declared.class_file.PoolEntry.{PoolEntry}
use Rattle.jk_model.specs.declared.class_file.PoolEntry.TheVariants.{Utf8}
use Rattle.jk_model_classes.specs.Members.{ClassAt, TextAt}
use Rattle.jk_model_classes.specs.Worlds.{NamedClass}
use Rattle.class_lemmas.proofs.OneText.{one_text, one_class}
use Rattle.name_rules.specs.FolderEdges.{AreEdges, ExtendsPlace, GoesTo, IsListedName, ListsPlace, MeansPlace, TextMeans}
use Rattle.class_files.specs.FolderClasses.{files_of}
use Rattle.name_rules.specs.Graphs.{Rows}
use Rattle.name_rules.specs.Marks.{Marks, MarksOf}
use Rattle.class_files.specs.declared.folder_class.FolderClass.{FolderClass}
use Rattle.name_rules.proofs.FolderGraph.{as_many_files, file_at}
use Rattle.name_rules.proofs.MarksInTurn.{marks_as, marks_nothing, marks_then}

pub parent_marks : (c : ClassFile) (own : List NamedClass) (units name : List ℕ) (entries : List PoolEntry) (a b : List Bool) → entries ≡ c.pool
    → ClassAt entries c.super_class name → units ≡ name → Marks (MeansPlace own units) a b → Marks (ExtendsPlace c own) a b
parent_marks c own units name entries a b same at e h =
    let here : ClassAt c.pool c.super_class units =
    subst (λ (us : List ℕ). ClassAt c.pool c.super_class us) (sym e) (subst (λ (p : List PoolEntry). ClassAt p c.super_class name) same at) in
    marks_as (MeansPlace own units) (ExtendsPlace c own) a b (λ j means. (units, here, means))
    (λ j (other, parent, means). subst (λ (us : List ℕ). MeansPlace own us j) (one_class c.pool c.super_class other units parent here) means) h

pub no_parent_marks : (c : ClassFile) (own : List NamedClass) (entries : List PoolEntry) (a : List Bool) → entries ≡ c.pool
    → ((units : List ℕ) → ClassAt entries c.super_class units → ⊥) → Marks (ExtendsPlace c own) a a
no_parent_marks c own entries a same none =
    marks_nothing (ExtendsPlace c own) a (λ j (name, parent, means). none name (subst (λ (p : List PoolEntry). ClassAt p c.super_class name) (sym same) parent))

pub text_marks : (pool : List PoolEntry) (own : List NamedClass) (n : ℕ) (units name : List ℕ) (a b : List Bool) → TextAt pool n name → units ≡ name
    → Marks (MeansPlace own units) a b → Marks (TextMeans pool own n) a b
text_marks pool own n units name a b at e h =
    let here : TextAt pool n units = subst (λ (us : List ℕ). TextAt pool n us) (sym e) at in
    marks_as (MeansPlace own units) (TextMeans pool own n) a b (λ j means. (units, here, means))
    (λ j (other, text, means). subst (λ (us : List ℕ). MeansPlace own us j) (one_text pool n other units text here) means) h

pub no_text_marks : (pool : List PoolEntry) (own : List NamedClass) (n : ℕ) (a : List Bool) → ((units : List ℕ) → TextAt pool n units → ⊥)
    → Marks (TextMeans pool own n) a a
no_text_marks pool own n a none = marks_nothing (TextMeans pool own n) a (λ j (name, text, means). none name text)

-- ---- The interfaces, text by text.

abbrev pub ListedBefore : ClassFile → List NamedClass → ℕ → ℕ → Type 0
ListedBefore c own n j = (k : ℕ) × (k < n) × IsListedName c k × TextMeans c.pool own k j

module _ (c : ClassFile) (own : List NamedClass) (n : ℕ) where
  pub listed_more : (a b d : List Bool) → IsListedName c n → Marks (ListedBefore c own n) a b → Marks (TextMeans c.pool own n) b d
      → Marks (ListedBefore c own (n + 1)) a d
  listed_more a b d is first second =
      marks_then (ListedBefore c own n) (TextMeans c.pool own n) (ListedBefore c own (n + 1)) a b d
      (λ j (k, below, listed, means). (k, omega arith, listed, means)) (λ j means. (n, omega arith, is, means))
      (λ j (k, below, listed, means). elim (cases_lt k n) [
        | inl less ↦ inl (k, less, listed, means)
        | inr least ↦ let same : k ≡ n = omega arith in inr (subst (λ (i : ℕ). TextMeans c.pool own i j) same means)
      ]) first second

  pub listed_skipped : (a b : List Bool) → (IsListedName c n → ⊥) → Marks (ListedBefore c own n) a b → Marks (ListedBefore c own (n + 1)) a b
  listed_skipped a b never h =
      marks_as (ListedBefore c own n) (ListedBefore c own (n + 1)) a b
      (λ j (k, below, listed, means). (k, omega arith, listed, means))
      (λ j (k, below, listed, means). elim (cases_lt k n) [
        | inl less ↦ (k, less, listed, means)
        | inr least ↦ let same : k ≡ n = omega arith in absurd (never (subst (λ (i : ℕ). IsListedName c i) same listed))
      ]) h

  pub listed_all : (a b : List Bool) → length c.pool ≤ n → Marks (ListedBefore c own n) a b → Marks (ListsPlace c own) a b
  listed_all a b all h =
      marks_as (ListedBefore c own n) (ListsPlace c own) a b
      (λ j (k, below, (i, x, at, is), (name, text, means)). (name, (i, x, at, (k, is, text)), means))
      (λ j (name, (i, x, at, (k, is, text)), means).
      let within = slice_get_within c.pool k (Utf8 text.0) text.1 in
      (k, omega arith, (i, x, at, is), (name, text, means))) h

-- ---- All rows.

abbrev RowsOf : List FolderClass → List NamedClass → Rows → Type 0
RowsOf folder own rows =
    (i : ℕ) (f : FolderClass) (row : Vec Bool) → slice_get folder i ≡ Some f → slice_get rows i ≡ Some row
    → MarksOf (length folder) (GoesTo f.file own) row.items

pub rows_more : (folder : List FolderClass) (own : List NamedClass) (rows : Rows) (k : ℕ) (f : FolderClass) (row : Vec Bool) → length rows ≡ k
    → slice_get folder k ≡ Some f → RowsOf folder own rows → MarksOf (length folder) (GoesTo f.file own) row.items
    → (i : ℕ) (g : FolderClass) (r : Vec Bool) → slice_get folder i ≡ Some g → slice_get (rows ++ row ∷ []) i ≡ Some r
    → MarksOf (length folder) (GoesTo g.file own) r.items
rows_more folder own rows k f row long at each own_row i g r at_i at_r = elim (slice_get-push_cases rows row r i at_r) [
  | inl front ↦ each i g r at_i front.1
  | inr last ↦
      let place : i ≡ k = last.0 ∙ long in
      let same : f ≡ g = same_Some f g (sym at ∙ subst (λ (n : ℕ). slice_get folder n ≡ Some g) place at_i) in
      subst (λ (h : FolderClass). MarksOf (length folder) (GoesTo h.file own) r.items) same
      (subst (λ (v : Vec Bool). MarksOf (length folder) (GoesTo f.file own) v.items) last.1 own_row)
]

pub are_edges : (folder : List FolderClass) (own : List NamedClass) (rows : Rows) → length rows ≡ length folder → RowsOf folder own rows
    → AreEdges (files_of folder) own rows
are_edges folder own rows long each = record {
  as_many = long ∙ sym (as_many_files folder);
  square = λ i row at.
      let within = slice_get_within rows i row at in
      let (f, at_f) = item_there folder i (omega (arith, long)) in
      (each i f row at_f at).as_many ∙ sym long;
  at = λ i j c at below.
      let few : j < length folder = omega (arith, as_many_files folder) in
      let (f, at_f, same) = file_at folder i c at in (
        λ (row, at_row, marked).
            subst (λ (d : ClassFile). GoesTo d own j) same (((each i f row at_f at_row).at j few).0 marked),
        λ goes.
            let inside = slice_get_within folder i f at_f in
            let (row, at_row) = item_there rows i (omega (arith, long)) in
            (row, at_row, ((each i f row at_f at_row).at j few).1 (subst (λ (d : ClassFile). GoesTo d own j) (sym same) goes)),
      );
}
