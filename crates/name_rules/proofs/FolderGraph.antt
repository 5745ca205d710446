-- The graph of a folder's class files says what stands over what, and how high each class stands.
use Rattle.std.proofs.Common.{◌≡◌, ℕ, zero, suc, ◌<◌, inl, inr, List, [], ◌∷◌, length, Option, Some, None, slice_get, refl, sym, ◌∙◌, ap, subst, arith}
use Rattle.std.proofs.lemmas.Option.{same_Some, slice_get_within}
use Rattle.list_lemmas.proofs.ItemsByPlace.{item_there}
use Rattle.jk_model.specs.declared.class_file.ClassFile.{ClassFile}
use Rattle.jk_model.specs.declared.class_file.PoolEntry.{PoolEntry}
use Rattle.jk_model.specs.declared.class_file.PoolEntry.TheVariants.{Class}
use Rattle.jk_model.specs.declared.identifiers.ClassId.{ClassId}
use Rattle.jk_model.specs.declared.output.Rule.TheVariants.{C7}
use Rattle.jk_model.proofs.EachItem.{all_at}
use Rattle.jk_model_classes.specs.ClassNames.{NamesClass}
use Rattle.jk_model_classes.specs.Items.{Member}
use Rattle.jk_model_classes.specs.Members.{ClassAt}
use Rattle.jk_model_classes.specs.References.{IsCalledClass, StandsOver, StepsUp, higher, next}
use Rattle.jk_model_classes.specs.Worlds.{NamedClass, class_named}
use Rattle.jk_model_folders.specs.ClassOrder.{ClimbsTo, HasHeight, IsClassOrder, IsOfFiles}
use Rattle.class_lemmas.proofs.OneText.{one_class}
use Rattle.class_texts.specs.PoolTexts.{AreTextsOf}
use Rattle.name_rules.specs.FolderEdges.{AreEdges, MeansPlace}
use Rattle.class_files.specs.FolderClasses.{AreReadClasses, IsReadClass, files_of}
use Rattle.name_rules.specs.FolderNames.{AreOwnNames}
use Rattle.name_rules.specs.Graphs.{AreHeights, Climb, HasEdge, HasNoRing, IsHeight, IsOrderOf, Path, Rows, edge, further}
use Rattle.class_files.specs.declared.folder_class.FolderClass.{FolderClass}
use Rattle.name_rules.proofs.EdgesOfRows.{edge_within}

-- ---- Files of the folder have names.

abbrev HasName : ClassFile → Type 0
HasName c = (name : List ℕ) × IsCalledClass c name

pub file_at : (folder : List FolderClass) (i : ℕ) (c : ClassFile) → slice_get (files_of folder) i ≡ Some c
    → (f : FolderClass) × (slice_get folder i ≡ Some f) × (f.file ≡ c)
file_at [] i c at = absurd cc
file_at (f ∷ folder) zero c at = (f, refl, same_Some f.file c at)
file_at (f ∷ folder) (suc i) c at = file_at folder i c at

pub as_many_files : (folder : List FolderClass) → length (files_of folder) ≡ length folder
as_many_files [] = refl
as_many_files (f ∷ folder) = ap (λ (n : ℕ). suc n) (as_many_files folder)

-- ---- The class of a Class entry that can't but be one.

text_here : (pool : List PoolEntry) (texts : List (Option (List ℕ))) (i n : ℕ) (found : Option (Option (List ℕ))) → AreTextsOf pool texts
    → slice_get pool i ≡ Some (Class n) → slice_get texts n ≡ found → ((NamesClass pool i → ⊥) → ⊥) → (name : List ℕ) × ClassAt pool i name
text_here pool texts i n (Some (Some units)) are at found some = (units, (n, at, (are.each n units).1 found))
text_here pool texts i n None are at found some = absurd (some (λ (units, (m, other, text), begins).
    let both : Some (Class m) ≡ Some (Class n) = sym other ∙ at in
    let same : m ≡ n = cc in
    let there = (are.each m units).0 text in
    let here : slice_get texts n ≡ Some (Some units) = subst (λ (k : ℕ). slice_get texts k ≡ Some (Some units)) same there in
    let never : None ≡ Some (Some units) = sym found ∙ here in
    cc))
text_here pool texts i n (Some None) are at found some = absurd (some (λ (units, (m, other, text), begins).
    let both : Some (Class m) ≡ Some (Class n) = sym other ∙ at in
    let same : m ≡ n = cc in
    let there = (are.each m units).0 text in
    let here : slice_get texts n ≡ Some (Some units) = subst (λ (k : ℕ). slice_get texts k ≡ Some (Some units)) same there in
    let never : Some None ≡ Some (Some units) = sym found ∙ here in
    cc))

class_here : (pool : List PoolEntry) (texts : List (Option (List ℕ))) (i : ℕ) (found : Option PoolEntry) → AreTextsOf pool texts
    → slice_get pool i ≡ found → ((NamesClass pool i → ⊥) → ⊥) → (name : List ℕ) × ClassAt pool i name
class_here pool texts i (Some (Class n)) are at some = text_here pool texts i n (slice_get texts n) are at refl some
class_here pool texts i None are at some =
    absurd (some (λ (units, (m, other, text), begins). let both : None ≡ Some (Class m) = sym at ∙ other in cc))
class_here pool texts i (Some e) are at some =
    absurd (some (λ (units, (m, other, text), begins). let both : Some e ≡ Some (Class m) = sym at ∙ other in cc))

pub read_name : (f : FolderClass) → IsReadClass f → HasName f.file
read_name f read =
    class_here f.file.pool f.texts f.file.this_class (slice_get f.file.pool f.file.this_class) read.texts refl
    (λ none. read.alone C7 (Member 0) (inl (refl, inl none)))

pub names_of : (folder : List FolderClass) → AreReadClasses folder → (i : ℕ) (c : ClassFile) → slice_get (files_of folder) i ≡ Some c → HasName c
names_of folder read i c at =
    let found = file_at folder i c at in
    subst (λ (d : ClassFile). HasName d) found.2 (read_name found.0 (all_at IsReadClass folder i found.0 read found.1))

-- ---- Edges and steps.

module _ (files : List ClassFile) (own : List NamedClass) (rows : Rows) (owns : AreOwnNames files own) (are : AreEdges files own rows) where
  -- what an edge leads to
  pub record StepTo (a : List ℕ) (j : ℕ) : Type 0 where
    pub name : List ℕ
    pub file : ClassFile
    pub there : slice_get files j ≡ Some file
    pub called : IsCalledClass file name
    pub steps : StepsUp files a name

  pub edge_steps : (i j : ℕ) (c : ClassFile) (a : List ℕ) → slice_get files i ≡ Some c → IsCalledClass c a → HasEdge rows i j → StepTo a j
  edge_steps i j c a at called e =
      let below = (edge_within rows i j are.square e).1 in
      elim ((are.at i j c at (omega (arith, are.as_many, below))).0 e) [
        | inl (name, parent, means) ↦
            let file = (owns name j).0 means in
            record { name = name; file = file.0; there = file.1; called = file.2; steps = (i, c, at, (called, inl parent)) }
        | inr (name, lists, means) ↦
            let file = (owns name j).0 means in
            record { name = name; file = file.0; there = file.1; called = file.2; steps = (i, c, at, (called, inr lists)) }
      ]

  -- a class of the folder has one file
  one_place : (a : List ℕ) (i j : ℕ) (c d : ClassFile) → slice_get files i ≡ Some c → IsCalledClass c a → slice_get files j ≡ Some d → IsCalledClass d a
      → i ≡ j
  one_place a i j c d at called also called_too =
      let first : class_named own a ≡ Some (record { 0 = i }) = (owns a i).1 (c, at, called) in
      let second : class_named own a ≡ Some (record { 0 = j }) = (owns a j).1 (d, also, called_too) in
      let left : ClassId = record { 0 = i } in
      let right : ClassId = record { 0 = j } in
      let same : left ≡ right = same_Some left right (sym first ∙ second) in
      ap (λ (k : ClassId). k.0) same

  pub steps_edge : (i j : ℕ) (c d : ClassFile) (a b : List ℕ) → slice_get files i ≡ Some c → IsCalledClass c a → slice_get files j ≡ Some d
      → IsCalledClass d b → StepsUp files a b → HasEdge rows i j
  steps_edge i j c d a b at called there called_too (k, e, also, (called_e, goes)) =
      let place : k ≡ i = one_place a k i e c also called_e at called in
      let means : MeansPlace own b j = (owns b j).1 (d, there, called_too) in
      let edge_k : HasEdge rows k j = (are.at k j e also (slice_get_within files j d there)).1
      (elim goes [ inl parent ↦ inl (b, parent, means) | inr lists ↦ inr (b, lists, means) ]) in
      subst (λ (n : ℕ). HasEdge rows n j) place edge_k

  -- ---- Paths.

  pub record StandsAt (a : List ℕ) (j : ℕ) : Type 0 where
    pub name : List ℕ
    pub file : ClassFile
    pub there : slice_get files j ≡ Some file
    pub called : IsCalledClass file name
    pub over : StandsOver files a name

  pub path_stands : (i j : ℕ) (c : ClassFile) (a : List ℕ) → slice_get files i ≡ Some c → IsCalledClass c a → Path (HasEdge rows) i j → StandsAt a j
  path_stands i j c a at called (edge _ _ e) =
      let to = edge_steps i j c a at called e in
      record { name = to.name; file = to.file; there = to.there; called = to.called; over = next a to.name to.steps }
  path_stands i j c a at called (further _ m _ e p) =
      let to = edge_steps i m c a at called e in
      let on = path_stands m j to.file to.name to.there to.called p in
      record { name = on.name; file = on.file; there = on.there; called = on.called; over = higher a to.name on.name to.steps on.over }

  pub ring_stands : (i : ℕ) (c : ClassFile) (a : List ℕ) → slice_get files i ≡ Some c → IsCalledClass c a → Path (HasEdge rows) i i
      → StandsOver files a a
  ring_stands i c a at called p =
      let on = path_stands i i c a at called p in
      let same : on.file ≡ c = same_Some on.file c (sym on.there ∙ at) in
      let also : IsCalledClass c on.name = subst (λ (d : ClassFile). IsCalledClass d on.name) same on.called in
      let one : on.name ≡ a = one_class c.pool c.this_class on.name a also called in
      subst (λ (b : List ℕ). StandsOver files a b) one on.over

  -- the first step leads from a file of the class
  first_file : (a b : List ℕ) → StandsOver files a b → (i : ℕ) × (c : ClassFile) × (slice_get files i ≡ Some c) × IsCalledClass c a
  first_file a b (next _ _ (i, c, at, (called, goes))) = (i, c, at, called)
  first_file a b (higher _ m _ (i, c, at, (called, goes)) over) = (i, c, at, called)

  pub stands_path : (i j : ℕ) (c d : ClassFile) (a b : List ℕ) → slice_get files i ≡ Some c → IsCalledClass c a → slice_get files j ≡ Some d
      → IsCalledClass d b → StandsOver files a b → Path (HasEdge rows) i j
  stands_path i j c d a b at called there called_too (next _ _ steps) = edge i j (steps_edge i j c d a b at called there called_too steps)
  stands_path i j c d a b at called there called_too (higher _ m _ steps over) =
      let (k, e, at_k, called_k) = first_file m b over in
      further i k j (steps_edge i k c e a m at called at_k called_k steps) (stands_path k j e d m b at_k called_k there called_too over)

  -- ---- Climbs and heights.

  climb_files : (n i j : ℕ) (c : ClassFile) (a : List ℕ) → slice_get files i ≡ Some c → IsCalledClass c a → Climb (HasEdge rows) n i j
      → (b : List ℕ) × ClimbsTo files n a b
  climb_files zero i j c a at called e = (a, (refl, (i, c, at, called)))
  climb_files (suc n) i j c a at called (m, e, on) =
      let to = edge_steps i m c a at called e in
      let rest = climb_files n m j to.file to.name to.there to.called on in
      (rest.0, (to.name, (i, c, at, called), to.steps, rest.1))

  begins_in_files : (n : ℕ) (a b : List ℕ) → ClimbsTo files n a b → IsOfFiles files a
  begins_in_files zero a b h = h.1
  begins_in_files (suc n) a b h = h.1

  climb_rows : (n i : ℕ) (c : ClassFile) (a b : List ℕ) → slice_get files i ≡ Some c → IsCalledClass c a → ClimbsTo files n a b
      → (j : ℕ) × Climb (HasEdge rows) n i j
  climb_rows zero i c a b at called h = (i, refl)
  climb_rows (suc n) i c a b at called (m, is, steps, on) =
      let (k, e, at_k, called_k) = begins_in_files n m b on in
      let rest = climb_rows n k e m b at_k called_k on in
      (rest.0, (k, steps_edge i k c e a m at called at_k called_k steps, rest.1))

  pub height_of_class : (n i : ℕ) (c : ClassFile) (a : List ℕ) → slice_get files i ≡ Some c → IsCalledClass c a → IsHeight (HasEdge rows) i n
      → HasHeight files a n
  height_of_class n i c a at called (up, no_more) = (
    climb_files n i up.0 c a at called up.1,
    λ b climb. let rows_climb = climb_rows (suc n) i c a b at called climb in no_more rows_climb.0 rows_climb.1,
  )

  -- ---- The order.

  starts : (i j : ℕ) → Path (HasEdge rows) i j → i < length rows
  starts i j (edge _ _ e) = (edge_within rows i j are.square e).0
  starts i j (further _ m _ e p) = (edge_within rows i m are.square e).0

  module _ (names : (i : ℕ) (c : ClassFile) → slice_get files i ≡ Some c → HasName c) where
    pub no_ring : ((name : List ℕ) → StandsOver files name name → ⊥) → HasNoRing rows
    no_ring none a p =
        let (c, at) = item_there files a (omega (arith, are.as_many, starts a a p)) in
        let name = names a c at in
        none name.0 (ring_stands a c name.0 at name.1 p)

    pub class_order : (heights order : List ℕ) → AreHeights rows heights → IsOrderOf heights order → IsClassOrder files order
    class_order heights order high h = record {
      as_many = h.as_many ∙ high.as_many ∙ are.as_many;
      places = λ k i at. let below = h.places k i at in omega (arith, below, high.as_many, are.as_many);
      rising = λ k l i j below at_k at_l.
          let below_i = h.places k i at_k in
          let below_j = h.places l j at_l in
          let (c, at_c) = item_there files i (omega (arith, high.as_many, are.as_many)) in
          let (d, at_d) = item_there files j (omega (arith, high.as_many, are.as_many)) in
          let a = names i c at_c in
          let b = names j d at_d in
          let (m, at_m) = item_there heights i below_i in
          let (n, at_n) = item_there heights j below_j in (
            c,
            d,
            at_c,
            at_d,
            (
              a.0,
              b.0,
              m,
              n,
              a.1,
              b.1,
              height_of_class m i c a.0 at_c a.1 (high.each i m at_m).0,
              height_of_class n j d b.0 at_d b.1 (high.each j n at_n).0,
              h.rising k l i j m n below at_k at_l at_m at_n,
            ),
          );
    }
