-- The classes of a folder get their links, one after another.
use Rattle.std.proofs.Common.{◌≡◌, ℕ, zero, suc, ◌+◌, ◌<◌, ◌≤◌, List, [], ◌∷◌, ◌++◌, length, map, take, drop, get_or, set, Some, slice_get, refl, sym, ap, subst, ◌∙◌, arith}
use Rattle.std.proofs.Math.Seq.{drop-cons, get_or-append_seam, set-append_seam}
use Rattle.std.proofs.lemmas.List.{append-nil, append_assoc, length-append, length-map, length-take-le, take_all, take_more}
use Rattle.std.proofs.lemmas.Option.{get_or_from_slice_get, slice_get_within}
use Rattle.jk_model.specs.declared.identifiers.ClassId.{ClassId}
use Rattle.jk_model_classes.specs.declared.records.ClassRecord.{ClassRecord}
use Rattle.jk_model_classes.specs.declared.records.Link.{Link}
use Rattle.jk_model_classes.specs.Classes.{GetsLinks}
use Rattle.jk_model_classes.specs.Worlds.{WorldRecord}
use Rattle.jk_model_folders.specs.LinkedClasses.{without_links}
use Rattle.folder_loader.specs.ClassesInOrder.{links_in}

-- the first of the classes behind the others have their links
abbrev pub partly : List ClassRecord → List ClassRecord → ℕ → List ClassRecord
partly base added k = base ++ (take k added ++ map without_links (drop k added))

module _ (base added : List ClassRecord) (k : ℕ) (a : ClassRecord) (at : slice_get added k ≡ Some a) where
  below : k < length added
  below = slice_get_within added k a at

  its : get_or added k a ≡ a
  its = get_or_from_slice_get added k a a at

  abbrev front : List ClassRecord
  front = base ++ take k added

  abbrev rest : List ClassRecord
  rest = map without_links (drop (suc k) added)

  many_front : length front ≡ length base + k
  many_front = omega (arith, length-append base (take k added), length-take-le k added (omega (arith, below)))

  before : partly base added k ≡ front ++ without_links a ∷ rest
  before =
      let cut : drop k added ≡ a ∷ drop (suc k) added = drop-cons added k a below ∙ ap (λ (r : ClassRecord). r ∷ drop (suc k) added) its in
      ap (λ (xs : List ClassRecord). base ++ (take k added ++ map without_links xs)) cut
      ∙ sym (append_assoc base (take k added) (without_links a ∷ map without_links (drop (suc k) added)))

  after : partly base added (k + 1) ≡ front ++ a ∷ rest
  after =
      let more : take (k + 1) added ≡ take k added ++ a ∷ [] = take_more added k a below ∙ ap (λ (r : ClassRecord). take k added ++ r ∷ []) its in
      let next : k + 1 ≡ suc k = omega arith in
      ap (λ (xs : List ClassRecord). base ++ (xs ++ map without_links (drop (k + 1) added))) more
      ∙ ap (λ (n : ℕ). base ++ ((take k added ++ a ∷ []) ++ map without_links (drop n added))) next
      ∙ ap (λ (xs : List ClassRecord). base ++ xs) (append_assoc (take k added) (a ∷ []) (map without_links (drop (suc k) added)))
      ∙ sym (append_assoc base (take k added) (a ∷ map without_links (drop (suc k) added)))

  linked_back : (r : ClassRecord) (own : List Link) → r ≡ without_links a → own ≡ a.links → record r { links = own } ≡ a
  linked_back r own same is =
      ap (λ (x : ClassRecord). let z : ClassRecord = record x { links = own } in z) same ∙ ap
      (λ (l : List Link). let z : ClassRecord = record a { links = l } in z) is

  pub gets_links : (c : ClassId) (old new : List ClassRecord) (own : List Link) → c.0 ≡ length base + k → old ≡ partly base added k
      → GetsLinks old c own new → own ≡ a.links → new ≡ partly base added (k + 1)
  gets_links c old new own number is (r, of_c, got) links =
      let place : c.0 ≡ length front = number ∙ sym many_front in
      let shape : old ≡ front ++ without_links a ∷ rest = is ∙ before in
      let there : get_or (front ++ without_links a ∷ rest) (length front) r ≡ r =
      subst (λ (n : ℕ). get_or (front ++ without_links a ∷ rest) n r ≡ r) place
      (get_or_from_slice_get (front ++ without_links a ∷ rest) c.0 r r (subst (λ (xs : List ClassRecord). slice_get xs c.0 ≡ Some r) shape of_c)) in
      let same : r ≡ without_links a = sym there ∙ get_or-append_seam front (without_links a) rest r in
      let whole : record r { links = own } ≡ a = linked_back r own same links in
      got ∙ ap (λ (xs : List ClassRecord). set xs c.0 (record r { links = own })) shape
      ∙ ap (λ (n : ℕ). set (front ++ without_links a ∷ rest) n (record r { links = own })) place
      ∙ set-append_seam front (without_links a) rest (record r { links = own })
      ∙ ap (λ (x : ClassRecord). front ++ x ∷ rest) whole
      ∙ sym after

-- ---- A world whose new classes get their links.

-- so many classes have their links, and the links of the others are at hand
abbrev pub HaveLinksUpTo : ClassId → List (List Link) → WorldRecord → ℕ → List (List Link) → WorldRecord → Type 0
HaveLinksUpTo first all old k links new =
    (base added : List ClassRecord) → old.classes ≡ base ++ map without_links added → first.0 ≡ length base → all ≡ links_in added
    → (drop k links ≡ drop k all) × (new ≡ record old { classes = partly base added k })

pub have_none : (first : ClassId) (all : List (List Link)) (w : WorldRecord) → HaveLinksUpTo first all w 0 all w
have_none first all w base added is at links = (refl, ap (λ (xs : List ClassRecord). let v : WorldRecord = record w { classes = xs } in v) is)

one_more : (k : ℕ) → suc k ≡ k + 1
one_more k = omega arith

set_before : {X : Type 0} (k : ℕ) (xs : List X) (x : X) → drop (suc k) (set xs k x) ≡ drop (suc k) xs
set_before k [] x = refl
set_before zero (y ∷ xs) x = refl
set_before (suc k) (y ∷ xs) x = set_before k xs x

drop_set : {X : Type 0} (k : ℕ) (xs : List X) (x : X) → drop (k + 1) (set xs k x) ≡ drop (k + 1) xs
drop_set k xs x = subst (λ n. drop n (set xs k x) ≡ drop n xs) (one_more k) (set_before k xs x)

slice_get-drop : {X : Type 0} (k : ℕ) (xs : List X) (x : X) → slice_get (drop k xs) 0 ≡ Some x → slice_get xs k ≡ Some x
slice_get-drop zero xs x at = at
slice_get-drop (suc k) [] x at = at
slice_get-drop (suc k) (y ∷ xs) x at = slice_get-drop k xs x at

head_of : {X : Type 0} (k : ℕ) (xs : List X) (x : X) → slice_get xs k ≡ Some x → slice_get (drop k xs) 0 ≡ Some x
head_of zero xs x at = at
head_of (suc k) [] x at = at
head_of (suc k) (y ∷ xs) x at = head_of k xs x at

drop_one : {X : Type 0} (k : ℕ) (xs : List X) → drop (suc k) xs ≡ drop 1 (drop k xs)
drop_one zero xs = refl
drop_one (suc k) [] = refl
drop_one (suc k) (x ∷ xs) = drop_one k xs

drop_next : {X : Type 0} (k : ℕ) (xs ys : List X) → drop k xs ≡ drop k ys → drop (k + 1) xs ≡ drop (k + 1) ys
drop_next k xs ys same =
    subst (λ n. drop n xs ≡ drop n ys) (one_more k) (drop_one k xs ∙ ap (λ zs. drop 1 zs) same ∙ sym (drop_one k ys))

links_at : (added : List ClassRecord) (k : ℕ) (own : List Link) → slice_get (links_in added) k ≡ Some own
    → (a : ClassRecord) × (slice_get added k ≡ Some a) × (own ≡ a.links)
links_at [] k own at = absurd cc
links_at (a ∷ added) zero own at =
    let here : Some a.links ≡ Some own = at in
    let same : own ≡ a.links = cc in
    (a, refl, same)
links_at (a ∷ added) (suc k) own at = links_at added k own at

pub have_next : (first c : ClassId) (all links next : List (List Link)) (old mid new : WorldRecord) (k : ℕ) (own none : List Link)
    → HaveLinksUpTo first all old k links mid → slice_get links k ≡ Some own → next ≡ set links k none → c.0 ≡ first.0 + k
    → GetsLinks mid.classes c own new.classes → new.domains ≡ mid.domains → HaveLinksUpTo first all old (k + 1) next new
have_next first c all links next old mid new k own none h at taken number gets same base added is behind all_are =
    let so_far = h base added is behind all_are in
    let in_all : slice_get all k ≡ Some own =
    slice_get-drop k all own (subst (λ (xs : List (List Link)). slice_get xs 0 ≡ Some own) so_far.0 (head_of k links own at)) in
    let its = links_at added k own (subst (λ (xs : List (List Link)). slice_get xs k ≡ Some own) all_are in_all) in
    let classes : mid.classes ≡ partly base added k = ap (λ (v : WorldRecord). v.classes) so_far.1 in
    let domains : new.domains ≡ old.domains = same ∙ ap (λ (v : WorldRecord). v.domains) so_far.1 in
    let place : c.0 ≡ length base + k = number ∙ ap (λ (n : ℕ). n + k) behind in
    let got : new.classes ≡ partly base added (k + 1) = gets_links base added k its.0 its.1 c mid.classes new.classes own place classes gets its.2 in (
      ap (λ (xs : List (List Link)). drop (k + 1) xs) taken ∙ drop_set k links none ∙ drop_next k links all so_far.0,
      same_world new old (partly base added (k + 1)) got domains,
    )
  where
    same_world : (v u : WorldRecord) (classes : List ClassRecord) → v.classes ≡ classes → v.domains ≡ u.domains → v ≡ record u { classes = classes }
    same_world v u classes a b =
        ap (λ (xs : List ClassRecord). let z : WorldRecord = record v { classes = xs } in z) a
        ∙ ap (λ ds. let z : WorldRecord = record { classes = classes; domains = ds } in z) b

pub have_all : (first : ClassId) (all links : List (List Link)) (old new : WorldRecord) (k : ℕ) → length all ≤ k → HaveLinksUpTo first all old k links new
    → (base added : List ClassRecord) → old.classes ≡ base ++ map without_links added → first.0 ≡ length base → all ≡ links_in added
    → new ≡ record old { classes = base ++ added }
have_all first all links old new k most h base added is behind all_are =
    let done = h base added is behind all_are in
    let many : length added ≤ k = omega (arith, most, ap (λ (xs : List (List Link)). length xs) all_are, length-map added (λ (r : ClassRecord). r.links)) in
    let none : drop k added ≡ [] = drop_past k added many in
    let whole : partly base added k ≡ base ++ added =
    ap (λ (xs : List ClassRecord). base ++ (take k added ++ map without_links xs)) none
    ∙ ap (λ (xs : List ClassRecord). base ++ xs) (append-nil (take k added))
    ∙ ap (λ (xs : List ClassRecord). base ++ xs) (take_all k added many) in
    done.1 ∙ ap (λ (xs : List ClassRecord). let v : WorldRecord = record old { classes = xs } in v) whole
  where
    drop_past : {X : Type 0} (k : ℕ) (xs : List X) → length xs ≤ k → drop k xs ≡ []
    drop_past zero [] most = refl
    drop_past zero (x ∷ xs) most = absurd (omega (arith, most))
    drop_past (suc k) [] most = refl
    drop_past (suc k) (x ∷ xs) most = drop_past k xs (omega (arith, most))
