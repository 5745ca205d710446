-- What one more name that a folder gives makes of the list.
use Rattle.std.proofs.Common.{◌≡◌, ℕ, ◌+◌, ◌<◌, ◌≤◌, arith, length, List, [], ◌∷◌, ◌++◌, Option, Some, None, refl, sym, ap, ◌∙◌, subst, append_assoc, append-nil}
use Rattle.std.specs.List.{filter_map, cons_option}
use Rattle.std.specs.Option.{option_to_list}
use Rattle.std.specs.declared.fs.attrs.FileType.{FileType}
use Rattle.std.proofs.lemmas.List.{length-append}
use Rattle.std.proofs.lemmas.List.Elements.{filter_map-append}
use Rattle.jk_model.specs.Outside.{◌/-◌}
use Rattle.jk_model.specs.declared.entries.Entry.{Entry}
use Rattle.jk_outside.specs.declared.found.Sort.{Sort}
use Rattle.jk_outside.specs.declared.found.Sort.TheVariants as sort
use Rattle.jk_outside.specs.FolderWalks.{AllAre, IsListedAs, IsSortOf, listed_as, ListsOn}
use Rattle.jk_outside.specs.Systems.{Places, Stands, Nothing, Folder, File, Pipe, LooksLike, IsSeenAt, IsFolderAt, FolderAtIs, EntriesAre, GivesName, entry_as, entry_of}

-- ---- what is seen says how it is listed

listed_stands : (stands : Stands) (s : Sort) (type : FileType) (name : List ℕ) → LooksLike stands type → IsSortOf type s
    → listed_as s name ≡ entry_as stands name
listed_stands Nothing s type name seen is = absurd seen
listed_stands (Folder names) s type name seen is = let at : s ≡ sort.Folder = is.0.1 seen in rw at refl
listed_stands (File bytes) s type name seen is = let at : s ≡ sort.File = is.1.1 seen in rw at refl
listed_stands Pipe sort.Folder type name seen is = absurd (seen.0 (is.0.0 refl))
listed_stands Pipe sort.File type name seen is = absurd (seen.1 (is.1.0 refl))
listed_stands Pipe sort.Other type name seen is = refl

pub listed_at : (places : Option Places) (folder name : List ℕ) (type : FileType) (s : Sort) → IsSeenAt places (folder /- name) type → IsSortOf type s
    → IsListedAs places folder name s
listed_at None folder name type s seen is = tt
listed_at (Some at) folder name type s seen is = listed_stands (at (folder /- name)) s type name seen is

-- ---- one more name

alone : (o : Option Entry) → cons_option o [] ≡ option_to_list o
alone None = refl
alone (Some e) = refl

lists_one_more : (at : Places) (folder name : List ℕ) (seen : List (List ℕ)) (s : Sort) → listed_as s name ≡ entry_of at folder name
    → filter_map (entry_of at folder) (seen ++ name ∷ []) ≡ filter_map (entry_of at folder) seen ++ option_to_list (listed_as s name)
lists_one_more at folder name seen s is =
    filter_map-append (entry_of at folder) seen (name ∷ [])
    ∙ ap (λ (es : List Entry). filter_map (entry_of at folder) seen ++ es) (alone (entry_of at folder name) ∙ ap option_to_list (sym is))

pub lists_on : (places : Option Places) (folder name : List ℕ) (all left left' : Option (List (List ℕ))) (entries entries' : List Entry) (s : Sort)
    → ListsOn places folder all left entries → GivesName left left' (Some name) → IsListedAs places folder name s
    → entries' ≡ entries ++ option_to_list (listed_as s name) → ListsOn places folder all left' entries'
lists_on None folder name all left left' entries entries' s on gives is more = tt
lists_on (Some at) folder name None left left' entries entries' s on gives is more = tt
lists_on (Some at) folder name (Some all) None left' entries entries' s (seen, rest, splits, now, are) gives is more = absurd cc
lists_on (Some at) folder name (Some all) (Some left) left' entries entries' s (seen, rest, splits, now, are) (others, begins, then) is more =
    let same : left ≡ rest = cc in (
      seen ++ name ∷ [],
      others,
      splits ∙ ap (λ (t : List (List ℕ)). seen ++ t) (sym same ∙ begins) ∙ sym (append_assoc seen (name ∷ []) others),
      then,
      more ∙ ap (λ (t : List Entry). t ++ option_to_list (listed_as s name)) are ∙ sym (lists_one_more at folder name seen s is),
    )

pub lists_none : (places : Option Places) (folder : List ℕ) (all : Option (List (List ℕ))) → ListsOn places folder all all []
lists_none None folder all = tt
lists_none (Some at) folder None = tt
lists_none (Some at) folder (Some all) = ([], all, refl, refl, refl)

-- at the end these are all
pub lists_all : (places : Option Places) (folder : List ℕ) (all left left' : Option (List (List ℕ))) (entries : List Entry)
    → ListsOn places folder all left entries → GivesName left left' None → AllAre places folder all (λ (es : List Entry). entries ≡ es)
lists_all None folder all left left' entries on ends = tt
lists_all (Some at) folder None left left' entries on ends = tt
lists_all (Some at) folder (Some all) None left' entries (seen, rest, splits, now, are) ends = absurd cc
lists_all (Some at) folder (Some all) (Some left) left' entries (seen, rest, splits, now, are) ends =
    let none : rest ≡ [] = cc in
    are ∙ ap (filter_map (entry_of at folder)) (sym (splits ∙ ap (λ (t : List (List ℕ)). seen ++ t) none ∙ append-nil seen))

-- one more than the limit are more than the limit in all
pub lists_long : (places : Option Places) (folder name : List ℕ) (all left left' : Option (List (List ℕ))) (entries : List Entry) (s : Sort) (limit : ℕ)
    → ListsOn places folder all left entries → GivesName left left' (Some name) → IsListedAs places folder name s
    → limit < length (entries ++ option_to_list (listed_as s name)) → AllAre places folder all (λ (es : List Entry). limit < length es)
lists_long None folder name all left left' entries s limit on gives is long = tt
lists_long (Some at) folder name None left left' entries s limit on gives is long = tt
lists_long (Some at) folder name (Some all) None left' entries s limit (seen, rest, splits, now, are) gives is long = absurd cc
lists_long (Some at) folder name (Some all) (Some left) left' entries s limit (seen, rest, splits, now, are) (others, begins, then) is long =
    let same : left ≡ rest = cc in
    let cut : all ≡ (seen ++ name ∷ []) ++ others =
    splits ∙ ap (λ (t : List (List ℕ)). seen ++ t) (sym same ∙ begins) ∙ sym (append_assoc seen (name ∷ []) others) in
    let f = entry_of at folder in
    let front : filter_map f (seen ++ name ∷ []) ≡ entries ++ option_to_list (listed_as s name) =
    lists_one_more at folder name seen s is ∙ ap (λ (t : List Entry). t ++ option_to_list (listed_as s name)) (sym are) in
    let whole : filter_map f all ≡ (entries ++ option_to_list (listed_as s name)) ++ filter_map f others =
    ap (filter_map f) cut ∙ filter_map-append f (seen ++ name ∷ []) others ∙ ap (λ (t : List Entry). t ++ filter_map f others) front in
    let lengths = ap length whole in
    omega (arith, long, lengths, length-append (entries ++ option_to_list (listed_as s name)) (filter_map f others))

-- ---- counts

one_at_most : {X : Type 0} (o : Option X) → length (option_to_list o) ≤ 1
one_at_most None = omega arith
one_at_most (Some x) = omega arith

pub no_more_than : (entries entries' : List Entry) (o : Option Entry) (n : ℕ) → entries' ≡ entries ++ option_to_list o → length entries ≤ n
    → length entries' ≤ n + 1
no_more_than entries entries' o n is fewer = rw is (omega (arith, length-append entries (option_to_list o), one_at_most o))

-- ---- the folder that was opened

pub folder_is : (places places' : Option Places) (folder : List ℕ) (left : Option (List (List ℕ))) (Are : List Entry → Type 0)
    → IsFolderAt places folder left → places' ≡ places → AllAre places' folder left Are → FolderAtIs places folder Are
folder_is None places' folder left Are opened same all = tt
folder_is (Some at) places' folder left Are (names, stands, now) same all =
    let of_place = subst (λ (p : Option Places). AllAre p folder left Are) same all in
    let of_names = subst (λ (l : Option (List (List ℕ))). AllAre (Some at) folder l Are) now of_place in
    subst (λ (s : Stands). EntriesAre at folder s Are) (sym stands) of_names
