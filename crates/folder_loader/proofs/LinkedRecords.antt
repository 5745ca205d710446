-- The records of a folder's classes with their links, and what is known of each.
use Rattle.std.proofs.Common.{◌≡◌, ℕ, zero, suc, ◌<◌, List, [], ◌∷◌, length, map, take, Some, slice_get, refl, sym, ap, ◌∙◌, arith}
use Rattle.std.specs.List.{AllByRecursion, AllZip, sum_by}
use Rattle.std.proofs.lemmas.List.Sums.{sum_by-cons}
use Rattle.list_lemmas.proofs.ItemsByPlace.{item_there}
use Rattle.jk_model.specs.declared.class_file.ClassFile.{ClassFile}
use Rattle.jk_model.specs.declared.identifiers.ClassId.{ClassId}
use Rattle.jk_model.specs.declared.identifiers.DomainId.{DomainId}
use Rattle.jk_model_classes.specs.declared.records.ClassRecord.{ClassRecord}
use Rattle.jk_model_classes.specs.declared.records.Link.{Link}
use Rattle.jk_model_classes.specs.LinkRules.{LinkScope}
use Rattle.jk_model_classes.specs.Worlds.{NamedClass, class_named}
use Rattle.jk_model_folders.specs.LinkedClasses.{IsRecordFor, without_links}
use Rattle.class_linker.specs.LinkedFiles.{HasNames}
use Rattle.folder_loader.specs.ClassesInOrder.{AreLinksAmong, AreListsOf, AreOfFiles, IsRecordYet, links_in}

-- ---- Records with links.

abbrev pub with_links : ClassRecord → List Link → ClassRecord
with_links r links = record r { links = links }

abbrev pub linked : List ClassRecord → List (List Link) → List ClassRecord
linked [] all = []
linked (r ∷ rs) [] = []
linked (r ∷ rs) (links ∷ all) = with_links r links ∷ linked rs all

same_without : (r : ClassRecord) (links : List Link) → r.links ≡ [] → without_links (with_links r links) ≡ r
same_without r links none = ap (λ (l : List Link). with_links r l) (sym none)

pub unlinked_again : (rs : List ClassRecord) (all : List (List Link)) → length all ≡ length rs → AllByRecursion (λ (r : ClassRecord). r.links ≡ []) rs
    → map without_links (linked rs all) ≡ rs
unlinked_again [] all many none = refl
unlinked_again (r ∷ rs) [] many none = absurd (omega (arith, many))
unlinked_again (r ∷ rs) (links ∷ all) many none =
    let rest = unlinked_again rs all (omega (arith, many)) none.1 in
    let first = same_without r links none.0 in
    ap (λ (xs : List ClassRecord). without_links (with_links r links) ∷ xs) rest ∙ ap (λ (x : ClassRecord). x ∷ rs) first

pub links_again : (rs : List ClassRecord) (all : List (List Link)) → length all ≡ length rs → links_in (linked rs all) ≡ all
links_again [] [] many = refl
links_again [] (links ∷ all) many = absurd (omega (arith, many))
links_again (r ∷ rs) [] many = absurd (omega (arith, many))
links_again (r ∷ rs) (links ∷ all) many = ap (λ (xs : List (List Link)). links ∷ xs) (links_again rs all (omega (arith, many)))

same_record : (s : LinkScope) (home : DomainId) (c : ClassFile) (r : ClassRecord) (links : List Link) → IsRecordFor s home c r
    → IsRecordFor s home c (with_links r links)
same_record s home c r links h = record {
  name = h.name;
  at_home = h.at_home;
  flags = h.flags;
  parent = h.parent;
  interfaces = h.interfaces;
  fields = h.fields;
  methods = h.methods;
  references = h.references;
}

-- a record of the file, whose links are those of its pool
abbrev pub IsRecordNow : List NamedClass → DomainId → List ClassRecord → ClassFile → ClassRecord → Type 0
IsRecordNow table home classes c r = ((s : LinkScope) → HasNames table s → IsRecordFor s home c r) × AreLinksAmong table classes c r.links

module _ (table : List NamedClass) (home : DomainId) (files : List ClassFile) where
  pub each_empty : (order : List ℕ) (rs : List ClassRecord) → ((k i : ℕ) → slice_get order k ≡ Some i → i < length files)
      → AreOfFiles (IsRecordYet table home) files order rs → AllByRecursion (λ (r : ClassRecord). r.links ≡ []) rs
  each_empty [] [] places h = tt
  each_empty [] (r ∷ rs) places h = absurd h
  each_empty (i ∷ order) [] places h = absurd h
  each_empty (i ∷ order) (r ∷ rs) places h =
      let file = item_there files i (places 0 i refl) in
      ((h.0 file.0 file.1).0, each_empty order rs (λ k j at. places (suc k) j at) h.1)

  pub linked_made : (classes : List ClassRecord) (order : List ℕ) (rs : List ClassRecord) (all : List (List Link))
      → AreOfFiles (IsRecordYet table home) files order rs → AreOfFiles (AreLinksAmong table classes) files order all
      → AreOfFiles (IsRecordNow table home classes) files order (linked rs all)
  linked_made classes [] [] [] h k = tt
  linked_made classes [] [] (links ∷ all) h k = absurd k
  linked_made classes [] (r ∷ rs) all h k = absurd h
  linked_made classes (i ∷ order) [] all h k = absurd h
  linked_made classes (i ∷ order) (r ∷ rs) [] h k = absurd k
  linked_made classes (i ∷ order) (r ∷ rs) (links ∷ all) h k = (
    λ c at. (λ s named. same_record s home c r links ((h.0 c at).1 s named), k.0 c at),
    linked_made classes order rs all h.1 k.1,
  )

  -- ---- As many lists as methods.

  abbrev named_scope : LinkScope
  named_scope = record { meaning = class_named table; classes = []; self = record { 0 = 0 } }

  abbrev HasListEach : List (List ClassId) → ClassRecord → Type 0
  HasListEach lists r = length lists ≡ length r.methods

  pub lists_go_along : (classes : List ClassRecord) (order : List ℕ) (rs : List ClassRecord) (groups : List (List (List ClassId)))
      → ((k i : ℕ) → slice_get order k ≡ Some i → i < length files) → AreOfFiles (IsRecordNow table home classes) files order rs
      → AreOfFiles (AreListsOf table) files order groups → AllZip HasListEach groups rs
  lists_go_along classes [] [] [] places h k = tt
  lists_go_along classes [] [] (lists ∷ groups) places h k = absurd k
  lists_go_along classes [] (r ∷ rs) groups places h k = absurd h
  lists_go_along classes (i ∷ order) [] groups places h k = absurd h
  lists_go_along classes (i ∷ order) (r ∷ rs) [] places h k = absurd k
  lists_go_along classes (i ∷ order) (r ∷ rs) (lists ∷ groups) places h k =
      let file = item_there files i (places 0 i refl) in
      let many = ((h.0 file.0 file.1).0 named_scope (λ name. refl)).methods.as_many in
      let lists_many = (k.0 file.0 file.1 named_scope (λ name. refl)).as_many in
      (lists_many ∙ sym many, lists_go_along classes order rs groups (λ n j at. places (suc n) j at) h.1 k.1)

pub same_sums : (groups : List (List (List ClassId))) (rs : List ClassRecord)
    → AllZip (λ (lists : List (List ClassId)) (r : ClassRecord). length lists ≡ length r.methods) groups rs
    → sum_by (λ (lists : List (List ClassId)). length lists) groups ≡ sum_by (λ (r : ClassRecord). length r.methods) rs
same_sums [] [] h = refl
same_sums [] (r ∷ rs) h = absurd h
same_sums (lists ∷ groups) [] h = absurd h
same_sums (lists ∷ groups) (r ∷ rs) h =
    let rest = same_sums groups rs h.1 in
    omega (arith, h.0, rest, sum_by-cons (λ (x : List (List ClassId)). length x) lists groups, sum_by-cons (λ (x : ClassRecord). length x.methods) r rs)

pub first_of_both : {X Y : Type 0} (R : X → Y → Type 0) (n : ℕ) (xs : List X) (ys : List Y) → AllZip R xs ys → AllZip R (take n xs) (take n ys)
first_of_both R zero xs ys h = tt
first_of_both R (suc n) [] [] h = tt
first_of_both R (suc n) [] (y ∷ ys) h = absurd h
first_of_both R (suc n) (x ∷ xs) [] h = absurd h
first_of_both R (suc n) (x ∷ xs) (y ∷ ys) h = (h.0, first_of_both R n xs ys h.1)
