-- C20 to C27 are judged in three parts; and a world whose new classes got their links.
use Rattle.std.proofs.Common.{◌≡◌, ◌++◌, ◌≤◌, arith, List, length, map, inl, inr, sym, ap, ◌∙◌}
use Rattle.std.proofs.lemmas.List.{length-append}
use Rattle.std.proofs.lemmas.List.Elements.{Contains-append_cases}
use Rattle.jk_model.specs.declared.class_file.ClassFile.{ClassFile}
use Rattle.jk_model.specs.declared.identifiers.ClassId.{ClassId}
use Rattle.jk_model.specs.declared.output.Rule.{Rule}
use Rattle.jk_model_classes.specs.declared.records.ClassRecord.{ClassRecord}
use Rattle.jk_model_classes.specs.declared.records.Link.{Link}
use Rattle.jk_model_classes.specs.declared.sharing.ResolverLine.{ResolverLine}
use Rattle.jk_model_classes.specs.Worlds.{NamedClass, WorldRecord}
use Rattle.jk_model_folders.specs.FolderRules.{PlacedFolder, placed_rules}
use Rattle.jk_model_folders.specs.LinkedClasses.{without_links}
use Rattle.folder_loader.specs.ClassesInOrder.{StandsUnlinked, links_in}
use Rattle.folder_loader.specs.JudgedClasses.{KeepAll, code_rules, earlier_rules, link_rules, shared_rules}
use Rattle.folder_loader.specs.LinkedFolders.{HasMoreClasses}
use Rattle.folder_loader.specs.declared.placed.Placed.{Placed}

keep_both : (front back : List Rule) (w : WorldRecord) (files : List ClassFile) (p : PlacedFolder) → KeepAll front w files p → KeepAll back w files p
    → KeepAll (front ++ back) w files p
keep_both front back w files p h k rule i spot listed broken =
    elim (Contains-append_cases front back rule listed) [
      | inl early ↦ h rule i spot early broken
      | inr late ↦ k rule i spot late broken
    ]

pub keep_earlier : (w : WorldRecord) (files : List ClassFile) (p : PlacedFolder) → KeepAll link_rules w files p → KeepAll code_rules w files p
    → KeepAll earlier_rules w files p
keep_earlier w files p h k = keep_both link_rules code_rules w files p h k

pub keep_all : (w : WorldRecord) (files : List ClassFile) (p : PlacedFolder) → KeepAll link_rules w files p → KeepAll code_rules w files p
    → KeepAll shared_rules w files p → KeepAll placed_rules w files p
keep_all w files p h k l = keep_both earlier_rules shared_rules w files p (keep_earlier w files p h k) l

-- ---- The world.

module _ (w : WorldRecord) (lines : List ResolverLine) (files : List ClassFile) (names : List NamedClass) (x : Placed) (links : List (List Link))
    (mid : WorldRecord) (stands : StandsUnlinked w lines files names x links mid) where
  pub unlinked_more : HasMoreClasses w mid
  unlinked_more = (
    map without_links stands.0.is_placed.added,
    stands.2 ∙ ap (λ (xs : List ClassRecord). let v : WorldRecord = record w { classes = xs } in v) stands.0.is_placed.unlinked,
  )

  pub linked_world : (first : ClassId) (new : WorldRecord) → first ≡ x.first
      → ((base added : List ClassRecord) → mid.classes ≡ base ++ map without_links added → first.0 ≡ length base → links ≡ links_in added
      → new ≡ record mid { classes = base ++ added })
      → new ≡ record w { classes = stands.0.placed.classes }
  linked_world first new same set =
      let classes : mid.classes ≡ w.classes ++ map without_links stands.0.is_placed.added =
      ap (λ (v : WorldRecord). v.classes) stands.2 ∙ stands.0.is_placed.unlinked in
      let number = ap (λ (c : ClassId). c.0) same ∙ stands.0.first_is in
      let got = set w.classes stands.0.is_placed.added classes number stands.1 in
      got ∙ ap (λ (v : WorldRecord). let u : WorldRecord = record v { classes = w.classes ++ stands.0.is_placed.added } in u) stands.2
      ∙ ap (λ (xs : List ClassRecord). let v : WorldRecord = record w { classes = xs } in v) (sym stands.0.is_placed.classes)

  pub linked_more : (new : WorldRecord) → new ≡ record w { classes = stands.0.placed.classes } → HasMoreClasses w new
  linked_more new is = (
    stands.0.is_placed.added,
    is ∙ ap (λ (xs : List ClassRecord). let v : WorldRecord = record w { classes = xs } in v) stands.0.is_placed.classes,
  )

  pub first_there : (t : List ClassRecord) → t ≡ stands.0.placed.classes → x.first.0 ≤ length t
  first_there t same =
      let all = ap (λ (xs : List ClassRecord). length xs) (same ∙ stands.0.is_placed.classes) in
      omega (arith, stands.0.first_is, all, length-append w.classes stands.0.is_placed.added)
