-- The files that were read are those of the folder, and what makes it too large there.
use Rattle.std.proofs.Common.{◌≡◌, ℕ, true, List, length, Option, map, sym, ap, ◌∙◌, subst, arith}
use Rattle.std.specs.Prelude.{string_bytes, Contains, IsUtf8}
use Rattle.std.specs.List.{AllByRecursion, list_any}
use Rattle.std.proofs.lemmas.List.{length-map}
use Rattle.jk_model.specs.Outside.{FileIs, Tree}
use Rattle.jk_model.proofs.EachItem.{all_weaker}
use Rattle.jk_model_folders.specs.FolderTrees.{RESOLVER}
use Rattle.folder_reader.specs.declared.found.Found.{Found}
use Rattle.folder_reader.specs.Calls.{HasFile, HasFolder, IsLongFile}
use Rattle.folder_reader.specs.Listings.{AreRead, IsToRead}
use Rattle.folder_reader.specs.Paths.{class_paths, is_resolver, whole_path}
use Rattle.folder_reader.specs.Walks.{IsFound, IsToldWalk}
use Rattle.folder_reader.proofs.CallsInTurn.{asked_since, handed_on, moved, moved_back, moves_on}
use Rattle.folder_reader.proofs.CountsTaken.{few_paths, took_fewer, took_later}
use Rattle.folder_reader.proofs.WholeWalk.{are_files, are_told_files, folder_there, resolver_there, to_read_all, too_long_resolver, too_many_files}
use Rattle.folder_reader.proofs.AsksApart.{all_once, asks_folders, classes_once, reads_same}
use Rattle.folder_reader.proofs.reading.read_folder.Goals as goal

pub sorted_paths-requires : goal.sorted_paths-requires
sorted_paths-requires g c =
    subst (AllByRecursion (λ (f : Found). IsUtf8 f.path)) (sym c.as_slice.ensures.value)
    (all_weaker (IsFound c.args.root.now) _ c.in_ok-found.found.items (λ f h. h.utf8) c.in_ok-found.ensures.found)

pub returns-then-len-gt-MOST_FILES-clause-too_large : goal.returns-then-len-gt-MOST_FILES-clause-too_large
returns-then-len-gt-MOST_FILES-clause-too_large g c = λ _.
    let tree = g.F.Files.tree c.args.files.now in let root = c.args.root.now in let v = c.in_ok-found.found in let p = c.in_ok-paths.paths in
    let full = subst (λ (n : ℕ). IsToldWalk tree root v.items n) v.ok.0 c.in_ok-found.ensures.walk in
    let to_read = to_read_all tree root v.items (length v.items) (map string_bytes p.items) c.in_ok-found.ensures.found full
    (λ path h. subst (λ (xs : List Found). Contains (class_paths xs) path) c.as_slice.ensures.value (c.in_ok-paths.ensures.only path h)) in
    too_many_files tree root (map string_bytes p.items) to_read c.in_ok-paths.ensures.apart (folder_there tree root v.items full)
    (let count = length-map p.items string_bytes in omega (arith, count, c.if-len-gt-MOST_FILES.true, c.len.ensures, p.ok.0))

pub read_classes-requires-clause-to_read : goal.read_classes-requires-clause-to_read
read_classes-requires-clause-to_read g c =
    let tree = g.F.Files.tree c.args.files.now in let root = c.args.root.now in let v = c.in_ok-found.found in let p = c.in_ok-paths.paths in
    let to_read = to_read_all tree root v.items _ (map string_bytes p.items) c.in_ok-found.ensures.found c.in_ok-found.ensures.walk
    (λ path h. subst (λ (xs : List Found). Contains (class_paths xs) path) c.as_slice.ensures.value (c.in_ok-paths.ensures.only path h)) in
    moved (λ (t : Option Tree) xs. AllByRecursion (IsToRead t root) (map string_bytes xs)) tree _ p.items _ c.in_ok-found.ensures.moves.stays
    c.as_slice-2.ensures.value to_read

pub read_classes-requires-clause-folder : goal.read_classes-requires-clause-folder
read_classes-requires-clause-folder g c =
    let tree = g.F.Files.tree c.args.files.now in let root = c.args.root.now in let v = c.in_ok-found.found in
    let full = subst (λ (n : ℕ). IsToldWalk tree root v.items n) v.ok.0 c.in_ok-found.ensures.walk in
    subst (λ (t : Option Tree). HasFolder t root) (sym c.in_ok-found.ensures.moves.stays) (folder_there tree root v.items full)

pub read_resolver-requires : goal.read_resolver-requires
read_resolver-requires g c = λ any.
    let tree = g.F.Files.tree c.args.files.now in let root = c.args.root.now in let v = c.in_ok-found.found in
    let here : list_any is_resolver v.items ≡ true = sym (ap (list_any is_resolver) c.as_slice-3.ensures.value) ∙ any in
    subst (λ (t : Option Tree). HasFile t (whole_path root RESOLVER)) (sym (c.in_ok-classes.ensures.moves.stays ∙ c.in_ok-found.ensures.moves.stays))
    (resolver_there tree root v.items _ c.in_ok-found.ensures.walk here)

pub returns-in_err-resolver-clause-too_large : goal.returns-in_err-resolver-clause-too_large
returns-in_err-resolver-clause-too_large g c = λ is.
    let tree = g.F.Files.tree c.args.files.now in let root = c.args.root.now in let v = c.in_ok-found.found in
    let full = subst (λ (n : ℕ). IsToldWalk tree root v.items n) v.ok.0 c.in_ok-found.ensures.walk in
    let r = c.from_residual-in_err-resolver in
    let long = c.read_resolver.ensures.too_large
    (handed_on r.result c.in_err-resolver.field-0.0 _ c.read_resolver.result r.ensures.1 is c.in_err-resolver.was) in
    too_long_resolver tree root v.items (length v.items) full (folder_there tree root v.items full)
    (sym (ap (list_any is_resolver) c.as_slice-3.ensures.value) ∙ long.0)
    (subst (λ (t : Option Tree). IsLongFile t (whole_path root RESOLVER)) (c.in_ok-classes.ensures.moves.stays ∙ c.in_ok-found.ensures.moves.stays) long.1)

pub returns-clause-files : goal.returns-clause-files
returns-clause-files g c =
    let tree = g.F.Files.tree c.args.files.now in let root = c.args.root.now in let v = c.in_ok-found.found in let p = c.in_ok-paths.paths in
    let to_read = to_read_all tree root v.items _ (map string_bytes p.items) c.in_ok-found.ensures.found c.in_ok-found.ensures.walk
    (λ path h. subst (λ (xs : List Found). Contains (class_paths xs) path) c.as_slice.ensures.value (c.in_ok-paths.ensures.only path h)) in
    let read = moved_back (λ (t : Option Tree) xs. AreRead t root (map string_bytes xs) c.in_ok-classes.classes) tree _ p.items _
    c.in_ok-found.ensures.moves.stays c.as_slice-2.ensures.value c.in_ok-classes.ensures.read in
    let count = length-map p.items string_bytes in
    are_files tree root (map string_bytes p.items) _ read c.in_ok-paths.ensures.rising to_read
    (omega (arith, count, c.if-len-gt-MOST_FILES.false, c.len.ensures, p.ok.0)) c.in_ok-resolver.ensures.short

pub returns-clause-told : goal.returns-clause-told
returns-clause-told g c =
    let tree = g.F.Files.tree c.args.files.now in let root = c.args.root.now in let v = c.in_ok-found.found in let p = c.in_ok-paths.paths in
    let full = subst (λ (n : ℕ). IsToldWalk tree root v.items n) v.ok.0 c.in_ok-found.ensures.walk in
    let to_read = to_read_all tree root v.items (length v.items) (map string_bytes p.items) c.in_ok-found.ensures.found full
    (λ path h. subst (λ (xs : List Found). Contains (class_paths xs) path) c.as_slice.ensures.value (c.in_ok-paths.ensures.only path h)) in
    let read = moved_back (λ (t : Option Tree) xs. AreRead t root (map string_bytes xs) c.in_ok-classes.classes) tree _ p.items _
    c.in_ok-found.ensures.moves.stays c.as_slice-2.ensures.value c.in_ok-classes.ensures.read in
    let count = length-map p.items string_bytes in
    let any = ap (list_any is_resolver) c.as_slice-3.ensures.value in
    let stays = c.in_ok-classes.ensures.moves.stays ∙ c.in_ok-found.ensures.moves.stays in
    are_told_files tree root v.items full (omega (arith, c.in_ok-found.ensures.few, v.ok.0)) (map string_bytes p.items) _ read
    (omega (arith, count, c.if-len-gt-MOST_FILES.false, c.len.ensures, p.ok.0))
    (λ path h. c.in_ok-paths.ensures.kept path (subst (λ (xs : List Found). Contains (class_paths xs) path) (sym c.as_slice.ensures.value) h)) to_read
    (λ has. subst (λ (t : Option Tree). FileIs t (whole_path root RESOLVER) c.in_ok-resolver.resolver) stays (c.in_ok-resolver.ensures.bytes (any ∙ has)))
    (λ none. c.in_ok-resolver.ensures.none (any ∙ none)) c.in_ok-resolver.ensures.short

pub returns-in_err-classes-clause-something : goal.returns-in_err-classes-clause-something
returns-in_err-classes-clause-something g c = λ is.
    let r = c.from_residual-in_err-classes in
    asked_since c.args.root.now _ _ _ _ _ _ _ _ _ _ _ _ c.in_ok-found.ensures.moves c.read_classes.ensures.moves
    (c.read_classes.ensures.something
    (handed_on r.result c.in_err-classes.field-0.0 _ c.read_classes.result r.ensures.1 is c.in_err-classes.was))

pub returns-in_err-resolver-clause-something : goal.returns-in_err-resolver-clause-something
returns-in_err-resolver-clause-something g c = λ is.
    let r = c.from_residual-in_err-resolver in
    let before = moves_on c.args.root.now _ _ _ _ _ _ _ _ _ _ _ _ c.in_ok-found.ensures.moves c.in_ok-classes.ensures.moves in
    asked_since c.args.root.now _ _ _ _ _ _ _ _ _ _ _ _ before c.read_resolver.ensures.moves
    (c.read_resolver.ensures.something
    (handed_on r.result c.in_err-resolver.field-0.0 _ c.read_resolver.result r.ensures.1 is c.in_err-resolver.was))

pub returns-then-len-gt-MOST_FILES-clause-large : goal.returns-then-len-gt-MOST_FILES-clause-large
returns-then-len-gt-MOST_FILES-clause-large g c = λ _.
    let v = c.in_ok-found.found in let p = c.in_ok-paths.paths in
    let few = few_paths p.items v.items c.in_ok-paths.ensures.apart
    (λ path h. subst (λ (xs : List Found). Contains (class_paths xs) path) c.as_slice.ensures.value (c.in_ok-paths.ensures.only path h)) in
    took_fewer _ _ 17 _ _ (omega (arith, few, c.if-len-gt-MOST_FILES.true, c.len.ensures, p.ok.0, v.ok.0)) c.in_ok-found.ensures.counted

pub returns-in_err-classes-clause-large : goal.returns-in_err-classes-clause-large
returns-in_err-classes-clause-large g c = λ is.
    let r = c.from_residual-in_err-classes in
    let before = c.in_ok-found.ensures.moves in
    took_later _ _ 17 _ _ _ before.stays before.taken
    (c.read_classes.ensures.large (handed_on r.result c.in_err-classes.field-0.0 _ c.read_classes.result r.ensures.1 is c.in_err-classes.was))

pub returns-in_err-resolver-clause-large : goal.returns-in_err-resolver-clause-large
returns-in_err-resolver-clause-large g c = λ is.
    let r = c.from_residual-in_err-resolver in
    let before = moves_on c.args.root.now _ _ _ _ _ _ _ _ _ _ _ _ c.in_ok-found.ensures.moves c.in_ok-classes.ensures.moves in
    took_later _ _ 17 _ _ _ before.stays before.taken
    (c.read_resolver.ensures.large (handed_on r.result c.in_err-resolver.field-0.0 _ c.read_resolver.result r.ensures.1 is c.in_err-resolver.was))

pub returns-in_err-found-clause-once : goal.returns-in_err-found-clause-once
returns-in_err-found-clause-once g c = asks_folders _ _ _ c.found_below.ensures.once

pub returns-in_err-paths-clause-once : goal.returns-in_err-paths-clause-once
returns-in_err-paths-clause-once g c = asks_folders _ _ _ c.in_ok-found.ensures.once

pub returns-then-len-gt-MOST_FILES-clause-once : goal.returns-then-len-gt-MOST_FILES-clause-once
returns-then-len-gt-MOST_FILES-clause-once g c = asks_folders _ _ _ c.in_ok-found.ensures.once

pub returns-in_err-classes-clause-once : goal.returns-in_err-classes-clause-once
returns-in_err-classes-clause-once g c =
    let tree = g.F.Files.tree c.args.files.now in let root = c.args.root.now in let v = c.in_ok-found.found in let p = c.in_ok-paths.paths in
    let to_read = to_read_all tree root v.items _ (map string_bytes p.items) c.in_ok-found.ensures.found c.in_ok-found.ensures.walk
    (λ path h. subst (λ (xs : List Found). Contains (class_paths xs) path) c.as_slice.ensures.value (c.in_ok-paths.ensures.only path h)) in
    classes_once tree tree root _ _ _ (map string_bytes p.items) to_read c.in_ok-paths.ensures.apart c.in_ok-found.ensures.once
    (reads_same root _ _ _ p.items c.as_slice-2.ensures.value c.read_classes.ensures.once)

pub returns-in_err-resolver-clause-once : goal.returns-in_err-resolver-clause-once
returns-in_err-resolver-clause-once g c =
    let tree = g.F.Files.tree c.args.files.now in let root = c.args.root.now in let v = c.in_ok-found.found in let p = c.in_ok-paths.paths in
    let to_read = to_read_all tree root v.items _ (map string_bytes p.items) c.in_ok-found.ensures.found c.in_ok-found.ensures.walk
    (λ path h. subst (λ (xs : List Found). Contains (class_paths xs) path) c.as_slice.ensures.value (c.in_ok-paths.ensures.only path h)) in
    all_once tree tree root _ _ _ _ (map string_bytes p.items) to_read c.in_ok-paths.ensures.apart c.in_ok-found.ensures.once
    (reads_same root _ _ _ p.items c.as_slice-2.ensures.value c.in_ok-classes.ensures.once) c.read_resolver.ensures.once

pub returns-clause-once : goal.returns-clause-once
returns-clause-once g c =
    let tree = g.F.Files.tree c.args.files.now in let root = c.args.root.now in let v = c.in_ok-found.found in let p = c.in_ok-paths.paths in
    let to_read = to_read_all tree root v.items _ (map string_bytes p.items) c.in_ok-found.ensures.found c.in_ok-found.ensures.walk
    (λ path h. subst (λ (xs : List Found). Contains (class_paths xs) path) c.as_slice.ensures.value (c.in_ok-paths.ensures.only path h)) in
    all_once tree tree root _ _ _ _ (map string_bytes p.items) to_read c.in_ok-paths.ensures.apart c.in_ok-found.ensures.once
    (reads_same root _ _ _ p.items c.as_slice-2.ensures.value c.in_ok-classes.ensures.once) c.in_ok-resolver.ensures.once

pub returns-in_err-resolver-clause-asks : goal.returns-in_err-resolver-clause-asks
returns-in_err-resolver-clause-asks g c =
    let before = moves_on c.args.root.now _ _ _ _ _ _ _ _ _ _ _ _ c.in_ok-found.ensures.moves c.in_ok-classes.ensures.moves in
    (moves_on c.args.root.now _ _ _ _ _ _ _ _ _ _ _ _ before c.read_resolver.ensures.moves).asks

pub returns-clause-asks : goal.returns-clause-asks
returns-clause-asks g c =
    let before = moves_on c.args.root.now _ _ _ _ _ _ _ _ _ _ _ _ c.in_ok-found.ensures.moves c.in_ok-classes.ensures.moves in
    (moves_on c.args.root.now _ _ _ _ _ _ _ _ _ _ _ _ before c.in_ok-resolver.ensures.moves).asks
