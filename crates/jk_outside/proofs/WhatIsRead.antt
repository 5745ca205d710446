-- What is seen of what stands at a path says whether it is read, also where it is looked at again after it was opened.
use Rattle.std.proofs.Common.{◌≡◌, ℕ, Bool, true, false, List, Option, Some, None, refl, sym, ◌∙◌, subst}
use Rattle.std.specs.Prelude.{⊤}
use Rattle.std.proofs.lemmas.Bool.{false≢true}
use Rattle.std.specs.declared.fs.attrs.FileType.{FileType}
use Rattle.jk_outside.specs.declared.found.Sort.{Sort}
use Rattle.jk_outside.specs.declared.found.Sort.TheVariants as sort
use Rattle.jk_outside.specs.FolderWalks.{IsSortOf}
use Rattle.jk_outside.specs.Reading.{may_be_read}
use Rattle.jk_outside.specs.Systems.{Places, Stands, Nothing, Folder, File, Pipe, LooksLike, IsSeenAt, IsSeenOpen, IsOpenedAt, BytesAre, HasToRead, FileAtIs, IsOpenToRead}

stands_to_read : (pipes : Bool) (stands : Stands) (type : FileType) (s : Sort) → LooksLike stands type → IsSortOf type s → may_be_read s pipes ≡ false
    → BytesAre pipes stands (λ bytes. ⊤) → ⊥
stands_to_read pipes Nothing type s seen is none there = seen
stands_to_read pipes (Folder names) type s seen is none there = there
stands_to_read pipes (File bytes) type s seen is none there =
    let at : s ≡ sort.File = is.1.1 seen in
    let read : may_be_read s pipes ≡ true = rw at refl in
    false≢true (sym none ∙ read)
stands_to_read pipes Pipe type sort.Folder seen is none there = seen.0 (is.0.0 refl)
stands_to_read pipes Pipe type sort.File seen is none there = seen.1 (is.1.0 refl)
stands_to_read pipes Pipe type sort.Other seen is none there = false≢true (sym none ∙ there)

pub judged : (pipes : Bool) (places : Option Places) (path : List ℕ) (type : FileType) (s : Sort) → IsSeenAt places path type → IsSortOf type s
    → may_be_read s pipes ≡ false → HasToRead pipes places path → ⊥
judged pipes None path type s seen is none there = there
judged pipes (Some at) path type s seen is none there = stands_to_read pipes (at path) type s seen is none there

pub opened_seen : (places : Option Places) (path : List ℕ) (opened : Option Stands) (left : Option (List ℕ)) (type : FileType)
    → IsOpenedAt places path opened left → IsSeenOpen opened type → IsSeenAt places path type
opened_seen None path opened left type is seen = tt
opened_seen (Some at) path None left type is seen = absurd cc
opened_seen (Some at) path (Some stands) left type is seen = let same : stands ≡ at path = cc in subst (λ (s : Stands). LooksLike s type) same seen

stands_read : (pipes : Bool) (stands : Stands) (type : FileType) (s : Sort) → LooksLike stands type → IsSortOf type s → may_be_read s pipes ≡ true
    → BytesAre pipes stands (λ bytes. ⊤)
stands_read pipes Nothing type s seen is read = absurd seen
stands_read pipes (Folder names) type s seen is read =
    let at : s ≡ sort.Folder = is.0.1 seen in
    let none : may_be_read s pipes ≡ false = rw at refl in
    absurd (false≢true (sym none ∙ read))
stands_read pipes (File bytes) type s seen is read = tt
stands_read pipes Pipe type sort.Folder seen is read = absurd (seen.0 (is.0.0 refl))
stands_read pipes Pipe type sort.File seen is read = absurd (seen.1 (is.1.0 refl))
stands_read pipes Pipe type sort.Other seen is read = read

-- what is seen and read is told to be something to be read
pub may_open : (pipes : Bool) (places : Option Places) (path : List ℕ) (type : FileType) (s : Sort) → IsSeenAt places path type → IsSortOf type s
    → may_be_read s pipes ≡ true → FileAtIs pipes places path (λ bytes. ⊤)
may_open pipes None path type s seen is read = tt
may_open pipes (Some at) path type s seen is read = stands_read pipes (at path) type s seen is read

pub is_open_to_read : (pipes : Bool) (opened : Option Stands) (type : FileType) (s : Sort) → IsSeenOpen opened type → IsSortOf type s
    → may_be_read s pipes ≡ true → IsOpenToRead pipes opened
is_open_to_read pipes None type s seen is read = tt
is_open_to_read pipes (Some stands) type s seen is read = stands_read pipes stands type s seen is read
