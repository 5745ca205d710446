-- The first line of a folder's `resolver.txt` that breaks L6, and the first that breaks L7.
use Rattle.std.specs.Prelude.{◌≡◌, ℕ, ◌<◌, ⊤, List, Ok, Some, slice_get}
use Rattle.jk_model_classes.specs.declared.sharing.ResolverLine.{ResolverLine}
use Rattle.jk_model_classes.specs.Resolver.{resolver_of}
use Rattle.jk_model_classes.specs.ResolverRules.{BreaksL6}
use Rattle.jk_model_classes.specs.Worlds.{WorldRecord}
use Rattle.jk_model_folders.specs.declared.files.FolderFiles.{FolderFiles}
use Rattle.jk_model_folders.specs.FolderRules.{BreaksL7, class_paths}
use Rattle.resolver_rules.specs.declared.outer.ResolverFault.{ResolverFault}
use Rattle.resolver_rules.specs.declared.outer.ResolverFault.TheVariants.{BadLine, NotOffered, OutOfMemory}

-- the line with this number breaks L6, and none before it does
pub record IsFirstBadLine (f : FolderFiles) (n : ℕ) : Type 0 where
  pub broken : BreaksL6 (class_paths f) f.resolver n
  pub least : (m : ℕ) → m < n → BreaksL6 (class_paths f) f.resolver m → ⊥

-- No line breaks L6, and the line with this number breaks L7, and none before it does.
pub record IsFirstNotOffered (f : FolderFiles) (w : WorldRecord) (into : List ℕ) (n : ℕ) : Type 0 where
  pub lines : List ResolverLine
  pub says : resolver_of f.resolver ≡ Ok lines
  pub shares : (m : ℕ) → BreaksL6 (class_paths f) f.resolver m → ⊥
  pub place : ℕ
  pub line : ResolverLine
  pub there : slice_get lines place ≡ Some line
  pub number : n ≡ line.line
  pub broken : BreaksL7 f w into lines place
  pub least : (lower : ℕ) → lower < place → BreaksL7 f w into lines lower → ⊥

-- ---- Of each answer that refuses a `resolver.txt`, what it says. Want of memory says nothing.

abbrev pub IsGrammarFault : FolderFiles → ResolverFault → Type 0
IsGrammarFault f (BadLine n) = IsFirstBadLine f n
IsGrammarFault f (NotOffered n) = ⊥
IsGrammarFault f OutOfMemory = ⊤

abbrev pub IsImportFault : FolderFiles → WorldRecord → List ℕ → ResolverFault → Type 0
IsImportFault f w into (BadLine n) = ⊥
IsImportFault f w into (NotOffered n) = IsFirstNotOffered f w into n
IsImportFault f w into OutOfMemory = ⊤

abbrev pub IsResolverFault : FolderFiles → WorldRecord → List ℕ → ResolverFault → Type 0
IsResolverFault f w into (BadLine n) = IsFirstBadLine f n
IsResolverFault f w into (NotOffered n) = IsFirstNotOffered f w into n
IsResolverFault f w into OutOfMemory = ⊤
