-- A pool with what is known of its texts.
use Rattle.std.specs.Prelude.{ℕ, List, Option, Some, None}
use Rattle.jk_model.specs.declared.class_file.PoolEntry.{PoolEntry}
use Rattle.jk_model_classes.specs.Members.{TextAt, ClassAt, NameAndTypeAt, MemberKind}
use Rattle.class_rules.specs.declared.known_pool.KnownPool.{KnownPool}
use Rattle.class_rules.specs.declared.known_pool.Reference.{Reference}
use Rattle.class_rules.specs.declared.texts.TextFacts.{TextFacts}
use Rattle.class_rules.specs.Entries.{HasClassName, HasReference, kind_of}
use Rattle.class_rules.specs.Texts.{AreFacts, AreFactsOf}

-- what stands beside the pool is what is known of its texts
abbrev pub IsKnown : KnownPool → Type 0
IsKnown pool = AreFacts pool.entries.now pool.texts.now

-- what is known of the text at an index, or nothing where no text stands there
abbrev pub IsTextKnown : List PoolEntry → ℕ → Option TextFacts → Type 0
IsTextKnown pool i None = (units : List ℕ) → TextAt pool i units → ⊥
IsTextKnown pool i (Some facts) = (units : List ℕ) × TextAt pool i units × AreFactsOf pool units facts

-- what is known of a name and of a descriptor, or nothing where they don't stand at this index
abbrev pub ArePairKnown : List PoolEntry → ℕ → Option (TextFacts × TextFacts) → Type 0
ArePairKnown pool i None = (name descriptor : List ℕ) → NameAndTypeAt pool i name descriptor → ⊥
ArePairKnown pool i (Some known) =
    (name : List ℕ) × (descriptor : List ℕ) × NameAndTypeAt pool i name descriptor × AreFactsOf pool name known.0
    × AreFactsOf pool descriptor known.1

-- what is known of the name of a class, or nothing where the entry is none
abbrev pub IsClassKnown : List PoolEntry → PoolEntry → Option TextFacts → Type 0
IsClassKnown pool entry None = (units : List ℕ) → HasClassName pool entry units → ⊥
IsClassKnown pool entry (Some facts) = (units : List ℕ) × HasClassName pool entry units × AreFactsOf pool units facts

-- what is known of the name of the class at an index, or nothing where no class stands there
abbrev pub IsNameKnown : List PoolEntry → ℕ → Option TextFacts → Type 0
IsNameKnown pool i None = (units : List ℕ) → ClassAt pool i units → ⊥
IsNameKnown pool i (Some facts) = (units : List ℕ) × ClassAt pool i units × AreFactsOf pool units facts

-- what is known of a reference, or nothing where the entry is none
abbrev pub IsReferenceKnown : List PoolEntry → PoolEntry → Option Reference → Type 0
IsReferenceKnown pool entry None = (kind : MemberKind) (name descriptor : List ℕ) → HasReference pool entry kind name descriptor → ⊥
IsReferenceKnown pool entry (Some found) =
    (name : List ℕ) × (descriptor : List ℕ) × HasReference pool entry (kind_of found.kind) name descriptor × AreFactsOf pool name found.name
    × AreFactsOf pool descriptor found.descriptor
