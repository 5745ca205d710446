-- What opening a domain asks of the parts of a kernel, where its folder is loaded; what it makes of them; and why it doesn't.
use Rattle.std.specs.Prelude.{◌≡◌, ◌<◌, ◌≤◌, ◌⊎◌, ⊤, true, ℕ, List, [], ◌∷◌, ◌++◌, length, Option, Some, None}
use Rattle.jk_model.specs.declared.identifiers.ClassId.{ClassId}
use Rattle.jk_model.specs.declared.identifiers.DomainId.{DomainId}
use Rattle.jk_model.specs.declared.script.Quotas.{Quotas}
use Rattle.jk_model_classes.specs.Classes.{HasClass}
use Rattle.jk_model_classes.specs.Worlds.{DomainRecord, IsLiveNamed, IsNamed, WorldRecord}
use Rattle.jk_model_domains.specs.OwnStates.{IsFirstState}
use Rattle.jk_model_frames.specs.Pools.{HasNoPlace}
use Rattle.jk_model_sharing.specs.CapabilityCalls.{LacksNumbers}
use Rattle.jk_model_sharing.specs.SharedStates.{SharedState, admitted, caps_of}
use Rattle.class_init.specs.KeptStates.{HasFirstRooms, KeptState}
use Rattle.object_store.specs.HeapContents.{HeapContent, pages_for}
use Rattle.object_store.specs.HeapContents.{Admits as AdmitsHeap, HasFewDomains as HasFewHeaps, IsSame as IsSameHeap, pool_of as heap_pool}
use Rattle.frame_store.specs.FrameContents.{FrameContent}
use Rattle.frame_store.specs.FrameContents.{Admits as AdmitsStack, HasFewDomains as HasFewStacks, IsSame as IsSameStack, pool_of as stack_pool}
use Rattle.folder_loader.specs.declared.answers.Loaded.{Loaded}
use Rattle.heap_laws.specs.SoundCodes.{AreSoundCodes}
use Rattle.kernel_openings.specs.declared.answers.AddAnswer.{AddAnswer}
use Rattle.kernel_openings.specs.declared.answers.AddAnswer.TheVariants as Adding
use Rattle.kernel_openings.specs.StandingObjects.{MakesStanding}

-- the parts but for what never changes where a domain is opened
pub record OpenParts : Type 0 where
  pub world : WorldRecord
  pub owns : List (Option KeptState)
  pub shared : SharedState
  pub heap : HeapContent
  pub frames : FrameContent

abbrev pub next_number : OpenParts → DomainId
next_number p = record { 0 = length p.world.domains }

-- ---- What is asked.

-- The names of the folder mean classes that are there, all of which are sound; no live domain has its name; and the next number is that of
-- no domain in any part.
pub record MayOpen (p : OpenParts) (l : Loaded) (name : List ℕ) : Type 0 where
  pub there : (c : ClassId) → IsNamed l.table c → HasClass p.world.classes c
  pub codes : AreSoundCodes p.world.classes
  pub not_live : (d : DomainId) → IsLiveNamed p.world name d → ⊥
  pub as_many : length p.shared.domains ≡ length p.world.domains
  pub new_heap : p.heap.quota (next_number p) ≡ None
  pub new_stack : p.frames.quota (next_number p) ≡ None
  pub few_heaps : HasFewHeaps p.heap
  pub few_stacks : HasFewStacks p.frames

-- a script asks for no other quotas
pub record AreAsked (q : Quotas) : Type 0 where
  pub words : (44 ≤ q.heap) × (q.heap ≤ 16777216)
  pub chunks : (1 ≤ q.chunks) × (q.chunks ≤ 262144)
  pub counts : (q.threads ≤ 4096) × (q.names ≤ 4096)

-- ---- Why it isn't opened.

-- no free run of pages is long enough for the heap, or for the stacks
abbrev pub LacksPlaces : OpenParts → Quotas → Type 0
LacksPlaces p q = HasNoPlace (heap_pool p.heap) (pages_for q.heap) ⊎ HasNoPlace (stack_pool p.frames) q.chunks

abbrev pub LacksNumbersIn : OpenParts → Quotas → Type 0
LacksNumbersIn p q = LacksNumbers (caps_of p.shared) q.caps

-- each stands behind those before it; no rule on folders is asked any more
abbrev pub IsWhyNot : OpenParts → Quotas → AddAnswer → Type 0
IsWhyNot p q (Adding.Refused rule place) = ⊥
IsWhyNot p q Adding.NoRoom = LacksPlaces p q
IsWhyNot p q Adding.CapNumbers = (LacksPlaces p q → ⊥) × LacksNumbersIn p q
IsWhyNot p q Adding.TooManyDomains = (LacksPlaces p q → ⊥) × (LacksNumbersIn p q → ⊥) × (65535 ≤ length p.world.domains)
IsWhyNot p q Adding.ReadFault = ⊥
IsWhyNot p q Adding.OutOfMemory = ⊤

-- ---- What is made.

abbrev pub opened_names : OpenParts → List ℕ → Loaded → DomainRecord
opened_names p name l = record { id = next_number p; name = name; live = true; table = l.table; offers = l.offers }

-- The domain is opened: there is room in all parts, and each has the domain behind the others.
pub record OpensParts (p new : OpenParts) (l : Loaded) (name : List ℕ) (q : Quotas) : Type 0 where
  pub places : LacksPlaces p q → ⊥
  pub numbers : LacksNumbersIn p q → ⊥
  pub few : length p.world.domains < 65535
  -- its own state before and after it knows the objects that stand in its heap
  pub before : KeptState
  pub own : KeptState
  pub first : IsFirstState p.world.classes l.table before.state
  pub rooms : HasFirstRooms p.world.classes l.table before
  pub eight : length own.state.standing ≡ 8
  -- the heaps where it has no object yet
  pub empty : HeapContent
  pub heap : AdmitsHeap p.heap empty (next_number p) q.heap
  pub standing : MakesStanding empty new.heap p.world.classes (next_number p) before own
  pub stack : AdmitsStack p.frames new.frames (next_number p) q.chunks
  pub names_are : new.world ≡ record p.world { domains = p.world.domains ++ opened_names p name l ∷ [] }
  pub shared_is : new.shared ≡ admitted (next_number p) q l.stubs p.shared
  pub owns_are : new.owns ≡ p.owns ++ Some own ∷ []

-- All is as before.
pub record KeepsParts (p new : OpenParts) : Type 0 where
  pub world : new.world ≡ p.world
  pub owns : new.owns ≡ p.owns
  pub shared : new.shared ≡ p.shared
  pub heap : IsSameHeap p.heap new.heap
  pub frames : IsSameStack p.frames new.frames
