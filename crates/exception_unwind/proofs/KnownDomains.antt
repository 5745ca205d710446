-- What is known of a domain stays known where what it has inside changes: its setting is one of sealed surroundings, before and afterwards.
use Rattle.std.proofs.Common.{inl, inr, ◌≡◌, ◌⊎◌, ℕ, List, Contains, Some, slice_get, refl, sym, ap, subst, ◌∙◌}
use Rattle.std.proofs.lemmas.Option.{same_Some}
use Rattle.jk_model.specs.declared.identifiers.ClassId.{ClassId}
use Rattle.jk_model_classes.specs.declared.records.ClassRecord.{ClassRecord}
use Rattle.jk_model_classes.specs.declared.sharing.Stub.{Stub}
use Rattle.jk_model_classes.specs.Classes.{IsInterface}
use Rattle.jk_model_classes.specs.Stubs.{IsStub}
use Rattle.jk_model_domains.specs.OwnStates.{Literal}
use Rattle.jk_model_heaps.specs.Heaps.{heap_words}
use Rattle.jk_model_heaps.specs.Workings.{Inside, Setting}
use Rattle.jk_model_sealing.specs.SealedInsides.{IsSealedInside}
use Rattle.jk_model_sharing.specs.KnownStubs.{IsForeignStub}
use Rattle.jk_model_sharing.specs.SharedStates.{caps_of}
use Rattle.class_init.specs.KeptStates.{HasRooms, KeptState}
use Rattle.frame_store.specs.FrameContents.{free_chunks}
use Rattle.object_store.specs.HeapContents.{HeapContent}
use Rattle.heap_laws.specs.RunningFrames.{IsKnownSetting}
use Rattle.step_contents.specs.Conditions.{KnowsDomain, MayChange, around}
use Rattle.step_contents.specs.Contents.{Contents, Here, InsideBecomes, contents_of}
use Rattle.step_contents.specs.Settings.{IsSetting}

-- ---- Settings.

shown_interface : (classes : List ClassRecord) (s : Stub) (i : ClassId) → IsStub classes s.class s ⊎ IsForeignStub classes s
    → Contains s.interfaces i → IsInterface classes i
shown_interface classes s i (inl own) listed = (own.listed i listed).0.0
shown_interface classes s i (inr foreign) listed = foreign.interfaces i listed

pub known_setting : (c : Contents) (here : Here) (k : KnowsDomain c here) (x : Setting) → IsSetting c here x → IsKnownSetting (around k) x
known_setting c here k x is = record {
  classes = is.classes;
  ranges = is.caps.ranges;
  stand_ins = λ s i has none listed.
      shown_interface here.world.classes s i (k.shares.stubs.each s ((is.caps.stand_ins s none).1 has)) listed;
  codes = k.codes;
  table = k.table;
}

pub known_quota : (c : Contents) (here : Here) (k : KnowsDomain c here) (x : Setting) → IsSetting c here x → k.quota ≡ x.quota
known_quota c here k x is = same_Some k.quota x.quota (sym k.has_quota ∙ is.quota)

-- there is a setting
pub some_setting : (c : Contents) (here : Here) → KnowsDomain c here → (x : Setting) × IsSetting c here x
some_setting c here k = (
  record {
    classes = here.world.classes;
    caps = record { ranges = caps_of here.shared; stand_ins = here.shared.stubs };
    name = k.names.name;
    segment = here.segment;
    quota = k.quota;
    chunks = free_chunks c.frames here.domain;
  },
  record {
    classes = refl;
    caps = record { ranges = refl; stand_ins = λ s none. (λ has. has, λ has. has) };
    names = k.names;
    is_domain = k.is_domain;
    name = refl;
    segment = refl;
    quota = k.has_quota;
    chunks = refl;
  },
)

-- no room is there twice
abbrev RoomsDiffer : List (List ℕ) → Type 0
RoomsDiffer rooms = (i j : ℕ) (text : List ℕ) → slice_get rooms i ≡ Some text → slice_get rooms j ≡ Some text → i ≡ j

-- ---- Afterwards. The frames are as before here.

module _ (old : Contents) (here : Here) (heaps : HeapContent) (own : KeptState) (inside : Inside)
    (becomes : InsideBecomes old (contents_of heaps old.frames own) here inside) where
  abbrev after : Contents
  after = contents_of heaps old.frames own

  pub setting_stays : (x : Setting) → IsSetting old here x → IsSetting after here x
  setting_stays x is = record {
    classes = is.classes;
    caps = is.caps;
    names = is.names;
    is_domain = is.is_domain;
    name = is.name;
    segment = is.segment;
    quota = becomes.heaps.domains.quota here.domain ∙ is.quota;
    chunks = is.chunks;
  }

  literals_stay : (k : KnowsDomain old here) → inside.own.literals ≡ old.own.state.literals → HasRooms here.world.classes k.names.table own
  literals_stay k same =
      let now : own.state.literals ≡ old.own.state.literals = sym (ap (λ (i : Inside). i.own.literals) becomes.is_inside) ∙ same in
      record {
        texts = λ text of. subst (λ (rooms : List (List ℕ)). Contains rooms text) (sym becomes.rooms) (k.rooms.texts text of);
        rooms_differ = subst RoomsDiffer (sym becomes.rooms) k.rooms.rooms_differ;
        literals = λ l has. subst (λ (rooms : List (List ℕ)). Contains rooms l.text) (sym becomes.rooms)
            (k.rooms.literals l (subst (λ (ls : List Literal). Contains ls l) now has));
      }

  -- where no literal gets an object
  pub still_known : KnowsDomain old here → inside.own.literals ≡ old.own.state.literals → KnowsDomain after here
  still_known k same = record {
    names = k.names;
    is_domain = k.is_domain;
    quota = k.quota;
    has_quota = becomes.heaps.domains.quota here.domain ∙ k.has_quota;
    codes = k.codes;
    table = k.table;
    shares = k.shares;
    rooms = literals_stay k same;
    used = becomes.heaps.uses ∙ sym (ap (heap_words here.world.classes) becomes.heaps.becomes);
  }

  pub may_still_change : (k : KnowsDomain old here) → inside.own.literals ≡ old.own.state.literals
      → IsSealedInside (around k) k.quota inside → MayChange after here
  unfolding still_known
  may_still_change k same sealed = record {
    domain = still_known k same;
    sealed = subst (IsSealedInside (around k) k.quota) becomes.is_inside sealed;
  }
