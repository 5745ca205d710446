-- What is known of a domain and of its setting afterwards, where what it has inside became something, and frames changed that cost the same.
use Rattle.std.proofs.Common.{◌≡◌, ℕ, ◌-◌, List, Contains, Option, Some, slice_get, sym, ap, subst, ◌∙◌}
use Rattle.std.specs.Option.{option_map_or}
use Rattle.jk_model.specs.declared.identifiers.DomainId.{DomainId}
use Rattle.jk_model_domains.specs.OwnStates.{Literal}
use Rattle.jk_model_heaps.specs.Heaps.{heap_words}
use Rattle.jk_model_heaps.specs.Workings.{Inside, Setting}
use Rattle.class_init.specs.KeptStates.{HasRooms, KeptState}
use Rattle.frame_store.specs.FrameContents.{FrameContent, KeepsDomains, free_chunks}
use Rattle.step_contents.specs.Conditions.{KnowsDomain}
use Rattle.step_contents.specs.Contents.{Contents, Here, InsideBecomes}
use Rattle.step_contents.specs.Settings.{IsSetting}

pub free_same : (old new : FrameContent) (d : DomainId) → KeepsDomains old new → new.used d ≡ old.used d → free_chunks new d ≡ free_chunks old d
free_same old new d keeps used =
    ap (λ (u : ℕ). option_map_or (λ (q : ℕ). q - u) (new.quota d) 0) used
    ∙ ap (λ (o : Option ℕ). option_map_or (λ (q : ℕ). q - old.used d) o 0) (keeps.quota d)

-- what holds of each state of a domain: no room is there twice, and the text of each literal has one
pub record IsKept (own : KeptState) : Type 0 where
  pub rooms_differ : (i j : ℕ) (text : List ℕ) → slice_get own.rooms i ≡ Some text → slice_get own.rooms j ≡ Some text → i ≡ j
  pub literals : (l : Literal) → Contains own.state.literals l → Contains own.rooms l.text

module _ (old new : Contents) (here : Here) (inside : Inside) (becomes : InsideBecomes old new here inside) where
  pub setting_after : free_chunks new.frames here.domain ≡ free_chunks old.frames here.domain → (x : Setting) → IsSetting old here x
      → IsSetting new here x
  setting_after free x is = record {
    classes = is.classes;
    caps = is.caps;
    names = is.names;
    is_domain = is.is_domain;
    name = is.name;
    segment = is.segment;
    quota = becomes.heaps.domains.quota here.domain ∙ is.quota;
    chunks = is.chunks ∙ sym free;
  }

  pub rooms_after : (k : KnowsDomain old here) → IsKept new.own → HasRooms here.world.classes k.names.table new.own
  rooms_after k kept = record {
    texts = λ text of. subst (λ (rooms : List (List ℕ)). Contains rooms text) (sym becomes.rooms) (k.rooms.texts text of);
    rooms_differ = kept.rooms_differ;
    literals = kept.literals;
  }

  abbrev pub known_after : (k : KnowsDomain old here) → HasRooms here.world.classes k.names.table new.own → KnowsDomain new here
  known_after k rooms = record {
    names = k.names;
    is_domain = k.is_domain;
    quota = k.quota;
    has_quota = becomes.heaps.domains.quota here.domain ∙ k.has_quota;
    codes = k.codes;
    table = k.table;
    shares = k.shares;
    rooms = rooms;
    used = becomes.heaps.uses ∙ sym (ap (heap_words here.world.classes) becomes.heaps.becomes);
  }
