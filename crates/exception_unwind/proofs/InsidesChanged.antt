-- What a domain has inside where its own state alone changes, after two changes, and where frames changed.
use Rattle.std.proofs.Common.{◌≡◌, ℕ, Option, refl, sym, ap, ◌∙◌}
use Rattle.jk_model_domains.specs.OwnStates.{OwnState}
use Rattle.jk_model_heaps.specs.Workings.{Inside}
use Rattle.class_init.specs.KeptStates.{KeptState}
use Rattle.object_store.proofs.ObjectsWritten.{both_keep}
use Rattle.step_contents.specs.Conditions.{KnowsDomain}
use Rattle.step_contents.specs.Contents.{Contents, Here, InsideBecomes, contents_of, inside_in}

module _ (c : Contents) (here : Here) (k : KnowsDomain c here) where
  pub own_changed : (own : OwnState) → (let kept : KeptState = record c.own { state = own } in
      InsideBecomes c (contents_of c.heaps c.frames kept) here (record (inside_in c here) { own = own }))
  own_changed own = record {
    is_inside = refl;
    heaps = record {
      domains = record { pages = refl; took_all = refl; quota = λ d. refl; first_page = λ d. refl };
      becomes = refl;
      others = λ e differ. refl;
      uses = k.used;
      other_uses = λ e differ. refl;
      mark = λ e a. refl;
    };
    rooms = refl;
  }

  pub nothing_changed : InsideBecomes c c here (inside_in c here)
  nothing_changed = own_changed c.own.state

-- two changes are one
pub inside_then : (old mid new : Contents) (here : Here) (first second : Inside) → InsideBecomes old mid here first
    → InsideBecomes mid new here second → InsideBecomes old new here second
inside_then old mid new here first second g h = record {
  is_inside = h.is_inside;
  heaps = record {
    domains = both_keep old.heaps mid.heaps new.heaps g.heaps.domains h.heaps.domains;
    becomes = h.heaps.becomes;
    others = λ e differ. h.heaps.others e differ ∙ g.heaps.others e differ;
    uses = h.heaps.uses;
    other_uses = λ e differ. h.heaps.other_uses e differ ∙ g.heaps.other_uses e differ;
    mark = λ e a. h.heaps.mark e a ∙ g.heaps.mark e a;
  };
  rooms = h.rooms ∙ g.rooms;
}

-- frames that changed are nothing to it, but for the page where those of the domain begin
pub with_frames : (old new : Contents) (here : Here) (inside : Inside) → new.frames.first_page here.domain ≡ old.frames.first_page here.domain
    → InsideBecomes old (contents_of new.heaps old.frames new.own) here inside → InsideBecomes old new here inside
with_frames old new here inside pages h = record {
  is_inside = h.is_inside
      ∙ ap (λ (p : Option ℕ). let i : Inside = record {
        own = new.own.state;
        heap = new.heaps.heap here.domain;
        heap_at = new.heaps.first_page here.domain;
        stack_at = p;
      } in i) (sym pages);
  heaps = h.heaps;
  rooms = h.rooms;
}
