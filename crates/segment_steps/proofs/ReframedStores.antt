-- A store of frames where a segment has other frames; and what two changes of one store are to each other.
use Rattle.std.proofs.Common.{◌≡◌, ◌≢◌, ◌==◌, ℕ, Bool, true, false, cond, List, Option, Some, refl, sym, ap, ◌∙◌}
use Rattle.std.proofs.lemmas.Bool.{eq-eqb, eqb-true}
use Rattle.jk_model.specs.declared.identifiers.DomainId.{DomainId}
use Rattle.jk_model.specs.declared.identifiers.SegmentNo.{SegmentNo}
use Rattle.jk_model_frames.specs.Frames.{FrameState}
use Rattle.frame_store.specs.FrameContents.{Changes, FrameContent, StoredSegment}
use Rattle.exception_unwind.proofs.FramesChanged.{segment_of}

abbrev segment_of_number : ℕ → SegmentNo
segment_of_number n = record { 0 = n }

abbrev pub reframed : FrameContent → SegmentNo → DomainId → List FrameState → FrameContent
reframed c s d frames = record c {
  segment = λ (r : SegmentNo). cond (r.0 == s.0) (Some (record { domain = d; frames = frames })) (c.segment r);
}

module _ (c : FrameContent) (s : SegmentNo) (d : DomainId) (frames : List FrameState) where
  abbrev its_own : Option StoredSegment
  its_own = Some (record { domain = d; frames = frames })

  pub reframed_there : (reframed c s d frames).segment s ≡ Some (record { domain = d; frames = frames })
  reframed_there = ap (λ (b : Bool). cond b its_own (c.segment s)) (eq-eqb s.0 s.0 refl)

  pub reframed_others : (r : SegmentNo) → r ≢ s → (reframed c s d frames).segment r ≡ c.segment r
  reframed_others r other = by (r.0 == s.0) refl
    where
      by : (b : Bool) → r.0 == s.0 ≡ b → cond b its_own (c.segment r) ≡ c.segment r
      by true is = absurd (other (ap (λ (n : ℕ). segment_of_number n) (eqb-true r.0 s.0 is)))
      by false is = refl

  pub reframes : Changes c (reframed c s d frames) s d (Some (segment_of d frames)) (c.used d)
  reframes = record {
    domains = record { pages = refl; took_all = refl; quota = λ e. refl; first_page = λ e. refl };
    becomes = reframed_there;
    others = reframed_others;
    uses = refl;
    other_domains = λ e differ. refl;
  }

-- a store that stays as it is
pub stays_same : (c : FrameContent) (s : SegmentNo) (d : DomainId) (g : StoredSegment) → c.segment s ≡ Some g → Changes c c s d (Some g) (c.used d)
stays_same c s d g there = record {
  domains = record { pages = refl; took_all = refl; quota = λ e. refl; first_page = λ e. refl };
  becomes = there;
  others = λ r differ. refl;
  uses = refl;
  other_domains = λ e differ. refl;
}

-- of two stores to which one changed, the one changes to the other
pub between : (c a b : FrameContent) (s : SegmentNo) (d : DomainId) (first second : Option StoredSegment) (m n : ℕ) → Changes c a s d first m
    → Changes c b s d second n → Changes a b s d second n
between c a b s d first second m n g h = record {
  domains = record {
    pages = h.domains.pages ∙ sym g.domains.pages;
    took_all = h.domains.took_all ∙ sym g.domains.took_all;
    quota = λ e. h.domains.quota e ∙ sym (g.domains.quota e);
    first_page = λ e. h.domains.first_page e ∙ sym (g.domains.first_page e);
  };
  becomes = h.becomes;
  others = λ r differ. h.others r differ ∙ sym (g.others r differ);
  uses = h.uses;
  other_domains = λ e differ. h.other_domains e differ ∙ sym (g.other_domains e differ);
}
