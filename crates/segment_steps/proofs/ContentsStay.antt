-- What becomes what it was has not changed: the stores, and the own state of the domain, are the same.
use Rattle.std.proofs.Common.{◌≡◌, ◌==◌, ℕ, Bool, true, false, List, refl, sym, ap, ◌∙◌, arith}
use Rattle.std.proofs.lemmas.Bool.{eq-eqb, eqb-true}
use Rattle.jk_model.specs.declared.identifiers.DomainId.{DomainId}
use Rattle.jk_model.specs.declared.identifiers.SegmentNo.{SegmentNo}
use Rattle.jk_model_frames.specs.Frames.{FrameState}
use Rattle.jk_model_heaps.specs.Heaps.{heap_words}
use Rattle.jk_model_heaps.specs.Workings.{Inside, Run}
use Rattle.frame_store.specs.FrameContents.{FrameContent, IsSame}
use Rattle.object_store.specs.HeapContents.{HeapContent}
use Rattle.step_contents.specs.Conditions.{KnowsDomain}
use Rattle.step_contents.specs.Contents.{Becomes, Contents, FramesBecome, HasFrames, Here, Holds, InsideBecomes}

never_both : {b : Bool} → b ≡ false → b ≡ true → ⊥
never_both off on = (let both : false ≡ true = sym off ∙ on in absurd cc)

abbrev segment_of_number : ℕ → SegmentNo
segment_of_number n = record { 0 = n }

abbrev domain_of_number : ℕ → DomainId
domain_of_number n = record { 0 = n }

-- what holds of one domain, and of each other one, holds of all
each_domain : (P : DomainId → Type 0) (d : DomainId) → ((e : DomainId) → e ≡ d → P e) → ((e : DomainId) → (e ≡ d → ⊥) → P e) → (e : DomainId) → P e
each_domain P d here others e = by (e.0 == d.0) refl
  where
    by : (b : Bool) → e.0 == d.0 ≡ b → P e
    by true is = here e (ap (λ (n : ℕ). domain_of_number n) (eqb-true e.0 d.0 is))
    by false is = others e (λ same. never_both is (eq-eqb e.0 d.0 (ap (λ (k : DomainId). k.0) same)))

each_segment : (P : SegmentNo → Type 0) (s : SegmentNo) → ((r : SegmentNo) → r ≡ s → P r) → ((r : SegmentNo) → (r ≡ s → ⊥) → P r)
    → (r : SegmentNo) → P r
each_segment P s here others r = by (r.0 == s.0) refl
  where
    by : (b : Bool) → r.0 == s.0 ≡ b → P r
    by true is = here r (ap (λ (n : ℕ). segment_of_number n) (eqb-true r.0 s.0 is))
    by false is = others r (λ same. never_both is (eq-eqb r.0 s.0 (ap (λ (k : SegmentNo). k.0) same)))

-- ---- Frames.

-- stores in which each segment, and each domain, has the same are one
pub one_store : (a b : FrameContent) → IsSame a b → b ≡ a
one_store a b same = λ i. record {
  pages = same.domains.pages i;
  took_all = same.domains.took_all i;
  quota = λ d. same.domains.quota d i;
  first_page = λ d. same.domains.first_page d i;
  used = λ d. same.used d i;
  segment = λ s. same.segment s i;
}

pub frames_stay : (old new : Contents) (here : Here) (frames : List FrameState) → HasFrames old here frames → FramesBecome old new here frames frames
    → new.frames ≡ old.frames
frames_stay old new here frames has b = one_store old.frames new.frames (record {
  domains = b.changes.domains;
  used = each_domain (λ (d : DomainId). new.frames.used d ≡ old.frames.used d) here.domain
      (λ d is. ap new.frames.used is ∙ b.changes.uses ∙ same_use ∙ sym (ap old.frames.used is)) b.changes.other_domains;
  segment = each_segment (λ (s : SegmentNo). new.frames.segment s ≡ old.frames.segment s) here.segment
      (λ s is. ap new.frames.segment is ∙ b.changes.becomes ∙ sym has ∙ sym (ap old.frames.segment is)) b.changes.others;
})
  where
    same_use : b.used ≡ old.frames.used here.domain
    same_use = omega (arith, b.chunks)

-- ---- Objects.

same_heaps : (a b : HeapContent) → b.pages ≡ a.pages → b.took_all ≡ a.took_all → ((d : DomainId) → b.quota d ≡ a.quota d)
    → ((d : DomainId) → b.first_page d ≡ a.first_page d) → ((d : DomainId) → b.used d ≡ a.used d) → ((d : DomainId) → b.heap d ≡ a.heap d)
    → ((d : DomainId) (n : ℕ) → b.mark d n ≡ a.mark d n) → b ≡ a
same_heaps a b pages took quota first used heap mark = λ i. record {
  pages = pages i;
  took_all = took i;
  quota = λ d. quota d i;
  first_page = λ d. first d i;
  used = λ d. used d i;
  heap = λ d. heap d i;
  mark = λ d n. mark d n i;
}

module _ (old new : Contents) (here : Here) (run : Run) (known : KnowsDomain old here) (holds : Holds old here run)
    (b : InsideBecomes old new here run.inside) where
  heap_was : run.inside.heap ≡ old.heaps.heap here.domain
  heap_was = ap (λ (i : Inside). i.heap) holds.inside

  pub heaps_stay : new.heaps ≡ old.heaps
  heaps_stay =
      same_heaps old.heaps new.heaps b.heaps.domains.pages b.heaps.domains.took_all b.heaps.domains.quota b.heaps.domains.first_page
      (each_domain (λ (d : DomainId). new.heaps.used d ≡ old.heaps.used d) here.domain
      (λ d is. ap new.heaps.used is ∙ b.heaps.uses ∙ ap (heap_words here.world.classes) heap_was ∙ sym known.used
      ∙ sym (ap old.heaps.used is)) b.heaps.other_uses)
      (each_domain (λ (d : DomainId). new.heaps.heap d ≡ old.heaps.heap d) here.domain
      (λ d is. ap new.heaps.heap is ∙ b.heaps.becomes ∙ heap_was ∙ sym (ap old.heaps.heap is)) b.heaps.others) b.heaps.mark

  -- ---- The own state.

  pub own_stays : new.own ≡ old.own
  own_stays =
      let state : new.own.state ≡ old.own.state = ap (λ (i : Inside). i.own) (sym b.is_inside ∙ holds.inside) in
      λ i. record { state = state i; rooms = b.rooms i }

-- ---- All of it.

pub record StaySame (old new : Contents) : Type 0 where
  pub heaps : new.heaps ≡ old.heaps
  pub frames : new.frames ≡ old.frames
  pub own : new.own ≡ old.own

pub contents_stay : (old new : Contents) (here : Here) (run : Run) → KnowsDomain old here → Holds old here run → Becomes old new here run run
    → StaySame old new
contents_stay old new here run known holds b = record {
  heaps = heaps_stay old new here run known holds b.inside;
  frames = frames_stay old new here run.frames holds.frames b.frames;
  own = own_stays old new here run known holds b.inside;
}
