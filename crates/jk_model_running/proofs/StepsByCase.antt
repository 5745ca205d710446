-- Two local steps of one state are of one case: what one case asks contradicts what any other asks.
use Rattle.std.proofs.Common.{◌≡◌, ℕ, ◌+◌, ◌≤◌, ◌<◌, inl, inr, List, map, None, sum_by, length, refl, sym, ap, subst, ◌∙◌, arith}
use Rattle.std.proofs.lemmas.Option.{none-some, same_Some}
use Rattle.jk_model.specs.declared.identifiers.ClassId.{ClassId}
use Rattle.jk_model.specs.declared.identifiers.ThreadNo.{ThreadNo}
use Rattle.jk_model_classes.specs.declared.records.ClassRecord.{ClassRecord}
use Rattle.jk_model_classes.specs.Classes.{record_of}
use Rattle.jk_model_classes.specs.Layouts.{HEADER_WORDS}
use Rattle.jk_model_domains.specs.declared.states.ClassState.{ClassState}
use Rattle.jk_model_domains.specs.declared.states.ClassState.TheVariants as State
use Rattle.jk_model_domains.specs.OwnStates.{state_of}
use Rattle.jk_model_frames.specs.Frames.{FrameState, head_chunks}
use Rattle.jk_model_heaps.specs.Heaps.{heap_words}
use Rattle.jk_model_heaps.specs.Workings.{Inside, Run, Setting}
use Rattle.jk_model_heap_rows.specs.Constants.{LacksConstants, SetsConstants, new_texts, text_object}
use Rattle.jk_model_running.specs.Initialising.{FrameNeeds, IsInitialiserHead, IsReady}
use Rattle.jk_model_running.specs.LocalSteps.{DoesInstr, HasReadyNeed, Initialises, LocalStep, MeetsBroken, TopFrame, Touches, touches, overflows, meets_broken, need_falls, sets_constants, lacks_constants, does}
use Rattle.jk_model_running.specs.StepCases.{case_of}
use Rattle.jk_model_running.specs.Ways.{Went}
use Rattle.jk_model_running.proofs.NeededClasses.{needs_moved, one_need, one_size, one_top, texts_cost}

-- ---- A class that is needed and isn't ready.

untouched_or_ready : (t : ThreadNo) (state : ClassState) → state ≡ State.Untouched → state ≡ State.Done → ⊥
untouched_or_ready t state e f = cc

untouched_or_begun : (t : ThreadNo) (state : ClassState) → state ≡ State.Untouched → state ≡ State.InProgress t → ⊥
untouched_or_begun t state e f = cc

broken_or_ready : (t : ThreadNo) (state : ClassState) → state ≡ State.Broken → state ≡ State.Done → ⊥
broken_or_ready t state e f = cc

broken_or_begun : (t : ThreadNo) (state : ClassState) → state ≡ State.Broken → state ≡ State.InProgress t → ⊥
broken_or_begun t state e f = cc

untouched_or_broken : (state : ClassState) → state ≡ State.Untouched → state ≡ State.Broken → ⊥
untouched_or_broken state e f = cc

module _ (x : Setting) (t : ThreadNo) (run : Run) where
  record Unready : Type 0 where
    pub top : TopFrame run
    pub class : ClassId
    pub needs : FrameNeeds x.classes top.frame class
    pub unready : IsReady run.inside.own t class → ⊥

  of_touched : (c : ClassId) → Touches x run c → Unready
  of_touched c at = record {
    top = at.top;
    class = c;
    needs = at.needs;
    unready = λ ready. elim ready [
      | inl done ↦ untouched_or_ready t (state_of run.inside.own c) at.untouched done
      | inr begun ↦ untouched_or_begun t (state_of run.inside.own c) at.untouched begun
    ];
  }

  of_broken : MeetsBroken x run → Unready
  of_broken at = record {
    top = at.top;
    class = at.class;
    needs = at.needs;
    unready = λ ready. elim ready [
      | inl done ↦ broken_or_ready t (state_of run.inside.own at.class) at.broken done
      | inr begun ↦ broken_or_begun t (state_of run.inside.own at.class) at.broken begun
    ];
  }

  -- of the frame on top
  at_frame : (p q : TopFrame run) (c : ClassId) → FrameNeeds x.classes p.frame c → FrameNeeds x.classes q.frame c
  at_frame p q c needs = subst (λ (f : FrameState). FrameNeeds x.classes f c) (one_top run p q) needs

  one_class : (p q : TopFrame run) (c d : ClassId) → FrameNeeds x.classes p.frame c → FrameNeeds x.classes q.frame d → c ≡ d
  one_class p q c d needs also = one_need x.classes q.frame c d (at_frame p q c needs) also

  unready_or_need : Unready → HasReadyNeed x t run → ⊥
  unready_or_need u h =
      let same : u.class ≡ h.class = one_class u.top h.top u.class h.class u.needs (inl h.need) in
      u.unready (subst (IsReady run.inside.own t) (sym same) h.ready)

  does_not_need : (d : DoesInstr x t run) (u : Unready) → FrameNeeds x.classes d.top.frame u.class → ⊥
  does_not_need d u (inl need) = none-some u.class (sym d.no_need ∙ need)
  does_not_need d u (inr (none, (code, needs))) =
      u.unready (d.ready u.class (needs_moved x.classes d.top.frame code d.code u.class needs))

  unready_or_does : Unready → DoesInstr x t run → ⊥
  unready_or_does u d = does_not_need d u (at_frame u.top d.top u.class u.needs)

  need_or_does : HasReadyNeed x t run → DoesInstr x t run → ⊥
  need_or_does h d =
      none-some h.class (sym d.no_need ∙ ap (λ (f : FrameState). f.head.need) (sym (one_top run h.top d.top)) ∙ h.need)

  touched_or_broken : (c : ClassId) → Touches x run c → MeetsBroken x run → ⊥
  touched_or_broken c at broken =
      let same : c ≡ broken.class = one_class at.top broken.top c broken.class at.needs broken.needs in
      untouched_or_broken (state_of run.inside.own broken.class) (sym (ap (state_of run.inside.own) same) ∙ at.untouched) broken.broken

  fits_or_not : (c d : ClassId) (a : Touches x run c) (b : Touches x run d) → head_chunks a.head ≤ x.chunks → x.chunks < head_chunks b.head → ⊥
  fits_or_not c d a b fits short =
      let same : c ≡ d = one_class a.top b.top c d a.needs b.needs in
      let size : head_chunks a.head ≡ head_chunks b.head =
      one_size x.classes d a.head b.head (subst (λ (k : ClassId). IsInitialiserHead x.classes k a.head) same a.is_head) b.is_head in
      omega (arith, fits, short, size)

  -- ---- A need that falls.

  none_or_some : (h k : HasReadyNeed x t run) → h.top.frame.head.initialises ≡ None → Initialises x k.top.frame → ⊥
  none_or_some h k none of =
      none-some of.class
      (sym none ∙ ap (λ (f : FrameState). f.head.initialises) (one_top run h.top k.top) ∙ of.initialises)

  one_record : (h k : HasReadyNeed x t run) (a : Initialises x h.top.frame) (b : Initialises x k.top.frame) → a.of_class ≡ b.of_class
  one_record h k a b =
      let class : a.class ≡ b.class =
      same_Some a.class b.class
      (sym a.initialises ∙ ap (λ (f : FrameState). f.head.initialises) (one_top run h.top k.top) ∙ b.initialises) in
      same_Some a.of_class b.of_class (sym a.is_class ∙ ap (record_of x.classes) class ∙ b.is_class)

  abbrev cost : List (List ℕ) → ℕ
  cost texts = sum_by (λ (text : List ℕ). HEADER_WORDS + length text) texts

  set_or_lacking : (c : ClassId) (r s : ClassRecord) (set : Inside) → r ≡ s → SetsConstants x c r run.inside set → LacksConstants x s run.inside → ⊥
  set_or_lacking c r s set same sets lacks =
      let fits : heap_words x.classes run.inside.heap + heap_words x.classes (map text_object sets.more) ≤ x.quota = sets.makes.fits in
      let short : x.quota < heap_words x.classes run.inside.heap + cost (new_texts run.inside.own s) = lacks in
      let words : heap_words x.classes (map text_object sets.more) ≡ cost (new_texts run.inside.own s) =
      texts_cost x.classes sets.more ∙ ap cost (sets.are_new ∙ ap (new_texts run.inside.own) same) in
      omega (arith, fits, short, words)

  sets_or_lacks : (h k : HasReadyNeed x t run) (a : Initialises x h.top.frame) (b : Initialises x k.top.frame) (set : Inside)
      → SetsConstants x a.class a.of_class run.inside set → LacksConstants x b.of_class run.inside → ⊥
  sets_or_lacks h k a b set sets lacks = set_or_lacking a.class a.of_class b.of_class set (one_record h k a b) sets lacks

-- ---- The cases.

pub one_case : (x : Setting) (t : ThreadNo) (old new other : Run) (went another : Went) (a : LocalStep x t old new went)
    (b : LocalStep x t old other another) → case_of a ≡ case_of b
one_case x t old new other went another (touches c at fits is) (touches d also fits_too too) = refl
one_case x t old new other went another (touches c at fits is) (overflows d also u short raises) =
    absurd (fits_or_not x t old c d at also fits short)
one_case x t old new other went another (touches c at fits is) (meets_broken broken u raises) = absurd (touched_or_broken x t old c at broken)
one_case x t old new other went another (touches c at fits is) (need_falls h none too) =
    absurd (unready_or_need x t old (of_touched x t old c at) h)
one_case x t old new other went another (touches c at fits is) (sets_constants h of set sets falls) =
    absurd (unready_or_need x t old (of_touched x t old c at) h)
one_case x t old new other went another (touches c at fits is) (lacks_constants h of u lacks raises) =
    absurd (unready_or_need x t old (of_touched x t old c at) h)
one_case x t old new other went another (touches c at fits is) (does d way on) = absurd (unready_or_does x t old (of_touched x t old c at) d)
one_case x t old new other went another (overflows c at u short raises) (touches d also fits is) =
    absurd (fits_or_not x t old d c also at fits short)
one_case x t old new other went another (overflows c at u short raises) (overflows d also v short_too raises_too) = refl
one_case x t old new other went another (overflows c at u short raises) (meets_broken broken v raises_too) =
    absurd (touched_or_broken x t old c at broken)
one_case x t old new other went another (overflows c at u short raises) (need_falls h none too) =
    absurd (unready_or_need x t old (of_touched x t old c at) h)
one_case x t old new other went another (overflows c at u short raises) (sets_constants h of set sets falls) =
    absurd (unready_or_need x t old (of_touched x t old c at) h)
one_case x t old new other went another (overflows c at u short raises) (lacks_constants h of v lacks raises_too) =
    absurd (unready_or_need x t old (of_touched x t old c at) h)
one_case x t old new other went another (overflows c at u short raises) (does d way on) =
    absurd (unready_or_does x t old (of_touched x t old c at) d)
one_case x t old new other went another (meets_broken broken u raises) (touches d also fits is) =
    absurd (touched_or_broken x t old d also broken)
one_case x t old new other went another (meets_broken broken u raises) (overflows d also v short raises_too) =
    absurd (touched_or_broken x t old d also broken)
one_case x t old new other went another (meets_broken broken u raises) (meets_broken too v raises_too) = refl
one_case x t old new other went another (meets_broken broken u raises) (need_falls h none too) =
    absurd (unready_or_need x t old (of_broken x t old broken) h)
one_case x t old new other went another (meets_broken broken u raises) (sets_constants h of set sets falls) =
    absurd (unready_or_need x t old (of_broken x t old broken) h)
one_case x t old new other went another (meets_broken broken u raises) (lacks_constants h of v lacks raises_too) =
    absurd (unready_or_need x t old (of_broken x t old broken) h)
one_case x t old new other went another (meets_broken broken u raises) (does d way on) =
    absurd (unready_or_does x t old (of_broken x t old broken) d)
one_case x t old new other went another (need_falls h none is) (touches d also fits too) =
    absurd (unready_or_need x t old (of_touched x t old d also) h)
one_case x t old new other went another (need_falls h none is) (overflows d also u short raises) =
    absurd (unready_or_need x t old (of_touched x t old d also) h)
one_case x t old new other went another (need_falls h none is) (meets_broken broken u raises) =
    absurd (unready_or_need x t old (of_broken x t old broken) h)
one_case x t old new other went another (need_falls h none is) (need_falls k none_too too) = refl
one_case x t old new other went another (need_falls h none is) (sets_constants k of set sets falls) = absurd (none_or_some x t old h k none of)
one_case x t old new other went another (need_falls h none is) (lacks_constants k of u lacks raises) = absurd (none_or_some x t old h k none of)
one_case x t old new other went another (need_falls h none is) (does d way on) = absurd (need_or_does x t old h d)
one_case x t old new other went another (sets_constants h of set sets falls) (touches d also fits is) =
    absurd (unready_or_need x t old (of_touched x t old d also) h)
one_case x t old new other went another (sets_constants h of set sets falls) (overflows d also u short raises) =
    absurd (unready_or_need x t old (of_touched x t old d also) h)
one_case x t old new other went another (sets_constants h of set sets falls) (meets_broken broken u raises) =
    absurd (unready_or_need x t old (of_broken x t old broken) h)
one_case x t old new other went another (sets_constants h of set sets falls) (need_falls k none is) = absurd (none_or_some x t old k h none of)
one_case x t old new other went another (sets_constants h of set sets falls) (sets_constants k of_too set_too sets_too falls_too) = refl
one_case x t old new other went another (sets_constants h of set sets falls) (lacks_constants k of_too u lacks raises) =
    absurd (sets_or_lacks x t old h k of of_too set sets lacks)
one_case x t old new other went another (sets_constants h of set sets falls) (does d way on) = absurd (need_or_does x t old h d)
one_case x t old new other went another (lacks_constants h of u lacks raises) (touches d also fits is) =
    absurd (unready_or_need x t old (of_touched x t old d also) h)
one_case x t old new other went another (lacks_constants h of u lacks raises) (overflows d also v short raises_too) =
    absurd (unready_or_need x t old (of_touched x t old d also) h)
one_case x t old new other went another (lacks_constants h of u lacks raises) (meets_broken broken v raises_too) =
    absurd (unready_or_need x t old (of_broken x t old broken) h)
one_case x t old new other went another (lacks_constants h of u lacks raises) (need_falls k none is) = absurd (none_or_some x t old k h none of)
one_case x t old new other went another (lacks_constants h of u lacks raises) (sets_constants k of_too set sets falls) =
    absurd (sets_or_lacks x t old k h of_too of set sets lacks)
one_case x t old new other went another (lacks_constants h of u lacks raises) (lacks_constants k of_too v lacks_too raises_too) = refl
one_case x t old new other went another (lacks_constants h of u lacks raises) (does d way on) = absurd (need_or_does x t old h d)
one_case x t old new other went another (does d way on) (touches c also fits is) = absurd (unready_or_does x t old (of_touched x t old c also) d)
one_case x t old new other went another (does d way on) (overflows c also u short raises) =
    absurd (unready_or_does x t old (of_touched x t old c also) d)
one_case x t old new other went another (does d way on) (meets_broken broken u raises) =
    absurd (unready_or_does x t old (of_broken x t old broken) d)
one_case x t old new other went another (does d way on) (need_falls h none is) = absurd (need_or_does x t old h d)
one_case x t old new other went another (does d way on) (sets_constants h of set sets falls) = absurd (need_or_does x t old h d)
one_case x t old new other went another (does d way on) (lacks_constants h of u lacks raises) = absurd (need_or_does x t old h d)
one_case x t old new other went another (does d way on) (does e way_too on_too) = refl
