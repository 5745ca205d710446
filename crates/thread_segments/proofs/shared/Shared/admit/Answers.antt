-- One more domain, whose range and stubs are behind the others.
use Rattle.std.proofs.Common.{◌≡◌, ℕ, ◌+◌, ◌<◌, ◌≤◌, ◌^◌, length, inl, inr, ap, arith, refl, subst, sym}
use Rattle.std.proofs.lemmas.Bool.{cases_lt}
use Rattle.jk_model.specs.Capabilities.{last_number}
use Rattle.jk_model_sharing.specs.BoundNames.{count_bound_by}
use Rattle.jk_model_sharing.specs.CapabilityCalls.{LacksNumbers, count_numbers}
use Rattle.jk_model_sharing.specs.SharedStates.{SharedState, caps_of}
use Rattle.thread_segments.specs.Asked.{IsNext}
use Rattle.thread_segments.specs.DomainEntries.{state_of}
use Rattle.thread_segments.specs.SoundStates.{AreSound}
use Rattle.thread_stacks.specs.Stacks.{ThreadList}
use Rattle.thread_segments.proofs.CountsAreKept.{counts_admitted}
use Rattle.thread_segments.proofs.SegmentRoom.{room_admitted}
use Rattle.thread_segments.proofs.SoundAdmission.{none_bound, sound_admitted}
use Rattle.thread_segments.proofs.StatesByPart.{admitted_is, here_lacks, lacks_here, next_is, no_range}
use Rattle.thread_segments.proofs.NamesAreCounted.{named_admitted}
use Rattle.thread_segments.proofs.shared.Shared.admit.Goals as goal

pub returns-then-q-numbers_left-clause-numbers : goal.returns-then-q-numbers_left-clause-numbers
returns-then-q-numbers_left-clause-numbers c =
    λ _.
    let s = c.self.inside in
    let P : SharedState → Type 0 = λ x. LacksNumbers (caps_of x) c.args.q.now.caps in
    subst P c.self.view_is
    (lacks_here s.domains.items s.caps s.stubs.stubs s.names s.threads c.self.invariant.counted c.args.q.now.caps (omega (
      arith,
      c.numbers_left.ensures.left,
      c.numbers_left.ensures.few,
      c.if-q-numbers_left.true,
    )))

pub returns-in_err-reserve-clause-only_numbers : goal.returns-in_err-reserve-clause-only_numbers
returns-in_err-reserve-clause-only_numbers c =
    λ lacks.
    let s = c.self.inside in
    let P : SharedState → Type 0 = λ x. LacksNumbers (caps_of x) c.args.q.now.caps in
    let many = here_lacks s.domains.items s.caps s.stubs.stubs s.names s.threads c.self.invariant.counted c.args.q.now.caps
    (subst P (sym c.self.view_is) lacks) in
    absurd (omega (arith, many, c.numbers_left.ensures.left, c.numbers_left.ensures.few, c.if-q-numbers_left.false))

pub returns-in_err-reserve-2-clause-only_numbers : goal.returns-in_err-reserve-2-clause-only_numbers
returns-in_err-reserve-2-clause-only_numbers c =
    λ lacks.
    let s = c.self.inside in
    let P : SharedState → Type 0 = λ x. LacksNumbers (caps_of x) c.args.q.now.caps in
    let many = here_lacks s.domains.items s.caps s.stubs.stubs s.names s.threads c.self.invariant.counted c.args.q.now.caps
    (subst P (sym c.self.view_is) lacks) in
    absurd (omega (arith, many, c.numbers_left.ensures.left, c.numbers_left.ensures.few, c.if-q-numbers_left.false))

pub returns-in_err-reserve-3-clause-only_numbers : goal.returns-in_err-reserve-3-clause-only_numbers
returns-in_err-reserve-3-clause-only_numbers c =
    λ lacks.
    let s = c.self.inside in
    let P : SharedState → Type 0 = λ x. LacksNumbers (caps_of x) c.args.q.now.caps in
    let many = here_lacks s.domains.items s.caps s.stubs.stubs s.names s.threads c.self.invariant.counted c.args.q.now.caps
    (subst P (sym c.self.view_is) lacks) in
    absurd (omega (arith, many, c.numbers_left.ensures.left, c.numbers_left.ensures.few, c.if-q-numbers_left.false))

pub returns-in_err-reserve-4-clause-only_numbers : goal.returns-in_err-reserve-4-clause-only_numbers
returns-in_err-reserve-4-clause-only_numbers c =
    λ lacks.
    let s = c.self.inside in
    let P : SharedState → Type 0 = λ x. LacksNumbers (caps_of x) c.args.q.now.caps in
    let many = here_lacks s.domains.items s.caps s.stubs.stubs s.names s.threads c.self.invariant.counted c.args.q.now.caps
    (subst P (sym c.self.view_is) lacks) in
    absurd (omega (arith, many, c.numbers_left.ensures.left, c.numbers_left.ensures.few, c.if-q-numbers_left.false))

pub returns-in_err-admit-clause-only_numbers : goal.returns-in_err-admit-clause-only_numbers
returns-in_err-admit-clause-only_numbers c =
    λ lacks.
    let s = c.self.inside in
    let P : SharedState → Type 0 = λ x. LacksNumbers (caps_of x) c.args.q.now.caps in
    let many = here_lacks s.domains.items s.caps s.stubs.stubs s.names s.threads c.self.invariant.counted c.args.q.now.caps
    (subst P (sym c.self.view_is) lacks) in
    absurd (omega (arith, many, c.numbers_left.ensures.left, c.numbers_left.ensures.few, c.if-q-numbers_left.false))

pub returns-clause-only_numbers : goal.returns-clause-only_numbers
returns-clause-only_numbers c =
    λ lacks.
    let s = c.self.inside in
    let P : SharedState → Type 0 = λ x. LacksNumbers (caps_of x) c.args.q.now.caps in
    let many = here_lacks s.domains.items s.caps s.stubs.stubs s.names s.threads c.self.invariant.counted c.args.q.now.caps
    (subst P (sym c.self.view_is) lacks) in
    absurd (omega (arith, many, c.numbers_left.ensures.left, c.numbers_left.ensures.few, c.if-q-numbers_left.false))

pub admit-requires : goal.admit-requires
admit-requires c =
    let s = c.self.inside in
    let P : SharedState → Type 0 = λ x. IsNext x c.args.d in
    record {
      new = no_range s.domains.items s.caps s.stubs.stubs s.names s.threads c.self.invariant.counted c.args.d (next_is s.domains.items s.caps s.stubs.stubs
          s.names s.threads c.self.invariant.counted c.args.d (subst P (sym c.self.view_is) c.requires.next));
    }

pub invariant_of-self-2 : goal.invariant_of-self-2
invariant_of-self-2 c =
    let s = c.self.inside in
    let P : SharedState → Type 0 = λ x. IsNext x c.args.d in
    let next = next_is s.domains.items s.caps s.stubs.stubs s.names s.threads c.self.invariant.counted c.args.d
    (subst P (sym c.self.view_is) c.requires.next) in
    let low : length s.domains.items < 2 ^ 32 = omega (arith, next) in
    let V : SharedState → Type 0 = λ x. AreSound x in
    let L : SharedState → Type 0 = λ x. LacksNumbers (caps_of x) c.args.q.now.caps in
    let now = state_of s.domains.items s.caps s.stubs.stubs s.names s.threads in
    let fits : count_numbers (caps_of now) + c.args.q.now.caps ≤ last_number =
    elim (cases_lt last_number (count_numbers (caps_of now) + c.args.q.now.caps)) [
      | inl many ↦
          let lacks = here_lacks s.domains.items s.caps s.stubs.stubs s.names s.threads c.self.invariant.counted c.args.q.now.caps many in
          absurd (omega (arith, lacks, c.numbers_left.ensures.left, c.numbers_left.ensures.few, c.if-q-numbers_left.false))
      | inr few ↦ few
    ] in
    rw (c.push_reserved.ensures.items, c.in_ok-reserve.ensures.same, c.in_ok-admit.ensures.ok, c.add.ensures, c.in_ok-reserve-2.ensures.same)
    (record {
      counted =
          counts_admitted s.domains.items s.caps s.threads c.reserve-3.new.self _ _ c.self.invariant.counted next refl c.requires.quotas.threads
          (ap (λ (t : ThreadList). t.threads) c.in_ok-reserve-3.ensures.ok) (ap (λ (t : ThreadList). t.most) c.in_ok-reserve-3.ensures.ok);
      named =
          named_admitted s.domains.items s.names c.reserve-4.new.self _ c.self.invariant.named
          (subst (λ (k : ℕ). count_bound_by s.names.names (record { 0 = k }) ≡ 0) next
          (none_bound now c.args.d c.args.q.now c.args.stubs (subst P (sym c.self.view_is) c.requires.next) fits c.self.invariant.sound)) refl
          c.requires.quotas.names c.in_ok-reserve-4.ensures.ok;
      segments =
          room_admitted s.domains.items s.threads c.reserve-3.new.self _ c.self.invariant.segments low
          (ap (λ (t : ThreadList). t.most_segments) c.in_ok-reserve-3.ensures.ok) (ap (λ (t : ThreadList). t.domains) c.in_ok-reserve-3.ensures.ok);
      sound =
          rw (c.in_ok-reserve-3.ensures.ok, c.in_ok-reserve-4.ensures.ok)
          (subst V (admitted_is s.domains.items s.caps s.stubs.stubs s.names s.threads c.self.invariant.counted c.args.d c.args.q.now c.args.stubs _
          next refl refl refl)
          (sound_admitted now c.args.d c.args.q.now c.args.stubs (subst P (sym c.self.view_is) c.requires.next) fits c.self.invariant.sound));
    })

pub returns-clause-ok : goal.returns-clause-ok
returns-clause-ok c =
    let s = c.self.inside in
    let P : SharedState → Type 0 = λ x. IsNext x c.args.d in
    let next = next_is s.domains.items s.caps s.stubs.stubs s.names s.threads c.self.invariant.counted c.args.d
    (subst P (sym c.self.view_is) c.requires.next) in
    rw (
      ← c.self.view_is,
      c.push_reserved.ensures.items,
      c.in_ok-reserve.ensures.same,
      c.in_ok-admit.ensures.ok,
      c.in_ok-reserve-3.ensures.ok,
      c.in_ok-reserve-4.ensures.ok,
      c.add.ensures,
      c.in_ok-reserve-2.ensures.same,
    )
    (sym (admitted_is s.domains.items s.caps s.stubs.stubs s.names s.threads c.self.invariant.counted c.args.d c.args.q.now c.args.stubs _ next refl refl refl))
