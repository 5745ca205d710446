use Rattle.std.proofs.Common.{◌≡◌, ◌∙◌, sym, subst, ⊎_elim, arith}
use Rattle.std.proofs.lemmas.Bool.{cases_lt, false≢true}
use Rattle.std.proofs.lemmas.List.{get_or_default}
use Rattle.std.proofs.lemmas.Option.{same_Some}
use Rattle.member_index.specs.declared.entries.Entry.{Entry}
use Rattle.member_index.proofs.FirstOfARun.{search_of, entry_in_run, read_in_run, first_suits, none_suits}
use Rattle.member_index.proofs.entries.first_from.Goals as goal

pub bounds-members-from : goal.bounds-members-from
bounds-members-from g c =
    let s = search_of c.args.members.now c.requires c.run-entry-items.ensures c.marks.ensures (g.met.K.Sought.marks_agree c.args.key.now) in
    rw c.from.ensures (entry_in_run s _ _ c.loop-entry-test.true)

pub offset_bounds-members-from : goal.offset_bounds-members-from
offset_bounds-members-from g c = let below = bounds-members-from g c in omega arith

pub returns-then-is : goal.returns-then-is
returns-then-is g c =
    let s = search_of c.args.members.now c.requires c.run-entry-items.ensures c.marks.ensures (g.met.K.Sought.marks_agree c.args.key.now) in
    let m = c.index-members-from.result in
    let stands = read_in_run s c.loop-entry.entry-index _ c.from.result m c.loop-entry-test.true c.from.ensures c.index-members-from.is in
    first_suits s c.loop-entry.entry-index _ c.loop-entry-test.true c.loop-entry.invariant (m, stands, c.is.ensures.0 c.if-is.true)

-- the entry of this turn leads to a member that doesn't suit
pub loop-entry-preserved : goal.loop-entry-preserved
loop-entry-preserved g c =
    let s = search_of c.args.members.now c.requires c.run-entry-items.ensures c.marks.ensures (g.met.K.Sought.marks_agree c.args.key.now) in
    let here = c.loop-entry.entry-index in
    let m = c.index-members-from.result in
    let d : Entry = record { marks = record { name = 0; kind = 0 }; place = 0 } in
    let stands = read_in_run s here d c.from.result m c.loop-entry-test.true c.from.ensures c.index-members-from.is in
    λ k e k_in suits.
    ⊎_elim
    (λ before. c.loop-entry.invariant k e before suits)
    (λ not_before.
    let is_here : k ≡ here = omega arith in
    let same_entry = get_or_default c.run-entry-items.result.now here e d c.loop-entry-test.true in
    let found = rw (is_here, same_entry) at suits.1 in
    let same = same_Some suits.0 m (sym found ∙ stands) in
    false≢true (sym c.if-is.false ∙ c.is.ensures.1 (subst (g.K.Sought.Suits c.args.key.now) same suits.2)))
    (cases_lt k here)

pub returns : goal.returns
returns g c =
    let s = search_of c.args.members.now c.requires c.run-entry-items.ensures c.marks.ensures (g.met.K.Sought.marks_agree c.args.key.now) in
    none_suits s (λ k d k_in. c.loop-entry.invariant k d (omega arith))
