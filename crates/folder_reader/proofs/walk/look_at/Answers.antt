-- What one step of the walk leaves, and what makes the folder too large there.
use Rattle.std.proofs.Common.{◌+◌, List, length, vec_len, sym, ap, subst, arith, length-append, refl}
use Rattle.std.proofs.lemmas.Option.{slice_get_read}
use Rattle.jk_model.proofs.EachItem.{all_append, all_at}
use Rattle.folder_reader.specs.declared.found.Found.{Found}
use Rattle.folder_reader.specs.Walks.{AreFound, AreLevelled, IsFound, IsToldWalk}
use Rattle.folder_reader.proofs.CallsInTurn.{handed_on}
use Rattle.folder_reader.proofs.CountsTaken.{more_levels, took_fewer, took_nothing}
use Rattle.folder_reader.proofs.ToldOrNot.{appended, are_many, is_deep, past_file, past_folder}
use Rattle.folder_reader.proofs.WalkGoesOn.{children_are_found}
use Rattle.folder_reader.proofs.AsksApart.{asks_same, asks_there, not_deep}
use Rattle.folder_reader.proofs.walk.look_at.Goals as goal

pub returns-then-not-entry-clause-walk : goal.returns-then-not-entry-clause-walk
returns-then-not-entry-clause-walk g c =
    let v = c.args.found.now in
    let at = slice_get_read v.items (vec_len v) c.args.at c.index-entry.result.now v.ok.0 c.requires.at c.index-entry.ensures in
    past_file _ c.args.root.now v.items c.args.at c.index-entry.result.now c.requires.walk at c.if-not-entry.true

pub returns-then-entry-gt-MOST_LEVELS-clause-too_large : goal.returns-then-entry-gt-MOST_LEVELS-clause-too_large
returns-then-entry-gt-MOST_LEVELS-clause-too_large g c = λ _.
    let v = c.args.found.now in
    let at = slice_get_read v.items (vec_len v) c.args.at c.index-entry.result.now v.ok.0 c.requires.at c.index-entry.ensures in
    is_deep _ c.args.root.now v.items c.args.at c.index-entry.result.now c.requires.walk at c.if-not-entry.false c.if-entry-gt-MOST_LEVELS.true

pub returns-then-len-clause-too_large : goal.returns-then-len-clause-too_large
returns-then-len-clause-too_large g c = λ _.
    let v = c.args.found.now in
    let at = slice_get_read v.items (vec_len v) c.args.at c.index-entry.result.now v.ok.0 c.requires.at c.index-entry.ensures in
    let b = c.in_ok-below.ensures.below in
    let items = appended _ c.is_err.result v.items c.in_ok-below.below.items c.append.new.self.items c.append.ensures.items c.is_err.ensures.negation
    c.if-is_err.false in
    let walk = past_folder _ c.args.root.now v.items c.in_ok-below.below.items c.args.at c.index-entry.result.now b.0 c.requires.walk at
    c.if-not-entry.false c.if-entry-gt-MOST_LEVELS.false b.1 b.2 in
    are_many _ c.args.root.now c.append.new.self.items (c.args.at + 1)
    (subst (λ (xs : List Found). IsToldWalk (g.F.Files.tree c.args.files.now) c.args.root.now xs (c.args.at + 1)) (sym items) walk)
    (omega (arith, c.if-len.true, c.len.ensures, c.append.new.self.ok.0))

pub returns-clause-found : goal.returns-clause-found
returns-clause-found g c =
    let v = c.args.found.now in
    let at = slice_get_read v.items (vec_len v) c.args.at c.index-entry.result.now v.ok.0 c.requires.at c.index-entry.ensures in
    let b = c.in_ok-below.ensures.below in
    let items = appended _ c.is_err.result v.items c.in_ok-below.below.items c.append.new.self.items c.append.ensures.items c.is_err.ensures.negation
    c.if-is_err.false in
    let here = all_at (IsFound c.args.root.now) v.items c.args.at c.index-entry.result.now c.requires.found at in
    let more = children_are_found c.args.root.now c.index-entry.result.now _ _ b.0 here b.1 in
    subst (AreFound c.args.root.now) (sym items)
    (all_append (IsFound c.args.root.now) v.items c.in_ok-below.below.items c.requires.found (subst (AreFound c.args.root.now) (sym b.2) more))

pub returns-clause-walk : goal.returns-clause-walk
returns-clause-walk g c =
    let v = c.args.found.now in
    let at = slice_get_read v.items (vec_len v) c.args.at c.index-entry.result.now v.ok.0 c.requires.at c.index-entry.ensures in
    let b = c.in_ok-below.ensures.below in
    let items = appended _ c.is_err.result v.items c.in_ok-below.below.items c.append.new.self.items c.append.ensures.items c.is_err.ensures.negation
    c.if-is_err.false in
    let walk = past_folder _ c.args.root.now v.items c.in_ok-below.below.items c.args.at c.index-entry.result.now b.0 c.requires.walk at
    c.if-not-entry.false c.if-entry-gt-MOST_LEVELS.false b.1 b.2 in
    subst (λ (xs : List Found). IsToldWalk (g.F.Files.tree c.args.files.now) c.args.root.now xs (c.args.at + 1)) (sym items) walk

pub returns-then-not-entry-clause-counted : goal.returns-then-not-entry-clause-counted
returns-then-not-entry-clause-counted g c = took_fewer _ 0 _ _ _ (omega arith) (took_nothing _ _)

pub returns-then-entry-gt-MOST_LEVELS-clause-large : goal.returns-then-entry-gt-MOST_LEVELS-clause-large
returns-then-entry-gt-MOST_LEVELS-clause-large g c = λ _.
    let v = c.args.found.now in
    let at = slice_get_read v.items (vec_len v) c.args.at c.index-entry.result.now v.ok.0 c.requires.at c.index-entry.ensures in
    let level = c.requires.levels c.args.at c.index-entry.result.now at in
    took_fewer _ 0 _ _ _ (omega (arith, level, c.requires.at, c.if-entry-gt-MOST_LEVELS.true)) (took_nothing _ _)

pub returns-in_err-below-clause-large : goal.returns-in_err-below-clause-large
returns-in_err-below-clause-large g c = λ is.
    let r = c.from_residual in
    took_fewer _ 17 _ _ _ (omega (arith, c.requires.at))
    (c.below_of.ensures.large (handed_on r.result c.in_err-below.field-0.0 _ c.below_of.result r.ensures.1 is c.in_err-below.was))

pub returns-then-len-clause-large : goal.returns-then-len-clause-large
returns-then-len-clause-large g c = λ _.
    let v = c.args.found.now in
    let w = c.in_ok-below.below in
    let items = appended _ c.is_err.result v.items w.items c.append.new.self.items c.append.ensures.items c.is_err.ensures.negation
    c.if-is_err.false in
    let all = ap length items in
    let both = length-append v.items w.items in
    took_fewer _ (vec_len w) _ _ _ (omega (arith, all, both, c.if-len.true, c.len.ensures, c.append.new.self.ok.0, v.ok.0, w.ok.0))
    c.in_ok-below.ensures.counted

pub returns-clause-counted : goal.returns-clause-counted
returns-clause-counted g c =
    let v = c.args.found.now in
    let w = c.in_ok-below.below in
    let items = appended _ c.is_err.result v.items w.items c.append.new.self.items c.append.ensures.items c.is_err.ensures.negation
    c.if-is_err.false in
    let all = ap length items in
    let both = length-append v.items w.items in
    took_fewer _ (vec_len w) _ _ _ (omega (arith, all, both, c.append.new.self.ok.0, v.ok.0, w.ok.0)) c.in_ok-below.ensures.counted

pub returns-clause-levels : goal.returns-clause-levels
returns-clause-levels g c =
    let v = c.args.found.now in
    let w = c.in_ok-below.below in
    let at = slice_get_read v.items (vec_len v) c.args.at c.index-entry.result.now v.ok.0 c.requires.at c.index-entry.ensures in
    let b = c.in_ok-below.ensures.below in
    let items = appended _ c.is_err.result v.items w.items c.append.new.self.items c.append.ensures.items c.is_err.ensures.negation
    c.if-is_err.false in
    subst AreLevelled (sym items)
    (more_levels v.items w.items c.args.at c.index-entry.result.now b.0 c.requires.levels at (omega (arith, c.requires.at, v.ok.0)) b.2)

pub returns-then-not-entry-clause-once : goal.returns-then-not-entry-clause-once
returns-then-not-entry-clause-once g c = λ f there. asks_same _ _ _ _ refl

pub returns-then-entry-gt-MOST_LEVELS-clause-once : goal.returns-then-entry-gt-MOST_LEVELS-clause-once
returns-then-entry-gt-MOST_LEVELS-clause-once g c = λ f there. asks_same _ _ _ _ refl

pub returns-in_err-below-clause-once : goal.returns-in_err-below-clause-once
returns-in_err-below-clause-once g c = λ f there.
    let v = c.args.found.now in
    let at = slice_get_read v.items (vec_len v) c.args.at c.index-entry.result.now v.ok.0 c.requires.at c.index-entry.ensures in
    asks_there c.args.root.now _ _ v.items c.args.at c.index-entry.result.now f at there c.below_of.ensures.once

pub returns-then-is_err-clause-once : goal.returns-then-is_err-clause-once
returns-then-is_err-clause-once g c = λ f there.
    let v = c.args.found.now in
    let at = slice_get_read v.items (vec_len v) c.args.at c.index-entry.result.now v.ok.0 c.requires.at c.index-entry.ensures in
    asks_there c.args.root.now _ _ v.items c.args.at c.index-entry.result.now f at there c.in_ok-below.ensures.once

pub returns-then-len-clause-once : goal.returns-then-len-clause-once
returns-then-len-clause-once g c = λ f there.
    let v = c.args.found.now in
    let at = slice_get_read v.items (vec_len v) c.args.at c.index-entry.result.now v.ok.0 c.requires.at c.index-entry.ensures in
    asks_there c.args.root.now _ _ v.items c.args.at c.index-entry.result.now f at there c.in_ok-below.ensures.once

pub returns-clause-once : goal.returns-clause-once
returns-clause-once g c = λ f there.
    let v = c.args.found.now in
    let at = slice_get_read v.items (vec_len v) c.args.at c.index-entry.result.now v.ok.0 c.requires.at c.index-entry.ensures in
    asks_there c.args.root.now _ _ v.items c.args.at c.index-entry.result.now f at there c.in_ok-below.ensures.once

pub returns-in_err-below-clause-deep : goal.returns-in_err-below-clause-deep
returns-in_err-below-clause-deep g c = λ f there folder deep.
    let v = c.args.found.now in
    let at = slice_get_read v.items (vec_len v) c.args.at c.index-entry.result.now v.ok.0 c.requires.at c.index-entry.ensures in
    absurd (not_deep v.items c.args.at c.index-entry.result.now f at there c.if-entry-gt-MOST_LEVELS.false deep)

pub returns-then-is_err-clause-deep : goal.returns-then-is_err-clause-deep
returns-then-is_err-clause-deep g c = λ f there folder deep.
    let v = c.args.found.now in
    let at = slice_get_read v.items (vec_len v) c.args.at c.index-entry.result.now v.ok.0 c.requires.at c.index-entry.ensures in
    absurd (not_deep v.items c.args.at c.index-entry.result.now f at there c.if-entry-gt-MOST_LEVELS.false deep)

pub returns-then-len-clause-deep : goal.returns-then-len-clause-deep
returns-then-len-clause-deep g c = λ f there folder deep.
    let v = c.args.found.now in
    let at = slice_get_read v.items (vec_len v) c.args.at c.index-entry.result.now v.ok.0 c.requires.at c.index-entry.ensures in
    absurd (not_deep v.items c.args.at c.index-entry.result.now f at there c.if-entry-gt-MOST_LEVELS.false deep)

pub returns-clause-deep : goal.returns-clause-deep
returns-clause-deep g c = λ f there folder deep.
    let v = c.args.found.now in
    let at = slice_get_read v.items (vec_len v) c.args.at c.index-entry.result.now v.ok.0 c.requires.at c.index-entry.ensures in
    absurd (not_deep v.items c.args.at c.index-entry.result.now f at there c.if-entry-gt-MOST_LEVELS.false deep)
