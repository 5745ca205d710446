-- The last argument is taken off, the others are carried, and it comes behind them.
use Rattle.std.proofs.Common.{◌≡◌, ℕ, suc, ◌-◌, ◌≤◌, List, [], ◌∷◌, ◌++◌, length, refl, sym, ap, subst, ◌∙◌, arith}
use Rattle.jk_model.specs.declared.values.Value.{Value}
use Rattle.jk_model.specs.declared.values.Value.TheVariants as Held
use Rattle.jk_model_frames.specs.Frames.{called_frame, locals_of}
use Rattle.domain_crossing.specs.MovedArguments.{Carries, FitsLocals, HasArrived}
use Rattle.domain_crossing.proofs.ArgumentsCarried.{admitted_still, begun_on_top, fewer_carried, fewer_fit, has_an_entry, just_begun, last_handed, last_reached, new_still, no_values, one_handed, one_more_carried, receiver_off, rest, room_still, split_last, taken_off}
use Rattle.domain_crossing.proofs.arguments.+carry.Goals as goal

pub pop_value-taken-requires : goal.pop_value-taken-requires
pop_value-taken-requires g t c =
    let old = g.F.SegmentFrames.content c.args.frames.now in
    has_an_entry old old c.args.s c.requires.carries.0

pub begin-requires-clause-admitted : goal.begin-requires-clause-admitted
begin-requires-clause-admitted g t c =
    let old = g.F.SegmentFrames.content c.args.frames.now in
    let mid = g.F.SegmentFrames.content c.pop_value-taken.new.self in
    let call = c.requires.carries.0 in
    let none : c.args.count ≡ 0 = omega arith in
    let sets = receiver_off old mid c.args.s call c.pop_value-taken.result (c.requires.carries.2.many ∙ none) c.pop_value-taken.ensures in
    admitted_still old mid c.args.s call call.below sets c.args.n c.args.callee.now.owner c.args.callee.now.head c.requires.admitted

pub begin-requires-clause-new : goal.begin-requires-clause-new
begin-requires-clause-new g t c =
    let old = g.F.SegmentFrames.content c.args.frames.now in
    let mid = g.F.SegmentFrames.content c.pop_value-taken.new.self in
    let call = c.requires.carries.0 in
    let none : c.args.count ≡ 0 = omega arith in
    let sets = receiver_off old mid c.args.s call c.pop_value-taken.result (c.requires.carries.2.many ∙ none) c.pop_value-taken.ensures in
    new_still old mid c.args.s call call.below sets c.args.n c.args.callee.now.owner c.args.callee.now.head c.requires.new

pub begin-requires-clause-chunks : goal.begin-requires-clause-chunks
begin-requires-clause-chunks g t c =
    let old = g.F.SegmentFrames.content c.args.frames.now in
    let mid = g.F.SegmentFrames.content c.pop_value-taken.new.self in
    let call = c.requires.carries.0 in
    let none : c.args.count ≡ 0 = omega arith in
    let sets = receiver_off old mid c.args.s call c.pop_value-taken.result (c.requires.carries.2.many ∙ none) c.pop_value-taken.ensures in
    room_still old mid c.args.s call call.below sets c.args.n c.args.callee.now.owner c.args.callee.now.head c.requires.chunks

pub begin-requires-clause-local : goal.begin-requires-clause-local
begin-requires-clause-local g t c =
    let fits : suc (length (locals_of c.requires.carries.1)) ≤ c.args.callee.now.head.max_locals = c.requires.carries.3 in
    omega (arith, fits)

pub returns-then-count-eq0 : goal.returns-then-count-eq0
returns-then-count-eq0 g t c = λ call values carries fits.
    let old = g.F.SegmentFrames.content c.args.frames.now in
    let mid = g.F.SegmentFrames.content c.pop_value-taken.new.self in
    let new = g.F.SegmentFrames.content c.begin.new.frames in
    let owner = c.args.callee.now.owner in
    let head = c.args.callee.now.head in
    let target = c.args.callee.now.target in
    let none : c.args.count ≡ 0 = omega arith in
    let sets = receiver_off old mid c.args.s call c.pop_value-taken.result (carries.many ∙ none) c.pop_value-taken.ensures in
    let empty = no_values values (carries.as_many ∙ none) in
    let begun = just_begun old mid c.args.s call new c.args.n owner (called_frame head (Held.Obj target ∷ [])) sets c.begin.ensures in
    subst (λ (vs : List Value). HasArrived call c.args.n owner (called_frame head (Held.Obj target ∷ vs)) new
    × (1 ≡ length (locals_of (Held.Obj target ∷ vs)))) (sym empty) (begun, refl)

pub carry-at-requires : goal.carry-at-requires
carry-at-requires g t c = λ κs lives.
    let old = g.F.SegmentFrames.content c.args.frames.now in
    let mid = g.F.SegmentFrames.content c.pop_value-taken.new.self in
    let owner = c.args.callee.now.owner in
    let head = c.args.callee.now.head in
    let target = c.args.callee.now.target in
    let call = c.requires.carries.0 in
    let values = c.requires.carries.1 in
    let carries = c.requires.carries.2 in
    let some : c.args.count ≡ suc (c.args.count - 1) = omega arith in
    let taken = taken_off old mid c.args.s call (c.args.count - 1) c.pop_value-taken.result (carries.many ∙ some) c.pop_value-taken.ensures in
    let split = split_last values (c.args.count - 1) (carries.as_many ∙ some) in
    let stack = call.below ++ call.receiver ∷ taken.front in (
      omega arith,
      (
        lives,
        (
          admitted_still old mid c.args.s call stack taken.sets c.args.n owner head c.requires.admitted,
          (
            new_still old mid c.args.s call stack taken.sets c.args.n owner head c.requires.new,
            (
              room_still old mid c.args.s call stack taken.sets c.args.n owner head c.requires.chunks,
              (
                c.requires.few_locals,
                (
                  rest old mid c.args.s call taken.front taken.sets,
                  split.0,
                  fewer_carried call.given values taken.front split.0 c.args.copies (c.args.count - 1) c.pop_value-taken.result split.1
                      (subst (λ (n : ℕ). Carries call.given c.args.copies n values) some carries) taken.are split.2,
                  fewer_fit head target values split.0 split.1 split.2 c.requires.carries.3,
                ),
              ),
            ),
          ),
        ),
      ),
    )

pub handed-requires : goal.handed-requires
handed-requires g t c =
    let old = g.F.SegmentFrames.content c.args.frames.now in
    let mid = g.F.SegmentFrames.content c.pop_value-taken.new.self in
    let call = c.requires.carries.0 in
    let values = c.requires.carries.1 in
    let carries = c.requires.carries.2 in
    let some : c.args.count ≡ suc (c.args.count - 1) = omega arith in
    let taken = taken_off old mid c.args.s call (c.args.count - 1) c.pop_value-taken.result (carries.many ∙ some) c.pop_value-taken.ensures in
    let split = split_last values (c.args.count - 1) (carries.as_many ∙ some) in
    last_reached c.args.copies (c.args.count - 1) c.pop_value-taken.result split.1
    (last_handed call.given values taken.front split.0 c.args.copies (c.args.count - 1) c.pop_value-taken.result split.1
    (subst (λ (n : ℕ). Carries call.given c.args.copies n values) some carries) taken.are split.2)

pub put-requires : goal.put-requires
put-requires g t c =
    let old = g.F.SegmentFrames.content c.args.frames.now in
    let mid = g.F.SegmentFrames.content c.pop_value-taken.new.self in
    let x = g.F.SegmentFrames.content c.carry-at.new.frames in
    let owner = c.args.callee.now.owner in
    let head = c.args.callee.now.head in
    let target = c.args.callee.now.target in
    let call = c.requires.carries.0 in
    let values = c.requires.carries.1 in
    let carries = c.requires.carries.2 in
    let some : c.args.count ≡ suc (c.args.count - 1) = omega arith in
    let taken = taken_off old mid c.args.s call (c.args.count - 1) c.pop_value-taken.result (carries.many ∙ some) c.pop_value-taken.ensures in
    let split = split_last values (c.args.count - 1) (carries.as_many ∙ some) in
    let one = subst (λ (n : ℕ). Carries call.given c.args.copies n values) some carries in
    let left = rest old mid c.args.s call taken.front taken.sets in
    let did = c.carry-at.ensures left split.0
    (fewer_carried call.given values taken.front split.0 c.args.copies (c.args.count - 1) c.pop_value-taken.result split.1 one taken.are split.2)
    (fewer_fit head target values split.0 split.1 split.2 c.requires.carries.3) in
    let same : split.1 ≡ c.handed.result =
    one_handed c.args.copies (c.args.count - 1) c.pop_value-taken.result split.1 c.handed.result
    (last_handed call.given values taken.front split.0 c.args.copies (c.args.count - 1) c.pop_value-taken.result split.1 one taken.are split.2)
    c.handed.ensures in (
      head,
      Held.Obj target ∷ split.0,
      begun_on_top mid x c.args.s c.args.n left owner (called_frame head (Held.Obj target ∷ split.0)) did.0,
      did.1,
      subst (λ (v : Value). FitsLocals head (Held.Obj target ∷ (split.0 ++ v ∷ []))) same
          (subst (λ (vs : List Value). FitsLocals head (Held.Obj target ∷ vs)) split.2 c.requires.carries.3),
      c.requires.few_locals,
    )

pub returns : goal.returns
returns g t c = λ call values carries fits.
    let old = g.F.SegmentFrames.content c.args.frames.now in
    let mid = g.F.SegmentFrames.content c.pop_value-taken.new.self in
    let x = g.F.SegmentFrames.content c.carry-at.new.frames in
    let new = g.F.SegmentFrames.content c.put.new.frames in
    let owner = c.args.callee.now.owner in
    let head = c.args.callee.now.head in
    let target = c.args.callee.now.target in
    let some : c.args.count ≡ suc (c.args.count - 1) = omega arith in
    let taken = taken_off old mid c.args.s call (c.args.count - 1) c.pop_value-taken.result (carries.many ∙ some) c.pop_value-taken.ensures in
    let split = split_last values (c.args.count - 1) (carries.as_many ∙ some) in
    let one = subst (λ (n : ℕ). Carries call.given c.args.copies n values) some carries in
    let left = rest old mid c.args.s call taken.front taken.sets in
    let did = c.carry-at.ensures left split.0
    (fewer_carried call.given values taken.front split.0 c.args.copies (c.args.count - 1) c.pop_value-taken.result split.1 one taken.are split.2)
    (fewer_fit head target values split.0 split.1 split.2 fits) in
    let same : split.1 ≡ c.handed.result =
    one_handed c.args.copies (c.args.count - 1) c.pop_value-taken.result split.1 c.handed.result
    (last_handed call.given values taken.front split.0 c.args.copies (c.args.count - 1) c.pop_value-taken.result split.1 one taken.are split.2)
    c.handed.ensures in
    let fit = subst (λ (v : Value). FitsLocals head (Held.Obj target ∷ (split.0 ++ v ∷ []))) same
    (subst (λ (vs : List Value). FitsLocals head (Held.Obj target ∷ vs)) split.2 fits) in
    let puts = c.put.ensures head (Held.Obj target ∷ split.0)
    (begun_on_top mid x c.args.s c.args.n left owner (called_frame head (Held.Obj target ∷ split.0)) did.0) did.1 fit in
    let all : split.0 ++ c.handed.result ∷ [] ≡ values = ap (λ (v : Value). split.0 ++ v ∷ []) (sym same) ∙ sym split.2 in
    subst (λ (vs : List Value). HasArrived call c.args.n owner (called_frame head (Held.Obj target ∷ vs)) new
    × (c.put.result ≡ length (locals_of (Held.Obj target ∷ vs)))) all (
      one_more_carried old mid c.args.s call taken.front taken.sets x new c.args.n owner (called_frame head (Held.Obj target ∷ split.0))
          (called_frame head (Held.Obj target ∷ (split.0 ++ c.handed.result ∷ []))) refl did.0 puts.0,
      puts.1,
    )
