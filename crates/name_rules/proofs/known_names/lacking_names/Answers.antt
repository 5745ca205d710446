-- One name more is marked where it says a class that isn't known.
use Rattle.std.proofs.Common.{◌+◌, ◌<◌, ◌↔◌, ◌∙◌, ℕ, List, [], ◌∷◌, Bool, length, ap, arith, subst, sym, length-append}
use Rattle.name_rules.specs.KnownNames.{IsEntryName, IsSaidBy, LacksOne}
use Rattle.name_rules.specs.Marks.{IsMarked}
use Rattle.name_rules.proofs.MarksInTurn.{unmarked}
use Rattle.name_rules.proofs.NamesLacking.{Tells, lacking_all, lacking_more}
use Rattle.name_rules.proofs.known_names.lacking_names.Goals as goal
use Rattle.name_rules.proofs.known_names.lacking_names.Goals.{then-is_name+in_ok-lacks, else-is_name}

pub loop-n-preserved : goal.loop-n-preserved
loop-n-preserved c =
    let x = c.args.names.now in
    let pool = c.args.f.now.file.pool in
    let n = c.loop-n.n in
    let lacks = c.if-is_name.lacks in
    let marks = c.loop-n.lacking.items in
    let items = c.in_ok-push.ensures.items in
    let own : IsEntryName pool n → Tells x (IsSaidBy pool n) lacks =
    elim c.if-is_name.branch [
      | then-is_name+in_ok-lacks w ↦ λ _. subst (λ (r : Bool). Tells x (IsSaidBy pool n) r) (sym w.lacks-is) w.in_ok-lacks.ensures
      | else-is_name w ↦ λ h.
          let known = c.in_ok-marks.ensures in
          let same = c.deref-is_name-items.ensures.value in
          let below : n < length pool =
          omega (arith, c.loop-n-test.true, known.as_many, ap (λ (m : List Bool). length m) same) in
          absurd (unmarked c.deref-is_name-items.result.now c.in_ok-marks.marks.items n same w.if-is_name.false ((known.at n below).1 h))
    ] in
    let all = lacking_more x pool marks n lacks c.loop-n.invariant.as_many c.loop-n.invariant.at own in
    record {
      as_many = ap (λ (m : List Bool). length m) items ∙ length-append marks (lacks ∷ []) ∙ ap (λ (k : ℕ). k + 1) c.loop-n.invariant.as_many;
      at = λ k below is_name.
          subst (λ (m : List Bool). IsMarked m k ↔ LacksOne x (IsSaidBy pool k)) (sym items) (all k below is_name);
    }

pub returns : goal.returns
returns c =
    lacking_all c.args.names.now c.args.f.now.file.pool c.loop-n.lacking.items c.loop-n.n c.loop-n.invariant.as_many
    (omega (arith, c.in_ok-marks.ensures.as_many, ap (λ (m : List Bool). length m) c.deref-is_name-items.ensures.value)) c.loop-n.invariant.at
