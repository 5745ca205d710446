-- Each step goes up from the lower class, above which are those that are above both.
use Rattle.std.proofs.Common.{◌≡◌, ◌≢◌, ◌≤◌, arith, subst}
use Rattle.std.proofs.lemmas.Bool.Decides.{nat_tests}
use Rattle.jk_model.specs.declared.identifiers.ClassId.{ClassId}
use Rattle.jk_model_classes.specs.Classes.{IsSubclass}
use Rattle.type_frames.proofs.OrderOfTypes.{same_class}
use Rattle.type_frames.proofs.NearestClass.{parent_above, above_parent, above_none}
use Rattle.type_frames.proofs.classes.common_class.Goals as goal

pub returns-in_err-left : goal.returns-in_err-left
returns-in_err-left c =
    let t = c.args.t.now in
    let at = c.loop-right in
    let apart : at.left.0 ≢ at.right.0 = omega arith in
    let order : at.right.0 ≤ at.left.0 = omega arith in
    rw c.from_residual.ensures
    (λ d above above_other.
    let both = at.invariant.same d above above_other in
    above_none t c.ordered.ensures.ordered at.left at.right order apart d c.in_err-left.ensures both.0 both.1)

pub returns-in_err-right : goal.returns-in_err-right
returns-in_err-right c =
    let t = c.args.t.now in
    let at = c.loop-right in
    let apart : at.right.0 ≢ at.left.0 = grind (arith, nat_tests) in
    let order : at.left.0 ≤ at.right.0 = omega arith in
    rw c.from_residual-in_err-right.ensures
    (λ d above above_other.
    let both = at.invariant.same d above above_other in
    above_none t c.ordered.ensures.ordered at.right at.left order apart d c.in_err-right.ensures both.1 both.0)

pub loop-right-preserved-then-left-right : goal.loop-right-preserved-then-left-right
loop-right-preserved-then-left-right c =
    let t = c.args.t.now in
    let at = c.loop-right in
    let apart : at.left.0 ≢ at.right.0 = omega arith in
    let order : at.right.0 ≤ at.left.0 = omega arith in
    record {
      left = parent_above t c.ordered.ensures.ordered c.args.a at.left c.in_ok-left.left c.in_ok-left.ensures at.invariant.left;
      right = at.invariant.right;
      same = λ d above above_other.
          let both = at.invariant.same d above above_other in
          (above_parent t c.ordered.ensures.ordered at.left at.right order apart c.in_ok-left.left d c.in_ok-left.ensures both.0 both.1, both.1);
    }

pub loop-right-preserved : goal.loop-right-preserved
loop-right-preserved c =
    let t = c.args.t.now in
    let at = c.loop-right in
    let apart : at.right.0 ≢ at.left.0 = grind (arith, nat_tests) in
    let order : at.left.0 ≤ at.right.0 = omega arith in
    record {
      left = at.invariant.left;
      right = parent_above t c.ordered.ensures.ordered c.args.b at.right c.in_ok-right.right c.in_ok-right.ensures at.invariant.right;
      same = λ d above above_other.
          let both = at.invariant.same d above above_other in
          (both.0, above_parent t c.ordered.ensures.ordered at.right at.left order apart c.in_ok-right.right d c.in_ok-right.ensures both.1 both.0);
    }

pub returns : goal.returns
returns c =
    let at = c.loop-right in
    let number : at.right.0 ≡ at.left.0 = grind (arith, nat_tests) in
    let one : at.right ≡ at.left = same_class at.right at.left number in
    record {
      left = at.invariant.left;
      right = subst (λ (d : ClassId). IsSubclass c.args.t.now c.args.b d) one at.invariant.right;
      nearest = λ d above above_other. (at.invariant.same d above above_other).0;
    }
