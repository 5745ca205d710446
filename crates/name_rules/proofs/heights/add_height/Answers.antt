-- One place more is put in order, if it is at this height.
use Rattle.std.proofs.Common.{◌≡◌, ◌+◌, ℕ, List, sym, ◌∙◌, ap, subst, arith, get_or, Some, slice_get}
use Rattle.std.specs.Global.{Vec}
use Rattle.std.proofs.lemmas.Option.{slice_get-get_or}
use Rattle.name_rules.specs.Graphs.{AreInOrder}
use Rattle.name_rules.proofs.PlacesInOrder.{height_done, place_added, place_skipped}
use Rattle.name_rules.proofs.heights.add_height.Goals as goal
use Rattle.name_rules.proofs.heights.add_height.Goals.{then-own-height+in_ok-push, else-own-height}

pub loop-place-preserved : goal.loop-place-preserved
loop-place-preserved c =
    let heights = c.args.heights.now in
    let height = c.args.height in
    let place = c.loop-place.place in
    let order = c.loop-place.order.items in
    let own = get_or heights place 0 in
    let at : slice_get heights place ≡ Some own = slice_get-get_or heights place 0 (omega arith) in
    let Fine : List ℕ → Type 0 = λ o. AreInOrder heights height (place + 1) o in
    elim c.if-own-height.branch [
      | then-own-height+in_ok-push w ↦
          subst Fine (sym (ap (λ (v : Vec ℕ). v.items) w.order-is ∙ w.in_ok-push.ensures.items))
          (place_added heights height place order own c.loop-place.invariant at w.if-own-height.true)
      | else-own-height w ↦
          subst Fine (sym (ap (λ (v : Vec ℕ). v.items) w.order-is))
          (place_skipped heights height place order own c.loop-place.invariant at w.if-own-height.false)
    ]

pub returns : goal.returns
returns c = height_done c.args.heights.now c.args.height c.loop-place.place c.loop-place.order.items (omega arith) c.loop-place.invariant
