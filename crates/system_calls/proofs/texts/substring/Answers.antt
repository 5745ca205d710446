-- The part is copied into a new text; where there is none, all is as before.
use Rattle.std.proofs.lemmas.List.{length-replicate}
use Rattle.std.proofs.Common.{◌≡◌, ℕ, ◌+◌, ◌≤◌, length, to_z, of_z, w32, rules, sym, ◌∙◌, arith}
use Rattle.system_calls.proofs.TextRows.{cut_outside, part_is_cut, source_given, target_given}
use Rattle.system_calls.proofs.texts.substring.Goals as goal

pub returns-in_default : goal.returns-in_default
returns-in_default g c =
    let begin : to_z w32 (of_z w32 c.args.begin) ≡ c.args.begin = search rules in
    let end : to_z w32 (of_z w32 c.args.end) ≡ c.args.end = search rules in
    cut_outside (g.H.ObjectStore.content c.args.heap.now) c.args.t.now c.args.d c.requires.ready c.args.text c.requires.given.0.0
    c.requires.given.0.1 c.args.begin c.args.end
    c.text_len-len.result (c.text_len-len.ensures c.requires.given.0.0 c.requires.given.0.1)
    (λ i j b e low. c.in_default.ensures i j (begin ∙ b) (end ∙ e) low)

pub copy_units-requires-clause-source : goal.copy_units-requires-clause-source
copy_units-requires-clause-source g c =
    let long = c.text_len-len.ensures c.requires.given.0.0 c.requires.given.0.1 in
    let begin : to_z w32 (of_z w32 c.args.begin) ≡ c.args.begin = search rules in
    let end : to_z w32 (of_z w32 c.args.end) ≡ c.args.end = search rules in
    let places = c.in-Some.ensures in
    let within : c.in-Some.first + c.in-Some.count ≤ length c.requires.given.0.0 = omega (arith, places.2, long) in
    source_given (g.H.ObjectStore.content c.args.heap.now) c.args.t.now c.args.d c.requires.ready c.args.text c.requires.given.0.0 c.requires.given.0.1
    c.args.begin c.args.end (g.H.ObjectStore.content c.make.new.self) c.in-Ok.a c.in-Some.first c.in-Some.count c.in-Ok.ensures.ok
    (sym begin ∙ places.0) (sym end ∙ places.1) within

pub copy_units-requires-clause-target : goal.copy_units-requires-clause-target
copy_units-requires-clause-target g c =
    let long = c.text_len-len.ensures c.requires.given.0.0 c.requires.given.0.1 in
    let begin : to_z w32 (of_z w32 c.args.begin) ≡ c.args.begin = search rules in
    let end : to_z w32 (of_z w32 c.args.end) ≡ c.args.end = search rules in
    let places = c.in-Some.ensures in
    let within : c.in-Some.first + c.in-Some.count ≤ length c.requires.given.0.0 = omega (arith, places.2, long) in
    target_given (g.H.ObjectStore.content c.args.heap.now) c.args.t.now c.args.d c.requires.ready c.args.text c.requires.given.0.0 c.requires.given.0.1
    c.args.begin c.args.end (g.H.ObjectStore.content c.make.new.self) c.in-Ok.a c.in-Some.first c.in-Some.count c.in-Ok.ensures.ok
    (sym begin ∙ places.0) (sym end ∙ places.1) within

pub returns-in-Ok : goal.returns-in-Ok
returns-in-Ok g c =
    let long = c.text_len-len.ensures c.requires.given.0.0 c.requires.given.0.1 in
    let begin : to_z w32 (of_z w32 c.args.begin) ≡ c.args.begin = search rules in
    let end : to_z w32 (of_z w32 c.args.end) ≡ c.args.end = search rules in
    let places = c.in-Some.ensures in
    let within : c.in-Some.first + c.in-Some.count ≤ length c.requires.given.0.0 = omega (arith, places.2, long) in
    part_is_cut (g.H.ObjectStore.content c.args.heap.now) c.args.t.now c.args.d c.requires.ready c.args.text c.requires.given.0.0 c.requires.given.0.1
    c.args.begin c.args.end (g.H.ObjectStore.content c.make.new.self) c.in-Ok.a c.in-Some.first c.in-Some.count c.in-Ok.ensures.ok
    (sym begin ∙ places.0) (sym end ∙ places.1) within
    (g.H.ObjectStore.content c.copy_units.new.heap) c.copy_units.ensures (g.met.H.ObjectStore.holds c.args.heap.now) (omega (
      arith,
      c.in-Ok.ensures.room,
      length-replicate {A = ℕ} c.in-Some.count 0,
    ))
