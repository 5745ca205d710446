-- The ranges are asked, then the items, and what fits is copied.
use Rattle.std.proofs.Common.{◌≡◌, ◌∙◌, ◌+◌, ◌≤◌, to_z, of_z, w32, inl, inr, sym, rules, arith}
use Rattle.jk_model_heaps.specs.SystemClasses.{ARRAY_STORE_EXCEPTION}
use Rattle.jk_model_domains.specs.Objects.{Array}
use Rattle.jk_model_system_rows.specs.Answers.{fails_by, gives_nothing}
use Rattle.object_store.proofs.ObjectsWritten.{is_short}
use Rattle.system_calls.proofs.CopiedArrays.{all_told, copy_row, counted_copy, front_within, part_told, plain_caps, plain_classes, plain_setting, range_fails, same_count, source_items, target_items}
use Rattle.system_calls.proofs.array_copies.copy_range.Goals as goal

pub range_in-requires : goal.range_in-requires
range_in-requires g c =
    omega (
      arith,
      is_short (g.H.ObjectStore.content c.args.heap.now) c.args.d c.args.source.now.name (Array c.args.source.now.element
          c.requires.source.0) (g.met.H.ObjectStore.holds c.args.heap.now) c.requires.source.1,
      c.requires.source.2,
    )

pub returns-in_default-clause-row : goal.returns-in_default-clause-row
returns-in_default-clause-row g c = λ x inside is caps.
    let begin : to_z w32 (of_z w32 c.args.from) ≡ c.args.from = search rules in
    let end : to_z w32 (of_z w32 c.args.to) ≡ c.args.to = search rules in
    let counts : to_z w32 (of_z w32 c.args.count) ≡ c.args.count = search rules in
    range_fails (g.H.ObjectStore.content c.args.heap.now) c.args.t.now c.args.d c.args.source.now c.args.target.now c.requires.source.0
    c.requires.target.0 c.requires.source.1 c.requires.target.1
    c.requires.source.2 c.requires.target.2 c.requires.kind
    x inside is c.args.from c.args.to c.args.count
    (inl (λ r. c.in_default.ensures (r.0, r.1, begin ∙ r.2, counts ∙ r.3, r.4)))

pub range_in-requires-2 : goal.range_in-requires-2
range_in-requires-2 g c =
    omega (
      arith,
      is_short (g.H.ObjectStore.content c.args.heap.now) c.args.d c.args.target.now.name (Array c.args.target.now.element
          c.requires.target.0) (g.met.H.ObjectStore.holds c.args.heap.now) c.requires.target.1,
      c.requires.target.2,
    )

pub returns-in_default-range_in-clause-row : goal.returns-in_default-range_in-clause-row
returns-in_default-range_in-clause-row g c = λ x inside is caps.
    let begin : to_z w32 (of_z w32 c.args.from) ≡ c.args.from = search rules in
    let end : to_z w32 (of_z w32 c.args.to) ≡ c.args.to = search rules in
    let counts : to_z w32 (of_z w32 c.args.count) ≡ c.args.count = search rules in
    range_fails (g.H.ObjectStore.content c.args.heap.now) c.args.t.now c.args.d c.args.source.now c.args.target.now c.requires.source.0
    c.requires.target.0 c.requires.source.1 c.requires.target.1
    c.requires.source.2 c.requires.target.2 c.requires.kind
    x inside is c.args.from c.args.to c.args.count
    (inr (λ r. c.in_default-range_in.ensures (r.0, r.1, end ∙ r.2, counts ∙ r.3, r.4)))

pub copy_items-requires-clause-source : goal.copy_items-requires-clause-source
copy_items-requires-clause-source g c =
    let begin : to_z w32 (of_z w32 c.args.from) ≡ c.args.from = search rules in
    let end : to_z w32 (of_z w32 c.args.to) ≡ c.args.to = search rules in
    let counts : to_z w32 (of_z w32 c.args.count) ≡ c.args.count = search rules in
    let a = c.in-Some.ensures in
    let b = c.in-Some-range_in.ensures in
    let one : c.in-Some-range_in.field-0-1 ≡ c.in-Some.many = same_count c.args.count c.in-Some.many c.in-Some-range_in.field-0-1 (sym counts ∙ a.1)
    (sym counts ∙ b.1) in
    let setting = plain_setting c.args.t.now (g.C.CapabilityTests.known c.args.caps.now) in
    let front = c.fitting_items-fitting.ensures setting c.args.source.now.element c.requires.source.0 (plain_classes c.args.t.now
    (g.C.CapabilityTests.known c.args.caps.now))
    (plain_caps c.args.t.now (g.C.CapabilityTests.known c.args.caps.now)) c.requires.source.1 in
    let few : c.fitting_items-fitting.result ≤ c.in-Some.many =
    front_within setting ((g.H.ObjectStore.content c.args.heap.now).heap c.args.d) c.args.target.now.element c.requires.source.0 c.in-Some.first
    c.in-Some.many c.fitting_items-fitting.result front
    (omega (arith, a.2, c.requires.source.2)) in
    source_items (g.H.ObjectStore.content c.args.heap.now) c.args.t.now c.args.d c.args.source.now c.args.target.now c.requires.source.0
    c.requires.target.0 c.requires.source.1 c.requires.target.1
    c.requires.source.2 c.requires.target.2 c.requires.kind
    (c.in-Some.first + c.fitting_items-fitting.result) (omega (arith, a.2, few))

pub copy_items-requires-clause-target : goal.copy_items-requires-clause-target
copy_items-requires-clause-target g c =
    let begin : to_z w32 (of_z w32 c.args.from) ≡ c.args.from = search rules in
    let end : to_z w32 (of_z w32 c.args.to) ≡ c.args.to = search rules in
    let counts : to_z w32 (of_z w32 c.args.count) ≡ c.args.count = search rules in
    let a = c.in-Some.ensures in
    let b = c.in-Some-range_in.ensures in
    let one : c.in-Some-range_in.field-0-1 ≡ c.in-Some.many = same_count c.args.count c.in-Some.many c.in-Some-range_in.field-0-1 (sym counts ∙ a.1)
    (sym counts ∙ b.1) in
    let setting = plain_setting c.args.t.now (g.C.CapabilityTests.known c.args.caps.now) in
    let front = c.fitting_items-fitting.ensures setting c.args.source.now.element c.requires.source.0 (plain_classes c.args.t.now
    (g.C.CapabilityTests.known c.args.caps.now))
    (plain_caps c.args.t.now (g.C.CapabilityTests.known c.args.caps.now)) c.requires.source.1 in
    let few : c.fitting_items-fitting.result ≤ c.in-Some.many =
    front_within setting ((g.H.ObjectStore.content c.args.heap.now).heap c.args.d) c.args.target.now.element c.requires.source.0 c.in-Some.first
    c.in-Some.many c.fitting_items-fitting.result front
    (omega (arith, a.2, c.requires.source.2)) in
    target_items (g.H.ObjectStore.content c.args.heap.now) c.args.t.now c.args.d c.args.source.now c.args.target.now c.requires.source.0
    c.requires.target.0 c.requires.source.1 c.requires.target.1
    c.requires.source.2 c.requires.target.2 c.requires.kind
    (c.in-Some-range_in.place + c.fitting_items-fitting.result) (omega (arith, b.2, one, few))

pub returns-then-fitting-many-clause-becomes : goal.returns-then-fitting-many-clause-becomes
returns-then-fitting-many-clause-becomes g c =
    let begin : to_z w32 (of_z w32 c.args.from) ≡ c.args.from = search rules in
    let end : to_z w32 (of_z w32 c.args.to) ≡ c.args.to = search rules in
    let counts : to_z w32 (of_z w32 c.args.count) ≡ c.args.count = search rules in
    let a = c.in-Some.ensures in
    let b = c.in-Some-range_in.ensures in
    let one : c.in-Some-range_in.field-0-1 ≡ c.in-Some.many = same_count c.args.count c.in-Some.many c.in-Some-range_in.field-0-1 (sym counts ∙ a.1)
    (sym counts ∙ b.1) in
    let setting = plain_setting c.args.t.now (g.C.CapabilityTests.known c.args.caps.now) in
    let front = c.fitting_items-fitting.ensures setting c.args.source.now.element c.requires.source.0 (plain_classes c.args.t.now
    (g.C.CapabilityTests.known c.args.caps.now))
    (plain_caps c.args.t.now (g.C.CapabilityTests.known c.args.caps.now)) c.requires.source.1 in
    let few : c.fitting_items-fitting.result ≤ c.in-Some.many =
    front_within setting ((g.H.ObjectStore.content c.args.heap.now).heap c.args.d) c.args.target.now.element c.requires.source.0 c.in-Some.first
    c.in-Some.many c.fitting_items-fitting.result front
    (omega (arith, a.2, c.requires.source.2)) in
    counted_copy (g.H.ObjectStore.content c.args.heap.now) c.args.t.now c.args.d c.args.source.now c.args.target.now c.requires.source.0
    c.requires.target.0 c.requires.source.1 c.requires.target.1
    c.requires.source.2 c.requires.target.2 c.requires.kind
    (g.H.ObjectStore.content c.copy_items.new.heap) c.in-Some.first c.in-Some-range_in.place c.fitting_items-fitting.result c.requires.ready
    (g.met.H.ObjectStore.holds c.args.heap.now)
    (omega (arith, a.2, few)) (omega (arith, b.2, one, few)) (c.copy_items.ensures c.args.source.now.element c.args.target.now.element
    c.requires.source.0 c.requires.target.0 c.requires.source.1 c.requires.target.1)

pub returns-then-fitting-many-clause-row : goal.returns-then-fitting-many-clause-row
returns-then-fitting-many-clause-row g c = λ x inside is caps.
    let begin : to_z w32 (of_z w32 c.args.from) ≡ c.args.from = search rules in
    let end : to_z w32 (of_z w32 c.args.to) ≡ c.args.to = search rules in
    let counts : to_z w32 (of_z w32 c.args.count) ≡ c.args.count = search rules in
    let a = c.in-Some.ensures in
    let b = c.in-Some-range_in.ensures in
    let one : c.in-Some-range_in.field-0-1 ≡ c.in-Some.many = same_count c.args.count c.in-Some.many c.in-Some-range_in.field-0-1 (sym counts ∙ a.1)
    (sym counts ∙ b.1) in
    let setting = plain_setting c.args.t.now (g.C.CapabilityTests.known c.args.caps.now) in
    let front = c.fitting_items-fitting.ensures setting c.args.source.now.element c.requires.source.0 (plain_classes c.args.t.now
    (g.C.CapabilityTests.known c.args.caps.now))
    (plain_caps c.args.t.now (g.C.CapabilityTests.known c.args.caps.now)) c.requires.source.1 in
    let few : c.fitting_items-fitting.result ≤ c.in-Some.many =
    front_within setting ((g.H.ObjectStore.content c.args.heap.now).heap c.args.d) c.args.target.now.element c.requires.source.0 c.in-Some.first
    c.in-Some.many c.fitting_items-fitting.result front
    (omega (arith, a.2, c.requires.source.2)) in
    copy_row (g.H.ObjectStore.content c.args.heap.now) c.args.t.now c.args.d c.args.source.now c.args.target.now c.requires.source.0
    c.requires.target.0 c.requires.source.1 c.requires.target.1
    c.requires.source.2 c.requires.target.2 c.requires.kind
    x inside is c.args.from c.args.to c.args.count (g.H.ObjectStore.content c.copy_items.new.heap) c.in-Some.first c.in-Some-range_in.place
    c.in-Some.many c.fitting_items-fitting.result
    (sym begin ∙ a.0) (sym end ∙ b.0) (sym counts ∙ a.1) a.2 (omega (arith, b.2, one))
    (c.fitting_items-fitting.ensures x c.args.source.now.element c.requires.source.0 is.classes caps c.requires.source.1) (c.copy_items.ensures
    c.args.source.now.element c.args.target.now.element c.requires.source.0 c.requires.target.0 c.requires.source.1 c.requires.target.1)
    gives_nothing (all_told c.fitting_items-fitting.result c.in-Some.many c.if-fitting-many.true)

pub returns-else-fitting-many-clause-becomes : goal.returns-else-fitting-many-clause-becomes
returns-else-fitting-many-clause-becomes g c =
    let begin : to_z w32 (of_z w32 c.args.from) ≡ c.args.from = search rules in
    let end : to_z w32 (of_z w32 c.args.to) ≡ c.args.to = search rules in
    let counts : to_z w32 (of_z w32 c.args.count) ≡ c.args.count = search rules in
    let a = c.in-Some.ensures in
    let b = c.in-Some-range_in.ensures in
    let one : c.in-Some-range_in.field-0-1 ≡ c.in-Some.many = same_count c.args.count c.in-Some.many c.in-Some-range_in.field-0-1 (sym counts ∙ a.1)
    (sym counts ∙ b.1) in
    let setting = plain_setting c.args.t.now (g.C.CapabilityTests.known c.args.caps.now) in
    let front = c.fitting_items-fitting.ensures setting c.args.source.now.element c.requires.source.0 (plain_classes c.args.t.now
    (g.C.CapabilityTests.known c.args.caps.now))
    (plain_caps c.args.t.now (g.C.CapabilityTests.known c.args.caps.now)) c.requires.source.1 in
    let few : c.fitting_items-fitting.result ≤ c.in-Some.many =
    front_within setting ((g.H.ObjectStore.content c.args.heap.now).heap c.args.d) c.args.target.now.element c.requires.source.0 c.in-Some.first
    c.in-Some.many c.fitting_items-fitting.result front
    (omega (arith, a.2, c.requires.source.2)) in
    counted_copy (g.H.ObjectStore.content c.args.heap.now) c.args.t.now c.args.d c.args.source.now c.args.target.now c.requires.source.0
    c.requires.target.0 c.requires.source.1 c.requires.target.1
    c.requires.source.2 c.requires.target.2 c.requires.kind
    (g.H.ObjectStore.content c.copy_items.new.heap) c.in-Some.first c.in-Some-range_in.place c.fitting_items-fitting.result c.requires.ready
    (g.met.H.ObjectStore.holds c.args.heap.now)
    (omega (arith, a.2, few)) (omega (arith, b.2, one, few)) (c.copy_items.ensures c.args.source.now.element c.args.target.now.element
    c.requires.source.0 c.requires.target.0 c.requires.source.1 c.requires.target.1)

pub returns-else-fitting-many-clause-row : goal.returns-else-fitting-many-clause-row
returns-else-fitting-many-clause-row g c = λ x inside is caps.
    let begin : to_z w32 (of_z w32 c.args.from) ≡ c.args.from = search rules in
    let end : to_z w32 (of_z w32 c.args.to) ≡ c.args.to = search rules in
    let counts : to_z w32 (of_z w32 c.args.count) ≡ c.args.count = search rules in
    let a = c.in-Some.ensures in
    let b = c.in-Some-range_in.ensures in
    let one : c.in-Some-range_in.field-0-1 ≡ c.in-Some.many = same_count c.args.count c.in-Some.many c.in-Some-range_in.field-0-1 (sym counts ∙ a.1)
    (sym counts ∙ b.1) in
    let setting = plain_setting c.args.t.now (g.C.CapabilityTests.known c.args.caps.now) in
    let front = c.fitting_items-fitting.ensures setting c.args.source.now.element c.requires.source.0 (plain_classes c.args.t.now
    (g.C.CapabilityTests.known c.args.caps.now))
    (plain_caps c.args.t.now (g.C.CapabilityTests.known c.args.caps.now)) c.requires.source.1 in
    let few : c.fitting_items-fitting.result ≤ c.in-Some.many =
    front_within setting ((g.H.ObjectStore.content c.args.heap.now).heap c.args.d) c.args.target.now.element c.requires.source.0 c.in-Some.first
    c.in-Some.many c.fitting_items-fitting.result front
    (omega (arith, a.2, c.requires.source.2)) in
    copy_row (g.H.ObjectStore.content c.args.heap.now) c.args.t.now c.args.d c.args.source.now c.args.target.now c.requires.source.0
    c.requires.target.0 c.requires.source.1 c.requires.target.1
    c.requires.source.2 c.requires.target.2 c.requires.kind
    x inside is c.args.from c.args.to c.args.count (g.H.ObjectStore.content c.copy_items.new.heap) c.in-Some.first c.in-Some-range_in.place
    c.in-Some.many c.fitting_items-fitting.result
    (sym begin ∙ a.0) (sym end ∙ b.0) (sym counts ∙ a.1) a.2 (omega (arith, b.2, one))
    (c.fitting_items-fitting.ensures x c.args.source.now.element c.requires.source.0 is.classes caps c.requires.source.1) (c.copy_items.ensures
    c.args.source.now.element c.args.target.now.element c.requires.source.0 c.requires.target.0 c.requires.source.1 c.requires.target.1) (fails_by
    ARRAY_STORE_EXCEPTION) (part_told c.fitting_items-fitting.result c.in-Some.many c.if-fitting-many.false)
