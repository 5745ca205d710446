-- The arrays, and what contradicts a range of theirs.
use Rattle.std.proofs.Common.{◌≡◌, ℕ, ◌+◌, ◌≤◌, pos, negsuc, refl, arith}
use Rattle.jk_model.specs.declared.values.Value.TheVariants as Held
use Rattle.jk_model_system_rows.specs.ArrayCopies.{ArrayCopy, ArrayPair, copies, out_of_range}
use Rattle.jk_model_system_rows.proofs.ArraysOfExamples.{four_ints, heap, two_objects, two_texts}
use Rattle.jk_model_system_rows.proofs.examples.copies_out_of_range.Goals as goal

same_index : (m n : ℕ) → pos m ≡ pos n → m ≡ n
same_index m n e = cc

no_index : (m n : ℕ) → negsuc m ≡ pos n → ⊥
no_index m n e = cc

abbrev none : ArrayCopy
none = record { source = Held.Obj 1; from = pos 0; target = Held.Obj 1; to = pos 0; count = negsuc 0 }

abbrev past_source : ArrayCopy
past_source = record { source = Held.Obj 1; from = pos 5; target = Held.Obj 1; to = pos 0; count = pos 0 }

abbrev past_target : ArrayCopy
past_target = record { source = Held.Obj 1; from = pos 0; target = Held.Obj 1; to = pos 2; count = pos 3 }

abbrev objects_to_texts : ArrayCopy
objects_to_texts = record { source = Held.Obj 4; from = pos 0; target = Held.Obj 5; to = pos 1; count = pos 2 }

abbrev at_end : ArrayCopy
at_end = record { source = Held.Obj 1; from = pos 4; target = Held.Obj 1; to = pos 4; count = pos 0 }

abbrev mixed : ArrayPair heap objects_to_texts
mixed = record { source = two_objects; target = two_texts; one_kind = refl }

pub returns-clause-negative_count : goal.returns-clause-negative_count
returns-clause-negative_count c =
    (none, refl, out_of_range (record { source = four_ints; target = four_ints; one_kind = refl }) (λ r. no_index 0 r.count r.is_count) refl)

pub returns-clause-past_the_source : goal.returns-clause-past_the_source
returns-clause-past_the_source c = (
  past_source,
  refl,
  out_of_range
      (record { source = four_ints; target = four_ints; one_kind = refl })
      (λ r.
      let from : 5 ≡ r.from = same_index 5 r.from r.is_from in
      let within : r.from + r.count ≤ 4 = r.in_source in
      absurd (omega (arith, from, within)))
      refl,
)

pub returns-clause-past_the_target : goal.returns-clause-past_the_target
returns-clause-past_the_target c = (
  past_target,
  refl,
  out_of_range
      (record { source = four_ints; target = four_ints; one_kind = refl })
      (λ r.
      let to : 2 ≡ r.to = same_index 2 r.to r.is_to in
      let count : 3 ≡ r.count = same_index 3 r.count r.is_count in
      let within : r.to + r.count ≤ 4 = r.in_target in
      absurd (omega (arith, to, count, within)))
      refl,
)

pub returns-clause-before_items : goal.returns-clause-before_items
returns-clause-before_items c = (
  objects_to_texts,
  refl,
  out_of_range
      mixed
      (λ r.
      let to : 1 ≡ r.to = same_index 1 r.to r.is_to in
      let count : 2 ≡ r.count = same_index 2 r.count r.is_count in
      let within : r.to + r.count ≤ 2 = r.in_target in
      absurd (omega (arith, to, count, within)))
      refl,
)

pub returns-clause-at_the_end : goal.returns-clause-at_the_end
returns-clause-at_the_end c = (
  at_end,
  refl,
  copies
      (record { source = four_ints; target = four_ints; one_kind = refl })
      (record { from = 4; is_from = refl; to = 4; is_to = refl; count = 0; is_count = refl; in_source = omega arith; in_target = omega arith })
      0
      refl
      refl,
)
