-- Which locals may differ after a store.
use Rattle.std.proofs.Common.{inl, inr, arith}
use Rattle.std.proofs.lemmas.Bool.Decides.{nat_tests}
use Rattle.type_verifier.proofs.ranges.left_by.Goals as goal

pub returns-then-is_store : goal.returns-then-is_store
returns-then-is_store c =
    let clipped = c.clipped.ensures in
    let had = c.hull.ensures.left in
    let more = c.hull.ensures.right in
    record {
      within = omega (arith, clipped.1);
      kept = λ k low away. elim away [
        | inl before ↦ inl (omega (arith, clipped.0, had.0))
        | inr past ↦ inr (omega (arith, clipped.1, had.1))
      ];
      whole = λ first end. (omega (arith, clipped.0, had.0), omega (arith, clipped.1, had.1));
      store = λ store n k is low away.
          let stored = c.stored_by.ensures n is in
          elim away [
            | inl before ↦ inl (omega (arith, clipped.0, more.0, stored.0))
            | inr past ↦ inr (omega (arith, clipped.1, more.1, stored.1))
          ];
      calls = λ is. elim is [
        | inl new ↦ let other = c.if-i.false in absurd (grind (arith, nat_tests))
        | inr special ↦ let other = c.if-i-2.false in absurd (grind (arith, nat_tests))
      ];
    }
