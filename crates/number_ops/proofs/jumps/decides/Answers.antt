-- Each kind of jump finds its operands.
use Rattle.std.proofs.Common.{◌≡◌, ◌≤◌, ◌<◌, ℕ, [], ◌∷◌, not, refl, ap, lit<, lit≤, inl, inr}
use Rattle.jk_model_typing.specs.declared.frames.Demand.TheVariants.{AnyReference}
use Rattle.jk_model_typing.specs.Groups.{int, takes}
use Rattle.number_ops.specs.declared.parts.Jump.TheVariants as J
use Rattle.number_laws.specs.NumberOpcodes.{int_jump_opcodes, zero_jump_opcodes}
use Rattle.number_ops.proofs.EntriesOnTop.{nothing_turned}
use Rattle.number_ops.proofs.FoundOperands.{found_int, found_ints, found_value, found_values, roomless}
use Rattle.number_laws.proofs.EachOpcode.{each_among}
use Rattle.number_ops.proofs.OpcodesAmong.{finds_as, of_jump}
use Rattle.number_ops.proofs.jumps.decides.Goals as goal

pub compare_with_zero-requires-clause-first : goal.compare_with_zero-requires-clause-first
compare_with_zero-requires-clause-first g c =
    each_among (λ (op : ℕ). 0x99 ≤ op) zero_jump_opcodes c.args.i.now.op (lit≤ tt, (lit≤ tt, (lit≤ tt, (lit≤ tt, (lit≤ tt, (lit≤ tt, tt))))))
    (of_jump _ J.Zero _ c.in-Zero.is c.requires.op)

pub compare_with_zero-requires-clause-last : goal.compare_with_zero-requires-clause-last
compare_with_zero-requires-clause-last g c =
    each_among (λ (op : ℕ). op < 0x9f) zero_jump_opcodes c.args.i.now.op (lit< tt, (lit< tt, (lit< tt, (lit< tt, (lit< tt, (lit< tt, tt))))))
    (of_jump _ J.Zero _ c.in-Zero.is c.requires.op)

pub compare_with_zero-requires-clause-finds : goal.compare_with_zero-requires-clause-finds
compare_with_zero-requires-clause-finds g c =
    let h = found_int _ _ [] (finds_as zero_jump_opcodes _ _ c.args.i.now (takes (int ∷ []) []) (refl, (refl, (refl, (refl, (refl, (refl, tt))))))
    (of_jump _ J.Zero _ c.in-Zero.is c.requires.op) c.requires.finds) in
    (h.0, roomless _ _ _ 0 h.1)

pub returns-in-Zero : goal.returns-in-Zero
returns-in-Zero g c = c.compare_with_zero.ensures

pub compare_ints-requires-clause-first : goal.compare_ints-requires-clause-first
compare_ints-requires-clause-first g c =
    each_among (λ (op : ℕ). 0x9f ≤ op) int_jump_opcodes c.args.i.now.op (lit≤ tt, (lit≤ tt, (lit≤ tt, (lit≤ tt, (lit≤ tt, (lit≤ tt, tt))))))
    (of_jump _ J.Ints _ c.in-Ints.is c.requires.op)

pub compare_ints-requires-clause-last : goal.compare_ints-requires-clause-last
compare_ints-requires-clause-last g c =
    each_among (λ (op : ℕ). op < 0xa5) int_jump_opcodes c.args.i.now.op (lit< tt, (lit< tt, (lit< tt, (lit< tt, (lit< tt, (lit< tt, tt))))))
    (of_jump _ J.Ints _ c.in-Ints.is c.requires.op)

pub compare_ints-requires-clause-finds : goal.compare_ints-requires-clause-finds
compare_ints-requires-clause-finds g c =
    let h = found_ints _ _ [] (finds_as int_jump_opcodes _ _ c.args.i.now (takes (int ∷ int ∷ []) []) (
      refl,
      (
        refl,
        (
          refl,
          (
            refl,
            (
              refl,
              (refl, tt),
            ),
          ),
        ),
      ),
    ) (of_jump _ J.Ints _ c.in-Ints.is c.requires.op) c.requires.finds) in
    (h.0, h.1, roomless _ _ _ 0 h.2)

pub returns-in-Ints : goal.returns-in-Ints
returns-in-Ints g c = c.compare_ints.ensures

pub take_same-requires : goal.take_same-requires
take_same-requires g c =
    found_values _ _ AnyReference AnyReference [] (finds_as (0xa5 ∷ []) _ _ c.args.i.now (takes (AnyReference ∷ AnyReference ∷ []) []) (refl, tt)
    (of_jump _ J.Same _ c.in-Same.is c.requires.op) c.requires.finds)

pub returns-in-Same : goal.returns-in-Same
returns-in-Same g c =
    let is = each_among (λ (op : ℕ). op ≡ 0xa5) (0xa5 ∷ []) c.args.i.now.op (refl, tt) (of_jump _ J.Same _ c.in-Same.is c.requires.op) in
    let h = c.take_same.ensures in
    (h.0 ∷ h.1 ∷ [], inr (inr (inl (h.0, h.1, is, refl, h.2))), h.3)

pub take_same-requires-in-Different : goal.take_same-requires-in-Different
take_same-requires-in-Different g c =
    found_values _ _ AnyReference AnyReference [] (finds_as (0xa6 ∷ []) _ _ c.args.i.now (takes (AnyReference ∷ AnyReference ∷ []) []) (refl, tt)
    (of_jump _ J.Different _ c.in-Different.is c.requires.op) c.requires.finds)

pub returns-in-Different : goal.returns-in-Different
returns-in-Different g c =
    let is = each_among (λ (op : ℕ). op ≡ 0xa6) (0xa6 ∷ []) c.args.i.now.op (refl, tt) (of_jump _ J.Different _ c.in-Different.is c.requires.op) in
    let h = c.take_same-in-Different.ensures in
    (h.0 ∷ h.1 ∷ [], inr (inr (inr (inl (h.0, h.1, is, refl, ap not h.2)))), h.3)

pub take_null-requires : goal.take_null-requires
take_null-requires g c =
    found_value _ _ AnyReference [] (finds_as (0xc6 ∷ []) _ _ c.args.i.now (takes (AnyReference ∷ []) []) (refl, tt)
    (of_jump _ J.Null _ c.in-Null.is c.requires.op) c.requires.finds)

pub returns-in-Null : goal.returns-in-Null
returns-in-Null g c =
    let is = each_among (λ (op : ℕ). op ≡ 0xc6) (0xc6 ∷ []) c.args.i.now.op (refl, tt) (of_jump _ J.Null _ c.in-Null.is c.requires.op) in
    let h = c.take_null.ensures in
    (h.0 ∷ [], inr (inr (inr (inr (inl (h.0, is, refl, h.1))))), h.2)

pub take_null-requires-in-NotNull : goal.take_null-requires-in-NotNull
take_null-requires-in-NotNull g c =
    found_value _ _ AnyReference [] (finds_as (0xc7 ∷ []) _ _ c.args.i.now (takes (AnyReference ∷ []) []) (refl, tt)
    (of_jump _ J.NotNull _ c.in-NotNull.is c.requires.op) c.requires.finds)

pub returns-in-NotNull : goal.returns-in-NotNull
returns-in-NotNull g c =
    let is = each_among (λ (op : ℕ). op ≡ 0xc7) (0xc7 ∷ []) c.args.i.now.op (refl, tt) (of_jump _ J.NotNull _ c.in-NotNull.is c.requires.op) in
    let h = c.take_null-in-NotNull.ensures in
    (h.0 ∷ [], inr (inr (inr (inr (inr (inl (h.0, is, refl, ap not h.1)))))), h.2)

pub returns-in-Always : goal.returns-in-Always
returns-in-Always g c =
    let is = each_among (λ (op : ℕ). op ≡ 0xa7) (0xa7 ∷ []) c.args.i.now.op (refl, tt) (of_jump _ J.Always _ c.in-Always.is c.requires.op) in
    ([], inr (inr (inr (inr (inr (inr (is, refl, refl)))))), nothing_turned _ _ c.requires.there.0 c.requires.there.1)
