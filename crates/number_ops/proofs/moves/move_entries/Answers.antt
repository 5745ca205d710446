-- Each instruction moves entries as its row says.
use Rattle.std.proofs.Common.{◌≡◌, ℕ, List, [], ◌++◌, refl, sym, ap, subst, inl, inr, lit<, lit≤, ◌≤◌, arith}
use Rattle.jk_model.specs.declared.identifiers.SegmentNo.{SegmentNo}
use Rattle.jk_model.specs.declared.values.Value.{Value}
use Rattle.jk_model_domains.specs.NumberRows.{HasRow, copies, values_slots}
use Rattle.frame_store.specs.FrameContents.{FrameContent}
use Rattle.number_ops.specs.Entries.{entries_of}
use Rattle.number_ops.specs.Operands.{Moved}
use Rattle.number_laws.specs.NumberOpcodes.{moving_opcodes}
use Rattle.number_ops.specs.TopChanges.{Turns}
use Rattle.number_laws.proofs.EachOpcode.{each_among}
use Rattle.number_ops.proofs.OpcodesAmong.{finds_at}
use Rattle.number_ops.proofs.moves.move_entries.Goals as goal

copied : (c d : FrameContent) (s : SegmentNo) (op below top : ℕ) → HasRow copies op (below, top)
    → ((skipped : List Value) × (copied : List Value) × (values_slots skipped ≡ below) × (values_slots copied ≡ top)
    × Turns c d s (skipped ++ copied) (copied ++ skipped ++ copied)) → Moved c d s op
copied c d s op below top row h = (_, _, inr (inl (below, top, h.0, h.1, row, h.2, h.3, refl, refl)), h.4)

pub take_slots-requires-clause-finds : goal.take_slots-requires-clause-finds
take_slots-requires-clause-finds g c = finds_at _ _ c.args.i.now 87 c.in-87.is c.requires.finds

pub returns-in-87 : goal.returns-in-87
returns-in-87 g c = (
  entries_of c.take_slots.result,
  [],
  inl (1, (0, lit< tt, ap (λ (op : ℕ). (op, 1)) (sym c.in-87.is)), c.take_slots.ensures.slots, refl),
  c.take_slots.ensures.taken,
)

pub take_slots-requires-in-88-clause-finds : goal.take_slots-requires-in-88-clause-finds
take_slots-requires-in-88-clause-finds g c = finds_at _ _ c.args.i.now 88 c.in-88.is c.requires.finds

pub returns-in-88 : goal.returns-in-88
returns-in-88 g c = (
  entries_of c.take_slots-in-88.result,
  [],
  inl (2, (1, lit< tt, ap (λ (op : ℕ). (op, 2)) (sym c.in-88.is)), c.take_slots-in-88.ensures.slots, refl),
  c.take_slots-in-88.ensures.taken,
)

pub copy-requires-clause-finds : goal.copy-requires-clause-finds
copy-requires-clause-finds g c = finds_at _ _ c.args.i.now 89 c.in-89.is c.requires.finds

pub returns-in-89 : goal.returns-in-89
returns-in-89 g c = copied _ _ _ _ 0 1 (0, lit< tt, ap (λ (op : ℕ). (op, (0, 1))) (sym c.in-89.is)) c.copy.ensures

pub copy-requires-in-90-clause-finds : goal.copy-requires-in-90-clause-finds
copy-requires-in-90-clause-finds g c = finds_at _ _ c.args.i.now 90 c.in-90.is c.requires.finds

pub returns-in-90 : goal.returns-in-90
returns-in-90 g c = copied _ _ _ _ 1 1 (1, lit< tt, ap (λ (op : ℕ). (op, (1, 1))) (sym c.in-90.is)) c.copy-in-90.ensures

pub copy-requires-in-91-clause-finds : goal.copy-requires-in-91-clause-finds
copy-requires-in-91-clause-finds g c = finds_at _ _ c.args.i.now 91 c.in-91.is c.requires.finds

pub returns-in-91 : goal.returns-in-91
returns-in-91 g c = copied _ _ _ _ 2 1 (2, lit< tt, ap (λ (op : ℕ). (op, (2, 1))) (sym c.in-91.is)) c.copy-in-91.ensures

pub copy-requires-in-92-clause-finds : goal.copy-requires-in-92-clause-finds
copy-requires-in-92-clause-finds g c = finds_at _ _ c.args.i.now 92 c.in-92.is c.requires.finds

pub returns-in-92 : goal.returns-in-92
returns-in-92 g c = copied _ _ _ _ 0 2 (3, lit< tt, ap (λ (op : ℕ). (op, (0, 2))) (sym c.in-92.is)) c.copy-in-92.ensures

pub copy-requires-in-93-clause-finds : goal.copy-requires-in-93-clause-finds
copy-requires-in-93-clause-finds g c = finds_at _ _ c.args.i.now 93 c.in-93.is c.requires.finds

pub returns-in-93 : goal.returns-in-93
returns-in-93 g c = copied _ _ _ _ 1 2 (4, lit< tt, ap (λ (op : ℕ). (op, (1, 2))) (sym c.in-93.is)) c.copy-in-93.ensures

pub copy-requires-in-94-clause-finds : goal.copy-requires-in-94-clause-finds
copy-requires-in-94-clause-finds g c = finds_at _ _ c.args.i.now 94 c.in-94.is c.requires.finds

pub returns-in-94 : goal.returns-in-94
returns-in-94 g c = copied _ _ _ _ 2 2 (5, lit< tt, ap (λ (op : ℕ). (op, (2, 2))) (sym c.in-94.is)) c.copy-in-94.ensures

pub swap-requires : goal.swap-requires
swap-requires g c = finds_at _ _ c.args.i.now 95 c.in-95.is c.requires.finds

pub returns-in-95 : goal.returns-in-95
returns-in-95 g c = subst (Moved _ _ _) (sym c.in-95.is) c.swap.ensures

pub unreachable-requires : goal.unreachable-requires
unreachable-requires g c =
    let low = each_among (λ (op : ℕ). 0x57 ≤ op) moving_opcodes c.args.i.now.op (
      lit≤ tt,
      (
        lit≤ tt,
        (
          lit≤ tt,
          (
            lit≤ tt,
            (
              lit≤ tt,
              (
                lit≤ tt,
                (
                  lit≤ tt,
                  (lit≤ tt, (lit≤ tt, tt)),
                ),
              ),
            ),
          ),
        ),
      ),
    ) c.requires.op in
    let high = each_among (λ (op : ℕ). op ≤ 0x5f) moving_opcodes c.args.i.now.op (
      lit≤ tt,
      (
        lit≤ tt,
        (
          lit≤ tt,
          (
            lit≤ tt,
            (
              lit≤ tt,
              (
                lit≤ tt,
                (
                  lit≤ tt,
                  (lit≤ tt, (lit≤ tt, tt)),
                ),
              ),
            ),
          ),
        ),
      ),
    ) c.requires.op in
    let no : ⊥ = omega (arith, low, high) in
    no
