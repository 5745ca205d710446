-- A frame gives back its blocks one after another.
use Rattle.std.proofs.Common.{◌≡◌, ◌≢◌, ℕ, ◌+◌, ◌<◌, refl, arith, ◌∙◌}
use Rattle.number_table.specs.declared.chains.Chains.{Chains}
use Rattle.number_table.specs.ChainMoves.{count, place, nodes, stacks, MovesTop}
use Rattle.frame_store.specs.FrameBlocks.{GivesBlocks}

-- A frame gives some of its blocks to the last stack.
pub record GivesSome (old new : Chains) (last frame : ℕ) : Type 0 where
  pub same_nodes : nodes new ≡ nodes old
  pub same_stacks : stacks new ≡ stacks old
  pub more : count new last + count new frame ≡ count old last + count old frame
  pub others : (g : ℕ) → g ≢ frame → g ≢ last → count new g ≡ count old g
  pub same_place : (g p : ℕ) → g < last → g ≢ frame → p < count old g → place new g p ≡ place old g p

pub none_given : (c : Chains) (last frame : ℕ) → GivesSome c c last frame
none_given c last frame =
    record { same_nodes = refl; same_stacks = refl; more = refl; others = λ _ _ _. refl; same_place = λ _ _ _ _ _. refl }

pub one_given : (old c new : Chains) (last frame b : ℕ) → last < stacks old → frame < last → GivesSome old c last frame
    → MovesTop c new frame last b → GivesSome old new last frame
one_given old c new last frame b last_lt frame_lt some moves =
    record {
      same_nodes = moves.same_nodes ∙ some.same_nodes;
      same_stacks = moves.same_stacks ∙ some.same_stacks;
      more = omega (arith, moves.from_count, moves.to_count, some.more);
      others = λ g a d. moves.other_counts g a d ∙ some.others g a d;
      same_place =
          λ g p g_lt a p_lt.
          let low : p < count c g = omega (arith, some.others g a (omega arith)) in
          let low2 : p < count new g = omega (arith, moves.other_counts g a (omega arith)) in
          moves.others g p (omega (arith, some.same_stacks)) low low2 ∙ some.same_place g p g_lt a p_lt;
    }

pub all_given : (old new : Chains) (last frame : ℕ) → GivesSome old new last frame → count new frame ≡ 0 → GivesBlocks old new last frame
all_given old new last frame some none =
    record {
      same_nodes = some.same_nodes;
      same_stacks = some.same_stacks;
      has = none;
      more = omega (arith, some.more);
      others = some.others;
      same_place = some.same_place;
    }
