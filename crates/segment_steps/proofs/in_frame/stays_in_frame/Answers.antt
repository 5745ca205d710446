-- By its opcode.
use Rattle.std.proofs.Common.{inl, inr, ◌≡◌, ℕ, Bool, true, false, not, Bor, List, Option, Some, None, is_some, option_map, arith}
use Rattle.step_contents.specs.Operands.{LeadsToText}
use Rattle.step_contents.specs.PlacesInCode.{PlaceInCode}
use Rattle.step_contents.specs.StandingFrames.{place_of}
use Rattle.segment_steps.proofs.NumbersInFrame.{constant_in_frame, quick_in_frame}
use Rattle.segment_steps.proofs.in_frame.stays_in_frame.Goals as goal

no_text : (at : PlaceInCode) (o : Option (Bor (List ℕ))) (b : Bool) → b ≡ true → is_some o ≡ not b
    → LeadsToText at (option_map (λ (text : Bor (List ℕ)). text.now) o) → LeadsToText at None
no_text at None b e is leads = leads
no_text at (Some text) true e is leads = absurd cc
no_text at (Some text) false e is leads = absurd cc

pub returns-in-19 : goal.returns-in-19
returns-in-19 c = λ e.
    constant_in_frame (place_of c.args.at.now) c.requires c.in-19.is
    (no_text (place_of c.args.at.now) c.text_of.result c.is_none.result e c.is_none.ensures c.text_of.ensures)

pub returns-in-0-to-25 : goal.returns-in-0-to-25
returns-in-0-to-25 c = λ e. quick_in_frame (place_of c.args.at.now) c.requires (λ ldc. omega arith) (inl (omega arith))

pub returns-in-0-to-25-2 : goal.returns-in-0-to-25-2
returns-in-0-to-25-2 c = λ e. quick_in_frame (place_of c.args.at.now) c.requires (λ ldc. omega arith) (inr (inl (omega arith, omega arith)))

pub returns-in-0-to-25-3 : goal.returns-in-0-to-25-3
returns-in-0-to-25-3 c = λ e.
    quick_in_frame (place_of c.args.at.now) c.requires (λ ldc. omega arith) (inr (inr (inl (omega arith, omega arith))))

pub returns-in-0-to-25-4 : goal.returns-in-0-to-25-4
returns-in-0-to-25-4 c = λ e.
    quick_in_frame (place_of c.args.at.now) c.requires (λ ldc. omega arith) (inr (inr (inr (omega arith, omega arith))))
