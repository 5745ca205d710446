-- The images so far, and those of what is left, are all images; and what is left is among the names.
use Rattle.std.proofs.Common.{◌≡◌, ◌++◌, ℕ, map}
use Rattle.std.specs.Prelude.{Contains}
use Rattle.jk_model_domains.specs.OwnStates.{literal_image}
use Rattle.class_init.specs.Literals.{literal_of}
use Rattle.class_init.proofs.literals.Literals.images.Given as goal

abbrev pub invariant-loop-place : goal.invariant-loop-place
invariant-loop-place l =
    record {
      are : l.images.items ++ map literal_image (map (literal_of l.self-inside.texts) l.place-iterator)
          ≡ map literal_image (map (literal_of l.self-inside.texts) l.self-inside.names.entries);
      among : (p : ℕ × ℕ) → Contains l.place-iterator p → Contains l.self-inside.names.entries p;
    }
