-- The text's shape tells how long it is.
use Rattle.std.proofs.Common.{◌≡◌, length}
use Rattle.jk_model_domains.specs.Objects.{Text}
use Rattle.jk_model_heaps.specs.declared.shapes.Shape.TheVariants as Of
use Rattle.heap_loops.proofs.texts.text_len.Goals as goal

pub unreachable-requires : goal.unreachable-requires
unreachable-requires g c = c.in_default.not-Text (length c.requires.text) (c.shape.ensures (Text c.requires.text) c.requires.live)

pub returns : goal.returns
returns g c = λ text live.
    let told : Of.Text c.in-Text.len ≡ Of.Text (length text) = c.in-Text.ensures (Text text) live in
    cc
