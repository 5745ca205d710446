-- By the lemmas on segments that go.
use Rattle.machine_parts.proofs.TopsGone.{higher_goes_off, lowest_goes_off}
use Rattle.machine_parts.proofs.running.tops_go_from_machines.Goals as goal

pub returns : goal.returns
returns c = record {
  higher = λ p mid t r d used lower below all apart is h. higher_goes_off p mid t r d used all apart h lower below is;
  lowest = λ p mid t r d used all apart is h. lowest_goes_off p mid t r d used all apart h is;
}
