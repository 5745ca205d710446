-- By the lemmas on segments that go.
use Rattle.machine_parts.proofs.SharedChanged.{gone_frames, higher_pops, lowest_pops}
use Rattle.machine_parts.proofs.parts.pops_change_machines.Goals as goal

pub returns : goal.returns
returns c = record {
  lowest = lowest_pops;
  higher = λ p t r lower below all apart is. higher_pops p t r all apart lower below is;
  gone = gone_frames;
}
