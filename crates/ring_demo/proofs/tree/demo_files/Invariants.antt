-- The folders of the first domains were put in.
use Rattle.std.proofs.Common.{◌≡◌, ◌≤◌, []}
use Rattle.ring_demo.specs.DemoTree.{tree_files}
use Rattle.ring_demo.specs.Measures.{domains_of}
use Rattle.ring_demo.proofs.tree.demo_files.Given as goal

abbrev pub invariant-loop-domain : goal.invariant-loop-domain
invariant-loop-domain l = record {
  files : l.files.files ≡ tree_files l.domain;
  fails : l.files.fails ≡ [];
  faults : l.files.faults ≡ 0;
  asked : l.files.asked ≡ [];
  within : l.domain ≤ domains_of l.seed;
}
