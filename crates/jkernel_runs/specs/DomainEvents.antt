-- What a `domain` event does over some files below a root.
use Rattle.std.specs.Prelude.{ℕ, List, Option, Some}
use Rattle.jk_model.specs.Outside.{Tree}
use Rattle.jk_model_runs.specs.Events.{DomainEvent}
use Rattle.ring_demo.specs.DemoTree.{demo_tree}
use Rattle.ring_demo.specs.declared.tree.TheConstants.{ROOT}
use Rattle.kernel_openings.specs.AddedDomains.{AddsDomain}

abbrev pub OpensFolder : Option Tree → List ℕ → DomainEvent
OpensFolder tree root m name quotas lines new = AddsDomain (record { tree = tree; root = root; name = name; quotas = quotas }) m lines new

-- over the tree of the demo of a seed
abbrev pub OpensDemo : ℕ → DomainEvent
OpensDemo seed = OpensFolder (Some (demo_tree seed)) ROOT.now
