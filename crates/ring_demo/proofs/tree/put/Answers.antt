-- The file is put behind the others.
use Rattle.std.proofs.Common.{◌≡◌, ℕ, List, OnOk, arith, subst}
use Rattle.std.proofs.lemmas.Grind.{common_steps}
use Rattle.jk_model.specs.Outside.{◌/-◌}
use Rattle.jk_outside.specs.MemoryTrees.{with_file}
use Rattle.jk_outside.specs.declared.memory_files.MemoryFile.{MemoryFile}
use Rattle.ring_demo.specs.declared.tree.TheConstants.{ROOT}
use Rattle.ring_demo.proofs.NewPaths.{put_behind}
use Rattle.ring_demo.proofs.tree.put.Goals as goal

pub returns : goal.returns
returns c =
    let path = ROOT.now /- c.args.folder.now /- c.args.name.now in
    let is : c.as_str.result.now ≡ path = grind (arith, common_steps) in
    subst (λ (files : List MemoryFile). OnOk c.add.result (c.add.new.self ≡ record c.args.files.now { files = files }))
    (put_behind c.args.files.now.files path c.args.bytes.now c.requires)
    (subst (λ (p : List ℕ). OnOk c.add.result (c.add.new.self
    ≡ record c.args.files.now { files = with_file c.args.files.now.files p c.args.bytes.now })) is c.add.ensures.ok)
