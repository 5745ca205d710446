-- Each of the four files has a path of its own, and with them the folder of one more domain is there.
use Rattle.std.proofs.Common.{◌≡◌, OnOk, ap, arith, subst}
use Rattle.std.proofs.lemmas.Grind.{common_steps}
use Rattle.jk_outside.specs.MemoryTrees.{FilesState}
use Rattle.ring_demo.specs.DemoEvents.{domain_name}
use Rattle.ring_demo.proofs.NewPaths.{four_put, new_go, new_impl, new_imports, new_main}
use Rattle.ring_demo.proofs.tree.put_domain.Goals as goal

pub put-requires : goal.put-requires
put-requires c =
    let name : c.as_str-name.result.now ≡ domain_name c.args.domain = grind (arith, common_steps) in
    rw (c.requires.so_far, name) (new_main c.args.domain c.requires.few)

pub put-requires-2 : goal.put-requires-2
put-requires-2 c =
    let name : c.as_str-name.result.now ≡ domain_name c.args.domain = grind (arith, common_steps) in
    let one = ap (λ (s : FilesState). s.files) c.in_ok-put.ensures in
    rw (one, c.requires.so_far, name) (new_impl c.args.domain c.requires.few)

pub put-requires-3 : goal.put-requires-3
put-requires-3 c =
    let name : c.as_str-name.result.now ≡ domain_name c.args.domain = grind (arith, common_steps) in
    let one = ap (λ (s : FilesState). s.files) c.in_ok-put.ensures in
    let two = ap (λ (s : FilesState). s.files) c.in_ok-put-2.ensures in
    rw (two, one, c.requires.so_far, name) (new_go c.args.domain c.requires.few)

pub put-requires-4 : goal.put-requires-4
put-requires-4 c =
    let name : c.as_str-name.result.now ≡ domain_name c.args.domain = grind (arith, common_steps) in
    let one = ap (λ (s : FilesState). s.files) c.in_ok-put.ensures in
    let two = ap (λ (s : FilesState). s.files) c.in_ok-put-2.ensures in
    let three = ap (λ (s : FilesState). s.files) c.in_ok-put-3.ensures in
    rw (three, two, one, c.requires.so_far, name) (new_imports c.args.domain c.requires.few)

pub returns : goal.returns
returns c =
    let name : c.as_str-name.result.now ≡ domain_name c.args.domain = grind (arith, common_steps) in
    subst (λ (s : FilesState). OnOk c.put-4.result (c.put-4.new.files ≡ s))
    (four_put c.args.files.now c.put.new.files c.put-2.new.files c.put-3.new.files c.args.domain c.as_str-name.result.now c.requires.so_far name
    c.in_ok-put.ensures c.in_ok-put-2.ensures c.in_ok-put-3.ensures)
    c.put-4.ensures
