-- The name that is put in is the one that gives the path with the ending.
use Rattle.std.proofs.Common.{◌≡◌, ◌∙◌, ◌++◌, ap, sym, codes, IsTrue, List, Vec, ℕ}
use Rattle.std.specs.declared.alloc.Global.{Global}
use Rattle.jk_model.specs.Text.{utf16_of}
use Rattle.resolver_rules.specs.ClassNames.{has_name}
use Rattle.resolver_rules.proofs.NamesInTheIndex.{by_stem, has_after, no_stem}
use Rattle.resolver_rules.proofs.folder.take_name.Goals as goal
use Rattle.resolver_rules.proofs.folder.take_name.Goals.{in-Some+in_ok-name+in_ok-insert, in_default}

pub returns : goal.returns
returns c = λ name.
    let whole : utf16_of c.args.path.now ≡ c.as_slice.result.now =
    ap utf16_of (sym c.text_of.ensures) ∙ sym c.in_ok-units.ensures ∙ sym c.as_slice.ensures.value in
    elim c.match-stem.branch [
      | in-Some+in_ok-name+in_ok-insert w ↦ (
          let after = has_after (λ (k : Vec ℕ Global). k.items) c.args.names.now.keys w.insert.new.self.keys w.in_ok-name.name
          w.in_ok-insert.ensures.keys name in
          let stem = whole ∙ w.in-Some.ensures ∙ ap (λ (n : List ℕ). n ++ codes ".class") (sym w.in_ok-name.ensures.items) in
          rw w.names-is (by_stem (IsTrue (has_name c.args.names.now name)) (IsTrue (has_name w.insert.new.self name)) (utf16_of c.args.path.now)
          w.in_ok-name.name.items name (codes ".class") stem after))
      | in_default w ↦
          rw w.names-is (no_stem (IsTrue (has_name c.args.names.now name)) (utf16_of c.args.path.now) (codes ".class") name
          (λ n e. w.in_default.ensures n (sym whole ∙ e)))
    ]
