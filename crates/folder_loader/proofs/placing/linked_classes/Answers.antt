-- The rules are judged where the classes stand without their links, and where they have them.
use Rattle.std.proofs.Common.{◌≡◌, Err, List, ap, refl, subst, ◌∙◌}
use Rattle.jk_model_classes.specs.declared.records.ClassRecord.{ClassRecord}
use Rattle.jk_model_classes.specs.Worlds.{WorldRecord}
use Rattle.jk_model_folders.specs.Loads.{AreStubs}
use Rattle.class_files.specs.declared.faults.ClassFilesError.TheVariants.{Broken}
use Rattle.class_files.specs.FolderClasses.{files_of}
use Rattle.folder_loader.specs.LinkedFolders.{AreTypedFrom}
use Rattle.folder_loader.proofs.RulesInParts.{keep_all, keep_earlier, linked_world}
use Rattle.folder_loader.proofs.placing.linked_classes.Goals as goal

pub judge_links-requires-clause-unlinked : goal.judge_links-requires-clause-unlinked
judge_links-requires-clause-unlinked c =
    let st = c.requires.stands in
    (st.0, st.1, st.2, st.3.0, c.as_slice.ensures ∙ st.3.1, c.classes.ensures ∙ ap (λ (v : WorldRecord). v.classes) st.3.2)

pub returns-in-Err-clause-fault : goal.returns-in-Err-clause-fault
returns-in-Err-clause-fault c = λ fault e paths w lines names s.
    let same : c.in-Err.e ≡ Broken fault = cc in
    c.in-Err.ensures.fault fault (ap Err same) w lines names s.0 (c.classes.ensures ∙ ap (λ (v : WorldRecord). v.classes) s.2)

pub judge_code-requires-clause-linked : goal.judge_code-requires-clause-linked
judge_code-requires-clause-linked c =
    let st = c.requires.stands in
    let world =
    linked_world st.0 st.1 (files_of c.args.classes.now) st.2 c.args.placed.now c.args.links c.args.world.now st.3 c.args.placed.now.first
    c.set_links.new.world refl
    c.set_links.ensures in
    (st.0, st.1, st.2, st.3.0, c.classes-3.ensures ∙ ap (λ (v : WorldRecord). v.classes) world)

pub returns-in-Err-judge_code-clause-fault : goal.returns-in-Err-judge_code-clause-fault
returns-in-Err-judge_code-clause-fault c = λ fault e paths w lines names s.
    let same : c.in-Err-judge_code.e ≡ Broken fault = cc in
    let none = c.in_default.ensures.none w lines names s.0 (c.classes.ensures ∙ ap (λ (v : WorldRecord). v.classes) s.2) in
    let world =
    linked_world w lines (files_of c.args.classes.now) names c.args.placed.now c.args.links c.args.world.now s c.args.placed.now.first
    c.set_links.new.world refl
    c.set_links.ensures in
    c.in-Err-judge_code.ensures.fault fault (ap Err same) w lines names s.0 (c.classes-3.ensures ∙ ap (λ (v : WorldRecord). v.classes) world) none

pub judge_shared-requires-clause-linked : goal.judge_shared-requires-clause-linked
judge_shared-requires-clause-linked c =
    let st = c.requires.stands in
    let world =
    linked_world st.0 st.1 (files_of c.args.classes.now) st.2 c.args.placed.now c.args.links c.args.world.now st.3 c.args.placed.now.first
    c.set_links.new.world refl
    c.set_links.ensures in
    (st.0, st.1, st.2, st.3.0, ap (λ (v : WorldRecord). v.classes) world)

pub returns-in-Err-judge_shared-clause-fault : goal.returns-in-Err-judge_shared-clause-fault
returns-in-Err-judge_shared-clause-fault c = λ fault e paths w lines names s.
    let same : c.in-Err-judge_shared.e ≡ Broken fault = cc in
    let none = c.in_default.ensures.none w lines names s.0 (c.classes.ensures ∙ ap (λ (v : WorldRecord). v.classes) s.2) in
    let world =
    linked_world w lines (files_of c.args.classes.now) names c.args.placed.now c.args.links c.args.world.now s c.args.placed.now.first
    c.set_links.new.world refl
    c.set_links.ensures in
    let code = c.in_default-judge_code.ensures.none w lines names s.0 (c.classes-3.ensures ∙ ap (λ (v : WorldRecord). v.classes) world) in
    c.in-Err-judge_shared.ensures.fault fault (ap Err same) paths w lines names s.0 world
    (keep_earlier w (files_of c.args.classes.now) s.0.placed none code)

pub returns-clause-ok : goal.returns-clause-ok
returns-clause-ok c = λ w lines names s.
    let none = c.in_default.ensures.none w lines names s.0 (c.classes.ensures ∙ ap (λ (v : WorldRecord). v.classes) s.2) in
    let world =
    linked_world w lines (files_of c.args.classes.now) names c.args.placed.now c.args.links c.args.world.now s c.args.placed.now.first
    c.set_links.new.world refl
    c.set_links.ensures in
    let code = c.in_default-judge_code.ensures.none w lines names s.0 (c.classes-3.ensures ∙ ap (λ (v : WorldRecord). v.classes) world) in
    let shared = c.in_default-judge_shared.ensures.none w lines names s.0 world in
    record {
      none_placed = keep_all w (files_of c.args.classes.now) s.0.placed none code shared;
      stubs_are = subst (λ (t : List ClassRecord). AreStubs t c.args.placed.now.first c.in_ok-stubs.stubs)
          (c.classes-4.ensures ∙ ap (λ (v : WorldRecord). v.classes) world) c.in_ok-stubs.ensures;
      world = world;
    }

pub returns-clause-typed : goal.returns-clause-typed
returns-clause-typed c =
    subst (λ (t : List ClassRecord). AreTypedFrom t c.args.placed.now.first) c.classes-3.ensures c.in_default-judge_code.ensures.typed
