-- One file more gives its name.
use Rattle.std.proofs.Common.{◌≡◌, Some, length, slice_get, ◌+◌, refl, sym, ap, subst, ◌∙◌, arith}
use Rattle.std.specs.Prelude.{List, ℕ, option_map}
use Rattle.std.proofs.lemmas.List.{length-map}
use Rattle.std.proofs.lemmas.Option.{slice_get-map, slice_get_read, slice_get_within}
use Rattle.jk_model.specs.declared.class_file.PoolEntry.{PoolEntry}
use Rattle.jk_model_classes.specs.Members.{ClassAt}
use Rattle.jk_model_classes.specs.References.{IsCalledClass}
use Rattle.jk_model_classes.specs.Worlds.{NamedClass}
use Rattle.class_files.specs.declared.folder_class.FolderClass.{FolderClass}
use Rattle.class_files.specs.FolderClasses.{files_of}
use Rattle.folder_loader.proofs.NamesGiven.{AreOwnUpTo, all_own, own_next, own_skip}
use Rattle.folder_loader.proofs.own_names.own_names.Goals as goal
use Rattle.folder_loader.proofs.own_names.own_names.Goals.{in-Some+in_ok-give, in_default}

pub loop-place-preserved : goal.loop-place-preserved
loop-place-preserved c =
    let file = c.index-classes-place.result.file in
    let at : slice_get c.args.classes.now c.loop-place.place ≡ Some c.index-classes-place.result =
    slice_get_read c.args.classes.now (length c.args.classes.now) c.loop-place.place c.index-classes-place.result refl (omega arith) c.index-classes-place.is in
    let of_file : slice_get (files_of c.args.classes.now) c.loop-place.place ≡ Some file =
    slice_get-map (λ (f : FolderClass). f.file) c.args.classes.now c.loop-place.place ∙ ap (option_map (λ (f : FolderClass). f.file)) at in
    let cs = files_of c.args.classes.now in
    elim c.match-class_name.branch [
      | in-Some+in_ok-give w ↦
          let called : IsCalledClass file w.in-Some.name.now =
          subst (λ (p : List PoolEntry). ClassAt p file.this_class w.in-Some.name.now) c.as_slice-pool.ensures w.in-Some.ensures in
          subst (λ (t : List NamedClass). AreOwnUpTo cs (c.loop-place.place + 1) t) (sym w.own-is)
          (own_next cs c.loop-place.place file w.in-Some.name.now c.loop-place.own w.give.new.self w.in_ok-give.field-0 c.requires.differ
          c.loop-place.invariant of_file called w.in_ok-give.ensures.given)
      | in_default w ↦
          let nameless : (units : List ℕ) → ClassAt c.as_slice-pool.result.now file.this_class units → ⊥ = rw w.in_default.is at c.class_name.ensures in
          let unnamed : (units : List ℕ) → IsCalledClass file units → ⊥ =
          subst (λ (p : List PoolEntry). (units : List ℕ) → ClassAt p file.this_class units → ⊥) c.as_slice-pool.ensures nameless in
          subst (λ (t : List NamedClass). AreOwnUpTo cs (c.loop-place.place + 1) t) (sym w.own-is)
          (own_skip cs c.loop-place.place file c.loop-place.own c.loop-place.invariant of_file unnamed)
    ]

pub returns : goal.returns
returns c =
    let long = length-map c.args.classes.now (λ (f : FolderClass). f.file) in
    all_own (files_of c.args.classes.now) c.loop-place.place c.loop-place.own c.loop-place.invariant
    (λ i d at. omega (arith, slice_get_within (files_of c.args.classes.now) i d at, long))
