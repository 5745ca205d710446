-- The flags are those of the folder's class, or else of a loaded one.
use Rattle.std.proofs.Common.{length, refl}
use Rattle.std.proofs.lemmas.Option.{slice_get_read}
use Rattle.name_rules.proofs.BadParts.{no_own_file, outer_flags, own_flags}
use Rattle.name_rules.proofs.scope.flags_of.Goals as goal

pub returns-in-Some-get : goal.returns-in-Some-get
returns-in-Some-get c =
    let x = c.args.x.now in
    let folder = x.folder.now in
    let place = c.in-Some.place in
    let lookup = c.in-Some-get.ensures.lookup in
    own_flags x c.requires c.args.name.now place c.in-Some-get.f.now c.in-Some.ensures
    (slice_get_read folder (length folder) place.0 c.in-Some-get.f.now refl lookup.3.0 lookup.1)

pub returns-in-None-get : goal.returns-in-None-get
returns-in-None-get c = absurd (no_own_file c.args.x.now c.requires c.args.name.now c.in-Some.place c.in-Some.ensures c.in-None-get.ensures.lookup.3)

pub returns-in-None : goal.returns-in-None
returns-in-None c = outer_flags c.args.x.now c.requires c.args.name.now c.loaded_flags.result c.in-None.ensures c.loaded_flags.ensures
