-- The text's place gets the name, for which there is room.
use Rattle.std.proofs.Common.{◌≡◌, ◌<◌, ◌∙◌, ◌++◌, ◌∷◌, [], List, None, map, find, sym, ap, length, nat_eq}
use Rattle.std.specs.Prelude.{bytes_eq}
use Rattle.std.specs.Option.{option_map}
use Rattle.std.specs.Map.{lookup}
use Rattle.std.proofs.lemmas.List.{map-append}
use Rattle.std.proofs.lemmas.Option.{slice_get_within}
use Rattle.indexmap.specs.IndexMap.{spare}
use Rattle.indexmap.proofs.CallerLemmas.{insert_entry-new}
use Rattle.jk_model_domains.specs.OwnStates.{Literal}
use Rattle.class_init.specs.Literals.{LiteralTable, literal_of}
use Rattle.class_init.proofs.LiteralsByPlace.{literal_at, name_of_literal, named_by_place, named_more, room_for_one}
use Rattle.class_init.proofs.literals.Literals.set.Goals as goal

pub unreachable-requires-in-Err : goal.unreachable-requires-in-Err
unreachable-requires-in-Err c =
    let texts = c.self.inside.texts in
    let names = c.self.inside.names.entries in
    let place = c.in-Some.place in
    let low : place < length texts = slice_get_within texts place c.args.units.now c.in-Some.ensures in
    let none : find (λ (l : Literal). bytes_eq l.text c.args.units.now) (map (literal_of texts) names) ≡ None = rw (← c.self.view_is) at c.requires.new in
    let free : lookup (nat_eq place) names ≡ None =
    sym (named_by_place texts names c.args.units.now place c.self.invariant.texts_differ c.self.invariant.within c.in-Some.ensures)
    ∙ ap (option_map name_of_literal) none in
    let room : 0 < spare c.self.inside.names = room_for_one texts names (spare c.self.inside.names) place c.self.inside.marks.items c.self.invariant low free in
    let ok = c.in-Err.ensures.succeeds room in
    cc

pub invariant_of-self : goal.invariant_of-self
invariant_of-self c =
    let texts = c.self.inside.texts in
    let names = c.self.inside.names.entries in
    let place = c.in-Some.place in
    let low : place < length texts = slice_get_within texts place c.args.units.now c.in-Some.ensures in
    let none : find (λ (l : Literal). bytes_eq l.text c.args.units.now) (map (literal_of texts) names) ≡ None = rw (← c.self.view_is) at c.requires.new in
    let free : lookup (nat_eq place) names ≡ None =
    sym (named_by_place texts names c.args.units.now place c.self.invariant.texts_differ c.self.invariant.within c.in-Some.ensures)
    ∙ ap (option_map name_of_literal) none in
    let is : c.insert.new.self.entries ≡ names ++ (place, c.args.name) ∷ [] =
    c.in-Ok.ensures.entries ∙ insert_entry-new nat_eq c.self.inside.names place c.args.name free in
    rw is
    (named_more texts names (spare c.self.inside.names) (spare c.insert.new.self) place c.args.name c.self.inside.marks.items c.self.invariant low
    (rw is at c.in-Ok.ensures.unique) c.in-Ok.ensures.spare)

pub returns : goal.returns
returns c =
    let texts = c.self.inside.texts in
    let names = c.self.inside.names.entries in
    let place = c.in-Some.place in
    let none : find (λ (l : Literal). bytes_eq l.text c.args.units.now) (map (literal_of texts) names) ≡ None = rw (← c.self.view_is) at c.requires.new in
    let free : lookup (nat_eq place) names ≡ None =
    sym (named_by_place texts names c.args.units.now place c.self.invariant.texts_differ c.self.invariant.within c.in-Some.ensures)
    ∙ ap (option_map name_of_literal) none in
    let is : c.insert.new.self.entries ≡ names ++ (place, c.args.name) ∷ [] =
    c.in-Ok.ensures.entries ∙ insert_entry-new nat_eq c.self.inside.names place c.args.name free in
    let of : List Literal → LiteralTable = λ ls. record { texts = texts; literals = ls } in
    rw (← c.self.view_is, is, map-append (literal_of texts) names ((place, c.args.name) ∷ []))
    (ap (λ (l : Literal). of (map (literal_of texts) names ++ l ∷ [])) (sym (literal_at texts (place, c.args.name) c.args.units.now c.in-Some.ensures)))
