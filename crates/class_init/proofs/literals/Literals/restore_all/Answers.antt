-- One literal after the other gets its object.
use Rattle.std.proofs.Common.{◌≡◌, ◌∙◌, ◌++◌, ◌∷◌, [], ℕ, List, None, Some, map, find, take, sym, ap, refl, slice_get}
use Rattle.std.specs.Prelude.{bytes_eq, Contains}
use Rattle.std.proofs.lemmas.List.{map-append, take_all, take_more}
use Rattle.list_lemmas.proofs.ItemsByPlace.{item_read}
use Rattle.jk_model_domains.specs.OwnStates.{Literal}
use Rattle.jk_model_domains.specs.declared.states.LiteralImage.{LiteralImage}
use Rattle.class_init.specs.Literals.{LiteralTable, literal_from}
use Rattle.class_init.proofs.LiteralsByPlace.{fresh_literal, table_is}
use Rattle.class_init.proofs.literals.Literals.restore_all.Goals as goal

pub loop-image-init : goal.loop-image-init
loop-image-init c = table_is c.args.self.now [] c.requires.none

pub set-requires-clause-known : goal.set-requires-clause-known
set-requires-clause-known c =
    let x = c.image-item.result in
    let has : Contains c.args.images.now x = (c.loop-image.image-index, c.loop-image-test.true, sym c.image-item.is) in
    let texts : c.loop-image.self.texts ≡ c.args.self.now.texts = ap (λ (t : LiteralTable). t.texts) c.loop-image.invariant in
    rw (c.as_slice-units.ensures, texts) (c.requires.known x has)

pub set-requires-clause-new : goal.set-requires-clause-new
set-requires-clause-new c =
    let images = c.args.images.now in
    let i = c.loop-image.image-index in
    let x = c.image-item.result in
    let literals : c.loop-image.self.literals ≡ map literal_from (take i images) = ap (λ (t : LiteralTable). t.literals) c.loop-image.invariant in
    let at : slice_get images i ≡ Some x = item_read images i x c.loop-image-test.true c.image-item.is in
    let none : find (λ (l : Literal). bytes_eq l.text c.as_slice-units.result.now) c.loop-image.self.literals ≡ None =
    rw (c.as_slice-units.ensures, literals) (fresh_literal images i x c.requires.differ at) in
    none

pub loop-image-preserved : goal.loop-image-preserved
loop-image-preserved c =
    let images = c.args.images.now in
    let i = c.loop-image.image-index in
    let x = c.image-item.result in
    let texts : c.loop-image.self.texts ≡ c.args.self.now.texts = ap (λ (t : LiteralTable). t.texts) c.loop-image.invariant in
    let literals : c.loop-image.self.literals ≡ map literal_from (take i images) = ap (λ (t : LiteralTable). t.literals) c.loop-image.invariant in
    let of : List (List ℕ) → List Literal → List ℕ → LiteralTable =
    λ ts ls units. record { texts = ts; literals = ls ++ record { text = units; name = x.name } ∷ [] } in
    let first : c.set.new.self ≡ of c.args.self.now.texts (map literal_from (take i images)) x.text =
    c.set.ensures ∙ ap (λ ts. of ts c.loop-image.self.literals c.as_slice-units.result.now) texts
    ∙ ap (λ ls. of c.args.self.now.texts ls c.as_slice-units.result.now) literals
    ∙ ap (of c.args.self.now.texts (map literal_from (take i images))) c.as_slice-units.ensures in
    first ∙ rw (take_more images i x c.loop-image-test.true, ← (c.image-item.is), map-append literal_from (take i images) (x ∷ [])) refl

pub returns : goal.returns
returns c =
    let of : List LiteralImage → LiteralTable = λ xs. record { texts = c.args.self.now.texts; literals = map literal_from xs } in
    c.loop-image.invariant ∙ ap of (take_all c.loop-image.image-index c.args.images.now c.loop-image-test.false)
