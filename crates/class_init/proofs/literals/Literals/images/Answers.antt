-- One image after the other is made.
use Rattle.std.proofs.Common.{◌≡◌, ◌∙◌, ◌++◌, ◌∷◌, [], ℕ, List, map, sym, ap, refl, append_assoc, append-nil, arith}
use Rattle.std.specs.Prelude.{Contains}
use Rattle.std.proofs.lemmas.List.Elements.{Contains-append_right, Contains-get_or}
use Rattle.jk_model_domains.specs.OwnStates.{literal_image}
use Rattle.jk_model_domains.specs.declared.states.LiteralImage.{LiteralImage}
use Rattle.class_init.specs.Literals.{literal_of}
use Rattle.class_init.proofs.LiteralsByPlace.{literal_at, key_within}
use Rattle.class_init.proofs.literals.Literals.images.Goals as goal

pub loop-place-init : goal.loop-place-init
loop-place-init c =
    let all : c.into_iter-place-iterator.result ≡ c.self.inside.names.entries =
    c.into_iter-place-iterator.ensures.into_iter_gives ∙ c.iter-place-items.ensures.rest in
    record {
      are = rw (c.new-images.ensures.items, all) refl;
      among = λ p has. rw all at has;
    }

pub at-text-requires : goal.at-text-requires
at-text-requires c =
    let p : ℕ × ℕ = (c.in-Some.place.now, c.in-Some.name.now) in
    let first : Contains c.loop-place.place-iterator p = rw c.in-Some.ensures.steps (Contains-get_or (p ∷ c.next.new.self) 0 p (omega arith)) in
    key_within c.self.inside.texts c.self.inside.names.entries p c.self.invariant.within (c.loop-place.invariant.among p first)

pub loop-place-preserved : goal.loop-place-preserved
loop-place-preserved c =
    let texts = c.self.inside.texts in
    let p : ℕ × ℕ = (c.in-Some.place.now, c.in-Some.name.now) in
    let image : ℕ × ℕ → LiteralImage = λ q. literal_image (literal_of texts q) in
    let of : List ℕ → LiteralImage = λ text. record { text = text; name = p.1 } in
    let same : of c.in_ok-from_slice.field-0 ≡ image p =
    ap of (c.in_ok-from_slice.ensures ∙ c.as_slice.ensures) ∙ ap literal_image (literal_at texts p c.at-text.result.now c.at-text.ensures) in
    let rest = map literal_image (map (literal_of texts) c.next.new.self) in
    record {
      are =
          rw c.in_ok-push.ensures.items
          (append_assoc c.loop-place.images.items (of c.in_ok-from_slice.field-0 ∷ []) rest
          ∙ ap (λ (x : LiteralImage). c.loop-place.images.items ++ x ∷ rest) same
          ∙ (rw c.in-Some.ensures.steps at c.loop-place.invariant.are));
      among = λ q has. c.loop-place.invariant.among q (rw c.in-Some.ensures.steps (Contains-append_right (p ∷ []) c.next.new.self q has));
    }

pub returns : goal.returns
returns c =
    let done : c.loop-place.images.items ++ [] ≡ map literal_image (map (literal_of c.self.inside.texts) c.self.inside.names.entries) =
    rw c.in-None.ensures.steps.0 at c.loop-place.invariant.are in
    rw (← c.self.view_is) (sym (append-nil c.loop-place.images.items) ∙ done)
