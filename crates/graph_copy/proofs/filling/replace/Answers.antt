-- The value at each place is the one that was there, and its image is put there.
use Rattle.std.proofs.Common.{◌≡◌, ℕ, suc, ◌+◌, List, length, map, Contains, Some, slice_get, slice_set, sym, ap, ◌∙◌, subst, arith}
use Rattle.std.proofs.lemmas.List.{length-map}
use Rattle.jk_model.specs.declared.values.Value.{Value}
use Rattle.jk_model.specs.declared.values.Value.TheVariants as Held
use Rattle.list_lemmas.proofs.ItemsByPlace.{mapped_at}
use Rattle.list_lemmas.proofs.ItemsOfLists.{Contains-at}
use Rattle.graph_copy.specs.Filled.{image_of}
use Rattle.graph_copy.proofs.ObjectsMet.{only_value}
use Rattle.graph_copy.proofs.PlacesFilled.{all_filled, filled, filled_length, next_is_empty, one_filled}
use Rattle.graph_copy.proofs.filling.replace.Goals as goal

-- what is read was there from the first on
was_there : (mark : ℕ → ℕ) (old now : List Value) (i : ℕ) (v : Value) → now ≡ filled i (map (image_of mark) old) old → slice_get now i ≡ Some v
    → slice_get old i ≡ Some v
was_there mark old now i v is at =
    sym (next_is_empty i (map (image_of mark) old) old) ∙ sym (ap (λ (vs : List Value). slice_get vs i) is) ∙ at

as_many : (mark : ℕ → ℕ) (old now : List Value) (i : ℕ) → now ≡ filled i (map (image_of mark) old) old → length now ≡ length old
as_many mark old now i is = ap length is ∙ filled_length i (map (image_of mark) old) old

one_more : (mark : ℕ → ℕ) (old now : List Value) (i : ℕ) (v w : Value) → now ≡ filled i (map (image_of mark) old) old → slice_get now i ≡ Some v
    → w ≡ image_of mark v → slice_set now i w ≡ filled (i + 1) (map (image_of mark) old) old
one_more mark old now i v w is at images =
    let more : i + 1 ≡ suc i = omega arith in
    let there = mapped_at (image_of mark) old i v (was_there mark old now i v is at) in
    ap (λ (vs : List Value). slice_set vs i w) is ∙ ap (slice_set (filled i (map (image_of mark) old) old) i) images
    ∙ sym (one_filled i (map (image_of mark) old) old (image_of mark v) (length-map old (image_of mark)) there)
    ∙ ap (λ (k : ℕ). filled k (map (image_of mark) old) old) (sym more)

all_replaced : (mark : ℕ → ℕ) (old now : List Value) (i : ℕ) → now ≡ filled i (map (image_of mark) old) old → i ≡ length old
    → now ≡ map (image_of mark) old
all_replaced mark old now i is end =
    is ∙ ap (λ (k : ℕ). filled k (map (image_of mark) old) old) (end ∙ sym (length-map old (image_of mark)))
    ∙ all_filled (map (image_of mark) old) old (length-map old (image_of mark))

pub get-requires : goal.get-requires
get-requires g c =
    let same = as_many ((g.H.ObjectStore.content c.args.store.now).mark c.args.from) c.args.values.now c.loop-i.values c.loop-i.i c.loop-i.invariant in
    omega (arith, same, c.len-i-end.ensures.count, c.loop-i-test.true)

pub image-v-requires : goal.image-v-requires
image-v-requires g c = λ x there.
    let old = was_there ((g.H.ObjectStore.content c.args.store.now).mark c.args.from) c.args.values.now c.loop-i.values c.loop-i.i c.get.result
    c.loop-i.invariant c.get.ensures in
    c.requires x (subst (λ (w : Value). Contains c.args.values.now w) (only_value c.get.result (Held.Obj x) there)
    (Contains-at c.args.values.now c.loop-i.i c.get.result old))

pub set-requires : goal.set-requires
set-requires g c =
    let same = as_many ((g.H.ObjectStore.content c.args.store.now).mark c.args.from) c.args.values.now c.loop-i.values c.loop-i.i c.loop-i.invariant in
    omega (arith, same, c.len-i-end.ensures.count, c.loop-i-test.true)

pub loop-i-preserved : goal.loop-i-preserved
loop-i-preserved g c =
    c.set.ensures
    ∙ one_more ((g.H.ObjectStore.content c.args.store.now).mark c.args.from) c.args.values.now c.loop-i.values c.loop-i.i c.get.result c.image-v.result
    c.loop-i.invariant c.get.ensures c.image-v.ensures

pub returns : goal.returns
returns g c =
    let end : c.loop-i.i ≡ length c.args.values.now = omega (arith, c.loop-i-test.false, c.loop-i.auto.i-end, c.len-i-end.ensures.count) in
    all_replaced ((g.H.ObjectStore.content c.args.store.now).mark c.args.from) c.args.values.now c.loop-i.values c.loop-i.i c.loop-i.invariant end
