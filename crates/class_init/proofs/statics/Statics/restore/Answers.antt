-- One field after the other gets its value.
use Rattle.std.proofs.Common.{◌≡◌, ◌<◌, ◌∙◌, sym, ap, arith, length, refl, Some, slice_get, add-one}
use Rattle.std.specs.Prelude.{pos}
use Rattle.std.proofs.lemmas.List.{length-map, length-set, map-set, take_all}
use Rattle.std.proofs.lemmas.Option.{slice_get_read}
use Rattle.list_lemmas.proofs.ItemsByPlace.{mapped_at}
use Rattle.jk_model.specs.declared.values.Value.TheVariants as Held
use Rattle.class_init.specs.Statics.{static_field, with_values}
use Rattle.class_init.proofs.FieldOfAnIndex.{one_value_more, rising_set, with_no_values}
use Rattle.class_init.proofs.statics.Statics.restore.Goals as goal

pub loop-i-init : goal.loop-i-init
loop-i-init c = record {
  size = sym (c.requires ∙ ap length (sym c.self.view_is) ∙ length-map c.self.inside.slots.items static_field);
  are = c.self.view_is ∙ sym (with_no_values c.args.self.now);
  rising = c.self.invariant;
}

pub invariant_of-self : goal.invariant_of-self
invariant_of-self c = c.loop-i.invariant.rising

pub loop-i-preserved : goal.loop-i-preserved
loop-i-preserved c =
    let xs = c.loop-i.self-inside.slots.items in
    let i = c.loop-i.i in
    let s = c.index_mut.result.now in
    let low : i < length xs = omega (arith, c.loop-i-test.true, c.loop-i.invariant.size) in
    let there : slice_get xs i ≡ Some s = slice_get_read xs (length xs) i s refl low c.index_mut.ensures.value in
    record {
      size = length-set xs i _ ∙ c.loop-i.invariant.size;
      are =
          map-set static_field xs i _
          ∙ rw (c.loop-i.invariant.are, add-one)
          (one_value_more c.args.self.now c.args.values.now i (static_field s) (Held.Int (pos 0)) c.loop-i-test.true
          (rw (← c.loop-i.invariant.are) (mapped_at static_field xs i s there)));
      rising = rising_set xs i s _ c.loop-i.invariant.rising there;
    }

pub returns : goal.returns
returns c = c.loop-i.invariant.are ∙ ap (with_values c.args.self.now) (take_all c.loop-i.i c.args.values.now c.loop-i-test.false)
