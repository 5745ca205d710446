-- What is missing is counted, and then made and set where it fits.
use Rattle.std.proofs.Common.{◌∙◌, ℕ, ◌<◌, ◌≤◌, Contains, List, Some, ap, subst, sum_by, sym}
use Rattle.list_lemmas.proofs.ItemsByPlace.{item_lent}
use Rattle.jk_model_classes.specs.declared.records.ClassRecord.{ClassRecord}
use Rattle.jk_model_classes.specs.declared.records.FieldRecord.{FieldRecord}
use Rattle.jk_model_heap_rows.specs.Constants.{new_texts}
use Rattle.class_init.specs.KeptStates.{KeptState}
use Rattle.class_init.specs.MissingTexts.{IsCostOfMissing, text_words}
use Rattle.object_store.specs.HeapContents.{words_left}
use Rattle.step_contents.specs.Contents.{contents_of, here_at}
use Rattle.heap_ops.specs.ConstantTexts.{HasStaticsOf, MakesTexts, TextsCall, with_literals}
use Rattle.heap_ops.proofs.ConstantsDone.{class_is, done, fits, known, lacks, statics_there}
use Rattle.heap_ops.proofs.MissingTextsMade.{all_named}
use Rattle.heap_ops.proofs.StaticsByPlace.{same_statics}
use Rattle.heap_ops.proofs.constants.set_constants.Goals as goal

pub missing_words-words-requires : goal.missing_words-words-requires
missing_words-words-requires g c = λ f text has is.
    let contents = contents_of (g.H.ObjectStore.content c.args.heap.now) c.requires.0 c.args.own.now in
    let here = here_at c.args.w.now c.requires.1 c.args.d c.requires.2 in
    let may = c.requires.3 in
    let class = class_is contents here c.args.c may c.classes-t.result.now c.classes-t.ensures c.in-Some.class c.in-Some.ensures in
    known contents here c.args.c may f text
    (subst (λ (fs : List FieldRecord). Contains fs f) (c.as_slice.ensures ∙ ap (λ (r : ClassRecord). r.fields) class) has) is

pub returns-then-words-from-clause-err : goal.returns-then-words-from-clause-err
returns-then-words-from-clause-err g c = λ frames shared s x may setting.
    let heaps = g.H.ObjectStore.content c.args.heap.now in
    let contents = contents_of heaps frames c.args.own.now in
    let here = here_at c.args.w.now shared c.args.d s in
    let class = class_is contents here c.args.c may c.classes-t.result.now c.classes-t.ensures c.in-Some.class c.in-Some.ensures in
    let words = c.missing_words-words.result in
    let cost : IsCostOfMissing c.args.own.now.state may.of_class.fields words =
    subst (λ (fs : List FieldRecord). IsCostOfMissing c.args.own.now.state fs words) (c.as_slice.ensures ∙ ap (λ (r : ClassRecord). r.fields) class)
    c.missing_words-words.ensures.words in
    let low : words_left heaps c.args.d < words = subst (λ (n : ℕ). n < words) (c.from.ensures ∙ c.free.ensures) c.if-words-from.true in
    lacks contents here c.args.c may (g.met.H.ObjectStore.holds c.args.heap.now) words cost low x may setting

pub make_missing-requires-clause-known : goal.make_missing-requires-clause-known
make_missing-requires-clause-known g c = λ f text has is.
    let contents = contents_of (g.H.ObjectStore.content c.args.heap.now) c.requires.0 c.args.own.now in
    let here = here_at c.args.w.now c.requires.1 c.args.d c.requires.2 in
    let may = c.requires.3 in
    let class = class_is contents here c.args.c may c.classes-t.result.now c.classes-t.ensures c.in-Some.class c.in-Some.ensures in
    subst (λ (k : KeptState). Contains k.rooms text) (sym c.missing_words-words.ensures.same)
    (known contents here c.args.c may f text (subst (λ (r : ClassRecord). Contains r.fields f) class has) is)

pub make_missing-requires-clause-fits : goal.make_missing-requires-clause-fits
make_missing-requires-clause-fits g c =
    let heaps = g.H.ObjectStore.content c.args.heap.now in
    let contents = contents_of heaps c.requires.0 c.args.own.now in
    let here = here_at c.args.w.now c.requires.1 c.args.d c.requires.2 in
    let may = c.requires.3 in
    let class = class_is contents here c.args.c may c.classes-t.result.now c.classes-t.ensures c.in-Some.class c.in-Some.ensures in
    let words = c.missing_words-words.result in
    let cost : IsCostOfMissing c.args.own.now.state may.of_class.fields words =
    subst (λ (fs : List FieldRecord). IsCostOfMissing c.args.own.now.state fs words) (c.as_slice.ensures ∙ ap (λ (r : ClassRecord). r.fields) class)
    c.missing_words-words.ensures.words in
    let low : words ≤ words_left heaps c.args.d = subst (λ (n : ℕ). words ≤ n) (c.from.ensures ∙ c.free.ensures) c.if-words-from.false in
    subst (λ (k : KeptState). sum_by text_words (new_texts k.state c.in-Some.class.now) ≤ words_left heaps c.args.d)
    (sym c.missing_words-words.ensures.same)
    (subst (λ (r : ClassRecord). sum_by text_words (new_texts c.args.own.now.state r) ≤ words_left heaps c.args.d) (sym class)
    (fits contents here c.args.c may (g.met.H.ObjectStore.holds c.args.heap.now) words cost low))

pub store_texts-requires-clause-few : goal.store_texts-requires-clause-few
store_texts-requires-clause-few g c =
    let is = item_lent c.classes-t.result.now c.args.c.0 c.in-Some.class c.in-Some.ensures in
    (c.ordered.ensures.members c.args.c c.in-Some.class.now is).0

pub store_texts-requires-clause-statics : goal.store_texts-requires-clause-statics
store_texts-requires-clause-statics g c =
    let contents = contents_of (g.H.ObjectStore.content c.args.heap.now) c.requires.0 c.args.own.now in
    let here = here_at c.args.w.now c.requires.1 c.args.d c.requires.2 in
    let may = c.requires.3 in
    let class = class_is contents here c.args.c may c.classes-t.result.now c.classes-t.ensures c.in-Some.class c.in-Some.ensures in
    let made = c.make_missing.ensures in
    same_statics c.args.own.now.state c.make_missing.new.own.state c.args.c c.in-Some.class.now
    (ap (λ (k : KeptState). k.state.classes) (made.kept ∙ ap (λ (k : KeptState). with_literals k made.more) c.missing_words-words.ensures.same))
    (subst (HasStaticsOf c.args.own.now.state c.args.c) (sym class) (statics_there contents here c.args.c may))

pub store_texts-requires-clause-named : goal.store_texts-requires-clause-named
store_texts-requires-clause-named g c =
    let call : TextsCall = record {
      heaps = g.H.ObjectStore.content c.args.heap.now;
      new_heaps = g.H.ObjectStore.content c.make_missing.new.heap;
      own = c.missing_words-words.new.self;
      new_own = c.make_missing.new.own;
      domain = c.args.d;
    } in
    all_named call c.classes-t.result.now c.in-Some.class.now c.make_missing.ensures

pub returns-clause-ok : goal.returns-clause-ok
returns-clause-ok g c = λ frames shared s x may setting.
    let heaps = g.H.ObjectStore.content c.args.heap.now in
    let new_heaps = g.H.ObjectStore.content c.make_missing.new.heap in
    let own = c.args.own.now in
    let r = c.in-Some.class.now in
    let contents = contents_of heaps frames own in
    let here = here_at c.args.w.now shared c.args.d s in
    let class = class_is contents here c.args.c may c.classes-t.result.now c.classes-t.ensures c.in-Some.class c.in-Some.ensures in
    let words = c.missing_words-words.result in
    let cost : IsCostOfMissing own.state may.of_class.fields words =
    subst (λ (fs : List FieldRecord). IsCostOfMissing own.state fs words) (c.as_slice.ensures ∙ ap (λ (q : ClassRecord). q.fields) class)
    c.missing_words-words.ensures.words in
    let low : words ≤ words_left heaps c.args.d = subst (λ (n : ℕ). words ≤ n) (c.from.ensures ∙ c.free.ensures) c.if-words-from.false in
    let fit = subst (λ (q : ClassRecord). sum_by text_words (new_texts own.state q) ≤ words_left heaps c.args.d) (sym class)
    (fits contents here c.args.c may (g.met.H.ObjectStore.holds c.args.heap.now) words cost low) in
    let call : KeptState → TextsCall =
    λ k. record { heaps = heaps; new_heaps = new_heaps; own = k; new_own = c.make_missing.new.own; domain = c.args.d } in
    let made : MakesTexts (call own) c.args.w.now.classes (new_texts own.state r) =
    subst (λ (classes : List ClassRecord). MakesTexts (call own) classes (new_texts own.state r)) c.classes-t.ensures
    (subst (λ (k : KeptState). MakesTexts (call k) c.classes-t.result.now (new_texts k.state r)) c.missing_words-words.ensures.same
    c.make_missing.ensures) in
    done heaps new_heaps own c.make_missing.new.own c.store_texts.new.own here c.args.c r made c.store_texts.ensures frames may
    (may.is_class ∙ ap (λ (q : ClassRecord). Some q) (sym class)) x setting (g.met.H.ObjectStore.holds c.args.heap.now)
    (g.met.H.ObjectStore.holds c.make_missing.new.heap) fit
