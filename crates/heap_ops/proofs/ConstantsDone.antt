-- What a call that sets constants needs, and that it does what is said, whatever the frames are.
use Rattle.std.proofs.Common.{inr, ◌≡◌, ℕ, ◌+◌, ◌-◌, ◌^◌, ◌<◌, ◌≤◌, min, List, ◌++◌, map, Contains, Option, Some, None, Bor, refl, sym, ap, subst, ◌∙◌, arith}
use Rattle.std.specs.Prelude.{sum_by}
use Rattle.std.specs.Option.{is_some, option_map_or}
use Rattle.std.specs.Slice.{IsItemAt}
use Rattle.std.proofs.lemmas.Option.{none-some, same_Some}
use Rattle.list_lemmas.proofs.ItemsByPlace.{item_lent, none_lent}
use Rattle.jk_model.specs.declared.identifiers.ClassId.{ClassId}
use Rattle.jk_model_classes.specs.declared.records.ClassRecord.{ClassRecord}
use Rattle.jk_model_classes.specs.declared.records.FieldRecord.{FieldRecord}
use Rattle.jk_model_classes.specs.Classes.{record_of}
use Rattle.jk_model_domains.specs.Objects.{NamedObject}
use Rattle.jk_model_domains.specs.OwnStates.{OwnState}
use Rattle.jk_model_heaps.specs.Heaps.{Makes, heap_words}
use Rattle.jk_model_heaps.specs.Workings.{Inside, Setting}
use Rattle.jk_model_heap_rows.specs.Constants.{LacksConstants, SetsConstants, new_texts, text_object, with_constants}
use Rattle.class_init.specs.KeptStates.{KeptState}
use Rattle.class_init.specs.MissingTexts.{HasTextConstant, IsCostOfMissing, text_words}
use Rattle.frame_store.specs.FrameContents.{FrameContent}
use Rattle.object_store.specs.HeapContents.{HeapBecomes, HeapContent, IsAdmitted, IsHeapContent, words_left}
use Rattle.heap_laws.proofs.ObjectsAfterChanges.{costs_together}
use Rattle.step_contents.specs.Conditions.{around}
use Rattle.step_contents.specs.Contents.{Contents, Here, InsideBecomes, contents_of, inside_in}
use Rattle.step_contents.specs.Settings.{IsSetting}
use Rattle.heap_ops.specs.ConstantTexts.{HasStaticsOf, MakesTexts, TextsCall, with_literals}
use Rattle.heap_ops.specs.ConstantsSet.{ConstantsLack, MaySetConstants}
use Rattle.heap_ops.proofs.InstructionDone.{inside_becomes}
use Rattle.heap_ops.proofs.MissingTextsMade.{all_made}
use Rattle.heap_ops.proofs.StaticsByPlace.{has_part, has_statics}
use Rattle.heap_ops.proofs.TextsInTurn.{cost_of_new}
use Rattle.heap_ops.proofs.TextsLoaded.{left_most}

-- ---- Words.

left_of : (used : ℕ) (q : Option ℕ) (n : ℕ) → q ≡ Some n → option_map_or (λ (m : ℕ). m - used) q 0 ≡ n - used
left_of used None n is = absurd (none-some n is)
left_of used (Some m) n is = let same : m ≡ n = same_Some m n is in ap (λ (k : ℕ). k - used) same

-- what fits by the words that are counted, fits
fits_by : (words sum left : ℕ) → words ≡ min sum (2 ^ 64 - 1) → left ≤ 16777216 → words ≤ left → sum ≤ left
fits_by words sum left is most fits = omega arith

lacks_by : (words sum left : ℕ) → words ≡ min sum (2 ^ 64 - 1) → left < words → left < sum
lacks_by words sum left is low = omega arith

module _ (c : Contents) (here : Here) (class : ClassId) (may : MaySetConstants c here class) where
  -- ---- What is needed.

  pub admitted : IsAdmitted c.heaps here.domain
  admitted = ap (λ (q : Option ℕ). is_some q) may.may.domain.has_quota

  module _ (classes : List ClassRecord) (same : classes ≡ here.world.classes) where
    pub class_there : IsItemAt classes class.0 None → ⊥
    class_there none =
        none-some may.of_class
        (sym (none_lent classes class.0 none) ∙ ap (λ (cs : List ClassRecord). record_of cs class) same ∙ may.is_class)

    pub class_is : (r : Bor ClassRecord) → IsItemAt classes class.0 (Some r) → r.now ≡ may.of_class
    class_is r at =
        same_Some r.now may.of_class
        (sym (item_lent classes class.0 r at) ∙ ap (λ (cs : List ClassRecord). record_of cs class) same ∙ may.is_class)

  -- each constant text has a room
  pub known : (f : FieldRecord) (text : List ℕ) → Contains may.of_class.fields f → HasTextConstant f text → Contains c.own.rooms text
  known f text has is =
      let part = has_part (around may.may.domain) may.may.domain.quota (inside_in c here) may.may.sealed class may.of_class may.is_there may.is_class in
      may.may.domain.rooms.texts text (class, may.of_class, part.0, may.is_class, inr (f, has, is.is))

  pub statics_there : HasStaticsOf c.own.state class may.of_class
  statics_there =
      has_statics (around may.may.domain) may.may.domain.quota (inside_in c here) may.may.sealed class may.of_class may.is_there may.is_class

  -- ---- Room.

  module _ (holds : IsHeapContent c.heaps) (words : ℕ) (cost : IsCostOfMissing c.own.state may.of_class.fields words) where
    abbrev sum : ℕ
    sum = sum_by text_words (new_texts c.own.state may.of_class)

    counted : words ≡ min sum (2 ^ 64 - 1)
    counted = cost_of_new c.own.state may.of_class words cost

    few_left : words_left c.heaps here.domain ≤ 16777216
    few_left = left_most (c.heaps.used here.domain) (c.heaps.quota here.domain) (λ q is. (holds.within here.domain q is).2)

    pub fits : words ≤ words_left c.heaps here.domain → sum ≤ words_left c.heaps here.domain
    fits low = fits_by words sum (words_left c.heaps here.domain) counted few_left low

    pub lacks : words_left c.heaps here.domain < words → ConstantsLack c here class
    lacks low = λ x other setting.
        let same : may.of_class ≡ other.of_class = same_Some may.of_class other.of_class (sym may.is_class ∙ other.is_class) in
        let short : words_left c.heaps here.domain < sum = lacks_by words sum (words_left c.heaps here.domain) counted low in
        let left : words_left c.heaps here.domain ≡ x.quota - c.heaps.used here.domain =
        left_of (c.heaps.used here.domain) (c.heaps.quota here.domain) x.quota setting.quota in
        let used = may.may.domain.used in
        let lacking : x.quota < heap_words here.world.classes (c.heaps.heap here.domain) + sum = omega (arith, short, left, used) in
        subst (λ (r : ClassRecord). LacksConstants x r (inside_in c here)) same
        (subst (λ (classes : List ClassRecord). x.quota < heap_words classes (c.heaps.heap here.domain) + sum) (sym setting.classes) lacking)

-- ---- It is done.

module _ (heaps new_heaps : HeapContent) (own middle new_own : KeptState) (here : Here) (class : ClassId) (r : ClassRecord) where
  abbrev call : TextsCall
  call = record { heaps = heaps; new_heaps = new_heaps; own = own; new_own = middle; domain = here.domain }

  module _ (made : MakesTexts call here.world.classes (new_texts own.state r))
      (stored : let k : KeptState = record middle { state = with_constants class r middle.state } in new_own ≡ k) (frames : FrameContent) where
    abbrev old : Contents
    old = contents_of heaps frames own

    abbrev new : Contents
    new = contents_of new_heaps frames new_own

    abbrev objects : List NamedObject
    objects = map text_object made.more

    abbrev state : OwnState
    state = let k = with_literals own made.more in with_constants class r k.state

    abbrev inside : Inside
    inside = record (inside_in old here) { heap = heaps.heap here.domain ++ objects; own = state }

    module _ (may : MaySetConstants old here class) (is_class : record_of here.world.classes class ≡ Some r) (x : Setting) (setting : IsSetting old here x)
        (holds : IsHeapContent heaps) (new_holds : IsHeapContent new_heaps)
        (fit : sum_by text_words (new_texts own.state r) ≤ words_left heaps here.domain) where
      used : heaps.used here.domain ≡ heap_words here.world.classes (heaps.heap here.domain)
      used = may.may.domain.used

      all_fit : heap_words here.world.classes (heaps.heap here.domain) + sum_by text_words (new_texts own.state r) ≤ x.quota
      all_fit =
          let within = (holds.within here.domain x.quota setting.quota).0 in
          let left : words_left heaps here.domain ≡ x.quota - heaps.used here.domain =
          left_of (heaps.used here.domain) (heaps.quota here.domain) x.quota setting.quota in
          omega (arith, fit, left, used, within)

      makes : Makes x.classes x.quota (heaps.heap here.domain) objects (heaps.heap here.domain ++ objects)
      makes =
          subst (λ (classes : List ClassRecord). Makes classes x.quota (heaps.heap here.domain) objects (heaps.heap here.domain ++ objects))
          (sym setting.classes) (all_made call here.world.classes r made new_holds x.quota all_fit)

      sets : SetsConstants x class r (inside_in old here) inside
      sets = record { is_there = may.is_there; more = made.more; are_new = made.are; makes = makes; rest = refl }

      becomes : HeapBecomes heaps new_heaps here.domain (heaps.heap here.domain ++ objects)
          (heap_words here.world.classes (heaps.heap here.domain ++ objects))
      becomes =
          subst (HeapBecomes heaps new_heaps here.domain (heaps.heap here.domain ++ objects))
          (ap (λ (n : ℕ). n + heap_words here.world.classes objects) used
          ∙ sym (costs_together here.world.classes (heaps.heap here.domain) objects)) made.becomes

      kept : (let k : KeptState = record own { state = state } in new_own ≡ k)
      kept = stored ∙ ap (λ (k : KeptState). let y : KeptState = record k { state = with_constants class r k.state } in y) made.kept

      pub done : (inside : Inside) × SetsConstants x class may.of_class (inside_in old here) inside × InsideBecomes old new here inside
      done =
          let same : r ≡ may.of_class = same_Some r may.of_class (sym is_class ∙ may.is_class) in (
            inside,
            subst (λ (q : ClassRecord). SetsConstants x class q (inside_in old here) inside) same sets,
            inside_becomes old new here (inside_in old here) (heaps.heap here.domain ++ objects) state refl becomes kept refl,
          )
