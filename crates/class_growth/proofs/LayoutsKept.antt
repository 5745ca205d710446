-- What an object of a class is made of, and what it costs, is decided by the classes up to its number, and not by their links. So
-- it is the same with more classes behind.
use Rattle.std.proofs.Common.{◌≡◌, ◌+◌, List, ◌++◌, length, refl, sym, ap}
use Rattle.jk_model.specs.declared.identifiers.ClassId.{ClassId}
use Rattle.jk_model_classes.specs.declared.records.ClassRecord.{ClassRecord}
use Rattle.jk_model_classes.specs.Classes.{HasClass, AreOrdered}
use Rattle.jk_model_classes.specs.Layouts.{instance_fields, layout_of, up_to_32_bits, words_of, HEADER_WORDS, cost_of}
use Rattle.jk_model_domains.specs.Objects.{Object, Plain, Array, Text, Task, object_words}
use Rattle.class_lemmas.proofs.LowerClassesDecide.{instance_fields-agree}
use Rattle.class_growth.specs.ClassesKept.{HasObject}
use Rattle.class_growth.proofs.MoreClasses.{lower_agree-more}

module _ (classes more : List ClassRecord) (ordered : AreOrdered classes) where
  pub instance_fields-kept : (c : ClassId) → HasClass classes c → instance_fields (classes ++ more) c ≡ instance_fields classes c
  instance_fields-kept c there =
      sym (instance_fields-agree (length classes) classes (classes ++ more) ordered (lower_agree-more classes more) c there)

  pub layout-kept : (c : ClassId) → HasClass classes c → layout_of (classes ++ more) c ≡ layout_of classes c
  layout-kept c there = ap (λ fields. record { fields = fields; words = up_to_32_bits (words_of fields) }) (instance_fields-kept c there)

  pub cost-kept : (c : ClassId) → HasClass classes c → cost_of (classes ++ more) c ≡ cost_of classes c
  cost-kept c there = ap (λ fields. up_to_32_bits (words_of fields + HEADER_WORDS)) (instance_fields-kept c there)

  pub object_words-kept : (object : Object) → HasObject classes object → object_words (classes ++ more) object ≡ object_words classes object
  object_words-kept (Plain class fields) there = cost-kept class there
  object_words-kept (Array element items) there = refl
  object_words-kept (Text units) there = refl
  object_words-kept (Task segment) there = refl
