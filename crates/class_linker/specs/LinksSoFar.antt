-- What the walk over the entries of a pool keeps.
use Rattle.std.specs.Prelude.{ℕ, List, Option, take}
use Rattle.std.specs.List.{AllZip}
use Rattle.jk_model.specs.declared.identifiers.MemberId.{MemberId}
use Rattle.jk_model_classes.specs.declared.records.Link.{Link}
use Rattle.class_linker.specs.LinkParts.{AreFields, AreMethods, LeadsTo}
use Rattle.class_linker.specs.declared.linking.Linking.{Linking}

pub record LinksSoFar (l : Linking) (fields methods : ℕ → Option (Option MemberId)) (n : ℕ) (links : List Link) : Type 0 where
  pub links_are : AllZip (LeadsTo l) (take n l.pool.now) links
  pub fields_are : AreFields l fields
  pub methods_are : AreMethods l methods
