-- Puts to final fields, by what the entry that an instruction names leads to.
use Rattle.std.specs.Prelude.{◌≢◌, ℕ, IsTrue, List}
use Rattle.jk_model.specs.Flags.{has, FINAL}
use Rattle.jk_model.specs.declared.identifiers.ClassId.{ClassId}
use Rattle.jk_model_classes.specs.declared.records.ClassRecord.{ClassRecord}
use Rattle.jk_model_classes.specs.declared.records.FieldRecord.{FieldRecord}
use Rattle.jk_model_classes.specs.declared.records.Link.{Link}
use Rattle.jk_model_classes.specs.declared.records.Link.TheVariants as To
use Rattle.jk_model_classes.specs.LinkRules.{is_put}
use Rattle.jk_model_classes.specs.Lookups.{FieldIs}

-- the instruction puts to a final field of another class
abbrev pub LeadsFinal : List ClassRecord → ClassId → ℕ → Link → Type 0
LeadsFinal classes self op (To.Field class m) =
    (field : FieldRecord) × FieldIs classes m field × IsTrue (is_put op) × IsTrue (has field.flags FINAL) × (m.class ≢ self)
LeadsFinal classes self op link = ⊥
