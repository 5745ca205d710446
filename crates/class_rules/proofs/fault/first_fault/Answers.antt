-- Groups of rules are asked in turn, of a record that can be written.
use Rattle.std.proofs.Common.{sym, subst}
use Rattle.std.specs.Prelude.{List, ◌<◌, ◌^◌, length}
use Rattle.std.specs.List.{AllByRecursion}
use Rattle.std.proofs.lemmas.Option.{none-some}
use Rattle.jk_model.specs.declared.class_file.PoolEntry.{PoolEntry}
use Rattle.jk_model.specs.ClassFile.{IsEntry, IsGoodEntry}
use Rattle.class_rules.proofs.FirstOfAll.{its_fault, its_none, own_facts}
use Rattle.class_rules.proofs.WritableParts.{short_bodies}
use Rattle.class_rules.proofs.fault.first_fault.Goals as goal

pub facts_of-requires : goal.facts_of-requires
facts_of-requires c =
    let same = sym c.as_slice.ensures in
    let layout = c.requires.is_class.layout in record {
      few = subst (λ (p : List PoolEntry). length p < 2 ^ 16) same layout.pool.1;
      entries = subst (λ (p : List PoolEntry). AllByRecursion IsEntry p) same layout.pool.2;
      good = subst (λ (p : List PoolEntry). AllByRecursion (IsGoodEntry p) p) same c.requires.is_class.entries;
    }

pub fault_of_parts-requires : goal.fault_of_parts-requires
fault_of_parts-requires c = record {
  known = own_facts c.as_slice.result.now c.args.c.now.pool c.in_ok-facts.facts c.as_slice-facts.result.now c.as_slice.ensures c.as_slice-facts.ensures
      c.in_ok-facts.ensures;
  fields = c.requires.is_class.layout.fields.0;
  methods = c.requires.is_class.layout.methods.0;
  entries = c.requires.is_class.layout.pool.1;
  short = short_bodies c.args.c.now c.requires;
}

pub fault_of_methods-requires : goal.fault_of_methods-requires
fault_of_methods-requires c = record {
  known = own_facts c.as_slice.result.now c.args.c.now.pool c.in_ok-facts.facts c.as_slice-facts.result.now c.as_slice.ensures c.as_slice-facts.ensures
      c.in_ok-facts.ensures;
  fields = c.requires.is_class.layout.fields.0;
  methods = c.requires.is_class.layout.methods.0;
  entries = c.requires.is_class.layout.pool.1;
  short = short_bodies c.args.c.now c.requires;
  earlier = rw c.in_default.is at c.in_ok-fault.ensures;
}

pub fault_of_whole-requires : goal.fault_of_whole-requires
fault_of_whole-requires c = record {
  known = own_facts c.as_slice.result.now c.args.c.now.pool c.in_ok-facts.facts c.as_slice-facts.result.now c.as_slice.ensures c.as_slice-facts.ensures
      c.in_ok-facts.ensures;
  fields = c.requires.is_class.layout.fields.0;
  methods = c.requires.is_class.layout.methods.0;
  entries = c.requires.is_class.layout.pool.2;
  earlier = (rw c.in_default-2.is at c.in_ok-fault-2.ensures) c.args.path.now;
}

pub returns-in-Some : goal.returns-in-Some
returns-in-Some c = record {
  fault = (rw c.in-Some.is at c.in_ok-fault.ensures) c.args.path.now;
  no_fault = λ e. absurd (none-some _ (sym e));
}

pub returns-in-Some-2 : goal.returns-in-Some-2
returns-in-Some-2 c = record {
  fault = (rw c.in-Some-2.is at c.in_ok-fault-2.ensures) c.args.path.now;
  no_fault = λ e. absurd (none-some _ (sym e));
}

pub returns : goal.returns
returns c = record {
  fault = its_fault c.args.c.now c.args.path.now c.fault_of_whole.result c.fault_of_whole.ensures;
  no_fault = its_none c.args.c.now c.args.path.now c.fault_of_whole.result c.fault_of_whole.ensures;
}
