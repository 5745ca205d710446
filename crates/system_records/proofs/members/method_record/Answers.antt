-- Each part of the record is that of the method.
use Rattle.std.proofs.Common.{◌∙◌, refl, subst}
use Rattle.std.specs.List.{AllZip}
use Rattle.jk_model_classes.specs.SystemRecords.{IsTypeFor}
use Rattle.system_records.specs.KnownTypes.{class_called}
use Rattle.system_table.specs.Entry.{method_of}
use Rattle.system_records.proofs.RecordsOfMembers.{method_made}
use Rattle.system_records.proofs.members.method_record.Goals as goal

pub returns : goal.returns
returns c =
    let params = c.in_ok-params.params in
    method_made c.args.method.number (method_of c.args.method) c.in_ok-kind.kind params _ (record {
      name = c.name.view_is ∙ c.in_ok-name.ensures;
      flags = refl;
      text = c.in_ok-kind.ensures.text;
      kind = c.in_ok-new.ensures;
      types = subst (λ types. AllZip (IsTypeFor class_called) types params) c.as_slice.ensures c.in_ok-params.ensures;
      params = c.in_ok-new-2.ensures;
      result = c.result_ref-result.ensures;
      body = refl;
    })
