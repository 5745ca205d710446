-- What a function does at the values that it read is done at what was given.
use Rattle.std.proofs.Common.{◌≡◌, List, sym, subst}
use Rattle.jk_model.specs.declared.identifiers.DomainId.{DomainId}
use Rattle.jk_model.specs.declared.values.Value.{Value}
use Rattle.jk_model_classes.specs.declared.records.ClassRecord.{ClassRecord}
use Rattle.jk_model_domains.specs.Objects.{NamedObject}
use Rattle.jk_model_system_rows.specs.declared.meanings.SystemMeaning.{SystemMeaning}
use Rattle.jk_model_system_rows.specs.Answers.{Answer}
use Rattle.object_store.specs.HeapContents.{HeapContent}
use Rattle.row_laws.specs.GivenValues.{GivenFor}
use Rattle.system_calls.specs.DoneRows.{Does, Finds, IsReady}
use Rattle.system_calls.proofs.RowsOfNewObjects.{done_still}
use Rattle.system_calls.proofs.TextRows.{same_self}

module _ (m n : SystemMeaning) (given xs : List Value) (same : m ≡ n) (read : given ≡ xs) where
  -- it is as the meaning asks
  pub given_as : (heap : List NamedObject) → GivenFor heap m given → GivenFor heap n xs
  given_as heap h = subst (GivenFor heap n) read (subst (λ (k : SystemMeaning). GivenFor heap k given) same h)

  module _ (old new : HeapContent) (classes : List ClassRecord) (d : DomainId) (answer : Answer) where
    pub done_as : Does old new classes d n xs answer → Does old new classes d m given answer
    done_as h =
        subst (λ (k : SystemMeaning). Does old new classes d k given answer) (sym same)
        (subst (λ (vs : List Value). Does old new classes d n vs answer) (sym read) h)

  module _ (c : HeapContent) (classes : List ClassRecord) (d : DomainId) (ready : IsReady c classes d) (answer : Answer) where
    pub found_as : Finds c d n xs answer → Does c c classes d m given answer
    found_as finds = done_as c c classes d answer (done_still c c classes d ready n xs answer (same_self c) finds)

-- what is given, at its meaning
pub given_at : (m n : SystemMeaning) (given : List Value) (heap : List NamedObject) → m ≡ n → GivenFor heap m given → GivenFor heap n given
given_at m n given heap same h = subst (λ (k : SystemMeaning). GivenFor heap k given) same h
