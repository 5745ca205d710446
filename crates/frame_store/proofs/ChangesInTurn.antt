-- Two changes of what a store holds, one after the other, are one.
use Rattle.std.proofs.Common.{ℕ, Option, ◌∙◌}
use Rattle.jk_model.specs.declared.identifiers.DomainId.{DomainId}
use Rattle.jk_model.specs.declared.identifiers.SegmentNo.{SegmentNo}
use Rattle.frame_store.specs.FrameContents.{FrameContent, StoredSegment, KeepsDomains, Changes}

pub both_keep : (a b c : FrameContent) → KeepsDomains a b → KeepsDomains b c → KeepsDomains a c
both_keep a b c first second = record {
  pages = second.pages ∙ first.pages;
  took_all = second.took_all ∙ first.took_all;
  quota = λ d. second.quota d ∙ first.quota d;
  first_page = λ d. second.first_page d ∙ first.first_page d;
}

-- one segment changes twice
pub then_changes : (a b c : FrameContent) (s : SegmentNo) (d : DomainId) (first second : Option StoredSegment) (m n : ℕ)
    → Changes a b s d first m → Changes b c s d second n → Changes a c s d second n
then_changes a b c s d first second m n g h = record {
  domains = both_keep a b c g.domains h.domains;
  becomes = h.becomes;
  others = λ r differ. h.others r differ ∙ g.others r differ;
  uses = h.uses;
  other_domains = λ e differ. h.other_domains e differ ∙ g.other_domains e differ;
}
