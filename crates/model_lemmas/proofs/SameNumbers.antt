-- Classes, domains and members of the same numbers are the same.
use Rattle.std.proofs.Common.{◌≡◌, ℕ, ap, ◌∙◌}
use Rattle.jk_model.specs.declared.identifiers.ClassId.{ClassId}
use Rattle.jk_model.specs.declared.identifiers.DomainId.{DomainId}
use Rattle.jk_model.specs.declared.identifiers.MemberId.{MemberId}

pub same_class : (c d : ClassId) → c.0 ≡ d.0 → c ≡ d
same_class c d e = let of : ℕ → ClassId = λ n. record { 0 = n } in ap of e

pub same_domain : (c d : DomainId) → c.0 ≡ d.0 → c ≡ d
same_domain c d e = let of : ℕ → DomainId = λ n. record { 0 = n } in ap of e

pub same_member : (m n : MemberId) → m.class ≡ n.class → m.index ≡ n.index → m ≡ n
same_member m n e f =
    ap (λ (k : ClassId). let x : MemberId = record { class = k; index = m.index } in x) e
    ∙ ap (λ (i : ℕ). let x : MemberId = record { class = n.class; index = i } in x) f
