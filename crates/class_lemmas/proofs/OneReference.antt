-- An entry is one reference: its kind, the class that it names, the name and the type of the member.
use Rattle.std.proofs.Common.{◌≡◌, ℕ, List, Some, sym, ◌∙◌, subst}
use Rattle.std.specs.Prelude.{slice_get}
use Rattle.std.proofs.lemmas.Option.{same_Some}
use Rattle.jk_model.specs.declared.class_file.PoolEntry.{PoolEntry}
use Rattle.jk_model.specs.declared.class_file.PoolEntry.TheVariants as Entry
use Rattle.jk_model_classes.specs.LinkRules.{MemberRefAt}
use Rattle.jk_model_classes.specs.Members.{ClassAt, MemberKind, TextAt, reference}
use Rattle.class_lemmas.proofs.OneMember.{same_reference}
use Rattle.class_lemmas.proofs.OneText.{one_class, one_text}

pub record SameParts (k l : MemberKind) (a b : List ℕ) (n m : List ℕ) (d e : List ℕ) : Type 0 where
  pub kind : k ≡ l
  pub target : a ≡ b
  pub name : n ≡ m
  pub descriptor : d ≡ e

pub one_reference : (pool : List PoolEntry) (i : ℕ) (k l : MemberKind) (a b n m d e : List ℕ) → MemberRefAt pool i k a n d → MemberRefAt pool i l b m e
    → SameParts k l a b n m d e
one_reference pool i k l a b n m d e (x, y, at, target, (p, q, pair_at, name, descriptor)) (z, w, also, other, (r, t, pair_too, word, text)) =
    let same = same_reference k l x y z w (same_Some (reference k x y) (reference l z w) (sym at ∙ also)) in
    let pair_here : slice_get pool w ≡ Some (Entry.NameAndType p q) = subst (λ (j : ℕ). slice_get pool j ≡ Some (Entry.NameAndType p q)) same.pair pair_at in
    let both : Some (Entry.NameAndType p q) ≡ Some (Entry.NameAndType r t) = sym pair_here ∙ pair_too in
    let names : p ≡ r = cc in
    let texts : q ≡ t = cc in
    record {
      kind = same.kind;
      target = one_class pool z a b (subst (λ (j : ℕ). ClassAt pool j a) same.class target) other;
      name = one_text pool r n m (subst (λ (j : ℕ). TextAt pool j n) names name) word;
      descriptor = one_text pool t d e (subst (λ (j : ℕ). TextAt pool j d) texts descriptor) text;
    }
