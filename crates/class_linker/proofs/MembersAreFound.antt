-- A name and type finds one member at most in a class, and what is remembered of it stays right.
use Rattle.std.proofs.Common.{◌≡◌, ℕ, ◌+◌, ◌*◌, ◌<◌, inl, inr, Bool, cond, List, Option, Some, None, nat_eq, sym, ◌∙◌, ap, subst, arith}
use Rattle.std.proofs.lemmas.Bool.Decides.{eqb_tells}
use Rattle.std.proofs.lemmas.Option.{same_Some}
use Rattle.list_lemmas.proofs.ItemsOfLists.{Contains-at}
use Rattle.jk_model.specs.declared.identifiers.ClassId.{ClassId}
use Rattle.jk_model.specs.declared.identifiers.MemberId.{MemberId}
use Rattle.jk_model_classes.specs.declared.records.Link.{Link}
use Rattle.jk_model_classes.specs.declared.records.Link.TheVariants as To
use Rattle.jk_model_classes.specs.Lookups.{FindsOn}
use Rattle.model_lemmas.proofs.SameNumbers.{same_class}
use Rattle.class_linker.specs.LinkParts.{AreFound, LinksIn, key_of}

pub never_both : (Suits : MemberId → Type 0) (walk : List ClassId) (m : MemberId) → FindsOn Suits walk None → FindsOn Suits walk (Some m) → ⊥
never_both Suits walk m none first = none m.class (Contains-at walk first.place m.class first.visited) (m.index, first.member.suits)

-- ---- What is remembered.

record SameKey (a b : ClassId) (i j : ℕ) : Type 0 where
  class : a ≡ b
  pair : i ≡ j

one_key : (a b : ClassId) (i j : ℕ) → i < 65536 → j < 65536 → key_of a i ≡ key_of b j → SameKey a b i j
one_key a b i j small low e =
    let e2 : a.0 * 65536 + i ≡ b.0 * 65536 + j = e in
    let same : a.0 ≡ b.0 = omega arith in
    record { class = same_class a b same; pair = omega arith }

module _ {X : Type 0} (Pair : ℕ → List ℕ → X → Type 0) (Finds : ClassId → List ℕ → X → Option MemberId → Type 0)
    (one : (i : ℕ) (a b : List ℕ) (k l : X) → Pair i a k → Pair i b l → (a ≡ b) × (k ≡ l)) where
  pub found_kept : (old new : ℕ → Option (Option MemberId)) (class : ClassId) (pair : ℕ) (name : List ℕ) (kind : X) (m : Option MemberId) → pair < 65536
      → Pair pair name kind → Finds class name kind m → ((q : ℕ) → new q ≡ cond (nat_eq (key_of class pair) q) (Some m) (old q)) → AreFound Pair Finds old
      → AreFound Pair Finds new
  found_kept old new class pair name kind m small p finds puts h other index word type found low at q =
      elim (eqb_tells (key_of class pair) (key_of other index)) [
        | inl (test, e) ↦
            let key = one_key class other pair index small low e in
            let here : new (key_of other index) ≡ Some m =
            puts (key_of other index) ∙ ap (λ (b : Bool). cond b (Some m) (old (key_of other index))) test in
            let same : m ≡ found = same_Some m found (sym here ∙ at) in
            let words = one index name word kind type (subst (λ (i : ℕ). Pair i name kind) key.pair p) q in
            subst (λ (w : Option MemberId). Finds other word type w) same
            (subst (λ (k : X). Finds other word k m) words.1
            (subst (λ (a : List ℕ). Finds other a kind m) words.0 (subst (λ (c : ClassId). Finds c name kind m) key.class finds)))
        | inr (test, other_key) ↦
            let there : new (key_of other index) ≡ old (key_of other index) =
            puts (key_of other index) ∙ ap (λ (b : Bool). cond b (Some m) (old (key_of other index))) test in
            h other index word type found low (sym there ∙ at) q
      ]

-- ---- Links.

module _ {X : Type 0} (Pair : List ℕ → X → Type 0) (Finds : List ℕ → X → Option MemberId → Type 0) (to : MemberId → Link) where
  pub found_link : (name : List ℕ) (kind : X) (m : MemberId) (link : Link) → Pair name kind → Finds name kind (Some m) → link ≡ to m
      → LinksIn Pair Finds to link
  found_link name kind m link p finds e = inl (name, kind, m, p, finds, e)

  -- the name and type is one, and finds nothing
  pub missed_link : (name : List ℕ) (kind : X) (link : Link) → ((a b : List ℕ) (k l : X) → Pair a k → Pair b l → (a ≡ b) × (k ≡ l))
      → ((m : MemberId) → Finds name kind None → Finds name kind (Some m) → ⊥) → Pair name kind → Finds name kind None → link ≡ To.Nothing
      → LinksIn Pair Finds to link
  missed_link name kind link one never p none e =
      inr (
        λ word type m q finds.
            let words = one word name type kind q p in
            never m none
            (subst (λ (k : X). Finds name k (Some m)) words.1 (subst (λ (a : List ℕ). Finds a type (Some m)) words.0 finds)),
        e,
      )

  pub no_pair_link : (link : Link) → ((name : List ℕ) (kind : X) → Pair name kind → ⊥) → link ≡ To.Nothing → LinksIn Pair Finds to link
  no_pair_link link none e = inr (λ name kind m p finds. none name kind p, e)
