-- One class after another is asked, and the best so far is the first that breaks the rule.
use Rattle.std.proofs.Common.{◌≡◌, ℕ, ◌+◌, ◌<◌, ◌≤◌, ◌⊎◌, inl, inr, ◌↔◌, Bool, IsTrue, List, Option, Some, None, sym, ◌∙◌, ap, subst, arith}
use Rattle.std.proofs.lemmas.Bool.{cases_lt}
use Rattle.std.proofs.lemmas.Option.{same_Some}
use Rattle.jk_model.specs.declared.identifiers.ClassId.{ClassId}
use Rattle.jk_model_classes.specs.declared.records.ClassRecord.{ClassRecord}
use Rattle.jk_model_classes.specs.Classes.{record_of}
use Rattle.jk_model_classes.specs.SharedRules.{IsBeforeInOrder, IsFirstToBreak, IsPathBefore, path_ranks}
use Rattle.shared_interfaces.specs.Earliest.{IsEarlier, IsEarliest, IsLeast}
use Rattle.shared_interfaces.proofs.PathsInOrder.{before_trans, before_itself}

abbrev pub Breach : Type 0
Breach = ClassId × ℕ

module _ (classes : List ClassRecord) where
  path_trans : (a b c : ClassId) → IsPathBefore classes a b → IsPathBefore classes b c → IsPathBefore classes a c
  path_trans a b c (of_a, of_b, is_a, is_b, h) (also_b, of_c, is_too, is_c, g) =
      let same : also_b ≡ of_b = same_Some also_b of_b (sym is_too ∙ is_b) in
      let next : IsBeforeInOrder (path_ranks of_b.name) (path_ranks of_c.name) =
      subst (λ (r : ClassRecord). IsBeforeInOrder (path_ranks r.name) (path_ranks of_c.name)) same g in
      (of_a, of_c, is_a, is_c, before_trans (path_ranks of_a.name) (path_ranks of_b.name) (path_ranks of_c.name) h next)

  path_itself : (a : ClassId) → IsPathBefore classes a a → ⊥
  path_itself a (r, s, is_r, is_s, h) =
      let same : s ≡ r = same_Some s r (sym is_s ∙ is_r) in
      before_itself (path_ranks r.name) (subst (λ (x : ClassRecord). IsBeforeInOrder (path_ranks r.name) (path_ranks x.name)) same h)

  -- the names of two classes tell which path comes before
  pub path_by_names : (a b : ClassId) (of_a of_b : ClassRecord) → record_of classes a ≡ Some of_a → record_of classes b ≡ Some of_b → (t : Bool)
      → IsTrue t ↔ IsBeforeInOrder (path_ranks of_a.name) (path_ranks of_b.name) → IsTrue t ↔ IsPathBefore classes a b
  path_by_names a b of_a of_b at_a at_b t h = (λ is. (of_a, of_b, at_a, at_b, h.0 is), λ before. h.1 (back before))
    where
      back : IsPathBefore classes a b → IsBeforeInOrder (path_ranks of_a.name) (path_ranks of_b.name)
      back (x, y, at_x, at_y, before) =
          let same : x ≡ of_a = same_Some x of_a (sym at_x ∙ at_a) in
          let same_too : y ≡ of_b = same_Some y of_b (sym at_y ∙ at_b) in
          subst (λ (r : ClassRecord). IsBeforeInOrder (path_ranks of_a.name) (path_ranks r.name)) same_too
          (subst (λ (r : ClassRecord). IsBeforeInOrder (path_ranks r.name) (path_ranks y.name)) same before)

  -- What broke the rule so far, and class c at the numbers of `Here`, are together what breaks it now.
  pub record IsOneMore (Before : ClassId → ℕ → Type 0) (c : ClassId) (Here : ℕ → Type 0) (After : ClassId → ℕ → Type 0) : Type 0 where
    pub split : (d : ClassId) (n : ℕ) → After d n → Before d n ⊎ ((d ≡ c) × Here n)
    pub kept : (d : ClassId) (n : ℕ) → Before d n → After d n
    pub here : (n : ℕ) → Here n → After c n
    -- what the class broke before is no higher
    pub low : (m n : ℕ) → Before c m → Here n → m ≤ n

  module _ (Before : ClassId → ℕ → Type 0) (c : ClassId) (Here : ℕ → Type 0) (After : ClassId → ℕ → Type 0) (more : IsOneMore Before c Here After) where
    -- the class takes the first place
    taken : (n : ℕ) → Here n → ((m : ℕ) → m < n → Here m → ⊥) → ((d : ClassId) (m : ℕ) → Before d m → IsPathBefore classes d c → ⊥)
        → ((m : ℕ) → Before c m → ⊥) → IsFirstToBreak classes After c n
    taken n is least later none = record {
      breaks = more.here n is;
      least = λ m below h. elim (more.split c m h) [ inl old ↦ none m old | inr (e, new) ↦ least m below new ];
      earlier = λ d m h before.
          elim (more.split d m h) [
            | inl old ↦ later d m old before
            | inr (e, new) ↦ path_itself c (subst (λ (x : ClassId). IsPathBefore classes x c) e before)
          ];
    }

    -- another class keeps the first place
    left : (b : ClassId) (m : ℕ) → IsFirstToBreak classes Before b m → ((n : ℕ) → Here n → IsPathBefore classes c b → ⊥) → IsFirstToBreak classes After b m
    left b m first later = record {
      breaks = more.kept b m first.breaks;
      least = λ n below h.
          elim (more.split b n h) [
            | inl old ↦ first.least n below old
            | inr (e, new) ↦
                let at_c : Before c m = subst (λ (x : ClassId). Before x m) e first.breaks in
                let high : m ≤ n = more.low m n at_c new in
                omega arith
          ];
      earlier = λ d n h before.
          elim (more.split d n h) [
            | inl old ↦ first.earlier d n old before
            | inr (e, new) ↦ later n new (subst (λ (x : ClassId). IsPathBefore classes x b) e before)
          ];
    }

    pub one_more : (best : Option Breach) (number : Option ℕ) (chosen : Option Breach) → IsEarliest classes Before best → IsLeast Here number
        → IsEarlier classes best c number chosen → IsEarliest classes After chosen
    one_more None None chosen none never is =
        subst (IsEarliest classes After) (sym is)
        (λ d n h. elim (more.split d n h) [ inl old ↦ none d n old | inr (e, new) ↦ never n new ])
    one_more (Some b) None chosen first never is =
        subst (IsEarliest classes After) (sym is) (left b.0 b.1 first (λ n new before. never n new))
    one_more None (Some n) chosen none least is =
        subst (IsEarliest classes After) (sym is) (taken n least.0 least.1 (λ d m old before. none d m old) (λ m old. none c m old))
    one_more (Some b) (Some n) chosen first least (inl (before, is)) =
        subst (IsEarliest classes After) (sym is)
        (taken n least.0 least.1 (λ d m old d_before. first.earlier d m old (path_trans d c b.0 d_before before))
        (λ m old. first.earlier c m old before))
    one_more (Some b) (Some n) chosen first least (inr (later, is)) =
        subst (IsEarliest classes After) (sym is) (left b.0 b.1 first (λ m new before. later before))

  -- what breaks a rule may be said in another way
  pub said_so : (P Q : ClassId → ℕ → Type 0) → ((c : ClassId) (n : ℕ) → P c n → Q c n) → ((c : ClassId) (n : ℕ) → Q c n → P c n)
      → (best : Option Breach) → IsEarliest classes P best → IsEarliest classes Q best
  said_so P Q there back None none = λ c n h. none c n (back c n h)
  said_so P Q there back (Some b) first = record {
    breaks = there b.0 b.1 first.breaks;
    least = λ n below h. first.least n below (back b.0 n h);
    earlier = λ d n h. first.earlier d n (back d n h);
  }

  -- ---- The classes in order.

  -- the class with this number comes after those below it
  pub next_class : (Breaks : ClassId → ℕ → Type 0) (number : ℕ)
      → IsOneMore (λ d n. (d.0 < number) × Breaks d n) (record { 0 = number }) (Breaks (record { 0 = number })) (λ d n. (d.0 < number + 1) × Breaks d n)
  next_class Breaks number = record {
    split = λ d n h.
        elim (cases_lt d.0 number) [
          | inl below ↦ inl (below, h.1)
          | inr least ↦
              let at : d.0 ≡ number = omega (arith, h.0) in
              let same : d ≡ record { 0 = number } = ap (λ (m : ℕ). let x : ClassId = record { 0 = m } in x) at in
              inr (same, subst (λ (x : ClassId). Breaks x n) same h.1)
        ];
    kept = λ d n h. (omega (arith, h.0), h.1);
    here = λ n h. (omega arith, h);
    low = λ m n old new. absurd (omega (arith, old.0));
  }

  -- no class is below the first number
  pub no_class : (Breaks : ClassId → ℕ → Type 0) (first : ClassId) → ((c : ClassId) (n : ℕ) → Breaks c n → first.0 ≤ c.0)
      → IsEarliest classes (λ d n. (d.0 < first.0) × Breaks d n) None
  no_class Breaks first within d n h = let low : first.0 ≤ d.0 = within d n h.1 in omega (arith, h.0)

  -- and all are below the last
  pub all_classes : (Breaks : ClassId → ℕ → Type 0) (number : ℕ) → ((c : ClassId) (n : ℕ) → Breaks c n → c.0 < number) → (best : Option Breach)
      → IsEarliest classes (λ d n. (d.0 < number) × Breaks d n) best → IsEarliest classes Breaks best
  all_classes Breaks number within best =
      said_so (λ d n. (d.0 < number) × Breaks d n) Breaks (λ d n h. h.1) (λ d n h. (within d n h, h)) best
