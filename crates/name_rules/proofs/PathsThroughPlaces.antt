-- The paths of a graph, by the places that they go through: once an edge stands for each path through the places below a
-- bound, those through one place more need but one place to go through.
use Rattle.std.proofs.Common.{◌≡◌, ℕ, ◌+◌, ◌<◌, ◌≤◌, ◌⊎◌, inl, inr, length, refl, ◌∙◌, subst, arith}
use Rattle.std.proofs.lemmas.Bool.{cases_lt}
use Rattle.name_rules.specs.Graphs.{GoThrough, HasEdge, IsClosure, IsSquare, Path, Rows, edge, further}
use Rattle.name_rules.proofs.EdgesOfRows.{edge_within}

-- a path whose inner places are below k
pub data Through (E : ℕ → ℕ → Type 0) (k : ℕ) : ℕ → ℕ → Type 0 where
  direct : (a b : ℕ) → E a b → Through E k a b
  over : (a b c : ℕ) → E a b → b < k → Through E k b c → Through E k a c

pub join_paths : (E : ℕ → ℕ → Type 0) (a b c : ℕ) → Path E a b → Path E b c → Path E a c
join_paths E a b c (edge _ _ e) q = further a b c e q
join_paths E a b c (further _ m _ e p) q = further a m c e (join_paths E m b c p q)

split_at : (E : ℕ → ℕ → Type 0) (k a c : ℕ) → Through E (k + 1) a c → Through E k a c ⊎ (Through E k a k × Through E k k c)
split_at E k a c (direct _ _ e) = inl (direct a c e)
split_at E k a c (over _ b _ e below p) = elim (cases_lt b k) [
  | inl less ↦ elim (split_at E k b c p) [
    | inl on ↦ inl (over a b c e less on)
    | inr (to, on) ↦ inr (over a b k e less to, on)
  ]
  | inr least ↦
      let here : b ≡ k = omega arith in
      let first : E a k = subst (λ (n : ℕ). E a n) here e in
      elim (split_at E k b c p) [
        | inl on ↦ inr (direct a k first, subst (λ (n : ℕ). Through E k n c) here on)
        | inr (to, on) ↦ inr (direct a k first, on)
      ]
]

pub record ClosedBelow (k : ℕ) (old new : Rows) : Type 0 where
  pub as_many : length new ≡ length old
  pub square : IsSquare new
  pub only : (a b : ℕ) → HasEdge new a b → Path (HasEdge old) a b
  pub all : (a b : ℕ) → Through (HasEdge old) k a b → HasEdge new a b

first_edge : (E F : ℕ → ℕ → Type 0) (a b : ℕ) → ((i j : ℕ) → E i j → F i j) → Through E 0 a b → F a b
first_edge E F a b to (direct _ _ e) = to a b e
first_edge E F a b to (over _ m _ e below p) = absurd (omega arith)

pub closed_none : (old : Rows) → IsSquare old → ClosedBelow 0 old old
closed_none old square = record {
  as_many = refl;
  square = square;
  only = λ a b e. edge a b e;
  all = λ a b p. first_edge (HasEdge old) (HasEdge old) a b (λ i j e. e) p;
}

pub closed_more : (k : ℕ) (old mid new : Rows) → ClosedBelow k old mid → GoThrough k mid new → ClosedBelow (k + 1) old new
closed_more k old mid new h through = record {
  as_many = through.as_many ∙ h.as_many;
  square = through.square;
  only = λ a b e. elim (through.only a b e) [
    | inl own ↦ h.only a b own
    | inr (to, on) ↦ join_paths (HasEdge old) a k b (h.only a k to) (h.only k b on)
  ];
  all = λ a b p. elim (split_at (HasEdge old) k a b p) [
    | inl q ↦ through.kept a b (h.all a b q)
    | inr (to, on) ↦ through.joined a b (h.all a k to) (h.all k b on)
  ];
}

starts_within : (rows : Rows) (a b : ℕ) → IsSquare rows → Path (HasEdge rows) a b → a < length rows
starts_within rows a b square (edge _ _ e) = (edge_within rows a b square e).0
starts_within rows a b square (further _ m _ e p) = (edge_within rows a m square e).0

all_through : (rows : Rows) (k a b : ℕ) → IsSquare rows → length rows ≤ k → Path (HasEdge rows) a b → Through (HasEdge rows) k a b
all_through rows k a b square all (edge _ _ e) = direct a b e
all_through rows k a b square all (further _ m _ e p) =
    over a m b e (omega (arith, starts_within rows m b square p)) (all_through rows k m b square all p)

pub closed_all : (k : ℕ) (old new : Rows) → IsSquare old → length old ≤ k → ClosedBelow k old new → IsClosure old new
closed_all k old new square all h = record {
  as_many = h.as_many;
  square = h.square;
  at = λ a b. (h.only a b, λ p. h.all a b (all_through old k a b square all p));
}
