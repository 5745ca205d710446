-- The edges of rows of marks, before and after marks are set.
use Rattle.std.proofs.Common.{◌≡◌, ℕ, ◌+◌, ◌<◌, ◌≤◌, ◌⊎◌, ◌↔◌, inl, inr, Bool, true, length, set, Some, refl, sym, ◌∙◌, ap, subst, arith, length-set}
use Rattle.std.specs.Prelude.{IsTrue, slice_get}
use Rattle.std.specs.Global.{Vec}
use Rattle.std.specs.Vec.{with_item}
use Rattle.std.proofs.lemmas.Bool.{cases_eq, cases_lt}
use Rattle.std.proofs.lemmas.Option.{same_Some, slice_get_within}
use Rattle.name_rules.specs.Graphs.{GoThrough, GoesAlso, HasEdge, HasOneMore, IsSquare, Rows}
use Rattle.list_lemmas.proofs.ItemsByPlace.{slice_get-set_cases, slice_get-set_other, slice_get-set_same}

pub edge_within : (rows : Rows) (i j : ℕ) → IsSquare rows → HasEdge rows i j → (i < length rows) × (j < length rows)
edge_within rows i j square (row, at, marked) =
    let there : i < length rows = slice_get_within rows i row at in
    let below : j < length row.items = slice_get_within row.items j true marked in
    (there, omega (arith, square i row at))

-- the mark at a place of a row tells whether there is an edge
pub mark_tells : (rows : Rows) (i j : ℕ) (row : Vec Bool) (b : Bool) → slice_get rows i ≡ Some row → slice_get row.items j ≡ Some b
    → IsTrue b ↔ HasEdge rows i j
mark_tells rows i j row b at_row at = (
  λ t. (row, at_row, at ∙ ap (λ (x : Bool). Some x) t),
  λ (other, at_other, marked).
      let same : other ≡ row = same_Some other row (sym at_other ∙ at_row) in
      let here : slice_get row.items j ≡ Some true = subst (λ (r : Vec Bool). slice_get r.items j ≡ Some true) same marked in
      let both : Some b ≡ Some true = sym at ∙ here in
      same_Some b true both,
)

-- ---- One edge more.

module _ (rows : Rows) (i j : ℕ) (row : Vec Bool) (square : IsSquare rows) (at_row : slice_get rows i ≡ Some row) (i_below : i < length rows)
    (j_below : j < length rows) where
  abbrev new_rows : Rows
  new_rows = set rows i (with_item row j true)

  new_square : IsSquare new_rows
  new_square a r at = elim (slice_get-set_cases rows i a (with_item row j true) r at) [
    | inl (e, same) ↦
        let long : length r.items ≡ length (set row.items j true) = ap (λ (v : Vec Bool). length v.items) (sym same) in
        omega (arith, long, length-set row.items j true, square i row at_row, length-set rows i (with_item row j true))
    | inr old ↦ omega (arith, square a r old, length-set rows i (with_item row j true))
  ]

  new_edge : (a b : ℕ) → HasEdge new_rows a b → HasEdge rows a b ⊎ ((a ≡ i) × (b ≡ j))
  new_edge a b (r, at, marked) = elim (slice_get-set_cases rows i a (with_item row j true) r at) [
    | inr old ↦ inl (r, old, marked)
    | inl (e, same) ↦
        let here : slice_get (set row.items j true) b ≡ Some true = subst (λ (v : Vec Bool). slice_get v.items b ≡ Some true) (sym same) marked in
        elim (slice_get-set_cases row.items j b true true here) [
          | inl (f, _) ↦ inr (sym e, sym f)
          | inr before ↦ inl (row, subst (λ (n : ℕ). slice_get rows n ≡ Some row) e at_row, before)
        ]
  ]

  marked_edge : HasEdge new_rows i j
  marked_edge = (
    with_item row j true,
    slice_get-set_same rows i (with_item row j true) i_below,
    slice_get-set_same row.items j true (omega (arith, square i row at_row)),
  )

  mark_kept : (b : ℕ) → slice_get row.items b ≡ Some true → slice_get (set row.items j true) b ≡ Some true
  mark_kept b marked = elim (cases_eq j b) [
    | inl e ↦ subst (λ (n : ℕ). slice_get (set row.items j true) n ≡ Some true) e (slice_get-set_same row.items j true (omega (arith, square i row at_row)))
    | inr ne ↦ slice_get-set_other row.items j b true ne ∙ marked
  ]

  old_edge : (a b : ℕ) → HasEdge rows a b → HasEdge new_rows a b
  old_edge a b (r, at, marked) = elim (cases_eq i a) [
    | inr ne ↦ (r, slice_get-set_other rows i a (with_item row j true) ne ∙ at, marked)
    | inl e ↦
        let same : r ≡ row = same_Some r row (sym at ∙ subst (λ (n : ℕ). slice_get rows n ≡ Some row) e at_row) in
        let here : slice_get row.items b ≡ Some true = subst (λ (v : Vec Bool). slice_get v.items b ≡ Some true) same marked in (
          with_item row j true,
          subst (λ (n : ℕ). slice_get new_rows n ≡ Some (with_item row j true)) e (slice_get-set_same rows i (with_item row j true) i_below),
          mark_kept b here,
        )
  ]

  pub one_more : HasOneMore i j rows new_rows
  one_more = record {
    as_many = length-set rows i (with_item row j true);
    square = new_square;
    at = λ a b. (
      new_edge a b,
      λ h. elim h [
        | inl old ↦ old_edge a b old
        | inr (e, f) ↦ subst (λ (n : ℕ). HasEdge new_rows n b) (sym e) (subst (λ (n : ℕ). HasEdge new_rows i n) (sym f) marked_edge)
      ],
    );
  }

-- ---- One place goes also to where another one goes.

pub record AlsoBefore (to from place : ℕ) (old new : Rows) : Type 0 where
  pub as_many : length new ≡ length old
  pub square : IsSquare new
  pub at : (a b : ℕ) → HasEdge new a b ↔ (HasEdge old a b ⊎ ((a ≡ to) × (b < place) × HasEdge old from b))

pub also_none : (to from : ℕ) (old : Rows) → IsSquare old → AlsoBefore to from 0 old old
also_none to from old square = record {
  as_many = refl;
  square = square;
  at = λ a b. (λ h. inl h, λ h. elim h [ inl own ↦ own | inr (e, below, other) ↦ absurd (omega arith) ]);
}

-- an edge from the other place is still what it was
from_old : (to from place : ℕ) (old new : Rows) → AlsoBefore to from place old new → (b : ℕ) → HasEdge new from b ↔ HasEdge old from b
from_old to from place old new h b = (
  λ e. elim ((h.at from b).0 e) [ inl own ↦ own | inr (same, below, other) ↦ other ],
  λ e. (h.at from b).1 (inl e),
)

pub also_with : (to from place : ℕ) (old mid new : Rows) → AlsoBefore to from place old mid → HasEdge mid from place → HasOneMore to place mid new
    → AlsoBefore to from (place + 1) old new
also_with to from place old mid new h edge more = record {
  as_many = more.as_many ∙ h.as_many;
  square = more.square;
  at = λ a b. (
    λ e. elim ((more.at a b).0 e) [
      | inl own ↦ elim ((h.at a b).0 own) [
        | inl first ↦ inl first
        | inr (same, below, other) ↦ inr (same, omega arith, other)
      ]
      | inr (same, here) ↦
          inr (same, omega arith, subst (λ (n : ℕ). HasEdge old from n) (sym here) ((from_old to from place old mid h place).0 edge))
    ],
    λ e. elim e [
      | inl first ↦ (more.at a b).1 (inl ((h.at a b).1 (inl first)))
      | inr (same, below, other) ↦ elim (cases_lt b place) [
        | inl less ↦ (more.at a b).1 (inl ((h.at a b).1 (inr (same, less, other))))
        | inr least ↦ let here : b ≡ place = omega arith in (more.at a b).1 (inr (same, here))
      ]
    ],
  );
}

pub also_without : (to from place : ℕ) (old mid : Rows) → AlsoBefore to from place old mid → (HasEdge mid from place → ⊥)
    → AlsoBefore to from (place + 1) old mid
also_without to from place old mid h none = record {
  as_many = h.as_many;
  square = h.square;
  at = λ a b. (
    λ e. elim ((h.at a b).0 e) [
      | inl first ↦ inl first
      | inr (same, below, other) ↦ inr (same, omega arith, other)
    ],
    λ e. elim e [
      | inl first ↦ (h.at a b).1 (inl first)
      | inr (same, below, other) ↦ elim (cases_lt b place) [
        | inl less ↦ (h.at a b).1 (inr (same, less, other))
        | inr least ↦
            let here : b ≡ place = omega arith in
            absurd (none ((from_old to from place old mid h place).1 (subst (λ (n : ℕ). HasEdge old from n) here other)))
      ]
    ],
  );
}

pub also_all : (to from place : ℕ) (old new : Rows) → IsSquare old → length old ≤ place → AlsoBefore to from place old new → GoesAlso to from old new
also_all to from place old new square all h = record {
  as_many = h.as_many;
  square = h.square;
  at = λ a b. (
    λ e. elim ((h.at a b).0 e) [ inl own ↦ inl own | inr (same, below, other) ↦ inr (same, other) ],
    λ e. elim e [
      | inl own ↦ (h.at a b).1 (inl own)
      | inr (same, other) ↦ let within = edge_within old from b square other in (h.at a b).1 (inr (same, omega arith, other))
    ],
  );
}

-- ---- Each place that goes to one goes also to where that goes.

pub record ThroughBefore (k place : ℕ) (old new : Rows) : Type 0 where
  pub as_many : length new ≡ length old
  pub square : IsSquare new
  pub kept : (a b : ℕ) → HasEdge old a b → HasEdge new a b
  pub joined : (a b : ℕ) → a < place → HasEdge old a k → HasEdge old k b → HasEdge new a b
  pub only : (a b : ℕ) → HasEdge new a b → HasEdge old a b ⊎ (HasEdge old a k × HasEdge old k b)

pub through_none : (k : ℕ) (old : Rows) → IsSquare old → ThroughBefore k 0 old old
through_none k old square = record {
  as_many = refl;
  square = square;
  kept = λ a b e. e;
  joined = λ a b below. absurd (omega arith);
  only = λ a b e. inl e;
}

to_old : (k place : ℕ) (old new : Rows) → ThroughBefore k place old new → (a : ℕ) → HasEdge new a k → HasEdge old a k
to_old k place old new h a e = elim (h.only a k e) [ inl own ↦ own | inr (to, on) ↦ to ]

on_old : (k place : ℕ) (old new : Rows) → ThroughBefore k place old new → (b : ℕ) → HasEdge new k b → HasEdge old k b
on_old k place old new h b e = elim (h.only k b e) [ inl own ↦ own | inr (to, on) ↦ on ]

pub through_with : (k place : ℕ) (old mid new : Rows) → ThroughBefore k place old mid → HasEdge mid place k → GoesAlso place k mid new
    → ThroughBefore k (place + 1) old new
through_with k place old mid new h edge also = record {
  as_many = also.as_many ∙ h.as_many;
  square = also.square;
  kept = λ a b e. (also.at a b).1 (inl (h.kept a b e));
  joined = λ a b below to on. elim (cases_lt a place) [
    | inl less ↦ (also.at a b).1 (inl (h.joined a b less to on))
    | inr least ↦ let here : a ≡ place = omega arith in (also.at a b).1 (inr (here, h.kept k b on))
  ];
  only = λ a b e. elim ((also.at a b).0 e) [
    | inl own ↦ h.only a b own
    | inr (same, other) ↦
        inr (subst (λ (n : ℕ). HasEdge old n k) (sym same) (to_old k place old mid h place edge), on_old k place old mid h b other)
  ];
}

pub through_without : (k place : ℕ) (old mid : Rows) → ThroughBefore k place old mid → (HasEdge mid place k → ⊥) → ThroughBefore k (place + 1) old mid
through_without k place old mid h none = record {
  as_many = h.as_many;
  square = h.square;
  kept = h.kept;
  joined = λ a b below to on. elim (cases_lt a place) [
    | inl less ↦ h.joined a b less to on
    | inr least ↦
        let here : a ≡ place = omega arith in
        absurd (none (h.kept place k (subst (λ (n : ℕ). HasEdge old n k) here to)))
  ];
  only = h.only;
}

pub through_all : (k place : ℕ) (old new : Rows) → IsSquare old → length old ≤ place → ThroughBefore k place old new → GoThrough k old new
through_all k place old new square all h = record {
  as_many = h.as_many;
  square = h.square;
  kept = h.kept;
  joined = λ a b to on. let within = edge_within old a k square to in h.joined a b (omega arith) to on;
  only = h.only;
}
