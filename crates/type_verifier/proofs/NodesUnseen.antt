-- Nodes that have seen nothing, row by row, and what a node has that saw nothing before.
use Rattle.std.proofs.Common.{◌≡◌, ℕ, ◌+◌, Bool, List, [], ◌∷◌, ◌++◌, length, Option, Some, None, slice_get, sym, ap, subst, ◌∙◌, inl, inr, arith, length-append}
use Rattle.std.proofs.lemmas.Option.{same_Some, slice_get_cases}
use Rattle.jk_model_classes.specs.declared.records.ClassRecord.{ClassRecord}
use Rattle.jk_model_typing.specs.declared.frames.VType.{VType}
use Rattle.jk_model_typing.specs.declared.frames.FrameType.{FrameType}
use Rattle.list_lemmas.proofs.ItemsByPlace.{slice_get-push_cases}
use Rattle.type_frames.proofs.OrderOfFrames.{EachFits-refl}
use Rattle.type_verifier.specs.declared.covers.Seen.{Seen}
use Rattle.type_verifier.specs.declared.tasks.Task.{Task}
use Rattle.type_verifier.specs.Climbs.{AllUnseen, UnseenTo}
use Rattle.type_verifier.specs.Covers.{Nodes, NodeAt, AreCovers}
use Rattle.type_verifier.specs.Rises.{IsNodeRise}

pub AllUnseen-push : (width : ℕ) (row : List (Option Seen)) → AllUnseen width row → AllUnseen (width + 1) (row ++ None ∷ [])
AllUnseen-push width row (count, none) = (
  omega (arith, length-append row (None ∷ [])),
  λ node c e.
      elim (slice_get-push_cases row None (Some c) node e) [
        | inl before ↦ none node c before.1
        | inr last ↦ let clash : ◌≡◌ {A = Option Seen} None (Some c) = last.1 in absurd cc
      ],
)

pub UnseenTo-push : (tree : List (List (List ℕ))) (nodes : Nodes) (level : ℕ) (entries : List (List ℕ)) (row : List (Option Seen))
    → UnseenTo tree nodes level → slice_get tree level ≡ Some entries → AllUnseen (length entries) row
    → UnseenTo tree (nodes ++ row ∷ []) (level + 1)
UnseenTo-push tree nodes level entries row before at none = record {
  count = omega (arith, length-append nodes (row ∷ []), before.count);
  rows = λ l r e. elim (slice_get-push_cases nodes row r l e) [
    | inl old ↦ before.rows l r old.1
    | inr last ↦
        let same : l ≡ level = last.0 ∙ before.count in
        (entries, ap (slice_get tree) same ∙ at, subst (λ (y : List (Option Seen)). AllUnseen (length entries) y) last.1 none)
  ];
}

-- none has seen anything
NodeAt-unseen : (tree : List (List (List ℕ))) (nodes : Nodes) (level : ℕ) → UnseenTo tree nodes level
    → (l n : ℕ) (c : Seen) → NodeAt nodes l n c → ⊥
NodeAt-unseen tree nodes level none l n c at = elim (slice_get_cases nodes l).1 [
  | inl (row, within, is, same) ↦ let at_row : slice_get row n ≡ Some (Some c) = rw is at at in (none.rows l row is).2.1 n c at_row
  | inr (past, is) ↦ let clash : ◌≡◌ {A = Option (Option Seen)} None (Some (Some c)) = rw is at at in absurd cc
]

pub AreCovers-unseen : (task : Task) (frames : List (Option FrameType)) (nodes : Nodes) → UnseenTo task.tree nodes (length task.tree)
    → AreCovers task frames nodes
AreCovers-unseen task frames nodes none =
    let never = NodeAt-unseen task.tree nodes (length task.tree) none in
    record {
      levels = none.count;
      wide = λ level row entries at at_tree.
          let (known, is, all) = none.rows level row at in
          all.0 ∙ ap length (same_Some known entries (sym is ∙ at_tree));
      sized = λ level node c at. absurd (never level node c at);
      up = λ level node c at more. absurd (never level node c at);
      handed = λ level node x c h at here is. absurd (never level node c at);
      below = λ typing level node c h types at here covers. absurd (never level node c at);
    }

-- what a node has that saw nothing before
pub first-rise : (classes : List ClassRecord) (old : Option Seen) (locals : List VType) (fresh : Bool) (now : Seen) (new : Option Seen)
    → ((c : Seen) → old ≡ Some c → ⊥) → now.locals ≡ locals → now.fresh ≡ fresh → new ≡ Some now
    → IsNodeRise classes old locals fresh new
first-rise classes old locals fresh now new none same flag is = record {
  now = now;
  is = is;
  right = rw (same, flag) (EachFits-refl classes locals, λ h. h);
  left = λ c e. absurd (none c e);
  least = λ d fits had. rw (same, flag) fits;
}
