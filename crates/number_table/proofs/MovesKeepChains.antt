-- When a node moves from the top of a stack to the top of another, the nodes and the stacks fit each other as before, and
-- the other nodes stay where they are.
use Rattle.std.proofs.Common.{◌≡◌, ◌≢◌, ℕ, ◌+◌, ◌-◌, ◌<◌, ◌≤◌, List, length, set, refl, sym, ap, subst, arith, inl, inr, ◌∙◌}
use Rattle.std.proofs.lemmas.Bool.{cases_eq}
use Rattle.std.proofs.lemmas.List.{get_or-set_same, get_or-set_other, length-set}
use Rattle.number_table.specs.declared.chains.Node.{Node}
use Rattle.number_table.specs.declared.chains.Stack.{Stack}
use Rattle.number_table.specs.Chains.{no_node, no_stack, node_at, stack_at, count_of, place_of, sum_below, IsChains, JumpsFrom}
use Rattle.number_table.proofs.NodeOfAKey.{IsNodeOf, AreApart, place_of-found, place_of-le, place_of-at}
use Rattle.number_table.proofs.SumsBelow.{sum_below-moves, le_sum_below}
use Rattle.number_table.specs.declared.chains.Chains.{Chains}
use Rattle.number_table.specs.ChainMoves.{MovesTop}

-- The node m, the top one of a stack, is put on another.
pub record IsMoved (nodes new_nodes : List Node) (stacks new_stacks : List Stack) (from to m jump : ℕ) : Type 0 where
  pub old : IsChains nodes stacks
  pub from_there : from < length stacks
  pub to_there : to < length stacks
  pub differ : from ≢ to
  pub some : 0 < count_of stacks from
  pub is_top : m ≡ (stack_at stacks from).top
  pub jumps : JumpsFrom nodes (stack_at stacks to) m jump
  pub size : length new_nodes ≡ length nodes
  pub stacks_size : length new_stacks ≡ length stacks
  pub less : stack_at new_stacks from ≡ record { count = count_of stacks from - 1; top = (node_at nodes m).below }
  pub more : stack_at new_stacks to ≡ record { count = count_of stacks to + 1; top = m }
  pub other_stacks : (i : ℕ) → i ≢ from → i ≢ to → stack_at new_stacks i ≡ stack_at stacks i
  pub moved : node_at new_nodes m ≡ record { stack = to; position = count_of stacks to; below = (stack_at stacks to).top; jump = jump }
  pub other_nodes : (b : ℕ) → b ≢ m → node_at new_nodes b ≡ node_at nodes b

module _ (nodes new_nodes : List Node) (stacks new_stacks : List Stack) (from to m jump : ℕ)
    (h : IsMoved nodes new_nodes stacks new_stacks from to m jump) where
  -- where the moved node was
  was : (m < length nodes) × ((node_at nodes m).stack ≡ from) × ((node_at nodes m).position + 1 ≡ count_of stacks from)
  was =
      let t = h.old.top from h.from_there h.some in
      let P : ℕ → Type 0 = λ b. (b < length nodes) × ((node_at nodes b).stack ≡ from) × ((node_at nodes b).position + 1 ≡ count_of stacks from) in
      subst P (sym h.is_top) t

  less_count : count_of new_stacks from ≡ count_of stacks from - 1
  less_count = ap (λ (s : Stack). s.count) h.less

  more_count : count_of new_stacks to ≡ count_of stacks to + 1
  more_count = ap (λ (s : Stack). s.count) h.more

  other_count : (i : ℕ) → i ≢ from → i ≢ to → count_of new_stacks i ≡ count_of stacks i
  other_count i a b = ap (λ (s : Stack). s.count) (h.other_stacks i a b)

  -- a node on another stack isn't the moved one
  other_than : (b : ℕ) → (node_at nodes b).stack ≢ from → b ≢ m
  other_than b ne e = ne (ap (λ k. (node_at nodes k).stack) e ∙ was.1)

  -- a node at another position isn't the moved one
  other_position : (b : ℕ) → (node_at nodes b).position + 1 ≢ count_of stacks from → b ≢ m
  other_position b ne e = ne (ap (λ k. (node_at nodes k).position + 1) e ∙ was.2)

  -- no node has the moved one below it
  below_other : (b : ℕ) → b < length nodes → 0 < (node_at nodes b).position → (node_at nodes b).below ≢ m
  below_other b lt some e =
      let x = h.old.below b lt some in
      let w = h.old.within b lt in
      let stack : (node_at nodes b).stack ≡ from = sym x.1 ∙ ap (λ k. (node_at nodes k).stack) e ∙ was.1 in
      let count : count_of stacks (node_at nodes b).stack ≡ count_of stacks from = ap (count_of stacks) stack in
      let at : (node_at nodes (node_at nodes b).below).position ≡ (node_at nodes m).position = ap (λ k. (node_at nodes k).position) e in
      omega (arith, x.2, w.1, was.2)

  -- no other node has the moved one as one further below
  jump_other : (b : ℕ) → b < length nodes → b ≢ m → (node_at nodes b).jump ≢ m
  jump_other b lt ne e =
      let x = h.old.jump b lt in
      let w = h.old.within b lt in
      let stack : (node_at nodes b).stack ≡ from = sym x.1 ∙ ap (λ k. (node_at nodes k).stack) e ∙ was.1 in
      let count : count_of stacks (node_at nodes b).stack ≡ count_of stacks from = ap (count_of stacks) stack in
      let at : (node_at nodes (node_at nodes b).jump).position ≡ (node_at nodes m).position = ap (λ k. (node_at nodes k).position) e in
      ne (h.old.apart b m lt was.0 (stack ∙ sym was.1) (omega (arith, x.2, w.1, was.2)))

  node_of : (b i p : ℕ) → b ≢ m → IsNodeOf nodes b i p → IsNodeOf new_nodes b i p
  node_of b i p ne k =
      record {
        within = rw (h.size) k.within;
        stack = ap (λ (x : Node). x.stack) (h.other_nodes b ne) ∙ k.stack;
        position = ap (λ (x : Node). x.position) (h.other_nodes b ne) ∙ k.position;
      }

  moved_is : IsNodeOf new_nodes m to (count_of stacks to)
  moved_is =
      record {
        within = rw (h.size) (was.0);
        stack = ap (λ (x : Node). x.stack) h.moved;
        position = ap (λ (x : Node). x.position) h.moved;
      }

  abbrev IsTop : ℕ → ℕ → ℕ → Type 0
  IsTop i b n = (b < length new_nodes) × ((node_at new_nodes b).stack ≡ i) × ((node_at new_nodes b).position + 1 ≡ n)

  top_from_key : (i b n : ℕ) (p : ℕ) → IsNodeOf new_nodes b i p → p + 1 ≡ n → IsTop i b n
  top_from_key i b n p k e = (k.within, k.stack, ap (λ q. q + 1) k.position ∙ e)

  top_new : (i : ℕ) → i < length new_stacks → 0 < count_of new_stacks i → IsTop i (stack_at new_stacks i).top (count_of new_stacks i)
  top_new i lt some =
      elim (cases_eq i to) [
        | inl e ↦
            let P : ℕ → Type 0 = λ j. IsTop j (stack_at new_stacks j).top (count_of new_stacks j) in
            subst P (sym e)
            (let top : (stack_at new_stacks to).top ≡ m = ap (λ (s : Stack). s.top) h.more in
            rw (top) (top_from_key to m (count_of new_stacks to) (count_of stacks to) moved_is (sym more_count)))
        | inr ne ↦
            elim (cases_eq i from) [
              | inl e ↦
                  let P : ℕ → Type 0 = λ j. IsTop j (stack_at new_stacks j).top (count_of new_stacks j) in
                  subst P (sym e)
                  (let top : (stack_at new_stacks from).top ≡ (node_at nodes m).below = ap (λ (s : Stack). s.top) h.less in
                  let count : count_of new_stacks i ≡ count_of new_stacks from = ap (count_of new_stacks) e in
                  let x = h.old.below m (was.0) (omega (arith, was.2, less_count)) in
                  rw (top)
                  (top_from_key from (node_at nodes m).below (count_of new_stacks from) (node_at nodes (node_at nodes m).below).position
                  (node_of (node_at nodes m).below from (node_at nodes (node_at nodes m).below).position
                  (other_position (node_at nodes m).below (omega (arith, x.2, was.2)))
                  (record { within = x.0; stack = x.1 ∙ was.1; position = refl }))
                  (omega (arith, x.2, was.2, less_count))))
              | inr d ↦
                  let same : stack_at new_stacks i ≡ stack_at stacks i = h.other_stacks i d ne in
                  let t = h.old.top i (omega (arith, h.stacks_size)) (omega (arith, other_count i d ne)) in
                  let top : (stack_at new_stacks i).top ≡ (stack_at stacks i).top = ap (λ (s : Stack). s.top) same in
                  rw (top)
                  (top_from_key i (stack_at stacks i).top (count_of new_stacks i) (node_at nodes (stack_at stacks i).top).position
                  (node_of (stack_at stacks i).top i (node_at nodes (stack_at stacks i).top).position
                  (other_than (stack_at stacks i).top (λ e. d (sym (t.1) ∙ e)))
                  (record { within = t.0; stack = t.1; position = refl }))
                  (t.2 ∙ sym (other_count i d ne)))
            ]
      ]

  abbrev IsWithin : Node → Type 0
  IsWithin x = (x.stack < length new_stacks) × (x.position < count_of new_stacks x.stack)

  within_new : (b : ℕ) → b < length new_nodes → IsWithin (node_at new_nodes b)
  within_new b lt =
      elim (cases_eq b m) [
        | inl e ↦
            let P : ℕ → Type 0 = λ k. IsWithin (node_at new_nodes k) in
            subst P (sym e) (rw (h.moved) (omega (arith, h.stacks_size, h.to_there), omega (arith, more_count)))
        | inr ne ↦
            let x = node_at nodes b in
            let old_lt : b < length nodes = omega (arith, h.size) in
            let w = h.old.within b old_lt in
            rw (h.other_nodes b ne) (
              omega (arith, h.stacks_size, w.0),
              elim (cases_eq x.stack to) [
                | inl e ↦
                    let a : count_of new_stacks x.stack ≡ count_of new_stacks to = ap (count_of new_stacks) e in
                    let c : count_of stacks x.stack ≡ count_of stacks to = ap (count_of stacks) e in
                    omega (arith, w.1, more_count)
                | inr d ↦
                    elim (cases_eq x.stack from) [
                      | inl e ↦
                          let a : count_of new_stacks x.stack ≡ count_of new_stacks from = ap (count_of new_stacks) e in
                          let c : count_of stacks x.stack ≡ count_of stacks from = ap (count_of stacks) e in
                          elim (cases_eq (x.position + 1) (count_of stacks from)) [
                            | inl at ↦ absurd (ne (h.old.apart b m old_lt (was.0) (e ∙ sym (was.1)) (omega (arith, was.2))))
                            | inr low ↦ omega (arith, w.1, less_count)
                          ]
                      | inr f ↦ omega (arith, w.1, other_count x.stack f d)
                    ]
              ],
            )
      ]

  abbrev IsLinked : Node → Type 0
  IsLinked x =
      (x.below < length new_nodes) × ((node_at new_nodes x.below).stack ≡ x.stack)
      × ((node_at new_nodes x.below).position + 1 ≡ x.position)

  below_new : (b : ℕ) → b < length new_nodes → 0 < (node_at new_nodes b).position → IsLinked (node_at new_nodes b)
  below_new b lt =
      elim (cases_eq b m) [
        | inl e ↦
            let P : ℕ → Type 0 = λ k. 0 < (node_at new_nodes k).position → IsLinked (node_at new_nodes k) in
            subst P (sym e)
            (rw (h.moved) (λ some.
            let t = h.old.top to h.to_there some in
            let u = (stack_at stacks to).top in
            let same : node_at new_nodes u ≡ node_at nodes u = h.other_nodes u (other_than u (λ e2. h.differ (sym e2 ∙ t.1))) in
            rw (same) (omega (arith, t.0, h.size), t.1, t.2)))
        | inr ne ↦
            rw (h.other_nodes b ne) (λ some.
            let old_lt : b < length nodes = omega (arith, h.size) in
            let x = h.old.below b old_lt some in
            let u = (node_at nodes b).below in
            let same : node_at new_nodes u ≡ node_at nodes u = h.other_nodes u (below_other b old_lt some) in
            rw (same) (omega (arith, x.0, h.size), x.1, x.2))
      ]

  abbrev JumpsBelow : Node → Type 0
  JumpsBelow x = let y = node_at new_nodes x.jump in
      (x.jump < length new_nodes) × (y.stack ≡ x.stack) × (y.position ≤ x.position) × (0 < x.position → y.position < x.position)

  -- a node of the stack on which the moved one is put
  record IsUnder (b : ℕ) : Type 0 where
    within : b < length nodes
    stack : (node_at nodes b).stack ≡ to
    low : (node_at nodes b).position < count_of stacks to

  jump_to : (b : ℕ) → IsUnder b → b ≡ jump → JumpsBelow (node_at new_nodes m)
  jump_to b u e =
      let same : node_at new_nodes b ≡ node_at nodes b = h.other_nodes b (other_than b (λ e2. h.differ (sym e2 ∙ u.stack))) in
      rw (h.moved)
      (let P : ℕ → Type 0 = λ k. let y = node_at new_nodes k in
      (k < length new_nodes) × (y.stack ≡ to) × (y.position ≤ count_of stacks to) × (0 < count_of stacks to → y.position < count_of stacks to) in
      subst P e (rw (same) (omega (arith, u.within, h.size), u.stack, omega (arith, u.low), λ _. u.low)))

  jump_moved : JumpsBelow (node_at new_nodes m)
  jump_moved =
      elim (cases_eq (count_of stacks to) 0) [
        | inl none ↦
            rw (h.moved)
            (let e : m ≡ jump = sym (h.jumps.0 none) in
            let P : ℕ → Type 0 = λ k. let y = node_at new_nodes k in
            (k < length new_nodes) × (y.stack ≡ to) × (y.position ≤ count_of stacks to) × (0 < count_of stacks to → y.position < count_of stacks to) in
            subst P e (rw (h.moved) (omega (arith, was.0, h.size), refl, omega arith, λ some. absurd (omega arith))))
        | inr ne ↦
            let some : 0 < count_of stacks to = omega arith in
            let t = h.old.top to h.to_there some in
            let near = (stack_at stacks to).top in
            let far = (node_at nodes near).jump in
            let one : IsUnder near = record { within = t.0; stack = t.1; low = omega (arith, t.2) } in
            elim (h.jumps.1 some) [
              | inl e ↦ jump_to near one (sym e)
              | inr e ↦
                  let a = h.old.jump near (t.0) in
                  let b = h.old.jump far (a.0) in
                  jump_to (node_at nodes far).jump
                  (record { within = b.0; stack = b.1 ∙ a.1 ∙ t.1; low = omega (arith, b.2, a.2, one.low) })
                  (sym e)
            ]
      ]

  jump_new : (b : ℕ) → b < length new_nodes → JumpsBelow (node_at new_nodes b)
  jump_new b lt =
      elim (cases_eq b m) [
        | inl e ↦ let P : ℕ → Type 0 = λ k. JumpsBelow (node_at new_nodes k) in subst P (sym e) jump_moved
        | inr ne ↦
            let old_lt : b < length nodes = omega (arith, h.size) in
            let x = h.old.jump b old_lt in
            let u = (node_at nodes b).jump in
            let same : node_at new_nodes u ≡ node_at nodes u = h.other_nodes u (jump_other b old_lt ne) in
            rw (h.other_nodes b ne, same) (omega (arith, x.0, h.size), x.1, x.2, x.3)
      ]

  -- no node was where the moved one is put
  free_before : (c : ℕ) → c < length new_nodes → c ≢ m → (node_at new_nodes c).stack ≡ to → (node_at new_nodes c).position ≡ count_of stacks to → ⊥
  free_before c lt ne s p =
      let w = h.old.within c (omega (arith, h.size)) in
      let stack : (node_at nodes c).stack ≡ to = ap (λ (x : Node). x.stack) (sym (h.other_nodes c ne)) ∙ s in
      let position : (node_at nodes c).position ≡ count_of stacks to = ap (λ (x : Node). x.position) (sym (h.other_nodes c ne)) ∙ p in
      let count : count_of stacks (node_at nodes c).stack ≡ count_of stacks to = ap (count_of stacks) stack in
      omega (arith, w.1)

  apart_new : AreApart new_nodes
  apart_new b c b_lt c_lt s p =
      elim (cases_eq b m) [
        | inl e ↦
            elim (cases_eq c m) [
              | inl e2 ↦ e ∙ sym e2
              | inr ne ↦
                  absurd (free_before c c_lt ne
                  (sym s ∙ ap (λ k. (node_at new_nodes k).stack) e ∙ moved_is.stack)
                  (sym p ∙ ap (λ k. (node_at new_nodes k).position) e ∙ moved_is.position))
            ]
        | inr ne ↦
            elim (cases_eq c m) [
              | inl e ↦
                  absurd (free_before b b_lt ne
                  (s ∙ ap (λ k. (node_at new_nodes k).stack) e ∙ moved_is.stack)
                  (p ∙ ap (λ k. (node_at new_nodes k).position) e ∙ moved_is.position))
              | inr ne2 ↦
                  h.old.apart b c (omega (arith, h.size)) (omega (arith, h.size))
                  (ap (λ (x : Node). x.stack) (sym (h.other_nodes b ne)) ∙ s ∙ ap (λ (x : Node). x.stack) (h.other_nodes c ne2))
                  (ap (λ (x : Node). x.position) (sym (h.other_nodes b ne)) ∙ p ∙ ap (λ (x : Node). x.position) (h.other_nodes c ne2))
            ]
      ]

  -- the nodes at positions that both have
  pub stays : (i p : ℕ) → i < length stacks → p < count_of stacks i → p < count_of new_stacks i → IsNodeOf new_nodes (place_of nodes i p) i p
  stays i p lt a b =
      let k = place_of-found nodes i p (h.old.there i p lt a) in
      node_of (place_of nodes i p) i p
      (λ e.
      let stack : i ≡ from = sym k.stack ∙ ap (λ c. (node_at nodes c).stack) e ∙ was.1 in
      let position : p ≡ (node_at nodes m).position = sym k.position ∙ ap (λ c. (node_at nodes c).position) e in
      let count : count_of new_stacks i ≡ count_of new_stacks from = ap (count_of new_stacks) stack in
      omega (arith, was.2, less_count))
      k

  pub same_place : (i p : ℕ) → i < length stacks → p < count_of stacks i → p < count_of new_stacks i → place_of new_nodes i p ≡ place_of nodes i p
  same_place i p lt a b = place_of-at new_nodes (place_of nodes i p) i p apart_new (stays i p lt a b)

  pub lands_at : place_of new_nodes to (count_of stacks to) ≡ m
  lands_at = place_of-at new_nodes m to (count_of stacks to) apart_new moved_is

  there_new : (i p : ℕ) → i < length new_stacks → p < count_of new_stacks i → place_of new_nodes i p < length new_nodes
  there_new i p lt a =
      elim (cases_eq i to) [
        | inl e ↦
            elim (cases_eq p (count_of stacks to)) [
              | inl f ↦
                  let k : place_of new_nodes i p ≡ m = ap (λ j. place_of new_nodes j p) e ∙ ap (place_of new_nodes to) f ∙ lands_at in
                  omega (arith, was.0, h.size)
              | inr d ↦
                  let c : count_of new_stacks i ≡ count_of new_stacks to = ap (count_of new_stacks) e in
                  let o : count_of stacks i ≡ count_of stacks to = ap (count_of stacks) e in
                  let i_lt : i < length stacks = omega (arith, h.stacks_size) in
                  let s = stays i p i_lt (omega (arith, more_count)) a in
                  omega (arith, place_of-le new_nodes (place_of nodes i p) i p s, s.within)
            ]
        | inr d ↦
            let i_lt : i < length stacks = omega (arith, h.stacks_size) in
            let less : count_of new_stacks i ≤ count_of stacks i =
            elim (cases_eq i from) [
              | inl e ↦
                  let c : count_of new_stacks i ≡ count_of new_stacks from = ap (count_of new_stacks) e in
                  let o : count_of stacks i ≡ count_of stacks from = ap (count_of stacks) e in
                  omega (arith, less_count)
              | inr f ↦ omega (arith, other_count i f d)
            ] in
            let s = stays i p i_lt (omega arith) a in
            omega (arith, place_of-le new_nodes (place_of nodes i p) i p s, s.within)
      ]

  total_new : sum_below (count_of new_stacks) (length new_stacks) ≡ length new_nodes
  total_new =
      ap (sum_below (count_of new_stacks)) h.stacks_size
      ∙ sum_below-moves (count_of stacks) (count_of new_stacks) from to (length stacks) h.from_there h.to_there h.differ
      (omega (arith, less_count, h.some)) more_count (λ k _ a b. other_count k a b)
      ∙ h.old.total ∙ sym h.size

  pub chains_new : IsChains new_nodes new_stacks
  chains_new =
      record {
        few = rw (h.size) h.old.few;
        few_stacks = rw (h.stacks_size) h.old.few_stacks;
        top = top_new;
        within = within_new;
        below = below_new;
        jump = jump_new;
        apart = apart_new;
        there = there_new;
        total = total_new;
      }

-- ---- What the code does.

pub count_le : (nodes : List Node) (stacks : List Stack) (i : ℕ) → IsChains nodes stacks → i < length stacks → count_of stacks i ≤ length nodes
count_le nodes stacks i h lt = omega (arith, le_sum_below (count_of stacks) i (length stacks) lt, h.total)

pub move_is : (nodes : List Node) (stacks : List Stack) (from to jump : ℕ) (taken under : Stack) (low : Node) → IsChains nodes stacks
    → from < length stacks → to < length stacks → from ≢ to → 0 < count_of stacks from
    → taken ≡ stack_at stacks from → under ≡ stack_at stacks to → low ≡ node_at nodes taken.top → JumpsFrom nodes under taken.top jump
    → IsMoved nodes (set nodes taken.top (record { stack = to; position = under.count; below = under.top; jump = jump })) stacks
    (set (set stacks from (record { count = taken.count - 1; top = low.below })) to (record { count = under.count + 1; top = taken.top }))
    from to taken.top jump
move_is nodes stacks from to jump taken under low h from_lt to_lt ne some t u l jumps =
    let less : Stack = record { count = taken.count - 1; top = low.below } in
    let more : Stack = record { count = under.count + 1; top = taken.top } in
    let put : Node = record { stack = to; position = under.count; below = under.top; jump = jump } in
    let top = h.top from from_lt some in
    let top_lt : taken.top < length nodes = omega (arith, top.0, ap (λ (s : Stack). s.top) t) in
    let to_in : to < length (set stacks from less) = omega (arith, length-set stacks from less) in
    let count_t : taken.count ≡ count_of stacks from = ap (λ (s : Stack). s.count) t in
    let count_u : under.count ≡ count_of stacks to = ap (λ (s : Stack). s.count) u in
    record {
      old = h;
      from_there = from_lt;
      to_there = to_lt;
      differ = ne;
      some = some;
      is_top = ap (λ (s : Stack). s.top) t;
      jumps = rw (← u) jumps;
      size = length-set nodes taken.top put;
      stacks_size = length-set (set stacks from less) to more ∙ length-set stacks from less;
      less =
          get_or-set_other (set stacks from less) to from more no_stack ne
          ∙ get_or-set_same stacks from less no_stack from_lt
          ∙ ap (λ n. let s : Stack = record { count = n - 1; top = low.below } in s) count_t
          ∙ ap (λ (x : Node). let s : Stack = record { count = count_of stacks from - 1; top = x.below } in s) l;
      more =
          get_or-set_same (set stacks from less) to more no_stack to_in
          ∙ ap (λ n. let s : Stack = record { count = n + 1; top = taken.top } in s) count_u;
      other_stacks =
          λ i a b. get_or-set_other (set stacks from less) to i more no_stack b ∙ get_or-set_other stacks from i less no_stack a;
      moved =
          get_or-set_same nodes taken.top put no_node top_lt
          ∙ ap (λ (s : Stack). let x : Node = record { stack = to; position = s.count; below = s.top; jump = jump } in x) u;
      other_nodes = λ b ne2. get_or-set_other nodes taken.top b put no_node ne2;
    }

pub moves : (old new : Chains) (from to b jump : ℕ) → IsMoved old.nodes.items new.nodes.items old.stacks.items new.stacks.items from to b jump
    → MovesTop old new from to b
moves old new from to b jump h =
    let o = old.nodes.items in
    let n = new.nodes.items in
    let s = old.stacks.items in
    let t = new.stacks.items in
    let w = was o n s t from to b jump h in
    record {
      same_nodes = h.size;
      same_stacks = h.stacks_size;
      was_top =
          sym (place_of-at o b from (count_of s from - 1) h.old.apart (record { within = w.0; stack = w.1; position = omega (arith, w.2) }));
      from_count = omega (arith, less_count o n s t from to b jump h, h.some);
      to_count = more_count o n s t from to b jump h;
      other_counts = other_count o n s t from to b jump h;
      lands = lands_at o n s t from to b jump h;
      others = same_place o n s t from to b jump h;
    }
