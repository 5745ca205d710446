-- The cursor stays right when a domain is entered or goes, and is right at a segment that begins.
use Rattle.std.proofs.Common.{◌≡◌, ◌≢◌, ◌++◌, ◌∷◌, [], ℕ, zero, suc, List, Some, None, cond, nat_eq, slice_get, sym, ap, subst, ◌∙◌}
use Rattle.std.proofs.lemmas.Option.{same_Some}
use Rattle.indexmap.specs.IndexMap.{IndexMap, get, insert_entry, swap_remove_entry}
use Rattle.indexmap.proofs.CallerLemmas.{insert_entry-new}
use Rattle.frame_store.specs.declared.cursor.Cursor.{Cursor}
use Rattle.frame_store.specs.declared.domain_frames.DomainFrames.{DomainFrames}
use Rattle.number_table.specs.declared.entry_table.Place.{Place}
use Rattle.number_table.specs.NumberPlaces.{NumberPlaces}
use Rattle.frame_store.specs.DomainMoves.{top_number}
use Rattle.frame_store.specs.StoreContents.{AreForgotten, IsFound, IsStore, StandsAt}
use Rattle.number_table.specs.NumberPlaces as table
use Rattle.frame_store.specs.Cursors.{IsAimed, IsCursor, IsRightFor}
use Rattle.frame_store.proofs.CursorPoints.{is_right, right_moved}
use Rattle.frame_store.proofs.DomainIsEntered.{get_unchanged}
use Rattle.frame_store.proofs.DomainIsEntered as entered
use Rattle.frame_store.proofs.DomainCloses as closed

get_more : {X : Type 0} (xs : List X) (y : X) (i : ℕ) (x : X) → slice_get xs i ≡ Some x → slice_get (xs ++ y ∷ []) i ≡ Some x
get_more [] y i x e = absurd (cc)
get_more (z ∷ xs) y zero x e = e
get_more (z ∷ xs) y (suc i) x e = get_more xs y i x e

module _ {S : Type 0} (m n : IndexMap ℕ DomainFrames S) (t u : NumberPlaces) (owed : ℕ) (h : IsStore m t owed) (c : Cursor) (k : IsCursor m t c) where
  module _ (places : table.HasSamePlaces t u) where
    placed : (p : Place) → table.place_of u c.segment ≡ Some p → table.place_of t c.segment ≡ Some p
    placed p e = sym (places c.segment) ∙ e

    -- the domains stay
    pub same_domains : n.entries ≡ m.entries → IsCursor n u c
    same_domains same =
        right_moved m n t u c.segment c k placed (λ p x _ e. sym (get_unchanged m n same p.domain) ∙ e) c.domain
        (λ x i f e. ap (λ (es : List (ℕ × DomainFrames)). slice_get es c.domain) same ∙ e)

    -- a domain is entered, as the last of the map
    pub more_domains : (d : ℕ) (v : DomainFrames) → get nat_eq m d ≡ None → ((e : ℕ) → e ≢ d → get nat_eq n e ≡ get nat_eq m e)
        → n.entries ≡ insert_entry nat_eq m.entries d v → IsCursor n u c
    more_domains d v none others entries =
        right_moved m n t u c.segment c k placed
        (λ p x at e. sym (others p.domain (entered.other_domain m n t u owed h d none others places c.segment p (placed p at))) ∙ e) c.domain
        (λ x i f e.
        ap (λ (es : List (ℕ × DomainFrames)). slice_get es c.domain) (entries ∙ insert_entry-new nat_eq m d v none)
        ∙ get_more m.entries (d, v) c.domain (f.domain, x) e)

  -- a domain goes
  module _ (d : ℕ) (x : DomainFrames) (is : get nat_eq m d ≡ Some x) (updates : (q : ℕ) → get nat_eq n q ≡ cond (nat_eq d q) None (get nat_eq m q))
      (gone : get nat_eq n d ≡ None) (entries : n.entries ≡ swap_remove_entry (nat_eq d) m.entries)
      (forgotten : AreForgotten t u x.slots d x.slots.live) where
    kept : (p : Place) (y : DomainFrames) → table.place_of u c.segment ≡ Some p → get nat_eq n p.domain ≡ Some y → get nat_eq m p.domain ≡ Some y
    kept p y at e =
        let other = closed.other_domain m n t u owed d x h is updates gone entries forgotten c.segment p at in
        sym (closed.elsewhere m n t u owed d x h is updates gone entries forgotten p.domain other) ∙ e

    stood : (p : Place) → table.place_of u c.segment ≡ Some p → table.place_of t c.segment ≡ Some p
    stood p e = closed.before m n t u owed d x h is updates gone entries forgotten c.segment p e

    moved : (i : ℕ)
        → ((y : DomainFrames) (slot : ℕ) (f : IsFound n u c.segment y slot) → c.place.domain ≡ f.domain → slice_get n.entries i ≡ Some (f.domain, y))
        → IsRightFor n u c.segment (record c { domain = i })
    moved i there =
        right_moved m n t u c.segment c k stood kept i
        (λ y slot f _. there y slot f (ap (λ (p : Place). p.domain)
        (k.place y slot (record { domain = f.domain; at = stood _ f.at; is = kept _ y f.at f.is }))))

    -- the domain of the cursor's segment is looked up again
    pub fewer_domains : (i : ℕ) → StandsAt n c.place.domain i → IsRightFor n u c.segment (record c { domain = i })
    fewer_domains i stands =
        moved i
        (λ y slot f same.
        let same_frames = same_Some stands.domain y (sym stands.is ∙ ap (get nat_eq n) same ∙ f.is) in
        stands.entry ∙ ap (λ q. Some (q, stands.domain)) same ∙ ap (λ (z : DomainFrames). Some (f.domain, z)) same_frames)

    pub none_found : get nat_eq n c.place.domain ≡ None → IsCursor n u c
    none_found none =
        moved c.domain
        (λ y slot f same.
        let never : None ≡ Some y = sym none ∙ ap (get nat_eq n) same ∙ f.is in
        absurd (cc))

-- a cursor is moved to the top frame of a segment that is found
module _ {S : Type 0} (m : IndexMap ℕ DomainFrames S) (t : NumberPlaces) (s : ℕ) (c b : Cursor) (x : DomainFrames) (slot : ℕ) (f : IsFound m t s x slot)
    (at : c.place ≡ record { domain = f.domain; slot = slot }) (entry : slice_get m.entries c.domain ≡ Some (f.domain, x)) (aimed : IsAimed x c b) where
  pub aimed_right : IsRightFor m t s b
  aimed_right =
      is_right m t s b x slot f (aimed.place ∙ at) (ap (slice_get m.entries) aimed.domain ∙ entry)
      (λ _. aimed.frame ∙ ap (λ (p : Place). top_number x p.slot) at) (λ _. aimed.values)

  pub aimed_cursor : c.segment ≡ s → IsCursor m t b
  aimed_cursor here = let P : ℕ → Type 0 = λ r. IsRightFor m t r b in subst P (sym (aimed.segment ∙ here)) aimed_right
