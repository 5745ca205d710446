-- A domain is entered into a store.
use Rattle.std.proofs.Common.{◌≡◌, ◌≢◌, ℕ, ◌+◌, ◌-◌, ◌^◌, ◌<◌, ◌≤◌, cond, List, [], ◌∷◌, Option, Some, None, option_map, nat_eq, refl, sym, ap, arith, ◌∙◌, inl, inr, sum_by}
use Rattle.std.specs.Option.{option_map_or}
use Rattle.std.specs.Map.{values_of, lookup}
use Rattle.std.proofs.lemmas.Bool.Decides.{eqb_tells}
use Rattle.std.proofs.lemmas.List.Sums.{sum_by-cons}
use Rattle.jk_model.specs.declared.identifiers.DomainId.{DomainId}
use Rattle.indexmap.specs.IndexMap.{IndexMap, get, values, insert_entry}
use Rattle.frame_store.specs.declared.domain_frames.DomainFrames.{DomainFrames}
use Rattle.number_table.specs.declared.entry_table.Place.{Place}
use Rattle.number_table.specs.NumberPlaces.{NumberPlaces}
use Rattle.frame_store.specs.FrameContents.{Admits, IsSame}
use Rattle.frame_store.specs.SlotMoves.{number_of, place_in}
use Rattle.number_table.specs.NumberPlaces as table
use Rattle.frame_store.specs.DomainMoves.{IsFresh}
use Rattle.frame_store.specs.StoreContents.{content_of, stored, owed_by, IsStore, Enters, IsUnentered}
use Rattle.frame_store.specs.StoreIsContent.{stands}
use Rattle.frame_store.proofs.StoreChanges.{segment_in, read_some, lt_by}

zero_swap : (a : ℕ) → a + 0 ≡ 0 + a
zero_swap a = omega arith

add_three : (a b c d : ℕ) → b ≡ c + d → a + b ≡ a + c + d
add_three a b c d e = omega arith

add_fresh : (o c s w n : ℕ) (k : ℕ) → o ≡ s → w ≡ k → c ≡ k → n ≡ s + w → o + c ≡ n
add_fresh o c s w n k a b e f = omega arith

owed_fresh : (c l : ℕ) → l ≡ 0 → c - l ≡ c
owed_fresh c l e = omega arith

sum_insert : (f : DomainFrames → ℕ) (d : ℕ) (v : DomainFrames) (es : List (ℕ × DomainFrames)) → lookup (nat_eq d) es ≡ None
    → sum_by f (values_of (insert_entry nat_eq es d v)) ≡ sum_by f (values_of es) + f v
sum_insert f d v [] e = sum_by-cons f v [] ∙ zero_swap (f v)
sum_insert f d v (x ∷ es) e =
    elim (eqb_tells d x.0) [
      | inl y ↦
          let is : lookup (nat_eq d) (x ∷ es) ≡ Some x.1 = rw (y.0) refl in
          absurd (cc)
      | inr n ↦
          let later : lookup (nat_eq d) (x ∷ es) ≡ lookup (nat_eq d) es = rw (n.0) refl in
          let rest = sum_insert f d v es (sym later ∙ e) in
          let step : insert_entry nat_eq (x ∷ es) d v ≡ x ∷ insert_entry nat_eq es d v = rw (n.0) refl in
          ap (λ k. sum_by f (values_of k)) step
          ∙ sum_by-cons f x.1 (values_of (insert_entry nat_eq es d v))
          ∙ add_three (f x.1) (sum_by f (values_of (insert_entry nat_eq es d v))) (sum_by f (values_of es)) (f v) rest
          ∙ ap (λ k. k + f v) (sym (sum_by-cons f x.1 (values_of es)))
    ]

module _ {S : Type 0} (m n : IndexMap ℕ DomainFrames S) (t u : NumberPlaces) (owed : ℕ) (h : IsStore m t owed) where
  -- places in domains that are as before
  module _ (d : ℕ) (none : get nat_eq m d ≡ None) (others : (e : ℕ) → e ≢ d → get nat_eq n e ≡ get nat_eq m e) (places : table.HasSamePlaces t u) where
    pub other_domain : (r : ℕ) (q : Place) → table.place_of t r ≡ Some q → q.domain ≢ d
    other_domain r q e same =
        let x = stands m t owed h r q e in
        let f : get nat_eq m d ≡ Some x.0 = ap (get nat_eq m) (sym same) ∙ x.1.is in
        absurd (cc)

    before : (r : ℕ) (q : Place) → table.place_of u r ≡ Some q → table.place_of t r ≡ Some q
    before r q e = sym (places r) ∙ e

    read : (r : ℕ) (q : Place) → table.place_of t r ≡ Some q → (f : DomainFrames → ℕ)
        → option_map_or f (get nat_eq n q.domain) 0 ≡ option_map_or f (get nat_eq m q.domain) 0
    read r q e f = ap (λ o. option_map_or f o 0) (others q.domain (other_domain r q e))

    pub entered_store : (more : ℕ) → more ≡ sum_by owed_by (values n) → more ≤ u.room → more < 2 ^ 63 → IsStore n u more
    entered_store more owes enough few =
        record {
          in_domain =
              λ r q e. lt_by q.slot (option_map_or (λ (z : DomainFrames). z.chunks) (get nat_eq m q.domain) 0) q.slot
              (option_map_or (λ (z : DomainFrames). z.chunks) (get nat_eq n q.domain) 0)
              (h.in_domain r q (before r q e)) refl (read r q (before r q e) (λ (z : DomainFrames). z.chunks));
          is_live =
              λ r q e. lt_by _ _ _ _ (h.is_live r q (before r q e))
              (read r q (before r q e) (λ (z : DomainFrames). place_in z.slots q.slot))
              (read r q (before r q e) (λ (z : DomainFrames). z.slots.live));
          has_number = λ r q e. read r q (before r q e) (λ (z : DomainFrames). number_of z.slots q.slot) ∙ h.has_number r q (before r q e);
          owes = owes;
          enough = enough;
          few = few;
        }

    stored_same : (r : ℕ) (o : Option Place) → table.place_of t r ≡ o → stored n o ≡ stored m o
    stored_same r None e = refl
    stored_same r (Some q) e = ap (option_map (λ (z : DomainFrames). segment_in z q.domain q.slot)) (others q.domain (other_domain r q e))

    pub segments_same : (r : ℕ) → stored n (table.place_of u r) ≡ stored m (table.place_of t r)
    segments_same r = ap (stored n) (places r) ∙ stored_same r (table.place_of t r) refl

  pub admits : (d : DomainId) (x : DomainFrames) (chunks : ℕ) → get nat_eq m d.0 ≡ None → IsFresh x chunks → Enters m n t u d.0 x
      → Admits (content_of m t) (content_of n u) d chunks
  admits d x chunks none fresh enters =
      let ne : (e : DomainId) → e ≢ d → e.0 ≢ d.0 = λ e differs same. differs (ap (λ k. let z : DomainId = record { 0 = k } in z) same) in
      record {
        pages = refl;
        took_all = refl;
        quota = ap (option_map (λ (z : DomainFrames). z.chunks)) enters.is ∙ ap (λ k. Some k) fresh.quota;
        place = inl (refl, refl);
        unused = read_some (λ (z : DomainFrames). z.used) (get nat_eq n d.0) x enters.is ∙ fresh.unused;
        other_quotas = λ e differs. ap (option_map (λ (z : DomainFrames). z.chunks)) (enters.others e.0 (ne e differs));
        other_places = λ _ _. refl;
        other_uses = λ e differs. ap (λ o. option_map_or (λ (z : DomainFrames). z.used) o 0) (enters.others e.0 (ne e differs));
        segment = λ s. segments_same d.0 none enters.others enters.places s.0;
      }

pub others_by_updates : {S : Type 0} (m n : IndexMap ℕ DomainFrames S) (d : ℕ) (x : Option DomainFrames)
    → ((q : ℕ) → get nat_eq n q ≡ cond (nat_eq d q) x (get nat_eq m q)) → (e : ℕ) → e ≢ d → get nat_eq n e ≡ get nat_eq m e
others_by_updates m n d x h e ne =
    elim (eqb_tells d e) [
      | inl same ↦ absurd (ne (sym same.1))
      | inr f ↦ h e ∙ ap (λ b. cond b x (get nat_eq m e)) f.0
    ]

pub get_unchanged : {S : Type 0} (m n : IndexMap ℕ DomainFrames S) → n.entries ≡ m.entries → (e : ℕ) → get nat_eq n e ≡ get nat_eq m e
get_unchanged m n same e = ap (lookup (nat_eq e)) same

pub owes_unchanged : {S : Type 0} (m n : IndexMap ℕ DomainFrames S) (owed : ℕ) → n.entries ≡ m.entries → owed ≡ sum_by owed_by (values m)
    → owed ≡ sum_by owed_by (values n)
owes_unchanged m n owed same e = e ∙ ap (λ es. sum_by owed_by (values_of es)) (sym same)

pub le_part : (a b c : ℕ) → a + b ≤ c → a ≤ c
le_part a b c h = omega arith

-- nothing is entered
stored_all : {S : Type 0} (m n : IndexMap ℕ DomainFrames S) → ((e : ℕ) → get nat_eq n e ≡ get nat_eq m e) → (o : Option Place) → stored n o ≡ stored m o
stored_all m n same None = refl
stored_all m n same (Some q) = ap (option_map (λ (z : DomainFrames). segment_in z q.domain q.slot)) (same q.domain)

pub unentered : {S : Type 0} (m n : IndexMap ℕ DomainFrames S) (t u : NumberPlaces) → IsUnentered m n t u → IsSame (content_of m t) (content_of n u)
unentered m n t u h =
    record {
      domains = record {
        pages = refl;
        took_all = refl;
        quota = λ d. ap (option_map (λ (z : DomainFrames). z.chunks)) (h.same d.0);
        first_page = λ _. refl;
      };
      used = λ d. ap (λ o. option_map_or (λ (z : DomainFrames). z.used) o 0) (h.same d.0);
      segment = λ s. ap (stored n) (h.places s.0) ∙ stored_all m n h.same (table.place_of t s.0);
    }

none_by : (o : Option DomainFrames) → option_map (λ (z : DomainFrames). z.chunks) o ≡ None → o ≡ None
none_by None e = refl
none_by (Some x) e = absurd (cc)

pub not_admitted : {S : Type 0} (m : IndexMap ℕ DomainFrames S) (d : ℕ) → option_map (λ (z : DomainFrames). z.chunks) (get nat_eq m d) ≡ None
    → get nat_eq m d ≡ None
not_admitted m d e = none_by (get nat_eq m d) e

pub owes_entered : {S : Type 0} (m n : IndexMap ℕ DomainFrames S) (d : ℕ) (x : DomainFrames) (owed chunks : ℕ) → get nat_eq m d ≡ None
    → n.entries ≡ insert_entry nat_eq m.entries d x → x.slots.live ≡ 0 → owed ≡ sum_by owed_by (values m) → chunks ≡ x.chunks
    → owed + chunks ≡ sum_by owed_by (values n)
owes_entered m n d x owed chunks none entries live owes e =
    add_fresh owed chunks (sum_by owed_by (values m)) (owed_by x) (sum_by owed_by (values n)) x.chunks owes
    (owed_fresh x.chunks x.slots.live live) e (ap (λ es. sum_by owed_by (values_of es)) entries ∙ sum_insert owed_by d x m.entries none)
