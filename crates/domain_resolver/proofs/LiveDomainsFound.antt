-- A name finds the live domain that has it, whichever domains are added or end.
use Rattle.std.proofs.Common.{◌≡◌, ℕ, ◌-◌, ◌<◌, ◌^◌, ◌⊎◌, inl, inr, Bool, true, false, true≢false, List, [], ◌∷◌, ◌++◌, length, refl, sym, ◌∙◌, ap, arith, Option, Some, None, slice_get, slice_set, length-append, if◌then◌else◌}
use Rattle.std.specs.Str.{bytes_eq}
use Rattle.std.proofs.lemmas.List.{length-set}
use Rattle.std.proofs.lemmas.Option.{same_Some, slice_get_within}
use Rattle.std.proofs.lemmas.Slice.Eq.{bytes_eq-Decides}
use Rattle.list_lemmas.proofs.ItemsByPlace.{slice_get-longer, slice_get-seam, old_or_last}
use Rattle.jk_model.specs.declared.identifiers.DomainId.{DomainId}
use Rattle.jk_model_classes.specs.Worlds.{DomainRecord, WorldRecord, IsLiveNamed}
use Rattle.domain_resolver.specs.LiveDomains.{LivesAt, IsIndexed, IsLiveLast, LosesName}
use Rattle.domain_resolver.proofs.PlacesInLists.{slice_get-set, other_place}

same_domain : (a b : DomainId) → a.0 ≡ b.0 → a ≡ b
same_domain a b e = let of : (m n : ℕ) → m ≡ n → (let x : DomainId = record { 0 = m } in x) ≡ record { 0 = n } = λ m n q. cc in of a.0 b.0 e

lives_at : (w : WorldRecord) (name : List ℕ) (d : DomainId) → IsLiveNamed w name d → LivesAt w.domains name d.0
lives_at w name d (r, at, live, named) = record { domain = r; there = at; lives = live; named = named }

is_live : (w : WorldRecord) (name : List ℕ) (d : DomainId) → LivesAt w.domains name d.0 → IsLiveNamed w name d
is_live w name d h = (h.domain, h.there, h.lives, h.named)

-- one live domain has a name
pub one_live : (found : List ℕ → Option ℕ) (w : WorldRecord) → IsIndexed found w.domains → (name : List ℕ) (a b : DomainId) → IsLiveNamed w name a
    → IsLiveNamed w name b → a ≡ b
one_live found w h name a b p q =
    let one = h.finds name a.0 (lives_at w name a p) in
    let other = h.finds name b.0 (lives_at w name b q) in
    same_domain a b (same_Some a.0 b.0 (sym one ∙ other))

-- a name that isn't found is that of no live domain
pub none_live : (found : List ℕ → Option ℕ) (w : WorldRecord) → IsIndexed found w.domains → (name : List ℕ) → found name ≡ None → (d : DomainId)
    → IsLiveNamed w name d → ⊥
none_live found w h name none d p = let some = h.finds name d.0 (lives_at w name d p) in cc

-- and one that is found, that of the domain there
pub found_live : (found : List ℕ → Option ℕ) (w : WorldRecord) → IsIndexed found w.domains → (name : List ℕ) (place : ℕ) → found name ≡ Some place
    → IsLiveNamed w name (record { 0 = place })
found_live found w h name place at = is_live w name (record { 0 = place }) (h.lives name place at)

-- a name of no live domain is that of no domain that lives at a place
pub free_places : (w : WorldRecord) (name : List ℕ) → ((d : DomainId) → IsLiveNamed w name d → ⊥) → (place : ℕ) → LivesAt w.domains name place → ⊥
free_places w name free place l = free (record { 0 = place }) (is_live w name (record { 0 = place }) l)

-- what finds the same names is as good
pub found_alike : (found found' : List ℕ → Option ℕ) (ds : List DomainRecord) → IsIndexed found ds → ((q : List ℕ) → found' q ≡ found q) → IsIndexed found' ds
found_alike found found' ds h same = record {
  numbered = h.numbered;
  few = h.few;
  lives = λ name place e. h.lives name place (sym (same name) ∙ e);
  finds = λ name place l. same name ∙ h.finds name place l;
}

-- ---- A domain is added.

lives_longer : (ds : List DomainRecord) (d : DomainRecord) (name : List ℕ) (place : ℕ) → LivesAt ds name place → LivesAt (ds ++ d ∷ []) name place
lives_longer ds d name place l = record { domain = l.domain; there = slice_get-longer ds (d ∷ []) place l.domain l.there; lives = l.lives; named = l.named }

pub found_added : (found found' : List ℕ → Option ℕ) (ds : List DomainRecord) (d : DomainRecord) → IsIndexed found ds → d.id.0 ≡ length ds
    → d.live ≡ true → length ds < 2 ^ 32 - 2 → ((place : ℕ) → LivesAt ds d.name place → ⊥)
    → ((q : List ℕ) → found' q ≡ (if bytes_eq d.name q then Some (length ds) else found q)) → IsIndexed found' (ds ++ d ∷ [])
found_added found found' ds d h number live few free puts = record {
  numbered = λ i e at. by_place i e (old_or_last ds d i e at);
  few = omega (arith, length-append ds (d ∷ []), few);
  lives = λ name place e. lives_by name place (bytes_eq d.name name) refl (sym (puts name) ∙ e);
  finds = λ name place l. finds_by name place l (bytes_eq d.name name) refl (old_or_last ds d place l.domain l.there);
}
  where
    by_place : (i : ℕ) (e : DomainRecord) → ((i < length ds) × (slice_get ds i ≡ Some e)) ⊎ ((i ≡ length ds) × (e ≡ d)) → e.id.0 ≡ i
    by_place i e (inl (low, there)) = h.numbered i e there
    by_place i e (inr (end, same)) = ap (λ (r : DomainRecord). r.id.0) same ∙ number ∙ sym end

    lives_by : (name : List ℕ) (place : ℕ) (b : Bool) → bytes_eq d.name name ≡ b → (if bytes_eq d.name name then Some (length ds) else found name) ≡ Some place
        → LivesAt (ds ++ d ∷ []) name place
    lives_by name place true t e =
        let here : Some (length ds) ≡ Some place = rw t at e in
        let there : slice_get (ds ++ d ∷ []) place ≡ Some d = rw (← same_Some (length ds) place here) (slice_get-seam ds d []) in
        record { domain = d; there = there; lives = live; named = (bytes_eq-Decides d.name name).0 t }
    lives_by name place false t e = lives_longer ds d name place (h.lives name place (rw t at e))

    finds_by : (name : List ℕ) (place : ℕ) (l : LivesAt (ds ++ d ∷ []) name place) (b : Bool) → bytes_eq d.name name ≡ b
        → ((place < length ds) × (slice_get ds place ≡ Some l.domain)) ⊎ ((place ≡ length ds) × (l.domain ≡ d)) → found' name ≡ Some place
    finds_by name place l false t (inl (low, there)) =
        puts name ∙ rw t (h.finds name place (record { domain = l.domain; there = there; lives = l.lives; named = l.named }))
    finds_by name place l true t (inl (low, there)) =
        let same : d.name ≡ name = (bytes_eq-Decides d.name name).0 t in
        absurd (free place (record { domain = l.domain; there = there; lives = l.lives; named = l.named ∙ sym same }))
    finds_by name place l true t (inr (end, same)) = puts name ∙ rw t (ap Some (sym end))
    finds_by name place l false t (inr (end, same)) =
        let yes = (bytes_eq-Decides d.name name).1 (ap (λ (r : DomainRecord). r.name) (sym same) ∙ l.named) in absurd (true≢false (sym yes ∙ t))

-- ---- The last domain is taken back.

pub last_is_live : (ds : List DomainRecord) (d : DomainRecord) → IsLiveLast (ds ++ d ∷ []) → d.live ≡ true
last_is_live ds d (e, at, live) =
    let end : length (ds ++ d ∷ []) - 1 ≡ length ds = omega (arith, length-append ds (d ∷ [])) in
    let same : e ≡ d = same_Some e d (sym at ∙ ap (slice_get (ds ++ d ∷ [])) end ∙ slice_get-seam ds d []) in
    ap (λ (r : DomainRecord). r.live) (sym same) ∙ live

pub found_taken_back : (found found' : List ℕ → Option ℕ) (ds : List DomainRecord) (d : DomainRecord) → IsIndexed found (ds ++ d ∷ []) → d.live ≡ true
    → ((q : List ℕ) → found' q ≡ (if bytes_eq d.name q then None else found q)) → IsIndexed found' ds
found_taken_back found found' ds d h live takes = record {
  numbered = λ i e at. h.numbered i e (slice_get-longer ds (d ∷ []) i e at);
  few = omega (arith, length-append ds (d ∷ []), h.few);
  lives = λ name place e. lives_by name place (bytes_eq d.name name) refl (sym (takes name) ∙ e);
  finds = λ name place l. takes name ∙ finds_by name place l (bytes_eq d.name name) refl;
}
  where
    lives_by : (name : List ℕ) (place : ℕ) (b : Bool) → bytes_eq d.name name ≡ b → (if bytes_eq d.name name then None else found name) ≡ Some place
        → LivesAt ds name place
    lives_by name place true t e = let none : None ≡ Some place = rw t at e in cc
    lives_by name place false t e =
        let l = h.lives name place (rw t at e) in
        by_place l (old_or_last ds d place l.domain l.there)
      where
        by_place : (l : LivesAt (ds ++ d ∷ []) name place)
            → ((place < length ds) × (slice_get ds place ≡ Some l.domain)) ⊎ ((place ≡ length ds) × (l.domain ≡ d)) → LivesAt ds name place
        by_place l (inl (low, there)) = record { domain = l.domain; there = there; lives = l.lives; named = l.named }
        by_place l (inr (end, same)) =
            let yes = (bytes_eq-Decides d.name name).1 (ap (λ (r : DomainRecord). r.name) (sym same) ∙ l.named) in
            absurd (true≢false (sym yes ∙ t))

    finds_by : (name : List ℕ) (place : ℕ) → LivesAt ds name place → (b : Bool) → bytes_eq d.name name ≡ b
        → (if bytes_eq d.name name then None else found name) ≡ Some place
    finds_by name place l false t = rw t (h.finds name place (lives_longer ds d name place l))
    finds_by name place l true t =
        let low : place < length ds = slice_get_within ds place l.domain l.there in
        let named : d.name ≡ name = (bytes_eq-Decides d.name name).0 t in
        let last = h.finds name (length ds) (record { domain = d; there = slice_get-seam ds d []; lives = live; named = named }) in
        let here = h.finds name place (lives_longer ds d name place l) in
        let same : place ≡ length ds = same_Some place (length ds) (sym here ∙ last) in
        absurd (omega (arith, low, same))

-- ---- A domain ends.

abbrev ended : DomainRecord → DomainRecord
ended r = record r { live = false }

pub found_ended : (found found' : List ℕ → Option ℕ) (ds : List DomainRecord) (place : ℕ) (r : DomainRecord) → IsIndexed found ds
    → slice_get ds place ≡ Some r → LosesName r found found' → IsIndexed found' (slice_set ds place (ended r))
found_ended found found' ds place r h at loses = record {
  numbered = λ i e there. numbered_by i e (slice_get-set ds place (ended r) i e there);
  few = omega (arith, length-set ds place (ended r), h.few);
  lives = λ name i e. lives_by name i r.live refl (bytes_eq r.name name) refl (sym (loses name) ∙ e);
  finds = λ name i l. finds_by name i l (slice_get-set ds place (ended r) i l.domain l.there);
}
  where
    numbered_by : (i : ℕ) (e : DomainRecord) → ((i ≡ place) × (e ≡ ended r)) ⊎ ((i ≡ place → ⊥) × (slice_get ds i ≡ Some e)) → e.id.0 ≡ i
    numbered_by i e (inl (here, same)) = ap (λ (d : DomainRecord). d.id.0) same ∙ h.numbered place r at ∙ sym here
    numbered_by i e (inr (other, there)) = h.numbered i e there

    -- where another domain is found, it still stands there
    still : (name : List ℕ) (i : ℕ) → found name ≡ Some i → ((i ≡ place) → ⊥) → LivesAt (slice_set ds place (ended r)) name i
    still name i e other =
        let l = h.lives name i e in
        record { domain = l.domain; there = other_place ds place (ended r) i other ∙ l.there; lives = l.lives; named = l.named }

    lives_by : (name : List ℕ) (i : ℕ) (live : Bool) → r.live ≡ live → (b : Bool) → bytes_eq r.name name ≡ b
        → (if r.live then (if bytes_eq r.name name then None else found name) else found name) ≡ Some i → LivesAt (slice_set ds place (ended r)) name i
    lives_by name i false live b t e =
        let at' : found name ≡ Some i = rw live at e in
        let l = h.lives name i at' in
        still name i at' (λ here. let same : l.domain ≡ r = same_Some l.domain r (sym l.there ∙ ap (slice_get ds) here ∙ at) in
        true≢false (sym l.lives ∙ ap (λ (d : DomainRecord). d.live) same ∙ live))
    lives_by name i true live true t e = let none : None ≡ Some i = rw (live, t) at e in cc
    lives_by name i true live false t e =
        let at' : found name ≡ Some i = rw (live, t) at e in
        let l = h.lives name i at' in
        still name i at' (λ here. let same : l.domain ≡ r = same_Some l.domain r (sym l.there ∙ ap (slice_get ds) here ∙ at) in
        let named = ap (λ (d : DomainRecord). d.name) (sym same) ∙ l.named in
        true≢false (sym ((bytes_eq-Decides r.name name).1 named) ∙ t))

    finds_by : (name : List ℕ) (i : ℕ) (l : LivesAt (slice_set ds place (ended r)) name i)
        → ((i ≡ place) × (l.domain ≡ ended r)) ⊎ ((i ≡ place → ⊥) × (slice_get ds i ≡ Some l.domain)) → found' name ≡ Some i
    finds_by name i l (inl (here, same)) = absurd (true≢false (sym l.lives ∙ ap (λ (d : DomainRecord). d.live) same))
    finds_by name i l (inr (other, there)) = loses name ∙ by_flags r.live refl (bytes_eq r.name name) refl
      where
        old : found name ≡ Some i
        old = h.finds name i (record { domain = l.domain; there = there; lives = l.lives; named = l.named })

        by_flags : (live : Bool) → r.live ≡ live → (b : Bool) → bytes_eq r.name name ≡ b
            → (if r.live then (if bytes_eq r.name name then None else found name) else found name) ≡ Some i
        by_flags false live b t = rw live old
        by_flags true live false t = rw (live, t) old
        by_flags true live true t =
            let mine = h.finds name place (record { domain = r; there = at; lives = live; named = (bytes_eq-Decides r.name name).0 t }) in
            absurd (other (same_Some i place (sym old ∙ mine)))
