-- Places in a pool of pages, of 64 words each: a store that has a pool gives each of its domains a run of pages there. What
-- a domain has pages for, frames or objects, is nothing to these words.
use Rattle.std.specs.Prelude.{◌≡◌, ℕ, ◌+◌, ◌<◌, ◌≤◌, ◌⊎◌, Option, Some, None}
use Rattle.jk_model.specs.declared.identifiers.DomainId.{DomainId}

pub record Pool : Type 0 where
  -- how many pages there are; none where the store has no pool
  pub pages : Option ℕ
  -- how many pages an admitted domain may use; none of a domain that isn't admitted
  pub quota : DomainId → Option ℕ
  -- the first page of an admitted domain, where the store has a pool
  pub first_page : DomainId → Option ℕ

-- a free run of pages: no admitted domain has one of them
abbrev pub IsFreeRun : Pool → ℕ → ℕ → Type 0
IsFreeRun pool first pages =
    (p : ℕ) → first ≤ p → p < first + pages → (d : DomainId) (q at : ℕ) → pool.quota d ≡ Some q → pool.first_page d ≡ Some at
    → at ≤ p → p < at + q → ⊥

-- in a pool of so many pages, so many are free from this one on
abbrev pub FitsFrom : Pool → ℕ → ℕ → ℕ → Type 0
FitsFrom pool limit pages first = (first + pages ≤ limit) × IsFreeRun pool first pages

-- Where a domain of so many pages is put: nowhere in a store without a pool, and else at the least place from which enough
-- pages are free.
abbrev pub IsPlaceFor : Pool → ℕ → Option ℕ → Type 0
IsPlaceFor pool pages place =
    ((pool.pages ≡ None) × (place ≡ None))
    ⊎ ((limit : ℕ) × (first : ℕ) × (pool.pages ≡ Some limit) × (place ≡ Some first) × FitsFrom pool limit pages first
    × ((lower : ℕ) → lower < first → FitsFrom pool limit pages lower → ⊥))

-- no run of pages is long enough
abbrev pub HasNoPlace : Pool → ℕ → Type 0
HasNoPlace pool pages = (limit : ℕ) × (pool.pages ≡ Some limit) × ((first : ℕ) → FitsFrom pool limit pages first → ⊥)

-- a domain of so many pages has its place in the pool, and none where there is no pool
abbrev pub IsPlaced : Pool → DomainId → ℕ → Type 0
IsPlaced pool d pages =
    ((pool.pages ≡ None) × (pool.first_page d ≡ None))
    ⊎ ((limit : ℕ) × (first : ℕ) × (pool.pages ≡ Some limit) × (pool.first_page d ≡ Some first) × (first + pages ≤ limit))
