-- The extents that are out, as a vector with an entry for each page says.
use Rattle.std.specs.Prelude.{ℕ, ◌+◌, List, [], ◌∷◌, zero, suc}
use Rattle.jk_model.specs.declared.extents.Extent.{Extent}

-- The entry of a page is how many pages the extent that begins there has, and 0 where none begins. The
-- first entry is that of the page `k`. The extents are in ascending order.
abbrev pub extents_of : ℕ → List ℕ → List Extent
extents_of k [] = []
extents_of k (zero ∷ starts) = extents_of (k + 1) starts
extents_of k (suc n ∷ starts) = record { first = k; pages = suc n } ∷ extents_of (k + 1) starts
