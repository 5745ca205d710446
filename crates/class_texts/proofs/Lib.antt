-- Lemmas on texts made entry by entry, and on what they say of a pool. `OneText` is for callers too.
mod TextsOfAPool
