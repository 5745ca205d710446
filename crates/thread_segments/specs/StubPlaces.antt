-- Stubs in lists, and the places at which those of the classes stand.
use Rattle.std.specs.Prelude.{◌≡◌, ◌≢◌, ℕ, ◌==◌, Bool, List, [], ◌∷◌, ◌++◌, find, MatchOption, Option, Some, None, nat_eq, option_and_then, slice_get}
use Rattle.indexmap.specs.IndexMap.{IndexMap, get}
use Rattle.jk_model_classes.specs.declared.sharing.Stub.{Stub}
use Rattle.thread_segments.specs.declared.stub_index.StubPlace.{StubPlace}

-- The stubs, for how many more of them there is room in the index, and for how many more lists.
pub record StubList : Type 0 where
  pub stubs : List Stub
  pub room : ℕ
  pub list_room : ℕ

-- those of all lists
abbrev pub stubs_in : List (List Stub) → List Stub
stubs_in [] = []
stubs_in (stubs ∷ lists) = stubs ++ stubs_in lists

abbrev pub stub_at : List (List Stub) → StubPlace → Option Stub
stub_at lists p = option_and_then (λ (stubs : List Stub). slice_get stubs p.at) (slice_get lists p.list)

abbrev pub has_class : ℕ → Stub → Bool
has_class c e = e.class.0 == c

-- the place leads to the first of these stubs that is of the class; there is none exactly where there is no place
abbrev pub LeadsTo : List (List Stub) → List Stub → ℕ → Option StubPlace → Type 0
LeadsTo lists stubs c place =
    MatchOption place (find (has_class c) stubs ≡ None) (λ p. (s : Stub) × (stub_at lists p ≡ Some s) × (find (has_class c) stubs ≡ Some s))

module _ {S : Type 0} where
  -- each place leads to the first of these stubs
  abbrev pub ArePlacesOf : IndexMap ℕ StubPlace S → List (List Stub) → List Stub → Type 0
  ArePlacesOf places lists stubs = (c : ℕ) → LeadsTo lists stubs c (get nat_eq places c)

  -- The class has this place, unless it had one before; no other gets one.
  pub record IsEntered (old new : IndexMap ℕ StubPlace S) (class : ℕ) (place : StubPlace) : Type 0 where
    pub first : get nat_eq old class ≡ None → get nat_eq new class ≡ Some place
    pub later : (p : StubPlace) → get nat_eq old class ≡ Some p → get nat_eq new class ≡ Some p
    pub others : (c : ℕ) → c ≢ class → get nat_eq new c ≡ get nat_eq old c
