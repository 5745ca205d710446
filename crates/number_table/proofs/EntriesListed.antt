-- The list of a table's entries has for each key what the table finds.
use Rattle.std.proofs.Common.{◌≡◌, ◌≢◌, ℕ, zero, suc, ◌<◌, ◌≤◌, Option, Some, nat_eq, refl, sym, ap, arith, inl, inr, ◌∙◌}
use Rattle.std.specs.Map.{lookup}
use Rattle.std.proofs.lemmas.Bool.{cases_eq}
use Rattle.std.proofs.lemmas.Bool.Decides.{eqb_tells}
use Rattle.number_table.specs.declared.entry_table.EntryTable.{EntryTable}
use Rattle.number_table.specs.declared.entry_table.Place.{Place}
use Rattle.number_table.specs.ChainMoves.{nodes, stack_of}
use Rattle.number_table.specs.Entries.{entry_at}
use Rattle.number_table.specs.NumberPlaces as places
use Rattle.number_table.specs.NumberPlaces.{HasSamePlaces, IsEmpty, NumberPlaces}
use Rattle.number_table.specs.TableMoves.{Inserts, IsEmptyTable, IsSameTable, Removes, listed, listed_below, place_in, room}
use Rattle.number_table.proofs.TableIsMoved.{AreMoved, numbers_apart, all_moved}

module _ (t : EntryTable) where
  abbrev key_of : ℕ → ℕ
  key_of b = (entry_at t.entries.items b).number

  -- what is listed of a key by the first nodes
  abbrev seen : ℕ → ℕ → Option Place
  seen n s = lookup (nat_eq s) (listed_below t n)

  seen-free : (n s : ℕ) → stack_of t.chains n ≡ t.buckets → seen (suc n) s ≡ seen n s
  seen-free n s e =
      elim (eqb_tells (stack_of t.chains n) t.buckets) [
        | inl y ↦ rw (y.0) refl
        | inr m ↦ absurd (m.1 e)
      ]

  seen-here : (n s : ℕ) → stack_of t.chains n ≢ t.buckets → s ≡ key_of n → seen (suc n) s ≡ Some (entry_at t.entries.items n).place
  seen-here n s used e =
      elim (eqb_tells (stack_of t.chains n) t.buckets) [
        | inl y ↦ absurd (used y.1)
        | inr m ↦ elim (eqb_tells s (key_of n)) [ inl y ↦ rw (m.0, y.0) refl | inr d ↦ absurd (d.1 e) ]
      ]

  seen-there : (n s : ℕ) → stack_of t.chains n ≢ t.buckets → s ≢ key_of n → seen (suc n) s ≡ seen n s
  seen-there n s used ne =
      elim (eqb_tells (stack_of t.chains n) t.buckets) [
        | inl y ↦ absurd (used y.1)
        | inr m ↦ elim (eqb_tells s (key_of n)) [ inl y ↦ absurd (ne y.1) | inr d ↦ rw (m.0, d.0) refl ]
      ]

  free_listed : (n : ℕ) → stack_of t.chains n ≡ t.buckets → AreMoved t (seen n) n → AreMoved t (seen (suc n)) (suc n)
  free_listed n free before =
      record {
        each =
            λ c c_low c_lt c_ne. elim (cases_eq c n) [
              | inl e ↦ absurd (c_ne (ap (stack_of t.chains) e ∙ free))
              | inr d ↦ seen-free n (key_of c) free ∙ before.each c (omega arith) c_lt c_ne
            ];
        only = λ s lacks. seen-free n s free ∙ before.only s (λ c c_low. lacks c (omega arith));
      }

  used_listed : (n : ℕ) → n < nodes t.chains → stack_of t.chains n ≢ t.buckets → AreMoved t (seen n) n → AreMoved t (seen (suc n)) (suc n)
  used_listed n lt used before =
      record {
        each =
            λ c c_low c_lt c_ne. elim (cases_eq c n) [
              | inl e ↦
                  seen-here n (key_of c) used (ap key_of e)
                  ∙ ap (λ b. Some (entry_at t.entries.items b).place) (sym e)
              | inr d ↦
                  seen-there n (key_of c) used (λ e. d (numbers_apart t c n c_lt lt c_ne used e))
                  ∙ before.each c (omega arith) c_lt c_ne
            ];
        only =
            λ s lacks.
            seen-there n s used (λ e. lacks n (omega arith) lt used (sym e))
            ∙ before.only s (λ c c_low. lacks c (omega arith));
      }

  all_listed : (n : ℕ) → n ≤ nodes t.chains → AreMoved t (seen n) n
  all_listed zero le = record { each = λ b lt. absurd (omega arith); only = λ s _. refl }
  all_listed (suc n) le =
      let before = all_listed n (omega arith) in
      elim (cases_eq (stack_of t.chains n) t.buckets) [
        | inl free ↦ free_listed n free before
        | inr used ↦ used_listed n (omega arith) used before
      ]

  pub lookup-listed : (s : ℕ) → lookup (nat_eq s) (listed t) ≡ place_in t s
  lookup-listed s = all_moved t (seen (nodes t.chains)) (all_listed (nodes t.chains) (omega arith)) s

-- ---- What the calls of a table do, said of what it lists.

abbrev pub of_table : EntryTable → NumberPlaces
of_table t = record { entries = listed t; room = room t }

pub inserts_listed : (old new : EntryTable) (key : ℕ) (place : Place) → Inserts old new key place → places.Inserts (of_table old) (of_table new) key place
inserts_listed old new key place h = record {
  is_in = lookup-listed new key ∙ h.is_in;
  others = λ other ne. lookup-listed new other ∙ h.others other ne ∙ sym (lookup-listed old other);
  less_room = h.less_room;
}

pub removes_listed : (old new : EntryTable) (key : ℕ) → Removes old new key → places.Removes (of_table old) (of_table new) key
removes_listed old new key h = record {
  is_out = lookup-listed new key ∙ h.is_out;
  others = λ other ne. lookup-listed new other ∙ h.others other ne ∙ sym (lookup-listed old other);
  more_room = h.more_room;
}

pub same_listed : (old new : EntryTable) → IsSameTable old new → HasSamePlaces (of_table old) (of_table new)
same_listed old new h key = lookup-listed new key ∙ h key ∙ sym (lookup-listed old key)

pub empty_listed : (t : EntryTable) → IsEmptyTable t → IsEmpty (of_table t)
empty_listed t h key = lookup-listed t key ∙ h key
