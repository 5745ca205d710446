-- Of the positions that are left, the highest is looked at.
use Rattle.std.proofs.Common.{◌≡◌, ◌-◌, ◌<◌, ◌∙◌, ℕ, suc, zero, Some, List, arith, sym, ap, refl, inl, inr}
use Rattle.std.proofs.lemmas.List.{get_or_read}
use Rattle.std.proofs.lemmas.Bool.Decides.{eqb_tells}
use Rattle.number_table.specs.declared.chains.Node.{Node}
use Rattle.number_table.specs.declared.entry_table.Entry.{Entry}
use Rattle.number_table.specs.Chains.{place_of}
use Rattle.number_table.specs.Entries.{no_entry, entry_at, number_at, found_at}
use Rattle.number_table.proofs.entry_table.EntryTable.entry_of.Goals as goal

found_first : (nodes : List Node) (entries : List Entry) (h s n : ℕ) → 0 < n → number_at nodes entries h (n - 1) ≡ s
    → found_at nodes entries h s n ≡ Some (place_of nodes h (n - 1))
found_first nodes entries h s zero some e = absurd (omega arith)
found_first nodes entries h s (suc n) some e =
    let m : suc n - 1 ≡ n = omega arith in
    let e2 : number_at nodes entries h n ≡ s = sym (ap (number_at nodes entries h) m) ∙ e in
    elim (eqb_tells (number_at nodes entries h n) s) [
      | inl y ↦ rw (m, y.0) refl
      | inr d ↦ absurd (d.1 e2)
    ]

found_later : (nodes : List Node) (entries : List Entry) (h s n : ℕ) → 0 < n → (number_at nodes entries h (n - 1) ≡ s → ⊥)
    → found_at nodes entries h s (n - 1) ≡ found_at nodes entries h s n
found_later nodes entries h s zero some e = absurd (omega arith)
found_later nodes entries h s (suc n) some e =
    let m : suc n - 1 ≡ n = omega arith in
    elim (eqb_tells (number_at nodes entries h n) s) [
      | inl y ↦ absurd (e (ap (number_at nodes entries h) m ∙ y.1))
      | inr d ↦ rw (m, d.0) refl
    ]

pub returns-then-index-number : goal.returns-then-index-number
returns-then-index-number c =
    let t = c.args.self.now in
    let i = c.loop-left.invariant in
    let read = get_or_read t.entries.items _ _ (omega (arith, c.at-entry.ensures.within, t.ok.as_many)) c.index.ensures no_entry in
    let number : (entry_at t.entries.items c.at-entry.result).number ≡ c.args.number = sym (ap (λ (x : Entry). x.number) read) ∙ c.if-index-number.true in
    ap Some c.at-entry.ensures.at
    ∙ sym (found_first t.chains.nodes.items t.entries.items c.bucket-bucket.result c.args.number c.loop-left.left c.loop-left-test.true
    (ap (λ b. (entry_at t.entries.items b).number) (sym c.at-entry.ensures.at) ∙ number))
    ∙ i.1

pub loop-left-preserved : goal.loop-left-preserved
loop-left-preserved c =
    let t = c.args.self.now in
    let i = c.loop-left.invariant in
    let read = get_or_read t.entries.items _ _ (omega (arith, c.at-entry.ensures.within, t.ok.as_many)) c.index.ensures no_entry in (
      omega (arith, i.0),
      found_later t.chains.nodes.items t.entries.items c.bucket-bucket.result c.args.number c.loop-left.left c.loop-left-test.true
          (λ e. c.if-index-number.false (ap (λ (x : Entry). x.number) read ∙ ap (λ b. (entry_at t.entries.items b).number) c.at-entry.ensures.at ∙ e))
          ∙ i.1,
    )
