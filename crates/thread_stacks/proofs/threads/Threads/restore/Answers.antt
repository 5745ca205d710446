-- Nothing was there, and what is put there are the threads told.
use Rattle.std.proofs.Common.{◌≡◌, ◌+◌, ◌∙◌, ◌++◌, List, [], ap, arith, length, map, refl, rules, subst, sym, vec_capacity}
use Rattle.jk_model_sharing.specs.Segments.{SharedThread}
use Rattle.thread_stacks.specs.declared.entries.ThreadEntry.{ThreadEntry}
use Rattle.thread_stacks.specs.declared.restoring.PlacedPart.{PlacedPart}
use Rattle.thread_stacks.specs.LiveStacks.{ArePut, entry_without}
use Rattle.thread_stacks.specs.StackAnswers.{segments_in}
use Rattle.thread_stacks.specs.StackParts.{thread_part}
use Rattle.thread_stacks.specs.Stacks.{ThreadList}
use Rattle.thread_stacks.proofs.EndingsListed.{none_listed}
use Rattle.thread_stacks.proofs.RestoredThreads.{as_many_segments, in_order_again, may_put, no_entries, no_slots, none_newest, slots_room, threads_room, threads_told}
use Rattle.thread_stacks.proofs.threads.Threads.restore.Goals as goal

pub put_all-requires-clause-may : goal.put_all-requires-clause-may
put_all-requires-clause-may c =
    let t = c.self.inside in
    let inv = c.self.invariant in
    let parts = c.args.parts.now in
    let ts = c.requires.parts.threads in
    let placed = c.in_ok-placed.placed.items in
    let N : ThreadList → Type 0 = λ x. x.threads ≡ [] in
    let none = subst N (sym c.self.view_is) c.requires.none in
    let no_entry : t.entries.items ≡ [] = no_entries t.slots.items t.entries.items t.live t.most _ inv.1.tops inv.2 none in
    let no_slot : t.slots.items ≡ [] =
    no_slots t.slots.items t.entries.items t.next_thread t.next_segment t.live_segments t.most_segments _ inv.0 inv.3 none in
    let entered : c.enter_all.new.entries.items ≡ map entry_without parts =
    c.enter_all.ensures.entered ∙ ap (λ (xs : List ThreadEntry). xs ++ map entry_without parts) (c.reserve.ensures.items ∙ no_entry) in
    let empty : c.reserve-2.new.self.items ≡ [] = c.reserve-2.ensures.items ∙ no_slot in
    rw (entered, empty, c.as_slice.ensures.value)
    (may_put ts parts c.requires.parts.told c.args.self.now.domains c.args.next_thread c.args.next_segment c.requires.parts.are_live placed
    c.in_ok-placed.ensures.same c.in_ok-placed.ensures.order t.newest.items (none_newest t.slots.items t.newest.items inv.4 no_slot)
    (ap (λ (x : ThreadList). x.domains) c.self.view_is))

pub invariant_of-self-2 : goal.invariant_of-self-2
invariant_of-self-2 c =
    let t = c.self.inside in
    let inv = c.self.invariant in
    let parts = c.args.parts.now in
    let ts = c.requires.parts.threads in
    let placed = c.in_ok-placed.placed.items in
    let N : ThreadList → Type 0 = λ x. x.threads ≡ [] in
    let none = subst N (sym c.self.view_is) c.requires.none in
    let no_entry : t.entries.items ≡ [] = no_entries t.slots.items t.entries.items t.live t.most _ inv.1.tops inv.2 none in
    let no_slot : t.slots.items ≡ [] =
    no_slots t.slots.items t.entries.items t.next_thread t.next_segment t.live_segments t.most_segments _ inv.0 inv.3 none in
    let entered : c.enter_all.new.entries.items ≡ map entry_without parts =
    c.enter_all.ensures.entered ∙ ap (λ (xs : List ThreadEntry). xs ++ map entry_without parts) (c.reserve.ensures.items ∙ no_entry) in
    let es = c.put_all.new.entries.items in
    let slots = c.put_all.new.slots.items in
    let newest = c.put_all.new.newest.items in
    let first : ArePut (map entry_without parts) es slots t.newest.items newest c.as_slice.result.now =
    subst (λ (xs : List ThreadEntry). ArePut xs es slots t.newest.items newest c.as_slice.result.now) entered c.put_all.ensures.put in
    let put : ArePut (map entry_without parts) es slots t.newest.items newest placed =
    subst (λ (ps : List PlacedPart). ArePut (map entry_without parts) es slots t.newest.items newest ps) c.as_slice.ensures.value first in
    let count : c.len-self-inside.result ≡ length placed = omega (arith, c.len-self-inside.ensures, c.in_ok-placed.placed.ok.0) in
    let long : length placed ≡ c.len.result = omega (arith, c.len.ensures, c.in_ok-placed.placed.ok.0) in (
      in_order_again ts parts c.requires.parts.told c.args.self.now.domains c.args.next_thread c.args.next_segment c.requires.parts.are_live placed
          c.in_ok-placed.ensures.same c.in_ok-placed.ensures.order es slots t.newest.items newest put,
      put.links,
      threads_room ts parts c.requires.parts.told c.args.self.now.domains c.args.next_thread c.args.next_segment c.requires.parts.are_live placed
          c.in_ok-placed.ensures.same c.in_ok-placed.ensures.order es slots t.newest.items newest put
          (t.most + length parts) (vec_capacity c.put_all.new.entries) (omega arith) (search rules),
      rw count
          (slots_room ts parts c.requires.parts.told c.args.self.now.domains c.args.next_thread c.args.next_segment c.requires.parts.are_live placed
          c.in_ok-placed.ensures.same c.in_ok-placed.ensures.order es slots t.newest.items newest put
          (t.most_segments + c.len.result) (vec_capacity c.put_all.new.slots) (omega (arith, long)) (search rules)),
      put.owned,
      none_listed _ _ _ _ _ (search rules),
    )

pub returns : goal.returns
returns c =
    let t = c.self.inside in
    let inv = c.self.invariant in
    let parts = c.args.parts.now in
    let ts = c.requires.parts.threads in
    let placed = c.in_ok-placed.placed.items in
    let N : ThreadList → Type 0 = λ x. x.threads ≡ [] in
    let none = subst N (sym c.self.view_is) c.requires.none in
    let no_entry : t.entries.items ≡ [] = no_entries t.slots.items t.entries.items t.live t.most _ inv.1.tops inv.2 none in
    let no_slot : t.slots.items ≡ [] =
    no_slots t.slots.items t.entries.items t.next_thread t.next_segment t.live_segments t.most_segments _ inv.0 inv.3 none in
    let entered : c.enter_all.new.entries.items ≡ map entry_without parts =
    c.enter_all.ensures.entered ∙ ap (λ (xs : List ThreadEntry). xs ++ map entry_without parts) (c.reserve.ensures.items ∙ no_entry) in
    let es = c.put_all.new.entries.items in
    let slots = c.put_all.new.slots.items in
    let newest = c.put_all.new.newest.items in
    let first : ArePut (map entry_without parts) es slots t.newest.items newest c.as_slice.result.now =
    subst (λ (xs : List ThreadEntry). ArePut xs es slots t.newest.items newest c.as_slice.result.now) entered c.put_all.ensures.put in
    let put : ArePut (map entry_without parts) es slots t.newest.items newest placed =
    subst (λ (ps : List PlacedPart). ArePut (map entry_without parts) es slots t.newest.items newest ps) c.as_slice.ensures.value first in
    let told = threads_told ts parts c.requires.parts.told c.args.self.now.domains c.args.next_thread c.args.next_segment c.requires.parts.are_live placed
    c.in_ok-placed.ensures.same c.in_ok-placed.ensures.order es slots t.newest.items newest put in
    record {
      threads = c.requires.parts.told ∙ ap (λ (us : List SharedThread). map thread_part us) (sym told);
      next_thread = refl;
      next_segment = refl;
      most = omega (arith, ap (λ (x : ThreadList). x.most) c.self.view_is);
      most_segments =
          omega (
            arith,
            ap (λ (x : ThreadList). x.most_segments) c.self.view_is,
            as_many_segments ts parts c.requires.parts.told c.args.self.now.domains c.args.next_thread c.args.next_segment c.requires.parts.are_live placed
                c.in_ok-placed.ensures.same c.in_ok-placed.ensures.order es slots t.newest.items newest put,
            ap (λ (us : List SharedThread). length (segments_in us)) told,
            c.len.ensures,
            c.in_ok-placed.placed.ok.0,
          );
      domains = put.domains ∙ ap (λ (x : ThreadList). x.domains) c.self.view_is;
    }
