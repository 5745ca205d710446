-- A domain is one when it is made, and when a segment without frames goes.
use Rattle.std.proofs.Common.{◌≡◌, ℕ, ◌+◌, ◌-◌, ◌*◌, ◌<◌, ◌≤◌, List, length, ap, arith, inl, inr, ◌∙◌}
use Rattle.std.proofs.lemmas.Bool.{cases_eq, cases_lt}
use Rattle.jk_model.specs.declared.values.Value.{Value}
use Rattle.number_table.specs.declared.chains.Chains.{Chains}
use Rattle.frame_store.specs.declared.slot_set.SlotSet.{SlotSet}
use Rattle.frame_store.specs.declared.frame_blocks.FrameRecord.{FrameRecord}
use Rattle.frame_store.specs.declared.domain_frames.DomainFrames.{DomainFrames}
use Rattle.number_table.specs.ChainMoves.{count, place, nodes, stacks}
use Rattle.frame_store.specs.SlotMoves.{size, place_in, GivesSlot}
use Rattle.frame_store.specs.FrameBlocks.{cost_in, cost_below, IsDomain}
use Rattle.frame_store.specs.DomainMoves.{depth_of}
use Rattle.number_table.proofs.PlacesApart.{place_lt}
use Rattle.number_table.proofs.SumsBelow.{sum_below-none}

pub fresh_domain : (chunks : ℕ) (slots : SlotSet) (frames parts : Chains) (records : List FrameRecord) (values : List Value)
    → 1 ≤ chunks → chunks ≤ 262144 → size slots ≡ chunks → slots.live ≡ 0
    → nodes frames ≡ chunks → stacks frames ≡ chunks + 1 → ((i : ℕ) → i < chunks → count frames i ≡ 0)
    → nodes parts ≡ chunks → stacks parts ≡ chunks + 1 → count parts chunks ≡ chunks → ((i : ℕ) → i < chunks → count parts i ≡ 0)
    → length records ≡ chunks → length values ≡ 20 * chunks → IsDomain chunks 0 slots frames parts records values
fresh_domain chunks slots frames parts records values least most slots_size none frames_nodes frames_stacks no_frames parts_nodes parts_stacks
    all_free no_parts records_size values_size =
    let no_cost =
    sum_below-none (cost_in frames records) chunks
    (λ i lt. ap (cost_below frames records i) (no_frames i lt)) in
    record {
      least = least;
      most = most;
      slots_are = slots_size;
      frames_are = frames_nodes;
      segments_are = frames_stacks;
      parts_are = parts_nodes;
      bodies_are = parts_stacks;
      records_are = records_size;
      values_are = values_size;
      framed = λ i n i_lt n_lt. absurd (omega (arith, no_frames i i_lt));
      bare =
          λ n n_lt. no_parts (place frames chunks n) (omega (arith, place_lt frames chunks n (omega (arith, frames_stacks)) n_lt));
      vacant = λ i lt _. no_frames i lt;
      spent = omega arith;
      uses = omega arith;
      within = omega arith;
    }

pub ended_domain : (d : DomainFrames) (slots : SlotSet) (i : ℕ) → GivesSlot d.slots slots i → depth_of d i ≡ 0
    → IsDomain d.chunks (d.used - 1) slots d.frames d.parts d.records.items d.values.items
ended_domain d slots i gives none =
    record {
      least = d.ok.least;
      most = d.ok.most;
      slots_are = gives.same_size ∙ d.ok.slots_are;
      frames_are = d.ok.frames_are;
      segments_are = d.ok.segments_are;
      parts_are = d.ok.parts_are;
      bodies_are = d.ok.bodies_are;
      records_are = d.ok.records_are;
      values_are = d.ok.values_are;
      framed = d.ok.framed;
      bare = d.ok.bare;
      vacant =
          λ j lt vacant. elim (cases_eq j i) [
            | inl e ↦ ap (depth_of d) e ∙ none
            | inr ne ↦
                elim (cases_lt (place_in d.slots j) d.slots.live) [
                  | inl live ↦
                      let in_slots : j < size d.slots = omega (arith, d.ok.slots_are) in
                      let is = (gives.others j in_slots ne).1 (in_slots, live) in
                      absurd (omega (arith, is.1))
                  | inr past ↦ d.ok.vacant j lt past
                ]
          ];
      spent = d.ok.spent;
      uses = omega (arith, d.ok.uses, gives.live);
      within = omega (arith, d.ok.within);
    }
