-- A domain is made.
use Rattle.frame_store.proofs.DomainIsKept.{fresh_domain}
use Rattle.frame_store.proofs.domain_frames.DomainFrames.new.Goals as goal

pub invariant_of-result : goal.invariant_of-result
invariant_of-result c =
    let f = c.in_ok-frames.ensures in
    let p = c.in_ok-parts.ensures in
    record {
      ok =
          fresh_domain c.args.chunks c.in_ok-slots.slots c.in_ok-frames.frames c.in_ok-parts.parts c.in_ok-records.records.items c.in_ok-values.values.items
          c.requires.least c.requires.most c.in_ok-slots.ensures.size c.in_ok-slots.ensures.none f.nodes f.stacks f.others p.nodes p.stacks p.last p.others
          c.in_ok-records.ensures c.in_ok-values.ensures;
    }
