-- Each entry that is looked at has the text or leads on to an older one.
use Rattle.std.proofs.Common.{◌<◌, length, refl, rules}
use Rattle.std.proofs.lemmas.Option.{slice_get_read}
use Rattle.shared_values.specs.Fingerprints.{fingerprint_of}
use Rattle.class_init.proofs.PlaceOfAText.{search_begins, search_ends, search_goes_on, next_within, before_is_older}
use Rattle.class_init.proofs.known_texts.place_from.Goals as goal

pub loop-next-init : goal.loop-next-init
loop-next-init c = search_begins c.args.entries.now c.args.units.now c.args.newest c.requires.newest

pub bounds-entries-place : goal.bounds-entries-place
bounds-entries-place c = next_within c.args.entries.now c.args.units.now c.loop-next.next c.in-Some.place c.loop-next.invariant c.in-Some.is

pub offset_bounds-entries-place : goal.offset_bounds-entries-place
offset_bounds-entries-place c =
    let es = c.args.entries.now in
    let low : c.in-Some.place < length es = next_within es c.args.units.now c.loop-next.next c.in-Some.place c.loop-next.invariant c.in-Some.is in
    search rules

pub returns-then-is : goal.returns-then-is
returns-then-is c =
    let es = c.args.entries.now in
    let low = next_within es c.args.units.now c.loop-next.next c.in-Some.place c.loop-next.invariant c.in-Some.is in
    record {
      entry = c.index-entries-place.result;
      there = slice_get_read es (length es) c.in-Some.place c.index-entries-place.result refl low c.index-entries-place.is;
      is = c.is.ensures.0 c.if-is.true;
    }

pub loop-next-smaller : goal.loop-next-smaller
loop-next-smaller c =
    let es = c.args.entries.now in
    let e = c.index-entries-place.result in
    let low = next_within es c.args.units.now c.loop-next.next c.in-Some.place c.loop-next.invariant c.in-Some.is in
    let there = slice_get_read es (length es) c.in-Some.place e refl low c.index-entries-place.is in
    rw c.in-Some.is (before_is_older es (fingerprint_of e.text) c.in-Some.place e.before (c.requires.each c.in-Some.place e there))

pub loop-next-preserved : goal.loop-next-preserved
loop-next-preserved c =
    let es = c.args.entries.now in
    let low = next_within es c.args.units.now c.loop-next.next c.in-Some.place c.loop-next.invariant c.in-Some.is in
    search_goes_on es c.args.units.now c.in-Some.place c.index-entries-place.result c.requires.each (rw c.in-Some.is at c.loop-next.invariant)
    (slice_get_read es (length es) c.in-Some.place c.index-entries-place.result refl low c.index-entries-place.is)
    (λ same. let yes = c.is.ensures.1 same in let no = c.if-is.false in cc)

pub returns : goal.returns
returns c = search_ends c.args.entries.now c.args.units.now (rw c.in_default.is at c.loop-next.invariant)
