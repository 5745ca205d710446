-- The table of places is the code's, and each test says of the code what it says of its instructions.
use Rattle.std.proofs.Common.{Bool, List, sym, subst}
use Rattle.class_rules.specs.Codes.{ArePlacesOf}
use Rattle.class_rules.proofs.CodeIsJudged.{instrs_within, places_of_code, read_judgment}
use Rattle.class_rules.proofs.codes.judge_instrs.Goals as goal

pub places_of-requires : goal.places_of-requires
places_of-requires c = instrs_within c.args.code.now c.args.instrs.now c.len.result c.requires.reading c.len.ensures

pub is_bad_code-requires : goal.is_bad_code-requires
is_bad_code-requires c = record {
  known = c.requires.known;
  places = places_of_code c.args.code.now c.args.instrs.now c.as_slice.result.now c.requires.reading
      (subst (λ (xs : List Bool). ArePlacesOf c.args.instrs.now xs) (sym c.as_slice.ensures.value) c.in_ok-places.ensures);
}

pub returns : goal.returns
returns c =
    read_judgment c.args.pool.now.entries.now c.args.arguments c.args.code.now c.args.instrs.now c.has_float.result c.has_class.result c.is_bad_code.result
    c.requires.reading c.has_float.ensures c.has_class.ensures c.is_bad_code.ensures
