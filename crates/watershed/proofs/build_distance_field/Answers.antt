-- The two ways out are the two cases of the outcome. A field that is not refused gives what the stages require; a refusal is given before anything is written.
use Rattle.watershed.proofs.Outcome.{refused_out, sound_reached, sound_raw, sound_blurred, raw-sized, done_out}
use Rattle.watershed.proofs.Meant.{refused_no_meaning, done_means}
use borrow.Author.Rules.{rules}
use Rattle.watershed.proofs.build_distance_field.Goals as goal

pub calculate_distance_field-requires : goal.calculate_distance_field-requires
calculate_distance_field-requires c = (search (rules, sound_reached), search (rules, sound_raw), search (rules, sound_blurred))

pub box_blur-requires : goal.box_blur-requires
box_blur-requires c = (search (rules, sound_reached), raw-sized _ _ _ _ _ _ _ c.calculate_distance_field.ensures.0, search rules)

pub returns-in_err-check : goal.returns-in_err-check
returns-in_err-check c = record {
  fact = search (rules, refused_out);
  meaning = search (rules, refused_no_meaning);
}

pub returns : goal.returns
returns c = record {
  fact = search (rules, done_out);
  meaning = search (rules, done_means, c.codes_are_bytes.ensures);
}
