use Rattle.std.proofs.Common.{refl}
use Rattle.semantics.proofs.examples_work.Goals as goal

pub returns : goal.returns
returns c = record {
  scale_12 = refl;
  ten_ticks = refl;
  scale_999000 = refl;
  fits = refl;
  fits_not = refl;
  step_first_counts = refl;
  word_first_counts = refl;
  endless_counts = refl;
  pair_scale = refl;
  pair_on_model = refl;
  pair_on_print = refl;
  pair_tells = refl;
  print_tells = refl;
  due_first = refl;
  word_comes = refl;
  opens_in_2 = refl;
  too_early = (refl, refl);
  from_low_end = (refl, refl);
  between_ticks = (refl, refl);
  at_end_step_first = (refl, refl);
  at_end_word_first = (refl, refl);
  hurry_on_model = refl;
  hurry_on_print = refl;
  no_parts = refl;
  no_room = refl;
  bad_path_second = refl;
  no_slots = refl;
  too_far = refl;
}
