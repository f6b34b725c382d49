use Rattle.std.proofs.Common.{refl}
use Rattle.worked_examples.proofs.examples_work_out.Goals as goal

pub returns : goal.returns
returns c = record {
  quarters_pass = refl;
  scale_12 = refl;
  ten_ticks = refl;
  quarters_print = refl;
  quarters_printed_pass = refl;
  listener_passes = refl;
  listener_counts = refl;
  listener_prints = refl;
  listener_guards = refl;
  listener_printed_passes = refl;
  word_first_passes = refl;
  word_first_counts = refl;
  word_first_prints = refl;
  word_first_guards = refl;
  word_first_printed_passes = refl;
  late_step_first = refl;
  late_word_first = refl;
  neighbours_pass = refl;
  touching_refused = refl;
  touching_turned_refused = refl;
  fine_passes = refl;
  scale_999000 = refl;
  too_fine = refl;
  relay_passes = refl;
  relay_events = refl;
  relay_answers = refl;
  relay_events_finer = refl;
  relay_printed_passes = refl;
  relay_printed_events = refl;
  relay_printed_events_finer = refl;
  relay_tells = refl;
  wait_too_long = refl;
  wait_between = refl;
  letters = refl;
  numbers = refl;
}
