use Rattle.std.proofs.Common.{refl}
use Rattle.semantics.proofs.relay_works.Goals as goal

pub returns : goal.returns
returns c = record {
  made = refl;
  by_calls = refl;
  on_the_model = refl;
  on_the_print = refl;
  finer_on_model = refl;
  finer_on_print = refl;
  too_long = refl;
  between = refl;
  unheard = refl;
  unheard_tells = refl;
  in_burst = refl;
  in_burst_print = refl;
  no_station = (refl, refl);
}
