use Rattle.std.proofs.Common.{◌≡◌, ℕ, ◌≤◌, [], sym, refl, arith}
use Rattle.semantics.specs.Times.{fraction}
use Rattle.semantics.specs.Limits.{LawfulPath}
use Rattle.semantics.specs.Scales.{model_scale, automaton_scale}
use Rattle.semantics.specs.LawfulModels.{LawfulModel, model_records}
use Rattle.semantics.specs.LawfulAutomata.{LawfulAutomata, automata_records}
use Rattle.semantics.specs.Print.{print}
use Rattle.semantics.specs.Relay.{relay, path}
use Rattle.semantics.proofs.Options.{true_not_false}
use Rattle.semantics.proofs.relay_is_lawful.Goals as goal

inward : LawfulPath 1 (path 0 1 1 1)
inward = record { sender_known = omega arith; hearer_known = omega arith; ends_differ = λ e. omega arith; sender_port_width = omega arith; hearer_port_width = omega arith }

outward : LawfulPath 1 (path 1 2 0 4)
outward = record { sender_known = omega arith; hearer_known = omega arith; ends_differ = λ e. omega arith; sender_port_width = omega arith; hearer_port_width = omega arith }

-- a number that computes
at_most : (a b n : ℕ) → a ≡ b → b ≤ n → a ≤ n
at_most a b n e l = omega arith

model : LawfulModel relay
model = record {
  some_station = omega arith;
  few_stations = omega arith;
  scale_fits = at_most (model_scale relay) 2 _ refl (omega arith);
  stations_fit = (
    record {
      opening_here = omega arith;
      few_phases = omega arith;
      scale_fits = at_most _ 2 _ refl (omega arith);
      phases_fit = (
        record {
          life_fits = tt;
          next_here = tt;
          few_words = omega arith;
          words_fit = tt;
          edges_fit = (
            record {
              goal_here = omega arith;
              port_width = omega arith;
              values_ordered = omega arith;
              value_width = omega arith;
              low_fits = record { numerator_fits = omega arith; proper = omega arith; denominator_fits = omega arith };
              high_fits = tt;
            },
            tt,
          );
          windows_hold = ((fraction 0 1, (omega arith, refl)), tt);
          edges_apart = λ p v t g. ((λ _. tt), tt);
        },
        (
          record {
            life_fits = record { numerator_fits = omega arith; proper = omega arith; denominator_fits = omega arith };
            next_here = omega arith;
            few_words = omega arith;
            words_fit = ((omega arith, omega arith), ((omega arith, omega arith), tt));
            edges_fit = tt;
            windows_hold = tt;
            edges_apart = λ p v t g. tt;
          },
          tt,
        ),
      );
    },
    tt,
  );
  paths_fit = (inward, (outward, tt));
  few_records = at_most (model_records relay) 8 _ refl (omega arith);
}

printed : LawfulAutomata (print relay)
printed = record {
  some_automaton = omega arith;
  few_automata = omega arith;
  scale_fits = at_most (automaton_scale (print relay)) 2 _ refl (omega arith);
  automata_fit = (
    record {
      some_scale = at_most 1 1 _ refl (omega arith);
      scale_fits = at_most _ 2 _ refl (omega arith);
      opening_here = omega arith;
      locations_fit = (
        record {
          phase_width = omega arith;
          sent_width = omega arith;
          bound_fits = tt;
          transitions_fit = (
            record {
              goal_here = omega arith;
              label_fits = (omega arith, (omega arith, omega arith));
              low_fits = omega arith;
              high_fits = tt;
              guard_holds = (fraction 0 1, (omega arith, (refl, refl)));
            },
            tt,
          );
          guards_apart = λ p v t g b. ((λ _. tt), tt);
          not_both = λ e. refl;
          moves_fit = (refl, tt);
          hearing_resets = ((λ _. refl), tt);
        },
        (
          record {
            phase_width = omega arith;
            sent_width = omega arith;
            bound_fits = at_most _ 3 _ refl (omega arith);
            transitions_fit = (
              record {
                goal_here = omega arith;
                label_fits = (omega arith, omega arith);
                low_fits = at_most _ 3 _ refl (omega arith);
                high_fits = tt;
                guard_holds = (fraction 3 1, (omega arith, (refl, refl)));
              },
              tt,
            );
            guards_apart = λ p v t g b. ((λ _. tt), tt);
            not_both = λ e. absurd (true_not_false (sym e));
            moves_fit = ([], (_, (refl, (tt, record { moves = refl; from_bound = refl; resets_right = refl }))));
            hearing_resets = ((λ e. absurd (true_not_false e)), tt);
          },
          (
            record {
              phase_width = omega arith;
              sent_width = omega arith;
              bound_fits = tt;
              transitions_fit = (
                record {
                  goal_here = omega arith;
                  label_fits = (omega arith, omega arith);
                  low_fits = omega arith;
                  high_fits = tt;
                  guard_holds = (fraction 0 1, (omega arith, (refl, refl)));
                },
                tt,
              );
              guards_apart = λ p v t g b. ((λ _. tt), tt);
              not_both = λ e. refl;
              moves_fit = (_, (refl, record { moves = refl; from_bound = refl; resets_right = refl }));
              hearing_resets = ((λ e. absurd (true_not_false e)), tt);
            },
            tt,
          ),
        ),
      );
    },
    tt,
  );
  paths_fit = (inward, (outward, tt));
  few_records = at_most (automata_records (print relay)) 9 _ refl (omega arith);
}

pub returns : goal.returns
returns c = record { model = model; printed = printed }
