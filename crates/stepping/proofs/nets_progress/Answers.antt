use Rattle.stepping.proofs.Progress.{machine_progress}
use Rattle.stepping.proofs.ModelSteps as model
use Rattle.stepping.proofs.AutomatonSteps as automaton
use Rattle.stepping.proofs.nets_progress.Goals as goal

pub returns : goal.returns
returns c = record { machines = machine_progress; models = model.progress; automata = automaton.progress }
