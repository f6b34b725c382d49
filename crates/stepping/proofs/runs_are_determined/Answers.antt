use Rattle.stepping.proofs.ModelSteps as model
use Rattle.stepping.proofs.AutomatonSteps as automaton
use Rattle.stepping.proofs.runs_are_determined.Goals as goal

pub returns : goal.returns
returns c = record { models = model.determined; automata = automaton.determined }
