use Rattle.model.proofs.Phases.{busy_told}
use Rattle.model.proofs.model.Model.busy.Goals as goal

pub returns : goal.returns
returns c =
    let self = c.args.self.now in
    busy_told self.book.now self.bytes self.accepted self.places self.placed c.args.station c.args.k c.requires.phase c.args.place c.args.sent _ c.requires.lasts
    c.next_move.ensures
